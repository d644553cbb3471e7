-- How the calls of a stream's reads or writes leave it.
use Rattle.std.specs.{Prelude.{◌≡◌, ℕ, Bool, IsTrue, Option}, Bool.{OnTrue, OnFalse}}
use Rattle.mdns_capture.specs.Stream.{OneMoreFailed}
use Rattle.mdns_capture.specs.declared.stream.Sink as sink
use Rattle.mdns_capture.specs.declared.stream.Source as source

-- A steady stream stays steady and no call on it fails. Where `done`, no call failed, and otherwise exactly one did.
pub record Behaves (steady new_steady : Bool) (failures new_failures : Option ℕ) (done : Bool) : Type 0 where
  pub stays : IsTrue steady → IsTrue new_steady
  pub answers : IsTrue steady → IsTrue done
  pub unfailed : OnTrue done (new_failures ≡ failures)
  pub failed : OnFalse done (OneMoreFailed failures new_failures)

-- a reader before reads and after them
abbrev pub ReadsWell : {R : Type 0} → source.Ghosts R → R → R → Bool → Type 0
ReadsWell reader old new done =
    Behaves (reader.steady old) (reader.steady new) (reader.failures old) (reader.failures new) done

-- a writer before writes and after them
abbrev pub WritesWell : {W : Type 0} → sink.Ghosts W → W → W → Bool → Type 0
WritesWell writer old new done =
    Behaves (writer.steady old) (writer.steady new) (writer.failures old) (writer.failures new) done
