-- The bytes that a call writes, and how many of its writes fail.
use Rattle.std.specs.{Prelude.{◌≡◌, ℕ, ◌<◌, Bool, List, ◌++◌, length, Option}, Io.KnownBytes.{Appends}}
use Rattle.mdns_capture.specs.declared.stream.Sink.{Ghosts}

-- A writer before a call and after it: the bytes that it was given and how many of its writes failed, each where that
-- is known, and whether it was steady before the call.
pub record Writing : Type 0 where
  pub old : Option (List ℕ)
  pub new : Option (List ℕ)
  pub failures : Option ℕ
  pub new_failures : Option ℕ
  pub steady : Bool

-- a sink before a call and after it
abbrev pub writing : {W : Type 0} → Ghosts W → W → W → Writing
writing sink old new = record {
  old = sink.written old;
  new = sink.written new;
  failures = sink.failures old;
  new_failures = sink.failures new;
  steady = sink.steady old;
}

-- a prefix of the text was written, and not the whole
abbrev pub AppendsPrefix : Option (List ℕ) → Option (List ℕ) → List ℕ → Type 0
AppendsPrefix old new text =
    (prefix : List ℕ) × ((rest : List ℕ) × (text ≡ prefix ++ rest) × Appends old new prefix × (0 < length rest))
