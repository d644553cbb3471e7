-- Of each file that is kept there are a name and a reader.
use Rattle.std.proofs.Common.{◌≡◌, ℕ, Bool, true, false, List, [], ◌∷◌, Option, arith, ap, length, length-append}
use Rattle.std.proofs.{Common.{map, string_bytes, subst, sym}, lemmas.List.{length-map}}
use Rattle.mdns_capture.specs.declared.stream.Source.{Ghosts as SourceGhosts}
use Rattle.mdns_trace.specs.{declared.usable.Usable.{Usable}, EachFile.{WritesEach, more, none}, Usable.{SeparatesFile}}

module _ {R : Type 0} (source : SourceGhosts R) (program : List ℕ) where
  abbrev pub IsPaired : Usable R → Type 0
  IsPaired usable = length usable.names.items ≡ length usable.readers.items

  step : (name : List ℕ) (reader : Option R) (old new : Usable R) (kept : Bool) → SeparatesFile source program name reader old new kept
      → IsPaired old → IsPaired new
  step name reader old new true keeps is =
      omega (
        arith,
        is,
        ap (λ (l : List (List ℕ)). length l) keeps.keeps.names,
        length-map new.names.items string_bytes,
        length-map old.names.items string_bytes,
        length-append (map string_bytes old.names.items) (name ∷ []),
        ap (λ (l : List _). length l) keeps.keeps.readers,
        length-append old.readers.items (keeps.begun ∷ []),
      )
  step name reader old new false leaves is = rw (leaves.names, leaves.readers) is

  pub paired : (old new : Usable R) (names : List (List ℕ)) (readers : List (Option R)) (kept : List Bool)
      → WritesEach (SeparatesFile source program) old names readers new kept → IsPaired old → IsPaired new
  paired old new names readers kept (none no_names no_readers same no_kept) is = subst IsPaired (sym same) is
  paired old new names readers kept
      (more first name readers_first reader middle kept_first one before separates of_names of_readers of_kept) is =
      step name reader middle new one separates (paired old middle first readers_first kept_first before is)
