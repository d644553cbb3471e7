-- Strings obey the laws of sheets and of sinks of words.
use Rattle.std.specs.{Prelude.{ℕ, List, ◌++◌, string_bytes}, List.{flat_map}}
use Rattle.std.proofs.{Common.{sym, ap, ◌∙◌, append_assoc, append-nil}, lemmas.Grind.{flat_map-append}}
use Rattle.mdns_browse.specs.Sheet.{TakeLaws, writes}

pub writes-laws : {A P : Type 0} (text_of : P → List ℕ) → TakeLaws (writes {A = A} text_of)
writes-laws text_of = record {
  nothing = λ s. sym (append-nil (string_bytes s));
  more = λ s t u a b first second.
      second ∙ ap (λ text. text ++ flat_map text_of b) first ∙ append_assoc (string_bytes s) (flat_map text_of a) (flat_map text_of b)
      ∙ ap (λ text. string_bytes s ++ text) (sym (flat_map-append text_of a b));
}
