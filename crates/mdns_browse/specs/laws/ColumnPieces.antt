-- Columns obey the laws of sheets.
use Rattle.std.specs.{Prelude.{◌≡◌, ℕ, List, ◌++◌, string_bytes}, List.{flat_map}}
use Rattle.std.proofs.{Common.{sym, ap, ◌∙◌, append_assoc, append-nil, refl}, lemmas.Grind.{flat_map-append}}
use Rattle.mdns_browse.specs.declared.instance_sheet.InstanceSheet.{InstanceSheet}
use Rattle.mdns_browse.specs.{ColumnPieces.{Adds, Writes, piece_columns}, Sheet.{TakeLaws}}

-- two texts one after the other, which are a third
pub adds-both : {s t u : InstanceSheet} (a b both : ℕ → ℕ → List ℕ) → ((width now : ℕ) → a width now ++ b width now ≡ both width now)
    → Adds s a t → Adds t b u → Adds s both u
adds-both {s} {t} a b both is one two = record {
  width = two.width ∙ one.width;
  now = two.now ∙ one.now;
  written =
      two.written ∙ ap (λ text. text ++ b t.width t.now.nanos) one.written
      ∙ append_assoc (string_bytes s.text) (a s.width s.now.nanos) (b t.width t.now.nanos)
      ∙ ap (λ width. string_bytes s.text ++ (a s.width s.now.nanos ++ b width t.now.nanos)) one.width
      ∙ ap (λ now. string_bytes s.text ++ (a s.width s.now.nanos ++ b s.width now.nanos)) one.now
      ∙ ap (λ text. string_bytes s.text ++ text) (is s.width s.now.nanos);
}

pub columns-laws : TakeLaws Writes
columns-laws = record {
  nothing = λ s. record { width = refl; now = refl; written = sym (append-nil (string_bytes s.text)) };
  more = λ s t u a b one two.
      adds-both (λ width now. flat_map (piece_columns width now) a) (λ width now. flat_map (piece_columns width now) b)
      (λ width now. flat_map (piece_columns width now) (a ++ b)) (λ width now. sym (flat_map-append (piece_columns width now) a b)) one two;
}
