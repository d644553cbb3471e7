-- Instances in readable columns: their lines by the pieces that are written of them.
use Rattle.std.proofs.Common.{◌≡◌, refl, ap, ℕ, ◌==◌, false, true, if◌then◌else◌}
use Rattle.std.proofs.Common.{List, [], ◌∷◌, ◌++◌, length, map, max, arith, codes}
use Rattle.std.proofs.lemmas.{List.{append-nil, append_assoc, length-map}, List.Folds.{flat_map-map}, Simd.{map-map}, Grind.{flat_map-append}}
use Rattle.std.specs.List.{flat_map}
use Rattle.mdns_join.specs.declared.latest.Latest.{Latest}
use Rattle.mdns_browse.specs.declared.{instance.Server.{Server}, instance_sheet.InstanceSheet.{InstanceSheet}}
use Rattle.mdns_browse.specs.ColumnPieces.{Adds, Writes, piece_columns, row_after}
use Rattle.mdns_browse.specs.Columns.{heading, instance_rows, instances_pretty, line_of_some, time_left_text, other_row, others_pretty}
use Rattle.mdns_browse.specs.{Columns.{rows_by_type, server_line, spaces, type_begin, widest, words_line}, Services.{GivenRow, InstanceRow}}
use Rattle.mdns_browse.specs.{Sheet.{server_pieces, servers_pieces, instance_pieces}, RecordShown.{spaced_wide}}
use Rattle.mdns_browse.specs.laws.ColumnPieces.{adds-both}
use Rattle.mdns_browse.proofs.{LineLemmas.{flat_map-pieces}, InstanceLemmas.{given_in}}

-- ---- lines by pieces

pub line-some : (width : ℕ) (words : List (List ℕ)) → (length (spaced_wide words) == 0) ≡ false
    → line_of_some width words ≡ words_line width words
line-some width [] some = let both : true ≡ false = some in cc
line-some width (word ∷ words) some = refl

pub text_line_some : (width : ℕ) (old words new : List ℕ) (ws : List (List ℕ)) → words ≡ spaced_wide ws → (length words == 0) ≡ false
    → new ≡ old ++ (spaces width ++ codes "    " ++ words ++ 10 ∷ []) → new ≡ old ++ (line_of_some width ws ++ [])
unfolding words_line
text_line_some width old words new ws is some written = grind (arith, line-some, append-nil)

module _ (width now : ℕ) where
  server_text : (server : Server) → flat_map (piece_columns width now) (server_pieces server) ≡ server_line width server
  unfolding words_line
  server_text server = grind (arith, flat_map-append, flat_map-map, append_assoc, flat_map-pieces)

  -- the line of an instance that has no servers
  abbrev unresolved : List Server → List ℕ
  unresolved servers = if length servers == 0 then words_line width (codes "unresolved" ∷ []) else []

  servers_text : (servers : List Server) → flat_map (piece_columns width now) (servers_pieces servers)
      ≡ flat_map (server_line width) servers ++ unresolved servers
  servers_text servers = grind (arith, flat_map-append, flat_map-pieces, server_text, append-nil)

  row_text : (row : InstanceRow) → flat_map (piece_columns width now) (instance_pieces row) ≡ instance_rows width now row
  unfolding instance_rows
  row_text row = grind (arith, flat_map-append, servers_text, append-nil, flat_map-map)

-- the lines of an instance, below the line of its type
pub row_added : {old mid new : InstanceSheet} (before : List ℕ) (row : InstanceRow)
    → Adds old (λ width now. type_begin before row.given.last.resource.owner) mid → Writes mid (instance_pieces row) new
    → Adds old (row_after before row) new
row_added before row =
    adds-both (λ width now. type_begin before row.given.last.resource.owner) (λ width now. flat_map (piece_columns width now) (instance_pieces row))
    (row_after before row) (λ width now. ap (λ text. type_begin before row.given.last.resource.owner ++ text) (row_text width now row))

-- how much longer the record lives that gives an instance
abbrev pub given_left : ℕ → GivenRow → List ℕ
given_left now given = time_left_text now (given.last, given.end)

-- the columns by what was found: the number of records, and the width of the first column
pub columns_by_parts : (now width count : ℕ) (given : List GivenRow) (rows : List InstanceRow)
    (others : List (Latest × ℕ)) (old a b new : List ℕ) → given ≡ given_in rows → old ≡ [] → count ≡ length given
    → width ≡ max (widest (map (given_left now) given)) (widest (map (time_left_text now) others))
    → a ≡ old ++ heading count (codes "instance") (codes "instances") now
    → b ≡ a ++ rows_by_type width now [] rows → new ≡ b ++ others_pretty width now others
    → new ≡ instances_pretty now rows others
columns_by_parts now width count given rows others old a b new shown none counts wide head written after =
    grind (arith, length-map, map-map)

-- columns with other names
pub others-some : {R : Type 0} (f : R → Latest × ℕ) (rows : List R) (width now : ℕ) (old a new : List ℕ) → (length rows == 0) ≡ false
    → a ≡ old ++ codes "\nnames that aren't one label and the type\n" → new ≡ a ++ flat_map (other_row width now) (map f rows)
    → new ≡ old ++ others_pretty width now (map f rows)
others-some f [] width now old a new some line written = let both : true ≡ false = some in cc
others-some f (row ∷ rows) width now old a new some line written = grind (arith, append_assoc)
