-- The pieces of instances in readable columns.
use Rattle.std.specs.Prelude.{◌≡◌, ℕ, if◌then◌else◌, List, [], ◌∷◌, ◌++◌, codes, string_bytes}
use Rattle.std.specs.List.{flat_map}
use Rattle.mdns_message.specs.declared.body.RecordData.TheVariants as body
use Rattle.mdns_browse.specs.declared.instance_sheet.InstanceSheet.{InstanceSheet}
use Rattle.mdns_browse.specs.{Columns.{instance_row, instance_rows, spaces, text_row, type_begin, words_line}, Services.{InstanceRow}}
use Rattle.mdns_browse.specs.RecordShown.{shown_words, spaced_wide}
use Rattle.mdns_browse.specs.Sheet.{Piece, instance_begin, server_begin, server_address, server_end, servers_end, instance_text, instance_end}

-- the text of a piece
abbrev pub piece_columns : ℕ → ℕ → Piece → List ℕ
piece_columns width now (instance_begin given name) = instance_row width now given name
piece_columns width now (server_begin priority weight port target) =
    spaces width ++ codes "    " ++ spaced_wide (shown_words (body.Srv priority weight port target))
piece_columns width now (server_address address) = spaced_wide (shown_words address)
piece_columns width now server_end = 10 ∷ []
piece_columns width now (servers_end none) = if none then words_line width (codes "unresolved" ∷ []) else []
piece_columns width now (instance_text text) = text_row width text
piece_columns width now instance_end = []

-- the sheet has a text more, which depends on the width of the first column and the moment
pub record Adds (old : InstanceSheet) (text : ℕ → ℕ → List ℕ) (new : InstanceSheet) : Type 0 where
  pub width : new.width ≡ old.width
  pub now : new.now ≡ old.now
  pub written : string_bytes new.text ≡ string_bytes old.text ++ text old.width old.now.nanos

-- the sheet has the text of some pieces more
abbrev pub Writes : InstanceSheet → List Piece → InstanceSheet → Type 0
Writes old pieces new = Adds old (λ width now. flat_map (piece_columns width now) pieces) new

-- the lines of an instance, after another one of that type or none
abbrev pub row_after : List ℕ → InstanceRow → ℕ → ℕ → List ℕ
row_after before row width now = type_begin before row.given.last.resource.owner ++ instance_rows width now row
