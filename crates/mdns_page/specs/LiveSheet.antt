-- The pieces of instances as rows of a page.
use Rattle.std.specs.Prelude.{◌≡◌, ℕ, if◌then◌else◌, Bool, true, false, List, [], ◌∷◌, ◌++◌, codes, string_bytes}
use Rattle.mdns_message.specs.Resource.{Body}
use Rattle.people_text.specs.Shown.{name_shown}
use Rattle.mdns_browse.specs.{RecordShown.{shown_instance}, Sheet.{Piece, instance_begin, server_begin}}
use Rattle.mdns_browse.specs.Sheet.{server_address, server_end, servers_end, instance_text, instance_end}
use Rattle.mdns_page.specs.{declared.axis.Axis.{Axis}, declared.live_sheet.LiveSheet.{LiveSheet}, Html.{isolated}}
use Rattle.mdns_page.specs.LiveSection.{address_html, given_words, server_line, text_html}

-- an address, after a space unless it is the first of its server
abbrev pub address_after : (first : Bool) → Body → List ℕ
address_after first address = (if first then [] else 32 ∷ []) ++ address_html address

-- words, one a line; after others unless the first of them is the first of all
abbrev pub lines : (first : Bool) → List (List ℕ) → List ℕ
lines first [] = []
lines first (word ∷ words) = (if first then [] else 10 ∷ []) ++ word ++ lines false words

-- the text of a piece; `first` tells whether an address is the first of its server
abbrev pub piece_html : (List ℕ → List ℕ) → Axis → Bool → Piece → List ℕ
piece_html say axis first (instance_begin given name) =
    codes "<li><div>" ++ (say (shown_instance name) ++ given_words axis given) ++ codes "</div>" ++ codes "<div>"
piece_html say axis first (server_begin priority weight port target) = server_line say priority weight port target
piece_html say axis first (server_address address) = address_after first address
piece_html say axis first server_end = []
piece_html say axis first (servers_end none) =
    (if none then codes "<p>unresolved</p>" else []) ++ codes "</div>" ++ codes "<div>"
piece_html say axis first (instance_text text) = text_html say text
piece_html say axis first instance_end = codes "</div></li>\n"

-- whether an address that follows is the first of its server
abbrev pub piece_next : Bool → Piece → Bool
piece_next first (server_begin priority weight port target) = true
piece_next first (server_address address) = false
piece_next first _ = first

-- the same of pieces one after another
abbrev pub pieces_html : (List ℕ → List ℕ) → Axis → Bool → List Piece → List ℕ
pieces_html say axis first [] = []
pieces_html say axis first (piece ∷ pieces) = piece_html say axis first piece ++ pieces_html say axis (piece_next first piece) pieces

abbrev pub pieces_next : Bool → List Piece → Bool
pieces_next first [] = first
pieces_next first (piece ∷ pieces) = pieces_next (piece_next first piece) pieces

-- the sheet has the text of some pieces more
pub record Grows (old : LiveSheet) (pieces : List Piece) (new : LiveSheet) : Type 0 where
  pub axis : new.axis ≡ old.axis
  pub written : string_bytes new.text ≡ string_bytes old.text ++ pieces_html isolated old.axis old.first pieces
  pub flag : new.first ≡ pieces_next old.first pieces

-- the sheet has a text more
pub record Adds (old : LiveSheet) (text : List ℕ) (new : LiveSheet) : Type 0 where
  pub axis : new.axis ≡ old.axis
  pub written : string_bytes new.text ≡ string_bytes old.text ++ text

-- what a group begins with, up to its first row
unfoldable pub type_begin : (List ℕ → List ℕ) → Bool → List ℕ → List ℕ
type_begin say opened owner =
    (if opened then codes "<details open><summary>" else codes "<details><summary>") ++ say (name_shown owner)
    ++ codes "<small>server, addresses</small>" ++ codes "<small>" ++ codes "text" ++ codes "</small></summary><ul>\n"
