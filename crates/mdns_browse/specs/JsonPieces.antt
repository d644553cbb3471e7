-- The pieces of instances as JSON.
use Rattle.std.specs.Prelude.{◌≡◌, ◌==◌, ℕ, Bool, true, false, List, [], ◌∷◌, ◌++◌, map, codes, string_bytes}
use Rattle.std.specs.Fmt.{decimal}
use Rattle.dns_name.specs.Name.{name_text}
use Rattle.people_text.specs.Shown.{name_shown}
use Rattle.mdns_browse.specs.Sheet.{Piece, instance_begin, server_begin, server_address, server_end, servers_end, instance_text, instance_end}
use Rattle.mdns_browse.specs.{RecordShown.{shown_instance}, RecordText.{data_words, text_words}}
use Rattle.mdns_browse.specs.declared.report_json.ReportText.{ReportText}
use Rattle.mdns_browse.specs.Json.{array_begin, comma_unless, first_after, json_bool, json_member, json_string, json_words, parted, text_member}
use Rattle.mdns_browse.specs.Services.{GivenRow}

-- what an object says of an instance before its servers, and of a server before its addresses
abbrev pub instance_members : GivenRow → List ℕ → List (List ℕ)
instance_members given name =
    text_member (codes "instance") (name_text name) ∷ text_member (codes "shown") (shown_instance name)
    ∷ text_member (codes "type") (name_text given.last.resource.owner) ∷ json_member (codes "goodbye") (json_bool (given.last.ttl == 0)) ∷ []

abbrev pub server_members : (priority weight port : ℕ) → List ℕ → List (List ℕ)
server_members priority weight port target =
    text_member (codes "target") (name_text target) ∷ text_member (codes "shown") (name_shown target)
    ∷ json_member (codes "port") (decimal port) ∷ json_member (codes "priority") (decimal priority)
    ∷ json_member (codes "weight") (decimal weight) ∷ []

-- the text of a piece, which may be the first value of an array
abbrev pub piece_json : Bool → Piece → List ℕ
piece_json first (instance_begin given name) = 123 ∷ parted true (instance_members given name) ++ array_begin (codes "servers")
piece_json first (server_begin priority weight port target) =
    comma_unless first ++ (123 ∷ parted true (server_members priority weight port target) ++ array_begin (codes "addresses"))
piece_json first (server_address address) = parted first (map json_string (data_words address))
piece_json first server_end = codes "]}"
piece_json first (servers_end none) = 93 ∷ array_begin (codes "texts")
piece_json first (instance_text text) = comma_unless first ++ json_words (text_words text)
piece_json first instance_end = codes "]}\n"

-- whether the next value of the array is its first
abbrev pub piece_next : Bool → Piece → Bool
piece_next first (instance_begin given name) = true
piece_next first (server_begin priority weight port target) = true
piece_next first (server_address address) = first_after first (data_words address)
piece_next first server_end = false
piece_next first (servers_end none) = true
piece_next first (instance_text text) = false
piece_next first instance_end = first

-- the same of pieces one after another
abbrev pub pieces_json : Bool → List Piece → List ℕ
pieces_json first [] = []
pieces_json first (piece ∷ pieces) = piece_json first piece ++ pieces_json (piece_next first piece) pieces

abbrev pub pieces_next : Bool → List Piece → Bool
pieces_next first [] = first
pieces_next first (piece ∷ pieces) = pieces_next (piece_next first piece) pieces

-- words as strings of an array
abbrev pub strings_json : Bool → List (List ℕ) → List ℕ
strings_json first words = parted first (map json_string words)

-- the sheet has the text of some pieces more, after which `next` tells whether another value is the first
pub record Grows {P : Type 0} (text_of : Bool → List P → List ℕ) (next : Bool → List P
    → Bool) (old : ReportText) (pieces : List P) (new : ReportText)
    : Type 0 where
  pub written : string_bytes new.text ≡ string_bytes old.text ++ text_of old.first pieces
  pub flag : new.first ≡ next old.first pieces
