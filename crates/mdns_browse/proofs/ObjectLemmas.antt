-- Objects by the pieces that are written of them.
use Rattle.std.proofs.Common.{arith, ◌≡◌, refl, ◌∙◌, ap, ℕ, Bool, true, false, List, [], ◌∷◌, ◌++◌, map, codes}
use Rattle.std.proofs.lemmas.List.{append-nil, append_assoc}
use Rattle.std.specs.List.{flat_map}
use Rattle.mdns_message.specs.Resource.{Body}
use Rattle.mdns_browse.specs.declared.instance.Server.{Server}
use Rattle.mdns_browse.specs.{RecordText.{data_words, text_words}, Json.{array_begin, comma_unless, escaped, first_after, instance_json}}
use Rattle.mdns_browse.specs.Json.{json_member, json_object, json_words, parted, server_json}
use Rattle.mdns_browse.specs.{JsonPieces.{piece_json, piece_next, pieces_json, pieces_next, strings_json}, Services.{InstanceRow}}
use Rattle.mdns_browse.specs.Sheet.{Piece, instance_pieces, instance_text, server_address, server_pieces}
use Rattle.mdns_browse.specs.laws.JsonPieces.{next-append, pieces-append, strings-append}
use Rattle.std.proofs.Common.{rules}

-- ---- objects by their members

parted-rest : (xs ys : List (List ℕ)) → parted false (xs ++ ys) ≡ parted false xs ++ parted false ys
unfolding parted
parted-rest [] ys = refl
parted-rest (x ∷ xs) ys = grind (arith, append_assoc, parted-rest xs ys)

-- one value more, after a comma
pub parted-more : (values : List (List ℕ)) (value : List ℕ) → parted false (values ++ value ∷ []) ≡ parted false values ++ 44 ∷ value
unfolding parted
parted-more values value = grind (arith, append-nil, parted-rest values (value ∷ []))

-- the first members, and the others with the end of the line
pub object_by_members : (x : List ℕ) (front rest : List (List ℕ))
    → (123 ∷ parted true (x ∷ front)) ++ (parted false rest ++ codes "}\n") ≡ json_object (x ∷ front ++ rest) ++ 10 ∷ []
unfolding parted
object_by_members x front rest = grind (arith, append_assoc, parted-rest)

-- an array as the last member, and two of them
object_array : (x : List ℕ) (front : List (List ℕ)) (name values : List ℕ)
    → (123 ∷ parted true (x ∷ front) ++ array_begin name) ++ (values ++ codes "]}")
    ≡ json_object (x ∷ front ++ json_member name (91 ∷ values ++ 93 ∷ []) ∷ [])
unfolding parted escaped
object_array x front name values = grind (arith, append_assoc, parted-more)

object_arrays : (x : List ℕ) (front : List (List ℕ)) (first second values others : List ℕ)
    → (123 ∷ parted true (x ∷ front) ++ array_begin first) ++ ((values ++ 93 ∷ array_begin second) ++ (others ++ codes "]}\n"))
    ≡ json_object (x ∷ front ++ json_member first (91 ∷ values ++ 93 ∷ []) ∷ json_member second (91 ∷ others ++ 93 ∷ []) ∷ []) ++ 10 ∷ []
unfolding parted escaped
object_arrays x front first second values others = grind (arith, append_assoc, append-nil, parted-rest)

-- ---- pieces one after another

last_next : (first : Bool) (pieces : List Piece) (piece : Piece)
    → pieces_next first (pieces ++ piece ∷ []) ≡ piece_next (pieces_next first pieces) piece
last_next first pieces piece = next-append first pieces (piece ∷ [])

-- pieces, and then one more
then_piece : (first : Bool) (pieces : List Piece) (piece : Piece)
    → pieces_json first (pieces ++ piece ∷ []) ≡ pieces_json first pieces ++ piece_json (pieces_next first pieces) piece
then_piece first pieces piece = grind (arith, pieces-append, append-nil)

addresses_json : (first : Bool) (addresses : List Body)
    → pieces_json first (map server_address addresses) ≡ strings_json first (flat_map data_words addresses)
unfolding parted
addresses_json first [] = refl
addresses_json first (address ∷ addresses) =
    grind (arith, strings-append, addresses_json (first_after first (data_words address)) addresses)

texts_json : (first : Bool) (texts : List (List ℕ))
    → pieces_json first (map instance_text texts) ≡ parted first (map (λ text. json_words (text_words text)) texts)
unfolding parted
texts_json first [] = refl
texts_json first (text ∷ texts) = grind (arith, texts_json false texts)

server_text : (first : Bool) (server : Server) → pieces_json first (server_pieces server) ≡ comma_unless first ++ server_json server
unfolding server_json
server_text first server = grind (arith, then_piece, addresses_json, append_assoc, object_array)

servers_json : (first : Bool) (servers : List Server) → pieces_json first (flat_map server_pieces servers) ≡ parted first
    (map server_json servers)
unfolding parted
servers_json first [] = refl
servers_json first (server ∷ servers) = grind (
  arith,
  last_next,
  pieces-append first (server_pieces server) (flat_map server_pieces servers),
  server_text first server,
  servers_json false servers,
)

instance_text_json : (first : Bool) (row : InstanceRow) → pieces_json first (instance_pieces row) ≡ instance_json row
unfolding instance_json
instance_text_json first row = grind (arith, pieces-append, then_piece, servers_json, last_next, texts_json, object_arrays)

pub instances_json : (first : Bool) (rows : List InstanceRow)
    → pieces_json first (flat_map instance_pieces rows) ≡ flat_map instance_json rows
instances_json first [] = refl
instances_json first (row ∷ rows) =
    pieces-append first (instance_pieces row) (flat_map instance_pieces rows)
    ∙ ap (λ text. text ++ pieces_json (pieces_next first (instance_pieces row)) (flat_map instance_pieces rows)) (instance_text_json first row)
    ∙ ap (λ text. instance_json row ++ text) (instances_json (pieces_next first (instance_pieces row)) rows)

-- WHAT FUNCTIONS ARE PROVED BY

pub ruleset for_push_host_json = (object_by_members, append-nil)
