-- The pieces of instances as lines.
use Rattle.std.specs.{Prelude.{ℕ, if◌then◌else◌, List, [], ◌∷◌, ◌++◌, codes}, Fmt.{decimal}}
use Rattle.dns_name.specs.Name.{name_text}
use Rattle.mdns_browse.specs.Sheet.{Piece, instance_begin, server_begin, server_address, server_end, servers_end, instance_text, instance_end}
use Rattle.mdns_browse.specs.RecordText.{data_words, spaced, text_words}

-- the lines of a piece
abbrev pub piece_lines : Piece → List ℕ
piece_lines (instance_begin given name) = name_text name ++ 10 ∷ []
piece_lines (server_begin priority weight port target) =
    codes "  server " ++ name_text target ++ 32 ∷ decimal port
    ++ codes " priority " ++ decimal priority ++ codes " weight " ++ decimal weight ++ 10 ∷ []
piece_lines (server_address address) = codes "    address" ++ spaced (data_words address) ++ 10 ∷ []
piece_lines server_end = []
piece_lines (servers_end none) = if none then codes "  unresolved\n" else []
piece_lines (instance_text text) = codes "  text" ++ spaced (text_words text) ++ 10 ∷ []
piece_lines instance_end = []
