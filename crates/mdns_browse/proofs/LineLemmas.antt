-- Lines by the pieces that are written of them.
use Rattle.std.proofs.Common.{◌≡◌, refl, ℕ, ◌==◌, if◌then◌else◌, List, [], ◌∷◌, ◌++◌, length, map, arith, codes}
use Rattle.std.proofs.lemmas.{List.{append-nil, append_assoc}, List.Folds.{flat_map-map}, Grind.{flat_map-append}}
use Rattle.std.specs.{Fmt.{decimal}, List.{flat_map}}
use Rattle.dns_name.specs.Name.{name_text}
use Rattle.mdns_browse.specs.{declared.instance.Server.{Server}, RecordText.{data_words, instance_lines, server_lines, spaced}}
use Rattle.mdns_browse.specs.Sheet.{server_address, server_end, server_pieces, servers_pieces, instance_pieces}
use Rattle.mdns_browse.specs.{LinePieces.{piece_lines}, Services.{InstanceRow}}

pub flat_map-pieces : {X P : Type 0} (text_of : P → List ℕ) (pieces : X → List P) (text : X → List ℕ)
    → ((x : X) → flat_map text_of (pieces x) ≡ text x) → (xs : List X) → flat_map text_of (flat_map pieces xs) ≡ flat_map text xs
flat_map-pieces text_of pieces text same [] = refl
flat_map-pieces text_of pieces text same (x ∷ xs) = grind (arith, flat_map-append, flat_map-pieces text_of pieces text same xs)

-- the parts of a server's own line
pub begin_by_parts : (old mark target port before_priority priority before_weight weight a b c : List ℕ) → a ≡ old ++ mark → b ≡ a ++ target
    → c ≡ b ++ (port ++ (before_priority ++ (priority ++ (before_weight ++ (weight ++ 10 ∷ [])))))
    → c ≡ old ++ ((mark ++ target ++ port ++ before_priority ++ priority ++ before_weight ++ weight ++ 10 ∷ []) ++ [])
begin_by_parts old mark target port before_priority priority before_weight weight a b c one two three =
    rw (three, two, one) (simp (append_assoc, append-nil))

server_by_parts : (mark target port before_priority priority before_weight weight addresses : List ℕ)
    → (mark ++ target ++ port ++ before_priority ++ priority ++ before_weight ++ weight ++ 10 ∷ []) ++ (addresses ++ [])
    ≡ mark ++ target ++ port ++ before_priority ++ priority ++ before_weight ++ weight ++ 10 ∷ addresses
server_by_parts mark target port before_priority priority before_weight weight addresses = simp (append_assoc, append-nil)

server_text : (server : Server) → flat_map piece_lines (server_pieces server) ≡ server_lines server
unfolding server_lines
server_text server = grind (
  arith,
  flat_map-append piece_lines (map server_address server.addresses) (server_end ∷ []),
  flat_map-map piece_lines server_address server.addresses,
  server_by_parts (codes " server ") (name_text server.target) (32 ∷ decimal server.port) (codes " priority ") (decimal server.priority) (codes " weight ") (decimal server.weight) (flat_map (λ address. codes "    address" ++ spaced (data_words address) ++ 10 ∷ []) server.addresses),
)

-- the line of an instance that has no servers
abbrev unresolved : List Server → List ℕ
unresolved servers = if length servers == 0 then codes "  unresolved\n" else []

servers_text : (servers : List Server) → flat_map piece_lines (servers_pieces servers) ≡ flat_map server_lines servers ++ unresolved servers
servers_text servers = grind (arith, flat_map-append, flat_map-pieces, server_text, append-nil)

instance_by_parts : (name servers none texts : List ℕ)
    → (name ++ 10 ∷ []) ++ ((servers ++ none) ++ (texts ++ [])) ≡ name ++ 10 ∷ servers ++ none ++ texts
instance_by_parts name servers none texts = simp (append_assoc, append-nil)

instance_text_lines : (row : InstanceRow) → flat_map piece_lines (instance_pieces row) ≡ instance_lines row.instance
unfolding instance_lines
instance_text_lines row = grind (arith, append_assoc, flat_map-append, servers_text, append-nil, flat_map-map, instance_by_parts)

pub instances_text : (rows : List InstanceRow) → flat_map piece_lines (flat_map instance_pieces rows)
    ≡ flat_map (λ (row : InstanceRow). instance_lines row.instance) rows
instances_text = flat_map-pieces piece_lines instance_pieces (λ (row : InstanceRow). instance_lines row.instance) instance_text_lines
