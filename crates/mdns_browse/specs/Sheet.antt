-- The pieces of instances, in the order in which a sheet takes them.
use Rattle.std.specs.Prelude.{◌≡◌, ℕ, Bool, ◌==◌, List, [], ◌∷◌, ◌++◌, length, map, string_bytes}
use Rattle.std.specs.{declared.string.String.{String}, List.{flat_map}}
use Rattle.mdns_message.specs.Resource.{Body}
use Rattle.mdns_browse.specs.{declared.instance.Server.{Server}, Services.{GivenRow, InstanceRow}}

-- a piece of an instance
pub data Piece : Type 0 where
  -- the record that gives an instance and the instance's name, before its servers
  instance_begin : GivenRow → List ℕ → Piece
  -- the priority, weight, port and target of a server, before its addresses
  server_begin : ℕ → ℕ → ℕ → List ℕ → Piece
  -- an address of a server
  server_address : Body → Piece
  server_end : Piece
  -- the end of the servers, and whether there are none
  servers_end : Bool → Piece
  -- the data of a TXT record of an instance
  instance_text : List ℕ → Piece
  instance_end : Piece

-- the pieces of a server
abbrev pub server_pieces : Server → List Piece
server_pieces server =
    server_begin server.priority server.weight server.port server.target
    ∷ (map server_address server.addresses ++ server_end ∷ [])

-- the pieces of an instance's servers
abbrev pub servers_pieces : List Server → List Piece
servers_pieces servers = flat_map server_pieces servers ++ servers_end (length servers == 0) ∷ []

-- the pieces of an instance
abbrev pub instance_pieces : InstanceRow → List Piece
instance_pieces row =
    instance_begin row.given row.instance.name
    ∷ (servers_pieces row.instance.servers ++ (map instance_text row.instance.texts ++ instance_end ∷ []))

-- `takes` holds of a sheet before some pieces and after all of them
pub record TakeLaws {S P : Type 0} (takes : S → List P → S → Type 0) : Type 0 where
  pub nothing : (s : S) → takes s [] s
  pub more : (s t u : S) (a b : List P) → takes s a t → takes t b u → takes s (a ++ b) u

-- a string has the text of each piece after its bytes
abbrev pub writes : {A P : Type 0} → (P → List ℕ) → String A → List P → String A → Type 0
writes text_of old pieces new = string_bytes new ≡ string_bytes old ++ flat_map text_of pieces
