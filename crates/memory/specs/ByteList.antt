-- Bytes in place, or on the heap.
use Rattle.std.specs.Prelude.{◌≤◌, ℕ, List, take}
use Rattle.memory.specs.declared.byte_list.{Few.{Few}, Items.{Items}}
use Rattle.memory.specs.declared.byte_list.Items.TheVariants as items

-- the bytes that are listed
abbrev pub few_listed : Few → List ℕ
few_listed few = take few.count few.bytes

abbrev pub bytes_listed : Items → List ℕ
bytes_listed (items.Few few) = few_listed few
bytes_listed (items.Many bytes) = bytes.items

-- a count of bytes in place is at most 30
abbrev pub IsByteList : Items → Type 0
IsByteList (items.Few few) = few.count ≤ 30
IsByteList (items.Many bytes) = Unit {0}
