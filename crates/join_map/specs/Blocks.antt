-- Entries in key order, cut into blocks.
use Rattle.std.specs.Prelude.{◌≡◌, ℕ, ◌+◌, ◌<◌, ◌≤◌, List, [], ◌∷◌, ◌++◌, length, map, take, drop, slice_index_or, Result, OnOk, OnErr}
use Rattle.std.specs.declared.cmp.{Ordering.{Ordering}, Ordering.TheVariants.{Less, Equal, Greater}}
use Rattle.std.specs.{List.{AllByRecursion, Contains}, Map.{keys_of}}
use Rattle.join_map.specs.{Join.{IsPartOfJoin}, declared.blocks.Spot.{Spot}, declared.order.Ranked.{Ranked}}

-- the entries of the blocks, one block after another
abbrev pub entries_of : {E : Type 0} → List (List E) → List E
entries_of [] = []
entries_of (b ∷ bs) = b ++ entries_of bs

-- the entries at some places, in the order of these
abbrev pub picked : {E : Type 0} → List E → List ℕ → List E
picked es [] = []
picked es (p ∷ ps) = take 1 (drop p es) ++ picked es ps

-- the entries at the places of each block
abbrev pub rows : {E : Type 0} → List E → List (List ℕ) → List (List E)
rows es [] = []
rows es (b ∷ bs) = picked es b ∷ rows es bs

-- each place is below n
abbrev pub AllWithin : ℕ → List ℕ → Type 0
AllWithin n ps = AllByRecursion (λ p. p < n) ps

-- no block is empty
abbrev pub AllFilled : {E : Type 0} → List (List E) → Type 0
AllFilled [] = Unit {0}
AllFilled (b ∷ bs) = (0 < length b) × AllFilled bs

-- the places that are being sorted
abbrev pub places_of : List Ranked → List ℕ
places_of order = map (λ ranked. ranked.place) order

-- the places are those below n, each once
pub record IsOrder (n : ℕ) (ps : List ℕ) : Type 0 where
  pub within : AllWithin n ps
  pub all : n ≡ length ps
  pub each : (p : ℕ) → p < n → Contains ps p

-- the places of the blocks are as many as the entries, and no block is empty
pub record ArePlaces {E : Type 0} (es : List E) (bs : List (List ℕ)) : Type 0 where
  pub filled : AllFilled bs
  pub within : AllWithin (length es) (entries_of bs)
  pub all : length es ≡ length (entries_of bs)

-- the block at n
abbrev pub block_at : {E : Type 0} → List (List E) → ℕ → List E
block_at bs n = slice_index_or bs n []

-- the entries before a spot, and those from it on
abbrev pub before : {E : Type 0} → List (List E) → Spot → List E
before bs s = entries_of (take s.block bs) ++ take s.offset (block_at bs s.block)

abbrev pub after : {E : Type 0} → List (List E) → Spot → List E
after bs s = drop s.offset (block_at bs s.block) ++ entries_of (drop (s.block + 1) bs)

-- an entry is at the spot
abbrev pub IsSpot : {E : Type 0} → List (List E) → Spot → Type 0
IsSpot bs s = (s.block < length bs) × (s.offset < length (block_at bs s.block))

-- an entry can be inserted at the spot
abbrev pub IsGap : {E : Type 0} → List (List E) → Spot → Type 0
IsGap bs s = (0 < length bs → s.block < length bs) × (s.offset ≤ length (block_at bs s.block))

-- e is the entry at the spot
abbrev pub IsEntry : {E : Type 0} → List (List E) → Spot → E → Type 0
IsEntry bs s e = drop s.offset (block_at bs s.block) ≡ e ∷ drop (s.offset + 1) (block_at bs s.block)

-- k is below each key, and above each key
abbrev pub AllAbove : {K V : Type 0} → (K → K → Ordering) → K → List (K × V) → Type 0
AllAbove cmp k es = AllByRecursion (λ y. cmp k y ≡ Less) (keys_of es)

abbrev pub AllBelow : {K V : Type 0} → (K → K → Ordering) → K → List (K × V) → Type 0
AllBelow cmp k es = AllByRecursion (λ y. cmp k y ≡ Greater) (keys_of es)

-- the entry at the spot has the key k
pub record IsAt {K V : Type 0} (cmp : K → K → Ordering) (bs : List (List (K × V))) (k : K) (s : Spot) : Type 0 where
  pub spot : IsSpot bs s
  pub entry : K × V
  pub is : IsEntry bs s entry
  pub same : cmp k entry.0 ≡ Equal

-- no entry has the key k, and one belongs at the spot
pub record IsFree {K V : Type 0} (cmp : K → K → Ordering) (bs : List (List (K × V))) (k : K) (s : Spot) : Type 0 where
  pub gap : IsGap bs s
  pub below : AllBelow cmp k (before bs s)
  pub above : AllAbove cmp k (after bs s)

-- the value at the spot became u, and no other entry changed
pub record IsRewritten {K V : Type 0} (bs cs : List (List (K × V))) (s : Spot) (e : K × V) (u : V) : Type 0 where
  pub is : IsEntry bs s e
  pub rest : List (K × V)
  pub was : entries_of bs ≡ before bs s ++ e ∷ rest
  pub now : entries_of cs ≡ before bs s ++ (e.0, u) ∷ rest

-- v was joined into the value at the spot, or after an error a part of it
pub record JoinsAt {K V F : Type 0} (Valid : V → Type 0) (join : V → V → V) (bs cs : List (List (K × V))) (s : Spot)
    (v : V) (r : Result (Unit {0}) F) : Type 0 where
  pub entry : K × V
  pub value : V
  pub rewritten : IsRewritten bs cs s entry value
  pub ok : OnOk r (value ≡ join entry.1 v)
  pub err : OnErr r (IsPartOfJoin join entry.1 v value)
  pub valid : Valid value
  pub other : Valid v

-- the entry at an offset of a block has the key k
pub record IsOffset {K V : Type 0} (cmp : K → K → Ordering) (es : List (K × V)) (k : K) (offset : ℕ) : Type 0 where
  pub within : offset < length es
  pub entry : K × V
  pub is : drop offset es ≡ entry ∷ drop (offset + 1) es
  pub same : cmp k entry.0 ≡ Equal

-- the entries before and after the spot s of the blocks bs are those before and after the spot t of cs
pub record IsMoved {E : Type 0} (bs : List (List E)) (s : Spot) (cs : List (List E)) (t : Spot) : Type 0 where
  pub block : t.block < length cs
  pub offset : t.offset ≤ length (block_at cs t.block)
  pub before : before cs t ≡ before bs s
  pub after : after cs t ≡ after bs s
