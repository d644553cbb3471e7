-- Files that are written about, one after another.
use Rattle.std.specs.Prelude.{◌≡◌, ℕ, ◌<◌, List, [], ◌∷◌, ◌++◌, length}
use Rattle.mdns_trace.specs.declared.each_file.{FilesFault.{FilesFault}, FilesFault.TheVariants.{File, Memory}}
use Rattle.mdns_trace.specs.declared.trace.TraceFault.{TraceFault}

-- The files of these readers were written about, one after another, each under its name: none, or some and then one more.
pub data WritesEach {R W S : Type 0} (Writes : List ℕ → R → W → W → S → Type 0) (old : W)
    : List (List ℕ) → List R → W → List S → Type 0 where
  none : {names : List (List ℕ)} {readers : List R} {new : W} {found : List S}
      → names ≡ [] → readers ≡ [] → new ≡ old → found ≡ [] → WritesEach Writes old names readers new found
  more : {names : List (List ℕ)} {readers : List R} {new : W} {found : List S} (names_before : List (List ℕ))
      (name : List ℕ) (readers_before : List R) (reader : R) (middle : W) (found_before : List S) (one : S)
      → WritesEach Writes old names_before readers_before middle found_before → Writes name reader middle new one
      → names ≡ names_before ++ name ∷ [] → readers ≡ readers_before ++ reader ∷ [] → found ≡ found_before ++ one ∷ []
      → WritesEach Writes old names readers new found

-- some first files were written about, and nothing after them
pub record WritesFirst {R W S : Type 0} (Writes : List ℕ → R → W → W → S → Type 0) (names : List (List ℕ)) (readers : List R)
    (old new : W) : Type 0 where
  pub first_names : List (List ℕ)
  pub names_left : List (List ℕ)
  pub first_readers : List R
  pub readers_left : List R
  pub of_names : names ≡ first_names ++ names_left
  pub of_readers : readers ≡ first_readers ++ readers_left
  pub found : List S
  pub all : WritesEach Writes old first_names first_readers new found

-- the files before that index were written about, and the one at it wasn't to its end
pub record StopsAt {R W S : Type 0} (Writes : List ℕ → R → W → W → S → Type 0) (Stops : List ℕ → R → W → W → TraceFault → Type 0)
    (names : List (List ℕ)) (readers : List R) (old new : W) (index : ℕ) (fault : TraceFault) : Type 0 where
  pub middle : W
  pub first : WritesFirst Writes names readers old middle
  pub at_index : length first.first_readers ≡ index
  pub name : List ℕ
  pub names_after : List (List ℕ)
  pub reader : R
  pub readers_after : List R
  pub of_name : first.names_left ≡ name ∷ names_after
  pub of_reader : first.readers_left ≡ reader ∷ readers_after
  pub stops : Stops name reader middle new fault

-- these files weren't all written about
abbrev pub StopsAmong : {R W S : Type 0} → (List ℕ → R → W → W → S → Type 0) → (List ℕ → R → W → W → TraceFault → Type 0)
    → List (List ℕ) → List R → W → W → FilesFault → Type 0
StopsAmong Writes Stops names readers old new (File index fault) = StopsAt Writes Stops names readers old new index fault
StopsAmong Writes Stops names readers old new Memory = WritesFirst Writes names readers old new

-- the index of the file that a fault names is one of so many
abbrev pub NamesFile : ℕ → FilesFault → Type 0
NamesFile count (File index fault) = index < count
NamesFile count Memory = Unit {0}
