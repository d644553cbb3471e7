-- The layout of lives.
use Rattle.std.proofs.Common.{arith, ◌≡◌, ℕ, ◌+◌, max, List, [], ◌∷◌, ◌++◌, length, map, codes}
use Rattle.std.proofs.lemmas.{Grind.{flat_map-append}, List.{append-nil, length-append, map-append}}
use Rattle.mdns_join.specs.declared.latest.Latest.{Latest}
use Rattle.mdns_lives.specs.declared.life.Life.{Life}
use Rattle.mdns_browse.specs.{declared.life_text.Layout.{Layout}, LifeText.{IsLayout, end_shown, lives_in}, Columns.{widest}}
use Rattle.mdns_browse.proofs.ColumnLemmas.{widest-append}

-- without lives the head decides the width
pub layout-none : (end : ℕ) (layout : Layout) → layout.count ≡ 0 → layout.width ≡ 3 → IsLayout end [] layout
unfolding widest
layout-none end layout count width = record { count = count; width = width }

-- the lives of one record more
pub layout-more : (end : ℕ) (rows : List (Latest × List Life)) (last : Latest) (lives : List Life) (old new : Layout)
    → new.count ≡ old.count + length lives → new.width ≡ max old.width (widest (map (end_shown end) lives)) → IsLayout end rows old
    → IsLayout end (rows ++ (last, lives) ∷ []) new
layout-more end rows last lives old new count width is = grind (
  arith,
  flat_map-append,
  append-nil lives,
  map-append (end_shown end) (lives_in rows) lives,
  length-append (lives_in rows) lives,
  widest-append (codes "END" ∷ map (end_shown end) (lives_in rows)) (map (end_shown end) lives),
)
