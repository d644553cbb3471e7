-- Columns, their widths, and what is written in them.
use Rattle.std.proofs.Common.{◌≡◌, refl, sym, ap, ◌∙◌, ℕ, ◌+◌, ◌-◌, ◌<◌, ◌≤◌, ◌==◌, max, true, false, List, [], ◌∷◌, ◌++◌}
use Rattle.std.proofs.Common.{length, map, take, get_or, add-one, arith, codes}
use Rattle.std.proofs.lemmas.{List.{append-nil, append_assoc, length-append, length-map, map-append, take_more}, Simd.{map-map}}
use Rattle.std.specs.List.{flat_map}
use Rattle.mdns_message.specs.Resource.{type_name, type_of}
use Rattle.mdns_join.specs.declared.latest.Latest.{Latest}
use Rattle.people_text.specs.MomentText.{clock_text, date_text, date_written, hours_text, seconds_text}
use Rattle.mdns_browse.specs.Columns.{padded, record_heads, record_row, record_table, time_left_text, spaces, unless_none, widest}
use Rattle.mdns_browse.specs.RecordShown.{shown_record}

-- one space more
pub spaces_more : (old mid new : List ℕ) (n : ℕ) → mid ≡ old ++ spaces n → new ≡ mid ++ 32 ∷ [] → new ≡ old ++ spaces (n + 1)
unfolding spaces
spaces_more old mid new n before written = grind (arith, append_assoc, add-one)

pub spaces_none : (old : List ℕ) → old ≡ old ++ spaces 0
unfolding spaces
spaces_none old = sym (append-nil old)

-- a text that was written, and the spaces after it
pub padded_by_parts : (old text mid new : List ℕ) (width begin end len count : ℕ) → mid ≡ old ++ text → begin ≡ length old
    → end ≡ length mid
    → len ≡ end - begin → count ≡ width - len → new ≡ mid ++ spaces count → new ≡ old ++ padded width text
unfolding padded
padded_by_parts old text mid new width begin end len count written begins ends is counts spaced = grind (arith, length-append, append_assoc)

-- a text that is as wide as its column
padded-exact : (width : ℕ) (text : List ℕ) → length text ≡ width → padded width text ≡ text
unfolding padded spaces
padded-exact width text is = grind (arith, append-nil)

pub widest-append : (texts others : List (List ℕ)) → widest (texts ++ others) ≡ max (widest texts) (widest others)
unfolding widest
widest-append [] others = omega arith
widest-append (first ∷ texts) others = grind (arith, widest-append texts others)

-- one text more
widest-more : (texts : List (List ℕ)) (text : List ℕ) → widest (texts ++ text ∷ []) ≡ max (widest texts) (length text)
unfolding widest
widest-more texts text = let both = widest-append texts (text ∷ []) in omega (arith, both)

pub widest_none : 0 ≡ widest []
unfolding widest
widest_none = refl

-- one row more
map_more : {X Y : Type 0} (f : X → Y) (xs : List X) (i : ℕ) (x : X) → i < length xs → x ≡ get_or xs i x
    → map f (take (i + 1) xs) ≡ map f (take i xs) ++ f x ∷ []
map_more f xs i x within at = grind (arith, take_more xs i x within, map-append f (take i xs) (get_or xs i x ∷ []))

pub width_more : {R : Type 0} (text : R → List ℕ) (rows : List R) (i : ℕ) (row : R) (width len new : ℕ) → i < length rows
    → row ≡ get_or rows i row → width ≡ widest (map text (take i rows)) → len ≡ length (text row) → new ≡ max width len
    → new ≡ widest (map text (take (i + 1) rows))
width_more text rows i row width len new within at before own is =
    grind (arith, widest-more (map text (take i rows)) (text row), map_more text rows i row within at)

pub lent_width_more : {R Y : Type 0} (text : Y → List ℕ) (f : R → Y) (rows : List R) (i : ℕ) (row : R) (width len new : ℕ)
    → i < length rows → row ≡ get_or rows i row → width ≡ widest (map text (map f (take i rows))) → len ≡ length (text (f row))
    → new ≡ max width len → new ≡ widest (map text (map f (take (i + 1) rows)))
lent_width_more text f rows i row width len new within at before own is = grind (arith, map-map, width_more)

-- when a live record was last heard, and its type
abbrev pub heard_text : Latest × ℕ → List ℕ
heard_text row = seconds_text row.0.moment.nanos

abbrev pub kind_text : Latest × ℕ → List ℕ
kind_text row = type_name (type_of row.0.resource.body)

-- a moment has twenty letters
seconds-len : (nanos : ℕ) → length (seconds_text nanos) ≡ 20
unfolding seconds_text date_text date_written clock_text hours_text
seconds-len nanos = refl

widest_heard-most : (rows : List (Latest × ℕ)) → widest (map heard_text rows) ≤ 20
unfolding widest
widest_heard-most [] = omega arith
widest_heard-most (row ∷ rows) = grind (arith, widest_heard-most rows, seconds-len)

-- the width of the second column
heard-width : (rows : List (Latest × ℕ)) → 0 < length rows → widest (codes "HEARD" ∷ map heard_text rows) ≡ 20
unfolding widest
heard-width [] some = absurd (omega (arith, some))
heard-width (row ∷ rows) some = grind (arith, widest_heard-most, seconds-len)

-- the width of a column below a head of four letters
head-width : (head : List ℕ) (texts : List (List ℕ)) → length head ≡ 4 → widest (head ∷ texts) ≡ max (widest texts) 4
unfolding widest
head-width head texts four = omega (arith, four)

-- the table with the widths that were found
table_wide : ℕ → ℕ → ℕ → ℕ → List (Latest × ℕ) → List ℕ
table_wide now left heard kind rows = record_heads left heard kind ++ flat_map (record_row left heard kind now) rows

table_widths : (now left kind : ℕ) (rows : List (Latest × ℕ)) → 0 < length rows → left ≡ max (widest (map (time_left_text now) rows)) 4
    → kind ≡ max (widest (map kind_text rows)) 4 → table_wide now left 20 kind rows ≡ record_table now rows
unfolding record_table table_wide
table_widths now left kind rows some left_is kind_is =
    let first = widest (codes "LEFT" ∷ map (time_left_text now) rows) in
    let second = widest (codes "HEARD" ∷ map heard_text rows) in
    ap (λ heard. record_heads left heard kind ++ flat_map (record_row left heard kind now) rows) (sym (heard-width rows some))
    ∙ ap (λ left. record_heads left second kind ++ flat_map (record_row left second kind now) rows)
    (left_is ∙ sym (head-width (codes "LEFT") (map (time_left_text now) rows) refl))
    ∙ ap (λ kind. record_heads first second kind ++ flat_map (record_row first second kind now) rows)
    (kind_is ∙ sym (head-width (codes "TYPE") (map kind_text rows) refl))

pub table_by_parts : (old mid new : List ℕ) (now left kind : ℕ) (rows : List (Latest × ℕ)) → 0 < length rows
    → left ≡ max (widest (map (time_left_text now) rows)) 4 → kind ≡ max (widest (map kind_text rows)) 4
    → mid ≡ old ++ record_heads left 20 kind → new ≡ mid ++ flat_map (record_row left 20 kind now) rows
    → new ≡ old ++ record_table now rows
unfolding table_wide
table_by_parts old mid new now left kind rows some left_is kind_is heads lines = grind (arith, append_assoc, table_widths)

-- the heads
heads_parts : (old left gap heard kind last end : List ℕ)
    → (((old ++ left) ++ (gap ++ heard ++ gap)) ++ kind) ++ (gap ++ last ++ end)
    ≡ old ++ (left ++ gap ++ heard ++ gap ++ kind ++ gap ++ last ++ end)
heads_parts old left gap heard kind last end = simp append_assoc

second_head : codes "  " ++ padded 20 (codes "HEARD") ++ codes "  " ≡ codes "  HEARD                 "
unfolding padded spaces
second_head = refl

pub heads_by_parts : (old a b c new : List ℕ) (left kind : ℕ) → a ≡ old ++ padded left (codes "LEFT")
    → b ≡ a ++ codes "  HEARD                 " → c ≡ b ++ padded kind (codes "TYPE") → new ≡ c ++ codes "  RECORD\n"
    → new ≡ old ++ record_heads left 20 kind
unfolding record_heads
heads_by_parts old a b c new left kind one two three four =
    four ∙ ap (λ text. text ++ codes "  RECORD\n") (three ∙ ap (λ text. text ++ padded kind (codes "TYPE"))
    (two ∙ ap (λ text. text ++ codes "  HEARD                 ") one))
    ∙ ap (λ heard. ((old ++ padded left (codes "LEFT") ++ heard) ++ padded kind (codes "TYPE")) ++ codes "  RECORD\n") (sym second_head)
    ∙ (heads_parts old (padded left (codes "LEFT")) (codes "  ") (padded 20 (codes "HEARD")) (padded kind (codes "TYPE")) (codes "RECORD")
    (10 ∷ []))

-- a row
pub row_text : (left kind now : ℕ) (row : Latest × ℕ) → record_row left 20 kind now row
    ≡ padded left (time_left_text now row) ++ codes "  " ++ heard_text row ++ codes "  " ++ padded kind (kind_text row) ++ codes "  "
    ++ shown_record row.0.resource ++ 10 ∷ []
unfolding record_row
row_text left kind now row = grind (arith, padded-exact, seconds-len)

-- a row by what is written of it
pub row_by_parts : (old gap left heard kind own a b c d e f g new : List ℕ) → a ≡ old ++ left → b ≡ a ++ gap → c ≡ b ++ heard → d ≡ c ++ gap
    → e ≡ d ++ kind → f ≡ e ++ gap → g ≡ f ++ own → new ≡ g ++ 10 ∷ []
    → new ≡ old ++ (left ++ gap ++ heard ++ gap ++ kind ++ gap ++ own ++ 10 ∷ [])
row_by_parts old gap left heard kind own a b c d e f g new pa pb pc pd pe pf pg pn = grind (arith, append_assoc)

pub unless_none_some : {R X : Type 0} (f : R → X) (rows : List R) (old a new text : List ℕ) → (length rows == 0) ≡ false
    → a ≡ old ++ 10 ∷ [] → new ≡ a ++ text → new ≡ old ++ unless_none (map f rows) text
unless_none_some f [] old a new text some line written = let both : true ≡ false = some in cc
unless_none_some f (row ∷ rows) old a new text some line written = grind (arith, append_assoc)

-- a report by what it begins with, which depends on how many are listed, and by their texts
pub listed_by_parts : {R X : Type 0} (f : R → X) {listed items : List R} {rows : List X} → listed ≡ items → map f items ≡ rows
    → (head : ℕ → List ℕ) (texts : List X → List ℕ) {begun new : List ℕ} → begun ≡ head (length listed) → new ≡ begun ++ texts (map f listed)
    → new ≡ head (length rows) ++ texts rows
listed_by_parts f same found head texts begins written = grind (arith, length-map)

-- WHAT FUNCTIONS ARE PROVED BY

pub ruleset for_push_table = (table_by_parts, length-map)
