-- The lives that go on after a moment say since when each live record has been live.
use Rattle.std.proofs.lemmas.{Grind.{common_steps, flat_map-append}, Bool.{lt-ltb, le-ltb}}
use Rattle.std.proofs.lemmas.{List.{append-nil, append_assoc, map-append, take_more, take_all}, List.Elements.{filter-append}}
use Rattle.std.proofs.Common.{rules, ◌≡◌, refl, sym, ap, ◌∙◌, subst, ℕ, ◌+◌, ◌<◌, ◌≤◌, nat_lt}
use Rattle.std.proofs.Common.{List, [], ◌∷◌, ◌++◌, map, length, take, get_or, Contains, Option, None, Some, MatchOption, arith}
use Rattle.std.specs.{List.{filter}, Map.Iter.{TakesFirst}}
use Rattle.mdns_capture.specs.declared.moment.Moment.{Moment}
use Rattle.mdns_message.specs.declared.hearing.Hearing.{Hearing}
use Rattle.mdns_join.specs.declared.latest.Latest.{Latest}
use Rattle.mdns_cache.specs.Live.{IsNewest, NoneLater, key_of_last}
use Rattle.mdns_cache.proofs.StandsPartLemmas.{Contains-nil}
use Rattle.mdns_lives.specs.{declared.life.Life.{Life}, Chronicle.{AreAllLives, live_rows}}
use Rattle.mdns_lives.specs.Since.{AreLiveSince, IsLiveSince, all_since_rows, live_row, since_row, since_rows}
use Rattle.mdns_lives.proofs.LawLemmas.{NoneAfter, SomeEnd, UntilEnd}
use Rattle.mdns_lives.proofs.LiveLifeLemmas.{AreLiveRecords-lives, OneEnd, Row, from_rows, goes_on}

-- ---- rows without their beginnings

live_of : (last : Latest) (lives : List Life)
    → map live_row (map (since_row last) lives) ≡ map (λ (life : Life). (last, life.until)) lives
live_of last [] = refl
live_of last (life ∷ lives) = ap (λ rest. (last, life.until) ∷ rest) (live_of last lives)

all_live : (now : ℕ) (rows : List Row) → map live_row (all_since_rows now rows) ≡ live_rows now rows
all_live now [] = refl
all_live now (row ∷ rows) =
    let own = filter (λ (life : Life). nat_lt now life.until) row.1 in
    map-append live_row (since_rows now row.0 row.1) (all_since_rows now rows)
    ∙ ap (λ first. first ++ map live_row (all_since_rows now rows)) (live_of row.0 own)
    ∙ ap (λ rest. map (λ (life : Life). (row.0, life.until)) own ++ rest) (all_live now rows)

-- ---- the newest hearing

-- no hearing is later than a moment that the newest isn't later than
pub none_later : (newest : Option Moment) (heard : List Hearing) (now : Moment) → MatchOption newest (heard ≡ []) (IsNewest heard)
    → NoneLater newest now → (hearing : Hearing) → Contains heard hearing → hearing.moment.nanos ≤ now.nanos
none_later None heard now tells on_time hearing among = grind (arith, Contains-nil)
none_later (Some found) heard now tells on_time hearing among = search (rules, among)

-- ---- the life of a row

pub AreLiveSince-lives : SomeEnd → UntilEnd → OneEnd → (heard : List Hearing) (now : ℕ) → NoneAfter heard now → (rows : List Row)
    → AreAllLives heard rows → AreLiveSince heard now (all_since_rows now rows)
AreLiveSince-lives some_end until_end same_end heard now none rows all = record {
  records =
      grind (arith, all_live now rows, AreLiveRecords-lives some_end until_end same_end heard now none rows all);
  since = λ r among.
      let w = from_rows since_row now rows r among in
      let are = (all.each w.last w.lives w.row).1 in
      subst (λ (r : (Latest × ℕ) × ℕ). IsLiveSince heard now (key_of_last r.0.0) r.1) w.is record {
        lives = w.lives;
        are = are;
        life = w.life;
        among = w.among;
        during = goes_on some_end until_end same_end heard now none (key_of_last w.last) w.lives are w.life w.among w.later;
        begins = refl;
      };
}

-- ---- rows one after another

-- the rows of some lives, and of one more
since_rows-append : (now : ℕ) (last : Latest) (xs ys : List Life)
    → since_rows now last (xs ++ ys) ≡ since_rows now last xs ++ since_rows now last ys
since_rows-append now last xs ys =
    ap (map (since_row last)) (filter-append (λ (life : Life). nat_lt now life.until) xs ys)
    ∙ map-append (since_row last) (filter (λ (life : Life). nat_lt now life.until) xs) (filter (λ (life : Life). nat_lt now life.until) ys)

since_rows-one : (now : ℕ) (last : Latest) (lives : List Life) (i : ℕ) (life : Life) → i < length lives → life ≡ get_or lives i life
    → since_rows now last (take (i + 1) lives) ≡ since_rows now last (take i lives) ++ since_rows now last (life ∷ [])
since_rows-one now last lives i life within at = grind (arith, common_steps, last, take_more, lives, life, since_rows-append)

-- the row of one life
module _ {R : Type 0} (f : R → (Latest × ℕ) × ℕ) (now : ℕ) (last : Latest) (life : Life) (old : List R) where
  pub row_pushed : (r : R) (new : List R) → now < life.until → new ≡ old ++ r ∷ [] → f r ≡ since_row last life
      → map f new ≡ map f old ++ since_rows now last (life ∷ [])
  row_pushed r new later pushed is = grind (arith, last, life, lt-ltb, later, map-append, is)

  pub row_left : life.until ≤ now → map f old ≡ map f old ++ since_rows now last (life ∷ [])
  row_left past = grind (arith, last, life, le-ltb, append-nil)

pub rows-more : {R : Type 0} (f : R → (Latest × ℕ) × ℕ) (now : ℕ) (last : Latest) (lives : List Life) (i : ℕ) (life : Life)
    (old mid new : List R)
    → i < length lives → life ≡ get_or lives i life → map f mid ≡ map f old ++ since_rows now last (take i lives)
    → map f new ≡ map f mid ++ since_rows now last (life ∷ []) → map f new ≡ map f old ++ since_rows now last (take (i + 1) lives)
rows-more f now last lives i life old mid new within at so_far more = grind (arith, append_assoc, since_rows-one)

pub rows-start : {R : Type 0} (f : R → (Latest × ℕ) × ℕ) (now : ℕ) (last : Latest) (lives : List Life) (old : List R)
    → map f old ≡ map f old ++ since_rows now last (take 0 lives)
rows-start f now last lives old = sym (append-nil (map f old))

-- all lives are taken
pub rows-whole : {R : Type 0} (f : R → (Latest × ℕ) × ℕ) (now : ℕ) (last : Latest) (lives : List Life) (i : ℕ) (old new : List R)
    → length lives ≤ i
    → map f new ≡ map f old ++ since_rows now last (take i lives) → map f new ≡ map f old ++ since_rows now last lives
rows-whole f now last lives i old new enough so_far = grind (arith, take_all)

-- ---- records one after another

-- what was told of the records before the rest
pub record Tells {R : Type 0} (f : R → (Latest × ℕ) × ℕ) (now : ℕ) (all rest : List Row) (rows : List R) : Type 0 where
  pub front : List Row
  pub whole : all ≡ front ++ rest
  pub rows_are : map f rows ≡ all_since_rows now front

pub tells-start : {R : Type 0} (f : R → (Latest × ℕ) × ℕ) (now : ℕ) (all : List Row) (rows : List R) → rows ≡ [] → Tells f now all all rows
tells-start f now all rows none = record { front = []; whole = refl; rows_are = ap (map f) none }

pub tells-more : {R : Type 0} (f : R → (Latest × ℕ) × ℕ) (now : ℕ) (all rest after : List Row) (row : Row) (rows new : List R)
    → Tells f now all rest rows → rest ≡ row ∷ after → map f new ≡ map f rows ++ since_rows now row.0 row.1 → Tells f now all after new
tells-more f now all rest after row rows new so_far split more = record {
  front = so_far.front ++ row ∷ [];
  whole = so_far.whole ∙ ap (λ rows. so_far.front ++ rows) split ∙ sym (append_assoc so_far.front (row ∷ []) after);
  rows_are =
      grind (arith, append-nil, flat_map-append);
}

pub tells-all : {R : Type 0} (f : R → (Latest × ℕ) × ℕ) (now : ℕ) (all rest : List Row) (rows : List R) → Tells f now all rest rows
    → rest ≡ []
    → map f rows ≡ all_since_rows now all
tells-all f now all rest rows so_far none = grind (arith, append-nil)

-- a walk that gives no record has none left
pub none_left : {A X : Type 0} (shows : A → X) {old : List X} (new : List X) {next : Option A} → TakesFirst shows old next new
    → ((a : A) → next ≡ Some a → ⊥) → old ≡ []
none_left shows new {next = None} taken none = taken.0
none_left shows new {next = Some a} taken none = absurd (none a refl)

-- WHAT FUNCTIONS ARE PROVED BY

pub ruleset for_push_live = (rows-more, rows-start, rows-whole)

pub ruleset for_live_at = (none_later, none_left, tells-all, tells-more, tells-start)
