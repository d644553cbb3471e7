-- In which seconds captures heard a record.
use Rattle.std.proofs.Common.{◌≡◌, refl, sym, ap, ◌∙◌, subst, ℕ, ◌+◌, ◌<◌, Bool, true, false}
use Rattle.std.proofs.{Common.{List, [], ◌∷◌, ◌++◌, Option, None, Some, get_or, length, map, option_map, take, unwrap_or}, lemmas.List.{map-append, take_more}}
use Rattle.std.proofs.lemmas.List.Elements.{All-append, All-cons, All-nil, All-same, filter-append}
use Rattle.std.specs.{Prelude.{nat_lt}, BTreeMap.{get}, Global.{Vec}, List.{All}}
use Rattle.mdns_message.specs.{declared.{hearing.Hearing.{Hearing}, key.Key.{Key}}, Resource.{key_cmp}}
use Rattle.mdns_join.specs.declared.latest.Latest.{Latest}
use Rattle.mdns_lives.specs.{declared.life.Life.{Life}, declared.seconds_heard.SecondHeard.{SecondHeard}}
use Rattle.mdns_lives.specs.{Chronicle.{Accounts, Chronicles}, Heard.{AreSecondsHeard, seconds_held}}
use Rattle.mdns_lives.proofs.HeardLemmas.{heard-held}
use Rattle.mdns_browse.specs.Services.{AreEach}
use Rattle.mdns_page.specs.{TimelineRows.{AreShownBy, GivesSeconds}, Timeline.{Row, counted_lent, heard_lent, held_lent, seconds_lent}}
use Rattle.mdns_page.specs.Timeline.{shown_seconds}
use Rattle.mdns_page.specs.declared.{seconds_by_capture.Hearers.{Hearers}, timeline_rows.CountedRow.{CountedRow}}
use Rattle.mdns_page.proofs.LiveLemmas.{each-count}
use Rattle.std.proofs.lemmas.List.{append-nil}

-- ---- one capture after another

module _ {X Y : Type 0} (Is : X → Y → Type 0) where
  -- a pair more
  pub each-more : (xs : List X) (ys : List Y) (x : X) (y : Y) → AreEach Is xs ys → Is x y → AreEach Is (xs ++ x ∷ []) (ys ++ y ∷ [])
  each-more [] [] x y are is = (is, tt)
  each-more [] (z ∷ zs) x y are is = absurd are
  each-more (w ∷ ws) [] x y are is = absurd are
  each-more (w ∷ ws) (z ∷ zs) x y are is = (are.0, each-more ws zs x y are.1 is)

  -- the last pair, after those before it
  last-by : (Q : List Y → Type 0) (x : X) (xs : List X) (ys : List Y)
      → ((zs : List Y) (y : Y) → AreEach Is xs zs → Is x y → Q (zs ++ y ∷ [])) → AreEach Is (xs ++ x ∷ []) ys → Q ys
  last-by Q x [] [] holds are = absurd are
  last-by Q x [] (y ∷ []) holds are = holds [] y tt are.0
  last-by Q x [] (y ∷ z ∷ zs) holds are = absurd are.1
  last-by Q x (w ∷ ws) [] holds are = absurd are
  last-by Q x (w ∷ ws) (y ∷ ys) holds are =
      last-by (λ zs. Q (y ∷ zs)) x ws ys (λ zs last few is. holds (y ∷ zs) last (are.0, few) is) are.1

  pub next-by : (Q : List Y → Type 0) (xs : List X) (i : ℕ) (x : X) → i < length xs → x ≡ get_or xs i x
      → ((zs : List Y) (y : Y) → AreEach Is (take i xs) zs → Is x y → Q (zs ++ y ∷ []))
      → (ys : List Y) → AreEach Is (take (i + 1) xs) ys → Q ys
  next-by Q xs i x within at holds ys are =
      last-by Q x (take i xs) ys holds
      (subst (λ zs. AreEach Is zs ys) (take_more xs i x within ∙ ap (λ y. take i xs ++ y ∷ []) (sym at)) are)

-- ---- the seconds that are shown

pub shown-more : (many : Bool) (captures : List (List SecondHeard)) (seconds : List SecondHeard)
    → shown_seconds many (captures ++ seconds ∷ []) ≡ shown_seconds many captures ++ shown_seconds many (seconds ∷ [])
shown-more true captures seconds = filter-append (λ seconds. nat_lt 0 (length seconds)) captures (seconds ∷ [])
shown-more false captures seconds = refl

-- those of one capture more
pub shown-next : (many : Bool) (each : List (List Hearing)) (heard : List Hearing) (key : Key) (shown : List (List SecondHeard))
    (seconds : List SecondHeard) (more : List (List SecondHeard)) → AreSecondsHeard heard key seconds
    → more ≡ shown ++ shown_seconds many (seconds ∷ []) → AreShownBy many each key shown → AreShownBy many (each ++ heard ∷ []) key more
shown-next many each heard key shown seconds more are pushed was = record {
  all = was.all ++ seconds ∷ [];
  are = each-more (λ hearings told. AreSecondsHeard hearings key told) each was.all heard seconds was.are are;
  shown = pushed ∙ ap (λ (all : List (List SecondHeard)). all ++ shown_seconds many (seconds ∷ [])) was.shown
      ∙ sym (shown-more many was.all seconds);
}

-- ---- the seconds that are told, or else those that are held

-- the seconds that captures hold are those in which each heard the record
held-each : (key : Key) (chronicles : List Accounts) (each : List (List Hearing)) → AreEach Chronicles chronicles each
    → AreEach (λ hearings seconds. AreSecondsHeard hearings key seconds) each (map (λ c. seconds_held c key) chronicles)
held-each key [] [] are = tt
held-each key [] (heard ∷ each) are = absurd are
held-each key (c ∷ chronicles) [] are = absurd are
held-each key (c ∷ chronicles) (heard ∷ each) are = (heard-held c heard are.0 key, held-each key chronicles each are.1)

module _ (hearers : Hearers) (each : List (List Hearing)) (are : AreEach Chronicles hearers.chronicles.now each)
    (gives : GivesSeconds (nat_lt 4 (length hearers.chronicles.now)) (λ key. each) hearers.by_record) (key : Key) where
  heard-by : (told : Option (Vec (Vec SecondHeard))) → get key_cmp hearers.by_record key ≡ told
      → AreShownBy (nat_lt 4 (length hearers.chronicles.now)) each key
      (unwrap_or (option_map (λ (heard : Vec (Vec SecondHeard)). map seconds_lent heard.items) told) (held_lent hearers.chronicles.now key))
  heard-by None is = record {
    all = map (λ c. seconds_held c key) hearers.chronicles.now;
    are = held-each key hearers.chronicles.now each are;
    shown = refl;
  }
  heard-by (Some heard) is = gives key heard is

  pub shown-lent : AreShownBy (nat_lt 4 (length each)) each key (heard_lent hearers key)
  shown-lent =
      subst (λ (n : ℕ). AreShownBy (nat_lt 4 n) each key (heard_lent hearers key))
      (each-count Chronicles hearers.chronicles.now each are) (heard-by (get key_cmp hearers.by_record key) refl)

-- ---- one row more

-- the record with its lives alone
abbrev pub record_in : Row → Latest × List Life
record_in row = (row.last, row.lives)

pub row-more : (Is : Row → Type 0) (rows : List CountedRow) (row : CountedRow) (more : List CountedRow) → more ≡ rows ++ row ∷ []
    → All Is (map counted_lent rows) → Is (counted_lent row) → All Is (map counted_lent more)
row-more Is rows row more pushed all is =
    All-same Is (map counted_lent more) (map counted_lent rows ++ counted_lent row ∷ [])
    (ap (map counted_lent) pushed ∙ map-append counted_lent rows (row ∷ []))
    (All-append Is (map counted_lent rows) (counted_lent row ∷ []) all (All-cons Is (counted_lent row) [] is (All-nil Is)))

-- WHAT FUNCTIONS ARE PROVED BY

pub ruleset for_counted_rows = (record_in, row-more, append-nil, map-append)
