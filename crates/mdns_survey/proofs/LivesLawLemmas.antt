-- The same hearings and moments have the same lives.
use Rattle.std.proofs.Common.{◌≡◌, ◌∙◌, ℕ, ◌≤◌, List, [], ◌∷◌, Option, Some, refl, ap, subst, inl, inr, arith}
use Rattle.std.specs.Prelude.{Contains}
use Rattle.std.proofs.Math.Nat.{le-max_left, le-max_right, max-le}
use Rattle.mdns_capture.specs.declared.moment.Moment.{Moment}
use Rattle.mdns_message.specs.declared.hearing.Hearing.{Hearing}
use Rattle.mdns_join.specs.declared.latest.Latest.{Latest}
use Rattle.mdns_cache.specs.Live.{SameHearings}
use Rattle.mdns_lives.specs.declared.{life.Life.{Life}, life.Which.{Which}, window.Window.{Window}}
use Rattle.mdns_lives.specs.{Changes.{chosen}, Chronicle.{AreAllLives}}
use Rattle.mdns_browse.specs.{declared.about.Subject.{Subject}, declared.report.Form.{Form}, LifeText.{lives_report}}
use Rattle.mdns_cache.proofs.StandsPartLemmas.{Contains-cases, Contains-head, Contains-later}
use Rattle.mdns_survey.specs.declared.request.{AsOf.{AsOf}, AsOf.TheVariants.{Newest, At, Before}}
use Rattle.mdns_survey.specs.LivesAnswer.{SurveysLives, WritesLives, captures_begin, earliest_nanos, captures_end, kept_rows, latest_nanos}
use Rattle.mdns_survey.specs.Filter.{filter_of}
use Rattle.mdns_survey.proofs.FactLemmas.{IsByFacts, Within}

-- THE LAWS BELOW

-- the lives by some hearings are those by the same hearings
abbrev pub SharedLives : Type 0
SharedLives =
    (heard others : List Hearing) (rows : List (Latest × List Life)) → SameHearings heard others → AreAllLives heard rows
    → AreAllLives others rows

-- the same hearings give the same lives
abbrev pub OneLives : Type 0
OneLives =
    (heard others : List Hearing) (rows more : List (Latest × List Life)) → SameHearings heard others
    → AreAllLives heard rows → AreAllLives others more → rows ≡ more

-- THE END OF CAPTURES

latest_among : (moments : List Moment) (moment : Moment) → Contains moments moment → moment.nanos ≤ latest_nanos moments
latest_among [] moment among = absurd (omega (arith, among.1))
latest_among (first ∷ moments) moment among =
    elim (Contains-cases first moments moment among) [
      | inl is ↦ subst (λ (m : Moment). m.nanos ≤ latest_nanos (first ∷ moments)) is (le-max_left first.nanos (latest_nanos moments))
      | inr after ↦ omega (arith, latest_among moments moment after, le-max_right first.nanos (latest_nanos moments))
    ]

latest_least : (moments : List Moment) (most : ℕ) → ((moment : Moment) → Contains moments moment → moment.nanos ≤ most)
    → latest_nanos moments ≤ most
latest_least [] most each = omega arith
latest_least (first ∷ moments) most each =
    max-le (each first (Contains-head first moments))
    (latest_least moments most (λ moment among. each moment (Contains-later first moments moment among)))

earliest_among : (end : ℕ) (moments : List Moment) (moment : Moment) → Contains moments moment → earliest_nanos end moments ≤ moment.nanos
earliest_among end [] moment among = absurd (omega (arith, among.1))
earliest_among end (first ∷ moments) moment among =
    elim (Contains-cases first moments moment among) [
      | inl is ↦ subst (λ (m : Moment). earliest_nanos end (first ∷ moments) ≤ m.nanos) is (grind (arith))
      | inr after ↦ grind (arith, earliest_among end moments moment after)
    ]

earliest_end : (end : ℕ) (moments : List Moment) → earliest_nanos end moments ≤ end
earliest_end end [] = omega arith
earliest_end end (first ∷ moments) = grind (arith, earliest_end end moments)

earliest_greatest : (end : ℕ) (moments : List Moment) (least : ℕ) → least ≤ end
    → ((moment : Moment) → Contains moments moment → least ≤ moment.nanos) → least ≤ earliest_nanos end moments
earliest_greatest end [] least by each = by
earliest_greatest end (first ∷ moments) least by each =
    grind (
      arith,
      each first (Contains-head first moments),
      earliest_greatest end moments least by (λ moment among. each moment (Contains-later first moments moment among)),
    )

module _ (moments others : List Moment) (into : Within moments others) (back : Within others moments) where
  -- the same moments have the same latest one
  same_latest : latest_nanos moments ≡ latest_nanos others
  same_latest =
      let below = latest_least moments (latest_nanos others) (λ moment among. latest_among others moment (into moment among)) in
      let above = latest_least others (latest_nanos moments) (λ moment among. latest_among moments moment (back moment among)) in
      omega (arith, below, above)

  -- and the same earliest one
  same_earliest : (end : ℕ) → earliest_nanos end moments ≡ earliest_nanos end others
  same_earliest end =
      let below = earliest_greatest end others (earliest_nanos end moments) (earliest_end end moments)
      (λ moment among. earliest_among end moments moment (back moment among)) in
      let above = earliest_greatest end moments (earliest_nanos end others) (earliest_end end others)
      (λ moment among. earliest_among end others moment (into moment among)) in
      omega (arith, below, above)

  -- and the same end
  pub same_end : (as_of : AsOf) → captures_end as_of moments ≡ captures_end as_of others
  same_end Newest = same_latest
  same_end (At moment) = refl
  same_end (Before moment) = refl

-- and the same beginning
pub same_begin : (moments others : List Moment) → Within moments others → Within others moments → (as_of : AsOf)
    → captures_begin as_of moments ≡ captures_begin as_of others
same_begin [] [] into back as_of = refl
same_begin [] (other ∷ others) into back as_of = absurd (omega (arith, (back other (Contains-head other others)).1))
same_begin (moment ∷ moments) [] into back as_of = absurd (omega (arith, (into moment (Contains-head moment moments)).1))
same_begin (moment ∷ moments) (other ∷ others) into back as_of =
    let begin : ℕ → Option ℕ = λ n. Some n in
    ap (λ n. begin (earliest_nanos n (moment ∷ moments))) (same_end (moment ∷ moments) (other ∷ others) into back as_of)
    ∙ ap begin (same_earliest (moment ∷ moments) (other ∷ others) into back (captures_end as_of (other ∷ others)))

-- THE TEXT

pub same_itself : (heard : List Hearing) → SameHearings heard heard
same_itself heard = record { into = λ hearing among. among; back = λ hearing among. among }

-- the lives by some hearings are those by the same hearings, between the same moments
shared_lives : SharedLives → (which : Which) (window : Window) (form : Form) (about : List Subject) (heard others : List Hearing)
    (begin begin_too : Option ℕ) (end end_too : ℕ) (text : List ℕ) → SameHearings heard others → begin ≡ begin_too → end ≡ end_too
    → WritesLives which window form about heard begin end text → WritesLives which window form about others begin_too end_too text
shared_lives shared which window form about heard others begin begin_too end end_too text same begins ends writes = record {
  latest = λ hearing among. subst (λ n. hearing.moment.nanos ≤ n) ends (writes.latest hearing (same.back hearing among));
  rows = writes.rows;
  lives = shared heard others writes.rows same writes.lives;
  lines = writes.lines
      ∙ ap (λ (b : Option ℕ). lives_report which window form b end (kept_rows about (chosen which window writes.rows))) begins
      ∙ ap (λ n. lives_report which window form begin_too n (kept_rows about (chosen which window writes.rows))) ends;
}

-- and there is one text of them
one_text : OneLives → (which : Which) (window : Window) (form : Form) (about : List Subject) (heard : List Hearing)
    (begin : Option ℕ) (end : ℕ) (text other : List ℕ) → WritesLives which window form about heard begin end text
    → WritesLives which window form about heard begin end other → text ≡ other
one_text one which window form about heard begin end text other first second = grind (arith, same_itself heard)

-- lives are written by the hearings that count, and the moments of all packets
pub lives-by-facts : SharedLives → OneLives → (which : Which) (window : Window) (form : Form) (about : List Subject) (as_of : AsOf)
    → IsByFacts (λ captures. SurveysLives which window form about captures as_of)
lives-by-facts shared one which window form about as_of = record {
  which = filter_of as_of;
  Writes = λ heard moments. WritesLives which window form about heard (captures_begin as_of moments) (captures_end as_of moments);
  to = λ captures summaries text survey.
      record { packets = survey.packets; outcomes = survey.outcomes; read = survey.read; writes = survey.writes };
  from = λ captures summaries text by. record { packets = by.packets; outcomes = by.outcomes; read = by.read; writes = by.writes };
  shared = λ heard others moments more text same into back writes.
      shared_lives shared which window form about heard others (captures_begin as_of moments) (captures_begin as_of more)
      (captures_end as_of moments) (captures_end as_of more) text same (same_begin moments more into back as_of)
      (same_end moments more into back as_of) writes;
  one = λ heard moments text other first second.
      one_text one which window form about heard (captures_begin as_of moments) (captures_end as_of moments) text other first second;
}
