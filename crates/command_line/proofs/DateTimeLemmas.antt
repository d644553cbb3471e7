-- Times, offsets and date-times are read as their grammar says.
use Rattle.std.proofs.Common.{◌≡◌, ◌∙◌, ◌<◌, ◌+◌, ◌*◌, ◌++◌, ◌∷◌, ◌==◌, ℕ, Bool, true, false, cond, IfSome, eqb-true, nat_lt, subst, List}
use Rattle.std.proofs.Common.{[], get_or, drop, Option, Some, None, option_and_then, option_map, refl, sym, ap, arith, inl, inr, Result}
use Rattle.std.proofs.{lemmas.Bool.Decides.{nat_tests}, lemmas.Grind.{common_steps}, lemmas.Option.{none-some, same_Some}}
use Rattle.std.proofs.lemmas.List.{append_assoc, append-nil}
use Rattle.std.specs.Result.{OkIff, result_ok}
use Rattle.mdns_capture.specs.{declared.moment.Moment.{Moment}, Limits.{second}}
use Rattle.command_line.specs.{declared.moments.Offset.{Offset}, declared.moments.Offset.TheVariants.{Ahead, Behind}, Moments.{IsClock}}
use Rattle.command_line.specs.Moments.{IsDateTime, IsLocal, IsOffset, IsOptionalFraction, IsOptionalSecond, IsSeparator, IsTime, day_length}
use Rattle.people_text.specs.{Calendar.{days_of_years}, MomentText.{two_digits}}
use Rattle.command_line.proofs.GrammarLemmas.{Stops, clock-complete, clock-sound, cond-some, date-complete, date-sound, dotted-complete}
use Rattle.command_line.proofs.GrammarLemmas.{dotted-sound, map-some, same-parts, then-some, two-complete, two-sound}
use Rattle.people_text.proofs.CalendarLemmas.{days_of_years_1970}
use Rattle.command_line.specs.MomentReading as reading

-- ---- seconds

second-complete : (more rest : List ℕ) (seconds nanos : ℕ) → IsOptionalSecond more seconds nanos → Stops rest
    → reading.read_second (more ++ rest) ≡ Some ((seconds, nanos), rest)
unfolding reading.read_second
second-complete more rest seconds nanos is stops = grind (arith, nat_tests, dotted-complete, two-complete)

colon-first : (text : List ℕ) → get_or text 0 0 ≡ 58 → text ≡ 58 ∷ drop 1 text
colon-first text is = grind arith

small-second : (n : ℕ) → nat_lt n 60 ≡ true → n < 60
small-second n small = grind (arith, nat_tests)

abbrev HasSecond : List ℕ → List ℕ → ℕ → ℕ → Type 0
HasSecond text rest seconds nanos = (more : List ℕ) × IsOptionalSecond more seconds nanos × (text ≡ more ++ rest)

second-sound : (text rest : List ℕ) (seconds nanos : ℕ) → reading.read_second text ≡ Some ((seconds, nanos), rest) → HasSecond text rest seconds nanos
unfolding reading.read_second
second-sound text rest seconds nanos e = go (get_or text 0 0 == 58) refl e
  where
    with_fraction : ℕ × List ℕ → Option ((ℕ × ℕ) × List ℕ)
    with_fraction read = cond (nat_lt read.0 60)
        (option_map {U = (ℕ × ℕ) × List ℕ} (λ fraction. ((read.0, fraction.0), fraction.1)) (reading.read_fraction read.1)) None

    go : (b : Bool) → (get_or text 0 0 == 58) ≡ b
        → cond b (option_and_then with_fraction (reading.read_two_digits (drop 1 text))) (Some ((0, 0), text)) ≡ Some ((seconds, nanos), rest)
        → HasSecond text rest seconds nanos
    go false is read = grind (arith, same-parts)
    go true is read =
        then-some with_fraction (reading.read_two_digits (drop 1 text)) _ read λ digits read_digits e₁. below (nat_lt digits.0 60) digits refl read_digits e₁
      where
        below : (b : Bool) (digits : ℕ × List ℕ) → nat_lt digits.0 60 ≡ b → reading.read_two_digits (drop 1 text) ≡ Some digits
            → cond b (option_map {U = (ℕ × ℕ) × List ℕ} (λ fraction. ((digits.0, fraction.0), fraction.1)) (reading.read_fraction digits.1)) None ≡ Some ((seconds, nanos), rest)
            → HasSecond text rest seconds nanos
        below false digits small read_digits e₁ = absurd (none-some _ e₁)
        below true digits small read_digits e₁ =
            let (fraction, read_fraction, same) = map-some _ (reading.read_fraction digits.1) _ e₁ in
            let values : (digits.0, fraction.0) ≡ (seconds, nanos) = ap (λ p. p.0) same in
            let left : fraction.1 ≡ rest = ap (λ p. p.1) same in
            let of_minute : digits.0 ≡ seconds = ap (λ p. p.0) values in
            let value : fraction.0 ≡ nanos = ap (λ p. p.1) values in
            let (dotted, dotted_is, at_fraction) = dotted-sound digits.1 fraction.1 fraction.0 read_fraction in
            let two = two-sound (drop 1 text) digits.1 digits.0 read_digits in
            let more = 58 ∷ (two_digits digits.0 ++ dotted) in
            let of_digits : IsOptionalSecond more digits.0 nanos = inr (record {
              second_is = small-second digits.0 small;
              fraction = dotted;
              fraction_is = subst (IsOptionalFraction dotted) value dotted_is;
              written = refl;
            }) in
            let written : text ≡ more ++ fraction.1 =
            colon-first text (eqb-true _ _ is) ∙ ap (λ t. 58 ∷ t) (two.1 ∙ ap (λ t. two_digits digits.0 ++ t) at_fraction) in
            (more, subst (λ s. IsOptionalSecond more s nanos) of_minute of_digits, written ∙ ap (λ t. more ++ t) left)

-- ---- times

pub time-complete : (time rest : List ℕ) (seconds nanos : ℕ) → IsTime time seconds nanos → Stops rest
    → reading.read_time (time ++ rest) ≡ Some ((seconds, nanos), rest)
unfolding reading.read_time
time-complete time rest seconds nanos is stops =
    let second = second-complete is.more rest is.of_minute nanos is.more_is stops in
    let clock = clock-complete is.clock (is.more ++ rest) is.minutes is.clock_is in
    rw (is.written, append_assoc is.clock is.more rest, clock, second, is.seconds_are) refl

pub time-sound : (text rest : List ℕ) (seconds nanos : ℕ) → reading.read_time text ≡ Some ((seconds, nanos), rest)
    → (time : List ℕ) × IsTime time seconds nanos × (text ≡ time ++ rest)
unfolding reading.read_time
time-sound text rest seconds nanos e =
    then-some _ (reading.read_minutes text) _ e λ minutes read_minutes e₁.
    then-some _ (reading.read_second minutes.1) _ e₁ λ second read_second e₂.
    let (values, left) = same-parts (minutes.0 * 60 + second.0.0, second.0.1) (seconds, nanos) second.1 rest e₂ in
    let of_day : minutes.0 * 60 + second.0.0 ≡ seconds = ap (λ p. p.0) values in
    let value : second.0.1 ≡ nanos = ap (λ p. p.1) values in
    let (clock, clock_is, at_second) = clock-sound text minutes.1 minutes.0 read_minutes in
    let (more, more_is, at_rest) = second-sound minutes.1 second.1 second.0.0 second.0.1 read_second in (
      clock ++ more,
      record {
        clock = clock;
        minutes = minutes.0;
        clock_is = clock_is;
        more = more;
        of_minute = second.0.0;
        more_is = subst (λ n. IsOptionalSecond more second.0.0 n) value more_is;
        written = refl;
        seconds_are = sym of_day;
      },
      rw (← left) (at_second ∙ ap (λ t. clock ++ t) at_rest ∙ sym (append_assoc clock more second.1)),
    )

-- ---- offsets

pub offset-stops : (zone : List ℕ) (offset : Offset) → IsOffset zone offset → Stops zone
offset-stops zone offset is = grind arith

clock-whole : (text : List ℕ) (minutes : ℕ) → IsClock text minutes → reading.whole (reading.read_minutes text) ≡ Some minutes
clock-whole text minutes is = grind (arith, append-nil text, clock-complete text [] minutes is)

pub offset-complete : (zone : List ℕ) (offset : Offset) → IsOffset zone offset → reading.read_offset zone ≡ Some offset
unfolding reading.read_offset
offset-complete [] offset is = absurd is
offset-complete (sign ∷ text) (Ahead minutes) (inl (inl upper, none, zero_is)) = rw (upper, none, zero_is) refl
offset-complete (sign ∷ text) (Ahead minutes) (inl (inr lower, none, zero_is)) = rw (lower, none, zero_is) refl
offset-complete (sign ∷ text) (Ahead minutes) (inr is) = rw (is.0, clock-whole text minutes is.1) refl
offset-complete (sign ∷ text) (Behind minutes) is = rw (is.0, clock-whole text minutes is.1) refl

whole-some : {A : Type 0} (read : Option (A × List ℕ)) (a : A) → reading.whole read ≡ Some a → read ≡ Some (a, [])
whole-some read a e = grind (arith, none-some, same_Some)

whole-clock : (text : List ℕ) (minutes : ℕ) → reading.whole (reading.read_minutes text) ≡ Some minutes → IsClock text minutes
whole-clock text minutes e = grind (arith, clock-sound, whole-some, append-nil)

pub offset-sound : (zone : List ℕ) (offset : Offset) → reading.read_offset zone ≡ Some offset → IsOffset zone offset
unfolding reading.read_offset
offset-sound zone offset e = grind (arith, none-some, map-some, eqb-true, whole-clock, nat_tests, whole-some, same-parts)

-- ---- date-times

separator-complete : (separator : ℕ) (rest : List ℕ) → IsSeparator separator → reading.after_separator (separator ∷ rest) ≡ Some rest
separator-complete separator rest is = grind arith

separator-sound : (text rest : List ℕ) → reading.after_separator text ≡ Some rest → (separator : ℕ) × IsSeparator separator × (text ≡ separator ∷ rest)
separator-sound text rest e = grind (arith, none-some, cond-some, nat_tests)

pub date_time-complete : (text : List ℕ) (moment : Moment) (is : IsDateTime text moment)
    → reading.read_date_time text ≡ Some (is.days * 86400 + is.seconds, is.nanos, is.offset)
unfolding reading.read_date_time
date_time-complete text moment is =
    let zone = offset-complete is.zone is.offset is.offset_is in
    let time = time-complete is.time is.zone is.seconds is.nanos is.time_is (offset-stops is.zone is.offset is.offset_is) in
    let after = separator-complete is.separator (is.time ++ is.zone) is.separator_is in
    let date = date-complete is.date (is.separator ∷ (is.time ++ is.zone)) is.days is.date_is in
    rw (is.written, date, after, time, zone) refl

pub date_time-sound : (text : List ℕ) (local nanos : ℕ) (offset : Offset) → reading.read_date_time text ≡ Some (local, nanos, offset)
    → (since : ℕ) (moment : Moment) → IsLocal offset (days_of_years 1970 * day_length + since) local → moment.nanos ≡ since * second + nanos
    → IsDateTime text moment
unfolding reading.read_date_time
date_time-sound text local nanos offset e since moment is_local is_moment =
    then-some _ (reading.read_date text) _ e λ date read_date e₁.
    then-some _ (option_and_then reading.read_time (reading.after_separator date.1)) _ e₁ λ time led_time e₂.
    then-some reading.read_time (reading.after_separator date.1) time led_time λ at_time after read_time.
    then-some _ (reading.read_offset time.1) _ e₂ λ found read_offset e₃.
    let same : ◌≡◌ {A = ℕ × ℕ × Offset} (date.0 * 86400 + time.0.0, time.0.1, found) (local, nanos, offset) = same_Some _ _ e₃ in
    let (full_date, date_is, at_separator) = date-sound text date.1 date.0 read_date in
    let (separator, separator_is, at_partial) = separator-sound date.1 at_time after in
    let (partial, time_is, at_zone) = time-sound at_time time.1 time.0.0 time.0.1 read_time in
    let local_is : date.0 * 86400 + time.0.0 ≡ local = ap (λ p. p.0) same in
    let nanos_are : time.0.1 ≡ nanos = ap (λ p. p.1) same in
    let offset_is : found ≡ offset = ap (λ p. p.2) same in
    record {
      date = full_date;
      days = date.0;
      date_is = date_is;
      separator = separator;
      separator_is = separator_is;
      time = partial;
      seconds = time.0.0;
      nanos = time.0.1;
      time_is = time_is;
      zone = time.1;
      offset = found;
      offset_is = offset-sound time.1 found read_offset;
      written = at_separator ∙ ap (λ t. full_date ++ t) (at_partial ∙ ap (λ t. separator ∷ t) at_zone);
      since = since;
      since_is = rw (local_is, offset_is) is_local;
      moment_is = rw nanos_are is_moment;
    }

-- the moments of a date-time that was read
pub moments-told : (text : List ℕ) (local nanos : ℕ) (offset : Offset) → reading.read_date_time text ≡ Some (local, nanos, offset)
    → (since : ℕ) → IsLocal offset (days_of_years 1970 * day_length + since) local
    → (found : Option Moment) → IfSome found (λ moment. moment.nanos ≡ since * second + nanos) → IfSome found (IsDateTime text)
moments-told text local nanos offset read since is_local found made = grind (arith, date_time-sound)

-- no moment is that of a date-time whose second 32 bits don't hold
pub unread-told : (text : List ℕ) (local nanos : ℕ) (offset : Offset) → reading.read_date_time text ≡ Some (local, nanos, offset)
    → ((since : ℕ) → since < 4294967296 → IsLocal offset (days_of_years 1970 * day_length + since) local → ⊥)
    → (moment : Moment) → IsDateTime text moment → ⊥
unread-told text local nanos offset read never moment is =
    let same : ◌≡◌ {A = ℕ × ℕ × Offset} (is.days * 86400 + is.seconds, is.nanos, is.offset) (local, nanos, offset) =
    same_Some _ _ (sym (date_time-complete text moment is) ∙ read) in
    let limit = moment.limit in
    let has = is.since_is in
    never is.since (omega (arith, limit, is.moment_is)) (rw (← ap (λ p. p.0) same, ← ap (λ p. p.2) same) has)

-- ---- offsets

-- a clock with an offset shows one moment of UTC
pub same-utc : (offset : Offset) (utc other local : ℕ) → IsLocal offset utc local → IsLocal offset other local → utc ≡ other
same-utc offset utc other local one two = grind arith

pub since-told : {E : Type 0} (offset : Offset) (utc since local : ℕ) (r : Result ℕ E) (found : Option ℕ) → OkIff r (since < 4294967296) since
    → found ≡ result_ok r → IsLocal offset utc local → utc ≡ days_of_years 1970 * day_length + since
    → IfSome found (λ s. IsLocal offset (days_of_years 1970 * day_length + s) local)
since-told offset utc since local r found only is has same = grind arith

pub ruleset for_since_1970 = (same-utc, since-told, common_steps, nat_tests, days_of_years_1970)
