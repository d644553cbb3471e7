-- The lives of a record by its history are those by all hearings.
use Rattle.std.proofs.Common.{rules, ◌≡◌, ◌≢◌, ℕ, ◌+◌, ◌<◌, ◌≤◌, List, Contains, Option, None, map, refl, sym, ap, ◌∙◌, subst, arith}
use Rattle.std.proofs.Common.{leb-true, le-leb}
use Rattle.std.proofs.lemmas.Bool.{cases_lt}
use Rattle.std.specs.{Prelude.{nat_le}, declared.cmp.Ordering.TheVariants.{Greater}}
use Rattle.mdns_capture.specs.{Limits.{second}, declared.moment.Moment.{Moment}}
use Rattle.mdns_message.specs.declared.{hearing.Hearing.{Hearing}, key.Key.{Key}}
use Rattle.mdns_join.specs.{declared.latest.Latest.{Latest}, Latest.{latest_cmp, latest_of}, Kept.{IsStruckBy}, laws.Latest.{moment-same}}
use Rattle.mdns_cache.specs.Live.{IsHeard, IsLast, life_of, IsStruck}
use Rattle.mdns_lives.specs.declared.life.{RecordHearing.{RecordHearing}, Life.{Life}, EndReason.{EndReason}}
use Rattle.mdns_lives.specs.declared.life.EndReason.TheVariants.{Expired, Goodbye, Flushed}
use Rattle.mdns_lives.specs.Lives.{heard_until, IsLiveThen, IsStruckAt, IsEndFor, EndsThen, IsGoodbyeOf, IsTakenBack, AreLives}
use Rattle.mdns_lives.specs.History.{heard_of, IsHistory, AreFlushes, IsUpTo, IsLastAt, IsLiveAt, IsFlushEnd, IsEndBy, EndsBy, AreLivesBy}
use Rattle.mdns_lives.specs.LifeWalk.{with_taken_back}
use Rattle.mdns_cache.proofs.StandsPartLemmas.{from_map}
use Rattle.mdns_lives.proofs.{FilterLemmas.{from-filter, to-filter}, OrderLemmas.{heard-same, same_moment, same_ttl}}
use Rattle.mdns_lives.proofs.GoodbyeLemmas.{with_taken_back-apart, with_taken_back-in_one, with_taken_back-taken}

-- ---- the hearings until a moment

pub until-in : (now : ℕ) (heard : List Hearing) (h : Hearing) → Contains (heard_until now heard) h
    → Contains heard h × (h.moment.nanos ≤ now)
until-in now heard h m = grind (arith, from-filter (λ (x : Hearing). nat_le x.moment.nanos now) heard h m, leb-true)

pub until-from : (now : ℕ) (heard : List Hearing) (h : Hearing) → Contains heard h → h.moment.nanos ≤ now
    → Contains (heard_until now heard) h
until-from now heard h m l = to-filter (λ (x : Hearing). nat_le x.moment.nanos now) heard h m (le-leb h.moment.nanos now l)

-- ---- last hearings without their spelling

abbrev pub heard_as : Latest → RecordHearing
heard_as l = record { moment = l.moment; ttl = l.ttl }

pub IsUpTo-from_cmp : (a b : Latest) → latest_cmp a b ≢ Greater → IsUpTo (heard_as a) (heard_as b)
IsUpTo-from_cmp a b n = search (rules, cases_lt)

-- each record that was heard has a last hearing
abbrev pub SomeLast : Type 0
SomeLast = (heard : List Hearing) (key : Key) → IsHeard heard key → (l : Latest) × IsLast heard key l

module _ (some_last : SomeLast) (heard : List Hearing) (key : Key) (history : List RecordHearing) (flushes : List ℕ)
    (is_history : IsHistory heard key history) (are_flushes : AreFlushes heard key.set flushes) where
  IsLastAt-from_last : (now : ℕ) (l : Latest) → IsLast (heard_until now heard) key l → IsLastAt history now (heard_as l)
  IsLastAt-from_last now l p =
      let here = until-in now heard p.hearing p.among in
      let gives : heard_of p.hearing ≡ heard_as l = ap heard_as p.gives in
      record {
        among = (is_history (heard_as l)).1
            (record { hearing = p.hearing; among = here.0; of_record = p.of_record; gives = gives });
        by_then = subst (λ (x : RecordHearing). x.moment.nanos ≤ now) gives here.1;
        greatest = λ other m e.
            let w = (is_history other).0 m in
            let early = subst (λ (x : RecordHearing). x.moment.nanos ≤ now) (sym w.gives) e in
            let no_greater = p.greatest w.hearing (until-from now heard w.hearing w.among early) w.of_record in
            subst (λ (x : RecordHearing). IsUpTo x (heard_as l)) w.gives (IsUpTo-from_cmp (latest_of w.hearing) l no_greater);
      }

  -- the last hearing with that moment and TTL
  record IsLastAs (now : ℕ) (h : RecordHearing) : Type 0 where
    pub last : Latest
    pub is_last : IsLast (heard_until now heard) key last
    pub moment : last.moment.nanos ≡ h.moment.nanos
    pub ttl : last.ttl ≡ h.ttl

  IsLastAs-from : (now : ℕ) (h : RecordHearing) → IsLastAt history now h → IsLastAs now h
  IsLastAs-from now h p =
      let w = (is_history h).0 p.among in
      let early = subst (λ (x : RecordHearing). x.moment.nanos ≤ now) (sym w.gives) p.by_then in
      let some = some_last (heard_until now heard) key
      (record { hearing = w.hearing; among = until-from now heard w.hearing w.among early; of_record = w.of_record }) in
      let at = IsLastAt-from_last now some.0 some.1 in
      let up = at.greatest h p.among p.by_then in
      let down = p.greatest (heard_as some.0) at.among at.by_then in
      record {
        last = some.0;
        is_last = some.1;
        moment = same_moment (heard_as some.0) h down up;
        ttl = same_ttl (heard_as some.0) h down up;
      }

  -- ---- flushes

  struck-into : (now t : ℕ) → IsStruck (heard_until now heard) now key t → IsStruckBy flushes t now
  struck-into now t s = record {
    flush = s.flush.moment.nanos;
    among = (are_flushes s.flush.moment.nanos).1
        (record { flush = s.flush; among = (until-in now heard s.flush s.strikes.among).0; of_set = s.strikes.of_set; at_it = refl });
    later = s.strikes.later;
    old = s.old;
  }

  struck-from : (now t : ℕ) → IsStruckBy flushes t now → IsStruck (heard_until now heard) now key t
  struck-from now t s =
      let w = (are_flushes s.flush).0 s.among in
      let at : w.flush.moment.nanos ≡ s.flush = w.at_it in
      let later : t + second < s.flush = s.later in
      let old : s.flush + second ≤ now = s.old in
      record {
        flush = w.flush;
        strikes = grind (arith, until-from);
        old = omega (arith, at, old);
      }

  flush_end-into : (t end : ℕ) → IsStruckAt heard key t end → IsFlushEnd flushes t end
  flush_end-into t end s = record {
    flush = s.0.moment.nanos;
    among = (are_flushes s.0.moment.nanos).1 (record { flush = s.0; among = s.1.among; of_set = s.1.of_set; at_it = refl });
    later = s.1.later;
    at_it = s.2;
  }

  flush_end-from : (t end : ℕ) → IsFlushEnd flushes t end → IsStruckAt heard key t end
  flush_end-from t end s =
      let w = (are_flushes s.flush).0 s.among in
      let at : w.flush.moment.nanos ≡ s.flush = w.at_it in
      let later : t + second < s.flush = s.later in
      let ends : s.flush + second ≡ end = s.at_it in
      (w.flush, record { among = w.among; of_set = w.of_set; later = omega (arith, at, later) }, omega (arith, at, ends))

  -- ---- liveness

  live-into : (now : ℕ) → IsLiveThen heard key now → IsLiveAt history flushes now
  live-into now w = record {
    last = heard_as w.0;
    is_last = IsLastAt-from_last now w.0 w.1.last;
    running = w.1.running;
    unstruck = λ s. w.1.unstruck (struck-from now w.0.moment.nanos s);
  }

  out-same : (l : Latest) (h : RecordHearing) → l.moment.nanos ≡ h.moment.nanos → l.ttl ≡ h.ttl
      → l.moment.nanos + life_of l.ttl ≡ h.moment.nanos + life_of h.ttl
  out-same l h e f = ap (λ n. n + life_of l.ttl) e ∙ ap (λ n. h.moment.nanos + life_of n) f

  live-from : (now : ℕ) → IsLiveAt history flushes now → IsLiveThen heard key now
  live-from now w =
      let found = IsLastAs-from now w.last w.is_last in
      let out = out-same found.last w.last found.moment found.ttl in (
        found.last,
        grind (arith, struck-into),
      )

  -- ---- reasons

  end_for-into : (l : Latest) (end : ℕ) (reason : EndReason) → IsEndFor heard key l end reason
      → IsEndBy flushes (heard_as l) end reason
  end_for-into l end Expired e = e
  end_for-into l end Goodbye e = e
  end_for-into l end Flushed e = (e.0, flush_end-into l.moment.nanos end e.1)

  end_for-from : (l : Latest) (h : RecordHearing) (end : ℕ) (reason : EndReason) → l.moment.nanos ≡ h.moment.nanos → l.ttl ≡ h.ttl
      → IsEndBy flushes h end reason → IsEndFor heard key l end reason
  end_for-from l h end Expired e f p = let out = out-same l h e f in (omega (arith, f, p.0), p.1 ∙ sym out)
  end_for-from l h end Goodbye e f p = let out = out-same l h e f in (omega (arith, f, p.0), p.1 ∙ sym out)
  end_for-from l h end Flushed e f p =
      grind (arith, out-same l h e f, flush_end-from l.moment.nanos end (subst (λ t. IsFlushEnd flushes t end) (sym e) p.1))

  ends-into : (life : Life) → EndsThen heard key life → EndsBy history flushes life
  ends-into life w =
      let same : heard_as w.last ≡ life.last =
      heard-same (heard_as w.last) life.last (ap (λ (m : Moment). m.nanos) w.moment) w.ttl in
      grind (arith, IsLastAt-from_last life.until w.last w.is_last, end_for-into w.last life.until life.reason w.ends)

  ends-from : (life : Life) → EndsBy history flushes life → EndsThen heard key life
  ends-from life w =
      let found = IsLastAs-from life.until life.last w.is_last in
      record {
        last = found.last;
        is_last = found.is_last;
        moment = moment-same found.last.moment life.last.moment found.moment;
        ttl = found.ttl;
        ends = end_for-from found.last life.last life.until life.reason found.moment found.ttl w.ends;
      }

  -- ---- the lives

  pub AreLives-from_history : (goodbye : Option Moment) → IsGoodbyeOf heard key goodbye → (lives : List Life)
      → AreLivesBy history flushes lives → AreLives heard key (map (with_taken_back goodbye) lives)
  AreLives-from_history goodbye is lives are = record {
    apart = with_taken_back-apart goodbye lives are.apart;
    exactly = λ now. let same = with_taken_back-in_one goodbye lives now in
        (λ w. same.1 ((are.exactly now).0 (live-into now w)), λ w. live-from now ((are.exactly now).1 (same.0 w)));
    ends = λ life m. let w = from_map (with_taken_back goodbye) lives life m in
        let e = ends-from w.0 (are.ends w.0 w.2) in
        subst (EndsThen heard key) w.1
        (record { last = e.last; is_last = e.is_last; moment = e.moment; ttl = e.ttl; ends = e.ends });
    goodbyes = λ life m. let w = from_map (with_taken_back goodbye) lives life m in
        subst (IsTakenBack heard key) w.1 (with_taken_back-taken heard key goodbye is w.0);
  }

  pub AreLivesBy-from_lives : (lives : List Life) → AreLives heard key lives → AreLivesBy history flushes (map (with_taken_back None) lives)
  AreLivesBy-from_lives lives are = record {
    apart = with_taken_back-apart None lives are.apart;
    exactly = λ now. let same = with_taken_back-in_one None lives now in
        (λ w. same.1 ((are.exactly now).0 (live-from now w)), λ w. live-into now ((are.exactly now).1 (same.0 w)));
    ends = λ life m. let w = from_map (with_taken_back None) lives life m in
        let e = ends-into w.0 (are.ends w.0 w.2) in
        subst (EndsBy history flushes) w.1 (record { is_last = e.is_last; ends = e.ends });
    untold = λ life m. let w = from_map (with_taken_back None) lives life m in subst (λ (x : Life). x.taken_back ≡ None) w.1 refl;
  }
