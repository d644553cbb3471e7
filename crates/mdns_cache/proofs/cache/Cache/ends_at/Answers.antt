use Rattle.std.proofs.Common.{◌<◌, ◌+◌, List, ℕ, [], ap, sym, subst, ◌∙◌, unwrap_or, arith}
use Rattle.mdns_message.specs.RecordSet.{RecordSet}
use Rattle.mdns_join.specs.declared.latest.Latest.{Latest}
use Rattle.mdns_cache.specs.{Live.{life_of, IsLive, IsEnd}, LentRecords.{end_of, last_lent}, Contents.{flushes_at}}
use Rattle.mdns_cache.proofs.MeaningLemmas.{ends_at-later, ends_at-over}
use Rattle.mdns_cache.proofs.cache.Cache.ends_at.Goals as goal

pub returns-then-nanos-until-clause-end : goal.returns-then-nanos-until-clause-end
returns-then-nanos-until-clause-end c = λ heard s.
    let cache = c.args.self.now in
    let now = c.args.now.nanos in
    let key = c.args.key.now in
    let l = last_lent c.in-Some.last in
    let moments = c.flushes.ensures.value ∙ ap (λ (set : RecordSet). unwrap_or (flushes_at set cache) []) c.set.ensures in
    let held = c.end_of-until.ensures.value ∙ ap (λ (ms : List ℕ). end_of ms l.moment.nanos (l.moment.nanos + life_of l.ttl)) moments in
    let later : now < c.end_of-until.result = omega (arith, c.if-nanos-until.true, c.nanos.ensures) in
    subst (λ n. ((x : Latest) × IsLive heard now key x) × IsEnd heard key n) (sym held)
    (ends_at-later cache heard now key l (sym c.in-Some.ensures.value) c.requires s (subst (λ n. now < n) held later))

pub returns-else-nanos-until-clause-end : goal.returns-else-nanos-until-clause-end
returns-else-nanos-until-clause-end c = λ heard s.
    let cache = c.args.self.now in
    let now = c.args.now.nanos in
    let key = c.args.key.now in
    let l = last_lent c.in-Some.last in
    let moments = c.flushes.ensures.value ∙ ap (λ (set : RecordSet). unwrap_or (flushes_at set cache) []) c.set.ensures in
    let held = c.end_of-until.ensures.value ∙ ap (λ (ms : List ℕ). end_of ms l.moment.nanos (l.moment.nanos + life_of l.ttl)) moments in
    let over : now < c.end_of-until.result → ⊥ = λ h. absurd (omega (arith, h, c.if-nanos-until.false, c.nanos.ensures)) in
    ends_at-over cache heard now key l (sym c.in-Some.ensures.value) c.requires s (subst (λ n. now < n → ⊥) held over)
