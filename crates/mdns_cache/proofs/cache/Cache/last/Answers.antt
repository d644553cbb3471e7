use Rattle.std.proofs.Common.{◌≡◌, Some, None, subst, sym}
use Rattle.mdns_cache.specs.{Live.{IsLast}, Contents.{Contents, last_at}}
use Rattle.mdns_cache.proofs.MeaningLemmas.{IsLast-held, IsUnheard-held}
use Rattle.mdns_cache.proofs.cache.Cache.last.Goals as goal

pub returns-in-Some-clause-stands : goal.returns-in-Some-clause-stands
returns-in-Some-clause-stands c = λ heard s.
    let there = subst (λ (x : Contents). last_at c.args.key.now x ≡ Some c.in-Some.latest.now) c.self.view_is
    (sym c.in-Some.ensures.value) in
    subst (IsLast heard c.args.key.now) (sym c.borrowed_last.ensures)
    (IsLast-held c.args.self.now heard c.args.key.now c.in-Some.latest.now there s)

pub returns-in-None-clause-stands : goal.returns-in-None-clause-stands
returns-in-None-clause-stands c = λ heard s.
    let there = subst (λ (x : Contents). last_at c.args.key.now x ≡ None) c.self.view_is (sym c.in-None.ensures.value) in
    IsUnheard-held c.args.self.now heard c.args.key.now there s
