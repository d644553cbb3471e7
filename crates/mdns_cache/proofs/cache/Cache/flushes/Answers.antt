use Rattle.std.proofs.Common.{[], ◌≡◌, List, ℕ, Some, None, true, ◌↔◌, subst, sym, ap, ◌∙◌, unwrap_or, Option, refl}
use Rattle.mdns_message.specs.{RecordSet.{RecordSet}, declared.hearing.Hearing.{Hearing}}
use Rattle.mdns_join.specs.Kept.{has, IsKept}
use Rattle.mdns_cache.specs.{Live.{flush_moments}, Contents.{Contents, StandsFor, flushes_at}}
use Rattle.mdns_cache.proofs.MeaningLemmas.{flushes-held, flushes-none}
use Rattle.mdns_cache.proofs.cache.Cache.flushes.Goals as goal

held : (cache : Contents) (heard : List Hearing) (set : RecordSet) (o : Option (List ℕ)) → flushes_at set cache ≡ o
    → StandsFor cache heard → (moment : ℕ)
    → (has (unwrap_or o []) moment ≡ true) ↔ IsKept (flush_moments heard set) moment
held cache heard set None is s moment = flushes-none cache heard set is s moment
held cache heard set (Some ms) is s moment = flushes-held cache heard set ms is s moment

pub returns-clause-value : goal.returns-clause-value
returns-clause-value c =
    c.all_of.ensures.value ∙ ap (λ o. unwrap_or o []) c.get.ensures.value
    ∙ ap (λ (x : Contents). unwrap_or (flushes_at c.args.set.now x) []) c.self.view_is

pub returns-clause-stands : goal.returns-clause-stands
returns-clause-stands c = λ heard s moment.
    subst (λ (ms : List ℕ). (has ms moment ≡ true) ↔ IsKept (flush_moments heard c.args.set.now) moment)
    (sym (returns-clause-value c))
    (held c.args.self.now heard c.args.set.now _ refl s moment)
