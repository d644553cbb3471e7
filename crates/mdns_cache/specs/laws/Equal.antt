-- The test of equal contents is symmetric and transitive.
use Rattle.std.specs.{Prelude.{ℕ, List}, Cmp.{IsPartialEquivalence, and_per, on_per, on_equiv, nat_eq_equiv, eq_by_cmp_equiv}}
use Rattle.std.specs.{Cmp.{partial_equiv_from_equiv}, Cmp.Lexicographic.{lists_per, options_equiv, nat_list_eq_equiv}}
use Rattle.mdns_capture.specs.declared.moment.Moment.{Moment}
use Rattle.mdns_message.specs.{declared.key.Key.{Key}, RecordSet.{RecordSet}, laws.Resource.{key_cmp-total, set_key_cmp-total}}
use Rattle.mdns_join.specs.{declared.latest.Latest.{Latest}, laws.Latest.{latest_cmp-total}}
use Rattle.mdns_cache.specs.{Contents.{Contents}, Equal.{eq_newest, eq_lasts, eq_flushes, eq_contents}}

newest-per : IsPartialEquivalence eq_newest
newest-per = partial_equiv_from_equiv (options_equiv (on_equiv (λ (m : Moment). m.nanos) nat_eq_equiv))

lasts-per : IsPartialEquivalence eq_lasts
lasts-per = lists_per
    (and_per (on_per (λ (e : Key × Latest). e.0) (partial_equiv_from_equiv (eq_by_cmp_equiv key_cmp-total)))
    (on_per (λ (e : Key × Latest). e.1) (partial_equiv_from_equiv (eq_by_cmp_equiv latest_cmp-total))))

flushes-per : IsPartialEquivalence eq_flushes
flushes-per =
    lists_per (and_per (on_per (λ (e : RecordSet × List ℕ). e.0)
    (partial_equiv_from_equiv (eq_by_cmp_equiv set_key_cmp-total)))
    (on_per (λ (e : RecordSet × List ℕ). e.1) (partial_equiv_from_equiv nat_list_eq_equiv)))

-- the test is symmetric and transitive
pub eq_contents-per : IsPartialEquivalence eq_contents
eq_contents-per = and_per (on_per (λ (c : Contents). c.newest) newest-per)
    (and_per (on_per (λ (c : Contents). c.lasts) lasts-per) (on_per (λ (c : Contents). c.flushes) flushes-per))
