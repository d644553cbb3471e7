use Rattle.std.proofs.Common.{ap, subst, sym, ◌∙◌}
use Rattle.mdns_message.specs.Resource.{key_cmp, set_key_cmp}
use Rattle.join_map.specs.Entries.{gathered}
use Rattle.mdns_join.specs.Kept.{union}
use Rattle.mdns_lives.specs.{Account.{join_account}, Chronicle.{Accounts, accounts, Chronicles}}
use Rattle.mdns_lives.proofs.chronicle.Chronicle.finish.Goals as goal

pub returns-clause-stands : goal.returns-clause-stands
returns-clause-stands c = λ heard s.
    let records = c.in_ok-from_entries-2.ensures
    ∙ ap (gathered key_cmp join_account) (c.sorted.ensures ∙ c.into_entries-2.ensures.equal) in
    let flushes = c.in_ok-from_entries.ensures
    ∙ ap (gathered set_key_cmp union) (c.in_ok-flushes.ensures.same ∙ c.into_entries.ensures.equal) in
    subst (λ (x : Accounts). Chronicles x heard)
    (sym ((λ i. accounts (records i) (flushes i) c.self.inside.newest) ∙ c.self.view_is)) s
