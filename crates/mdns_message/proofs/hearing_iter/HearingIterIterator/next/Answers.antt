use Rattle.std.proofs.Common.{◌∙◌, ◌+◌, ◌∷◌, ap, drop, sym}
use Rattle.std.proofs.lemmas.{List.{drop_more}, Option.{get_or_from_slice_get, slice_get_within}}
use Rattle.mdns_message.specs.Borrowed.{hearing_lent}
use Rattle.mdns_message.proofs.hearing_iter.HearingIterIterator.next.Goals as goal

pub returns-clause-steps : goal.returns-clause-steps
returns-clause-steps c =
    let hearings = c.self.inside.heard.now.hearings in
    let at = c.self.inside.at in
    let first = hearing_lent c.get-hearing.result in
    let within = slice_get_within hearings at first c.get-hearing.ensures in
    sym c.self.view_is ∙ drop_more hearings at first within
    ∙ ap (λ hearing. hearing ∷ drop (at + 1) hearings) (get_or_from_slice_get hearings at first first c.get-hearing.ensures)
