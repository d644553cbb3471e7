use Rattle.mdns_message.specs.Borrowed.{hearing_lent}
use Rattle.mdns_cache.specs.Repeats.{contents_at_each}
use Rattle.mdns_cache.proofs.{BetweenLemmas.{IsContents-each}, StepLemmas.{whole_join, hear_each_stands}}
use Rattle.mdns_cache.proofs.gathering.Gathering.hear_at_each.Goals as goal

pub returns : goal.returns
returns c =
    let h = hearing_lent c.args.hearing.now in
    let ms = c.args.moments.now in
    hear_each_stands c.map_laws.ensures c.args.self.now c.hear_flushes.new.self h ms c.valid.ensures c.requires
    (whole_join c.map_laws.ensures c.args.self.now (contents_at_each h ms) c.raise.new.self c.raise.ensures.was_held
    (IsContents-each h ms c.valid.ensures c.requires.greatest) c.raise.ensures.raised
    c.hear_last.new.self c.in_ok-hear_last.ensures.ok c.hear_last.ensures.rest c.hear_flushes.new.self
    c.in_ok-hear_flushes.ensures.ok c.hear_flushes.ensures.rest)
