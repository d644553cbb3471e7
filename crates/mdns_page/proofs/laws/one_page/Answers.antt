use Rattle.mdns_page.proofs.OnePageLemmas.{one_page}
use Rattle.mdns_page.proofs.laws.one_page.Goals as goal

pub returns : goal.returns
returns c =
    one_page c.one_reading.ensures.unique c.one_telling.ensures.unique c.one_payload.ensures c.payload_or_skip.ensures.not_both
    c.skip_is_of_the_cause.ensures c.one_list_of_rows.ensures c.one_all.ensures.same
