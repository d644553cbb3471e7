use Rattle.std.proofs.Common.{rules}
use Rattle.mdns_message.proofs.TextDataLemmas.{strings_of-split}
use Rattle.mdns_message.proofs.text_data.first_string.Goals as goal

pub returns-clause-first : goal.returns-clause-first
returns-clause-first c =
    strings_of-split _ c.in_ok-count.after.now _ _ c.in_ok-count.count.now c.min.result (search rules) (search rules)
    (search rules) (search rules)
