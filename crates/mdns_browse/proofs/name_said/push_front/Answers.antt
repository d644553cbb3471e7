use Rattle.std.proofs.{Common.{arith, string_bytes}}
use Rattle.dns_name.proofs.FormLemmas.{IsForm-last}
use Rattle.mdns_browse.proofs.name_said.push_front.Goals as goal

pub returns-in_ok-push_str-in-None-clause-text : goal.returns-in_ok-push_str-in-None-clause-text
returns-in_ok-push_str-in-None-clause-text c = grind (arith, IsForm-last _ c.in-None.ensures.none c.requires, string_bytes c.args.to.now)

pub returns-in_ok-push_str-in-None-clause-rest : goal.returns-in_ok-push_str-in-None-clause-rest
returns-in_ok-push_str-in-None-clause-rest c = grind (arith, IsForm-last _ c.in-None.ensures.none c.requires)
