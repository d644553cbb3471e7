use Rattle.std.proofs.Common.{◌≡◌, ◌∙◌, rules, tests, map, not, string_bytes}
use Rattle.std.specs.List.{list_any, position}
use Rattle.std.proofs.lemmas.{Iterator.{YieldsList-from_slice}, Iterator.Search.{position_from_yields_List}}
use Rattle.mdns_listeners.specs.Groups.{fits}
use Rattle.mdns_listeners.proofs.GroupLemmas.{any_named, position_named}
use Rattle.mdns_listeners.proofs.groups.unfit_prefix.Goals as goal

pub returns : goal.returns
returns c =
    let files = map string_bytes c.args.files.now in
    let at : c.position.result ≡ position (λ prefix. not (list_any (fits (string_bytes prefix)) files)) c.args.prefixes.now =
    position_from_yields_List (λ prefix. not (list_any (fits (string_bytes prefix)) files)) _ _ c.position.result c.position.ensures.ran
    (YieldsList-from_slice c.args.prefixes.now cc) (λ x b q k. search (rules, tests, any_named (fits (string_bytes x.now)) c.args.files.now)) in
    at ∙ position_named (λ prefix. not (list_any (fits prefix) files)) c.args.prefixes.now
