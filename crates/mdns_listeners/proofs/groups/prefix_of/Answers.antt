use Rattle.std.proofs.Common.{◌≡◌, ◌∙◌, rules, tests, string_bytes}
use Rattle.std.specs.List.{position}
use Rattle.std.proofs.lemmas.{Iterator.{YieldsList-from_slice}, Iterator.Search.{position_from_yields_List}}
use Rattle.mdns_listeners.specs.Groups.{fits}
use Rattle.mdns_listeners.proofs.GroupLemmas.{position_named}
use Rattle.mdns_listeners.proofs.groups.prefix_of.Goals as goal

pub returns : goal.returns
returns c =
    let at : c.position.result ≡ position (λ prefix. fits (string_bytes prefix) c.args.file.now) c.args.prefixes.now =
    position_from_yields_List (λ prefix. fits (string_bytes prefix) c.args.file.now) _ _ c.position.result c.position.ensures.ran
    (YieldsList-from_slice c.args.prefixes.now cc) (λ x b q k. search (rules, tests)) in
    at ∙ position_named (λ prefix. fits prefix c.args.file.now) c.args.prefixes.now
