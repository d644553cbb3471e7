use Rattle.std.proofs.Common.{◌≡◌, ◌++◌, ◌∷◌, [], arith, rules, get_or, map, string_bytes, None, Some}
use Rattle.std.proofs.lemmas.{Grind.{common_steps}, List.{length-map}}
use Rattle.mdns_listeners.specs.Groups.{prefix_of}
use Rattle.mdns_listeners.proofs.GroupLemmas.{begun_again, begun_alone, begun_first, get_or-named, prefix-inside}
use Rattle.mdns_listeners.proofs.groups.listener_of.Goals as goal

pub returns-in_default-clause-listener : goal.returns-in_default-clause-listener
returns-in_default-clause-listener c earlier has =
    let prefixes = map string_bytes c.args.prefixes.now in
    let names = map string_bytes c.args.names.now.items in
    let none : prefix_of prefixes c.args.file.now ≡ None = search rules in
    let made = begun_alone prefixes earlier c.args.file.now names c.args.begun.now has none in grind (arith, common_steps, length-map)

pub returns-in-Some-begun-clause-listener : goal.returns-in-Some-begun-clause-listener
returns-in-Some-begun-clause-listener c earlier has =
    let prefixes = map string_bytes c.args.prefixes.now in
    let names = map string_bytes c.args.names.now.items in
    let own : prefix_of prefixes c.args.file.now ≡ Some c.in-Some.at = search rules in
    let inside = prefix-inside prefixes c.args.file.now c.in-Some.at own in
    let held : get_or c.args.begun.now c.in-Some.at None ≡ Some c.in-Some-begun.listener = search rules in
    let made = begun_again prefixes earlier c.args.file.now names c.args.begun.now has c.in-Some.at c.in-Some-begun.listener own inside held in
    grind (arith, common_steps, length-map)

pub returns-clause-listener : goal.returns-clause-listener
returns-clause-listener c earlier has =
    let prefixes = map string_bytes c.args.prefixes.now in
    let names = map string_bytes c.args.names.now.items in
    let at = c.in-Some.at in
    let own : prefix_of prefixes c.args.file.now ≡ Some at = search rules in
    let inside = prefix-inside prefixes c.args.file.now at own in
    let free : get_or c.args.begun.now at None ≡ None = search rules in
    let made = begun_first prefixes earlier c.args.file.now names c.args.begun.now has at own inside free in
    let named : map string_bytes c.push-2.new.self.items ≡ names ++ get_or prefixes at [] ∷ [] =
    grind (arith, common_steps, length-map, get_or-named) in
    grind (arith, common_steps, length-map)
