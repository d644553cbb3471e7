use Rattle.std.proofs.Common.{◌≡◌, ◌<◌, ◌+◌, ◌++◌, ◌∷◌, [], arith, rules, sym, subst, length, map, string_bytes, take, ℕ, List, Option}
use Rattle.std.proofs.lemmas.{Grind.{common_steps}, List.Elements.{All-push}}
use Rattle.std.specs.List.{All}
use Rattle.mdns_listeners.specs.Groups.{HasBegun}
use Rattle.mdns_listeners.proofs.GroupLemmas.{one_each, positions_push, take-back}
use Rattle.mdns_listeners.proofs.groups.Groups.new.Goals as goal

pub loop-file-preserved : goal.loop-file-preserved
loop-file-preserved c =
    let prefixes = map string_bytes c.args.prefixes.now in
    let earlier = map string_bytes (take c.loop-file.file-index c.args.files.now) in
    let file = c.as_str.result.now in
    let names = map string_bytes c.listener_of.new.names.items in
    let old = c.loop-file.invariant in
    let Inside : ℕ → Type 0 = λ listener. listener < length c.listener_of.new.names.items in
    let next : map string_bytes (take (c.loop-file.file-index + 1) c.args.files.now) ≡ earlier ++ file ∷ [] = grind (arith, common_steps) in
    let lent : c.as_mut_slice.result.now ≡ c.loop-file.begun.items = search rules in
    let has : HasBegun prefixes earlier (map string_bytes c.loop-file.names.items) c.as_mut_slice.result.now =
    subst (λ (all : List (Option ℕ)). HasBegun prefixes earlier (map string_bytes c.loop-file.names.items) all) (sym lent) old.0 in
    let step = c.in_ok-listener.ensures.listener earlier has in
    let back = take-back prefixes earlier (earlier ++ file ∷ []) c.loop-file.begun.len c.loop-file.begun.items c.listener_of.new.begun
    _ names old.0 step.1 (search rules) in
    let of : c.push.new.self.items ≡ c.loop-file.by_file.items ++ c.in_ok-listener.listener ∷ [] = search rules in (
      rw (next, back) step.1,
      rw (next, of, old.1, step.0) (sym (positions_push prefixes earlier file)),
      subst (All Inside) (sym of) (All-push Inside c.loop-file.by_file.items c.in_ok-listener.listener
          (λ k d within. omega (arith, old.2 k d within, c.in_ok-listener.ensures.grows)) step.2),
    )

pub returns-clause-each : goal.returns-clause-each
returns-clause-each c = grind (arith, common_steps, one_each)
