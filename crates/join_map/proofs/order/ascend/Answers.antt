use Rattle.std.proofs.{Common.{◌≡◌, Less, get_or, rules}, lemmas.List.{get_or_default}}
use Rattle.join_map.proofs.OrderLemmas.{ascend-end, ascend-none, ascend-step}
use Rattle.join_map.proofs.order.ascend.Goals as goal

pub returns-in_default : goal.returns-in_default
returns-in_default g c =
    λ _. ascend-none g.met.K.Ord.total g.met.K.Copied.exact c.args.entries.now c.args.places.now (search rules)

pub loop-place-preserved : goal.loop-place-preserved
loop-place-preserved g c =
    let es = c.args.entries.now in
    let ps = c.in-Some.others.now in
    let i = c.loop-place.place-index in
    let p = get_or ps i 0 in
    let e = c.index-entries-last.result in
    let f = c.index-entries-place.result in
    let less : g.K.Ord.cmp e.0 f.0 ≡ Less = search rules in
    let is_e : e ≡ get_or es c.loop-place.last e = search rules in
    let is_f : f ≡ get_or es p f = search rules in
    ascend-step g.met.K.Ord.total g.met.K.Copied.exact _ es ps i c.loop-place.last p e f c.loop-place-test.true
    (get_or_default ps i 0 p c.loop-place-test.true) c.loop-place.invariant.0 c.loop-place.invariant.1 is_e is_f less
    c.loop-place.invariant.2

pub returns : goal.returns
returns g c =
    λ _. ascend-end g.met.K.Ord.total g.met.K.Copied.exact _ c.args.entries.now c.in-Some.others.now
    c.loop-place.place-index c.loop-place.last c.loop-place-test.false c.loop-place.invariant.0
    c.loop-place.invariant.2
