use Rattle.std.proofs.Common.{◌≡◌, ◌<◌, length, get_or, sym, subst, rules}
use Rattle.join_map.specs.Entries.{AllFit}
use Rattle.join_map.proofs.GatherLemmas.{fits-at, joined_at_place}
use Rattle.join_map.proofs.unsorted.Unsorted.join_at.Goals as goal

pub returns-clause-ok : goal.returns-clause-ok
returns-clause-ok g c =
    let es = c.self.inside.entries.items in
    let e = c.in_ok-entry.entry.now in
    let l : c.args.place < length es = search rules in
    let is : e ≡ get_or es c.args.place e = search rules in
    let fits = subst (AllFit g.O.JoinOwn.Fits) (sym c.self.view_is) c.requires in
    let joined = c.join_own-joined in
    rw (← c.self.view_is)
    (joined_at_place g.met.K.Ord.total g.met.K.Copied.exact g.met.V.Semilattice.laws es c.args.place e joined.new.held
    (g.O.JoinOwn.own c.args.other.now) (g.O.ToValue.value c.args.other.now) l is c.self.invariant joined.ensures.valid
    joined.result (fits-at g.O.JoinOwn.Fits es c.args.place e l is fits) joined.ensures.own joined.ensures.ok)
