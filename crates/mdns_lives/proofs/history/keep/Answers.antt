use Rattle.std.proofs.{Common.{sym, ◌∙◌, inl, inr, arith, rules}, lemmas.List.{length-set}}
use Rattle.mdns_lives.proofs.ThinLemmas.{kept_behind, kept_in_place}
use Rattle.mdns_lives.proofs.RoomLemmas.{kept_sparse_in_place, kept_sparse_behind, kept_sparse_first}
use Rattle.mdns_lives.proofs.history.keep.Goals.{else-left-gt-SHORT-via-then-left-gt-SHORT+then-kept-ge2+else-second}
use Rattle.mdns_lives.proofs.history.keep.Goals.{else-left-gt-SHORT-via-then-left-gt-SHORT+else-kept-ge2}
use Rattle.mdns_lives.proofs.history.keep.Goals.{else-left-gt-SHORT-via-else-left-gt-SHORT}
use Rattle.mdns_lives.proofs.history.keep.Goals as goal

pub returns-then-second-clause-thinned : goal.returns-then-second-clause-thinned
returns-then-second-clause-thinned c = grind (arith, kept_in_place)

pub returns-clause-thinned : goal.returns-clause-thinned
returns-clause-thinned c = grind (arith, kept_behind)

pub returns-then-second-clause-sparse : goal.returns-then-second-clause-sparse
returns-then-second-clause-sparse c = λ o t.
    elim t [
      | inl l ↦ absurd (omega (arith, l, c.if-left-gt-SHORT.true, c.len.ensures))
      | inr s ↦ inr (search (rules, kept_sparse_in_place))
    ]

pub returns-clause-sparse : goal.returns-clause-sparse
returns-clause-sparse c = λ o t.
    let items = c.args.items.now.items in
    let kept = c.args.kept in
    let place = c.args.place in
    let next = c.index.result.now in
    let same = length-set items kept next in
    elim t [
      | inl l ↦ inl (omega (arith, l, same, c.requires.place))
      | inr s ↦ elim c.else-left-gt-SHORT.branch [
        | else-left-gt-SHORT-via-then-left-gt-SHORT+then-kept-ge2+else-second w ↦
            inr (kept_sparse_behind items kept place w.index-then-kept-ge2.result.now next (omega (arith, w.if-kept-ge2.true))
            c.requires.kept c.requires.place w.index-then-kept-ge2.ensures c.index.ensures o s
            (λ e. w.if-second.false (w.second.ensures ∙ e ∙ sym w.second-then-kept-ge2.ensures)))
        | else-left-gt-SHORT-via-then-left-gt-SHORT+else-kept-ge2 w ↦
            inr (kept_sparse_first items kept place next (omega (arith, w.if-kept-ge2.false)) c.requires.kept c.requires.place)
        | else-left-gt-SHORT-via-else-left-gt-SHORT w ↦
            inl (omega (arith, w.if-left-gt-SHORT.false, c.len.ensures, same, c.requires.place))
      ]
    ]
