use Rattle.std.proofs.Common.{◌≡◌, ◌++◌, map, take}
use Rattle.command_line.specs.{FinalDot.{asked_words}, Line.{texts_of}}
use Rattle.command_line.proofs.lists.push_subjects.Given as goal

-- the words so far
abbrev pub invariant-loop-word : goal.invariant-loop-word
invariant-loop-word l =
    texts_of l.about.items ≡ texts_of l.initial.about.items ++ asked_words (map (λ word. word.now) (take l.word-index l.words))
