use Rattle.std.proofs.Common.{◌≡◌, ◌++◌, codes, take}
use Rattle.std.specs.{List.{flat_map}, String.{string_bytes}}
use Rattle.mdns_survey.proofs.unmatched.push_others.Given as goal

-- the subjects so far were appended
abbrev pub invariant-loop-subject : goal.invariant-loop-subject
invariant-loop-subject l =
    string_bytes l.to
    ≡ string_bytes l.initial.to ++ flat_map (λ subject. codes ", " ++ string_bytes subject.text) (take l.subject-index l.others)
