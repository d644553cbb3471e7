use Rattle.std.proofs.Common.{◌≡◌, ◌++◌}
use Rattle.std.specs.{List.{filter, flat_map}, String.{string_bytes}}
use Rattle.mdns_browse.specs.About.{keeps_record}
use Rattle.mdns_trace.specs.Trace.{hearing_text}
use Rattle.mdns_trace.proofs.trace.push_hearing_lines.Given as goal

-- the lines that were appended, and those of the hearings that are left and kept
abbrev pub invariant-loop-hearing : goal.invariant-loop-hearing
invariant-loop-hearing l =
    string_bytes l.to
    ++ flat_map (hearing_text l.form l.wanted.file.now l.source)
    (filter (λ hearing. keeps_record l.wanted.about.now hearing.heard) l.hearing-iterator)
    ≡ string_bytes l.initial.to
    ++ flat_map (hearing_text l.form l.wanted.file.now l.source)
    (filter (λ hearing. keeps_record l.wanted.about.now hearing.heard) l.message)
