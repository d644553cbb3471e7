use Rattle.std.proofs.Common.{◌≡◌, ◌++◌, map, take}
use Rattle.std.specs.{List.{flat_map}, String.{string_bytes}}
use Rattle.mdns_page.specs.{Html.{isolated}, Lead.{ended_lent, ending_warning}}
use Rattle.mdns_page.proofs.lead.push_ending_warnings.Given as goal

-- the warnings of the files so far were appended
abbrev pub invariant-loop-file : goal.invariant-loop-file
invariant-loop-file l =
    string_bytes l.to
    ≡ string_bytes l.initial.to ++ flat_map (ending_warning isolated) (map ended_lent (take l.file-index l.files))
