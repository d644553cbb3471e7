use Rattle.std.proofs.Common.{◌≡◌, ◌++◌, drop, true}
use Rattle.std.specs.{List.{flat_map}, String.{string_bytes}}
use Rattle.mdns_browse.specs.Json.{parted}
use Rattle.mdns_trace.specs.VerdictJson.{loss_objects}
use Rattle.mdns_trace.proofs.verdict_json.push_loss_objects.Given as goal

-- the objects that were appended, and those of the losses that are left
abbrev pub invariant-loop-loss : goal.invariant-loop-loss
invariant-loop-loss l =
    string_bytes l.to ++ parted l.first (flat_map (loss_objects l.reading) (drop l.loss-index l.losses))
    ≡ string_bytes l.initial.to ++ parted true (flat_map (loss_objects l.reading) l.losses)
