use Rattle.std.proofs.Common.{◌≡◌, ◌++◌, drop}
use Rattle.std.specs.{List.{flat_map}, String.{string_bytes}}
use Rattle.mdns_trace.specs.Loss.{loss_text}
use Rattle.mdns_trace.proofs.loss.push_losses.Given as goal

-- the lines that were appended, and those of the losses that are left
abbrev pub invariant-loop-loss : goal.invariant-loop-loss
invariant-loop-loss l =
    string_bytes l.to ++ flat_map (loss_text l.file l.reading) (drop l.loss-index l.losses)
    ≡ string_bytes l.initial.to ++ flat_map (loss_text l.file l.reading) l.losses
