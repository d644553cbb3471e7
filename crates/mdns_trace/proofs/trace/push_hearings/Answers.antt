use Rattle.std.proofs.{Common.{refl}, lemmas.Result.{IfOk-weaker}}
use Rattle.mdns_trace.proofs.trace.push_hearings.Goals as goal

pub returns-in-Heard : goal.returns-in-Heard
returns-in-Heard c =
    rw c.in-Heard.is
    (IfOk-weaker c.push_hearing_lines.result _ _
    (λ _ written. (_, (c.in-Heard.source, (rw c.in-Heard.is at c.requires), refl), written)) c.push_hearing_lines.ensures)
