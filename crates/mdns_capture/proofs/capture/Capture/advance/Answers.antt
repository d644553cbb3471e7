use Rattle.std.proofs.Common.{rules}
use Rattle.mdns_capture.proofs.CaptureLemmas.{Moves-stop}
use Rattle.mdns_capture.proofs.capture.Capture.advance.Goals as goal

pub returns-in-End : goal.returns-in-End
returns-in-End g c = λ packet shows. rw (← c.self.view_is) (search (rules, Moves-stop))
