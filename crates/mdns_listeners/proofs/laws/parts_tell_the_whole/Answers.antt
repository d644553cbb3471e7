use Rattle.mdns_listeners.proofs.LawLemmas.{heard-joined, heard-nothing}
use Rattle.mdns_listeners.proofs.laws.parts_tell_the_whole.Goals as goal

pub returns : goal.returns
returns c = record { nothing = heard-nothing; both = heard-joined }
