use Rattle.std.proofs.Common.{length}
use Rattle.mdns_page.proofs.service_lives.+push_lives.Given as goal

abbrev pub decreases-push_lives : goal.decreases-push_lives
decreases-push_lives l = length l.lives.now
