use Rattle.mdns_page.proofs.counts.+push_commas.Given as goal

abbrev pub decreases-push_commas : goal.decreases-push_commas
decreases-push_commas l = l.number
