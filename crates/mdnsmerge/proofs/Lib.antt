mod RefusedLemmas
