use Rattle.std.proofs.{Common.{refl}, NetLemmas.Texts.{IsZeroRun-longest_zero_run, longest_zero_run_first}}
use Rattle.people_text.proofs.laws.zero_run.Goals as goal

pub returns-clause-longest : goal.returns-clause-longest
returns-clause-longest c groups start len run = (longest_zero_run_first groups start len run).0

pub returns-clause-run : goal.returns-clause-run
returns-clause-run c groups = IsZeroRun-longest_zero_run groups

pub returns-clause-first : goal.returns-clause-first
returns-clause-first c groups start run = (longest_zero_run_first groups start _ run).1 refl
