use Rattle.mdns_join.specs.{Nanos.{nanos_of}, laws.Kept.{IsAscending-ascending}}
use Rattle.mdns_lives.proofs.hearing_at_moments.HearingAtMomentsJoinOwnSetKeyFlushes.join_own.Goals as goal

pub returns-then-not-is_of-clause-valid : goal.returns-then-not-is_of-clause-valid
returns-then-not-is_of-clause-valid c = IsAscending-ascending (nanos_of c.args.self.now.moments)

pub returns-clause-valid : goal.returns-clause-valid
returns-clause-valid c = IsAscending-ascending (nanos_of c.args.self.now.moments)
