use Rattle.mdns_join.specs.{Nanos.{nanos_of}, laws.Kept.{IsAscending-ascending}}
use Rattle.mdns_lives.proofs.hearing_at_moments.HearingAtMomentsToValueFlushes.to_value.Goals as goal

pub returns-clause-valid : goal.returns-clause-valid
returns-clause-valid c = IsAscending-ascending (nanos_of c.args.self.now.moments)
