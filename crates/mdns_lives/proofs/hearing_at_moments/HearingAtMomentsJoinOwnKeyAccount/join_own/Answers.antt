use Rattle.mdns_message.specs.Borrowed.{hearing_lent}
use Rattle.mdns_lives.proofs.EachLemmas.{each_account}
use Rattle.mdns_lives.proofs.hearing_at_moments.HearingAtMomentsJoinOwnKeyAccount.join_own.Goals as goal

pub returns-in-Some-Ok-clause-valid : goal.returns-in-Some-Ok-clause-valid
returns-in-Some-Ok-clause-valid c = each_account (hearing_lent c.args.self.now.hearing.now) c.args.self.now.moments

pub returns-clause-valid : goal.returns-clause-valid
returns-clause-valid c = each_account (hearing_lent c.args.self.now.hearing.now) c.args.self.now.moments

pub returns-2-clause-valid : goal.returns-2-clause-valid
returns-2-clause-valid c = each_account (hearing_lent c.args.self.now.hearing.now) c.args.self.now.moments
