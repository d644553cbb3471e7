use Rattle.mdns_message.specs.Borrowed.{hearing_lent}
use Rattle.mdns_lives.proofs.EachLemmas.{each_account}
use Rattle.mdns_lives.proofs.hearing_at_moments.HearingAtMomentsToValueAccount.to_value.Goals as goal

pub returns-in_err-latest_of-clause-valid : goal.returns-in_err-latest_of-clause-valid
returns-in_err-latest_of-clause-valid c = each_account (hearing_lent c.args.self.now.hearing.now) c.args.self.now.moments

pub returns-in_err-of-clause-valid : goal.returns-in_err-of-clause-valid
returns-in_err-of-clause-valid c = each_account (hearing_lent c.args.self.now.hearing.now) c.args.self.now.moments

pub returns-clause-valid : goal.returns-clause-valid
returns-clause-valid c = each_account (hearing_lent c.args.self.now.hearing.now) c.args.self.now.moments
