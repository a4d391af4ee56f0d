use Rattle.ci_live.proofs.LeadLaws.{live_on_ways}
use Rattle.ci_live.proofs.NeededLaws.{live_at_successor, live_is_needed}
use Rattle.ci_live.proofs.laws.live_is_what_blocks_need.Goals as goal

pub returns-clause-needed : goal.returns-clause-needed
returns-clause-needed c = live_is_needed

pub returns-clause-successor : goal.returns-clause-successor
returns-clause-successor c = live_at_successor

pub returns-clause-ways : goal.returns-clause-ways
returns-clause-ways c = live_on_ways
