use Rattle.ci_block.proofs.WayLaws.{ways_are_leaders, word_behind_is_leader}
use Rattle.ci_block.proofs.laws.ways_lead_to_leaders.Goals as goal

pub returns-clause-ways : goal.returns-clause-ways
returns-clause-ways c = ways_are_leaders

pub returns-clause-behind : goal.returns-clause-behind
returns-clause-behind c = word_behind_is_leader
