use Rattle.ci_emu.proofs.CountLaws.{nothing_counted}
use Rattle.ci_emu.proofs.counts.Counts.new.Goals as goal

pub returns-clause-none : goal.returns-clause-none
returns-clause-none c = nothing_counted _ c.len.result (c.in_ok-by_place.ensures.items_if_clones_equal (λ y same. same))
