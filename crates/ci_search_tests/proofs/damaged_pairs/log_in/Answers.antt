use Rattle.ci_search_tests.proofs.damaged_pairs.log_in.Goals as goal

pub listed-requires : goal.listed-requires
listed-requires g c = let log = c.in-Best.ensures.answer in (log.items, _, log.tree)

pub listed-requires-in-NoPair : goal.listed-requires-in-NoPair
listed-requires-in-NoPair g c = let log = c.in-NoPair.ensures.answer in (log.items, _, log.tree)
