use Rattle.ci_search_tests.proofs.pairs.told_in.Goals as goal

pub check_log-requires : goal.check_log-requires
check_log-requires g c = let log = c.in-Best.ensures.answer in (log.items, _, log.tree)

pub check_log-requires-in-NoPair : goal.check_log-requires-in-NoPair
check_log-requires-in-NoPair g c = let log = c.in-NoPair.ensures.answer in (log.items, _, log.tree)
