use Rattle.ci_search_tests.proofs.search.told_in.Goals as goal

pub check_log-requires : goal.check_log-requires
check_log-requires g c = let log = c.in-Best.ensures.answer in (log.items, _, log.tree)

pub check_log-requires-in-NoCut : goal.check_log-requires-in-NoCut
check_log-requires-in-NoCut g c = let log = c.in-NoCut.ensures.answer in (log.items, _, log.tree)
