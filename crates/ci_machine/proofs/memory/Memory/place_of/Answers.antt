use Rattle.std.proofs.Common.{◌/◌, ◌∙◌, sym, true≢false}
use Rattle.ci_machine.proofs.MemoryWrites.{has_page}
use Rattle.ci_machine.proofs.PageLaws.{has_not}
use Rattle.ci_machine.proofs.memory.Memory.place_of.Goals as goal

pub returns-then-not-in_heap-clause-mapped : goal.returns-then-not-in_heap-clause-mapped
returns-then-not-in_heap-clause-mapped c =
    let old = c.args.self.now in
    λ is. absurd (true≢false (sym (has_page old c.args.address is (sym c.if-not-in_heap.ensures))
    ∙ has_not old.pages (c.args.address / 4096) c.in-Err.place c.in-Err.ensures.absent))
