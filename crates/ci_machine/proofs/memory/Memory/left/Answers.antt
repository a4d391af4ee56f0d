use Rattle.std.proofs.Common.{◌+◌, ◌||◌, sym, ◌∙◌, arith}
use Rattle.ci_machine.specs.Memories.{is_mapped}
use Rattle.ci_machine.specs.Programs.{lies_in}
use Rattle.ci_machine.specs.Spans.{in_spans}
use Rattle.ci_machine.proofs.TestLaws.{bounds-lies_in, lies_in-bounds}
use Rattle.ci_machine.proofs.MemoryLaws.{or_true, or_first}
use Rattle.ci_machine.proofs.memory.Memory.left.Goals as goal

pub overflow_sub-result : goal.overflow_sub-result
overflow_sub-result c =
    let old = c.args.self.now in
    let bounds = lies_in-bounds old.heap_start old.heap_end c.args.address (sym c.in_heap.ensures ∙ c.if-in_heap.true) in
    omega (arith, bounds.1)

pub returns-then-in_heap-clause-mapped : goal.returns-then-in_heap-clause-mapped
unfolding is_mapped
returns-then-in_heap-clause-mapped c =
    let old = c.args.self.now in
    let bounds = lies_in-bounds old.heap_start old.heap_end c.args.address (sym c.in_heap.ensures ∙ c.if-in_heap.true) in
    λ k lt. or_true (in_spans old.spans.spans.items (c.args.address + k)) _
    (bounds-lies_in old.heap_start old.heap_end (c.args.address + k) (omega (arith, bounds.0)) (omega arith))

pub returns-clause-mapped : goal.returns-clause-mapped
unfolding is_mapped
returns-clause-mapped c = λ k lt. or_first _ (lies_in c.args.self.now.heap_start c.args.self.now.heap_end (c.args.address + k)) (c.left.ensures.inside k lt)

pub returns-clause-none : goal.returns-clause-none
unfolding is_mapped
returns-clause-none c =
    λ none k. c.left.ensures.none none k || (sym c.in_heap.ensures ∙ c.if-in_heap.false) k
