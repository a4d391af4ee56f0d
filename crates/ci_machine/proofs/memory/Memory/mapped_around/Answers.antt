use Rattle.ci_machine.specs.Memories.{is_mapped}
use Rattle.ci_machine.specs.Programs.{lies_in}
use Rattle.ci_machine.specs.Spans.{in_spans}
use Rattle.ci_machine.proofs.MemoryLaws.{or_true, or_first}
use Rattle.ci_machine.proofs.memory.Memory.mapped_around.Goals as goal

pub returns-then-in_heap : goal.returns-then-in_heap
unfolding is_mapped
returns-then-in_heap c = λ x is. or_true (in_spans c.args.self.now.spans.spans.items x) _ is

pub returns : goal.returns
unfolding is_mapped
returns c = λ x is. or_first _ (lies_in c.args.self.now.heap_start c.args.self.now.heap_end x) (c.around.ensures x is)
