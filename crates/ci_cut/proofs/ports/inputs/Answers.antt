use Rattle.std.proofs.Common.{arith}
use Rattle.std.specs.FinSet as set
use Rattle.ci_word.proofs.NumberLaws.{count_below-same, count_below-le}
use Rattle.ci_cut.specs.declared.graph.Source.TheVariants.{Entry, Made}
use Rattle.ci_cut.proofs.PortLaws.{is_input, made_inputs}
use Rattle.ci_cut.proofs.ports.inputs.Goals as goal

pub overflow_add-result : goal.overflow_add-result
overflow_add-result c =
    omega (
      arith,
      c.count.ensures.counted,
      count_below-le 256 (set.contains c.read_by-read.result.registers),
      c.count-2.ensures.counted,
      count_below-le 256 (set.contains c.minus.result),
    )

pub returns : goal.returns
returns c =
    let graph = c.args.graph.now in
    let cut = c.args.cut.now in
    let read = c.read_by-read.result in
    let registers =
    count_below-same 256 (set.contains read.registers) (λ r. is_input graph (set.contains cut) (set.contains cut) (Entry r))
    (λ r _. c.read_by-read.ensures (Entry r)) in
    rw (
      c.count.ensures.counted,
      registers,
      c.count-2.ensures.value,
      c.minus.ensures.value,
      made_inputs graph cut read.nodes c.nodes-nodes.ensures.kept (λ k. c.read_by-read.ensures (Made k)),
    )
