use Rattle.std.proofs.Common.{◌++◌, [], ◌∷◌, if◌then◌else◌, All, subst, sym, ap, ◌∙◌}
use Rattle.std.proofs.lemmas.List.Elements.{All-nil}
use Rattle.std.specs.FinSet as set
use Rattle.ci_isa.specs.declared.instruction.Insn.TheVariants.{Unit, Cput}
use Rattle.ci_isa.proofs.WellFormed.{well_formed}
use Rattle.ci_isa.specs.Table.{IsWellFormed}
use Rattle.ci_unit.specs.private.Reading.{register_or_zero, read_of}
use Rattle.ci_unit.specs.Uses.{passes}
use Rattle.ci_unit.proofs.UseLaws.{input_register_is, first_register_is, output_reads_are}
use Rattle.ci_unit.proofs.uses.encode_use.Goals as goal

pub returns-clause-put : goal.returns-clause-put
returns-clause-put c =
    let insns = c.args.insns.now in
    let graph = c.args.graph.now in
    let cut = set.contains c.args.cut.now in
    let rs1 = ap (register_or_zero insns) c.five_inputs-a.ensures.inputs.fourth_is ∙ input_register_is insns graph cut c.requires.operands 3 in
    let rs2 = ap (register_or_zero insns) c.five_inputs-a.ensures.inputs.fifth_is ∙ input_register_is insns graph cut c.requires.operands 4 in
    c.input_put.ensures.value ∙ (λ i. if passes graph cut then Cput (rs1 i) (rs2 i) ∷ [] else [])

pub returns-clause-unit : goal.returns-clause-unit
returns-clause-unit c =
    let insns = c.args.insns.now in
    let graph = c.args.graph.now in
    let cut = set.contains c.args.cut.now in
    let inputs = c.five_inputs-a.ensures.inputs in
    let rd =
    c.register_or_zero.ensures.value ∙ ap (register_or_zero insns) c.three_outputs-first.ensures.outputs.0
    ∙ first_register_is insns graph cut c.requires.operands in
    let rs1 = c.register_or_zero-2.ensures.value ∙ ap (register_or_zero insns) inputs.first_is ∙ input_register_is insns graph cut c.requires.operands 0 in
    let rs2 = c.register_or_zero-3.ensures.value ∙ ap (register_or_zero insns) inputs.second_is ∙ input_register_is insns graph cut c.requires.operands 1 in
    let rs3 = c.register_or_zero-4.ensures.value ∙ ap (register_or_zero insns) inputs.third_is ∙ input_register_is insns graph cut c.requires.operands 2 in
    λ i. Unit c.args.number (rd i) (rs1 i) (rs2 i) (rs3 i)

pub returns-clause-reads : goal.returns-clause-reads
returns-clause-reads c =
    let insns = c.args.insns.now in
    let graph = c.args.graph.now in
    let cut = set.contains c.args.cut.now in
    let outputs = c.three_outputs-first.ensures.outputs in
    c.push_read-2.ensures.items
    ∙ (λ i. (c.push_read.ensures.items ∙ ap (λ l. l ++ read_of insns 0 c.three_outputs-first.result.1) c.new-reads.ensures.items) i
    ++ read_of insns 1 c.three_outputs-first.result.2)
    ∙ (λ i. read_of insns 0 (outputs.1 i) ++ read_of insns 1 (outputs.2 i))
    ∙ output_reads_are insns graph cut c.requires.operands c.requires.fits

pub returns-clause-well_formed : goal.returns-clause-well_formed
returns-clause-well_formed c = (
  c.input_put.ensures.well_formed,
  well_formed (Unit c.args.number c.register_or_zero.result c.register_or_zero-2.result c.register_or_zero-3.result c.register_or_zero-4.result) (
    c.requires.number,
    c.register_or_zero.ensures.below,
    c.register_or_zero-2.ensures.below,
    c.register_or_zero-3.ensures.below,
    c.register_or_zero-4.ensures.below,
  ),
  c.push_read-2.ensures.well_formed (c.push_read.ensures.well_formed (subst (All IsWellFormed) (sym c.new-reads.ensures.items) (All-nil IsWellFormed))),
)
