use Rattle.std.proofs.Common.{arith, sym, subst, get_or, [], ◌∷◌, All}
use Rattle.std.proofs.lemmas.List.Elements.{All-nil, All-cons, All-append, All-get_or}
use Rattle.ci_isa.specs.declared.instruction.Insn.TheVariants.{Ebreak}
use Rattle.ci_isa.specs.FieldBounds.{FieldsFit}
use Rattle.ci_isa.specs.Table.{IsWellFormed}
use Rattle.ci_isa.proofs.RowCompleteness.{word_well_formed}
use Rattle.ci_isa.proofs.WellFormed.{fields_fit}
use Rattle.ci_tests.proofs.common.insns_of.Goals as goal

pub loop-word-init : goal.loop-word-init
loop-word-init c = subst (All FieldsFit) (sym c.new-insns.ensures.items) (All-nil FieldsFit)

pub loop-word-preserved : goal.loop-word-preserved
loop-word-preserved c =
    let insn = c.unwrap_or.result in
    let word = get_or c.args.words.now c.loop-word.word-index 0 in
    let below = c.type_inv.words c.loop-word.word-index in
    let decoded = word_well_formed c.decode_x.result word (omega (arith, below)) c.decode_x.ensures.well_formed in
    let well_formed = subst IsWellFormed (sym c.unwrap_or.ensures) decoded in
    subst (All FieldsFit) (sym c.in_ok-push.ensures.items)
    (All-append FieldsFit c.loop-word.insns.items (insn ∷ []) c.loop-word.invariant
    (All-cons FieldsFit insn [] (fields_fit insn well_formed) (All-nil FieldsFit)))

pub returns : goal.returns
returns c = λ k below. All-get_or FieldsFit c.loop-word.insns.items k Ebreak below c.loop-word.invariant
