use Rattle.std.proofs.Common.{refl, sym, ◌∙◌, w32, arith}
use Rattle.std.proofs.lemmas.Int.{to_z-of_z}
use Rattle.ci_isa.specs.Fields.{rs2_field}
use Rattle.ci_isa.specs.Table.{operation_codes, constant_form}
use Rattle.ci_isa.proofs.ConstantLaws.{held_immediate, held_amount, passed_amount}
use Rattle.ci_isa.proofs.encoding.constant_word.Goals as goal

pub returns-then-not-is_shift : goal.returns-then-not-is_shift
returns-then-not-is_shift c = λ w reads.
    let row = reads.1 in
    let immediate = held_immediate w (constant_form c.args.op) (operation_codes c.args.op).1 c.args.imm
    (λ is. let clash = c.if-not-is_shift.ensures.1 is in cc) row.4 in
    c.immediate_word.ensures w reads.0 row.0 row.2 (row.1 ∙ sym c.funct3.ensures) row.3 (immediate ∙ sym (to_z-of_z w32 c.args.imm c.ranges.imm))

pub returns : goal.returns
returns c = λ w reads.
    let row = reads.1 in
    let held = held_amount w (constant_form c.args.op) (operation_codes c.args.op).1 c.args.imm (c.if-not-is_shift.ensures.0 refl) row.4 in
    let amount = passed_amount (rs2_field w) c.args.imm c.cast_unsigned-amount.result (omega arith) held.1 c.cast_unsigned-amount.ensures in
    c.word_of_fields.ensures w reads.0 row.0 (row.2 ∙ sym c.number.ensures) (row.1 ∙ sym c.funct3-2.ensures)
    (row.3 ∙ sym c.number-2.ensures) amount (held.0 ∙ sym c.funct7.ensures)
