use Rattle.std.proofs.Common.{sym, ◌∙◌, w32}
use Rattle.std.proofs.lemmas.Int.{to_z-of_z}
use Rattle.ci_isa.proofs.encoding.store_word.Goals as goal

pub returns : goal.returns
returns c = λ w reads.
    let offset = reads.1.4 ∙ sym (to_z-of_z w32 c.args.offset c.ranges.offset) in
    c.word_of_fields.ensures w reads.0 reads.1.0 (c.store_low_bits.ensures w offset)
    (reads.1.1 ∙ sym c.store_code.ensures) (reads.1.2 ∙ sym c.number.ensures)
    (reads.1.3 ∙ sym c.number-2.ensures) (c.store_high_bits.ensures w offset)
