use Rattle.std.proofs.Common.{sym, ◌∙◌, w32}
use Rattle.std.proofs.lemmas.Int.{to_z-of_z}
use Rattle.ci_isa.proofs.FieldLaws.{twelve_bits}
use Rattle.ci_isa.proofs.encoding.immediate_word.Goals as goal

pub returns : goal.returns
returns c = λ w below e0 e1 e2 e3 e4.
    let immediate = e4 ∙ sym (to_z-of_z w32 c.args.immediate c.ranges.immediate) in
    let high = twelve_bits w c.immediate_bits-high.result (c.immediate_bits-high.ensures w immediate) in
    c.word_of_fields.ensures w below e0 (e1 ∙ sym c.number.ensures) e2 (e3 ∙ sym c.number-2.ensures) high.0 high.1
