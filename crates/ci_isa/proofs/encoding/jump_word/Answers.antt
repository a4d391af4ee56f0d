use Rattle.std.proofs.Common.{sym, ◌∙◌, w32}
use Rattle.std.proofs.lemmas.Int.{to_z-of_z}
use Rattle.ci_isa.proofs.encoding.jump_word.Goals as goal

pub returns : goal.returns
returns c = λ w reads. c.upper_word.ensures w reads.0 reads.1.0 reads.1.1
    (c.jump_bits.ensures w (reads.1.2 ∙ sym (to_z-of_z w32 c.args.offset c.ranges.offset)))
