use Rattle.ci_isa.proofs.FieldLaws.{jump_upper}
use Rattle.ci_isa.proofs.immediates.jump_bits.Goals as goal

pub returns : goal.returns
returns c = λ w e.
    rw (c.bits.ensures, c.bits-2.ensures, c.bits-3.ensures, c.bits-4.ensures)
    (jump_upper w c.cast_unsigned-value.result (rw (← e) at c.cast_unsigned-value.ensures))
