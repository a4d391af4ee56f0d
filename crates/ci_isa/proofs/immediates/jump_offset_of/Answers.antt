use Rattle.std.proofs.Common.{◌∙◌, arith, rules, w32, FitsSigned}
use Rattle.std.proofs.lemmas.Int.{to_z-of_z}
use Rattle.ci_isa.proofs.FieldLaws.{jump_pieces}
use Rattle.ci_isa.proofs.immediates.jump_offset_of.Goals as goal

pub sign_extended-requires-clause-fits : goal.sign_extended-requires-clause-fits
sign_extended-requires-clause-fits c =
    rw (c.bits.ensures, c.bits-2.ensures, c.bits-3.ensures, c.bits-4.ensures, jump_pieces c.args.word) (omega arith)

pub returns : goal.returns
returns c =
    let fits : FitsSigned w32 c.sign_extended.result = search rules in
    to_z-of_z w32 c.sign_extended.result fits
    ∙ (rw (c.bits.ensures, c.bits-2.ensures, c.bits-3.ensures, c.bits-4.ensures, jump_pieces c.args.word) at c.sign_extended.ensures)
