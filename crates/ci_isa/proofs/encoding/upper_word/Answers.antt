use Rattle.std.proofs.Common.{sym}
use Rattle.ci_isa.proofs.FieldLaws.{from_upper_fields}
use Rattle.ci_isa.proofs.encoding.upper_word.Goals as goal

pub returns : goal.returns
returns c = λ w below e0 e1 e2. rw (c.number.ensures, ← e0, ← e1, ← e2) (sym (from_upper_fields w below))
