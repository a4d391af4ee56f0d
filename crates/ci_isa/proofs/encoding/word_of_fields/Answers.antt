use Rattle.std.proofs.Common.{sym}
use Rattle.ci_isa.proofs.FieldLaws.{from_fields}
use Rattle.ci_isa.proofs.encoding.word_of_fields.Goals as goal

pub returns : goal.returns
returns c = λ w below e0 e1 e2 e3 e4 e5. rw (← e0, ← e1, ← e2, ← e3, ← e4, ← e5) (sym (from_fields w below))
