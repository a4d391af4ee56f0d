use Rattle.std.proofs.Common.{sym, ◌∙◌}
use Rattle.ci_log.proofs.laws.a_book_has_one_text.Goals as goal

pub returns : goal.returns
returns c version text other book one two = one.is_text ∙ sym two.is_text
