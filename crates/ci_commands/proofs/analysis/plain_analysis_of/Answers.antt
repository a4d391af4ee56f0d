-- The first word of a custom opcode is why there is no analysis.
use Rattle.std.proofs.lemmas.Result.{err_from_is_err_and}
use Rattle.ci_block.specs.CustomWords.{IsFirstCustomWord}
use Rattle.ci_commands.proofs.Causes.{unsupported_cause}
use Rattle.ci_commands.proofs.analysis.plain_analysis_of.Goals as goal

pub returns-in_err-refuse_custom_words-clause-cause : goal.returns-in_err-refuse_custom_words-clause-cause
returns-in_err-refuse_custom_words-clause-cause c =
    let p = err_from_is_err_and c.from_residual.result c.from_residual.ensures.1 in
    rw (p.1, p.2)
    (unsupported_cause (IsFirstCustomWord c.args.image.now) c.in_err-refuse_custom_words.field-0.0
    c.in_err-refuse_custom_words.ensures.cause)
