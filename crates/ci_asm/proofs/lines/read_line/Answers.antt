use Rattle.std.proofs.Common.{Some, None}
use Rattle.ci_asm.proofs.SoundStatements.{line_by_statement}
use Rattle.ci_asm.proofs.lines.read_line.Goals as goal

pub returns-then-is_label-clause-line : goal.returns-then-is_label-clause-line
returns-then-is_label-clause-line c =
    line_by_statement c.args.line.now (Some c.next_token-first.result) c.next_token.result c.args.full c.next_token.result.kind c.with_statement.result
    c.next_token-first.ensures.bound c.with_statement.ensures.value

pub returns-else-is_label-clause-line : goal.returns-else-is_label-clause-line
returns-else-is_label-clause-line c =
    line_by_statement c.args.line.now None c.next_token-first.result c.args.full c.next_token-first.result.kind c.with_statement-else-is_label.result tt
    c.with_statement-else-is_label.ensures.value
