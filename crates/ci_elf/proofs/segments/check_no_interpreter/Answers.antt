use Rattle.std.proofs.Common.{[], sym, ◌∙◌}
use Rattle.ci_elf.specs.Rules.{NamesNoInterpreter}
use Rattle.ci_elf.proofs.CheckLaws.{fault_here}
use Rattle.ci_elf.proofs.segments.check_no_interpreter.Goals as goal

pub returns-then-kind-eq3 : goal.returns-then-kind-eq3
returns-then-kind-eq3 c =
    fault_here c.args.bytes.now (NamesNoInterpreter c.args.n) [] _ (λ holds. holds (sym c.program_type-kind.ensures ∙ c.if-kind-eq3.true))
    (cc)
