-- The file of a generated program keeps all rules.
use Rattle.std.proofs.Common.{◌≡◌, ◌∙◌, List, ℕ, Ok, subst, sym, true≢false}
use Rattle.ci_elf.specs.declared.faults.ElfFault.TheVariants.{NoMemory}
use Rattle.ci_elf.specs.Rules.{IsReadAs}
use Rattle.ci_gen.proofs.ProgramLaws.{keeps_rules}
use Rattle.ci_find.proofs.load.generated.Goals as goal
use Rattle.ci_find.proofs.load.generated.Goals.{in-NoMemory, in_default}

pub prove-unreachable-requires : goal.prove-unreachable-requires
prove-unreachable-requires c =
    let memory : c.in-Err.fault ≡ NoMemory =
    keeps_rules c.args.seed c.in_ok-program.field-0.items c.in_ok-program.ensures.bytes c.in-Err.fault c.in-Err.ensures in
    elim c.match-matches.branch [
      | in-NoMemory w ↦ true≢false (sym w.matches-is ∙ c.if-prove.true)
      | in_default w ↦ w.in_default.not-NoMemory memory
    ]

pub returns-in-Ok-clause-image : goal.returns-in-Ok-clause-image
returns-in-Ok-clause-image c =
    let image = c.in-Ok.image in
    let read : IsReadAs c.in_ok-program.field-0.items (Ok image) = c.in-Ok.ensures in
    subst (λ (bytes : List ℕ). IsReadAs bytes (Ok image)) (sym read.1.same_bytes) read
