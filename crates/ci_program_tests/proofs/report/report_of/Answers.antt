-- The image is that of a file.
use Rattle.std.proofs.Common.{ℕ, List, Ok, sym, subst}
use Rattle.ci_elf.specs.Rules.{IsReadAs}
use Rattle.ci_program_tests.proofs.report.report_of.Goals as goal

pub report_on-text-requires : goal.report_on-text-requires
report_on-text-requires c =
    let image = c.in_ok-image.image in
    let is = c.in_ok-image.ensures in
    record { image = subst (λ (bytes : List ℕ). IsReadAs bytes (Ok image)) (sym is.1.same_bytes) is }
