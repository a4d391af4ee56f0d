use Rattle.std.proofs.Common.{subst, sym}
use Rattle.ci_elf.specs.Executables.{IsAscending}
use Rattle.ci_program_tests.proofs.elf.expect_places.Goals as goal

pub new-requires : goal.new-requires
new-requires g c = subst IsAscending (sym c.ranges-2.ensures.value) c.ranges-2.ensures.well_formed.ascending
