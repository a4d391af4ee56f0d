use Rattle.std.proofs.Common.{length, subst, sym}
use Rattle.std.proofs.lemmas.Bool.{ltb-true}
use Rattle.ci_isa.specs.Table.{IsWellFormed}
use Rattle.ci_unit_tests.proofs.unit.word_at.Goals as goal

pub encode-requires : goal.encode-requires
encode-requires c =
    let found = c.in-Some.ensures.lookup in
    let within = ltb-true c.args.place (length c.args.insns.now) (sym found.0) in
    subst IsWellFormed (sym found.1) (c.requires c.args.place c.in-Some.insn.now within)
