use Rattle.std.proofs.Common.{sym, subst}
use Rattle.ci_emu.specs.private.Fetched.{IsOnlyAt}
use Rattle.ci_emu.proofs.Fetching.{only_at}
use Rattle.ci_emu.proofs.decode_cache.Decoded.of.Goals as goal

pub invariant_of-result : goal.invariant_of-result
invariant_of-result g c = record {
  decoded = subst (IsOnlyAt c.args.word) (sym c.of.ensures) (only_at c.args.word c.reading-insn.result c.reading-insn.ensures);
}
