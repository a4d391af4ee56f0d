use Rattle.std.proofs.Common.{◌≡◌, ◌≤◌, length}
use Rattle.ci_rename.specs.Renaming.{AreGoneThrough}
use Rattle.ci_rename.specs.private.Passes.{HasLeastFree}
use Rattle.ci_rename.proofs.renaming.rename_block.Given as goal

abbrev pub invariant-loop-i : goal.invariant-loop-i
invariant-loop-i l = record {
  through : AreGoneThrough l.live_out l.insns l.i l.pass.insns.items l.pass.values;
  same_length : length l.pass.insns.items ≡ length l.insns;
  counted : l.pass.values ≤ l.i;
  least : HasLeastFree l.live_out l.pass.insns.items l.pass.free;
}
