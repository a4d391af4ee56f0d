use Rattle.std.proofs.Common.{◌+◌, ap, ◌∙◌, sym, arith, Some, ◌≡◌}
use Rattle.ci_machine.specs.Memories.{is_mapped}
use Rattle.ci_machine.proofs.MemoryWrites.{seen, unseen}
use Rattle.ci_machine.proofs.memory.Memory.byte.Goals as goal

pub returns-then-left-eq0 : goal.returns-then-left-eq0
returns-then-left-eq0 c = sym (unseen c.args.self.now c.args.address (c.left.ensures.none (omega arith)))

pub returns : goal.returns
returns c =
    let here : c.args.address + 0 ≡ c.args.address = omega arith in
    ap Some c.byte.ensures ∙ sym (seen c.args.self.now c.args.address (ap (is_mapped c.args.self.now) (sym here) ∙ c.left.ensures.mapped 0 (omega arith)))
