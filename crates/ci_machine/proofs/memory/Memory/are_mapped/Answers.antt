use Rattle.std.proofs.Common.{◌≡◌, ◌+◌, ◌-◌, ◌<◌, ℕ, is_some, ap, sym, ◌∙◌, arith, true, subst}
use Rattle.ci_machine.specs.Accesses.{addresses, bytes_at}
use Rattle.ci_machine.specs.Memories.{memory_of}
use Rattle.ci_machine.proofs.AccessLaws.{bytes_at_none, bytes_at_before, none_from_is_some}
use Rattle.ci_machine.proofs.memory.Memory.are_mapped.Goals as goal

pub returns-then-is_none : goal.returns-then-is_none
returns-then-is_none c =
    let lt : c.loop-left.left - 1 < c.args.count = omega arith in
    sym (ap is_some (bytes_at_none _ c.args.count c.args.address (c.loop-left.left - 1) lt
    (sym c.byte.ensures ∙ none_from_is_some _ c.if-is_none.ensures)))

pub loop-left-preserved : goal.loop-left-preserved
loop-left-preserved c = record {
  some_left = omega arith;
  mapped =
      let e : c.args.count - (c.loop-left.left - 1) ≡ c.args.count - c.loop-left.left + 1 = omega arith in
      let next : c.args.address + c.loop-left.left ≡ c.args.address + (c.loop-left.left - 1) + 1 = omega arith in
      let P : ℕ → Type 0 = λ a. is_some (bytes_at (memory_of c.args.self.now) (addresses (c.args.count - c.loop-left.left) a)) ≡ true in
      bytes_at_before _ _ _ _ e (sym (ap is_some c.byte.ensures) ∙ c.if-is_none.ensures) (subst P next c.loop-left.invariant.mapped);
}
