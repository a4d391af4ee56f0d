use Rattle.std.proofs.Common.{◌+◌, ◌-◌, ap, sym, ◌∙◌, arith, is_some, inl, inr}
use Rattle.std.proofs.lemmas.Bool.{cases_lt}
use Rattle.ci_machine.specs.Memories.{is_mapped, memory_of}
use Rattle.ci_machine.proofs.AccessLaws.{bytes_at_none, mod_small}
use Rattle.ci_machine.proofs.MemoryWrites.{seen_run, unseen}
use Rattle.ci_machine.proofs.memory.Memory.are_mapped_below.Goals as goal

pub returns-then-left-eq0 : goal.returns-then-left-eq0
returns-then-left-eq0 c =
    let old = c.args.self.now in
    let at = c.args.address + c.loop-done.done in
    sym (ap is_some (bytes_at_none (memory_of old) c.args.count c.args.address c.loop-done.done c.loop-done-test.true
    (ap (memory_of old) (mod_small at (omega (arith, c.requires))) ∙ unseen old at (c.left-left.ensures.none (omega (arith, c.if-left-eq0.true))))))

pub loop-done-preserved : goal.loop-done-preserved
loop-done-preserved c = record {
  within = omega (arith, c.min-done.ensures);
  mapped = λ k lt. elim (cases_lt k c.loop-done.done) [
    | inl before ↦ c.loop-done.invariant.mapped k before
    | inr from ↦
        ap (is_mapped c.args.self.now) {x = c.args.address + k} {y = c.args.address + c.loop-done.done + (k - c.loop-done.done)} (omega arith)
        ∙ c.left-left.ensures.mapped (k - c.loop-done.done) (omega (arith, c.min-done.ensures))
  ];
}

pub returns : goal.returns
returns c =
    sym (ap is_some (seen_run c.args.self.now c.args.count c.args.address c.requires
    (λ k lt. c.loop-done.invariant.mapped k (omega (arith, c.loop-done-test.false)))))
