use Rattle.std.proofs.Common.{◌+◌, ◌/◌, inl, inr, ap, ◌∙◌, arith}
use Rattle.std.proofs.lemmas.Bool.{cases_lt}
use Rattle.ci_machine.specs.Pages.{has}
use Rattle.ci_machine.proofs.MemoryWrites.{same_mapped}
use Rattle.ci_machine.proofs.PageLaws.{has_found}
use Rattle.ci_machine.proofs.memory.Memory.make_pages.Goals as goal

pub loop-done-preserved : goal.loop-done-preserved
loop-done-preserved c =
    let l = c.loop-done in
    let next = c.args.address + l.done in
    let new = c.place_of.new.self.pages in
    let mapped = same_mapped c.args.self.now l.self l.invariant.memory next ∙ c.requires.mapped l.done c.loop-done-test.true in
    let made = has_found new (next / 4096) c.place_of.result (c.place_of.ensures.mapped mapped) c.place_of.ensures.place in
    record {
      there = λ k below lt. elim (cases_lt k l.done) [
        | inl before ↦ c.place_of.ensures.kept ((c.args.address + k) / 4096) (l.invariant.there k before lt)
        | inr from ↦ ap (has new) {x = (c.args.address + k) / 4096} {y = next / 4096} (omega arith) ∙ made
      ];
      memory = c.place_of.ensures.memory ∙ l.invariant.memory;
      end = c.place_of.ensures.end ∙ l.invariant.end;
      segments = c.place_of.ensures.segments ∙ l.invariant.segments;
    }
