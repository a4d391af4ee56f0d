use Rattle.std.proofs.Common.{◌+◌, ◌++◌, length, length-append, ap, sym, ◌∙◌, arith}
use Rattle.std.proofs.lemmas.List.{append_assoc}
use Rattle.ci_machine.specs.Memories.{memory_of}
use Rattle.ci_machine.specs.Pages.{content}
use Rattle.ci_machine.specs.PageTables.{run_of}
use Rattle.ci_machine.proofs.ByteLaws.{run_joined, length-run_of}
use Rattle.ci_machine.proofs.TestLaws.{some_is}
use Rattle.ci_machine.proofs.MemoryWrites.{in_range, mapped_run, seen_range}
use Rattle.ci_machine.proofs.memory.Memory.append_to.Goals as goal

pub loop-done-preserved : goal.loop-done-preserved
loop-done-preserved c =
    let l = c.loop-done in
    let bytes = content c.args.self.now.pages in
    let joined = c.append_run.ensures.items ∙ (λ k. l.invariant.items k ++ run_of bytes c.min-run.result (c.args.address + l.done))
    ∙ append_assoc c.args.output.now.items (run_of bytes l.done c.args.address) (run_of bytes c.min-run.result (c.args.address + l.done))
    ∙ ap (λ row. c.args.output.now.items ++ row) (run_joined bytes l.done c.min-run.result c.args.address) in
    let long = ap length c.append_run.ensures.items
    ∙ length-append l.output.items (run_of bytes c.min-run.result (c.args.address + l.done)) in
    record {
      within = omega (arith, c.min-run.ensures);
      items = joined;
      room = omega (
        arith,
        l.invariant.room,
        c.append_run.ensures.capacity,
        long,
        length-run_of bytes c.min-run.result (c.args.address + l.done),
        l.output.ok.0,
        c.append_run.new.output.ok.0,
        c.min-run.ensures,
      );
    }

pub returns : goal.returns
returns c =
    let old = c.args.self.now in
    let l = c.loop-done in
    let range = in_range (memory_of old) c.args.address c.args.count c.requires.mapped in
    λ bytes is. l.invariant.items
    ∙ ap (λ n. c.args.output.now.items ++ run_of (content old.pages) n c.args.address) {x = l.done} {y = c.args.count} (omega (arith, l.invariant.within, c.loop-done-test.false))
    ∙ ap (λ row. c.args.output.now.items ++ row)
    (some_is (sym (seen_range old c.args.count c.args.address range.0 (mapped_run old c.args.count c.args.address range.0 range.1)) ∙ is))
