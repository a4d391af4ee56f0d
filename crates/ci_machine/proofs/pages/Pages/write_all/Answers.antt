use Rattle.std.proofs.Common.{◌≤◌, ◌+◌, ◌-◌, ◌∙◌, ap, arith, take, drop, length}
use Rattle.ci_machine.specs.Pages.{content}
use Rattle.ci_machine.specs.PageTables.{written}
use Rattle.ci_machine.proofs.ByteLaws.{run_more}
use Rattle.ci_machine.proofs.pages.Pages.write_all.Goals as goal

pub loop-done-preserved : goal.loop-done-preserved
loop-done-preserved c =
    let l = c.loop-done in
    let fits : l.done + c.min-count.result ≤ length c.args.bytes.now = omega (arith, c.min-count.ensures) in
    record {
      within = fits;
      content = c.write.ensures.content
          ∙ (λ k. written (l.invariant.content k) (c.args.address + l.done) (take (l.done + c.min-count.result - l.done) (drop l.done c.args.bytes.now)))
          ∙ ap (λ n. written (written (content c.args.self.now) c.args.address (take l.done c.args.bytes.now)) (c.args.address + l.done)
          (take n (drop l.done c.args.bytes.now))) {x = l.done + c.min-count.result - l.done} {y = c.min-count.result} (omega arith)
          ∙ (λ k x. run_more (content c.args.self.now) c.args.bytes.now c.args.address l.done c.min-count.result x fits k);
      has = c.write.ensures.has ∙ l.invariant.has;
      room = c.write.ensures.room ∙ l.invariant.room;
      table = c.write.ensures.table ∙ l.invariant.table;
    }
