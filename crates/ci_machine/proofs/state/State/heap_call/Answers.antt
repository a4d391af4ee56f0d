use Rattle.std.proofs.Common.{ap, sym, ◌∙◌, [], drop, slice_index}
use Rattle.ci_machine.specs.declared.state.State.{State as Machine}
use Rattle.ci_machine.specs.States.{program_of, state_of, core_of}
use Rattle.ci_machine.proofs.TestLaws.{taken, passed}
use Rattle.ci_machine.proofs.CallLaws.{heap_called}
use Rattle.ci_machine.proofs.state.State.heap_call.Goals as goal
use Rattle.ci_machine.proofs.state.State.heap_call.Goals.{then-may_end_at, else-may_end_at}

pub set_heap_end-requires : goal.set_heap_end-requires
set_heap_end-requires c = sym (c.if-may_end_at.ensures [])

pub returns-clause-state : goal.returns-clause-state
unfolding program_of state_of core_of
returns-clause-state c =
    let old = c.args.self.now in
    let text = old.text in
    elim c.if-may_end_at.branch [
      | then-may_end_at w ↦
          let after = w.set_heap_end.ensures in
          heap_called old c.if-may_end_at.self c.answer.new.self c.heap_end-end.result c.answer.ensures.state c.heap_end-end.ensures
          (ap (λ (m : Machine). m.pc) w.self-is)
          (ap core_of w.self-is
          ∙ (λ k. record {
            registers = slice_index old.registers;
            memory = after.moved k;
            heap_end = after.end k;
            input = drop old.read old.input.items;
            output = old.output.items;
          })
          ∙ sym (taken _ _ _ (sym (w.if-may_end_at.ensures text))))
      | else-may_end_at w ↦
          heap_called old c.if-may_end_at.self c.answer.new.self c.heap_end-end.result c.answer.ensures.state c.heap_end-end.ensures
          (ap (λ (m : Machine). m.pc) w.self-is)
          (ap core_of w.self-is ∙ sym (passed _ _ _ (sym (w.if-may_end_at.ensures text))))
    ]
