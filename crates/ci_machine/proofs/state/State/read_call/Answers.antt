use Rattle.std.proofs.Common.{◌≡◌, ◌+◌, ◌-◌, ◌≤◌, ap, sym, ◌∙◌, arith, length, slice_index}
use Rattle.std.proofs.lemmas.List.{length-drop, drop-drop}
use Rattle.ci_machine.specs.Cores.{Core}
use Rattle.ci_machine.specs.Calls.{answering, read_length}
use Rattle.ci_machine.specs.States.{program_of, state_of, core_of}
use Rattle.ci_machine.proofs.CallLaws.{read_call-is, read_bytes}
use Rattle.ci_machine.proofs.state.State.read_call.Goals as goal

pub returns-then-is_range-clause-state : goal.returns-then-is_range-clause-state
unfolding program_of state_of core_of
returns-then-is_range-clause-state c =
    let old = c.args.self.now in
    let count = c.min-count.result in
    let size : old.input.len ≡ length old.input.items = old.input.ok.0 in
    let within : count ≤ length old.input.items - old.read = omega (arith, c.min-count.ensures, c.len.ensures) in
    let memory = read_bytes _ _ (slice_index old.registers 11) old.read count (old.read + count - old.read) old.input.items c.deref.result.now
    (omega arith) c.deref.ensures.value within c.write.ensures.written in
    let left = drop-drop count old.read old.input.items in
    let wanted : count ≡ read_length (core_of old) =
    omega (arith, c.min-count.ensures, c.len.ensures, length-drop old.read old.input.items) in
    c.answer-then-is_range.ensures.state
    ∙ (λ k. record {
      pc = old.pc;
      core = read_call-is (core_of old) _ count c.if-self-ne0.false wanted (sym c.is_range.ensures ∙ c.if-is_range.true)
          (ap (λ (core : Core). answering core count) (λ i. record {
            registers = slice_index old.registers;
            memory = memory i;
            heap_end = c.write.ensures.end i;
            input = sym left i;
            output = old.output.items;
          })) k;
    })
