use Rattle.std.proofs.Common.{◌≡◌, ◌≤◌, ◌∙◌, arith, ℕ, Some, ap, rules, sym, subst, Result, Ok, Err}
use Rattle.std.specs.Prelude.{OnErr}
use Rattle.ci_machine.specs.States.{program_of, state_of}
use Rattle.ci_machine.specs.Steps.{Meaning, fetched}
use Rattle.ci_emu.specs.Machines.{standing}
use Rattle.ci_emu.proofs.Fetching.{behind_one, fetched_as, index_fits, stands_at, same_change, same_moved, same_target}
use Rattle.ci_machine.specs.Programs.{Program, State}
use Rattle.ci_emu.specs.Steps.{IsReached}
use Rattle.ci_isa.specs.declared.instruction.Insn.{Insn}
use Rattle.ci_isa.specs.Laws.{IsInsnAtX}
use Rattle.ci_emu.specs.declared.decode_cache.Decoded.{Decoded}
use Rattle.ci_emu.specs.private.Fetched.{cycles_on, may_change, HasHiddenIndex}
use Rattle.ci_emu.specs.private.Lines.{AreKnown, IsTimed}
use Rattle.ci_emu.proofs.KnownLines.{behind_step}
use Rattle.ci_emu.proofs.tally.noted_step.Given.{Over}
use Rattle.ci_emu.proofs.tally.noted_step.Goals as goal
use Rattle.ci_emu.proofs.tally.noted_step.Goals.{After-insn}

abbrev line : (g : Over) (c : After-insn g) → Decoded
line g c = c.index-line.result.now

fetches : (g : Over) (c : After-insn g) (meaning : Meaning) → g.M.Machine.meanings c.args.machine.now meaning
    → fetched meaning (program_of c.args.state.now) (state_of c.args.state.now)
    ≡ Some (standing (g.M.Machine.has_unit c.args.machine.now) (g.M.Machine.has_hidden c.args.machine.now) (line g c).word c.insn.result)
fetches g c =
    fetched_as (g.M.Machine.meanings c.args.machine.now) (g.M.Machine.has_unit c.args.machine.now) (g.M.Machine.has_hidden c.args.machine.now)
    (g.met.M.Machine.stands c.args.machine.now) (program_of c.args.state.now) (state_of c.args.state.now)
    (line g c).word c.insn.result
    (subst (IsInsnAtX (line g c).word) (sym c.insn.ensures) (stands_at _ _ (line g c).decoded))
    (λ meaning means. c.in-Some.ensures.fetched (line g c) meaning (c.requires.room.known meaning means)
    ∙ ap (λ (l : Decoded). Some (meaning.insn l.word)) (sym c.index-line.ensures))

abbrev cycles : (g : Over) (c : After-insn g) → ℕ → Insn → ℕ
cycles g c =
    cycles_on (g.M.Machine.has_unit c.args.machine.now) (g.M.Machine.has_hidden c.args.machine.now) (g.M.Machine.unit_cycles c.args.machine.now) c.args.table.now

takes : (g : Over) (c : After-insn g) → (line g c).latency ≡ cycles g c (line g c).word c.insn.result
takes g c =
    subst (IsTimed (cycles g c)) (sym c.index-line.ensures) (c.in-Some.ensures.kept c.in-Some.place (line g c) c.in-Some.ensures.within).0
    ∙ ap (cycles g c (line g c).word) (sym c.insn.ensures)

pub execute-requires-clause-index : goal.execute-requires-clause-index
execute-requires-clause-index g c =
    let s = (goal.at.execute-requires-clause-index g c).After-insn in
    subst HasHiddenIndex (sym s.insn.ensures) (index_fits _ _ (stands_at _ _ (line g s).decoded))

-- where memory runs out in a step, none was made
unmoved : (Means : Meaning → Type 0) (program : Program) (before reached : State) {A E : Type 0} (result : Result A E) → reached ≡ before
    → OnErr result (IsReached Means program before 1 reached)
unmoved Means program before reached (Ok value) same = tt
unmoved Means program before reached (Err e) same = record { steps = 0; within = omega arith; there = λ meaning means. same }

pub returns-in_err-outcome-clause-refused : goal.returns-in_err-outcome-clause-refused
returns-in_err-outcome-clause-refused g c =
    unmoved (g.M.Machine.meanings c.args.machine.now) (program_of c.args.state.now) (state_of c.args.state.now) _ c.from_residual.result
    c.in_err-outcome.ensures.refused

pub returns-in_err-note-clause-refused : goal.returns-in_err-note-clause-refused
returns-in_err-note-clause-refused g c =
    behind_one (program_of c.args.state.now) (state_of c.args.state.now) (g.M.Machine.meanings c.args.machine.now) _ _
    (fetches g (goal.at.returns-in_err-note-clause-refused g c).After-insn)
    _ _ c.in_ok-outcome.ensures.executed

pub returns-clause-made : goal.returns-clause-made
returns-clause-made g c = let s = (goal.at.returns-clause-made g c).After-insn in record {
  stepped = λ meaning means. let is = fetches g s meaning means in search rules;
  counted = λ meaning means.
      let is = fetches g s meaning means in
      let cost = takes g s in
      let moves = same_moved (g.M.Machine.has_unit c.args.machine.now) (g.M.Machine.has_hidden c.args.machine.now) (line g s).word
      (state_of c.args.state.now).core c.insn.result in
      let leads = same_target (g.M.Machine.has_unit c.args.machine.now) (g.M.Machine.has_hidden c.args.machine.now) (line g s).word
      c.in_ok-outcome.outcome (state_of c.execute.new.state).pc c.insn.result in
      search rules;
  known = λ meaning means.
      let program = program_of c.args.state.now in
      let state = state_of c.args.state.now in
      let insn = c.insn.result in
      let changes = same_change (g.M.Machine.has_unit c.args.machine.now) (g.M.Machine.has_hidden c.args.machine.now) c.index-line.result.now.word
      program c.args.tally.now.touches.end state.core insn in
      subst (λ (n : ℕ). AreKnown meaning program (state_of c.execute.new.state).core.memory n c.enter.new.cache.words.items)
      (sym c.execute.ensures.changes)
      (behind_step meaning program (cycles g s) c.enter.new.cache.words.items
      c.args.tally.now.touches.changes c.args.tally.now.touches.end c.requires.room.behind state (state_of c.execute.new.state)
      (standing (g.M.Machine.has_unit c.args.machine.now) (g.M.Machine.has_hidden c.args.machine.now) c.index-line.result.now.word insn)
      c.in_ok-outcome.outcome (may_change program c.args.tally.now.touches.end insn state.core) changes
      c.in-Some.ensures.kept (c.in_ok-outcome.ensures.executed meaning means)
      (c.in-Some.ensures.known meaning (c.requires.room.known meaning means)));
}

-- ---- where no word is fetched

pub returns-in_default-clause-made : goal.returns-in_default-clause-made
returns-in_default-clause-made g c = record {
  stepped = λ meaning means. let is = c.in_default.ensures.fetched meaning in search rules;
  counted = λ meaning means. let is = c.in_default.ensures.fetched meaning in search rules;
  known = λ meaning means. c.enter.ensures.known meaning (c.requires.room.known meaning means);
}
