-- A line that is known holds what would be fetched, and what it does was done.
use Rattle.std.proofs.Common.{◌≡◌, ◌∙◌, ◌<◌, ◌^◌, ℕ, Some, ap, arith, refl, rules, sym, subst, length, add-zero}
use Rattle.ci_machine.specs.States.{program_of, state_of}
use Rattle.ci_machine.specs.Steps.{Meaning, fetched}
use Rattle.ci_elf.specs.WordPlaces.{word_place}
use Rattle.ci_elf.proofs.WordPlaceLaws.{text_word}
use Rattle.ci_isa.specs.declared.instruction.Insn.{Insn}
use Rattle.ci_emu.specs.declared.decode_cache.Decoded.{Decoded}
use Rattle.ci_emu.specs.declared.steps.Outcome.TheVariants.{Next}
use Rattle.ci_emu.specs.Machines.{standing}
use Rattle.ci_emu.specs.private.Actions.{insn_of}
use Rattle.ci_emu.specs.private.Counting.{target_of}
use Rattle.std.specs.Prelude.{false}
use Rattle.ci_emu.specs.private.Fetched.{cycles_on}
use Rattle.ci_emu.specs.private.Lines.{AreKnown, IsTimed}
use Rattle.ci_emu.proofs.CountLaws.{place_at, entered, count_here}
use Rattle.ci_emu.proofs.Fetching.{fetched_as, index_fits, made, stands_at, same_change, same_moved, same_target}
use Rattle.ci_emu.proofs.KnownLines.{behind_step}
use Rattle.ci_emu.proofs.Touched.{told_before}
use Rattle.ci_emu.proofs.tally.quick_step.Given.{Over}
use Rattle.ci_emu.proofs.tally.quick_step.Goals as goal
use Rattle.ci_emu.proofs.tally.quick_step.Goals.{After-index-line}

here : (g : Over) (c : After-index-line g) → word_place (program_of c.args.state.now).text (state_of c.args.state.now).pc ≡ Some c.in-Some.place
here g c = place_at (program_of c.args.state.now) c.args.tally.now.counts c.requires.room.text _ _ _ c.pc.ensures (sym c.in-Some.ensures.value)

within : (g : Over) (c : After-index-line g) → c.in-Some.place < length c.args.tally.now.cache.words.items
within g c = subst (λ (n : ℕ). c.in-Some.place < n) (sym c.requires.room.many) c.in-Some.ensures.within

abbrev line : (g : Over) (c : After-index-line g) → Decoded
line g c = c.index-line.result.now

fetches : (g : Over) (c : After-index-line g) (meaning : Meaning) → g.M.Machine.meanings c.args.machine.now meaning
    → fetched meaning (program_of c.args.state.now) (state_of c.args.state.now)
    ≡ Some (standing (g.M.Machine.has_unit c.args.machine.now) (g.M.Machine.has_hidden c.args.machine.now) (line g c).word (insn_of (line g c).action))
fetches g c =
    fetched_as (g.M.Machine.meanings c.args.machine.now) (g.M.Machine.has_unit c.args.machine.now) (g.M.Machine.has_hidden c.args.machine.now)
    (g.met.M.Machine.stands c.args.machine.now) (program_of c.args.state.now) (state_of c.args.state.now)
    (line g c).word (insn_of (line g c).action) (stands_at _ _ (line g c).decoded)
    (λ meaning means.
    (c.requires.room.known meaning means (state_of c.args.state.now).pc c.in-Some.place (line g c) (here g c) (within g c)
    (c.is_known.ensures c.if-not-is_known.false (line g c))).insn
    ∙ ap (λ (l : Decoded). Some (meaning.insn l.word)) (sym c.index-line.ensures))

abbrev cycles : (g : Over) (c : After-index-line g) → ℕ → Insn → ℕ
cycles g c =
    cycles_on (g.M.Machine.has_unit c.args.machine.now) (g.M.Machine.has_hidden c.args.machine.now) (g.M.Machine.unit_cycles c.args.machine.now) c.args.table.now

takes : (g : Over) (c : After-index-line g) → IsTimed (cycles g c) (line g c)
takes g c = subst (IsTimed (cycles g c)) (sym c.index-line.ensures) (c.requires.room.kept c.in-Some.place (line g c) (within g c)).0

pub is_known-requires : goal.is_known-requires
is_known-requires g c = subst (λ (n : ℕ). c.in-Some.place < n) (sym c.requires.room.many) c.in-Some.ensures.within

pub perform-requires-clause-index : goal.perform-requires-clause-index
perform-requires-clause-index g c =
    let s = (goal.at.perform-requires-clause-index g c).After-index-line in index_fits _ _ (stands_at _ _ (line g s).decoded)

pub add-requires-clause-room : goal.add-requires-clause-room
add-requires-clause-room g c =
    let is = here g (goal.at.add-requires-clause-room g c).After-index-line in
    let same = count_here (program_of c.args.state.now) c.args.tally.now.counts c.requires.room.text _ _ is in
    subst (λ (n : ℕ). n < 2 ^ 32) same (c.requires.room.room (text_word _ _ _ is))

pub returns-clause-made : goal.returns-clause-made
returns-clause-made g c = λ e.
    let s = (goal.at.returns-clause-made g c).After-index-line in record {
      stepped = made (program_of c.args.state.now) (state_of c.args.state.now) (g.M.Machine.meanings c.args.machine.now) _ _ (fetches g s) Next
          (λ meaning means. c.perform.ensures.performed c.if-not-perform.false c.index-line.result.now.word meaning means);
      counted = λ meaning means.
          let is = fetches g s meaning means in
          let cost = takes g s in
          let insn = insn_of c.index-line.result.now.action in
          let moves = same_moved (g.M.Machine.has_unit c.args.machine.now) (g.M.Machine.has_hidden c.args.machine.now)
          c.index-line.result.now.word (state_of c.args.state.now).core insn in
          let leads = same_target (g.M.Machine.has_unit c.args.machine.now) (g.M.Machine.has_hidden c.args.machine.now)
          c.index-line.result.now.word Next (state_of c.perform.new.state).pc insn in
          let performed = c.perform.ensures.performed c.if-not-perform.false c.index-line.result.now.word meaning means in
          let touched = c.perform.ensures.touched c.if-not-perform.false in
          let told = told_before c.args.tally.now.targets (target_of insn Next (state_of c.perform.new.state).pc)
          (c.perform.ensures.led c.if-not-perform.false) in
          let entries = entered (program_of c.args.state.now) c.args.tally.now.counts c.requires.room.text c.add.new.self _ _
          (here g s) c.in-Some.ensures.within c.add.ensures.places c.add.ensures.counted in
          search rules;
      known = λ meaning means.
          let program = program_of c.args.state.now in
          let state = state_of c.args.state.now in
          let insn = insn_of c.index-line.result.now.action in
          let word = c.index-line.result.now.word in
          let lines = c.args.tally.now.cache.words.items in
          subst (λ (n : ℕ). AreKnown meaning program (state_of c.perform.new.state).core.memory n lines) (add-zero c.args.tally.now.touches.changes)
          (behind_step meaning program (cycles g s) lines c.args.tally.now.touches.changes c.args.tally.now.touches.end c.requires.room.behind
          state (state_of c.perform.new.state)
          (standing (g.M.Machine.has_unit c.args.machine.now) (g.M.Machine.has_hidden c.args.machine.now) word insn) Next false
          (same_change (g.M.Machine.has_unit c.args.machine.now) (g.M.Machine.has_hidden c.args.machine.now) word program c.args.tally.now.touches.end state.core insn
          ∙ c.perform.ensures.changes c.if-not-perform.false)
          c.requires.room.kept (c.perform.ensures.performed c.if-not-perform.false word meaning means) (c.requires.room.known meaning means));
    }

pub returns-clause-entered : goal.returns-clause-entered
returns-clause-entered g c = λ e. record {
  entered = entered (program_of c.args.state.now) c.args.tally.now.counts c.requires.room.text _ _ _
      (here g (goal.at.returns-clause-entered g c).After-index-line) c.in-Some.ensures.within c.add.ensures.places c.add.ensures.counted;
  cost = omega arith;
  text = c.add.ensures.places;
  many = c.requires.room.many ∙ sym c.add.ensures.many;
  end = refl;
  later = omega arith;
  few = omega arith;
  kept = c.requires.room.kept;
}
