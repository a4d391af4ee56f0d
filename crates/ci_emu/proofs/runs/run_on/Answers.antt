use Rattle.std.proofs.Common.{◌≡◌, ℕ, ◌≤◌, false, sym, subst, ◌∙◌, refl, arith}
use Rattle.ci_elf.specs.Executables.{in_text as has_text}
use Rattle.ci_machine.specs.Programs.{Program, State}
use Rattle.ci_machine.specs.States.{program_of, state_of}
use Rattle.ci_emu.specs.private.CountedSteps.{IsCountedStep}
use Rattle.ci_emu.specs.private.Fetched.{cycles_on, IsTextBelow}
use Rattle.ci_emu.specs.private.PlacedRanges.{ArePlaced}
use Rattle.ci_emu.specs.TableLatencies.{latencies_on}
use Rattle.ci_emu.specs.declared.tally.Tally.{Tally}
use Rattle.ci_emu.proofs.KnownLines.{later_kept, none_known}
use Rattle.ci_emu.proofs.RunCounts.{none_counted}
use Rattle.ci_emu.proofs.RunSteps.{on_error, reached_here, reached_more, reached_next, ended_profile, ended_state, whole_profile, whole_state}
use Rattle.ci_emu.proofs.RunsSoFar.{IsRunTo, unmade, room_for_one, one_step_more}
use Rattle.ci_emu.proofs.runs.run_on.Given.{Over}
use Rattle.ci_emu.proofs.runs.run_on.Goals as goal
use Rattle.ci_emu.proofs.runs.run_on.Goals.{After-far_step}

pub loop-i-init : goal.loop-i-init
loop-i-init g c = let fresh = c.in_ok-tally.ensures.fresh in (
  record {
    same = refl;
    text = c.in_ok-tally.ensures.text ∙ c.text.ensures.value;
    cost = subst (λ (n : ℕ). n ≤ 0) (sym fresh.cost) (omega arith);
    many = c.in_ok-tally.ensures.many;
    behind = subst (λ ranges. IsTextBelow (has_text ranges) c.in_ok-tally.tally.touches.end) c.text.ensures.value c.in_ok-tally.ensures.behind;
    begun = omega (arith, c.in_ok-tally.ensures.changes);
    changes = omega (arith, c.in_ok-tally.ensures.changes);
    kept = later_kept
        (cycles_on (g.M.Machine.has_unit c.args.machine.now) (g.M.Machine.has_hidden c.args.machine.now)
        (g.M.Machine.unit_cycles c.args.machine.now) c.args.table.now)
        c.in_ok-tally.tally.cache.words.items 0 c.in_ok-tally.tally.touches.changes (omega (arith, c.in_ok-tally.ensures.changes)) c.in_ok-tally.ensures.kept;
    known = λ meaning means.
        none_known meaning (program_of c.args.state.now) (state_of c.args.state.now).core.memory
        (cycles_on (g.M.Machine.has_unit c.args.machine.now) (g.M.Machine.has_hidden c.args.machine.now)
        (g.M.Machine.unit_cycles c.args.machine.now) c.args.table.now)
        c.in_ok-tally.tally.cache.words.items 0 c.in_ok-tally.tally.touches.changes (omega (arith, c.in_ok-tally.ensures.changes)) c.in_ok-tally.ensures.kept;
    few = λ address word. subst (λ (n : ℕ). n ≤ 0) (sym (fresh.entries address)) (omega arith);
    reached = λ meaning means. refl;
    counted = λ meaning means.
        none_counted meaning (program_of c.args.state.now) (latencies_on c.args.table.now (g.M.Machine.unit_cycles c.args.machine.now))
        (state_of c.args.state.now) _ fresh;
  },
  c.new-nearby.ensures (program_of c.args.state.now).text,
)

pub quick_step-requires-clause-room : goal.quick_step-requires-clause-room
quick_step-requires-clause-room g c = room_for_one _ _ _ _ _ _ _ _ _ c.loop-i.invariant.0 (omega arith)

pub quick_step-requires-clause-nearby : goal.quick_step-requires-clause-nearby
quick_step-requires-clause-nearby g c = subst (λ ranges. ArePlaced ranges c.loop-i.nearby) (sym c.loop-i.invariant.0.text) c.loop-i.invariant.1

-- ---- a quick step

pub loop-i-preserved-then-quick_step : goal.loop-i-preserved-then-quick_step
loop-i-preserved-then-quick_step g c = (
  one_step_more _ _ _ _ _ _ _ _ _ c.loop-i.invariant.0 _ _ _ c.quick_step.ensures.program
      (c.quick_step.ensures.made c.if-quick_step.true) (c.quick_step.ensures.entered c.if-quick_step.true),
  c.loop-i.invariant.1,
)

-- ---- one into another range

pub far_step-requires-clause-room : goal.far_step-requires-clause-room
far_step-requires-clause-room g c =
    room_for_one _ _ _ _ _ _ _ _ _
    (unmade _ _ _ _ _ _ (program_of c.loop-i.state) (state_of c.loop-i.state) c.loop-i.tally _ _ _ c.loop-i.invariant.0
    c.quick_step.ensures.program (c.quick_step.ensures.stayed c.if-quick_step.false) (c.quick_step.ensures.uncounted c.if-quick_step.false)) (omega arith)

pub far_step-requires-clause-nearby : goal.far_step-requires-clause-nearby
far_step-requires-clause-nearby g c =
    subst (λ (t : Tally). ArePlaced t.counts.places c.loop-i.nearby) (sym (c.quick_step.ensures.uncounted c.if-quick_step.false))
    (subst (λ ranges. ArePlaced ranges c.loop-i.nearby) (sym c.loop-i.invariant.0.text) c.loop-i.invariant.1)

abbrev Here : (g : Over) (c : After-far_step g) → Program → State → Tally → Type 0
Here g c program state tally =
    IsRunTo (g.M.Machine.meanings c.args.machine.now)
    (cycles_on (g.M.Machine.has_unit c.args.machine.now) (g.M.Machine.has_hidden c.args.machine.now)
    (g.M.Machine.unit_cycles c.args.machine.now) c.args.table.now)
    (latencies_on c.args.table.now (g.M.Machine.unit_cycles c.args.machine.now)) (program_of c.args.state.now) (state_of c.args.state.now) c.loop-i.i
    program state tally

-- it begins where the quick one would have
so_far : (g : Over) (c : After-far_step g) → Here g c (program_of c.quick_step.new.state) (state_of c.quick_step.new.state) c.quick_step.new.tally
so_far g c =
    unmade _ _ _ _ _ _ (program_of c.loop-i.state) (state_of c.loop-i.state) c.loop-i.tally _ _ _ c.loop-i.invariant.0
    c.quick_step.ensures.program (c.quick_step.ensures.stayed c.if-quick_step.false) (c.quick_step.ensures.uncounted c.if-quick_step.false)

near : (g : Over) (c : After-far_step g) → ArePlaced (program_of c.args.state.now).text c.far_step.new.nearby
near g c = subst (λ ranges. ArePlaced ranges c.far_step.new.nearby) (so_far g c).text c.far_step.ensures.nearby

pub loop-i-preserved-then-far_step : goal.loop-i-preserved-then-far_step
loop-i-preserved-then-far_step g c =
    let s = (goal.at.loop-i-preserved-then-far_step g c).After-far_step in (
      one_step_more _ _ _ _ _ _ _ _ _ (so_far g s) _ _ _
          c.far_step.ensures.program (c.far_step.ensures.made c.if-far_step.true) (c.far_step.ensures.entered c.if-far_step.true),
      near g s,
    )

-- ---- one that has to be noted

-- it begins there too
yet : (g : Over) (c : After-far_step g) → c.far_step.result ≡ false
    → Here g c (program_of c.far_step.new.state) (state_of c.far_step.new.state) c.far_step.new.tally
yet g c other =
    unmade _ _ _ _ _ _ (program_of c.quick_step.new.state) (state_of c.quick_step.new.state) c.quick_step.new.tally _ _ _ (so_far g c)
    c.far_step.ensures.program (c.far_step.ensures.stayed other) (c.far_step.ensures.uncounted other)

pub noted_step-requires-clause-room : goal.noted_step-requires-clause-room
noted_step-requires-clause-room g c = room_for_one _ _ _ _ _ _ _ _ _ (yet g (goal.at.noted_step-requires-clause-room g c).After-far_step c.if-far_step.false) (omega arith)

pub noted_step-requires-clause-nearby : goal.noted_step-requires-clause-nearby
noted_step-requires-clause-nearby g c =
    subst (λ ranges. ArePlaced ranges c.far_step.new.nearby)
    (sym (yet g (goal.at.noted_step-requires-clause-nearby g c).After-far_step c.if-far_step.false).text)
    (near g (goal.at.noted_step-requires-clause-nearby g c).After-far_step)

pub loop-i-preserved : goal.loop-i-preserved
loop-i-preserved g c =
    let Means = g.M.Machine.meanings c.args.machine.now in
    let latencies = latencies_on c.args.table.now (g.M.Machine.unit_cycles c.args.machine.now) in (
      one_step_more _ _ _ _ _ _ _ _ _ (yet g (goal.at.loop-i-preserved g c).After-far_step c.if-far_step.false) _ _ _ c.in_ok-end.ensures.program
          (subst (IsCountedStep Means latencies (program_of c.far_step.new.state) (state_of c.far_step.new.state) c.far_step.new.tally
          (state_of c.noted_step.new.state) c.noted_step.new.tally) c.in_default.is c.in_ok-end.ensures.made)
          c.in_ok-end.ensures.entered,
      subst (λ ranges. ArePlaced ranges c.noted_step.new.nearby)
          (yet g (goal.at.loop-i-preserved g c).After-far_step c.if-far_step.false).text c.in_ok-end.ensures.nearby,
    )

pub returns-in_err-end-clause-refused : goal.returns-in_err-end-clause-refused
returns-in_err-end-clause-refused g c =
    let s = yet g (goal.at.returns-in_err-end-clause-refused g c).After-far_step c.if-far_step.false in
    on_error _ (reached_more (g.M.Machine.meanings c.args.machine.now) (program_of c.args.state.now) (state_of c.args.state.now) c.loop-i.i
    (program_of c.far_step.new.state) s.same (state_of c.far_step.new.state) s.reached
    c.args.n 1 _ (omega arith) c.in_err-end.ensures.refused)

pub returns-in-Ended-clause-state : goal.returns-in-Ended-clause-state
returns-in-Ended-clause-state g c =
    let s = yet g (goal.at.returns-in-Ended-clause-state g c).After-far_step c.if-far_step.false in
    ended_state (g.M.Machine.meanings c.args.machine.now) (program_of c.args.state.now) (state_of c.args.state.now) c.loop-i.i
    (program_of c.far_step.new.state) s.same (state_of c.far_step.new.state) s.reached
    _ c.in_ok-end.field-0 c.in_ok-end.ensures.made.stepped (latencies_on c.args.table.now (g.M.Machine.unit_cycles c.args.machine.now))
    c.far_step.new.tally c.noted_step.new.tally s.counted c.in_ok-end.ensures.made.counted c.args.n c.loop-i-test.true c.in-Ended.end c.in-Ended.is _

pub returns-in-Ended-clause-profile : goal.returns-in-Ended-clause-profile
returns-in-Ended-clause-profile g c =
    let s = yet g (goal.at.returns-in-Ended-clause-profile g c).After-far_step c.if-far_step.false in
    ended_profile (g.M.Machine.meanings c.args.machine.now) (program_of c.args.state.now) (state_of c.args.state.now) c.loop-i.i
    (program_of c.far_step.new.state) s.same (state_of c.far_step.new.state) s.reached
    _ c.in_ok-end.field-0 c.in_ok-end.ensures.made.stepped (latencies_on c.args.table.now (g.M.Machine.unit_cycles c.args.machine.now))
    c.far_step.new.tally c.noted_step.new.tally s.counted c.in_ok-end.ensures.made.counted c.args.n
    c.loop-i-test.true c.in-Ended.end c.in-Ended.is _ c.profile.ensures

pub returns-in-Ended-clause-refused : goal.returns-in-Ended-clause-refused
returns-in-Ended-clause-refused g c =
    let s = yet g (goal.at.returns-in-Ended-clause-refused g c).After-far_step c.if-far_step.false in
    on_error _ (reached_next (g.M.Machine.meanings c.args.machine.now) (program_of c.args.state.now) (state_of c.args.state.now) c.loop-i.i
    (program_of c.far_step.new.state) s.same (state_of c.far_step.new.state) s.reached
    _ c.in_ok-end.field-0 c.in_ok-end.ensures.made.stepped c.args.n c.loop-i-test.true)

-- ---- all steps

pub returns-clause-state : goal.returns-clause-state
returns-clause-state g c =
    whole_state (g.M.Machine.meanings c.args.machine.now) (program_of c.args.state.now) (state_of c.args.state.now) c.loop-i.i
    (program_of c.loop-i.state) c.loop-i.invariant.0.same (state_of c.loop-i.state) c.loop-i.invariant.0.reached c.args.n (omega arith) _

pub returns-clause-profile : goal.returns-clause-profile
returns-clause-profile g c =
    whole_profile (g.M.Machine.meanings c.args.machine.now) (program_of c.args.state.now) (state_of c.args.state.now) c.loop-i.i
    (program_of c.loop-i.state) c.loop-i.invariant.0.same (state_of c.loop-i.state) c.loop-i.invariant.0.reached
    (latencies_on c.args.table.now (g.M.Machine.unit_cycles c.args.machine.now))
    c.loop-i.tally c.loop-i.invariant.0.counted c.args.n (omega arith) _ c.profile-2.ensures

pub returns-clause-refused : goal.returns-clause-refused
returns-clause-refused g c =
    on_error _ (reached_here (g.M.Machine.meanings c.args.machine.now) (program_of c.args.state.now) (state_of c.args.state.now) c.loop-i.i
    (program_of c.loop-i.state) c.loop-i.invariant.0.same (state_of c.loop-i.state) c.loop-i.invariant.0.reached c.args.n (omega arith))
