-- Where a run ends, and what no action changes.
use Rattle.std.proofs.Common.{◌≡◌, ℕ, zero, suc, ◌+◌, ◌-◌, ◌≤◌, refl, ap, sym, ◌∙◌, arith, List, [], ◌∷◌, Option, Some, None}
use Rattle.ci_isa.specs.declared.instruction.Insn.{Insn}
use Rattle.ci_machine.specs.declared.ends.End.{End}
use Rattle.ci_machine.specs.Cores.{Core}
use Rattle.ci_machine.specs.Outcomes.{Reached, continued, from_end}
use Rattle.ci_machine.specs.Actions.{Units, act}
use Rattle.ci_machine.specs.Agreement.{acted, act_all}
use Rattle.ci_machine.specs.Programs.{Program, State}
use Rattle.ci_machine.specs.Steps.{Meaning, step}
use Rattle.ci_machine.specs.Runs.{after}
use Rattle.ci_machine.specs.RunEvents.{MetEnd}
use Rattle.ci_machine.specs.Blocks.{HaveSameStreams}
use Rattle.ci_machine.proofs.TestLaws.{by_end}
use Rattle.ci_machine.proofs.InstructionFrame.{keeps}
use Rattle.ci_machine.proofs.RunLaws.{ends_stay}

module _ (meaning : Meaning) (program : Program) (state : State) where
  pub no_end_before : (d n : ℕ) → d ≤ n → (after meaning program n state).end ≡ None → (after meaning program d state).end ≡ None
  no_end_before d n le on =
      by_end (after meaning program d state).end (λ none. none)
      (λ e is.
      let whole : d + (n - d) ≡ n = omega arith in
      let stays = ends_stay meaning program d (n - d) state (λ none. let never : Some e ≡ None = sym is ∙ none in cc) in
      let never : Some e ≡ None = sym is ∙ sym (ap (λ run. run.end) stays) ∙ ap (λ (m : ℕ). (after meaning program m state).end) whole ∙ on in cc)

  pub ends_at : (n : ℕ) (e : End) → (after meaning program n state).end ≡ Some e → MetEnd meaning program state n e
  ends_at zero e is = absurd (let never : None ≡ Some e = is in cc)
  ends_at (suc n) e is = tested (after meaning program n state).end refl (ends_at n)
    where
      ended_before : (run : Reached State) (other : End) → run.end ≡ Some other → continued (step meaning program) run ≡ run
      ended_before run other is = ap (from_end (step meaning program) run) is

      tested : (end : Option End) → (after meaning program n state).end ≡ end
          → ((e : End) → (after meaning program n state).end ≡ Some e → MetEnd meaning program state n e) → MetEnd meaning program state (suc n) e
      tested None on earlier = record {
        place = suc n;
        some = omega arith;
        within = omega arith;
        there = is;
        stays = refl;
        on = λ d lt. no_end_before d n (omega arith) on;
      }
      tested (Some other) ended earlier =
          let same = ended_before (after meaning program n state) other ended in
          let first = earlier e (sym (ap (λ run. run.end) same) ∙ is) in
          record {
            place = first.place;
            some = first.some;
            within = omega (arith, first.within);
            there = first.there;
            stays = same ∙ first.stays;
            on = first.on;
          }

-- ---- actions

acted_streams : (units : Units) (insn : Insn) (run : Reached Core) → HaveSameStreams run.state (continued (act units insn) run).state
acted_streams units insn run = tested run.end
  where
    tested : (end : Option End) → HaveSameStreams run.state (from_end (act units insn) run end).state
    tested None =
        let kept = keeps units insn run.state in
        record { heap_end = sym kept.heap_end; input = sym kept.input; output = sym kept.output }
    tested (Some e) = record { heap_end = refl; input = refl; output = refl }

pub lists_keep_streams : (units : Units) (insns : List Insn) (run : Reached Core) → HaveSameStreams run.state (act_all units insns run).state
lists_keep_streams units [] run = record { heap_end = refl; input = refl; output = refl }
lists_keep_streams units (insn ∷ insns) run =
    let first = acted_streams units insn run in
    let rest = lists_keep_streams units insns (continued (act units insn) run) in
    record { heap_end = first.heap_end ∙ rest.heap_end; input = first.input ∙ rest.input; output = first.output ∙ rest.output }

pub acted_keeps_streams : (units : Units) (insn : Insn) (core start : Core) → HaveSameStreams core start → HaveSameStreams (acted units insn core).state start
acted_keeps_streams units insn core start before =
    let now = keeps units insn core in
    record { heap_end = now.heap_end ∙ before.heap_end; input = now.input ∙ before.input; output = now.output ∙ before.output }
