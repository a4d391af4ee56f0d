-- Steps of two runs that do alike: through two lists of instructions, and by one instruction that ends a block.
use Rattle.std.proofs.Common.{◌≡◌, ℕ, suc, refl, ap, sym, ◌∙◌, subst, arith, List, length, Option, Some, None, inl, inr, find}
use Rattle.std.specs.Prelude.{Bool, true, false, ◌||◌}
use Rattle.std.specs.List.{list_any}
use Rattle.std.proofs.lemmas.Bool.{cases_lt}
use Rattle.ci_isa.specs.declared.instruction.Insn.{Insn}
use Rattle.ci_isa.specs.Effects.{ends_block}
use Rattle.ci_machine.specs.Cores.{Core}
use Rattle.ci_machine.specs.Outcomes.{Reached, reached, at_start}
use Rattle.ci_machine.specs.Agreement.{reads, writes, AreRelated}
use Rattle.ci_machine.specs.Programs.{Program, State, at_pc, in_text}
use Rattle.ci_machine.specs.Steps.{Meaning, fetched, control, step}
use Rattle.ci_machine.specs.Runs.{before_step, is_made}
use Rattle.ci_machine.specs.Touches.{moved, touched, LeavesTextFor}
use Rattle.ci_machine.specs.Blocks.{IsMapped, IsRunOf, AreRelatedAt, behind, cores}
use Rattle.ci_machine.proofs.BlockSteps.{control_step}
use Rattle.ci_machine.proofs.ControlFrame.{control_frame}
use Rattle.ci_machine.proofs.MovedBytes.{leaves_alike}
use Rattle.ci_machine.proofs.RelatedLists.{AreRelated-fewer}
use Rattle.ci_machine.proofs.StandingLists.{behind_same}
use Rattle.ci_machine.proofs.TextLaws.{none_found, find_none}

-- the same with a set of fewer registers
pub AreRelatedAt-fewer : (text set fewer : ℕ → Bool) (left right : Reached State) → ((r : ℕ) → fewer r ≡ true → set r ≡ true)
    → AreRelatedAt text set left right → AreRelatedAt text fewer left right
AreRelatedAt-fewer text set fewer left right within same = record {
  pc = same.pc;
  related = AreRelated-fewer text set fewer (cores left) (cores right) within same.related;
}

-- steps that do what two lists of one length do, from one address
pub related_steps : (text set : ℕ → Bool) (old new : List Insn) (address other : ℕ) (left right : Reached State) (before after : Reached Core)
    → length old ≡ length new → address ≡ other → IsRunOf old address left before → IsRunOf new other right after
    → AreRelated text set before after → AreRelatedAt text set left right
related_steps text set old new address other left right before after same at_one one two related = record {
  pc = λ on.
      let old_on : before.end ≡ None = sym one.end ∙ on in
      one.pc old_on ∙ behind_same old new address same ∙ ap (behind new) at_one ∙ sym (two.pc (sym related.end ∙ old_on));
  related = subst (λ (p : Reached Core × Reached Core). AreRelated text set p.0 p.1)
      (λ i. (record { state = sym one.core i; end = sym one.end i }, record { state = sym two.core i; end = sym two.end i })) related;
}

module _ (meaning : Meaning) (program : Program) where
  -- one step more leaves the text alone too
  pub leaving_one_more : (n : ℕ) (state : State) → LeavesTextFor meaning program n state
      → (is_made meaning program state n ≡ true → touched meaning program (before_step meaning program state n) ≡ None)
      → LeavesTextFor meaning program (suc n) state
  leaving_one_more n state before last i below made = elim (cases_lt i n) [
    | inl earlier ↦ before i earlier made
    | inr late ↦
        let here : i ≡ n = omega arith in
        subst (λ k. touched meaning program (before_step meaning program state k) ≡ None) (sym here)
        (last (subst (λ k. is_made meaning program state k ≡ true) here made))
  ]

  touches : (insn : Insn) (state : State) → fetched meaning program state ≡ Some insn
      → touched meaning program state ≡ find (in_text program) (moved insn state.core)
  touches insn state found =
      ap (λ (f : Option Insn). elim f as (λ _. Option ℕ) [ None ↦ None | Some other ↦ find (in_text program) (moved other state.core) ]) found

  -- the step of an instruction that ends a block, at one pc, from cores that agree on what it reads
  module _ (set : ℕ → Bool) (insn : Insn) (left right : State) (ends : ends_block insn ≡ true) (same_pc : left.pc ≡ right.pc)
      (left_fetches : fetched meaning program left ≡ Some insn) (right_fetches : fetched meaning program right ≡ Some insn)
      (left_mapped : IsMapped (in_text program) left.core.memory) (right_mapped : IsMapped (in_text program) right.core.memory)
      (covered : (r : ℕ) → reads meaning.units insn r ≡ true → set r ≡ true)
      (related : AreRelated (in_text program) set (at_start left.core) (at_start right.core)) (clear : touched meaning program left ≡ None) where
    left_clear : list_any (in_text program) (moved insn left.core) ≡ false
    left_clear = none_found (in_text program) (moved insn left.core) (sym (touches insn left left_fetches) ∙ clear)

    pub end_clear : touched meaning program right ≡ None
    end_clear =
        touches insn right right_fetches
        ∙ find_none (in_text program) (moved insn right.core)
        (leaves_alike (in_text program) set meaning.units left.core right.core left_mapped right_mapped
        related.outside (related.registers refl) insn ends covered left_clear)

    pub ends_related : AreRelatedAt (in_text program) (λ r. set r || writes insn r)
        (reached left (step meaning program left)) (reached right (step meaning program right))
    ends_related =
        rw (control_step meaning program left insn left_fetches ends, control_step meaning program right insn right_fetches ends)
        (subst (λ pc. AreRelatedAt (in_text program) (λ r. set r || writes insn r)
        (reached left (control program insn left.pc left.core)) (reached (at_pc pc right.core) (control program insn pc right.core))) same_pc
        (control_frame (in_text program) set meaning.units program program (record { start = refl; size = refl }) left.core right.core
        left_mapped right_mapped related.outside (related.registers refl) insn left.pc ends covered left_clear))
