-- A folded block has the same effect from a core that agrees on what the block needs.
use Rattle.std.specs.Prelude.{◌≡◌, ℕ, ◌<◌, ◌≤◌, Bool, true, false, not, ◌&&◌, ◌||◌, List, [], ◌∷◌, ◌++◌, take, drop, All}
use Rattle.std.specs.FinSet as finite
use Rattle.std.specs.Ordering.{nat_cmp}
use Rattle.std.proofs.Common.{refl, sym, ap, ◌∙◌, subst, arith, inl, inr, true≢false}
use Rattle.std.proofs.lemmas.Bool.{cases_lt, false_from_ne_true}
use Rattle.std.proofs.lemmas.Bool.Decides.{nat_tests}
use Rattle.std.proofs.lemmas.List.{take-append-drop}
use Rattle.std.proofs.lemmas.List.Folds.{list_any_none}
use Rattle.ci_isa.specs.declared.instruction.Insn.{Insn}
use Rattle.ci_isa.specs.Effects.{is_among, ends_block}
use Rattle.ci_isa.specs.Sequences.{nth_insn}
use Rattle.ci_machine.specs.Actions.{Units}
use Rattle.ci_machine.specs.Agreement as machine
use Rattle.ci_machine.specs.Agreement.{act_all, writes, AreActions, AreRelated, TakeHidden}
use Rattle.ci_machine.specs.Cores.{first_hidden, hidden_operands}
use Rattle.ci_machine.specs.Outcomes.{at_start}
use Rattle.ci_rewrite.specs.Blocks.{IsBlock, AreNamed, live_behind}
use Rattle.ci_rewrite.proofs.PassedUnits.{ServePassed, PassedKeepsAgreement}
use Rattle.ci_machine.proofs.LeavingLists.{leaves_alike}
use Rattle.ci_machine.proofs.NamedReads.{no_further, needed, needed_same, end_reads}
use Rattle.ci_machine.proofs.RelatedLists.{list_frame, AreRelated-trans, AreRelated-everywhere}
use Rattle.ci_rewrite.proofs.BundleLaws.{bundles_are_given, no_hidden_needed}
use Rattle.ci_rewrite.proofs.FollowLaws.{take_given}
use Rattle.ci_rewrite.proofs.GivenLists.{are_given}
use Rattle.ci_rewrite.proofs.CoverLaws.{live_behind_is, covered}
use Rattle.ci_rewrite.proofs.Lists.{all_those, behind_first, take_those}

-- ---- the actions of a block

pub actions_of : (insns : List Insn) (n : ℕ) → IsBlock insns n → AreActions (take n insns)
actions_of insns n block =
    list_any_none ends_block (take n insns)
    (subst (All (λ insn. ends_block insn ≡ false)) (sym (take_those insns n block.actions.within))
    (all_those (λ insn. ends_block insn ≡ false) insns (λ _. true) n (λ k below is. block.actions.act k below)))

-- ---- the registers that a block needs

hidden_ones : (units : Units) (insns : List Insn) → ServePassed units insns → TakeHidden units
hidden_ones units insns serve number r among = low r (serve.operands number r among)
  where
    low : (r : ℕ) → is_among hidden_operands r ≡ true → first_hidden ≤ r
    low r is = grind (arith, nat_tests)

-- it needs no hidden one
pub block_needs_named : (units : Units) (insns : List Insn) (n : ℕ) (live_out : finite.FinSet nat_cmp) → IsBlock insns n → AreNamed live_out
    → ServePassed units insns → (r : ℕ) → machine.needed units insns (finite.contains live_out) r ≡ true → r < 32
block_needs_named units insns n live_out block named serve r is = elim (cases_lt r 32) [
  | inl below ↦ below
  | inr hidden ↦ absurd (true≢false (sym is ∙ no_hidden_needed units insns (finite.contains live_out)
      (are_given units insns (bundles_are_given units insns block.bundled (take_given units insns serve.operands serve.bare) block.fit))
      (λ q above. false_from_ne_true (finite.contains live_out q) (λ live. let below = named q live in absurd (omega arith))) r hidden))
]

needed-append_units : (units : Units) (before behind : List Insn) (set : ℕ → Bool) (r : ℕ)
    → machine.needed units (before ++ behind) set r ≡ machine.needed units before (machine.needed units behind set) r
needed-append_units units [] behind set r = refl
needed-append_units units (insn ∷ before) behind set r =
    ap (λ b. machine.reads units insn r || (b && not (writes insn r))) (needed-append_units units before behind set r)

-- ---- the theorem

pub passed_keeps_agreement : PassedKeepsAgreement
passed_keeps_agreement text set units insns folded n live_out left right block named serve keeps covers holds outside agree clear = (
  keeps.effect.leaves_text right holds (leaves_alike text units behind (take n insns) (at_start left) (at_start right) acts start clear),
  AreRelated-trans text behind
      (act_all units (take n insns) (at_start left)) (act_all units (take n insns) (at_start right)) (act_all units (take n folded) (at_start right))
      (list_frame text units behind (take n insns) (at_start left) (at_start right) acts start clear)
      (AreRelated-everywhere text behind _ _ (keeps.effect.runs right holds)),
)
  where
    behind : ℕ → Bool
    behind = live_behind insns n live_out

    acts : AreActions (take n insns)
    acts = actions_of insns n block

    -- what is live behind them is what the end needs
    end_needs : (list : List Insn) → drop n insns ≡ list → (r : ℕ) → machine.needed units list (finite.contains live_out) r ≡ needed list (finite.contains live_out) r
    end_needs list same r = elim (behind_first insns n block.actions.most) [
      | inl (short, none) ↦ ap (λ l. machine.needed units l (finite.contains live_out) r) (sym same ∙ none) ∙ ap (λ l. needed l (finite.contains live_out) r) (sym none ∙ same)
      | inr (there, one) ↦
          let ends = block.actions.end n (omega arith) there in
          ap (λ l. machine.needed units l (finite.contains live_out) r) (sym same ∙ one)
          ∙ (λ i. end_reads units (nth_insn insns n) ends r i || (finite.contains live_out r && not (writes (nth_insn insns n) r)))
          ∙ (λ i. sym (end_reads no_further (nth_insn insns n) ends r) i || (finite.contains live_out r && not (writes (nth_insn insns n) r)))
          ∙ ap (λ l. needed l (finite.contains live_out) r) (sym one ∙ same)
    ]

    -- what the actions need for what is live behind them, the block needs
    needs : (r : ℕ) → machine.needed units (take n insns) behind r ≡ machine.needed units insns (finite.contains live_out) r
    needs r =
        ap (λ set. machine.needed units (take n insns) set r)
        (λ i q. (sym (live_behind_is insns n live_out block.actions q) ∙ sym (end_needs (drop n insns) refl q)) i)
        ∙ sym (needed-append_units units (take n insns) (drop n insns) (finite.contains live_out) r)
        ∙ ap (λ l. machine.needed units l (finite.contains live_out) r) (take-append-drop n insns)

    start : AreRelated text (machine.needed units (take n insns) behind) (at_start left) (at_start right)
    start = record {
      end = refl;
      outside = outside;
      registers = λ on r is.
          let needs_it = sym (needs r) ∙ is in
          let below = block_needs_named units insns n live_out block named serve r needs_it in
          agree r (covered set insns live_out covers r below (sym (needed_same units (hidden_ones units insns serve) insns (finite.contains live_out) r below) ∙ needs_it));
    }
