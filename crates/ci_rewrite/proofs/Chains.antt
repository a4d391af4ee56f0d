-- A block has one folded block for a cut and a number, and no fold or several keep it.
use Rattle.std.specs.Prelude.{◌≡◌, ℕ, ◌<◌, false, not, ◌&&◌, ◌++◌, map, length, replicate, take}
use Rattle.std.proofs.Common.{refl, sym, ap, ◌∙◌, subst}
use Rattle.ci_word.proofs.NumberLaws.{numbers_below-same}
use Rattle.ci_machine.specs.Outcomes.{at_start}
use Rattle.ci_machine.specs.Agreement.{act_all, AreRelated}
use Rattle.ci_rewrite.specs.Blocks.{live_before, live_behind}
use Rattle.ci_machine.proofs.RelatedLists.{AreRelated-refl, AreRelated-trans}
use Rattle.ci_cut.proofs.PrefixLaws.{same_test}
use Rattle.ci_isa.specs.Sequences.{nth_insn}
use Rattle.ci_unit.specs.Uses.{use_of}
use Rattle.ci_rewrite.specs.FoldedBlock.{no_op, places_left, those, FoldedIsOne}
use Rattle.ci_rewrite.specs.SameEffect.{BlockKeepsItself, KeepingJoins}
use Rattle.ci_rewrite.proofs.BundlePlaces.{bundles_stay, bundles_join}

-- ---- one folded block

pub folded_is_one : FoldedIsOne
folded_is_one insns graph cut number first second one two =
    one.is_list
    ∙ (λ i. early_same i ++ use_of insns graph cut number ++ replicate (places_left graph cut) no_op ++ late_same i)
    ∙ sym two.is_list
  where
    agree : (k : ℕ) → k < length insns → one.early k ≡ two.early k
    agree k below =
        let (there, back) = one.are_early k below in
        let (also, from) = two.are_early k below in
        same_test (one.early k) (two.early k) (λ is. from (there is)) (λ is. back (also is))

    early_same : those insns one.early ≡ those insns two.early
    early_same = ap (map (nth_insn insns)) (numbers_below-same (length insns) one.early two.early agree)

    late_same : those insns (λ k. not (cut k) && not (one.early k)) ≡ those insns (λ k. not (cut k) && not (two.early k))
    late_same =
        ap (map (nth_insn insns))
        (numbers_below-same (length insns) (λ k. not (cut k) && not (one.early k)) (λ k. not (cut k) && not (two.early k))
        (λ k below. ap (λ e. not (cut k) && not e) (agree k below)))

-- ---- several folds

pub block_keeps_itself : BlockKeepsItself
block_keeps_itself text units insns n live_out block serve = record {
  shape = record { same_length = refl; same_end = refl; bundles = bundles_stay insns; is_block = block };
  effect = record {
    runs = λ core holds. AreRelated-refl (λ _. false) (live_behind insns n live_out) (act_all units (take n insns) (at_start core));
    leaves_text = λ core holds leaves. leaves;
  };
  covers = λ set covered. covered;
  serve = serve;
}

pub keeping_joins : KeepingJoins
keeping_joins text units insns n live_out folded last first second = record {
  shape = record {
    same_length = second.shape.same_length ∙ first.shape.same_length;
    same_end = second.shape.same_end ∙ first.shape.same_end;
    bundles = bundles_join insns folded last first.shape.bundles second.shape.bundles;
    is_block = second.shape.is_block;
  };
  effect = record {
    runs = λ core holds.
        AreRelated-trans (λ _. false) (live_behind insns n live_out)
        (act_all units (take n insns) (at_start core)) (act_all units (take n folded) (at_start core)) (act_all units (take n last) (at_start core))
        (first.effect.runs core holds)
        (subst (λ set. AreRelated (λ _. false) set (act_all units (take n folded) (at_start core)) (act_all units (take n last) (at_start core)))
        (ap (λ terminator. live_before terminator live_out) first.shape.same_end) (second.effect.runs core holds));
    leaves_text = λ core holds leaves. second.effect.leaves_text core holds (first.effect.leaves_text core holds leaves);
  };
  covers = λ set covered. second.covers set (first.covers set covered);
  serve = second.serve;
}
