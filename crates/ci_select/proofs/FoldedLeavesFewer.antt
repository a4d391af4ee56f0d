-- A fold leaves fewer operations that may join a unit: those of the cut are gone.
use Rattle.std.proofs.Common.{◌≡◌, ℕ, zero, suc, ◌+◌, ◌<◌, ◌⊎◌, Bool, true, false, not, ◌&&◌, List, [], ◌∷◌, ◌++◌, length, drop, replicate}
use Rattle.std.proofs.Common.{refl, sym, ap, ◌∙◌, inl, inr, arith}
use Rattle.std.specs.Prelude.{filter, if◌then◌else◌}
use Rattle.std.proofs.lemmas.Bool.{cases_Bool, false_from_ne_true}
use Rattle.std.proofs.lemmas.List.{length-append}
use Rattle.std.proofs.lemmas.List.Elements.{filter-append}
use Rattle.ci_word.specs.Numbers.{count_below}
use Rattle.ci_word.proofs.NumberLaws.{count_below-zero, count_below-suc}
use Rattle.ci_isa.specs.declared.instruction.Insn.{Insn}
use Rattle.ci_isa.specs.Effects.{may_join}
use Rattle.ci_isa.specs.Sequences.{nth_insn}
use Rattle.ci_cut.specs.FlowGraph.{FlowGraph}
use Rattle.ci_unit.specs.Operands.{AreOperands, FitsSomeLimits}
use Rattle.ci_unit.specs.Uses.{passes, use_of, input_registers, output_registers}
use Rattle.ci_unit.specs.UseWords.{reads_of, use_words}
use Rattle.ci_rewrite.specs.FoldedBlock.{IsGraphOf, IsFolded, no_op, places_left}
use Rattle.ci_rewrite.proofs.BlockGraphs.{has_operands}
use Rattle.ci_rewrite.proofs.Lists.{whole_list}
use Rattle.ci_rewrite.proofs.Stages.{those_below, those_zero, those_more, those_same}

-- ---- operations of a list

-- how many instructions of a list may join a unit
abbrev pub joining : List Insn → ℕ
joining insns = length (filter may_join insns)

pub joining-append : (xs ys : List Insn) → joining (xs ++ ys) ≡ joining xs + joining ys
joining-append xs ys = ap length (filter-append may_join xs ys) ∙ length-append (filter may_join xs) (filter may_join ys)

-- no word of a use may, and no no-op
joining_reads : (index : ℕ) (rs : List ℕ) → joining (reads_of index rs) ≡ 0
joining_reads index [] = refl
joining_reads index (r ∷ rs) = joining_reads (suc index) rs

joining_words : (passes : Bool) (number : ℕ) (ins outs : List ℕ) → joining (use_words passes number ins outs) ≡ 0
joining_words true number ins outs = joining_reads 0 (drop 1 outs)
joining_words false number ins outs = joining_reads 0 (drop 1 outs)

joining_use : (insns : List Insn) (graph : FlowGraph) (cut : ℕ → Bool) (number : ℕ) → joining (use_of insns graph cut number) ≡ 0
joining_use insns graph cut number = joining_words (passes graph cut) number (input_registers insns graph cut) (output_registers insns graph cut)

joining_no_ops : (n : ℕ) → joining (replicate n no_op) ≡ 0
joining_no_ops zero = refl
joining_no_ops (suc n) = joining_no_ops n

-- ---- operations of nodes

module _ (insns : List Insn) where
  abbrev below : (ℕ → Bool) → ℕ → ℕ
  below test b = joining (those_below insns test b)

  below_zero : (test : ℕ → Bool) → below test 0 ≡ 0
  below_zero test = ap joining (those_zero insns test)

  below_more : (test : ℕ → Bool) (b : ℕ) → below test (suc b) ≡ below test b + (if test b then joining (nth_insn insns b ∷ []) else 0)
  below_more test b =
      let one = joining (nth_insn insns b ∷ []) in
      elim (cases_Bool (test b)) [
        | inl passes ↦
            ap joining (those_more insns test b passes) ∙ joining-append (those_below insns test b) (nth_insn insns b ∷ [])
            ∙ ap (λ t. below test b + (if t then one else 0)) (sym passes)
        | inr fails ↦
            ap joining (those_same insns test b fails) ∙ add_nothing (below test b) ∙ ap (λ t. below test b + (if t then one else 0)) (sym fails)
      ]
    where
      add_nothing : (n : ℕ) → n ≡ n + 0
      add_nothing n = omega arith

  -- each node is early, a member or neither
  parts : (early cut : ℕ → Bool) (b : ℕ) → ((k : ℕ) → k < b → early k ≡ true → cut k ≡ false)
      → below (λ _. true) b ≡ below early b + below cut b + below (λ k. not (cut k) && not (early k)) b
  parts early cut zero apart =
      omega (arith, below_zero (λ _. true), below_zero early, below_zero cut, below_zero (λ k. not (cut k) && not (early k)))
  parts early cut (suc b) apart =
      omega (
        arith,
        parts early cut b (λ k under. apart k (omega arith)),
        below_more (λ _. true) b,
        below_more early b,
        below_more cut b,
        below_more (λ k. not (cut k) && not (early k)) b,
        by_tests (early b) (cut b) (joining (nth_insn insns b ∷ [])) (apart b (omega arith)),
      )
    where
      by_tests : (e c : Bool) (x : ℕ) → (e ≡ true → c ≡ false) → x ≡ (if e then x else 0) + (if c then x else 0) + (if not c && not e then x else 0)
      by_tests true true x never = let is = never refl in cc
      by_tests true false x never = omega arith
      by_tests false true x never = omega arith
      by_tests false false x never = omega arith

  -- all members may join
  members_join : (cut : ℕ → Bool) (b : ℕ) → ((k : ℕ) → k < b → cut k ≡ true → may_join (nth_insn insns k) ≡ true) → below cut b ≡ count_below b cut
  members_join cut zero may = below_zero cut ∙ sym (count_below-zero cut)
  members_join cut (suc b) may =
      below_more cut b
      ∙ (λ i. members_join cut b (λ k under. may k (omega arith)) i + one (cases_Bool (cut b)) i)
      ∙ sym (count_below-suc b cut)
    where
      one : (cut b ≡ true) ⊎ (cut b ≡ false) → (if cut b then joining (nth_insn insns b ∷ []) else 0) ≡ (if cut b then 1 else 0)
      one (inl passes) =
          ap (λ t. if t then joining (nth_insn insns b ∷ []) else 0) passes
          ∙ ap (λ m. length (if m then nth_insn insns b ∷ [] else [])) (may b (omega arith) passes)
          ∙ ap (λ t. if t then 1 else 0) (sym passes)
      one (inr fails) =
          ap (λ t. if t then joining (nth_insn insns b ∷ []) else 0) fails ∙ ap (λ t. if t then 1 else 0) (sym fails)

-- ---- a fold

pub folded_leaves_fewer :
    (insns : List Insn) (graph : FlowGraph) (cut : ℕ → Bool) (number : ℕ) (folded : List Insn)
    → IsGraphOf insns graph → FitsSomeLimits graph cut → IsFolded insns graph cut number folded
    → length (filter may_join folded) < length (filter may_join insns)
folded_leaves_fewer insns graph cut number folded of_block (limits, fits) is = omega (
  arith,
  ap joining is.is_list,
  joining-append (early_list ++ words ++ no_ops) rest_list,
  joining-append (early_list ++ words) no_ops,
  joining-append early_list words,
  joining_use insns graph cut number,
  joining_no_ops (places_left graph cut),
  ap joining (whole_list insns),
  parts insns is.early cut (length insns) apart,
  members,
  fits.room,
)
  where
    operands : AreOperands insns graph
    operands = has_operands insns graph of_block

    early_list : List Insn
    early_list = those_below insns is.early (length insns)

    rest_list : List Insn
    rest_list = those_below insns (λ k. not (cut k) && not (is.early k)) (length insns)

    words : List Insn
    words = use_of insns graph cut number

    no_ops : List Insn
    no_ops = replicate (places_left graph cut) no_op

    apart : (k : ℕ) → k < length insns → is.early k ≡ true → cut k ≡ false
    apart k there early = false_from_ne_true (cut k) ((is.are_early k there).0 early).0

    members : joining (those_below insns cut (length insns)) ≡ count_below (length graph.nodes) cut
    members =
        members_join insns cut (length insns) (λ k there member. sym (operands.eligible_is k there) ∙ fits.eligible k member)
        ∙ ap (λ n. count_below n cut) (sym operands.same_length)
