-- Lists of nodes of a block, and bundles in lists.
use Rattle.std.specs.Prelude.{◌≡◌, ◌+◌, ℕ, zero, suc, ◌<◌, ◌≤◌, ◌⊎◌, Bool, true, List, [], ◌∷◌, ◌++◌, length, take, drop, All}
use Rattle.std.proofs.Common.{refl, sym, ap, ◌∙◌, arith, inl, inr, add-one}
use Rattle.std.proofs.lemmas.Bool.{cases_lt}
use Rattle.std.proofs.lemmas.List.{take_all, take_more, drop_all, drop_more}
use Rattle.std.proofs.lemmas.List.Elements.{All-map, Contains-get_or}
use Rattle.ci_word.specs.Numbers.{numbers_below}
use Rattle.ci_word.proofs.NumberLaws.{Contains-numbers_below_iff}
use Rattle.ci_isa.specs.declared.instruction.Insn.{Insn}
use Rattle.ci_isa.specs.declared.instruction.Insn.TheVariants.{Ebreak}
use Rattle.ci_isa.specs.Sequences.{nth_insn}
use Rattle.ci_rewrite.proofs.Stages.{those_below, those_zero, those_more}

-- ---- nodes of a test

pub all_those : (P : Insn → Type 0) (insns : List Insn) (test : ℕ → Bool) (b : ℕ) → ((k : ℕ) → k < b → test k ≡ true → P (nth_insn insns k))
    → All P (those_below insns test b)
all_those P insns test b is = All-map P (nth_insn insns) (numbers_below b test) (λ i d below.
    let there = (Contains-numbers_below_iff b test _).0 (Contains-get_or (numbers_below b test) i d below) in is _ there.0 there.1)

pub take_those : (insns : List Insn) (n : ℕ) → n ≤ length insns → take n insns ≡ those_below insns (λ _. true) n
take_those insns zero within = sym (those_zero insns (λ _. true))
take_those insns (suc n) within =
    ap (λ m. take m insns) (sym (add-one n)) ∙ take_more insns n Ebreak (omega arith)
    ∙ ap (λ l. l ++ nth_insn insns n ∷ []) (take_those insns n (omega arith)) ∙ sym (those_more insns (λ _. true) n refl)

pub whole_list : (insns : List Insn) → insns ≡ those_below insns (λ _. true) (length insns)
whole_list insns = sym (take_all (length insns) insns (omega arith)) ∙ take_those insns (length insns) (omega arith)

-- what stands behind the first n of at most n + 1 instructions
pub behind_first : (insns : List Insn) (n : ℕ) → length insns ≤ suc n
    → ((length insns ≤ n) × (drop n insns ≡ [])) ⊎ ((n < length insns) × (drop n insns ≡ nth_insn insns n ∷ []))
behind_first insns n most = elim (cases_lt n (length insns)) [
  | inl there ↦ inr (there, drop_more insns n Ebreak there ∙ ap (λ l. nth_insn insns n ∷ l) (drop_all (n + 1) insns (omega arith)))
  | inr past ↦ inl (past, drop_all n insns past)
]

-- so what stands there is one instruction where the lists behind are one
pub same_behind : (left right : List Insn) (n : ℕ) → length left ≤ suc n → length right ≤ suc n → n < length left → drop n left ≡ drop n right
    → nth_insn left n ≡ nth_insn right n
same_behind left right n few most there same = elim (behind_first left n few) [
  | inl (short, none) ↦ absurd (omega arith)
  | inr (below, one) ↦ elim (behind_first right n most) [
    | inl (short, none) ↦ let never : nth_insn left n ∷ [] ≡ [] = sym one ∙ same ∙ none in cc
    | inr (also, other) ↦ let both : nth_insn left n ∷ [] ≡ nth_insn right n ∷ [] = sym one ∙ same ∙ other in cc
  ]
]
