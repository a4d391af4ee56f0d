-- That there is a present block at each leader of a block can't be ruled out, which suffices for what can be decided.
use Rattle.std.proofs.Common.{◌≡◌, ℕ, suc, zero, ◌<◌, ◌⊎◌, inl, inr, Bool, true, false, List, [], ◌∷◌, length, refl, sym, subst}
use Rattle.std.proofs.Common.{arith, eq-eqb, true≢false}
use Rattle.std.specs.Prelude.{◌==◌, ◌↔◌, if◌then◌else◌, IsTrue}
use Rattle.std.specs.FinSet as finite
use Rattle.std.specs.List.{Contains}
use Rattle.std.proofs.lemmas.Bool.{cases_Bool, cases_eq, eqb-true, ne_eqb}
use Rattle.ci_isa.specs.declared.instruction.Insn.{Insn}
use Rattle.ci_block.specs.declared.blocks.Block.{Block}
use Rattle.ci_cut.specs.FlowGraph.{FlowGraph}
use Rattle.ci_log.specs.declared.book.Entry.{Entry}
use Rattle.ci_log.specs.declared.book.Entry.TheVariants.{Best, Without, Spent, Take}
use Rattle.ci_rewrite.specs.FoldedBlock.{IsFolded, LeadsToMember}
use Rattle.ci_select.specs.Histories.{History, is_take_of}
use Rattle.ci_select.specs.Instances.{Instance}
use Rattle.ci_select.specs.LegalBooks.{IsLegalHistory, IsRight}
use Rattle.ci_select.specs.PresentBlocks.{IsPresent, folded, graph_at, original, unchanged}
use Rattle.ci_select.proofs.PresentLaws.{take_is_due}

-- ---- what can't be ruled out

-- that something holds or doesn't
decided : (P : Type 0) → ((P ⊎ (P → ⊥)) → ⊥) → ⊥
decided P none = none (inr (λ p. none (inl p)))

-- a test of the numbers below n
abbrev TestsBelow : (ℕ → Type 0) → ℕ → Type 0
TestsBelow P n = (test : ℕ → Bool) × ((k : ℕ) → k < n → IsTrue (test k) ↔ P k)

-- one number more
one_more_tested : (P : ℕ → Type 0) (n : ℕ) (b : Bool) → (IsTrue b ↔ P n) → TestsBelow P n → TestsBelow P (suc n)
one_more_tested P n b here (test, below) = (
  λ k. if k == n then b else test k,
  λ k h. elim (cases_eq k n) [
    | inl same ↦ rw (eq-eqb k n same) (subst (λ m. IsTrue b ↔ P m) (sym same) here)
    | inr other ↦ rw (ne_eqb k n other) (below k (omega arith))
  ],
)

-- that there is one
some_test : (P : ℕ → Type 0) (n : ℕ) → (TestsBelow P n → ⊥) → ⊥
some_test P zero none = none (λ k. true, λ k h. absurd (omega arith))
some_test P (suc n) none =
    some_test P n (λ tests. decided (P n) (λ either. elim either [
      | inl is ↦ none (one_more_tested P n true (λ t. is, λ p. refl) tests)
      | inr other ↦ none (one_more_tested P n false (λ t. absurd (true≢false (sym t)), λ p. absurd (other p)) tests)
    ]))

-- that there is a fold
some_folded :
    (insns : List Insn) (graph : FlowGraph) (cut : ℕ → Bool) (number : ℕ)
    → ((new : List Insn) × IsFolded insns graph cut number new → ⊥) → ⊥
some_folded insns graph cut number none =
    some_test (λ k. (¬ IsTrue (cut k)) × LeadsToMember graph cut k) (length insns) (λ tests.
    none (_, record { early = tests.0; are_early = tests.1; is_list = refl }))

-- ---- present blocks

-- a take of the block names it
take_of : (leader : ℕ) (entry : Entry) → is_take_of leader entry ≡ true → (unit : ℕ) × (entry ≡ Take leader unit)
take_of leader (Best l cut log) is = absurd (true≢false (sym is))
take_of leader (Without l log) is = absurd (true≢false (sym is))
take_of leader (Spent l budget) is = absurd (true≢false (sym is))
take_of leader (Take l unit) is = (unit, subst (λ m. Take m unit ≡ Take leader unit) (sym (eqb-true l leader is)) refl)

-- the block has instructions in the present program
abbrev HasPresent : Instance → History → ℕ → Type 0
HasPresent instance history leader = (insns : List Insn) × IsPresent instance history leader insns

-- that it has some can't be ruled out
pub some_present :
    (instance : Instance) (history : History) (block : Block) → IsLegalHistory instance history
    → Contains instance.blocks block → (HasPresent instance history block.leader → ⊥) → ⊥
some_present instance [] block legal there none = none (block.insns.items, original (block, there, refl, refl))
some_present instance (entry ∷ history) block legal there none = elim (cases_Bool (is_take_of block.leader entry)) [
  | inl is ↦
      let take = take_of block.leader entry is in
      let candidate = (take_is_due (subst (IsRight instance history) take.1 legal.0)).next.candidate.candidate in
      some_folded candidate.insns (graph_at instance block.leader candidate.insns) (finite.contains candidate.cut) take.0
      (λ fold. none (
        fold.0,
        subst (λ e. IsPresent instance (e ∷ history) block.leader fold.0) (sym take.1)
            (folded candidate.cut candidate.has_cut.present candidate.has_cut.has_cut fold.1),
      ))
  | inr other ↦
      some_present instance history block legal.1 there (λ present. none (present.0, unchanged other present.1))
]
