-- What a block needs of the registers, in the words of covers and of live registers.
use Rattle.std.specs.Prelude.{◌≡◌, ℕ, ◌<◌, Bool, true, false, not, ◌&&◌, ◌||◌, ◌++◌, List, ◌∷◌, All}
use Rattle.std.specs.FinSet as finite
use Rattle.std.specs.Ordering.{nat_cmp}
use Rattle.std.proofs.Common.{refl, sym, ap, ◌∙◌, subst, arith, inl, inr}
use Rattle.std.proofs.lemmas.List.Elements.{All-contains, Contains-append_right}
use Rattle.ci_isa.specs.declared.instruction.Insn.{Insn}
use Rattle.ci_isa.specs.FieldBounds.{FieldsFit}
use Rattle.ci_isa.specs.Effects.{reads_register, writes_register}
use Rattle.ci_isa.specs.Sequences.{nth_insn}
use Rattle.ci_isa.proofs.OperandLaws.{read_below}
use Rattle.ci_machine.proofs.NamedReads.{no_further, none_further, needed, needed_behind, end_reads, end_writes}
use Rattle.ci_machine.proofs.NeededLaws.{needed_is}
use Rattle.ci_rewrite.specs.Blocks.{AreActionsOf, AreNamed, Covers, live_before, live_behind}
use Rattle.ci_rewrite.proofs.Lists.{behind_first}

-- what is needed behind the actions of a block is what is live there
pub live_behind_is : (insns : List Insn) (n : ℕ) (live_out : finite.FinSet nat_cmp) → AreActionsOf insns n
    → (r : ℕ) → needed_behind insns n live_out r ≡ live_behind insns n live_out r
live_behind_is insns n live_out actions r = elim (behind_first insns n actions.most) [
  | inl (short, same) ↦ ap (λ l. needed l alive r) same ∙ kept (alive r) ∙ sym (ap (λ l. live_before l live_out r) same)
  | inr (there, same) ↦
      let end : Insn = nth_insn insns n in
      let ends = actions.end n (omega arith) there in
      ap (λ l. needed l alive r) same
      ∙ (λ i. end_reads no_further end ends r i || (alive r && not (end_writes end ends r i)))
      ∙ one (reads_register end r) (writes_register end r) (alive r)
      ∙ sym (ap (λ l. live_before l live_out r) same)
]
  where
    alive : ℕ → Bool
    alive = finite.contains live_out

    kept : (b : Bool) → b ≡ (false || (b && not false))
    kept b = grind arith

    one : (p q b : Bool) → (p || (b && not q)) ≡ ((p || false) || (b && not (q || false)))
    one p q b = grind arith

module _ (set : ℕ → Bool) (insns : List Insn) (live_out : finite.FinSet nat_cmp) where
  -- a set that covers a block has the named registers that it needs
  pub covered : Covers set insns live_out → (r : ℕ) → r < 32 → needed insns (finite.contains live_out) r ≡ true → set r ≡ true
  covered covers r below is = elim ((needed_is no_further none_further insns (finite.contains live_out) r below).0 is) [
    | inl first ↦ covers.read r first
    | inr (live, none) ↦ covers.live r live none
  ]

  -- and one that has them covers it
  pub covers_needed : All FieldsFit insns → AreNamed live_out → ((r : ℕ) → r < 32 → needed insns (finite.contains live_out) r ≡ true → set r ≡ true)
      → Covers set insns live_out
  covers_needed fit named has = record {
    read = λ r first.
        let reader_fits = All-contains FieldsFit (first.before ++ first.reader ∷ first.after) first.reader (subst (All FieldsFit) first.split fit)
        (Contains-append_right first.before (first.reader ∷ first.after) first.reader (0, omega arith, refl)) in
        let below = read_below first.reader r reader_fits first.reads in
        has r below ((needed_is no_further none_further insns (finite.contains live_out) r below).1 (inl first));
    live = λ r live none.
        has r (named r live) ((needed_is no_further none_further insns (finite.contains live_out) r (named r live)).1 (inr (live, none)));
  }
