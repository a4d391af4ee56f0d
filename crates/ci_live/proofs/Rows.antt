-- What the laws of live sets say of two small blocks.
use Rattle.std.proofs.Common.{◌≡◌, ◌<◌, ℕ, ◌⊎◌, ◌↔◌, inl, inr, true≢false, [], ◌∷◌, pos, refl, sym, ap, subst, arith, lit<, IsTrue}
use Rattle.std.specs.FinSet as set
use Rattle.std.proofs.lemmas.List.Kept.{AllPairs-cons}
use Rattle.ci_word.specs.declared.arithmetic.Op.TheVariants.{Add}
use Rattle.ci_isa.specs.declared.instruction.Insn.{Insn}
use Rattle.ci_isa.specs.declared.instruction.Insn.TheVariants.{Alu, AluImm}
use Rattle.ci_isa.specs.Effects.{reads_register}
use Rattle.ci_isa.specs.Sequences.{ReadFirst, Write}
use Rattle.ci_isa.proofs.SequenceLaws.{nothing_read, read_first_cons, write_cons}
use Rattle.ci_block.specs.declared.blocks.Block.{Block}
use Rattle.ci_block.specs.declared.blocks.Next.TheVariants.{Stop, One}
use Rattle.ci_block.specs.Blocks.{AreInOrder}
use Rattle.ci_block.specs.Laws.{BlockContents, contents_of}
use Rattle.ci_live.specs.Liveness.{AreLiveSets, IsSuccessor, LeadsTo}
use Rattle.ci_live.specs.Sets.{Sets, after_block, at_leader}
use Rattle.ci_live.proofs.NeededLaws.{live_at_successor, live_is_needed}

-- addi x5, x5, 1 and addi x6, x0, 1 in the first block, and add x7, x5, x6 in the second one
abbrev raised : Insn
raised = AluImm Add 5 5 (pos 1)

abbrev given : Insn
given = AluImm Add 6 0 (pos 1)

abbrev added : Insn
added = Alu Add 7 5 6

x5_is_read : ReadFirst (raised ∷ given ∷ []) 5
x5_is_read = (read_first_cons raised (given ∷ []) 5).1 (inl refl)

x6_is_not : ¬ ReadFirst (raised ∷ given ∷ []) 6
x6_is_not read = elim ((read_first_cons raised (given ∷ []) 6).0 read) [
  | inl here ↦ true≢false (sym here)
  | inr (passed, later) ↦ elim ((read_first_cons given [] 6).0 later) [
    | inl here ↦ true≢false (sym here)
    | inr (unwritten, none) ↦ nothing_read 6 none
  ]
]

both_are_written : Write (raised ∷ given ∷ []) 5 × Write (raised ∷ given ∷ []) 6
both_are_written = (
  (write_cons raised (given ∷ []) 5).1 (inl refl),
  (write_cons raised (given ∷ []) 6).1 (inr ((write_cons given [] 6).1 (inl refl))),
)

module _ (first second : Block) (sets : Sets)
    (first_says : contents_of first ≡ record { leader = 0x1000; insns = raised ∷ given ∷ []; next = One 0x1008 })
    (second_says : contents_of second ≡ record { leader = 0x1008; insns = added ∷ []; next = Stop })
    (are : AreLiveSets (first ∷ second ∷ []) sets) where
  abbrev IsBefore : ℕ → Type 0
  IsBefore r = IsTrue (set.contains (at_leader sets first.leader) r)

  abbrev IsAfter : ℕ → Type 0
  IsAfter r = IsTrue (set.contains (after_block sets first.leader) r)

  second_leader : second.leader ≡ 0x1008
  second_leader = ap (λ (c : BlockContents). c.leader) second_says

  in_order : AreInOrder (first ∷ second ∷ [])
  in_order =
      AllPairs-cons (λ (a b : Block). a.leader < b.leader) first (second ∷ [])
      (λ k d h.
      let only : k ≡ 0 = omega (arith, h) in
      rw only (omega (arith, ap (λ (c : BlockContents). c.leader) first_says, second_leader)))
      (λ i j d h l. absurd (omega arith))

  needed : (r : ℕ) → IsBefore r ↔ (ReadFirst first.insns.items r ⊎ (IsAfter r × ¬ Write first.insns.items r))
  needed r = live_is_needed (first ∷ second ∷ []) sets first r in_order are (0, lit< tt, refl)

  -- what the second block reads is live after the first one
  after_first : (r : ℕ) → IsTrue (reads_register added r) → IsAfter r
  after_first r reads =
      let follows : IsSuccessor first second = subst (λ (c : BlockContents). LeadsTo c.next second.leader) (sym first_says) second_leader in
      let read = (read_first_cons added [] r).1 (inl reads) in
      live_at_successor (first ∷ second ∷ []) sets first second r are (0, lit< tt, refl) (1, lit< tt, refl) follows
      ((live_is_needed (first ∷ second ∷ []) sets second r in_order are (1, lit< tt, refl)).1
      (inl (subst (λ (c : BlockContents). ReadFirst c.insns r) (sym second_says) read)))

  -- x5 is live before and after the first block, and x6 after it alone
  x5_before : IsBefore 5
  x5_before = (needed 5).1 (inl (subst (λ (c : BlockContents). ReadFirst c.insns 5) (sym first_says) x5_is_read))

  both_after : IsAfter 5 × IsAfter 6
  both_after = (after_first 5 refl, after_first 6 refl)

  x6_not_before : ¬ IsBefore 6
  x6_not_before live = elim ((needed 6).0 live) [
    | inl read ↦ x6_is_not (subst (λ (c : BlockContents). ReadFirst c.insns 6) first_says read)
    | inr (after, unwritten) ↦ unwritten (subst (λ (c : BlockContents). Write c.insns 6) (sym first_says) both_are_written.1)
  ]
