-- What lists of nodes need of a register, and that the hidden one is not needed.
use Rattle.std.specs.Prelude.{◌≡◌, ◌≢◌, ℕ, zero, suc, ◌<◌, ◌⊎◌, Bool, true, false, not, ◌&&◌, ◌||◌, List, [], ◌∷◌, replicate}
use Rattle.std.proofs.Common.{refl, sym, ap, ◌∙◌, arith, inl, inr, true≢false}
use Rattle.std.proofs.lemmas.Bool.{cases_eq, cases_Bool, and_parts, and_from, or_cases, or_left, or_right}
use Rattle.std.proofs.lemmas.Bool.Decides.{nat_tests}
use Rattle.ci_isa.specs.declared.instruction.Insn.{Insn}
use Rattle.ci_isa.specs.Effects.{is_among}
use Rattle.ci_isa.specs.Sequences.{nth_insn}
use Rattle.ci_isa.proofs.LastWriter.{written}
use Rattle.ci_machine.specs.Cores.{first_hidden}
use Rattle.ci_machine.proofs.NamedReads.{needed, needed-append, reads_is}
use Rattle.ci_machine.proofs.NamedReads.{writes_is}
use Rattle.ci_unit.proofs.SourceLaws.{not_true}
use Rattle.ci_rewrite.specs.FoldedBlock.{no_op}
use Rattle.ci_rewrite.proofs.Stages.{those_below, those_zero, those_more, those_same}
use Rattle.ci_rewrite.proofs.Tracking.{reads_at}

pub no_ops_need : (count : ℕ) (set : ℕ → Bool) (r : ℕ) → needed (replicate count no_op) set r ≡ set r
no_ops_need zero set r = refl
no_ops_need (suc count) set r =
    ap (λ p. p || (needed (replicate count no_op) set r && not p)) (nothing r) ∙ same (needed (replicate count no_op) set r) ∙ no_ops_need count set r
  where
    nothing : (r : ℕ) → is_among (0 ∷ []) r ≡ false
    nothing r = grind (arith, nat_tests)

    same : (b : Bool) → (false || (b && not false)) ≡ b
    same b = grind arith

-- a node of the test reads the register, and none of the test before it writes it
pub record IsReadFirst (insns : List Insn) (test : ℕ → Bool) (b r : ℕ) : Type 0 where
  pub node : ℕ
  pub below : node < b
  pub passes : test node ≡ true
  pub read : reads_at insns node r ≡ true
  pub unwritten : (j : ℕ) → j < node → test j ≡ true → written insns r j ≡ false

module _ (insns : List Insn) (test : ℕ → Bool) (r : ℕ) (other : r < first_hidden) where
  abbrev AreUnwritten : ℕ → Type 0
  AreUnwritten b = (j : ℕ) → j < b → test j ≡ true → written insns r j ≡ false

  -- one node behind those below it
  abbrev with_node : ℕ → (ℕ → Bool) → ℕ → Bool
  with_node b set = needed (nth_insn insns b ∷ []) set

  one : (b : ℕ) (set : ℕ → Bool) → with_node b set r ≡ (reads_at insns b r || (set r && not (written insns r b)))
  one b set i = reads_is (nth_insn insns b) r other i || (set r && not (writes_is (nth_insn insns b) r other i))

  more : (b : ℕ) (set : ℕ → Bool) → test b ≡ true → needed (those_below insns test (suc b)) set r ≡ needed (those_below insns test b) (with_node b set) r
  more b set passes =
      ap (λ l. needed l set r) (those_more insns test b passes) ∙ needed-append (those_below insns test b) (nth_insn insns b ∷ []) set r

  same : (b : ℕ) (set : ℕ → Bool) → test b ≡ false → needed (those_below insns test (suc b)) set r ≡ needed (those_below insns test b) set r
  same b set fails = ap (λ l. needed l set r) (those_same insns test b fails)

  wider : (b : ℕ) → IsReadFirst insns test b r → IsReadFirst insns test (suc b) r
  wider b first = record { node = first.node; below = omega (arith, first.below); passes = first.passes; read = first.read; unwritten = first.unwritten }

  unwritten_more : (b : ℕ) → AreUnwritten b → (test b ≡ true → written insns r b ≡ false) → AreUnwritten (suc b)
  unwritten_more b none last j below there = elim (cases_eq j b) [
    | inl at_it ↦ ap (written insns r) at_it ∙ last (ap test (sym at_it) ∙ there)
    | inr before ↦ none j (omega arith) there
  ]

  pub needed_parts : (b : ℕ) (set : ℕ → Bool) → needed (those_below insns test b) set r ≡ true → IsReadFirst insns test b r ⊎ ((set r ≡ true) × AreUnwritten b)
  needed_parts zero set is = inr (sym (ap (λ l. needed l set r) (those_zero insns test)) ∙ is, λ j below. absurd (omega arith))
  needed_parts (suc b) set is = elim (cases_Bool (test b)) [
    | inl passes ↦ elim (needed_parts b (with_node b set) (sym (more b set passes) ∙ is)) [
      | inl first ↦ inl (wider b first)
      | inr (now, none) ↦ elim (or_cases (reads_at insns b r) (set r && not (written insns r b)) (sym (one b set) ∙ now)) [
        | inl read ↦ inl (record { node = b; below = omega arith; passes = passes; read = read; unwritten = none })
        | inr kept ↦
            let (is_set, unwritten) = and_parts (set r) (not (written insns r b)) kept in
            inr (is_set, unwritten_more b none (λ _. not_true (written insns r b) unwritten))
      ]
    ]
    | inr fails ↦ elim (needed_parts b set (sym (same b set fails) ∙ is)) [
      | inl first ↦ inl (wider b first)
      | inr (is_set, none) ↦ inr (is_set, unwritten_more b none (λ passes. absurd (true≢false (sym passes ∙ fails))))
    ]
  ]

  pub needed_from_set : (b : ℕ) (set : ℕ → Bool) → set r ≡ true → AreUnwritten b → needed (those_below insns test b) set r ≡ true
  needed_from_set zero set is none = ap (λ l. needed l set r) (those_zero insns test) ∙ is
  needed_from_set (suc b) set is none = elim (cases_Bool (test b)) [
    | inl passes ↦
        more b set passes
        ∙ needed_from_set b (with_node b set)
        (one b set ∙ or_right (reads_at insns b r) (set r && not (written insns r b))
        (and_from (set r) (not (written insns r b)) is (ap not (none b (omega arith) passes))))
        (λ j below. none j (omega arith))
    | inr fails ↦ same b set fails ∙ needed_from_set b set is (λ j below. none j (omega arith))
  ]

  pub needed_from_read : (b : ℕ) (set : ℕ → Bool) → IsReadFirst insns test b r → needed (those_below insns test b) set r ≡ true
  needed_from_read zero set first = absurd (omega (arith, first.below))
  needed_from_read (suc b) set first = elim (cases_eq first.node b) [
    | inl at_it ↦
        more b set (ap test (sym at_it) ∙ first.passes)
        ∙ needed_from_set b (with_node b set)
        (one b set ∙ or_left (reads_at insns b r) (set r && not (written insns r b)) (ap (λ i. reads_at insns i r) (sym at_it) ∙ first.read))
        (λ j below. first.unwritten j (omega arith))
    | inr differs ↦
        let before : IsReadFirst insns test b r =
        record { node = first.node; below = omega (arith, first.below); passes = first.passes; read = first.read; unwritten = first.unwritten } in
        elim (cases_Bool (test b)) [
          | inl passes ↦ more b set passes ∙ needed_from_read b (with_node b set) before
          | inr fails ↦ same b set fails ∙ needed_from_read b set before
        ]
  ]
