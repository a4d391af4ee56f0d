-- What instructions read first and write, from the last one on.
use Rattle.std.proofs.Common.{◌≡◌, ℕ, ◌+◌, ◌<◌, ◌↔◌, inl, inr, List, ◌∷◌, length, drop, get_or, nat_cmp, sym, subst, ◌∙◌, add-one}
use Rattle.std.specs.FinSet as set
use Rattle.std.proofs.Math.Seq.{drop-cons}
use Rattle.ci_isa.specs.declared.instruction.Insn.{Insn}
use Rattle.ci_isa.specs.RegisterSets.{registers_read, registers_written}
use Rattle.ci_isa.specs.Effects.{reads_register, writes_register}
use Rattle.ci_isa.proofs.Registers.{reads_register_is, writes_register_is}
use Rattle.ci_live.specs.private.Flows.{Has}
use Rattle.ci_isa.specs.Sequences.{ReadFirst, Write}
use Rattle.ci_live.proofs.SetLaws.{has_difference, has_union}
use Rattle.ci_isa.proofs.SequenceLaws.{read_first_cons, write_cons}

-- the instructions from place k on are that one and those behind it
split_at : (insns : List Insn) (k : ℕ) (insn : Insn) → k < length insns → insn ≡ get_or insns k insn → drop k insns ≡ insn ∷ drop (k + 1) insns
split_at insns k insn within is = drop-cons insns k insn within ∙ (λ i. sym is i ∷ drop (sym (add-one k) i) insns)

module _ (insns : List Insn) (k : ℕ) (insn : Insn) (within : k < length insns) (is : insn ≡ get_or insns k insn) (r : ℕ) where
  -- the tests are the sets
  read : reads_register insn r ≡ set.contains (registers_read insn) r
  read = reads_register_is insn r

  written : writes_register insn r ≡ set.contains (registers_written insn) r
  written = writes_register_is insn r

  pub written_before :
      (so_far : set.FinSet nat_cmp) → Has so_far r ↔ Write (drop (k + 1) insns) r
      → Has (set.union (registers_written insn) so_far) r ↔ Write (drop k insns) r
  written_before so_far later =
      let cons = write_cons insn (drop (k + 1) insns) r in
      let union = has_union (registers_written insn) so_far r in
      let split = split_at insns k insn within is in (
        λ has. subst (λ xs. Write xs r) (sym split) (cons.1 (elim (union.0 has) [ inl h ↦ inl (written ∙ h) | inr h ↦ inr (later.0 h) ])),
        λ write. union.1 (elim (cons.0 (subst (λ xs. Write xs r) split write)) [ inl h ↦ inl (sym written ∙ h) | inr h ↦ inr (later.1 h) ]),
      )

  pub read_before :
      (so_far : set.FinSet nat_cmp) → Has so_far r ↔ ReadFirst (drop (k + 1) insns) r
      → Has (set.union (registers_read insn) (set.difference so_far (registers_written insn))) r ↔ ReadFirst (drop k insns) r
  read_before so_far later =
      let cons = read_first_cons insn (drop (k + 1) insns) r in
      let union = has_union (registers_read insn) (set.difference so_far (registers_written insn)) r in
      let passed = has_difference so_far (registers_written insn) r in
      let split = split_at insns k insn within is in (
        λ has.
            subst (λ xs. ReadFirst xs r) (sym split)
            (cons.1 (elim (union.0 has) [
              | inl h ↦ inl (read ∙ h)
              | inr h ↦ let both = passed.0 h in inr (λ w. both.1 (sym written ∙ w), later.0 both.0)
            ])),
        λ first.
            union.1 (elim (cons.0 (subst (λ xs. ReadFirst xs r) split first)) [
              | inl h ↦ inl (sym read ∙ h)
              | inr (unwritten, h) ↦ inr (passed.1 (later.1 h, λ w. unwritten (written ∙ w)))
            ]),
      )
