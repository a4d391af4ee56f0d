-- What instructions in a row read first and write, one instruction at a time.
use Rattle.std.proofs.Common.{◌≡◌, ℕ, suc, zero, ◌⊎◌, ◌↔◌, inl, inr, List, [], ◌∷◌, ◌++◌, refl, sym, ap, subst, arith, IsTrue}
use Rattle.std.specs.List.{Contains}
use Rattle.ci_isa.specs.declared.instruction.Insn.{Insn}
use Rattle.ci_isa.specs.Effects.{writes_register}
use Rattle.ci_isa.specs.Sequences.{IsReadBy, ReadFirst, Write}

-- ---- no instruction

pub nothing_written : (r : ℕ) → ¬ Write [] r
nothing_written r w = let h = w.there.1 in omega arith

pub nothing_read : (r : ℕ) → ¬ ReadFirst [] r
nothing_read r f = none f.before f.split
  where
    none : (before : List Insn) → [] ≡ (before ++ f.reader ∷ f.after) → ⊥
    none [] split = cc
    none (x ∷ before) split = cc

-- ---- one instruction more

pub write_cons : (insn : Insn) (insns : List Insn) (r : ℕ) → Write (insn ∷ insns) r ↔ (IsTrue (writes_register insn r) ⊎ Write insns r)
write_cons insn insns r = (
  λ w. from w w.there,
  λ some. elim some [
    | inl here ↦ record { writer = insn; there = (0, omega arith, refl); writes = here }
    | inr later ↦ record { writer = later.writer; there = (suc later.there.0, omega (arith, later.there.1), later.there.2); writes = later.writes }
  ],
)
  where
    from : (w : Write (insn ∷ insns) r) → Contains (insn ∷ insns) w.writer → IsTrue (writes_register insn r) ⊎ Write insns r
    from w (zero, within, is) = inl (subst (λ (i : Insn). IsTrue (writes_register i r)) (sym is) w.writes)
    from w (suc k, within, is) = inr (record { writer = w.writer; there = (k, omega (arith, within), is); writes = w.writes })

pub read_first_cons :
    (insn : Insn) (insns : List Insn) (r : ℕ)
    → ReadFirst (insn ∷ insns) r ↔ (IsReadBy insn r ⊎ (¬ IsTrue (writes_register insn r) × ReadFirst insns r))
read_first_cons insn insns r = (
  λ f. from f.before f.reader f.after f.split f.reads f.unwritten,
  λ some. elim some [
    | inl here ↦ record { before = []; reader = insn; after = insns; split = refl; reads = here; unwritten = nothing_written r }
    | inr (unwritten, later) ↦
        record {
          before = insn ∷ later.before;
          reader = later.reader;
          after = later.after;
          split = ap (λ xs. insn ∷ xs) later.split;
          reads = later.reads;
          unwritten = λ w. elim ((write_cons insn later.before r).0 w) [ inl h ↦ unwritten h | inr h ↦ later.unwritten h ];
        }
  ],
)
  where
    from : (before : List Insn) (reader : Insn) (after : List Insn) → insn ∷ insns ≡ before ++ reader ∷ after → IsReadBy reader r → ¬ Write before r
        → IsReadBy insn r ⊎ (¬ IsTrue (writes_register insn r) × ReadFirst insns r)
    from [] reader after split reads unwritten = let same : reader ≡ insn = cc in inl (subst (λ (i : Insn). IsReadBy i r) same reads)
    from (first ∷ before) reader after split reads unwritten =
        let same : first ≡ insn = cc in
        let rest : insns ≡ before ++ reader ∷ after = cc in
        inr (
          λ w. unwritten ((write_cons first before r).1 (inl (subst (λ (i : Insn). IsTrue (writes_register i r)) (sym same) w))),
          record {
            before = before;
            reader = reader;
            after = after;
            split = rest;
            reads = reads;
            unwritten = λ w. unwritten ((write_cons first before r).1 (inr w));
          },
        )
