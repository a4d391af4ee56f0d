-- What a list of instructions needs is what it reads first.
use Rattle.std.proofs.Common.{◌≡◌, ◌⊎◌, ◌↔◌, inl, inr, ℕ, sym, ◌∙◌, arith, List, [], ◌∷◌, refl}
use Rattle.std.specs.Prelude.{⊤, Bool, true, false, not, ◌&&◌, ◌||◌}
use Rattle.std.specs.List.{list_any}
use Rattle.ci_isa.specs.declared.instruction.Insn.{Insn}
use Rattle.ci_isa.specs.declared.instruction.Insn.TheVariants.{Unit, Cread, Cput}
use Rattle.ci_isa.specs.Effects.{is_unit, is_cread, is_cput, reads_register, writes_register}
use Rattle.ci_isa.specs.Sequences.{ReadFirst, Write}
use Rattle.ci_isa.proofs.SequenceLaws.{read_first_cons, write_cons, nothing_read, nothing_written}
use Rattle.ci_isa.proofs.Registers.{reads_register_is, writes_register_is}
use Rattle.ci_machine.specs.Actions.{Units}
use Rattle.ci_machine.specs.Agreement.{reads, writes, needed}
use Rattle.ci_machine.specs.Laws.{NeedsReadFirst, NeededIsReadFirst, NeededIsReadFirstByPlain}
use Rattle.ci_machine.proofs.PlainMeaning.{registers_read_are, registers_written_are}
use Rattle.ci_machine.proofs.TestLaws.{neither_first, neither_second}

module _ (set : ℕ → Bool) (r : ℕ) where
  abbrev Needs : List Insn → Type 0
  Needs insns = ReadFirst insns r ⊎ ((set r ≡ true) × ¬ Write insns r)

  never : (b : Bool) → b ≡ true → false ≡ b → ⊥
  never b is not = let both = not ∙ is in cc

  -- one instruction before a list
  module _ (insn : Insn) (insns : List Insn) (later : Bool) (rest : later ≡ true ↔ Needs insns) where
    needs_more : (read written : Bool) → read ≡ reads_register insn r
        → written ≡ writes_register insn r
        → (read || (later && not written)) ≡ true ↔ Needs (insn ∷ insns)
    needs_more true written read_is written_is = (λ is. inl ((read_first_cons insn insns r).1 (inl (sym read_is))), λ needs. refl)
    needs_more false true read_is written_is = (
      λ is. let none : (later && false) ≡ true = is in absurd (grind arith),
      λ needs. elim needs [
        | inl first ↦ elim ((read_first_cons insn insns r).0 first) [
          | inl here ↦ absurd (never _ here read_is)
          | inr both ↦ absurd (both.0 (sym written_is))
        ]
        | inr both ↦ absurd (both.1 ((write_cons insn insns r).1 (inl (sym written_is))))
      ],
    )
    needs_more false false read_is written_is = (
      λ is. onward (rest.0 (kept_first later is)),
      λ needs. kept_both later (rest.1 (back needs)),
    )
      where
        kept_first : (b : Bool) → (false || (b && true)) ≡ true → b ≡ true
        kept_first b is = grind arith

        kept_both : (b : Bool) → b ≡ true → (false || (b && true)) ≡ true
        kept_both b is = grind arith

        unwritten : ¬ (writes_register insn r ≡ true)
        unwritten is = never _ is written_is

        onward : Needs insns → Needs (insn ∷ insns)
        onward (inl first) = inl ((read_first_cons insn insns r).1 (inr (unwritten, first)))
        onward (inr (is, none)) = inr (is, λ w. elim ((write_cons insn insns r).0 w) [ inl here ↦ unwritten here | inr more ↦ none more ])

        back : Needs (insn ∷ insns) → Needs insns
        back (inl first) = elim ((read_first_cons insn insns r).0 first) [ inl here ↦ absurd (never _ here read_is) | inr both ↦ inl both.1 ]
        back (inr (is, none)) = inr (is, λ w. none ((write_cons insn insns r).1 (inr w)))

-- ---- lists

-- an instruction reads and writes register r where its tests find it, and so does each of a list
abbrev FollowsTests : Units → ℕ → Insn → Type 0
FollowsTests units r insn =
    (reads units insn r ≡ reads_register insn r) × (writes insn r ≡ writes_register insn r)

abbrev AllFollowTests : Units → ℕ → List Insn → Type 0
AllFollowTests units r [] = ⊤
AllFollowTests units r (insn ∷ insns) = FollowsTests units r insn × AllFollowTests units r insns

by_tests : (units : Units) (insns : List Insn) (set : ℕ → Bool) (r : ℕ) → AllFollowTests units r insns → NeedsReadFirst units insns set r
by_tests units [] set r follow =
    (λ is. inr (is, nothing_written r), λ needs. elim needs [ inl f ↦ absurd (nothing_read r f) | inr both ↦ both.0 ])
by_tests units (insn ∷ insns) set r ((read_is, written_is), follow) =
    needs_more set r insn insns (needed units insns set r) (by_tests units insns set r follow) (reads units insn r) (writes insn r) read_is written_is

pub needed_is : NeededIsReadFirst
needed_is units hidden_ones insns set r below = by_tests units insns set r (all insns)
  where
    follows : (insn : Insn) → FollowsTests units r insn
    follows insn = (
      registers_read_are units hidden_ones insn r below ∙ sym (reads_register_is insn r),
      registers_written_are insn r below ∙ sym (writes_register_is insn r),
    )

    all : (insns : List Insn) → AllFollowTests units r insns
    all [] = tt
    all (insn ∷ insns) = (follows insn, all insns)

-- an instruction that is no unit word and no `cread` reads and writes by its tests alone
plain_follows : (units : Units) (r : ℕ) (insn : Insn) → is_unit insn ≡ false → is_cread insn ≡ false → is_cput insn ≡ false → FollowsTests units r insn
plain_follows units r (Unit number rd rs1 rs2 rs3) no_unit no_cread no_cput = cc
plain_follows units r (Cread rd index) no_unit no_cread no_cput = cc
plain_follows units r (Cput rs1 rs2) no_unit no_cread no_cput = cc
plain_follows units r insn no_unit no_cread no_cput = (refl, refl)

pub needed_by_plain : NeededIsReadFirstByPlain
needed_by_plain units insns no_unit no_cread no_cput set r = by_tests units insns set r (all insns no_unit no_cread no_cput)
  where
    all : (insns : List Insn) → list_any is_unit insns ≡ false → list_any is_cread insns ≡ false → list_any is_cput insns ≡ false → AllFollowTests units r insns
    all [] no_unit no_cread no_cput = tt
    all (insn ∷ insns) no_unit no_cread no_cput = (
      plain_follows units r insn (neither_first (is_unit insn) _ no_unit) (neither_first (is_cread insn) _ no_cread) (neither_first (is_cput insn) _ no_cput),
      all insns (neither_second (is_unit insn) _ no_unit) (neither_second (is_cread insn) _ no_cread) (neither_second (is_cput insn) _ no_cput),
    )
