-- What lists of instructions need of x0 to x31: it is the same for all units that take hidden registers alone.
use Rattle.std.proofs.Common.{◌≡◌, ℕ, ◌<◌, refl, ap, sym, ◌∙◌, arith, List, [], ◌∷◌, ◌++◌, drop}
use Rattle.std.specs.Prelude.{Bool, true, not, ◌&&◌, ◌||◌}
use Rattle.std.specs.FinSet as finite
use Rattle.std.specs.Ordering.{nat_cmp}
use Rattle.std.proofs.lemmas.Bool.Decides.{nat_tests}
use Rattle.ci_isa.specs.declared.instruction.Insn.{Insn}
use Rattle.ci_isa.specs.declared.instruction.Insn.TheVariants.{Unit, Cread, Cput}
use Rattle.ci_isa.specs.Effects.{ends_block, is_among, reads_register, writes_register}
use Rattle.ci_machine.specs.Actions.{Units}
use Rattle.ci_machine.specs.Agreement as machine
use Rattle.ci_machine.specs.Agreement.{writes, TakeHidden}
use Rattle.ci_isa.proofs.Registers.{reads_register_is, writes_register_is}
use Rattle.ci_machine.proofs.PlainMeaning.{registers_read_are, registers_written_are}

-- units that take no further registers; what they give doesn't matter
abbrev pub no_further : Units
no_further = record { further = λ number. []; results = λ number values. [] }

abbrev pub reads : Insn → ℕ → Bool
reads insn = machine.reads no_further insn

abbrev pub needed : List Insn → (ℕ → Bool) → ℕ → Bool
needed insns set r = machine.needed no_further insns set r

-- what is needed behind the first n instructions
abbrev pub needed_behind : List Insn → ℕ → finite.FinSet nat_cmp → ℕ → Bool
needed_behind insns n live_out = needed (drop n insns) (finite.contains live_out)

pub none_further : TakeHidden no_further
none_further number r is = absurd (nothing r is)
  where
    nothing : (r : ℕ) → is_among [] r ≡ true → ⊥
    nothing r is = grind (arith, nat_tests)

pub reads_is : (insn : Insn) (r : ℕ) → r < 32 → reads insn r ≡ reads_register insn r
reads_is insn r below = registers_read_are no_further none_further insn r below ∙ sym (reads_register_is insn r)

pub writes_is : (insn : Insn) (r : ℕ) → r < 32 → writes insn r ≡ writes_register insn r
writes_is insn r below = registers_written_are insn r below ∙ sym (writes_register_is insn r)

-- all such units need the same
module _ (units : Units) (hidden_ones : TakeHidden units) where
  pub needed_same : (insns : List Insn) (set : ℕ → Bool) (r : ℕ) → r < 32 → machine.needed units insns set r ≡ needed insns set r
  needed_same [] set r below = refl
  needed_same (insn ∷ insns) set r below =
      λ i. (registers_read_are units hidden_ones insn r below ∙ sym (reads_register_is insn r) ∙ sym (reads_is insn r below)) i || (needed_same insns set r below i && not (writes insn r))

pub needed-append : (before behind : List Insn) (set : ℕ → Bool) (r : ℕ) → needed (before ++ behind) set r ≡ needed before (needed behind set) r
needed-append [] behind set r = refl
needed-append (insn ∷ before) behind set r = ap (λ b. reads insn r || (b && not (writes insn r))) (needed-append before behind set r)

-- what ends a block reads and writes no hidden register
pub end_reads : (units : Units) (insn : Insn) → ends_block insn ≡ true → (r : ℕ) → machine.reads units insn r ≡ reads_register insn r
end_reads units (Unit number rd rs1 rs2 rs3) ends r = cc
end_reads units (Cread rd index) ends r = cc
end_reads units insn ends r = refl

pub end_writes : (insn : Insn) → ends_block insn ≡ true → (r : ℕ) → writes insn r ≡ writes_register insn r
end_writes (Unit number rd rs1 rs2 rs3) ends r = cc
end_writes (Cput rs1 rs2) ends r = cc
end_writes insn ends r = refl
