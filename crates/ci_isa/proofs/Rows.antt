-- What stands at a few words, and who writes what in a few instructions, computed.
use Rattle.std.proofs.Common.{◌≡◌, refl, lit<, Some, None, sym, ap, ◌∙◌, arith, List, [], ◌∷◌, pos}
use Rattle.std.specs.Prelude.{true, false}
use Rattle.std.specs.FinSet as set
use Rattle.ci_word.specs.declared.arithmetic.Op.TheVariants.{Add}
use Rattle.ci_isa.specs.declared.instruction.Insn.{Insn}
use Rattle.ci_isa.specs.declared.instruction.Insn.TheVariants.{Alu, AluImm, Unit, Cread, Cput, Illegal}
use Rattle.ci_isa.specs.Table.{IsInsnAt}
use Rattle.ci_isa.specs.Laws.{IsInsnAtX}
use Rattle.ci_isa.specs.private.Decoding.{environment_row, plain_row}
use Rattle.ci_isa.specs.Effects.{writes_register}
use Rattle.ci_isa.specs.RegisterSets.{registers_read}
use Rattle.ci_isa.specs.Sequences.{nth_insn, latest_writer, IsLastWriter}
use Rattle.ci_isa.proofs.RowCompleteness.{only_plain}
use Rattle.ci_isa.proofs.Registers.{reads_register_is}

-- by both tables add x5, x6, x7 stands at its word
sum : IsInsnAt 0x007302b3 (Alu Add 5 6 7) × IsInsnAtX 0x007302b3 (Alu Add 5 6 7)
sum = ((lit< tt, (refl, refl, refl, refl, refl, refl)), (lit< tt, (refl, refl, refl, refl, refl, refl)))

-- At a unit word and at a `cread` an instruction stands by the extended table alone, so on a custom opcode the two differ.
unit : IsInsnAtX 0x60b5028b (Unit 0 5 10 11 12)
unit = (lit< tt, (refl, refl, refl, refl, refl, refl, refl))

cread : IsInsnAtX 0x0000032b (Cread 6 0)
cread = (lit< tt, (refl, refl, refl, refl, refl, refl, lit< tt))

second_result : IsInsnAtX 0x001003ab (Cread 7 1)
second_result = (lit< tt, (refl, refl, refl, refl, refl, refl, lit< tt))

cput : IsInsnAtX 0x00e6902b (Cput 13 14)
cput = (lit< tt, (refl, refl, refl, refl, refl, refl))

no_row : plain_row 0x60b5028b ≡ None
unfolding plain_row environment_row
no_row = refl

plain_unit : IsInsnAt 0x60b5028b (Illegal 0x60b5028b)
plain_unit = (refl, λ insn reads. let e = sym no_row ∙ only_plain 0x60b5028b insn reads in cc)

-- ---- what is read and written

-- of add x5, x6, x0 the test tells what the set has: x6, and not x0
sum_reads : (set.contains (registers_read (Alu Add 5 6 0)) 6 ≡ true) × (set.contains (registers_read (Alu Add 5 6 0)) 0 ≡ false)
sum_reads = (sym (reads_register_is (Alu Add 5 6 0) 6), sym (reads_register_is (Alu Add 5 6 0) 0))

-- addi x5, x0, 1; add x5, x6, x7; add x8, x5, x5
writers : List Insn
writers = AluImm Add 5 0 (pos 1) ∷ Alu Add 5 6 7 ∷ Alu Add 8 5 5 ∷ []

-- the second writes x5 last, and behind it stands one that writes another register
latest : latest_writer writers 5 3 ≡ Some 1
unfolding writers latest_writer
latest = refl

last : IsLastWriter writers 5 3 1
unfolding writers
last = record {
  before = omega arith;
  writes = refl;
  none_between = λ i behind below. let third : 2 ≡ i = omega arith in ap (λ k. writes_register (nth_insn writers k) 5) (sym third);
}
