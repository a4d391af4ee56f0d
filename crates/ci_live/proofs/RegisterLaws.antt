-- What is read and live in a file is a register.
use Rattle.std.proofs.Common.{◌≡◌, ℕ, ◌+◌, ◌*◌, ◌<◌, inl, inr, true, List, [], ◌∷◌, refl, sym, subst, arith}
use Rattle.std.specs.Prelude.{◌==◌, ⊤}
use Rattle.std.specs.List.{Contains, list_any}
use Rattle.std.proofs.lemmas.Bool.{and_parts, eqb-true, or_cases}
use Rattle.std.proofs.lemmas.List.Elements.{Contains-append_right}
use Rattle.ci_isa.specs.declared.instruction.Insn.{Insn}
use Rattle.ci_isa.specs.declared.instruction.Insn.TheVariants.{Alu, AluImm, Lui, Auipc, Jal, Jalr, Branch, Load, Store}
use Rattle.ci_isa.specs.declared.instruction.Insn.TheVariants.{Fence, Ecall, Ebreak, Unit, Cread, Cput, Illegal}
use Rattle.ci_isa.specs.Effects.{is_kept, operands}
use Rattle.ci_isa.specs.FieldBounds.{FieldsFit}
use Rattle.ci_isa.specs.Sequences.{IsReadBy}
use Rattle.ci_isa.specs.Table.{IsInsnAt}
use Rattle.ci_isa.proofs.RowCompleteness.{plain_well_formed}
use Rattle.ci_isa.proofs.WellFormed.{fields_fit}
use Rattle.ci_elf.specs.Executables.{Executable, text_word}
use Rattle.ci_block.specs.declared.blocks.Block.{Block}
use Rattle.ci_block.specs.Blocks.{IsBlockAt}
use Rattle.ci_live.specs.Laws.{LiveAreRegisters}
use Rattle.ci_live.specs.Liveness.{IsLive}

-- all of these are registers
abbrev AreRegisters : List ℕ → Type 0
AreRegisters [] = ⊤
AreRegisters (n ∷ ns) = (n < 32) × AreRegisters ns

operands_fit : (insn : Insn) → FieldsFit insn → AreRegisters (operands insn)
operands_fit (Alu op rd rs1 rs2) fit = (fit.1, (fit.2, tt))
operands_fit (AluImm op rd rs1 imm) fit = (fit.1, tt)
operands_fit (Lui rd upper) fit = tt
operands_fit (Auipc rd upper) fit = tt
operands_fit (Jal rd offset) fit = tt
operands_fit (Jalr rd rs1 offset) fit = (fit.1, tt)
operands_fit (Branch cond rs1 rs2 offset) fit = (fit.0, (fit.1, tt))
operands_fit (Load kind rd rs1 offset) fit = (fit.1, tt)
operands_fit (Store width rs1 rs2 offset) fit = (fit.0, (fit.1, tt))
operands_fit (Fence bits rs1 rd) fit = tt
operands_fit Ecall fit = (omega arith, (omega arith, (omega arith, (omega arith, tt))))
operands_fit Ebreak fit = tt
operands_fit (Unit number rd rs1 rs2 rs3) fit = (fit.2, (fit.3, (fit.4, tt)))
operands_fit (Cread rd index) fit = tt
operands_fit (Cput rs1 rs2) fit = (fit.0, (fit.1, tt))
operands_fit (Illegal word) fit = tt

operands_of_word : (word : ℕ) (insn : Insn) → IsInsnAt word insn → AreRegisters (operands insn)
operands_of_word word (Illegal w) is = tt
operands_of_word word insn is = operands_fit insn (fields_fit insn (plain_well_formed word insn is))

among : (ns : List ℕ) → AreRegisters ns → (r : ℕ) → list_any (λ n. n == r) ns ≡ true → r < 32
among [] fit r some = cc
among (n ∷ ns) fit r some = elim (or_cases (n == r) (list_any (λ n. n == r) ns) some) [
  | inl here ↦ omega (arith, eqb-true n r here, fit.0)
  | inr later ↦ among ns fit.1 r later
]

read_is_register : (word : ℕ) (insn : Insn) → IsInsnAt word insn → (r : ℕ) → IsReadBy insn r → r < 32
read_is_register word insn is r reads =
    among (operands insn) (operands_of_word word insn is) r
    (and_parts (is_kept r) (list_any (λ n. n == r) (operands insn)) reads).1

in_block_is_register :
    (image : Executable) (leaders : List ℕ) (block : Block) → IsBlockAt image leaders block
    → (insn : Insn) → Contains block.insns.items insn → (r : ℕ) → IsReadBy insn r → r < 32
in_block_is_register image leaders block l insn (k, within, is) r reads =
    let word : ℕ = text_word image (block.leader + 4 * k) in
    read_is_register word insn (subst (λ i. IsInsnAt word i) is (l.insns k insn within).reads) r reads

live_is_register :
    (image : Executable) (leaders : List ℕ) (blocks : List Block) (leader r : ℕ)
    → ((block : Block) → Contains blocks block → IsBlockAt image leaders block)
    → IsLive blocks leader r → r < 32
live_is_register image leaders blocks leader r each live =
    let f = live.reads in
    let there = Contains-append_right f.before (f.reader ∷ f.after) f.reader (0, omega arith, refl) in
    in_block_is_register image leaders live.last (each live.last live.last_there) f.reader
    (subst (λ (xs : List Insn). Contains xs f.reader) (sym f.split) there) r f.reads

pub live_are_registers : LiveAreRegisters
live_are_registers file targets named blocks sets leader r analysis listed some =
    let live = live_is_register file analysis.leaders blocks in
    elim some [
      | inl at ↦ live leader r analysis.blocks_are.each ((analysis.live.at leader r listed).0 at)
      | inr after ↦
          let a = (analysis.live.after leader r listed).0 after in
          live a.successor.leader r analysis.blocks_are.each a.live
    ]
