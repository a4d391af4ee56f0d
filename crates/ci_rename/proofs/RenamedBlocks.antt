-- A renamed block computes as the block did, by each of its renamings in turn.
use Rattle.std.specs.Prelude.{◌≡◌, ℕ, ◌<◌, List, length, slice_index}
use Rattle.std.specs.FinSet as finite
use Rattle.std.specs.Ordering.{nat_cmp}
use Rattle.std.proofs.Common.{refl, sym, ap, ◌∙◌, subst, arith}
use Rattle.ci_isa.specs.declared.instruction.Insn.{Insn}
use Rattle.ci_isa.specs.declared.instruction.Insn.TheVariants.{Alu}
use Rattle.ci_isa.specs.Effects.{results}
use Rattle.ci_isa.specs.Sequences.{nth_insn}
use Rattle.ci_dfg.specs.BlockGraph.{source_of}
use Rattle.ci_rename.specs.OtherRegisters.{ComputeAlike, HasOtherRegisters, with_operands, with_result}
use Rattle.ci_rename.specs.Renaming.{AreGoneThrough, IsGoneThrough, none, more, renames, stays}
use Rattle.ci_rename.specs.InStep.{ArePlain}
use Rattle.ci_rename.specs.Laws.{RenamedBlocksComputeAlike}
use Rattle.ci_rename.proofs.OtherFields.{IsOfOneKind, operands_kind, own_result, result_kind}
use Rattle.ci_rename.proofs.RenamedValues.{computes_alike}

-- ---- instructions

-- fields that are exchanged twice
twice : (insn : Insn) (to next : ℕ → ℕ) (result last : ℕ)
    → with_result last (with_operands next (with_result result (with_operands to insn))) ≡ with_result last (with_operands (λ r. next (to r)) insn)
twice (Alu op rd rs1 rs2) to next result last = refl
twice insn to next result last = refl

unchanged : (insn : Insn) → with_operands (λ r. r) insn ≡ insn
unchanged (Alu op rd rs1 rs2) = refl
unchanged insn = refl

has_its_own : (insn : Insn) → HasOtherRegisters insn insn
has_its_own insn = record {
  operand = λ r. r;
  result = slice_index (results insn) 0;
  is = sym (ap (with_result (slice_index (results insn) 0)) (unchanged insn) ∙ own_result insn);
}

others_join : (first second third : Insn) → HasOtherRegisters first second → HasOtherRegisters second third → HasOtherRegisters first third
others_join first second third one two = record {
  operand = λ r. two.operand (one.operand r);
  result = two.result;
  is =
      two.is ∙ ap (λ insn. with_result two.result (with_operands two.operand insn)) one.is
      ∙ twice first one.operand two.operand one.result two.result;
}

pub other_kind : (old next : Insn) → HasOtherRegisters old next → IsOfOneKind old next
other_kind old next other =
    let read = operands_kind other.operand old in
    let written = result_kind other.result (with_operands other.operand old) in
    subst (IsOfOneKind old) (sym other.is) (record {
      ends = written.ends ∙ read.ends;
      access = written.access ∙ read.access;
      unit = written.unit ∙ read.unit;
      cread = written.cread ∙ read.cread;
      cput = written.cput ∙ read.cput;
    })

-- ---- blocks

pub computes_itself : (live_out : finite.FinSet nat_cmp) (insns : List Insn) → ComputeAlike live_out insns insns
computes_itself live_out insns = record {
  same_length = refl;
  each = λ k below. has_its_own (nth_insn insns k);
  sources = λ k below. refl;
  live = λ r is. refl;
}

pub computing_joins : (live_out : finite.FinSet nat_cmp) (first second third : List Insn)
    → ComputeAlike live_out first second → ComputeAlike live_out second third → ComputeAlike live_out first third
computing_joins live_out first second third one two = record {
  same_length = two.same_length ∙ one.same_length;
  each = λ k below.
      others_join (nth_insn first k) (nth_insn second k) (nth_insn third k) (one.each k below) (two.each k (omega (arith, one.same_length)));
  sources = λ k below. two.sources k (omega (arith, one.same_length)) ∙ one.sources k below;
  live = λ r is. subst (λ n. source_of third n r ≡ source_of second n r) one.same_length (two.live r is) ∙ one.live r is;
}

pub stays_plain : (live_out : finite.FinSet nat_cmp) (old next : List Insn) → ArePlain old → ComputeAlike live_out old next → ArePlain next
stays_plain live_out old next plain alike k below =
    let within : k < length old = omega (arith, alike.same_length) in
    let kind = other_kind (nth_insn old k) (nth_insn next k) (alike.each k within) in
    (kind.unit ∙ (plain k within).0, kind.cread ∙ (plain k within).1, kind.cput ∙ (plain k within).2)

pub gone_through : (live_out : finite.FinSet nat_cmp) (insns : List Insn) (i : ℕ) (next : List Insn) (values : ℕ) → ArePlain insns → IsGoneThrough live_out insns i next values
    → ComputeAlike live_out insns next
gone_through live_out insns i _ _ plain (renames r to may) = computes_alike live_out insns plain i r to may.is_local may.least.free
gone_through live_out insns i _ _ plain (stays never) = computes_itself live_out insns

pub all_gone_through : (live_out : finite.FinSet nat_cmp) (insns next : List Insn) (count values : ℕ) → ArePlain insns
    → AreGoneThrough live_out insns count next values → ComputeAlike live_out insns next
all_gone_through live_out insns _ _ _ plain none = computes_itself live_out insns
all_gone_through live_out insns _ _ _ plain (more i before next values further first last) =
    let alike = all_gone_through live_out insns before i values plain first in
    computing_joins live_out insns before next alike
    (gone_through live_out before i next further (stays_plain live_out insns before plain alike) last)

pub renamed_alike : RenamedBlocksComputeAlike
renamed_alike live_out insns next values plain is = all_gone_through live_out insns next (length insns) values plain is
