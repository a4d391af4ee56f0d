-- Which kinds of instructions may be part of a unit, and what a latency table says of them.
use Rattle.std.specs.Prelude.{◌≡◌, ℕ, ◌≤◌, Bool, true, false, not, ◌&&◌, ◌==◌, if◌then◌else◌, List, length, take, IsTrue, ℤ}
use Rattle.std.specs.List.{All}
use Rattle.std.proofs.Common.{refl, sym, ap, ◌∙◌, subst, arith, lit<, zero-le, inl, inr, get_or, true≢false}
use Rattle.std.proofs.lemmas.Bool.{and_parts, cases_lt}
use Rattle.std.proofs.lemmas.List.{get_or_past, get_or-take, length-take}
use Rattle.std.proofs.lemmas.List.Elements.{All-get_or}
use Rattle.ci_word.specs.declared.arithmetic.Op.{Op}
use Rattle.ci_word.specs.declared.arithmetic.Op.TheVariants as ops
use Rattle.ci_word.specs.declared.arithmetic.Class.{Class}
use Rattle.ci_word.specs.declared.arithmetic.Class.TheVariants as class
use Rattle.ci_isa.specs.declared.instruction.Insn.{Insn}
use Rattle.ci_isa.specs.declared.instruction.Insn.TheVariants.{Alu, AluImm, Lui}
use Rattle.ci_isa.specs.Effects.{register_class, constant_class, class_of, is_no_op, is_zero, is_division, may_join}
use Rattle.ci_lat.specs.Latencies.{Latencies, place, latency_of, delay_of}
use Rattle.ci_lat.specs.TableRules.{IsLatencyTable, HasDelay}

-- ---- classes with a delay

register_class_delayed : (op : Op) → IsTrue (not (is_division op)) → HasDelay (register_class op)
register_class_delayed ops.Add allowed = lit< tt
register_class_delayed ops.Sub allowed = lit< tt
register_class_delayed ops.Sll allowed = lit< tt
register_class_delayed ops.Slt allowed = lit< tt
register_class_delayed ops.Sltu allowed = lit< tt
register_class_delayed ops.Xor allowed = lit< tt
register_class_delayed ops.Srl allowed = lit< tt
register_class_delayed ops.Sra allowed = lit< tt
register_class_delayed ops.Or allowed = lit< tt
register_class_delayed ops.And allowed = lit< tt
register_class_delayed ops.Mul allowed = lit< tt
register_class_delayed ops.Mulh allowed = lit< tt
register_class_delayed ops.Mulhsu allowed = lit< tt
register_class_delayed ops.Mulhu allowed = lit< tt
register_class_delayed ops.Div allowed = absurd (true≢false (sym allowed))
register_class_delayed ops.Divu allowed = absurd (true≢false (sym allowed))
register_class_delayed ops.Rem allowed = absurd (true≢false (sym allowed))
register_class_delayed ops.Remu allowed = absurd (true≢false (sym allowed))

constant_class_delayed : (op : Op) → IsTrue (not (is_division op)) → HasDelay (constant_class op)
constant_class_delayed ops.Sll allowed = lit< tt
constant_class_delayed ops.Srl allowed = lit< tt
constant_class_delayed ops.Sra allowed = lit< tt
constant_class_delayed op allowed = register_class_delayed op allowed

-- the no-op has no result
no_op_result : (op : Op) (rd rs1 : ℕ) (imm : ℤ) → IsTrue (is_no_op op rd rs1 imm) → IsTrue (rd == 0)
no_op_result ops.Add rd rs1 imm is = (and_parts (rd == 0) (rs1 == 0) (and_parts (rd == 0 && rs1 == 0) (is_zero imm) is).0).0
no_op_result op rd rs1 imm is = absurd (true≢false (sym is))

-- what may be part of a unit has a class with a delay
pub may_join_delayed : (insn : Insn) → IsTrue (may_join insn) → HasDelay (class_of insn)
may_join_delayed (Alu op rd rs1 rs2) joins = register_class_delayed op (and_parts (not (is_division op)) (not (rd == 0)) joins).0
may_join_delayed (AluImm op rd rs1 imm) joins = by_test (is_no_op op rd rs1 imm) refl
  where
    parts : IsTrue (not (is_division op)) × IsTrue (not (rd == 0))
    parts = and_parts (not (is_division op)) (not (rd == 0)) joins

    by_test : (b : Bool) → is_no_op op rd rs1 imm ≡ b → HasDelay (if b then class.Free else constant_class op)
    by_test true is = absurd (true≢false (sym parts.1 ∙ ap not (no_op_result op rd rs1 imm is)))
    by_test false is = constant_class_delayed op parts.0
may_join_delayed (Lui rd upper) joins = lit< tt
may_join_delayed insn joins = absurd (true≢false (sym joins))

-- ---- the numbers of a table

-- what holds of 0 and of each number of a list holds wherever it is read
at_any : (P : ℕ → Type 0) (numbers : List ℕ) (k : ℕ) → All P numbers → P 0 → P (get_or numbers k 0)
at_any P numbers k each none =
    elim (cases_lt k (length numbers)) [
      | inl there ↦ All-get_or P numbers k 0 there each
      | inr past ↦ subst P (sym (get_or_past numbers k 0 past)) none
    ]

module _ (table : Latencies) (kept : IsLatencyTable table) where
  pub latency_most : (c : Class) → latency_of table c ≤ 1000
  latency_most c = at_any (λ n. n ≤ 1000) table.software (place c) kept.maximum_latency zero-le

  pub delay_most : (c : Class) → delay_of table c ≤ 100000
  delay_most c = at_any (λ n. n ≤ 100000) table.hardware (place c) kept.maximum_delay zero-le

  pub latency_least : (c : Class) → HasDelay c → 1 ≤ latency_of table c
  latency_least c delayed =
      All-get_or (λ n. 1 ≤ n) table.software (place c) 0 (omega (arith, kept.rows_with_latency)) kept.minimum_latency

  pub pad_least : (c : Class) → HasDelay c → table.pad ≤ latency_of table c
  pad_least c delayed =
      subst (λ n. table.pad ≤ n) (get_or-take 8 table.software (place c) 0 delayed)
      (All-get_or (λ n. table.pad ≤ n) (take 8 table.software) (place c) 0 (simp length-take (omega (arith, kept.rows_with_latency))) kept.pad_below_latency)
