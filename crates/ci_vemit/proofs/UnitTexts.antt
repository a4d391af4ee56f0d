-- The modules of units are such as the grammar has words for: their names are a letter and a number.
use Rattle.std.proofs.Common.{◌≡◌, ℕ, suc, ◌+◌, ◌^◌, ◌<◌, ◌≤◌, Bool, true, false, List, [], ◌∷◌, length, map, refl, arith}
use Rattle.std.specs.Prelude.{All}
use Rattle.std.specs.List.{AllByRecursion, list_all}
use Rattle.std.specs.Char.{is_ascii_alphabetic}
use Rattle.std.proofs.lemmas.List.Elements.{All-tail}
use Rattle.ci_reading.proofs.BrokenLaws.{kept_append}
use Rattle.ci_word.specs.declared.arithmetic.Op.{Op}
use Rattle.ci_word.specs.declared.arithmetic.Op.TheVariants as ops
use Rattle.ci_verilog.specs.declared.expressions.Wire.{Wire}
use Rattle.ci_vread.specs.Spelling.{Spell}
use Rattle.ci_unit.specs.declared.operations.UnitOp.{UnitOp}
use Rattle.ci_unit.specs.Units.{Unit, IsUnit}
use Rattle.ci_unit.specs.Tables.{IsTable}
use Rattle.ci_vemit.specs.Templates.{numbered, numbered_wire, p, q, template, op_wires, wires_from, module_of, modules_from, modules_of}
use Rattle.ci_vemit.specs.Texts.{text_of, IsName, IsSpellable, AreSpellable}
use Rattle.ci_vemit.proofs.NameLaws.{numbered_name_is}
use Rattle.ci_vemit.proofs.SpeltModules.{spelt}
use Rattle.ci_vemit.proofs.TokenBytes.{and_both}
use Rattle.ci_vemit.proofs.UnitModules.{module_is}

abbrev HasName : Wire → Type 0
HasName w = IsName w.name

abbrev is_letter : List ℕ → Bool
is_letter (c ∷ []) = is_ascii_alphabetic c
is_letter bytes = false

template_letters : (op : Op) → list_all (λ w. is_letter w.name) (template op) ≡ true
template_letters ops.Add = refl
template_letters op = refl

module _ (n : ℕ) (small : n < 2 ^ 32) where
  numbered_is : (letter : List ℕ) → is_letter letter ≡ true → IsName (numbered n letter)
  numbered_is [] is = absurd (cc)
  numbered_is (c ∷ []) is = numbered_name_is c n is small
  numbered_is (c ∷ d ∷ letter) is = absurd (cc)

  lines_have_names : (lines : List Wire) → list_all (λ w. is_letter w.name) lines ≡ true → AllByRecursion HasName (map (numbered_wire n) lines)
  lines_have_names [] all = tt
  lines_have_names (w ∷ lines) all =
      let both = and_both (is_letter w.name) (list_all (λ w. is_letter w.name) lines) all in
      (numbered_is w.name both.0, lines_have_names lines both.1)

  op_has_names : (op : UnitOp) → AllByRecursion HasName (op_wires n op)
  op_has_names op = (numbered_is p refl, (numbered_is q refl, lines_have_names (template op.op) (template_letters op.op)))

wires_have_names : (n : ℕ) (ops : List UnitOp) → n + length ops ≤ 256 → AllByRecursion HasName (wires_from n ops)
wires_have_names n [] few = tt
wires_have_names n (op ∷ ops) few =
    kept_append HasName (op_wires n op) (wires_from (suc n) ops) (op_has_names n (omega arith) op)
    (wires_have_names (suc n) ops (omega arith))

module_spellable : (k : ℕ) (unit : Unit) → k < 32 → IsUnit unit → IsSpellable k (module_of k unit)
module_spellable k unit below is = record {
  is_module = module_is k unit is;
  number_is = refl;
  below = below;
  few_cycles = is.cycles_most;
  names = wires_have_names 0 unit.ops (omega (arith, is.few));
}

modules_spellable : (k : ℕ) (units : List Unit) → k + length units ≤ 32 → All IsUnit units → AreSpellable k (modules_from k units)
modules_spellable k [] few are = tt
modules_spellable k (unit ∷ units) few are = (
  module_spellable k unit (omega arith) (are 0 unit (omega arith)),
  modules_spellable (suc k) units (omega arith) (All-tail IsUnit unit units are),
)

pub units_spelt : (units : List Unit) → IsTable units → Spell (text_of (modules_of units)) (modules_of units)
units_spelt units is = spelt (modules_of units) (modules_spellable 0 units (omega (arith, is.few)) is.units_are)
