-- For the impls of `PartialEq` and `Eq` alone: equal parts of terms are one.
use Rattle.std.proofs.Common.{◌≡◌, List, Bool, true, ap, sym, ◌∙◌, true≢false}
use Rattle.std.specs.Bool.{Decides}
use Rattle.std.specs.Cmp.{unsigned_Decides, IsEquivalence, decided}
use Rattle.std.specs.Cmp.Lexicographic.{pointwise, pointwise_decides}
use Rattle.std.proofs.lemmas.Bool.{and_parts}
use Rattle.ci_verilog.specs.contracts.expressions.SimplePartialEq.TheImpl as simple
use Rattle.ci_verilog.specs.contracts.expressions.ItemPartialEq.TheImpl as item
use Rattle.ci_verilog.specs.contracts.expressions.ItemEq.TheImpl.Laws as item_laws
use Rattle.ci_verilog.specs.declared.expressions.Simple.{Simple}
use Rattle.ci_verilog.specs.declared.expressions.Simple.TheVariants.{Whole, Bits, Number}
use Rattle.ci_verilog.specs.declared.expressions.Item.{Item}
use Rattle.ci_verilog.specs.declared.expressions.Item.TheVariants.{Plain, Repeat}
use Rattle.ci_verilog.specs.NameEquality.{same_name_decides}

abbrev pub same_items : List Item → List Item → Bool
same_items = pointwise item.ghosts.eq

pub same_simple : (x y : Simple) → simple.ghosts.eq x y ≡ true → x ≡ y
same_simple (Whole n) (Whole m) e = ap Whole ((same_name_decides n m).0 e)
same_simple (Whole n) (Bits m h l) e = absurd (true≢false (sym e))
same_simple (Whole n) (Number w v) e = absurd (true≢false (sym e))
same_simple (Bits n h l) (Whole m) e = absurd (true≢false (sym e))
same_simple (Bits n h l) (Bits m i j) e =
    let parts = and_parts _ _ e in
    let later = and_parts _ _ parts.1 in
    let name = (same_name_decides n m).0 parts.0 in
    let high = (unsigned_Decides h i).0 later.0 in
    let low = (unsigned_Decides l j).0 later.1 in
    λ k. Bits (name k) (high k) (low k)
same_simple (Bits n h l) (Number w v) e = absurd (true≢false (sym e))
same_simple (Number w v) (Whole m) e = absurd (true≢false (sym e))
same_simple (Number w v) (Bits m h l) e = absurd (true≢false (sym e))
same_simple (Number w v) (Number x u) e =
    let parts = and_parts _ _ e in
    let width = (unsigned_Decides w x).0 parts.0 in
    let value = (unsigned_Decides v u).0 parts.1 in
    λ k. Number (width k) (value k)

same_item : (x y : Item) → item.ghosts.eq x y ≡ true → x ≡ y
same_item (Plain s) (Plain t) e = ap Plain (same_simple s t e)
same_item (Plain s) (Repeat n t) e = absurd (true≢false (sym e))
same_item (Repeat n s) (Plain t) e = absurd (true≢false (sym e))
same_item (Repeat n s) (Repeat m t) e =
    let parts = and_parts _ _ e in
    let count = (unsigned_Decides n m).0 parts.0 in
    let part = same_simple s t parts.1 in
    λ k. Repeat (count k) (part k)

item_decides : (x y : Item) → Decides (item.ghosts.eq x y) (x ≡ y)
item_decides x y = (same_item x y, λ same. ap (item.ghosts.eq x) (sym same) ∙ item_laws.laws-law.refl x)

pub same_items_decides : (x y : List Item) → Decides (same_items x y) (x ≡ y)
same_items_decides = pointwise_decides item_decides

pub items_equivalent : IsEquivalence same_items
items_equivalent = decided same_items same_items_decides
