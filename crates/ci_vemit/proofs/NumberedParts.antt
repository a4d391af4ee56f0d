-- What numbering the letters of a template keeps: widths, and values.
use Rattle.std.proofs.Common.{◌≡◌, ℕ, List, [], ◌∷◌, map, replicate, Contains, refl, ap}
use Rattle.ci_verilog.specs.declared.vectors.Vector.{Vector}
use Rattle.ci_verilog.specs.declared.expressions.Simple.{Simple}
use Rattle.ci_verilog.specs.declared.expressions.Simple.TheVariants.{Whole, Bits, Number}
use Rattle.ci_verilog.specs.declared.expressions.Item.{Item}
use Rattle.ci_verilog.specs.declared.expressions.Item.TheVariants as of_item
use Rattle.ci_verilog.specs.declared.expressions.Term.{Term}
use Rattle.ci_verilog.specs.declared.expressions.Term.TheVariants as of_term
use Rattle.ci_verilog.specs.declared.expressions.Expr.{Expr}
use Rattle.ci_verilog.specs.declared.expressions.Expr.TheVariants.{One, Two, Choose}
use Rattle.ci_verilog.specs.Modules.{Known, vector, IsSimple, IsItem, AreItems, IsTerm, IsExpr}
use Rattle.ci_verilog.specs.Values.{above, joined, simple_bits, item_bits, term_bits, operated, expr_value}
use Rattle.std.proofs.Common.{◌==◌, if◌then◌else◌}
use Rattle.ci_vemit.specs.Templates.{numbered, numbered_simple, numbered_item, numbered_term, numbered_expr}

module _ (n : ℕ) where
  -- ---- widths, where each letter's name is known

  -- a letter that is known has a name that is known
  abbrev pub Carries : List Known → List Known → Type 0
  Carries letters known =
      (letter : List ℕ) (width : ℕ) → Contains letters (vector letter width) → Contains known (vector (numbered n letter) width)

  module _ (letters known : List Known) (carries : Carries letters known) where
    numbered_is_simple : (s : Simple) (w : ℕ) → IsSimple letters s w → IsSimple known (numbered_simple n s) w
    numbered_is_simple _ _ (IsSimple.whole {name = letter} {width = w} is) = IsSimple.whole (carries letter w is)
    numbered_is_simple _ _ (IsSimple.bits {name = letter} {width = w} is below order) =
        IsSimple.bits (carries letter w is) below order
    numbered_is_simple _ _ (IsSimple.number least most below) = IsSimple.number least most below

    numbered_is_item : (i : Item) (w : ℕ) → IsItem letters i w → IsItem known (numbered_item n i) w
    numbered_is_item _ _ (IsItem.plain {simple = s} {width = w} is) = IsItem.plain (numbered_is_simple s w is)
    numbered_is_item _ _ (IsItem.repeat {width = w} {simple = s} some narrow is) =
        IsItem.repeat some narrow (numbered_is_simple s w is)

    numbered_are_items : (items : List Item) (w : ℕ) → AreItems letters items w → AreItems known (map (numbered_item n) items) w
    numbered_are_items _ _ (AreItems.one {i = i} {width = w} is) = AreItems.one (numbered_is_item i w is)
    numbered_are_items _ _ (AreItems.more {i = i} {items = items} {width = w} {others = others} is are) =
        AreItems.more (numbered_is_item i w is) (numbered_are_items items others are)

    numbered_is_term : (t : Term) (w : ℕ) → IsTerm letters t w → IsTerm known (numbered_term n t) w
    numbered_is_term _ _ (IsTerm.plain {simple = s} {width = w} is) = IsTerm.plain (numbered_is_simple s w is)
    numbered_is_term _ _ (IsTerm.repeat {width = w} {simple = s} some narrow is) =
        IsTerm.repeat some narrow (numbered_is_simple s w is)
    numbered_is_term _ _ (IsTerm.join {items = items} {width = w} are narrow) =
        IsTerm.join (numbered_are_items items w are) narrow

    pub numbered_is_expr : (e : Expr) (w : ℕ) → IsExpr letters e w → IsExpr known (numbered_expr n e) w
    numbered_is_expr _ _ (IsExpr.one {t = t} {width = w} is) = IsExpr.one (numbered_is_term t w is)
    numbered_is_expr _ _ (IsExpr.two {l = l} {r = r} {left = v} {right = w} is_l is_r makes) =
        IsExpr.two (numbered_is_term l v is_l) (numbered_is_term r w is_r) makes
    numbered_is_expr _ _ (IsExpr.choose {test = test} {first = first} {second = second} {width = w} is_t is_f is_s) =
        IsExpr.choose (numbered_is_term test 1 is_t) (numbered_is_term first w is_f) (numbered_is_term second w is_s)

  -- ---- values, where each letter stands for what its name stands for

  module _ (names : List ℕ → Vector) where
    abbrev pub of_letters : List ℕ → Vector
    of_letters letter = names (numbered n letter)

    simple_kept : (s : Simple) → simple_bits names (numbered_simple n s) ≡ simple_bits of_letters s
    simple_kept (Whole letter) = refl
    simple_kept (Bits letter high low) = refl
    simple_kept (Number width value) = refl

    item_kept : (i : Item) → item_bits names (numbered_item n i) ≡ item_bits of_letters i
    item_kept (of_item.Plain s) = simple_kept s
    item_kept (of_item.Repeat count s) = ap (λ v. joined (replicate count v)) (simple_kept s)

    items_kept : (items : List Item)
        → joined (map (item_bits names) (map (numbered_item n) items)) ≡ joined (map (item_bits of_letters) items)
    items_kept [] = refl
    items_kept (i ∷ items) = λ t. above (item_kept i t) (items_kept items t)

    term_kept : (term : Term) → term_bits names (numbered_term n term) ≡ term_bits of_letters term
    term_kept (of_term.Plain s) = simple_kept s
    term_kept (of_term.Repeat count s) = ap (λ v. joined (replicate count v)) (simple_kept s)
    term_kept (of_term.Join items) = items_kept items

    pub expr_kept : (e : Expr) → expr_value names (numbered_expr n e) ≡ expr_value of_letters e
    expr_kept (One term) = ap (λ v. v.value) (term_kept term)
    expr_kept (Two o l r) = λ t. operated o (term_kept l t) (term_kept r t)
    expr_kept (Choose test first second) =
        λ t. if (term_kept test t).value == 0 then (term_kept second t).value else (term_kept first t).value
