-- What expressions depend on, and that their values fit their widths.
use Rattle.std.specs.Prelude.{◌≡◌, ℕ, ◌+◌, ◌-◌, ◌*◌, ◌/◌, ◌%◌, ◌^◌, ◌<◌, ◌==◌, nat_lt, if◌then◌else◌, Bool, true, false, List, map, replicate}
use Rattle.std.specs.List.{Contains}
use Rattle.std.proofs.Common.{refl, sym, ap, ◌∙◌, subst, arith}
use Rattle.std.proofs.lemmas.Nat.{mod_below, pow_pos, and_le_l, or_lt, xor_lt, shr_le}
use Rattle.ci_verilog.specs.declared.vectors.Vector.{Vector}
use Rattle.ci_verilog.specs.declared.expressions.Simple.{Simple}
use Rattle.ci_verilog.specs.declared.expressions.Item.{Item}
use Rattle.ci_verilog.specs.declared.expressions.Term.{Term}
use Rattle.ci_verilog.specs.declared.expressions.Operator.{Operator}
use Rattle.ci_verilog.specs.declared.expressions.Operator.TheVariants.{Plus, Minus, Times, And, Or, Xor, Left, Right, Less}
use Rattle.ci_verilog.specs.declared.expressions.Expr.{Expr}
use Rattle.ci_verilog.specs.Modules.{Known, vector, Makes, IsSimple, IsItem, AreItems, IsTerm, IsExpr}
use Rattle.ci_verilog.specs.Values.{of_width, above, joined, simple_bits, item_bits, term_bits, operated, expr_value}
use Rattle.ci_verilog.specs.private.Held.{Fits}
use Rattle.ci_verilog.proofs.VectorLaws.{above_in_range, above_nothing, copies_are_wide, copies_in_range}

-- ---- an expression depends on its names alone

-- both assignments have one vector for each of these names
abbrev pub Agree : List Known → (List ℕ → Vector) → (List ℕ → Vector) → Type 0
Agree known names other = (v : Known) → Contains known v → names v.name ≡ other v.name

module _ (known : List Known) (names other : List ℕ → Vector) (agree : Agree known names other) where
  simple_agrees : (s : Simple) (w : ℕ) → IsSimple known s w → simple_bits names s ≡ simple_bits other s
  simple_agrees _ _ (IsSimple.whole {name = n} {width = w} is) = agree (vector n w) is
  simple_agrees _ _ (IsSimple.bits {name = n} {high = h} {low = l} {width = w} is below order) =
      ap (λ v. of_width (h + 1 - l) (v.value / 2 ^ l % 2 ^ (h + 1 - l))) (agree (vector n w) is)
  simple_agrees _ _ (IsSimple.number least most below) = refl

  item_agrees : (i : Item) (w : ℕ) → IsItem known i w → item_bits names i ≡ item_bits other i
  item_agrees _ _ (IsItem.plain {simple = s} {width = w} is) = simple_agrees s w is
  item_agrees _ _ (IsItem.repeat {count = count} {width = w} {simple = s} some narrow is) =
      ap (λ v. joined (replicate count v)) (simple_agrees s w is)

  items_agree : (items : List Item) (w : ℕ) → AreItems known items w
      → joined (map (item_bits names) items) ≡ joined (map (item_bits other) items)
  items_agree _ _ (AreItems.one {i = i} {width = w} is) = ap (λ v. above v (of_width 0 0)) (item_agrees i w is)
  items_agree _ _ (AreItems.more {i = i} {items = items} {width = w} {others = others} is are) =
      λ t. above (item_agrees i w is t) (items_agree items others are t)

  term_agrees : (term : Term) (w : ℕ) → IsTerm known term w → term_bits names term ≡ term_bits other term
  term_agrees _ _ (IsTerm.plain {simple = s} {width = w} is) = simple_agrees s w is
  term_agrees _ _ (IsTerm.repeat {count = count} {width = w} {simple = s} some narrow is) =
      ap (λ v. joined (replicate count v)) (simple_agrees s w is)
  term_agrees _ _ (IsTerm.join {items = items} {width = w} are narrow) = items_agree items w are

  pub expr_agrees : (expr : Expr) (w : ℕ) → IsExpr known expr w → expr_value names expr ≡ expr_value other expr
  expr_agrees _ _ (IsExpr.one {t = term} {width = w} is) = ap (λ v. v.value) (term_agrees term w is)
  expr_agrees _ _ (IsExpr.two {operator = o} {l = l} {r = r} {left = v} {right = w} is_l is_r makes) =
      λ t. operated o (term_agrees l v is_l t) (term_agrees r w is_r t)
  expr_agrees _ _ (IsExpr.choose {test = test} {first = first} {second = second} {width = w} is_t is_f is_s) =
      λ t. if (term_agrees test 1 is_t t).value == 0 then (term_agrees second w is_s t).value else (term_agrees first w is_f t).value

-- ---- values fit their widths

-- what these names stand for fits their widths
abbrev pub AllFit : List Known → (List ℕ → Vector) → Type 0
AllFit known names = (v : Known) → Contains known v → Fits (names v.name) v.width

copies_fit : (count w : ℕ) (v : Vector) → Fits v w → Fits (joined (replicate count v)) (count * w)
copies_fit count w v fits =
    let wide : (joined (replicate count v)).width ≡ count * w = copies_are_wide count v ∙ ap (λ n. count * n) fits.width_is in
    record {
      width_is = wide;
      in_range =
          subst (λ n. (joined (replicate count v)).value < 2 ^ n) wide
          (copies_in_range count v (subst (λ n. v.value < 2 ^ n) (sym fits.width_is) fits.in_range));
    }

above_fits : (h l : Vector) (v w : ℕ) → Fits h v → Fits l w → Fits (above h l) (v + w)
above_fits h l v w high low =
    let wide : h.width + l.width ≡ v + w = omega (arith, high.width_is, low.width_is) in
    record {
      width_is = wide;
      in_range =
          subst (λ n. (above h l).value < 2 ^ n) wide
          (above_in_range h l (subst (λ n. h.value < 2 ^ n) (sym high.width_is) high.in_range)
          (subst (λ n. l.value < 2 ^ n) (sym low.width_is) low.in_range));
    }

module _ (known : List Known) (names : List ℕ → Vector) (fit : AllFit known names) where
  pub simple_fits : (s : Simple) (w : ℕ) → IsSimple known s w → Fits (simple_bits names s) w
  simple_fits _ _ (IsSimple.whole {name = n} {width = w} is) = fit (vector n w) is
  simple_fits _ _ (IsSimple.bits {name = n} {high = h} {low = l} {width = w} is below order) =
      record { width_is = refl; in_range = mod_below ((names n).value / 2 ^ l) (2 ^ (h + 1 - l)) (pow_pos (h + 1 - l)) }
  simple_fits _ _ (IsSimple.number least most below) = record { width_is = refl; in_range = below }

  pub item_fits : (i : Item) (w : ℕ) → IsItem known i w → Fits (item_bits names i) w
  item_fits _ _ (IsItem.plain {simple = s} {width = w} is) = simple_fits s w is
  item_fits _ _ (IsItem.repeat {count = count} {width = w} {simple = s} some narrow is) =
      copies_fit count w (simple_bits names s) (simple_fits s w is)

  pub items_fit : (items : List Item) (w : ℕ) → AreItems known items w → Fits (joined (map (item_bits names) items)) w
  items_fit _ _ (AreItems.one {i = i} {width = w} is) =
      subst (λ v. Fits v w) (sym (above_nothing (item_bits names i))) (item_fits i w is)
  items_fit _ _ (AreItems.more {i = i} {items = items} {width = w} {others = others} is are) =
      above_fits (item_bits names i) (joined (map (item_bits names) items)) w others (item_fits i w is) (items_fit items others are)

  pub term_fits : (term : Term) (w : ℕ) → IsTerm known term w → Fits (term_bits names term) w
  term_fits _ _ (IsTerm.plain {simple = s} {width = w} is) = simple_fits s w is
  term_fits _ _ (IsTerm.repeat {count = count} {width = w} {simple = s} some narrow is) =
      copies_fit count w (simple_bits names s) (simple_fits s w is)
  term_fits _ _ (IsTerm.join {items = items} {width = w} are narrow) = items_fit items w are

  pub expr_fits : (expr : Expr) (w : ℕ) → IsExpr known expr w → expr_value names expr < 2 ^ w
  expr_fits _ _ (IsExpr.one {t = term} {width = w} is) = (term_fits term w is).in_range
  expr_fits _ _ (IsExpr.two {operator = o} {l = l} {r = r} {left = v} {right = w} {width = width} is_l is_r makes) =
      operated_fits o (term_bits names l) (term_bits names r) v w width (term_fits l v is_l) (term_fits r w is_r) makes
    where
      reduced : (n v w width : ℕ) → v ≡ w → width ≡ w → n % 2 ^ v < 2 ^ width
      reduced n v w width e f = subst (λ m. n % 2 ^ v < 2 ^ m) (e ∙ sym f) (mod_below n (2 ^ v) (pow_pos v))

      kept : (n v width : ℕ) → n < 2 ^ v → width ≡ v → n < 2 ^ width
      kept n v width below e = subst (λ m. n < 2 ^ m) (sym e) below

      operated_fits : (o : Operator) (l r : Vector) (v w width : ℕ) → Fits l v → Fits r w → Makes o v w width
          → operated o l r < 2 ^ width
      operated_fits Plus l r v w width fl fr makes = reduced (l.value + r.value) l.width v width fl.width_is makes.1
      operated_fits Minus l r v w width fl fr makes = reduced (l.value + 2 ^ l.width - r.value) l.width v width fl.width_is makes.1
      operated_fits Times l r v w width fl fr makes = reduced (l.value * r.value) l.width v width fl.width_is makes.1
      operated_fits And l r v w width fl fr makes =
          kept _ v width (let e = and_le_l l.value r.value in let f = fl.in_range in omega (arith, e, f)) makes.1
      operated_fits Or l r v w width fl fr makes =
          kept _ v width (or_lt v l.value r.value fl.in_range (subst (λ m. r.value < 2 ^ m) (sym makes.0) fr.in_range)) makes.1
      operated_fits Xor l r v w width fl fr makes =
          kept _ v width (xor_lt v l.value r.value fl.in_range (subst (λ m. r.value < 2 ^ m) (sym makes.0) fr.in_range)) makes.1
      operated_fits Left l r v w width fl fr makes = reduced (l.value * 2 ^ r.value) l.width v width fl.width_is makes
      operated_fits Right l r v w width fl fr makes =
          kept _ v width (let e = shr_le l.value r.value in let f = fl.in_range in omega (arith, e, f)) makes
      operated_fits Less l r v w width fl fr makes =
          subst (λ m. (if nat_lt l.value r.value then 1 else 0) < 2 ^ m) (sym makes.1) (one_bit (nat_lt l.value r.value))
        where
          one_bit : (b : Bool) → (if b then 1 else 0) < 2 ^ 1
          one_bit true = omega arith
          one_bit false = omega arith
  expr_fits _ _ (IsExpr.choose {test = test} {first = first} {second = second} {width = w} is_t is_f is_s) =
      either ((term_bits names test).value == 0) (term_bits names second).value (term_bits names first).value w
      (term_fits second w is_s).in_range (term_fits first w is_f).in_range
    where
      either : (b : Bool) (m n w : ℕ) → m < 2 ^ w → n < 2 ^ w → (if b then m else n) < 2 ^ w
      either true m n w p q = p
      either false m n w p q = q
