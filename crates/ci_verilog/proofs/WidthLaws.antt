-- What a term or an expression of some width consists of.
use Rattle.std.specs.Prelude.{◌≡◌, ℕ, ◌+◌, ◌-◌, ◌*◌, ◌^◌, ◌<◌, ◌≤◌, ◌↔◌, [], ◌∷◌, ◌==◌}
use Rattle.std.specs.Prelude.{suc, List, length, drop, Bool, true, false, not, IsTrue, Option, Some, None, is_some}
use Rattle.std.specs.List.{Contains, slice_index_or}
use Rattle.std.proofs.Common.{refl, sym, ap, ◌∙◌, subst, arith, add-zero}
use Rattle.std.proofs.Math.Seq.{drop-cons}
use Rattle.std.proofs.Math.ListN.{drop_of_length-le}
use Rattle.ci_verilog.specs.declared.expressions.Simple.{Simple}
use Rattle.ci_verilog.specs.declared.expressions.Simple.TheVariants.{Whole, Bits, Number}
use Rattle.ci_verilog.specs.declared.expressions.Item.{Item}
use Rattle.ci_verilog.specs.declared.expressions.Item.TheVariants as of_item
use Rattle.ci_verilog.specs.declared.expressions.Term.{Term}
use Rattle.ci_verilog.specs.declared.expressions.Term.TheVariants as of_term
use Rattle.ci_verilog.specs.declared.expressions.Operator.{Operator}
use Rattle.ci_verilog.specs.declared.expressions.Expr.TheVariants.{One, Two, Choose}
use Rattle.ci_verilog.specs.Modules.{Known, vector, Makes, IsSimple, IsItem, AreItems, IsTerm, IsExpr}

module _ (known : List Known) where
  pub whole_parts : (name : List ℕ) (w : ℕ) → IsSimple known (Whole name) w → Contains known (vector name w)
  whole_parts name w (IsSimple.whole is) = is

  pub bits_parts : (name : List ℕ) (high low w : ℕ) → IsSimple known (Bits name high low) w
      → (width : ℕ) × Contains known (vector name width) × (high < width) × (low ≤ high) × (w ≡ high + 1 - low)
  bits_parts name high low w (IsSimple.bits {width = width} is below order) = (width, is, below, order, refl)

  pub number_parts : (width value w : ℕ) → IsSimple known (Number width value) w
      → (1 ≤ width) × (width ≤ 64) × (value < 2 ^ width) × (w ≡ width)
  number_parts width value w (IsSimple.number least most below) = (least, most, below, refl)

  pub plain_item_parts : (simple : Simple) (w : ℕ) → IsItem known (of_item.Plain simple) w → IsSimple known simple w
  plain_item_parts simple w (IsItem.plain is) = is

  pub repeat_item_parts : (count : ℕ) (simple : Simple) (w : ℕ) → IsItem known (of_item.Repeat count simple) w
      → (width : ℕ) × IsSimple known simple width × (1 ≤ count) × (count * width ≤ 64) × (w ≡ count * width)
  repeat_item_parts count simple w (IsItem.repeat {width = width} some narrow is) = (width, is, some, narrow, refl)

  pub plain_term_parts : (simple : Simple) (w : ℕ) → IsTerm known (of_term.Plain simple) w → IsSimple known simple w
  plain_term_parts simple w (IsTerm.plain is) = is

  pub repeat_term_parts : (count : ℕ) (simple : Simple) (w : ℕ) → IsTerm known (of_term.Repeat count simple) w
      → (width : ℕ) × IsSimple known simple width × (1 ≤ count) × (count * width ≤ 64) × (w ≡ count * width)
  repeat_term_parts count simple w (IsTerm.repeat {width = width} some narrow is) = (width, is, some, narrow, refl)

  pub join_parts : (items : List Item) (w : ℕ) → IsTerm known (of_term.Join items) w → AreItems known items w × (w ≤ 64)
  join_parts items w (IsTerm.join are narrow) = (are, narrow)

  pub one_parts : (term : Term) (w : ℕ) → IsExpr known (One term) w → IsTerm known term w
  one_parts term w (IsExpr.one is) = is

  pub two_parts : (operator : Operator) (l r : Term) (w : ℕ) → IsExpr known (Two operator l r) w
      → (left : ℕ) × (right : ℕ) × IsTerm known l left × IsTerm known r right × Makes operator left right w
  two_parts operator l r w (IsExpr.two {left = left} {right = right} is_l is_r makes) = (left, right, is_l, is_r, makes)

  pub choose_parts : (test first second : Term) (w : ℕ) → IsExpr known (Choose test first second) w
      → IsTerm known test 1 × IsTerm known first w × IsTerm known second w
  choose_parts test first second w (IsExpr.choose is_t is_f is_s) = (is_t, is_f, is_s)

-- ---- widths are at most 64

abbrev pub AllNarrow : List Known → Type 0
AllNarrow known = (v : Known) → Contains known v → v.width ≤ 64

module _ (known : List Known) (narrow : AllNarrow known) where
  pub narrow_simple : (s : Simple) (w : ℕ) → IsSimple known s w → w ≤ 64
  narrow_simple _ _ (IsSimple.whole {name = n} {width = w} is) = narrow (vector n w) is
  narrow_simple _ _ (IsSimple.bits {name = n} {high = h} {low = l} {width = w} is below order) =
      let e : w ≤ 64 = narrow (vector n w) is in omega (arith, e)
  narrow_simple _ _ (IsSimple.number least most below) = most

  pub narrow_term : (t : Term) (w : ℕ) → IsTerm known t w → w ≤ 64
  narrow_term _ _ (IsTerm.plain {simple = s} {width = w} is) = narrow_simple s w is
  narrow_term _ _ (IsTerm.repeat some most is) = most
  narrow_term _ _ (IsTerm.join are most) = most

-- ---- answers that tell widths

module _ (P : ℕ → Type 0) where
  -- the answer tells which width has the property, if one has
  abbrev pub Tells : Option ℕ → Type 0
  Tells r = (w : ℕ) → (r ≡ Some w) ↔ P w

  pub none_tells : ((w : ℕ) → ¬ P w) → Tells None
  none_tells none w = ((λ e. absurd cc), (λ is. absurd (none w is)))

  pub is_none_told : (r : Option ℕ) (b : Bool) → is_some r ≡ not b → Tells r → IsTrue b ↔ ((w : ℕ) → ¬ P w)
  is_none_told None true same told = ((λ is w has. let e : None ≡ Some w = (told w).1 has in absurd cc), (λ none. refl))
  is_none_told None false same told = absurd cc
  is_none_told (Some v) true same told = absurd cc
  is_none_told (Some v) false same told = ((λ is. absurd cc), (λ none. absurd (none v ((told v).0 refl))))

  -- what tells another property that comes to the same
  pub tells_too : (Q : ℕ → Type 0) (r : Option ℕ) → Tells r → ((w : ℕ) → P w → Q w) → ((w : ℕ) → Q w → P w)
      → (w : ℕ) → (r ≡ Some w) ↔ Q w
  tells_too Q r told to back w = ((λ e. to w ((told w).0 e)), (λ is. (told w).1 (back w is)))

pub some_is_one : (v w : ℕ) → Some v ≡ Some w → v ≡ w
some_is_one v w e = cc

module _ (known : List Known) where
  pub whole_tells : (name : List ℕ) (r : Option ℕ) → Tells (λ w. Contains known (vector name w)) r
      → Tells (IsSimple known (Whole name)) r
  whole_tells name r told =
      tells_too (λ w. Contains known (vector name w)) (IsSimple known (Whole name)) r told (λ w is. IsSimple.whole is) (whole_parts known name)

  pub bits_tell : (name : List ℕ) (high low v : ℕ) (o r : Option ℕ) → o ≡ Some v → Tells (λ w. Contains known (vector name w)) o
      → Tells (λ w. (high < v) × (low ≤ high) × (w ≡ high + 1 - low)) r → Tells (IsSimple known (Bits name high low)) r
  bits_tell name high low v o r is_v told part =
      tells_too (λ w. (high < v) × (low ≤ high) × (w ≡ high + 1 - low)) (IsSimple known (Bits name high low)) r part
      (λ w p. subst (IsSimple known (Bits name high low)) (sym p.2) (IsSimple.bits ((told v).0 is_v) p.0 p.1))
      (λ w is.
      let p = bits_parts known name high low w is in
      let e : v ≡ p.0 = some_is_one v p.0 (sym is_v ∙ (told p.0).1 p.1) in
      (omega (arith, e, p.2), p.3, p.4))

  pub no_bits_tell : (name : List ℕ) (high low : ℕ) (o : Option ℕ) → o ≡ None → Tells (λ w. Contains known (vector name w)) o
      → Tells (IsSimple known (Bits name high low)) None
  no_bits_tell name high low o is_none told =
      none_tells (IsSimple known (Bits name high low))
      (λ w is. let p = bits_parts known name high low w is in let e : None ≡ Some p.0 = sym is_none ∙ (told p.0).1 p.1 in absurd cc)

  pub constant_tells : (width value : ℕ) (r : Option ℕ)
      → Tells (λ w. (1 ≤ width) × (width ≤ 64) × (value < 2 ^ width) × (w ≡ width)) r
      → Tells (IsSimple known (Number width value)) r
  constant_tells width value r told =
      tells_too (λ w. (1 ≤ width) × (width ≤ 64) × (value < 2 ^ width) × (w ≡ width)) (IsSimple known (Number width value)) r told
      (λ w p. subst (IsSimple known (Number width value)) (sym p.3) (IsSimple.number p.0 p.1 p.2)) (number_parts known width value)

  pub repeat_tells : (Q : ℕ → Type 0) (count : ℕ) (simple : Simple) (v : ℕ) (o r : Option ℕ) → o ≡ Some v
      → Tells (IsSimple known simple) o → Tells (λ w. (1 ≤ count) × (count * v ≤ 64) × (w ≡ count * v)) r
      → ((u : ℕ) → 1 ≤ count → count * u ≤ 64 → IsSimple known simple u → Q (count * u))
      → ((w : ℕ) → Q w → (u : ℕ) × IsSimple known simple u × (1 ≤ count) × (count * u ≤ 64) × (w ≡ count * u))
      → Tells Q r
  repeat_tells Q count simple v o r is_v told repeated make parts =
      tells_too (λ w. (1 ≤ count) × (count * v ≤ 64) × (w ≡ count * v)) Q r repeated
      (λ w p. subst Q (sym p.2) (make v p.0 p.1 ((told v).0 is_v)))
      (λ w is.
      let p = parts w is in
      let e : p.0 ≡ v = some_is_one p.0 v (sym ((told p.0).1 p.1) ∙ is_v) in
      (p.2, subst (λ n. count * n ≤ 64) e p.3, p.4 ∙ ap (λ n. count * n) e))

  pub term_tells : (term : Term) (r : Option ℕ) → Tells (IsTerm known term) r → Tells (IsExpr known (One term)) r
  term_tells term r told =
      tells_too (IsTerm known term) (IsExpr known (One term)) r told (λ w is. IsExpr.one is) (one_parts known term)

  pub two_tell : (operator : Operator) (left right : Term) (v w : ℕ) (p q r : Option ℕ) → p ≡ Some v → q ≡ Some w
      → Tells (IsTerm known left) p → Tells (IsTerm known right) q → Tells (Makes operator v w) r
      → Tells (IsExpr known (Two operator left right)) r
  two_tell operator left right v w p q r is_v is_w tells_left tells_right made =
      tells_too (Makes operator v w) (IsExpr known (Two operator left right)) r made
      (λ u makes. IsExpr.two ((tells_left v).0 is_v) ((tells_right w).0 is_w) makes)
      (λ u is.
      let parts = two_parts known operator left right u is in
      let e : parts.0 ≡ v = some_is_one parts.0 v (sym ((tells_left parts.0).1 parts.2) ∙ is_v) in
      let f : parts.1 ≡ w = some_is_one parts.1 w (sym ((tells_right parts.1).1 parts.3) ∙ is_w) in
      subst (λ n. Makes operator n w u) e (subst (λ n. Makes operator parts.0 n u) f parts.4))

  -- an operand without a width leaves the expression without one
  pub untold : (Q : ℕ → Type 0) (term : Term) (p : Option ℕ) → p ≡ None → Tells (IsTerm known term) p
      → ((w : ℕ) → Q w → (u : ℕ) × IsTerm known term u) → Tells Q None
  untold Q term p is_none told part =
      none_tells Q (λ w is. let t = part w is in let e : None ≡ Some t.0 = sym is_none ∙ (told t.0).1 t.1 in absurd cc)

  pub choice_tells : (test first second : Term) (u v w : ℕ) (o p q r : Option ℕ) → o ≡ Some u → p ≡ Some v → q ≡ Some w
      → Tells (IsTerm known test) o → Tells (IsTerm known first) p → Tells (IsTerm known second) q
      → Tells (λ n. (u ≡ 1) × (v ≡ w) × (n ≡ v)) r → Tells (IsExpr known (Choose test first second)) r
  choice_tells test first second u v w o p q r is_u is_v is_w tells_test tells_first tells_second chosen =
      tells_too (λ n. (u ≡ 1) × (v ≡ w) × (n ≡ v)) (IsExpr known (Choose test first second)) r chosen
      (λ n same. IsExpr.choose (subst (IsTerm known test) same.0 ((tells_test u).0 is_u))
      (subst (IsTerm known first) (sym same.2) ((tells_first v).0 is_v))
      (subst (IsTerm known second) (sym (same.2 ∙ same.1)) ((tells_second w).0 is_w)))
      (λ n is.
      let parts = choose_parts known test first second n is in
      let e : 1 ≡ u = some_is_one 1 u (sym ((tells_test 1).1 parts.0) ∙ is_u) in
      let f : n ≡ v = some_is_one n v (sym ((tells_first n).1 parts.1) ∙ is_v) in
      let g : n ≡ w = some_is_one n w (sym ((tells_second n).1 parts.2) ∙ is_w) in
      (sym e, sym f ∙ g, f))

  -- ---- items together

  -- the items have these widths together; no items have none
  pub data Sum : List Item → ℕ → Type 0 where
    no_items : Sum [] 0
    more_items : {i : Item} {items : List Item} {width others : ℕ} → IsItem known i width → Sum items others
        → Sum (i ∷ items) (width + others)

  sum_of_items : (items : List Item) (w : ℕ) → AreItems known items w → Sum items w
  sum_of_items [] w are = elim are [ ]
  sum_of_items (i ∷ []) w (AreItems.one is) = subst (Sum (i ∷ [])) (add-zero w) (more_items is no_items)
  sum_of_items (i ∷ items) w (AreItems.more is are) = more_items is (sum_of_items items _ are)

  items_of_sum : (i : Item) (items : List Item) (w : ℕ) → Sum (i ∷ items) w → AreItems known (i ∷ items) w
  items_of_sum i [] w (more_items {width = width} is no_items) =
      subst (AreItems known (i ∷ [])) (sym (add-zero width)) (AreItems.one is)
  items_of_sum i (next ∷ items) w (more_items is sum) = AreItems.more is (items_of_sum next items _ sum)

  -- what the sum of the items so far leaves to those that follow
  abbrev pub Leaves : List Item → List Item → ℕ → Type 0
  Leaves items rest so_far = (w : ℕ) → Sum items w ↔ ((r : ℕ) × Sum rest r × (w ≡ so_far + r))

  first_of : (i : Item) (rest : List Item) (r : ℕ) → Sum (i ∷ rest) r
      → (v : ℕ) × (others : ℕ) × IsItem known i v × Sum rest others × (r ≡ v + others)
  first_of i rest r (more_items {width = v} {others = others} is sum) = (v, others, is, sum, refl)

  pub leaves_less : (items rest : List Item) (i : Item) (so_far v : ℕ) (o : Option ℕ) → o ≡ Some v → Tells (IsItem known i) o
      → Leaves items (i ∷ rest) so_far → Leaves items rest (so_far + v)
  leaves_less items rest i so_far v o is_v told leaves w = (
    (λ sum.
        let left = (leaves w).0 sum in
        let parts = first_of i rest left.0 left.1 in
        let e : parts.0 ≡ v = some_is_one parts.0 v (sym ((told parts.0).1 parts.2) ∙ is_v) in
        (parts.1, parts.3, omega (arith, left.2, parts.4, e))),
    (λ left.
        (leaves w).1 (v + left.0, more_items ((told v).0 is_v) left.1, omega (arith, left.2))),
  )

  pub untold_item : (items rest : List Item) (i : Item) (so_far : ℕ) (o : Option ℕ) → o ≡ None → Tells (IsItem known i) o
      → Leaves items (i ∷ rest) so_far → Tells (λ w. AreItems known items w × (w ≤ 64)) None
  untold_item items rest i so_far o is_none told leaves =
      none_tells (λ w. AreItems known items w × (w ≤ 64))
      (λ w is.
      let left = (leaves w).0 (sum_of_items items w is.0) in
      let parts = first_of i rest left.0 left.1 in
      let e : None ≡ Some parts.0 = sym is_none ∙ (told parts.0).1 parts.2 in
      absurd cc)

  pub too_wide : (items rest : List Item) (so_far : ℕ) → 64 < so_far → Leaves items rest so_far
      → Tells (λ w. AreItems known items w × (w ≤ 64)) None
  too_wide items rest so_far wide leaves =
      none_tells (λ w. AreItems known items w × (w ≤ 64))
      (λ w is. let left = (leaves w).0 (sum_of_items items w is.0) in absurd (omega (arith, left.2, is.1)))

  pub all_items_tell : (i : Item) (items : List Item) (so_far : ℕ) → so_far ≤ 64 → Leaves (i ∷ items) [] so_far
      → Tells (λ w. AreItems known (i ∷ items) w × (w ≤ 64)) (Some so_far)
  all_items_tell i items so_far narrow leaves w = (
    (λ e.
        let f : so_far ≡ w = some_is_one so_far w e in
        (items_of_sum i items w ((leaves w).1 (0, no_items, omega (arith, f))), omega (arith, f))),
    (λ is.
        let left = (leaves w).0 (sum_of_items (i ∷ items) w is.0) in
        ap Some (let e : left.0 ≡ 0 = nothing_left left.0 left.1 in let f : so_far ≡ w = omega (arith, e, left.2) in f)),
  )
    where
      nothing_left : (r : ℕ) → Sum [] r → r ≡ 0
      nothing_left r no_items = refl

  pub join_tells : (items : List Item) (r : Option ℕ) → Tells (λ w. AreItems known items w × (w ≤ 64)) r
      → Tells (IsTerm known (of_term.Join items)) r
  join_tells items r told =
      tells_too (λ w. AreItems known items w × (w ≤ 64)) (IsTerm known (of_term.Join items)) r told
      (λ w is. IsTerm.join is.0 is.1) (join_parts known items)

  -- by place in a list
  pub next_item : (items : List Item) (k : ℕ) (i : Item) → k < length items → i ≡ slice_index_or items k i
      → drop k items ≡ i ∷ drop (k + 1) items
  next_item items k i below is =
      drop-cons items k i below ∙ (λ t. (sym is) t ∷ drop (let e : suc k ≡ k + 1 = omega arith in e t) items)

  pub all_tell : (items : List Item) (k so_far : ℕ) → so_far ≤ 64 → length items ≤ k → false ≡ (length items == 0)
      → Leaves items (drop k items) so_far → Tells (λ w. AreItems known items w × (w ≤ 64)) (Some so_far)
  all_tell [] k so_far narrow past some leaves = absurd cc
  all_tell (i ∷ items) k so_far narrow past some leaves =
      all_items_tell i items so_far narrow
      (subst (λ rest. Leaves (i ∷ items) rest so_far) (drop_of_length-le (i ∷ items) past) leaves)
