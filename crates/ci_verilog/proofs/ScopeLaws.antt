-- What the evaluator holds while it goes through a module.
use Rattle.std.specs.Prelude.{◌≡◌, ℕ, zero, suc, ◌+◌, ◌*◌, ◌^◌, ◌<◌, ◌≤◌, List, [], ◌∷◌, map, length, drop}
use Rattle.std.specs.List.{slice_index_or}
use Rattle.std.proofs.Common.{sym, ap, ◌∙◌, subst, arith}
use Rattle.std.proofs.Math.ListN.{drop_of_length-le}
use Rattle.ci_verilog.specs.declared.vectors.Vector.{Vector}
use Rattle.ci_verilog.specs.declared.expressions.Simple.{Simple}
use Rattle.ci_verilog.specs.declared.expressions.Simple.TheVariants.{Bits}
use Rattle.ci_verilog.specs.declared.expressions.Item.{Item}
use Rattle.ci_verilog.specs.declared.expressions.Operator.{Operator}
use Rattle.ci_verilog.specs.declared.expressions.Expr.TheVariants.{Two}
use Rattle.ci_verilog.specs.declared.expressions.Term.{Term}
use Rattle.ci_verilog.specs.Modules.{WireList, vector, known_by, Makes, IsSimple, IsItem, AreItems, IsTerm, IsExpr}
use Rattle.ci_verilog.specs.Values.{above, joined, simple_bits, item_bits, term_bits}
use Rattle.ci_verilog.specs.private.Held.{InRange, Fits, Holds, IsHeld, SimpleFits, ItemsFit}
use Rattle.ci_verilog.proofs.VectorLaws.{above_assoc, above_nothing}
use Rattle.ci_verilog.proofs.WidthLaws.{bits_parts, two_parts, narrow_term, next_item}
use Rattle.ci_verilog.proofs.ExpressionLaws.{simple_fits, item_fits, items_fit, term_fits}

pub fits_in_range : (v : Vector) (w : ℕ) → Fits v w → InRange v
fits_in_range v w fits = subst (λ n. v.value < 2 ^ n) (sym fits.width_is) fits.in_range

module _ (arguments : List ℕ) (wires : WireList) (values : List ℕ) (held : IsHeld arguments wires values) where
  -- what is found is what these names stand for
  abbrev pub IsFound : Vector → ((List ℕ → Vector) → Vector) → Type 0
  IsFound v of = (names : List ℕ → Vector) → Holds names arguments wires values → v ≡ of names

  pub part_is_narrow : (name : List ℕ) (high low : ℕ) → SimpleFits wires (Bits name high low) → high < 64
  part_is_narrow name high low is =
      let parts = bits_parts (known_by wires) name high low is.0 is.1 in
      let e : parts.0 ≤ 64 = held.1.narrow (vector name parts.0) parts.1 in
      omega (arith, e, parts.2)

  pub simple_found : (s : Simple) (w : ℕ) (v : Vector) → IsSimple (known_by wires) s w → IsFound v (λ names. simple_bits names s) → Fits v w
  simple_found s w v is found =
      subst (λ u. Fits u w) (sym (found held.0 held.1)) (simple_fits (known_by wires) held.0 held.1.fit s w is)

  pub item_found : (i : Item) (w : ℕ) (v : Vector) → IsItem (known_by wires) i w → IsFound v (λ names. item_bits names i) → Fits v w
  item_found i w v is found =
      subst (λ u. Fits u w) (sym (found held.0 held.1)) (item_fits (known_by wires) held.0 held.1.fit i w is)

  pub term_found : (t : Term) (w : ℕ) (v : Vector) → IsTerm (known_by wires) t w → IsFound v (λ names. term_bits names t) → Fits v w
  term_found t w v is found =
      subst (λ u. Fits u w) (sym (found held.0 held.1)) (term_fits (known_by wires) held.0 held.1.fit t w is)

  pub item_at : (items : List Item) (w k : ℕ) (d : Item) → AreItems (known_by wires) items w → k < length items
      → (v : ℕ) × IsItem (known_by wires) (slice_index_or items k d) v
  item_at [] w k d are below = absurd (omega arith)
  item_at (i ∷ []) w zero d (AreItems.one is) below = (w, is)
  item_at (i ∷ []) w (suc k) d are below = absurd (omega arith)
  item_at (i ∷ items) w zero d (AreItems.more {width = v} is are) below = (v, is)
  item_at (i ∷ items) w (suc k) d (AreItems.more {others = others} is are) below = item_at items others k d are (omega arith)

  -- the vector above what the rest of the items stand for is what all of them stand for
  abbrev pub IsAbove : Vector → List Item → List Item → Type 0
  IsAbove v rest items =
      (names : List ℕ → Vector) → Holds names arguments wires values
      → above v (joined (map (item_bits names) rest)) ≡ joined (map (item_bits names) items)

  pub next_above : (bits v : Vector) (i : Item) (rest items : List Item) → IsFound v (λ names. item_bits names i)
      → IsAbove bits (i ∷ rest) items → IsAbove (above bits v) rest items
  next_above bits v i rest items found is names holds =
      sym (above_assoc bits v (joined (map (item_bits names) rest)))
      ∙ ap (λ u. above bits (above u (joined (map (item_bits names) rest)))) (found names holds) ∙ is names holds

  pub next_is_narrow : (bits v : Vector) (i : Item) (rest items : List Item) (w : ℕ) → IsFound v (λ names. item_bits names i)
      → IsAbove bits (i ∷ rest) items → AreItems (known_by wires) items w → w ≤ 64 → bits.width + v.width ≤ 64
  next_is_narrow bits v i rest items w found is are narrow =
      let all : (above bits (above (item_bits held.0 i) (joined (map (item_bits held.0) rest)))).width ≡ w =
      ap (λ u. u.width) (is held.0 held.1) ∙ (items_fit (known_by wires) held.0 held.1.fit items w are).width_is in
      let e : v.width ≡ (item_bits held.0 i).width = ap (λ u. u.width) (found held.0 held.1) in
      omega (arith, all, e)

  pub all_above : (bits : Vector) (items : List Item) (k : ℕ) → length items ≤ k → IsAbove bits (drop k items) items
      → IsFound bits (λ names. joined (map (item_bits names) items))
  all_above bits items k past is names holds =
      sym (above_nothing bits)
      ∙ ap (λ rest. above bits (joined (map (item_bits names) rest))) (sym (drop_of_length-le items past)) ∙ is names holds

  -- two operands of an operator that fit each other
  pub record AreOperands (operator : Operator) (left right : Vector) : Type 0 where
    pub widths : (width : ℕ) × Makes operator left.width right.width width
    pub narrow : left.width ≤ 64
    pub left_in_range : InRange left
    pub right_in_range : InRange right

  pub operands_found : (operator : Operator) (l r : Term) (w : ℕ) (left right : Vector)
      → IsExpr (known_by wires) (Two operator l r) w → IsFound left (λ names. term_bits names l)
      → IsFound right (λ names. term_bits names r) → AreOperands operator left right
  operands_found operator l r w left right is found_l found_r =
      let parts = two_parts (known_by wires) operator l r w is in
      let fits_l = term_found l parts.0 left parts.2 found_l in
      let fits_r = term_found r parts.1 right parts.3 found_r in
      record {
        widths = (
          w,
          subst (λ n. Makes operator n right.width w) (sym fits_l.width_is)
              (subst (λ n. Makes operator parts.0 n w) (sym fits_r.width_is) parts.4),
        );
        narrow =
            subst (λ n. n ≤ 64) (sym fits_l.width_is) (narrow_term (known_by wires) held.1.narrow l parts.0 parts.2);
        left_in_range = fits_in_range left parts.0 fits_l;
        right_in_range = fits_in_range right parts.1 fits_r;
      }

  -- copies of a simple that fit
  pub record AreCopies (count : ℕ) (v : Vector) : Type 0 where
    pub narrow : count * v.width ≤ 64
    pub in_range : InRange v

  pub copies_found : (count : ℕ) (s : Simple) (w : ℕ) (v : Vector)
      → (u : ℕ) × IsSimple (known_by wires) s u × (1 ≤ count) × (count * u ≤ 64) × (w ≡ count * u)
      → IsFound v (λ names. simple_bits names s) → AreCopies count v
  copies_found count s w v parts found =
      let fits = simple_found s parts.0 v parts.1 found in
      record {
        narrow = subst (λ n. count * n ≤ 64) (sym fits.width_is) parts.3;
        in_range = fits_in_range v parts.0 fits;
      }

  -- the item of this number, above the rest of the items
  pub record IsNextItem (items : List Item) (k : ℕ) (item : Item) (bits v : Vector) : Type 0 where
    pub narrow : bits.width + v.width ≤ 64
    pub in_range : InRange v
    pub is_above : IsAbove (above bits v) (drop (k + 1) items) items

  pub next_found : (items : List Item) (k : ℕ) (item : Item) (bits v : Vector) → ItemsFit wires items → k < length items
      → item ≡ slice_index_or items k item → IsAbove bits (drop k items) items
      → IsFound v (λ names. item_bits names item) → IsNextItem items k item bits v
  next_found items k item bits v fits below is is_above found =
      let next = next_item (known_by wires) items k item below is in
      let here = subst (λ rest. IsAbove bits rest items) next is_above in
      let at = item_at items fits.0 k item fits.2 below in
      record {
        narrow = next_is_narrow bits v item (drop (k + 1) items) items fits.0 found here fits.2 fits.1;
        in_range =
            fits_in_range v at.0
            (item_found item at.0 v (subst (λ i. IsItem (known_by wires) i at.0) (sym is) at.1) found);
        is_above = next_above bits v item (drop (k + 1) items) items found here;
      }
