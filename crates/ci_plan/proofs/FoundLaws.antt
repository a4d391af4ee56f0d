-- Vectors that stand at places: constants, parts, copies and joins.
use Rattle.std.specs.Prelude.{◌≡◌, ℕ, suc, ◌+◌, ◌*◌, ◌/◌, ◌%◌, ◌^◌, ◌<◌, ◌≤◌, List, [], ◌∷◌, ◌++◌, length, map, take, replicate, slice_index, Option, None, Some, IfSome}
use Rattle.std.specs.List.{slice_index_or}
use Rattle.std.proofs.Math.Seq.{take-suc}
use Rattle.std.proofs.lemmas.List.{map-append}
use Rattle.std.proofs.Common.{refl, sym, ap, ◌∙◌, subst, arith}
use Rattle.std.proofs.Math.Nat.{mod-eq_of_lt}
use Rattle.std.proofs.lemmas.Nat.{mod_below, pow_pos}
use Rattle.ci_verilog.specs.declared.vectors.Vector.{Vector}
use Rattle.ci_verilog.specs.declared.expressions.Expr.TheVariants.{Two, Choose}
use Rattle.ci_verilog.specs.declared.expressions.Item.{Item}
use Rattle.ci_verilog.specs.declared.expressions.Operator.{Operator}
use Rattle.ci_verilog.specs.declared.expressions.Operator.TheVariants as operator
use Rattle.ci_verilog.specs.declared.expressions.Term.{Term}
use Rattle.ci_verilog.specs.Modules.{Module}
use Rattle.ci_verilog.specs.Values.{of_width, above, joined, item_bits, operated, term_bits, expr_value}
use Rattle.ci_verilog.specs.private.Held.{Fits}
use Rattle.ci_verilog.proofs.VectorLaws.{above_assoc, above_nothing, nothing_above, above_in_range, copies_are_wide, copies_in_range}
use Rattle.ci_plan.specs.declared.steps.Step.{Step}
use Rattle.ci_plan.specs.declared.steps.Step.TheVariants as step
use Rattle.ci_plan.specs.private.Factors.{factor}
use Rattle.ci_plan.specs.private.Operators.{step_of, AgreeFor, widened_bits}
use Rattle.ci_plan.specs.private.Steps.{step_value, words_after}
use Rattle.ci_plan.specs.private.Drafts.{Draft, IsDraft, Grows, HasNumber, MakesAs, IsAdded, Stands, StandsFor}
use Rattle.ci_plan.proofs.StepLaws.{operator_steps, choice_step, copies_step, signed_step, signed_product_step, join_step}
use Rattle.ci_plan.proofs.DraftLaws.{grows_on, run_before, stands_as, number_stands, added_stands, stands_for_later, is_at}

-- the bits of a vector from a low one on
abbrev pub bits_of : ℕ → ℕ → Vector → Vector
bits_of low width v = of_width width (v.value / 2 ^ low % 2 ^ width)

-- two things that are said of the value, if there is one
pub if_both : {X : Type 0} (r : Option X) {P Q R : X → Type 0} → IfSome r P → IfSome r Q → ((x : X) → P x → Q x → R x)
    → IfSome r R
if_both None p q both = tt
if_both (Some x) p q both = both x p q

pub joined_push : (vectors : List Vector) (v : Vector) → joined (vectors ++ v ∷ []) ≡ above (joined vectors) v
joined_push [] v = above_nothing v ∙ sym (nothing_above v)
joined_push (u ∷ vectors) v = ap (above u) (joined_push vectors v) ∙ above_assoc u (joined vectors) v

pub items_push : (names : List ℕ → Vector) (items : List Item) (k : ℕ) (item : Item) → k < length items
    → item ≡ slice_index_or items k item
    → joined (map (item_bits names) (take (k + 1) items)) ≡ above (joined (map (item_bits names) (take k items))) (item_bits names item)
items_push names items k item below is =
    let more : take (k + 1) items ≡ take k items ++ item ∷ [] =
    ap (λ n. take n items) (let e : k + 1 ≡ suc k = omega arith in e) ∙ take-suc items k item below ∙ ap (λ i. take k items ++ i ∷ []) (sym is) in
    ap (λ all. joined (map (item_bits names) all)) more
    ∙ ap joined (map-append (item_bits names) (take k items) (item ∷ []))
    ∙ joined_push (map (item_bits names) (take k items)) (item_bits names item)

pub constant_below : (width n low : ℕ) → low ≡ n % 2 ^ width → low ≡ n → n < 2 ^ width
constant_below width n low is same = subst (λ k. k < 2 ^ width) (sym is ∙ same) (mod_below n (2 ^ width) (pow_pos width))

copies_fit : (count width : ℕ) (v : Vector) → Fits v width → Fits (joined (replicate count v)) (count * width)
copies_fit count width v fits =
    let wide : (joined (replicate count v)).width ≡ count * width = copies_are_wide count v ∙ ap (λ n. count * n) fits.width_is in
    record {
      width_is = wide;
      in_range =
          subst (λ n. (joined (replicate count v)).value < 2 ^ n) wide
          (copies_in_range count v (subst (λ n. v.value < 2 ^ n) (sym fits.width_is) fits.in_range));
    }

above_fits : (u v : Vector) (first second : ℕ) → Fits u first → Fits v second → Fits (above u v) (first + second)
above_fits u v first second high low =
    let wide : u.width + v.width ≡ first + second = let e = high.width_is in let f = low.width_is in omega (arith, e, f) in
    record {
      width_is = wide;
      in_range =
          subst (λ n. (above u v).value < 2 ^ n) wide
          (above_in_range u v (subst (λ n. u.value < 2 ^ n) (sym high.width_is) high.in_range)
          (subst (λ n. v.value < 2 ^ n) (sym low.width_is) low.in_range));
    }

part_fits : (low width : ℕ) (v : Vector) → Fits (bits_of low width v) width
part_fits low width v = record { width_is = refl; in_range = mod_below (v.value / 2 ^ low) (2 ^ width) (pow_pos width) }

module _ (m : Module) where
  -- a constant
  pub constant_found : (draft : Draft) (place width n : ℕ) → IsDraft draft → HasNumber draft place n → width ≤ 64 → n < 2 ^ width
      → StandsFor m draft place width (λ names. of_width width n)
  constant_found draft place width n is number narrow below = record {
    stands = number_stands m draft place n is number;
    narrow = narrow;
    fit = λ run. record { width_is = refl; in_range = below };
  }

  -- all bits of a vector
  pub whole_found : (draft : Draft) (place width low : ℕ) (bits : (List ℕ → Vector) → Vector) → StandsFor m draft place width bits
      → low ≡ 0 → StandsFor m draft place width (λ names. bits_of low width (bits names))
  whole_found draft place width low bits found lowest = record {
    stands =
        stands_as m draft place (λ names. (bits names).value) (λ names. (bits names).value / 2 ^ low % 2 ^ width) found.stands
        (λ run. same (bits run.names).value (found.fit run).in_range);
    narrow = found.narrow;
    fit = λ run. part_fits low width (bits run.names);
  }
    where
      same : (n : ℕ) → n < 2 ^ width → n ≡ n / 2 ^ low % 2 ^ width
      same n below =
          subst (λ k. n ≡ n / 2 ^ k % 2 ^ width) (sym lowest)
          (let e : n / 2 ^ 0 ≡ n = omega arith in sym (ap (λ k. k % 2 ^ width) e ∙ mod-eq_of_lt below))

  -- some bits of a vector
  pub part_found : (old new : Draft) (from from_width place low width : ℕ) (bits : (List ℕ → Vector) → Vector) → width ≤ 64
      → Grows old new → IsAdded old new place (step.Part from low width) → StandsFor m old from from_width bits
      → StandsFor m new place width (λ names. bits_of low width (bits names))
  part_found old new from from_width place low width bits narrow grows added found = record {
    stands =
        added_stands m old new place (step.Part from low width) (λ names. (bits names).value / 2 ^ low % 2 ^ width) added grows
        (λ run. ap (λ n. n / 2 ^ low % 2 ^ width) (found.stands.is run));
    narrow = narrow;
    fit = λ run. part_fits low width (bits run.names);
  }

  -- some bits of a number are a number
  pub number_part_found : (old new : Draft) (from from_width place width low part_width n part : ℕ) (bits : (List ℕ → Vector) → Vector)
      → IsDraft old → Grows old new → HasNumber old from n → part ≡ n / 2 ^ low % 2 ^ part_width
      → StandsFor m new place width (λ names. of_width part_width part)
      → StandsFor m old from from_width bits
      → StandsFor m new place width (λ names. bits_of low part_width (bits names))
  number_part_found old new from from_width place width low part_width n part bits is grows number part_is constant found = record {
    stands =
        stands_as m new place (λ names. part) (λ names. (bits names).value / 2 ^ low % 2 ^ part_width) constant.stands
        (λ run.
        let before = run_before m old new grows run in
        part_is
        ∙ ap (λ k. k / 2 ^ low % 2 ^ part_width)
        (sym ((number_stands m old from n is number).is before) ∙ found.stands.is before));
    narrow = constant.narrow;
    fit = λ run.
        subst (λ w. Fits (bits_of low part_width (bits run.names)) w) (constant.fit run).width_is
        (part_fits low part_width (bits run.names));
  }

  -- copies
  pub copies_found : (old middle new : Draft) (from width number place count : ℕ) (bits : (List ℕ → Vector) → Vector)
      → Grows old middle → HasNumber middle number (factor count width % 2 ^ 64) → Grows middle new
      → IsAdded middle new place (step.Times from number 64) → count * width ≤ 64
      → StandsFor m old from width bits
      → StandsFor m new place (count * width) (λ names. joined (replicate count (bits names)))
  copies_found old middle new from width number place count bits grows has more added narrow found =
      let later = stands_for_later m old middle from width bits grows found in
      record {
        stands =
            added_stands m middle new place (step.Times from number 64) (λ names. (joined (replicate count (bits names))).value) added more
            (λ run.
            let fits = later.fit run in
            let is_factor : slice_index (words_after run.words 5 middle.steps) number ≡ factor count (bits run.names).width % 2 ^ 64 =
            (number_stands m middle number (factor count width % 2 ^ 64) grows.is_draft has).is run
            ∙ ap (λ w. factor count w % 2 ^ 64) (sym fits.width_is) in
            copies_step (words_after run.words 5 middle.steps) (bits run.names) from number count (is_at m middle from width bits later run)
            is_factor (subst (λ w. count * w ≤ 64) (sym fits.width_is) narrow));
        narrow = narrow;
        fit = λ run. copies_fit count width (bits run.names) (found.fit (run_before m old new (grows_on old middle new grows more) run));
      }

  -- a vector of 32 bits, widened by its sign
  pub signed_found : (old new : Draft) (from place : ℕ) (bits : (List ℕ → Vector) → Vector) → Grows old new
      → IsAdded old new place (step.Signed from) → StandsFor m old from 32 bits
      → StandsFor m new place 64 (λ names. widened_bits (bits names))
  signed_found old new from place bits grows added found = record {
    stands =
        added_stands m old new place (step.Signed from)
        (λ names. (widened_bits (bits names)).value) added grows
        (λ run.
        signed_step (words_after run.words 5 old.steps) (bits run.names) from (is_at m old from 32 bits found run)
        (found.fit run).width_is);
    narrow = omega arith;
    fit = λ run.
        let v = bits run.names in
        above_fits (joined (replicate 32 (bits_of 31 1 v))) v 32 32 (copies_fit 32 1 (bits_of 31 1 v) (part_fits 31 1 v))
        (found.fit (run_before m old new grows run));
  }

  -- the product of two vectors of 32 bits, each widened by its sign
  pub signed_product_stands : (old new : Draft) (l r place : ℕ) (u v : (List ℕ → Vector) → Vector) → Grows old new
      → IsAdded old new place (step.SignedTimes l r) → StandsFor m old l 32 u → StandsFor m old r 32 v
      → Stands m new place (λ names. operated operator.Times (widened_bits (u names)) (widened_bits (v names)))
  signed_product_stands old new l r place u v grows added found_u found_v =
      added_stands m old new place (step.SignedTimes l r)
      (λ names. operated operator.Times (widened_bits (u names)) (widened_bits (v names))) added grows
      (λ run.
      signed_product_step (words_after run.words 5 old.steps) (u run.names) (v run.names) l r (is_at m old l 32 u found_u run)
      (is_at m old r 32 v found_v run) (found_u.fit run).width_is (found_v.fit run).width_is)

  -- one vector above another
  pub join_found : (old new : Draft) (high low place first second : ℕ) (u v : (List ℕ → Vector) → Vector) → Grows old new
      → IsAdded old new place (step.Above high low second) → first + second ≤ 64
      → StandsFor m old high first u → StandsFor m old low second v
      → StandsFor m new place (first + second) (λ names. above (u names) (v names))
  join_found old new high low place first second u v grows added narrow found_u found_v = record {
    stands =
        added_stands m old new place (step.Above high low second) (λ names. (above (u names) (v names)).value) added grows
        (λ run.
        let words = words_after run.words 5 old.steps in
        let same = (found_v.fit run).width_is in
        let wide : (u run.names).width + (v run.names).width ≤ 64 = let e = (found_u.fit run).width_is in omega (arith, narrow, e, same) in
        subst (λ w. step_value words (step.Above high low w) ≡ (above (u run.names) (v run.names)).value) same
        (join_step words (u run.names) (v run.names) high low (is_at m old high first u found_u run)
        (is_at m old low second v found_v run) wide));
    narrow = narrow;
    fit = λ run.
        let before = run_before m old new grows run in
        above_fits (u run.names) (v run.names) first second (found_u.fit before) (found_v.fit before);
  }

  -- zeros above a vector: the same word
  pub zeros_found : (draft : Draft) (high low first second : ℕ) (u v : (List ℕ → Vector) → Vector) → IsDraft draft
      → HasNumber draft high 0 → first + second ≤ 64
      → StandsFor m draft high first u → StandsFor m draft low second v
      → StandsFor m draft low (first + second) (λ names. above (u names) (v names))
  zeros_found draft high low first second u v is zeros narrow found_u found_v = record {
    stands =
        stands_as m draft low (λ names. (v names).value) (λ names. (above (u names) (v names)).value) found_v.stands
        (λ run. lowest (u run.names).value (v run.names) (sym ((number_stands m draft high 0 is zeros).is run) ∙ found_u.stands.is run));
    narrow = narrow;
    fit = λ run. above_fits (u run.names) (v run.names) first second (found_u.fit run) (found_v.fit run);
  }
    where
      lowest : (n : ℕ) (w : Vector) → 0 ≡ n → w.value ≡ n * 2 ^ w.width + w.value
      lowest n w none = subst (λ k. w.value ≡ k * 2 ^ w.width + w.value) none (let e : 0 * 2 ^ w.width ≡ 0 = omega arith in omega (arith, e))

  -- an operator on two operands
  pub two_stand : (old new : Draft) (done : Step) (o : Operator) (left right : Term) (l r place first second : ℕ) → IsDraft old
      → Grows old new → IsAdded old new place done → MakesAs old (step_of o l r first) done → AgreeFor o first second
      → StandsFor m old l first (λ names. term_bits names left) → StandsFor m old r second (λ names. term_bits names right)
      → Stands m new place (λ names. expr_value names (Two o left right))
  two_stand old new done o left right l r place first second is grows added makes agree found_l found_r =
      added_stands m old new place done (λ names. expr_value names (Two o left right)) added grows
      (λ run.
      let u = term_bits run.names left in
      let v = term_bits run.names right in
      let words = words_after run.words 5 old.steps in
      let fits_u = found_l.fit run in
      makes.same words (λ p n has. (number_stands m old p n is has).is run)
      ∙ subst (λ w. step_value words (step_of o l r w) ≡ expr_value run.names (Two o left right)) fits_u.width_is
      (operator_steps words u v l r (is_at m old l first (λ names. term_bits names left) found_l run)
      (is_at m old r second (λ names. term_bits names right) found_r run) o
      (subst (λ w. AgreeFor o w v.width) (sym fits_u.width_is)
      (subst (λ w. AgreeFor o first w) (sym (found_r.fit run).width_is) agree))))

  -- a choice
  pub choice_stands : (old new : Draft) (test first second : Term) (t f s place w_t w_f w_s : ℕ) → Grows old new
      → IsAdded old new place (step.Choose t f s)
      → StandsFor m old t w_t (λ names. term_bits names test) → StandsFor m old f w_f (λ names. term_bits names first)
      → StandsFor m old s w_s (λ names. term_bits names second)
      → Stands m new place (λ names. expr_value names (Choose test first second))
  choice_stands old new test first second t f s place w_t w_f w_s grows added found_t found_f found_s =
      added_stands m old new place (step.Choose t f s) (λ names. expr_value names (Choose test first second)) added grows
      (λ run.
      choice_step (words_after run.words 5 old.steps) (term_bits run.names test) (term_bits run.names first)
      (term_bits run.names second) t f s (is_at m old t w_t (λ names. term_bits names test) found_t run)
      (is_at m old f w_f (λ names. term_bits names first) found_f run)
      (is_at m old s w_s (λ names. term_bits names second) found_s run))
