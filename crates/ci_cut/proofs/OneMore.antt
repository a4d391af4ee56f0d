-- What is counted and summed, where a test passes one number more, or one source more.
use Rattle.std.proofs.Common.{◌≡◌, ◌≢◌, ℕ, zero, suc, ◌+◌, ◌<◌, ◌≤◌, Bool, true, false, cond, inl, inr, length, refl, sym, ap, ◌∙◌, arith}
use mir.Val.{bool_byte}
use Rattle.std.proofs.lemmas.Bool.{cases_eq}
use Rattle.ci_word.specs.Numbers.{count_below, sum_below}
use Rattle.ci_word.proofs.NumberLaws.{count_below-zero, count_below-suc, count_below-same, count_below-le, sum_below-zero, sum_below-suc, sum_below-same}
use Rattle.ci_cut.specs.declared.graph.Source.{Source}
use Rattle.ci_cut.specs.declared.graph.Source.TheVariants.{Entry, Made}
use Rattle.ci_cut.specs.FlowGraph.{FlowGraph}
use Rattle.ci_cut.specs.Ports.{count_sources}

-- what a test counts
pub bool_byte-is : (b : Bool) → bool_byte b ≡ cond b 1 0
bool_byte-is true = refl
bool_byte-is false = refl

pub bool_byte-le : (b : Bool) → bool_byte b ≤ 1
bool_byte-le true = omega arith
bool_byte-le false = omega arith

-- a count is a sum of ones
count_is_sum : (n : ℕ) (p : ℕ → Bool) → count_below n p ≡ sum_below n p (λ _. 1)
count_is_sum zero p = count_below-zero p ∙ sym (sum_below-zero p (λ _. 1))
count_is_sum (suc n) p =
    count_below-suc n p ∙ ap (λ m. m + cond (p n) 1 0) (count_is_sum n p) ∙ sym (sum_below-suc n p (λ _. 1))

module _ (p q : ℕ → Bool) (m : ℕ) (out : p m ≡ false) (in_ : q m ≡ true) (others : (k : ℕ) → k ≢ m → q k ≡ p k) where
  pub sum_one_more : (n : ℕ) (f : ℕ → ℕ) → m < n → sum_below n q f ≡ sum_below n p f + f m
  sum_one_more zero f below = absurd (omega arith)
  sum_one_more (suc n) f below = elim (cases_eq n m) [
    | inl same ↦
        let before = sum_below-same n q p f f (λ k less. others k (λ (e : k ≡ m). omega arith)) (λ k less here. refl) in
        omega (
          arith,
          before,
          sum_below-suc n q f ∙ ap (λ b. sum_below n q f + cond b (f n) 0) (ap q same ∙ in_),
          sum_below-suc n p f ∙ ap (λ b. sum_below n p f + cond b (f n) 0) (ap p same ∙ out),
          ap f same,
        )
    | inr other ↦
        let differs : n ≢ m = other in
        omega (
          arith,
          sum_one_more n f (omega arith),
          sum_below-suc n q f ∙ ap (λ b. sum_below n q f + cond b (f n) 0) (others n differs),
          sum_below-suc n p f,
        )
  ]

  pub count_one_more : (n : ℕ) → m < n → count_below n q ≡ suc (count_below n p)
  count_one_more n below = omega (arith, count_is_sum n q, count_is_sum n p, sum_one_more n (λ _. 1) below)

-- the source has a place among those that are counted
abbrev pub IsCounted : FlowGraph → Source → Type 0
IsCounted graph (Entry r) = r < 256
IsCounted graph (Made k) = k < length graph.nodes

-- a source more passes
pub sources_one_more : (graph : FlowGraph) (f g : Source → Bool) (source : Source) → IsCounted graph source
    → f source ≡ false → g source ≡ true → ((other : Source) → other ≢ source → g other ≡ f other)
    → count_sources graph g ≡ count_sources graph f + 1
sources_one_more graph f g (Entry r) within out in_ others =
    omega (
      arith,
      count_one_more (λ i. f (Entry i)) (λ i. g (Entry i)) r out in_ (λ k other. others (Entry k) (λ same. other (entry_of same))) 256 within,
      count_below-same (length graph.nodes) (λ i. g (Made i)) (λ i. f (Made i)) (λ k _. others (Made k) (λ same. cc)),
    )
  where
    entry_of : {i j : ℕ} → Entry i ≡ Entry j → i ≡ j
    entry_of same = cc
sources_one_more graph f g (Made m) within out in_ others =
    omega (
      arith,
      count_one_more (λ i. f (Made i)) (λ i. g (Made i)) m out in_ (λ k other. others (Made k) (λ same. other (made_of same))) (length graph.nodes) within,
      count_below-same 256 (λ i. g (Entry i)) (λ i. f (Entry i)) (λ k _. others (Entry k) (λ same. cc)),
    )
  where
    made_of : {i j : ℕ} → Made i ≡ Made j → i ≡ j
    made_of same = cc

-- no source more, or fewer
pub sources_same : (graph : FlowGraph) (f g : Source → Bool) → ((other : Source) → g other ≡ f other)
    → count_sources graph g ≡ count_sources graph f
sources_same graph f g same =
    λ i. count_below-same 256 (λ r. g (Entry r)) (λ r. f (Entry r)) (λ r _. same (Entry r)) i
    + count_below-same (length graph.nodes) (λ k. g (Made k)) (λ k. f (Made k)) (λ k _. same (Made k)) i

-- the sources are at most 512
pub count_sources-few : (graph : FlowGraph) (f : Source → Bool) → length graph.nodes ≤ 256 → count_sources graph f ≤ 512
count_sources-few graph f few =
    omega (arith, count_below-le 256 (λ r. f (Entry r)), count_below-le (length graph.nodes) (λ k. f (Made k)))
