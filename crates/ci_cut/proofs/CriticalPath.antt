-- Chains of members of a set of nodes: none has more than the maximum delay, and some chain has it.
use Rattle.std.proofs.Common.{◌≡◌, ℕ, zero, suc, ◌<◌, ◌≤◌, max, Bool, true, false, cond, ◌&&◌, List, [], ◌∷◌, ◌++◌}
use Rattle.std.proofs.Common.{length, map, filter, IsTrue, ◌⊎◌, refl, sym, ap, ◌∙◌, subst, inl, inr, arith}
use Rattle.std.proofs.lemmas.Bool.{and_parts, and_from, cases_Bool, cases_eq, cases_lt}
use Rattle.ci_cut.specs.declared.graph.Source.TheVariants.{Made}
use Rattle.ci_cut.specs.FlowGraph.{FlowGraph, reads}
use Rattle.ci_cut.specs.GraphRules.{IsFlowGraph}
use Rattle.ci_cut.specs.Hardware.{descending_lists, is_chain, delay_along, maximum, critical_path_delay}

-- ---- the maximum value of a function on the elements that pass a test

abbrev pub maximum_of : {X : Type 0} → (X → Bool) → (X → ℕ) → List X → ℕ
maximum_of p f xs = maximum (map f (filter p xs))

-- one element more
maximum_of-cons : {X : Type 0} (b : Bool) (f : X → ℕ) (x : X) (xs : List X)
    → maximum (map f (cond b (x ∷ xs) xs)) ≡ max (cond b (f x) 0) (maximum (map f xs))
maximum_of-cons true f x xs = refl
maximum_of-cons false f x xs = omega arith

maximum_of-append : {X : Type 0} (p : X → Bool) (f : X → ℕ) (xs ys : List X) → maximum_of p f (xs ++ ys) ≡ max (maximum_of p f xs) (maximum_of p f ys)
maximum_of-append p f [] ys = omega arith
maximum_of-append p f (x ∷ xs) ys =
    omega (arith, maximum_of-cons (p x) f x (filter p (xs ++ ys)), maximum_of-cons (p x) f x (filter p xs), maximum_of-append p f xs ys)

maximum_of-map : {X Y : Type 0} (p : Y → Bool) (f : Y → ℕ) (g : X → Y) (xs : List X)
    → maximum_of p f (map g xs) ≡ maximum_of (λ x. p (g x)) (λ x. f (g x)) xs
maximum_of-map p f g [] = refl
maximum_of-map p f g (x ∷ xs) =
    maximum_of-cons (p (g x)) f (g x) (filter p (map g xs))
    ∙ ap (max (cond (p (g x)) (f (g x)) 0)) (maximum_of-map p f g xs)
    ∙ sym (maximum_of-cons (p (g x)) (λ y. f (g y)) x (filter (λ y. p (g y)) xs))

-- where the greater of two numbers comes from, if the first counts where b holds
max_from : (b : Bool) (m n : ℕ) → (max (cond b m 0) n ≡ n) ⊎ ((b ≡ true) × (max (cond b m 0) n ≡ m))
max_from true m n = elim (cases_lt m n) [ inl h ↦ inl (omega arith) | inr h ↦ inr (refl, omega arith) ]
max_from false m n = inl (omega arith)

-- the maximum value is that of some element that passes, if one that passes has value 0
maximum_of-reached : {X : Type 0} (p : X → Bool) (f : X → ℕ) (least : X) → IsTrue (p least) → f least ≡ 0
    → (xs : List X) → (x : X) × IsTrue (p x) × (f x ≡ maximum_of p f xs)
maximum_of-reached p f least passes none [] = (least, passes, none)
maximum_of-reached p f least passes none (x ∷ xs) =
    let step = maximum_of-cons (p x) f x (filter p xs) in
    let before = maximum_of-reached p f least passes none xs in
    elim (max_from (p x) (f x) (maximum_of p f xs)) [
      | inl same ↦ (before.0, before.1, before.2 ∙ sym (step ∙ same))
      | inr (px, same) ↦ (x, px, sym (step ∙ same))
    ]

-- a test that lets more pass gives no less
maximum_of-mono : {X : Type 0} (p q : X → Bool) (f : X → ℕ) → ((x : X) → IsTrue (p x) → IsTrue (q x)) → (xs : List X) → maximum_of p f xs ≤ maximum_of q f xs
maximum_of-mono p q f more [] = omega arith
maximum_of-mono p q f more (x ∷ xs) =
    let step_p = maximum_of-cons (p x) f x (filter p xs) in
    let step_q = maximum_of-cons (q x) f x (filter q xs) in
    let before = maximum_of-mono p q f more xs in
    elim (cases_Bool (p x)) [
      | inl passes ↦ omega (arith, ap (λ b. cond b (f x) 0) passes, ap (λ b. cond b (f x) 0) (more x passes))
      | inr fails ↦ omega (arith, ap (λ b. cond b (f x) 0) fails)
    ]

-- ---- lists of descending numbers

-- each number is below the one before it, and the first is below n
abbrev pub IsDescendingBelow : ℕ → List ℕ → Type 0
IsDescendingBelow n [] = Unit {0}
IsDescendingBelow n (a ∷ rest) = (a < n) × IsDescendingBelow a rest

maximum_of-descending_lists-suc : (p : List ℕ → Bool) (f : List ℕ → ℕ) (n : ℕ)
    → maximum_of p f (descending_lists (suc n)) ≡ max (maximum_of p f (descending_lists n))
    (maximum_of (λ xs. p (n ∷ xs)) (λ xs. f (n ∷ xs)) (descending_lists n))
unfolding descending_lists
maximum_of-descending_lists-suc p f n =
    maximum_of-append p f (descending_lists n) (map (λ xs. n ∷ xs) (descending_lists n))
    ∙ ap (max (maximum_of p f (descending_lists n))) (maximum_of-map p f (λ xs. n ∷ xs) (descending_lists n))

-- a descending list that passes has at most the maximum value
descending_at_most : (n : ℕ) (p : List ℕ → Bool) (f : List ℕ → ℕ) (xs : List ℕ) → IsDescendingBelow n xs
    → IsTrue (p xs) → f xs ≤ maximum_of p f (descending_lists n)
unfolding descending_lists
descending_at_most zero p f [] descends passes = omega (arith, maximum_of-cons (p []) f [] [], ap (λ b. cond b (f []) 0) passes)
descending_at_most zero p f (a ∷ rest) descends passes = absurd (omega arith)
descending_at_most (suc n) p f [] descends passes = omega (arith, maximum_of-descending_lists-suc p f n, descending_at_most n p f [] tt passes)
descending_at_most (suc n) p f (a ∷ rest) descends passes =
    let step = maximum_of-descending_lists-suc p f n in
    elim (cases_eq a n) [
      | inl same ↦
          let bound = descending_at_most n (λ xs. p (n ∷ xs)) (λ xs. f (n ∷ xs)) rest
          (subst (λ k. IsDescendingBelow k rest) same descends.1)
          (subst (λ k. IsTrue (p (k ∷ rest))) same passes) in
          omega (arith, ap (λ k. f (k ∷ rest)) same)
      | inr differ ↦
          let below : a < n = omega arith in
          let bound = descending_at_most n p f (a ∷ rest) (below, descends.1) passes in
          omega arith
    ]

-- ---- chains

-- a longer chain: its first node reads the second
pub chain_onward : (graph : FlowGraph) (cut : ℕ → Bool) (k m : ℕ) (rest : List ℕ) → IsTrue (cut k)
    → IsTrue (reads graph k (Made m)) → IsTrue (is_chain graph cut (m ∷ rest))
    → IsTrue (is_chain graph cut (k ∷ m ∷ rest))
chain_onward graph cut k m rest member reading onward =
    and_from (cut k && reads graph k (Made m)) (is_chain graph cut (m ∷ rest)) (and_from (cut k) (reads graph k (Made m)) member reading) onward

-- what a chain of two nodes and more consists of
pub chain_parts : (graph : FlowGraph) (cut : ℕ → Bool) (k m : ℕ) (rest : List ℕ)
    → IsTrue (is_chain graph cut (k ∷ m ∷ rest))
    → IsTrue (reads graph k (Made m)) × IsTrue (is_chain graph cut (m ∷ rest))
chain_parts graph cut k m rest is_one =
    let parts = and_parts (cut k && reads graph k (Made m)) (is_chain graph cut (m ∷ rest)) is_one in
    ((and_parts (cut k) (reads graph k (Made m)) parts.0).1, parts.1)

-- In a chain the numbers descend, since a node reads earlier nodes alone.
chain_descends : (graph : FlowGraph) (cut : ℕ → Bool) → IsFlowGraph graph → (chain : List ℕ) (a n : ℕ) → a < n
    → IsTrue (is_chain graph cut (a ∷ chain)) → IsDescendingBelow n (a ∷ chain)
chain_descends graph cut kept [] a n below is_one = (below, tt)
chain_descends graph cut kept (b ∷ chain) a n below is_one =
    let parts = chain_parts graph cut a b chain is_one in
    (below, chain_descends graph cut kept chain b a (kept.sources_rise b a parts.0) parts.1)

-- the first node of a chain is a member
pub chain_first : (graph : FlowGraph) (cut : ℕ → Bool) (a : ℕ) (chain : List ℕ) → IsTrue (is_chain graph cut (a ∷ chain)) → IsTrue (cut a)
chain_first graph cut a [] is_one = is_one
chain_first graph cut a (b ∷ chain) is_one =
    let parts = and_parts (cut a && reads graph a (Made b)) (is_chain graph cut (b ∷ chain)) is_one in
    (and_parts (cut a) (reads graph a (Made b)) parts.0).0

-- no chain of members of a set of nodes has more than the maximum delay
pub delay_along-le : (graph : FlowGraph) (cut : ℕ → Bool) → IsFlowGraph graph
    → ((k : ℕ) → IsTrue (cut k) → k < length graph.nodes) → (chain : List ℕ) → IsTrue (is_chain graph cut chain)
    → delay_along graph chain ≤ critical_path_delay graph cut
delay_along-le graph cut kept are_nodes [] is_one = descending_at_most (length graph.nodes) (is_chain graph cut) (delay_along graph) [] tt is_one
delay_along-le graph cut kept are_nodes (a ∷ chain) is_one =
    descending_at_most (length graph.nodes) (is_chain graph cut) (delay_along graph) (a ∷ chain)
    (chain_descends graph cut kept chain a (length graph.nodes) (are_nodes a (chain_first graph cut a chain is_one)) is_one)
    is_one

-- some chain has the maximum delay
pub critical_path_delay-reached : (graph : FlowGraph) (cut : ℕ → Bool)
    → (chain : List ℕ) × IsTrue (is_chain graph cut chain)
    × (delay_along graph chain ≡ critical_path_delay graph cut)
critical_path_delay-reached graph cut = maximum_of-reached (is_chain graph cut) (delay_along graph) [] refl refl (descending_lists (length graph.nodes))

-- a chain of members is one of a greater set's members
is_chain-more : (graph : FlowGraph) (cut other : ℕ → Bool) → ((k : ℕ) → IsTrue (cut k) → IsTrue (other k))
    → (chain : List ℕ) → IsTrue (is_chain graph cut chain) → IsTrue (is_chain graph other chain)
is_chain-more graph cut other more [] is_one = refl
is_chain-more graph cut other more (a ∷ []) is_one = more a is_one
is_chain-more graph cut other more (a ∷ b ∷ chain) is_one =
    let parts = chain_parts graph cut a b chain is_one in
    chain_onward graph other a b chain (more a (chain_first graph cut a (b ∷ chain) is_one)) parts.0 (is_chain-more graph cut other more (b ∷ chain) parts.1)
