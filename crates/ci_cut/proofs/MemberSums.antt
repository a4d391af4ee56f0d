-- Sums and counts over the members of a set of nodes, one node more, and how great they are.
use Rattle.std.proofs.Common.{◌≡◌, ℕ, ◌+◌, ◌≤◌, Bool, true, false, cond, nat_lt, ap, ◌∙◌, add-one, arith, subst, IsTrue}
use Rattle.std.proofs.lemmas.Bool.Decides.{nat_tests}
use Rattle.ci_word.specs.Numbers.{sum_below}
use Rattle.ci_word.proofs.NumberLaws.{sum_below-suc}
use Rattle.ci_cut.specs.declared.graph.Limits.{Limits}
use Rattle.ci_cut.specs.FlowGraph.{FlowGraph, node_at}
use Rattle.ci_cut.specs.Walks.{IsConvex}
use Rattle.ci_cut.specs.Ports.{size, inputs, inputs_from, is_outside, outputs}
use Rattle.ci_cut.specs.Gain.{saved_cycles, saved_by, further_words_of, software, further_words, Fits}
use Rattle.ci_cut.specs.Hardware.{hardware}

-- one member more
pub sum_below-member : (n : ℕ) (p : ℕ → Bool) (f : ℕ → ℕ) → p n ≡ true → sum_below (n + 1) p f ≡ sum_below n p f + f n
sum_below-member n p f member =
    rw add-one (sum_below-suc n p f ∙ ap (λ b. sum_below n p f + cond b (f n) 0) member)

-- one number more that is no member
pub sum_below-outside : (n : ℕ) (p : ℕ → Bool) (f : ℕ → ℕ) → p n ≡ false → sum_below (n + 1) p f ≡ sum_below n p f
sum_below-outside n p f outside =
    rw add-one (omega (arith, sum_below-suc n p f, ap (λ b. cond b (f n) 0) outside))

-- a test counts for one at most
one_at_most : (b : Bool) → cond b 1 0 ≤ 1
one_at_most true = omega arith
one_at_most false = omega arith

-- the further words are few
pub further_words-le : (ins outs n : ℕ) → outs ≤ n → n ≤ 256 → further_words_of ins outs ≤ 256
further_words-le ins outs n few most = omega (arith, one_at_most (nat_lt 3 ins))

-- up to three inputs take no further word
pub few_inputs : (fewer ins outs : ℕ) → fewer ≤ ins → ins ≤ 3 → further_words_of fewer outs ≡ further_words_of ins outs
few_inputs fewer ins outs a b = grind (arith, nat_tests)

-- the saved cycles by their parts
pub saved_from_parts : (graph : FlowGraph) (members core : ℕ → Bool) (read pad saved time ins outs further size_of : ℕ)
    → read ≡ graph.read → pad ≡ graph.pad → saved ≡ software graph members → time ≡ hardware graph core
    → ins ≡ inputs_from graph (is_outside members) core → outs ≡ outputs graph core → further ≡ further_words_of ins outs → size_of ≡ size graph members
    → saved_cycles read pad saved time further size_of ≡ saved_by graph members core
saved_from_parts graph members core read pad saved time ins outs further size_of a b c d e f g h =
    let words = g ∙ (λ i. further_words_of (e i) (f i)) in
    λ i. saved_cycles (a i) (b i) (c i) (d i) (words i) (h i)

-- ---- what fits

-- no more inputs and outputs than the limits, an output, and a place for each word of a use
abbrev pub AreWithin : Limits → ℕ → ℕ → ℕ → Type 0
AreWithin limits ins outs members = (ins ≤ limits.inputs) × (1 ≤ outs) × (outs ≤ limits.outputs) × (1 + further_words_of ins outs ≤ members)

pub within_same : (limits : Limits) (ins outs ins' outs' members : ℕ) → ins ≡ ins' → outs ≡ outs'
    → AreWithin limits ins outs members → AreWithin limits ins' outs' members
within_same limits ins outs ins' outs' members a b within =
    subst (λ (n : ℕ). AreWithin limits ins' n members) b (subst (λ (n : ℕ). AreWithin limits n outs members) a within)

-- a set's ports and size are within the limits, as numbers that are theirs
module _ (graph : FlowGraph) (limits : Limits) (cut : ℕ → Bool) (ins outs members : ℕ) (a : ins ≡ inputs graph cut)
    (b : outs ≡ outputs graph cut) (m : members ≡ size graph cut) where
  same_words : further_words_of ins outs ≡ further_words graph cut
  same_words = λ i. further_words_of (a i) (b i)

  pub fits_from_parts : ((k : ℕ) → IsTrue (cut k) → IsTrue (node_at graph k).eligible) → IsConvex graph cut
      → AreWithin limits ins outs members → Fits graph limits cut
  fits_from_parts eligible convex within = record {
    eligible = eligible;
    convex = convex;
    inputs_within = omega (arith, within.0);
    has_output = omega (arith, within.1);
    outputs_within = omega (arith, within.2);
    room = omega (arith, within.3, same_words);
  }

  pub within_from_fits : Fits graph limits cut → AreWithin limits ins outs members
  within_from_fits fits =
      (omega (arith, fits.inputs_within), omega (arith, fits.has_output), omega (arith, fits.outputs_within), omega (arith, fits.room, same_words))
