-- How the nodes that are taken in lie beside another set, where their terms represent a prefix.
use Rattle.std.proofs.Common.{ℕ, Bool, not, inl, inr, IsTrue, List, sym, ◌∙◌, true≢false}
use Rattle.std.proofs.lemmas.Bool.{false_from_ne_true}
use Rattle.std.specs.FinSet as set
use Rattle.ci_cut.specs.FlowGraph.{FlowGraph}
use Rattle.ci_cut.specs.declared.prefix.PrefixTerms.{PrefixTerms}
use Rattle.ci_cut.specs.Prefixes.{Prefix, is_eligible, IsBefore}
use Rattle.ci_cut.specs.Representation.{Represents}
use Rattle.ci_cut.specs.Best.{ComesBeforeFrom}
use Rattle.ci_cut.proofs.PrefixLaws.{not_both}
use Rattle.ci_cut.proofs.Represented.{decided_from_place, place_below}

module _ (graph : FlowGraph) (prefix : Prefix) (terms : PrefixTerms) (delays : List ℕ) (represents : Represents graph prefix terms delays) where
  -- a set of eligible nodes comes before what is taken in, at a decided node, where it comes before the prefix
  pub before_prefix : (cut : ℕ → Bool) → ((k : ℕ) → IsTrue (cut k) → IsTrue (is_eligible graph k))
      → ComesBeforeFrom terms.place cut (set.contains terms.taken) → IsBefore graph cut prefix
  before_prefix cut eligible (before, from) = record {
    node = before.place;
    in_cut = before.in_first;
    out_of_prefix = elim (decided_from_place graph prefix terms delays represents before.place (eligible before.place before.in_first) from) [
      | inl in_ ↦ absurd (true≢false (sym in_ ∙ sym (represents.is_taken before.place) ∙ before.not_in_second))
      | inr out ↦ out
    ];
    same_above = λ k above. before.same_above k above ∙ represents.is_taken k;
  }

  pub before_taken : (cut : ℕ → Bool) → IsBefore graph cut prefix → ComesBeforeFrom terms.place cut (set.contains terms.taken)
  before_taken cut before = (
    record {
      place = before.node;
      in_first = before.in_cut;
      not_in_second = represents.is_taken before.node ∙ false_from_ne_true _ (λ in_. not_both graph prefix before.node in_ before.out_of_prefix);
      same_above = λ k above. before.same_above k above ∙ sym (represents.is_taken k);
    },
    place_below graph prefix terms delays represents not before.node before.out_of_prefix,
  )
