use Rattle.std.proofs.Common.{sym, subst, rules}
use Rattle.std.specs.List.Sorted.{IsNonDecreasingBy, IsPermutation}
use Rattle.std.proofs.lemmas.List.Sorted.{IsNonDecreasingBy-from_sort_by_key, IsPermutation-sym}
use Rattle.ci_elf.proofs.PartLaws.{apart_permuted}
use Rattle.ci_elf.proofs.parts.is_disjoint.Goals as goal

pub are_apart-requires : goal.are_apart-requires
are_apart-requires c =
    subst (λ xs. IsNonDecreasingBy (λ part. part.start) xs) (sym c.deref.ensures.value)
    (IsNonDecreasingBy-from_sort_by_key (λ part. part.start) _ c.sort_unstable_by_key.ensures.sorted (λ a r q k. search rules))

moved : (c : goal.After-drop-sorted) → IsPermutation c.args.parts.now c.deref.result.now
moved c = rw (c.deref.ensures.value, ← c.in_ok-sorted.ensures.items) c.sort_unstable_by_key.ensures.permutation

pub returns : goal.returns
returns c = (
  (λ is. apart_permuted _ _ (IsPermutation-sym _ _ (moved c)) (c.are_apart.ensures.0 is)),
  (λ apart. c.are_apart.ensures.1 (apart_permuted _ _ (moved c) apart)),
)
