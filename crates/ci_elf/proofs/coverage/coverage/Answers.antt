use Rattle.std.proofs.Common.{sym, subst, rules}
use Rattle.std.specs.List.Sorted.{IsNonDecreasingBy, IsPermutation}
use Rattle.std.proofs.lemmas.List.Sorted.{IsNonDecreasingBy-from_sort_by_key}
use Rattle.std.proofs.lemmas.Result.{IfOk-weaker}
use Rattle.ci_elf.specs.private.Parts.{IsCoverage}
use Rattle.ci_elf.proofs.CoverageLaws.{coverage_permuted}
use Rattle.ci_elf.proofs.coverage.coverage.Goals as goal

pub extended-requires : goal.extended-requires
extended-requires c =
    subst (λ xs. IsNonDecreasingBy (λ part. part.start) xs) (sym c.deref.ensures.value)
    (IsNonDecreasingBy-from_sort_by_key (λ part. part.start) _ c.sort_unstable_by_key.ensures.sorted (λ a r q k. search rules))

pub returns : goal.returns
returns c =
    let moved : IsPermutation c.args.parts.now c.deref.result.now =
    rw (c.deref.ensures.value, ← c.in_ok-sorted.ensures.items) c.sort_unstable_by_key.ensures.permutation in
    IfOk-weaker c.extended.result (λ v. IsCoverage c.deref.result.now v.items) (λ v. IsCoverage c.args.parts.now v.items)
    (λ v h. coverage_permuted _ _ _ moved h) c.extended.ensures
