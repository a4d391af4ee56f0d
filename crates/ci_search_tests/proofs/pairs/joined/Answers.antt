use Rattle.std.proofs.Common.{◌≡◌, [], ◌∷◌, ◌++◌, append_assoc, sym, ap, ◌∙◌, subst, arith}
use Rattle.ci_pair.specs.declared.log.PairItem.TheVariants.{B}
use Rattle.ci_pair.specs.Trees.{IsTree, branch}
use Rattle.ci_search_tests.proofs.pairs.joined.Goals as goal

pub new-requires : goal.new-requires
new-requires g c =
    let first = c.items.result.now in
    let second = c.items-2.result.now in
    let out = c.items-3.result.now in
    let head = c.in_ok-push.ensures.items ∙ ap (λ xs. xs ++ (B ∷ [])) c.new-items.ensures.items in
    let one = c.in_ok-extend_from_slice.ensures.items ∙ ap (λ xs. xs ++ first) head in
    let two = c.in_ok-extend_from_slice-2.ensures.items ∙ ap (λ xs. xs ++ second) one in
    let three = c.in_ok-extend_from_slice-3.ensures.items ∙ ap (λ xs. xs ++ out) two in
    record {
      is_tree = subst IsTree (sym (three ∙ ap (λ xs. B ∷ xs) (append_assoc first second out)))
          (branch (subst IsTree (sym c.items.ensures.items) c.items.ensures.log.is_tree)
          (subst IsTree (sym c.items-2.ensures.items) c.items-2.ensures.log.is_tree)
          (subst IsTree (sym c.items-3.ensures.items) c.items-3.ensures.log.is_tree));
      few = omega (arith, c.len-length.ensures, c.if-assert.false);
    }
