use Rattle.std.proofs.Common.{[], ◌∷◌, ◌++◌, length, sym, ap, ◌∙◌, subst, arith}
use Rattle.ci_pair.specs.Trees.{IsTree, leaf, IsLog}
use Rattle.ci_search_tests.proofs.pairs.leaf.Goals as goal

pub new-requires : goal.new-requires
new-requires g c =
    subst IsLog (sym (c.in_ok-push.ensures.items ∙ ap (λ xs. xs ++ (c.args.item ∷ [])) c.new-items.ensures.items))
    (record { is_tree = leaf c.requires; few = omega arith })
