use Rattle.std.proofs.Common.{◌≡◌, ℕ, true, false, suc, ◌-◌, ◌↔◌, IsTrue, length, sym, ap, ◌∙◌, subst, arith}
use Rattle.std.specs.FinSet as set
use Rattle.ci_cut.specs.declared.graph.Node.{Node}
use Rattle.ci_cut.proofs.NodeLaws.{node_there}
use Rattle.ci_rewrite.specs.FoldedBlock.{LeadsToMember}
use Rattle.ci_rewrite.proofs.FoldLaws.{AreReaching, members_alone, more_reaching, same_reaching, early_are}
use Rattle.ci_rewrite.proofs.folding.early_nodes.Goals as goal

pub loop-k-init : goal.loop-k-init
loop-k-init c =
    let graph = c.args.graph.now in
    subst (AreReaching graph c.args.cut.now c.args.cut.now) (sym (ap length c.nodes-nodes.ensures.value))
    (members_alone graph c.args.cut.now c.nodes-nodes.ensures.kept)

pub loop-k-preserved-then-has : goal.loop-k-preserved-then-has
loop-k-preserved-then-has c =
    let graph = c.args.graph.now in
    let j : ℕ = c.loop-k.k - 1 in
    let next : suc j ≡ c.loop-k.k = omega arith in
    let here : set.contains c.loop-k.reaching j ≡ true = cc in
    let node = node_there graph c.nodes-nodes.result.now j c.index-nodes-k.result c.nodes-nodes.ensures.value (omega arith) c.index-nodes-k.is in
    subst (λ reaching. AreReaching graph c.args.cut.now reaching j)
    (sym (c.union-reaching.ensures.value ∙ ap (λ (n : Node). set.union c.loop-k.reaching n.before) (sym c.index-nodes-k.is ∙ sym node)))
    (more_reaching graph c.args.cut.now c.nodes-nodes.ensures.kept c.loop-k.reaching j
    (subst (AreReaching graph c.args.cut.now c.loop-k.reaching) (sym next) c.loop-k.invariant) here)

pub loop-k-preserved : goal.loop-k-preserved
loop-k-preserved c =
    let graph = c.args.graph.now in
    let j : ℕ = c.loop-k.k - 1 in
    let next : suc j ≡ c.loop-k.k = omega arith in
    let here : set.contains c.loop-k.reaching j ≡ false = cc in
    same_reaching graph c.args.cut.now c.nodes-nodes.ensures.kept c.loop-k.reaching j
    (subst (AreReaching graph c.args.cut.now c.loop-k.reaching) (sym next) c.loop-k.invariant) here

pub returns : goal.returns
returns c =
    let graph = c.args.graph.now in
    let cut = c.args.cut.now in
    let all : c.loop-k.k ≡ 0 = omega arith in
    let early : c.minus.result ≡ set.difference c.loop-k.reaching cut = cc in
    λ k. subst (λ numbers. IsTrue (set.contains numbers k) ↔ ((¬ IsTrue (set.contains cut k)) × LeadsToMember graph (set.contains cut) k)) (sym early)
    (early_are graph cut c.nodes-nodes.ensures.kept c.loop-k.reaching (subst (AreReaching graph cut c.loop-k.reaching) all c.loop-k.invariant) k)
