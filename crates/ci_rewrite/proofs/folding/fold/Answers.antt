use Rattle.std.proofs.Common.{◌≡◌, ◌≤◌, ◌++◌, length, not, ap, ◌∙◌, subst}
use Rattle.std.specs.FinSet as set
use Rattle.ci_rewrite.specs.FoldedBlock.{those}
use Rattle.ci_rewrite.proofs.BlockGraphs.{same_length, has_registers, keeps_shape, keeps_effect, saves_gain}
use Rattle.ci_rewrite.proofs.FoldLaws.{others_are, folded_fits}
use Rattle.ci_rewrite.proofs.folding.fold.Goals as goal

pub push_those-requires : goal.push_those-requires
push_those-requires c =
    subst (λ m. m ≤ 256) (ap length c.nodes.ensures.value ∙ same_length c.args.insns.now c.args.graph.now c.requires.graph) c.if-prove.false

pub push_use-requires-clause-registers : goal.push_use-requires-clause-registers
push_use-requires-clause-registers c = has_registers c.args.insns.now c.args.graph.now c.requires.graph c.requires.fit

pub push_others-requires : goal.push_others-requires
push_others-requires c =
    subst (λ m. m ≤ 256) (ap length c.nodes.ensures.value ∙ same_length c.args.insns.now c.args.graph.now c.requires.graph) c.if-prove.false

pub returns-clause-folded : goal.returns-clause-folded
returns-clause-folded c =
    let insns = c.args.insns.now in
    let cut = c.args.cut.now in
    let early = c.early_nodes-early.result in
    let first = ap (λ l. l ++ those insns (set.contains early)) c.new-folded.ensures.items in
    let both : c.union.result ≡ set.union cut early = cc in
    let others = ap (λ numbers. those insns (λ k. not (set.contains numbers k))) both ∙ others_are insns cut early in
    record {
      early = set.contains early;
      are_early = λ k _. c.early_nodes-early.ensures k;
      is_list = cc (first, c.in_ok-push_those.ensures, c.in_ok-push_use.ensures.items, c.in_ok-push_no_ops.ensures, c.in_ok-push_others.ensures, others);
    }

pub returns-clause-fit : goal.returns-clause-fit
returns-clause-fit c = folded_fits _ _ _ _ _ (returns-clause-folded c) c.requires.fit c.in_ok-push_use.ensures.fit

pub returns-clause-shape : goal.returns-clause-shape
returns-clause-shape c = keeps_shape _ _ _ _ _ c.requires.fits (returns-clause-folded c) c.requires.graph c.requires.number

pub returns-clause-effect : goal.returns-clause-effect
returns-clause-effect c = keeps_effect _ _ _ _ _ c.requires.fits (returns-clause-folded c) c.requires.number

pub returns-clause-saves : goal.returns-clause-saves
returns-clause-saves c = saves_gain _ _ _ _ _ c.requires.fits (returns-clause-folded c)
