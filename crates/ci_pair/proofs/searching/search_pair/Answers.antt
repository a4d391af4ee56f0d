use Rattle.std.proofs.Common.{sym, subst, arith}
use Rattle.ci_pair.specs.declared.searching.PairFound.{PairFound}
use Rattle.ci_pair.specs.Answered.{free, IsAnswer, IsSpent, IsOptimal}
use Rattle.ci_pair.specs.Prefixes.{NeedExceeds}
use Rattle.ci_pair.proofs.AnswerLaws.{answer_is, spent_is, enough, optimal_is, kept_is, capacity_is}
use Rattle.ci_pair.proofs.searching.search_pair.Goals as goal

pub returns : goal.returns
returns c =
    let graph = c.args.graph.now in
    let flows = c.nodes-nodes.ensures.kept in
    let limits = c.args.limits.now in
    let before = c.args.region.now in
    let after = c.search_all-root.new.region in
    let root = c.search_all-root.result in
    let found = c.search_all-root.new.best in
    let searched = c.search_all-root.ensures in
    let spent =
    subst (λ (found : PairFound). IsSpent found → NeedExceeds graph limits (free before)) (sym c.answer_of.ensures)
    (spent_is graph flows limits before after root found _ searched) in
    record {
      answer = subst (IsAnswer graph limits before after) (sym c.answer_of.ensures)
          (answer_is graph flows limits before after root found _ (omega (arith, c.capacity.ensures.value, c.used.ensures.value)) searched);
      spent = spent;
      enough = λ fits given_up. enough graph limits (free before) fits (spent given_up);
      best = subst (IsOptimal graph limits) (sym c.answer_of.ensures) (optimal_is graph flows limits before after root found _ searched);
      kept = kept_is graph flows limits before after root found searched;
      capacity = capacity_is graph flows limits before after root found searched;
    }
