use Rattle.std.proofs.Common.{◌↔◌, sym, subst, arith}
use Rattle.ci_cut.specs.Need.{NeedExceeds}
use Rattle.ci_search.specs.declared.searching.Found.{Found}
use Rattle.ci_search.specs.Answered.{free, IsAnswer, IsSpent, IsOptimal}
use Rattle.ci_search.proofs.EnoughLaws.{enough}
use Rattle.ci_search.proofs.AnswerLaws.{answer_is, spent_is, optimal_is, kept_is, capacity_is, slots_are}
use Rattle.ci_search.proofs.searching.search_reusing.Goals as goal

pub returns : goal.returns
returns c =
    let graph = c.args.graph.now in
    let flows = c.nodes-nodes.ensures.kept in
    let limits = c.args.limits.now in
    let before = c.args.region.now in
    let after = c.search_all-root.new.region in
    let root = c.search_all-root.result in
    let found = c.search_all-root.new.best in
    let searched = c.search_all-root.ensures in
    let spent =
    subst (λ (found : Found). IsSpent found ↔ NeedExceeds graph limits (free before)) (sym c.answer_of.ensures)
    (spent_is graph flows limits before after root found _ searched) in
    record {
      answer = subst (IsAnswer graph limits before after) (sym c.answer_of.ensures)
          (answer_is graph flows limits before after root found _ (omega (arith, c.capacity.ensures.value, c.used.ensures.value)) searched);
      spent = spent;
      enough = λ fits given_up. enough graph limits (free before) fits (spent.0 given_up);
      best = subst (IsOptimal graph limits) (sym c.answer_of.ensures) (optimal_is graph flows limits before after root found _ searched);
      kept = kept_is graph flows limits before after root found searched;
      capacity = capacity_is graph flows limits before after root found searched;
      slots = λ not_spent.
          slots_are graph flows limits before after root found _ searched
          (subst (λ (found : Found). ¬ IsSpent found) c.answer_of.ensures not_spent);
    }
