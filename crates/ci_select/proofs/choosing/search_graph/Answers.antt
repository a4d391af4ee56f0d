use Rattle.std.specs.Prelude.{⊤}
use Rattle.std.proofs.Common.{ℕ, ◌↔◌, List, Some, None, sym, ◌∙◌, subst, arith}
use Rattle.ci_cut.specs.Need.{NeedExceeds}
use Rattle.ci_log.specs.declared.book.Entry.{Entry}
use Rattle.ci_log.specs.declared.log.Item.{Item}
use Rattle.ci_check.specs.Rules.{IsAccepted}
use Rattle.ci_search.specs.declared.searching.Found.TheVariants.{Best, NoCut}
use Rattle.ci_select.specs.LegalBooks.{IsSearched}
use Rattle.ci_select.specs.GivenUp.{IsGivenUp}
use Rattle.ci_select.proofs.SearchSlots.{all_free, few_used}
use Rattle.ci_select.proofs.choosing.search_graph.Goals as goal
use Rattle.ci_select.proofs.choosing.search_graph.Goals.{in-Best+in_ok-flatten-in-Best, in-NoCut+in_ok-flatten-in-NoCut, in-Spent}

pub flatten-requires-clause-few : goal.flatten-requires-clause-few
flatten-requires-clause-few c =
    let few = few_used c.args.region.now c.clear.new.self c.clear.ensures c.args.graph.now c.args.plan.now.limits
    c.search_reusing.new.region (Best c.in-Best.cut c.in-Best.root) c.in-Best.ensures.spent c.in-Best.ensures.slots (λ is. is) in
    omega (arith, few, c.requires, c.args.plan.now.budget_in_range.1)

pub flatten-requires-in-NoCut-clause-few : goal.flatten-requires-in-NoCut-clause-few
flatten-requires-in-NoCut-clause-few c =
    let few = few_used c.args.region.now c.clear.new.self c.clear.ensures c.args.graph.now c.args.plan.now.limits
    c.search_reusing.new.region (NoCut c.in-NoCut.root) c.in-NoCut.ensures.spent c.in-NoCut.ensures.slots (λ is. is) in
    omega (arith, few, c.requires, c.args.plan.now.budget_in_range.1)

pub returns-clause-searched : goal.returns-clause-searched
returns-clause-searched c = elim c.match-search_reusing.branch [
  | in-Best+in_ok-flatten-in-Best w ↦
      let log = w.in-Best.ensures.answer in
      subst (λ (entry : Entry). IsSearched c.args.graph.now c.args.plan.now entry) (sym w.result-is)
      (subst (λ (items : List Item). IsAccepted c.args.graph.now c.args.plan.now.limits (Some w.in-Best.cut) items)
      (sym (w.in_ok-flatten-in-Best.ensures log.items _ log.tree)) log.accepted)
  | in-NoCut+in_ok-flatten-in-NoCut w ↦
      let log = w.in-NoCut.ensures.answer in
      subst (λ (entry : Entry). IsSearched c.args.graph.now c.args.plan.now entry) (sym w.result-is)
      (subst (λ (items : List Item). IsAccepted c.args.graph.now c.args.plan.now.limits None items)
      (sym (w.in_ok-flatten-in-NoCut.ensures log.items _ log.tree)) log.accepted)
  | in-Spent w ↦
      let all = all_free c.args.region.now c.clear.new.self c.clear.ensures ∙ c.requires in
      subst (λ (entry : Entry). IsSearched c.args.graph.now c.args.plan.now entry) (sym w.result-is)
      (w.in-Spent.ensures.answer.0 ∙ all, subst (NeedExceeds c.args.graph.now c.args.plan.now.limits) all (w.in-Spent.ensures.spent.0 tt))
]

pub returns-clause-given_up : goal.returns-clause-given_up
returns-clause-given_up c =
    let graph = c.args.graph.now in
    let plan = c.args.plan.now in
    let all = all_free c.args.region.now c.clear.new.self c.clear.ensures ∙ c.requires in
    elim c.match-search_reusing.branch [
      | in-Best+in_ok-flatten-in-Best w ↦
          subst (λ (entry : Entry). IsGivenUp entry ↔ NeedExceeds graph plan.limits plan.budget) (sym w.result-is)
          (subst (λ (budget : ℕ). ⊥ ↔ NeedExceeds graph plan.limits budget) all w.in-Best.ensures.spent)
      | in-NoCut+in_ok-flatten-in-NoCut w ↦
          subst (λ (entry : Entry). IsGivenUp entry ↔ NeedExceeds graph plan.limits plan.budget) (sym w.result-is)
          (subst (λ (budget : ℕ). ⊥ ↔ NeedExceeds graph plan.limits budget) all w.in-NoCut.ensures.spent)
      | in-Spent w ↦
          subst (λ (entry : Entry). IsGivenUp entry ↔ NeedExceeds graph plan.limits plan.budget) (sym w.result-is)
          (subst (λ (budget : ℕ). ⊤ ↔ NeedExceeds graph plan.limits budget) all w.in-Spent.ensures.spent)
    ]
