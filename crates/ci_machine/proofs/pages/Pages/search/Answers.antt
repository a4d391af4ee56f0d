use Rattle.std.proofs.Common.{rules}
use Rattle.std.proofs.lemmas.List.Sorted.{answers_always}
use Rattle.ci_machine.specs.PageTables.{HasTable}
use Rattle.ci_machine.proofs.SearchLaws.{searched_table}
use Rattle.ci_machine.proofs.pages.Pages.search.Goals as goal

pub returns-clause-found : goal.returns-clause-found
unfolding HasTable
returns-clause-found c =
    let facts = c.binary_search_by_key.ensures in
    let by_key = facts.position (λ entry. entry.number) (answers_always _ _ _ (λ f a r g called. search rules)) in
    rw (← c.deref.ensures.value) (searched_table _ (rw c.deref.ensures.value c.args.self.now.table_is.ascending) c.args.number _ facts.bound by_key).0

pub returns-clause-absent : goal.returns-clause-absent
unfolding HasTable
returns-clause-absent c =
    let facts = c.binary_search_by_key.ensures in
    let by_key = facts.position (λ entry. entry.number) (answers_always _ _ _ (λ f a r g called. search rules)) in
    rw (← c.deref.ensures.value) (searched_table _ (rw c.deref.ensures.value c.args.self.now.table_is.ascending) c.args.number _ facts.bound by_key).1
