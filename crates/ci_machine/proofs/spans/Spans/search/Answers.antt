use Rattle.std.proofs.Common.{rules}
use Rattle.std.proofs.lemmas.List.Sorted.{answers_always}
use Rattle.ci_machine.specs.Spans.{HasRising}
use Rattle.ci_machine.proofs.SpanLaws.{starts_rise}
use Rattle.ci_machine.proofs.SearchLaws.{searched_spans}
use Rattle.ci_machine.proofs.spans.Spans.search.Goals as goal

pub returns-clause-found : goal.returns-clause-found
unfolding HasRising
returns-clause-found c =
    let facts = c.binary_search_by_key.ensures in
    let by_key = facts.position (λ span. span.start) (answers_always _ _ _ (λ f a r g called. search rules)) in
    rw (← c.deref.ensures.value) (searched_spans _ (rw c.deref.ensures.value (starts_rise _ c.args.self.now.rising)) c.args.address _ facts.bound by_key).found

pub returns-clause-smaller : goal.returns-clause-smaller
unfolding HasRising
returns-clause-smaller c =
    let facts = c.binary_search_by_key.ensures in
    let by_key = facts.position (λ span. span.start) (answers_always _ _ _ (λ f a r g called. search rules)) in
    rw (← c.deref.ensures.value) (searched_spans _ (rw c.deref.ensures.value (starts_rise _ c.args.self.now.rising)) c.args.address _ facts.bound by_key).smaller

pub returns-clause-greater : goal.returns-clause-greater
unfolding HasRising
returns-clause-greater c =
    let facts = c.binary_search_by_key.ensures in
    let by_key = facts.position (λ span. span.start) (answers_always _ _ _ (λ f a r g called. search rules)) in
    rw (← c.deref.ensures.value) (searched_spans _ (rw c.deref.ensures.value (starts_rise _ c.args.self.now.rising)) c.args.address _ facts.bound by_key).greater
