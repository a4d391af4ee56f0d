use Rattle.std.proofs.Common.{◌+◌, ◌*◌, ◌/◌, ◌∙◌, ap, refl, arith}
use Rattle.ci_machine.specs.Pages.{content, has}
use Rattle.ci_machine.specs.PageTables.{missing, without_pages, zeroed}
use Rattle.ci_machine.proofs.ByteLaws.{pages_already, pages_within, zeros_already, zeros_within}
use Rattle.ci_machine.proofs.MissingPages.{missing_more}
use Rattle.ci_machine.proofs.PageLaws.{content_none, has_there}
use Rattle.ci_machine.proofs.TestLaws.{lies_in-bounds}
use Rattle.ci_machine.proofs.pages.Pages.remove_all.Goals as goal

pub loop-place-preserved : goal.loop-place-preserved
loop-place-preserved c =
    let l = c.loop-place in
    let last = c.in-Some.ensures.some in
    let number = last.0 in
    let from = c.args.from * 4096 in
    let to = c.args.to * 4096 in
    let gone = c.remove_at.ensures.has number last.1 in
    record {
      room = λ low high. omega (
        arith,
        l.invariant.room low high,
        c.remove_at.ensures.room,
        missing_more (has l.self) number low (has_there l.self number _ last.1) high,
        ap (λ numbers. missing numbers low high) gone,
      );
      has = (λ k. without_pages (gone k) c.args.from c.args.to)
          ∙ (λ k n. pages_within (has l.self) c.args.from c.args.to number n last.2 last.3 k) ∙ l.invariant.has;
      content = (λ k. zeroed (c.remove_at.ensures.content number last.1 k) from to)
          ∙ (λ k x. zeros_within (content l.self) from to (number * 4096) ((number + 1) * 4096) x (omega (arith, last.2)) (omega (arith, last.3)) k)
          ∙ l.invariant.content;
    }

pub returns-clause-content : goal.returns-clause-content
returns-clause-content c =
    let l = c.loop-place in
    let from = c.args.from * 4096 in
    let to = c.args.to * 4096 in
    (λ k x. zeros_already (content l.self) from to x
    (λ is. let bounds = lies_in-bounds from to x is in
    content_none l.self x (c.in_default.ensures.none refl (x / 4096) (omega (arith, bounds.0)) (omega (arith, bounds.1)))) k)
    ∙ l.invariant.content

pub returns-clause-has : goal.returns-clause-has
returns-clause-has c =
    let l = c.loop-place in
    (λ k n. pages_already (has l.self) c.args.from c.args.to n
    (λ is. let bounds = lies_in-bounds c.args.from c.args.to n is in
    c.in_default.ensures.none refl n bounds.0 bounds.1) k)
    ∙ l.invariant.has
