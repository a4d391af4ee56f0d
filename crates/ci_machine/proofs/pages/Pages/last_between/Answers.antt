use Rattle.std.proofs.Common.{◌-◌, arith, ap}
use Rattle.ci_machine.specs.declared.pages.Entry.{Entry}
use Rattle.ci_machine.proofs.PageLaws.{entry_read, gap_behind, has_not}
use Rattle.ci_machine.proofs.pages.Pages.last_between.Goals as goal

pub returns-then-end-eq0-clause-none : goal.returns-then-end-eq0-clause-none
returns-then-end-eq0-clause-none c =
    let old = c.args.self.now in
    let end = c.place_from-end in
    λ _ number low high. has_not old number end.result
    (gap_behind old c.args.from c.args.to number end.result low high end.ensures.smaller end.ensures.others end.ensures.within (λ some. absurd (omega arith)))

pub returns-then-index-from-clause-none : goal.returns-then-index-from-clause-none
returns-then-index-from-clause-none c =
    let old = c.args.self.now in
    let end = c.place_from-end in
    let last = entry_read old.table.items (end.result - 1) c.index.result.now (omega (arith, end.ensures.within)) c.index.ensures in
    λ _ number low high. has_not old number end.result
    (gap_behind old c.args.from c.args.to number end.result low high end.ensures.smaller end.ensures.others end.ensures.within
    (λ some. omega (arith, ap (λ (e : Entry). e.number) last)))
