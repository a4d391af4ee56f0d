-- What the search in a new region found, as a line.
use Rattle.std.proofs.Common.{◌∙◌, sym, subst}
use Rattle.std.specs.FinSet as set
use Rattle.std.specs.String.{string_bytes}
use Rattle.ci_cut.specs.Need.{NeedExceeds}
use Rattle.ci_commands.specs.BestCommand.{IsBestLine, cut_is_best, cut_line, no_cut, no_cut_line, skipped, skipped_line}
use Rattle.ci_commands.proofs.SearchLaws.{all_free, shown}
use Rattle.ci_commands.proofs.best.cut.best_cut_line.Goals as goal

pub returns-in-Best : goal.returns-in-Best
returns-in-Best c =
    let graph = c.args.graph.now in
    let limits = c.args.limits.now in
    let all = all_free c.args.budget c.in_ok-region.region c.in_ok-region.ensures in
    shown (IsBestLine graph limits c.args.budget) string_bytes c.cut_text.result
    (cut_line graph (set.contains c.in-Best.cut)) c.cut_text.ensures
    (cut_is_best (set.contains c.in-Best.cut)
    (λ exceeds. c.in-Best.ensures.spent.1 (subst (NeedExceeds graph limits) (sym all) exceeds))
    c.in_ok-check_log-in-Best.ensures)

pub returns-in-NoCut : goal.returns-in-NoCut
returns-in-NoCut c =
    let graph = c.args.graph.now in
    let limits = c.args.limits.now in
    let all = all_free c.args.budget c.in_ok-region.region c.in_ok-region.ensures in
    shown (IsBestLine graph limits c.args.budget) string_bytes c.from_str.result no_cut_line c.from_str.ensures.ok
    (no_cut (λ exceeds. c.in-NoCut.ensures.spent.1 (subst (NeedExceeds graph limits) (sym all) exceeds))
    c.in_ok-check_log-in-NoCut.ensures)

pub returns : goal.returns
returns c =
    let graph = c.args.graph.now in
    let limits = c.args.limits.now in
    let all = all_free c.args.budget c.in_ok-region.region c.in_ok-region.ensures in
    let exceeds = subst (NeedExceeds graph limits) all (c.in-Spent.ensures.spent.0 tt) in
    shown (IsBestLine graph limits c.args.budget) string_bytes c.skipped_text.result (skipped_line c.args.budget)
    (rw (c.in-Spent.ensures.answer.0 ∙ all) at c.skipped_text.ensures) (skipped exceeds)
