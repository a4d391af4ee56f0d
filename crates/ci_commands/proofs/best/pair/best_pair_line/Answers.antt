-- What the search in a new region found, as a line.
use Rattle.std.proofs.Common.{◌∙◌, subst}
use Rattle.std.specs.String.{string_bytes}
use Rattle.ci_pair.specs.PairSets.{sets}
use Rattle.ci_pair.specs.Prefixes.{NeedExceeds}
use Rattle.ci_commands.specs.BestCommand.{skipped_line}
use Rattle.ci_commands.specs.PairCommand.{IsPairLine, pair_is_best, pair_line, no_pair, no_pair_line, skipped}
use Rattle.ci_commands.proofs.SearchLaws.{all_free, shown}
use Rattle.ci_commands.proofs.best.pair.best_pair_line.Goals as goal

pub returns-in-Best : goal.returns-in-Best
returns-in-Best c =
    shown (IsPairLine c.args.graph.now c.args.limits.now c.args.budget) string_bytes c.pair_text.result
    (pair_line c.args.graph.now (sets c.in-Best.pair)) c.pair_text.ensures
    (pair_is_best (sets c.in-Best.pair) c.in_ok-check_log-in-Best.ensures)

pub returns-in-NoPair : goal.returns-in-NoPair
returns-in-NoPair c =
    shown (IsPairLine c.args.graph.now c.args.limits.now c.args.budget) string_bytes c.from_str.result no_pair_line
    c.from_str.ensures.ok (no_pair c.in_ok-check_log-in-NoPair.ensures)

pub returns : goal.returns
returns c =
    let graph = c.args.graph.now in
    let limits = c.args.limits.now in
    let all = all_free c.args.budget c.in_ok-region.region c.in_ok-region.ensures in
    let exceeds = subst (NeedExceeds graph limits) all (c.in-Spent.ensures.spent tt) in
    shown (IsPairLine graph limits c.args.budget) string_bytes c.skipped_text.result (skipped_line c.args.budget)
    (rw (c.in-Spent.ensures.answer.0 ∙ all) at c.skipped_text.ensures) (skipped exceeds)
