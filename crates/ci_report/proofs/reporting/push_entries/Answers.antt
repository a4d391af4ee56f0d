-- Each entry adds its line.
use Rattle.std.proofs.Common.{◌≡◌, ◌∙◌, ◌++◌, ◌∷◌, ℕ, ◌<◌, [], length, reverse, take, get_or, refl, sym, ap, subst}
use Rattle.std.proofs.Common.{append-nil, arith, rules}
use Rattle.std.specs.String.{string_bytes}
use Rattle.ci_log.specs.declared.book.Entry.TheVariants.{Best, Without, Spent}
use Rattle.ci_select.specs.Histories.{round}
use Rattle.ci_report.specs.Lines.{skip_line}
use Rattle.ci_report.specs.Reports.{none, of_best, of_none, of_skip}
use Rattle.ci_report.proofs.LineLaws.{fewer_before, one_item_more, search_adds_line, take_adds_line}
use Rattle.ci_report.proofs.reporting.push_entries.Goals as goal
use Rattle.ci_report.proofs.reporting.push_entries.Goals.{In-Take}
use Rattle.ci_report.proofs.reporting.push_entries.Goals.{in-Take+in_ok-push_cut-in-Take, in-Spent+in_ok-push_skip-in-Spent}
use Rattle.ci_report.proofs.reporting.push_entries.Goals.{in-Best, in-Without}

pub loop-entry-init : goal.loop-entry-init
loop-entry-init c = record {
  counted = refl;
  lines = λ instance told. record { lines = []; are_lines = none; text_is = sym (append-nil (string_bytes c.args.text.now)) };
}

-- the take has its cut
within : (c : In-Take) → c.loop-entry.round < length c.args.takes.now
within c =
    let entries = c.args.entries.now in
    let k = c.loop-entry.entry-index in
    let fewer =
    fewer_before entries k c.in-Take.leader c.in-Take.unit c.loop-entry-test.true
    (subst (λ e. e ≡ get_or entries k e) c.in-Take.is c.entry-item.is) in
    omega (arith, fewer, c.loop-entry.invariant.counted, c.requires)

pub bounds-takes-round : goal.bounds-takes-round
bounds-takes-round c = within (goal.at.bounds-takes-round c).In-Take

pub offset_bounds-takes-round : goal.offset_bounds-takes-round
offset_bounds-takes-round c = let inside = within (goal.at.offset_bounds-takes-round c).In-Take in search rules

pub overflow_add-round : goal.overflow_add-round
overflow_add-round c = let inside = within (goal.at.overflow_add-round c).In-Take in search rules

pub loop-entry-preserved : goal.loop-entry-preserved
loop-entry-preserved c =
    let entries = c.args.entries.now in
    let k = c.loop-entry.entry-index in
    let count = c.loop-entry.round in
    let so_far = c.loop-entry.invariant in
    let before = string_bytes c.loop-entry.text in
    let more = one_item_more entries k c.entry-item.result c.loop-entry-test.true c.entry-item.is in
    elim c.match-entry.branch [
      | in-Take+in_ok-push_cut-in-Take w ↦
          let history = more ∙ ap (λ e. e ∷ reverse (take k entries)) w.in-Take.is in
          let fewer =
          fewer_before entries k w.in-Take.leader w.in-Take.unit c.loop-entry-test.true
          (subst (λ e. e ≡ get_or entries k e) w.in-Take.is c.entry-item.is) in
          let first =
          one_item_more c.args.takes.now count w.index-takes-round.result
          (omega (arith, fewer, so_far.counted, c.requires)) w.index-takes-round.is in
          record {
            counted = omega (arith, w.round-is, so_far.counted, ap round history);
            lines = rw (w.text-is, w.round-is, history, first)
                (take_adds_line w.in-Take.leader w.in-Take.unit w.index-takes-round.result so_far.lines
                w.in_ok-push_cut-in-Take.ensures);
          }
      | in-Spent+in_ok-push_skip-in-Spent w ↦
          let history = more ∙ ap (λ e. e ∷ reverse (take k entries)) w.in-Spent.is in
          let line = λ (n : ℕ). skip_line n w.in-Spent.leader w.in-Spent.budget in
          record {
            counted = omega (arith, w.round-is, so_far.counted, ap round history);
            lines = rw (w.text-is, w.round-is, history)
                (search_adds_line (Spent w.in-Spent.leader w.in-Spent.budget) (line (round (reverse (take k entries)))) refl
                (λ instance. of_skip) so_far.lines
                (w.in_ok-push_skip-in-Spent.ensures ∙ ap (λ n. before ++ line n) so_far.counted));
          }
      | in-Best w ↦
          let history = more ∙ ap (λ e. e ∷ reverse (take k entries)) w.in-Best.is in
          record {
            counted = omega (arith, w.round-is, so_far.counted, ap round history);
            lines = rw (w.text-is, w.round-is, history)
                (search_adds_line (Best w.in-Best.leader w.in-Best.cut w.in-Best.log) [] refl (λ instance. of_best)
                so_far.lines (sym (append-nil before)));
          }
      | in-Without w ↦
          let history = more ∙ ap (λ e. e ∷ reverse (take k entries)) w.in-Without.is in
          record {
            counted = omega (arith, w.round-is, so_far.counted, ap round history);
            lines = rw (w.text-is, w.round-is, history)
                (search_adds_line (Without w.in-Without.leader w.in-Without.log) [] refl (λ instance. of_none)
                so_far.lines (sym (append-nil before)));
          }
    ]
