-- A book over a profile has one report.
use Rattle.std.proofs.Common.{◌≡◌, ◌∙◌, ◌++◌, ℕ, List, reverse, refl, sym, subst}
use Rattle.std.specs.Prelude.{pos}
use Rattle.std.specs.FinSet as finite
use Rattle.ci_isa.specs.Table.{IsWordOf}
use Rattle.ci_block.specs.Blocks.{AreInOrder}
use Rattle.ci_cut.specs.Gain.{gain}
use Rattle.ci_log.specs.declared.book.Entry.{Entry}
use Rattle.ci_unit.specs.Uses.{unit_word}
use Rattle.ci_select.specs.Histories.{History, round}
use Rattle.ci_select.specs.Instances.{Instance}
use Rattle.ci_select.specs.PresentBlocks.{graph_at}
use Rattle.ci_select.proofs.HistoryLaws.{cut_is_one}
use Rattle.ci_select.proofs.PresentLaws.{present_is_one}
use Rattle.ci_select.proofs.SavingLaws.{savings_are_one}
use Rattle.ci_select.proofs.UnitLaws.{units_are_one}
use Rattle.ci_select.proofs.WordIsOne.{word_is_one}
use Rattle.ci_report.specs.Lines.{first_line, plan_line, profile_line, cut_line, total_line}
use Rattle.ci_report.specs.Reports.{IsEntryLine, AreEntryLines, of_best, of_none, of_skip, of_take, none, more}
use Rattle.ci_report.specs.Reports.{block_lines, unit_lines}
use Rattle.ci_report.specs.Laws.{ReportIsOne}

-- an entry has one line,
line_is_one :
    {instance : Instance} {history : History} {entry : Entry} {left right : List ℕ} → AreInOrder instance.blocks
    → IsEntryLine instance history entry left → IsEntryLine instance history entry right → left ≡ right
line_is_one order of_best of_best = refl
line_is_one order of_none of_none = refl
line_is_one order of_skip of_skip = refl
line_is_one {instance} {history} order
    (of_take {leader = leader} {unit = unit} {gained = g} {word = v} {insns = insns} {cut = cut} has gains spelt)
    (of_take {gained = h} {word = w} {insns = others} {cut = other} again gained written) =
    let same : insns ≡ others =
    present_is_one instance history leader insns others order has.present again.present in
    let one : cut ≡ other = cut_is_one has.has_cut again.has_cut in
    let gain_is : pos g ≡ pos h =
    gains ∙ (λ i. gain (graph_at instance leader (same i)) (finite.contains (one i))) ∙ sym gained in
    let as_much : g ≡ h = cc in
    let word_at = unit_word insns (graph_at instance leader insns) (finite.contains cut) unit in
    let word : word_at ≡ unit_word others (graph_at instance leader others) (finite.contains other) unit =
    λ i. unit_word (same i) (graph_at instance leader (same i)) (finite.contains (one i)) unit in
    let word_is : v ≡ w = word_is_one word_at v w spelt (subst (λ insn. IsWordOf w insn) (sym word) written) in
    λ i. cut_line (round history) leader unit (as_much i) (instance.entries leader) (finite.contains (one i)) (word_is i)

-- and so do all entries
lines_are_one :
    {instance : Instance} {history : History} {left right : List ℕ} → AreInOrder instance.blocks
    → AreEntryLines instance history left → AreEntryLines instance history right → left ≡ right
lines_are_one order none none = refl
lines_are_one order (more {lines = a} {added = x} before line) (more {lines = b} {added = y} others other) =
    let front : a ≡ b = lines_are_one order before others in
    let last : x ≡ y = line_is_one order line other in
    λ i. front i ++ last i

pub report_is_one : ReportIsOne
report_is_one instance profile book left right order l r =
    let history = reverse book.entries in
    let lines : l.entry_lines ≡ r.entry_lines = lines_are_one order l.entry_lines_are r.entry_lines_are in
    let units : l.units ≡ r.units =
    units_are_one instance history l.units r.units order l.units_are r.units_are in
    let saved : l.saved ≡ r.saved =
    savings_are_one instance history l.saved r.saved order l.saved_is r.saved_is in
    l.text_is
    ∙ (λ i. first_line ++ plan_line instance.plan instance.table
    ++ profile_line profile.end profile.steps profile.cost ++ block_lines instance.entries instance.blocks
    ++ lines i ++ unit_lines book.entries 0 (units i) ++ total_line (saved i))
    ∙ sym r.text_is
