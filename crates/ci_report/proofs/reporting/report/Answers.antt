-- The parts of the report, one behind the other.
use Rattle.std.proofs.Common.{◌≡◌, ◌∙◌, ◌++◌, ℕ, List, sym, ap, subst, append_assoc, length, reverse}
use Rattle.std.proofs.lemmas.List.{length-reverse}
use Rattle.std.specs.String.{string_bytes}
use Rattle.ci_emu.specs.Profiles.{entries_in}
use Rattle.ci_select.specs.Histories.{round}
use Rattle.ci_select.specs.Instances.{instance_of}
use Rattle.ci_select.specs.Takes.{AreTaken}
use Rattle.ci_report.specs.Lines.{first_line, plan_line, profile_line, total_line}
use Rattle.ci_report.specs.Reports.{block_lines, unit_lines}
use Rattle.ci_report.specs.private.Added.{AddsLines}
use Rattle.ci_report.proofs.LineLaws.{as_many_taken}
use Rattle.ci_report.proofs.reporting.report.Goals as goal

joined :
    (start a b c d e f : List ℕ) {t0 ta tb tc td te tf : List ℕ}
    → t0 ≡ start → ta ≡ t0 ++ a → tb ≡ ta ++ b → tc ≡ tb ++ c → td ≡ tc ++ d → te ≡ td ++ e → tf ≡ te ++ f
    → tf ≡ start ++ a ++ b ++ c ++ d ++ e ++ f
joined start a b c d e f s0 sa sb sc sd se sf =
    let all : ((((((start ++ a) ++ b) ++ c) ++ d) ++ e) ++ f) ≡ start ++ a ++ b ++ c ++ d ++ e ++ f = simp append_assoc in
    cc

pub push_entries-requires : goal.push_entries-requires
push_entries-requires c =
    let entries : c.entries-entries.result.now ≡ c.args.chosen.now.book.entries = c.entries-entries.ensures.entries in
    ap length c.deref.ensures.value ∙ sym (length-reverse c.args.chosen.now.takes.items) ∙ as_many_taken c.requires.takes
    ∙ ap (λ es. round (reverse es)) (sym entries)

pub returns : goal.returns
returns c =
    let book = c.args.chosen.now.book in
    let analysis = c.args.analysis.now in
    let instance = instance_of c.args.profile.now analysis.blocks analysis.live c.args.table.now c.args.plan.now in
    let entries : c.entries-entries.result.now ≡ book.entries = c.entries-entries.ensures.entries in
    let added : AddsLines instance (reverse book.entries) (string_bytes c.push_blocks.new.text) (string_bytes c.push_entries.new.text) =
    subst (λ es. AddsLines instance (reverse es) (string_bytes c.push_blocks.new.text) (string_bytes c.push_entries.new.text)) entries
    (c.in_ok-push_entries.ensures instance
    (subst (λ es. AreTaken instance (reverse es) (reverse c.deref.result.now)) (sym entries)
    (subst (λ ts. AreTaken instance (reverse book.entries) (reverse ts)) (sym c.deref.ensures.value) c.requires.takes))) in
    let text = c.into_bytes.ensures in
    let blocks = c.in_ok-push_blocks.ensures
    ∙ (λ i. string_bytes c.push_profile.new.text ++ block_lines (entries_in c.args.profile.now) (c.all.ensures.value i)) in
    let units = c.in_ok-push_units.ensures
    ∙ (λ i. string_bytes c.push_entries.new.text ++ unit_lines (entries i) 0 (c.as_slice.ensures.value i)) in
    record {
      entry_lines = added.lines;
      units = c.args.chosen.now.units;
      saved = c.args.chosen.now.saved;
      entry_lines_are = added.are_lines;
      units_are = c.requires.units;
      saved_is = c.requires.saved;
      text_is = rw text.value (joined first_line (plan_line c.args.plan.now c.args.table.now)
          (profile_line c.args.profile.now.end c.args.profile.now.steps c.args.profile.now.cost)
          (block_lines instance.entries instance.blocks) added.lines
          (unit_lines book.entries 0 c.args.chosen.now.units) (total_line c.args.chosen.now.saved)
          c.in_ok-text.ensures.ok c.in_ok-push_plan.ensures c.in_ok-push_profile.ensures blocks added.text_is units
          c.in_ok-push_total.ensures);
    }
