use Rattle.std.proofs.Common.{◌≡◌, length, ◌∙◌, subst}
use Rattle.std.specs.List.{Contains}
use Rattle.ci_block.specs.private.Marks.{Adds}
use Rattle.ci_block.specs.private.Sources.{IsFromMeeting}
use Rattle.ci_block.proofs.RangeLaws.{text_ranges}
use Rattle.ci_block.proofs.LeaderLaws.{all_marked, more_marked, none_marked}
use Rattle.ci_block.proofs.listing.marks_of.Goals as goal

pub new-requires : goal.new-requires
new-requires c = rw c.ranges-ranges.ensures.value (text_ranges c.args.image.now c.ranges-ranges.ensures.well_formed)

pub mark_from_text-requires : goal.mark_from_text-requires
mark_from_text-requires c = text_ranges c.args.image.now c.ranges-ranges.ensures.well_formed

pub mark_where_ranges_meet-requires : goal.mark_where_ranges_meet-requires
mark_where_ranges_meet-requires c = rw c.ranges-ranges.ensures.value (text_ranges c.args.image.now c.ranges-ranges.ensures.well_formed)

pub returns : goal.returns
returns c =
    let image = c.args.image.now in
    let text = c.ranges-ranges.ensures.value in
    let none = none_marked image.ranges c.in_ok-marks.marks (c.in_ok-marks.ensures.text ∙ text) c.in_ok-marks.ensures.none in
    let with_entry = more_marked none (subst (λ e. Adds c.in_ok-marks.marks c.mark.new.self (λ a. e ≡ a)) c.entry.ensures c.mark.ensures) in
    let with_text = more_marked with_entry c.mark_from_text.ensures in
    let with_meetings = more_marked with_text
    (subst (λ rs. Adds c.mark_from_text.new.marks c.mark_where_ranges_meet.new.marks (IsFromMeeting rs (length rs))) text c.mark_where_ranges_meet.ensures) in
    let with_symbols = more_marked with_meetings
    (subst (λ xs. Adds c.mark_where_ranges_meet.new.marks c.mark_all.new.self (λ a. Contains xs a)) c.symbols.ensures c.mark_all.ensures) in
    let with_data = more_marked with_symbols c.mark_from_data.ensures in
    let with_targets = more_marked with_data c.mark_all-2.ensures in
    all_marked image c.args.targets.now c.args.given.now (text_ranges image c.ranges-ranges.ensures.well_formed) c.mark_all-3.new.self
    (more_marked with_targets c.mark_all-3.ensures)
