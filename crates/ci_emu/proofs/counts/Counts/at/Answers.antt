use Rattle.std.proofs.Common.{◌<◌, ◌∙◌, length, rules, sym, Some}
use Rattle.std.proofs.lemmas.List.{get_or_default}
use Rattle.ci_emu.proofs.CountLaws.{count_read, within_places}
use Rattle.ci_emu.proofs.counts.Counts.at.Goals as goal
use Rattle.ci_emu.proofs.counts.Counts.at.Goals.{In-Some}

within : (c : In-Some) → c.in-Some.place < length c.args.self.now.by_place.items
within c = within_places c.args.self.now.places c.args.address _ (Some c.in-Some.place) c.args.self.now.whole c.in-Some.ensures

pub index-requires : goal.index-requires
index-requires c = let below = within (goal.at.index-requires c).In-Some in search rules

pub returns-in-Some : goal.returns-in-Some
returns-in-Some c =
    c.index.ensures
    ∙ get_or_default c.args.self.now.by_place.items c.in-Some.place _ 0 (within (goal.at.returns-in-Some c).In-Some)
    ∙ sym (count_read c.args.self.now c.args.address c.in-Some.place (sym c.in-Some.ensures))
