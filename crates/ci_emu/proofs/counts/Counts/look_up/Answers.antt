use Rattle.std.proofs.Common.{Some, sym, ◌∙◌, arith}
use Rattle.ci_emu.proofs.CountLaws.{first_place, placed_alike, within_places}
use Rattle.ci_emu.proofs.counts.Counts.look_up.Goals as goal

pub returns-then-has_aligned_words-clause-within : goal.returns-then-has_aligned_words-clause-within
returns-then-has_aligned_words-clause-within c =
    within_places c.args.self.now.places c.args.address _ (Some c.in_ok-place.place) c.args.self.now.whole (sym c.in_ok-place.was ∙ c.near.ensures.place)

pub returns-else-has_aligned_words-clause-within : goal.returns-else-has_aligned_words-clause-within
returns-else-has_aligned_words-clause-within c =
    within_places c.args.self.now.places c.args.address _ (Some c.in_ok-place.place) c.args.self.now.whole (sym c.in_ok-place.was ∙ c.near.ensures.place)

pub overflow_sub-nearby : goal.overflow_sub-nearby
overflow_sub-nearby c =
    let is =
    first_place c.args.self.now.places c.ranges-text.ensures.ascending c.args.address c.near.new.last c.in_ok-place.place c.in_ok-place.ensures.last
    (sym c.near.ensures.place ∙ c.in_ok-place.was) c.ranges-text.result.now c.ranges-text.ensures.value in
    omega arith

pub returns-then-has_aligned_words-clause-nearby : goal.returns-then-has_aligned_words-clause-nearby
returns-then-has_aligned_words-clause-nearby c = record {
  placed =
      placed_alike c.args.self.now.places c.ranges-text.ensures.ascending c.args.address c.near.new.last c.in_ok-place.place c.in_ok-place.ensures.last
      (sym c.near.ensures.place ∙ c.in_ok-place.was) c.ranges-text.result.now c.ranges-text.ensures.value;
  aligned = c.has_aligned_words.ensures.aligned c.if-has_aligned_words.true;
  fits = c.has_aligned_words.ensures.fits c.if-has_aligned_words.true;
}
