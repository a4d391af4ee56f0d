use Rattle.std.proofs.Common.{◌≢◌, ℕ, length, refl, ap, ◌∙◌, arith}
use Rattle.std.proofs.lemmas.Bool.{false_from_ne_true}
use Rattle.std.specs.FinSet as set
use Rattle.ci_cut.proofs.OneMore.{sum_one_more}
use Rattle.ci_cut.proofs.SetLaws.{contains_new}
use Rattle.ci_area.specs.Pieces.{area_at}
use Rattle.ci_area.proofs.GreedyLaws.{tried_more, other_kept}
use Rattle.ci_area.proofs.PieceSums.{whole_area, area_fits}
use Rattle.ci_area.proofs.greedy.Tried.with.Goals as goal

pub overflow_add-area : goal.overflow_add-area
overflow_add-area c =
    omega (
      arith,
      c.requires.so_far.area_is,
      whole_area c.args.pieces.now c.requires.pieces (set.contains c.args.self.now.chosen),
      area_fits c.args.pieces.now c.requires.pieces c.args.next c.requires.first.0,
    )

pub returns-then-area-limit-clause-so_far : goal.returns-then-area-limit-clause-so_far
returns-then-area-limit-clause-so_far c =
    let is = c.requires.so_far in
    tried_more c.args.pieces.now c.args.limit c.args.next c.args.self.now is c.requires.first _ c.insert.ensures (λ k other. refl) (
      λ in_. absurd (c.requires.first.1 (is.were_tried c.args.next in_)),
      λ h. absurd (omega (arith, h, is.area_is, c.if-area-limit.true)),
    )
    is.area_is is.fits

pub returns-clause-so_far : goal.returns-clause-so_far
returns-clause-so_far c =
    let is = c.requires.so_far in
    let chosen = c.args.self.now.chosen in
    let next = c.args.next in
    let others = λ (k : ℕ) (other : k ≢ next). ap (λ s. set.contains s k) c.insert-2.ensures ∙ other_kept chosen next k other in
    let here = ap (λ s. set.contains s next) c.insert-2.ensures ∙ contains_new chosen next in
    let out = false_from_ne_true (set.contains chosen next) (λ in_. c.requires.first.1 (is.were_tried next in_)) in
    tried_more c.args.pieces.now c.args.limit next c.args.self.now is c.requires.first _ c.insert.ensures others
    ((λ _. omega (arith, is.area_is, c.if-area-limit.false)), (λ _. here))
    (omega (
      arith,
      is.area_is,
      sum_one_more (set.contains chosen) (set.contains c.insert-2.new.self) next out here others (length c.args.pieces.now)
          (area_at c.args.pieces.now) c.requires.first.0,
    ))
    (omega (arith, c.if-area-limit.false))
