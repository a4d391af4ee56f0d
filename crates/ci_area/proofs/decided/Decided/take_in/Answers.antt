use Rattle.std.proofs.Common.{◌-◌, arith, refl}
use Rattle.ci_area.specs.AreaPrefixes.{taken}
use Rattle.ci_area.proofs.DecidedLaws.{represents_in}
use Rattle.ci_area.proofs.PieceSums.{whole_area, whole_gain, area_fits, gain_fits}
use Rattle.ci_area.proofs.decided.Decided.take_in.Goals as goal

pub overflow_add-so_far : goal.overflow_add-so_far
overflow_add-so_far c =
    let some = c.requires.represents in
    omega (
      arith,
      some.1.area_is,
      whole_area c.args.pieces.now c.requires.pieces (taken c.args.pieces.now some.0),
      area_fits c.args.pieces.now c.requires.pieces (c.args.self.now.left - 1) (omega (arith, some.1.is_left, c.requires.some)),
    )

pub overflow_add-so_far-2 : goal.overflow_add-so_far-2
overflow_add-so_far-2 c =
    let some = c.requires.represents in
    omega (
      arith,
      some.1.gain_is,
      whole_gain c.args.pieces.now c.requires.pieces (taken c.args.pieces.now some.0),
      gain_fits c.args.pieces.now c.requires.pieces (c.args.self.now.left - 1) (omega (arith, some.1.is_left, c.requires.some)),
    )

pub returns-clause-represents : goal.returns-clause-represents
returns-clause-represents c prefix is =
    represents_in c.args.pieces.now prefix c.args.self.now is _ (omega (arith, c.requires.some)) c.insert.ensures refl refl
