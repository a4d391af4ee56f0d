use Rattle.std.proofs.Common.{sym, subst, arith}
use Rattle.ci_elf.specs.Executables.{HoldsAddress}
use Rattle.ci_elf.proofs.WordPlaceLaws.{place_at, place_below}
use Rattle.ci_elf.proofs.places.Places.at.Goals as goal

pub overflow_add-result : goal.overflow_add-result
overflow_add-result c =
    let inside = c.self.inside in
    let held = subst (λ rs. HoldsAddress rs c.args.address c.args.index) (sym c.self.view_is) c.requires in
    let is = place_at inside.ranges.items inside.firsts.items inside.count c.self.invariant c.args.address c.args.index held
    c.index.result.now c.index.ensures c.index-2.result.now c.index-2.ensures in
    omega (arith, c.self.invariant.all, c.self.invariant.fits, place_below inside.ranges.items c.args.address _ is)

pub returns : goal.returns
returns c =
    let inside = c.self.inside in
    let held = subst (λ rs. HoldsAddress rs c.args.address c.args.index) (sym c.self.view_is) c.requires in
    let is = place_at inside.ranges.items inside.firsts.items inside.count c.self.invariant c.args.address c.args.index held
    c.index.result.now c.index.ensures c.index-2.result.now c.index-2.ensures in
    rw (sym c.self.view_is) is
