use Rattle.std.proofs.Common.{sym, subst}
use Rattle.std.specs.List.Sorted.{IsNonDecreasingBy, IsPermutation}
use Rattle.ci_elf.specs.private.LoadedPlaces.{IsSound}
use Rattle.ci_elf.proofs.image.Image.segments_by_address.Goals as goal

pub returns-clause-order : goal.returns-clause-order
returns-clause-order c =
    subst (IsNonDecreasingBy (λ s. s.address)) (sym c.deref.ensures.value) c.self.invariant.order

pub returns-clause-same : goal.returns-clause-same
returns-clause-same c =
    let sound = subst (λ image. IsSound image c.self.inside.by_address.items) c.self.view_is c.self.invariant in
    subst (IsPermutation c.args.self.now.segments) (sym c.deref.ensures.value) sound.same
