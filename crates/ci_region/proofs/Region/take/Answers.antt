use Rattle.std.proofs.Common.{true≢false, refl, sym, ap, ◌∙◌, arith}
use Rattle.std.specs.FinMap as map
use Rattle.ci_region.specs.BoundedMap.{BoundedMap}
use Rattle.ci_region.proofs.MapLaws.{get-insert_same}
use Rattle.ci_region.proofs.ValueLaws.{get-values_in}
use Rattle.ci_region.proofs.CellLaws.{first_within, first_is_free, first_has_room, used_is, capacity_is, used_at_most}
use Rattle.ci_region.proofs.CellLaws.{same_start, same_room, AreCells-take, region-take}
use Rattle.ci_region.proofs.Region.take.Goals as goal

pub returns-then-self-clause-full : goal.returns-then-self-clause-full
returns-then-self-clause-full g c = (
  λ e. omega (
    arith,
    used_is _ _ _ _ _ _ _ c.self.view_is c.self.invariant.0 c.self.invariant.1,
    capacity_is _ _ _ _ _ _ _ c.self.view_is c.self.invariant.0 c.self.invariant.1,
    c.if-self.true,
  ),
  λ e. refl,
)

pub returns-then-self-clause-bounded : goal.returns-then-self-clause-bounded
returns-then-self-clause-bounded g c =
    used_at_most _ _ _ _ _ _ _ c.self.view_is c.self.invariant.0 c.self.invariant.1

pub fill-self-inside-requires-clause-within : goal.fill-self-inside-requires-clause-within
fill-self-inside-requires-clause-within g c = omega (arith, first_within _ _ _ _ c.self.invariant.0)

pub fill-self-inside-requires-clause-room : goal.fill-self-inside-requires-clause-room
fill-self-inside-requires-clause-room g c =
    let room = first_has_room _ _ _ _ c.self.invariant.0 _ _ c.self.invariant.1 c.if-self.false in
    omega (arith, room, c.self.invariant.1)

pub fill-self-inside-requires-clause-free : goal.fill-self-inside-requires-clause-free
fill-self-inside-requires-clause-free g c = grind (arith, first_is_free _ _ _ _ c.self.invariant.0)

pub overflow_add-number : goal.overflow_add-number
overflow_add-number g c =
    let room = first_has_room _ _ _ _ c.self.invariant.0 _ _ c.self.invariant.1 c.if-self.false in
    record { fits = omega (arith, room) }

pub invariant_of-self : goal.invariant_of-self
invariant_of-self g c =
    let are = c.self.invariant.0 in let filled = c.fill-self-inside.ensures in
    let room = first_has_room _ _ _ _ are _ _ c.self.invariant.1 c.if-self.false in
    let start = same_start _ _ _ _ _ _ _ are filled.next_free filled.in_place filled.next in
    let left = same_room _ _ _ _ _ _ _ are filled.next_free filled.in_place filled.next c.max-self-inside.result
    (omega (arith, c.max-self-inside.ensures)) (omega (arith, room, c.self.invariant.1)) in
    let lease = c.self.invariant.2 in (
      AreCells-take _ _ _ _ _ _ _ are filled.next_free filled.in_place filled.next _
          (omega (arith, c.max-self-inside.ensures)),
      omega (arith, left, c.self.invariant.1),
      (lease.0 ∙ sym start, lease.1, lease.2),
    )

pub returns-clause-holds : goal.returns-clause-holds
returns-clause-holds g c =
    let filled = c.fill-self-inside.ensures in
    rw c.of.ensures
    (region-take _ _ _ _ _ _ _ c.self.invariant.0 filled.next_free filled.in_place filled.next _ _ c.self.view_is)

pub returns-clause-live : goal.returns-clause-live
returns-clause-live g c =
    ap (λ (m : BoundedMap g.row.T.Denot). map.get m.values c.of.result) (returns-clause-holds g c)
    ∙ get-insert_same c.args.self.now.values c.of.result c.args.value

pub returns-clause-was_free : goal.returns-clause-was_free
returns-clause-was_free g c =
    let free = first_is_free _ _ _ _ c.self.invariant.0 in
    rw c.of.ensures (rw (← c.self.view_is) (get-values_in c.self.inside.cells.cells c.self.inside.first_free ∙ free))

pub returns-clause-below_capacity : goal.returns-clause-below_capacity
returns-clause-below_capacity g c =
    let room = first_has_room _ _ _ _ c.self.invariant.0 _ _ c.self.invariant.1 c.if-self.false in
    omega (arith, room, capacity_is _ _ _ _ _ _ _ c.self.view_is c.self.invariant.0 c.self.invariant.1)

pub returns-clause-full : goal.returns-clause-full
returns-clause-full g c = (
  λ e. absurd (true≢false (sym e)),
  λ e. absurd (omega (
    arith,
    e,
    used_is _ _ _ _ _ _ _ c.self.view_is c.self.invariant.0 c.self.invariant.1,
    capacity_is _ _ _ _ _ _ _ c.self.view_is c.self.invariant.0 c.self.invariant.1,
    c.if-self.false,
  )),
)

pub returns-clause-bounded : goal.returns-clause-bounded
returns-clause-bounded g c =
    used_at_most _ _ _ _ _ _ _ c.self.view_is c.self.invariant.0 c.self.invariant.1
