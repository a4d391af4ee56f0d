use Rattle.std.proofs.Common.{◌≡◌, ◌≤◌, None, ◌+◌, ◌∷◌, drop, sym, subst, arith, rules}
use Rattle.ci_verilog.specs.Modules.{known_by, AreItems}
use Rattle.ci_verilog.proofs.WidthLaws.{Tells, Leaves, leaves_less, untold_item, too_wide, next_item, all_tell}
use Rattle.ci_verilog.proofs.wires.Wires.items_width.Goals as goal

pub returns-in_err-width : goal.returns-in_err-width
returns-in_err-width c =
    let known = known_by c.args.self.now in
    let items = c.args.items.now in
    let item = c.item-item.result in
    let is_next : drop c.loop-item.item-index items ≡ item ∷ drop (c.loop-item.item-index + 1) items =
    next_item known items c.loop-item.item-index item (omega arith) c.item-item.is in
    let leaves = subst (λ rest. Leaves known items rest c.loop-item.sum) is_next c.loop-item.invariant.leaves in
    let nothing : c.from_residual.result ≡ None = search rules in
    subst (λ r. Tells (λ w. AreItems known items w × (w ≤ 64)) r) (sym nothing)
    (untold_item known items (drop (c.loop-item.item-index + 1) items) item c.loop-item.sum c.item_width.result
    c.in_err-width.was c.item_width.ensures leaves)

pub returns-then-width-sum : goal.returns-then-width-sum
returns-then-width-sum c =
    let known = known_by c.args.self.now in
    let items = c.args.items.now in
    let item = c.item-item.result in
    let is_next : drop c.loop-item.item-index items ≡ item ∷ drop (c.loop-item.item-index + 1) items =
    next_item known items c.loop-item.item-index item (omega arith) c.item-item.is in
    let leaves = subst (λ rest. Leaves known items rest c.loop-item.sum) is_next c.loop-item.invariant.leaves in
    too_wide known items (drop (c.loop-item.item-index + 1) items) (c.loop-item.sum + c.in_ok-width.width) (omega arith)
    (leaves_less known items (drop (c.loop-item.item-index + 1) items) item c.loop-item.sum c.in_ok-width.width
    c.item_width.result c.in_ok-width.was c.item_width.ensures leaves)

pub loop-item-preserved : goal.loop-item-preserved
loop-item-preserved c =
    let known = known_by c.args.self.now in
    let items = c.args.items.now in
    let item = c.item-item.result in
    let is_next : drop c.loop-item.item-index items ≡ item ∷ drop (c.loop-item.item-index + 1) items =
    next_item known items c.loop-item.item-index item (omega arith) c.item-item.is in
    let leaves = subst (λ rest. Leaves known items rest c.loop-item.sum) is_next c.loop-item.invariant.leaves in
    record {
      narrow = omega arith;
      leaves =
          leaves_less known items (drop (c.loop-item.item-index + 1) items) item c.loop-item.sum c.in_ok-width.width
          c.item_width.result c.in_ok-width.was c.item_width.ensures leaves;
    }

pub returns-else-is_empty : goal.returns-else-is_empty
returns-else-is_empty c =
    all_tell (known_by c.args.self.now) c.args.items.now c.loop-item.item-index c.loop-item.sum c.loop-item.invariant.narrow
    (omega arith) (search rules) c.loop-item.invariant.leaves
