use Rattle.std.proofs.Common.{map, take}
use Rattle.ci_verilog.specs.Values.{item_bits, joined}
use Rattle.ci_plan.specs.private.Drafts.{Grows, StandsFor}
use Rattle.ci_plan.proofs.names.Scope.items.Given as goal

abbrev pub invariant-loop-item : goal.invariant-loop-item
invariant-loop-item l = record {
  grows : Grows l.fn.draft l.draft;
  found :
      StandsFor l.self.module.now l.draft l.bits.place l.bits.width
      (λ names. joined (map (item_bits names) (take l.item-index l.items)));
}
