use Rattle.std.proofs.Common.{ℕ, List, ◌/◌, ◌%◌, ◌^◌, arith, sym, subst, map, take, replicate}
use Rattle.std.proofs.lemmas.List.{take_all}
use Rattle.std.proofs.lemmas.Option.{IfSome_then}
use Rattle.ci_verilog.specs.declared.vectors.Vector.{Vector}
use Rattle.ci_verilog.specs.Values.{of_width, above, item_bits, joined}
use Rattle.ci_verilog.proofs.VectorLaws.{above_nothing}
use Rattle.ci_plan.specs.private.Drafts.{StandsFor}
use Rattle.ci_plan.proofs.DraftLaws.{grows_on, stands_for_later}
use Rattle.ci_plan.proofs.FoundLaws.{items_push}
use Rattle.ci_plan.proofs.NameLaws.{held_later}
use Rattle.ci_plan.proofs.names.Scope.items.Goals as goal

pub item-requires : goal.item-requires
item-requires c =
    held_later c.args.self.now.module.now c.args.self.now.wires.now c.args.draft.now c.loop-item.draft c.loop-item.invariant.grows c.requires

pub loop-item-init : goal.loop-item-init
loop-item-init c = record {
  grows = c.in_ok-bits.ensures.grows;
  found = c.in_ok-bits.ensures.found c.args.self.now.module.now;
}

pub loop-item-preserved : goal.loop-item-preserved
loop-item-preserved c =
    let m = c.args.self.now.module.now in
    let items = c.args.items.now in
    let l = c.loop-item in
    let d1 = c.item.new.draft in
    let d2 = c.joined.new.draft in
    let before = λ (names : List ℕ → Vector). joined (map (item_bits names) (take l.item-index items)) in
    let this = λ (names : List ℕ → Vector). item_bits names c.item-item.result in
    record {
      grows =
          grows_on c.args.draft.now l.draft d2 l.invariant.grows
          (grows_on l.draft d1 d2 c.in_ok-next.ensures.grows c.in_ok-more.ensures.grows);
      found =
          subst (λ (bits : (List ℕ → Vector) → Vector). StandsFor m d2 c.in_ok-more.more.place c.in_ok-more.more.width bits)
          (λ t. λ names. sym (items_push names items l.item-index c.item-item.result (omega arith) c.item-item.is) t)
          (c.in_ok-more.ensures.found m before this (stands_for_later m l.draft d1 l.bits.place l.bits.width before c.in_ok-next.ensures.grows l.invariant.found)
          c.in_ok-next.ensures.found);
    }

pub returns-in-Some-clause-found : goal.returns-in-Some-clause-found
returns-in-Some-clause-found c =
    let m = c.args.self.now.module.now in
    let name = c.in-Some.name.now in
    IfSome_then c.signed.result c.signed.ensures.found
    (λ found stands.
    subst (λ is. StandsFor m c.signed.new.draft found.place found.width (λ names. joined (map (item_bits names) is))) (sym c.in-Some.ensures)
    (subst (λ (bits : (List ℕ → Vector) → Vector). StandsFor m c.signed.new.draft found.place found.width bits)
    (λ t. λ names. above (joined (replicate 32 (of_width 1 ((names name).value / 2 ^ 31 % 2)))) (sym (above_nothing (names name)) t))
    (stands m (λ names. names name) (c.in_ok-from.ensures c.args.draft.now c.requires))))

pub returns-clause-found : goal.returns-clause-found
returns-clause-found c =
    let l = c.loop-item in
    subst (λ all. StandsFor c.args.self.now.module.now l.draft l.bits.place l.bits.width (λ names. joined (map (item_bits names) all)))
    (take_all l.item-index c.args.items.now (omega arith)) l.invariant.found
