use Rattle.std.proofs.Common.{subst, ap, ◌∙◌, slice_index_or}
use Rattle.ci_verilog.specs.Modules.{IsInput}
use Rattle.ci_plan.specs.private.Drafts.{StandsFor}
use Rattle.ci_plan.specs.private.Names.{AreHeld}
use Rattle.ci_plan.proofs.NameLaws.{input_stands, wire_found, in_each}
use Rattle.ci_plan.proofs.names.Scope.name.Goals as goal

pub returns-in-Some : goal.returns-in-Some
returns-in-Some c draft held =
    input_stands c.args.self.now.module.now draft c.in-Some.place c.args.name.now c.in-Some.ensures.few
    (subst (λ w. IsInput w c.args.name.now c.in-Some.place) c.is_wide.ensures
    (subst (λ n. IsInput c.is_wide.result n c.in-Some.place) c.as_bytes.ensures c.in-Some.ensures.some))

pub returns : goal.returns
returns c =
    let wires = c.args.self.now.wires.now in
    in_each (slice_index_or wires c.in_ok-k.k c.index-self-k.result) (AreHeld c.args.self.now.module.now wires)
    (λ draft f. StandsFor c.args.self.now.module.now draft f.place f.width (λ names. names c.args.name.now))
    (λ draft held.
    wire_found c.args.self.now.module.now wires draft c.in_ok-k.k c.index-self-k.result c.as_slice-wires.result.now
    c.args.name.now held c.in_ok-k.ensures.some
    (c.as_slice-wires.ensures.value ∙ ap (λ w. w.list) c.wires.ensures.value) c.in_ok-k.ensures.named)
