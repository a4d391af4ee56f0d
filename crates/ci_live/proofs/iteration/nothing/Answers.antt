use Rattle.std.proofs.Common.{◌∙◌, ap, replicate, length}
use Rattle.ci_live.proofs.TransferLaws.{nothing_found}
use Rattle.ci_live.proofs.iteration.nothing.Goals as goal

pub returns : goal.returns
returns c =
    nothing_found c.args.flows.now _
    (c.in_ok-vec.ensures.items_if_clones_equal (λ y same. same) ∙ ap (λ s. replicate (length c.args.flows.now) s) c.empty.ensures)
    c.empty-2.ensures
