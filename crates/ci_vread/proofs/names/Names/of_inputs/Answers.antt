use Rattle.std.proofs.Common.{[], ◌∷◌, codes}
use Rattle.ci_verilog.specs.Modules.{Known, vector}
use Rattle.ci_vread.proofs.names.Names.of_inputs.Goals as goal

pub returns : goal.returns
returns c =
    let a : Known = vector (codes "a") 32 in
    let b : Known = vector (codes "b") 32 in
    c.in_ok-define-3.ensures (a ∷ b ∷ []) (c.in_ok-define-2.ensures (a ∷ []) (c.in_ok-define.ensures [] c.new-names.ensures))
