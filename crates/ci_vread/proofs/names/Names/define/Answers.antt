use Rattle.std.proofs.Common.{ap, ◌∙◌, ◌+◌}
use Prim.Native.Nat.{min}
use Rattle.ci_verilog.specs.Modules.{Known, vector}
use Rattle.ci_vread.specs.private.Names.{width_at}
use Rattle.ci_vread.proofs.NameMaps.{takes_more, counts_more}
use Rattle.ci_vread.proofs.names.Names.define.Goals as goal

pub returns : goal.returns
returns c = λ known knows.
    let v : Known = vector c.args.name.now c.args.width in (
      λ q. takes_more (width_at c.args.self.now.widths) (width_at c.define_width.new.widths) known v q (c.in_ok-define_width.ensures q) (knows.0 q),
      ap (λ n. n + 1) (c.min.ensures ∙ ap (λ n. min n 2052) knows.1) ∙ counts_more known v,
    )
