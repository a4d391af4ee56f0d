use Rattle.std.proofs.Common.{ap, ◌∙◌}
use Rattle.std.specs.Option.{unwrap_or}
use Rattle.ci_vread.proofs.NameMaps.{width_by_lookup}
use Rattle.ci_vread.proofs.names.Names.width.Goals as goal

pub returns : goal.returns
returns c = λ known knows.
    c.unwrap_or.ensures ∙ (ap (λ o. unwrap_or o 0) (c.copied.ensures ∙ (c.get.ensures.value ∙ knows.0 c.args.name.now)) ∙ width_by_lookup known c.args.name.now)
