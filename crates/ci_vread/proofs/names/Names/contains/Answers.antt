use Rattle.std.proofs.Common.{ap, ◌∙◌}
use Rattle.std.specs.Option.{is_some}
use Rattle.ci_vread.proofs.NameMaps.{known_by_lookup, is_some_copied}
use Rattle.ci_vread.proofs.names.Names.contains.Goals as goal

pub returns : goal.returns
returns c = λ known knows.
    let found = c.get.ensures.value ∙ knows.0 c.args.name.now in
    c.is_some.ensures ∙ (is_some_copied c.get.result ∙ (ap (λ o. is_some o) found ∙ known_by_lookup known c.args.name.now))
