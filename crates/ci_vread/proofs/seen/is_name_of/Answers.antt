use Rattle.std.proofs.Common.{ap, sym, ◌∙◌}
use Rattle.std.specs.Str.{bytes_eq}
use Rattle.ci_vread.proofs.NameMaps.{same_is_eq}
use Rattle.ci_vread.proofs.seen.is_name_of.Goals as goal

pub returns : goal.returns
returns c =
    c.eq.ensures ∙ (ap (λ b. bytes_eq c.args.name.now b) (c.as_bytes.ensures.value ∙ c.in_ok-due.ensures.ok) ∙ sym (same_is_eq c.args.name.now _))
