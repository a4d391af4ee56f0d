use Rattle.std.proofs.Common.{ap, refl, sym, ◌∙◌}
use Rattle.ci_vread.specs.declared.tokens.Kind.TheVariants as kind
use Rattle.ci_vread.specs.private.Building.{token_of, token_in, name_in}
use Rattle.ci_vread.proofs.FrontTokens.{of_kind, no_name}
use Rattle.ci_vread.proofs.building.name_bytes.Goals as goal

pub returns-in-Name : goal.returns-in-Name
unfolding name_in
returns-in-Name c = sym (ap (λ s. name_in (token_in s)) (c.name_of.ensures c.in-Name.is))

pub returns-in-Sign : goal.returns-in-Sign
unfolding name_in
returns-in-Sign c =
    c.input_bytes.ensures
    ∙ ap name_in
    (of_kind c.args.text.now c.args.token (token_of c.args.text.now c.args.token) refl (kind.Sign c.in-Sign.sign) c.in-Sign.is)

pub returns-in_default : goal.returns-in_default
returns-in_default c =
    no_name c.args.text.now c.args.token (token_of c.args.text.now c.args.token) refl c.in_default.not-Name c.in_default.not-Sign
