use Rattle.ci_vread.proofs.FrontTokens.{passed}
use Rattle.ci_vread.proofs.building.Builder.pass.Goals as goal

pub returns : goal.returns
returns c =
    passed c.args.self.now.text.now c.args.self.now.tokens.now c.args.count c.min.result c.min.ensures
