use Rattle.std.proofs.Common.{◌^◌, arith, pow_pos}
use Rattle.std.proofs.lemmas.Nat.{or_lt, mod_below}
use Rattle.ci_word.proofs.RowLaws.{AreRowWords-set, numbers_in-insert}
use Rattle.ci_word.proofs.row_set.Row.insert.Goals as goal

pub invariant_of-self : goal.invariant_of-self
invariant_of-self c =
    AreRowWords-set _ _ _ c.self.invariant (omega arith) (or_lt 64 _ _ (c.self.invariant.1 _) (mod_below _ (2 ^ 64) (pow_pos 64)))

pub returns : goal.returns
returns c = numbers_in-insert c.self.inside.words c.args.self.now c.args.n c.self.view_is c.self.told (omega arith)
