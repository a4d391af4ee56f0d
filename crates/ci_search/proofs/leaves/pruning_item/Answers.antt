use Rattle.std.proofs.lemmas.Bool.Decides.{not_from_Decides}
use Rattle.ci_log.specs.declared.log.Item.TheVariants.{B, O, C, I, G, F}
use Rattle.ci_search.proofs.leaves.pruning_item.Goals as goal

pub returns-then-is_right : goal.returns-then-is_right
returns-then-is_right c prefix delays represents = (tt, (c.is_right.ensures prefix delays represents).0 c.if-is_right.true)

pub returns-then-is_right-2 : goal.returns-then-is_right-2
returns-then-is_right-2 c prefix delays represents = (tt, (c.is_right-2.ensures prefix delays represents).0 c.if-is_right-2.true)

pub returns-then-is_right-3 : goal.returns-then-is_right-3
returns-then-is_right-3 c prefix delays represents = (tt, (c.is_right-3.ensures prefix delays represents).0 c.if-is_right-3.true)

pub returns-then-is_right-4 : goal.returns-then-is_right-4
returns-then-is_right-4 c prefix delays represents = (tt, (c.is_right-4.ensures prefix delays represents).0 c.if-is_right-4.true)

pub returns : goal.returns
returns c prefix delays represents B prunes = absurd prunes
returns c prefix delays represents O prunes = not_from_Decides _ (c.is_right.ensures prefix delays represents) c.if-is_right.false
returns c prefix delays represents C prunes = not_from_Decides _ (c.is_right-2.ensures prefix delays represents) c.if-is_right-2.false
returns c prefix delays represents I prunes = not_from_Decides _ (c.is_right-3.ensures prefix delays represents) c.if-is_right-3.false
returns c prefix delays represents G prunes = not_from_Decides _ (c.is_right-4.ensures prefix delays represents) c.if-is_right-4.false
returns c prefix delays represents F prunes = absurd prunes
