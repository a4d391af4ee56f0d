use Rattle.std.proofs.lemmas.Bool.Decides.{not_from_Decides}
use Rattle.ci_pair.proofs.leaves.pruning_item.Goals as goal

pub returns-then-is_right : goal.returns-then-is_right
returns-then-is_right c prefix delays represents unmirrored after = (tt, (c.is_right.ensures prefix delays represents).0 c.if-is_right.true)

pub returns-then-is_right-2 : goal.returns-then-is_right-2
returns-then-is_right-2 c prefix delays represents unmirrored after = (tt, (c.is_right-2.ensures prefix delays represents).0 c.if-is_right-2.true)

pub returns-then-is_right-3 : goal.returns-then-is_right-3
returns-then-is_right-3 c prefix delays represents unmirrored after = (tt, (c.is_right-3.ensures prefix delays represents).0 c.if-is_right-3.true)

pub returns : goal.returns
returns c prefix delays represents unmirrored after =
    c.pruning_left.ensures prefix delays represents unmirrored after (record {
      outputs = not_from_Decides _ (c.is_right.ensures prefix delays represents) c.if-is_right.false;
      convex = not_from_Decides _ (c.is_right-2.ensures prefix delays represents) c.if-is_right-2.false;
      one_way = not_from_Decides _ (c.is_right-3.ensures prefix delays represents) c.if-is_right-3.false;
    })
