use Rattle.std.proofs.Common.{◌∙◌}
use Rattle.std.proofs.lemmas.Result.{on_ok_weaker}
use Rattle.ci_log.proofs.PackingLaws.{all_written}
use Rattle.ci_log.proofs.packing.push_packed.Goals as goal

pub returns : goal.returns
returns c = on_ok_weaker c.push_filling.result (λ e. e ∙ all_written _ _ _ _ _ c.args.items.now c.in_ok-waiting.ensures.written c.in_ok-high.ensures.written)
    c.push_filling.ensures
