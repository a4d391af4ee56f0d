use Rattle.std.proofs.Common.{sym, ap, ◌∙◌, arith}
use Rattle.std.specs.FinSet as set
use Rattle.std.proofs.lemmas.List.{get_or_default}
use Rattle.ci_cut.proofs.WayBack.{outside_parts, outside_from}
use Rattle.ci_cut.proofs.prefix.PrefixTerms.is_read_outside.Goals as goal

pub returns : goal.returns
returns c =
    let in_row = get_or_default c.args.rows.now.readers c.args.node set.empty c.index-rows-node.result (omega arith) in
    let left = c.minus.ensures.value ∙ (λ i. set.difference (sym in_row i) c.args.self.now.taken) in (
      λ meets.
          let found = c.meets.ensures.value.0 meets in
          let parts = outside_parts _ _ _ left found.0 found.1 in
          (found.0, parts.0, parts.1),
      λ (k, reads, outside). c.meets.ensures.value.1 (k, outside_from _ _ _ left k reads outside, ap (λ s. set.contains s k) (sym in_row) ∙ reads),
    )
