use Rattle.std.proofs.Common.{pos, ◌-ℤ◌, sym, ◌∙◌, rules, w64, SFits}
use Rattle.ci_cut.specs.FlowGraph.{node_at}
use Rattle.std.proofs.lemmas.Int.{to_z-of_z}
use Rattle.ci_pair.specs.Pairs.{First, Second}
use Rattle.ci_pair.specs.Prefixes.{choices}
use Rattle.ci_pair.proofs.PrefixLaws.{same_next}
use Rattle.ci_pair.proofs.BoundSums.{shared_more}
use Rattle.ci_pair.proofs.terms.PairTerms.put_in_first.Goals as goal

pub returns-clause-represents : goal.returns-clause-represents
returns-clause-represents c prefix represents next =
    let graph = c.args.graph.now in
    let node = c.args.node in
    let fits : SFits w64 c.shared_without-self.result = search rules in
    record {
      first = c.take_in-self.ensures.represents (choices First prefix) represents.first next;
      second = c.leave_out.ensures.represents (choices Second prefix) c.args.delays.now.second represents.second (same_next graph First Second prefix node next);
      same_place = c.leave_out.ensures.place ∙ sym c.take_in-self.ensures.place;
      shared_is = to_z-of_z w64 c.shared_without-self.result fits ∙ c.shared_without-self.ensures
          ∙ (λ i. represents.shared_is i -ℤ (pos (node_at graph node).latency -ℤ pos graph.pad)) ∙ sym (shared_more graph prefix node next First);
    }
