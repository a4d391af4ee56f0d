use Rattle.std.proofs.Common.{◌≡◌, ℕ, ◌+◌, max, Bool, true, nat_eq, ◌||◌, IsTrue, List, ◌∷◌, length, sym, ap, ◌∙◌, arith, rules, w64, subst}
use Rattle.std.specs.Cmp.{nat_cmp_total}
use Rattle.std.specs.List.{list_any}
use Rattle.std.proofs.lemmas.Int.{to_z-of_z}
use Rattle.std.specs.FinSet as set
use Rattle.std.proofs.Math.ListN.{set as list_set}
use Rattle.std.proofs.lemmas.Bool.Decides.{nat_tests}
use Rattle.std.proofs.lemmas.List.{get_or_default}
use Rattle.ci_word.proofs.NumberLaws.{contains-insert_nat, count_below-le}
use Rattle.ci_cut.specs.declared.graph.Source.{Source}
use Rattle.ci_cut.specs.declared.graph.Source.TheVariants.{Made}
use Rattle.ci_cut.specs.FlowGraph.{is_source, reads}
use Rattle.ci_cut.specs.Ports.{is_output, size}
use Rattle.ci_cut.specs.Gain.{software}
use Rattle.ci_cut.specs.Prefixes.{taken}
use Rattle.ci_cut.specs.Representation.{row_at, IsDelayTo, AreLongest}
use Rattle.ci_cut.proofs.NodeLaws.{node_there}
use Rattle.ci_cut.proofs.PrefixLaws.{eligible_below, decided_parts, next_parts}
use Rattle.ci_cut.proofs.Represented.{settled_inputs-few, software-few, size-few}
use Rattle.ci_cut.proofs.ChainsTo.{delay_small, longest_more}
use Rattle.ci_cut.proofs.Decisions as more
use Rattle.ci_cut.proofs.prefix.PrefixTerms.take_in.Goals as goal

pub delay_to-delay-requires-clause-small : goal.delay_to-delay-requires-clause-small
delay_to-delay-requires-clause-small c k member =
    let graph = c.args.graph.now in
    let prefix = c.requires.next.0 in
    let represents = c.requires.next.1 in
    delay_small graph represents.kept (taken graph prefix) (λ j in_. eligible_below graph j (decided_parts graph (λ choice. choice) prefix j in_).0)
    c.args.delays.now c.args.self.now.longest represents.longest_is represents.kept.few k (sym (represents.is_taken k) ∙ member)

pub overflow_add-ports : goal.overflow_add-ports
overflow_add-ports c =
    let graph = c.args.graph.now in
    let prefix = c.requires.next.0 in
    omega (
      arith,
      c.requires.next.1.settled_are,
      settled_inputs-few graph prefix c.requires.next.1.kept.few,
      c.extend_settled.ensures.few,
    )

pub returns-clause-represents : goal.returns-clause-represents
returns-clause-represents c prefix represents next =
    let graph = c.args.graph.now in
    let terms = c.args.self.now in
    let rows = c.args.rows.now in
    let node = c.args.node in
    let flows = represents.kept in
    let below = more.node_below graph prefix node next in
    let same_taken : set.contains terms.taken ≡ taken graph prefix = λ i k. represents.is_taken k i in
    let read_node = node_there graph _ node _ c.nodes.ensures.value (omega (arith, below, ap length c.nodes.ensures.value)) c.index-nodes-node.is in
    let readers = λ (k : ℕ). c.requires.rows.readers node k below in
    let in_row = get_or_default rows.ancestors node set.empty c.index-rows-node.result (omega arith) in
    let most : c.max-longest.result ≡ max terms.longest c.delay_to-delay.result = grind (arith, nat_tests) in
    let own_is = ap (λ n. n.delay) (sym read_node) in
    let are = c.as_slice.ensures ∙ ap (λ n. n.sources) (sym read_node) in
    record {
      kept = flows;
      within = omega (arith, below);
      decided = (next_parts graph prefix node next).1;
      is_taken = λ k.
          ap (λ s. set.contains s k) c.insert.ensures ∙ contains-insert_nat terms.taken node k
          ∙ ap (λ b. nat_eq k node || b) (represents.is_taken k) ∙ sym (more.taken_in graph prefix node next k);
      is_reaching = λ k.
          more.reaches_in graph prefix node next k (set.contains terms.reaching k) (set.contains (row_at rows.ancestors node) k) _
          (ap (λ s. set.contains s k) (c.union.ensures.value ∙ (λ i. set.union terms.reaching (sym in_row i))) ∙ set.contains-union nat_cmp_total
          terms.reaching _ k)
          (represents.is_reaching k) (c.requires.rows.ancestors k node below);
      is_read = more.read_in graph prefix node next flows terms.read c.extend_settled.new.self c.as_slice.result.now are
          represents.is_read c.extend_settled.ensures.holds;
      is_convex = c.convex_with.ensures graph prefix c.args.delays.now c.requires.rows represents next;
      outputs_are = c.outputs_with.ensures prefix c.args.delays.now represents next;
      settled_are =
          ap (λ m. m + c.extend_settled.result) represents.settled_are
          ∙ sym (more.settled_in graph prefix node next flows terms.read c.extend_settled.new.self c.as_slice.result.now are
          represents.is_read c.extend_settled.ensures.holds c.extend_settled.result c.extend_settled.ensures.counted);
      longest_is =
          subst (AreLongest graph (taken graph (true ∷ prefix)) (list_set c.args.delays.now node c.delay_to-delay.result)) (sym most)
          (longest_more graph flows (taken graph prefix) (taken graph (true ∷ prefix)) node (more.above graph prefix node next (λ choice. choice))
          (more.taken_node graph prefix node next) (more.extends graph prefix node next).within (more.taken_cases graph prefix node next)
          c.args.delays.now terms.longest c.delay_to-delay.result (omega arith) represents.longest_is
          (subst (λ (own : ℕ). IsDelayTo (λ m. reads graph m (Made node)) (taken graph prefix) c.args.delays.now own c.delay_to-delay.result) own_is
          (subst (λ (cut : ℕ → Bool). IsDelayTo (λ m. reads graph m (Made node)) cut c.args.delays.now c.index-nodes-node.result.delay
          c.delay_to-delay.result) same_taken
          (subst (λ (who : ℕ → Bool). IsDelayTo who (set.contains terms.taken) c.args.delays.now c.index-nodes-node.result.delay
          c.delay_to-delay.result) (λ i k. readers k i) c.delay_to-delay.ensures))));
      software_is = represents.software_is ∙ ap (software graph) (sym (more.possible_in graph prefix node next));
      size_is = represents.size_is ∙ ap (size graph) (sym (more.possible_in graph prefix node next));
      bound_is = to_z-of_z w64 c.bound_of.result (search rules) ∙ c.bound_of.ensures;
    }

pub bound_of-requires-clause-software : goal.bound_of-requires-clause-software
bound_of-requires-clause-software c = software-few c.args.graph.now c.requires.next.0 c.args.self.now c.args.delays.now c.requires.next.1

pub bound_of-requires-clause-outputs : goal.bound_of-requires-clause-outputs
bound_of-requires-clause-outputs c =
    let graph = c.args.graph.now in
    omega (
      arith,
      c.outputs_with.ensures c.requires.next.0 c.args.delays.now c.requires.next.1 c.requires.next.2,
      c.requires.next.1.kept.few,
      count_below-le (length graph.nodes) (is_output graph (taken graph (true ∷ c.requires.next.0))),
    )

pub bound_of-requires-clause-size : goal.bound_of-requires-clause-size
bound_of-requires-clause-size c = size-few c.args.graph.now c.requires.next.0 c.args.self.now c.args.delays.now c.requires.next.1

pub delay_to-delay-requires-clause-own : goal.delay_to-delay-requires-clause-own
delay_to-delay-requires-clause-own c =
    let graph = c.args.graph.now in
    let node = c.args.node in
    let below = more.node_below graph c.requires.next.0 node c.requires.next.2 in
    let read_node = node_there graph _ node _ c.nodes.ensures.value (omega (arith, below, ap length c.nodes.ensures.value)) c.index-nodes-node.is in
    omega (arith, c.requires.next.1.kept.delay_most node, ap (λ n. n.delay) read_node)

pub extend_settled-requires-clause-nodes : goal.extend_settled-requires-clause-nodes
extend_settled-requires-clause-nodes c k is_read =
    let graph = c.args.graph.now in
    let node = c.args.node in
    let below = more.node_below graph c.requires.next.0 node c.requires.next.2 in
    let read_node = node_there graph _ node _ c.nodes.ensures.value (omega (arith, below, ap length c.nodes.ensures.value)) c.index-nodes-node.is in
    let are = c.as_slice.ensures ∙ ap (λ n. n.sources) (sym read_node) in
    omega (
      arith,
      below,
      c.requires.next.1.kept.sources_rise k node (subst (λ (sources : List Source). IsTrue (list_any (is_source (Made k)) sources)) are is_read),
    )
