use Rattle.std.proofs.Common.{◌≡◌, ◌↔◌, ℕ, ◌+◌, ◌-◌, Bool, false, IsTrue, ◌∷◌, get_or, length, rules, w64, sym, ap, ◌∙◌, arith, subst}
use Rattle.std.proofs.lemmas.Int.{to_z-of_z}
use Rattle.std.specs.FinSet as set
use Rattle.ci_cut.specs.declared.graph.Source.TheVariants.{Made}
use Rattle.ci_cut.specs.Walks.{IsConvex}
use Rattle.ci_cut.specs.Ports.{is_read_by, outputs}
use Rattle.ci_cut.specs.Prefixes.{taken}
use Rattle.ci_cut.specs.Representation.{Reaches, AreLongest, bound_by}
use Rattle.ci_cut.proofs.NodeLaws.{node_there}
use Rattle.ci_cut.proofs.PrefixLaws.{next_parts}
use Rattle.ci_cut.proofs.OneMore.{bool_byte-is, bool_byte-le}
use Rattle.ci_cut.proofs.Represented.{settled_inputs-few, software-few, outputs-few, size-few}
use Rattle.ci_cut.proofs.Decisions as more
use Rattle.ci_cut.proofs.prefix.PrefixTerms.leave_out.Goals as goal

pub overflow_add-self : goal.overflow_add-self
overflow_add-self c =
    let represents = c.requires.next.2 in
    omega (
      arith,
      represents.settled_are,
      settled_inputs-few c.args.graph.now c.requires.next.0 represents.kept.few,
      c.from.ensures,
      bool_byte-le c.has-read.result,
    )

pub overflow_sub-self : goal.overflow_sub-self
overflow_sub-self c =
    let graph = c.args.graph.now in
    let prefix = c.requires.next.0 in
    let next = c.requires.next.3 in
    let below = more.node_below graph prefix c.args.node next in
    let read_node = node_there graph _ c.args.node _ c.nodes.ensures.value (omega (arith, below, ap length c.nodes.ensures.value)) c.index-nodes-node.is in
    omega (arith, c.requires.next.2.software_is, more.software_out graph prefix c.args.node next, ap (λ n. n.latency) (read_node ∙ c.index-nodes-node.is))

pub overflow_sub-self-2 : goal.overflow_sub-self-2
overflow_sub-self-2 c = omega (arith, c.requires.next.2.size_is, more.size_out c.args.graph.now c.requires.next.0 c.args.node c.requires.next.3)

pub returns-clause-represents : goal.returns-clause-represents
returns-clause-represents c prefix delays represents next =
    let graph = c.args.graph.now in
    let terms = c.args.self.now in
    let node = c.args.node in
    let below = more.node_below graph prefix node next in
    let same : taken graph prefix ≡ taken graph (false ∷ prefix) = sym (more.taken_out graph prefix node next) in
    let read_node = node_there graph _ node _ c.nodes.ensures.value (omega (arith, below, ap length c.nodes.ensures.value)) c.index-nodes-node.is in
    record {
      kept = represents.kept;
      within = omega (arith, below);
      decided = (next_parts graph prefix node next).1;
      is_taken = λ k. represents.is_taken k ∙ (λ i. same i k);
      is_reaching = λ k. subst (λ (cut : ℕ → Bool). IsTrue (set.contains terms.reaching k) ↔ Reaches graph cut k) same (represents.is_reaching k);
      is_read = λ source. represents.is_read source ∙ (λ i. is_read_by graph (same i) source);
      is_convex = subst (λ (cut : ℕ → Bool). IsTrue terms.convex ↔ IsConvex graph cut) same represents.is_convex;
      outputs_are = represents.outputs_are ∙ ap (outputs graph) same;
      settled_are =
          (λ i. represents.settled_are i + (c.from.ensures ∙ bool_byte-is c.has-read.result) i)
          ∙ sym (more.settled_out graph prefix node next c.has-read.result (c.has-read.ensures ∙ represents.is_read (Made node)));
      longest_is = subst (λ (cut : ℕ → Bool). AreLongest graph cut delays terms.longest) same represents.longest_is;
      software_is = omega (arith, represents.software_is, more.software_out graph prefix node next, ap (λ n. n.latency) (read_node ∙ c.index-nodes-node.is));
      size_is = omega (arith, represents.size_is, more.size_out graph prefix node next);
      bound_is = to_z-of_z w64 c.bound_left-self.result (search rules) ∙ c.bound_left-self.ensures;
    }

pub bound_left-self-requires-clause-software : goal.bound_left-self-requires-clause-software
bound_left-self-requires-clause-software c =
    let graph = c.args.graph.now in
    let prefix = c.requires.next.0 in
    let represents = c.requires.next.2 in
    let node = c.args.node in
    let next = c.requires.next.3 in
    let below = more.node_below graph prefix node next in
    let read_node = node_there graph _ node _ c.nodes.ensures.value (omega (arith, below, ap length c.nodes.ensures.value)) c.index-nodes-node.is in
    omega (
      arith,
      represents.software_is,
      more.software_out graph prefix node next,
      ap (λ n. n.latency) (read_node ∙ c.index-nodes-node.is),
      software-few graph prefix c.args.self.now c.requires.next.1 represents,
    )

pub bound_left-self-requires-clause-outputs : goal.bound_left-self-requires-clause-outputs
bound_left-self-requires-clause-outputs c = outputs-few c.args.graph.now c.requires.next.0 c.args.self.now c.requires.next.1 c.requires.next.2

pub bound_left-self-requires-clause-size : goal.bound_left-self-requires-clause-size
bound_left-self-requires-clause-size c =
    omega (
      arith,
      c.requires.next.2.size_is,
      more.size_out c.args.graph.now c.requires.next.0 c.args.node c.requires.next.3,
      size-few c.args.graph.now c.requires.next.0 c.args.self.now c.requires.next.1 c.requires.next.2,
    )

-- the bound is that of the terms with the node
pub bound_left-self-requires-clause-before : goal.bound_left-self-requires-clause-before
bound_left-self-requires-clause-before c =
    let graph = c.args.graph.now in
    let terms = c.args.self.now in
    let prefix = c.requires.next.0 in
    let represents = c.requires.next.2 in
    let node = c.args.node in
    let next = c.requires.next.3 in
    let below = more.node_below graph prefix node next in
    let read_node = node_there graph _ node _ c.nodes.ensures.value (omega (arith, below, ap length c.nodes.ensures.value)) c.index-nodes-node.is in
    let latency = (get_or c.nodes.result.now node c.index-nodes-node.result).latency in
    let latencies : terms.software ≡ terms.software - latency + latency = omega (
      arith,
      represents.software_is,
      more.software_out graph prefix node next,
      ap (λ n. n.latency) (read_node ∙ c.index-nodes-node.is),
    ) in
    let members : terms.size ≡ terms.size - 1 + 1 = omega (arith, represents.size_is, more.size_out graph prefix node next) in (
      terms.settled,
      omega arith,
      represents.bound_is ∙ (λ i. bound_by graph (latencies i) terms.longest terms.settled terms.outputs (members i)),
    )
