-- For private contracts: how the value of `Graph` is stored, for proofs to tell values apart.
use Rattle.std.specs.Prelude.{◌≡◌, ℕ, Bool, List, refl, ◌⊎◌}
use Rattle.std.proofs.Common.{inl, inr}
use Rattle.std.specs.Ordering.{nat_cmp}
use Rattle.std.specs.FinSet as set
use Rattle.std.specs.Coded.{Coded, code_by, coded×, coded_ℕ, coded⊎, coded_bool, coded_list}
use Rattle.ci_cut.specs.declared.graph.Source.{Source}
use Rattle.ci_cut.specs.declared.graph.Source.TheVariants.{Entry, Made}
use Rattle.ci_cut.specs.declared.graph.Node.{Node}
use Rattle.ci_cut.specs.FlowGraph.{FlowGraph}

abbrev source_parts : Source → ℕ ⊎ ℕ
source_parts (Entry r) = inl r
source_parts (Made k) = inr k

abbrev source_of : ℕ ⊎ ℕ → Source
source_of (inl r) = Entry r
source_of (inr k) = Made k

pub source_again : (source : Source) → source_of (source_parts source) ≡ source
source_again (Entry r) = refl
source_again (Made k) = refl

abbrev coded_source : Coded Source
coded_source = code_by (ℕ ⊎ ℕ) (coded⊎ coded_ℕ coded_ℕ) source_parts source_of source_again

abbrev coded_node : Coded Node
coded_node =
    code_by (Bool × (ℕ × (ℕ × (List Source × (set.FinSet nat_cmp × Bool)))))
    (coded× coded_bool
    (coded× coded_ℕ (coded× coded_ℕ (coded× (coded_list coded_source) (coded× (set.code coded_ℕ) coded_bool)))))
    (λ n. (n.eligible, (n.latency, (n.delay, (n.sources, (n.before, n.live))))))
    (λ p. record {
      eligible = p.0;
      latency = p.1.0;
      delay = p.1.1.0;
      sources = p.1.1.1.0;
      before = p.1.1.1.1.0;
      live = p.1.1.1.1.1;
    })
    (λ _. refl)

abbrev pub coded_graph : Coded FlowGraph
coded_graph =
    code_by (List Node × (ℕ × ℕ)) (coded× (coded_list coded_node) (coded× coded_ℕ coded_ℕ))
    (λ g. (g.nodes, (g.read, g.pad))) (λ p. record { nodes = p.0; read = p.1.0; pad = p.1.1 }) (λ _. refl)
