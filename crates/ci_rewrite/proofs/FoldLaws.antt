-- The steps of folding: which nodes lead to a member, and lists to which instructions are put one by one.
use Rattle.std.proofs.Common.{◌≡◌, ℕ, suc, ◌+◌, ◌-◌, ◌<◌, ◌≤◌, ◌⊎◌, ◌↔◌, Bool, true, false, not, ◌&&◌, ◌||◌, IsTrue}
use Rattle.std.proofs.Common.{List, [], ◌∷◌, ◌++◌, map, length, replicate, get_or, All}
use Rattle.std.proofs.Common.{refl, sym, ap, ◌∙◌, subst, inl, inr, arith, append-nil, append_assoc, true≢false}
use Rattle.std.specs.FinSet as set
use Rattle.std.specs.Ordering.{nat_cmp}
use Rattle.std.specs.Cmp.{nat_cmp_total}
use Rattle.std.specs.Option.{option_to_list}
use Rattle.std.specs.Prelude.{Option, Some, None, IfSome}
use Rattle.std.proofs.lemmas.Bool.{cases_eq, cases_lt, and_parts, and_from, or_cases, or_left, or_right}
use Rattle.std.proofs.lemmas.List.{replicate-append-replicate}
use Rattle.std.proofs.lemmas.List.Elements.{All-nil, All-cons, All-weaker, All-get_or, All-from_get_or, All-append, All-replicate}
use Rattle.ci_word.specs.Numbers.{numbers_below}
use Rattle.ci_word.proofs.NumberLaws.{numbers_below-zero, len-count_below}
use Rattle.ci_isa.specs.declared.instruction.Insn.{Insn}
use Rattle.ci_isa.specs.declared.instruction.Insn.TheVariants.{Ebreak}
use Rattle.ci_isa.specs.FieldBounds.{FieldsFit}
use Rattle.ci_isa.specs.Sequences.{nth_insn}
use Rattle.ci_isa.specs.Table.{IsWellFormed}
use Rattle.ci_isa.proofs.WellFormed.{fields_fit}
use Rattle.ci_cut.specs.FlowGraph.{FlowGraph, HasArc, node_at}
use Rattle.ci_cut.specs.GraphRules.{IsFlowGraph, AreNodes}
use Rattle.ci_cut.specs.Walks.{arc}
use Rattle.ci_cut.proofs.NodeLaws.{node_in-past}
use Rattle.ci_cut.proofs.WalkLaws.{first_arc, walk_on}
use Rattle.ci_cut.specs.Gain.{further_words}
use Rattle.ci_cut.specs.Ports.{size}
use Rattle.ci_dfg.proofs.InstructionLaws.{insn_there}
use Rattle.ci_unit.specs.Operands.{FitsSomeLimits}
use Rattle.ci_unit.specs.Uses.{input_put, unit_word, output_reads, use_of}
use Rattle.ci_unit.proofs.CountLaws.{made_here, not_made}
use Rattle.ci_rewrite.specs.Blocks.{AllFieldsFit}
use Rattle.ci_rewrite.specs.FoldedBlock.{IsFolded, LeadsToMember, no_op, places_left, those}
use Rattle.ci_rewrite.proofs.Lists.{all_those}

-- ---- members

-- the members of a cut that fits are nodes
pub members_are_nodes : (graph : FlowGraph) (cut : set.FinSet nat_cmp) → FitsSomeLimits graph (set.contains cut) → AreNodes graph cut
members_are_nodes graph cut (limits, fits) k member = elim (cases_lt k (length graph.nodes)) [
  | inl there ↦ there
  | inr past ↦ absurd (true≢false (sym (fits.eligible k member) ∙ ap (λ node. node.eligible) (node_in-past graph.nodes k past)))
]

-- and there are as many as the cut has
pub count_of_members : (graph : FlowGraph) (cut : set.FinSet nat_cmp) → FitsSomeLimits graph (set.contains cut)
    → set.len cut ≡ size graph (set.contains cut)
count_of_members graph cut fits = len-count_below (length graph.nodes) cut (members_are_nodes graph cut fits)

-- ---- nodes that lead to a member

module _ (graph : FlowGraph) (cut : set.FinSet nat_cmp) where
  abbrev member : ℕ → Bool
  member = set.contains cut

  -- the node is a member, or a walk leads from it to one
  abbrev pub IsReaching : ℕ → Type 0
  IsReaching k = IsTrue (member k) ⊎ LeadsToMember graph member k

  -- an arc leads to such a node that is not below j
  abbrev pub StepsPast : ℕ → ℕ → Type 0
  StepsPast j k = (b : ℕ) × (j ≤ b) × HasArc graph k b × IsReaching b

  -- the set has the members, and the nodes with such an arc
  abbrev pub AreReaching : set.FinSet nat_cmp → ℕ → Type 0
  AreReaching reaching j = (k : ℕ) → IsTrue (set.contains reaching k) ↔ (IsTrue (member k) ⊎ StepsPast j k)

  -- and then a walk leads on to a member
  leads_by : (j k : ℕ) → StepsPast j k → LeadsToMember graph member k
  leads_by j k (b, from, step, inl is) = (b, is, arc step)
  leads_by j k (b, from, step, inr (m, is, walk)) = (m, is, walk_on (arc step) walk)

  -- which is j, or a later one
  here_or_past : (j k : ℕ) → StepsPast j k → (HasArc graph k j × IsReaching j) ⊎ StepsPast (suc j) k
  here_or_past j k (b, from, step, goal) = elim (cases_eq b j) [
    | inl same ↦ inl (subst (HasArc graph k) same step, subst IsReaching same goal)
    | inr other ↦ inr (b, omega arith, step, goal)
  ]

  module _ (kept : IsFlowGraph graph) where
    -- a walk begins with an arc to a later node
    steps_behind : (k : ℕ) → LeadsToMember graph member k → StepsPast (suc k) k
    steps_behind k (m, is, walk) = elim (first_arc walk) [
      | inl only ↦ (m, kept.arcs_rise k m only, only, inl is)
      | inr (b, first, rest) ↦ (b, kept.arcs_rise k b first, first, inr (m, is, rest))
    ]

    -- no node has an arc past the last one
    pub members_alone : AreReaching cut (length graph.nodes)
    members_alone k = (
      λ is. inl is,
      λ reaches. elim reaches [
        | inl is ↦ is
        | inr (b, from, step, goal) ↦
            absurd (true≢false (sym step ∙ ap (λ node. set.contains node.before k) (node_in-past graph.nodes b from) ∙ set.contains-empty nat_cmp k))
      ],
    )

    module _ (reaching : set.FinSet nat_cmp) (j : ℕ) (are : AreReaching reaching (suc j)) where
      -- all arcs from j are seen
      reaches_here : IsTrue (set.contains reaching j) ↔ IsReaching j
      reaches_here = (
        λ is. elim ((are j).0 is) [ inl here ↦ inl here | inr steps ↦ inr (leads_by (suc j) j steps) ],
        λ reaches. (are j).1 (elim reaches [ inl here ↦ inl here | inr leads ↦ inr (steps_behind j leads) ]),
      )

      earlier : (k : ℕ) → IsTrue (member k) ⊎ StepsPast (suc j) k → IsTrue (member k) ⊎ StepsPast j k
      earlier k (inl here) = inl here
      earlier k (inr (b, from, step, goal)) = inr (b, omega arith, step, goal)

      -- those with an arc into j are put in, where j is reaching
      pub more_reaching : set.contains reaching j ≡ true → AreReaching (set.union reaching (node_at graph j).before) j
      more_reaching is k = (
        λ has. elim (or_cases (set.contains reaching k) (set.contains (node_at graph j).before k) (sym union_is ∙ has)) [
          | inl before ↦ earlier k ((are k).0 before)
          | inr step ↦ inr (j, omega arith, step, reaches_here.0 is)
        ],
        λ reaches. union_is ∙ elim reaches [
          | inl here ↦ or_left (set.contains reaching k) (set.contains (node_at graph j).before k) ((are k).1 (inl here))
          | inr steps ↦ elim (here_or_past j k steps) [
            | inl (step, goal) ↦ or_right (set.contains reaching k) (set.contains (node_at graph j).before k) step
            | inr past ↦ or_left (set.contains reaching k) (set.contains (node_at graph j).before k) ((are k).1 (inr past))
          ]
        ],
      )
        where
          union_is : set.contains (set.union reaching (node_at graph j).before) k ≡ (set.contains reaching k || set.contains (node_at graph j).before k)
          union_is = set.contains-union nat_cmp_total reaching (node_at graph j).before k

      -- and nothing changes where it is not
      pub same_reaching : set.contains reaching j ≡ false → AreReaching reaching j
      same_reaching none k = (
        λ has. earlier k ((are k).0 has),
        λ reaches. elim reaches [
          | inl here ↦ (are k).1 (inl here)
          | inr steps ↦ elim (here_or_past j k steps) [
            | inl (step, goal) ↦ absurd (true≢false (sym (reaches_here.1 goal) ∙ none))
            | inr past ↦ (are k).1 (inr past)
          ]
        ],
      )

    -- without the members these are the early nodes
    pub early_are : (reaching : set.FinSet nat_cmp) → AreReaching reaching 0
        → (k : ℕ) → IsTrue (set.contains (set.difference reaching cut) k) ↔ ((¬ IsTrue (member k)) × LeadsToMember graph member k)
    early_are reaching are k = (
      λ has.
          let parts = and_parts (set.contains reaching k) (not (member k)) (sym difference_is ∙ has) in
          let outside : ¬ IsTrue (member k) = never (member k) parts.1 in
          (outside, elim ((are k).0 parts.0) [ inl is ↦ absurd (outside is) | inr steps ↦ leads_by 0 k steps ]),
      λ (outside, leads).
          let found = steps_behind k leads in
          let reaches = (are k).1 (inr (found.0, omega arith, found.2, found.3)) in
          difference_is ∙ and_from (set.contains reaching k) (not (member k)) reaches (no_member (member k) outside),
    )
      where
        difference_is : set.contains (set.difference reaching cut) k ≡ (set.contains reaching k && not (member k))
        difference_is = set.contains-difference nat_cmp_total reaching cut k

        never : (b : Bool) → not b ≡ true → b ≡ true → ⊥
        never b is member = grind arith

        no_member : (b : Bool) → (b ≡ true → ⊥) → not b ≡ true
        no_member true none = absurd (none refl)
        no_member false none = refl

-- ---- lists

module _ (insns before : List Insn) (p : ℕ → Bool) where
  -- the instructions below k whose numbers pass are put behind those before
  abbrev pub PutBelow : List Insn → ℕ → Type 0
  PutBelow items k = items ≡ before ++ map (nth_insn insns) (numbers_below k p)

  pub put_none : PutBelow before 0
  put_none = sym (ap (λ numbers. before ++ map (nth_insn insns) numbers) (numbers_below-zero p) ∙ append-nil before)

  module _ (items : List Insn) (k : ℕ) (so_far : PutBelow items k) where
    pub put_more : (insn : Insn) → p k ≡ true → k < length insns → insn ≡ get_or insns k insn → PutBelow (items ++ insn ∷ []) (k + 1)
    put_more insn is there read =
        ap (λ l. l ++ insn ∷ []) so_far ∙ append_assoc before (map (nth_insn insns) (numbers_below k p)) (insn ∷ [])
        ∙ ap (λ l. before ++ l)
        (made_here p (nth_insn insns) k (map (nth_insn insns) (numbers_below k p)) refl insn is (sym (insn_there insns k insn there read)))

    pub put_same : p k ≡ false → PutBelow items (k + 1)
    put_same none = so_far ∙ ap (λ l. before ++ l) (not_made p (nth_insn insns) k (map (nth_insn insns) (numbers_below k p)) refl none)

-- one no-op more behind those before
pub one_more : (before items : List Insn) (first k : ℕ) (insn : Insn) → first ≤ k → items ≡ before ++ replicate (k - first) insn
    → items ++ insn ∷ [] ≡ before ++ replicate (k + 1 - first) insn
one_more before items first k insn from so_far =
    ap (λ l. l ++ insn ∷ []) so_far ∙ append_assoc before (replicate (k - first) insn) (insn ∷ [])
    ∙ ap (λ l. before ++ l) (replicate-append-replicate (k - first) 1 insn ∙ ap (λ n. replicate n insn) count)
  where
    count : k - first + 1 ≡ k + 1 - first
    count = omega arith

-- a cut that fits has as many members as words of its use and places that are left
pub places_are_left : (graph : FlowGraph) (cut : ℕ → Bool) → FitsSomeLimits graph cut
    → (1 + further_words graph cut ≤ size graph cut) × (places_left graph cut ≡ size graph cut - (1 + further_words graph cut))
places_are_left graph cut (limits, fits) = let room = fits.room in (room, omega (arith, room))

-- those that are neither members nor early are not in both sets together
pub others_are : (insns : List Insn) (cut early : set.FinSet nat_cmp)
    → those insns (λ k. not (set.contains (set.union cut early) k)) ≡ those insns (λ k. not (set.contains cut k) && not (set.contains early k))
others_are insns cut early = λ i. those insns (λ k. neither k i)
  where
    by_parts : (a b : Bool) → not (a || b) ≡ (not a && not b)
    by_parts true b = refl
    by_parts false b = refl

    neither : (k : ℕ) → not (set.contains (set.union cut early) k) ≡ (not (set.contains cut k) && not (set.contains early k))
    neither k = ap not (set.contains-union nat_cmp_total cut early k) ∙ by_parts (set.contains cut k) (set.contains early k)

-- ---- fields

-- the fields of a word that is well formed fit
some_fits : (word : Option Insn) → IfSome word IsWellFormed → All FieldsFit (option_to_list word)
some_fits None well = All-nil FieldsFit
some_fits (Some insn) well = All-cons FieldsFit insn [] (fields_fit insn well) (All-nil FieldsFit)

-- so do those of the words of a use
pub use_fits : (insns : List Insn) (graph : FlowGraph) (cut : ℕ → Bool) (number : ℕ) (put : Option Insn) (unit : Insn) (reads : List Insn)
    → option_to_list put ≡ input_put insns graph cut → unit ≡ unit_word insns graph cut number
    → reads ≡ output_reads insns graph cut
    → IfSome put IsWellFormed × IsWellFormed unit × All IsWellFormed reads
    → AllFieldsFit (use_of insns graph cut number)
use_fits insns graph cut number put unit reads is_put is_unit are_reads well k below =
    All-get_or FieldsFit (use_of insns graph cut number) k Ebreak below
    (subst (All FieldsFit) (λ i. is_put i ++ (is_unit i ∷ are_reads i))
    (All-append FieldsFit (option_to_list put) (unit ∷ reads) (some_fits put well.0)
    (All-cons FieldsFit unit reads (fields_fit unit well.1) (All-weaker IsWellFormed FieldsFit fields_fit reads well.2))))

-- where the fields of a block and of the use fit, those of the folded block do
pub folded_fits : (insns : List Insn) (graph : FlowGraph) (cut : ℕ → Bool) (number : ℕ) (folded : List Insn)
    → IsFolded insns graph cut number folded → AllFieldsFit insns → AllFieldsFit (use_of insns graph cut number) → AllFieldsFit folded
folded_fits insns graph cut number folded is fit use_fit k below =
    All-get_or FieldsFit folded k Ebreak below
    (subst (All FieldsFit) (sym is.is_list)
    (All-append FieldsFit (those insns is.early ++ words ++ no_ops) (those insns (λ k. not (cut k) && not (is.early k)))
    (All-append FieldsFit (those insns is.early ++ words) no_ops
    (All-append FieldsFit (those insns is.early) words (those_fit is.early) (All-from_get_or FieldsFit words Ebreak use_fit))
    (All-replicate FieldsFit (places_left graph cut) no_op (omega arith, omega arith, (omega arith, omega arith))))
    (those_fit (λ k. not (cut k) && not (is.early k)))))
  where
    words : List Insn
    words = use_of insns graph cut number

    no_ops : List Insn
    no_ops = replicate (places_left graph cut) no_op

    those_fit : (test : ℕ → Bool) → All FieldsFit (those insns test)
    those_fit test = all_those FieldsFit insns test (length insns) (λ k below _. fit k below)
