-- The present blocks of a legal history can be folded, and their cuts are the best.
use Rattle.std.proofs.Common.{◌≡◌, ℕ, ◌<◌, ◌⊎◌, true, false, List, [], ◌∷◌, length, Some, refl, sym, ap, ◌∙◌, subst, inl, inr, arith}
use Rattle.std.specs.FinSet as finite
use Rattle.std.specs.List.{Contains}
use Rattle.std.specs.Ordering.{nat_cmp}
use Rattle.std.specs.Prelude.{slice_get}
use Rattle.std.proofs.lemmas.Option.{slice_get_within}
use Rattle.std.proofs.lemmas.Bool.{cases_eq, eq-eqb, ne_eqb}
use Rattle.ci_lat.specs.TableRules.{IsLatencyTable}
use Rattle.ci_isa.specs.declared.instruction.Insn.{Insn}
use Rattle.ci_block.specs.declared.blocks.Block.{Block}
use Rattle.ci_block.specs.Blocks.{AreInOrder}
use Rattle.ci_cut.specs.Best.{IsBest}
use Rattle.ci_cut.specs.FlowGraph.{FlowGraph}
use Rattle.ci_cut.specs.GraphRules.{IsFlowGraph}
use Rattle.ci_dfg.proofs.BlockIsGraph.{is_flow_graph}
use Rattle.ci_live.specs.Sets.{after_block}
use Rattle.ci_log.specs.declared.book.Entry.{Entry}
use Rattle.ci_log.specs.declared.book.Entry.TheVariants.{Best, Without, Spent, Take}
use Rattle.ci_log.specs.declared.log.Item.{Item}
use Rattle.ci_check.specs.Rules.{IsAccepted}
use Rattle.ci_check.proofs.Acceptance.{accepted_is_best}
use Rattle.ci_unit.specs.Operands.{AreOperands, FitsSomeLimits}
use Rattle.ci_unit.specs.Units.{Unit}
use Rattle.ci_rewrite.specs.Blocks.{IsBlock}
use Rattle.ci_rewrite.specs.FoldedBlock.{IsGraphOf}
use Rattle.ci_rewrite.proofs.BlockGraphs.{has_operands, keeps_shape}
use Rattle.ci_select.specs.declared.plan.Plan.{Plan}
use Rattle.ci_select.specs.declared.rounds.Due.TheVariants as due
use Rattle.ci_select.specs.Histories.{History, is_search_of, is_take_of, leader_of}
use Rattle.ci_select.specs.Instances.{Instance, AreOfSomeFile}
use Rattle.ci_select.specs.PresentBlocks.{HasPresentCut, IsPresent, original, unchanged, folded, graph_at}
use Rattle.ci_select.specs.Dues.{IsDue, IsNextTake, IsSearchDue, after_take, searches, takes_known, takes_new}
use Rattle.ci_select.specs.LegalBooks.{IsLegalHistory, IsRight, IsSearched, searched, taken}
use Rattle.ci_select.proofs.BlockForms.{block_can_be_folded}
use Rattle.ci_select.proofs.HistoryLaws.{kept_cut, last_search_is}
use Rattle.ci_select.proofs.SearchDues.{search_due_is_one}
use Rattle.ci_select.proofs.UnitLaws.{units_within_count}
pub use Rattle.ci_select.proofs.PresentIsOne.{blocks_in_order, one_block, present_cases, present_is_one, block_of_present, present_before}

-- ---- what is due

-- the search that is due is of this block
pub due_search : {instance : Instance} {history : History} {leader : ℕ} → IsDue instance history (due.Search leader) → IsSearchDue instance history leader
due_search (searches is) = is

-- a take that is due is of the candidate that is
pub record IsTakeDue (instance : Instance) (history : History) (leader number : ℕ) : Type 0 where
  pub units : List Unit
  pub unit : Unit
  pub next : IsNextTake instance history leader units unit
  pub number_is : (slice_get units number ≡ Some unit)
      ⊎ ((number ≡ length units) × (length units < instance.plan.count))

pub due_take : {instance : Instance} {history : History} {leader number : ℕ} → IsDue instance history (due.Take leader number)
    → IsTakeDue instance history leader number
due_take (takes_known next is) = record { units = _; unit = _; next = next; number_is = inl is }
due_take (takes_new next new few) = record { units = _; unit = _; next = next; number_is = inr (refl, few) }

-- ---- the cut that was found last

-- An entry that is right is a search that is due, which tells of the present graph, or a take that is due.
pub record IsSearchedAt (instance : Instance) (history : History) (entry : Entry) : Type 0 where
  pub insns : List Insn
  pub is_due : IsSearchDue instance history (leader_of entry)
  pub present : IsPresent instance history (leader_of entry) insns
  pub is_searched : IsSearched (graph_at instance (leader_of entry) insns) instance.plan entry

pub right_cases : {instance : Instance} {history : History} {entry : Entry} → IsRight instance history entry
    → IsSearchedAt instance history entry
    ⊎ ((leader : ℕ) × (unit : ℕ) × (entry ≡ Take leader unit) × IsTakeDue instance history leader unit)
right_cases (searched what present is) = inl (record { insns = _; is_due = due_search what; present = present; is_searched = is })
right_cases (taken {leader} {unit} what) = inr (leader, unit, refl, due_take what)

-- a search is no take
pub searched_is_no_take : (entry : Entry) (graph : FlowGraph) (plan : Plan) (leader : ℕ) → IsSearched graph plan entry → is_take_of leader entry ≡ false
searched_is_no_take (Best l cut log) graph plan leader is = refl
searched_is_no_take (Without l log) graph plan leader is = refl
searched_is_no_take (Spent l budget) graph plan leader is = refl
searched_is_no_take (Take l unit) graph plan leader is = absurd is

-- a search is one of its own block alone
pub own_search : (entry : Entry) (graph : FlowGraph) (plan : Plan) (leader : ℕ) → IsSearched graph plan entry → leader_of entry ≡ leader → is_search_of leader entry ≡ true
own_search (Best l cut log) graph plan leader is same = eq-eqb l leader same
own_search (Without l log) graph plan leader is same = eq-eqb l leader same
own_search (Spent l budget) graph plan leader is same = eq-eqb l leader same
own_search (Take l unit) graph plan leader is same = absurd is

-- and no other is
pub other_search : (entry : Entry) (leader : ℕ) → (leader_of entry ≡ leader → ⊥) → is_search_of leader entry ≡ false
other_search (Best l cut log) leader other = ne_eqb l leader other
other_search (Without l log) leader other = ne_eqb l leader other
other_search (Spent l budget) leader other = ne_eqb l leader other
other_search (Take l unit) leader other = refl

-- The log of the search that found the cut of a block is accepted for its present graph, unless a search is due.
pub record IsFound (instance : Instance) (leader : ℕ) (insns : List Insn) (cut : finite.FinSet nat_cmp) : Type 0 where
  pub log : List Item
  pub accepted : IsAccepted (graph_at instance leader insns) instance.plan.limits (Some cut) log

pub cut_is_found :
    {instance : Instance} {leader : ℕ} {insns : List Insn} {cut : finite.FinSet nat_cmp} (history : History)
    → AreInOrder instance.blocks → IsLegalHistory instance history → (IsSearchDue instance history leader → ⊥)
    → HasPresentCut instance history leader insns cut → IsFound instance leader insns cut
cut_is_found [] ordered legal not_due has = let none = has.has_cut.found in cc
cut_is_found {instance} {leader} {insns} {cut} (entry ∷ history) ordered legal not_due has = elim (right_cases legal.0) [
  | inl is ↦ elim (cases_eq (leader_of entry) leader) [
    | inl its ↦ found_here is its (sym (last_search_is entry history leader (own_search entry (graph_at instance (leader_of entry) is.insns) instance.plan leader is.is_searched its)) ∙ has.has_cut.found)
    | inr other ↦
        cut_is_found history ordered legal.1 (λ also. other (search_due_is_one is.is_due also))
        (before (searched_is_no_take entry (graph_at instance (leader_of entry) is.insns) instance.plan leader is.is_searched) (other_search entry leader other))
  ]
  | inr (l, unit, same, is) ↦ elim (cases_eq l leader) [
    | inl its ↦ absurd (not_due (due_behind l unit same its))
    | inr other ↦
        cut_is_found history ordered legal.1 (is.next.no_search leader)
        (before (ap (is_take_of leader) same ∙ ne_eqb l leader other) (ap (is_search_of leader) same))
  ]
]
  where
    before : is_take_of leader entry ≡ false → is_search_of leader entry ≡ false → HasPresentCut instance history leader insns cut
    before no_take no_search = record { present = present_before no_take has.present; has_cut = kept_cut no_search has.has_cut }

    due_behind : (l unit : ℕ) → entry ≡ Take l unit → l ≡ leader → IsSearchDue instance (entry ∷ history) leader
    due_behind l unit same its =
        subst (λ e. IsSearchDue instance (e ∷ history) leader) (sym same) (subst (IsSearchDue instance (Take l unit ∷ history)) its after_take)

    found_here : IsSearchedAt instance history entry → leader_of entry ≡ leader → Some entry ≡ Some (Best leader cut has.has_cut.log) → IsFound instance leader insns cut
    found_here is leads found = record { log = has.has_cut.log; accepted = accepted }
      where
        is_best : entry ≡ Best leader cut has.has_cut.log
        is_best = cc

        same_insns : is.insns ≡ insns
        same_insns = present_is_one instance history leader is.insns insns ordered
            (subst (λ l. IsPresent instance history l is.insns) leads is.present)
            (present_before (searched_is_no_take entry (graph_at instance (leader_of entry) is.insns) instance.plan leader is.is_searched) has.present)

        at_leader : IsSearched (graph_at instance leader is.insns) instance.plan entry
        at_leader = subst (λ l. IsSearched (graph_at instance l is.insns) instance.plan entry) leads is.is_searched

        accepted : IsAccepted (graph_at instance leader insns) instance.plan.limits (Some cut) has.has_cut.log
        accepted = subst (λ e. IsSearched (graph_at instance leader insns) instance.plan e) is_best
            (subst (λ i. IsSearched (graph_at instance leader i) instance.plan entry) same_insns at_leader)

-- so the cut fits the limits
pub cut_fits :
    {instance : Instance} {history : History} {leader : ℕ} {insns : List Insn} {cut : finite.FinSet nat_cmp}
    → AreInOrder instance.blocks → IsLegalHistory instance history → (IsSearchDue instance history leader → ⊥)
    → HasPresentCut instance history leader insns cut
    → FitsSomeLimits (graph_at instance leader insns) (finite.contains cut)
cut_fits {instance} {history} ordered legal not_due has =
    (instance.plan.limits, (cut_is_found history ordered legal not_due has).accepted.good.0)

-- ---- numbers of units

-- a take that is right is due
pub take_is_due : {instance : Instance} {history : History} {leader unit : ℕ} → IsRight instance history (Take leader unit)
    → IsTakeDue instance history leader unit
take_is_due (searched what present is) = absurd is
take_is_due (taken what) = due_take what

-- the number of a take is one of 32
pub take_is_small :
    {instance : Instance} {history : History} {leader unit : ℕ} → AreInOrder instance.blocks → IsLegalHistory instance history
    → IsTakeDue instance history leader unit → unit < 32
take_is_small {instance} {history} {leader} {unit} ordered legal is = elim is.number_is [
  | inl known ↦
      let among : unit < length is.units = slice_get_within is.units unit is.unit known in
      let few = units_within_count ordered legal is.next.units_are in
      omega (arith, instance.plan.count_in_range.1)
  | inr (new, few) ↦ omega (arith, instance.plan.count_in_range.1)
]

-- ---- what holds of present blocks

-- what can be said of present blocks behind a legal history of a file's blocks
pub record IsSound (instance : Instance) (leader : ℕ) (insns : List Insn) : Type 0 where
  pub actions : ℕ
  pub can_be_folded : IsBlock insns actions
  pub graph : IsGraphOf insns (graph_at instance leader insns)
  pub operands : AreOperands insns (graph_at instance leader insns)
  pub same_length : (block : Block) → Contains instance.blocks block → block.leader ≡ leader
      → length insns ≡ length block.insns.items

sound_block :
    (instance : Instance) (leader : ℕ) (insns : List Insn) (n : ℕ) → IsBlock insns n
    → ((block : Block) → Contains instance.blocks block → block.leader ≡ leader → length insns ≡ length block.insns.items)
    → IsSound instance leader insns
sound_block instance leader insns n block same =
    let of_block : IsGraphOf insns (graph_at instance leader insns) = (after_block instance.live leader, instance.table, refl) in
    record {
      actions = n;
      can_be_folded = block;
      graph = of_block;
      operands = has_operands insns (graph_at instance leader insns) of_block;
      same_length = same;
    }

pub present_is_sound :
    {instance : Instance} {history : History} {leader : ℕ} {insns : List Insn}
    → AreOfSomeFile instance.blocks instance.live → IsLegalHistory instance history
    → IsPresent instance history leader insns → IsSound instance leader insns
present_is_sound {instance} {leader = leader} {insns = insns} of_file legal (original (block, there, leads, is)) =
    let folds = block_can_be_folded of_file.3 (of_file.1.2.blocks_are.each block there) in
    sound_block instance leader insns folds.0 (subst (λ i. IsBlock i folds.0) (sym is) folds.1)
    (λ other in_other at_other. ap length is
    ∙ ap (λ (b : Block). length b.insns.items)
    (one_block instance.blocks block other (blocks_in_order instance of_file) there in_other (leads ∙ sym at_other)))
present_is_sound of_file legal (unchanged other before) = present_is_sound of_file legal.1 before
present_is_sound {instance} of_file legal (folded {history} {leader} {unit} {insns} {new} cut before has_cut is) =
    let ordered = blocks_in_order instance of_file in
    let sound = present_is_sound of_file legal.1 before in
    let what = take_is_due legal.0 in
    let fits : FitsSomeLimits (graph_at instance leader insns) (finite.contains cut) =
    cut_fits ordered legal.1 (what.next.no_search leader) (record { present = before; has_cut = has_cut }) in
    let shape = keeps_shape insns (graph_at instance leader insns) (finite.contains cut) unit new fits is sound.graph
    (take_is_small ordered legal.1 what) sound.actions sound.can_be_folded in
    sound_block instance leader new sound.actions shape.is_block
    (λ block there leads. shape.same_length ∙ sound.same_length block there leads)

-- The graph of a present block is one of those that are searched.
pub present_flows :
    {instance : Instance} {leader : ℕ} {insns : List Insn} → IsSound instance leader insns → IsLatencyTable instance.table
    → IsFlowGraph (graph_at instance leader insns)
present_flows {instance} {leader} {insns} sound kept =
    is_flow_graph insns (after_block instance.live leader) instance.table sound.can_be_folded.few kept

-- The cut that the last search of a block found is the best of its present graph, unless it was taken since.
pub cut_is_best :
    {instance : Instance} {history : History} {leader : ℕ} {insns : List Insn} {cut : finite.FinSet nat_cmp}
    → AreOfSomeFile instance.blocks instance.live → IsLatencyTable instance.table
    → IsLegalHistory instance history → (IsSearchDue instance history leader → ⊥)
    → HasPresentCut instance history leader insns cut
    → IsBest (graph_at instance leader insns) instance.plan.limits (finite.contains cut)
cut_is_best {instance} {history} {leader} {insns} {cut} of_file kept legal not_due has =
    let found = cut_is_found history (blocks_in_order instance of_file) legal not_due has in
    accepted_is_best (graph_at instance leader insns) (present_flows (present_is_sound of_file legal has.present) kept)
    instance.plan.limits (Some cut) found.log found.accepted
