-- The entries of a legal book tell what is best.
use Rattle.std.proofs.Common.{◌≡◌, ℕ, List, [], ◌∷◌, ◌++◌, reverse, Some, None, sym, ap, ◌∙◌, subst, inl, inr, append_assoc}
use Rattle.std.proofs.lemmas.List.{reverse-append}
use Rattle.std.specs.FinSet as finite
use Rattle.std.specs.Ordering.{nat_cmp}
use Rattle.ci_lat.specs.TableRules.{IsLatencyTable}
use Rattle.ci_isa.specs.declared.instruction.Insn.{Insn}
use Rattle.ci_cut.specs.Best.{IsBest}
use Rattle.ci_cut.specs.FlowGraph.{FlowGraph}
use Rattle.ci_cut.specs.GraphRules.{IsFlowGraph}
use Rattle.ci_check.proofs.Acceptance.{accepted_is_best}
use Rattle.ci_log.specs.declared.book.Entry.{Entry}
use Rattle.ci_log.specs.declared.book.Entry.TheVariants.{Best, Without, Spent, Take}
use Rattle.ci_select.specs.declared.plan.Plan.{Plan}
use Rattle.ci_select.specs.Histories.{History, leader_of}
use Rattle.ci_select.specs.Instances.{Instance, AreOfSomeFile}
use Rattle.ci_select.specs.PresentBlocks.{HasPresentCut, IsPresent, graph_at}
use Rattle.ci_select.specs.LegalBooks.{IsLegalHistory, IsRight, IsSearched, IsTrueOf}
use Rattle.ci_select.specs.Laws.{EntriesAreTrue, TakesAreBest}
use Rattle.ci_select.proofs.PresentLaws.{IsTakeDue, cut_is_best, present_flows, present_is_sound, right_cases, take_is_due}

-- what stands in a legal history is right behind what stands before it
pub legal_behind :
    (instance : Instance) (later before : List Entry) (entry : Entry) → IsLegalHistory instance (later ++ entry ∷ before)
    → IsRight instance before entry × IsLegalHistory instance before
legal_behind instance [] before entry legal = legal
legal_behind instance (other ∷ later) before entry legal = legal_behind instance later before entry legal.1

-- so each entry of a legal book is
pub entry_is_right :
    (instance : Instance) (entries before behind : List Entry) (entry : Entry)
    → IsLegalHistory instance (reverse entries) → entries ≡ before ++ entry ∷ behind
    → IsRight instance (reverse before) entry × IsLegalHistory instance (reverse before)
entry_is_right instance entries before behind entry legal split =
    legal_behind instance (reverse behind) (reverse before) entry
    (subst (IsLegalHistory instance) (ap reverse split ∙ reversed) legal)
  where
    reversed : reverse (before ++ entry ∷ behind) ≡ reverse behind ++ entry ∷ reverse before
    reversed =
        reverse-append before (entry ∷ behind) ∙ ap (λ l. l ++ reverse before) (reverse-append (entry ∷ []) behind)
        ∙ append_assoc (reverse behind) (entry ∷ []) (reverse before)

-- a search of a flow graph tells the truth of it
pub search_is_true : (graph : FlowGraph) (plan : Plan) → IsFlowGraph graph → (entry : Entry) → IsSearched graph plan entry → IsTrueOf graph plan entry
search_is_true graph plan flows (Best leader cut log) is = accepted_is_best graph flows plan.limits (Some cut) log is
search_is_true graph plan flows (Without leader log) is = accepted_is_best graph flows plan.limits None log is
search_is_true graph plan flows (Spent leader budget) is = is
search_is_true graph plan flows (Take leader unit) is = absurd is

-- the take that is due is of the best cut of its block
take_is_best :
    {instance : Instance} {history : History} {leader unit : ℕ}
    → AreOfSomeFile instance.blocks instance.live → IsLatencyTable instance.table → IsLegalHistory instance history
    → IsTakeDue instance history leader unit
    → (insns : List Insn) × (cut : finite.FinSet nat_cmp) × HasPresentCut instance history leader insns cut
    × IsBest (graph_at instance leader insns) instance.plan.limits (finite.contains cut)
take_is_best {leader = leader} of_file kept legal is =
    let candidate = is.next.candidate.candidate in (
      candidate.insns,
      candidate.cut,
      candidate.has_cut,
      cut_is_best of_file kept legal (is.next.no_search leader) candidate.has_cut,
    )

pub entries_are_true : EntriesAreTrue
entries_are_true instance book before behind entry of_file kept legal split =
    let (right, before_legal) = entry_is_right instance book.entries before behind entry legal.entries split in
    elim (right_cases right) [
      | inl is ↦ (
        is.insns,
        is.present,
        search_is_true (graph_at instance (leader_of entry) is.insns) instance.plan
            (present_flows (present_is_sound of_file before_legal is.present) kept) entry is.is_searched,
      )
      | inr (leader, unit, same, is) ↦ take_is_true leader unit same is
    ]
  where
    take_is_true : (leader unit : ℕ) → entry ≡ Take leader unit → IsTakeDue instance (reverse before) leader unit
        → (insns : List Insn) × IsPresent instance (reverse before) (leader_of entry) insns
        × IsTrueOf (graph_at instance (leader_of entry) insns) instance.plan entry
    take_is_true leader unit same is =
        let candidate = is.next.candidate.candidate in
        subst (λ e. (insns : List Insn) × IsPresent instance (reverse before) (leader_of e) insns
        × IsTrueOf (graph_at instance (leader_of e) insns) instance.plan e) (sym same)
        (candidate.insns, candidate.has_cut.present, tt)

pub takes_are_best : TakesAreBest
takes_are_best instance book before behind leader unit of_file kept legal split =
    let (right, before_legal) = entry_is_right instance book.entries before behind (Take leader unit) legal.entries split in
    take_is_best of_file kept before_legal (take_is_due right)
