-- Legal books: each entry is the one that is due behind those before it, and right.
use Rattle.std.specs.Prelude.{◌≡◌, ℕ, ◌<◌, ◌^◌, List, [], ◌∷◌, length, reverse, Some, None, ⊤}
use Rattle.std.specs.FinSet as finite
use Rattle.ci_isa.specs.declared.instruction.Insn.{Insn}
use Rattle.ci_cut.specs.Best.{IsBest, HasNoCut}
use Rattle.ci_cut.specs.FlowGraph.{FlowGraph}
use Rattle.ci_log.specs.declared.book.Entry.{Entry}
use Rattle.ci_log.specs.declared.book.Entry.TheVariants.{Best, Without, Spent, Take}
use Rattle.ci_log.specs.Books.{Book}
use Rattle.ci_check.specs.Rules.{IsAccepted}
use Rattle.ci_cut.specs.Need.{NeedExceeds}
use Rattle.ci_select.specs.declared.plan.Plan.{Plan}
use Rattle.ci_select.specs.declared.rounds.Due.TheVariants as due
use Rattle.ci_select.specs.Histories.{History, leader_of}
use Rattle.ci_select.specs.Instances.{Instance}
use Rattle.ci_select.specs.PresentBlocks.{IsPresent, graph_at}
use Rattle.ci_select.specs.Dues.{IsDue}

-- The entry tells of a search of this graph: its log is accepted for its cut, or for none, or the need of the graph is
-- greater than the budget. Which accepted log it has is free.
abbrev pub IsSearched : FlowGraph → Plan → Entry → Type 0
IsSearched graph plan (Best leader cut log) = IsAccepted graph plan.limits (Some cut) log
IsSearched graph plan (Without leader log) = IsAccepted graph plan.limits None log
IsSearched graph plan (Spent leader budget) = (budget ≡ plan.budget) × NeedExceeds graph plan.limits plan.budget
IsSearched graph plan (Take leader unit) = ⊥

-- What a search entry says of the graph of its block: the cut is the best one; or there is none; or the search for one
-- needs more than the budget.
abbrev pub IsTrueOf : FlowGraph → Plan → Entry → Type 0
IsTrueOf graph plan (Best leader cut log) = IsBest graph plan.limits (finite.contains cut)
IsTrueOf graph plan (Without leader log) = HasNoCut graph plan.limits
IsTrueOf graph plan (Spent leader budget) = (budget ≡ plan.budget) × NeedExceeds graph plan.limits plan.budget
IsTrueOf graph plan (Take leader unit) = ⊤

-- The log of the entry, if it has one, has fewer than 2 to the power 32 items, as each that is read or written has.
abbrev pub HasShortLog : Entry → Type 0
HasShortLog (Best leader cut log) = length log < 2 ^ 32
HasShortLog (Without leader log) = length log < 2 ^ 32
HasShortLog (Spent leader budget) = ⊤
HasShortLog (Take leader unit) = ⊤

module _ (instance : Instance) where
  -- the entry is the one that is due, and right
  pub data IsRight (history : History) : Entry → Type 0 where
    searched :
        {entry : Entry} {insns : List Insn}
        → IsDue instance history (due.Search (leader_of entry)) → IsPresent instance history (leader_of entry) insns
        → IsSearched (graph_at instance (leader_of entry) insns) instance.plan entry → IsRight history entry
    taken : {leader unit : ℕ} → IsDue instance history (due.Take leader unit) → IsRight history (Take leader unit)

  -- each entry is right behind those before it
  abbrev pub IsLegalHistory : History → Type 0
  IsLegalHistory [] = ⊤
  IsLegalHistory (entry ∷ history) = IsRight history entry × IsLegalHistory history

  -- The book is legal for the instance: each of its entries is right, and its end is due behind them.
  pub record IsLegal (book : Book) : Type 0 where
    pub entries : IsLegalHistory (reverse book.entries)
    pub finish : IsDue instance (reverse book.entries) (due.End book.finish)
