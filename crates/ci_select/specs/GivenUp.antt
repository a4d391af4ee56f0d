-- Which searches are given up.
use Rattle.std.specs.Prelude.{◌≡◌, ◌↔◌, false, List, [], ◌∷◌, ⊤}
use Rattle.ci_isa.specs.declared.instruction.Insn.{Insn}
use Rattle.ci_cut.specs.Need.{NeedExceeds}
use Rattle.ci_log.specs.declared.book.Entry.{Entry}
use Rattle.ci_log.specs.declared.book.Entry.TheVariants.{Best, Without, Spent, Take}
use Rattle.ci_select.specs.Histories.{History, is_take, leader_of}
use Rattle.ci_select.specs.Instances.{Instance}
use Rattle.ci_select.specs.PresentBlocks.{IsPresent, graph_at}

-- the entry tells of a search that was given up
abbrev pub IsGivenUp : Entry → Type 0
IsGivenUp (Best leader cut log) = ⊥
IsGivenUp (Without leader log) = ⊥
IsGivenUp (Spent leader budget) = ⊤
IsGivenUp (Take leader unit) = ⊥

module _ (instance : Instance) where
  -- Where the entry is one of a search, that was given up exactly if the need of the graph of its block, as that stands
  -- in the program before it, is greater than the budget.
  abbrev pub IsGivenUpByNeed : History → Entry → Type 0
  IsGivenUpByNeed history entry =
      (insns : List Insn) → is_take entry ≡ false → IsPresent instance history (leader_of entry) insns
      → IsGivenUp entry
      ↔ NeedExceeds (graph_at instance (leader_of entry) insns) instance.plan.limits instance.plan.budget

  -- Each search was given up exactly by need. That is more than that the entries are legal: a legal entry may have the
  -- log of a search that needs more than the budget.
  abbrev pub GivesUpByNeed : History → Type 0
  GivesUpByNeed [] = ⊤
  GivesUpByNeed (entry ∷ history) = IsGivenUpByNeed history entry × GivesUpByNeed history
