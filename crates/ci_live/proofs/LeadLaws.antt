-- What is live where a block leads is live after it.
use Rattle.std.proofs.Common.{ℕ, inl, inr, List, IsTrue, sym, ◌∙◌, subst}
use Rattle.std.specs.FinSet as set
use Rattle.std.specs.List.{Contains}
use Rattle.ci_isa.specs.declared.instruction.Insn.{Insn}
use Rattle.ci_isa.specs.declared.instruction.Insn.TheVariants.{Jalr}
use Rattle.ci_elf.specs.Executables.{Executable}
use Rattle.ci_block.specs.declared.blocks.Next.{Next}
use Rattle.ci_block.specs.declared.blocks.Next.TheVariants.{Stop, One, Two, Any}
use Rattle.ci_block.specs.Blocks.{AreSuccessors, Counts, IsNext, ways_on}
use Rattle.ci_block.proofs.WayLaws.{one_of_two, ways_are_leaders}
use Rattle.ci_live.specs.Laws.{LiveOnWays}
use Rattle.ci_live.specs.Liveness.{LeadsTo}
use Rattle.ci_live.specs.Sets.{at_leader}
use Rattle.ci_live.proofs.NeededLaws.{has_sets, live_at_successor}
use Rattle.ci_live.proofs.OneAnalysis.{block_with}

-- a way on that counts is a successor
counted : (image : Executable) (ways : List ℕ) (next : Next) (a : ℕ) → AreSuccessors image ways next → Counts image ways a → LeadsTo next a
counted image ways Stop a none counts = none a counts
counted image ways (One b) a one counts = one.1 a counts
counted image ways (Two b e) a two counts = elim (one_of_two b e a (subst (λ xs. Contains xs a) two.0 counts.0)) [
  | inl is ↦ inl (sym is)
  | inr is ↦ inr (sym is)
]
counted image ways Any a none counts = absurd none

leads : (image : Executable) (last : ℕ) (insn : Insn) (next : Next) (a : ℕ) → IsNext image last insn next → Counts image (ways_on last insn) a → LeadsTo next a
leads image last (Jalr rd rs1 offset) next a is counts = subst (λ n. LeadsTo n a) (sym is) tt
leads image last insn next a is counts = counted image (ways_on last insn) next a is counts

pub live_on_ways : LiveOnWays
live_on_ways file targets named blocks sets block d address r ascending analysis there counts =
    let l = analysis.blocks_are.each block there in
    let leaders_are = analysis.live.leaders in
    let same = sym leaders_are ∙ analysis.blocks_are.by_leader in
    let listed = has_sets blocks sets analysis.live block there in
    let way : Contains analysis.leaders address =
    ways_are_leaders file analysis.leaders block d address ascending (record { targets = targets; named = named; listing = analysis.listing })
    (subst (λ (xs : List ℕ). Contains xs block.leader) same listed) l counts in
    let (after, after_there, led) = block_with blocks address (subst (λ (xs : List ℕ). Contains xs address) (sym analysis.blocks_are.by_leader) way) in (
      subst (λ (xs : List ℕ). Contains xs address) (sym same) way,
      λ has.
          live_at_successor blocks sets block after r analysis.live there after_there
          (subst (λ a. LeadsTo block.next a) (sym led) (leads file _ _ block.next address (l.next d) counts))
          (subst (λ a. IsTrue (set.contains (at_leader sets a) r)) (sym led) has),
    )
