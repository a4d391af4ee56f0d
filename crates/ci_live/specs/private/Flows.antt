-- For private contracts: blocks by their numbers: what each one reads and writes, and where it leads.
use Rattle.std.specs.Prelude.{◌≡◌, ℕ, ◌<◌, ◌⊎◌, ◌↔◌, List, length, Some, None, IfSome, IsTrue, slice_index}
use Rattle.std.specs.Prelude.{slice_index_or}
use Rattle.std.specs.Ordering.{nat_cmp}
use Rattle.std.specs.FinSet as set
use Rattle.ci_block.specs.declared.blocks.Block.{Block}
use Rattle.ci_block.specs.declared.blocks.Next.{Next}
use Rattle.ci_live.specs.declared.flow.Flow.{Flow}
use Rattle.ci_live.specs.declared.flow.Successors.{Successors}
use Rattle.ci_live.specs.declared.flow.Successors.TheVariants.{Named, Anywhere}
use Rattle.ci_isa.specs.Sequences.{ReadFirst, Write}
use Rattle.ci_live.specs.Liveness.{LeadsTo}

-- register r is in the set
abbrev pub Has : set.FinSet nat_cmp → ℕ → Type 0
Has registers r = IsTrue (set.contains registers r)

-- the block of this number is one of the successors
abbrev pub Leads : Successors → ℕ → Type 0
Leads (Named first second) k = (first ≡ Some k) ⊎ (second ≡ Some k)
Leads Anywhere k = Unit {0}

-- the successors are some of so many blocks
abbrev pub IsWithin : ℕ → Successors → Type 0
IsWithin count (Named first second) = IfSome first (λ k. k < count) × IfSome second (λ k. k < count)
IsWithin count Anywhere = Unit {0}

-- flow k, and past the last one one that does nothing
abbrev pub flow_at : List Flow → ℕ → Flow
flow_at flows k = slice_index_or flows k (record { uses = set.empty; defs = set.empty; successors = Named None None })

-- each flow leads to some of them
abbrev pub AreWithin : List Flow → Type 0
AreWithin flows = (k : ℕ) → IsWithin (length flows) (flow_at flows k).successors

-- these are the successors by number, of blocks with these leaders
pub record AreSuccessorNumbers (leaders : List ℕ) (next : Next) (successors : Successors) : Type 0 where
  pub within : IsWithin (length leaders) successors
  pub leads : (k : ℕ) → k < length leaders → Leads successors k ↔ LeadsTo next (slice_index leaders k)

-- the flow of a block among those of these leaders
pub record IsFlowOf (leaders : List ℕ) (block : Block) (flow : Flow) : Type 0 where
  pub uses : (r : ℕ) → Has flow.uses r ↔ ReadFirst block.insns.items r
  pub defs : (r : ℕ) → Has flow.defs r ↔ Write block.insns.items r
  pub successors : AreSuccessorNumbers leaders block.next flow.successors

-- the flows of the first blocks, in their order
pub record AreFlows (leaders : List ℕ) (blocks : List Block) (count : ℕ) (flows : List Flow) : Type 0 where
  pub many : length flows ≡ count
  pub each :
      (k : ℕ) (block : Block) → k < count → slice_index_or blocks k block ≡ block
      → IsFlowOf leaders block (flow_at flows k)

-- Register r is live at the block of this number: the block reads it first, or leads to such a block and doesn't write
-- it.
pub data IsReached (flows : List Flow) (r : ℕ) : ℕ → Type 0 where
  here : (k : ℕ) → k < length flows → Has (flow_at flows k).uses r → IsReached flows r k
  further :
      (k j : ℕ) → k < length flows → Leads (flow_at flows k).successors j → ¬ Has (flow_at flows k).defs r
      → IsReached flows r j → IsReached flows r k
