-- Liveness: the registers whose value on entry to a block may still be read. Public contracts cite these definitions.
use Rattle.std.specs.Prelude.{◌≡◌, ℕ, ◌⊎◌, ◌↔◌, List, [], ◌∷◌, map, IsTrue}
use Rattle.std.specs.FinSet as set
use Rattle.std.specs.List.{All, Contains}
use Rattle.ci_isa.specs.Sequences.{ReadFirst, Write}
use Rattle.ci_block.specs.declared.blocks.Block.{Block}
use Rattle.ci_block.specs.declared.blocks.Next.{Next}
use Rattle.ci_block.specs.declared.blocks.Next.TheVariants.{Stop, One, Two, Any}
use Rattle.ci_live.specs.Sets.{Sets, after_block, at_leader}

-- ---- where blocks lead

-- the address is a successor, where each leader is one behind a JALR
abbrev pub LeadsTo : Next → ℕ → Type 0
LeadsTo Stop leader = ⊥
LeadsTo (One a) leader = leader ≡ a
LeadsTo (Two a b) leader = (leader ≡ a) ⊎ (leader ≡ b)
LeadsTo Any leader = Unit {0}

-- the block `after` is a successor of the block `before`
abbrev pub IsSuccessor : Block → Block → Type 0
IsSuccessor before after = LeadsTo before.next after.leader

-- the first block of a list of blocks that ends with this last one
abbrev pub first_of : List Block → Block → Block
first_of [] last = last
first_of (block ∷ passed) last = block

-- each block of the list is a successor of the one before
abbrev pub FollowEachOther : List Block → Block → Type 0
FollowEachOther [] last = Unit {0}
FollowEachOther (block ∷ passed) last = IsSuccessor block (first_of passed last) × FollowEachOther passed last

-- ---- liveness

-- The register is live at the leader: a list of blocks begins there, in which each is a successor of the one before,
-- the last one reads the register before it writes it, and those that are passed before don't write it.
pub record IsLive (blocks : List Block) (leader r : ℕ) : Type 0 where
  pub passed : List Block
  pub last : Block
  pub from : (first_of passed last).leader ≡ leader
  pub passed_there : All (λ block. Contains blocks block) passed
  pub last_there : Contains blocks last
  pub follow : FollowEachOther passed last
  pub reads : ReadFirst last.insns.items r
  pub unwritten : All (λ block. ¬ Write block.insns.items r) passed

-- The register is live after the block of the leader: it is live at one of the block's successors.
pub record IsLiveAfter (blocks : List Block) (leader r : ℕ) : Type 0 where
  pub block : Block
  pub block_there : Contains blocks block
  pub of : block.leader ≡ leader
  pub successor : Block
  pub successor_there : Contains blocks successor
  pub follows : IsSuccessor block successor
  pub live : IsLive blocks successor.leader r

-- ---- live sets

-- These are the live sets of the blocks: they hold the registers that are live, and nothing else.
pub record AreLiveSets (blocks : List Block) (sets : Sets) : Type 0 where
  pub leaders : map (λ block. block.leader) blocks ≡ sets.leaders
  pub at :
      (leader r : ℕ) → Contains sets.leaders leader
      → IsTrue (set.contains (at_leader sets leader) r) ↔ IsLive blocks leader r
  pub after :
      (leader r : ℕ) → Contains sets.leaders leader
      → IsTrue (set.contains (after_block sets leader) r) ↔ IsLiveAfter blocks leader r
