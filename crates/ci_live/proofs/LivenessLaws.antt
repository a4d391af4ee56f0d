-- Liveness by lists of blocks, one block at a time.
use Rattle.std.proofs.Common.{ℕ, List, [], ◌∷◌, refl}
use Rattle.std.specs.List.{All, Contains}
use Rattle.std.proofs.lemmas.List.Elements.{All-nil, All-head, All-tail}
use Rattle.ci_block.specs.declared.blocks.Block.{Block}
use Rattle.ci_isa.specs.Sequences.{ReadFirst, Write}
use Rattle.ci_live.specs.Liveness.{FollowEachOther, IsLive, IsSuccessor, first_of}

-- ---- one block more

module _ (blocks : List Block) (r : ℕ) where
  -- a register that a block reads first is live at it
  pub live_where_read : (block : Block) → Contains blocks block → ReadFirst block.insns.items r → IsLive blocks block.leader r
  live_where_read block there reads = record {
    passed = [];
    last = block;
    from = refl;
    passed_there = All-nil (λ (b : Block). Contains blocks b);
    last_there = there;
    follow = tt;
    reads = reads;
    unwritten = All-nil (λ (b : Block). ¬ Write b.insns.items r);
  }

-- what has all blocks that read the register first, and all that lead to one of it and don't write the register, has
-- each block at which the register is live
pub live_from_steps :
    (blocks : List Block) (r : ℕ) (P : Block → Type 0)
    → ((block : Block) → Contains blocks block → ReadFirst block.insns.items r → P block)
    → ((block after : Block)
    → Contains blocks block → Contains blocks after → IsSuccessor block after → ¬ Write block.insns.items r → P after → P block)
    → (passed : List Block) (last : Block)
    → All (λ (block : Block). Contains blocks block) passed → Contains blocks last → FollowEachOther passed last
    → ReadFirst last.insns.items r → All (λ (block : Block). ¬ Write block.insns.items r) passed
    → P (first_of passed last)
live_from_steps blocks r P reads steps [] last passed_there last_there follow read unwritten = reads last last_there read
live_from_steps blocks r P reads steps (block ∷ passed) last passed_there last_there follow read unwritten =
    steps block (first_of passed last)
    (All-head (λ (b : Block). Contains blocks b) block passed passed_there)
    (first_there passed (All-tail (λ (b : Block). Contains blocks b) block passed passed_there))
    follow.0
    (All-head (λ (b : Block). ¬ Write b.insns.items r) block passed unwritten)
    (live_from_steps blocks r P reads steps passed last
    (All-tail (λ (b : Block). Contains blocks b) block passed passed_there) last_there follow.1 read
    (All-tail (λ (b : Block). ¬ Write b.insns.items r) block passed unwritten))
  where
    first_there : (more : List Block) → All (λ (b : Block). Contains blocks b) more → Contains blocks (first_of more last)
    first_there [] there = last_there
    first_there (next ∷ more) there = All-head (λ (b : Block). Contains blocks b) next more there
