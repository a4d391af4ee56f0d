-- The blocks of an executable, by their leaders.
use Rattle.std.proofs.Common.{◌≡◌, ◌≢◌, ℕ, zero, suc, ◌+◌, ◌*◌, ◌≤◌, List, [], ◌∷◌, length, map, refl, sym, ap, subst, ◌∙◌, arith}
use Rattle.std.specs.FinSet as set
use Rattle.std.specs.List.{Contains}
use Rattle.std.specs.Ordering.{nat_cmp}
use Rattle.std.proofs.lemmas.List.{get_or-map, length-map}
use Rattle.ci_isa.specs.declared.instruction.Insn.{Insn}
use Rattle.ci_isa.specs.declared.instruction.Insn.TheVariants.{Ebreak}
use Rattle.ci_elf.specs.Executables.{Executable, text_word}
use Rattle.ci_block.specs.declared.blocks.Block.{Block}
use Rattle.ci_block.specs.CustomWords.{HasNoCustomWord}
use Rattle.ci_dfg.specs.Bundles.{AreBundled}
use Rattle.ci_dfg.proofs.PlainLists.{plain_are_bundled}
use Rattle.ci_live.specs.Sets.{Sets, after_block}
use Rattle.ci_live.specs.Analyses.{IsAnalysis}
use Rattle.ci_commands.specs.ListedBlocks.{IsListedBlock, IsNoListedBlock, no_leader}

-- ---- lists

module _ {X Y : Type 0} (f : X → Y) where
  -- what a function makes of an element stands among what it makes of all
  pub mapped_there : (xs : List X) (x : X) → Contains xs x → Contains (map f xs) (f x)
  mapped_there xs x there = (there.0, rw length-map there.1, get_or-map f xs there.0 x (f x) there.1 ∙ ap f there.2)

  -- and nothing else does
  pub mapped_from : (xs : List X) (y : Y) → Contains (map f xs) y → (x : X) × Contains xs x × (f x ≡ y)
  mapped_from [] y (k, below, is) = absurd (omega arith)
  mapped_from (x ∷ xs) y (zero, below, is) = (x, (0, omega arith, refl), is)
  mapped_from (x ∷ xs) y (suc k, below, is) =
      let rest = mapped_from xs y (k, omega arith, is) in
      (rest.0, (suc rest.1.0, omega (arith, rest.1.1), rest.1.2), rest.2)

-- ---- the block at an address

module _ (file : Executable) (named : List ℕ) (address : ℕ) (blocks : List Block) (sets : Sets)
    (no_custom : HasNoCustomWord file) (analysis : IsAnalysis file [] named blocks sets) where
  -- the block that begins there
  module _ (block : Block) (there : Contains blocks block) (leader : block.leader ≡ address) where
    pub listed : (insns : List Insn) (live_out : set.FinSet nat_cmp) → insns ≡ block.insns.items
        → live_out ≡ after_block sets address → IsListedBlock file named address insns live_out
    listed insns live_out insns_are live_out_is = record {
      no_custom = no_custom;
      blocks = blocks;
      sets = sets;
      analysis = analysis;
      block = block;
      there = there;
      leader = leader;
      insns_are = insns_are;
      live_out_is = live_out_is;
    }

    -- it has few instructions
    pub short : length block.insns.items ≤ 256
    short = (analysis.blocks_are.each block there).at_most

    -- all of the plain table
    pub bundled : AreBundled block.insns.items
    bundled =
        plain_are_bundled (λ k. text_word file (block.leader + 4 * k)) block.insns.items
        (λ k below. ((analysis.blocks_are.each block there).insns k Ebreak below).reads)

    -- the live sets know it
    pub known : Contains sets.leaders address
    known = subst (λ leaders. Contains leaders address) analysis.live.leaders
        (subst (Contains (map (λ b. b.leader) blocks)) leader (mapped_there (λ b. b.leader) blocks block there))

  -- no block begins there
  pub unlisted : ((block : Block) → Contains blocks block → block.leader ≢ address) → IsNoListedBlock file named address address 0
  unlisted none = no_leader analysis.leaders no_custom analysis.listing (λ there.
      let found = mapped_from (λ (b : Block). b.leader) blocks address
      (subst (λ leaders. Contains leaders address) (sym analysis.blocks_are.by_leader) there) in
      none found.0 found.1 found.2)
