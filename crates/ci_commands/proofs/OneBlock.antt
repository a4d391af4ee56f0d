-- A file holds one block, or none: of what a command makes something it refuses nothing.
use Rattle.std.proofs.Common.{◌≡◌, ℕ, inl, inr, List, [], ◌∷◌, map, Option, Some, None, sym, subst, ◌∙◌, arith}
use Rattle.std.specs.FinSet as set
use Rattle.std.specs.List.{Contains}
use Rattle.std.specs.Ordering.{nat_cmp}
use Rattle.std.proofs.lemmas.Option.{slice_get_within, get_or_from_slice_get}
use Rattle.ci_reading.specs.Bytes.{words_of_bytes}
use Rattle.ci_isa.specs.declared.instruction.Insn.{Insn}
use Rattle.ci_isa.specs.Fields.{HasCustomOpcode}
use Rattle.ci_elf.specs.Executables.{Executable, IsImageOf}
use Rattle.ci_elf.proofs.OneImage.{image_is_one}
use Rattle.ci_block.proofs.OneListing.{listing_is_one}
use Rattle.ci_commands.proofs.ListedLaws.{mapped_there}
use Rattle.ci_calls.specs.declared.refusals.Refusal.{Refusal}
use Rattle.ci_calls.specs.declared.refusals.Refusal.TheVariants.{Unsupported}
use Rattle.ci_calls.specs.declared.success.Success.{Success}
use Rattle.ci_calls.specs.Evaluations.{IsUnsupported}
use Rattle.ci_calls.specs.Files.{optional_bytes}
use Rattle.ci_commands.specs.BestCommand.{HoldsBlock, HoldsNoBlock, IsBestMade, IsBestRefused}
use Rattle.ci_commands.specs.BlocksCommand.{IsBlocksMade, IsBlocksRefused}
use Rattle.ci_cut.specs.declared.graph.Limits.{Limits}
use Rattle.ci_cut.specs.FlowGraph.{FlowGraph}
use Rattle.ci_block.specs.CustomWords.{HasNoCustomWord, IsFirstCustomWord}
use Rattle.ci_commands.specs.ListedBlocks.{IsListedBlock, IsNoListedBlock, custom_word, no_leader}
use Rattle.ci_commands.specs.WordBlocks.{IsWordBlock, IsNoWordBlock, IsMisplaced}

-- ---- a block of words

-- bytes are the words of a block, or there is a reason why they are not
word_block_or_none : (bytes : List ℕ) (insns : List Insn) (position word : ℕ) → IsWordBlock bytes insns → IsNoWordBlock bytes position word → ⊥
word_block_or_none bytes insns position word block (inl uneven) = uneven.0 block.whole_words
word_block_or_none bytes insns position word block (inr first) =
    let words = words_of_bytes bytes in
    let within = slice_get_within words first.place word first.there in
    block.placed first.place (omega (arith, block.as_many, within))
    (subst (IsMisplaced words first.place) (sym (get_or_from_slice_get words first.place word 0 first.there)) first.misplaced)

-- ---- the words of an executable

-- its text has a word of a custom opcode, or none
custom_or_none : (bytes : List ℕ) (left right : Executable) (address word : ℕ) → IsImageOf bytes left
    → IsImageOf bytes right → HasNoCustomWord left → IsFirstCustomWord right address word → ⊥
custom_or_none bytes left right address word l r none first =
    subst HasNoCustomWord (image_is_one bytes left right l r) none address first.text (subst HasCustomOpcode (sym first.there) first.custom)

-- ---- a block of an executable

module _ (file : Executable) (named : List ℕ) (address : ℕ) where
  -- the address of a block is a leader
  leader_of : (insns : List Insn) (live_out : set.FinSet nat_cmp)
      (block : IsListedBlock file named address insns live_out) → Contains block.analysis.leaders address
  leader_of insns live_out block =
      subst (λ leaders. Contains leaders address) block.analysis.blocks_are.by_leader
      (subst (Contains (map (λ b. b.leader) block.blocks)) block.leader (mapped_there (λ b. b.leader) block.blocks block.block block.there))

  listed_block_or_none : (insns : List Insn) (live_out : set.FinSet nat_cmp) (position word : ℕ)
      → IsListedBlock file named address insns live_out → IsNoListedBlock file named address position word → ⊥
  listed_block_or_none insns live_out position word block (custom_word first) =
      block.no_custom _ first.text (subst HasCustomOpcode (sym first.there) first.custom)
  listed_block_or_none insns live_out position word block (no_leader leaders no_custom listing unlisted) =
      unlisted (subst (λ ls. Contains ls address)
      (listing_is_one file [] named block.analysis.leaders leaders block.analysis.listing listing)
      (leader_of insns live_out block))

-- ---- a block

module _ (at : Option ℕ) (named bytes : List ℕ) where
  held_or_none : (insns : List Insn) (live_out : set.FinSet nat_cmp) (position word : ℕ)
      → HoldsBlock at named bytes insns live_out → HoldsNoBlock at named bytes position word → ⊥
  held_or_none insns live_out position word block none = by_address at block none
    where
      by_address : (a : Option ℕ) → HoldsBlock a named bytes insns live_out → HoldsNoBlock a named bytes position word → ⊥
      by_address None block none = word_block_or_none bytes insns position word block.0 none
      by_address (Some address) block none =
          let same = image_is_one bytes none.0 block.0 none.1 block.1 in
          listed_block_or_none block.0 named address insns live_out position word block.2
          (subst (λ file. IsNoListedBlock file named address position word) same none.2)

-- ---- of what something is made is not refused

module _ (read : List (List ℕ)) (success : Success) (refusal : Refusal) where
  pub best_or_refused : (at : Option ℕ) (named : List ℕ) (IsLineOf : FlowGraph → Limits → ℕ → List ℕ → Type 0)
      (limits : Limits) (budget : ℕ) (table : Option (List ℕ))
      → IsBestMade at named IsLineOf limits budget table read success → IsBestRefused at named read refusal → ⊥
  best_or_refused at named IsLineOf limits budget table made is = by_refusal refusal is.unsupported
    where
      same : made.bytes ≡ is.bytes
      same =
          let lists : made.bytes ∷ optional_bytes made.table ≡ is.bytes ∷ is.others = sym made.read_is ∙ is.read_is in cc

      by_refusal : (r : Refusal) → IsUnsupported (HoldsNoBlock at named is.bytes) r → ⊥
      by_refusal (Unsupported position word) none =
          held_or_none at named is.bytes made.insns made.live_out position word
          (subst (λ bytes. HoldsBlock at named bytes made.insns made.live_out) same made.block) none
      by_refusal r none = absurd none

  pub blocks_or_refused : (named : List ℕ) → IsBlocksMade named read success → IsBlocksRefused read refusal → ⊥
  blocks_or_refused named made is = by_refusal refusal is.custom
    where
      same : made.bytes ≡ is.bytes
      same = let lists : made.bytes ∷ [] ≡ is.bytes ∷ [] = sym made.read_is ∙ is.read_is in cc

      by_refusal : (r : Refusal) → IsUnsupported (IsFirstCustomWord is.file) r → ⊥
      by_refusal (Unsupported address word) first =
          custom_or_none is.bytes made.file is.file address word (subst (λ bytes. IsImageOf bytes made.file) same made.file_is)
          is.file_is made.text.no_custom first
      by_refusal r first = absurd first
