-- A file and one that differs from it in the text alone: what holds of both, of their listed leaders, and of a block.
use Rattle.std.specs.Prelude.{◌≡◌, ℕ, ◌+◌, ◌*◌, ◌%◌, ◌<◌, ◌==◌, ◌&&◌, ◌⊎◌, true, List, length, Ok}
use Rattle.std.specs.List.{Contains}
use Rattle.std.specs.FinSet as finite
use Rattle.std.specs.Ordering.{nat_cmp}
use Rattle.std.proofs.Common.{sym, ap, ◌∙◌, subst, arith}
use Rattle.std.proofs.lemmas.Bool.{and_from, eq-eqb}
use Rattle.std.proofs.lemmas.List.{get_or_default}
use Rattle.ci_isa.specs.declared.instruction.Insn.{Insn}
use Rattle.ci_isa.specs.declared.instruction.Insn.TheVariants.{Ebreak}
use Rattle.ci_isa.specs.Sequences.{nth_insn, ReadFirst, Write}
use Rattle.ci_isa.specs.Table.{IsInsnAt}
use Rattle.ci_elf.specs.Executables.{Executable, IsTextWord, IsWellFormed, text_word}
use Rattle.ci_elf.specs.Rules.{IsReadAs}
use Rattle.ci_elf.proofs.TextChangeLaws.{text_may_change}
use Rattle.ci_elf.proofs.TextPlaceLaws.{formed}
use Rattle.ci_block.specs.declared.blocks.Block.{Block}
use Rattle.ci_block.specs.Blocks.{AreInOrder, IsBlockAt}
use Rattle.ci_block.proofs.BlockLaws.{blocks_in_order}
use Rattle.ci_live.specs.Sets.{Sets, after_block, at_leader}
use Rattle.ci_live.proofs.NeededLaws.{has_sets, live_is_needed}
use Rattle.ci_live.proofs.OneAnalysis.{block_with}
use Rattle.ci_machine.specs.Agreement.{AgreeOutside}
use Rattle.ci_machine.specs.Blocks.{StandAt}
use Rattle.ci_machine.specs.Programs.{Program, in_text, loaded_program, opening}
use Rattle.ci_machine.specs.Steps.{Meaning}
use Rattle.ci_machine.specs.Texts.{AreFileInsns}
use Rattle.ci_machine.proofs.OpeningLaws.{insns_stand}
use Rattle.ci_machine.proofs.TextChanges.{opens_alike}
use Rattle.ci_runs.specs.ChangedFiles.{IsChangedFile}
use Rattle.ci_runs.specs.Places.{is_word}
use Rattle.ci_runs.specs.WholeRuns.{is_among}
use Rattle.ci_runs.proofs.ListedLeaders.{is_listed}

-- the test of a word of the text
pub word_tested : (file : Executable) (address : ℕ) → IsTextWord file.ranges address → is_word (loaded_program file) address ≡ true
word_tested file address (aligned, held) = and_from (address % 4 == 0) (in_text (loaded_program file) address) (eq-eqb (address % 4) 0 aligned) held

module _ (old new : Executable) (live : Sets) (is : IsChangedFile old new live) where
  -- ---- the files

  abbrev program : Program
  program = loaded_program old

  -- both are well-formed,
  pub old_formed : IsWellFormed old
  old_formed = formed is.old_bytes is.old_is.0 old is.old_is.1

  -- since the new file is read, too
  pub read_anew : IsReadAs new.bytes (Ok new)
  read_anew = subst (λ file. IsReadAs new.bytes (Ok file)) (sym is.new_is) (text_may_change is.old_bytes new.bytes old is.old_is is.text_alone)

  pub new_formed : IsWellFormed new
  new_formed = formed new.bytes read_anew.0 new read_anew.1

  -- they are one program, and open alike outside the text
  pub same_program : loaded_program new ≡ loaded_program old
  same_program = ap loaded_program is.new_is

  pub outside : (input : List ℕ) → AgreeOutside (in_text program) (opening old input).core (opening new input).core
  outside input =
      subst (λ file. AgreeOutside (in_text program) (opening old input).core (opening file input).core) (sym is.new_is)
      (opens_alike is.old_bytes new.bytes old input is.old_is is.text_alone)

  -- ---- the listed leaders

  -- the leaders of the blocks have live sets
  pub same_leaders : is.analysis.leaders ≡ live.leaders
  same_leaders = sym is.analysis.blocks_are.by_leader ∙ is.analysis.live.leaders

  -- they are words of the text,
  pub leader_is_word : (leader : ℕ) → Contains live.leaders leader → IsTextWord old.ranges leader
  leader_is_word leader there =
      ((is.analysis.listing.listed leader).0 (subst (λ (leaders : List ℕ). Contains leaders leader) (sym same_leaders) there)).0

  -- and each has a block
  pub block_there : (leader : ℕ) → Contains live.leaders leader → (block : Block) × Contains is.blocks block × (block.leader ≡ leader)
  block_there leader there =
      block_with is.blocks leader (subst (λ (leaders : List ℕ). Contains leaders leader) (sym is.analysis.live.leaders) there)

  -- the blocks stand in the order of these
  in_order : AreInOrder is.blocks
  in_order = blocks_in_order is.analysis.leaders is.blocks is.analysis.blocks_are.by_leader is.analysis.listing.ascending

  -- ---- a block

  module _ (block : Block) (there : Contains is.blocks block) where
    abbrev insns : List Insn
    insns = block.insns.items

    abbrev live_out : finite.FinSet nat_cmp
    live_out = after_block live block.leader

    -- it is that of its leader,
    pub at_leader_of : IsBlockAt old is.analysis.leaders block
    at_leader_of = is.analysis.blocks_are.each block there

    -- and has a listed leader
    pub leader_listed : Contains live.leaders block.leader
    leader_listed = has_sets is.blocks live is.analysis.live block there

    -- the word of instruction k
    abbrev pub word : ℕ → ℕ
    word k = text_word old (block.leader + 4 * k)

    -- it reads as the instruction in the plain table
    pub reads : (k : ℕ) → k < length insns → IsInsnAt (word k) (nth_insn insns k)
    reads k below = (at_leader_of.insns k Ebreak below).reads

    -- what the block needs is live at its leader
    pub needs : (r : ℕ) → ReadFirst insns r ⊎ ((finite.contains live_out r ≡ true) × ¬ Write insns r)
        → (is_among live.leaders block.leader && finite.contains (at_leader live block.leader) r) ≡ true
    needs r needed =
        and_from (is_among live.leaders block.leader) (finite.contains (at_leader live block.leader) r)
        (is_listed live.leaders block.leader leader_listed)
        ((live_is_needed is.blocks live block r in_order is.analysis.live there).1 needed)

    module _ (meaning : Meaning) (input : List ℕ) where
      -- the instructions stand where the original opens, as their words are read,
      pub old_stands : ((k : ℕ) → k < length insns → meaning.insn (word k) ≡ nth_insn insns k)
          → StandAt meaning program (opening old input).core.memory block.leader insns
      old_stands reads_as = insns_stand old old_formed meaning input 0 (λ i below made. absurd (omega arith)) insns block.leader each
        where
          each : AreFileInsns meaning old block.leader insns
          each k d below = record {
            text = (at_leader_of.insns k d below).text;
            reads = reads_as k below ∙ get_or_default insns k Ebreak d below;
          }

      -- and as many others where the new file opens
      pub new_stands : (others : List Insn) → length others ≡ length insns
          → ((k : ℕ) → k < length others → meaning.insn (text_word new (block.leader + 4 * k)) ≡ nth_insn others k)
          → StandAt meaning program (opening new input).core.memory block.leader others
      new_stands others as_many reads_as =
          subst (λ p. StandAt meaning p (opening new input).core.memory block.leader others) same_program
          (insns_stand new new_formed meaning input 0 (λ i below made. absurd (omega arith)) others block.leader each)
        where
          same_ranges : new.ranges ≡ old.ranges
          same_ranges = ap (λ (file : Executable). file.ranges) is.new_is

          each : AreFileInsns meaning new block.leader others
          each k d below = record {
            text =
                subst (λ ranges. IsTextWord ranges (block.leader + 4 * k)) (sym same_ranges)
                (at_leader_of.insns k Ebreak (omega (arith, as_many))).text;
            reads = reads_as k below ∙ get_or_default others k Ebreak d below;
          }
