-- Where a block and the folded block pass alike, they come alike through the instruction that ends them.
use Rattle.std.proofs.Common.{◌≡◌, ℕ, suc, ◌<◌, refl, ap, sym, ◌∙◌, subst, arith, List, [], ◌∷◌, length, drop, Some, None, inl, inr, is_some}
use Rattle.std.specs.Prelude.{Bool, true, false, not, ◌&&◌, ◌||◌, is_none}
use Rattle.std.specs.FinSet as finite
use Rattle.std.specs.Ordering.{nat_cmp}
use Rattle.std.proofs.lemmas.Bool.{cases_lt}
use Rattle.ci_isa.specs.declared.instruction.Insn.{Insn}
use Rattle.ci_isa.specs.Effects.{ends_block, reads_register, writes_register}
use Rattle.ci_isa.specs.Sequences.{nth_insn}
use Rattle.ci_machine.specs.declared.ends.End.{End}
use Rattle.ci_machine.specs.Outcomes.{Reached, from_end, at_start}
use Rattle.ci_machine.specs.Actions.{Units}
use Rattle.ci_machine.specs.Agreement.{reads, writes, AreRelated}
use Rattle.ci_machine.specs.Programs.{Program, State, in_text}
use Rattle.ci_machine.specs.Steps.{Meaning, fetched, step}
use Rattle.ci_machine.specs.Runs.{after}
use Rattle.ci_machine.specs.Touches.{touched, LeavesTextFor}
use Rattle.ci_machine.specs.Blocks.{StandAt, IsMapped}
use Rattle.ci_machine.proofs.TestLaws.{by_end}
use Rattle.ci_machine.proofs.NamedReads.{end_reads, end_writes}
use Rattle.ci_machine.proofs.RelatedSteps.{AreRelatedAt-fewer, leaving_one_more, end_clear, ends_related}
use Rattle.ci_rewrite.specs.Blocks.{IsBlock, live_before, live_behind}
use Rattle.ci_rewrite.specs.SameEffect.{KeepsShape}
use Rattle.ci_rewrite.specs.SameSteps.{PassAlike, EndAlike, PassedBlocksEndAlike}
use Rattle.ci_rewrite.proofs.Lists.{behind_first, same_behind}
use Rattle.ci_rewrite.proofs.Steps.{list_leaves, text_kept, last_is_fetched}

-- what is live before an instruction that ends a block has all that it reads
read_is_live : (units : Units) (insn : Insn) (live_out : finite.FinSet nat_cmp) (r : ℕ) → ends_block insn ≡ true → reads units insn r ≡ true
    → live_before (insn ∷ []) live_out r ≡ true
read_is_live units insn live_out r ends is = first (reads_register insn r) _ (sym (end_reads units insn ends r) ∙ is)
  where
    first : (p q : Bool) → p ≡ true → ((p || false) || q) ≡ true
    first p q is = grind arith

-- and with what it writes all that is live behind it
live_is_kept : (insn : Insn) (live_out : finite.FinSet nat_cmp) (r : ℕ) → ends_block insn ≡ true → finite.contains live_out r ≡ true
    → (live_before (insn ∷ []) live_out r || writes insn r) ≡ true
live_is_kept insn live_out r ends is =
    ap (λ w. live_before (insn ∷ []) live_out r || w) (end_writes insn ends r)
    ∙ kept (reads_register insn r) (writes_register insn r) (finite.contains live_out r) is
  where
    kept : (p q b : Bool) → b ≡ true → (((p || false) || (b && not (q || false))) || q) ≡ true
    kept p q b is = grind arith

-- ---- the law

module _ (meaning : Meaning) (program : Program) (insns folded : List Insn) (n : ℕ) (live_out : finite.FinSet nat_cmp)
    (pc : ℕ) (left right : State) (block : IsBlock insns n) (shape : KeepsShape insns n folded)
    (left_stands : StandAt meaning program left.core.memory left.pc insns)
    (right_stands : StandAt meaning program right.core.memory right.pc folded)
    (left_mapped : IsMapped (in_text program) left.core.memory) (right_mapped : IsMapped (in_text program) right.core.memory)
    (pass : PassAlike meaning program (live_behind insns n live_out) pc n left right) where
  abbrev l : Reached State
  l = after meaning program n left

  abbrev r : Reached State
  r = after meaning program n right

  stays_mapped : (state : State) (list : List Insn) → IsBlock list n → StandAt meaning program state.core.memory state.pc list
      → LeavesTextFor meaning program n state → IsMapped (in_text program) state.core.memory
      → IsMapped (in_text program) (after meaning program n state).state.core.memory
  stays_mapped state list is_block stands leaves mapped a text =
      ap is_some (text_kept meaning program list n state is_block stands (list_leaves meaning program list n state is_block stands leaves) a text)
      ∙ mapped a text

  module _ (below : n < length insns) (leaves : LeavesTextFor meaning program (suc n) left) where
    abbrev insn : Insn
    insn = nth_insn insns n

    leaves_before : LeavesTextFor meaning program n left
    leaves_before i under made = leaves i (omega arith) made

    abbrev live : ℕ → Bool
    live = live_before (insn ∷ []) live_out

    behind_is : drop n insns ≡ insn ∷ []
    behind_is = elim (behind_first insns n block.actions.most) [ inl (short, same) ↦ absurd (omega arith) | inr (there, same) ↦ same ]

    same_last : nth_insn folded n ≡ insn
    same_last = same_behind folded insns n shape.is_block.actions.most block.actions.most (omega (arith, shape.same_length)) shape.same_end

    both_over : (e : End) → l.end ≡ Some e → EndAlike meaning program (finite.contains live_out) (suc n) left right
    both_over e over =
        let other : r.end ≡ Some e = sym pass.related.related.end ∙ over in
        record {
          leaves_text = leaving_one_more meaning program n right pass.leaves_text
              (λ made. let never : is_none (Some e) ≡ true = ap is_none (sym other) ∙ made in cc);
          related = rw (ap (from_end (step meaning program) l) over, ap (from_end (step meaning program) r) other) (record {
            pc = λ on. cc;
            related = record { end = pass.related.related.end; outside = pass.related.related.outside; registers = λ on. cc };
          });
        }

    both_on : l.end ≡ None → EndAlike meaning program (finite.contains live_out) (suc n) left right
    both_on on = record {
      leaves_text = leaving_one_more meaning program n right pass.leaves_text (λ made.
          end_clear meaning program live insn l.state r.state ends (pass.related.pc on) left_fetches right_fetches mapped_left mapped_right
          (λ q. read_is_live meaning.units insn live_out q ends) related clear);
      related = rw (ap (from_end (step meaning program) l) on, ap (from_end (step meaning program) r) other)
          (AreRelatedAt-fewer (in_text program) (λ q. live q || writes insn q) (finite.contains live_out) _ _
          (λ q. live_is_kept insn live_out q ends)
          (ends_related meaning program live insn l.state r.state ends (pass.related.pc on) left_fetches right_fetches mapped_left mapped_right
          (λ q. read_is_live meaning.units insn live_out q ends) related clear));
    }
      where
        other : r.end ≡ None
        other = sym pass.related.related.end ∙ on

        ends : ends_block insn ≡ true
        ends = block.actions.end n (omega arith) below

        left_fetches : fetched meaning program l.state ≡ Some insn
        left_fetches = last_is_fetched meaning program insns n left block below left_stands leaves_before on

        right_fetches : fetched meaning program r.state ≡ Some insn
        right_fetches =
            last_is_fetched meaning program folded n right shape.is_block (let e = shape.same_length in omega arith) right_stands pass.leaves_text other
            ∙ ap Some same_last

        mapped_left : IsMapped (in_text program) l.state.core.memory
        mapped_left = stays_mapped left insns block left_stands leaves_before left_mapped

        mapped_right : IsMapped (in_text program) r.state.core.memory
        mapped_right = stays_mapped right folded shape.is_block right_stands pass.leaves_text right_mapped

        related : AreRelated (in_text program) (live_before (insn ∷ []) live_out) (at_start l.state.core) (at_start r.state.core)
        related = record {
          end = refl;
          outside = pass.related.related.outside;
          registers = λ none q is. pass.related.related.registers on q (ap (λ end. live_before end live_out q) behind_is ∙ is);
        }

        clear : touched meaning program l.state ≡ None
        clear = leaves n (omega arith) (ap is_none on)

    one_more : EndAlike meaning program (finite.contains live_out) (suc n) left right
    one_more = by_end l.end both_on both_over

  -- nothing stands behind the actions
  none_more : length insns ≡ n → EndAlike meaning program (finite.contains live_out) n left right
  none_more short = record {
    leaves_text = pass.leaves_text;
    related = AreRelatedAt-fewer (in_text program) (live_behind insns n live_out) (finite.contains live_out) l r live_is pass.related;
  }
    where
      live_is : (q : ℕ) → finite.contains live_out q ≡ true → live_behind insns n live_out q ≡ true
      live_is q is = elim (behind_first insns n block.actions.most) [
        | inl (past, same) ↦ ap (λ end. live_before end live_out q) same ∙ kept (finite.contains live_out q) is
        | inr (there, same) ↦ absurd (omega arith)
      ]
        where
          kept : (b : Bool) → b ≡ true → (false || (b && not false)) ≡ true
          kept b is = grind arith

pub passed_blocks_end_alike : PassedBlocksEndAlike
passed_blocks_end_alike meaning program insns folded n live_out pc left right block shape left_stands right_stands left_mapped right_mapped pass leaves =
    elim (cases_lt n (length insns)) [
      | inl below ↦
          let long : length insns ≡ suc n = let most = block.actions.most in omega arith in
          subst (λ m. EndAlike meaning program (finite.contains live_out) m left right) (sym long)
          (one_more meaning program insns folded n live_out pc left right block shape left_stands right_stands left_mapped right_mapped pass below
          (subst (λ m. LeavesTextFor meaning program m left) long leaves))
      | inr past ↦
          let short : length insns ≡ n = let within = block.actions.within in omega arith in
          subst (λ m. EndAlike meaning program (finite.contains live_out) m left right) (sym short)
          (none_more meaning program insns folded n live_out pc left right block shape left_stands right_stands left_mapped right_mapped pass short)
    ]
