-- How many values of a block are renamed: at most as many as it has instructions, and where it is none the block stays.
use Rattle.std.specs.Prelude.{◌≡◌, ℕ, ◌+◌, ◌≤◌, List, length}
use Rattle.std.specs.FinSet as finite
use Rattle.std.specs.Ordering.{nat_cmp}
use Rattle.std.proofs.Common.{refl, ◌∙◌, arith}
use Rattle.ci_isa.specs.declared.instruction.Insn.{Insn}
use Rattle.ci_rename.specs.Renaming.{AreGoneThrough, IsGoneThrough, more, none, renamed, renames, stays}
use Rattle.ci_rename.proofs.GoingThrough.{through_length}

-- of so many nodes that are gone through
pub record HasRenamed (insns next : List Insn) (count values : ℕ) : Type 0 where
  pub same_length : length next ≡ length insns
  pub few : values ≤ count
  pub unchanged : values ≡ 0 → next ≡ insns

one_node : (live_out : finite.FinSet nat_cmp) (insns : List Insn) (i : ℕ) (next : List Insn) (values : ℕ) → IsGoneThrough live_out insns i next values
    → HasRenamed insns next 1 values
one_node live_out insns i _ _ (renames r to may) = record {
  same_length = through_length live_out insns i (renamed insns i to) 1 (renames r to may);
  few = omega arith;
  unchanged = λ zero. absurd (omega (arith, zero));
}
one_node live_out insns i _ _ (stays never) = record { same_length = refl; few = omega arith; unchanged = λ zero. refl }

pub has_renamed : (live_out : finite.FinSet nat_cmp) (insns : List Insn) (count : ℕ) (next : List Insn) (values : ℕ)
    → AreGoneThrough live_out insns count next values → HasRenamed insns next count values
has_renamed live_out insns _ _ _ none = record { same_length = refl; few = omega arith; unchanged = λ zero. refl }
has_renamed live_out insns _ _ _ (more i before next values further first last) =
    let so_far = has_renamed live_out insns i before values first in
    let node = one_node live_out before i next further last in
    record {
      same_length = node.same_length ∙ so_far.same_length;
      few = omega (arith, so_far.few, node.few);
      unchanged = λ zero. node.unchanged (omega (arith, zero)) ∙ so_far.unchanged (omega (arith, zero));
    }
