-- Executables in whose texts instructions end blocks alike and lead alike: they have the same leaders, and blocks of the
-- same sizes.
use Rattle.std.specs.Prelude.{◌≡◌, ℕ, ◌+◌, ◌-◌, ◌*◌, ◌<◌, ◌≤◌, List}
use Rattle.std.specs.List.{Contains}
use Rattle.std.proofs.Common.{sym, ap, ◌∙◌, subst, arith, inl, inr, true≢false}
use Rattle.ci_isa.specs.declared.instruction.Insn.{Insn}
use Rattle.ci_isa.specs.declared.instruction.Insn.TheVariants.{Ebreak}
use Rattle.ci_isa.specs.Effects.{ends_block}
use Rattle.ci_isa.specs.Sequences.{nth_insn}
use Rattle.ci_elf.specs.declared.ranges.Range.{Range}
use Rattle.ci_elf.specs.Executables.{Executable, IsAscending, IsTextWord, end_of}
use Rattle.ci_elf.proofs.ImageLaws.{ordered}
use Rattle.ci_block.specs.declared.blocks.Block.{Block}
use Rattle.ci_block.specs.Blocks.{IsBlockAt, at_end_of_range, at_leader, at_terminator, end_of_block, full, size_of}
use Rattle.ci_block.specs.Leaders.{IsBehindFullBlock, IsListing, IsMark, behind_terminator, data_word, entry, named_by_user, symbol, target_of_jalr}
use Rattle.ci_block.specs.Leaders.{target_of_jump, where_ranges_meet}
use Rattle.ci_block.specs.Text.{EndsAt, IsDataWord, StandsAt, target_of}
use Rattle.ci_block.proofs.InsnLaws.{stands_alone}

-- what stands in the first text has a counterpart in the second
pub record HasCounterpart (two : Executable) (address : ℕ) (insn : Insn) : Type 0 where
  pub other : Insn
  pub stands : StandsAt two address other
  pub ends : ends_block other ≡ ends_block insn
  pub leads : target_of address other ≡ target_of address insn

pub record GoesInto (one two : Executable) : Type 0 where
  pub same_entry : one.entry ≡ two.entry
  pub same_ranges : one.ranges ≡ two.ranges
  pub same_symbols : one.symbols ≡ two.symbols
  pub stands : (address : ℕ) (insn : Insn) → StandsAt one address insn → HasCounterpart two address insn
  pub words : (place value : ℕ) → IsDataWord one place value → IsDataWord two place value

module _ (one two : Executable) (into : GoesInto one two) where
  ends_there : (address : ℕ) → EndsAt one address → EndsAt two address
  ends_there address ends =
      let found = into.stands address ends.insn ends.stands in
      record { insn = found.other; stands = found.stands; ends = found.ends ∙ ends.ends }

  range_there : (range : Range) → Contains one.ranges range → Contains two.ranges range
  range_there range there = subst (λ (ranges : List Range). Contains ranges range) into.same_ranges there

  mark_there : (targets named : List ℕ) (address : ℕ) → IsMark one targets named address → IsMark two targets named address
  mark_there targets named address (entry is) = entry (sym into.same_entry ∙ is)
  mark_there targets named address (target_of_jump from insn stands leads) =
      let found = into.stands from insn stands in target_of_jump from found.other found.stands (found.leads ∙ leads)
  mark_there targets named address (behind_terminator last ends is) = behind_terminator last (ends_there last ends) is
  mark_there targets named address (where_ranges_meet before range b r meets starts) =
      where_ranges_meet before range (range_there before b) (range_there range r) meets starts
  mark_there targets named address (symbol there) = symbol (subst (λ (symbols : List ℕ). Contains symbols address) into.same_symbols there)
  mark_there targets named address (data_word place is) = data_word place (into.words place address is)
  mark_there targets named address (target_of_jalr there) = target_of_jalr there
  mark_there targets named address (named_by_user there) = named_by_user there

module _ (one two : Executable) (into : GoesInto one two) (back : GoesInto two one) where
  behind_there : (leaders : List ℕ) (address : ℕ) → IsBehindFullBlock one leaders address → IsBehindFullBlock two leaders address
  behind_there leaders address is = record {
    leader = is.leader;
    listed = is.listed;
    distance = is.distance;
    nearest = is.nearest;
    range = is.range;
    there = range_there one two into is.range is.there;
    from = is.from;
    to = is.to;
    unbroken = λ a from below ends. is.unbroken a from below (ends_there two one back a ends);
  }

module _ (one two : Executable) (into : GoesInto one two) (back : GoesInto two one) (targets named leaders : List ℕ) where
  pub listing_there : IsListing one targets named leaders → IsListing two targets named leaders
  listing_there listing = record {
    ascending = listing.ascending;
    listed = λ address. (
      λ there.
          let (text, why) = (listing.listed address).0 there in (
            subst (λ ranges. IsTextWord ranges address) into.same_ranges text,
            elim why [
              | inl mark ↦ inl (mark_there one two into targets named address mark)
              | inr behind ↦ inr (behind_there one two into back leaders address behind)
            ],
          ),
      λ reason.
          let (text, why) = reason in
          (listing.listed address).1 (
            subst (λ ranges. IsTextWord ranges address) back.same_ranges text,
            elim why [
              | inl mark ↦ inl (mark_there two one back targets named address mark)
              | inr behind ↦ inr (behind_there two one back into leaders address behind)
            ],
          ),
    );
  }

-- ---- sizes

module _ (one two : Executable) (into : GoesInto one two) (leaders : List ℕ) (ascending : IsAscending one.ranges)
    (left right : Block) (l : IsBlockAt one leaders left) (r : IsBlockAt two leaders right) (same : left.leader ≡ right.leader) where
  -- both lie in one range
  same_end : end_of l.range ≡ end_of r.range
  same_end =
      let there : Contains one.ranges r.range = subst (λ (ranges : List Range). Contains ranges r.range) (sym into.same_ranges) r.there in
      elim (ordered (λ a b. end_of a ≤ b.start) one.ranges l.range r.range ascending l.there there) [
        | inl h ↦ absurd (omega (arith, h, r.from, l.within, l.some, same))
        | inr (inl h) ↦ absurd (omega (arith, h, l.from, r.within, r.some, same))
        | inr (inr e) ↦ ap (λ (range : Range). end_of range) e
      ]

  pub not_shorter : ¬ (size_of left < size_of right)
  not_shorter h = elim l.ends [
    | at_leader c ↦ r.one_leader (end_of_block left) (omega (arith, same, l.some)) (omega (arith, same)) c
    | at_terminator ends ↦
        let last = size_of left - 1 in
        let address = left.leader + 4 * last in
        let found = into.stands address (nth_insn left.insns.items last) (l.insns last Ebreak (omega (arith, l.some))) in
        let there : StandsAt two address (nth_insn right.insns.items last) =
        subst (λ a. StandsAt two (a + 4 * last) (nth_insn right.insns.items last)) (sym same) (r.insns last Ebreak (omega arith)) in
        let equal : found.other ≡ nth_insn right.insns.items last =
        stands_alone two address found.other (nth_insn right.insns.items last) found.stands there in
        true≢false (sym (ends Ebreak) ∙ sym found.ends ∙ ap ends_block equal ∙ r.one_terminator last (omega (arith, l.some)) Ebreak)
    | full is ↦ omega (arith, is, r.at_most)
    | at_end_of_range is ↦ omega (arith, is, r.within, same_end, same)
  ]
