-- A file whose blocks are renamed one after the other.
use Rattle.std.proofs.Common.{◌≡◌, ℕ, suc, ◌+◌, ◌*◌, ◌^◌, ◌<◌, ◌≤◌, List, [], ◌∷◌, ◌++◌, Bool, true, false, length, get_or, take, Ok, refl, sym, ◌∙◌, ap, subst, arith}
use Rattle.std.specs.Prelude.{nat_lt, filter, sum_by, if◌then◌else◌}
use Rattle.std.specs.FinSet as finite
use Rattle.std.specs.List.{AllPairs, Contains}
use Rattle.std.specs.Ordering.{nat_cmp}
use Rattle.std.proofs.lemmas.Bool.Decides.{nat_tests}
use Rattle.std.proofs.lemmas.List.{get_or-take, get_or_default, length-append, length-take-le, take_all, take_more}
use Rattle.std.proofs.lemmas.List.Elements.{Contains-append_left, Contains-get_or, Contains-push, filter-append}
use Rattle.std.proofs.lemmas.List.Sums.{sum_by_more, sum_by_push, sum_by-take-le}
use Rattle.ci_isa.specs.declared.instruction.Insn.{Insn}
use Rattle.ci_isa.specs.Sequences.{nth_insn}
use Rattle.ci_isa.specs.Table.{IsWellFormed, IsWordOf}
use Rattle.ci_isa.proofs.WellFormed.{fields_fit, well_formed}
use Rattle.ci_elf.specs.Executables.{Executable, IsTextWord, IsWellFormed as IsWellFormedFile, text_word}
use Rattle.ci_elf.specs.Rules.{IsReadAs}
use Rattle.ci_elf.proofs.PatchLaws.{none_written}
use Rattle.ci_elf.proofs.TextPlaceLaws.{formed}
use Rattle.ci_block.specs.Blocks.{end_of_block, size_of}
use Rattle.ci_block.specs.CustomWords.{HasNoCustomWord}
use Rattle.ci_block.specs.Patches.{PatchesBlock}
use Rattle.ci_block.specs.declared.blocks.Block.{Block}
use Rattle.ci_block.proofs.BlockLaws.{blocks_in_order}
use Rattle.ci_block.proofs.BlockSums.{blocks_apart, few_insns, words_of_block}
use Rattle.ci_block.proofs.BlockWords.{block_is_spelt}
use Rattle.ci_block.proofs.PatchLaws.{both_changes, earlier_word_stays}
use Rattle.ci_live.specs.Analyses.{IsAnalysis}
use Rattle.ci_live.specs.Sets.{Sets, after_block}
use Rattle.ci_live.proofs.NeededLaws.{has_sets}
use Rattle.ci_machine.specs.Words.{AreBytes}
use Rattle.ci_rename.specs.Laws.{AllFieldsFit}
use Rattle.ci_rename.specs.RenamedFiles.{AreRenamedAt, IsOutside, IsRenamedAt, IsRenamedFile, more, none}
use Rattle.ci_rename.specs.Renaming.{IsRenamed}
use Rattle.ci_rename.specs.private.FilesSoFar.{AreRenamedSoFar}
use Rattle.ci_rename.proofs.FieldsStay.{renamed_fields_fit}
use Rattle.ci_rename.proofs.NumberOfValues.{has_renamed}

-- the file with other bytes
abbrev with_bytes : Executable → List ℕ → Executable
with_bytes file bytes = record file { bytes = bytes }

-- what is asked of instructions that are written from a leader on
pub record CanBeWritten (file : Executable) (leader : ℕ) (insns : List Insn) : Type 0 where
  pub few : length insns ≤ 256
  pub text : (k : ℕ) → k < length insns → IsTextWord file.ranges (leader + 4 * k)
  pub formed : (k : ℕ) → k < length insns → IsWellFormed (nth_insn insns k)

-- ---- lists of renamed blocks

module _ (live : Sets) where
  -- one block more
  renamed_push :
      (new : Executable) (blocks : List Block) (each : List ℕ) (block : Block) (values : ℕ) → AreRenamedAt live new blocks each
      → IsRenamedAt live new block values → AreRenamedAt live new (blocks ++ block ∷ []) (each ++ values ∷ [])
  renamed_push new _ _ block values none here = more block [] values [] here none
  renamed_push new _ _ block values (more first blocks count each is rest) here =
      more first (blocks ++ block ∷ []) count (each ++ values ∷ []) is (renamed_push new blocks each block values rest here)

  -- they stay renamed where their words stay
  still_renamed :
      (mid new : Executable) (blocks : List Block) (each : List ℕ) → AreRenamedAt live mid blocks each
      → ((block : Block) (k : ℕ) → Contains blocks block → k < size_of block
      → text_word new (block.leader + 4 * k) ≡ text_word mid (block.leader + 4 * k))
      → AreRenamedAt live new blocks each
  still_renamed mid new _ _ none stay = none
  still_renamed mid new _ _ (more first blocks count each is rest) stay =
      let long = has_renamed (after_block live first.leader) first.insns.items (length first.insns.items) is.insns count is.renamed in
      more first blocks count each
      (record {
        insns = is.insns;
        renamed = is.renamed;
        words = λ k below.
            subst (λ w. IsWordOf w (nth_insn is.insns k)) (sym (stay first k (0, omega arith, refl) (omega (arith, below, long.same_length))))
            (is.words k below);
      })
      (still_renamed mid new blocks each rest (λ block k there below. stay block k (suc there.0, omega (arith, there.1), there.2) below))

abbrev is_some : ℕ → Bool
is_some count = nat_lt 0 count

count_more : (b : Bool) (count : ℕ) → length (if b then count ∷ [] else []) ≡ (if b then 1 else 0)
count_more true count = refl
count_more false count = refl

pub tested_some : (count : ℕ) → 0 < count → nat_lt 0 count ≡ true
tested_some count some = grind (arith, nat_tests)

at_most : (b : Bool) (count : ℕ) → nat_lt 0 count ≡ b → (if b then 1 else 0) ≤ count
at_most true count tested = grind (arith, nat_tests)
at_most false count tested = omega arith

-- how many of them are changed
pub counted_push :
    (each : List ℕ) (count : ℕ)
    → length (filter is_some (each ++ count ∷ [])) ≡ length (filter is_some each) + (if is_some count then 1 else 0)
counted_push each count =
    ap length (filter-append is_some each (count ∷ []))
    ∙ length-append (filter is_some each) (filter is_some (count ∷ []))
    ∙ ap (λ n. length (filter is_some each) + n) (count_more (is_some count) count)

-- a block was renamed
pub renamed_here :
    (live : Sets) (block : Block) (live_out : finite.FinSet nat_cmp) (was insns : List Insn) (count : ℕ)
    → live_out ≡ after_block live block.leader → was ≡ block.insns.items → IsRenamed live_out was insns count
    → IsRenamed (after_block live block.leader) block.insns.items insns count
renamed_here live block live_out was insns count live_is is renamed =
    subst (λ set. IsRenamed set block.insns.items insns count) live_is
    (subst (λ list. IsRenamed live_out list insns count) is renamed)

-- ---- the blocks of a file

module _
    {file : Executable} {targets named : List ℕ} {blocks : List Block} {live : Sets} (read : IsReadAs file.bytes (Ok file))
    (analysis : IsAnalysis file targets named blocks live) where
  whole : IsWellFormedFile file
  whole = formed file.bytes read.0 file read.1

  -- they have few instructions
  pub few_in_all : (index : ℕ) → sum_by size_of (take index blocks) ≤ 2 ^ 30
  few_in_all index =
      let all = few_insns file analysis.leaders blocks whole analysis.blocks_are analysis.listing.ascending in
      let some = sum_by-take-le size_of blocks index in
      omega (arith, all, some)

  -- they are few
  pub few_blocks :
      (index : ℕ) (new : Executable) (values changed : ℕ) → AreRenamedSoFar file new live (take index blocks) values changed
      → changed ≤ 2 ^ 30
  few_blocks index new values changed so_far = omega (arith, so_far.few_changed, so_far.few_values, few_in_all index)

  pub none_so_far : AreRenamedSoFar file file live [] 0 0
  none_so_far = record {
    new_is = refl;
    text_alone = none_written file;
    others_stay = λ address text out. refl;
    each = [];
    renamed = none;
    values_are = refl;
    changed_are = refl;
    few_values = omega arith;
    few_changed = omega arith;
  }

  -- and where all are renamed the file is
  pub all_renamed :
      (new : Executable) (index values changed : ℕ) → HasNoCustomWord file → length blocks ≤ index
      → AreRenamedSoFar file new live (take index blocks) values changed → IsRenamedFile file new live values changed
  all_renamed new index values changed plain all so_far =
      let is = subst (λ done. AreRenamedSoFar file new live done values changed) (take_all index blocks all) so_far in
      record {
        targets = targets;
        named = named;
        blocks = blocks;
        old_bytes = file.bytes;
        old_is = read;
        plain = plain;
        analysis = analysis;
        new_is = is.new_is;
        text_alone = is.text_alone;
        others_stay = is.others_stay;
        each = is.each;
        renamed = is.renamed;
        values_are = is.values_are;
        changed_are = is.changed_are;
      }

  module _
      (index : ℕ) (block : Block) (all : List Block) (same : all ≡ blocks) (below : index < length all)
      (is : block ≡ get_or all index block) where
    within : index < length blocks
    within = subst (λ xs. index < length xs) same below

    at : get_or blocks index block ≡ block
    at = subst (λ xs. get_or xs index block ≡ block) same (sym is)

    pub there : Contains blocks block
    there = subst (Contains blocks) at (Contains-get_or blocks index block within)

    pub has_leader : Contains live.leaders block.leader
    has_leader = has_sets blocks live analysis.live block there

    pub few : size_of block ≤ 256
    few = (analysis.blocks_are.each block there).at_most

    text_here : (k : ℕ) → k < size_of block → IsTextWord file.ranges (block.leader + 4 * k)
    text_here k low = words_of_block analysis.blocks_are block k there low

    -- the blocks before it
    before_it : (earlier : Block) → Contains (take index blocks) earlier → Contains blocks earlier × (end_of_block earlier ≤ block.leader)
    before_it earlier (k, place, found) =
        let low : k < index = omega (arith, place, length-take-le index blocks (omega (arith, within))) in
        let is_there : get_or blocks k earlier ≡ earlier = sym (get_or-take index blocks k earlier low) ∙ found in
        let order : (get_or blocks k earlier).leader < (get_or blocks index earlier).leader =
        blocks_in_order analysis.leaders blocks analysis.blocks_are.by_leader analysis.listing.ascending k index earlier low within in
        let one : get_or blocks index earlier ≡ block = get_or_default blocks index earlier block within ∙ at in
        let less : earlier.leader < block.leader =
        subst (λ (b : Block). earlier.leader < b.leader) one
        (subst (λ (b : Block). b.leader < (get_or blocks index earlier).leader) is_there order) in
        let known : Contains blocks earlier = (k, omega (arith, low, within), is_there) in
        (known, blocks_apart analysis.blocks_are earlier block known there less)

    -- the block lies outside of them
    out_of_earlier : (k : ℕ) → IsOutside (take index blocks) (block.leader + 4 * k)
    out_of_earlier k earlier c j low one = let apart = (before_it earlier c).1 in omega (arith, apart, low, one)

    module _
        (mid : Executable) (values changed : ℕ) (so_far : AreRenamedSoFar file mid live (take index blocks) values changed)
        (insns : List Insn) (count : ℕ) (renamed : IsRenamed (after_block live block.leader) block.insns.items insns count)
        (bytes : AreBytes file.bytes) where
      same_length : length insns ≡ size_of block
      same_length =
          (has_renamed (after_block live block.leader) block.insns.items (length block.insns.items) insns count renamed).same_length

      few_here : count ≤ size_of block
      few_here = (has_renamed (after_block live block.leader) block.insns.items (length block.insns.items) insns count renamed).few

      spelt : (k : ℕ) → k < size_of block → IsWordOf (text_word file (block.leader + 4 * k)) (nth_insn block.insns.items k)
      spelt k low = block_is_spelt bytes (analysis.blocks_are.each block there) k low

      in_mid : (address : ℕ) → IsTextWord file.ranges address → IsTextWord mid.ranges address
      in_mid address text = subst (λ (f : Executable). IsTextWord f.ranges address) (sym so_far.new_is) text

      -- the renamed block can be written,
      pub can_be_written : (shown : List Insn) → shown ≡ insns → CanBeWritten mid block.leader shown
      can_be_written shown are = subst (CanBeWritten mid block.leader) (sym are) (record {
        few = omega (arith, same_length, few);
        text = λ k low. in_mid (block.leader + 4 * k) (text_here k (omega (arith, low, same_length)));
        formed = λ k low.
            well_formed (nth_insn insns k)
            (renamed_fields_fit (after_block live block.leader) block.insns.items insns count renamed
            (λ j inner. fields_fit (nth_insn block.insns.items j) (text_word file (block.leader + 4 * j), spelt j inner)) k low);
      })

      -- and stands already where none of its values is renamed
      pub stands : count ≡ 0 → PatchesBlock mid mid block.leader insns
      stands nothing = record {
        same_else = refl;
        text_alone = none_written mid;
        words = λ k inner.
            let low : k < size_of block = omega (arith, inner, same_length) in
            let unchanged = (has_renamed (after_block live block.leader) block.insns.items (length block.insns.items) insns count renamed).unchanged nothing in
            let word_stays = so_far.others_stay (block.leader + 4 * k) (text_here k low) (out_of_earlier k) in
            subst (λ list. IsWordOf (text_word mid (block.leader + 4 * k)) (nth_insn list k)) (sym unchanged)
            (subst (λ w. IsWordOf w (nth_insn block.insns.items k)) (sym word_stays) (spelt k low));
        others = λ address text out. refl;
      }

      -- how many values there are
      pub room : values + count ≤ 2 ^ 30
      room =
          let all = few_in_all (index + 1) in
          omega (arith, all, sum_by_more size_of blocks index block within, ap size_of at, so_far.few_values, few_here)

      -- one block more is renamed
      pub one_more :
          (new : Executable) (later counted : ℕ) → PatchesBlock mid new block.leader insns → later ≡ values + count
          → counted ≡ changed + (if is_some count then 1 else 0)
          → AreRenamedSoFar file new live (take (index + 1) blocks) later counted
      one_more new later counted patches sum changes =
          subst (λ done. AreRenamedSoFar file new live done later counted) (sym grown) (record {
            new_is = patches.same_else ∙ ap (λ f. with_bytes f new.bytes) so_far.new_is;
            text_alone = both_changes file mid new so_far.new_is so_far.text_alone patches.text_alone;
            others_stay = λ address text out.
                patches.others address (in_mid address text) (λ at_word.
                out block last_there at_word.0 (omega (arith, at_word.1, same_length)) at_word.2)
                ∙ so_far.others_stay address text (λ earlier c. out earlier (first_there earlier c));
            each = so_far.each ++ count ∷ [];
            renamed = renamed_push live new (take index blocks) so_far.each block count
                (still_renamed live mid new (take index blocks) so_far.each so_far.renamed earlier_stay)
                (record { insns = insns; renamed = renamed; words = patches.words });
            values_are = sum ∙ (omega (arith, so_far.values_are, sum_by_push (λ n. n) so_far.each count));
            changed_are = changes ∙ (omega (arith, so_far.changed_are, counted_push so_far.each count));
            few_values = omega (arith, sum, so_far.few_values, few_here, sum_by_push size_of (take index blocks) block);
            few_changed = omega (arith, changes, sum, so_far.few_changed, at_most (is_some count) count refl);
          })
        where
          grown : take (index + 1) blocks ≡ take index blocks ++ block ∷ []
          grown = take_more blocks index block within ∙ ap (λ b. take index blocks ++ b ∷ []) at

          last_there : Contains (take index blocks ++ block ∷ []) block
          last_there = Contains-push (take index blocks) block

          first_there : (earlier : Block) → Contains (take index blocks) earlier → Contains (take index blocks ++ block ∷ []) earlier
          first_there earlier c = Contains-append_left (take index blocks) (block ∷ []) earlier c

          earlier_stay : (earlier : Block) (k : ℕ) → Contains (take index blocks) earlier → k < size_of earlier
              → text_word new (earlier.leader + 4 * k) ≡ text_word mid (earlier.leader + 4 * k)
          earlier_stay earlier k c low =
              let known = before_it earlier c in
              earlier_word_stays mid new earlier block insns k patches known.1 low
              (in_mid (earlier.leader + 4 * k) (words_of_block analysis.blocks_are earlier k known.0 low))
