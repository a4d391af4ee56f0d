-- The instructions of a block that words are, place by place.
use Rattle.std.proofs.Common.{◌≡◌, ℕ, ◌+◌, ◌*◌, ◌/◌, ◌%◌, ◌<◌, inl, inr, List, [], ◌∷◌, ◌++◌, length, get_or, slice_get}
use Rattle.std.proofs.Common.{Some, sym, ap, subst, ◌∙◌, arith, length-append}
use Rattle.std.proofs.lemmas.Bool.{cases_lt}
use Rattle.std.proofs.lemmas.Option.{get_or_from_slice_get}
use Rattle.std.proofs.Math.ListN.{get_or-append}
use Rattle.std.proofs.Math.Seq.{get_or-append_seam}
use Rattle.ci_reading.specs.Bytes.{words_of_bytes}
use Rattle.ci_reading.proofs.ByteLaws.{length-words_of_bytes}
use Rattle.ci_isa.specs.declared.instruction.Insn.{Insn}
use Rattle.ci_isa.specs.declared.instruction.Insn.TheVariants.{Ebreak}
use Rattle.ci_isa.specs.Table.{IsInsnAt}
use Rattle.ci_dfg.specs.Bundles.{AreBundled}
use Rattle.ci_dfg.proofs.PlainLists.{plain_are_bundled}
use Rattle.ci_commands.specs.WordBlocks.{IsMisplaced, IsWordBlock, IsNoWordBlock}

module _ (bytes : List ℕ) where
  -- the words below the place are these instructions, and each may stand where it stands
  pub record IsReadTo (insns : List Insn) (place : ℕ) : Type 0 where
    pub count : length insns ≡ place
    pub each : (k : ℕ) (d : Insn) → k < place → IsInsnAt (get_or (words_of_bytes bytes) k 0) (get_or insns k d)
    pub placed : (k : ℕ) → k < place → ¬ IsMisplaced (words_of_bytes bytes) k (get_or (words_of_bytes bytes) k 0)

  module _ (insns : List Insn) (place word : ℕ) (read : IsReadTo insns place) (there : slice_get (words_of_bytes bytes) place ≡ Some word) where
    here : get_or (words_of_bytes bytes) place 0 ≡ word
    here = get_or_from_slice_get (words_of_bytes bytes) place word 0 there

    -- one word more
    pub read_more : (insn : Insn) → IsInsnAt word insn → ¬ IsMisplaced (words_of_bytes bytes) place word → IsReadTo (insns ++ insn ∷ []) (place + 1)
    read_more insn reads placed = record {
      count = length-append insns (insn ∷ []) ∙ ap (λ n. n + 1) read.count;
      each = λ k d below. elim (cases_lt k place) [
        | inl before ↦
            let same = get_or-append insns (insn ∷ []) d k (omega (arith, read.count)) in
            subst (IsInsnAt (get_or (words_of_bytes bytes) k 0)) (sym same) (read.each k d before)
        | inr after ↦
            let last : k ≡ place = omega arith in
            let same : get_or (insns ++ insn ∷ []) k d ≡ insn =
            ap (λ i. get_or (insns ++ insn ∷ []) i d) (last ∙ sym read.count)
            ∙ get_or-append_seam insns insn [] d in
            subst (IsInsnAt (get_or (words_of_bytes bytes) k 0)) (sym same)
            (subst (λ w. IsInsnAt w insn) (sym (ap (λ i. get_or (words_of_bytes bytes) i 0) last ∙ here)) reads)
      ];
      placed = λ k below. elim (cases_lt k place) [
        | inl before ↦ read.placed k before
        | inr after ↦
            let last : k ≡ place = omega arith in
            subst (λ i. ¬ IsMisplaced (words_of_bytes bytes) i (get_or (words_of_bytes bytes) i 0)) (sym last)
            (subst (λ w. ¬ IsMisplaced (words_of_bytes bytes) place w) (sym here) placed)
      ];
    }

    -- a word that can't stand at the place is the first
    pub read_wrong : (position : ℕ) → length bytes % 4 ≡ 0 → position ≡ 4 * place
        → IsMisplaced (words_of_bytes bytes) place word → IsNoWordBlock bytes position word
    read_wrong position whole at misplaced = inr (record {
      whole_words = whole;
      place = place;
      offset = at;
      there = there;
      misplaced = misplaced;
      first = read.placed;
    })

  -- all of them are a block
  pub read_all : (insns : List Insn) (place : ℕ) → length bytes % 4 ≡ 0 → place ≡ length bytes / 4 → IsReadTo insns place → IsWordBlock bytes insns
  read_all insns place whole all read = record {
    whole_words = whole;
    as_many = read.count ∙ all ∙ sym (length-words_of_bytes bytes);
    each = λ k d below. read.each k d (omega (arith, read.count));
    placed = λ k below. read.placed k (omega (arith, read.count));
  }

  -- a block of words is of the plain table
  pub words_are_bundled : (insns : List Insn) → IsWordBlock bytes insns → AreBundled insns
  words_are_bundled insns is = plain_are_bundled (λ k. get_or (words_of_bytes bytes) k 0) insns (λ k below. is.each k Ebreak below)
