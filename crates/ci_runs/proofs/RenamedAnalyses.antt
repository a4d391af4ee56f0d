-- A renamed file has the leaders of the original, the same registers are live at them, and its blocks keep all cuts.
use Rattle.std.specs.Prelude.{◌≡◌, ℕ, zero, suc, ◌+◌, ◌-◌, ◌*◌, ◌<◌, ◌≤◌, ◌⊎◌, true, List, [], ◌∷◌, length, map, IsTrue, nat_le, nat_lt, slice_index}
use Rattle.std.specs.List.{Contains}
use Rattle.std.specs.FinSet as finite
use Rattle.std.specs.Ordering.{nat_cmp}
use Rattle.std.specs.Prelude.{pos, ◌≤ℤ◌}
use Rattle.std.proofs.Common.{refl, sym, ap, ◌∙◌, subst, arith, inl, inr, get_or}
use Rattle.std.proofs.lemmas.Int.{ints}
use Rattle.std.proofs.lemmas.Bool.{and_parts, cases_eq, leb-true, ltb-true}
use Rattle.std.proofs.lemmas.List.{get_or_default, same_lists}
use Rattle.ci_word.proofs.NumberLaws.{same_numbers}
use Rattle.ci_isa.specs.declared.instruction.Insn.{Insn}
use Rattle.ci_isa.specs.declared.instruction.Insn.TheVariants.{Alu, Ebreak, Jalr}
use Rattle.ci_isa.specs.Sequences.{ReadFirst, Write, nth_insn}
use Rattle.ci_isa.specs.Table.{IsInsnAt}
use Rattle.ci_isa.proofs.TableLaws.{one_insn_at_each_word}
use Rattle.ci_elf.specs.declared.segments.Segment.{Segment}
use Rattle.ci_elf.specs.Executables.{Executable, IsTextWord, InText, has_in_file, text_word}
use Rattle.ci_elf.proofs.PatchLaws.{text_is_loaded_once}
use Rattle.ci_block.specs.declared.blocks.Block.{Block}
use Rattle.ci_block.specs.declared.blocks.Next.{Next}
use Rattle.ci_block.specs.declared.blocks.Next.TheVariants.{Stop, One, Two, Any}
use Rattle.ci_block.specs.Blocks.{at_end_of_range, at_leader as ends_at_leader, at_terminator, full}
use Rattle.ci_block.specs.Blocks.{AreBlocks, AreInOrder, AreSuccessors, IsBlockAt, IsNext, end_of_block, size_of, ways_on}
use Rattle.ci_block.specs.Laws.{contents_of}
use Rattle.ci_block.specs.Text.{IsDataWord, StandsAt, target_of}
use Rattle.ci_block.proofs.BlockLaws.{blocks_in_order}
use Rattle.ci_block.proofs.InsnLaws.{stands_alone}
use Rattle.ci_block.proofs.OneBlock.{block_is_one}
use Rattle.ci_block.proofs.OneListing.{listing_is_one}
use Rattle.ci_live.specs.Analyses.{IsAnalysis}
use Rattle.ci_live.specs.Laws.{AgreeAt}
use Rattle.ci_live.specs.Liveness.{IsLive, IsLiveAfter, IsSuccessor, LeadsTo}
use Rattle.ci_live.specs.Sets.{Sets, after_block, at_leader}
use Rattle.ci_live.proofs.LivenessLaws.{live_from_steps}
use Rattle.ci_live.proofs.NeededLaws.{has_sets, live_at_successor, live_is_needed}
use Rattle.ci_live.proofs.OneAnalysis.{block_with}
use Rattle.ci_cut.specs.Gain.{gain}
use Rattle.ci_lat.specs.Latencies.{Latencies}
use Rattle.ci_dfg.specs.BlockGraph.{graph_of, source_of}
use Rattle.ci_rename.specs.FewerArcs.{HasFewerArcs}
use Rattle.ci_rename.proofs.CutsStay.{best_gain_stays, cuts_stay}
use Rattle.ci_rename.proofs.FewerArcs.{renaming_takes_arcs}
use Rattle.ci_rename.specs.OtherRegisters.{ComputeAlike, HasOtherRegisters, with_operands, with_result}
use Rattle.ci_rename.specs.RenamedFiles.{IsOutside, IsRenamedFile}
use Rattle.ci_rename.proofs.RenamedBlocks.{computes_itself, other_kind}
use Rattle.ci_rename.proofs.RenamedGraphs.{same_truth}
use Rattle.ci_runs.specs.ChangedFiles.{IsChangedFile}
use Rattle.ci_runs.specs.RenamedAnalyses.{AreAnalysedAlike, KeepsCuts, RenamedFilesAnalyseAlike, RenamedFilesKeepCuts}
use Rattle.ci_runs.proofs.AlikeNeeds.{leaves_alike, reads_alike}
use Rattle.ci_runs.proofs.AlikeTexts.{GoesInto, HasCounterpart, listing_there, not_shorter}
use Rattle.ci_runs.proofs.ChangedFiles as files
use Rattle.ci_runs.proofs.RenamedWords as words

-- with other registers an instruction leads alike
same_target : (address : ℕ) (insn : Insn) (operand : ℕ → ℕ) (result : ℕ) → target_of address (with_result result (with_operands operand insn)) ≡ target_of address insn
same_target address (Alu op rd rs1 rs2) operand result = refl
same_target address insn operand result = refl

same_next : (image : Executable) (last : ℕ) (insn : Insn) (operand : ℕ → ℕ) (result : ℕ) (next : Next)
    → IsNext image last (with_result result (with_operands operand insn)) next → IsNext image last insn next
same_next image last (Alu op rd rs1 rs2) operand result next is = is
same_next image last insn operand result next is = is

-- and by the same ranges of text
ranged : (old : Executable) (bytes ways : List ℕ) (next : Next) → AreSuccessors (record old { bytes = bytes }) ways next → AreSuccessors old ways next
ranged old bytes ways Stop is = is
ranged old bytes ways (One a) is = is
ranged old bytes ways (Two a b) is = is
ranged old bytes ways Any is = is

ranged_next : (old : Executable) (bytes : List ℕ) (last : ℕ) (insn : Insn) (next : Next) → IsNext (record old { bytes = bytes }) last insn next
    → IsNext old last insn next
ranged_next old bytes last (Jalr rd rs1 offset) next is = is
ranged_next old bytes last insn next is = ranged old bytes (ways_on last insn) next is

-- ---- places in blocks

-- the address is one of the words of a block
record IsIn (blocks : List Block) (address : ℕ) : Type 0 where
  block : Block
  there : Contains blocks block
  k : ℕ
  below : k < length block.insns.items
  is : address ≡ block.leader + 4 * k

find_word : (leader size address : ℕ) → ((k : ℕ) × (k < size) × (address ≡ leader + 4 * k)) ⊎ ((k : ℕ) → k < size → ¬ (address ≡ leader + 4 * k))
find_word leader zero address = inr (λ k below. absurd (omega arith))
find_word leader (suc size) address = elim (cases_eq address (leader + 4 * size)) [
  | inl same ↦ inl (size, omega arith, same)
  | inr other ↦ elim (find_word leader size address) [
    | inl (k, below, is) ↦ inl (k, omega arith, is)
    | inr none ↦ inr (λ k below. elim (cases_eq k size) [
      | inl same ↦ λ is. other (is ∙ ap (λ n. leader + 4 * n) same)
      | inr apart ↦ none k (omega arith)
    ])
  ]
]

find_block : (blocks : List Block) (address : ℕ) → IsIn blocks address ⊎ IsOutside blocks address
find_block [] address = inr (λ block there k below. let (j, within, is) = there in absurd (omega arith))
find_block (first ∷ blocks) address = elim (find_word first.leader (length first.insns.items) address) [
  | inl (k, below, is) ↦ inl (record { block = first; there = (0, omega arith, refl); k = k; below = below; is = is })
  | inr not_here ↦ elim (find_block blocks address) [
    | inl found ↦
        let (j, within, at) = found.there in
        inl (record { block = found.block; there = (suc j, omega arith, at); k = found.k; below = found.below; is = found.is })
    | inr outside ↦ inr (λ block there k below. either block there k below not_here outside)
  ]
]
  where
    either : (block : Block) → Contains (first ∷ blocks) block → (k : ℕ) → k < length block.insns.items
        → ((k : ℕ) → k < length first.insns.items → ¬ (address ≡ first.leader + 4 * k)) → IsOutside blocks address
        → ¬ (address ≡ block.leader + 4 * k)
    either block (zero, within, at) k below not_here outside =
        subst (λ (b : Block). (k : ℕ) → k < length b.insns.items → ¬ (address ≡ b.leader + 4 * k)) at not_here k below
    either block (suc j, within, at) k below not_here outside = outside block (j, omega arith, at) k below

module _ (old new : Executable) (live : Sets) (values changed : ℕ) (is : IsRenamedFile old new live values changed) where
  abbrev changed_is : IsChangedFile old new live
  changed_is = words.changed_is old new live values changed is

  same_ranges : new.ranges ≡ old.ranges
  same_ranges = ap (λ (file : Executable). file.ranges) is.new_is

  same_segments : new.segments ≡ old.segments
  same_segments = ap (λ (file : Executable). file.segments) is.new_is

  -- ---- words

  -- what stands at a word of both texts
  record StandBoth (address : ℕ) : Type 0 where
    insn : Insn
    other : Insn
    old_stands : StandsAt old address insn
    new_stands : StandsAt new address other
    same : HasOtherRegisters insn other

  stand_both : (address : ℕ) → IsTextWord old.ranges address → StandBoth address
  stand_both address text = elim (find_block is.blocks address) [
    | inl found ↦
        let k = found.k in
        let old_insns = found.block.insns.items in
        let new_insns = words.after_it old new live values changed is found.block found.there in
        let computes = words.computes old new live values changed is found.block found.there in
        let below : k < length new_insns = omega (arith, found.below, computes.same_length) in
        record {
          insn = nth_insn old_insns k;
          other = nth_insn new_insns k;
          old_stands = record {
            text = text;
            reads =
                subst (λ a. IsInsnAt (text_word old a) (nth_insn old_insns k)) (sym found.is)
                (words.reads old new live values changed is found.block found.there k found.below);
          };
          new_stands = record {
            text = subst (λ ranges. IsTextWord ranges address) (sym same_ranges) text;
            reads =
                subst (λ a. IsInsnAt (text_word new a) (nth_insn new_insns k)) (sym found.is)
                (words.new_reads old new live values changed is found.block found.there k below);
          };
          same = computes.each k found.below;
        }
    | inr outside ↦
        let only = (one_insn_at_each_word (text_word old address)).0 in
        record {
          insn = only.insn;
          other = only.insn;
          old_stands = record { text = text; reads = only.stands };
          new_stands = record {
            text = subst (λ ranges. IsTextWord ranges address) (sym same_ranges) text;
            reads = subst (λ word. IsInsnAt word only.insn) (sym (is.others_stay address text outside)) only.stands;
          };
          same = (computes_itself finite.empty (only.insn ∷ [])).each 0 (omega arith);
        }
  ]

  there_alike : (address : ℕ) (insn : Insn) → StandsAt old address insn → HasCounterpart new address insn
  there_alike address insn stands =
      let both = stand_both address stands.text in
      let equal : both.insn ≡ insn = stands_alone old address both.insn insn both.old_stands stands in
      subst (HasCounterpart new address) equal (record {
        other = both.other;
        stands = both.new_stands;
        ends = (other_kind both.insn both.other both.same).ends;
        leads = ap (target_of address) both.same.is ∙ same_target address both.insn both.same.operand both.same.result;
      })

  back_alike : (address : ℕ) (insn : Insn) → StandsAt new address insn → HasCounterpart old address insn
  back_alike address insn stands =
      let both = stand_both address (subst (λ ranges. IsTextWord ranges address) same_ranges stands.text) in
      let equal : both.other ≡ insn = stands_alone new address both.other insn both.new_stands stands in
      subst (HasCounterpart old address) equal (record {
        other = both.insn;
        stands = both.old_stands;
        ends = sym (other_kind both.insn both.other both.same).ends;
        leads = sym (ap (target_of address) both.same.is ∙ same_target address both.insn both.same.operand both.same.result);
      })

  -- ---- data

  -- a byte that is loaded and is no text is the same in both files
  same_byte : (segment : Segment) (address : ℕ) → Contains old.segments segment → IsTrue (has_in_file segment address) → ¬ InText old.ranges address
      → slice_index new.bytes (segment.offset + (address - segment.address)) ≡ slice_index old.bytes (segment.offset + (address - segment.address))
  same_byte segment address there loads apart =
      let parts = and_parts (nat_le segment.address address) (nat_lt address (segment.address + segment.file_size)) loads in
      let from : segment.address ≤ address = leb-true segment.address address parts.0 in
      let below : address < segment.address + segment.file_size = ltb-true address (segment.address + segment.file_size) parts.1 in
      let distance = address - segment.address in
      let here : segment.address + distance ≡ address = omega arith in
      is.text_alone.same_else (segment.offset + distance) (λ place.
      apart (subst (InText old.ranges) here (text_is_loaded_once is.old_bytes old is.old_is segment distance there (omega arith) place)))

  word_there : (place value : ℕ) → IsDataWord old place value → IsDataWord new place value
  word_there place value data_is = record {
    aligned = data_is.aligned;
    not_text = λ k below. subst (λ ranges. ¬ InText ranges (place + k)) (sym same_ranges) (data_is.not_text k below);
    word = record {
      bytes = data_is.word.bytes;
      loaded = λ k below.
          let loaded = data_is.word.loaded k below in
          record {
            segment = loaded.segment;
            there = subst (λ (segments : List Segment). Contains segments loaded.segment) (sym same_segments) loaded.there;
            loads = loaded.loads;
            byte = same_byte loaded.segment (place + k) loaded.there loaded.loads (data_is.not_text k below) ∙ loaded.byte;
          };
      little_endian = data_is.word.little_endian;
    };
  }

  word_back : (place value : ℕ) → IsDataWord new place value → IsDataWord old place value
  word_back place value data_is = record {
    aligned = data_is.aligned;
    not_text = apart;
    word = record {
      bytes = data_is.word.bytes;
      loaded = λ k below.
          let loaded = data_is.word.loaded k below in
          let there = subst (λ (segments : List Segment). Contains segments loaded.segment) same_segments loaded.there in
          record {
            segment = loaded.segment;
            there = there;
            loads = loaded.loads;
            byte = sym (same_byte loaded.segment (place + k) there loaded.loads (apart k below)) ∙ loaded.byte;
          };
      little_endian = data_is.word.little_endian;
    };
  }
    where
      apart : (k : ℕ) → k < 4 → ¬ InText old.ranges (place + k)
      apart k below = subst (λ ranges. ¬ InText ranges (place + k)) same_ranges (data_is.not_text k below)

  into : GoesInto old new
  into = record {
    same_entry = sym (ap (λ (file : Executable). file.entry) is.new_is);
    same_ranges = sym same_ranges;
    same_symbols = sym (ap (λ (file : Executable). file.symbols) is.new_is);
    stands = there_alike;
    words = word_there;
  }

  back : GoesInto new old
  back = record {
    same_entry = ap (λ (file : Executable). file.entry) is.new_is;
    same_ranges = same_ranges;
    same_symbols = ap (λ (file : Executable). file.symbols) is.new_is;
    stands = back_alike;
    words = word_back;
  }

  -- ---- an analysis of the renamed file

  module _ (blocks : List Block) (sets : Sets) (analysis : IsAnalysis new is.targets is.named blocks sets) where
    same_leaders : analysis.leaders ≡ is.analysis.leaders
    same_leaders =
        listing_is_one old is.targets is.named analysis.leaders is.analysis.leaders
        (listing_there new old back into is.targets is.named analysis.leaders analysis.listing) is.analysis.listing

    pub sets_leaders : sets.leaders ≡ live.leaders
    sets_leaders = sym analysis.live.leaders ∙ analysis.blocks_are.by_leader ∙ same_leaders ∙ files.same_leaders old new live changed_is

    blocks_at : AreBlocks new is.analysis.leaders blocks
    blocks_at = subst (λ (leaders : List ℕ). AreBlocks new leaders blocks) same_leaders analysis.blocks_are

    -- a block of the original and that of the renamed file at its leader
    record ArePair (block other : Block) : Type 0 where
      leader : block.leader ≡ other.leader
      insns : (there : Contains is.blocks block) → other.insns.items ≡ words.after_it old new live values changed is block there
      next : other.next ≡ block.next

    pair : (block other : Block) → Contains is.blocks block → Contains blocks other → block.leader ≡ other.leader → ArePair block other
    pair block other there other_there same = record { leader = same; insns = insns_are; next = ap (λ c. c.next) one_block }
      where
        l : IsBlockAt old is.analysis.leaders block
        l = files.at_leader_of old new live changed_is block there

        r : IsBlockAt new is.analysis.leaders other
        r = blocks_at.each other other_there

        same_size : size_of block ≡ size_of other
        same_size =
            omega (
              arith,
              not_shorter old new into is.analysis.leaders (files.old_formed old new live changed_is).ascending block other l r same,
              not_shorter new old back is.analysis.leaders (files.new_formed old new live changed_is).ascending other block r l (sym same),
            )

        computes : ComputeAlike (after_block live block.leader) block.insns.items (words.after_it old new live values changed is block there)
        computes = words.computes old new live values changed is block there

        insns_are : (there : Contains is.blocks block) → other.insns.items ≡ words.after_it old new live values changed is block there
        insns_are here =
            let alike = words.computes old new live values changed is block here in
            let after_it = words.after_it old new live values changed is block here in
            same_lists other.insns.items after_it (omega (arith, same_size, alike.same_length))
            (λ k d below.
            let within : k < length after_it = omega (arith, same_size, alike.same_length) in
            let stands : StandsAt new (other.leader + 4 * k) (nth_insn after_it k) = record {
              text = (r.insns k Ebreak below).text;
              reads =
                  subst (λ a. IsInsnAt (text_word new (a + 4 * k)) (nth_insn after_it k)) same
                  (words.new_reads old new live values changed is block here k within);
            } in
            get_or_default other.insns.items k d Ebreak below
            ∙ stands_alone new (other.leader + 4 * k) (nth_insn other.insns.items k) (nth_insn after_it k) (r.insns k Ebreak below) stands
            ∙ get_or_default after_it k Ebreak d within)

        -- the block with the successors of the other one
        also : IsBlockAt old is.analysis.leaders (record block { next = other.next })
        also = record {
          range = l.range;
          there = l.there;
          from = l.from;
          within = l.within;
          some = l.some;
          at_most = l.at_most;
          insns = l.insns;
          one_leader = l.one_leader;
          one_terminator = l.one_terminator;
          ends = elim l.ends [
            | ends_at_leader c ↦ ends_at_leader c
            | at_terminator t ↦ at_terminator t
            | full f ↦ full f
            | at_end_of_range e ↦ at_end_of_range e
          ];
          next = λ d. leads d;
        }
          where
            leads : (d : Insn) → IsNext old (end_of_block block - 4) (get_or block.insns.items (size_of block - 1) d) other.next
            leads d =
                let after_it = words.after_it old new live values changed is block there in
                let k = size_of block - 1 in
                let below : k < length block.insns.items = omega (arith, l.some) in
                let each = computes.each k below in
                let place : end_of_block other - 4 ≡ end_of_block block - 4 = omega (arith, same, same_size) in
                let here : get_or other.insns.items (size_of other - 1) Ebreak ≡ with_result each.result (with_operands each.operand (nth_insn block.insns.items k)) =
                (λ i. get_or (insns_are there i) (sym same_size i - 1) Ebreak) ∙ each.is in
                let moved : IsNext (record old { bytes = new.bytes }) (end_of_block block - 4)
                (with_result each.result (with_operands each.operand (nth_insn block.insns.items k))) other.next =
                subst (λ file. IsNext file (end_of_block block - 4)
                (with_result each.result (with_operands each.operand (nth_insn block.insns.items k))) other.next) is.new_is
                (subst (λ a. IsNext new a (with_result each.result (with_operands each.operand (nth_insn block.insns.items k))) other.next) place
                (subst (λ insn. IsNext new (end_of_block other - 4) insn other.next) here (r.next Ebreak))) in
                subst (λ insn. IsNext old (end_of_block block - 4) insn other.next) (get_or_default block.insns.items k Ebreak d below)
                (ranged_next old new.bytes (end_of_block block - 4) (nth_insn block.insns.items k) other.next
                (same_next (record old { bytes = new.bytes }) (end_of_block block - 4) (nth_insn block.insns.items k) each.operand each.result other.next moved))

        one_block : contents_of (record block { next = other.next }) ≡ contents_of block
        one_block =
            block_is_one old is.analysis.leaders (record block { next = other.next }) block (files.old_formed old new live changed_is).ascending also l refl

    -- ---- live registers

    old_in_order : AreInOrder is.blocks
    old_in_order =
        blocks_in_order is.analysis.leaders is.blocks is.analysis.blocks_are.by_leader is.analysis.listing.ascending

    new_in_order : AreInOrder blocks
    new_in_order = blocks_in_order analysis.leaders blocks analysis.blocks_are.by_leader analysis.listing.ascending

    -- each block of the one file has one of the other at its leader
    record IsMatched (block other : Block) : Type 0 where
      there : Contains is.blocks block
      other_there : Contains blocks other
      leader : block.leader ≡ other.leader

    old_of : (other : Block) → Contains blocks other → (block : Block) × IsMatched block other
    old_of other other_there =
        let listed : Contains live.leaders other.leader =
        subst (λ (leaders : List ℕ). Contains leaders other.leader) sets_leaders (has_sets blocks sets analysis.live other other_there) in
        let (block, there, led) = files.block_there old new live changed_is other.leader listed in
        (block, record { there = there; other_there = other_there; leader = led })

    new_of : (block : Block) → Contains is.blocks block → (other : Block) × IsMatched block other
    new_of block there =
        let listed : Contains (map (λ (b : Block). b.leader) blocks) block.leader =
        subst (λ (leaders : List ℕ). Contains leaders block.leader) (sym (analysis.live.leaders ∙ sets_leaders))
        (has_sets is.blocks live is.analysis.live block there) in
        let (other, other_there, led) = block_with blocks block.leader listed in
        (other, record { there = there; other_there = other_there; leader = sym led })

    module _ (block other : Block) (matched : IsMatched block other) where
      is_pair : ArePair block other
      is_pair = pair block other matched.there matched.other_there matched.leader

      abbrev renamed : List Insn
      renamed = words.after_it old new live values changed is block matched.there

      insns_are : other.insns.items ≡ renamed
      insns_are = is_pair.insns matched.there

      alike : ComputeAlike (after_block live block.leader) block.insns.items renamed
      alike = words.computes old new live values changed is block matched.there

      reads_back : (r : ℕ) → ReadFirst other.insns.items r → ReadFirst block.insns.items r
      reads_back r first =
          reads_alike renamed block.insns.items (sym alike.same_length)
          (λ k below. alike.sources k (omega (arith, alike.same_length))) r (subst (λ insns. ReadFirst insns r) insns_are first)

      reads_there : (r : ℕ) → ReadFirst block.insns.items r → ReadFirst other.insns.items r
      reads_there r first =
          subst (λ insns. ReadFirst insns r) (sym insns_are)
          (reads_alike block.insns.items renamed alike.same_length (λ k below. sym (alike.sources k below)) r first)

      leaves_back : (r : ℕ) → finite.contains (after_block live block.leader) r ≡ true → ¬ Write other.insns.items r → ¬ Write block.insns.items r
      leaves_back r alive unwritten =
          leaves_alike renamed block.insns.items (sym alike.same_length) r
          (subst (λ n. source_of block.insns.items n r ≡ source_of renamed n r) (sym alike.same_length) (sym (alike.live r alive)))
          (subst (λ insns. ¬ Write insns r) insns_are unwritten)

      leaves_there : (r : ℕ) → finite.contains (after_block live block.leader) r ≡ true → ¬ Write block.insns.items r → ¬ Write other.insns.items r
      leaves_there r alive unwritten =
          subst (λ insns. ¬ Write insns r) (sym insns_are)
          (leaves_alike block.insns.items renamed alike.same_length r (alike.live r alive) unwritten)

    -- successors in one file are so in the other
    follows_back : (block other after next : Block) → IsMatched block other → IsMatched after next → IsSuccessor other next → IsSuccessor block after
    follows_back block other after next matched also follows =
        subst (LeadsTo block.next) (sym also.leader) (subst (λ n. LeadsTo n next.leader) (is_pair block other matched).next follows)

    follows_there : (block other after next : Block) → IsMatched block other → IsMatched after next → IsSuccessor block after → IsSuccessor other next
    follows_there block other after next matched also follows =
        subst (LeadsTo other.next) also.leader (subst (λ n. LeadsTo n after.leader) (sym (is_pair block other matched).next) follows)

    module _ (r : ℕ) where
      abbrev Old : ℕ → Type 0
      Old leader = finite.contains (at_leader live leader) r ≡ true

      abbrev New : ℕ → Type 0
      New leader = finite.contains (at_leader sets leader) r ≡ true

      -- what is live behind a block of the original
      old_behind : (block after : Block) → Contains is.blocks block → Contains is.blocks after → IsSuccessor block after → Old after.leader
          → finite.contains (after_block live block.leader) r ≡ true
      old_behind block after there after_there follows alive =
          live_at_successor is.blocks live block after r is.analysis.live there after_there follows alive

      new_behind : (other next : Block) → Contains blocks other → Contains blocks next → IsSuccessor other next → New next.leader
          → finite.contains (after_block sets other.leader) r ≡ true
      new_behind other next there next_there follows alive =
          live_at_successor blocks sets other next r analysis.live there next_there follows alive

      back_at : (leader : ℕ) → IsLive blocks leader r → Old leader
      back_at leader alive =
          subst Old alive.from
          (live_from_steps blocks r (λ (other : Block). Old other.leader)
          (λ other there first.
          let (block, matched) = old_of other there in
          subst Old matched.leader
          ((live_is_needed is.blocks live block r old_in_order is.analysis.live matched.there).1 (inl (reads_back block other matched r first))))
          (λ other next there next_there follows unwritten reached.
          let (block, matched) = old_of other there in
          let (after, also) = old_of next next_there in
          let behind =
          old_behind block after matched.there also.there (follows_back block other after next matched also follows)
          (subst Old (sym also.leader) reached) in
          subst Old matched.leader
          ((live_is_needed is.blocks live block r old_in_order is.analysis.live matched.there).1
          (inr (behind, leaves_back block other matched r behind unwritten))))
          alive.passed alive.last alive.passed_there alive.last_there alive.follow alive.reads alive.unwritten)

      there_at : (leader : ℕ) → IsLive is.blocks leader r → Old leader × New leader
      there_at leader alive =
          subst (λ l. Old l × New l) alive.from
          (live_from_steps is.blocks r (λ (block : Block). Old block.leader × New block.leader)
          (λ block there first.
          let (other, matched) = new_of block there in (
            (live_is_needed is.blocks live block r old_in_order is.analysis.live there).1 (inl first),
            subst New (sym matched.leader)
                ((live_is_needed blocks sets other r new_in_order analysis.live matched.other_there).1 (inl (reads_there block other matched r first))),
          ))
          (λ block after there after_there follows unwritten reached.
          let (other, matched) = new_of block there in
          let (next, also) = new_of after after_there in
          let behind = old_behind block after there after_there follows reached.0 in
          let behind_other =
          new_behind other next matched.other_there also.other_there (follows_there block other after next matched also follows)
          (subst New also.leader reached.1) in (
            (live_is_needed is.blocks live block r old_in_order is.analysis.live there).1 (inr (behind, unwritten)),
            subst New (sym matched.leader)
                ((live_is_needed blocks sets other r new_in_order analysis.live matched.other_there).1
                (inr (behind_other, leaves_there block other matched r behind unwritten))),
          ))
          alive.passed alive.last alive.passed_there alive.last_there alive.follow alive.reads alive.unwritten)

      back_after : (leader : ℕ) → IsLiveAfter blocks leader r → finite.contains (after_block live leader) r ≡ true
      back_after leader after =
          let (block, matched) = old_of after.block after.block_there in
          let (next, also) = old_of after.successor after.successor_there in
          subst (λ l. finite.contains (after_block live l) r ≡ true) (matched.leader ∙ after.of)
          (old_behind block next matched.there also.there
          (follows_back block after.block next after.successor matched also after.follows)
          (subst Old (sym also.leader) (back_at after.successor.leader after.live)))

      there_after : (leader : ℕ) → IsLiveAfter is.blocks leader r → finite.contains (after_block sets leader) r ≡ true
      there_after leader after =
          let (other, matched) = new_of after.block after.block_there in
          let (next, also) = new_of after.successor after.successor_there in
          subst (λ l. finite.contains (after_block sets l) r ≡ true) (sym matched.leader ∙ after.of)
          (new_behind other next matched.other_there also.other_there
          (follows_there after.block other after.successor next matched also after.follows)
          (subst New also.leader (there_at after.successor.leader after.live).1))

    pub agree_at : (leader : ℕ) → Contains live.leaders leader → AgreeAt sets live leader
    agree_at leader listed =
        let also : Contains sets.leaders leader = subst (λ (leaders : List ℕ). Contains leaders leader) (sym sets_leaders) listed in (
          same_numbers _ _
              (λ r.
              same_truth _ _ (λ h. back_at r leader ((analysis.live.at leader r also).0 h))
              (λ h. (there_at r leader ((is.analysis.live.at leader r listed).0 h)).1)),
          same_numbers _ _
              (λ r.
              same_truth _ _ (λ h. back_after r leader ((analysis.live.after leader r also).0 h))
              (λ h. there_after r leader ((is.analysis.live.after leader r listed).0 h))),
        )

  -- ---- by other targets and named addresses that give the same live sets

  module _ (before after : List Block) (sets : Sets) (both : AreAnalysedAlike old new live before after sets) where
    before_leaders : both.old_analysis.leaders ≡ is.analysis.leaders
    before_leaders =
        sym both.old_analysis.blocks_are.by_leader ∙ both.old_analysis.live.leaders
        ∙ sym (files.same_leaders old new live changed_is)

    after_leaders : both.new_analysis.leaders ≡ is.analysis.leaders
    after_leaders =
        listing_is_one old both.targets both.named both.new_analysis.leaders both.old_analysis.leaders
        (listing_there new old back into both.targets both.named both.new_analysis.leaders both.new_analysis.listing) both.old_analysis.listing
        ∙ before_leaders

    pub by_these : IsAnalysis new is.targets is.named after sets
    by_these = record {
      leaders = is.analysis.leaders;
      listing = listing_there old new into back is.targets is.named is.analysis.leaders is.analysis.listing;
      blocks_are = subst (λ (leaders : List ℕ). AreBlocks new leaders after) after_leaders both.new_analysis.blocks_are;
      live = both.new_analysis.live;
    }

    module _ (block renamed : Block) (table : Latencies) (there : Contains before block) (also : Contains after renamed)
        (same : renamed.leader ≡ block.leader) where
      listed : Contains live.leaders block.leader
      listed = has_sets before live both.old_analysis.live block there

      -- the block among those that the file was renamed by
      first : (found : Block) × Contains is.blocks found × (found.leader ≡ block.leader)
      first = files.block_there old new live changed_is block.leader listed

      one_contents : contents_of first.0 ≡ contents_of block
      one_contents =
          block_is_one old is.analysis.leaders first.0 block (files.old_formed old new live changed_is).ascending
          (files.at_leader_of old new live changed_is first.0 first.1)
          (subst (λ (leaders : List ℕ). IsBlockAt old leaders block) before_leaders (both.old_analysis.blocks_are.each block there)) first.2

      renamed_is : renamed.insns.items ≡ words.after_it old new live values changed is first.0 first.1
      renamed_is = (pair after sets by_these first.0 renamed first.1 also (first.2 ∙ sym same)).insns first.1

      same_live : after_block sets renamed.leader ≡ after_block live block.leader
      same_live = ap (after_block sets) same ∙ (agree_at after sets by_these block.leader listed).1

      fewer_first : HasFewerArcs (graph_of first.0.insns.items (after_block live first.0.leader) table)
          (graph_of (words.after_it old new live values changed is first.0 first.1) (after_block live first.0.leader) table)
      fewer_first =
          renaming_takes_arcs (after_block live first.0.leader) first.0.insns.items
          (words.after_it old new live values changed is first.0 first.1)
          (words.renamed old new live values changed is first.0 first.1).0 table
          (words.are_plain old new live values changed is first.0 first.1)
          (words.renamed old new live values changed is first.0 first.1).1.renamed

      pub fewer : HasFewerArcs (graph_of block.insns.items (after_block live block.leader) table)
          (graph_of renamed.insns.items (after_block sets renamed.leader) table)
      fewer =
          subst (λ (insns : List Insn). HasFewerArcs (graph_of block.insns.items (after_block live block.leader) table)
          (graph_of insns (after_block sets renamed.leader) table)) (sym renamed_is)
          (subst (λ (live_out : finite.FinSet nat_cmp). HasFewerArcs (graph_of block.insns.items (after_block live block.leader) table)
          (graph_of (words.after_it old new live values changed is first.0 first.1) live_out table)) (sym same_live)
          (subst (λ (leader : ℕ). HasFewerArcs (graph_of block.insns.items (after_block live leader) table)
          (graph_of (words.after_it old new live values changed is first.0 first.1) (after_block live leader) table)) first.2
          (subst (λ (insns : List Insn). HasFewerArcs (graph_of insns (after_block live first.0.leader) table)
          (graph_of (words.after_it old new live values changed is first.0 first.1) (after_block live first.0.leader) table))
          (ap (λ c. c.insns) one_contents) fewer_first)))

      pub keeps : KeepsCuts (graph_of block.insns.items (after_block live block.leader) table)
          (graph_of renamed.insns.items (after_block sets renamed.leader) table)
      keeps =
          let old_graph = graph_of block.insns.items (after_block live block.leader) table in
          let new_graph = graph_of renamed.insns.items (after_block sets renamed.leader) table in
          record {
            fewer = fewer;
            each = λ limits cut fits. cuts_stay old_graph new_graph limits cut fewer fits;
            some = λ limits cut was none.
                let stays = cuts_stay old_graph new_graph limits cut fewer was.fits in
                let gains = was.positive in
                let not_more : gain old_graph cut ≤ℤ pos 0 = subst (λ g. g ≤ℤ pos 0) stays.1 (none cut stays.0) in
                absurd (omega (arith, ints, gains, not_more));
            best = λ limits cut best was is_best. best_gain_stays old_graph new_graph limits cut best fewer was is_best;
          }

pub renamed_files_analyse_alike : RenamedFilesAnalyseAlike
renamed_files_analyse_alike old new live values changed is before after sets both =
    let analysis = by_these old new live values changed is before after sets both in
    (sets_leaders old new live values changed is after sets analysis, agree_at old new live values changed is after sets analysis)

pub renamed_files_keep_cuts : RenamedFilesKeepCuts
renamed_files_keep_cuts old new live values changed is before after sets both = (
  (renamed_files_analyse_alike old new live values changed is before after sets both).0,
  keeps old new live values changed is before after sets both,
)
