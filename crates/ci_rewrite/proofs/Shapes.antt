-- The folded block is a block, of the same length and with the same end.
use Rattle.std.specs.Prelude.{◌≡◌, ℕ, zero, suc, ◌+◌, ◌<◌, ◌≤◌, Bool, true, false, not, ◌&&◌, ⊤, if◌then◌else◌}
use Rattle.std.specs.Prelude.{List, [], ◌∷◌, ◌++◌, length, replicate, slice_index, take, drop, All}
use Rattle.std.specs.FinSet as finite
use Rattle.std.specs.Ordering.{nat_cmp}
use Rattle.std.proofs.Common.{refl, sym, ap, ◌∙◌, subst, arith, inl, inr, append_assoc, true≢false}
use Rattle.std.proofs.Math.Seq.{take-append_seam, drop-append_seam}
use Rattle.std.proofs.lemmas.Bool.{cases_lt, false_from_ne_true}
use Rattle.std.proofs.lemmas.List.{append-nil, get_or-map, get_or_past, length-map, length-append, length-replicate}
use Rattle.std.proofs.lemmas.List.{get_or-take}
use Rattle.std.proofs.lemmas.List.Elements.{All-nil, All-cons, All-append, All-replicate}
use Rattle.ci_word.specs.Numbers.{numbers_below, count_below}
use Rattle.ci_word.proofs.NumberLaws.{count_below-zero, count_below-suc, length-numbers_below}
use Rattle.ci_isa.specs.declared.instruction.Insn.{Insn}
use Rattle.ci_isa.specs.declared.instruction.Insn.TheVariants.{Unit, Cread, Cput, Ebreak}
use Rattle.ci_isa.specs.FieldBounds.{FieldsFit}
use Rattle.ci_isa.specs.Effects.{ends_block, is_cput, is_unit}
use Rattle.ci_isa.specs.Sequences.{nth_insn}
use Rattle.ci_isa.proofs.OperandLaws.{result_below}
use Rattle.ci_lat.specs.Latencies.{Latencies}
use Rattle.ci_cut.specs.FlowGraph.{FlowGraph}
use Rattle.ci_cut.specs.Gain.{further_words}
use Rattle.ci_cut.specs.Ports.{is_output}
use Rattle.ci_dfg.specs.BlockGraph.{graph_of}
use Rattle.ci_dfg.specs.Bundles.{Before, a_put, a_unit, a_first, another, left_by, MayFollow, IsDone, Bundled}
use Rattle.ci_dfg.specs.Bundles.{before_at}
use Rattle.ci_rewrite.specs.private.Follows.{MayStand, Follow, last_of}
use Rattle.ci_unit.specs.Units as terms
use Rattle.ci_unit.specs.Uses as uses
use Rattle.ci_unit.specs.UseWords.{reads_of, use_words}
use Rattle.ci_rewrite.specs.Blocks.{IsBlock}
use Rattle.ci_rewrite.specs.FoldedBlock.{no_op, places_left, IsFolded}
use Rattle.ci_cut.proofs.Extensions.{walk_rises}
use Rattle.ci_dfg.proofs.BlockIsGraph.{arcs_rise, length-nodes}
use Rattle.ci_dfg.proofs.BundledLists.{by_place, put_goes_on, bundled_is}
use Rattle.ci_rewrite.proofs.UseLaws.{use_is_bundled}
use Rattle.ci_rewrite.proofs.FollowLaws.{bundled_follow, follow_bundled, GoesAnywhere, GoesFirst, follow-append}
use Rattle.ci_rewrite.proofs.FollowLaws.{follow_place, done-append, done_those, follow_those}
use Rattle.ci_rewrite.proofs.FollowLaws.{may_follow_anywhere, may_follow_first, may_stand_anywhere, may_stand_first}
use Rattle.ci_rewrite.proofs.CutNodes.{IsFolding, late, late_from, late_same, same_side, within, member_within}
use Rattle.ci_rewrite.proofs.CutNodes.{early_outside}
use Rattle.ci_rewrite.proofs.Lists.{all_those, behind_first, same_behind}
use Rattle.ci_rewrite.proofs.Stages.{those_below, those_more, those_same}
use Rattle.ci_rewrite.proofs.UnitPorts.{input_register_below, length-outputs_of, output_member, output_at, in_place}
use Rattle.ci_rewrite.proofs.UnitPorts.{folded_actions}

module _ {insns : List Insn} {live_out : finite.FinSet nat_cmp} {table : Latencies} {cut early : ℕ → Bool} {n : ℕ}
    (known : IsFolding insns live_out table cut early n) where
  abbrev graph : FlowGraph
  graph = graph_of insns live_out table

  -- ---- the end

  end_outside : cut n ≡ false
  end_outside = false_from_ne_true (cut n) (λ member. let below = (known.members n member).0 in absurd (omega arith))

  end_not_early : n < length insns → early n ≡ false
  end_not_early there = false_from_ne_true (early n) (λ is.
      let (out, (m, member, walk)) = (known.are_early n there).0 is in
      absurd (omega (arith, walk_rises (arcs_rise insns live_out table) walk, (known.members m member).0)))

  end_late : n < length insns → late known n ≡ true
  end_late there = late_from known n end_outside (end_not_early there)

  -- all nodes of a test, the end among them or not
  those_actions : (test : ℕ → Bool) → (n < length insns → test n ≡ false) → those_below insns test (length insns)
      ≡ those_below insns test n
  those_actions test no_end = elim (behind_first insns n known.actions.most) [
    | inl (short, same) ↦ ap (those_below insns test) (let w = known.actions.within in
        let e : length insns ≡ n = omega arith in e)
    | inr (there, same) ↦
        ap (those_below insns test) (let m = known.actions.most in let e : length insns ≡ suc n = omega arith in e)
        ∙ those_same insns test n (no_end there)
  ]

  those_with_end : (test : ℕ → Bool) → (n < length insns → test n ≡ true) → those_below insns test (length insns)
      ≡ those_below insns test n ++ drop n insns
  those_with_end test end = elim (behind_first insns n known.actions.most) [
    | inl (short, same) ↦
        ap (those_below insns test) (let w = known.actions.within in let e : length insns ≡ n = omega arith in e)
        ∙ sym (ap (λ l. those_below insns test n ++ l) same ∙ append-nil (those_below insns test n))
    | inr (there, same) ↦
        ap (those_below insns test) (let m = known.actions.most in let e : length insns ≡ suc n = omega arith in e)
        ∙ those_more insns test n (end there) ∙ ap (λ l. those_below insns test n ++ l) (sym same)
  ]

  -- ---- what holds of each instruction

  module _ (number : ℕ) where
    abbrev used : List Insn
    used = uses.use_of insns graph cut number

    abbrev no_ops : List Insn
    no_ops = replicate (places_left graph cut) no_op

    abbrev result : ℕ → ℕ
    result = uses.result_register insns

    abbrev actions : List Insn
    actions = folded_actions known number

    abbrev input : ℕ → ℕ
    input = slice_index (uses.input_registers insns graph cut)

    abbrev registers : List ℕ
    registers = uses.output_registers insns graph cut

    -- what holds of each word of a use
    pub record HoldsOfUse (P : Insn → Type 0) : Type 0 where
      pub put : P (Cput (input 3) (input 4))
      pub unit : P (Unit number (slice_index registers 0) (input 0) (input 1) (input 2))
      pub reads : (r index : ℕ) → r < 32 → index < 2 → P (Cread r index)

    all_reads : (P : Insn → Type 0) → ((r index : ℕ) → r < 32 → index < 2 → P (Cread r index))
        → (index : ℕ) (list : List ℕ)
        → ((i : ℕ) → i < length list → slice_index list i < 32) → index + length list ≤ 2 → All P (reads_of index list)
    all_reads P is index [] below few = All-nil P
    all_reads P is index (r ∷ list) below few =
        All-cons P (Cread r index) (reads_of (suc index) list) (is r index (below 0 (omega arith)) (omega arith))
        (all_reads P is (suc index) list (λ i less. below (suc i) (omega arith)) (omega arith))

    all_words : (P : Insn → Type 0) → HoldsOfUse P → (b : Bool) (list : List ℕ)
        → ((i : ℕ) → i < length list → slice_index list i < 32)
        → 1 ≤ length list → length list ≤ 3 → slice_index registers 0 ≡ slice_index list 0
        → All P (use_words b number (uses.input_registers insns graph cut) list)
    all_words P is b [] below some few same = absurd (omega arith)
    all_words P is true (rd ∷ more) below some few same =
        All-cons P (Cput (input 3) (input 4)) (Unit number rd (input 0) (input 1) (input 2) ∷ reads_of 0 more) is.put
        (All-cons P (Unit number rd (input 0) (input 1) (input 2)) (reads_of 0 more)
        (subst (λ r. P (Unit number r (input 0) (input 1) (input 2))) same is.unit)
        (all_reads P is.reads 0 more (λ i less. below (suc i) (omega arith)) (omega arith)))
    all_words P is false (rd ∷ more) below some few same =
        All-cons P (Unit number rd (input 0) (input 1) (input 2)) (reads_of 0 more)
        (subst (λ r. P (Unit number r (input 0) (input 1) (input 2))) same is.unit)
        (all_reads P is.reads 0 more (λ i less. below (suc i) (omega arith)) (omega arith))

    length-registers : length registers ≡ length (terms.outputs_of insns graph cut)
    length-registers = length-map (terms.outputs_of insns graph cut) result

    registers_named : (i : ℕ) → i < length registers → slice_index registers i < 32
    registers_named i below =
        subst (λ r. r < 32) (sym (get_or-map result (terms.outputs_of insns graph cut) i 0 0
        (omega (arith, length-registers))))
        (result_named (slice_index (terms.outputs_of insns graph cut) i)
        (output_at known (terms.outputs_of insns graph cut) refl i (omega (arith, length-registers))))
      where
        result_named : (o : ℕ) → is_output graph cut o ≡ true → result o < 32
        result_named o is = result_below (nth_insn insns o) (known.fit o
            (member_within known o (output_member known o is)))

    all_used : (P : Insn → Type 0) → HoldsOfUse P → All P used
    all_used P is =
        all_words P is (uses.passes graph cut) registers registers_named
        (omega (arith, length-registers, known.some_outputs))
        (omega (arith, length-registers, known.few_outputs)) refl

    all_actions : (P : Insn → Type 0) → ((k : ℕ) → k < n → P (nth_insn insns k)) → HoldsOfUse P → P no_op
        → All P actions
    all_actions P node_is use_is no_op_is =
        All-append P (those_below insns early n ++ in_place known number) (those_below insns (late known) n)
        (All-append P (those_below insns early n) (in_place known number)
        (all_those P insns early n (λ k below is. node_is k below))
        (All-append P used no_ops (all_used P use_is) (All-replicate P (places_left graph cut) no_op no_op_is)))
        (all_those P insns (late known) n (λ k below is. node_is k below))

    -- ---- lengths

    length-reads : (index : ℕ) (list : List ℕ) → length (reads_of index list) ≡ length list
    length-reads index [] = refl
    length-reads index (r ∷ list) = ap suc (length-reads (suc index) list)

    length-words : (b : Bool) (inputs list : List ℕ) → 1 ≤ length list → length (use_words b number inputs list)
        ≡ (if b then 1 else 0) + length list
    length-words b inputs [] some = absurd (omega arith)
    length-words true inputs (rd ∷ more) some = omega (arith, length-reads 0 more)
    length-words false inputs (rd ∷ more) some = omega (arith, length-reads 0 more)

    length-used : length used ≡ suc (further_words graph cut)
    length-used = omega (
      arith,
      length-words (uses.passes graph cut) (uses.input_registers insns graph cut) registers
          (omega (arith, length-registers, known.some_outputs)),
      length-registers,
      length-outputs_of insns live_out table cut,
      known.some_outputs,
    )

    length-those : (test : ℕ → Bool) (b : ℕ) → length (those_below insns test b) ≡ count_below b test
    length-those test b = length-map (numbers_below b test) (nth_insn insns) ∙ length-numbers_below b test

    parts_count : (b : ℕ) → b ≤ length insns → count_below b early + count_below b cut + count_below b (late known) ≡ b
    parts_count zero in_block = omega (
      arith,
      count_below-zero early,
      count_below-zero cut,
      count_below-zero (late known),
    )
    parts_count (suc b) in_block =
        omega (
          arith,
          parts_count b (omega arith),
          count_below-suc b early,
          count_below-suc b cut,
          count_below-suc b (late known),
          by_tests (early b) (cut b) (early_outside known b (omega arith)),
        )
      where
        by_tests : (e c : Bool) → (e ≡ true → c ≡ false) → (if e then 1 else 0) + (if c then 1 else 0) +
            (if not c && not e then 1 else 0) ≡ 1
        by_tests true true apart = let never = apart refl in cc
        by_tests true false apart = refl
        by_tests false true apart = refl
        by_tests false false apart = refl

    -- ---- the folded block

    module _ (folded : List Insn) (is : IsFolded insns graph cut number folded) (same_early : is.early ≡ early) where
      whole_is : folded ≡ those_below insns early (length insns) ++ used ++ no_ops
          ++ those_below insns (late known) (length insns)
      whole_is =
          is.is_list
          ∙ ap (λ e. those_below insns e (length insns) ++ used ++ no_ops
          ++ those_below insns (λ k. not (cut k) && not (e k)) (length insns)) same_early

      pub folded_length : length folded ≡ length insns
      folded_length = ap length whole_is ∙ omega (
        arith,
        length-append (those_below insns early (length insns) ++ used
            ++ no_ops) (those_below insns (late known) (length insns)),
        length-append (those_below insns early (length insns) ++ used) no_ops,
        length-append (those_below insns early (length insns)) used,
        length-those early (length insns),
        length-those (late known) (length insns),
        length-used,
        length-replicate (places_left graph cut) no_op,
        parts_count (length insns) (omega arith),
        ap (λ m. count_below m cut) (length-nodes insns live_out table),
        known.room,
      )

      folded_is : folded ≡ actions ++ drop n insns
      folded_is =
          whole_is
          ∙ (λ i. those_actions early end_not_early i ++ used ++ no_ops ++ those_with_end (late known) end_late i)
          ∙ ap (λ l. l ++ (those_below insns (late known) n ++ drop n insns))
          (append_assoc (those_below insns early n) used no_ops)
          ∙ sym (append_assoc (those_below insns early n ++ in_place known number) (those_below insns (late known) n)
          (drop n insns))

      length-behind : length (drop n insns) + n ≡ length insns
      length-behind = elim (behind_first insns n known.actions.most) [
        | inl (short, same) ↦ let none : length (drop n insns) ≡ 0 = ap length same in
            omega (arith, known.actions.within)
        | inr (there, same) ↦ let one : length (drop n insns) ≡ 1 = ap length same in omega (arith, known.actions.most)
      ]

      length-actions : length actions ≡ n
      length-actions = omega (
        arith,
        ap length folded_is,
        length-append actions (drop n insns),
        folded_length,
        length-behind,
      )

      pub folded_take : take n folded ≡ actions
      folded_take = ap (take n) folded_is ∙ subst (λ m. take m (actions ++ drop n insns)
          ≡ actions) length-actions (take-append_seam actions (drop n insns))

      pub folded_drop : drop n folded ≡ drop n insns
      folded_drop =
          ap (drop n) folded_is ∙ subst (λ m. drop m (actions ++ drop n insns)
          ≡ drop n insns) length-actions (drop-append_seam actions (drop n insns))

      pub all_behind : (P : Insn → Type 0) → (n < length insns → P (nth_insn insns n)) → All P (drop n insns)
      all_behind P end_is = elim (behind_first insns n known.actions.most) [
        | inl (short, same) ↦ subst (All P) (sym same) (All-nil P)
        | inr (there, same) ↦ subst (All P) (sym same) (All-cons P (nth_insn insns n) [] (end_is there) (All-nil P))
      ]

      pub all_folded : (P : Insn → Type 0) → ((k : ℕ) → k < length insns → P (nth_insn insns k)) → HoldsOfUse P
          → P no_op → All P folded
      all_folded P node_is use_is no_op_is =
          subst (All P) (sym folded_is)
          (All-append P actions (drop n insns)
          (all_actions P (λ k below. node_is k (within known k below)) use_is no_op_is) (all_behind P (node_is n)))

      -- ---- what stands before each word

      no_ops_follow : (P : Before → Insn → Type 0) → P another no_op → (m : ℕ)
          → Follow P another (replicate m no_op) × IsDone (last_of another (replicate m no_op))
      no_ops_follow P is zero = (tt, tt)
      no_ops_follow P is (suc m) = let (follow, done) = no_ops_follow P is m in ((is, follow), done)

      no_ops_done : (m : ℕ) (b : Before) → IsDone b → IsDone (last_of b (replicate m no_op))
      no_ops_done zero b done = done
      no_ops_done (suc m) b done = (no_ops_follow (λ before insn. ⊤) tt m).1

      -- the last action is no `cput`
      last_action : (u : ℕ) → n ≡ suc u → is_cput (nth_insn insns u) ≡ true → ⊥
      last_action u same put =
          let unit = put_goes_on another insns known.bundled u (within known u (omega arith)) put in
          elim (cases_lt n (length insns)) [
            | inl there ↦
                true≢false (sym (known.actions.end n (omega arith) there) ∙ ap (λ k. ends_block (nth_insn insns k)) same
                ∙ unit_acts (nth_insn insns (suc u)) unit)
            | inr past ↦ true≢false (sym unit ∙ ap is_unit (get_or_past insns (suc u) Ebreak (omega arith)))
          ]
        where
          unit_acts : (insn : Insn) → is_unit insn ≡ true → ends_block insn ≡ false
          unit_acts (Unit number rd rs1 rs2 rs3) is = refl
          unit_acts insn is = cc

      use_bundled : Bundled another used
      use_bundled =
          use_is_bundled (uses.passes graph cut) number (uses.input_registers insns graph cut) registers
          (omega (arith, length-registers, known.some_outputs)) (omega (arith, length-registers, known.few_outputs))

      module _ (P : Before → Insn → Type 0) (anywhere : GoesAnywhere P) (first : GoesFirst P)
          (places : (k : ℕ) → k < length insns → P (before_at another insns k) (nth_insn insns k))
          (use_follows : Follow P another used) (no_op_is : P another no_op) (end_is : (before : Before) → IsDone before
          → n < length insns → P before (nth_insn insns n)) where
        early_done : IsDone (last_of another (those_below insns early n))
        early_done = done_those insns known.bundled early (same_side known) n known.actions.within last_action

        late_done : IsDone (last_of another (those_below insns (late known) n))
        late_done = done_those insns known.bundled (late known) (late_same known) n known.actions.within last_action

        use_done : IsDone (last_of another used)
        use_done = (bundled_follow another used use_bundled).1

        place_follows : Follow P another (in_place known number)
        place_follows = follow-append P anywhere another used no_ops use_follows use_done
            (no_ops_follow P no_op_is (places_left graph cut)).0

        place_done : IsDone (last_of another (in_place known number))
        place_done = done-append another used no_ops use_done (no_ops_done (places_left graph cut))

        front_follows : Follow P another (those_below insns early n ++ in_place known number)
        front_follows =
            follow-append P anywhere another (those_below insns early n) (in_place known number)
            (follow_those insns known.bundled early (same_side known) P anywhere first places n known.actions.within)
            early_done place_follows

        -- no word has to follow a list behind one that needs none, if it needs none at the front
        done_anywhere : (list : List Insn) → IsDone (last_of another list) → (b : Before) → IsDone b
            → IsDone (last_of b list)
        done_anywhere [] done b b_done = b_done
        done_anywhere (insn ∷ list) done b b_done = done

        front_done : IsDone (last_of another (those_below insns early n ++ in_place known number))
        front_done = done-append another (those_below insns early n) (in_place known number) early_done
            (done_anywhere (in_place known number) place_done)

        actions_follow : Follow P another actions
        actions_follow =
            follow-append P anywhere another (those_below insns early n
            ++ in_place known number) (those_below insns (late known) n) front_follows front_done
            (follow_those insns known.bundled (late known) (late_same known) P anywhere first places n
            known.actions.within)

        actions_done : IsDone (last_of another actions)
        actions_done =
            done-append another (those_below insns early n ++ in_place known number)
            (those_below insns (late known) n) front_done
            (done_anywhere (those_below insns (late known) n) late_done)

        end_follows : (list : List Insn) → drop n insns ≡ list → Follow P another list
        end_follows list same = elim (behind_first insns n known.actions.most) [
          | inl (short, none) ↦ subst (Follow P another) (sym none ∙ same) tt
          | inr (there, one) ↦ subst (Follow P another) (sym one ∙ same) (end_is another tt there, tt)
        ]

        pub folded_follows : Follow P another folded
        folded_follows =
            subst (Follow P another) (sym folded_is)
            (follow-append P anywhere another actions (drop n insns) actions_follow actions_done
            (end_follows (drop n insns) refl))

        pub folded_done : IsDone (last_of another folded)
        folded_done =
            subst (λ l. IsDone (last_of another l)) (sym folded_is)
            (done-append another actions (drop n insns) actions_done
            (λ b done. elim (behind_first insns n known.actions.most) [
              | inl (short, none) ↦ subst (λ l. IsDone (last_of b l)) (sym none) done
              | inr (there, one) ↦ subst (λ l. IsDone (last_of b l)) (sym one)
                  (end_done (nth_insn insns n) (known.actions.end n (omega arith) there))
            ]))
          where
            end_done : (insn : Insn) → ends_block insn ≡ true → IsDone (left_by insn)
            end_done (Cput rs1 rs2) is = cc
            end_done (Cread rd zero) is = tt
            end_done (Cread rd (suc index)) is = tt
            end_done insn is = tt

      -- an instruction that ends a block may stand behind any word that needs none
      end_may : (insn : Insn) (before : Before) → IsDone before → ends_block insn ≡ true → MayFollow before insn
      end_may (Cread rd index) before done is = cc
      end_may (Unit number rd rs1 rs2 rs3) before done is = cc
      end_may insn a_put done is = absurd done
      end_may insn a_unit done is = tt
      end_may insn a_first done is = tt
      end_may insn another done is = tt

      bundled : Bundled another folded
      bundled =
          follow_bundled another folded
          (folded_follows MayFollow may_follow_anywhere may_follow_first
          (λ k below. by_place another insns known.bundled k below)
          (bundled_follow another used use_bundled).0 tt
          (λ before done there. end_may (nth_insn insns n) before done (known.actions.end n (omega arith) there)))
          (folded_done MayFollow may_follow_anywhere may_follow_first
          (λ k below. by_place another insns known.bundled k below)
          (bundled_follow another used use_bundled).0 tt
          (λ before done there. end_may (nth_insn insns n) before done (known.actions.end n (omega arith) there)))

      -- ---- what units take

      end_stands : (P : ℕ → Type 0) (insn : Insn) (before : Before) → ends_block insn ≡ true → MayStand P before insn
      end_stands P (Unit m rd rs1 rs2 rs3) before is = cc
      end_stands P insn a_put is = tt
      end_stands P insn a_unit is = tt
      end_stands P insn a_first is = tt
      end_stands P insn another is = tt

      reads_stand : (P : ℕ → Type 0) (before : Before) (index : ℕ) (list : List ℕ)
          → Follow (MayStand P) before (reads_of index list)
      reads_stand P before index [] = tt
      reads_stand P a_put index (r ∷ list) = (tt, reads_stand P _ (suc index) list)
      reads_stand P a_unit index (r ∷ list) = (tt, reads_stand P _ (suc index) list)
      reads_stand P a_first index (r ∷ list) = (tt, reads_stand P _ (suc index) list)
      reads_stand P another index (r ∷ list) = (tt, reads_stand P _ (suc index) list)

      use_stands : (P : ℕ → Type 0) (b : Bool) (inputs list : List ℕ) → (b ≡ false → P number)
          → Follow (MayStand P) another (use_words b number inputs list)
      use_stands P true inputs list bare = (tt, (tt, reads_stand P _ 0 (drop 1 list)))
      use_stands P false inputs list bare = (bare refl, reads_stand P _ 0 (drop 1 list))

      pub folded_stands : (P : ℕ → Type 0) → Follow (MayStand P) another insns
          → (uses.passes graph cut ≡ false → P number)
          → Follow (MayStand P) another folded
      folded_stands P stands bare =
          folded_follows (MayStand P) (may_stand_anywhere P) (may_stand_first P)
          (follow_place (MayStand P) (may_stand_anywhere P) another insns stands)
          (use_stands P (uses.passes graph cut) (uses.input_registers insns graph cut) registers bare) tt
          (λ before done there. end_stands P (nth_insn insns n) before (known.actions.end n (omega arith) there))

      -- ---- it is a block

      input_small : (i : ℕ) → slice_index (uses.input_registers insns graph cut) i < 32
      input_small = input_register_below insns live_out table cut known.fit

      pub folded_fits : number < 32 → All FieldsFit folded
      folded_fits small = all_folded FieldsFit known.fit (record {
        put = (input_small 3, input_small 4);
        unit = (small, first_small, input_small 0, input_small 1, input_small 2);
        reads = λ r index named few. (named, few);
      }) (omega arith, omega arith, (omega arith, omega arith))
        where
          first_small : slice_index registers 0 < 32
          first_small = registers_named 0 (omega (arith, length-registers, known.some_outputs))

      pub is_block : number < 32 → length insns ≤ 256 → IsBlock folded n
      is_block small few = record {
        actions = record {
          within = omega (arith, folded_length, known.actions.within);
          most = omega (arith, folded_length, known.actions.most);
          act = λ k below.
              sym (ap ends_block (get_or-take n folded k Ebreak below))
              ∙ ap (λ l. ends_block (nth_insn l k)) folded_take
              ∙ all_actions (λ insn. ends_block insn ≡ false) known.actions.act
              (record { put = refl; unit = refl; reads = λ r index named few. refl }) refl k Ebreak
              (omega (arith, length-actions));
          end = λ k past below.
              let last : k ≡ n = omega (arith, folded_length, known.actions.most) in
              ap (λ j. ends_block (nth_insn folded j)) last
              ∙ ap ends_block (same_behind folded insns n (omega (arith, folded_length, known.actions.most))
              known.actions.most (omega arith) folded_drop)
              ∙ known.actions.end n (omega arith) (omega (arith, folded_length));
        };
        few = omega (arith, folded_length, few);
        fit = λ k below. folded_fits small k Ebreak below;
        bundled = bundled_is folded bundled;
      }
