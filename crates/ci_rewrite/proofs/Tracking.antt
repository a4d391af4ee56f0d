-- Nodes of a block in another order than that of the block: what a run through some of them has to do with the run
-- through the block.
use Rattle.std.proofs.Common.{◌≡◌, ℕ, zero, suc, ◌<◌, ◌≤◌, inl, inr, ap, sym, ◌∙◌, arith, List, Option, Some, None, true≢false}
use Rattle.std.specs.Prelude.{Bool, true, false, ◌&&◌, ◌||◌, ◌==◌, ◌≢◌, ◌⊎◌, nat_lt}
use Rattle.std.specs.List.{list_any}
use Rattle.std.proofs.lemmas.Bool.{cases_eq, cases_lt, and_from, and_left, and_right, or_left, or_right, lt-ltb, ltb-true}
use Rattle.std.proofs.lemmas.Bool.Decides.{nat_tests}
use Rattle.ci_isa.specs.declared.instruction.Insn.{Insn}
use Rattle.ci_isa.specs.declared.instruction.Insn.TheVariants.{Load, Store}
use Rattle.ci_isa.specs.Effects.{ends_block, is_access, is_cread, reads_register}
use Rattle.ci_isa.specs.Sequences.{nth_insn}
use Rattle.ci_isa.proofs.LastPassing.{IsLast, last_or_none}
use Rattle.ci_isa.proofs.LastWriter.{written}
use Rattle.ci_isa.proofs.Registers.{reads_register_is}
use Rattle.ci_machine.specs.declared.ends.End.{End}
use Rattle.ci_machine.specs.Cores.{Core, register, first_hidden}
use Rattle.ci_machine.specs.Outcomes.{Reached, continued}
use Rattle.ci_machine.specs.Actions.{Units, act, accessed}
use Rattle.ci_machine.specs.Agreement.{acted, reads, writes, AgreeOn, LeavesText, TakeHidden}
use Rattle.ci_machine.specs.Blocks.{HaveSameStreams}
use Rattle.ci_rewrite.specs.private.Bundles.{given_at}
use Rattle.ci_machine.proofs.EndLaws.{acted_keeps_streams}
use Rattle.ci_machine.proofs.TestLaws.{by_test, by_end, no_end, or_second}
use Rattle.ci_machine.proofs.NamedReads.{writes_is}
use Rattle.ci_machine.proofs.PlainMeaning.{registers_read_are}
use Rattle.ci_machine.proofs.InstructionFrame.{keeps, AgreeAt, AreAlike, alike, store_accesses, outside_text}
use Rattle.ci_machine.proofs.LeavingLists.{same_accessed, nothing_moved}
use Rattle.ci_machine.proofs.RelatedLists.{no_text, goes_on, has_ended}

none_moved : (insn : Insn) (core : Core) (left right : ℕ → Option ℕ) → is_access insn ≡ false → AgreeAt (accessed insn core) left right
none_moved (Load kind rd rs1 offset) core left right none = cc
none_moved (Store width rs1 rs2 offset) core left right none = cc
none_moved insn core left right none = tt

-- of the registers that programs can name, an instruction reads those of its operands
reads_is : (units : Units) → TakeHidden units → (insn : Insn) (r : ℕ) → r < 32 → reads units insn r ≡ reads_register insn r
reads_is units hidden_ones insn r below = registers_read_are units hidden_ones insn r below ∙ sym (reads_register_is insn r)

-- ---- the run through the block

module _ (insns : List Insn) where
  abbrev pub goes_to_memory : ℕ → Bool
  goes_to_memory k = is_access (nth_insn insns k)

  abbrev pub reads_at : ℕ → ℕ → Bool
  reads_at k r = reads_register (nth_insn insns k) r

module _ (units : Units) (insns : List Insn) (start : Core) where
  -- the core before node k, where no end stops the run
  abbrev pub core_at : ℕ → Core
  core_at zero = start
  core_at (suc k) = (acted units (nth_insn insns k) (core_at k)).state

  abbrev pub end_at : ℕ → Option End
  end_at k = (acted units (nth_insn insns k) (core_at k)).end

  -- node k leaves a register that it doesn't write
  kept_by : (k r : ℕ) (core : Core) → r < first_hidden → written insns r k ≡ false → register (acted units (nth_insn insns k) core).state r ≡ register core r
  kept_by k r core other none = (keeps units (nth_insn insns k) core).registers r (writes_is (nth_insn insns k) r other ∙ none)

  -- a register that no node from one on writes
  pub register_stays : (r low k : ℕ) → r < first_hidden → low ≤ k → ((j : ℕ) → low ≤ j → j < k → written insns r j ≡ false)
      → register (core_at k) r ≡ register (core_at low) r
  register_stays r low zero other le none = ap (λ i. register (core_at i) r) (let same : zero ≡ low = omega arith in same)
  register_stays r low (suc k) other le none = elim (cases_eq low (suc k)) [
    | inl same ↦ ap (λ i. register (core_at i) r) (sym same)
    | inr before ↦
        kept_by k r (core_at k) other (none k (omega arith) (omega arith))
        ∙ register_stays r low k other (omega arith) (λ j from to. none j from (omega arith))
  ]

  pub memory_stays : (low k : ℕ) → low ≤ k → ((j : ℕ) → low ≤ j → j < k → goes_to_memory insns j ≡ false)
      → (core_at k).memory ≡ (core_at low).memory
  memory_stays low zero le none = ap (λ i. (core_at i).memory) (let same : zero ≡ low = omega arith in same)
  memory_stays low (suc k) le none = elim (cases_eq low (suc k)) [
    | inl same ↦ ap (λ i. (core_at i).memory) (sym same)
    | inr before ↦
        (keeps units (nth_insn insns k) (core_at k)).memory (store_accesses (nth_insn insns k) (none k (omega arith) (omega arith)))
        ∙ memory_stays low k (omega arith) (λ j from to. none j from (omega arith))
  ]

  module _ (n : ℕ) where
    -- ---- a run through some of the nodes

    -- The nodes of the test `placed` have acted, all but those of the test `dead` with their results: a register holds what
    -- the last of them made of it, if that is not dead, and memory is that before the first access that has not acted.
    pub record Tracks (placed dead : ℕ → Bool) (core : Core) : Type 0 where
      pub registers :
          (r w : ℕ) → r < first_hidden → IsLast (λ j. placed j && written insns r j) n w → dead w ≡ false
          → register core r ≡ register (core_at (suc w)) r
      pub untouched :
          (r : ℕ) → r < first_hidden → ((j : ℕ) → j < n → (placed j && written insns r j) ≡ false)
          → register core r ≡ register start r
      pub memory :
          (a : ℕ) → a ≤ n → ((j : ℕ) → j < n → goes_to_memory insns j ≡ true → placed j ≡ nat_lt j a)
          → (address : ℕ) → core.memory address ≡ (core_at a).memory address
      pub rest : HaveSameStreams core start

    -- Node k may act next. The last writers of what it reads have acted and are not dead, no later node has acted that
    -- writes what it reads or writes, and of the accesses those before it have acted, if it is one.
    pub record IsReady (placed dead : ℕ → Bool) (k : ℕ) : Type 0 where
      pub within : k < n
      pub fresh : placed k ≡ false
      pub sources :
          (r w : ℕ) → reads_at insns k r ≡ true → IsLast (written insns r) k w
          → (placed w ≡ true) × (dead w ≡ false)
      pub no_later :
          (r j : ℕ) → (reads_at insns k r || written insns r k) ≡ true → k < j → j < n
          → (placed j && written insns r j) ≡ false
      pub accesses :
          goes_to_memory insns k ≡ true → (j : ℕ) → j < n → goes_to_memory insns j ≡ true → placed j ≡ nat_lt j k

    module _ (placed dead : ℕ → Bool) (core : Core) (tracks : Tracks placed dead core) (k : ℕ) (ready : IsReady placed dead k) where
      -- where no node from one on before it writes what it reads, none that has acted does
      unwritten : (r low : ℕ) → reads_at insns k r ≡ true → ((j : ℕ) → low ≤ j → j < k → written insns r j ≡ false)
          → (j : ℕ) → low ≤ j → j < n → (placed j && written insns r j) ≡ false
      unwritten r low is none j from below = elim (cases_lt j k) [
        | inl early ↦ and_right (placed j) (written insns r j) (none j from early)
        | inr late ↦ elim (cases_eq j k) [
          | inl same ↦ and_left (placed j) (written insns r j) (ap placed same ∙ ready.fresh)
          | inr differs ↦ ready.no_later r j (or_left (reads_at insns k r) (written insns r k) is) (omega arith) below
        ]
      ]

      -- what it reads stands as before it in the block
      pub operand_there : (r : ℕ) → r < first_hidden → reads_at insns k r ≡ true → register (core_at k) r ≡ register core r
      operand_there r other is = elim (last_or_none (written insns r) k) [
        | inl (w, last) ↦
            let (w_placed, alive) = ready.sources r w is last in
            let none_behind : (j : ℕ) → suc w ≤ j → j < k → written insns r j ≡ false = λ j from to. last.none_behind j (omega arith) to in
            register_stays r (suc w) k other (omega (arith, last.below)) none_behind
            ∙ sym (tracks.registers r w other (record {
              below = omega (arith, last.below, ready.within);
              passes = and_from (placed w) (written insns r w) w_placed last.passes;
              none_behind = λ j behind. unwritten r (suc w) is none_behind j (omega arith);
            }) alive)
        | inr none ↦
            register_stays r 0 k other (omega arith) (λ j from to. none j to)
            ∙ sym (tracks.untouched r other (λ j. unwritten r 0 is (λ i from to. none i to) j (omega arith)))
      ]

      module _ (acts : ends_block (nth_insn insns k) ≡ false) (read : AgreeOn (reads units (nth_insn insns k)) (core_at k) core) where
        memory_there : goes_to_memory insns k ≡ true → (address : ℕ) → (core_at k).memory address ≡ core.memory address
        memory_there is address = sym (tracks.memory k (omega (arith, ready.within)) (ready.accesses is) address)

        -- it does what it does in the block
        pub same : AreAlike (nth_insn insns k) (core_at k) core (acted units (nth_insn insns k) (core_at k)) (acted units (nth_insn insns k) core)
        same = alike units (core_at k) core (nth_insn insns k) acts read
            (by_test (goes_to_memory insns k)
            (λ is. outside_text (λ _. false) moves _ _ (λ address clear. memory_there is address) (no_text moves))
            (λ none. none_moved _ _ _ _ none))
          where
            moves : List ℕ
            moves = accessed (nth_insn insns k) (core_at k)

        -- and the nodes that have acted are one more
        module _ (goes_on : end_at k ≡ None) (more : ℕ → Bool) (one_more : (j : ℕ) → j < n → more j ≡ (placed j || (j == k))) where
          here : more k ≡ true
          here = one_more k ready.within ∙ is_true (placed k)
            where
              is_true : (p : Bool) → (p || (k == k)) ≡ true
              is_true p = grind (arith, nat_tests)

          elsewhere : (j : ℕ) → j < n → j ≢ k → more j ≡ placed j
          elsewhere j below other = one_more j below ∙ is_same (placed j)
            where
              is_same : (p : Bool) → (p || (j == k)) ≡ p
              is_same p = grind (arith, nat_tests, other)

          abbrev pub after_it : Core
          after_it = (acted units (nth_insn insns k) core).state

          written_here : (r : ℕ) → r < first_hidden → written insns r k ≡ true → register after_it r ≡ register (core_at (suc k)) r
          written_here r other is = sym (same.written goes_on r (writes_is (nth_insn insns k) r other ∙ is))

          -- the last writer is the node, where it writes the register
          it_is_last : (r w : ℕ) → written insns r k ≡ true → IsLast (λ j. more j && written insns r j) n w → w ≡ k
          it_is_last r w is last = elim (cases_lt w k) [
            | inl before ↦ absurd (true≢false (sym (and_from (more k) (written insns r k) here is) ∙ last.none_behind k before ready.within))
            | inr from ↦ elim (cases_eq w k) [
              | inl at_it ↦ at_it
              | inr differs ↦
                  let passes : (placed w && written insns r w) ≡ true = ap (λ p. p && written insns r w) (sym (elsewhere w last.below differs)) ∙ last.passes in
                  absurd (true≢false (sym passes ∙ ready.no_later r w (or_right (reads_at insns k r) (written insns r k) is) (omega arith) last.below))
            ]
          ]

          -- and else it is as before
          before_it : (r j : ℕ) → written insns r k ≡ false → j < n → (more j && written insns r j) ≡ false → (placed j && written insns r j) ≡ false
          before_it r j none below now = elim (cases_eq j k) [
            | inl at_it ↦ and_right (placed j) (written insns r j) (ap (written insns r) at_it ∙ none)
            | inr differs ↦ ap (λ p. p && written insns r j) (sym (elsewhere j below differs)) ∙ now
          ]

          last_before : (r w : ℕ) → written insns r k ≡ false → IsLast (λ j. more j && written insns r j) n w → IsLast (λ j. placed j && written insns r j) n w
          last_before r w none last = record {
            below = last.below;
            passes = ap (λ p. p && written insns r w) (sym (elsewhere w last.below (λ at_it.
                true≢false (sym last.passes ∙ and_right (more w) (written insns r w) (ap (written insns r) at_it ∙ none))))) ∙ last.passes;
            none_behind = λ j behind below. before_it r j none below (last.none_behind j behind below);
          }

          after_access : (a : ℕ) → goes_to_memory insns k ≡ true → a ≤ n
              → ((j : ℕ) → j < n → goes_to_memory insns j ≡ true → more j ≡ nat_lt j a)
              → (address : ℕ) → after_it.memory address ≡ (core_at a).memory address
          after_access a is within acted address =
              let before_a : k < a = ltb-true k a (sym (acted k ready.within is) ∙ here) in
              sym (same.memory address (memory_there is address))
              ∙ ap (λ m. m address) (sym (memory_stays (suc k) a (omega arith) (λ j from to. by_test (goes_to_memory insns j)
              (λ access. absurd (true≢false (sym (acted j (omega arith) access ∙ lt-ltb j a to)
              ∙ elsewhere j (omega arith) (λ at_it. absurd (omega arith)) ∙ ready.accesses is j (omega arith) access ∙ not_below j from)))
              (λ none. none))))
            where
              not_below : (j : ℕ) → suc k ≤ j → nat_lt j k ≡ false
              not_below j from = grind (arith, nat_tests)

          pub next : Tracks more dead after_it
          next = record {
            registers = λ r w other last alive. by_test (written insns r k)
                (λ is. written_here r other is ∙ ap (λ j. register (core_at (suc j)) r) (sym (it_is_last r w is last)))
                (λ none. kept_by k r core other none ∙ tracks.registers r w other (last_before r w none last) alive);
            untouched = λ r other none.
                let not_here : written insns r k ≡ false = ap (λ p. p && written insns r k) (sym here) ∙ none k ready.within in
                kept_by k r core other not_here ∙ tracks.untouched r other (λ j below. before_it r j not_here below (none j below));
            memory = λ a within acted address. by_test (goes_to_memory insns k)
                (λ is. after_access a is within acted address)
                (λ none. ap (λ m. m address) ((keeps units (nth_insn insns k) core).memory (store_accesses (nth_insn insns k) none))
                ∙ tracks.memory a within (λ j below access. sym (elsewhere j below (λ at_it.
                true≢false (sym access ∙ ap (goes_to_memory insns) at_it ∙ none))) ∙ acted j below access) address);
            rest = acted_keeps_streams units (nth_insn insns k) core start tracks.rest;
          }

    -- ---- a run that may end

    -- the run has ended at a node, and none before it in the block ends
    pub record HasStopped (e : End) (core : Core) : Type 0 where
      pub node : ℕ
      pub within : node < n
      pub access : goes_to_memory insns node ≡ true
      pub ends : end_at node ≡ Some e
      pub before : (j : ℕ) → j < node → end_at j ≡ None
      pub memory : (address : ℕ) → core.memory address ≡ (core_at node).memory address
      pub rest : HaveSameStreams core start

    -- the nodes of the test have acted, or the run has ended
    pub record Follows (placed dead : ℕ → Bool) (run : Reached Core) : Type 0 where
      pub going : run.end ≡ None → Tracks placed dead run.state
      pub unended : run.end ≡ None → (j : ℕ) → j < n → placed j ≡ true → end_at j ≡ None
      pub stopped : (e : End) → run.end ≡ Some e → HasStopped e run.state

    -- A hidden register that node k reads, or that its bundle has written before it and that it leaves to the words behind.
    abbrev pub Wants : ℕ → ℕ → Type 0
    Wants k r = (reads units (nth_insn insns k) r ≡ true) ⊎ ((is_cread (nth_insn insns k) && given_at insns k r) ≡ true)

    -- What is known of the block: its nodes act, units take hidden registers beside those that their words name, and where
    -- no node before it ends, each access leaves the text alone.
    pub record IsBody (text : ℕ → Bool) : Type 0 where
      pub hidden_ones : TakeHidden units
      pub acts : (k : ℕ) → k < n → ends_block (nth_insn insns k) ≡ false
      pub clear :
          (k : ℕ) → k < n → goes_to_memory insns k ≡ true → ((j : ℕ) → j < k → end_at j ≡ None)
          → LeavesText text (nth_insn insns k) (core_at k)

    -- one node more has acted, and left the text alone
    pub record IsStep (text : ℕ → Bool) (k : ℕ) (more dead : ℕ → Bool) (run : Reached Core) : Type 0 where
      pub follows : Follows more dead (continued (act units (nth_insn insns k)) run)
      pub leaves_text : run.end ≡ None → LeavesText text (nth_insn insns k) run.state
      pub hidden_there :
          (r : ℕ) → first_hidden ≤ r → given_at insns (suc k) r ≡ true → (continued (act units (nth_insn insns k)) run).end ≡ None
          → register (core_at (suc k)) r ≡ register (continued (act units (nth_insn insns k)) run).state r

    module _ (text placed dead more : ℕ → Bool) (run : Reached Core) (body : IsBody text) (follows : Follows placed dead run)
        (k : ℕ) (ready : IsReady placed dead k) (one_more : (j : ℕ) → j < n → more j ≡ (placed j || (j == k)))
        (found : run.end ≡ None → (r : ℕ) → first_hidden ≤ r → Wants k r → register (core_at k) r ≡ register run.state r) where
      module _ (on : run.end ≡ None) where
        tracks_now : Tracks placed dead run.state
        tracks_now = follows.going on

        read_now : AgreeOn (reads units (nth_insn insns k)) (core_at k) run.state
        read_now r is = elim (cases_lt r first_hidden) [
          | inl named ↦ operand_there placed dead run.state tracks_now k ready r named (sym (reads_is units body.hidden_ones (nth_insn insns k) r named) ∙ is)
          | inr hidden ↦ found on r hidden (inl is)
        ]

        same_now : AreAlike (nth_insn insns k) (core_at k) run.state (acted units (nth_insn insns k) (core_at k)) (acted units (nth_insn insns k) run.state)
        same_now = same placed dead run.state tracks_now k ready (body.acts k ready.within) read_now

        -- no node before it ends, where it is an access
        none_before : goes_to_memory insns k ≡ true → (j : ℕ) → j < k → end_at j ≡ None
        none_before is j below =
            let there : j < n = omega (arith, ready.within) in
            by_test (goes_to_memory insns j)
            (λ access. follows.unended on j there (ready.accesses is j there access ∙ lt-ltb j k below))
            (λ none. (keeps units (nth_insn insns j) (core_at j)).goes_on none)

        leaves_now : LeavesText text (nth_insn insns k) run.state
        leaves_now =
            ap (list_any text) (sym (same_accessed units (nth_insn insns k) (core_at k) run.state read_now))
            ∙ by_test (goes_to_memory insns k)
            (λ is. body.clear k ready.within is (none_before is))
            (λ none. nothing_moved text (nth_insn insns k) (core_at k) none)

        -- it has written a hidden register, or left it as it was
        hidden_now : end_at k ≡ None → (r : ℕ) → first_hidden ≤ r → given_at insns (suc k) r ≡ true
            → register (core_at (suc k)) r ≡ register (acted units (nth_insn insns k) run.state).state r
        hidden_now none r hidden given = by_test (writes (nth_insn insns k) r)
            (λ is. same_now.written none r is)
            (λ unwritten.
            (keeps units (nth_insn insns k) (core_at k)).registers r unwritten
            ∙ found on r hidden (inr (or_second (writes (nth_insn insns k) r) (is_cread (nth_insn insns k) && given_at insns k r) given unwritten))
            ∙ sym ((keeps units (nth_insn insns k) run.state).registers r unwritten))

        goes_if : end_at k ≡ None → IsStep text k more dead run
        goes_if none = record {
          follows = rw (goes_on units (nth_insn insns k) run on) (record {
            going = λ _. next placed dead run.state tracks_now k ready (body.acts k ready.within) read_now none more one_more;
            unended = λ _ j below acted. elim (cases_eq j k) [
              | inl at_it ↦ ap end_at at_it ∙ none
              | inr differs ↦ follows.unended on j below (was (placed j) differs (sym (one_more j below) ∙ acted))
            ];
            stopped = λ e is. absurd (no_end _ e (sym same_now.end ∙ none) is);
          });
          leaves_text = λ _. leaves_now;
          hidden_there = λ r hidden given _. rw (goes_on units (nth_insn insns k) run on) (hidden_now none r hidden given);
        }
          where
            was : (p : Bool) → {j : ℕ} → j ≢ k → (p || (j == k)) ≡ true → p ≡ true
            was p differs is = grind (arith, nat_tests, differs)

        stops_if : (e : End) → end_at k ≡ Some e → IsStep text k more dead run
        stops_if e ends =
            let stops : (acted units (nth_insn insns k) run.state).end ≡ Some e = sym same_now.end ∙ ends in
            let moves : goes_to_memory insns k ≡ true = by_test (goes_to_memory insns k) (λ is. is)
            (λ none. absurd (no_end _ e ((keeps units (nth_insn insns k) (core_at k)).goes_on none) ends)) in
            record {
              follows = rw (goes_on units (nth_insn insns k) run on) (record {
                going = λ none. absurd (no_end _ e none stops);
                unended = λ none. absurd (no_end _ e none stops);
                stopped = λ f is. record {
                  node = k;
                  within = ready.within;
                  access = moves;
                  ends = ends ∙ sym stops ∙ is;
                  before = none_before moves;
                  memory = λ address.
                      ap (λ c. c.memory address) ((keeps units (nth_insn insns k) run.state).ended e stops)
                      ∙ tracks_now.memory k (omega (arith, ready.within)) (ready.accesses moves) address;
                  rest = acted_keeps_streams units (nth_insn insns k) run.state start tracks_now.rest;
                };
              });
              leaves_text = λ _. leaves_now;
              hidden_there = λ r hidden given none. absurd (no_end _ e (ap (λ r. r.end) (sym (goes_on units (nth_insn insns k) run on)) ∙ none) stops);
            }

      pub step : IsStep text k more dead run
      step = by_end run.end
          (λ on. by_end (end_at k) (goes_if on) (stops_if on))
          (λ e ended. record {
            follows = rw (has_ended units (nth_insn insns k) run e ended) (record {
              going = λ none. absurd (no_end run.end e none ended);
              unended = λ none. absurd (no_end run.end e none ended);
              stopped = follows.stopped;
            });
            leaves_text = λ none. absurd (no_end run.end e none ended);
            hidden_there = λ r hidden given none. absurd (no_end run.end e (ap (λ r. r.end) (sym (has_ended units (nth_insn insns k) run e ended)) ∙ none) ended);
          })

    -- what holds of the nodes of one test holds of those of an equal one
    pub follows_same : (placed more dead : ℕ → Bool) (run : Reached Core) → ((j : ℕ) → j < n → placed j ≡ more j)
        → Follows placed dead run → Follows more dead run
    follows_same placed more dead run same follows = record {
      going = λ on. let tracks = follows.going on in record {
        registers = λ r w other last. tracks.registers r w other (record {
          below = last.below;
          passes = ap (λ p. p && written insns r w) (same w last.below) ∙ last.passes;
          none_behind = λ j behind below. ap (λ p. p && written insns r j) (same j below) ∙ last.none_behind j behind below;
        });
        untouched = λ r other none. tracks.untouched r other (λ j below. ap (λ p. p && written insns r j) (same j below) ∙ none j below);
        memory = λ a within acted. tracks.memory a within (λ j below access. same j below ∙ acted j below access);
        rest = tracks.rest;
      };
      unended = λ on j below acted. follows.unended on j below (same j below ∙ acted);
      stopped = follows.stopped;
    }
