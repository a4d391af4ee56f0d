-- Where a block of a file leads, behind it or with its last instruction: to a place of which all that is live there is
-- live behind the block.
use Rattle.std.specs.Prelude.{◌≡◌, ℕ, suc, ◌+◌, ◌-◌, ◌*◌, ◌%◌, ◌<◌, ◌≤◌, ◌==◌, ◌&&◌, Bool, true, false, if◌then◌else◌, Option, ℤ, ⊤}
use Rattle.std.specs.Prelude.{Some, None, List, [], ◌∷◌, length, take}
use Rattle.std.specs.List.{Contains}
use Rattle.std.specs.FinSet as finite
use Rattle.std.specs.Ordering.{nat_cmp}
use Rattle.std.proofs.Common.{refl, sym, ap, ◌∙◌, subst, arith, true≢false}
use Rattle.std.proofs.lemmas.Bool.{and_parts, eqb-true, false_from_ne_true}
use Rattle.ci_word.specs.declared.arithmetic.Op.TheVariants.{Add}
use Rattle.ci_word.specs.Arithmetic.{operation, word_of}
use Rattle.ci_isa.specs.declared.instruction.Insn.{Insn}
use Rattle.ci_isa.specs.declared.instruction.Insn.TheVariants.{Branch, Ebreak, Ecall, Illegal, Jal, Jalr}
use Rattle.ci_isa.specs.Effects.{ends_block}
use Rattle.ci_isa.specs.Sequences.{nth_insn}
use Rattle.ci_elf.specs.Executables.{Executable, IsTextWord}
use Rattle.ci_elf.specs.MemoryMap.{memory_top}
use Rattle.ci_block.specs.declared.blocks.Block.{Block}
use Rattle.ci_block.specs.declared.blocks.Next.{Next}
use Rattle.ci_block.specs.declared.blocks.Next.TheVariants.{Any}
use Rattle.ci_block.specs.Blocks.{IsNext, end_of_block, size_of, ways_on}
use Rattle.ci_live.specs.Liveness.{IsSuccessor}
use Rattle.ci_live.specs.Liveness as liveness
use Rattle.ci_live.specs.Sets.{Sets, after_block, at_leader}
use Rattle.ci_live.proofs.LeadLaws.{live_on_ways}
use Rattle.ci_live.proofs.NeededLaws.{live_at_successor}
use Rattle.ci_machine.specs.declared.ends.End.TheVariants as ends
use Rattle.ci_machine.specs.Actions.{act}
use Rattle.ci_machine.specs.Blocks.{behind}
use Rattle.ci_machine.specs.Calls.{call}
use Rattle.ci_machine.specs.Cores.{Core, register}
use Rattle.ci_machine.specs.Outcomes as outcomes
use Rattle.ci_machine.specs.Outcomes.{Outcome, Ended, reached}
use Rattle.ci_machine.specs.Programs.{Program, State, at_pc, in_text, loaded_program}
use Rattle.ci_machine.specs.RunEvents.{jalr_target}
use Rattle.ci_machine.specs.Steps.{Meaning, control, directed, fetched, following, is_taken, onward, step, stepped, then_onward}
use Rattle.ci_machine.proofs.StandingLists.{length_first}
use Rattle.ci_machine.proofs.TestLaws.{by_test}
use Rattle.ci_runs.specs.ChangedFiles.{IsChangedFile}
use Rattle.ci_runs.specs.Places.{TwoRuns, LeadsTo, at_leader as at_listed, is_word, no_text, runs_of}
use Rattle.ci_runs.specs.WholeRuns.{is_among}
use Rattle.ci_runs.proofs.ChangedFiles.{at_leader_of, block_there, leader_is_word, old_formed, same_leaders, word_tested}
use Rattle.ci_runs.proofs.ListedLeaders.{is_listed, listed_there}

-- ---- addresses behind instructions

-- the address behind a list that lies below the top of memory
behind_is : (insns : List Insn) (address : ℕ) → address + 4 * length insns ≤ memory_top → behind insns address ≡ address + 4 * length insns
behind_is [] address below = omega arith
behind_is (insn ∷ insns) address below =
    let next : following address ≡ address + 4 = omega arith in
    behind_is insns (following address) (omega (arith, next)) ∙ omega (arith, next)

-- ---- where an instruction leads

-- a step that goes on leads to a state
record GoesOn (outcome : Outcome State) : Type 0 where
  next : State
  is : outcome ≡ outcomes.Next next

-- one that comes to no end does
goes_on : (state : State) (outcome : Outcome State) → (reached state outcome).end ≡ None → GoesOn outcome
goes_on state (outcomes.Next next) on = record { next = next; is = refl }
goes_on state (Ended end) on = cc

-- it leads to one state,
led_to : (here there : State) → outcomes.Next here ≡ outcomes.Next there → here ≡ there
led_to here there same = cc

-- of which the pc is the target,
directed_to : (target : ℕ) (core : Core) (next : State) → directed target core ≡ outcomes.Next next → target ≡ next.pc
directed_to target core next = tested (target % 4 == 0)
  where
    tested : (aligned : Bool) → (if aligned then outcomes.Next (at_pc target core) else Ended (ends.Misaligned target)) ≡ outcomes.Next next
        → target ≡ next.pc
    tested true same = ap (λ (s : State). s.pc) (led_to (at_pc target core) next same)
    tested false same = cc

-- or the word behind
onward_to : (pc : ℕ) (core : Core) (next : State) → onward pc core ≡ outcomes.Next next → following pc ≡ next.pc
onward_to pc core next same = ap (λ (s : State). s.pc) (led_to (at_pc (following pc) core) next same)

-- also behind an action
then_onward_to : (pc : ℕ) (outcome : Outcome Core) (next : State) → then_onward pc outcome ≡ outcomes.Next next → following pc ≡ next.pc
then_onward_to pc (outcomes.Next core) next same = onward_to pc core next same
then_onward_to pc (Ended end) next same = cc

-- an instruction other than JALR leads to one of its ways on
abbrev IsLed : Insn → ℕ → ℕ → Type 0
IsLed (Jalr rd rs1 offset) pc address = ⊤
IsLed insn pc address = Contains (ways_on pc insn) address

-- the first of some ways, and the second of two
first_way : (ways : List ℕ) (way address : ℕ) → way ≡ address → Contains (way ∷ ways) address
first_way ways way address same = (0, omega arith, same)

second_way : (first way address : ℕ) → way ≡ address → Contains (first ∷ way ∷ []) address
second_way first way address same = (1, omega arith, same)

module _ (program : Program) (pc : ℕ) (core : Core) (next : State) (low : following pc ≡ pc + 4) where
  -- so the control of each leads, where the word behind has the next address
  control_leads : (insn : Insn) → control program insn pc core ≡ outcomes.Next next → IsLed insn pc next.pc
  control_leads (Jal rd offset) same = first_way [] (operation Add pc (word_of offset)) next.pc (directed_to _ _ next same)
  control_leads (Jalr rd rs1 offset) same = tt
  control_leads (Branch cond rs1 rs2 offset) same = tested (is_taken cond (register core rs1) (register core rs2)) same
    where
      tested : (taken : Bool) → (if taken then directed (operation Add pc (word_of offset)) core else onward pc core) ≡ outcomes.Next next
          → Contains (operation Add pc (word_of offset) ∷ (pc + 4) ∷ []) next.pc
      tested true led = first_way ((pc + 4) ∷ []) (operation Add pc (word_of offset)) next.pc (directed_to _ core next led)
      tested false led = second_way (operation Add pc (word_of offset)) (pc + 4) next.pc (sym low ∙ onward_to pc core next led)
  control_leads Ecall same = first_way [] (pc + 4) next.pc (sym low ∙ then_onward_to pc (call program core) next same)
  control_leads Ebreak same = cc
  control_leads (Illegal word) same = cc
  control_leads insn same = first_way [] (pc + 4) next.pc (sym low ∙ onward_to pc _ next same)

-- what doesn't end a block leads to the word behind it
acting_leads : (insn : Insn) (last : ℕ) → ends_block insn ≡ false → Contains (ways_on last insn) (last + 4)
acting_leads (Branch cond rs1 rs2 offset) last acts = cc
acting_leads (Jal rd offset) last acts = cc
acting_leads (Jalr rd rs1 offset) last acts = cc
acting_leads Ebreak last acts = cc
acting_leads (Illegal word) last acts = cc
acting_leads insn last acts = first_way [] (last + 4) (last + 4) refl

-- a JALR that goes on leads to its target
jalr_leads : (meaning : Meaning) (program : Program) (state next : State) (rd rs1 : ℕ) (offset : ℤ)
    → fetched meaning program state ≡ Some (Jalr rd rs1 offset) → step meaning program state ≡ outcomes.Next next
    → jalr_target meaning program state ≡ Some next.pc
jalr_leads meaning program state next rd rs1 offset found same =
    rw (jalr_target, found)
    (ap (λ (o : Outcome State). elim o as (λ _. Option ℕ) [ outcomes.Next s ↦ Some s.pc | Ended end ↦ None ]) same)

-- behind a JALR stands any leader
any_behind : (image : Executable) (last : ℕ) (insn : Insn) (next : Next) (rd rs1 : ℕ) (offset : ℤ) → insn ≡ Jalr rd rs1 offset → IsNext image last insn next
    → next ≡ Any
any_behind image last insn next rd rs1 offset same is = subst (λ i. IsNext image last i next) same is

-- ---- where a block leads

module _ (old new : Executable) (live : Sets) (is : IsChangedFile old new live) (meaning : Meaning) (input : List ℕ)
    (block : Block) (there : Contains is.blocks block) where
  abbrev runs : TwoRuns
  runs = runs_of old new live meaning input

  abbrev program_of : Program
  program_of = loaded_program old

  abbrev insns : List Insn
  insns = block.insns.items

  abbrev live_out : finite.FinSet nat_cmp
  live_out = after_block live block.leader

  abbrev last : ℕ
  last = end_of_block block - 4

  abbrev last_insn : Insn
  last_insn = nth_insn insns (size_of block - 1)

  -- the block lies below the top of memory
  low_end : end_of_block block ≤ memory_top
  low_end =
      let at = at_leader_of old new live is block there in
      let formed = old_formed old new live is in
      let loads = formed.loaded at.range at.there in
      omega (arith, at.within, loads.2.to, formed.filled loads.0 loads.1, formed.below_top loads.0 loads.1)

  -- the address of instruction d
  pub place_is : (d : ℕ) → d ≤ length insns → behind (take d insns) block.leader ≡ block.leader + 4 * d
  place_is d within =
      let many = length_first insns d within in
      behind_is (take d insns) block.leader (omega (arith, many, low_end)) ∙ ap (λ m. block.leader + 4 * m) many

  -- A place is led to where a word of the text there is a listed leader, whose live registers are live behind the block.
  leads_where : (address : ℕ)
      → (is_word program_of address ≡ true → Contains live.leaders address
      × ((r : ℕ) → finite.contains (at_leader live address) r ≡ true → finite.contains live_out r ≡ true))
      → LeadsTo runs live_out address
  leads_where address listed =
      by_test (is_word program_of address)
      (λ word. record {
        place = at_listed (is_listed live.leaders address (listed word).0);
        covered = λ r found. (listed word).1 r (both address r found).1;
      })
      (λ none. record {
        place = no_text none;
        covered = λ r found.
            let leader = listed_there live.leaders address (both address r found).0 in
            absurd (true≢false (sym (word_tested old address (leader_is_word old new live is address leader)) ∙ none));
      })
    where
      both : (a r : ℕ) → (is_among live.leaders a && finite.contains (at_leader live a) r) ≡ true
          → (is_among live.leaders a ≡ true) × (finite.contains (at_leader live a) r ≡ true)
      both a r found = and_parts (is_among live.leaders a) (finite.contains (at_leader live a) r) found

  -- each way on leads to such a place
  way_leads : (address : ℕ) → Contains (ways_on last last_insn) address → LeadsTo runs live_out address
  way_leads address way = leads_where address (λ word.
      let parts = and_parts (address % 4 == 0) (in_text program_of address) word in
      let text : IsTextWord old.ranges address = (eqb-true (address % 4) 0 parts.0, parts.1) in
      let led = λ (r : ℕ). live_on_ways old is.targets is.named is.blocks live block Ebreak address r
      (old_formed old new live is).ascending is.analysis there (way, text) in
      ((led 0).0, λ r. (led r).1))

  -- so does a JALR that leads to a listed leader, or to no text
  jalr_way : (rd rs1 : ℕ) (offset : ℤ) → last_insn ≡ Jalr rd rs1 offset → (address : ℕ)
      → (in_text program_of address ≡ true → is_among live.leaders address ≡ true) → LeadsTo runs live_out address
  jalr_way rd rs1 offset same address listed = leads_where address (λ word.
      let leader = listed_there live.leaders address (listed (and_parts (address % 4 == 0) (in_text program_of address) word).1) in
      let (other, other_there, led) = block_there old new live is address leader in
      let any : block.next ≡ Any =
      any_behind old last last_insn block.next rd rs1 offset same ((at_leader_of old new live is block there).next Ebreak) in
      let follows : IsSuccessor block other = subst (λ next. liveness.LeadsTo next other.leader) (sym any) tt in (
        leader,
        λ r found.
            live_at_successor is.blocks live block other r is.analysis.live there other_there follows
            (subst (λ a. finite.contains (at_leader live a) r ≡ true) (sym led) found),
      ))

  -- ---- the block's own ways

  -- no other listed leader stands in it
  pub alone : (d : ℕ) → 0 < d → d < length insns → is_among live.leaders (behind (take d insns) block.leader) ≡ false
  alone d some below =
      false_from_ne_true (is_among live.leaders (behind (take d insns) block.leader)) (λ listed.
      let address = block.leader + 4 * d in
      let here : is_among live.leaders address ≡ true = ap (is_among live.leaders) (sym (place_is d (omega arith))) ∙ listed in
      (at_leader_of old new live is block there).one_leader address (omega arith) (omega arith)
      (subst (λ (leaders : List ℕ). Contains leaders address) (sym (same_leaders old new live is))
      (listed_there live.leaders address here)))

  -- A block whose last instruction acts leads so behind it,
  pub leads_behind : ends_block last_insn ≡ false → LeadsTo runs live_out (behind insns block.leader)
  leads_behind acts =
      let some = (at_leader_of old new live is block there).some in
      let behind_last : last + 4 ≡ behind insns block.leader = omega (arith, behind_is insns block.leader (omega (arith, low_end)), some) in
      subst (LeadsTo runs live_out) behind_last (way_leads (last + 4) (acting_leads last_insn last acts))

  -- and each with its last instruction.
  pub leads_with :
      (state : State) (k : ℕ) → suc k ≡ length insns → state.pc ≡ behind (take k insns) block.leader
      → fetched meaning program_of state ≡ Some (nth_insn insns k)
      → (reached state (step meaning program_of state)).end ≡ None
      → ((target : ℕ) → jalr_target meaning program_of state ≡ Some target → in_text program_of target ≡ true
      → is_among live.leaders target ≡ true)
      → LeadsTo runs live_out (reached state (step meaning program_of state)).state.pc
  leads_with state k all pc_is found on listed =
      let led = goes_on state (step meaning program_of state) on in
      let pc_there = ap (λ (o : Outcome State). (reached state o).state.pc) led.is in
      subst (LeadsTo runs live_out) (sym pc_there) (by_kind (ends_block last_insn) refl led.next led.is)
    where
      place : size_of block - 1 ≡ k
      place = omega (arith, all)

      there_found : fetched meaning program_of state ≡ Some last_insn
      there_found = found ∙ ap (λ n. Some (nth_insn insns n)) (sym place)

      at_last : state.pc ≡ last
      at_last = pc_is ∙ place_is k (omega arith) ∙ omega (arith, place, all)

      low : following last ≡ last + 4
      low = omega (arith, low_end)

      executed : (ends : Bool) → ends_block last_insn ≡ ends → (next : State) → step meaning program_of state ≡ outcomes.Next next
          → (if ends then control program_of last_insn last state.core else then_onward last (act meaning.units last_insn state.core)) ≡ outcomes.Next next
      executed ends is_end next same =
          ap (λ pc. if ends then control program_of last_insn pc state.core else then_onward pc (act meaning.units last_insn state.core)) (sym at_last)
          ∙ sym (ap (λ b. if b then control program_of last_insn state.pc state.core else then_onward state.pc (act meaning.units last_insn state.core)) is_end)
          ∙ sym (ap (stepped meaning.units program_of state) there_found) ∙ same

      by_insn : (insn : Insn) → last_insn ≡ insn → ends_block last_insn ≡ true → (next : State) → step meaning program_of state ≡ outcomes.Next next
          → LeadsTo runs live_out next.pc
      by_insn (Jalr rd rs1 offset) is_jalr ends next same =
          jalr_way rd rs1 offset is_jalr next.pc
          (listed next.pc (jalr_leads meaning program_of state next rd rs1 offset (there_found ∙ ap Some is_jalr) same))
      by_insn insn is_insn ends next same =
          way_leads next.pc
          (subst (λ i. Contains (ways_on last i) next.pc) (sym is_insn)
          (control_leads program_of last state.core next low insn
          (ap (λ i. control program_of i last state.core) (sym is_insn) ∙ executed true ends next same)))

      onward_is : (o : Outcome Core) (next : State) → then_onward last o ≡ outcomes.Next next → last + 4 ≡ next.pc
      onward_is o next same = sym low ∙ then_onward_to last o next same

      by_kind : (ends : Bool) → ends_block last_insn ≡ ends → (next : State) → step meaning program_of state ≡ outcomes.Next next
          → LeadsTo runs live_out next.pc
      by_kind true ends next same = by_insn last_insn refl ends next same
      by_kind false acts next same =
          subst (LeadsTo runs live_out) (onward_is (act meaning.units last_insn state.core) next (executed false acts next same))
          (way_leads (last + 4) (acting_leads last_insn last acts))
