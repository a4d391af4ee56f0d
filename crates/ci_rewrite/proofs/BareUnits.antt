-- Units of which some ignore the hidden operands do what units do of which these take none.
use Rattle.std.specs.Prelude.{◌≡◌, ℕ, ◌+◌, ◌<◌, ◌↔◌, if◌then◌else◌, Bool, true, false, not, List, [], ◌∷◌, ◌++◌, length, All, Option, Some, None}
use Rattle.std.proofs.Common.{refl, sym, ap, ◌∙◌, subst, arith, lit<, true≢false}
use Rattle.std.proofs.lemmas.Bool.{and_parts}
use Rattle.std.proofs.lemmas.List.Elements.{All-nil, All-cons, All-head, All-tail, All-contains}
use Rattle.ci_isa.specs.declared.instruction.Insn.{Insn}
use Rattle.ci_isa.specs.declared.instruction.Insn.TheVariants.{Unit}
use Rattle.ci_isa.specs.Effects.{is_among, is_kept}
use Rattle.ci_isa.specs.Sequences.{nth_insn}
use Rattle.ci_elf.specs.WordLists.{AreWords}
use Rattle.ci_machine.specs.declared.ends.End.{End}
use Rattle.ci_machine.specs.Actions.{Units, act}
use Rattle.ci_machine.specs.Agreement.{act_all, AreRelated, AllLeaveText}
use Rattle.ci_machine.specs.Cores.{Core, hidden, hidden_operands, values_in, with_registers}
use Rattle.ci_machine.specs.Outcomes.{Next, Reached, reached, continued, from_end, at_start}
use Rattle.ci_machine.specs.Words.{AreTaken, HoldsWords, MakesWords}
use Rattle.ci_machine.proofs.ExtendedMeaning.{five_words}
use Rattle.ci_machine.proofs.TestLaws.{by_test}
use Rattle.ci_machine.proofs.WordLaws.{lists_words}
use Rattle.ci_unit.specs.Units as terms
use Rattle.ci_rewrite.specs.SameEffect.{IgnoresOperands, ComputesUnit, HasSameEffect}
use Rattle.ci_rewrite.proofs.BareWordLaws.{stands_bare, bare_along, bare_from}
use Rattle.ci_rewrite.proofs.PassedUnits.{ServePassed, ComputesPassed}

-- ---- units that do the same

-- By both units the actions of a list do the same from each core of words.
pub record DoTheSame (left right : Units) (insns : List Insn) : Type 0 where
  pub runs : (core : Core) → HoldsWords core → act_all left insns (at_start core) ≡ act_all right insns (at_start core)
  pub leaves_text :
      (text : ℕ → Bool) (core : Core) → HoldsWords core
      → AllLeaveText left text insns (at_start core) ↔ AllLeaveText right text insns (at_start core)

pub turned : (left right : Units) (insns : List Insn) → DoTheSame left right insns → DoTheSame right left insns
turned left right insns same = record {
  runs = λ core holds. sym (same.runs core holds);
  leaves_text = λ text core holds. let (there, back) = same.leaves_text text core holds in (back, there);
}

-- so a list has the same effect as another by the one where it does by the other
pub effect_carried : (left right : Units) (text set : ℕ → Bool) (old new : List Insn) → DoTheSame left right old → DoTheSame left right new
    → HasSameEffect text set left old new → HasSameEffect text set right old new
effect_carried left right text set old new old_same new_same effect = record {
  runs = λ core holds.
      subst (λ (p : Reached Core × Reached Core). AreRelated (λ _. false) set p.0 p.1)
      (λ i. (old_same.runs core holds i, new_same.runs core holds i)) (effect.runs core holds);
  leaves_text = λ core holds leaves.
      (new_same.leaves_text text core holds).0 (effect.leaves_text core holds ((old_same.leaves_text text core holds).1 leaves));
}

-- ---- bare units

module _ (bare : ℕ → Bool) where
  -- the units, of which those of the test take no hidden operands, but zeros in their place
  abbrev pub bare_units : Units → Units
  bare_units units = record {
    further = λ number. if bare number then [] else units.further number;
    results = λ number values. if bare number then units.results number (values ++ 0 ∷ 0 ∷ []) else units.results number values;
  }

  module _ (units : Units) (operands : (number : ℕ) → units.further number ≡ hidden_operands)
      (ignores : (number : ℕ) → bare number ≡ true → IgnoresOperands units number) where
    abbrev bares : Units
    bares = bare_units units

    -- ---- words

    with_zeros : (values : List ℕ) → length values ≡ 3 → AreWords values
        → (length (values ++ 0 ∷ 0 ∷ []) ≡ 5) × AreWords (values ++ 0 ∷ 0 ∷ [])
    with_zeros (a ∷ b ∷ c ∷ []) three words = (refl, five_words a b c 0 0 (words 0) (words 1) (words 2) (lit< tt) (lit< tt))
    with_zeros values three words = absurd (omega (arith, three))

    bare_words : (number : ℕ) → ((values : List ℕ) → AreTaken units number values → AreWords (units.results number values))
        → (values : List ℕ) → AreTaken bares number values → AreWords (bares.results number values)
    bare_words number words values taken = by_number (bare number) taken.count
      where
        by_number : (b : Bool) → length values ≡ 3 + length (if b then [] else units.further number)
            → AreWords (if b then units.results number (values ++ 0 ∷ 0 ∷ []) else units.results number values)
        by_number true three =
            let (five, are) = with_zeros values three taken.words in
            words (values ++ 0 ∷ 0 ∷ []) (record { count = five ∙ ap (λ l. 3 + length l) (sym (operands number)); words = are })
        by_number false five = words values (record { count = five; words = taken.words })

    bare_makes : (insn : Insn) → MakesWords units insn → MakesWords bares insn
    bare_makes (Unit number rd rs1 rs2 rs3) makes = bare_words number makes
    bare_makes insn makes = makes

    -- ---- what a list needs of them

    pub serve_passed : (insns : List Insn) → ((m : ℕ) → stands_bare insns m ≡ true → bare m ≡ true)
        → ((k : ℕ) → k < length insns → MakesWords units (nth_insn insns k)) → ServePassed bares insns
    serve_passed insns stand words = record {
      operands = λ number r. passed number r (bare number);
      bare = bare_along (λ number. bares.further number ≡ []) insns
          (bare_from (λ number. bares.further number ≡ []) insns (λ number is. ap (λ b. if b then [] else units.further number) (stand number is)));
      words = λ k below. bare_makes (nth_insn insns k) (words k below);
    }
      where
        passed : (number r : ℕ) (b : Bool) → is_among (if b then [] else units.further number) r ≡ true → is_among hidden_operands r ≡ true
        passed number r true among = absurd (true≢false (sym (and_parts (is_kept r) false among).1))
        passed number r false among = ap (λ l. is_among l r) (sym (operands number)) ∙ among

    -- ---- what they compute

    module _ (passes : Bool) (number : ℕ) (unit : terms.Unit) (computes : ComputesUnit units number unit)
        (three : passes ≡ false → bare number ≡ true) where
      pub computes_passed : ComputesPassed bares passes number unit
      computes_passed = record {
        takes = not (bare number);
        further = further (bare number);
        passed = λ takes. by_test passes (λ is. is) (λ none. absurd (true≢false (sym takes ∙ ap not (three none))));
        words = bare_words number computes.words;
        value = λ a b c d e words. value a b c d e words (bare number) (ignores number);
      }
        where
          further : (b : Bool) → (if b then [] else units.further number) ≡ (if not b then hidden_operands else [])
          further true = refl
          further false = operands number

          value : (a b c d e : ℕ) → AreWords (a ∷ b ∷ c ∷ d ∷ e ∷ []) → (t : Bool) → (t ≡ true → IgnoresOperands units number)
              → terms.IsTripleOf unit (a ∷ b ∷ c ∷ d ∷ e ∷ [])
              (if t then units.results number ((a ∷ b ∷ c ∷ (if not t then d ∷ e ∷ [] else [])) ++ 0 ∷ 0 ∷ [])
              else units.results number (a ∷ b ∷ c ∷ (if not t then d ∷ e ∷ [] else [])))
          value a b c d e words true ignoring =
              subst (terms.IsTripleOf unit (a ∷ b ∷ c ∷ d ∷ e ∷ [])) (ignoring refl a b c d e words) (computes.value a b c d e words)
          value a b c d e words false ignoring = computes.value a b c d e words

    -- ---- what instructions do

    same_results : (number : ℕ) (core : Core) (rs1 rs2 rs3 : ℕ) → HoldsWords core → (b : Bool) → (b ≡ true → IgnoresOperands units number)
        → units.results number (values_in core (rs1 ∷ rs2 ∷ rs3 ∷ units.further number))
        ≡ (if b then units.results number (values_in core (rs1 ∷ rs2 ∷ rs3 ∷ (if b then [] else units.further number)) ++ 0 ∷ 0 ∷ [])
        else units.results number (values_in core (rs1 ∷ rs2 ∷ rs3 ∷ (if b then [] else units.further number))))
    same_results number core rs1 rs2 rs3 holds true ignoring =
        ap (λ further. units.results number (values_in core (rs1 ∷ rs2 ∷ rs3 ∷ further))) (operands number)
        ∙ ignoring refl _ _ _ _ _
        (five_words _ _ _ _ _ (holds.registers rs1) (holds.registers rs2) (holds.registers rs3) (holds.registers 34) (holds.registers 35))
    same_results number core rs1 rs2 rs3 holds false ignoring = refl

    same_act : (insn : Insn) (core : Core) → HoldsWords core → act units insn core ≡ act bares insn core
    same_act (Unit number rd rs1 rs2 rs3) core holds =
        ap (λ results. Next (with_registers core (rd ∷ hidden) results)) (same_results number core rs1 rs2 rs3 holds (bare number) (ignores number))
    same_act insn core holds = refl

    same_step : (insn : Insn) (run : Reached Core) → HoldsWords run.state → continued (act units insn) run ≡ continued (act bares insn) run
    same_step insn run holds = by_end run.end
      where
        by_end : (end : Option End) → from_end (act units insn) run end ≡ from_end (act bares insn) run end
        by_end None = ap (reached run.state) (same_act insn run.state holds)
        by_end (Some e) = refl

    words_stay : (insn : Insn) (run : Reached Core) → MakesWords units insn → HoldsWords run.state → HoldsWords (continued (act units insn) run).state
    words_stay insn run makes holds = lists_words units (insn ∷ []) run
        (λ other. All-contains (MakesWords units) (insn ∷ []) other (All-cons (MakesWords units) insn [] makes (All-nil (MakesWords units)))) holds

    -- ---- what lists do

    same_runs : (insns : List Insn) (run : Reached Core) → All (MakesWords units) insns → HoldsWords run.state
        → act_all units insns run ≡ act_all bares insns run
    same_runs [] run makes holds = refl
    same_runs (insn ∷ insns) run makes holds =
        same_runs insns (continued (act units insn) run) (All-tail (MakesWords units) insn insns makes)
        (words_stay insn run (All-head (MakesWords units) insn insns makes) holds)
        ∙ ap (act_all bares insns) (same_step insn run holds)

    same_leaving : (text : ℕ → Bool) (insns : List Insn) (run : Reached Core) → All (MakesWords units) insns → HoldsWords run.state
        → AllLeaveText units text insns run ↔ AllLeaveText bares text insns run
    same_leaving text [] run makes holds = (λ clear. clear, λ clear. clear)
    same_leaving text (insn ∷ insns) run makes holds =
        let (there, back) =
        same_leaving text insns (continued (act units insn) run) (All-tail (MakesWords units) insn insns makes)
        (words_stay insn run (All-head (MakesWords units) insn insns makes) holds) in
        let step = same_step insn run holds in (
          λ clear. (clear.0, subst (AllLeaveText bares text insns) step (there clear.1)),
          λ clear. (clear.0, back (subst (AllLeaveText bares text insns) (sym step) clear.1)),
        )

    pub do_the_same : (insns : List Insn) → All (MakesWords units) insns → DoTheSame units bares insns
    do_the_same insns makes = record {
      runs = λ core holds. same_runs insns (at_start core) makes holds;
      leaves_text = λ text core holds. same_leaving text insns (at_start core) makes holds;
    }
