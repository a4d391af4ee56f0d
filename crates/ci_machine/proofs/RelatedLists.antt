-- Lists of instructions, from runs that are related.
use Rattle.std.proofs.Common.{◌≡◌, ℕ, zero, suc, replicate, refl, ap, sym, ◌∙◌, arith, List, [], ◌∷◌, ◌++◌, Some, None}
use Rattle.std.specs.Prelude.{Bool, true, false, not, ◌&&◌, ◌||◌}
use Rattle.std.specs.List.{list_any}
use Rattle.ci_isa.specs.declared.instruction.Insn.{Insn}
use Rattle.ci_isa.specs.Effects.{ends_block}
use Rattle.ci_machine.specs.declared.ends.End.{End}
use Rattle.ci_machine.specs.Cores.{Core}
use Rattle.ci_machine.specs.Outcomes.{Next, Reached, reached, from_end, continued}
use Rattle.ci_machine.specs.Actions.{Units, act}
use Rattle.ci_machine.specs.Agreement.{acted}
use Rattle.ci_machine.specs.Agreement.{reads, writes, act_all, AreRelated, LeavesText, AreActions, AllLeaveText, needed}
use Rattle.ci_machine.proofs.TestLaws.{by_end, neither_first, neither_second}
use Rattle.ci_machine.proofs.InstructionFrame.{frame}

-- ---- relations

-- the same with a set of fewer registers
pub AreRelated-fewer : (text set fewer : ℕ → Bool) (left right : Reached Core)
    → ((r : ℕ) → fewer r ≡ true → set r ≡ true) → AreRelated text set left right → AreRelated text fewer left right
AreRelated-fewer text set fewer left right within same = record {
  end = same.end;
  outside = same.outside;
  registers = λ on r is. same.registers on r (within r is);
}

pub AreRelated-refl : (text set : ℕ → Bool) (run : Reached Core) → AreRelated text set run run
AreRelated-refl text set run = record {
  end = refl;
  outside = record { memory = λ a clear. refl; heap_end = refl; input = refl; output = refl };
  registers = λ on r is. refl;
}

pub AreRelated-trans : (text set : ℕ → Bool) (left middle right : Reached Core) → AreRelated text set left middle
    → AreRelated text set middle right → AreRelated text set left right
AreRelated-trans text set left middle right first second = record {
  end = first.end ∙ second.end;
  outside = record {
    memory = λ a clear. first.outside.memory a clear ∙ second.outside.memory a clear;
    heap_end = first.outside.heap_end ∙ second.outside.heap_end;
    input = first.outside.input ∙ second.outside.input;
    output = first.outside.output ∙ second.outside.output;
  };
  registers = λ on r is. first.registers on r is ∙ second.registers (sym first.end ∙ on) r is;
}

-- cores that agree everywhere agree outside any text
pub AreRelated-everywhere : (text set : ℕ → Bool) (left right : Reached Core) → AreRelated (λ _. false) set left right → AreRelated text set left right
AreRelated-everywhere text set left right same = record {
  end = same.end;
  outside = record {
    memory = λ address clear. same.outside.memory address refl;
    heap_end = same.outside.heap_end;
    input = same.outside.input;
    output = same.outside.output;
  };
  registers = same.registers;
}

-- ---- one instruction more

pub goes_on : (units : Units) (insn : Insn) (run : Reached Core) → run.end ≡ None → continued (act units insn) run ≡ acted units insn run.state
goes_on units insn run on = ap (from_end (act units insn) run) on

pub has_ended : (units : Units) (insn : Insn) (run : Reached Core) (e : End) → run.end ≡ Some e → continued (act units insn) run ≡ run
has_ended units insn run e ended = ap (from_end (act units insn) run) ended

-- what changes nothing does so however often it acts
pub idle_stays : (units : Units) (insn : Insn) → ((core : Core) → act units insn core ≡ Next core) → (count : ℕ) (run : Reached Core)
    → act_all units (replicate count insn) run ≡ run
idle_stays units insn idle zero run = refl
idle_stays units insn idle (suc count) run =
    ap (act_all units (replicate count insn))
    (by_end run.end
    (λ on. goes_on units insn run on ∙ (λ i. reached run.state (idle run.state i)) ∙ λ i. record { state = run.state; end = sym on i })
    (λ e ended. has_ended units insn run e ended))
    ∙ idle_stays units insn idle count run

module _ (text : ℕ → Bool) (units : Units) where
  related_more : (set more : ℕ → Bool) (insn : Insn) (left right : Reached Core) → ends_block insn ≡ false
      → ((r : ℕ) → reads units insn r ≡ true → set r ≡ true) → ((r : ℕ) → more r ≡ true → (set r || writes insn r) ≡ true)
      → AreRelated text set left right → (left.end ≡ None → LeavesText text insn left.state)
      → AreRelated text more (continued (act units insn) left) (continued (act units insn) right)
  related_more set more insn left right acts covered kept same clear =
      by_end left.end
      (λ on.
      let on_right : right.end ≡ None = sym same.end ∙ on in
      rw (goes_on units insn left on, goes_on units insn right on_right)
      (AreRelated-fewer text (λ r. set r || writes insn r) more _ _ kept
      (frame text set units left.state right.state same.outside (same.registers on) insn acts covered (clear on))))
      (λ e ended.
      let ended_right : right.end ≡ Some e = sym same.end ∙ ended in
      rw (has_ended units insn left e ended, has_ended units insn right e ended_right)
      (record { end = same.end; outside = same.outside; registers = λ on. cc }))

  pub list_frame : (set : ℕ → Bool) (insns : List Insn) (left right : Reached Core)
      → AreActions insns → AreRelated text (needed units insns set) left right → AllLeaveText units text insns left
      → AreRelated text set (act_all units insns left) (act_all units insns right)
  list_frame set [] left right acts same clear = same
  list_frame set (insn ∷ insns) left right acts same clear =
      list_frame set insns (continued (act units insn) left) (continued (act units insn) right)
      (neither_second (ends_block insn) _ acts)
      (related_more (needed units (insn ∷ insns) set) (needed units insns set) insn left right (neither_first (ends_block insn) _ acts)
      (λ r is. read_is (reads units insn r) _ is)
      (λ r is. kept_or_written (reads units insn r) (needed units insns set r) (writes insn r) is)
      same clear.0)
      clear.1
    where
      read_is : (p q : Bool) → p ≡ true → (p || q) ≡ true
      read_is p q is = grind arith

      kept_or_written : (p q w : Bool) → q ≡ true → ((p || (q && not w)) || w) ≡ true
      kept_or_written p q w is = grind arith

-- ---- lists one behind the other

pub act_all-append : (units : Units) (before after : List Insn) (run : Reached Core)
    → act_all units (before ++ after) run ≡ act_all units after (act_all units before run)
act_all-append units [] after run = refl
act_all-append units (insn ∷ before) after run = act_all-append units before after (continued (act units insn) run)

pub no_text : (addresses : List ℕ) → list_any (λ _. false) addresses ≡ false
no_text [] = refl
no_text (a ∷ more) = no_text more
