-- Which text a list of instructions touches: it depends on the registers that the list needs.
use Rattle.std.proofs.Common.{◌≡◌, ℕ, refl, subst, ◌∙◌, List, [], ◌∷◌, ◌++◌}
use Rattle.std.specs.Prelude.{Bool, true, false, ◌||◌}
use Rattle.std.specs.List.{list_any}
use Rattle.ci_word.specs.declared.arithmetic.Op.TheVariants.{Add}
use Rattle.ci_word.specs.Arithmetic.{operation, word_of}
use Rattle.ci_isa.specs.declared.instruction.Insn.{Insn}
use Rattle.ci_isa.specs.declared.instruction.Insn.TheVariants.{Load, Store}
use Rattle.ci_isa.specs.Effects.{ends_block, is_access, width_bytes}
use Rattle.ci_machine.specs.Cores.{Core}
use Rattle.ci_machine.specs.Accesses.{addresses, load_width}
use Rattle.ci_machine.specs.Outcomes.{Reached, continued}
use Rattle.ci_machine.specs.Actions.{Units, act, accessed}
use Rattle.ci_machine.specs.Agreement.{act_all, reads, AgreeOn, AreRelated, LeavesText, AreActions, AllLeaveText, needed}
use Rattle.ci_machine.proofs.TestLaws.{neither_first, neither_second}
use Rattle.ci_machine.proofs.RegisterLaws.{operands_agree, first_there}
use Rattle.ci_machine.proofs.RelatedLists.{list_frame}

-- the addresses that an instruction moves depend on what it reads
pub same_accessed : (units : Units) (insn : Insn) (left right : Core) → AgreeOn (reads units insn) left right → accessed insn left ≡ accessed insn right
same_accessed units (Load kind rd rs1 offset) left right read =
    let a = operands_agree (rs1 ∷ []) left right rs1 read (first_there rs1 []) in
    λ i. addresses (width_bytes (load_width kind)) (operation Add (a i) (word_of offset))
same_accessed units (Store width rs1 rs2 offset) left right read =
    let a = operands_agree (rs1 ∷ rs2 ∷ []) left right rs1 read (first_there rs1 (rs2 ∷ [])) in
    λ i. addresses (width_bytes width) (operation Add (a i) (word_of offset))
same_accessed units insn left right read = refl

-- what goes to no memory moves none
pub nothing_moved : (text : ℕ → Bool) (insn : Insn) (core : Core) → is_access insn ≡ false → LeavesText text insn core
nothing_moved text (Load kind rd rs1 offset) core none = cc
nothing_moved text (Store width rs1 rs2 offset) core none = cc
nothing_moved text insn core none = refl

either : (p q : Bool) → p ≡ true → (p || q) ≡ true
either true q is = refl
either false q is = cc

module _ (text : ℕ → Bool) (units : Units) where
  leaves_here : (insn : Insn) (left right : Core) → AgreeOn (reads units insn) left right → LeavesText text insn left → LeavesText text insn right
  leaves_here insn left right read clear = subst (λ places. list_any text places ≡ false) (same_accessed units insn left right read) clear

  pub leaves_alike : (set : ℕ → Bool) (insns : List Insn) (left right : Reached Core)
      → AreActions insns → AreRelated text (needed units insns set) left right → AllLeaveText units text insns left → AllLeaveText units text insns right
  leaves_alike set [] left right acts same clear = tt
  leaves_alike set (insn ∷ insns) left right acts same clear = (
    λ on. leaves_here insn left.state right.state
        (λ r is. same.registers (same.end ∙ on) r (either (reads units insn r) _ is)) (clear.0 (same.end ∙ on)),
    leaves_alike set insns (continued (act units insn) left) (continued (act units insn) right) (neither_second (ends_block insn) _ acts)
        (list_frame text units (needed units insns set) (insn ∷ []) left right
        (alone (ends_block insn) (neither_first (ends_block insn) _ acts)) same (clear.0, tt))
        clear.1,
  )
    where
      alone : (e : Bool) → e ≡ false → (e || false) ≡ false
      alone true is = cc
      alone false is = refl

  -- ---- lists one behind the other

  pub leaves-append : (before behind : List Insn) (run : Reached Core) → AllLeaveText units text before run
      → AllLeaveText units text behind (act_all units before run) → AllLeaveText units text (before ++ behind) run
  leaves-append [] behind run first second = second
  leaves-append (insn ∷ before) behind run first second =
      (first.0, leaves-append before behind (continued (act units insn) run) first.1 second)

  pub leaves-parts : (before behind : List Insn) (run : Reached Core) → AllLeaveText units text (before ++ behind) run
      → AllLeaveText units text before run × AllLeaveText units text behind (act_all units before run)
  leaves-parts [] behind run all = (tt, all)
  leaves-parts (insn ∷ before) behind run all =
      let (first, last) = leaves-parts before behind (continued (act units insn) run) all.1 in ((all.0, first), last)

  -- a list that goes to no memory leaves the text alone
  pub quiet_list : (insns : List Insn) (run : Reached Core) → list_any is_access insns ≡ false → AllLeaveText units text insns run
  quiet_list [] run none = tt
  quiet_list (insn ∷ insns) run none = (
    λ on. nothing_moved text insn run.state (neither_first (is_access insn) _ none),
    quiet_list insns (continued (act units insn) run) (neither_second (is_access insn) _ none),
  )
