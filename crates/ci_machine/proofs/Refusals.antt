-- Actions end by accesses that the memory refuses, and by nothing else.
use Rattle.std.proofs.Common.{◌≡◌, ℕ, refl, ap, sym, ◌∙◌, List, [], ◌∷◌, Option, Some, None}
use Rattle.ci_isa.specs.declared.instruction.Insn.{Insn}
use Rattle.ci_isa.specs.declared.instruction.Insn.TheVariants.{Load, Store}
use Rattle.ci_isa.specs.declared.instruction.Width.{Width}
use Rattle.ci_machine.specs.declared.ends.End.{End}
use Rattle.ci_machine.specs.declared.ends.End.TheVariants.{Access}
use Rattle.ci_machine.specs.Cores.{Core, register}
use Rattle.ci_machine.specs.Accesses.{bytes_at, load_width}
use Rattle.ci_machine.specs.Outcomes.{Reached, reached, continued}
use Rattle.ci_machine.specs.Actions.{Units, act, accessed, address_from, loaded, stored}
use Rattle.ci_machine.specs.Agreement.{acted, act_all}
use Rattle.ci_machine.proofs.TestLaws.{by_end, some_is}
use Rattle.ci_machine.proofs.InstructionFrame.{keeps}
use Rattle.ci_machine.proofs.RelatedLists.{goes_on, has_ended}

-- it is the end of a refused access
abbrev pub IsRefused : End → Type 0
IsRefused end = (address : ℕ) × (width : Width) × (end ≡ Access address width)

pub act_refused : (units : Units) (insn : Insn) (core : Core) (e : End) → (acted units insn core).end ≡ Some e → IsRefused e
act_refused units (Load kind rd rs1 offset) core e is = by_bytes (bytes_at core.memory (accessed (Load kind rd rs1 offset) core)) is
  where
    by_bytes : (o : Option (List ℕ)) → (reached core (loaded core kind rd (address_from core rs1 offset) o)).end ≡ Some e → IsRefused e
    by_bytes (Some bytes) same = cc
    by_bytes None same = (address_from core rs1 offset, load_width kind, sym (some_is same))
act_refused units (Store width rs1 rs2 offset) core e is = by_bytes (bytes_at core.memory (accessed (Store width rs1 rs2 offset) core)) is
  where
    by_bytes : (o : Option (List ℕ)) → (reached core (stored core width (address_from core rs1 offset) (register core rs2) o)).end ≡ Some e → IsRefused e
    by_bytes (Some bytes) same = cc
    by_bytes None same = (address_from core rs1 offset, width, sym (some_is same))
act_refused units insn core e is = let never : None ≡ Some e = sym ((keeps units insn core).goes_on refl) ∙ is in cc

pub list_refused : (units : Units) (insns : List Insn) (run : Reached Core) → ((e : End) → run.end ≡ Some e → IsRefused e)
    → (e : End) → (act_all units insns run).end ≡ Some e → IsRefused e
list_refused units [] run before e is = before e is
list_refused units (insn ∷ insns) run before e is =
    list_refused units insns (continued (act units insn) run)
    (λ f ended. by_end run.end
    (λ on. act_refused units insn run.state f (ap (λ r. r.end) (sym (goes_on units insn run on)) ∙ ended))
    (λ g over. before f (ap (λ r. r.end) (sym (has_ended units insn run g over)) ∙ ended)))
    e is
