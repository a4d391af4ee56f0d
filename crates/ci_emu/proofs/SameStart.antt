-- What is said of a step serves another name of where it begins.
use Rattle.std.proofs.Common.{◌≡◌, subst}
use Rattle.ci_machine.specs.Programs.{Program, State}
use Rattle.ci_emu.specs.declared.tally.Tally.{Tally}

pub same_start : (F : Program → State → Tally → Type 0) (p q : Program) (s t : State) (x y : Tally) → p ≡ q → s ≡ t → x ≡ y → F p s x → F q t y
same_start F p q s t x y same_program same_state same_tally fact =
    subst (λ program. F program t y) same_program (subst (λ state. F p state y) same_state (subst (F p s) same_tally fact))
