-- What lists find in the hidden registers, from what they find by place.
use Rattle.std.proofs.Common.{◌≡◌, ℕ, zero, suc, ◌<◌, ◌≤◌, refl, ap, ◌∙◌, arith, List, [], ◌∷◌, length}
use Rattle.std.specs.Prelude.{Bool, true, false, ◌&&◌, ◌||◌}
use Rattle.ci_isa.specs.declared.instruction.Insn.{Insn}
use Rattle.ci_isa.specs.Effects.{is_cread}
use Rattle.ci_isa.specs.Sequences.{nth_insn}
use Rattle.ci_machine.specs.Cores.{first_hidden}
use Rattle.ci_machine.specs.Actions.{Units}
use Rattle.ci_machine.specs.Agreement.{reads, writes}
use Rattle.ci_rewrite.specs.private.Bundles.{AreGiven, given_behind, given_at}

abbrev given_from : (ℕ → Bool) → List Insn → ℕ → ℕ → Bool
given_from given insns zero r = given r
given_from given insns (suc k) r = given_behind (nth_insn insns k) (given_from given insns k) r

from_start : (insns : List Insn) (k r : ℕ) → given_from (λ _. false) insns k r ≡ given_at insns k r
from_start insns zero r = refl
from_start insns (suc k) r = ap (λ b. writes (nth_insn insns k) r || (is_cread (nth_insn insns k) && b)) (from_start insns k r)

from_next : (given : ℕ → Bool) (insn : Insn) (insns : List Insn) (k r : ℕ)
    → given_from (given_behind insn given) insns k r ≡ given_from given (insn ∷ insns) (suc k) r
from_next given insn insns zero r = refl
from_next given insn insns (suc k) r = ap (λ b. writes (nth_insn insns k) r || (is_cread (nth_insn insns k) && b)) (from_next given insn insns k r)

by_places : (units : Units) (given : ℕ → Bool) (insns : List Insn)
    → ((k r : ℕ) → k < length insns → first_hidden ≤ r → reads units (nth_insn insns k) r ≡ true → given_from given insns k r ≡ true) → AreGiven units given insns
by_places units given [] found = tt
by_places units given (insn ∷ insns) found = (
  λ r hidden is. found 0 r (omega arith) hidden is,
  by_places units (given_behind insn given) insns (λ k r below hidden is. from_next given insn insns k r ∙ found (suc k) r (omega arith) hidden is),
)

pub are_given : (units : Units) (insns : List Insn)
    → ((k r : ℕ) → k < length insns → first_hidden ≤ r → reads units (nth_insn insns k) r ≡ true → given_at insns k r ≡ true) → AreGiven units (λ _. false) insns
are_given units insns found =
    by_places units (λ _. false) insns (λ k r below hidden is. from_start insns k r ∙ found k r below hidden is)
