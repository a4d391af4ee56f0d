-- Laws of gates that are appended one after the other.
use Rattle.std.specs.Prelude.{◌≡◌, ℕ, ◌+◌, Bool, List, [], ◌∷◌, ◌++◌, length}
use Rattle.std.specs.Prelude.{Result, Ok, Err, IfOk}
use Rattle.std.proofs.Common.{refl, sym, ap, ◌∙◌, subst, arith, inl, inr}
use Rattle.std.proofs.lemmas.Bool.{cases_lt}
use Rattle.std.proofs.lemmas.List.{get_or_append_left, get_or_push, length_push}
use Rattle.ci_netlist.specs.declared.bits.Gate.{Gate}
use Rattle.ci_netlist.specs.Netlists.{bit_value, gate_value, Settles, HasBits, AreGates}
use Rattle.ci_gates.specs.private.Growing.{Grows}

pub no_gates : AreGates []
unfolding AreGates
no_gates k below d = absurd (omega arith)

pub gates_more : (gates : List Gate) (gate : Gate) → AreGates gates → HasBits (length gates) gate → AreGates (gates ++ gate ∷ [])
unfolding AreGates
gates_more gates gate are has k below d =
    elim (cases_lt k (length gates)) [
      | inl low ↦ subst (HasBits k) (sym (get_or_append_left gates (gate ∷ []) d k low)) (are k low d)
      | inr high ↦ let last : length gates ≡ k = let e = length_push gates gate in omega (arith, e) in
          subst (HasBits k) (sym (get_or_push gates gate d k last)) (subst (λ n. HasBits n gate) last has)
    ]

-- what settles more gates settles those before
settles_before : (gates : List Gate) (gate : Gate) (arguments : List ℕ) (gives : ℕ → Bool)
    → Settles (gates ++ gate ∷ []) arguments gives → Settles gates arguments gives
unfolding Settles
settles_before gates gate arguments gives settled k below d =
    settled k (let e = length_push gates gate in omega (arith, e)) d
    ∙ ap (gate_value (bit_value arguments gives)) (get_or_append_left gates (gate ∷ []) d k below)

pub grows_one : (old : List Gate) (gate : Gate) → Grows old (old ++ gate ∷ []) 1
grows_one old gate = record { count_is = length_push old gate; kept = settles_before old gate }

-- the last gate gives the value of its function
pub last_gives : (gates : List Gate) (gate : Gate) (arguments : List ℕ) (gives : ℕ → Bool)
    → Settles (gates ++ gate ∷ []) arguments gives → gives (length gates) ≡ gate_value (bit_value arguments gives) gate
unfolding Settles
last_gives gates gate arguments gives settled =
    settled (length gates) (let e = length_push gates gate in omega (arith, e)) gate
    ∙ ap (gate_value (bit_value arguments gives)) (get_or_push gates gate gate (length gates) refl)

-- ---- growing

pub grows_none : (gates : List Gate) → Grows gates gates 0
grows_none gates = record { count_is = omega arith; kept = λ arguments gives settled. settled }

pub grows_on : (a b c : List Gate) (n m : ℕ) → Grows a b n → Grows b c m → Grows a c (n + m)
grows_on a b c n m first second =
    record {
      count_is = omega (arith, first.count_is, second.count_is);
      kept = λ arguments gives settled. first.kept arguments gives (second.kept arguments gives settled);
    }

pub counted : (a b : List Gate) (n m : ℕ) → n ≡ m → Grows a b n → Grows a b m
counted a b n m e grows = subst (λ k. Grows a b k) e grows

-- two facts of the value of a last call give a third
pub if_ok_both : {X E : Type 0} (r : Result X E) (P Q R : X → Type 0) → ((x : X) → P x → Q x → R x) → IfOk r P → IfOk r Q → IfOk r R
if_ok_both (Ok x) P Q R f p q = f x p q
if_ok_both (Err e) P Q R f p q = tt
