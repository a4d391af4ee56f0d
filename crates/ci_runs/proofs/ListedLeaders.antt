-- The test of a listed leader finds what is listed, and all of it.
use Rattle.std.specs.Prelude.{◌≡◌, ℕ, ◌==◌, true, List}
use Rattle.std.specs.List.{Contains}
use Rattle.std.proofs.Common.{refl, subst}
use Rattle.std.proofs.lemmas.Bool.{eq-eqb, eqb-true}
use Rattle.std.proofs.lemmas.List.Folds.{Any-from_list_any, list_any-from_Any}
use Rattle.ci_runs.specs.WholeRuns.{is_among}

-- what is found is listed,
pub listed_there : (leaders : List ℕ) (address : ℕ) → is_among leaders address ≡ true → Contains leaders address
listed_there leaders address is =
    let found = Any-from_list_any (λ leader. leader == address) leaders is in
    subst (λ (a : ℕ). Contains leaders a) (eqb-true found.1 address found.4) (found.0, found.2, found.3)

-- and what is listed is found
pub is_listed : (leaders : List ℕ) (address : ℕ) → Contains leaders address → is_among leaders address ≡ true
is_listed leaders address (k, within, is) =
    list_any-from_Any (λ leader. leader == address) leaders (k, address, within, is, eq-eqb address address refl)
