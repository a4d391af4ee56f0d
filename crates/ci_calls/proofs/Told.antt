-- What a read answers of a shelf that may tell its files.
use Rattle.std.proofs.Common.{◌≡◌, ◌≢◌, ℕ, ◌+◌, ◌<◌, List, length, replicate, Option, Some, None, IfSome, refl, arith}
use Rattle.std.specs.Option.{IsSomeAnd}
use Rattle.std.specs.FinMap as map
use Rattle.std.proofs.Math.ListN.{length-replicate}
use Rattle.ci_io.specs.Outcomes.{Files}
use Rattle.ci_calls.specs.Inputs.{MayHold, IsAbsent}

-- an option that has some value with a fact is that value
some_and : {X : Type 0} (option : Option X) (P : X → Type 0) → IsSomeAnd option P → (x : X) × (option ≡ Some x) × P x
some_and None P h = absurd h
some_and (Some x) P h = (x, refl, h)

-- a shelf that answers so tells its files
pub IsAbsent-told : (told : Option Files) (name : List ℕ) → IfSome told (λ held. map.get held name ≡ None) → told ≢ None → IsAbsent told name
IsAbsent-told None name none tells = absurd (tells refl)
IsAbsent-told (Some held) name none tells = none

-- the file that is longer than the limit, or some bytes where the shelf tells none
pub longer_told : (told : Option Files) (name : List ℕ) (limit : ℕ)
    → IfSome told (λ held. IsSomeAnd (map.get held name) (λ bytes. limit < length bytes))
    → (bytes : List ℕ) × MayHold told name bytes × (limit < length bytes)
longer_told None name limit longer = (replicate (limit + 1) 0, tt, omega (arith, length-replicate {A = ℕ} (limit + 1) 0))
longer_told (Some held) name limit longer = some_and (map.get held name) (λ bytes. limit < length bytes) longer
