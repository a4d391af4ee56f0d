-- Names that are known, and one more.
use Rattle.std.proofs.Common.{◌≡◌, ℕ, ◌+◌, List, [], ◌∷◌, ◌++◌, length, length-append, true, false, cond, ◌||◌, Option, Some, None, refl, ap, sym, ◌∙◌, arith}
use Prim.Native.Nat.{min}
use Rattle.std.specs.Str.{bytes_eq}
use Rattle.std.specs.Option.{is_some, unwrap_or, option_copied}
use denote.Ref.{Bor}
use Rattle.ci_verilog.specs.Modules.{Known}
use Rattle.ci_vread.specs.Rules.{same, is_known, width_of}
use Rattle.ci_vread.specs.private.Names.{earlier, lookup}

pub same_is_eq : (xs ys : List ℕ) → same xs ys ≡ bytes_eq xs ys
same_is_eq [] [] = refl
same_is_eq [] (y ∷ ys) = refl
same_is_eq (x ∷ xs) [] = refl
same_is_eq (x ∷ xs) (y ∷ ys) = rw (same_is_eq xs ys) refl

-- a further name is found where none before it is that one
pub lookup_more : (known : List Known) (v : Known) (q : List ℕ)
    → lookup (known ++ v ∷ []) q ≡ earlier (lookup known q) (cond (same v.name q) (Some v.width) None)
lookup_more [] v q = refl
lookup_more (w ∷ known) v q =
    elim (same w.name q) as (λ b. cond b (Some w.width) (lookup (known ++ v ∷ []) q)
    ≡ earlier (cond b (Some w.width) (lookup known q)) (cond (same v.name q) (Some v.width) None))
    [ true ↦ refl | false ↦ lookup_more known v q ]

pub known_by_lookup : (known : List Known) (q : List ℕ) → is_some (lookup known q) ≡ is_known known q
known_by_lookup [] q = refl
known_by_lookup (w ∷ known) q =
    elim (same w.name q) as (λ b. is_some (cond b (Some w.width) (lookup known q)) ≡ (b || is_known known q))
    [ true ↦ refl | false ↦ known_by_lookup known q ]

pub width_by_lookup : (known : List Known) (q : List ℕ) → unwrap_or (lookup known q) 0 ≡ width_of known q
width_by_lookup [] q = refl
width_by_lookup (w ∷ known) q =
    elim (same w.name q) as (λ b. unwrap_or (cond b (Some w.width) (lookup known q)) 0 ≡ cond b w.width (width_of known q))
    [ true ↦ refl | false ↦ width_by_lookup known q ]

-- one name more, where what is found of each name is what was found before, or else of the new name
pub takes_more : (old new : List ℕ → Option ℕ) (known : List Known) (v : Known) (q : List ℕ)
    → new q ≡ earlier (old q) (cond (bytes_eq v.name q) (Some v.width) None) → old q ≡ lookup known q
    → new q ≡ lookup (known ++ v ∷ []) q
takes_more old new known v q e before =
    e ∙ (ap (λ o. earlier o (cond (bytes_eq v.name q) (Some v.width) None)) before
    ∙ (ap (λ b. earlier (lookup known q) (cond b (Some v.width) None)) (sym (same_is_eq v.name q)) ∙ sym (lookup_more known v q)))

pub counts_more : (known : List Known) (v : Known) → min (min (length known) 2053) 2052 + 1 ≡ min (length (known ++ v ∷ [])) 2053
counts_more known v = omega (arith, length-append known (v ∷ []))

pub is_some_copied : (o : Option (Bor ℕ)) → is_some o ≡ is_some (option_copied o)
is_some_copied (Some d) = refl
is_some_copied None = refl
