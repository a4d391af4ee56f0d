-- Elements of lists that are shown otherwise: what stands at a place, and one more that has a property.
use Rattle.std.proofs.Common.{◌≡◌, ◌∙◌, ◌<◌, ◌+◌, ℕ, false, List, [], ◌∷◌, ◌++◌, get_or, length, map, take, ap, sym, subst, arith, zero, suc}
use Rattle.std.specs.Borrow.{Bor}
use Rattle.std.specs.List.{AllZip}
use Rattle.std.specs.Prelude.{All, Contains}
use Rattle.std.proofs.lemmas.List.{get_or-map, length-map, map-append, take_more}
use Rattle.std.proofs.lemmas.Slice.Zip.{all_zipped_more}
use Rattle.ci_arguments.specs.declared.tables.Access.TheVariants.{Reads}
use Rattle.ci_arguments.specs.declared.tables.CommandName.{CommandName}
use Rattle.ci_arguments.specs.declared.tables.CommandName.TheVariants.{Best}
use Rattle.ci_arguments.specs.declared.tables.DefaultValue.{DefaultValue}
use Rattle.ci_arguments.specs.declared.tables.Kind.{Kind}
use Rattle.ci_arguments.specs.declared.tables.DefaultValue.TheVariants as default
use Rattle.ci_arguments.specs.declared.tables.Kind.TheVariants as kind
use Rattle.ci_arguments.specs.declared.tables.OptionName.{OptionName}
use Rattle.ci_arguments.specs.declared.tables.OptionName.TheVariants.{Inputs}
use Rattle.ci_arguments.specs.declared.tables.OptionShape.{OptionShape}
use Rattle.ci_arguments.specs.declared.values.Value.{Value}
use Rattle.ci_arguments.specs.declared.values.Value.TheVariants.{File}

module _ {X Y : Type 0} (f : X → Y) where
  -- what stands at a place is among them
  pub shown_there : (xs : List X) (i : ℕ) (d : X) → i < length xs → Contains (map f xs) (f (get_or xs i d))
  shown_there xs i d lt = (i, omega (arith, length-map xs f), get_or-map f xs i d (f (get_or xs i d)) lt)

  -- all have what each of those behind has
  pub shown_at : (P : Y → Type 0) (xs : List X) (i : ℕ) (d : X) → i < length xs → All P (map f xs) → P (f (get_or xs i d))
  shown_at P xs i d lt all =
      subst P (get_or-map f xs i d (f (get_or xs i d)) lt)
      (all i (f (get_or xs i d)) (omega (arith, length-map xs f)))

  -- one more of them
  pub shown_more : (xs : List X) (i : ℕ) (d : X) → i < length xs
      → map f (take (i + 1) xs) ≡ map f (take i xs) ++ f (get_or xs i d) ∷ []
  shown_more xs i d lt = ap (map f) (take_more xs i d lt) ∙ map-append f (take i xs) (get_or xs i d ∷ [])

module _ {X Y : Type 0} (R : X → Y → Type 0) where
  -- lists are not zipped where one of the first has nothing
  pub not_zipped : (xs : List X) (ys : List Y) (i : ℕ) (d : X) → i < length xs
      → ((y : Y) → R (get_or xs i d) y → ⊥) → AllZip R xs ys → ⊥
  not_zipped [] ys i d lt none all = absurd (omega arith)
  not_zipped (x ∷ xs) [] i d lt none all = absurd all
  not_zipped (x ∷ xs) (y ∷ ys) zero d lt none all = none y all.0
  not_zipped (x ∷ xs) (y ∷ ys) (suc i) d lt none all = not_zipped xs ys i d (omega arith) none all.1

  -- one more of both
  pub zipped_more : (xs : List X) (ys : List Y) (i : ℕ) (d : X) (y : Y) → i < length xs
      → AllZip R (take i xs) ys → R (get_or xs i d) y → AllZip R (take (i + 1) xs) (ys ++ y ∷ [])
  zipped_more xs ys i d y lt all is =
      subst (λ zs. AllZip R zs (ys ++ y ∷ [])) (sym (take_more xs i d lt))
      (all_zipped_more R (take i xs) ys (get_or xs i d) y all is)

  -- one more of both, where the second are shown otherwise
  pub zipped_shown : {Z : Type 0} (f : Z → Y) (xs : List X) (zs new : List Z) (i : ℕ) (d : X) (z : Z)
      → new ≡ zs ++ z ∷ [] → i < length xs → AllZip R (take i xs) (map f zs) → R (get_or xs i d) (f z)
      → AllZip R (take (i + 1) xs) (map f new)
  zipped_shown f xs zs new i d z is lt all one =
      subst (AllZip R (take (i + 1) xs)) (sym (ap (map f) is ∙ map-append f zs (z ∷ [])))
      (zipped_more xs (map f zs) i d (f z) lt all one)

-- ---- what stands where nothing does

abbrev pub no_text : Bor (List ℕ)
no_text = record { ref_ptr = (0, 0); now = [] }

abbrev pub no_value : Value
no_value = File Reads no_text

abbrev pub no_row : Bor (List ℕ) × CommandName × Bor (List Kind) × Bor (List ((Bor (List ℕ) × OptionShape) × DefaultValue))
no_row = (no_text, Best, record { ref_ptr = (0, 0); now = [] }, record { ref_ptr = (0, 0); now = [] })

abbrev pub no_option : (Bor (List ℕ) × OptionShape) × DefaultValue
no_option = ((no_text, record { option = Inputs; kind = kind.File Reads; repeatable = false }), default.Number 0)

abbrev pub no_setting : OptionName × Value
no_setting = (Inputs, no_value)
