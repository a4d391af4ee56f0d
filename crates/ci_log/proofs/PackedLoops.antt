-- The loop over the bytes of a packed tree.
use Rattle.std.proofs.Common.{◌≡◌, ℕ, suc, ◌+◌, ◌<◌, ◌≤◌, false, cond, eqb, List, [], ◌∷◌, ◌++◌, length, refl, sym, ap, ◌∙◌, arith}
use Rattle.std.proofs.Common.{append_assoc, append-nil, subst, Option, Some, None, Ok, Err}
use Rattle.std.proofs.lemmas.Bool.Decides.{nat_tests}
use Rattle.ci_reading.specs.LineReading.{◌>>=◌, view, stop}
use Rattle.ci_reading.specs.Fields.{found_before}
use Rattle.ci_log.specs.declared.log.Item.{Item}
use Rattle.ci_log.specs.declared.packed.Place.{Place}
use Rattle.ci_log.specs.declared.packed.Pair.{Pair}
use Rattle.ci_log.specs.declared.faults.Failure.{Failure}
use Rattle.ci_log.specs.declared.faults.Failure.TheVariants as failure
use Rattle.ci_log.specs.private.Reading.{BehindTree, Read, Fails}
use Rattle.ci_log.specs.private.PackedReading.{byte_step, pair_at, listed, with_pair, packed_trees}
use Rattle.ci_log.proofs.TreeReading.{behind_items}
use Rattle.ci_log.proofs.PackedSteps.{IsPlace}
use Rattle.ci_log.proofs.PackedReading.{pair_is, byte_small}

packed_step : (p : Place) (x : ℕ) (xs : List ℕ) → 0 < p.due
    → packed_trees (x ∷ xs) p ≡ with_pair (length (x ∷ xs)) (packed_trees xs) (byte_step p x)
unfolding packed_trees
packed_step p x xs some =
    let test : eqb p.due 0 ≡ false = grind (arith, nat_tests, some) in
    ap (λ b. cond b (Ok ([], x ∷ xs)) (with_pair (length (x ∷ xs)) (packed_trees xs) (byte_step p x))) test

items_first : (items one two : List Item) (r : Read (List Item))
    → behind_items items (view (λ others. one ++ (two ++ others)) r) ≡ behind_items ((items ++ one) ++ two) r
items_first items one two (Err s) = refl
items_first items one two (Ok x) =
    ap (λ (v : List Item). Ok (v, x.1)) (sym (append_assoc (items ++ one) two x.0 ∙ append_assoc items one (two ++ x.0)))

pairs_first : (items : List Item) (p : Place) (xs : List ℕ) → 0 < p.due
    → behind_items items (packed_trees xs p)
    ≡ (pair_at p xs >>= λ y. behind_items ((items ++ listed y.0.high) ++ listed y.0.low) (packed_trees y.1 y.0.low.next))
unfolding packed_trees
pairs_first items p [] some =
    let test : eqb p.due 0 ≡ false = grind (arith, nat_tests, some) in
    ap (λ b. behind_items items (cond b (Ok ([], [])) (Err (stop 0)))) test
pairs_first items p (x ∷ xs) some = ap (behind_items items) (packed_step p x xs some) ∙ by (byte_step p x)
  where
    by : (o : Option Pair) → behind_items items (with_pair (length (x ∷ xs)) (packed_trees xs) o)
        ≡ (found_before (length (x ∷ xs)) xs o >>= λ y. behind_items ((items ++ listed y.0.high) ++ listed y.0.low) (packed_trees y.1 y.0.low.next))
    by None = refl
    by (Some pair) = items_first items (listed pair.high) (listed pair.low) (packed_trees xs pair.low.next)

pub next_pair : (items : List Item) (p : Place) (xs after : List ℕ) (pair : Pair) → 0 < p.due → pair_at p xs ≡ Ok (pair, after)
    → behind_items items (packed_trees xs p) ≡ behind_items ((items ++ listed pair.high) ++ listed pair.low) (packed_trees after pair.low.next)
next_pair items p xs after pair some is =
    pairs_first items p xs some
    ∙ ap (λ r. r >>= λ y. behind_items ((items ++ listed y.0.high) ++ listed y.0.low) (packed_trees y.1 y.0.low.next)) is

pub pair_fails : (e : Failure) (items : List Item) (p : Place) (xs : List ℕ) → 0 < p.due → Fails e (pair_at p xs)
    → Fails e (behind_items items (packed_trees xs p))
pair_fails failure.NoMemory items p xs some fails = tt
pair_fails (failure.Stopped s) items p xs some fails =
    pairs_first items p xs some
    ∙ ap (λ r. r >>= λ y. behind_items ((items ++ listed y.0.high) ++ listed y.0.low) (packed_trees y.1 y.0.low.next)) fails

-- a pair that was read, and how many bytes are left
record IsPairAt (p : Place) (xs after : List ℕ) (pair : Pair) : Type 0 where
  byte : ℕ
  is : byte_step p byte ≡ Some pair
  left : length xs ≡ suc (length after)

found_pair : (p : Place) (xs after : List ℕ) (pair : Pair) → pair_at p xs ≡ Ok (pair, after) → IsPairAt p xs after pair
found_pair p [] after pair e = absurd (cc)
found_pair p (x ∷ xs) after pair e = by (byte_step p x) refl e
  where
    by : (o : Option Pair) → byte_step p x ≡ o → found_before {K = BehindTree} (length (x ∷ xs)) xs o ≡ Ok (pair, after) → IsPairAt p (x ∷ xs) after pair
    by None is e = absurd (cc)
    by (Some q) is e =
        let both : ◌≡◌ {A = Pair × List ℕ} (q, xs) (pair, after) = cc in
        subst (λ (v : Pair × List ℕ). IsPairAt p (x ∷ xs) v.1 v.0) both (record { byte = x; is = is; left = refl })

pub pair_length : (p : Place) (xs after : List ℕ) (pair : Pair) → pair_at p xs ≡ Ok (pair, after) → length xs ≡ suc (length after)
pair_length p xs after pair e = (found_pair p xs after pair e).left

pub next_place : (p : Place) (xs after : List ℕ) (pair : Pair) → IsPlace p → 0 < p.due → pair_at p xs ≡ Ok (pair, after)
    → IsPlace pair.low.next × (pair.low.next.due ≤ p.due + 4)
next_place p xs after pair is_place some e =
    let found = found_pair p xs after pair e in
    let o = pair_is p found.byte (byte_small p found.byte pair found.is) pair is_place some found.is in
    (o.is_place, omega (arith, o.few))

pub none_due_behind : (items : List Item) (p : Place) (xs : List ℕ) → p.due ≡ 0 → behind_items items (packed_trees xs p) ≡ Ok (items, xs)
unfolding packed_trees
none_due_behind items p [] none =
    ap (λ b. behind_items items (cond b (Ok ([], [])) (Err (stop 0)))) (ap (λ k. eqb k 0) none) ∙ ap (λ (v : List Item). Ok (v, [])) (append-nil items)
none_due_behind items p (x ∷ xs) none =
    ap (λ b. behind_items items (cond b (Ok ([], x ∷ xs)) (with_pair (length (x ∷ xs)) (packed_trees xs) (byte_step p x)))) (ap (λ k. eqb k 0) none)
    ∙ ap (λ (v : List Item). Ok (v, x ∷ xs)) (append-nil items)
