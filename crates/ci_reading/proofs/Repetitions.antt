-- A repetition with what follows it is exact, where a test of the first symbol tells the two apart.
use Rattle.std.proofs.Common.{◌≡◌, ℕ, zero, suc, ◌<◌, ◌≤◌, ◌⊎◌, inl, inr, Bool, true, false, cond, nat_lt, List, []}
use Rattle.std.proofs.Common.{◌∷◌, ◌++◌, length, length-append, refl, sym, ap, ◌∙◌, subst, arith, append_assoc}
use Rattle.std.proofs.Common.{append-nil, Option, Some, None, Ok, Err}
use Rattle.std.proofs.lemmas.Bool.Decides.{nat_tests}
use Rattle.ci_reading.specs.LineReading.{Stop, stop, Read, ◌>>=◌, view, first_passes, with_items, with_front, repeated, shortening, repetition}
use Rattle.ci_reading.proofs.Languages.{Both, in_both, halfway, mapped, SeenBy, first_on, not_empty, Begins}
use Rattle.ci_reading.proofs.Exact.{IsStop, IsExact, carried, along, weaker, vacuous, same_answers, both, seen, either}

-- ---- the language

module _ {S K X F : Type 0} where
  -- texts of some items, one after the other, and then one of the tail; or not yet all of them
  pub data AreMany (L : List S → List X → Option K → Type 0) (M : List S → List X × F → Option K → Type 0) : List S → List X × F → Option K → Type 0 where
    no_more : (ys : List S) (v : List X × F) (far : Option K) → M ys v far → AreMany L M ys v far
    one_more : (ys zs : List S) (items : List X) (v : List X × F) (far : Option K) → L ys items None
        → AreMany L M zs v far → AreMany L M (ys ++ zs) (with_items items v) far
    within_one : (ys zs : List S) (items : List X) (v : List X × F) (k : K) → L ys items (Some k)
        → AreMany L M zs v None → AreMany L M ys (with_items items v) (Some k)

-- ---- a repetition, by its count

-- what is read leaves fewer symbols
abbrev Shortens : {S K X : Type 0} → (List S → Read S K X) → Type 0
Shortens {S = S} {X = X} one = (xs after : List S) (x : X) → one xs ≡ Ok (x, after) → length after < length xs

module _ {S K X : Type 0} (one : List S → Read S K X) where
  shortening_shortens : Shortens (shortening one)
  shortening_shortens xs after x read = by (one xs) read
    where
      test : (y : X × List S) (b : Bool) → nat_lt (length y.1) (length xs) ≡ b
          → cond {A = Read S K X} b (Ok y) (Err (stop 0)) ≡ Ok (x, after) → length after < length xs
      test y false is read = absurd (cc)
      test y true is read =
          let same : y ≡ (x, after) = cc in
          let less : length y.1 < length xs = grind (arith, nat_tests, is) in
          subst (λ (y : X × List S). length y.1 < length xs) same less

      by : (r : Read S K X)
          → (r >>= λ x. cond {A = Read S K X} (nat_lt (length x.1) (length xs)) (Ok x) (Err (stop 0)))
          ≡ Ok (x, after) → length after < length xs
      by (Err s) read = absurd (cc)
      by (Ok y) read = test y (nat_lt (length y.1) (length xs)) refl read

  pub shortened : (xs after : List S) (x : X) → length after < length xs → one xs ≡ Ok (x, after) → shortening one xs ≡ Ok (x, after)
  shortened xs after x less read =
      let test : nat_lt (length after) (length xs) ≡ true = grind (arith, nat_tests, less) in
      ap (λ r. r >>= λ x. cond {A = Read S K X} (nat_lt (length x.1) (length xs)) (Ok x) (Err (stop 0))) read
      ∙ ap (λ b. cond {A = Read S K X} b (Ok (x, after)) (Err (stop 0))) test

  stopped : (xs : List S) (s : Stop K) → one xs ≡ Err s → shortening one xs ≡ Err s
  stopped xs s read = ap (λ r. r >>= λ x. cond {A = Read S K X} (nat_lt (length x.1) (length xs)) (Ok x) (Err (stop 0))) read

  -- what reads no empty text, where it is exact, loses nothing by it
  shortening_exact : {Other : K → S → Type 0} {most : ℕ} (n : ℕ) (L : List S → X → Option K → Type 0) → ((ys : List S) (x : X) → L ys x None → 0 < length ys)
      → IsExact Other most n one L → IsExact Other most n (shortening one) L
  shortening_exact {most = most} n L some e = record {
    whole = λ ys x rest l small. shortened (ys ++ rest) rest x (omega (arith, length-append ys rest, some ys x l)) (e.whole ys x rest l small);
    told = λ front x k b other l not small. stopped (front ++ b ∷ other) _ (e.told front x k b other l not small);
    sound = λ xs x rest small few read. sound xs x rest small few (one xs) refl read;
    stops = λ xs s small few read. stops xs s small few (one xs) refl read;
  }
    where
      sound : (xs : List S) (x : X) (rest : List S) → length xs < n → length xs ≤ most → (r : Read S K X)
          → one xs ≡ r → shortening one xs ≡ Ok (x, rest) → (ys : List S) × (xs ≡ ys ++ rest) × L ys x None
      sound xs x rest small few (Err s) is read = let none = stopped xs s is in absurd (cc)
      sound xs x rest small few (Ok (y, after)) is read =
          let o = e.sound xs y after small few is in
          let read_so = shortened xs after y (omega (arith, ap length o.1, length-append o.0 after, some o.0 y o.2)) is in
          let same : ◌≡◌ {A = X × List S} (y, after) (x, rest) = cc in
          (o.0, o.1 ∙ ap (λ (p : X × List S). o.0 ++ p.1) same, subst (λ (p : X × List S). L o.0 p.0 None) same o.2)

      stops : (xs : List S) (s : Stop K) → length xs < n → length xs ≤ most → (r : Read S K X) → one xs ≡ r
          → shortening one xs ≡ Err s → IsStop n (shortening one) L xs s
      stops xs s small few (Ok (y, after)) is read =
          let o = e.sound xs y after small few is in
          let read_so = shortened xs after y (omega (arith, ap length o.1, length-append o.0 after, some o.0 y o.2)) is in
          absurd (cc)
      stops xs s small few (Err t) is read =
          let none = stopped xs t is in
          let same : t ≡ s = cc in
          let o = e.stops xs s small few (is ∙ ap (λ u. Err u) same) in
          carried o o.more o.value o.goes_on (λ b tail other at short. let h = o.here b tail other at short in
          (h.0, stopped (o.front ++ b ∷ other) h.0 h.1)) (λ k a l. (a, l))

module _ {S K X : Type 0} (test : S → Bool) (one : List S → Read S K (List X)) (shorter : Shortens one) where
  abbrev step : ℕ → List S → Bool → Read S K (List X) → Read S K (List X)
  step n xs b r = cond b (r >>= λ x. with_front x.0 (repeated n test one x.1)) (Ok ([], xs))

  -- a count above the number of symbols doesn't matter
  same_repeated : (n m : ℕ) (xs : List S) → length xs < n → length xs < m → repeated n test one xs ≡ repeated m test one xs
  unfolding repeated
  same_repeated zero m xs less more = absurd (omega (arith, less))
  same_repeated (suc n) zero xs less more = absurd (omega (arith, more))
  same_repeated (suc n) (suc m) xs less more = by (same_repeated n m) (one xs) refl
    where
      by : ((after : List S) → length after < n → length after < m → repeated n test one after ≡ repeated m test one after)
          → (r : Read S K (List X)) → one xs ≡ r → step n xs (first_passes test xs) (one xs) ≡ step m xs (first_passes test xs) (one xs)
      by again (Err s) e = ap (step n xs (first_passes test xs)) e ∙ sym (ap (step m xs (first_passes test xs)) e)
      by again (Ok (items, after)) e =
          let less_left : length after < length xs = shorter xs after items e in
          ap (step n xs (first_passes test xs)) e
          ∙ (ap (λ r. cond (first_passes test xs) (with_front items r) (Ok ([], xs)))
          (again after (omega (arith, less, less_left)) (omega (arith, more, less_left)))
          ∙ sym (ap (step m xs (first_passes test xs)) e))

-- ---- a loop over what is repeated: its rest and its items so far stand for all

front_after : {S K X : Type 0} (a b : List X) (r : Read S K (List X)) → with_front a (with_front b r) ≡ with_front (a ++ b) r
front_after {X = X} a b (Ok x) = ap (λ (v : List X). Ok (v, x.1)) (sym (append_assoc a b x.0))
front_after a b (Err s) = refl

module _ {S K X : Type 0} (test : S → Bool) (one : List S → Read S K (List X)) where
  one_round : (xs : List S) → repetition test one xs ≡ step test (shortening one) (shortening_shortens one)
      (length xs) xs (first_passes test xs) (shortening one xs)
  unfolding repeated
  one_round xs = refl

  begun : (xs : List S) → first_passes test xs ≡ true
      → repetition test one xs ≡ (shortening one xs
      >>= λ x. with_front x.0 (repeated (length xs) test (shortening one) x.1))
  begun xs is = one_round xs ∙ ap (λ b. step test (shortening one) (shortening_shortens one) (length xs) xs b (shortening one xs)) is

  pub next_item : (so_far items : List X) (xs after : List S) → first_passes test xs ≡ true → one xs ≡ Ok (items, after) → length after < length xs
      → with_front (so_far ++ items) (repetition test one after) ≡ with_front so_far (repetition test one xs)
  next_item so_far items xs after is read less =
      sym (ap (with_front so_far) (begun xs is
      ∙ ap (λ r. r >>= λ x. with_front x.0 (repeated (length xs) test (shortening one) x.1))
      (shortened one xs after items less read))
      ∙ (front_after so_far items (repeated (length xs) test (shortening one) after)
      ∙ ap (with_front (so_far ++ items)) (same_repeated test (shortening one) (shortening_shortens one) (length xs)
      (suc (length after)) after less (omega arith))))

  pub item_stops : (so_far : List X) (xs : List S) (s : Stop K) → first_passes test xs ≡ true → one xs ≡ Err s
      → with_front so_far (repetition test one xs) ≡ Err s
  item_stops so_far xs s is fails =
      ap (with_front so_far) (begun xs is ∙ ap (λ r. r >>= λ x. with_front x.0 (repeated (length xs) test (shortening one) x.1)) (stopped one xs s fails))

  pub no_item : (so_far : List X) (xs : List S) → first_passes test xs ≡ false → with_front so_far (repetition test one xs) ≡ Ok (so_far, xs)
  no_item so_far xs ended =
      ap (with_front so_far) (one_round xs ∙ ap (λ b. step test (shortening one) (shortening_shortens one) (length xs) xs b (shortening one xs)) ended)
      ∙ ap (λ (v : List X). Ok (v, xs)) (append-nil so_far)

-- nothing in front
pub no_front : {S K X : Type 0} (r : Read S K (List X)) → with_front [] r ≡ r
no_front (Ok x) = refl
no_front (Err s) = refl

-- ---- a repetition and its tail

module _ {S K X F : Type 0} (test : S → Bool) (one : List S → Read S K (List X)) (tail : List S → Read S K (List X × F)) where
  abbrev many : ℕ → List S → Read S K (List X × F)
  many zero xs = tail xs
  many (suc count) xs = cond (first_passes test xs) (one xs >>= λ x. view (with_items x.0) (many count x.1)) (tail xs)

  abbrev and_tail : Read S K (List X) → Read S K (List X × F)
  and_tail r = r >>= λ s. view (with_items s.0) (tail s.1)

  none_first : (r : Read S K (List X × F)) → r ≡ view (with_items []) r
  none_first (Ok x) = refl
  none_first (Err s) = refl

  two_fronts : (a b : List X) (r : Read S K (List X × F)) → view (with_items a) (view (with_items b) r) ≡ view (with_items (a ++ b)) r
  two_fronts a b (Ok x) = ap (λ (items : List X). Ok ((items, x.0.1), x.1)) (sym (append_assoc a b x.0.0))
  two_fronts a b (Err s) = refl

  front_tail : (a : List X) (r : Read S K (List X)) → view (with_items a) (and_tail r) ≡ and_tail (with_front a r)
  front_tail a (Ok s) = two_fronts a s.0 (tail s.1)
  front_tail a (Err s) = refl

  many-repeated : (count : ℕ) (xs : List S) → many count xs ≡ and_tail (repeated count test one xs)
  unfolding repeated
  many-repeated zero xs = none_first (tail xs)
  many-repeated (suc count) xs = by (many-repeated count) (first_passes test xs) (one xs)
    where
      by : ((ys : List S) → many count ys ≡ and_tail (repeated count test one ys)) → (b : Bool) → (r : Read S K (List X))
          → cond b (r >>= λ x. view (with_items x.0) (many count x.1)) (tail xs)
          ≡ and_tail (cond b (r >>= λ x. with_front x.0 (repeated count test one x.1)) (Ok ([], xs)))
      by others false r = none_first (tail xs)
      by others true (Err s) = refl
      by others true (Ok x) = ap (view (with_items x.0)) (others x.1) ∙ front_tail x.0 (repeated count test one x.1)

module _ {S K X F : Type 0} {Other : K → S → Type 0} {most : ℕ} (test : S → Bool) (one : List S → Read S K (List X)) (tail : List S → Read S K (List X × F))
    (L : List S → List X → Option K → Type 0) (M : List S → List X × F → Option K → Type 0) (n : ℕ)
    (one_exact : IsExact Other most n one L) (tail_exact : IsExact Other most n tail M) (begins : Begins test true L) (others : Begins test false M)
    (ends : (ys : List S) × (v : List X × F) × M ys v None) where
  abbrev More : List S → List X × F → Option K → Type 0
  More = Both L (λ items. SeenBy (with_items items) (AreMany L M))

  more_begins : Begins test true More
  more_begins _ _ _ (in_both ys zs items v far l m) = first_on test true ys zs (begins ys items None l)
  more_begins _ _ _ (halfway ys zs items v k l m) = begins ys items (Some k) l

  many_exact : (k : ℕ) → k ≤ n → IsExact Other most k (many test one tail k) (AreMany L M)
  many_exact zero le = vacuous
  many_exact (suc k) le =
      along to from
      (either (suc k) test (λ xs. one xs >>= λ x. view (with_items x.0) (many test one tail k x.1)) tail More M
      (both (suc k) k one (λ items xs. view (with_items items) (many test one tail k xs)) L (λ items. SeenBy (with_items items) (AreMany L M))
      (weaker n (suc k) le one_exact)
      (λ ys items l. seen k (many test one tail k) (with_items items) (AreMany L M) (many_exact k (omega (arith, le))))
      (λ ys items l j short. omega (arith, short, not_empty test true ys (begins ys items None l)))
      (λ ys items far l. (ends.0, with_items items ends.1, mapped ends.0 ends.1 (no_more ends.0 ends.1 None ends.2))))
      (weaker n (suc k) le tail_exact) more_begins others)
    where
      to : (ys : List S) (v : List X × F) (far : Option K) → More ys v far ⊎ M ys v far → AreMany L M ys v far
      to _ _ _ (inl (in_both ys _ items _ far l (mapped zs v m))) = one_more ys zs items v far l m
      to _ _ _ (inl (halfway ys _ items _ k l (mapped zs v m))) = within_one ys zs items v k l m
      to ys v far (inr m) = no_more ys v far m

      from : (ys : List S) (v : List X × F) (far : Option K) → AreMany L M ys v far → More ys v far ⊎ M ys v far
      from _ _ _ (no_more ys v far m) = inr m
      from _ _ _ (one_more ys zs items v far l m) = inl (in_both ys zs items (with_items items v) far l (mapped zs v m))
      from _ _ _ (within_one ys zs items v k l m) = inl (halfway ys zs items (with_items items v) k l (mapped zs v m))

module _ {S K X F : Type 0} {Other : K → S → Type 0} {most : ℕ} (test : S → Bool) (one : List S → Read S K (List X)) (tail : List S → Read S K (List X × F))
    (L : List S → List X → Option K → Type 0) (M : List S → List X × F → Option K → Type 0) (n : ℕ)
    (one_exact : IsExact Other most n one L) (tail_exact : IsExact Other most n tail M) (begins : Begins test true L) (others : Begins test false M)
    (ends : (ys : List S) × (v : List X × F) × M ys v None) where
  -- as often as there is something that begins so, and then the tail
  pub repetition_exact : IsExact Other most n (λ xs. repetition test one xs >>= λ s. view (with_items s.0) (tail s.1)) (AreMany L M)
  repetition_exact =
      same_answers n
      (λ xs less. many-repeated test (shortening one) tail n xs
      ∙ ap (and_tail test (shortening one) tail)
      (same_repeated test (shortening one) (shortening_shortens one) n (suc (length xs)) xs less (omega arith)))
      (many_exact test (shortening one) tail L M n
      (shortening_exact one n L (λ ys items l. not_empty test true ys (begins ys items None l)) one_exact)
      tail_exact begins others ends n (omega arith))
