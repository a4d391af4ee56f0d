-- Reading that is exact for a language, over any symbols and any kinds of stop, and how it composes.
use Rattle.std.proofs.Common.{◌≡◌, ℕ, suc, ◌+◌, ◌<◌, ◌≤◌, ◌⊎◌, inl, inr, Bool, true, false, cond, List, [], ◌∷◌, ◌++◌}
use Rattle.std.proofs.Common.{length, length-append, refl, sym, ap, ◌∙◌, subst, arith, append_assoc, Option, Some, None}
use Rattle.std.proofs.Common.{Ok, Err}
use Rattle.ci_reading.specs.LineReading.{Stop, stop, stop_of, Read, ◌>>=◌, view, first_passes}
use Rattle.ci_reading.proofs.Languages.{Plainly, Then, joined, Both, in_both, halfway, Mapped, mapped, SeenBy, IsGiven, given, first_in, same_first, Begins}

abbrev pub Stops : {S K A : Type 0} → Read S K A → Type 0
Stops {K = K} read = (s : Stop K) × (read ≡ Err s)

-- a stop behind a front with which the language goes on, at a symbol with which reading always stops
pub record IsStop {S K A : Type 0} (bound : ℕ) (p : List S → Read S K A) (L : List S → A → Option K → Type 0) (xs : List S) (s : Stop K) : Type 0 where
  pub front : List S
  pub rest : List S
  pub splits : xs ≡ front ++ rest
  pub left : s.left ≡ length rest
  pub more : List S
  pub value : A
  pub goes_on : L (front ++ more) value None
  pub here : (b : S) (tail other : List S) → rest ≡ b ∷ tail → length (front ++ b ∷ other) < bound → Stops (p (front ++ b ∷ other))
  pub of_kind : (k : K) → s.kind ≡ Some k → (a : A) × L front a (Some k)

-- Of lists shorter than the bound, those that begin with a text of L are read, and of those that are also no longer than
-- the most that any reader is given no others; a kind is what it says.
pub record IsExact {S K A : Type 0} (Other : K → S → Type 0) (most bound : ℕ) (p : List S → Read S K A) (L : List S → A → Option K → Type 0) : Type 0 where
  pub whole : (ys : List S) (a : A) (rest : List S) → L ys a None → length (ys ++ rest) < bound → p (ys ++ rest) ≡ Ok (a, rest)
  pub told : (front : List S) (a : A) (k : K) (b : S) (other : List S) → L front a (Some k) → Other k b → length (front ++ b ∷ other) < bound
      → p (front ++ b ∷ other) ≡ Err (stop_of k (length (b ∷ other)))
  pub sound : (xs : List S) (a : A) (rest : List S) → length xs < bound → length xs ≤ most → p xs ≡ Ok (a, rest)
      → (ys : List S) × (xs ≡ ys ++ rest) × L ys a None
  pub stops : (xs : List S) (s : Stop K) → length xs < bound → length xs ≤ most → p xs ≡ Err s → IsStop bound p L xs s

-- a stop of one reading is one of another at the same place, with what goes on there, what stops there, and the kind
pub carried : {S K A B : Type 0} {n m : ℕ} {p : List S → Read S K A} {q : List S → Read S K B} {L : List S → A
    → Option K → Type 0} {M : List S → B → Option K → Type 0} {xs : List S} {s : Stop K}
    → (o : IsStop n p L xs s) → (more : List S) (value : B) → M (o.front ++ more) value None
    → ((b : S) (tail other : List S) → o.rest ≡ b ∷ tail → length (o.front ++ b ∷ other) < m → Stops (q (o.front ++ b ∷ other)))
    → ((k : K) (a : A) → L o.front a (Some k) → (b : B) × M o.front b (Some k)) → IsStop m q M xs s
carried o more value goes_on here kind = record {
  front = o.front;
  rest = o.rest;
  splits = o.splits;
  left = o.left;
  more = more;
  value = value;
  goes_on = goes_on;
  here = here;
  of_kind = λ k is. let t = o.of_kind k is in kind k t.0 t.1;
}

-- a stop of no kind
pub plain_stop : {S K A : Type 0} {n : ℕ} {p : List S → Read S K A} {L : List S → A → Type 0} (front rest more : List S) (value : A) (xs : List S) (s : Stop K)
    → xs ≡ front ++ rest → s ≡ stop (length rest) → L (front ++ more) value
    → ((b : S) (tail other : List S) → rest ≡ b ∷ tail → p (front ++ b ∷ other) ≡ Err (stop (length (b ∷ other)))) → IsStop n p (Plainly L) xs s
plain_stop {K = K} front rest more value xs s splits is goes_on here = record {
  front = front;
  rest = rest;
  splits = splits;
  left = ap (λ (s : Stop K). s.left) is;
  more = more;
  value = value;
  goes_on = goes_on;
  here = λ b tail other at short. (stop (length (b ∷ other)), here b tail other at);
  of_kind = λ k e. let none : None ≡ Some k = sym (ap (λ (s : Stop K). s.kind) is) ∙ e in absurd (cc);
}

module _ {S K : Type 0} {Other : K → S → Type 0} {most : ℕ} where
  -- ---- the same reading, and another language, other bounds, or equal answers

  module _ {A : Type 0} {p : List S → Read S K A} {n : ℕ} {L M : List S → A → Option K → Type 0} where
    pub along : ((ys : List S) (a : A) (far : Option K) → L ys a far → M ys a far)
        → ((ys : List S) (a : A) (far : Option K) → M ys a far → L ys a far) → IsExact Other most n p L
        → IsExact Other most n p M
    along to from e = record {
      whole = λ ys a rest m. e.whole ys a rest (from ys a None m);
      told = λ front a k b other m. e.told front a k b other (from front a (Some k) m);
      sound = λ xs a rest small few is. let s = e.sound xs a rest small few is in (s.0, s.1, to s.0 a None s.2);
      stops = λ xs s small few is.
          let o = e.stops xs s small few is in
          carried o o.more o.value (to (o.front ++ o.more) o.value None o.goes_on) o.here (λ k a l. (a, to o.front a (Some k) l));
    }

  module _ {A : Type 0} {p : List S → Read S K A} {L : List S → A → Option K → Type 0} where
    -- of shorter lists the same holds
    pub weaker : (n k : ℕ) → k ≤ n → IsExact Other most n p L → IsExact Other most k p L
    weaker n k le e = record {
      whole = λ ys a rest l small. e.whole ys a rest l (omega (arith, small));
      told = λ front a kind b other l not small. e.told front a kind b other l not (omega (arith, small));
      sound = λ xs a rest small few. e.sound xs a rest (omega (arith, small)) few;
      stops = λ xs s small few is.
          let o = e.stops xs s (omega (arith, small)) few is in
          carried o o.more o.value o.goes_on (λ b tail other at short. o.here b tail other at (omega (arith, short))) (λ k a l. (a, l));
    }

    -- no list is shorter than 0
    pub vacuous : IsExact Other most 0 p L
    vacuous = record {
      whole = λ ys a rest l small. absurd (omega (arith, small));
      told = λ front a k b other l not small. absurd (omega (arith, small));
      sound = λ xs a rest small few. absurd (omega (arith, small));
      stops = λ xs s small few. absurd (omega (arith, small));
    }

    -- another reading that answers the same to these lists
    pub same_answers : {q : List S → Read S K A} (n : ℕ) → ((xs : List S) → length xs < n → p xs ≡ q xs) → IsExact Other most n p L → IsExact Other most n q L
    same_answers {q = q} n same e = record {
      whole = λ ys a rest l small. sym (same (ys ++ rest) small) ∙ e.whole ys a rest l small;
      told = λ front a k b other l not small. sym (same (front ++ b ∷ other) small) ∙ e.told front a k b other l not small;
      sound = λ xs a rest small few is. e.sound xs a rest small few (same xs small ∙ is);
      stops = λ xs s small few is.
          let o = e.stops xs s small few (same xs small ∙ is) in
          carried o o.more o.value o.goes_on
          (λ b tail other at short. let h = o.here b tail other at short in (h.0, sym (same (o.front ++ b ∷ other) short) ∙ h.1)) (λ k a l. (a, l));
    }

    -- what is left is no longer than what was there
    pub none_longer : ((n : ℕ) → IsExact Other most n p L) → (xs : List S) (a : A) (rest : List S)
        → length xs ≤ most → p xs ≡ Ok (a, rest) → length rest ≤ length xs
    none_longer e xs a rest few read =
        let o = (e (suc (length xs))).sound xs a rest (omega arith) few read in omega (arith, ap length o.1, length-append o.0 rest)

  -- a language without kinds, whatever the length of the list
  pub plain_exact : {A : Type 0} {n : ℕ} {p : List S → Read S K A} {L : List S → A → Type 0}
      → ((ys : List S) (a : A) (rest : List S) → L ys a → p (ys ++ rest) ≡ Ok (a, rest))
      → ((xs : List S) (a : A) (rest : List S) → length xs ≤ most → p xs ≡ Ok (a, rest) → (ys : List S) × (xs ≡ ys ++ rest) × L ys a)
      → ((xs : List S) (s : Stop K) → length xs ≤ most → p xs ≡ Err s → IsStop n p (Plainly L) xs s) → IsExact Other most n p (Plainly L)
  plain_exact whole sound stops = record {
    whole = λ ys a rest l small. whole ys a rest l;
    told = λ front a k b other l. absurd l;
    sound = λ xs a rest small. sound xs a rest;
    stops = λ xs s small. stops xs s;
  }

  -- ---- one after the other

  module _ {A B : Type 0} where
    module _ (n m : ℕ) (p : List S → Read S K A) (q : A → List S → Read S K B) (L : List S → A → Option K → Type 0) (M : A → List S → B → Option K → Type 0)
        (first : IsExact Other most n p L) (second : (ys : List S) (a : A) → L ys a None → IsExact Other most m (q a) (M a))
        (room : (ys : List S) (a : A) → L ys a None → (k : ℕ) → length ys + k < n → k < m)
        (some : (ys : List S) (a : A) (far : Option K) → L ys a far → (zs : List S) × (b : B) × M a zs b None) where
      fits : (ys zs : List S) (a : A) → L ys a None → length (ys ++ zs) < n → length zs < m
      fits ys zs a l small = room ys a l (length zs) (omega (arith, length-append ys zs, small))

      -- a front of both that goes into the second
      enters : (ys front rest : List S) (a : A) → L ys a None → length ((ys ++ front) ++ rest) < n
          → ((p ((ys ++ front) ++ rest) >>= λ x. q x.0 x.1) ≡ q a (front ++ rest)) × (length (front ++ rest) < m)
      enters ys front rest a l small =
          let same : (ys ++ front) ++ rest ≡ ys ++ (front ++ rest) = append_assoc ys front rest in
          let short : length (ys ++ (front ++ rest)) < n = subst (λ xs. length xs < n) same small in (
            ap (λ xs. p xs >>= λ x. q x.0 x.1) same
                ∙ ap (λ r. r >>= λ x. q x.0 x.1) (first.whole ys a (front ++ rest) l short),
            fits ys (front ++ rest) a l short,
          )

      -- the first has read its text, and the second reads on
      record IsHalfway (xs : List S) (a : A) (mid : List S) : Type 0 where
        front : List S
        splits : xs ≡ front ++ mid
        is_text : L front a None
        shorter : length mid < m
        few : length mid ≤ most

      after_first : (xs : List S) (a : A) (mid : List S) → length xs < n → length xs ≤ most → p xs ≡ Ok (a, mid) → IsHalfway xs a mid
      after_first xs a mid small few read =
          let one = first.sound xs a mid small few read in
          record {
            front = one.0;
            splits = one.1;
            is_text = one.2;
            shorter = fits one.0 mid a one.2 (subst (λ v. length v < n) one.1 small);
            few = omega (arith, ap length one.1, length-append one.0 mid, few);
          }

      sound_by : (xs : List S) (b : B) (rest : List S) → length xs < n → length xs ≤ most → (r : Read S K A)
          → p xs ≡ r → (r >>= λ x. q x.0 x.1) ≡ Ok (b, rest)
          → (ys : List S) × (xs ≡ ys ++ rest) × Both L M ys b None
      sound_by xs b rest small few (Err s) read is = absurd (cc)
      sound_by xs b rest small few (Ok (a, mid)) read is =
          let o = after_first xs a mid small few read in
          let two = (second o.front a o.is_text).sound mid b rest o.shorter o.few is in
          (o.front ++ two.0, o.splits ∙ (ap (λ v. o.front ++ v) two.1 ∙ sym (append_assoc o.front two.0 rest)), in_both o.front two.0 a b None o.is_text two.2)

      stops_by : (xs : List S) (s : Stop K) → length xs < n → length xs ≤ most → (r : Read S K A) → p xs ≡ r
          → (r >>= λ x. q x.0 x.1) ≡ Err s → IsStop n (λ xs. p xs >>= λ x. q x.0 x.1) (Both L M) xs s
      stops_by xs s small few (Err t) read is =
          let same : t ≡ s = cc in
          let o = first.stops xs s small few (read ∙ ap (λ u. Err u) same) in
          let behind = some (o.front ++ o.more) o.value None o.goes_on in
          carried o (o.more ++ behind.0) behind.1
          (subst (λ v. Both L M v behind.1 None) (append_assoc o.front o.more behind.0)
          (in_both (o.front ++ o.more) behind.0 o.value behind.1 None o.goes_on behind.2))
          (λ b tail other at short. let e = o.here b tail other at short in (e.0, ap (λ r. r >>= λ x. q x.0 x.1) e.1))
          (λ k a l. let on = some o.front a (Some k) l in (on.1, halfway o.front on.0 a on.1 k l on.2))
      stops_by xs s small few (Ok (a, mid)) read is =
          let one = after_first xs a mid small few read in
          let ys = one.front in
          let o = (second ys a one.is_text).stops mid s one.shorter one.few is in
          record {
            front = ys ++ o.front;
            rest = o.rest;
            left = o.left;
            more = o.more;
            value = o.value;
            splits = one.splits ∙ (ap (λ v. ys ++ v) o.splits ∙ sym (append_assoc ys o.front o.rest));
            goes_on = subst (λ v. Both L M v o.value None) (sym (append_assoc ys o.front o.more))
                (in_both ys (o.front ++ o.more) a o.value None one.is_text o.goes_on);
            here = λ b tail other at short. let into = enters ys o.front (b ∷ other) a one.is_text short in
                let e = o.here b tail other at into.1 in (e.0, into.0 ∙ e.1);
            of_kind = λ k is. let t = o.of_kind k is in (t.0, in_both ys o.front a t.0 (Some k) one.is_text t.1);
          }

      whole_both : (xs : List S) (b : B) (far : Option K) (rest : List S) → Both L M xs b far → far ≡ None
          → length (xs ++ rest) < n → (p (xs ++ rest) >>= λ x. q x.0 x.1) ≡ Ok (b, rest)
      whole_both _ _ _ rest (in_both ys zs a b far l m) all small =
          let into = enters ys zs rest a l small in
          into.0 ∙ (second ys a l).whole zs b rest (subst (M a zs b) all m) into.1
      whole_both _ _ _ rest (halfway ys zs a b k l m) all small = absurd (cc)

      told_both : (xs : List S) (b : B) (far : Option K) (k : K) (c : S) (other : List S) → Both L M xs b far
          → far ≡ Some k → Other k c → length (xs ++ c ∷ other) < n
          → (p (xs ++ c ∷ other) >>= λ x. q x.0 x.1) ≡ Err (stop_of k (length (c ∷ other)))
      told_both _ _ _ k c other (in_both ys zs a b far l m) at not small =
          let into = enters ys zs (c ∷ other) a l small in
          into.0 ∙ (second ys a l).told zs b k c other (subst (M a zs b) at m) not into.1
      told_both _ _ _ k c other (halfway ys zs a b j l m) at not small =
          let same : j ≡ k = cc in
          ap (λ r. r >>= λ x. q x.0 x.1) (first.told ys a k c other (subst (λ k. L ys a (Some k)) same l) not small)

      -- one exact reading after the other is exact
      pub both : IsExact Other most n (λ xs. p xs >>= λ x. q x.0 x.1) (Both L M)
      both = record {
        whole = λ ys b rest is small. whole_both ys b None rest is refl small;
        told = λ front b k c other is not small. told_both front b (Some k) k c other is refl not small;
        sound = λ xs b rest small few is. sound_by xs b rest small few (p xs) refl is;
        stops = λ xs s small few is. stops_by xs s small few (p xs) refl is;
      }

  -- ---- what was read, seen by a function

  module _ {A B : Type 0} where
    module _ (n : ℕ) (p : List S → Read S K A) (f : A → B) (L : List S → A → Option K → Type 0) (e : IsExact Other most n p L) where
      whole_seen : (ys : List S) (b : B) (rest : List S) → SeenBy f L ys b None → length (ys ++ rest) < n → view f (p (ys ++ rest)) ≡ Ok (b, rest)
      whole_seen _ _ rest (mapped ys a l) small = ap (view f) (e.whole ys a rest l small)

      told_seen : (ys : List S) (b : B) (k : K) (c : S) (other : List S) → SeenBy f L ys b (Some k) → Other k c
          → length (ys ++ c ∷ other) < n → view f (p (ys ++ c ∷ other)) ≡ Err (stop_of k (length (c ∷ other)))
      told_seen _ _ k c other (mapped ys a l) not small = ap (view f) (e.told ys a k c other l not small)

      sound_seen : (xs : List S) (b : B) (rest : List S) → length xs < n → length xs ≤ most → (r : Read S K A)
          → p xs ≡ r → view f r ≡ Ok (b, rest) → (ys : List S) × (xs ≡ ys ++ rest) × SeenBy f L ys b None
      sound_seen xs b rest small few (Err s) read is = absurd (cc)
      sound_seen xs b rest small few (Ok (a, mid)) read is =
          let pair : ◌≡◌ {A = B × List S} (f a, mid) (b, rest) = cc in
          let one = e.sound xs a mid small few read in (
            one.0,
            one.1 ∙ ap (λ (x : B × List S). one.0 ++ x.1) pair,
            subst (λ b. SeenBy f L one.0 b None) (ap (λ (x : B × List S). x.0) pair) (mapped one.0 a one.2),
          )

      stops_seen : (xs : List S) (s : Stop K) → length xs < n → length xs ≤ most → (r : Read S K A) → p xs ≡ r
          → view f r ≡ Err s → IsStop n (λ xs. view f (p xs)) (SeenBy f L) xs s
      stops_seen xs s small few (Ok x) read is = absurd (cc)
      stops_seen xs s small few (Err t) read is =
          let same : t ≡ s = cc in
          let o = e.stops xs s small few (read ∙ ap (λ u. Err u) same) in
          carried o o.more (f o.value) (mapped (o.front ++ o.more) o.value o.goes_on)
          (λ b tail other at short. let k = o.here b tail other at short in (k.0, ap (view f) k.1)) (λ k a l. (f a, mapped o.front a l))

      pub seen : IsExact Other most n (λ xs. view f (p xs)) (SeenBy f L)
      seen = record {
        whole = whole_seen;
        told = told_seen;
        sound = λ xs b rest small few is. sound_seen xs b rest small few (p xs) refl is;
        stops = λ xs s small few is. stops_seen xs s small few (p xs) refl is;
      }

  -- ---- no symbol

  module _ {A : Type 0} where
    pub give : (n : ℕ) (a : A) → IsExact Other most n (λ xs. Ok (a, xs)) (Plainly (IsGiven a))
    give n a = record {
      whole = λ ys b rest g small. whole_given ys b rest g;
      told = λ front b k c other g. absurd g;
      sound = λ xs b rest small few read.
          let pair : ◌≡◌ {A = A × List S} (a, xs) (b, rest) = cc in
          ([], ap (λ (p : A × List S). p.1) pair, subst (IsGiven a []) (ap (λ (p : A × List S). p.0) pair) given);
      stops = λ xs s small few read. absurd (cc);
    }
      where
        whole_given : (ys : List S) (b : A) (rest : List S) → IsGiven a ys b → ◌≡◌ {A = Read S K A} (Ok (a, ys ++ rest)) (Ok (b, rest))
        whole_given _ _ rest given = refl

  -- ---- one or the other, by a test of the first symbol

  module _ {A : Type 0} (n : ℕ) (test : S → Bool) (p q : List S → Read S K A) (L M : List S → A → Option K → Type 0)
      (left : IsExact Other most n p L) (right : IsExact Other most n q M) (begins : Begins test true L) (others : Begins test false M) where
    abbrev choice : List S → Read S K A
    choice xs = cond (first_passes test xs) (p xs) (q xs)

    to_left : (xs : List S) → first_passes test xs ≡ true → choice xs ≡ p xs
    to_left xs e = ap (λ b. cond b (p xs) (q xs)) e

    to_right : (xs : List S) → first_passes test xs ≡ false → choice xs ≡ q xs
    to_right xs e = ap (λ b. cond b (p xs) (q xs)) e

    abbrev pub OneOf : List S → A → Option K → Type 0
    OneOf ys a far = L ys a far ⊎ M ys a far

    whole_either : (ys : List S) (a : A) (rest : List S) → OneOf ys a None → length (ys ++ rest) < n → choice (ys ++ rest) ≡ Ok (a, rest)
    whole_either ys a rest (inl l) small = to_left (ys ++ rest) (first_in test true ys rest (begins ys a None l)) ∙ left.whole ys a rest l small
    whole_either ys a rest (inr m) small = to_right (ys ++ rest) (first_in test false ys rest (others ys a None m)) ∙ right.whole ys a rest m small

    told_either : (ys : List S) (a : A) (k : K) (b : S) (other : List S) → OneOf ys a (Some k) → Other k b
        → length (ys ++ b ∷ other) < n → choice (ys ++ b ∷ other) ≡ Err (stop_of k (length (b ∷ other)))
    told_either ys a k b other (inl l) not small =
        to_left (ys ++ b ∷ other) (first_in test true ys (b ∷ other) (begins ys a (Some k) l))
        ∙ left.told ys a k b other l not small
    told_either ys a k b other (inr m) not small =
        to_right (ys ++ b ∷ other) (first_in test false ys (b ∷ other) (others ys a (Some k) m))
        ∙ right.told ys a k b other m not small

    sound_either : (xs : List S) (a : A) (rest : List S) → length xs < n → length xs ≤ most → (is : Bool)
        → first_passes test xs ≡ is → choice xs ≡ Ok (a, rest) → (ys : List S) × (xs ≡ ys ++ rest) × OneOf ys a None
    sound_either xs a rest small few true e read = let s = left.sound xs a rest small few (sym (to_left xs e) ∙ read) in (s.0, s.1, inl s.2)
    sound_either xs a rest small few false e read = let s = right.sound xs a rest small few (sym (to_right xs e) ∙ read) in (s.0, s.1, inr s.2)

    -- where one of the two is chosen, a stop of it is one of the choice, which no other tail changes
    stops_side : (is : Bool) (r : List S → Read S K A) (P : List S → A → Option K → Type 0) → ((xs : List S) → first_passes test xs ≡ is → choice xs ≡ r xs)
        → ((ys : List S) (a : A) (far : Option K) → P ys a far → OneOf ys a far)
        → (xs : List S) (s : Stop K) → first_passes test xs ≡ is → IsStop n r P xs s → IsStop n choice OneOf xs s
    stops_side is r P chosen into xs s e o =
        carried o o.more o.value (into (o.front ++ o.more) o.value None o.goes_on)
        (λ b tail other at short.
        let h = o.here b tail other at short in
        let again : first_passes test (o.front ++ b ∷ tail) ≡ is =
        ap (λ v. first_passes test (o.front ++ v)) (sym at) ∙ (ap (first_passes test) (sym o.splits) ∙ e) in
        (h.0, chosen (o.front ++ b ∷ other) (same_first test b o.front other tail ∙ again) ∙ h.1))
        (λ k a l. (a, into o.front a (Some k) l))

    stops_either : (xs : List S) (s : Stop K) → length xs < n → length xs ≤ most → (is : Bool)
        → first_passes test xs ≡ is → choice xs ≡ Err s → IsStop n choice OneOf xs s
    stops_either xs s small few true e read = stops_side true p L to_left (λ ys a far l. inl l) xs s e (left.stops xs s small few (sym (to_left xs e) ∙ read))
    stops_either xs s small few false e read =
        stops_side false q M to_right (λ ys a far m. inr m) xs s e
        (right.stops xs s small few (sym (to_right xs e) ∙ read))

    pub either : IsExact Other most n (λ xs. cond (first_passes test xs) (p xs) (q xs)) OneOf
    either = record {
      whole = whole_either;
      told = told_either;
      sound = λ xs a rest small few read. sound_either xs a rest small few (first_passes test xs) refl read;
      stops = λ xs s small few read. stops_either xs s small few (first_passes test xs) refl read;
    }

  -- ---- the same of languages without kinds

  module _ {A B : Type 0} (n : ℕ) (p : List S → Read S K A) (q : A → List S → Read S K B) (L : List S → A → Type 0)
      (first : IsExact Other most n p (Plainly L)) where
    -- a part without kinds, and then any
    pub follows : (M : A → List S → B → Option K → Type 0) → ((ys : List S) (a : A) → L ys a → IsExact Other most n (q a) (M a))
        → ((ys : List S) (a : A) → L ys a → (zs : List S) × (b : B) × M a zs b None)
        → IsExact Other most n (λ xs. p xs >>= λ x. q x.0 x.1) (λ ys b far. Then L (λ a zs b. M a zs b far) ys b)
    follows M second some = along to from (both n n p q (Plainly L) M first second (λ ys a l k short. omega (arith, short)) goes_on)
      where
        goes_on : (ys : List S) (a : A) (far : Option K) → Plainly L ys a far → (zs : List S) × (b : B) × M a zs b None
        goes_on ys a None l = some ys a l
        goes_on ys a (Some k) l = absurd l

        to : (ys : List S) (b : B) (far : Option K) → Both (Plainly L) M ys b far → Then L (λ a zs b. M a zs b far) ys b
        to _ _ _ (in_both ys zs a b far l m) = joined ys zs a b l m
        to _ _ _ (halfway ys zs a b k l m) = absurd l

        from : (ys : List S) (b : B) (far : Option K) → Then L (λ a zs b. M a zs b far) ys b → Both (Plainly L) M ys b far
        from _ _ far (joined ys zs a b l m) = in_both ys zs a b far l m

    pub and_then : (M : A → List S → B → Type 0) → ((ys : List S) (a : A) → L ys a → IsExact Other most n (q a) (Plainly (M a)))
        → ((ys : List S) (a : A) → L ys a → (zs : List S) × (b : B) × M a zs b) → IsExact Other most n (λ xs. p xs >>= λ x. q x.0 x.1) (Plainly (Then L M))
    and_then M second some = along to from (follows (λ a. Plainly (M a)) second some)
      where
        to : (ys : List S) (b : B) (far : Option K) → Then L (λ a zs b. Plainly (M a) zs b far) ys b → Plainly (Then L M) ys b far
        to ys b None t = t
        to _ _ (Some k) (joined ys zs a b l m) = m

        from : (ys : List S) (b : B) (far : Option K) → Plainly (Then L M) ys b far → Then L (λ a zs b. Plainly (M a) zs b far) ys b
        from ys b None t = t
        from ys b (Some k) t = absurd t

  module _ {A B : Type 0} (n : ℕ) (p : List S → Read S K A) (f : A → B) (L : List S → A → Type 0) where
    pub seen_plainly : IsExact Other most n p (Plainly L) → IsExact Other most n (λ xs. view f (p xs)) (Plainly (Mapped f L))
    seen_plainly e = along to from (seen n p f (Plainly L) e)
      where
        to : (ys : List S) (b : B) (far : Option K) → SeenBy f (Plainly L) ys b far → Plainly (Mapped f L) ys b far
        to ys b None t = t
        to _ _ (Some k) (mapped ys a l) = l

        from : (ys : List S) (b : B) (far : Option K) → Plainly (Mapped f L) ys b far → SeenBy f (Plainly L) ys b far
        from ys b None t = t
        from ys b (Some k) t = absurd t

  -- ---- the same language without kinds, said otherwise

  module _ {A : Type 0} {p : List S → Read S K A} {n : ℕ} {L M : List S → A → Type 0} where
    pub also : ((ys : List S) (a : A) → L ys a → M ys a) → ((ys : List S) (a : A) → M ys a → L ys a)
        → IsExact Other most n p (Plainly L) → IsExact Other most n p (Plainly M)
    also to from = along (through L M to) (through M L from)
      where
        through : (L M : List S → A → Type 0) → ((ys : List S) (a : A) → L ys a → M ys a)
            → (ys : List S) (a : A) (far : Option K) → Plainly L ys a far → Plainly M ys a far
        through L M to ys a None l = to ys a l
        through L M to ys a (Some k) l = l
