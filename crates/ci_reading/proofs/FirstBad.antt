-- The first bad symbol of a list is one, however it is read, and a reader's stop tells it.
use Rattle.std.proofs.Common.{◌≡◌, ℕ, suc, ◌+◌, ◌<◌, ◌≤◌, List, [], ◌∷◌, ◌++◌, length, length-append, refl, sym, ap}
use Rattle.std.proofs.Common.{◌∙◌, subst, arith, append_assoc, append-nil, Some, None, Ok, Err}
use Rattle.ci_reading.specs.Fronts.{IsFront, IsFirstBad, EndsEarly}
use Rattle.ci_reading.specs.LineReading.{Stop, stop_of, Read}
use Rattle.ci_reading.proofs.Exact.{IsStop}
use Rattle.ci_reading.proofs.Readers.{Reader}

module _ {S : Type 0} (P : List S → Type 0) where
  -- a shorter front of a front is one
  pub front_before : (xs ys : List S) → IsFront P (xs ++ ys) → IsFront P xs
  front_before xs ys f = (ys ++ f.0, subst P (append_assoc xs ys f.0) f.1)

  -- a list of the language is a front of it
  pub is_front : (xs : List S) → P xs → IsFront P xs
  is_front xs is = ([], subst P (sym (append-nil xs)) is)

-- two fronts of a list, and the symbols behind them
data Compares {S : Type 0} (f g : List S) (a b : S) : Type 0 where
  same : f ≡ g → a ≡ b → Compares f g a b
  first_before : (more : List S) → g ≡ (f ++ a ∷ []) ++ more → Compares f g a b
  second_before : (more : List S) → f ≡ (g ++ b ∷ []) ++ more → Compares f g a b

module _ {S : Type 0} where
  more_same : (x y : S) (f g : List S) (a b : S) → x ≡ y → Compares f g a b → Compares (x ∷ f) (y ∷ g) a b
  more_same x y f g a b e (same fs as_) = same (λ i. e i ∷ fs i) as_
  more_same x y f g a b e (first_before more gs) = first_before more (λ i. sym e i ∷ gs i)
  more_same x y f g a b e (second_before more fs) = second_before more (λ i. e i ∷ fs i)

  compares : (f g r s : List S) (a b : S) → f ++ a ∷ r ≡ g ++ b ∷ s → Compares f g a b
  compares [] [] r s a b e = same refl (cc)
  compares [] (y ∷ g) r s a b e = first_before g (let h : a ≡ y = cc in λ i. sym h i ∷ g)
  compares (x ∷ f) [] r s a b e = second_before f (let h : x ≡ b = cc in λ i. h i ∷ f)
  compares (x ∷ f) (y ∷ g) r s a b e = more_same x y f g a b (cc) (compares f g r s a b (cc))

  module _ (P : List S → Type 0) (xs : List S) where
    -- a list has one first bad symbol
    pub one_first_bad : (f g : List S) (a b : S) → IsFirstBad P xs f a → IsFirstBad P xs g b → (f ≡ g) × (a ≡ b)
    one_first_bad f g a b first second = by (compares f g first.rest second.rest a b (sym first.splits ∙ second.splits))
      where
        by : Compares f g a b → (f ≡ g) × (a ≡ b)
        by (same fs as_) = (fs, as_)
        by (first_before more gs) = absurd (first.is_bad (front_before P (f ++ a ∷ []) more (subst (IsFront P) gs second.good)))
        by (second_before more fs) = absurd (second.is_bad (front_before P (g ++ b ∷ []) more (subst (IsFront P) fs first.good)))

    -- and none where it is a front
    pub none_bad : (f : List S) (a : S) → IsFront P xs → IsFirstBad P xs f a → ⊥
    none_bad f a is bad =
        bad.is_bad (front_before P (f ++ a ∷ []) bad.rest (subst (IsFront P) (bad.splits ∙ sym (append_assoc f (a ∷ []) bad.rest)) is))

-- ---- what a reader tells of the language of all its texts

module _ {S K A : Type 0} {Other : K → S → Type 0} {most : ℕ} (r : Reader S K A Other most) where
  abbrev pub IsText : List S → Type 0
  IsText xs = (a : A) × r.Is xs a None

  pub reads : (ys rest : List S) (a : A) → r.Is ys a None → r.read (ys ++ rest) ≡ Ok (a, rest)
  reads ys rest a l = (r.exact (suc (length (ys ++ rest)))).whole ys a rest l (omega arith)

  reads_all : (ys : List S) (a : A) → r.Is ys a None → r.read ys ≡ Ok (a, [])
  reads_all ys a l = ap r.read (sym (append-nil ys)) ∙ reads ys [] a l

  -- a text has one value
  pub one_value : (ys : List S) (a b : A) → r.Is ys a None → r.Is ys b None → a ≡ b
  one_value ys a b l m =
      let both : ◌≡◌ {A = Read S K A} (Ok (a, [])) (Ok (b, [])) = sym (reads_all ys a l) ∙ reads_all ys b m in
      let pair : ◌≡◌ {A = A × List S} (a, []) (b, []) = cc in
      ap (λ (p : A × List S). p.0) pair

  -- no text goes on where reading stops, whatever else follows
  ends : (front : List S) (b : S) → ((other : List S) → (s : Stop K) × (r.read (front ++ b ∷ other) ≡ Err s)) → ¬ IsFront IsText (front ++ b ∷ [])
  ends front b stops f =
      let stopped = stops f.0 in
      let same : (front ++ b ∷ []) ++ f.0 ≡ front ++ b ∷ f.0 = append_assoc front (b ∷ []) f.0 in
      let both : ◌≡◌ {A = Read S K A} (Ok (f.1.0, [])) (Err stopped.0) =
      sym (reads_all ((front ++ b ∷ []) ++ f.0) f.1.0 f.1.1) ∙ (ap r.read same ∙ stopped.1) in
      absurd (cc)

  -- no text goes on behind a whole one
  pub whole_ends : (ys : List S) (b : S) → IsText ys → ¬ IsFront IsText (ys ++ b ∷ [])
  whole_ends ys b is f =
      let same : (ys ++ b ∷ []) ++ f.0 ≡ ys ++ b ∷ f.0 = append_assoc ys (b ∷ []) f.0 in
      let both : ◌≡◌ {A = Read S K A} (Ok (f.1.0, [])) (Ok (is.0, b ∷ f.0)) =
      sym (reads_all ((ys ++ b ∷ []) ++ f.0) f.1.0 f.1.1) ∙ (ap r.read same ∙ reads ys (b ∷ f.0) is.0 is.1) in
      let pair : ◌≡◌ {A = A × List S} (f.1.0, []) (is.0, b ∷ f.0) = cc in
      let rest : [] ≡ b ∷ f.0 = ap (λ (p : A × List S). p.1) pair in
      absurd (cc)

  told_stop : (front : List S) (a : A) (k : K) (b : S) (other : List S) → r.Is front a (Some k) → Other k b
      → r.read (front ++ b ∷ other) ≡ Err (stop_of k (length (b ∷ other)))
  told_stop front a k b other l not = (r.exact (suc (length (front ++ b ∷ other)))).told front a k b other l not (omega arith)

  -- nor at a place of a kind, with another symbol than those that are due there
  pub kind_ends : (front : List S) (a : A) (k : K) (b : S) → r.Is front a (Some k) → Other k b → ¬ IsFront IsText (front ++ b ∷ [])
  kind_ends front a k b l not = ends front b (λ other. (_, told_stop front a k b other l not))

  -- what a stop tells of the list: it ends early, or has this first bad symbol, of no kind but that of the stop
  pub record IsStopOf (xs front : List S) (b : S) (s : Stop K) : Type 0 where
    pub first_bad : IsFirstBad IsText xs front b
    pub left : length front + s.left ≡ length xs
    pub no_text : ¬ IsText front
    pub of_kind : (k : K) → s.kind ≡ Some k → (a : A) × r.Is front a (Some k)
    pub of_none : s.kind ≡ None → (a : A) (k : K) → r.Is front a (Some k) → ¬ Other k b

  pub data Tells (xs : List S) (s : Stop K) : Type 0 where
    at_end : s.left ≡ 0 → EndsEarly IsText xs → Tells xs s
    at_symbol : (front : List S) (b : S) → 0 < s.left → IsStopOf xs front b s → Tells xs s

  -- a list that reads as one with a stop is no text
  stopped_no_text : (xs : List S) (s : Stop K) → r.read xs ≡ Err s → ¬ IsText xs
  stopped_no_text xs s read is = let both : ◌≡◌ {A = Read S K A} (Ok (is.0, [])) (Err s) = sym (reads_all xs is.0 is.1) ∙ read in absurd (cc)

  pub stop_tells : (xs : List S) (s : Stop K) → length xs ≤ most → r.read xs ≡ Err s → Tells xs s
  stop_tells xs s few read =
      by first.rest refl
    where
      at : (n : ℕ) → length xs < n → IsStop n r.read r.Is xs s
      at n small = (r.exact n).stops xs s small few read

      first : IsStop (suc (length xs)) r.read r.Is xs s
      first = at (suc (length xs)) (omega arith)

      -- the front is the same for each bound, as the stop says how much is left
      same_split : (fs gs hs ks : List S) → fs ++ hs ≡ gs ++ ks → length hs ≡ length ks → (fs ≡ gs) × (hs ≡ ks)
      same_split [] [] hs ks e size = (refl, e)
      same_split [] (g ∷ gs) hs ks e size = absurd (omega (arith, ap length e, length-append (g ∷ gs) ks, size))
      same_split (f ∷ fs) [] hs ks e size = absurd (omega (arith, ap length e, length-append (f ∷ fs) hs, size))
      same_split (f ∷ fs) (g ∷ gs) hs ks e size =
          let head : f ≡ g = cc in
          let tails : fs ++ hs ≡ gs ++ ks = cc in
          let others = same_split fs gs hs ks tails size in
          ((λ i. head i ∷ others.0 i), others.1)

      stops_on : (b : S) (tail : List S) → first.rest ≡ b ∷ tail → (other : List S) → (t : Stop K) × (r.read (first.front ++ b ∷ other) ≡ Err t)
      stops_on b tail here other =
          let n = suc (length xs + length (first.front ++ b ∷ other)) in
          let o = at n (omega arith) in
          let same = same_split o.front first.front o.rest first.rest (sym o.splits ∙ first.splits) (sym o.left ∙ first.left) in
          let small : length (o.front ++ b ∷ other) < n = subst (λ v. length (v ++ b ∷ other) < n) (sym same.0) (omega arith) in
          subst (λ v. (t : Stop K) × (r.read (v ++ b ∷ other) ≡ Err t)) same.0 (o.here b tail other (same.1 ∙ here) small)

      by : (rest : List S) → first.rest ≡ rest → Tells xs s
      by [] none =
          let all : xs ≡ first.front = first.splits ∙ (ap (λ v. first.front ++ v) none ∙ append-nil first.front) in
          at_end (first.left ∙ ap length none) (record {
            good = subst (IsFront IsText) (sym all) (first.more, (first.value, first.goes_on));
            is_short = stopped_no_text xs s read;
          })
      by (b ∷ tail) here =
          let stands : xs ≡ first.front ++ b ∷ tail = first.splits ∙ ap (λ v. first.front ++ v) here in
          let count : s.left ≡ suc (length tail) = first.left ∙ ap length here in
          at_symbol first.front b (omega (arith, count)) (record {
            first_bad = record {
              rest = tail;
              splits = stands;
              good = (first.more, (first.value, first.goes_on));
              is_bad = ends first.front b (stops_on b tail here);
            };
            left = omega (arith, count, ap length stands, length-append first.front (b ∷ tail));
            no_text = λ is.
                let both : ◌≡◌ {A = Read S K A} (Ok (is.0, b ∷ tail)) (Err s) =
                sym (reads first.front (b ∷ tail) is.0 is.1) ∙ (ap r.read (sym stands) ∙ read) in
                absurd (cc);
            of_kind = first.of_kind;
            of_none = λ none a k l not.
                let both : ◌≡◌ {A = Read S K A} (Err (stop_of k (length (b ∷ tail)))) (Err s) =
                sym (told_stop first.front a k b tail l not) ∙ (ap r.read (sym stands) ∙ read) in
                let same : stop_of k (length (b ∷ tail)) ≡ s = cc in
                let kinds : Some k ≡ None = ap (λ (s : Stop K). s.kind) same ∙ none in
                absurd (cc);
          })

  -- what was read tells that the list begins with a text
  pub read_tells : (xs rest : List S) (a : A) → length xs ≤ most → r.read xs ≡ Ok (a, rest) → (ys : List S) × (xs ≡ ys ++ rest) × r.Is ys a None
  read_tells xs rest a few read = (r.exact (suc (length xs))).sound xs a rest (omega arith) few read

  -- a list is a text, begins with one, or doesn't, and each of these is told
  pub data Verdict (xs : List S) : Type 0 where
    a_text : (a : A) → r.Is xs a None → Verdict xs
    behind_text : (front : List S) (b : S) → IsFirstBad IsText xs front b → IsText front → Verdict xs
    a_stop : (s : Stop K) → r.read xs ≡ Err s → Tells xs s → Verdict xs

  pub verdict : (xs : List S) → length xs ≤ most → Verdict xs
  verdict xs few = by (r.read xs) refl
    where
      behind : (front rest : List S) (a : A) → xs ≡ front ++ rest → r.Is front a None → Verdict xs
      behind front [] a splits l = a_text a (subst (λ v. r.Is v a None) (sym (splits ∙ append-nil front)) l)
      behind front (b ∷ rest) a splits l =
          behind_text front b (record { rest = rest; splits = splits; good = is_front IsText front (a, l); is_bad = whole_ends front b (a, l) }) (a, l)

      by : (read : Read S K A) → r.read xs ≡ read → Verdict xs
      by (Ok (a, rest)) read = let o = read_tells xs rest a few read in behind o.0 rest a o.1 o.2
      by (Err s) read = a_stop s read (stop_tells xs s few read)
