-- Reading a tree's letters is exact: they are those of one tree, and so are those up to any letter, with leaves behind them.
use Rattle.std.proofs.Common.{◌≡◌, ℕ, zero, suc, ◌+◌, ◌-◌, ◌^◌, ◌<◌, ◌≤◌, Bool, true, false, cond, eqb, List, []}
use Rattle.std.proofs.Common.{◌∷◌, ◌++◌, length, length-append, replicate, refl, sym, ap, ◌∙◌, subst, arith}
use Rattle.std.proofs.Common.{append_assoc, append-nil, Option, Some, None, Ok, Err}
use Rattle.std.proofs.lemmas.List.{length-map, map-append, length-replicate}
use Rattle.std.proofs.lemmas.Bool.{eqb-true}
use Rattle.ci_log.specs.declared.log.Item.{Item}
use Rattle.ci_log.specs.declared.log.Item.TheVariants.{B, O, C, I, G, F}
use Rattle.ci_reading.specs.LineReading.{Stop, ◌>>=◌, view, stop, with_front}
use Rattle.ci_reading.specs.Fields.{found_before}
use Rattle.ci_reading.proofs.Languages.{Plainly}
use Rattle.ci_reading.proofs.Exact.{IsStop, IsExact, plain_stop, plain_exact}
use Rattle.ci_log.specs.Trees.{IsLog, letter, letters}
use Rattle.ci_log.specs.declared.faults.Failure.{Failure}
use Rattle.ci_log.specs.declared.faults.Failure.TheVariants as failure
use Rattle.ci_log.specs.private.Reading.{Fails, BehindTree, item, Read, item_of, due_after, with_item, trees}
use Rattle.ci_log.proofs.Ends.{NotDue, most}
use Rattle.ci_log.proofs.DueTrees.{AreTrees, is_tree, are_trees, leaves_are, due_few}

-- ---- letters

item_again : (i : Item) → item_of (letter i) ≡ Some i
item_again B = refl
item_again O = refl
item_again C = refl
item_again I = refl
item_again G = refl
item_again F = refl

letter_again : (x : ℕ) (i : Item) → item_of x ≡ Some i → x ≡ letter i
letter_again x i e = by (eqb x 66) refl (eqb x 79) refl (eqb x 67) refl (eqb x 73) refl (eqb x 71) refl (eqb x 70) refl e
  where
    of : (code : ℕ) (j : Item) → letter j ≡ code → eqb x code ≡ true → Some j ≡ Some i → x ≡ letter i
    of code j is at found = let same : j ≡ i = cc in eqb-true x code at ∙ (sym is ∙ ap letter same)

    by : (b : Bool) → eqb x 66 ≡ b → (o : Bool) → eqb x 79 ≡ o → (c : Bool) → eqb x 67 ≡ c → (k : Bool)
        → eqb x 73 ≡ k → (g : Bool) → eqb x 71 ≡ g → (f : Bool) → eqb x 70 ≡ f
        → cond b (Some B) (cond o (Some O) (cond c (Some C) (cond k (Some I) (cond g (Some G) (cond f (Some F) None))))) ≡ Some i → x ≡ letter i
    by true at o _ c _ k _ g _ f _ found = of 66 B refl at found
    by false _ true at c _ k _ g _ f _ found = of 79 O refl at found
    by false _ false _ true at k _ g _ f _ found = of 67 C refl at found
    by false _ false _ false _ true at g _ f _ found = of 73 I refl at found
    by false _ false _ false _ false _ true at f _ found = of 71 G refl at found
    by false _ false _ false _ false _ false _ true at found = of 70 F refl at found
    by false _ false _ false _ false _ false _ false _ found = absurd (cc)

trees_again : (items : List Item) (due : ℕ) (rest : List ℕ) → AreTrees due items → trees due (letters items ++ rest) ≡ Ok (items, rest)
unfolding trees
trees_again [] zero rest are = refl
trees_again [] (suc due) rest are = absurd are
trees_again (i ∷ items) zero rest are = absurd (cc)
trees_again (i ∷ items) (suc due) rest are =
    ap (with_item (length (letter i ∷ letters items ++ rest)) (λ i. trees (due_after i due) (letters items ++ rest))) (item_again i)
    ∙ ap (λ r. r >>= λ x. Ok (i ∷ x.0, x.1)) (trees_again items (due_after i due) rest are)

-- the trees that were read
record AreRead (due : ℕ) (xs : List ℕ) (items : List Item) (rest : List ℕ) : Type 0 where
  splits : xs ≡ letters items ++ rest
  are : AreTrees due items

trees_sound : (xs : List ℕ) (due : ℕ) (items : List Item) (rest : List ℕ) → trees due xs ≡ Ok (items, rest) → AreRead due xs items rest
unfolding trees
trees_sound xs zero items rest e =
    let both : ([], xs) ≡ (items, rest) = cc in
    let none : [] ≡ items = ap (λ (x : List Item × List ℕ). x.0) both in
    record { splits = ap (λ (x : List Item × List ℕ). x.1) both ∙ ap (λ v. letters v ++ rest) none; are = sym none }
trees_sound [] (suc due) items rest e = absurd (cc)
trees_sound (x ∷ xs) (suc due) items rest e = by (λ i. trees_sound xs (due_after i due)) (item_of x) refl e
  where
    found : (i : Item) → item_of x ≡ Some i → (r : Read (List Item))
        → ((others : List Item) (rest : List ℕ) → r ≡ Ok (others, rest) → AreRead (due_after i due) xs others rest)
        → view (λ others. i ∷ others) r ≡ Ok (items, rest) → AreRead (suc due) (x ∷ xs) items rest
    found i is (Err s) read e = absurd (cc)
    found i is (Ok (others, after)) read e =
        let both : (i ∷ others, after) ≡ (items, rest) = cc in
        let o = read others after refl in
        let parts : AreRead (suc due) (x ∷ xs) (i ∷ others) after = record { splits = λ k. letter_again x i is k ∷ o.splits k; are = o.are } in
        subst (λ (v : List Item × List ℕ). AreRead (suc due) (x ∷ xs) v.0 v.1) both parts

    by : ((i : Item) (others : List Item) (rest : List ℕ) → trees (due_after i due) xs ≡ Ok (others, rest)
        → AreRead (due_after i due) xs others rest) → (o : Option Item) → item_of x ≡ o
        → with_item (length (x ∷ xs)) (λ i. trees (due_after i due) xs) o ≡ Ok (items, rest)
        → AreRead (suc due) (x ∷ xs) items rest
    by read None is e = absurd (cc)
    by read (Some i) is e = found i is (trees (due_after i due) xs) (read i) e

-- where trees stop: with leaves for the trees that are due they are complete
record AreOpen (due : ℕ) (xs : List ℕ) (s : Stop BehindTree) : Type 0 where
  items : List Item
  rest : List ℕ
  leaves : ℕ
  splits : xs ≡ letters items ++ rest
  is_stop : s ≡ stop (length rest)
  few : leaves ≤ due + length items
  goes_on : AreTrees due (items ++ replicate leaves F)
  here : (b : ℕ) (tail other : List ℕ) → rest ≡ b ∷ tail → trees due (letters items ++ b ∷ other) ≡ Err (stop (length (b ∷ other)))

trees_stop : (xs : List ℕ) (due : ℕ) (s : Stop BehindTree) → trees due xs ≡ Err s → AreOpen due xs s
unfolding trees
trees_stop xs zero s e = absurd (cc)
trees_stop [] (suc due) s e = record {
  items = [];
  rest = [];
  leaves = suc due;
  splits = refl;
  is_stop = cc;
  few = omega arith;
  goes_on = leaves_are F tt (suc due);
  here = λ b tail other at. absurd (cc);
}
trees_stop (x ∷ xs) (suc due) s e = by (λ i. trees_stop xs (due_after i due)) (item_of x) refl e
  where
    found : (i : Item) → item_of x ≡ Some i → (r : Read (List Item))
        → ((t : Stop BehindTree) → r ≡ Err t → AreOpen (due_after i due) xs t)
        → view (λ others. i ∷ others) r ≡ Err s → AreOpen (suc due) (x ∷ xs) s
    found i is (Ok y) read e = absurd (cc)
    found i is (Err t) read e =
        let o = read t refl in
        let same : t ≡ s = cc in
        record {
          items = i ∷ o.items;
          rest = o.rest;
          leaves = o.leaves;
          splits = λ k. letter_again x i is k ∷ o.splits k;
          is_stop = sym same ∙ o.is_stop;
          few = omega (arith, o.few, due_few i due);
          goes_on = o.goes_on;
          here = λ b tail other at.
              ap (with_item (length (letter i ∷ letters o.items ++ b ∷ other)) (λ i. trees (due_after i due) (letters o.items ++ b ∷ other))) (item_again i)
              ∙ ap (λ r. r >>= λ x. Ok (i ∷ x.0, x.1)) (o.here b tail other at);
        }

    by : ((i : Item) (t : Stop BehindTree) → trees (due_after i due) xs ≡ Err t → AreOpen (due_after i due) xs t)
        → (o : Option Item) → item_of x ≡ o → with_item (length (x ∷ xs)) (λ i. trees (due_after i due) xs) o
        ≡ Err s → AreOpen (suc due) (x ∷ xs) s
    by read (Some i) is e = found i is (trees (due_after i due) xs) (read i) e
    by read None is e = record {
      items = [];
      rest = x ∷ xs;
      leaves = suc due;
      splits = refl;
      is_stop = cc;
      few = omega arith;
      goes_on = leaves_are F tt (suc due);
      here = λ b tail other at.
          let same : x ≡ b = cc in
          ap (with_item (length (b ∷ other)) (λ i. trees (due_after i due) other)) (ap item_of (sym same) ∙ is);
    }

-- ---- one tree

abbrev pub AreLetters : List ℕ → List Item → Type 0
AreLetters ys items = IsLog items × (ys ≡ letters items)

length-letters : (items : List Item) (rest : List ℕ) → length items ≤ length (letters items ++ rest)
length-letters items rest = omega (arith, length-append (letters items) rest, length-map items letter)

stops : (n : ℕ) (xs : List ℕ) (s : Stop BehindTree) → length xs ≤ most → AreOpen 1 xs s → IsStop n (trees 1) (Plainly AreLetters) xs s
stops n xs s short o =
    let all = o.items ++ replicate o.leaves F in
    let count : length all ≡ length o.items + o.leaves = length-append o.items (replicate o.leaves F)
    ∙ ap (λ k. length o.items + k) (length-replicate o.leaves F) in
    let few : length all < 2 ^ 32 = omega (arith, short, ap length o.splits, length-letters o.items o.rest, count, o.few) in
    plain_stop (letters o.items) o.rest (letters (replicate o.leaves F)) all xs s o.splits o.is_stop
    (record { is_tree = is_tree all o.goes_on; few = few }, sym (map-append letter o.items (replicate o.leaves F))) o.here

pub tree_exact : (n : ℕ) → IsExact NotDue most n (trees 1) (Plainly AreLetters)
tree_exact n =
    plain_exact (λ ys items rest l. ap (λ v. trees 1 (v ++ rest)) l.1 ∙ trees_again items 1 rest (are_trees items l.0.is_tree))
    (λ xs items rest short read.
    let o = trees_sound xs 1 items rest read in
    let few : length items < 2 ^ 32 = omega (arith, short, ap length o.splits, length-letters items rest) in
    (letters items, o.splits, (record { is_tree = is_tree items o.are; few = few }, refl)))
    (λ xs s short read. stops n xs s short (trees_stop xs 1 s read))

-- ---- a loop over letters

-- what is read behind these items
abbrev pub behind_items : List Item → Read (List Item) → Read (List Item)
behind_items items r = with_front items r

items_first : (items : List Item) (i : Item) (r : Read (List Item)) → behind_items items (view (λ others. i ∷ others) r) ≡ behind_items (items ++ i ∷ []) r
items_first items i (Ok x) = ap (λ (v : List Item). Ok (v, x.1)) (sym (append_assoc items (i ∷ []) x.0))
items_first items i (Err s) = refl

trees_step : (due : ℕ) (xs : List ℕ) → 0 < due → trees due xs ≡ (item xs >>= λ i. view (λ others. i.0 ∷ others) (trees (due_after i.0 (due - 1)) i.1))
unfolding trees
trees_step zero xs some = absurd (omega (arith, some))
trees_step (suc due) [] some = refl
trees_step (suc due) (x ∷ xs) some =
    let one : suc due - 1 ≡ due = omega arith in
    by (item_of x) ∙ ap (λ k. found_before (length (x ∷ xs)) xs (item_of x) >>= λ i. view (λ others. i.0 ∷ others) (trees (due_after i.0 k) i.1)) (sym one)
  where
    by : (o : Option Item) → with_item (length (x ∷ xs)) (λ i. trees (due_after i due) xs) o
        ≡ (found_before (length (x ∷ xs)) xs o >>= λ i. view (λ others. i.0 ∷ others)
        (trees (due_after i.0 due) i.1))
    by None = refl
    by (Some i) = refl

pub next_item : (items : List Item) (due : ℕ) (xs after : List ℕ) (i : Item) → 0 < due → item xs ≡ Ok (i, after)
    → behind_items items (trees due xs) ≡ behind_items (items ++ i ∷ []) (trees (due_after i (due - 1)) after)
next_item items due xs after i some e =
    ap (behind_items items) (trees_step due xs some ∙ ap (λ r. r >>= λ i. view (λ others. i.0 ∷ others) (trees (due_after i.0 (due - 1)) i.1)) e)
    ∙ items_first items i (trees (due_after i (due - 1)) after)

pub item_fails : (e : Failure) (items : List Item) (due : ℕ) (xs : List ℕ) → 0 < due → Fails e (item xs) → Fails e (behind_items items (trees due xs))
item_fails failure.NoMemory items due xs some fails = tt
item_fails (failure.Stopped s) items due xs some fails =
    ap (behind_items items) (trees_step due xs some ∙ ap (λ r. r >>= λ i. view (λ others. i.0 ∷ others) (trees (due_after i.0 (due - 1)) i.1)) fails)

pub no_tree_due : (items : List Item) (due : ℕ) (xs : List ℕ) → due ≡ 0 → behind_items items (trees due xs) ≡ Ok (items, xs)
unfolding trees
no_tree_due items due xs none = ap (λ n. behind_items items (trees n xs)) none ∙ ap (λ (v : List Item). Ok (v, xs)) (append-nil items)

-- the first item to be read
pub none_before : (r : Read (List Item)) → behind_items [] r ≡ r
none_before (Ok x) = refl
none_before (Err s) = refl

found_length : (left : ℕ) (o : Option Item) (xs : List ℕ) (i : Item) (after : List ℕ)
    → found_before {K = BehindTree} left xs o ≡ Ok (i, after) → length after ≡ length xs
found_length left None xs i after e = absurd (cc)
found_length left (Some j) xs i after e = let pair : ◌≡◌ {A = Item × List ℕ} (j, xs) (i, after) = cc in ap (λ (p : Item × List ℕ). length p.1) (sym pair)

pub item_length : (xs after : List ℕ) (i : Item) → item xs ≡ Ok (i, after) → length xs ≡ suc (length after)
item_length [] after i e = absurd (cc)
item_length (x ∷ xs) after i e = ap suc (sym (found_length (length (x ∷ xs)) (item_of x) xs i after e))

pub due_most : (i : Item) (due : ℕ) → 0 < due → due_after i (due - 1) ≤ due + 1
due_most i due some = omega (arith, some, due_few i (due - 1))

-- one tree that was read, of few bytes, is a log
pub tree_log : (xs rest : List ℕ) (items : List Item) → length xs ≤ most → trees 1 xs ≡ Ok (items, rest) → IsLog items
tree_log xs rest items few e =
    let o = trees_sound xs 1 items rest e in
    record { is_tree = is_tree items o.are; few = omega (arith, few, ap length o.splits, length-letters items rest) }
