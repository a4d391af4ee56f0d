-- Half bytes that are written one after the other.
use Rattle.std.proofs.Common.{◌≡◌, ℕ, suc, ◌+◌, ◌-◌, ◌<◌, ◌≤◌, true, false, cond, List, [], ◌∷◌, ◌++◌, length, take, get_or, replicate, refl, sym, ap, ◌∙◌, subst, arith, append_assoc, append-nil, Option}
use Rattle.std.proofs.lemmas.List.{replicate_more, take_all, take_more}
use Rattle.ci_log.specs.declared.log.Item.{Item}
use Rattle.ci_log.specs.declared.log.Item.TheVariants.{B}
use Rattle.ci_log.specs.declared.packing.Waiting.{Waiting}
use Rattle.ci_log.specs.Packed.{half_byte, are_equal_leaves, last_leaves, more_leaves, filled, packed}
use Rattle.ci_log.specs.private.PackedReading.{halves_behind}
use Rattle.ci_log.specs.private.Packing.{filled_behind, GoesOn, nothing, bytes_with, Writes}
use Rattle.ci_log.proofs.PackedHalves.{from_start}

-- nothing was written
pub goes_on_from : (bytes : List ℕ) (high : Option ℕ) → GoesOn bytes high [] bytes high
unfolding GoesOn
goes_on_from bytes high halves = refl

pub goes_on_then : (a b c : List ℕ) (h k m : Option ℕ) (one two : List ℕ) → GoesOn a h one b k → GoesOn b k two c m → GoesOn a h (one ++ two) c m
unfolding GoesOn
goes_on_then a b c h k m one two first second halves =
    second halves ∙ (first (two ++ halves) ∙ ap (λ v. a ++ filled_behind h v) (sym (append_assoc one two halves)))

pub next_ten : (a b c : List ℕ) (h k m : Option ℕ) (count : ℕ) → GoesOn a h (replicate count 15) b k → GoesOn b k (15 ∷ []) c m
    → GoesOn a h (replicate (count + 1) 15) c m
next_ten a b c h k m count first second =
    subst (λ v. GoesOn a h v c m) (replicate_more count 15) (goes_on_then a b c h k m (replicate count 15) (15 ∷ []) first second)

-- so many tens, by the counter of a loop
pub tens_written : (a b : List ℕ) (h k : Option ℕ) (tens count : ℕ) → GoesOn a h (replicate count 15) b k → count ≤ tens → tens ≤ count
    → GoesOn a h (replicate tens 15) b k
tens_written a b h k tens count written low high =
    let same : count ≡ tens = omega (arith, low, high) in subst (λ n. GoesOn a h (replicate n 15) b k) same written

-- the last leaves of a run
pub no_leaves : (a : List ℕ) (h : Option ℕ) (leaves : ℕ) → leaves ≡ 0 → GoesOn a h (last_leaves leaves) a h
no_leaves a h leaves none = subst (λ n. GoesOn a h (last_leaves n) a h) (sym none) (goes_on_from a h)

pub leaves_written : (a b : List ℕ) (h k : Option ℕ) (leaves : ℕ) → 0 < leaves → GoesOn a h ((5 + leaves) ∷ []) b k → GoesOn a h (last_leaves leaves) b k
leaves_written a b h k leaves some written =
    let one : leaves ≡ suc (leaves - 1) = omega (arith, some) in
    let few : last_leaves leaves ≡ (5 + leaves) ∷ [] = ap last_leaves one ∙ ap (λ k. (5 + k) ∷ []) (sym one) in
    subst (λ v. GoesOn a h v b k) (sym few) written

pub half_written : (a b : List ℕ) (h k : Option ℕ) (half due : ℕ) → half ≡ due → GoesOn a h (half ∷ []) b k → GoesOn a h (due ∷ []) b k
half_written a b h k half due same written = subst (λ v. GoesOn a h (v ∷ []) b k) same written

-- an item behind a leaf alone
pub no_more_written : (a b : List ℕ) (h k : Option ℕ) (more half due : ℕ) → more ≡ 0 → half ≡ due → GoesOn a h (half ∷ []) b k
    → GoesOn a h (more_leaves more ++ due ∷ []) b k
no_more_written a b h k more half due none same written =
    subst (λ n. GoesOn a h (more_leaves n ++ due ∷ []) b k) (sym none) (half_written a b h k half due same written)

-- ---- items

pub writes_nothing : (bytes : List ℕ) (waiting : Waiting) → Writes bytes waiting [] bytes waiting
unfolding Writes
writes_nothing bytes waiting others = refl

pub writes_then : (a b c : List ℕ) (u v w : Waiting) (one two : List Item) → Writes a u one b v → Writes b v two c w → Writes a u (one ++ two) c w
unfolding Writes
writes_then a b c u v w one two first second others =
    second others ∙ (first (two ++ others) ∙ ap (bytes_with a u) (sym (append_assoc one two others)))

-- one leaf more of a run
pub writes_more : (bytes : List ℕ) (w : Waiting) (item : Item) → are_equal_leaves w.last item ≡ true
    → Writes bytes w (item ∷ []) bytes (record { high = w.high; last = w.last; more = w.more + 1 })
unfolding Writes
writes_more bytes w item same others =
    let next : w.more + 1 ≡ suc w.more = omega arith in
    ap (λ k. bytes ++ filled_behind w.high (halves_behind w.last k others)) next
    ∙ sym (ap (λ b. bytes ++ filled_behind w.high (cond b (halves_behind w.last (suc w.more) others) (more_leaves w.more ++ half_byte item ∷ halves_behind item 0 others))) same)

-- an item behind a run
pub writes_next : (bytes new : List ℕ) (w : Waiting) (item : Item) (high : Option ℕ) → are_equal_leaves w.last item ≡ false
    → GoesOn bytes w.high (more_leaves w.more ++ half_byte item ∷ []) new high
    → Writes bytes w (item ∷ []) new (record { high = high; last = item; more = 0 })
unfolding Writes GoesOn
writes_next bytes new w item high apart goes others =
    goes (halves_behind item 0 others)
    ∙ (ap (λ v. bytes ++ filled_behind w.high v) (append_assoc (more_leaves w.more) (half_byte item ∷ []) (halves_behind item 0 others))
    ∙ sym (ap (λ b. bytes ++ filled_behind w.high (cond b (halves_behind w.last (suc w.more) others) (more_leaves w.more ++ half_byte item ∷ halves_behind item 0 others))) apart))

-- one item more, in a loop over items
pub next_item_written : (a b c : List ℕ) (u v w : Waiting) (items : List Item) (i : ℕ) (item other : Item) → i < length items
    → item ≡ get_or items i other → Writes a u (take i items) b v → Writes b v (item ∷ []) c w → Writes a u (take (i + 1) items) c w
next_item_written a b c u v w items i item other below is first second =
    subst (λ xs. Writes a u xs c w) (sym (take_more items i other below ∙ ap (λ last. take i items ++ last ∷ []) (sym is)))
    (writes_then a b c u v w (take i items) (item ∷ []) first second)

-- so many items, by the counter of a loop
pub items_written : (a b : List ℕ) (u v : Waiting) (items : List Item) (count : ℕ) → Writes a u (take count items) b v → length items ≤ count → Writes a u items b v
items_written a b u v items count written all = subst (λ xs. Writes a u xs b v) (take_all count items all) written

-- all items, what waits, and the filling half
pub all_written : (a b c : List ℕ) (w : Waiting) (high : Option ℕ) (items : List Item) → Writes a nothing items b w
    → GoesOn b w.high (more_leaves w.more) c high → c ++ filled_behind high [] ≡ a ++ packed items
unfolding Writes GoesOn
all_written a b c w high items items_are goes =
    goes [] ∙ (ap (λ v. b ++ filled_behind w.high v) (append-nil (more_leaves w.more))
    ∙ (items_are [] ∙ ap (λ v. a ++ filled v) (ap (halves_behind B 0) (append-nil items) ∙ from_start items)))
