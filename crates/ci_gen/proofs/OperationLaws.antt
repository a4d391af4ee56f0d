-- Groups of operations, one behind the other.
use Rattle.std.proofs.Common.{◌≡◌, ℕ, zero, suc, ◌+◌, ◌*◌, List, [], ◌∷◌, ◌++◌, map, length, refl, sym, ap, subst}
use Rattle.std.proofs.Common.{◌∙◌, append-nil, arith}
use Rattle.std.specs.List.{flat_map, range_with_len}
use Rattle.std.proofs.lemmas.List.{length-append, map-id}
use Rattle.std.proofs.lemmas.List.FromFn.{length-map-range_with_len, map-range_with_len_more}
use Rattle.std.proofs.lemmas.Grind.{flat_map-append}
use Rattle.ci_isa.specs.declared.instruction.Insn.{Insn}
use Rattle.ci_gen.specs.Texts.{ending, group, groups, next_word, operation, text_of}

-- ---- one more

-- one number more
range_more : (count : ℕ) → range_with_len 0 (count + 1) ≡ range_with_len 0 count ++ count ∷ []
range_more count =
    sym (map-id (range_with_len 0 (count + 1)))
    ∙ (map-range_with_len_more (λ n. n) 0 count count (omega arith)
    ∙ ap (λ (ns : List ℕ). ns ++ count ∷ []) (map-id (range_with_len 0 count)))

-- one group more
pub groups-more : (seed count : ℕ) → groups seed (count + 1) ≡ groups seed count ++ group seed count
unfolding groups
groups-more seed count =
    ap (flat_map (group seed)) (range_more count)
    ∙ (flat_map-append (group seed) (range_with_len 0 count) (count ∷ [])
    ∙ ap (λ (last : List Insn). flat_map (group seed) (range_with_len 0 count) ++ last) (append-nil (group seed count)))

-- no groups
pub groups-none : (seed : ℕ) → groups seed 0 ≡ []
unfolding groups
groups-none seed = refl

-- the first operations of group n
abbrev pub operations : (seed n count : ℕ) → List Insn
operations seed n count = map (operation seed) (range_with_len (8 * n) count)

-- one operation more
pub operations-more : (seed n count : ℕ) → operations seed n (count + 1) ≡ operations seed n count ++ operation seed (8 * n + count) ∷ []
operations-more seed n count = map-range_with_len_more (operation seed) (8 * n) count (8 * n + count) refl

-- eight operations and a jump are a group
pub group-whole : (seed n : ℕ) → operations seed n 8 ++ next_word ∷ [] ≡ group seed n
unfolding group
group-whole seed n = refl

-- ---- how many

-- of a group
length-group : (seed n : ℕ) → length (group seed n) ≡ 9
length-group seed n =
    ap length (sym (group-whole seed n))
    ∙ (length-append (operations seed n 8) (next_word ∷ [])
    ∙ ap (λ (k : ℕ). k + 1) (length-map-range_with_len (operation seed) (8 * n) 8))

-- of one group more
length-more : (seed count : ℕ) → length (groups seed count) ≡ 9 * count → length (groups seed (count + 1)) ≡ 9 * (count + 1)
length-more seed count here =
    let both = ap length (groups-more seed count) ∙ length-append (groups seed count) (group seed count) in
    let last = length-group seed count in
    omega arith

-- of the first groups
pub length-groups : (seed count : ℕ) → length (groups seed count) ≡ 9 * count
length-groups seed zero = ap length (groups-none seed)
length-groups seed (suc count) =
    let next : suc count ≡ count + 1 = omega arith in
    subst (λ (n : ℕ). length (groups seed n) ≡ 9 * n) (sym next) (length-more seed count (length-groups seed count))

-- of the ending
length-ending : length ending ≡ 10
unfolding ending
length-ending = refl

-- the text has this many words
pub length-text : (seed : ℕ) → length (text_of seed) ≡ 16210
length-text seed =
    let all = length-append (groups seed 1800) ending in
    let first = length-groups seed 1800 in
    let last = length-ending in
    omega arith
