-- A walk over the items of a tree, and what it tells of them.
use Rattle.std.proofs.Common.{◌≡◌, ℕ, suc, ◌+◌, ◌<◌, ◌≤◌, Bool, true, false, List, [], ◌∷◌, ◌++◌, length}
use Rattle.std.proofs.Common.{length-append, length-drop, append_assoc, drop, get_or, Result, Ok, Err, refl, sym}
use Rattle.std.proofs.Common.{ap, ◌∙◌, subst, arith}
use Rattle.std.proofs.lemmas.List.{drop_more, drop-drop, drop_at}
use Rattle.std.specs.List.{AllByRecursion}
use Rattle.ci_cut.specs.FirstWrong.{IsFirstWrongIn}
use Rattle.ci_cut.proofs.FirstWrongLaws as first_wrong
use Rattle.ci_cut.proofs.FirstWrongLaws.{all_both}
use Rattle.ci_area.specs.declared.checking.AreaWrong.{AreaWrong}
use Rattle.ci_area.specs.declared.log.AreaItem.{AreaItem}
use Rattle.ci_area.specs.declared.log.AreaItem.TheVariants.{B}
use Rattle.ci_area.specs.declared.piece.Piece.{Piece}
use Rattle.ci_area.specs.AreaPrefixes.{Prefix}
use Rattle.ci_area.specs.AreaRules.{IsRight, reason_of, Station, stations, reason_at, IsRightAt}
use Rattle.ci_area.specs.AreaTrees.{IsLeaf, IsTree, leaf, branch}
use Rattle.ci_area.specs.Representation.{IsTreeAt}
use Rattle.ci_area.specs.private.Judged.{IsJudged}

-- ---- trees in a list of items

tree_nonempty : {items : List AreaItem} → IsTree items → 1 ≤ length items
tree_nonempty (leaf is) = omega arith
tree_nonempty (branch first second) = omega arith

pub length-stations : {items : List AreaItem} (tree : IsTree items) (prefix : Prefix) → length (stations tree prefix) ≡ length items
length-stations (leaf is) prefix = refl
length-stations (branch {taken = in_items} {left_out = out_items} first second) prefix =
    ap suc (length-append (stations first (true ∷ prefix)) (stations second (false ∷ prefix))
    ∙ (λ i. length-stations first (true ∷ prefix) i + length-stations second (false ∷ prefix) i)
    ∙ sym (length-append in_items out_items))

pub tree_within : (items : List AreaItem) (place : ℕ) → IsTreeAt items place → place < length items
tree_within items place at_place =
    let parts = sym (length-drop place items) ∙ ap length at_place.is_split ∙ length-append at_place.one at_place.rest in
    omega (arith, parts, tree_nonempty at_place.tree)

-- the item at a place, and the items behind it
pub first_item : (items one rest : List AreaItem) (place : ℕ) → place < length items → drop place items ≡ one ++ rest
    → get_or items place B ∷ drop (place + 1) items ≡ one ++ rest
first_item items one rest place within is = sym (drop_more items place B within) ∙ is

-- the trees below a branch
pub record SubTrees {one : List AreaItem} (tree : IsTree one) (prefix : Prefix) (tail rest : List AreaItem) : Type 0 where
  pub first : List AreaItem
  pub second : List AreaItem
  pub first_tree : IsTree first
  pub second_tree : IsTree second
  pub is_tail : tail ≡ first ++ (second ++ rest)
  pub are_stations : stations tree prefix ≡
      (record { prefix = prefix; item = B } ∷ (stations first_tree (true ∷ prefix)
      ++ stations second_tree (false ∷ prefix)))

pub sub_trees : {one : List AreaItem} (tree : IsTree one) (prefix : Prefix) (item : AreaItem) (tail rest : List AreaItem)
    → item ∷ tail ≡ one ++ rest → item ≡ B → SubTrees tree prefix tail rest
sub_trees (leaf {item = here} is) prefix item tail rest splits branches =
    let same : here ≡ B = (cc) in
    absurd (subst IsLeaf same is)
sub_trees (branch {taken = first} {left_out = second} first_tree second_tree) prefix item tail rest splits branches =
    let behind : tail ≡ (first ++ second) ++ rest = (cc) in
    record {
      first = first;
      second = second;
      first_tree = first_tree;
      second_tree = second_tree;
      is_tail = behind
          ∙ append_assoc first second rest;
      are_stations = refl;
    }

-- where the first tree below a branch ends, the second begins
pub behind_first : (items rest : List AreaItem) (start end : ℕ) {one : List AreaItem} {tree : IsTree one} {prefix : Prefix}
    (parts : SubTrees tree prefix (drop start items) rest)
    → end ≡ start + length (stations parts.first_tree (true ∷ prefix)) → drop end items ≡ parts.second ++ rest
behind_first items rest start end {prefix = prefix} parts ends =
    let at_end : end ≡ start + length parts.first = omega (arith, ends, length-stations parts.first_tree (true ∷ prefix)) in
    ap (λ k. drop k items) at_end
    ∙ sym (drop-drop (length parts.first) start items)
    ∙ ap (drop (length parts.first)) parts.is_tail
    ∙ drop_at parts.first (parts.second ++ rest) (length parts.first) refl

-- ---- right and wrong items

module _ (pieces : List Piece) (limit : ℕ) (best : ℕ → Bool) where
  -- the first item is wrong
  wrong_at : (prefix : Prefix) (item here : AreaItem) (behind : List Station) → item ≡ here → ¬ IsRight pieces limit best prefix item
      → IsFirstWrongIn (IsRightAt pieces limit best) reason_at (record { prefix = prefix; item = here } ∷ behind) 0 (reason_of item)
  wrong_at prefix item here behind same wrong =
      subst (λ (i : AreaItem). IsFirstWrongIn (IsRightAt pieces limit best) reason_at (record { prefix = prefix; item = i } ∷ behind) 0 (reason_of item)) same
      (first_wrong.wrong_here (IsRightAt pieces limit best) reason_at (record { prefix = prefix; item = item }) behind wrong)

  pub wrong_here : {one : List AreaItem} (tree : IsTree one) (prefix : Prefix) (item : AreaItem) (tail rest : List AreaItem)
      → item ∷ tail ≡ one ++ rest → ¬ IsRight pieces limit best prefix item
      → IsFirstWrongIn (IsRightAt pieces limit best) reason_at (stations tree prefix) 0 (reason_of item)
  wrong_here (leaf {item = here} is) prefix item tail rest splits wrong =
      let same : item ≡ here = (cc) in
      wrong_at prefix item here [] same wrong
  wrong_here (branch first second) prefix item tail rest splits wrong =
      let same : item ≡ B = (cc) in
      wrong_at prefix item B (stations first (true ∷ prefix) ++ stations second (false ∷ prefix)) same wrong

  -- the first item is right, and no branch
  pub right_alone : {one : List AreaItem} (tree : IsTree one) (prefix : Prefix) (item : AreaItem) (tail rest : List AreaItem)
      → item ∷ tail ≡ one ++ rest → IsRight pieces limit best prefix item → ¬ (item ≡ B)
      → AllByRecursion (IsRightAt pieces limit best) (stations tree prefix) × (length (stations tree prefix) ≡ 1)
  right_alone (leaf {item = here} is) prefix item tail rest splits right alone =
      let same : item ≡ here = (cc) in
      ((subst (λ i. IsRight pieces limit best prefix i) same right, tt), refl)
  right_alone (branch first second) prefix item tail rest splits right alone =
      let same : item ≡ B = (cc) in
      absurd (alone same)

  module _ {one : List AreaItem} (tree : IsTree one) (prefix : Prefix) (tail rest : List AreaItem)
      (parts : SubTrees tree prefix tail rest) (right : IsRight pieces limit best prefix B) (place : ℕ) where
    pub judged_by_first : (wrong : AreaWrong) → IsJudged pieces limit best (stations parts.first_tree (true ∷ prefix))
        (place + 1) (Err wrong) → IsJudged pieces limit best (stations tree prefix) place (Err wrong)
    judged_by_first wrong (number, is, item) =
        let first = stations parts.first_tree (true ∷ prefix) in
        let second = stations parts.second_tree (false ∷ prefix) in
        rw parts.are_stations (
          suc number,
          first_wrong.wrong_later (IsRightAt pieces limit best) reason_at (record { prefix = prefix; item = B })
              (first ++ second) number wrong.reason right
              (first_wrong.wrong_left (IsRightAt pieces limit best) reason_at first second number wrong.reason is),
          omega arith,
        )

    pub judged_by_second : (end : ℕ) (result : Result ℕ AreaWrong)
        → IsJudged pieces limit best (stations parts.first_tree (true ∷ prefix)) (place + 1) (Ok end)
        → IsJudged pieces limit best (stations parts.second_tree (false ∷ prefix)) end result
        → IsJudged pieces limit best (stations tree prefix) place result
    judged_by_second end (Ok last) (all, ends) (all_second, last_is) =
        let first = stations parts.first_tree (true ∷ prefix) in
        let second = stations parts.second_tree (false ∷ prefix) in
        rw parts.are_stations ((right, all_both (IsRightAt pieces limit best) first second all all_second), omega (arith, length-append first second))
    judged_by_second end (Err wrong) (all, ends) (number, is, item) =
        let first = stations parts.first_tree (true ∷ prefix) in
        let second = stations parts.second_tree (false ∷ prefix) in
        rw parts.are_stations (
          suc (length first + number),
          first_wrong.wrong_later (IsRightAt pieces limit best) reason_at (record { prefix = prefix; item = B })
              (first ++ second) (length first + number) wrong.reason right
              (first_wrong.wrong_right (IsRightAt pieces limit best) reason_at first second number wrong.reason all is),
          omega arith,
        )
