-- A list of items is one tree at most, in one way.
use Rattle.std.proofs.Common.{◌≡◌, List, [], ◌∷◌, ◌++◌, true, false, append_assoc, refl, sym, ap, ◌∙◌, subst}
use Rattle.ci_log.specs.declared.log.Item.{Item}
use Rattle.ci_log.specs.declared.log.Item.TheVariants.{B}
use Rattle.ci_log.specs.Trees.{IsLeaf, IsTree, leaf, branch}
use Rattle.ci_cut.specs.Prefixes.{Prefix}
use Rattle.ci_check.specs.Rules.{stations}

-- two trees at the front of one list have the same stations, and the same items behind them
record AreOne {one other : List Item} (first : IsTree one) (second : IsTree other) (rest behind : List Item) : Type 0 where
  same_rest : rest ≡ behind
  same_stations : (prefix : Prefix) → stations first prefix ≡ stations second prefix

one_tree : {one : List Item} (first : IsTree one) {other : List Item} (second : IsTree other)
    (rest behind : List Item) → one ++ rest ≡ other ++ behind → AreOne first second rest behind
one_tree (leaf {item = a} is) (leaf {item = b} is') rest behind same =
    let item : a ≡ b = (cc) in
    record { same_rest = (cc); same_stations = λ prefix. ap (λ i. record { prefix = prefix; item = i } ∷ []) item }
one_tree (leaf {item = a} is) (branch second_in second_out) rest behind same =
    let item : a ≡ B = (cc) in
    absurd (subst IsLeaf item is)
one_tree (branch first_in first_out) (leaf {item = b} is) rest behind same =
    let item : b ≡ B = (cc) in
    absurd (subst IsLeaf item is)
one_tree (branch {taken = a} {left_out = b} first_in first_out) (branch {taken = a'} {left_out = b'} second_in second_out) rest behind same =
    let tails : (a ++ b) ++ rest ≡ (a' ++ b') ++ behind = (cc) in
    let left = one_tree first_in second_in (b ++ rest) (b' ++ behind) (sym (append_assoc a b rest) ∙ tails ∙ append_assoc a' b' behind) in
    let right = one_tree first_out second_out rest behind left.same_rest in
    record {
      same_rest = right.same_rest;
      same_stations = λ prefix. λ i. record { prefix = prefix; item = B } ∷ (left.same_stations (true ∷ prefix) i ++ right.same_stations (false ∷ prefix) i);
    }

pub one_reading : (items : List Item) (first second : IsTree items) (prefix : Prefix) → stations first prefix ≡ stations second prefix
one_reading items first second = (one_tree first second [] [] refl).same_stations
