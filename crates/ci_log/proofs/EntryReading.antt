-- Reading an entry, or the finish, is exact.
use Rattle.std.proofs.Common.{◌≡◌, ℕ, suc, ◌^◌, ◌<◌, ◌≤◌, inl, inr, Bool, true, false, eqb, lit≤, lit<, List, ◌∷◌, ◌++◌}
use Rattle.std.proofs.Common.{length, length-append, refl, sym, ap, ◌∙◌, subst, arith, zero-le, Option, Some, None, Ok}
use Rattle.std.specs.Prelude.{codes}
use Rattle.std.specs.Fmt.{decimal}
use Rattle.std.specs.Ordering.{nat_cmp}
use Rattle.std.specs.FinSet as set
use Rattle.ci_reading.specs.Hex.{eight_hex_digits}
use Rattle.ci_reading.specs.Lines.{line}
use Rattle.ci_reading.specs.LineReading.{word}
use Rattle.ci_reading.specs.Fields.{address, number}
use Rattle.ci_reading.proofs.Languages.{Plainly, joined, mapped, IsFirst, first_on, Begins, begins_either}
use Rattle.ci_reading.proofs.Exact.{IsExact, along, also, none_longer}
use Rattle.ci_reading.proofs.WordReading.{is_word, word_sound}
use Rattle.ci_reading.proofs.AddressReading.{IsAddress, address_exact}
use Rattle.ci_reading.proofs.NumberReading.{number_read}
use Rattle.ci_reading.proofs.Readers.{Reader, PlainReader, any, part, part_before, shown, shown_any, choice, a_word}
use Rattle.ci_reading.proofs.Readers.{behind, behind_any, begins_as, by_first, an_address, a_number_alone}
use Rattle.ci_word.specs.Members.{members_text}
use Rattle.ci_log.specs.declared.log.Item.{Item}
use Rattle.ci_log.specs.declared.book.Entry.{Entry}
use Rattle.ci_log.specs.declared.book.Entry.TheVariants.{Best, Without, Spent, Take}
use Rattle.ci_log.specs.declared.book.Finish.{Finish}
use Rattle.ci_log.specs.declared.book.Finish.TheVariants.{Empty, Count}
use Rattle.ci_log.specs.declared.book.Version.{Version}
use Rattle.ci_log.specs.declared.book.Version.TheVariants.{One, Two}
use Rattle.ci_log.specs.Books.{IsEntry, IsSearch, log_text, entry_text, finish_text, first_line}
use Rattle.ci_log.specs.Faults.{HasTree}
use Rattle.ci_log.specs.private.Reading.{BehindTree, nodes, set_of}
use Rattle.ci_log.specs.private.BookReading.{best, without, budgets, spent, search, units, take, finish, header}
use Rattle.ci_log.proofs.Ends.{NotDue, most, ended, ended_behind, same_ended}
use Rattle.ci_log.proofs.CutReading.{a_cut, some_cut_text}
use Rattle.ci_log.proofs.LogReading.{a_tree_line}

abbrev pub LogReader : Type 0 → Type 1
LogReader A = Reader ℕ BehindTree A NotDue most

abbrev pub PlainLogReader : Type 0 → Type 1
PlainLogReader A = PlainReader ℕ BehindTree A NotDue most

-- ---- takes

abbrev pub IsTake : Entry → Type 0
IsTake (Best leader cut log) = ⊥
IsTake (Without leader log) = ⊥
IsTake (Spent leader budget) = ⊥
IsTake (Take leader unit) = Unit {0}

module _ (version : Version) where
  abbrev pub IsTakeText : List ℕ → Entry → Type 0
  IsTakeText ys e = IsTake e × IsEntry e × (ys ≡ entry_text version e)

  abbrev take_parts : PlainLogReader Entry
  take_parts = behind (codes "take ") (part an_address
      (λ leader. behind (codes " unit ") (shown (Take leader) (a_number_alone units zero-le (lit≤ tt) refl refl))))

  to_take : (ys : List ℕ) (e : Entry) → take_parts.Is ys e → IsTakeText ys e
  to_take _ _ (joined _ _ _ _ is_word (joined _ _ leader _ d (joined _ _ _ _ is_word (mapped ns n l)))) =
      (tt, (d.0, omega (arith, l.1)), λ i. codes "take " ++ (d.1 i ++ (codes " unit " ++ l.2 i)))

  from_take : (ys : List ℕ) (e : Entry) → IsTakeText ys e → take_parts.Is ys e
  from_take ys (Best leader cut log) t = absurd t.0
  from_take ys (Without leader log) t = absurd t.0
  from_take ys (Spent leader budget) t = absurd t.0
  from_take ys (Take leader unit) t =
      subst (λ v. take_parts.Is v (Take leader unit)) (sym t.2)
      (joined (codes "take ") _ tt _ is_word (joined (eight_hex_digits leader) _ leader _ (t.1.0, refl)
      (joined (codes " unit ") _ tt _ is_word (mapped (line (decimal unit)) unit (zero-le, omega (arith, t.1.1), refl)))))

  pub take_exact : (n : ℕ) → IsExact NotDue most n take (Plainly IsTakeText)
  unfolding take
  take_exact n = also to_take from_take (take_parts.exact n)

  abbrev pub a_take : PlainLogReader Entry
  a_take = record { read = take; Is = IsTakeText; exact = take_exact; some = (entry_text version (Take 0 0), Take 0 0, (tt, (lit< tt, lit< tt), refl)) }

  pub take_begins : (test : ℕ → Bool) (is : Bool) → IsFirst test is (codes "take ") → (ys : List ℕ) (e : Entry) → IsTakeText ys e → IsFirst test is ys
  take_begins test is first ys e t = by ys e (from_take ys e t)
    where
      by : (ys : List ℕ) (e : Entry) → take_parts.Is ys e → IsFirst test is ys
      by _ _ (joined _ zs _ _ is_word l) = first_on test is (codes "take ") zs first

  -- ---- searches

  -- up to the end of the tree, where there is one
  abbrev pub Reaches : Option BehindTree → Entry → Type 0
  Reaches None e = Unit {0}
  Reaches (Some k) e = HasTree e

  reaches : (far : Option BehindTree) (e : Entry) → HasTree e → Reaches far e
  reaches None e has = tt
  reaches (Some k) e has = has

  abbrev pub IsSearchText : List ℕ → Entry → Option BehindTree → Type 0
  IsSearchText ys e far = IsSearch e × IsEntry e × Reaches far e × (ended far ys ≡ entry_text version e)

  abbrev best_tail : ℕ → LogReader Entry
  best_tail leader = part_before a_cut (λ cut. shown_any (Best leader cut) (a_tree_line version))

  abbrev without_tail : ℕ → LogReader Entry
  without_tail leader = shown_any (Without leader) (a_tree_line version)

  abbrev spent_tail : ℕ → LogReader Entry
  spent_tail leader = any (shown (Spent leader) (a_number_alone budgets zero-le (lit≤ tt) refl refl))

  abbrev none_or_spent : ℕ → LogReader Entry
  none_or_spent leader =
      by_first 110 (codes "none\n") (without_tail leader) (behind_any (codes "spent ") (spent_tail leader)) refl
      (begins_as (λ x. eqb x 110) false (codes "spent ") (spent_tail leader) refl)

  abbrev tail_parts : ℕ → LogReader Entry
  tail_parts leader =
      by_first 98 (codes "best ") (best_tail leader) (none_or_spent leader) refl
      (begins_either (λ x. eqb x 98) false (begins_as (λ x. eqb x 98) false (codes "none\n") (without_tail leader) refl)
      (begins_as (λ x. eqb x 98) false (codes "spent ") (spent_tail leader) refl))

  abbrev leader_parts : LogReader Entry
  leader_parts = part_before an_address (λ leader. behind_any (codes " ") (tail_parts leader))

  abbrev search_parts : LogReader Entry
  search_parts = behind_any (codes "block ") leader_parts

  -- the text up to the blank behind the leader
  abbrev block : List ℕ → List ℕ → List ℕ
  block digits rest = codes "block " ++ (digits ++ (codes " " ++ rest))

  module _ (far : Option BehindTree) (leader : ℕ) (digits : List ℕ) (is : digits ≡ eight_hex_digits leader) where
    best_text : (cut : set.FinSet nat_cmp) (log : List Item) (cs ls : List ℕ)
        → members_text (set.contains cut) ++ codes "\n" ≡ 32 ∷ cs → ended far ls ≡ line (log_text version log)
        → ended far (block digits (codes "best " ++ (cs ++ ls))) ≡ entry_text version (Best leader cut log)
    best_text cut log cs ls c l =
        ap (λ v. ended far (block v (codes "best " ++ (cs ++ ls)))) is
        ∙ (ended_behind far (block (eight_hex_digits leader) (codes "best " ++ cs)) ls
        ∙ (λ i. codes "block " ++ (eight_hex_digits leader ++ (codes " best" ++ (sym c i ++ l i)))))

    without_text : (log : List Item) (ls : List ℕ) → ended far ls ≡ line (log_text version log)
        → ended far (block digits (codes "none\n" ++ ls)) ≡ entry_text version (Without leader log)
    without_text log ls l =
        ap (λ v. ended far (block v (codes "none\n" ++ ls))) is
        ∙ (ended_behind far (block (eight_hex_digits leader) (codes "none\n")) ls ∙ ap (λ v. block (eight_hex_digits leader) (codes "none\n" ++ v)) l)

  of_tail : (far : Option BehindTree) (leader : ℕ) (digits ys : List ℕ) (e : Entry) → IsAddress digits leader
      → (tail_parts leader).Is ys e far → IsSearchText (block digits ys) e far
  of_tail far leader digits _ _ d (inl (joined _ _ _ _ is_word (joined cs _ cut _ c (mapped ls log l)))) =
      (tt, (d.0, c.0, l.0), reaches far (Best leader cut log) tt, best_text far leader digits d.1 cut log cs ls c.1 l.1)
  of_tail far leader digits _ _ d (inr (inl (joined _ _ _ _ is_word (mapped ls log l)))) =
      (tt, (d.0, l.0), reaches far (Without leader log) tt, without_text far leader digits d.1 log ls l.1)
  of_tail None leader digits _ _ d (inr (inr (joined _ _ _ _ is_word (mapped ns n l)))) =
      (tt, (d.0, l.1), tt, λ i. block (d.1 i) (codes "spent " ++ l.2 i))
  of_tail (Some k) leader digits _ _ d (inr (inr (joined _ _ _ _ is_word l))) = absurd l

  to_search : (ys : List ℕ) (e : Entry) (far : Option BehindTree) → search_parts.Is ys e far → IsSearchText ys e far
  to_search _ _ far (joined _ _ _ _ is_word (joined digits _ leader _ d (joined _ ys _ e is_word tail))) = of_tail far leader digits ys e d tail

  from_block : (far : Option BehindTree) (leader : ℕ) (ys : List ℕ) (e : Entry) → leader < 2 ^ 32
      → (tail_parts leader).Is ys e far → search_parts.Is (block (eight_hex_digits leader) ys) e far
  from_block far leader ys e less tail =
      joined (codes "block ") _ tt e is_word (joined (eight_hex_digits leader) _ leader e (less, refl) (joined (codes " ") ys tt e is_word tail))

  -- a log's line, up to the end of the tree or of the line
  abbrev tree_part : Option BehindTree → List Item → List ℕ
  tree_part None log = line (log_text version log)
  tree_part (Some k) log = log_text version log

  part_ended : (far : Option BehindTree) (log : List Item) → ended far (tree_part far log) ≡ line (log_text version log)
  part_ended None log = refl
  part_ended (Some k) log = refl

  from_search : (ys : List ℕ) (e : Entry) (far : Option BehindTree) → IsSearchText ys e far → search_parts.Is ys e far
  from_search ys (Best leader cut log) far s =
      let c = some_cut_text cut s.1.1 in
      let part = tree_part far log in
      let text = best_text far leader (eight_hex_digits leader) refl cut log c.0 part c.1.1 (part_ended far log) in
      subst (λ v. search_parts.Is v (Best leader cut log) far) (same_ended far _ ys (text ∙ sym s.3))
      (from_block far leader _ _ s.1.0 (inl (joined (codes "best ") _ tt _ is_word (joined c.0 _ cut _ c.1 (mapped part log (s.1.2, part_ended far log))))))
  from_search ys (Without leader log) far s =
      let part = tree_part far log in
      let text = without_text far leader (eight_hex_digits leader) refl log part (part_ended far log) in
      subst (λ v. search_parts.Is v (Without leader log) far) (same_ended far _ ys (text ∙ sym s.3))
      (from_block far leader _ _ s.1.0 (inr (inl (joined (codes "none\n") _ tt _ is_word (mapped part log (s.1.1, part_ended far log))))))
  from_search ys (Spent leader budget) None s =
      subst (λ v. search_parts.Is v (Spent leader budget) None) (sym s.3)
      (from_block None leader _ _ s.1.0 (inr (inr (joined (codes "spent ") _ tt _ is_word (mapped (line (decimal budget)) budget (zero-le, s.1.1, refl))))))
  from_search ys (Spent leader budget) (Some k) s = absurd s.2
  from_search ys (Take leader unit) far s = absurd s.0

  pub search_exact : (n : ℕ) → IsExact NotDue most n (search version) IsSearchText
  unfolding search best without spent
  search_exact n = along to_search from_search (search_parts.exact n)

  abbrev pub a_search : LogReader Entry
  a_search = record { read = search version; Is = IsSearchText; exact = search_exact; some = (entry_text version (Spent 0 0), Spent 0 0, (tt, (lit< tt, zero-le), tt, refl)) }

  pub search_begins : (test : ℕ → Bool) (is : Bool) → IsFirst test is (codes "block ") → Begins test is IsSearchText
  search_begins test is first ys e far s = begins_as test is (codes "block ") leader_parts first ys e far (from_search ys e far s)

-- ---- the finish

abbrev pub IsFinishText : List ℕ → Finish → Type 0
IsFinishText ys f = ys ≡ finish_text f

-- a word that stands for the value
abbrev stands_for : {A : Type 0} → A → List ℕ → LogReader A
stands_for a due = any (shown (λ w. a) (a_word due))

word_first : {A : Type 0} (test : ℕ → Bool) (is : Bool) (a : A) (due : List ℕ) → IsFirst test is due → Begins test is (stands_for a due).Is
word_first test is a due first _ _ None (mapped _ _ is_word) = first
word_first test is a due first _ _ (Some k) l = absurd l

abbrev finish_parts : LogReader Finish
finish_parts = behind_any (codes "end ") (choice (λ x. eqb x 110) (stands_for Empty (codes "none\n")) (stands_for Count (codes "count\n"))
    (word_first (λ x. eqb x 110) true Empty (codes "none\n") refl) (word_first (λ x. eqb x 110) false Count (codes "count\n") refl))

to_finish : (ys : List ℕ) (f : Finish) (far : Option BehindTree) → finish_parts.Is ys f far → Plainly IsFinishText ys f far
to_finish _ _ None (joined _ _ _ _ is_word (inl (mapped _ _ is_word))) = refl
to_finish _ _ None (joined _ _ _ _ is_word (inr (mapped _ _ is_word))) = refl
to_finish _ _ (Some k) (joined _ _ _ _ _ (inl l)) = l
to_finish _ _ (Some k) (joined _ _ _ _ _ (inr l)) = l

from_finish : (ys : List ℕ) (f : Finish) (far : Option BehindTree) → Plainly IsFinishText ys f far → finish_parts.Is ys f far
from_finish ys Empty None e = subst (λ v. finish_parts.Is v Empty None) (sym e)
    (joined (codes "end ") (codes "none\n") tt Empty is_word (inl (mapped (codes "none\n") tt is_word)))
from_finish ys Count None e = subst (λ v. finish_parts.Is v Count None) (sym e)
    (joined (codes "end ") (codes "count\n") tt Count is_word (inr (mapped (codes "count\n") tt is_word)))
from_finish ys f (Some k) e = absurd e

pub finish_exact : (n : ℕ) → IsExact NotDue most n finish (Plainly IsFinishText)
unfolding finish
finish_exact n = along to_finish from_finish (finish_parts.exact n)

abbrev pub a_finish : PlainLogReader Finish
a_finish = record { read = finish; Is = IsFinishText; exact = finish_exact; some = (finish_text Empty, Empty, refl) }

pub finish_begins : (test : ℕ → Bool) (is : Bool) → IsFirst test is (codes "end ") → (ys : List ℕ) (f : Finish) → IsFinishText ys f → IsFirst test is ys
finish_begins test is first ys Empty e = subst (IsFirst test is) (sym e) first
finish_begins test is first ys Count e = subst (IsFirst test is) (sym e) first

-- ---- the first line

abbrev pub IsHeader : List ℕ → Version → Type 0
IsHeader ys version = ys ≡ first_line version

abbrev header_parts : LogReader Version
header_parts = behind_any (codes "ci-log ") (choice (λ x. eqb x 49) (stands_for One (codes "1\n")) (stands_for Two (codes "2\n"))
    (word_first (λ x. eqb x 49) true One (codes "1\n") refl) (word_first (λ x. eqb x 49) false Two (codes "2\n") refl))

to_header : (ys : List ℕ) (version : Version) (far : Option BehindTree) → header_parts.Is ys version far → Plainly IsHeader ys version far
to_header _ _ None (joined _ _ _ _ is_word (inl (mapped _ _ is_word))) = refl
to_header _ _ None (joined _ _ _ _ is_word (inr (mapped _ _ is_word))) = refl
to_header _ _ (Some k) (joined _ _ _ _ _ (inl l)) = l
to_header _ _ (Some k) (joined _ _ _ _ _ (inr l)) = l

from_header : (ys : List ℕ) (version : Version) (far : Option BehindTree) → Plainly IsHeader ys version far → header_parts.Is ys version far
from_header ys One None e = subst (λ v. header_parts.Is v One None) (sym e)
    (joined (codes "ci-log ") (codes "1\n") tt One is_word (inl (mapped (codes "1\n") tt is_word)))
from_header ys Two None e = subst (λ v. header_parts.Is v Two None) (sym e)
    (joined (codes "ci-log ") (codes "2\n") tt Two is_word (inr (mapped (codes "2\n") tt is_word)))
from_header ys version (Some k) e = absurd e

pub header_exact : (n : ℕ) → IsExact NotDue most n header (Plainly IsHeader)
unfolding header
header_exact n = along to_header from_header (header_parts.exact n)

abbrev pub a_header : PlainLogReader Version
a_header = record { read = header; Is = IsHeader; exact = header_exact; some = (first_line One, One, refl) }

-- what stands behind a first line that was read
pub header_read : (xs rest : List ℕ) (version : Version) → length xs ≤ most → header xs ≡ Ok (version, rest) → xs ≡ first_line version ++ rest
header_read xs rest version few e =
    let o = (header_exact (suc (length xs))).sound xs version rest (omega arith) few e in
    o.1 ∙ ap (λ v. v ++ rest) o.2

pub header_again : (version : Version) (rest : List ℕ) → header (first_line version ++ rest) ≡ Ok (version, rest)
header_again version rest = (header_exact (suc (length (first_line version ++ rest)))).whole (first_line version) version rest refl (omega arith)

-- ---- what is left

pub word_left : (due xs rest : List ℕ) → word {K = BehindTree} due xs ≡ Ok (tt, rest) → length rest ≤ length xs
word_left due xs rest e = omega (arith, ap length (word_sound due xs tt rest e), length-append due rest)

pub address_left : (xs rest : List ℕ) (leader : ℕ) → length xs ≤ most → address {K = BehindTree} 8 0 xs ≡ Ok (leader, rest) → length rest ≤ length xs
address_left xs rest leader few e = none_longer (λ n. address_exact {Other = NotDue} n) xs leader rest few e

pub cut_left : (xs rest : List ℕ) (cut : set.FinSet nat_cmp) → length xs ≤ most → set_of (nodes 256 0 xs) ≡ Ok (cut, rest) → length rest ≤ length xs
cut_left xs rest cut few e = none_longer ((a_cut {Other = NotDue}).exact) xs cut rest few e

pub unit_small : (xs rest : List ℕ) (x : ℕ × ℕ) → number {K = BehindTree} units xs ≡ Ok (x, rest) → x.0 ≤ 31
unit_small xs rest x e = (number_read units zero-le (lit≤ tt) refl xs x rest e).1.high
