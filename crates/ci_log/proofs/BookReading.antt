-- Reading a book is exact: its first line, searches, then rounds, then the finish.
use Rattle.std.proofs.Common.{◌≡◌, ℕ, suc, ◌<◌, ◌≤◌, Bool, true, false, eqb, List, [], ◌∷◌, ◌++◌, length, length-append}
use Rattle.std.proofs.Common.{refl, sym, ap, ◌∙◌, subst, arith, codes, append_assoc, append-nil, Option, Some, None, Ok}
use Rattle.std.proofs.Common.{Err}
use Rattle.std.specs.List.{flat_map, AllByRecursion}
use Rattle.std.specs.FinSet as set
use Rattle.ci_reading.specs.Hex.{eight_hex_digits}
use Rattle.ci_reading.specs.Lines.{line}
use Rattle.ci_reading.specs.LineReading.{◌>>=◌, view, with_items}
use Rattle.ci_reading.proofs.Languages.{joined, mapped, SeenBy, IsFirst, first_on, not_empty, Begins}
use Rattle.ci_reading.proofs.Exact.{IsExact, along}
use Rattle.ci_reading.proofs.Repetitions.{no_more, one_more, within_one}
use Rattle.ci_reading.proofs.Readers.{any, part_before, shown, shown_any, repeated_before}
use Rattle.ci_word.specs.Members.{members_text}
use Rattle.ci_log.specs.declared.book.Entry.{Entry}
use Rattle.ci_log.specs.declared.book.Entry.TheVariants.{Best, Without, Spent, Take}
use Rattle.ci_log.specs.declared.book.Finish.{Finish}
use Rattle.ci_log.specs.declared.book.Finish.TheVariants.{Empty}
use Rattle.ci_log.specs.declared.book.Version.{Version}
use Rattle.ci_log.specs.declared.book.Version.TheVariants.{One}
use Rattle.ci_log.specs.Books.{IsEntry, IsSearch, AreRounds, AreInOrder, Book, IsBook, Spells, log_text, entry_text, finish_text, first_line}
use Rattle.ci_log.specs.Faults.{HasTree, EndsTree}
use Rattle.ci_log.specs.private.Reading.{BehindTree, Read}
use Rattle.ci_log.specs.private.BookReading.{take, search, round, finish, searches, rounds, header, body}
use Rattle.ci_log.proofs.Ends.{NotDue, most, same_front}
use Rattle.ci_log.proofs.EntryReading.{LogReader, IsTake, a_take, take_exact, a_search, search_exact, a_finish, search_begins, take_begins, finish_begins, a_header}

-- ---- the empty book

abbrev pub empty_book : Book
empty_book = record { entries = []; finish = Empty }

pub is_empty_book : IsBook empty_book
is_empty_book = record { are_entries = tt; in_order = record { searches = []; rounds = []; is_split = refl; are_searches = tt; are_rounds = tt } }

-- ---- the parts

module _ (version : Version) where
  abbrev one_part : LogReader (List Entry)
  one_part = shown_any (λ s. s ∷ []) (a_search version)

  abbrev round_part : LogReader (List Entry)
  round_part = part_before (a_take version) (λ t. shown_any (λ s. t ∷ s ∷ []) (a_search version))

  abbrev end_part : LogReader (List Entry × Finish)
  end_part = any (shown (λ f. ([], f)) a_finish)

  module _ (test : ℕ → Bool) (is : Bool) where
    one_begins : IsFirst test is (codes "block ") → Begins test is one_part.Is
    one_begins first _ _ far (mapped ys s l) = search_begins version test is first ys s far l

    round_begins : IsFirst test is (codes "take ") → Begins test is round_part.Is
    round_begins first _ _ far (joined ys zs t _ l m) = first_on test is ys zs (take_begins version test is first ys t l)

    end_begins : IsFirst test is (codes "end ") → Begins test is end_part.Is
    end_begins first _ _ None (mapped ys f l) = finish_begins test is first ys f l
    end_begins first _ _ (Some k) l = absurd l

  abbrev rounds_part : LogReader (List Entry × Finish)
  rounds_part = repeated_before (λ x. eqb x 116) round_part end_part (round_begins (λ x. eqb x 116) true refl) (end_begins (λ x. eqb x 116) false refl)

  rounds_begin : Begins (λ x. eqb x 98) false rounds_part.Is
  rounds_begin _ _ _ (no_more ys v far m) = end_begins (λ x. eqb x 98) false refl ys v far m
  rounds_begin _ _ _ (one_more ys zs es v far l m) = first_on (λ x. eqb x 98) false ys zs (round_begins (λ x. eqb x 98) false refl ys es None l)
  rounds_begin _ _ _ (within_one ys zs es v k l m) = round_begins (λ x. eqb x 98) false refl ys es (Some k) l

  abbrev parts : LogReader (List Entry × Finish)
  parts = repeated_before (λ x. eqb x 98) one_part rounds_part (one_begins (λ x. eqb x 98) true refl) rounds_begin

  -- ---- entries up to the end of a tree, or all of them and the finish

  pub data UpTo (rest : List ℕ) : List Entry → List ℕ → Option BehindTree → Type 0 where
    at_rest : UpTo rest [] rest None
    at_tree : (e : Entry) (es : List Entry) (f : List ℕ) (k : BehindTree) → HasTree e → line f ≡ entry_text version e → UpTo rest (e ∷ es) f (Some k)
    behind_entry : (e : Entry) (es : List Entry) (zs : List ℕ) (far : Option BehindTree) → UpTo rest es zs far → UpTo rest (e ∷ es) (entry_text version e ++ zs) far

  -- the same, as the definitions say it
  record IsUpToTree (es : List Entry) (f : List ℕ) : Type 0 where
    before : List Entry
    entry : Entry
    after : List Entry
    stands : es ≡ before ++ entry ∷ after
    has_tree : HasTree entry
    is_text : line f ≡ flat_map (entry_text version) before ++ entry_text version entry

  abbrev IsUpTo : List ℕ → List Entry → List ℕ → Option BehindTree → Type 0
  IsUpTo rest es ys None = ys ≡ flat_map (entry_text version) es ++ rest
  IsUpTo rest es ys (Some k) = IsUpToTree es ys

  -- a tree's line without its newline
  pub record HasFront (e : Entry) : Type 0 where
    pub front : List ℕ
    pub text : line front ≡ entry_text version e

  pub tree_front : (e : Entry) → HasTree e → HasFront e
  tree_front (Best leader cut log) has =
      let first = line (codes "block " ++ eight_hex_digits leader ++ codes " best" ++ members_text (set.contains cut)) in
      record { front = first ++ log_text version log; text = append_assoc first (log_text version log) (10 ∷ []) }
  tree_front (Without leader log) has = record { front = line (codes "block " ++ eight_hex_digits leader ++ codes " none") ++ log_text version log; text = refl }
  tree_front (Spent leader budget) has = absurd has
  tree_front (Take leader unit) has = absurd has

  up_to : (rest : List ℕ) (es : List Entry) (ys : List ℕ) (far : Option BehindTree) → UpTo rest es ys far → IsUpTo rest es ys far
  up_to rest _ _ _ at_rest = refl
  up_to rest _ _ _ (at_tree e es f k has text) = record { before = []; entry = e; after = es; stands = refl; has_tree = has; is_text = text }
  up_to rest _ _ None (behind_entry e es zs far u) = ap (λ v. entry_text version e ++ v) (up_to rest es zs None u)
      ∙ sym (append_assoc (entry_text version e) (flat_map (entry_text version) es) rest)
  up_to rest _ _ (Some k) (behind_entry e es zs far u) =
      let o = up_to rest es zs (Some k) u in
      record {
        before = e ∷ o.before;
        entry = o.entry;
        after = o.after;
        stands = ap (λ v. e ∷ v) o.stands;
        has_tree = o.has_tree;
        is_text = append_assoc (entry_text version e) zs (10 ∷ [])
            ∙ (ap (λ v. entry_text version e ++ v) o.is_text
            ∙ sym (append_assoc (entry_text version e) (flat_map (entry_text version) o.before) (entry_text version o.entry)));
      }

  all_up : (rest : List ℕ) (es : List Entry) → UpTo rest es (flat_map (entry_text version) es ++ rest) None
  all_up rest [] = at_rest
  all_up rest (e ∷ es) = subst (λ v. UpTo rest (e ∷ es) v None)
      (sym (append_assoc (entry_text version e) (flat_map (entry_text version) es) rest)) (behind_entry e es _ None (all_up rest es))

  tree_up : (rest : List ℕ) (before : List Entry) (entry : Entry) (after : List Entry) (f : List ℕ) (k : BehindTree) → HasTree entry → line f ≡ entry_text version entry
      → UpTo rest (before ++ entry ∷ after) (flat_map (entry_text version) before ++ f) (Some k)
  tree_up rest [] entry after f k has text = at_tree entry after f k has text
  tree_up rest (e ∷ before) entry after f k has text =
      subst (λ v. UpTo rest (e ∷ before ++ entry ∷ after) v (Some k)) (sym (append_assoc (entry_text version e) (flat_map (entry_text version) before) f))
      (behind_entry e (before ++ entry ∷ after) _ (Some k) (tree_up rest before entry after f k has text))

  is_up_to : (rest : List ℕ) (es : List Entry) (ys : List ℕ) (far : Option BehindTree) → IsUpTo rest es ys far → UpTo rest es ys far
  is_up_to rest es ys None is = subst (λ v. UpTo rest es v None) (sym is) (all_up rest es)
  is_up_to rest es ys (Some k) is =
      let t = tree_front is.entry is.has_tree in
      let before = flat_map (entry_text version) is.before in
      let same : before ++ t.front ≡ ys = same_front 10 _ ys (append_assoc before t.front (10 ∷ []) ∙ (ap (λ v. before ++ v) t.text ∙ sym is.is_text)) in
      subst (λ v. UpTo rest v ys (Some k)) (sym is.stands)
      (subst (λ v. UpTo rest (is.before ++ is.entry ∷ is.after) v (Some k)) same
      (tree_up rest is.before is.entry is.after t.front k is.has_tree t.text))

  -- ---- from what is read to entries in order

  record AreRight (Order : List Entry → Type 0) (ys : List ℕ) (v : List Entry × Finish) (far : Option BehindTree) : Type 0 where
    are : AllByRecursion IsEntry v.0
    order : Order v.0
    text : UpTo (finish_text v.1) v.0 ys far

  a_round : (t s : Entry) (es : List Entry) → IsTake t → IsSearch s → AreRounds es → AreRounds (t ∷ s ∷ es)
  a_round (Best leader cut log) s es take search others = absurd take
  a_round (Without leader log) s es take search others = absurd take
  a_round (Spent leader budget) s es take search others = absurd take
  a_round (Take leader unit) s es take search others = (search, others)

  a_search_more : (s : Entry) (es : List Entry) → IsSearch s → AreInOrder es → AreInOrder (s ∷ es)
  a_search_more s es is o =
      record {
        searches = s ∷ o.searches;
        rounds = o.rounds;
        is_split = ap (λ v. s ∷ v) o.is_split;
        are_searches = (is, o.are_searches);
        are_rounds = o.are_rounds;
      }

  -- an entry in front of others, or the last that there is yet
  in_front : (rest : List ℕ) (e : Entry) (es : List Entry) (ys zs : List ℕ) (far : Option BehindTree)
      → ys ≡ entry_text version e → UpTo rest es zs far → UpTo rest (e ∷ es) (ys ++ zs) far
  in_front rest e es ys zs far is u = subst (λ v. UpTo rest (e ∷ es) (v ++ zs) far) (sym is) (behind_entry e es zs far u)

  rounds_right : (ys : List ℕ) (v : List Entry × Finish) (far : Option BehindTree) → rounds_part.Is ys v far → AreRight AreRounds ys v far
  rounds_right _ _ _ (no_more _ _ None (mapped ys f l)) = record { are = tt; order = tt; text = subst (λ v. UpTo (finish_text f) [] v None) (sym l) at_rest }
  rounds_right _ _ _ (no_more _ _ (Some k) l) = absurd l
  rounds_right _ _ _ (one_more _ zs _ v far (joined ts _ t _ l (mapped ss s m)) more) =
      let o = rounds_right zs v far more in
      record {
        are = (l.1, (m.1, o.are));
        order = a_round t s v.0 l.0 m.0 o.order;
        text = subst (λ w. UpTo (finish_text v.1) (t ∷ s ∷ v.0) w far) (sym (append_assoc ts ss zs))
            (in_front (finish_text v.1) t (s ∷ v.0) ts (ss ++ zs) far l.2 (in_front (finish_text v.1) s v.0 ss zs far m.3 o.text));
      }
  rounds_right _ _ _ (within_one _ zs _ v k (joined ts _ t _ l (mapped ss s m)) more) =
      let o = rounds_right zs v None more in
      record {
        are = (l.1, (m.1, o.are));
        order = a_round t s v.0 l.0 m.0 o.order;
        text = in_front (finish_text v.1) t (s ∷ v.0) ts ss (Some k) l.2 (at_tree s v.0 ss k m.2 m.3);
      }

  parts_right : (ys : List ℕ) (v : List Entry × Finish) (far : Option BehindTree) → parts.Is ys v far → AreRight AreInOrder ys v far
  parts_right _ _ _ (no_more ys v far m) =
      let o = rounds_right ys v far m in
      record { are = o.are; order = record { searches = []; rounds = v.0; is_split = refl; are_searches = tt; are_rounds = o.order }; text = o.text }
  parts_right _ _ _ (one_more _ zs _ v far (mapped ss s m) more) =
      let o = parts_right zs v far more in
      record { are = (m.1, o.are); order = a_search_more s v.0 m.0 o.order; text = in_front (finish_text v.1) s v.0 ss zs far m.3 o.text }
  parts_right _ _ _ (within_one _ zs _ v k (mapped ss s m) more) =
      let o = parts_right zs v None more in
      record { are = (m.1, o.are); order = a_search_more s v.0 m.0 o.order; text = at_tree s v.0 ss k m.2 m.3 }

  -- ---- and back again

  rounds_again : (es : List Entry) (f : Finish) (ys : List ℕ) (far : Option BehindTree) → AllByRecursion IsEntry es
      → AreRounds es → UpTo (finish_text f) es ys far → rounds_part.Is ys (es, f) far
  rounds_again _ f _ _ are order at_rest = no_more (finish_text f) ([], f) None (mapped (finish_text f) f refl)
  rounds_again (Best leader cut log ∷ es) f ys far are order u = absurd order
  rounds_again (Without leader log ∷ es) f ys far are order u = absurd order
  rounds_again (Spent leader budget ∷ es) f ys far are order u = absurd order
  rounds_again (Take leader unit ∷ []) f ys far are order u = absurd order
  rounds_again (Take leader unit ∷ s ∷ es) f ys _ are order (at_tree _ _ _ k has text) = absurd has
  rounds_again (Take leader unit ∷ s ∷ es) f _ _ are order (behind_entry t _ _ _ (at_tree _ _ ss k has text)) =
      within_one (entry_text version t ++ ss) (flat_map (entry_text version) es ++ finish_text f) (t ∷ s ∷ []) (es, f) k
      (joined (entry_text version t) ss t (t ∷ s ∷ []) (tt, are.0, refl) (mapped ss s (order.0, are.1.0, has, text)))
      (rounds_again es f _ None are.1.1 order.1 (all_up (finish_text f) es))
  rounds_again (Take leader unit ∷ s ∷ es) f _ far are order (behind_entry t _ _ _ (behind_entry _ _ zs _ u)) =
      subst (λ w. rounds_part.Is w (t ∷ s ∷ es, f) far) (append_assoc (entry_text version t) (entry_text version s) zs)
      (one_more (entry_text version t ++ entry_text version s) zs (t ∷ s ∷ []) (es, f) far
      (joined (entry_text version t) (entry_text version s) t (t ∷ s ∷ []) (tt, are.0, refl) (mapped (entry_text version s) s (order.0, are.1.0, tt, refl)))
      (rounds_again es f zs far are.1.1 order.1 u))

  parts_again : (searches rounds : List Entry) (f : Finish) (ys : List ℕ) (far : Option BehindTree)
      → AllByRecursion IsEntry (searches ++ rounds) → AllByRecursion IsSearch searches → AreRounds rounds
      → UpTo (finish_text f) (searches ++ rounds) ys far → parts.Is ys (searches ++ rounds, f) far
  parts_again [] rounds f ys far are first order u = no_more ys (rounds, f) far (rounds_again rounds f ys far are order u)
  parts_again (s ∷ searches) rounds f _ _ are first order (at_tree _ _ ss k has text) =
      within_one ss (flat_map (entry_text version) (searches ++ rounds) ++ finish_text f) (s ∷ []) (searches ++ rounds, f) k (mapped ss s (first.0, are.0, has, text))
      (parts_again searches rounds f _ None are.1 first.1 order (all_up (finish_text f) (searches ++ rounds)))
  parts_again (s ∷ searches) rounds f _ far are first order (behind_entry _ _ zs _ u) =
      one_more (entry_text version s) zs (s ∷ []) (searches ++ rounds, f) far
      (mapped (entry_text version s) s (first.0, are.0, tt, refl))
      (parts_again searches rounds f zs far are.1 first.1 order u)

  -- ---- what stands behind the first line

  abbrev book_of : List Entry × Finish → Book
  book_of v = record { entries = v.0; finish = v.1 }

  -- the book's parts, or those up to the last letter of a tree
  abbrev pub IsBody : List ℕ → Book → Option BehindTree → Type 0
  IsBody ys book far = IsBook book × UpTo (finish_text book.finish) book.entries ys far

  to_body : (ys : List ℕ) (book : Book) (far : Option BehindTree) → SeenBy book_of parts.Is ys book far → IsBody ys book far
  to_body _ _ far (mapped ys v m) = let o = parts_right ys v far m in (record { are_entries = o.are; in_order = o.order }, o.text)

  from_body : (ys : List ℕ) (book : Book) (far : Option BehindTree) → IsBody ys book far → SeenBy book_of parts.Is ys book far
  from_body ys book far b =
      let order = b.0.in_order in
      let are = subst (AllByRecursion IsEntry) order.is_split b.0.are_entries in
      let up = subst (λ es. UpTo (finish_text book.finish) es ys far) order.is_split b.1 in
      let again = parts_again order.searches order.rounds book.finish ys far are order.are_searches order.are_rounds up in
      mapped ys (book.entries, book.finish) (subst (λ es. parts.Is ys (es, book.finish) far) (sym order.is_split) again)

  body_is : (xs : List ℕ) → view book_of (parts.read xs) ≡ body version xs
  unfolding body round
  body_is xs = by (searches version xs)
    where
      last : (s r : List Entry) (e : Read Finish)
          → view book_of (view (with_items s) (view (with_items r) (view (λ f. ([], f)) e)))
          ≡ (e >>= λ f. Ok (record { entries = s ++ r; finish = f.0 }, f.1))
      last s r (Err t) = refl
      last s r (Ok f) = ap (λ (es : List Entry). Ok (record { entries = s ++ es; finish = f.0 }, f.1)) (append-nil r)

      middle : (s : List Entry) (q : Read (List Entry))
          → view book_of (view (with_items s) (q >>= λ r. view (with_items r.0) (end_part.read r.1)))
          ≡ (q >>= λ r. finish r.1 >>= λ f. Ok (record { entries = s ++ r.0; finish = f.0 }, f.1))
      middle s (Err t) = refl
      middle s (Ok r) = last s r.0 (finish r.1)

      by : (q : Read (List Entry)) → view book_of (q >>= λ s. view (with_items s.0) (rounds_part.read s.1))
          ≡ (q >>= λ s. rounds version s.1 >>= λ r. finish r.1
          >>= λ f. Ok (record { entries = s.0 ++ r.0; finish = f.0 }, f.1))
      by (Err t) = refl
      by (Ok s) = middle s.0 (rounds version s.1)

  pub body_exact : (n : ℕ) → IsExact NotDue most n (body version) IsBody
  body_exact n = subst (λ p. IsExact NotDue most n p IsBody) (λ i xs. body_is xs i) (along to_body from_body ((shown_any book_of parts).exact n))

  pub empty_body : IsBody (finish_text Empty) empty_book None
  empty_body = (is_empty_book, at_rest)

  abbrev a_body : LogReader Book
  a_body = record { read = body version; Is = IsBody; exact = body_exact; some = (finish_text Empty, empty_book, empty_body) }

-- ---- whole texts

abbrev pub read_book : List ℕ → Read Book
read_book xs = header xs >>= λ a. body a.0 a.1

-- the bytes spell the book, or are those of it up to the last byte of a tree
abbrev pub IsBookText : List ℕ → Book → Option BehindTree → Type 0
IsBookText text book None = Spells text book
IsBookText text book (Some k) = (e : EndsTree text) × (e.book ≡ book)

abbrev book_parts : LogReader Book
book_parts = part_before a_header a_body

to_text : (text : List ℕ) (book : Book) (far : Option BehindTree) → book_parts.Is text book far → IsBookText text book far
to_text _ book None (joined xs ys version _ at b) = record {
  version = version;
  spells = record {
    is_book = b.0;
    is_text = λ i. at i ++ up_to version (finish_text book.finish) book.entries ys None b.1 i;
  };
}
to_text _ book (Some k) (joined xs ys version _ at b) =
    let o = up_to version (finish_text book.finish) book.entries ys (Some k) b.1 in (
      record {
        version = version;
        book = book;
        is_book = b.0;
        before = o.before;
        entry = o.entry;
        after = o.after;
        stands = o.stands;
        has_tree = o.has_tree;
        is_text = append_assoc xs ys (10 ∷ []) ∙ (λ i. at i ++ o.is_text i);
      },
      refl,
    )

-- the text behind its first line
pub record HasBody (text : List ℕ) (version : Version) (book : Book) : Type 0 where
  pub behind : List ℕ
  pub is : text ≡ first_line version ++ behind
  pub is_body : IsBody version behind book (Some tt)

pub tree_body : (text : List ℕ) (e : EndsTree text) → HasBody text e.version e.book
tree_body text e =
    let version = e.version in
    let t = tree_front version e.entry e.has_tree in
    let before = flat_map (entry_text version) e.before in
    let built : line (before ++ t.front) ≡ before ++ entry_text version e.entry = append_assoc before t.front (10 ∷ []) ∙ ap (λ v. before ++ v) t.text in
    record {
      behind = before ++ t.front;
      is = same_front 10 text (first_line version ++ (before ++ t.front))
          (e.is_text ∙ (sym (ap (λ v. first_line version ++ v) built) ∙ sym (append_assoc (first_line version) (before ++ t.front) (10 ∷ []))));
      is_body = (
        e.is_book,
        is_up_to version (finish_text e.book.finish) e.book.entries (before ++ t.front) (Some tt)
            (record { before = e.before; entry = e.entry; after = e.after; stands = e.stands; has_tree = e.has_tree; is_text = built }),
      );
    }

from_text : (text : List ℕ) (book : Book) (far : Option BehindTree) → IsBookText text book far → book_parts.Is text book far
from_text text book None s =
    subst (λ v. book_parts.Is v book None) (sym s.spells.is_text)
    (joined (first_line s.version) (flat_map (entry_text s.version) book.entries ++ finish_text book.finish) s.version book refl
    (s.spells.is_book, all_up s.version (finish_text book.finish) book.entries))
from_text text book (Some k) s =
    let o = tree_body text s.0 in
    subst (λ b. book_parts.Is text b (Some k)) s.1
    (subst (λ v. book_parts.Is v s.0.book (Some k)) (sym o.is) (joined (first_line s.0.version) o.behind s.0.version s.0.book refl o.is_body))

pub book_exact : (n : ℕ) → IsExact NotDue most n read_book IsBookText
book_exact n = along to_text from_text (book_parts.exact n)

pub empty_spells : (version : Version) → Spells (first_line version ++ finish_text Empty) empty_book
empty_spells version = record { version = version; spells = record { is_book = is_empty_book; is_text = refl } }

abbrev pub a_book : LogReader Book
a_book = record { read = read_book; Is = IsBookText; exact = book_exact; some = (first_line One ++ finish_text Empty, empty_book, empty_spells One) }

-- what stands behind the first line and was read is a book
pub body_read : (version : Version) (xs rest : List ℕ) (book : Book) → length xs ≤ most → body version xs ≡ Ok (book, rest) → IsBook book
body_read version xs rest book few read = ((body_exact version (suc (length xs))).sound xs book rest (omega arith) few read).2.0

-- ---- what a search and a round leave is shorter

pub search_shorter : (version : Version) (xs after : List ℕ) (e : Entry) → length xs ≤ most → search version xs ≡ Ok (e, after) → length after < length xs
search_shorter version xs after e few read =
    let o = (search_exact version (suc (length xs))).sound xs e after (omega arith) few read in
    omega (arith, not_empty (λ x. eqb x 98) true o.0 (search_begins version (λ x. eqb x 98) true refl o.0 e None o.2), ap length o.1, length-append o.0 after)

pub take_shorter : (xs after : List ℕ) (e : Entry) → length xs ≤ most → take xs ≡ Ok (e, after) → length after < length xs
take_shorter xs after e few read =
    let o = (take_exact One (suc (length xs))).sound xs e after (omega arith) few read in
    omega (arith, not_empty (λ x. eqb x 116) true o.0 (take_begins One (λ x. eqb x 116) true refl o.0 e o.2), ap length o.1, length-append o.0 after)
