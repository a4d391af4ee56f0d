-- Reading a log's line is exact, in each version.
use Rattle.std.proofs.Common.{◌≡◌, ◌≢◌, ℕ, suc, ◌≤◌, Bool, true, false, cond, eqb, List, [], ◌∷◌, ◌++◌, length, refl, sym}
use Rattle.std.proofs.Common.{ap, ◌∙◌, subst, arith, lit<, append-nil, Option, Some, None, Ok, Err}
use Rattle.std.proofs.lemmas.Bool.{eqb-true}
use Rattle.std.proofs.lemmas.Bool.Decides.{nat_tests}
use Rattle.ci_reading.specs.Lines.{line}
use Rattle.ci_reading.specs.LineReading.{Stop, stop_of}
use Rattle.ci_reading.proofs.Languages.{Plainly, Then, joined, Mapped, mapped}
use Rattle.ci_reading.proofs.Exact.{IsExact, along}
use Rattle.ci_reading.proofs.WordReading.{IsWord, is_word}
use Rattle.ci_reading.proofs.Readers.{Reader, PlainReader, part_before, shown_any}
use Rattle.ci_log.specs.declared.log.Item.{Item}
use Rattle.ci_log.specs.declared.log.Item.TheVariants.{F}
use Rattle.ci_log.specs.declared.book.Version.{Version}
use Rattle.ci_log.specs.declared.book.Version.TheVariants.{One, Two}
use Rattle.ci_log.specs.Trees.{leaf, IsLog}
use Rattle.ci_log.specs.Books.{log_text}
use Rattle.ci_log.specs.private.Reading.{BehindTree, Read, tree_end}
use Rattle.ci_log.specs.private.BookReading.{tree_in, tree_line}
use Rattle.ci_log.proofs.Ends.{NotDue, most, ended, same_front}
use Rattle.ci_log.proofs.PackedReading.{packed_exact}
use Rattle.ci_log.proofs.TreeReading.{tree_exact}

-- a least log
pub small_log : IsLog (F ∷ [])
small_log = record { is_tree = leaf tt; few = lit< tt }

-- ---- a tree of a version

abbrev pub IsLogText : Version → List ℕ → List Item → Type 0
IsLogText version ys items = IsLog items × (ys ≡ log_text version items)

log_exact : (version : Version) (n : ℕ) → IsExact NotDue most n (tree_in version) (Plainly (IsLogText version))
log_exact One n = tree_exact n
log_exact Two n = packed_exact n

abbrev a_log : Version → PlainReader ℕ BehindTree (List Item) NotDue most
a_log version = record {
  read = tree_in version;
  Is = IsLogText version;
  exact = log_exact version;
  some = (log_text version (F ∷ []), F ∷ [], (small_log, refl));
}

-- ---- and its line

-- a tree's newline, or nothing before it
abbrev IsEnd : List ℕ → Unit {0} → Option BehindTree → Type 0
IsEnd ys a None = IsWord (10 ∷ []) ys a
IsEnd ys a (Some k) = ys ≡ []

abbrev end_by : ℕ → List ℕ → Bool → Read (Unit {0})
end_by x xs b = cond b (Ok (tt, xs)) (Err (stop_of tt (length (x ∷ xs))))

end_sound : (xs : List ℕ) (a : Unit {0}) (rest : List ℕ) → tree_end xs ≡ Ok (a, rest) → xs ≡ 10 ∷ rest
end_sound [] a rest e = absurd (cc)
end_sound (x ∷ xs) a rest e = by (eqb x 10) refl e
  where
    by : (b : Bool) → eqb x 10 ≡ b → end_by x xs b ≡ Ok (a, rest) → x ∷ xs ≡ 10 ∷ rest
    by true is e = let both : ◌≡◌ {A = Unit {0} × List ℕ} (tt, xs) (a, rest) = cc in λ i. eqb-true x 10 is i ∷ (both i).1
    by false is e = absurd (cc)

record IsEndStop (xs : List ℕ) (s : Stop BehindTree) : Type 0 where
  left : s.left ≡ length xs
  here : (b : ℕ) (tail other : List ℕ) → xs ≡ b ∷ tail → tree_end (b ∷ other) ≡ Err (stop_of tt (length (b ∷ other)))

end_stop : (xs : List ℕ) (s : Stop BehindTree) → tree_end xs ≡ Err s → IsEndStop xs s
end_stop [] s e = let same : stop_of tt 0 ≡ s = cc in record { left = ap (λ (s : Stop BehindTree). s.left) (sym same); here = λ b tail other at. absurd (cc) }
end_stop (x ∷ xs) s e = by (eqb x 10) refl e
  where
    by : (b : Bool) → eqb x 10 ≡ b → end_by x xs b ≡ Err s → IsEndStop (x ∷ xs) s
    by true is e = absurd (cc)
    by false is e =
        let same : stop_of tt (length (x ∷ xs)) ≡ s = cc in
        record {
          left = ap (λ (s : Stop BehindTree). s.left) (sym same);
          here = λ b tail other at. let first : x ≡ b = cc in ap (end_by b other) (ap (λ v. eqb v 10) (sym first) ∙ is);
        }

newline_other : (b : ℕ) → b ≢ 10 → eqb b 10 ≡ false
newline_other b not = grind (arith, nat_tests)

end_exact : (n : ℕ) → IsExact NotDue most n tree_end IsEnd
end_exact n = record {
  whole = λ ys a rest is small. whole_by ys a rest is;
  told = λ front a k b other at not short. ap (λ f. tree_end (f ++ b ∷ other)) at ∙ ap (end_by b other) (newline_other b not);
  sound = λ xs a rest small short read. (10 ∷ [], end_sound xs a rest read, is_word);
  stops = λ xs s small short read. let o = end_stop xs s read in record {
    front = [];
    rest = xs;
    splits = refl;
    left = o.left;
    more = 10 ∷ [];
    value = tt;
    goes_on = is_word;
    here = λ b tail other at short. (stop_of tt (length (b ∷ other)), o.here b tail other at);
    of_kind = λ k is. (tt, refl);
  };
}
  where
    whole_by : (ys : List ℕ) (a : Unit {0}) (rest : List ℕ) → IsWord (10 ∷ []) ys a → tree_end (ys ++ rest) ≡ Ok (a, rest)
    whole_by _ _ rest is_word = refl

abbrev an_end : Reader ℕ BehindTree (Unit {0}) NotDue most
an_end = record { read = tree_end; Is = IsEnd; exact = end_exact; some = (10 ∷ [], tt, is_word) }

-- a log's bytes and the newline, or without it
abbrev pub IsTreeLine : Version → List ℕ → List Item → Option BehindTree → Type 0
IsTreeLine version ys items far = IsLog items × (ended far ys ≡ line (log_text version items))

module _ (version : Version) where
  abbrev LinePart : List ℕ → List Item → Option BehindTree → Type 0
  LinePart ys items far = Then (IsLogText version) (λ items zs v. Mapped (λ end. items) (λ ws a. IsEnd ws a far) zs v) ys items

  to_line : (ys : List ℕ) (items : List Item) (far : Option BehindTree) → LinePart ys items far → IsTreeLine version ys items far
  to_line _ _ None (joined ys _ items _ l (mapped _ _ is_word)) = (l.0, ap (λ v. v ++ 10 ∷ []) l.1)
  to_line _ _ (Some k) (joined ys zs items _ l (mapped _ _ at)) = (l.0, ap (λ v. line (ys ++ v)) at ∙ ap line (append-nil ys ∙ l.1))

  from_line : (ys : List ℕ) (items : List Item) (far : Option BehindTree) → IsTreeLine version ys items far → LinePart ys items far
  from_line ys items None l = subst (λ v. LinePart v items None) (sym l.1)
      (joined (log_text version items) (10 ∷ []) items items (l.0, refl) (mapped (10 ∷ []) tt is_word))
  from_line ys items (Some k) l =
      subst (λ v. LinePart v items (Some k)) (append-nil (log_text version items) ∙ sym (same_front 10 ys (log_text version items) l.1))
      (joined (log_text version items) [] items items (l.0, refl) (mapped [] tt refl))

  pub tree_line_exact : (n : ℕ) → IsExact NotDue most n (tree_line version) (IsTreeLine version)
  unfolding tree_line
  tree_line_exact n = along to_line from_line ((part_before (a_log version) (λ items. shown_any (λ end. items) an_end)).exact n)

abbrev pub a_tree_line : Version → Reader ℕ BehindTree (List Item) NotDue most
a_tree_line version = record {
  read = tree_line version;
  Is = IsTreeLine version;
  exact = tree_line_exact version;
  some = (line (log_text version (F ∷ [])), F ∷ [], (small_log, refl));
}

-- a tree that was read, of few bytes, is a log
pub log_read : (version : Version) (xs rest : List ℕ) (items : List Item) → length xs ≤ most → tree_in version xs ≡ Ok (items, rest) → IsLog items
log_read version xs rest items few e = ((log_exact version (suc (length xs))).sound xs items rest (omega arith) few e).2.0
