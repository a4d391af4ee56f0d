-- A text spells one book at most, or has one fault, and what the reader makes of a text is that book or that fault.
use Rattle.std.proofs.Common.{◌≡◌, ◌≢◌, ℕ, suc, ◌-◌, ◌<◌, ◌≤◌, ◌⊎◌, inl, inr, Bool, true, false, cond, eqb, List, [], ◌∷◌}
use Rattle.std.proofs.Common.{◌++◌, length, length-append, refl, sym, ap, ◌∙◌, subst, arith, append_assoc, append-nil}
use Rattle.std.proofs.Common.{true≢false, Option, Some, None, Result, Ok, Err, IfOk, IfErr}
use Rattle.std.specs.List.{flat_map}
use Rattle.std.proofs.lemmas.Grind.{flat_map-append}
use Rattle.std.proofs.lemmas.Bool.{eqb-true, cases_lt}
use Rattle.std.proofs.lemmas.Bool.Decides.{nat_tests}
use Rattle.ci_reading.specs.LineReading.{Stop, stop, ◌>>=◌}
use Rattle.ci_reading.specs.Fronts as fronts
use Rattle.ci_reading.specs.Fronts.{IsFirstBad, EndsEarly}
use Rattle.ci_reading.proofs.FirstBad.{is_front, front_before, one_first_bad, none_bad, one_value, whole_ends}
use Rattle.ci_reading.proofs.FirstBad.{kind_ends, IsStopOf, Tells, at_end, at_symbol, stop_tells, read_tells, verdict}
use Rattle.ci_reading.proofs.FirstBad.{Verdict, a_text, behind_text, a_stop}
use Rattle.ci_log.specs.declared.book.Finish.TheVariants.{Empty}
use Rattle.ci_log.specs.declared.faults.Failure.{Failure}
use Rattle.ci_log.specs.declared.faults.Failure.TheVariants as failure
use Rattle.ci_log.specs.declared.faults.LogFault.{LogFault}
use Rattle.ci_log.specs.declared.faults.LogFault.TheVariants.{BadHeader, BadItem, Unfinished, Trailing, NoMemory}
use Rattle.ci_log.specs.declared.book.Version.{Version}
use Rattle.ci_log.specs.declared.book.Version.TheVariants.{One, Two}
use Rattle.ci_log.specs.Books.{Book, SpellsIn, Spells, entry_text, finish_text, first_line, book_text}
use Rattle.ci_log.specs.Faults.{IsFront, EndsTree, IsWhole, IsTrailing, Differs, HasFault, IsFaultOf, Answers, bad_header, unfinished, trailing, bad_item}
use Rattle.ci_log.specs.private.Reading.{BehindTree, Read, Fails, IsLeft, stop_seen, stop_fault, failure_fault, header_fault}
use Rattle.ci_log.specs.private.BookReading.{header, body}
use Rattle.ci_log.proofs.EntryReading.{header_again}
use Rattle.ci_log.proofs.Ends.{most}
use Rattle.ci_log.proofs.BookReading.{empty_book, empty_spells, read_book, tree_body, a_book}

pub one_book : (text : List ℕ) (book other : Book) → Spells text book → Spells text other → book ≡ other
one_book text book other one two = one_value a_book text book other one two

-- ---- fronts of books

front_of : (xs : List ℕ) → fronts.IsFront IsWhole xs → IsFront xs
front_of xs f = record { book = f.1.0; more = f.0; spells = f.1.1 }

of_front : (xs : List ℕ) → IsFront xs → fronts.IsFront IsWhole xs
of_front xs f = (f.more, (f.book, f.spells))

-- behind a tree a newline goes on
newline_front : (front : List ℕ) → EndsTree front → fronts.IsFront IsWhole (front ++ 10 ∷ [])
newline_front front e =
    let first = first_line e.version in
    let texts = flat_map (entry_text e.version) in
    let text = entry_text e.version e.entry in
    let rest = texts e.after ++ finish_text e.book.finish in
    let all : texts e.book.entries ≡ texts e.before ++ (text ++ texts e.after) = ap texts e.stands
    ∙ flat_map-append (entry_text e.version) e.before (e.entry ∷ e.after) in
    let behind : texts e.book.entries ++ finish_text e.book.finish ≡ (texts e.before ++ text) ++ rest =
    ap (λ v. v ++ finish_text e.book.finish) (all ∙ sym (append_assoc (texts e.before) text (texts e.after)))
    ∙ append_assoc (texts e.before ++ text) (texts e.after) (finish_text e.book.finish) in
    let is_text : (front ++ 10 ∷ []) ++ rest ≡ book_text e.version e.book =
    ap (λ v. v ++ rest) e.is_text ∙ (append_assoc first (texts e.before ++ text) rest ∙ ap (λ v. first ++ v) (sym behind)) in
    (rest, (e.book, record { version = e.version; spells = record { is_book = e.is_book; is_text = is_text } }))

-- a list that begins with a first line
abbrev IsBehindLine : List ℕ → Type 0
IsBehindLine front = (version : Version) × (behind : List ℕ) × (front ≡ first_line version ++ behind)

trailing_front : (front : List ℕ) (byte : ℕ) → IsTrailing front byte → fronts.IsFront IsWhole front
trailing_front front byte (inl t) = front_before IsWhole front (10 ∷ []) (newline_front front t.0)
trailing_front front byte (inr w) = is_front IsWhole front w

trailing_ends : (front : List ℕ) (byte : ℕ) → IsTrailing front byte → ¬ fronts.IsFront IsWhole (front ++ byte ∷ [])
trailing_ends front byte (inl t) = kind_ends a_book front t.0.book tt byte (t.0, refl) t.1
trailing_ends front byte (inr w) = whole_ends a_book front byte w

-- what is trailing stands behind the first line
trailing_behind : (front : List ℕ) (byte : ℕ) → IsTrailing front byte → IsBehindLine front
trailing_behind front byte (inl t) = let b = tree_body front t.0 in (t.0.version, b.behind, b.is)
trailing_behind front byte (inr w) = (w.1.version, flat_map (entry_text w.1.version) w.0.entries ++ finish_text w.0.finish, w.1.spells.is_text)

next_same : (front xs ys : List ℕ) (a b : ℕ) → front ++ a ∷ xs ≡ front ++ b ∷ ys → a ≡ b
next_same [] xs ys a b e = cc
next_same (x ∷ front) xs ys a b e = let rest : front ++ a ∷ xs ≡ front ++ b ∷ ys = cc in next_same front xs ys a b rest

module _ (version : Version) (front others : List ℕ) (due : ℕ) (e : first_line version ≡ front ++ due ∷ others) where
  -- the empty book, behind a front of its first line
  empty_behind : book_text version empty_book ≡ front ++ due ∷ (others ++ finish_text Empty)
  empty_behind = ap (λ v. v ++ finish_text Empty) e ∙ append_assoc front (due ∷ others) (finish_text Empty)

  header_spells : Spells (front ++ due ∷ (others ++ finish_text Empty)) empty_book
  header_spells = subst (λ v. Spells v empty_book) empty_behind (empty_spells version)

  header_goes_on : (byte : ℕ) → byte ≡ due → fronts.IsFront IsWhole (front ++ byte ∷ [])
  header_goes_on byte same =
      let rest = others ++ finish_text Empty in
      (rest, (empty_book, subst (λ v. Spells v empty_book) (ap (λ b. front ++ b ∷ rest) (sym same) ∙ sym (append_assoc front (byte ∷ []) rest)) header_spells))

  -- no book of the version goes on with another byte than the one due
  header_ends : (byte : ℕ) → byte ≢ due → (more : List ℕ) (book : Book) → SpellsIn version ((front ++ byte ∷ []) ++ more) book → ⊥
  header_ends byte not more book spells =
      let behind = flat_map (entry_text version) book.entries ++ finish_text book.finish in
      let text : front ++ byte ∷ more ≡ front ++ due ∷ (others ++ behind) =
      sym (append_assoc front (byte ∷ []) more) ∙ (spells.is_text ∙ (ap (λ v. v ++ behind) e ∙ append_assoc front (due ∷ others) behind)) in
      not (next_same front more (others ++ behind) byte due text)

-- ---- a byte that differs from both first lines

-- a shorter front, and its byte, stand in the longer one
stands_in : (f g r s : List ℕ) (a b : ℕ) → f ++ a ∷ r ≡ g ++ b ∷ s → length f ≤ length g → (tail : List ℕ) × (g ++ b ∷ [] ≡ (f ++ a ∷ []) ++ tail)
stands_in [] [] r s a b e le = ([], let h : b ≡ a = cc in ap (λ v. v ∷ []) h)
stands_in [] (y ∷ g) r s a b e le = (g ++ b ∷ [], let h : y ≡ a = cc in ap (λ v. v ∷ g ++ b ∷ []) h)
stands_in (x ∷ f) [] r s a b e le = absurd (omega (arith, le))
stands_in (x ∷ f) (y ∷ g) r s a b e le =
    let h : y ≡ x = cc in
    let tails : f ++ a ∷ r ≡ g ++ b ∷ s = cc in
    let o = stands_in f g r s a b tails (omega (arith, le)) in
    (o.0, λ i. h i ∷ o.1 i)

-- the first bad byte, in the first line of a version
record HasBadHeader (text : List ℕ) : Type 0 where
  version : Version
  differs : Differs text (first_line version)
  is_bad : ¬ fronts.IsFront IsWhole (differs.front ++ differs.byte ∷ [])

-- a list with this byte behind the front is that of no book of the version
ends_by : (text : List ℕ) (version : Version) (d : Differs text (first_line version)) (more : List ℕ) (book : Book)
    → SpellsIn version ((d.front ++ d.byte ∷ []) ++ more) book → ⊥
ends_by text version d more book spells = header_ends version d.front d.others d.due d.is_line d.byte d.differs more book spells

-- nor is one with more behind it
ends_within : (text : List ℕ) (version : Version) (d : Differs text (first_line version)) (g s : List ℕ) (b : ℕ)
    → text ≡ g ++ b ∷ s → length d.front ≤ length g → (more : List ℕ) (book : Book) → SpellsIn version ((g ++ b ∷ []) ++ more) book → ⊥
ends_within text version d g s b is_text le more book spells =
    let o = stands_in d.front g d.rest s d.byte b (sym d.is_text ∙ is_text) le in
    ends_by text version d (o.0 ++ more) book
    (subst (λ v. SpellsIn version v book) (ap (λ v. v ++ more) o.1 ∙ append_assoc (d.front ++ d.byte ∷ []) o.0 more) spells)

bad_header_of : (text : List ℕ) → ((version : Version) → Differs text (first_line version)) → HasBadHeader text
bad_header_of text both = by (cases_lt (length (both Two).front) (suc (length (both One).front)))
  where
    one : Differs text (first_line One)
    one = both One

    two : Differs text (first_line Two)
    two = both Two

    by : (length two.front < suc (length one.front)) ⊎ (suc (length one.front) ≤ length two.front) → HasBadHeader text
    by (inl le) = record { version = One; differs = one; is_bad = λ f. in_version f.1.1.version f.0 f.1.0 f.1.1.spells }
      where
        in_version : (version : Version) (more : List ℕ) (book : Book) → SpellsIn version ((one.front ++ one.byte ∷ []) ++ more) book → ⊥
        in_version One more book spells = ends_by text One one more book spells
        in_version Two more book spells = ends_within text Two two one.front one.rest one.byte one.is_text (omega (arith, le)) more book spells
    by (inr less) = record { version = Two; differs = two; is_bad = λ f. in_version f.1.1.version f.0 f.1.0 f.1.1.spells }
      where
        in_version : (version : Version) (more : List ℕ) (book : Book) → SpellsIn version ((two.front ++ two.byte ∷ []) ++ more) book → ⊥
        in_version One more book spells = ends_within text One one two.front two.rest two.byte two.is_text (omega (arith, less)) more book spells
        in_version Two more book spells = ends_by text Two two more book spells

-- ---- the place of a fault

-- what is wrong with the first bad byte
data IsKind (front : List ℕ) (byte : ℕ) : LogFault → Type 0 where
  in_header : (version : Version) (others : List ℕ) (due : ℕ) → first_line version ≡ front ++ due ∷ others → IsKind front byte BadHeader
  at_trailing : IsTrailing front byte → IsKind front byte (Trailing (length front))
  at_item : (version : Version) (others : List ℕ) → front ≡ first_line version ++ others → ¬ IsTrailing front byte → IsKind front byte (BadItem (length front))

data IsFaultAt (text : List ℕ) (fault : LogFault) : Type 0 where
  at_byte : (front : List ℕ) (byte : ℕ) → IsFirstBad IsWhole text front byte → IsKind front byte fault → IsFaultAt text fault
  too_short : EndsEarly IsWhole text → fault ≡ Unfinished → IsFaultAt text fault

fault_at : (text : List ℕ) (fault : LogFault) → HasFault text fault → IsFaultAt text fault
fault_at text _ (bad_header both) =
    let o = bad_header_of text both in
    let d = o.differs in
    let spells = header_spells o.version d.front d.others d.due d.is_line in
    at_byte d.front d.byte (record {
      rest = d.rest;
      splits = d.is_text;
      good = (d.due ∷ d.others ++ finish_text Empty, (empty_book, spells));
      is_bad = o.is_bad;
    }) (in_header o.version d.others d.due d.is_line)
fault_at text _ (unfinished book byte more spells) =
    too_short (record {
      good = (byte ∷ more, (book, spells));
      is_short = λ w. whole_ends a_book text byte w (more, (book, subst (λ v. Spells v book) (sym (append_assoc text (byte ∷ []) more)) spells));
    }) refl
fault_at text _ (trailing front rest byte stands t) =
    at_byte front byte (record { rest = rest; splits = stands; good = trailing_front front byte t; is_bad = trailing_ends front byte t }) (at_trailing t)
fault_at text _ (bad_item version front rest others byte stands e is not none) =
    at_byte front byte (record {
      rest = rest;
      splits = stands;
      good = of_front front is;
      is_bad = λ f. not (front_of (front ++ byte ∷ []) f);
    }) (at_item version others e none)

-- a front of a first line is shorter than each first line
line_length : (version : Version) → length (first_line version) ≡ 9
line_length One = refl
line_length Two = refl

not_both : (version other : Version) (front others body : List ℕ) (due : ℕ) → first_line version ≡ front ++ due ∷ others
    → front ≡ first_line other ++ body → ⊥
not_both version other front others body due short long =
    omega (
      arith,
      ap length short,
      length-append front (due ∷ others),
      ap length long,
      length-append (first_line other) body,
      line_length version,
      line_length other,
    )

one_kind : (front : List ℕ) (byte : ℕ) (fault other : LogFault) → IsKind front byte fault → IsKind front byte other → fault ≡ other
one_kind front byte _ _ (in_header v o d e) (in_header w p c f) = refl
one_kind front byte _ _ (in_header v o d e) (at_trailing t) = let b = trailing_behind front byte t in absurd (not_both v b.0 front o b.1 d e b.2)
one_kind front byte _ _ (in_header v o d e) (at_item w p f n) = absurd (not_both v w front o p d e f)
one_kind front byte _ _ (at_trailing t) (in_header v o d e) = let b = trailing_behind front byte t in absurd (not_both v b.0 front o b.1 d e b.2)
one_kind front byte _ _ (at_trailing t) (at_trailing u) = refl
one_kind front byte _ _ (at_trailing t) (at_item v o e n) = absurd (n t)
one_kind front byte _ _ (at_item w p f n) (in_header v o d e) = absurd (not_both v w front o p d e f)
one_kind front byte _ _ (at_item v o e n) (at_trailing t) = absurd (n t)
one_kind front byte _ _ (at_item v o e n) (at_item w p f m) = refl

pub one_fault : (text : List ℕ) (fault other : LogFault) → HasFault text fault → HasFault text other → fault ≡ other
one_fault text fault other one two = by (fault_at text fault one) (fault_at text other two)
  where
    by : IsFaultAt text fault → IsFaultAt text other → fault ≡ other
    by (too_short early e) (too_short again f) = e ∙ sym f
    by (too_short early e) (at_byte front byte bad kind) = absurd (none_bad IsWhole text front byte early.good bad)
    by (at_byte front byte bad kind) (too_short early e) = absurd (none_bad IsWhole text front byte early.good bad)
    by (at_byte front byte bad kind) (at_byte back last worse sort) =
        let same = one_first_bad IsWhole text front back byte last bad worse in
        one_kind front byte fault other kind (subst (λ b. IsKind front b other) (sym same.1) (subst (λ f. IsKind f last other) (sym same.0) sort))

pub no_fault : (text : List ℕ) (book : Book) (fault : LogFault) → Spells text book → ¬ HasFault text fault
no_fault text book fault spells has = by (fault_at text fault has)
  where
    by : IsFaultAt text fault → ⊥
    by (too_short early e) = early.is_short (book, spells)
    by (at_byte front byte bad kind) = none_bad IsWhole text front byte (is_front IsWhole text (book, spells)) bad

-- ---- from what reading tells to a fault

early_fault : (text : List ℕ) → EndsEarly IsWhole text → HasFault text Unfinished
early_fault text early = by early.good.0 early.good.1
  where
    by : (more : List ℕ) → IsWhole (text ++ more) → HasFault text Unfinished
    by [] w = absurd (early.is_short (subst IsWhole (append-nil text) w))
    by (c ∷ more) w = unfinished w.0 c more w.1

-- a front that goes on to a text ends within the first line, or stands behind it
abbrev EndsWithin : List ℕ → List ℕ → Type 0
EndsWithin first front = (due : ℕ) × (others : List ℕ) × (first ≡ front ++ due ∷ others)

abbrev StandsBehind : List ℕ → List ℕ → Type 0
StandsBehind first front = (others : List ℕ) × (front ≡ first ++ others)

front_or_behind : (first front more rest : List ℕ) → front ++ more ≡ first ++ rest → EndsWithin first front ⊎ StandsBehind first front
front_or_behind [] front more rest e = inr (front, refl)
front_or_behind (x ∷ first) [] more rest e = inl (x, first, refl)
front_or_behind (x ∷ first) (y ∷ front) more rest e = by (front_or_behind first front more rest (cc))
  where
    same : y ≡ x
    same = cc

    by : EndsWithin first front ⊎ StandsBehind first front → EndsWithin (x ∷ first) (y ∷ front) ⊎ StandsBehind (x ∷ first) (y ∷ front)
    by (inl h) = inl (h.0, h.1, λ i. sym same i ∷ h.2 i)
    by (inr b) = inr (b.0, λ i. same i ∷ b.1 i)

-- a text and a line: one begins with the other, or they differ in a byte
data Compared (due_line text : List ℕ) : Type 0 where
  they_differ : Differs text due_line → Compared due_line text
  text_behind : (more : List ℕ) → text ≡ due_line ++ more → Compared due_line text
  text_within : (due : ℕ) (others : List ℕ) → due_line ≡ text ++ due ∷ others → Compared due_line text

compared : (due_line text : List ℕ) → Compared due_line text
compared [] text = text_behind text refl
compared (x ∷ due_line) [] = text_within x due_line refl
compared (x ∷ due_line) (y ∷ text) = by (eqb y x) refl (compared due_line text)
  where
    by : (b : Bool) → eqb y x ≡ b → Compared due_line text → Compared (x ∷ due_line) (y ∷ text)
    by false is others = they_differ (record {
      front = [];
      byte = y;
      rest = text;
      due = x;
      others = due_line;
      is_text = refl;
      is_line = refl;
      differs = λ same. let test : eqb y x ≡ true = grind (arith, nat_tests, same) in true≢false (sym test ∙ is);
    })
    by true is (they_differ d) = they_differ (record {
      front = x ∷ d.front;
      byte = d.byte;
      rest = d.rest;
      due = d.due;
      others = d.others;
      is_text = λ i. eqb-true y x is i ∷ d.is_text i;
      is_line = ap (λ v. x ∷ v) d.is_line;
      differs = d.differs;
    })
    by true is (text_behind more e) = text_behind more (λ i. eqb-true y x is i ∷ e i)
    by true is (text_within due others e) = text_within due others (λ i. sym (eqb-true y x is) i ∷ e i)

-- a bad byte of a text that begins with no first line
module _ (text front : List ℕ) (byte : ℕ) (bad : IsFirstBad IsWhole text front byte)
    (none : (version : Version) (more : List ℕ) → text ≡ first_line version ++ more → ⊥) where
  differs_from : (version : Version) → Compared (first_line version) text → Differs text (first_line version)
  differs_from version (they_differ d) = d
  differs_from version (text_behind more e) = absurd (none version more e)
  differs_from version (text_within due others e) =
      absurd (none_bad IsWhole text front byte (due ∷ others ++ finish_text Empty, (empty_book, header_spells version text others due e)) bad)

  bad_in_header : HasFault text BadHeader
  bad_in_header = bad_header (λ version. differs_from version (compared (first_line version) text))

module _ (text xs : List ℕ) (version : Version) (is_text : text ≡ first_line version ++ xs) where
  -- a first bad byte stands behind the first line
  behind_first : (front : List ℕ) (byte : ℕ) → IsFirstBad IsWhole text front byte → StandsBehind (first_line version) front
  behind_first front byte bad = by (front_or_behind (first_line version) front (byte ∷ bad.rest) xs (sym bad.splits ∙ is_text))
    where
      by : EndsWithin (first_line version) front ⊎ StandsBehind (first_line version) front → StandsBehind (first_line version) front
      by (inr b) = b
      by (inl h) =
          let same : byte ≡ h.0 = next_same front bad.rest (h.1 ++ xs) byte h.0
          (sym bad.splits ∙ (is_text ∙ (ap (λ v. v ++ xs) h.2 ∙ append_assoc front (h.0 ∷ h.1) xs))) in
          absurd (bad.is_bad (header_goes_on version front h.1 h.0 h.2 byte same))

-- the fault at a first bad byte, by whether it is trailing
byte_fault : (text front : List ℕ) (byte : ℕ) → IsFirstBad IsWhole text front byte
    → (IsTrailing front byte ⊎ ¬ IsTrailing front byte) → (fault : LogFault) × HasFault text fault
byte_fault text front byte bad (inl t) = (_, trailing front bad.rest byte bad.splits t)
byte_fault text front byte bad (inr none) =
    by (front_or_behind (first_line version) front bad.good.0
    (flat_map (entry_text version) book.entries ++ finish_text book.finish) bad.good.1.1.spells.is_text)
  where
    book : Book
    book = bad.good.1.0

    version : Version
    version = bad.good.1.1.version

    by : EndsWithin (first_line version) front ⊎ StandsBehind (first_line version) front → (fault : LogFault) × HasFault text fault
    by (inr b) = (_, bad_item version front bad.rest b.0 byte bad.splits b.1 (front_of front bad.good) (λ f. bad.is_bad (of_front (front ++ byte ∷ []) f)) none)
    by (inl h) = (
      _,
      bad_in_header text front byte bad
          (λ other more e. let b = behind_first text more other e front byte bad in not_both version other front h.1 b.0 h.0 h.2 b.1),
    )

-- at a stop behind a tree stands another byte than the newline, and at another stop nothing is trailing
module _ (text front : List ℕ) (byte : ℕ) (s : Stop BehindTree) (o : IsStopOf a_book text front byte s) where
  behind_tree : (k : BehindTree) → s.kind ≡ Some k → IsTrailing front byte
  behind_tree k is =
      let t = o.of_kind k is in
      inl (t.1.0, λ same. o.first_bad.is_bad (subst (λ b. fronts.IsFront IsWhole (front ++ b ∷ [])) (sym same) (newline_front front t.1.0)))

  not_trailing : s.kind ≡ None → ¬ IsTrailing front byte
  not_trailing none (inl t) = o.of_none none t.0.book tt (t.0, refl) t.1
  not_trailing none (inr w) = o.no_text w

  at_kind : (kind : Option BehindTree) → s.kind ≡ kind → IsTrailing front byte ⊎ ¬ IsTrailing front byte
  at_kind (Some k) is = inl (behind_tree k is)
  at_kind None is = inr (not_trailing is)

pub book_or_fault : (text : List ℕ) → length text ≤ most → ((book : Book) × Spells text book) ⊎ ((fault : LogFault) × HasFault text fault)
book_or_fault text few = by (verdict a_book text few)
  where
    by : Verdict a_book text → ((book : Book) × Spells text book) ⊎ ((fault : LogFault) × HasFault text fault)
    by (a_text book spells) = inl (book, spells)
    by (behind_text front b bad w) = inr (byte_fault text front b bad (inl (inr w)))
    by (a_stop s read (at_end none early)) = inr (Unfinished, early_fault text early)
    by (a_stop s read (at_symbol front b some o)) = inr (byte_fault text front b o.first_bad (at_kind text front b s o s.kind refl))

-- ---- what the reader answers

told : (text : List ℕ) (f : LogFault) → HasFault text f → IsFaultOf text f
told text BadHeader has = has
told text (BadItem offset) has = has
told text Unfinished has = has
told text (Trailing offset) has = has
told text NoMemory has = tt

pub header_failure : (text : List ℕ) (left : ℕ) → length text ≤ most
    → header text ≡ Err (stop left) → IsFaultOf text (header_fault left)
header_failure text left few stopped = told text (header_fault left) (by (stop_tells a_book text (stop left) few (ap (λ r. r >>= λ a. body a.0 a.1) stopped)))
  where
    no_line : (version : Version) (more : List ℕ) → text ≡ first_line version ++ more → ⊥
    no_line version more is =
        let both : ◌≡◌ {A = Read Version} (Ok (version, more)) (Err (stop left)) = sym (header_again version more) ∙ (ap header (sym is) ∙ stopped) in absurd (cc)

    by : Tells a_book text (stop left) → HasFault text (header_fault left)
    by (at_end none early) = subst (λ b. HasFault text (cond b Unfinished BadHeader)) (sym (ap (λ k. eqb k 0) none)) (early_fault text early)
    by (at_symbol front b some o) =
        let not_zero : eqb left 0 ≡ false = grind (arith, nat_tests, some) in
        subst (λ b. HasFault text (cond b Unfinished BadHeader)) (sym not_zero) (bad_in_header text front b o.first_bad no_line)

reads_on : (text xs : List ℕ) (version : Version) → text ≡ first_line version ++ xs → read_book text ≡ body version xs
reads_on text xs version is_text = ap read_book is_text ∙ ap (λ r. r >>= λ a. body a.0 a.1) (header_again version xs)

pub body_failure : (version : Version) (text xs : List ℕ) (f : Failure) → text ≡ first_line version ++ xs → length text ≤ most
    → Fails f (body version xs) → IsFaultOf text (failure_fault (length text) f)
body_failure version text xs failure.NoMemory is_text few fails = tt
body_failure version text xs (failure.Stopped s) is_text few fails =
    told text (stop_fault (length text) s) (by
    (stop_tells a_book text (stop_seen s) few (reads_on text xs version is_text ∙ fails)))
  where
    fault_is : (b z : Bool) → eqb s.left 0 ≡ z → s.behind_tree ≡ b
        → stop_fault (length text) s ≡ cond z Unfinished
        (cond b (Trailing (length text - s.left)) (BadItem (length text - s.left)))
    fault_is b z none tree = λ i. cond (none i) Unfinished (cond (tree i) (Trailing (length text - s.left)) (BadItem (length text - s.left)))

    at : (front : List ℕ) (byte : ℕ) → 0 < s.left → IsStopOf a_book text front byte (stop_seen s) → (tree : Bool)
        → s.behind_tree ≡ tree → HasFault text (stop_fault (length text) s)
    at front byte some o tree is = subst (HasFault text) (sym (fault_is tree false not_zero is)) (of_kind tree is)
      where
        not_zero : eqb s.left 0 ≡ false
        not_zero = grind (arith, nat_tests, some)

        place : length front ≡ length text - s.left
        place = let left = o.left in omega (arith, left)

        kind : (b : Bool) → s.behind_tree ≡ b → (stop_seen s).kind ≡ cond b (Some tt) None
        kind b is = ap (λ b. cond b (Some tt) None) is

        of_kind : (b : Bool) → s.behind_tree ≡ b → HasFault text (cond b (Trailing (length text - s.left)) (BadItem (length text - s.left)))
        of_kind true is = subst (λ k. HasFault text (Trailing k)) place
            (trailing front o.first_bad.rest byte o.first_bad.splits
            (behind_tree text front byte (stop_seen s) o tt (kind true is)))
        of_kind false is =
            let b = behind_first text xs version is_text front byte o.first_bad in
            subst (λ k. HasFault text (BadItem k)) place
            (bad_item version front o.first_bad.rest b.0 byte o.first_bad.splits b.1 (front_of front o.first_bad.good)
            (λ f. o.first_bad.is_bad (of_front (front ++ byte ∷ []) f))
            (not_trailing text front byte (stop_seen s) o (kind false is)))

    by : Tells a_book text (stop_seen s) → HasFault text (stop_fault (length text) s)
    by (at_end none early) = subst (HasFault text) (sym (fault_is s.behind_tree true (ap (λ k. eqb k 0) none) refl)) (early_fault text early)
    by (at_symbol front byte some o) = at front byte some o s.behind_tree refl

pub body_left : (version : Version) (text xs : List ℕ) (f : Failure) → text ≡ first_line version ++ xs → length text ≤ most
    → Fails f (body version xs) → IsLeft f (length text)
body_left version text xs failure.NoMemory is_text few fails = tt
body_left version text xs (failure.Stopped s) is_text few fails = by (stop_tells a_book text (stop_seen s) few (reads_on text xs version is_text ∙ fails))
  where
    by : Tells a_book text (stop_seen s) → s.left ≤ length text
    by (at_end none early) = omega (arith, none)
    by (at_symbol front b some o) = omega (arith, o.left)

module _ (version : Version) (text xs rest : List ℕ) (book : Book) (is_text : text ≡ first_line version ++ xs) (few : length text ≤ most)
    (read : body version xs ≡ Ok (book, rest)) where
  spelt : (front : List ℕ) × (text ≡ front ++ rest) × Spells front book
  spelt = read_tells a_book text rest book few (reads_on text xs version is_text ∙ read)

  pub rest_left : length rest ≤ length text
  rest_left = omega (arith, ap length spelt.1, length-append spelt.0 rest)

  pub book_read : length rest ≡ 0 → Spells text book
  book_read none = by rest refl
    where
      by : (left : List ℕ) → rest ≡ left → Spells text book
      by [] is = subst (λ v. Spells v book) (sym (spelt.1 ∙ (ap (λ v. spelt.0 ++ v) is ∙ append-nil spelt.0))) spelt.2
      by (b ∷ tail) is = absurd (omega (arith, none, ap length is))

  pub more_read : 0 < length rest → HasFault text (Trailing (length text - length rest))
  more_read some = by rest refl
    where
      by : (left : List ℕ) → rest ≡ left → HasFault text (Trailing (length text - length rest))
      by [] none = absurd (omega (arith, some, ap length none))
      by (b ∷ tail) at =
          let count : length text - length rest ≡ length spelt.0 = omega (arith, ap length spelt.1, length-append spelt.0 rest) in
          subst (λ k. HasFault text (Trailing k)) (sym count) (trailing spelt.0 tail b (spelt.1 ∙ ap (λ v. spelt.0 ++ v) at) (inr (book, spelt.2)))

-- no text is a book of both versions
pub one_version : (text : List ℕ) (version other : Version) (book another : Book) → SpellsIn version text book → SpellsIn other text another → version ≡ other
one_version text version other book another one two =
    let behind = flat_map (entry_text version) book.entries ++ finish_text book.finish in
    let others = flat_map (entry_text other) another.entries ++ finish_text another.finish in
    let both : ◌≡◌ {A = Read Version} (Ok (version, behind)) (Ok (other, others)) =
    sym (header_again version behind) ∙ (ap header (sym one.is_text ∙ two.is_text) ∙ header_again other others) in
    let pair : ◌≡◌ {A = Version × List ℕ} (version, behind) (other, others) = cc in
    ap (λ (p : Version × List ℕ). p.0) pair

-- an answer that tells the book or the fault is the one that is due
pub due_book : (text : List ℕ) (r : Result Book LogFault) → IfOk r (λ book. Spells text book)
    → IfErr r (IsFaultOf text) → (book : Book) → Spells text book → Answers (Ok book) r
due_book text (Ok found) tells fault book spells = inl (ap (λ b. Ok b) (one_book text found book tells spells))
due_book text (Err BadHeader) tells fault book spells = absurd (no_fault text book BadHeader spells fault)
due_book text (Err (BadItem offset)) tells fault book spells = absurd (no_fault text book (BadItem offset) spells fault)
due_book text (Err Unfinished) tells fault book spells = absurd (no_fault text book Unfinished spells fault)
due_book text (Err (Trailing offset)) tells fault book spells = absurd (no_fault text book (Trailing offset) spells fault)
due_book text (Err NoMemory) tells fault book spells = inr refl

pub due_fault : (text : List ℕ) (r : Result Book LogFault) → IfOk r (λ book. Spells text book)
    → IfErr r (IsFaultOf text) → (fault : LogFault) → HasFault text fault → Answers (Err fault) r
due_fault text (Ok found) tells told fault has = absurd (no_fault text found fault tells has)
due_fault text (Err BadHeader) tells told fault has = inl (ap (λ f. Err f) (one_fault text BadHeader fault told has))
due_fault text (Err (BadItem offset)) tells told fault has = inl (ap (λ f. Err f) (one_fault text (BadItem offset) fault told has))
due_fault text (Err Unfinished) tells told fault has = inl (ap (λ f. Err f) (one_fault text Unfinished fault told has))
due_fault text (Err (Trailing offset)) tells told fault has = inl (ap (λ f. Err f) (one_fault text (Trailing offset) fault told has))
due_fault text (Err NoMemory) tells told fault has = inr refl
