-- One unit or one entry more adds its line.
use Rattle.std.proofs.Common.{◌≡◌, ◌∙◌, ◌++◌, ℕ, suc, zero, ◌+◌, ◌<◌, List, [], ◌∷◌, length, filter, take, drop, get_or}
use Rattle.std.proofs.Common.{reverse, false, true≢false, refl, sym, ap, subst, append_assoc, append-nil, arith}
use Rattle.std.specs.FinSet as finite
use Rattle.std.proofs.lemmas.List.{length-append, take_more, take-append-drop, reverse-append}
use Rattle.std.proofs.lemmas.List.Elements.{filter-append}
use Rattle.ci_log.specs.declared.book.Entry.{Entry}
use Rattle.ci_log.specs.declared.book.Entry.TheVariants.{Take}
use Rattle.ci_unit.specs.Units.{Unit}
use Rattle.ci_select.specs.declared.taken.Taken.{Taken}
use Rattle.ci_select.specs.Histories.{History, is_take, round}
use Rattle.ci_select.specs.Instances.{Instance}
use Rattle.ci_select.proofs.HistoryLaws.{round_stays}
use Rattle.ci_select.specs.Takes.{AreTaken, IsTaken, none, of_search, of_take as more_taken}
use Rattle.ci_report.specs.Lines.{cut_line, unit_line}
use Rattle.ci_report.specs.Reports.{IsEntryLine, more, of_take, unit_lines, uses_of}
use Rattle.ci_report.specs.private.Added.{AddsLines}

-- ---- units

pub one_unit_more :
    (entries : List Entry) (number : ℕ) (units : List Unit) (k : ℕ) (unit : Unit)
    → k < length units → unit ≡ get_or units k unit
    → unit_lines entries number (take (k + 1) units)
    ≡ unit_lines entries number (take k units) ++ unit_line (number + k) unit (uses_of entries (number + k))
one_unit_more entries number [] k unit within is = absurd (omega arith)
one_unit_more entries number (first ∷ units) zero unit within is =
    let lines = λ (u : Unit) (n : ℕ). unit_line n u (uses_of entries n) in
    let same : number ≡ number + 0 = omega arith in
    append-nil (lines first number) ∙ (λ i. lines (sym is i) (same i))
one_unit_more entries number (first ∷ units) (suc k) unit within is =
    let line = λ (n : ℕ). unit_line n unit (uses_of entries n) in
    let here = unit_line number first (uses_of entries number) in
    let behind = unit_lines entries (suc number) (take k units) in
    let same : suc number + k ≡ number + suc k = omega arith in
    let one_more : suc k + 1 ≡ suc (k + 1) = omega arith in
    ap (λ n. unit_lines entries number (take n (first ∷ units))) one_more
    ∙ ap (λ lines. here ++ lines)
    (one_unit_more entries (suc number) units k unit (omega arith) is ∙ (λ i. behind ++ line (same i)))
    ∙ sym (append_assoc here behind (line (number + suc k)))

-- ---- entries and takes

-- the items up to one, the newest first
pub one_item_more :
    {A : Type 0} (items : List A) (k : ℕ) (item : A) → k < length items → item ≡ get_or items k item
    → reverse (take (k + 1) items) ≡ item ∷ reverse (take k items)
one_item_more items k item within is =
    ap reverse (take_more items k item within) ∙ reverse-append (take k items) (get_or items k item ∷ [])
    ∙ ap (λ i. i ∷ reverse (take k items)) (sym is)

-- there is one cut for each take,
pub as_many_taken :
    {instance : Instance} {history : History} {takes : List Taken} → AreTaken instance history takes
    → length takes ≡ round history
as_many_taken none = refl
as_many_taken (of_search {history = history} {entry = entry} search before) =
    as_many_taken before ∙ sym (round_stays entry history search)
as_many_taken (more_taken before is) = ap suc (as_many_taken before)

-- and those before one of them are fewer than all
pub fewer_before :
    (entries : List Entry) (k leader unit : ℕ) → k < length entries
    → Take leader unit ≡ get_or entries k (Take leader unit)
    → round (reverse (take k entries)) < round (reverse entries)
fewer_before entries k leader unit within is =
    let later = reverse (drop (k + 1) entries) in
    let history : List Entry = Take leader unit ∷ reverse (take k entries) in
    let split : reverse entries ≡ later ++ history =
    ap reverse (sym (take-append-drop (k + 1) entries))
    ∙ reverse-append (take (k + 1) entries) (drop (k + 1) entries)
    ∙ ap (λ up_to. later ++ up_to) (one_item_more entries k (Take leader unit) within is) in
    omega (
      arith,
      ap round split,
      ap length (filter-append is_take later history),
      length-append (filter is_take later) (filter is_take history),
    )

-- the line of a take
line_of_taken :
    {instance : Instance} {history : History} {leader unit : ℕ} {taken : Taken}
    → IsTaken instance history leader unit taken
    → IsEntryLine instance history (Take leader unit)
    (cut_line taken.round taken.leader taken.unit taken.gain taken.entries (finite.contains taken.cut) taken.word)
line_of_taken {instance} {history} {leader} {unit} {taken} is =
    let line = λ (round l k entries : ℕ).
    cut_line round l k taken.gain entries (finite.contains taken.cut) taken.word in
    subst (IsEntryLine instance history (Take leader unit))
    (λ i. line (sym is.round_is i) (sym is.leader_is i) (sym is.unit_is i) (sym is.entries_are i))
    (of_take is.has_cut is.gain_is is.word_is)

-- the lines of the entries before, and the line of one entry more
one_line_more :
    {instance : Instance} {history : History} {entry : Entry} {start before after added : List ℕ}
    → AddsLines instance history start before → IsEntryLine instance history entry added → after ≡ before ++ added
    → AddsLines instance (entry ∷ history) start after
one_line_more {start = start} {added = added} lines line appended = record {
  lines = lines.lines ++ added;
  are_lines = more lines.are_lines line;
  text_is = appended ∙ ap (λ text. text ++ added) lines.text_is ∙ append_assoc start lines.lines added;
}

-- for whatever instance the cuts are those of the entries
abbrev pub AddLinesOf : History → List Taken → List ℕ → List ℕ → Type 0
AddLinesOf history takes before after =
    (instance : Instance) → AreTaken instance history takes → AddsLines instance history before after

-- a search adds its line,
pub search_adds_line :
    {history : History} {takes : List Taken} {start before after : List ℕ} (entry : Entry) (added : List ℕ)
    → is_take entry ≡ false → ((instance : Instance) → IsEntryLine instance history entry added)
    → AddLinesOf history takes start before → after ≡ before ++ added
    → AddLinesOf (entry ∷ history) takes start after
search_adds_line entry added search line lines appended instance (of_search same told) =
    one_line_more (lines instance told) (line instance) appended
search_adds_line entry added search line lines appended instance (more_taken told is) = absurd (true≢false search)

-- and so does a take
pub take_adds_line :
    {history : History} {takes : List Taken} {start before after : List ℕ} (leader unit : ℕ) (taken : Taken)
    → AddLinesOf history takes start before
    → after
    ≡ before
    ++ cut_line taken.round taken.leader taken.unit taken.gain taken.entries (finite.contains taken.cut) taken.word
    → AddLinesOf (Take leader unit ∷ history) (taken ∷ takes) start after
take_adds_line leader unit taken lines appended instance (of_search same told) = absurd (true≢false same)
take_adds_line leader unit taken lines appended instance (more_taken told is) =
    one_line_more (lines instance told) (line_of_taken is) appended
