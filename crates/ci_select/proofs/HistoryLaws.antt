-- What an entry more makes of what the entries before it say.
use Rattle.std.proofs.Common.{◌≡◌, ℕ, true, false, List, ◌∷◌, length, Some, refl, sym, ap, ◌∙◌}
use Rattle.std.specs.Prelude.{filter, if◌then◌else◌}
use Rattle.std.specs.FinSet as finite
use Rattle.std.specs.Ordering.{nat_cmp}
use Rattle.std.proofs.lemmas.Bool.{eq-eqb}
use Rattle.ci_log.specs.declared.book.Entry.{Entry}
use Rattle.ci_log.specs.declared.book.Entry.TheVariants.{Best}
use Rattle.ci_log.specs.declared.log.Item.{Item}
use Rattle.ci_select.specs.Histories.{History, HasCut, is_search_of, is_take, last_search, round}

-- an entry that is no search of the block leaves its last search as it was,
pub last_search_stays :
    (entry : Entry) (history : History) (leader : ℕ) → is_search_of leader entry ≡ false
    → last_search (entry ∷ history) leader ≡ last_search history leader
last_search_stays entry history leader other = ap (λ b. if b then Some entry else last_search history leader) other

-- and one that is becomes the last one
pub last_search_is :
    (entry : Entry) (history : History) (leader : ℕ) → is_search_of leader entry ≡ true
    → last_search (entry ∷ history) leader ≡ Some entry
last_search_is entry history leader its = ap (λ b. if b then Some entry else last_search history leader) its

-- so it keeps its cut behind an entry that is no search of it,
pub keeps_cut :
    {entry : Entry} {history : History} {leader : ℕ} {cut : finite.FinSet nat_cmp}
    → is_search_of leader entry ≡ false → HasCut history leader cut → HasCut (entry ∷ history) leader cut
keeps_cut {entry} {history} {leader} other has =
    record { log = has.log; found = last_search_stays entry history leader other ∙ has.found }

-- and had it before
pub kept_cut :
    {entry : Entry} {history : History} {leader : ℕ} {cut : finite.FinSet nat_cmp}
    → is_search_of leader entry ≡ false → HasCut (entry ∷ history) leader cut → HasCut history leader cut
kept_cut {entry} {history} {leader} other has =
    record { log = has.log; found = sym (last_search_stays entry history leader other) ∙ has.found }

-- a search that finds a cut gives it to the block
pub new_cut :
    {history : History} {leader : ℕ} {cut : finite.FinSet nat_cmp} {log : List Item}
    → HasCut (Best leader cut log ∷ history) leader cut
new_cut {history} {leader} {cut} {log} =
    record { log = log; found = last_search_is (Best leader cut log) history leader (eq-eqb leader leader refl) }

-- an entry that is no take leaves the round as it was
pub round_stays : (entry : Entry) (history : History) → is_take entry ≡ false → round (entry ∷ history) ≡ round history
round_stays entry history search =
    ap (λ b. length (if b then entry ∷ filter is_take history else filter is_take history)) search

-- a block has one cut at most
pub cut_is_one :
    {history : History} {leader : ℕ} {left right : finite.FinSet nat_cmp}
    → HasCut history leader left → HasCut history leader right → left ≡ right
cut_is_one {left = left} {right = right} first second = same first.log second.log (sym first.found ∙ second.found)
  where
    same : {leader : ℕ} (one two : List Item) → Some (Best leader left one) ≡ Some (Best leader right two) → left ≡ right
    same one two equal = cc
