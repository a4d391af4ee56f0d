-- Rows of the definitions that compute: a book of one block that is taken once.
use Rattle.std.specs.Prelude.{◌≡◌, refl, [], ◌∷◌, Some, None}
use Rattle.std.specs.FinSet as finite
use Rattle.ci_log.specs.declared.book.Entry.{Entry}
use Rattle.ci_log.specs.declared.book.Entry.TheVariants.{Best, Without, Spent, Take}
use Rattle.ci_log.specs.declared.log.Item.TheVariants.{F, G}
use Rattle.ci_select.specs.Histories.{History, round, last_search, HasCut}
use Rattle.ci_select.specs.Instances.{Instance}
use Rattle.ci_select.specs.Dues.{IsSearchDue, after_take}

-- the block at 4 was searched, taken and searched again; that at 8 was given up between
abbrev searched : Entry
searched = Best 4 finite.empty (F ∷ [])

abbrev given_up : Entry
given_up = Spent 8 1

abbrev history : History
history = Without 4 (G ∷ []) ∷ Take 4 0 ∷ given_up ∷ searched ∷ []

one_take : round history ≡ 1
one_take = refl

none_before : round (given_up ∷ searched ∷ []) ≡ 0
none_before = refl

-- the later search counts
later_search : last_search history 4 ≡ Some (Without 4 (G ∷ []))
later_search = refl

earlier_search : last_search (Take 4 0 ∷ given_up ∷ searched ∷ []) 4 ≡ Some searched
earlier_search = refl

skipped : last_search history 8 ≡ Some given_up
skipped = refl

never_searched : last_search history 12 ≡ None
never_searched = refl

-- before the take the block has a cut, and behind it a search is due
has_cut : HasCut (given_up ∷ searched ∷ []) 4 finite.empty
has_cut = record { log = F ∷ []; found = refl }

search_due : (instance : Instance) → IsSearchDue instance (Take 4 0 ∷ given_up ∷ searched ∷ []) 4
search_due instance = after_take
