-- For private contracts: what `accept` answers of one entry, and of the end.
use Rattle.std.specs.Prelude.{◌≡◌, ℕ, ◌⊎◌, ◌∷◌, Option, Some, None}
use Rattle.ci_cut.specs.FlowGraph.{FlowGraph}
use Rattle.ci_log.specs.declared.book.Entry.{Entry}
use Rattle.ci_log.specs.declared.book.Finish.{Finish}
use Rattle.ci_select.specs.declared.acceptance.Wrong.{Wrong}
use Rattle.ci_select.specs.declared.plan.Plan.{Plan}
use Rattle.ci_select.specs.declared.rounds.Due.{Due}
use Rattle.ci_select.specs.declared.rounds.Due.TheVariants as due
use Rattle.ci_select.specs.declared.rounds.Rounds.{Rounds}
use Rattle.ci_select.specs.Histories.{History, leader_of, round}
use Rattle.ci_select.specs.LegalBooks.{IsRight, IsSearched}
use Rattle.ci_select.specs.WrongPlaces.{Place, HasWrongLog, IsOtherSearch, IsWrongPart, place, entry as part_of}
use Rattle.ci_select.specs.private.Followed.{Follows, instance_in}

-- what is wrong, in this round
abbrev pub is_at : Wrong → ℕ → Place
is_at wrong at_round = place at_round wrong.leader wrong.item wrong.reason

-- The entry is right and was followed, or this is wrong of it and nothing was.
abbrev pub IsJudged : Rounds → Rounds → Entry → Option Wrong → Type 0
IsJudged before after entry None =
    (history : History) → Follows history before
    → IsRight (instance_in before) history entry × Follows (entry ∷ history) after
IsJudged before after entry (Some wrong) =
    (history : History) → Follows history before
    → IsWrongPart (instance_in before) history (part_of entry) (is_at wrong (round history))
    × Follows history after

-- the entry is that of the search of the block, or this is wrong of it
abbrev pub IsSearchJudged : FlowGraph → Plan → ℕ → Entry → Option Wrong → Type 0
IsSearchJudged graph plan leader entry None = (leader_of entry ≡ leader) × IsSearched graph plan entry
IsSearchJudged graph plan leader entry (Some wrong) =
    (wrong.leader ≡ leader)
    × (HasWrongLog leader graph plan (part_of entry) (record { item = wrong.item; reason = wrong.reason })
    ⊎ (IsOtherSearch leader graph plan (part_of entry) × (wrong.item ≡ 0) × (wrong.reason ≡ 8)))

-- what is wrong of the end of a book, where this is due
abbrev pub IsEndJudged : Due → Finish → Option Wrong → Type 0
IsEndJudged what finish None = what ≡ due.End finish
IsEndJudged (due.Search leader) finish (Some wrong) = wrong ≡ record { leader = leader; item = 0; reason = 8 }
IsEndJudged (due.Take leader unit) finish (Some wrong) = wrong ≡ record { leader = leader; item = 0; reason = 9 }
IsEndJudged (due.End other) finish (Some wrong) =
    (¬ (other ≡ finish)) × (wrong ≡ record { leader = 0; item = 0; reason = 10 })
