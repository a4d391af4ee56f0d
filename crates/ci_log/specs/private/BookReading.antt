-- For private contracts: what the reader of books computes, in each version. Each function reads what stands at the
-- beginning of a list of bytes, and gives it with the bytes behind it.
use Rattle.std.specs.Prelude.{ℕ, ◌==◌, false, if◌then◌else◌, List, [], ◌∷◌, ◌++◌, codes, Ok}
use Rattle.ci_reading.specs.declared.fields.Numbers.{Numbers}
use Rattle.ci_reading.specs.LineReading.{◌>>=◌, view, begins_with, word, repetition}
use Rattle.ci_reading.specs.Fields.{address, number_alone}
use Rattle.ci_log.specs.declared.log.Item.{Item}
use Rattle.ci_log.specs.declared.book.Version.{Version}
use Rattle.ci_log.specs.declared.book.Version.TheVariants.{One, Two}
use Rattle.ci_log.specs.declared.book.Entry.{Entry}
use Rattle.ci_log.specs.declared.book.Entry.TheVariants.{Best, Without, Spent, Take}
use Rattle.ci_log.specs.declared.book.Finish.{Finish}
use Rattle.ci_log.specs.declared.book.Finish.TheVariants.{Empty, Count}
use Rattle.ci_log.specs.Books.{Book}
use Rattle.ci_log.specs.private.Reading.{Read, nodes, set_of, trees, tree_end}
use Rattle.ci_log.specs.private.PackedReading.{opening, packed_trees}

-- ---- logs

abbrev pub tree_in : Version → List ℕ → Read (List Item)
tree_in One xs = trees 1 xs
tree_in Two xs = packed_trees xs opening

unfoldable pub tree_line : Version → List ℕ → Read (List Item)
tree_line version xs = tree_in version xs >>= λ items. tree_end items.1 >>= λ end. Ok (items.0, end.1)

-- ---- entries

unfoldable pub best : Version → ℕ → List ℕ → Read Entry
best version leader xs = word (codes "best ") xs >>= λ a. set_of (nodes 256 0 a.1) >>= λ cut.
    tree_line version cut.1 >>= λ log. Ok (Best leader cut.0 log.0, log.1)

unfoldable pub without : Version → ℕ → List ℕ → Read Entry
without version leader xs = word (codes "none\n") xs >>= λ a. tree_line version a.1 >>= λ log.
    Ok (Without leader log.0, log.1)

abbrev pub budgets : Numbers
budgets = record { low = 0; high = 9999999; end = 10; listed = false }

unfoldable pub spent : ℕ → List ℕ → Read Entry
spent leader xs = word (codes "spent ") xs >>= λ a. view (Spent leader) (number_alone budgets a.1)

abbrev pub search_of : Version → ℕ → List ℕ → Read Entry
search_of version leader xs =
    if begins_with 98 xs then best version leader xs
    else (if begins_with 110 xs then without version leader xs else spent leader xs)

unfoldable pub search : Version → List ℕ → Read Entry
search version xs = word (codes "block ") xs >>= λ a. address 8 0 a.1 >>= λ leader. word (codes " ") leader.1
    >>= λ b. search_of version leader.0 b.1

abbrev pub units : Numbers
units = record { low = 0; high = 31; end = 10; listed = false }

unfoldable pub take : List ℕ → Read Entry
take xs = word (codes "take ") xs >>= λ a. address 8 0 a.1 >>= λ leader. word (codes " unit ") leader.1 >>= λ b.
    view (Take leader.0) (number_alone units b.1)

unfoldable pub round : Version → List ℕ → Read (List Entry)
round version xs = take xs >>= λ t. search version t.1 >>= λ s. Ok (t.0 ∷ s.0 ∷ [], s.1)

unfoldable pub finish : List ℕ → Read Finish
finish xs = word (codes "end ") xs >>= λ a.
    if begins_with 110 a.1 then (word (codes "none\n") a.1 >>= λ b. Ok (Empty, b.1))
    else (word (codes "count\n") a.1 >>= λ b. Ok (Count, b.1))

abbrev pub one_search : Version → List ℕ → Read (List Entry)
one_search version xs = view (λ s. s ∷ []) (search version xs)

abbrev pub searches : Version → List ℕ → Read (List Entry)
searches version xs = repetition (λ x. x == 98) (one_search version) xs

abbrev pub rounds : Version → List ℕ → Read (List Entry)
rounds version xs = repetition (λ x. x == 116) (round version) xs

-- ---- books

-- the first line
unfoldable pub header : List ℕ → Read Version
header xs = word (codes "ci-log ") xs >>= λ a.
    if begins_with 49 a.1 then (word (codes "1\n") a.1 >>= λ b. Ok (One, b.1))
    else (word (codes "2\n") a.1 >>= λ b. Ok (Two, b.1))

unfoldable pub body : Version → List ℕ → Read Book
body version xs = searches version xs >>= λ s. rounds version s.1 >>= λ r. finish r.1 >>= λ f.
    Ok (record { entries = s.0 ++ r.0; finish = f.0 }, f.1)
