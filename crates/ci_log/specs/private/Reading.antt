-- For private contracts: what the reader computes. The public definitions are in Books and Faults. Each function reads
-- what stands at the beginning of a list of bytes, and gives it with the bytes behind it.
use Rattle.std.specs.Prelude.{◌≡◌, ℕ, zero, suc, ◌+◌, ◌-◌, ◌≤◌, ◌==◌, true, if◌then◌else◌}
use Rattle.std.specs.Prelude.{List, [], ◌∷◌, length, Option, Some, None, Result, Ok, Err}
use Rattle.std.specs.Ordering.{nat_cmp}
use Rattle.std.specs.FinSet as set
use Rattle.ci_reading.specs.declared.fields.Numbers.{Numbers}
use Rattle.ci_reading.specs.LineReading as reading
use Rattle.ci_reading.specs.LineReading.{◌>>=◌, view, stop, stop_of, begins_with, word, repetition}
use Rattle.ci_reading.specs.Fields.{found_before, number}
use Rattle.ci_log.specs.declared.log.Item.{Item}
use Rattle.ci_log.specs.declared.log.Item.TheVariants.{B, O, C, I, G, F}
use Rattle.ci_log.specs.declared.faults.LogFault.{LogFault}
use Rattle.ci_log.specs.declared.faults.LogFault.TheVariants as fault
use Rattle.ci_log.specs.declared.faults.Stop.{Stop}
use Rattle.ci_log.specs.declared.faults.Failure.{Failure}
use Rattle.ci_log.specs.declared.faults.Failure.TheVariants as failure

-- the one kind of stop: directly behind a whole tree, where a newline is due
abbrev pub BehindTree : Type 0
BehindTree = Unit {0}

abbrev pub Read : Type 0 → Type 0
Read A = reading.Read ℕ BehindTree A

abbrev pub stop_seen : Stop → reading.Stop BehindTree
stop_seen s = record { left = s.left; kind = (if s.behind_tree then Some tt else None) }

-- what a function returned, seen by `view`, is what reading gives, unless memory ran out
abbrev pub Fails : {Y : Type 0} → Failure → Result Y (reading.Stop BehindTree) → Type 0
Fails failure.NoMemory read = Unit {0}
Fails (failure.Stopped s) read = read ≡ Err (stop_seen s)

abbrev pub Gives : {X Y : Type 0} → (X → Y) → Result X Failure → Result Y (reading.Stop BehindTree) → Type 0
Gives view (Ok x) read = read ≡ Ok (view x)
Gives view (Err e) read = Fails e read

-- ---- cuts

abbrev pub nodes_from : ℕ → Numbers
nodes_from low = record { low = low; high = 255; end = 10; listed = true }

-- at most so many numbers from this one on, each greater than the one before it
unfoldable pub nodes : ℕ → ℕ → List ℕ → Read (List ℕ)
nodes zero low xs = Err (stop (length xs))
nodes (suc count) low xs = number (nodes_from low) xs >>= λ n.
    if n.0.1 == 10 then Ok (n.0.0 ∷ [], n.1)
    else (nodes count (n.0.0 + 1) n.1 >>= λ others. Ok (n.0.0 ∷ others.0, others.1))

-- the set with these numbers put in
abbrev pub with_numbers : set.FinSet nat_cmp → List ℕ → set.FinSet nat_cmp
with_numbers cut [] = cut
with_numbers cut (n ∷ numbers) = with_numbers (set.insert cut n) numbers

abbrev pub set_of : Read (List ℕ) → Read (set.FinSet nat_cmp)
set_of read = view (with_numbers set.empty) read

-- ---- logs

abbrev pub item_of : ℕ → Option Item
item_of x =
    if x == 66 then Some B
    else (if x == 79 then Some O
    else (if x == 67 then Some C
    else (if x == 73 then Some I
    else (if x == 71 then Some G
    else (if x == 70 then Some F
    else None)))))

abbrev pub item : List ℕ → Read Item
item [] = Err (stop 0)
item (x ∷ xs) = found_before (length (x ∷ xs)) xs (item_of x)

-- how many trees are due behind the item, where so many are due besides its own
abbrev pub due_after : Item → ℕ → ℕ
due_after B due = suc (suc due)
due_after O due = due
due_after C due = due
due_after I due = due
due_after G due = due
due_after F due = due

abbrev pub with_item : ℕ → (Item → Read (List Item)) → Option Item → Read (List Item)
with_item left others None = Err (stop left)
with_item left others (Some i) = others i >>= λ x. Ok (i ∷ x.0, x.1)

-- so many trees
unfoldable pub trees : ℕ → List ℕ → Read (List Item)
trees zero xs = Ok ([], xs)
trees (suc due) [] = Err (stop 0)
trees (suc due) (x ∷ xs) = with_item (length (x ∷ xs)) (λ i. trees (due_after i due) xs) (item_of x)

abbrev pub tree_end : List ℕ → Read (Unit {0})
tree_end [] = Err (stop_of tt 0)
tree_end (x ∷ xs) = if x == 10 then Ok (tt, xs) else Err (stop_of tt (length (x ∷ xs)))

-- ---- faults

-- the fault of a text of this length in which reading behind the first line stopped
abbrev pub stop_fault : ℕ → Stop → LogFault
stop_fault total s =
    if s.left == 0 then fault.Unfinished
    else (if s.behind_tree then fault.Trailing (total - s.left) else fault.BadItem (total - s.left))

-- no more bytes are left than there are
abbrev pub IsLeft : Failure → ℕ → Type 0
IsLeft failure.NoMemory total = Unit {0}
IsLeft (failure.Stopped s) total = s.left ≤ total

abbrev pub failure_fault : ℕ → Failure → LogFault
failure_fault total failure.NoMemory = fault.NoMemory
failure_fault total (failure.Stopped s) = stop_fault total s

abbrev pub header_fault : ℕ → LogFault
header_fault left = if left == 0 then fault.Unfinished else fault.BadHeader
