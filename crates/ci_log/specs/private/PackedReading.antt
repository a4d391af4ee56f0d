-- For private contracts: what the reader of packed trees computes, and the half bytes behind a leaf.
use Rattle.std.specs.Prelude.{ℕ, suc, ◌-◌, ◌/◌, ◌%◌, ◌==◌, nat_lt, false, not, ◌||◌}
use Rattle.std.specs.Prelude.{if◌then◌else◌, List, [], ◌∷◌, ◌++◌, length, replicate, Option, Some, None, Ok, Err}
use Rattle.ci_reading.specs.LineReading.{view, stop}
use Rattle.ci_reading.specs.Fields.{found_before}
use Rattle.ci_log.specs.declared.log.Item.{Item}
use Rattle.ci_log.specs.declared.log.Item.TheVariants.{B, O, C, I, G, F}
use Rattle.ci_log.specs.declared.packed.Place.{Place}
use Rattle.ci_log.specs.declared.packed.Step.{Step}
use Rattle.ci_log.specs.declared.packed.Pair.{Pair}
use Rattle.ci_log.specs.Packed.{half_byte, are_equal_leaves, more_leaves}
use Rattle.ci_log.specs.private.Reading.{Read, due_after}

-- the item of a half byte below 6
abbrev pub item_at : ℕ → Item
item_at x =
    if x == 0 then B
    else (if x == 1 then O
    else (if x == 2 then C
    else (if x == 3 then I
    else (if x == 4 then G
    else F))))

-- where a tree begins
abbrev pub opening : Place
opening = record { due = 1; last = B; in_run = false }

-- an item that makes no run longer
abbrev pub item_step : Place → Item → Option Step
item_step p i =
    if are_equal_leaves p.last i then None
    else Some (record {
      item = i;
      count = 1;
      next = record { due = due_after i (p.due - 1); last = i; in_run = nat_lt 0 (half_byte i) };
    })

-- so many more leaves
abbrev pub run_step : Place → ℕ → Option Step
run_step p more =
    if not p.in_run || nat_lt p.due more then None
    else Some (record {
      item = p.last;
      count = more;
      next = record { due = p.due - more; last = p.last; in_run = more == 10 };
    })

abbrev pub half_step : Place → ℕ → Option Step
half_step p half = if nat_lt half 6 then item_step p (item_at half) else run_step p (half - 5)

abbrev pub low_step : Place → ℕ → Option Step
low_step p half =
    if nat_lt 0 p.due then half_step p half
    else (if half == 0 then Some (record { item = p.last; count = 0; next = p }) else None)

abbrev pub with_low : Step → Option Step → Option Pair
with_low high None = None
with_low high (Some low) = Some (record { high = high; low = low })

abbrev pub then_low : ℕ → Option Step → Option Pair
then_low half None = None
then_low half (Some high) = with_low high (low_step high.next half)

abbrev pub byte_step : Place → ℕ → Option Pair
byte_step p byte = if nat_lt byte 256 then then_low (byte % 16) (half_step p (byte / 16)) else None

abbrev pub pair_at : Place → List ℕ → Read Pair
pair_at p [] = Err (stop 0)
pair_at p (x ∷ xs) = found_before (length (x ∷ xs)) xs (byte_step p x)

abbrev pub listed : Step → List Item
listed step = replicate step.count step.item

abbrev pub with_pair : ℕ → (Place → Read (List Item)) → Option Pair → Read (List Item)
with_pair left others None = Err (stop left)
with_pair left others (Some pair) =
    view (λ items. listed pair.high ++ (listed pair.low ++ items)) (others pair.low.next)

-- as many trees as are due
unfoldable pub packed_trees : List ℕ → Place → Read (List Item)
packed_trees [] p = if p.due == 0 then Ok ([], []) else Err (stop 0)
packed_trees (x ∷ xs) p =
    if p.due == 0 then Ok ([], x ∷ xs) else with_pair (length (x ∷ xs)) (packed_trees xs) (byte_step p x)

-- the half bytes behind a leaf and so many more of its kind
abbrev pub halves_behind : Item → ℕ → List Item → List ℕ
halves_behind i more [] = more_leaves more
halves_behind i more (j ∷ items) =
    if are_equal_leaves i j then halves_behind i (suc more) items
    else more_leaves more ++ half_byte j ∷ halves_behind j 0 items
