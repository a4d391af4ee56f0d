-- For private contracts: what the writer of packed trees has written, and what waits.
use Rattle.std.specs.Prelude.{◌≡◌, ℕ, ◌<◌, List, ◌∷◌, ◌++◌, Option, Some, None}
use Rattle.ci_log.specs.declared.log.Item.{Item}
use Rattle.ci_log.specs.declared.log.Item.TheVariants.{B}
use Rattle.ci_log.specs.declared.packing.Waiting.{Waiting}
use Rattle.ci_log.specs.Packed.{filled}
use Rattle.ci_log.specs.private.PackedReading.{halves_behind}

abbrev pub IsHalf : Option ℕ → Type 0
IsHalf None = Unit {0}
IsHalf (Some half) = half < 16

-- the bytes of half bytes behind a high half that waits, if one does
abbrev pub filled_behind : Option ℕ → List ℕ → List ℕ
filled_behind None halves = filled halves
filled_behind (Some high) halves = filled (high ∷ halves)

-- behind the bytes and a high half that waits these half bytes were written, whatever follows them
unfoldable pub GoesOn : List ℕ → Option ℕ → List ℕ → List ℕ → Option ℕ → Type 0
GoesOn bytes high written new waits =
    (halves : List ℕ) → new ++ filled_behind waits halves ≡ bytes ++ filled_behind high (written ++ halves)

-- no item was seen
abbrev pub nothing : Waiting
nothing = record { high = None; last = B; more = 0 }

-- the bytes, with those of what waits and of these items behind it
abbrev pub bytes_with : List ℕ → Waiting → List Item → List ℕ
bytes_with bytes waiting items = bytes ++ filled_behind waiting.high (halves_behind waiting.last waiting.more items)

-- of these items all was written but what waits, whatever items follow
unfoldable pub Writes : List ℕ → Waiting → List Item → List ℕ → Waiting → Type 0
Writes bytes waiting items new next =
    (others : List Item) → bytes_with new next others ≡ bytes_with bytes waiting (items ++ others)
