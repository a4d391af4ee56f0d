-- For the contracts of readers of line formats: what those of words, addresses and numbers compute.
use Rattle.std.specs.Prelude.{◌≡◌, ℕ, zero, suc, ◌+◌, ◌-◌, ◌*◌, ◌==◌, Bool, false, ◌&&◌, ◌||◌, not, nat_le, nat_lt}
use Rattle.std.specs.Prelude.{if◌then◌else◌, List, [], ◌∷◌, length, Option, Some, None, Result, Ok, Err}
use Rattle.std.specs.Char.{digit_value, is_ascii_digit, is_ascii_uppercase}
use Rattle.ci_reading.specs.declared.fields.Stop as code
use Rattle.ci_reading.specs.declared.fields.Numbers.{Numbers}
use Rattle.ci_reading.specs.LineReading.{Stop, Read, ◌>>=◌, view, stop}

-- What a function returned, seen by `view`, is what reading gives. Contracts name one kind of stop of the format's own;
-- none of these readers tells any.
abbrev pub Gives : {X Y K : Type 0} → (X → Y) → Result X code.Stop → Result Y (Stop K) → Type 0
Gives view (Ok x) read = read ≡ Ok (view x)
Gives view (Err s) read = read ≡ Err (stop s.left)

-- ---- addresses

-- the value of a hex digit in lower case
abbrev pub hex_value : ℕ → Option ℕ
hex_value x = if nat_lt (digit_value x) 16 && not (is_ascii_uppercase x) then Some (digit_value x) else None

-- the value, or a stop before these bytes
abbrev pub found_before : {K A : Type 0} → ℕ → List ℕ → Option A → Read ℕ K A
found_before left xs (Some value) = Ok (value, xs)
found_before left xs None = Err (stop left)

abbrev pub hex_digit : {K : Type 0} → List ℕ → Read ℕ K ℕ
hex_digit [] = Err (stop 0)
hex_digit (x ∷ xs) = found_before (length (x ∷ xs)) xs (hex_value x)

-- so many hex digits behind those of the value
unfoldable pub address : {K : Type 0} → ℕ → ℕ → List ℕ → Read ℕ K ℕ
address zero value xs = Ok (value, xs)
address (suc count) value xs = hex_digit xs >>= λ digit. address count (16 * value + digit.0) digit.1

-- ---- numbers

-- one of so many numbers from the first on is one of these
abbrev pub meets : Numbers → ℕ → ℕ → Bool
meets numbers first count = nat_le first numbers.high && nat_lt numbers.low (first + count)

-- one of the numbers has the value's digits and then k more, for one of the next `count` numbers k, of which the first
-- has the scale as its power of ten
unfoldable pub reaches_from : Numbers → ℕ → ℕ → ℕ → Bool
reaches_from numbers value scale zero = false
reaches_from numbers value scale (suc count) =
    meets numbers (value * scale) scale || reaches_from numbers value (scale * 10) count

-- one of the numbers begins with the digits of this value
unfoldable pub reaches : Numbers → ℕ → Bool
reaches numbers value = if value == 0 then numbers.low == 0 else reaches_from numbers value 1 7

abbrev pub begins : Numbers → List ℕ → Bool
begins numbers [] = false
begins numbers (x ∷ xs) = is_ascii_digit x && reaches numbers (x - 48)

abbrev pub extends : Numbers → ℕ → List ℕ → Bool
extends numbers value [] = false
extends numbers value (x ∷ xs) = is_ascii_digit x && nat_lt 0 value && reaches numbers (10 * value + (x - 48))

-- the byte may stand behind the number
abbrev pub ends : Numbers → ℕ → ℕ → Bool
ends numbers value x = nat_le numbers.low value
    && (x == numbers.end || (numbers.listed && x == 32 && nat_lt value numbers.high))

abbrev pub closes : Numbers → ℕ → List ℕ → Bool
closes numbers value [] = false
closes numbers value (x ∷ xs) = ends numbers value x

abbrev pub closed : {K : Type 0} → Numbers → ℕ → List ℕ → Read ℕ K (ℕ × ℕ)
closed numbers value [] = Err (stop 0)
closed numbers value (x ∷ xs) = if ends numbers value x then Ok ((value, x), xs) else Err (stop (length (x ∷ xs)))

-- what stands behind the digits of the value
abbrev pub digits_on : {K : Type 0} → Numbers → ℕ → List ℕ → Read ℕ K (ℕ × ℕ)
digits_on numbers value [] = closed numbers value []
digits_on numbers value (x ∷ xs) =
    if extends numbers value (x ∷ xs) then digits_on numbers
    (10 * value + (x - 48)) xs else closed numbers value (x ∷ xs)

-- one of the numbers, and the byte behind it
abbrev pub number : {K : Type 0} → Numbers → List ℕ → Read ℕ K (ℕ × ℕ)
number numbers [] = Err (stop 0)
number numbers (x ∷ xs) = if begins numbers (x ∷ xs) then digits_on numbers (x - 48) xs else Err
    (stop (length (x ∷ xs)))

-- one of the numbers, where just one byte may stand behind it
abbrev pub number_alone : {K : Type 0} → Numbers → List ℕ → Read ℕ K ℕ
number_alone numbers xs = view (λ x. x.0) (number numbers xs)
