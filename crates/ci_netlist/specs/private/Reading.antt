-- For private contracts: what the reader computes. Each function reads what stands at the beginning of a list of bytes,
-- and gives it with the bytes behind it.
use Rattle.std.specs.Prelude.{◌≡◌, ℕ, zero, suc, ◌+◌, ◌-◌, ◌*◌, ◌<◌}
use Rattle.std.specs.Prelude.{◌≤◌, ◌==◌, nat_le, nat_lt, ◌&&◌, if◌then◌else◌, ⊤, false}
use Rattle.std.specs.Prelude.{List, [], ◌∷◌, ◌++◌, length, codes, Option, Some, None, Result, Ok, Err}
use Rattle.ci_reading.specs.declared.fields.Numbers.{Numbers}
use Rattle.ci_reading.specs.LineReading as reading
use Rattle.ci_reading.specs.LineReading.{Stop, ◌>>=◌, view, stop, word}
use Rattle.ci_reading.specs.Fields.{found_before, number_alone}
use Rattle.ci_netlist.specs.declared.bits.Bit.{Bit}
use Rattle.ci_netlist.specs.declared.bits.Bit.TheVariants as bit
use Rattle.ci_netlist.specs.declared.bits.Gate.{Gate}
use Rattle.ci_netlist.specs.declared.bits.Gate.TheVariants as gate
use Rattle.ci_netlist.specs.declared.faults.Failure.{Failure}
use Rattle.ci_netlist.specs.declared.faults.Failure.TheVariants.{Stopped, NoMemory}
use Rattle.ci_netlist.specs.declared.starts.Start.{Start}
use Rattle.ci_netlist.specs.declared.starts.Start.TheVariants.{Zero, One, Input, Made}
use Rattle.ci_netlist.specs.declared.starts.Kind.{Kind}
use Rattle.ci_netlist.specs.declared.starts.Kind.TheVariants.{And, Or, Xor}
use Rattle.ci_netlist.specs.Netlists.{Netlist}

-- no stop has a kind
abbrev pub Kinds : Type 0
Kinds = Unit {0}

abbrev pub Read : Type 0 → Type 0
Read A = reading.Read ℕ Kinds A

-- what a function returned, seen by `view`, is what reading gives, unless memory ran out
abbrev pub Fails : {Y : Type 0} → Failure → Result Y (Stop Kinds) → Type 0
Fails NoMemory read = ⊤
Fails (Stopped left) read = read ≡ Err (stop left)

abbrev pub Gives : {X Y : Type 0} → (X → Y) → Result X Failure → Result Y (Stop Kinds) → Type 0
Gives view (Ok x) read = read ≡ Ok (view x)
Gives view (Err failure) read = Fails failure read

abbrev pub numbers : ℕ → ℕ → ℕ → Numbers
numbers low high end = record { low = low; high = high; end = end; listed = false }

-- what the first byte stands for
abbrev pub found : {A : Type 0} → (ℕ → Option A) → List ℕ → Read A
found f [] = Err (stop 0)
found f (x ∷ xs) = found_before (length (x ∷ xs)) xs (f x)

-- ---- bits, where so many gates are earlier

abbrev pub start_of : ℕ → ℕ → Option Start
start_of made x =
    if x == 48 then Some Zero
    else (if x == 49 then Some One
    else (if nat_le 97 x && nat_le x 101 then Some (Input (x - 97))
    else (if x == 103 && nat_lt 0 made then Some Made
    else None)))

abbrev pub IsStart : ℕ → Start → Type 0
IsStart made Zero = ⊤
IsStart made One = ⊤
IsStart made (Input letter) = letter ≤ 4
IsStart made Made = 0 < made

-- what stands behind the first byte, and the byte that ends it
abbrev pub bit_behind : ℕ → ℕ → Start → List ℕ → Read Bit
bit_behind made end Zero xs = view (λ u. bit.Zero) (word (end ∷ []) xs)
bit_behind made end One xs = view (λ u. bit.One) (word (end ∷ []) xs)
bit_behind made end (Input letter) xs = view (λ n. bit.Input (32 * letter + n)) (number_alone (numbers 0 31 end) xs)
bit_behind made end Made xs = view (λ g. bit.Made g) (number_alone (numbers 0 (made - 1) end) xs)

unfoldable pub bit_read : ℕ → ℕ → List ℕ → Read Bit
bit_read made end xs = found (start_of made) xs >>= λ s. bit_behind made end s.0 s.1

-- ---- gates

abbrev pub kind_of : ℕ → Option Kind
kind_of x = if x == 97 then Some And else (if x == 111 then Some Or else (if x == 120 then Some Xor else None))

-- what stands behind the first byte
abbrev pub kind_rest : Kind → List ℕ
kind_rest And = codes "nd "
kind_rest Or = codes "r "
kind_rest Xor = codes "or "

abbrev pub gate_of : Kind → Bit → Bit → Gate
gate_of And left right = gate.And left right
gate_of Or left right = gate.Or left right
gate_of Xor left right = gate.Xor left right

unfoldable pub gate_read : ℕ → List ℕ → Read Gate
gate_read made xs =
    found kind_of xs >>= λ k. word (kind_rest k.0) k.1 >>= λ w. bit_read made 32 w.1
    >>= λ l. view (λ r. gate_of k.0 l.0 r) (bit_read made 10 l.1)

-- so many, where others are earlier
unfoldable pub gates_read : ℕ → ℕ → List ℕ → Read (List Gate)
gates_read made zero xs = Ok ([], xs)
gates_read made (suc count) xs =
    gate_read made xs >>= λ g. view (λ gs. g.0 ∷ gs) (gates_read (made + 1) count g.1)

-- ---- results

-- the byte behind a bit, behind which so many follow
abbrev pub end_of : ℕ → ℕ
end_of zero = 10
end_of (suc n) = 32

-- so many bits of a line
unfoldable pub bits_read : ℕ → ℕ → List ℕ → Read (List Bit)
bits_read made zero xs = Ok ([], xs)
bits_read made (suc n) xs = bit_read made (end_of n) xs >>= λ b. view (λ bs. b.0 ∷ bs) (bits_read made n b.1)

unfoldable pub result_read : List ℕ → ℕ → List ℕ → Read (List Bit)
result_read letter made xs = word letter xs >>= λ w. bits_read made 32 w.1

unfoldable pub outputs_read : ℕ → List ℕ → Read (List Bit)
outputs_read made xs =
    result_read (codes "y ") made xs >>= λ y. result_read (codes "z ") made y.1
    >>= λ z. view (λ x. y.0 ++ (z.0 ++ x)) (result_read (codes "x ") made z.1)

-- ---- netlists

unfoldable pub header_read : ℕ → List ℕ → Read ℕ
header_read place xs =
    word (codes "netlist ") xs >>= λ a. number_alone (numbers place place 32) a.1
    >>= λ b. word (codes "gates ") b.1 >>= λ c. number_alone (numbers 0 4194304 10) c.1

abbrev pub netlist_of : List Gate → List Bit → Netlist
netlist_of gates outputs = record { gates = gates; outputs = outputs }

unfoldable pub netlist_read : ℕ → List ℕ → Read Netlist
netlist_read place xs =
    header_read place xs >>= λ n. gates_read 0 n.0 n.1 >>= λ g. view (λ o. netlist_of g.0 o) (outputs_read n.0 g.1)

-- at most so many, which are all that there is, with numbers from this one on
unfoldable pub netlists_read : ℕ → ℕ → List ℕ → Result (List Netlist) (Stop Kinds)
netlists_read room place [] = Ok []
netlists_read zero place (x ∷ xs) = Err (stop (length (x ∷ xs)))
netlists_read (suc room) place (x ∷ xs) =
    netlist_read place (x ∷ xs) >>= λ n. netlists_read room (place + 1) n.1 >>= λ nets. Ok (n.0 ∷ nets)
