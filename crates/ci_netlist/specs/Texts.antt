-- The text of netlists, for everybody.
use Rattle.std.specs.Prelude.{◌≡◌, ℕ, suc, ◌+◌, ◌/◌, ◌%◌, ◌≤◌, List, [], ◌∷◌, ◌++◌, length, codes, take, drop}
use Rattle.std.specs.List.{AllByRecursion, flat_map}
use Rattle.std.specs.Fmt.{decimal}
use Rattle.ci_reading.specs.Lines.{line}
use Rattle.ci_netlist.specs.declared.bits.Bit.{Bit}
use Rattle.ci_netlist.specs.declared.bits.Bit.TheVariants.{Zero, One, Input, Made}
use Rattle.ci_netlist.specs.declared.bits.Gate.{Gate}
use Rattle.ci_netlist.specs.declared.bits.Gate.TheVariants.{And, Or, Xor}
use Rattle.ci_netlist.specs.Netlists.{Netlist, IsNetlist}

-- a constant, an input by its letter of a to e and the number of the bit, or an earlier gate by its number
abbrev pub bit_text : Bit → List ℕ
bit_text Zero = codes "0"
bit_text One = codes "1"
bit_text (Input n) = (97 + n / 32) ∷ decimal (n % 32)
bit_text (Made g) = codes "g" ++ decimal g

-- with a space before it
abbrev pub spaced_text : Bit → List ℕ
spaced_text bit = codes " " ++ bit_text bit

-- a line of bits behind a word
unfoldable pub bits_line : List ℕ → List Bit → List ℕ
bits_line word bits = line (word ++ flat_map spaced_text bits)

abbrev pub gate_text : Gate → List ℕ
gate_text (And a b) = bits_line (codes "and") (a ∷ b ∷ [])
gate_text (Or a b) = bits_line (codes "or") (a ∷ b ∷ [])
gate_text (Xor a b) = bits_line (codes "xor") (a ∷ b ∷ [])

-- the number of a netlist, and of its gates
unfoldable pub header_text : ℕ → ℕ → List ℕ
header_text number gates = line (codes "netlist " ++ (decimal number ++ (codes " gates " ++ decimal gates)))

-- the results, the lowest bit of each first
unfoldable pub outputs_text : List Bit → List ℕ
outputs_text bits =
    bits_line (codes "y") (take 32 bits)
    ++ (bits_line (codes "z") (take 32 (drop 32 bits)) ++ bits_line (codes "x") (drop 64 bits))

unfoldable pub netlist_text : ℕ → Netlist → List ℕ
netlist_text number net =
    header_text number (length net.gates) ++ (flat_map gate_text net.gates ++ outputs_text net.outputs)

-- the netlists in their order, with numbers from this one on
abbrev pub text_from : ℕ → List Netlist → List ℕ
text_from number [] = []
text_from number (net ∷ nets) = netlist_text number net ++ text_from (suc number) nets

-- the bytes are the text of the netlists
pub record Spells (bytes : List ℕ) (nets : List Netlist) : Type 0 where
  pub are_netlists : AllByRecursion IsNetlist nets
  pub few : length nets ≤ 32
  pub is_text : bytes ≡ text_from 0 nets

-- the bytes are the text of some netlists
abbrev pub IsWhole : List ℕ → Type 0
IsWhole bytes = (nets : List Netlist) × Spells bytes nets
