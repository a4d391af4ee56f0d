-- The loops over gates, bits and netlists, and the parts of a netlist one after the other.
use Rattle.std.proofs.Common.{◌≡◌, ℕ, zero, suc, ◌+◌, ◌-◌, ◌<◌, ◌≤◌}
use Rattle.std.proofs.Common.{List, [], ◌∷◌, ◌++◌, length, length-append, refl, sym}
use Rattle.std.proofs.Common.{ap, ◌∙◌, arith, append_assoc, append-nil, zero-le, false, Result, Ok, Err}
use Rattle.std.specs.Char.{is_ascii_digit}
use Rattle.ci_reading.specs.Fields.{number}
use Rattle.ci_reading.specs.LineReading.{Stop, stop, ◌>>=◌, view, with_front}
use Rattle.ci_reading.proofs.Readers.{any}
use Rattle.ci_reading.proofs.NumberReading.{number_read}
use Rattle.ci_reading.proofs.FirstBad.{read_tells}
use Rattle.ci_netlist.specs.declared.bits.Bit.{Bit}
use Rattle.ci_netlist.specs.declared.bits.Gate.{Gate}
use Rattle.ci_netlist.specs.declared.faults.Failure.{Failure}
use Rattle.ci_netlist.specs.declared.faults.Failure.TheVariants.{Stopped, NoMemory}
use Rattle.ci_netlist.specs.Netlists.{Netlist, IsNetlist}
use Rattle.ci_netlist.specs.private.Reading.{Kinds, Read, Fails, numbers, netlist_of}
use Rattle.ci_netlist.specs.private.Reading.{end_of, bit_read, gate_read, gates_read, bits_read}
use Rattle.ci_netlist.specs.private.Reading.{outputs_read, header_read, netlist_read, netlists_read}
use Rattle.ci_netlist.proofs.FoundReading.{most}
use Rattle.ci_netlist.proofs.NetlistReading.{header_exact, a_netlist}

-- an item behind those that were read
one_more : {X : Type 0} (so_far : List X) (x : X) (r : Read (List X))
    → with_front (so_far ++ x ∷ []) r ≡ with_front so_far (view (λ xs. x ∷ xs) r)
one_more so_far x (Ok (xs, rest)) = λ i. Ok (append_assoc so_far (x ∷ []) xs i, rest)
one_more so_far x (Err s) = refl

-- nothing behind them
none_more : {X : Type 0} (so_far : List X) (rest : List ℕ)
    → ◌≡◌ {A = Read (List X)} (with_front so_far (Ok ([], rest))) (Ok (so_far, rest))
none_more so_far rest = λ i. Ok (append-nil so_far i, rest)

-- ---- gates

module _ (so_far : List Gate) (made count : ℕ) (xs : List ℕ) where
  gates_step : (n : ℕ) → gates_read made (suc n) xs
      ≡ (gate_read made xs >>= λ g. view (λ gs. g.0 ∷ gs) (gates_read (made + 1) n g.1))
  unfolding gates_read
  gates_step n = refl

  pub next_gate : (g : Gate) (after : List ℕ) → made < count → gate_read made xs ≡ Ok (g, after)
      → with_front (so_far ++ g ∷ []) (gates_read (made + 1) (count - (made + 1)) after)
      ≡ with_front so_far (gates_read made (count - made) xs)
  next_gate g after below read =
      let n = count - (made + 1) in
      let left : suc n ≡ count - made = omega arith in
      one_more so_far g (gates_read (made + 1) n after)
      ∙ ap (with_front so_far)
      (sym (gates_step n ∙ ap (λ r. r >>= λ g. view (λ gs. g.0 ∷ gs) (gates_read (made + 1) n g.1)) read)
      ∙ ap (λ k. gates_read made k xs) left)

  pub gate_stops : (s : Stop Kinds) → made < count → gate_read made xs ≡ Err s
      → with_front so_far (gates_read made (count - made) xs) ≡ Err s
  gate_stops s below read =
      let n = count - (made + 1) in
      let left : suc n ≡ count - made = omega arith in
      ap (with_front so_far)
      (sym (ap (λ k. gates_read made k xs) left) ∙ gates_step n
      ∙ ap (λ r. r >>= λ g. view (λ gs. g.0 ∷ gs) (gates_read (made + 1) n g.1)) read)

  pub gates_end : count ≤ made → with_front so_far (gates_read made (count - made) xs) ≡ Ok (so_far, xs)
  unfolding gates_read
  gates_end past =
      ap (λ k. with_front so_far (gates_read made k xs)) (let none : count - made ≡ 0 = omega arith in none)
      ∙ none_more so_far xs

-- ---- bits

module _ (so_far : List Bit) (made k : ℕ) (xs : List ℕ) where
  bits_step : (n : ℕ) → bits_read made (suc n) xs
      ≡ (bit_read made (end_of n) xs >>= λ b. view (λ bs. b.0 ∷ bs) (bits_read made n b.1))
  unfolding bits_read
  bits_step n = refl

  pub next_bit : (b : Bit) (after : List ℕ) → k < 32 → bit_read made (end_of (31 - k)) xs ≡ Ok (b, after)
      → with_front (so_far ++ b ∷ []) (bits_read made (32 - (k + 1)) after)
      ≡ with_front so_far (bits_read made (32 - k) xs)
  next_bit b after below read =
      let n = 31 - k in
      let left : suc n ≡ 32 - k = omega arith in
      ap (λ m. with_front (so_far ++ b ∷ []) (bits_read made m after))
      (let same : 32 - (k + 1) ≡ n = omega arith in same)
      ∙ one_more so_far b (bits_read made n after)
      ∙ ap (with_front so_far)
      (sym (bits_step n ∙ ap (λ r. r >>= λ b. view (λ bs. b.0 ∷ bs) (bits_read made n b.1)) read)
      ∙ ap (λ m. bits_read made m xs) left)

  pub bit_stops : (s : Stop Kinds) → k < 32 → bit_read made (end_of (31 - k)) xs ≡ Err s
      → with_front so_far (bits_read made (32 - k) xs) ≡ Err s
  bit_stops s below read =
      let n = 31 - k in
      let left : suc n ≡ 32 - k = omega arith in
      ap (with_front so_far)
      (sym (ap (λ m. bits_read made m xs) left) ∙ bits_step n
      ∙ ap (λ r. r >>= λ b. view (λ bs. b.0 ∷ bs) (bits_read made n b.1)) read)

  pub bits_end : 32 ≤ k → with_front so_far (bits_read made (32 - k) xs) ≡ Ok (so_far, xs)
  unfolding bits_read
  bits_end past =
      ap (λ m. with_front so_far (bits_read made m xs)) (let none : 32 - k ≡ 0 = omega arith in none)
      ∙ none_more so_far xs

-- ---- a netlist

-- what is read is one, and leaves no more bytes than there were
pub record IsRead (net : Netlist) (xs rest : List ℕ) : Type 0 where
  pub is_netlist : IsNetlist net
  pub left : length rest ≤ length xs

pub netlist_left : (place : ℕ) (xs rest : List ℕ) (net : Netlist) → place < 32 → length xs ≤ most
    → netlist_read place xs ≡ Ok (net, rest)
    → IsRead net xs rest
netlist_left place xs rest net below few read =
    let o = read_tells (any (a_netlist place below)) xs rest net few read in
    let e = ap length o.1 in
    let f = length-append o.0 rest in
    record { is_netlist = o.2.0; left = omega (arith, e, f) }

module _ (place count : ℕ) (xs first : List ℕ) (header : header_read place xs ≡ Ok (count, first)) where
  pub gates_follow : netlist_read place xs
      ≡ (gates_read 0 count first >>= λ g. view (λ o. netlist_of g.0 o) (outputs_read count g.1))
  unfolding netlist_read
  gates_follow =
      ap (λ r. r >>= λ n. gates_read 0 n.0 n.1 >>= λ g. view (λ o. netlist_of g.0 o) (outputs_read n.0 g.1)) header

  pub netlist_reads : (gates : List Gate) (outputs : List Bit) (second rest : List ℕ)
      → gates_read 0 count first ≡ Ok (gates, second)
      → outputs_read count second ≡ Ok (outputs, rest) → netlist_read place xs ≡ Ok (netlist_of gates outputs, rest)
  netlist_reads gates outputs second rest of_gates of_outputs =
      gates_follow ∙ ap (λ r. r >>= λ g. view (λ o. netlist_of g.0 o) (outputs_read count g.1)) of_gates
      ∙ ap (view (λ o. netlist_of gates o)) of_outputs

-- ---- netlists

abbrev pub with_nets : List Netlist → Result (List Netlist) (Stop Kinds) → Result (List Netlist) (Stop Kinds)
with_nets so_far read = read >>= λ nets. Ok (so_far ++ nets)

pub no_nets : (r : Result (List Netlist) (Stop Kinds)) → with_nets [] r ≡ r
no_nets (Ok nets) = refl
no_nets (Err s) = refl

one_net_more : (so_far : List Netlist) (net : Netlist) (r : Result (List Netlist) (Stop Kinds))
    → with_nets (so_far ++ net ∷ []) r ≡ with_nets so_far (r >>= λ nets. Ok (net ∷ nets))
one_net_more so_far net (Ok nets) = ap (λ v. Ok v) (append_assoc so_far (net ∷ []) nets)
one_net_more so_far net (Err s) = refl

module _ (so_far : List Netlist) (place : ℕ) (xs : List ℕ) where
  nets_step : (n : ℕ) (ys : List ℕ) → 0 < length ys → netlists_read (suc n) place ys
      ≡ (netlist_read place ys >>= λ net. netlists_read n (place + 1) net.1 >>= λ nets. Ok (net.0 ∷ nets))
  unfolding netlists_read
  nets_step n [] some = absurd (omega arith)
  nets_step n (y ∷ ys) some = refl

  pub next_net : (net : Netlist) (after : List ℕ) → place < 32 → 0 < length xs → netlist_read place xs ≡ Ok (net, after)
      → with_nets (so_far ++ net ∷ []) (netlists_read (32 - (place + 1)) (place + 1) after)
      ≡ with_nets so_far (netlists_read (32 - place) place xs)
  next_net net after below some read =
      let n = 32 - (place + 1) in
      let left : suc n ≡ 32 - place = omega arith in
      one_net_more so_far net (netlists_read n (place + 1) after)
      ∙ ap (with_nets so_far)
      (sym (nets_step n xs some
      ∙ ap (λ r. r >>= λ net. netlists_read n (place + 1) net.1 >>= λ nets. Ok (net.0 ∷ nets)) read)
      ∙ ap (λ k. netlists_read k place xs) left)

  pub net_fails : (f : Failure) → place < 32 → 0 < length xs → Fails f (netlist_read place xs)
      → Fails f (with_nets so_far (netlists_read (32 - place) place xs))
  net_fails NoMemory below some fails = tt
  net_fails (Stopped left) below some fails =
      let n = 32 - (place + 1) in
      let same : suc n ≡ 32 - place = omega arith in
      ap (with_nets so_far)
      (sym (ap (λ k. netlists_read k place xs) same) ∙ nets_step n xs some
      ∙ ap (λ r. r >>= λ net. netlists_read n (place + 1) net.1 >>= λ nets. Ok (net.0 ∷ nets)) fails)

  empty : (n : ℕ) (ys : List ℕ) → length ys ≡ 0 → netlists_read n place ys ≡ Ok []
  unfolding netlists_read
  empty zero [] none = refl
  empty (suc n) [] none = refl
  empty n (y ∷ ys) none = absurd (omega (arith, none))

  full : (ys : List ℕ) → 0 < length ys → netlists_read 0 place ys ≡ Err (stop (length ys))
  unfolding netlists_read
  full [] some = absurd (omega arith)
  full (y ∷ ys) some = refl

  pub nets_end : length xs ≡ 0 → with_nets so_far (netlists_read (32 - place) place xs) ≡ Ok so_far
  nets_end none = ap (with_nets so_far) (empty (32 - place) xs none) ∙ ap (λ v. Ok v) (append-nil so_far)

  pub nets_full : 32 ≤ place → 0 < length xs
      → with_nets so_far (netlists_read (32 - place) place xs) ≡ Err (stop (length xs))
  nets_full past some =
      ap (λ k. with_nets so_far (netlists_read k place xs)) (let none : 32 - place ≡ 0 = omega arith in none)
      ∙ ap (with_nets so_far) (full xs some)

-- ---- numbers that were read

pub small_number : (high end n byte : ℕ) (xs rest : List ℕ) → high ≤ 9999999 → is_ascii_digit end ≡ false
    → number {K = Kinds} (numbers 0 high end) xs ≡ Ok ((n, byte), rest) → n ≤ high
small_number high end n byte xs rest few no_digit read =
    (number_read (numbers 0 high end) zero-le few no_digit xs (n, byte) rest read).1.high

pub few_gates : (place count : ℕ) (xs rest : List ℕ) → place < 32 → length xs ≤ most
    → header_read place xs ≡ Ok (count, rest) → count ≤ 4194304
few_gates place count xs rest below few read =
    ((header_exact place below (suc (length xs))).sound xs count rest (omega arith) few read).2.0
