-- The words of a use: the registers of inputs and outputs, one by one.
use Rattle.std.proofs.Common.{◌≡◌, ℕ, zero, suc, ◌+◌, ◌<◌, ◌≤◌, Bool, true, false, if◌then◌else◌, List, [], ◌∷◌, ◌++◌, length, map, drop, find}
use Rattle.std.proofs.Common.{Option, Some, None, slice_get, slice_index, slice_index_or, unwrap_or, option_map, IfSome}
use Rattle.std.proofs.Common.{refl, sym, ap, ◌∙◌, subst, arith, add-one}
use Rattle.std.specs.Option.{option_to_list, option_or, option_and}
use Rattle.std.specs.List.{AllByRecursion}
use Rattle.std.proofs.lemmas.List.{at_drop_more, append-nil, append_assoc}
use Rattle.std.proofs.lemmas.List.Folds.{find-append}
use Rattle.ci_word.specs.Numbers.{numbers_below, count_below}
use Rattle.ci_word.proofs.NumberLaws.{length-numbers_below}
use Rattle.ci_isa.specs.declared.instruction.Insn.{Insn}
use Rattle.ci_isa.specs.declared.instruction.Insn.TheVariants.{Cread}
use Rattle.ci_cut.specs.declared.graph.Source.{Source}
use Rattle.ci_cut.specs.declared.graph.Source.TheVariants.{Entry, Made}
use Rattle.ci_cut.specs.FlowGraph.{FlowGraph, node_at, reads}
use Rattle.ci_cut.specs.Ports.{is_output}
use Rattle.ci_unit.specs.Operands.{AreOperands, FitsSomeLimits}
use Rattle.ci_unit.specs.private.Reading.{AreFirstOf, inputs_below, outputs_below, is_further, sources_below, IsRegister, read_of}
use Rattle.ci_unit.specs.Units.{inputs_of, outputs_of}
use Rattle.ci_unit.specs.Uses.{AreRegisters, result_register, register_of, output_reads}
use Rattle.ci_unit.specs.UseWords.{reads_of}
use Rattle.ci_unit.proofs.SourceLaws.{each_weaker, each_flat, own_sources}
use Rattle.ci_unit.proofs.ReadingLaws.{added, inputs_are, inputs_added, sources_more, further_first, further_none, further_rest}

-- ---- lists by places

pub first_pushed : {X : Type 0} (xs : List X) (x : X) → option_or (slice_get xs 0) (Some x) ≡ slice_get (xs ++ x ∷ []) 0
first_pushed [] x = refl
first_pushed (y ∷ xs) x = refl

pub second_pushed : {X : Type 0} (xs : List X) (x : X)
    → option_or (slice_get xs 1) (option_and (slice_get xs 0) (Some x)) ≡ slice_get (xs ++ x ∷ []) 1
second_pushed [] x = refl
second_pushed (y ∷ []) x = refl
second_pushed (y ∷ z ∷ xs) x = refl

pub third_pushed : {X : Type 0} (xs : List X) (x : X)
    → option_or (slice_get xs 2) (option_and (slice_get xs 1) (Some x)) ≡ slice_get (xs ++ x ∷ []) 2
third_pushed [] x = refl
third_pushed (y ∷ []) x = refl
third_pushed (y ∷ z ∷ []) x = refl
third_pushed (y ∷ z ∷ w ∷ xs) x = refl

-- the first item from a place on that passes is the one there, or is behind it
pub find_from : {X : Type 0} (p : X → Bool) (xs : List X) (i : ℕ) (d : X) (b : Bool) → i < length xs → p (slice_index_or xs i d) ≡ b
    → find p (drop i xs) ≡ (if b then Some (slice_index_or xs i d) else find p (drop (i + 1) xs))
find_from p xs i d b below test =
    at_drop_more (find p) xs i d below
    ∙ ap (λ c. if c then Some (slice_index_or xs i d) else find p (drop (i + 1) xs)) test

at_place : {X : Type 0} (f : X → ℕ) (xs : List X) (i : ℕ) → unwrap_or (option_map f (slice_get xs i)) 0 ≡ slice_index (map f xs) i
at_place f [] i = refl
at_place f (x ∷ xs) zero = refl
at_place f (x ∷ xs) (suc i) = at_place f xs i

-- ---- inputs, one after the other

module _ (graph : FlowGraph) (cut : ℕ → Bool) where
  module _ (p : Source → Bool) (k : ℕ) (found : Option Source) (so_far : found ≡ find p (sources_below graph cut k)) where
    pub found_more : (next : Option Source) → cut k ≡ true → next ≡ find p (node_at graph k).sources
        → option_or found next ≡ find p (sources_below graph cut (k + 1))
    found_more next here is =
        (λ i. option_or (so_far i) (is i))
        ∙ sym (find-append p (sources_below graph cut k) (node_at graph k).sources)
        ∙ ap (find p) (sym (sources_more graph cut k true here) ∙ ap (sources_below graph cut) (sym (add-one k)))

    pub found_so_far : cut k ≡ false → found ≡ find p (sources_below graph cut (k + 1))
    found_so_far fails =
        so_far
        ∙ ap (find p) (sym (sources_more graph cut k false fails ∙ append-nil (sources_below graph cut k)) ∙ ap (sources_below graph cut) (sym (add-one k)))

  module _ (n : ℕ) where
    abbrev next : List Source → Option Source
    next seen = find (is_further cut seen) (sources_below graph cut n)

    -- these are the first inputs, and the sources add the others to them
    abbrev pub BeginWith : List Source → Type 0
    BeginWith seen = inputs_below graph cut n ≡ seen ++ added cut seen (sources_below graph cut n)

    pub begin : BeginWith []
    begin = inputs_added graph cut n

    pub one_more : (seen : List Source) (s : Source) → BeginWith seen → next seen ≡ Some s → BeginWith (seen ++ s ∷ [])
    one_more seen s are found =
        are ∙ ap (λ l. seen ++ l) (further_rest cut seen (sources_below graph cut n) s found)
        ∙ sym (append_assoc seen (s ∷ []) (added cut (seen ++ s ∷ []) (sources_below graph cut n)))

    pub no_more : (seen : List Source) → BeginWith seen → next seen ≡ None → inputs_below graph cut n ≡ seen
    no_more seen are none =
        are ∙ ap (λ l. seen ++ l) (further_none cut seen (sources_below graph cut n) none) ∙ append-nil seen

    pub first_five : (list : List Source) → inputs_below graph cut n ≡ list
        → AreFirstOf (inputs_below graph cut n) (slice_get list 0) (slice_get list 1) (slice_get list 2) (slice_get list 3) (slice_get list 4)
    first_five list are = record {
      first_is = sym (ap (λ l. slice_get l 0) are);
      second_is = sym (ap (λ l. slice_get l 1) are);
      third_is = sym (ap (λ l. slice_get l 2) are);
      fourth_is = sym (ap (λ l. slice_get l 3) are);
      fifth_is = sym (ap (λ l. slice_get l 4) are);
    }

    pub four_and_next : (p q r s : Source) → BeginWith (p ∷ q ∷ r ∷ s ∷ [])
        → AreFirstOf (inputs_below graph cut n) (Some p) (Some q) (Some r) (Some s) (next (p ∷ q ∷ r ∷ s ∷ []))
    four_and_next p q r s are =
        let seen : List Source = p ∷ q ∷ r ∷ s ∷ [] in
        subst (AreFirstOf (inputs_below graph cut n) (Some p) (Some q) (Some r) (Some s))
        (sym (further_first cut seen (sources_below graph cut n)))
        (first_five (seen ++ added cut seen (sources_below graph cut n)) are)

-- ---- registers at the entry

registers_below : (graph : FlowGraph) (cut : ℕ → Bool) → AreRegisters graph → (n : ℕ) → AllByRecursion IsRegister (sources_below graph cut n)
registers_below graph cut registers n =
    each_flat IsRegister (λ k. (node_at graph k).sources) (numbers_below n cut)
    (λ k there. each_weaker (λ s. reads graph k s ≡ true) IsRegister (is_register k) (node_at graph k).sources (own_sources (node_at graph k).sources))
  where
    is_register : (k : ℕ) (s : Source) → reads graph k s ≡ true → IsRegister s
    is_register k (Entry r) reading = registers k r reading
    is_register k (Made j) reading = tt

find_each : {X : Type 0} (P : X → Type 0) (p : X → Bool) (xs : List X) → AllByRecursion P xs → IfSome (find p xs) P
find_each P p [] all = tt
find_each P p (x ∷ xs) all = by (p x) (find_each P p xs all.1)
  where
    by : (b : Bool) → IfSome (find p xs) P → IfSome (if b then Some x else find p xs) P
    by true later = all.0
    by false later = later

pub register_found : (graph : FlowGraph) (cut : ℕ → Bool) → AreRegisters graph → (n : ℕ) (p : Source → Bool)
    → IfSome (find p (sources_below graph cut n)) IsRegister
register_found graph cut registers n p = find_each IsRegister p (sources_below graph cut n) (registers_below graph cut registers n)

pub made_registers : (graph : FlowGraph) (cut : ℕ → Bool) (n i : ℕ) → IfSome (slice_get (outputs_below graph cut n) i) IsRegister
made_registers graph cut n i = each (numbers_below n (is_output graph cut)) i
  where
    each : (numbers : List ℕ) (i : ℕ) → IfSome (slice_get (map (λ k. Made k) numbers) i) IsRegister
    each [] i = tt
    each (k ∷ numbers) zero = tt
    each (k ∷ numbers) (suc i) = each numbers i

-- ---- the words

module _ (insns : List Insn) (graph : FlowGraph) (cut : ℕ → Bool) (are : AreOperands insns graph) where
  pub input_register_is : (i : ℕ) → unwrap_or (option_map (register_of insns) (slice_get (inputs_below graph cut (length graph.nodes)) i)) 0
      ≡ slice_index (map (register_of insns) (inputs_of insns graph cut)) i
  input_register_is i =
      at_place (register_of insns) (inputs_below graph cut (length graph.nodes)) i
      ∙ ap (λ inputs. slice_index (map (register_of insns) inputs) i)
      (ap (inputs_below graph cut) are.same_length ∙ inputs_are graph cut (length insns))

  made_map : (numbers : List ℕ) → map (register_of insns) (map (λ k. Made k) numbers) ≡ map (result_register insns) numbers
  made_map [] = refl
  made_map (k ∷ numbers) = ap (λ l. result_register insns k ∷ l) (made_map numbers)

  outputs_are : outputs_below graph cut (length graph.nodes) ≡ map (λ k. Made k) (outputs_of insns graph cut)
  outputs_are = ap (outputs_below graph cut) are.same_length

  pub first_register_is : unwrap_or (option_map (register_of insns) (slice_get (outputs_below graph cut (length graph.nodes)) 0)) 0
      ≡ slice_index (map (result_register insns) (outputs_of insns graph cut)) 0
  first_register_is =
      at_place (register_of insns) (outputs_below graph cut (length graph.nodes)) 0
      ∙ ap (λ l. slice_index (map (register_of insns) l) 0) outputs_are
      ∙ ap (λ (l : List ℕ). slice_index l 0) (made_map (outputs_of insns graph cut))

  few_outputs : FitsSomeLimits graph cut → length (outputs_of insns graph cut) ≤ 3
  few_outputs (limits, fits) =
      omega (
        arith,
        fits.outputs_within,
        limits.outputs_in_range.1,
        ap (λ n. count_below n (is_output graph cut)) are.same_length,
        length-numbers_below (length insns) (is_output graph cut),
      )

  reads_are : (numbers : List ℕ) → length numbers ≤ 3
      → read_of insns 0 (slice_get (map (λ k. Made k) numbers) 1) ++ read_of insns 1 (slice_get (map (λ k. Made k) numbers) 2)
      ≡ reads_of 0 (drop 1 (map (result_register insns) numbers))
  reads_are [] few = refl
  reads_are (j ∷ []) few = refl
  reads_are (j ∷ k ∷ []) few = refl
  reads_are (j ∷ k ∷ l ∷ []) few = refl
  reads_are (j ∷ k ∷ l ∷ m ∷ numbers) few = absurd (omega arith)

  pub output_reads_are : FitsSomeLimits graph cut
      → read_of insns 0 (slice_get (outputs_below graph cut (length graph.nodes)) 1) ++ read_of insns 1 (slice_get (outputs_below graph cut (length graph.nodes)) 2)
      ≡ output_reads insns graph cut
  output_reads_are fits =
      ap (λ l. read_of insns 0 (slice_get l 1) ++ read_of insns 1 (slice_get l 2)) outputs_are
      ∙ reads_are (outputs_of insns graph cut) (few_outputs fits)
