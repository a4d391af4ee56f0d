-- For private contracts: the inputs of a cut, read from the block step by step, and the ranges of what is read.
use Rattle.std.specs.Prelude.{◌≡◌, ℕ, zero, suc, Bool, ◌&&◌, not, if◌then◌else◌, List, [], ◌∷◌, ◌++◌, fold, map}
use Rattle.std.specs.Prelude.{slice_get, Option, option_map, unwrap_or}
use Rattle.std.specs.Prelude.{◌<◌, ◌^◌, ⊤}
use Rattle.std.specs.List.{list_any, flat_map}
use Rattle.std.specs.Option.{option_to_list}
use Rattle.ci_word.specs.Numbers.{numbers_below}
use Rattle.ci_isa.specs.declared.instruction.Insn.{Insn}
use Rattle.ci_isa.specs.declared.instruction.Insn.TheVariants.{Cread}
use Rattle.ci_cut.specs.declared.graph.Source.{Source}
use Rattle.ci_cut.specs.declared.graph.Source.TheVariants.{Entry, Made}
use Rattle.ci_cut.specs.FlowGraph.{FlowGraph, node_at, is_source}
use Rattle.ci_cut.specs.Ports.{is_outside, is_output}
use Rattle.ci_unit.specs.declared.operations.Arg.{Arg}
use Rattle.ci_unit.specs.declared.operations.Arg.TheVariants.{Input, Earlier, Constant}
use Rattle.ci_unit.specs.declared.operations.UnitOp.{UnitOp}
use Rattle.ci_unit.specs.Uses.{register_of}

-- the inputs so far, and the source, where it lies outside the cut and is not among them
abbrev pub with_input : (ℕ → Bool) → List Source → Source → List Source
with_input cut inputs source =
    if is_outside cut source && not (list_any (is_source source) inputs) then inputs ++ source ∷ [] else inputs

abbrev pub with_inputs : (ℕ → Bool) → List Source → List Source → List Source
with_inputs cut inputs sources = fold (with_input cut) inputs sources

-- the inputs of the members below n
unfoldable pub inputs_below : FlowGraph → (ℕ → Bool) → ℕ → List Source
inputs_below graph cut zero = []
inputs_below graph cut (suc n) =
    if cut n then with_inputs cut (inputs_below graph cut n) (node_at graph n).sources else inputs_below graph cut n

-- a register's number is below 256
abbrev pub IsSmall : Source → Type 0
IsSmall (Entry r) = r < 256
IsSmall (Made k) = ⊤

-- a constant is a word
abbrev pub IsWordArg : Arg → Type 0
IsWordArg (Input i) = ⊤
IsWordArg (Earlier n) = ⊤
IsWordArg (Constant word) = word < 2 ^ 32

abbrev pub HasWords : UnitOp → Type 0
HasWords op = IsWordArg op.left × IsWordArg op.right

-- the source lies outside the cut, and is not among those that were seen
abbrev pub is_further : (ℕ → Bool) → List Source → Source → Bool
is_further cut seen source = is_outside cut source && not (list_any (is_source source) seen)

-- the sources of the members below n
abbrev pub sources_below : FlowGraph → (ℕ → Bool) → ℕ → List Source
sources_below graph cut n = flat_map (λ k. (node_at graph k).sources) (numbers_below n cut)

-- the first five of the sources, as far as there are any
pub record AreFirstOf (sources : List Source) (first second third fourth fifth : Option Source) : Type 0 where
  pub first_is : first ≡ slice_get sources 0
  pub second_is : second ≡ slice_get sources 1
  pub third_is : third ≡ slice_get sources 2
  pub fourth_is : fourth ≡ slice_get sources 3
  pub fifth_is : fifth ≡ slice_get sources 4

-- the outputs below n, as sources
abbrev pub outputs_below : FlowGraph → (ℕ → Bool) → ℕ → List Source
outputs_below graph cut n = map (λ k. Made k) (numbers_below n (is_output graph cut))

-- where the source is a register at the block's entry, that is one of x0 to x31
abbrev pub IsRegister : Source → Type 0
IsRegister (Entry r) = r < 32
IsRegister (Made k) = ⊤

-- the register that a source is in, and x0 for none
abbrev pub register_or_zero : List Insn → Option Source → ℕ
register_or_zero insns source = unwrap_or (option_map (register_of insns) source) 0

-- the `cread` of the hidden result of this index into the register of an output, if there is one
abbrev pub read_of : List Insn → ℕ → Option Source → List Insn
read_of insns index output = option_to_list (option_map (λ source. Cread (register_of insns source) index) output)
