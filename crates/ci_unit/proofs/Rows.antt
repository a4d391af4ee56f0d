-- The units of a few cuts, computed.
use Rattle.std.proofs.Common.{◌≡◌, ℕ, Bool, true, false, List, [], ◌∷◌, refl, lit<}
use Rattle.std.specs.Prelude.{pos, nat_lt, if◌then◌else◌}
use Rattle.std.specs.FinSet as set
use Rattle.ci_word.specs.declared.arithmetic.Op.TheVariants.{Add, Sub, Xor, Sll}
use Rattle.ci_word.specs.declared.arithmetic.Class.TheVariants as class
use Rattle.ci_word.specs.Numbers.{numbers_below, count_below, some_below}
use Rattle.ci_isa.specs.declared.instruction.Insn.{Insn}
use Rattle.ci_isa.specs.declared.instruction.Insn.TheVariants.{Alu, AluImm, Lui, Load, Unit, Cread, Cput}
use Rattle.ci_isa.specs.declared.instruction.LoadKind.TheVariants as kinds
use Rattle.ci_isa.specs.Table.{ReadsX}
use Rattle.ci_cut.specs.declared.graph.Source.{Source}
use Rattle.ci_cut.specs.declared.graph.Source.TheVariants.{Entry, Made}
use Rattle.ci_cut.specs.declared.graph.Node.{Node}
use Rattle.ci_cut.specs.FlowGraph.{FlowGraph}
use Rattle.ci_cut.specs.Hardware.{descending_lists}
use Rattle.ci_unit.specs.declared.operations.Arg.TheVariants.{Input, Earlier, Constant}
use Rattle.ci_unit.specs.Units.{unit_of, IsValueOf, IsTripleOf}
use Rattle.ci_unit.specs.Units as units
use Rattle.ci_unit.specs.Uses.{use_of}
use Rattle.ci_unit.specs.Equality.{same_unit}

abbrev node : List Source → Bool → Node
node sources live = record { eligible = true; latency = 1; delay = 600; sources = sources; before = set.empty; live = live }

abbrev graph_of : List Node → FlowGraph
graph_of nodes = record { nodes = nodes; read = 1; pad = 0 }

-- the unit of all of a block's instructions
abbrev whole : ℕ → List Insn → List Node → units.Unit
whole count insns nodes = unit_of insns (graph_of nodes) (λ k. nat_lt k count)

-- ---- a constant of two instructions: lui x5, 0x12345; addi x5, x5, 1656

abbrev constant : units.Unit
constant = whole 2 (Lui 5 305418240 ∷ AluImm Add 5 5 (pos 1656) ∷ []) (node [] false ∷ node (Made 0 ∷ []) true ∷ [])

constant_is : constant ≡ record {
  ops =
      record { class = class.Lui; op = Add; left = Constant 305418240; right = Constant 0 }
      ∷ record { class = class.Add; op = Add; left = Earlier 0; right = Constant 1656 }
      ∷ [];
  outputs = 1 ∷ [];
  cycles = 2;
}
unfolding numbers_below count_below some_below descending_lists
constant_is = refl

-- it has no input, and gives 0x12345678
constant_value : IsValueOf constant [] (305419896 ∷ [])
unfolding numbers_below count_below some_below descending_lists
constant_value = record { results = 305418240 ∷ 305419896 ∷ []; results_are = refl; outputs_are = refl }

-- ---- the registers have no part in it

-- add x5, x10, x11; add x5, x5, x12, and add x8, x20, x21; add x8, x8, x22
same_sums :
    whole 2 (Alu Add 5 10 11 ∷ Alu Add 5 5 12 ∷ []) (node (Entry 10 ∷ Entry 11 ∷ []) false ∷ node (Made 0 ∷ Entry 12 ∷ []) true ∷ [])
    ≡ whole 2 (Alu Add 8 20 21 ∷ Alu Add 8 8 22 ∷ []) (node (Entry 20 ∷ Entry 21 ∷ []) false ∷ node (Made 0 ∷ Entry 22 ∷ []) true ∷ [])
unfolding numbers_below count_below some_below descending_lists
same_sums = refl

-- ---- inputs by first use, x0 as a constant, and outputs in the order of the block

-- sub x5, x11, x10; xor x6, x0, x10, both live
abbrev two_outputs : units.Unit
two_outputs =
    whole 2 (Alu Sub 5 11 10 ∷ Alu Xor 6 0 10 ∷ []) (node (Entry 11 ∷ Entry 10 ∷ []) true ∷ node (Entry 10 ∷ []) true ∷ [])

two_outputs_are : two_outputs ≡ record {
  ops =
      record { class = class.Add; op = Sub; left = Input 0; right = Input 1 }
      ∷ record { class = class.Logic; op = Xor; left = Constant 0; right = Input 1 }
      ∷ [];
  outputs = 0 ∷ 1 ∷ [];
  cycles = 1;
}
unfolding numbers_below count_below some_below descending_lists
two_outputs_are = refl

-- ---- five inputs, and three outputs

-- sums of x10 to x14
abbrev five_sums : List Insn
five_sums = Alu Add 5 10 11 ∷ Alu Add 5 5 12 ∷ Alu Add 5 5 13 ∷ Alu Add 5 5 14 ∷ []

abbrev five_nodes : List Node
five_nodes =
    node (Entry 10 ∷ Entry 11 ∷ []) false ∷ node (Made 0 ∷ Entry 12 ∷ []) false ∷ node (Made 1 ∷ Entry 13 ∷ []) false
    ∷ node (Made 2 ∷ Entry 14 ∷ []) true ∷ []

five_inputs_are : whole 4 five_sums five_nodes ≡ record {
  ops =
      record { class = class.Add; op = Add; left = Input 0; right = Input 1 }
      ∷ record { class = class.Add; op = Add; left = Earlier 0; right = Input 2 }
      ∷ record { class = class.Add; op = Add; left = Earlier 1; right = Input 3 }
      ∷ record { class = class.Add; op = Add; left = Earlier 2; right = Input 4 }
      ∷ [];
  outputs = 3 ∷ [];
  cycles = 3;
}
unfolding numbers_below count_below some_below descending_lists
five_inputs_are = refl

-- at 1, 2, 4, 8 and 16 it gives 31 alone
five_inputs_give : IsTripleOf (whole 4 five_sums five_nodes) (1 ∷ 2 ∷ 4 ∷ 8 ∷ 16 ∷ []) (31 ∷ 0 ∷ 0 ∷ [])
unfolding numbers_below count_below some_below descending_lists
five_inputs_give = record {
  outputs = 31 ∷ [];
  value = record { results = 3 ∷ 7 ∷ 15 ∷ 31 ∷ []; results_are = refl; outputs_are = refl };
  triple = refl;
}

-- sub x5, x11, x10; xor x6, x0, x10; add x7, x10, x11, all live
abbrev three_values : List Insn
three_values = Alu Sub 5 11 10 ∷ Alu Xor 6 0 10 ∷ Alu Add 7 10 11 ∷ []

abbrev three_nodes : List Node
three_nodes = node (Entry 11 ∷ Entry 10 ∷ []) true ∷ node (Entry 10 ∷ []) true ∷ node (Entry 10 ∷ Entry 11 ∷ []) true ∷ []

three_outputs_are : whole 3 three_values three_nodes ≡ record {
  ops =
      record { class = class.Add; op = Sub; left = Input 0; right = Input 1 }
      ∷ record { class = class.Logic; op = Xor; left = Constant 0; right = Input 1 }
      ∷ record { class = class.Add; op = Add; left = Input 1; right = Input 0 }
      ∷ [];
  outputs = 0 ∷ 1 ∷ 2 ∷ [];
  cycles = 1;
}
unfolding numbers_below count_below some_below descending_lists
three_outputs_are = refl

-- at 9 and 4 it gives their difference, the 4 and their sum
three_outputs_give : IsTripleOf (whole 3 three_values three_nodes) (9 ∷ 4 ∷ 0 ∷ 0 ∷ 0 ∷ []) (5 ∷ 4 ∷ 13 ∷ [])
unfolding numbers_below count_below some_below descending_lists
three_outputs_give = record {
  outputs = 5 ∷ 4 ∷ 13 ∷ [];
  value = record { results = 5 ∷ 4 ∷ 13 ∷ []; results_are = refl; outputs_are = refl };
  triple = refl;
}

-- ---- a member behind a node that is none: earlier operations are numbered among the members

-- add x5, x10, x11; add x6, x12, x13, which is no member; add x7, x5, x6
behind_a_gap :
    unit_of (Alu Add 5 10 11 ∷ Alu Add 6 12 13 ∷ Alu Add 7 5 6 ∷ [])
    (graph_of (node (Entry 10 ∷ Entry 11 ∷ []) false ∷ node (Entry 12 ∷ Entry 13 ∷ []) false ∷ node (Made 0 ∷ Made 1 ∷ []) true ∷ []))
    (λ k. if nat_lt k 1 then true else nat_lt 1 k)
    ≡ record {
      ops =
          record { class = class.Add; op = Add; left = Input 0; right = Input 1 }
          ∷ record { class = class.Add; op = Add; left = Earlier 0; right = Input 2 }
          ∷ [];
      outputs = 1 ∷ [];
      cycles = 2;
    }
unfolding numbers_below count_below some_below descending_lists
behind_a_gap = refl

-- ---- classes tell units apart

-- sll x5, x10, x0, and slli x5, x10, 0
other_class :
    same_unit (whole 1 (Alu Sll 5 10 0 ∷ []) (node (Entry 10 ∷ []) true ∷ []))
    (whole 1 (AluImm Sll 5 10 (pos 0) ∷ []) (node (Entry 10 ∷ []) true ∷ []))
    ≡ false
unfolding numbers_below count_below some_below descending_lists
other_class = refl

-- ---- the words of a use

-- of a pair of sums with one output, as unit 0: the words 60B5028B and B15A040B
sum_words :
    (use_of (Alu Add 5 10 11 ∷ Alu Add 5 5 12 ∷ [])
    (graph_of (node (Entry 10 ∷ Entry 11 ∷ []) false ∷ node (Made 0 ∷ Entry 12 ∷ []) true ∷ [])) (λ k. nat_lt k 2) 0
    ≡ Unit 0 5 10 11 12 ∷ []) × ReadsX 0x60b5028b (Unit 0 5 10 11 12)
    × (use_of (Alu Add 8 20 21 ∷ Alu Add 8 8 22 ∷ [])
    (graph_of (node (Entry 20 ∷ Entry 21 ∷ []) false ∷ node (Made 0 ∷ Entry 22 ∷ []) true ∷ [])) (λ k. nat_lt k 2) 0
    ≡ Unit 0 8 20 21 22 ∷ []) × ReadsX 0xb15a040b (Unit 0 8 20 21 22)
unfolding numbers_below count_below some_below
sum_words = (refl, (lit< tt, (refl, refl, refl, refl, refl, refl, refl)), refl, (lit< tt, (refl, refl, refl, refl, refl, refl, refl)))

-- of a constant, which has no inputs: 0000028B
constant_words :
    (use_of (Lui 5 305418240 ∷ AluImm Add 5 5 (pos 1656) ∷ []) (graph_of (node [] false ∷ node (Made 0 ∷ []) true ∷ [])) (λ k. nat_lt k 2) 0
    ≡ Unit 0 5 0 0 0 ∷ []) × ReadsX 0x0000028b (Unit 0 5 0 0 0)
unfolding numbers_below count_below some_below
constant_words = (refl, (lit< tt, (refl, refl, refl, refl, refl, refl, refl)))

-- xor x5, x10, x11; xor x6, x5, x12; xor x6, x6, x10; xor x6, x6, x11, where x5 and x6 are live: 60B5028B 0000032B
abbrev mixed : ℕ → ℕ → List Insn
mixed first second = Alu Xor first 10 11 ∷ Alu Xor second first 12 ∷ Alu Xor second second 10 ∷ Alu Xor second second 11 ∷ []

abbrev mixed_graph : FlowGraph
mixed_graph =
    graph_of (node (Entry 10 ∷ Entry 11 ∷ []) true ∷ node (Made 0 ∷ Entry 12 ∷ []) false ∷ node (Made 1 ∷ Entry 10 ∷ []) false
    ∷ node (Made 2 ∷ Entry 11 ∷ []) true ∷ [])

two_words :
    (use_of (mixed 5 6) mixed_graph (λ k. nat_lt k 4) 0 ≡ Unit 0 5 10 11 12 ∷ Cread 6 0 ∷ []) × ReadsX 0x0000032b (Cread 6 0)
    × (use_of (mixed 6 5) mixed_graph (λ k. nat_lt k 4) 0 ≡ Unit 0 6 10 11 12 ∷ Cread 5 0 ∷ []) × ReadsX 0x000002ab (Cread 5 0)
unfolding numbers_below count_below some_below
two_words =
    (refl, (lit< tt, (refl, refl, refl, refl, refl, refl, lit< tt)), refl, (lit< tt, (refl, refl, refl, refl, refl, refl, lit< tt)))

-- of the sums of five registers: `cput` passes x13 and x14, as 00E6902B
five_input_words :
    (use_of five_sums (graph_of five_nodes) (λ k. nat_lt k 4) 0 ≡ Cput 13 14 ∷ Unit 0 5 10 11 12 ∷ []) × ReadsX 0x00e6902b (Cput 13 14)
unfolding numbers_below count_below some_below
five_input_words = (refl, (lit< tt, (refl, refl, refl, refl, refl, refl)))

-- of those of four alone: the fifth operand is x0
four_input_words :
    use_of five_sums (graph_of five_nodes) (λ k. nat_lt k 3) 0 ≡ Cput 13 0 ∷ Unit 0 5 10 11 12 ∷ []
unfolding numbers_below count_below some_below
four_input_words = refl

-- of three values: 0000032B and 001003AB read the second and the third
three_output_words :
    (use_of three_values (graph_of three_nodes) (λ k. nat_lt k 3) 0 ≡ Unit 0 5 11 10 0 ∷ Cread 6 0 ∷ Cread 7 1 ∷ []) × ReadsX 0x001003ab (Cread 7 1)
unfolding numbers_below count_below some_below
three_output_words = (refl, (lit< tt, (refl, refl, refl, refl, refl, refl, lit< tt)))

-- lw x6, 0(x5); add x7, x6, x12; add x7, x7, x7, of which the sums are members: the load's result is in its register
made_input :
    use_of (Load kinds.W 6 5 (pos 0) ∷ Alu Add 7 6 12 ∷ Alu Add 7 7 7 ∷ [])
    (graph_of (node (Entry 5 ∷ []) false ∷ node (Made 0 ∷ Entry 12 ∷ []) false ∷ node (Made 1 ∷ Made 1 ∷ []) true ∷ [])) (λ k. nat_lt 0 k) 31
    ≡ Unit 31 7 6 12 0 ∷ []
unfolding numbers_below count_below some_below
made_input = refl
