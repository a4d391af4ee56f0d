-- What the definitions of arcs give on a few instructions, computed.
use Rattle.std.proofs.Common.{◌≡◌, ℕ, refl, List, [], ◌∷◌, map, arith}
use Rattle.std.specs.Prelude.{true}
use Rattle.ci_word.specs.declared.arithmetic.Op.TheVariants.{Add}
use Rattle.ci_word.specs.Numbers.{numbers_below, some_below}
use Rattle.ci_isa.specs.declared.instruction.Insn.{Insn}
use Rattle.ci_isa.specs.declared.instruction.Insn.TheVariants.{Alu, Unit, Cread, Cput}
use Rattle.ci_isa.specs.Sequences.{nth_insn, latest_writer}
use Rattle.ci_dfg.specs.BlockGraph.{has_own_arc, has_arc_into}
use Rattle.ci_dfg.specs.Hazards.{HasHazard, read_after_write, IsJoinedBy}

-- unit 0 x6, x5, x0, x0; cread x7; add x10, x11, x12; unit 1 x8, x9, x0, x0; cread x5
two_bundles : List Insn
two_bundles = Unit 0 6 5 0 0 ∷ Cread 7 0 ∷ Alu Add 10 11 12 ∷ Unit 1 8 9 0 0 ∷ Cread 5 0 ∷ []

nodes : List ℕ
nodes = numbers_below 5 (λ _. true)

-- by what the instructions do, the first unit word alone stays before the second `cread`, which writes what it reads
own_arcs : map (λ k. numbers_below k (has_own_arc two_bundles k)) nodes ≡ [] ∷ [] ∷ [] ∷ [] ∷ (0 ∷ []) ∷ []
unfolding two_bundles nodes latest_writer numbers_below
own_arcs = refl

-- so the whole first bundle stays before the whole second one, and the sum between them stays free
all_arcs : map (λ k. numbers_below k (has_arc_into two_bundles k)) nodes ≡ [] ∷ (0 ∷ []) ∷ [] ∷ (0 ∷ 1 ∷ []) ∷ (0 ∷ 1 ∷ 3 ∷ []) ∷ []
unfolding two_bundles nodes latest_writer numbers_below some_below
all_arcs = refl

-- ---- a hazard with a writer between

-- add x5, x11, x12; add x5, x13, x14; add x6, x5, x15
written_twice : List Insn
written_twice = Alu Add 5 11 12 ∷ Alu Add 5 13 14 ∷ Alu Add 6 5 15 ∷ []

-- the third reads what the first writes, and has its arc from the second alone
hazard : HasHazard 5 (nth_insn written_twice 0) (nth_insn written_twice 2)
unfolding written_twice
hazard = read_after_write refl refl

arcs : map (λ k. numbers_below k (has_arc_into written_twice k)) (0 ∷ 1 ∷ 2 ∷ []) ≡ [] ∷ (0 ∷ []) ∷ (1 ∷ []) ∷ []
unfolding written_twice latest_writer numbers_below some_below
arcs = refl

joined : IsJoinedBy written_twice 5 0 2 1
unfolding written_twice latest_writer some_below
joined = record { behind = omega arith; before = omega arith; writes = refl; enters = refl; leaves = refl }

-- ---- a bundle of four words

-- 0: add x5, x11, x12; 1: add x20, x13, x14; 2: cput x5, x6; 3: unit 0 x7, x20, x0, x0; 4: cread x8, 0; 5: cread x9, 1;
-- 6: add x21, x8, x15; 7: add x20, x16, x17; 8: add x5, x18, x19
four_words : List Insn
four_words =
    Alu Add 5 11 12 ∷ Alu Add 20 13 14 ∷ Cput 5 6 ∷ Unit 0 7 20 0 0 ∷ Cread 8 0 ∷ Cread 9 1 ∷ Alu Add 21 8 15 ∷ Alu Add 20 16 17
    ∷ Alu Add 5 18 19 ∷ []

nine : List ℕ
nine = 0 ∷ 1 ∷ 2 ∷ 3 ∷ 4 ∷ 5 ∷ 6 ∷ 7 ∷ 8 ∷ []

-- 0 gives x5 to the `cput`, and 1 x20 to the unit word. 6 takes x8 from the first `cread`, 7 writes the unit word's x20
-- again, which 1 writes too, and 8 the `cput`'s x5, which 0 writes.
four_own : map (λ k. numbers_below k (has_own_arc four_words k)) nine
    ≡ [] ∷ [] ∷ (0 ∷ []) ∷ (1 ∷ []) ∷ [] ∷ [] ∷ (4 ∷ []) ∷ (1 ∷ 3 ∷ []) ∷ (0 ∷ 2 ∷ []) ∷ []
unfolding four_words nine latest_writer numbers_below
four_own = refl

-- So the `cput` stays behind 1 too, each word of the bundle behind the one before it, and 6, 7 and 8 behind the last.
four_all : map (λ k. numbers_below k (has_arc_into four_words k)) nine
    ≡ [] ∷ [] ∷ (0 ∷ 1 ∷ []) ∷ (1 ∷ 2 ∷ []) ∷ (3 ∷ []) ∷ (4 ∷ []) ∷ (4 ∷ 5 ∷ []) ∷ (1 ∷ 3 ∷ 5 ∷ []) ∷ (0 ∷ 2 ∷ 5 ∷ []) ∷ []
unfolding four_words nine latest_writer numbers_below some_below
four_all = refl

-- a `cput` with its unit word, then a unit word alone and one with a `cread`, all of other registers: three bundles
three_bundles : List Insn
three_bundles = Cput 5 6 ∷ Unit 0 7 8 0 0 ∷ Unit 1 9 11 0 0 ∷ Unit 2 12 13 0 0 ∷ Cread 14 0 ∷ []

three_all : map (λ k. numbers_below k (has_arc_into three_bundles k)) nodes ≡ [] ∷ (0 ∷ []) ∷ [] ∷ [] ∷ (3 ∷ []) ∷ []
unfolding three_bundles nodes latest_writer numbers_below some_below
three_all = refl
