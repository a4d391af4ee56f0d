-- The graph of a block in which one value takes a free register: no arc is new, and nothing else differs.
use Rattle.std.specs.Prelude.{◌≡◌, ℕ, zero, suc, ◌<◌, ◌==◌, ◌&&◌, ◌||◌, not, Bool, true, false, if◌then◌else◌, List, [], ◌∷◌, length, map, filter, Option, Some, None, ℤ, ◌⊎◌}
use Rattle.std.specs.List.{list_any}
use Rattle.std.specs.FinSet as finite
use Rattle.std.specs.Ordering.{nat_cmp}
use Rattle.std.proofs.Common.{refl, sym, ap, ◌∙◌, subst, arith, inl, inr, true≢false}
use Rattle.std.proofs.lemmas.Bool.{or_cases, or_right, cases_eq, cases_lt, and_parts, and_from, eqb-true, eq-eqb, false_from_ne_true}
use Rattle.std.proofs.lemmas.Bool.Decides.{nat_tests}
use Rattle.std.proofs.lemmas.List.{get_or_past, map-id}
use Rattle.ci_word.specs.declared.arithmetic.Op.{Op}
use Rattle.ci_word.specs.declared.arithmetic.Op.TheVariants as ops
use Rattle.ci_word.specs.declared.arithmetic.Class.TheVariants as class
use Rattle.ci_isa.specs.declared.instruction.Insn.{Insn}
use Rattle.ci_isa.specs.declared.instruction.Insn.TheVariants.{Alu, AluImm, Ebreak, Lui}
use Rattle.ci_isa.specs.Effects.{class_of, constant_class, is_among, is_division, is_kept, is_no_op, is_unit, is_zero, may_join, operands}
use Rattle.ci_isa.specs.Effects.{reads_register, results, without_x0, writes_register}
use Rattle.ci_isa.specs.Sequences.{nth_insn, latest_writer}
use Rattle.ci_isa.proofs.LastWriter.{latest_writer_is_last}
use Rattle.ci_cut.specs.declared.graph.Source.{Source}
use Rattle.ci_cut.specs.declared.graph.Source.TheVariants.{Entry, Made}
use Rattle.ci_cut.specs.FlowGraph.{is_source}
use Rattle.ci_dfg.specs.Arcs.{IsArc, IsOwnArc, true_arc, anti_arc, output_arc, memory_arc, control_arc}
use Rattle.ci_dfg.specs.BundleArcs.{IsSpan, own, chain, enters, leaves}
use Rattle.ci_dfg.specs.BlockGraph.{is_joined, is_live, is_written_after, source_from, source_of, sources}
use Rattle.ci_dfg.proofs.ArcLaws.{found_among, found_from, past_the_end}
use Rattle.ci_dfg.proofs.SourceLaws.{made_is}
use Rattle.ci_dfg.proofs.WritersByPlace.{not_written_after, written_after}
use Rattle.ci_machine.proofs.TestLaws.{by_test}
use Rattle.ci_machine.proofs.RegisterLaws.{first_there}
use Rattle.ci_rename.specs.OtherRegisters.{all_sources, with_operands, with_result}
use Rattle.ci_rename.specs.Renaming.{IsFree, IsLocal, moved_to, renamed}
use Rattle.ci_rename.specs.Steps.{IsPlainInsn}
use Rattle.ci_rename.proofs.KnownValues.{made_before}
use Rattle.ci_rename.proofs.OtherFields.{IsOfOneKind, same_results}
use Rattle.ci_rename.proofs.RenamedBlocks.{other_kind}
use Rattle.ci_rename.proofs.ReadValues.{made_source}
use Rattle.ci_rename.proofs.RenamedValues.{computes_alike, no_other, live_source, new_here, new_length, new_operands, new_other, new_sources}
use Rattle.ci_rename.proofs.RenamedValues.{within, writes_here, writes_other}

-- ---- sources without x0

-- what comes from a register other than x0, or from a node
abbrev pub is_kept_source : Source → Bool
is_kept_source (Entry r) = is_kept r
is_kept_source (Made j) = true

module _ (insns : List Insn) (k : ℕ) where
  kept_source : (q : ℕ) → is_kept_source (source_of insns k q) ≡ is_kept q
  kept_source q = by_writer (latest_writer insns q k) refl
    where
      by_writer : (writer : Option ℕ) → latest_writer insns q k ≡ writer → is_kept_source (source_from insns q writer) ≡ is_kept q
      by_writer None is = refl
      by_writer (Some w) is =
          sym (and_parts (is_kept q) (list_any (λ n. n == q) (results (nth_insn insns w))) ((latest_writer_is_last insns q k w).0 is).writes).0

  kept_sources : (registers : List ℕ) → map (source_of insns k) (without_x0 registers) ≡ filter is_kept_source (map (source_of insns k) registers)
  kept_sources [] = refl
  kept_sources (q ∷ registers) = tested (is_kept q) (is_kept_source (source_of insns k q)) (kept_source q) (kept_sources registers)
    where
      tested : (b c : Bool) → c ≡ b → map (source_of insns k) (without_x0 registers) ≡ filter is_kept_source (map (source_of insns k) registers)
          → map (source_of insns k) (if b then q ∷ without_x0 registers else without_x0 registers)
          ≡ (if c then source_of insns k q ∷ filter is_kept_source (map (source_of insns k) registers) else filter is_kept_source (map (source_of insns k) registers))
      tested true true same rest = ap (λ more. source_of insns k q ∷ more) rest
      tested false false same rest = rest
      tested true false same rest = cc
      tested false true same rest = cc

-- the sources of a node are all its sources without x0
pub sources_are : (insns : List Insn) (k : ℕ) → sources insns k ≡ filter is_kept_source (all_sources insns k)
sources_are insns k = kept_sources insns k (operands (nth_insn insns k))

-- ---- live values

-- a value is live exactly where it is what some register that is live behind the block comes from
pub live_value : (live_out : finite.FinSet nat_cmp) (insns : List Insn) (k : ℕ) → is_live insns live_out k ≡ true
    → (q : ℕ) × (finite.contains live_out q ≡ true) × (source_of insns (length insns) q ≡ Made k)
live_value live_out insns k is =
    let found =
    found_from (λ n. finite.contains live_out n && not (is_written_after insns k n)) (λ n. n) (results (nth_insn insns k))
    (ap (list_any (λ n. finite.contains live_out n && not (is_written_after insns k n))) (map-id (without_x0 (results (nth_insn insns k)))) ∙ is) in
    let parts = and_parts (finite.contains live_out found.0) (not (is_written_after insns k found.0)) found.3 in
    let writes = and_from (is_kept found.0) (list_any (λ n. n == found.0) (results (nth_insn insns k))) found.1 found.2 in (
      found.0,
      parts.0,
      ap (source_from insns found.0) ((latest_writer_is_last insns found.0 (length insns) k).1 (record {
        before = inside found.0 writes;
        writes = writes;
        none_between = λ j behind below. false_from_ne_true _ (λ wrote.
            true≢false (sym (written_after insns found.0 k j behind below wrote) ∙ not_so (is_written_after insns k found.0) parts.1));
      })),
    )
  where
    not_so : (b : Bool) → not b ≡ true → b ≡ false
    not_so b is = grind arith

    nothing : (q : ℕ) → is_among [] q ≡ true → ⊥
    nothing q wrote = grind (arith, nat_tests)

    inside : (q : ℕ) → writes_register (nth_insn insns k) q ≡ true → k < length insns
    inside q wrote = elim (cases_lt k (length insns)) [
      | inl below ↦ below
      | inr past ↦ absurd (nothing q (ap (λ insn. writes_register insn q) (sym (get_or_past insns k Ebreak past)) ∙ wrote))
    ]

pub value_live : (live_out : finite.FinSet nat_cmp) (insns : List Insn) (k q : ℕ) → finite.contains live_out q ≡ true
    → source_of insns (length insns) q ≡ Made k → is_live insns live_out k ≡ true
value_live live_out insns k q live is =
    let last = (latest_writer_is_last insns q (length insns) k).0 (made_is insns (length insns) q k is) in
    let parts = and_parts (is_kept q) (list_any (λ n. n == q) (results (nth_insn insns k))) last.writes in
    ap (list_any (λ n. finite.contains live_out n && not (is_written_after insns k n))) (sym (map-id (without_x0 (results (nth_insn insns k)))))
    ∙ found_among (λ n. finite.contains live_out n && not (is_written_after insns k n)) (λ n. n) q (results (nth_insn insns k))
    (and_from (finite.contains live_out q) (not (is_written_after insns k q)) live
    (ap not (not_written_after insns q k (λ j behind below. last.none_between j behind below)))) parts.0 parts.1

pub same_truth : (a b : Bool) → (a ≡ true → b ≡ true) → (b ≡ true → a ≡ true) → a ≡ b
same_truth true true to from = refl
same_truth true false to from = sym (to refl)
same_truth false true to from = from refl
same_truth false false to from = refl

-- ---- kinds

-- a no-op reads x0 alone
no_op_operand : (op : Op) (rd rs1 other : ℕ) (imm : ℤ) → (other == 0) ≡ (rs1 == 0) → is_no_op op rd other imm ≡ is_no_op op rd rs1 imm
no_op_operand ops.Add rd rs1 other imm same = ap (λ b. rd == 0 && b && is_zero imm) same
no_op_operand op rd rs1 other imm same = refl

-- and writes it
no_op_result : (op : Op) (rd other rs1 : ℕ) (imm : ℤ) → (other == 0) ≡ (rd == 0) → is_no_op op other rs1 imm ≡ is_no_op op rd rs1 imm
no_op_result ops.Add rd other rs1 imm same = ap (λ b. b && rs1 == 0 && is_zero imm) same
no_op_result op rd other rs1 imm same = refl

operand_class : (to : ℕ → ℕ) → ((q : ℕ) → (to q == 0) ≡ (q == 0)) → (insn : Insn) → class_of (with_operands to insn) ≡ class_of insn
operand_class to keeps (AluImm op rd rs1 imm) = ap (λ b. if b then class.Free else constant_class op) (no_op_operand op rd rs1 (to rs1) imm (keeps rs1))
operand_class to keeps insn = refl

result_class : (to : ℕ) (insn : Insn) (r : ℕ) → (to == 0) ≡ false → writes_register insn r ≡ true → class_of (with_result to insn) ≡ class_of insn
result_class to (AluImm op rd rs1 imm) r kept writes =
    let written : (rd == 0) ≡ false = grind (arith, nat_tests) in
    ap (λ b. if b then class.Free else constant_class op) (no_op_result op rd to rs1 imm (kept ∙ sym written))
result_class to insn r kept writes = refl

operand_joins : (to : ℕ → ℕ) (insn : Insn) → may_join (with_operands to insn) ≡ may_join insn
operand_joins to (Alu op rd rs1 rs2) = refl
operand_joins to insn = refl

result_joins : (to : ℕ) (insn : Insn) (r : ℕ) → (to == 0) ≡ false → writes_register insn r ≡ true → may_join (with_result to insn) ≡ may_join insn
result_joins to (Alu op rd rs1 rs2) r kept writes =
    let written : (rd == 0) ≡ false = grind (arith, nat_tests) in
    λ i. not (is_division op) && not ((kept ∙ sym written) i)
result_joins to (AluImm op rd rs1 imm) r kept writes =
    let written : (rd == 0) ≡ false = grind (arith, nat_tests) in
    λ i. not (is_division op) && not ((kept ∙ sym written) i)
result_joins to (Lui rd upper) r kept writes =
    let written : (rd == 0) ≡ false = grind (arith, nat_tests) in
    λ i. not ((kept ∙ sym written) i)
result_joins to insn r kept writes = refl

-- a register among moved ones is what one of them moves to
moved_from : (f : ℕ → ℕ) (registers : List ℕ) (q : ℕ) → list_any (λ n. n == q) (map f registers) ≡ true
    → (p : ℕ) × (f p ≡ q) × (list_any (λ n. n == p) registers ≡ true)
moved_from f [] q there = absurd (true≢false (sym there))
moved_from f (p ∷ registers) q there = elim (or_cases (f p == q) (list_any (λ n. n == q) (map f registers)) there) [
  | inl here ↦ (p, eqb-true (f p) q here, first_there p registers)
  | inr later ↦ let found = moved_from f registers q later in (found.0, found.1, or_right (p == found.0) _ found.2)
]

-- ---- one value

-- what a graph says of node k but for its arcs
pub record IsSameNode (live_out : finite.FinSet nat_cmp) (old next : List Insn) (k : ℕ) : Type 0 where
  pub joins : may_join (nth_insn next k) ≡ may_join (nth_insn old k)
  pub class : class_of (nth_insn next k) ≡ class_of (nth_insn old k)
  pub sources : sources next k ≡ sources old k
  pub live : is_live next live_out k ≡ is_live old live_out k

module _ (live_out : finite.FinSet nat_cmp) (insns : List Insn) (plain : (k : ℕ) → k < length insns → IsPlainInsn (nth_insn insns k))
    (i r to : ℕ) (value : IsLocal live_out insns i r) (free : IsFree live_out insns to) where
  abbrev next : List Insn
  next = renamed insns i to

  abbrev m : ℕ → ℕ → ℕ
  m k = moved_to insns i to k

  to_kept : (to == 0) ≡ false
  to_kept = let kept = free.kept in grind (arith, nat_tests)

  -- a register and what it moves to are both x0, or neither
  moves_kept : (k q : ℕ) → (m k q == 0) ≡ (q == 0)
  moves_kept k q =
      by_test (is_source (Made i) (source_of insns k q))
      (λ is.
      let last = (latest_writer_is_last insns q k i).0 (made_is insns k q i (made_source i _ is)) in
      let kept = (and_parts (is_kept q) (list_any (λ n. n == q) (results (nth_insn insns i))) last.writes).0 in
      let some : (q == 0) ≡ false = grind (arith, nat_tests) in
      ap (λ b. (if b then to else q) == 0) is ∙ to_kept ∙ sym some)
      (λ other. ap (λ b. (if b then to else q) == 0) other)

  read_writes : writes_register (with_operands (m i) (nth_insn insns i)) r ≡ true
  read_writes = ap (λ registers. is_among registers r) (same_results (m i) (nth_insn insns i)) ∙ value.writes

  pub same_node : (k : ℕ) → k < length insns → IsSameNode live_out insns next k
  same_node k below = elim (cases_eq k i) [
    | inl same ↦ subst (IsSameNode live_out insns next) (sym same) (record {
      joins =
          ap may_join (new_here live_out insns plain i r to value free)
          ∙ result_joins to (with_operands (m i) (nth_insn insns i)) r to_kept read_writes ∙ operand_joins (m i) (nth_insn insns i);
      class =
          ap class_of (new_here live_out insns plain i r to value free)
          ∙ result_class to (with_operands (m i) (nth_insn insns i)) r to_kept read_writes
          ∙ operand_class (m i) (moves_kept i) (nth_insn insns i);
      sources = node_sources i (within live_out insns plain i r to value free);
      live = node_live i;
    })
    | inr other ↦ record {
      joins = ap may_join (new_other live_out insns plain i r to value free k below other) ∙ operand_joins (m k) (nth_insn insns k);
      class =
          ap class_of (new_other live_out insns plain i r to value free k below other)
          ∙ operand_class (m k) (moves_kept k) (nth_insn insns k);
      sources = node_sources k below;
      live = node_live k;
    }
  ]
    where
      node_sources : (k : ℕ) → k < length insns → sources next k ≡ sources insns k
      node_sources k below =
          sources_are next k ∙ ap (filter is_kept_source) (new_sources live_out insns plain i r to value free k below) ∙ sym (sources_are insns k)

      node_live : (k : ℕ) → is_live next live_out k ≡ is_live insns live_out k
      node_live k =
          let all = new_length live_out insns plain i r to value free in
          same_truth _ _
          (λ is.
          let (q, live, made) = live_value live_out next k is in
          value_live live_out insns k q live
          (sym (live_source live_out insns plain i r to value free q live) ∙ ap (λ n. source_of next n q) (sym all) ∙ made))
          (λ is.
          let (q, live, made) = live_value live_out insns k is in
          value_live live_out next k q live
          (ap (λ n. source_of next n q) all ∙ live_source live_out insns plain i r to value free q live ∙ made))

  -- ---- arcs

  kind : (k : ℕ) → k < length insns → IsOfOneKind (nth_insn insns k) (nth_insn next k)
  kind k below = other_kind (nth_insn insns k) (nth_insn next k) ((computes_alike live_out insns plain i r to value free).each k below)

  -- the new register is written by the node alone, which writes no other
  writes_new : (k : ℕ) → k < length insns → writes_register (nth_insn next k) to ≡ true → k ≡ i
  writes_new k below wrote = elim (cases_eq k i) [
    | inl same ↦ same
    | inr other ↦
        absurd (true≢false (sym wrote ∙ writes_other live_out insns plain i r to value free k below other to ∙ free.unwritten k below))
  ]

  writes_old : (k q : ℕ) → k < length insns → (q == to) ≡ false → writes_register (nth_insn next k) q ≡ true
      → writes_register (nth_insn insns k) q ≡ true
  writes_old k q below differs wrote = elim (cases_eq k i) [
    | inl same ↦
        absurd (true≢false (sym wrote ∙ ap (λ n. writes_register (nth_insn next n) q) same
        ∙ writes_here live_out insns plain i r to value free q ∙ no_other live_out insns plain i r to value free q differs))
    | inr other ↦ sym (writes_other live_out insns plain i r to value free k below other q) ∙ wrote
  ]

  -- what reads it reads it from the node, and what reads another read that
  read_from : (k q : ℕ) → k < length insns → reads_register (nth_insn next k) q ≡ true
      → ((q ≡ to) × (i < k)) ⊎ (reads_register (nth_insn insns k) q ≡ true)
  read_from k q below read =
      let parts = and_parts (is_kept q) (list_any (λ n. n == q) (operands (nth_insn next k))) read in
      let found =
      moved_from (m k) (operands (nth_insn insns k)) q
      (ap (list_any (λ n. n == q)) (sym (new_operands live_out insns plain i r to value free k below)) ∙ parts.1) in
      by_test (is_source (Made i) (source_of insns k found.0))
      (λ is.
      inl (sym found.1 ∙ ap (λ b. if b then to else found.0) is, made_before insns k found.0 i (made_source i _ is)))
      (λ other.
      let same : found.0 ≡ q = sym (ap (λ b. if b then to else found.0) other) ∙ found.1 in
      inr (and_from (is_kept q) (list_any (λ n. n == q) (operands (nth_insn insns k))) parts.0
      (subst (λ n. list_any (λ o. o == n) (operands (nth_insn insns k)) ≡ true) same found.2)))

  -- no node stands in one bundle with the one before it
  apart : (k : ℕ) → is_joined next k ≡ false
  apart zero = refl
  apart (suc k) = elim (cases_lt (suc k) (length insns)) [
    | inl below ↦
        let first = kind k (omega arith) in
        let second = kind (suc k) below in
        (λ i. ((first.cput ∙ (plain k (omega arith)).2) i && is_unit (nth_insn next (suc k)))
        || (((first.unit ∙ (plain k (omega arith)).0) i || (first.cread ∙ (plain k (omega arith)).1) i)
        && (second.cread ∙ (plain (suc k) below).1) i))
    | inr past ↦ past_the_end next (suc k) (omega (arith, new_length live_out insns plain i r to value free))
  ]

  -- so each node is a bundle of its own
  span_is_one : (first last : ℕ) → IsSpan (is_joined next) first last → first ≡ last
  span_is_one first last span = elim (cases_eq first last) [
    | inl same ↦ same
    | inr other ↦
        let rises = span.rises in
        absurd (true≢false (sym (span.inside last (omega arith) (omega arith)) ∙ apart last))
  ]

  -- each arc was one before
  own_before : (j k : ℕ) → k < length insns → IsOwnArc next j k → IsOwnArc insns j k
  own_before _ _ below (true_arc j k q last reads) =
      let parts = and_parts (is_kept q) (list_any (λ n. n == q) (operands (nth_insn next k))) reads in
      let made =
      found_among (is_source (Made j)) (source_of next k) q (operands (nth_insn next k))
      (ap (λ writer. is_source (Made j) (source_from next q writer)) ((latest_writer_is_last next q k j).1 last) ∙ eq-eqb j j refl) parts.0 parts.1 in
      let found =
      found_from (is_source (Made j)) (source_of insns k) (operands (nth_insn insns k))
      (ap (list_any (is_source (Made j))) (sym (same_node k below).sources) ∙ made) in
      true_arc j k found.0
      ((latest_writer_is_last insns found.0 k j).0 (made_is insns k found.0 j (made_source j _ found.3)))
      (and_from (is_kept found.0) (list_any (λ n. n == found.0) (operands (nth_insn insns k))) found.1 found.2)
  own_before _ _ below (anti_arc j k q order reads writes) =
      by_test (q == to)
      (λ is.
      let same : q ≡ to = eqb-true q to is in
      let here : k ≡ i = writes_new k below (subst (λ n. writes_register (nth_insn next k) n ≡ true) same writes) in
      elim (read_from j q (omega arith) reads) [
        | inl (new, behind) ↦ absurd (omega arith)
        | inr old ↦ absurd (true≢false (sym (subst (λ n. reads_register (nth_insn insns j) n ≡ true) same old) ∙ free.unread j (omega arith)))
      ])
      (λ differs.
      elim (read_from j q (omega arith) reads) [
        | inl (new, behind) ↦ absurd (true≢false (sym (eq-eqb q to new) ∙ differs))
        | inr old ↦ anti_arc j k q order old (writes_old k q below differs writes)
      ])
  own_before _ _ below (output_arc j k q order first second) =
      by_test (q == to)
      (λ is.
      let same : q ≡ to = eqb-true q to is in
      let one : j ≡ i = writes_new j (omega arith) (subst (λ n. writes_register (nth_insn next j) n ≡ true) same first) in
      let two : k ≡ i = writes_new k below (subst (λ n. writes_register (nth_insn next k) n ≡ true) same second) in
      absurd (omega arith))
      (λ differs. output_arc j k q order (writes_old j q (omega arith) differs first) (writes_old k q below differs second))
  own_before _ _ below (memory_arc j k order first second) =
      memory_arc j k order (sym (kind j (omega arith)).access ∙ first) (sym (kind k below).access ∙ second)
  own_before _ _ below (control_arc j k order ends) = control_arc j k order (sym (kind k below).ends ∙ ends)

  pub arc_before : (j k : ℕ) → k < length insns → IsArc next j k → IsArc insns j k
  arc_before _ _ below (own j k order is) = own j k order (own_before j k below is)
  arc_before _ _ below (chain j joins) = absurd (true≢false (sym joins ∙ apart (suc j)))
  arc_before _ _ below (enters j first k span begins order is) =
      let same = span_is_one first k span in
      subst (IsArc insns j) (sym same) (arc_before j k (omega (arith, same)) is)
  arc_before _ _ below (leaves j last k span ends order is) =
      subst (λ n. IsArc insns n k) (span_is_one j last span) (arc_before j k below is)
