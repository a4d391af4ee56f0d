-- A folded block costs less by the gain of the cut.
use Rattle.std.specs.Prelude.{◌≡◌, ℕ, zero, suc, ◌+◌, ◌-◌, ◌*◌, ◌<◌, ◌≤◌, Bool, true, false, not, ◌&&◌, ◌==◌, if◌then◌else◌}
use Rattle.std.specs.Prelude.{ℤ, pos, ◌+ℤ◌, ◌-ℤ◌, ◌*ℤ◌, List, [], ◌∷◌, slice_index, ◌++◌, length, replicate, sum_by}
use Rattle.std.proofs.Common.{refl, sym, ap, ◌∙◌, arith, inl, inr}
use Rattle.std.proofs.lemmas.Bool.{cases_Bool, and_parts}
use Rattle.std.proofs.lemmas.List.Folds.{sum_by-replicate}
use Rattle.std.proofs.lemmas.List.Sums.{sum_by-append, sum_by-cons, sum_by_push}
use Rattle.ci_word.specs.declared.arithmetic.Op.{Op}
use Rattle.ci_word.specs.declared.arithmetic.Op.TheVariants.{Add}
use Rattle.ci_word.specs.Numbers.{sum_below}
use Rattle.ci_word.proofs.NumberLaws.{sum_below-zero, sum_below-suc, sum_below-same}
use Rattle.ci_isa.specs.declared.instruction.Insn.{Insn}
use Rattle.ci_isa.specs.declared.instruction.Insn.TheVariants.{Alu, AluImm, Lui, Unit, Cread, Cput}
use Rattle.ci_isa.specs.Effects.{may_join, class_of, is_no_op, is_division}
use Rattle.ci_isa.specs.Sequences.{nth_insn}
use Rattle.ci_lat.specs.Latencies.{Latencies as Table, latency_of}
use Rattle.ci_machine.specs.Runs.{Latencies, latency}
use Rattle.ci_cut.specs.FlowGraph.{FlowGraph, node_at}
use Rattle.ci_cut.specs.Gain.{gain, software, further_words}
use Rattle.ci_cut.specs.Hardware.{hardware}
use Rattle.ci_cut.specs.Ports.{size, outputs}
use Rattle.ci_dfg.specs.BlockGraph.{graph_of}
use Rattle.ci_dfg.proofs.BlockIsGraph.{node_at_within, length-nodes}
use Rattle.ci_unit.specs.Uses as uses
use Rattle.ci_rewrite.specs.Costs.{cost_of, FoldingSaves}
use Rattle.ci_rewrite.specs.RunLatencies.{AreOfTable}
use Rattle.ci_rewrite.specs.FoldedBlock.{no_op, places_left}
use Rattle.ci_rewrite.proofs.CutNodes.{IsFolding, early_outside}
use Rattle.ci_rewrite.proofs.Keeping.{folding_of}
use Rattle.ci_rewrite.proofs.Lists.{whole_list}
use Rattle.ci_rewrite.proofs.Stages.{those_below, those_zero, those_more, those_same}
use Rattle.ci_rewrite.proofs.UnitPorts.{length-outputs_of}
use Rattle.ci_unit.specs.UseWords.{reads_of, use_words}
use Rattle.ci_unit.specs.Units as terms
use Rattle.std.proofs.lemmas.List.{length-map}

-- ---- sums

sum_those : (f : Insn → ℕ) (insns : List Insn) (test : ℕ → Bool) (b : ℕ) → sum_by f (those_below insns test b) ≡ sum_below b test (λ k. f (nth_insn insns k))
sum_those f insns test zero = ap (sum_by f) (those_zero insns test) ∙ sym (sum_below-zero test (λ k. f (nth_insn insns k)))
sum_those f insns test (suc b) =
    let before = sum_those f insns test b in
    let more = sum_below-suc b test (λ k. f (nth_insn insns k)) in
    elim (cases_Bool (test b)) [
      | inl passes ↦
          let here = ap (λ t. if t then f (nth_insn insns b) else 0) passes in
          let list = ap (sum_by f) (those_more insns test b passes) ∙ sum_by_push f (those_below insns test b) (nth_insn insns b) in
          omega arith
      | inr fails ↦
          let here = ap (λ t. if t then f (nth_insn insns b) else 0) fails in
          let list = ap (sum_by f) (those_same insns test b fails) in
          omega arith
    ]

sum_parts : (g : ℕ → ℕ) (early cut : ℕ → Bool) (b : ℕ) → ((k : ℕ) → k < b → early k ≡ true → cut k ≡ false)
    → sum_below b (λ _. true) g ≡ sum_below b early g + sum_below b cut g + sum_below b (λ k. not (cut k) && not (early k)) g
sum_parts g early cut zero apart =
    omega (arith, sum_below-zero (λ _. true) g, sum_below-zero early g, sum_below-zero cut g, sum_below-zero (λ k. not (cut k) && not (early k)) g)
sum_parts g early cut (suc b) apart =
    omega (
      arith,
      sum_parts g early cut b (λ k below. apart k (omega arith)),
      sum_below-suc b (λ _. true) g,
      sum_below-suc b early g,
      sum_below-suc b cut g,
      sum_below-suc b (λ k. not (cut k) && not (early k)) g,
      by_tests (early b) (cut b) (g b) (apart b (omega arith)),
    )
  where
    by_tests : (e c : Bool) (x : ℕ) → (e ≡ true → c ≡ false) → x ≡ (if e then x else 0) + (if c then x else 0) + (if not c && not e then x else 0)
    by_tests true true x never = let is = never refl in cc
    by_tests true false x never = omega arith
    by_tests false true x never = omega arith
    by_tests false false x never = omega arith

-- ---- latencies

member_latency : (table : Table) (latencies : Latencies) (insn : Insn) → AreOfTable table latencies → may_join insn ≡ true
    → latency latencies insn ≡ latency_of table (class_of insn)
member_latency table latencies (Alu op rd rs1 rs2) are may = are.of_class _
member_latency table latencies (AluImm op rd rs1 imm) are may =
    ap (λ b. if b then latencies.pad else latencies.of_class (class_of (AluImm op rd rs1 imm)))
    (shown op (and_parts (not (is_division op)) (not (rd == 0)) may).1)
    ∙ are.of_class _
  where
    first_of : (a b c : Bool) → not a ≡ true → (a && b && c) ≡ false
    first_of a b c is = grind arith

    shown : (op : Op) → not (rd == 0) ≡ true → is_no_op op rd rs1 imm ≡ false
    shown Add kept = first_of (rd == 0) _ _ kept
    shown op kept = refl
member_latency table latencies (Lui rd upper) are may = are.of_class _
member_latency table latencies insn are may = cc

-- ---- whole numbers

balance : (e s l h r p : ℕ) → pos (e + s + l) ≡ pos (((e + (h + r)) + p) + l) +ℤ (((pos s -ℤ pos h) -ℤ pos r) -ℤ pos p)
balance e s l h r p = grind arith

left_over : (s w pad : ℕ) → 1 + w ≤ s → (((pos s -ℤ pos 1) -ℤ pos w) *ℤ pos pad) ≡ pos ((s - 1 - w) * pad)
left_over s w pad room = ap (λ z. z *ℤ pos pad) (difference s w room)
  where
    difference : (s w : ℕ) → 1 + w ≤ s → (pos s -ℤ pos 1) -ℤ pos w ≡ pos (s - 1 - w)
    difference s w room = grind arith

more_reads : (m r : ℕ) → ((suc m - 1) + 1) * r ≡ r + m * r
more_reads m r = grind arith

same_reads : (m r : ℕ) → ((suc m - 1) + 0) * r ≡ m * r
same_reads m r = grind arith

none_reads : (r : ℕ) → 0 ≡ 0 * r
none_reads r = grind arith

mul-suc : (m r : ℕ) → suc m * r ≡ r + m * r
mul-suc m r = grind arith

-- ---- the theorem

pub folding_saves : FoldingSaves
folding_saves insns n live_out table latencies limits cut number folded block are fits is same_cycles =
    ap pos old_cost ∙ balance (cost_by is.early) (software graph cut) (cost_by rest) (hardware graph cut) reads pads
    ∙ ap (λ z. z +ℤ saved) (ap pos (sym new_cost)) ∙ ap (λ z. pos (cost_of latencies folded) +ℤ z) (sym gain_is)
  where
    graph : FlowGraph
    graph = graph_of insns live_out table

    known : IsFolding insns live_out table cut is.early n
    known = folding_of insns n live_out table limits cut block fits is.early is.are_early

    f : Insn → ℕ
    f = latency latencies

    rest : ℕ → Bool
    rest k = not (cut k) && not (is.early k)

    cost_by : (ℕ → Bool) → ℕ
    cost_by test = sum_below (length insns) test (λ k. f (nth_insn insns k))

    used : List Insn
    used = uses.use_of insns graph cut number

    no_ops : List Insn
    no_ops = replicate (places_left graph cut) no_op

    reads : ℕ
    reads = further_words graph cut * table.read

    pads : ℕ
    pads = places_left graph cut * table.pad

    saved : ℤ
    saved = ((pos (software graph cut) -ℤ pos (hardware graph cut)) -ℤ pos reads) -ℤ pos pads

    software_is : cost_by cut ≡ software graph cut
    software_is =
        sum_below-same (length insns) cut cut (λ k. f (nth_insn insns k)) (λ k. (node_at graph k).latency) (λ k below. refl)
        (λ k below member. member_latency table latencies (nth_insn insns k) are (known.members k member).1
        ∙ sym (ap (λ node. node.latency) (node_at_within insns live_out table k below)))
        ∙ ap (λ m. sum_below m cut (λ k. (node_at graph k).latency)) (sym (length-nodes insns live_out table))

    old_cost : cost_of latencies insns ≡ cost_by is.early + software graph cut + cost_by rest
    old_cost =
        ap (sum_by f) (whole_list insns) ∙ sum_those f insns (λ _. true) (length insns)
        ∙ sum_parts (λ k. f (nth_insn insns k)) is.early cut (length insns) (early_outside known)
        ∙ ap (λ m. cost_by is.early + m + cost_by rest) software_is

    reads_cost : (index : ℕ) (list : List ℕ) → sum_by f (reads_of index list) ≡ length list * table.read
    reads_cost index [] = none_reads table.read
    reads_cost index (r ∷ list) =
        let rest = reads_cost (suc index) list in
        let whole = sum_by-cons f (Cread r index) (reads_of (suc index) list) in
        omega (arith, rest, whole, are.read, mul-suc (length list) table.read)

    words_cost : (b : Bool) (ins list : List ℕ) → 1 ≤ length list
        → sum_by f (use_words b number ins list) ≡ hardware graph cut + ((length list - 1) + (if b then 1 else 0)) * table.read
    words_cost b ins [] some = absurd (omega arith)
    words_cost true ins (rd ∷ more) some =
        let unit : Insn = Unit number rd (slice_index ins 0) (slice_index ins 1) (slice_index ins 2) in
        let put : Insn = Cput (slice_index ins 3) (slice_index ins 4) in
        omega (
          arith,
          sum_by-cons f put (unit ∷ reads_of 0 more),
          sum_by-cons f unit (reads_of 0 more),
          reads_cost 0 more,
          are.read,
          same_cycles,
          more_reads (length more) table.read,
        )
    words_cost false ins (rd ∷ more) some =
        let unit : Insn = Unit number rd (slice_index ins 0) (slice_index ins 1) (slice_index ins 2) in
        omega (arith, sum_by-cons f unit (reads_of 0 more), reads_cost 0 more, same_cycles, same_reads (length more) table.read)

    used_cost : sum_by f used ≡ hardware graph cut + reads
    used_cost =
        let registers : List ℕ = uses.output_registers insns graph cut in
        let long : length registers ≡ outputs graph cut =
        length-map (terms.outputs_of insns graph cut) (uses.result_register insns) ∙ length-outputs_of insns live_out table cut in
        words_cost (uses.passes graph cut) (uses.input_registers insns graph cut) registers (omega (arith, long, fits.has_output))
        ∙ ap (λ o. hardware graph cut + ((o - 1) + (if uses.passes graph cut then 1 else 0)) * table.read) long

    pad_cost : sum_by f no_ops ≡ pads
    pad_cost = sum_by-replicate f (places_left graph cut) no_op ∙ ap (λ p. places_left graph cut * p) are.pad

    new_cost : cost_of latencies folded ≡ ((cost_by is.early + (hardware graph cut + reads)) + pads) + cost_by rest
    new_cost =
        let early_list : List Insn = those_below insns is.early (length insns) in
        let late_list : List Insn = those_below insns rest (length insns) in
        ap (sum_by f) is.is_list ∙ sum_by-append f (early_list ++ used ++ no_ops) late_list
        ∙ ap (λ m. m + sum_by f late_list)
        (sum_by-append f (early_list ++ used) no_ops ∙ ap (λ m. m + sum_by f no_ops) (sum_by-append f early_list used))
        ∙ (λ i. ((sum_those f insns is.early (length insns) i + used_cost i) + pad_cost i) + sum_those f insns rest (length insns) i)

    gain_is : gain graph cut ≡ saved
    gain_is =
        let cycles : ℤ = pos (software graph cut) -ℤ pos (hardware graph cut) in
        let no_op_cycles : ℤ = ((pos (size graph cut) -ℤ pos 1) -ℤ pos (further_words graph cut)) *ℤ pos table.pad in
        ap (λ z. (cycles -ℤ pos reads) -ℤ z) (left_over (size graph cut) (further_words graph cut) table.pad fits.room)
