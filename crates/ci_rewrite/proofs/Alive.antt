-- What is needed behind the actions of a block is no dead member's result.
use Rattle.std.specs.Prelude.{◌≡◌, ℕ, ◌<◌, Bool, true, false, not, ◌&&◌, ◌||◌, ◌==◌, List, length}
use Rattle.std.specs.FinSet as finite
use Rattle.std.specs.List.{list_any}
use Rattle.std.specs.Ordering.{nat_cmp}
use Rattle.std.proofs.Common.{sym, ap, ◌∙◌, arith, inl, inr}
use Rattle.std.proofs.lemmas.Bool.{cases_eq, and_parts, and_from, or_cases, false_from_ne_true}
use Rattle.std.proofs.lemmas.List.{map-id}
use Rattle.ci_isa.specs.declared.instruction.Insn.{Insn}
use Rattle.ci_isa.specs.Effects.{results, is_kept, without_x0}
use Rattle.ci_isa.specs.Sequences.{nth_insn}
use Rattle.ci_isa.proofs.LastPassing.{IsLast}
use Rattle.ci_isa.proofs.LastWriter.{written}
use Rattle.ci_lat.specs.Latencies.{Latencies}
use Rattle.ci_machine.specs.Cores.{first_hidden}
use Rattle.ci_machine.specs.Agreement.{writes}
use Rattle.ci_machine.proofs.NamedReads.{reads, needed, needed_behind, reads_is}
use Rattle.ci_machine.proofs.NamedReads.{writes_is}
use Rattle.ci_cut.specs.FlowGraph.{node_at}
use Rattle.ci_dfg.specs.BlockGraph.{is_written_after, graph_of}
use Rattle.ci_dfg.proofs.ArcLaws.{found_among}
use Rattle.ci_dfg.proofs.BlockIsGraph.{node_at_within}
use Rattle.ci_dfg.proofs.WritersByPlace.{not_written_after}
use Rattle.ci_unit.proofs.SourceLaws.{not_true}
use Rattle.ci_rewrite.proofs.CutNodes.{IsFolding, is_dead, within, read_outside}
use Rattle.ci_rewrite.proofs.Lists.{behind_first}

module _ {insns : List Insn} {live_out : finite.FinSet nat_cmp} {table : Latencies} {cut early : ℕ → Bool} {n : ℕ}
    (known : IsFolding insns live_out table cut early n) (r w : ℕ) (last : IsLast (written insns r) n w) where
  -- a register that is live behind the block, and that no node behind w writes
  pub live_there : finite.contains live_out r ≡ true → ((j : ℕ) → w < j → j < length insns → written insns r j ≡ false) → is_dead known w ≡ false
  live_there live none = alive (cut w) (node_at (graph_of insns live_out table) w).live _
      (ap (λ node. node.live) (node_at_within insns live_out table w (within known w last.below))
      ∙ ap (list_any test) (sym (map-id (without_x0 (results (nth_insn insns w)))))
      ∙ found_among test (λ q. q) r (results (nth_insn insns w))
      (and_from (finite.contains live_out r) (not (is_written_after insns w r)) live (ap not (not_written_after insns r w none))) parts.0 parts.1)
    where
      test : ℕ → Bool
      test q = finite.contains live_out q && not (is_written_after insns w q)

      alive : (c l f : Bool) → l ≡ true → (c && not (c && (l || f))) ≡ false
      alive c l f is = grind arith

      parts : (is_kept r ≡ true) × (list_any (λ q. q == r) (results (nth_insn insns w)) ≡ true)
      parts = and_parts (is_kept r) (list_any (λ q. q == r) (results (nth_insn insns w))) last.passes

  pub living : r < first_hidden → needed_behind insns n live_out r ≡ true → is_dead known w ≡ false
  living other is = elim (behind_first insns n known.actions.most) [
    | inl (short, same) ↦
        live_there (sym (ap (λ l. needed l (finite.contains live_out) r) same) ∙ is) (λ j behind below. last.none_behind j behind (omega arith))
    | inr (there, same) ↦
        let end : Insn = nth_insn insns n in
        elim (or_cases (reads end r) (finite.contains live_out r && not (writes end r)) (sym (ap (λ l. needed l (finite.contains live_out) r) same) ∙ is)) [
          | inl read ↦
              let out = false_from_ne_true (cut n) (λ member. let below = (known.members n member).0 in absurd (omega arith)) in
              read_outside known n w r there out (sym (reads_is end r other) ∙ read) last
          | inr kept ↦
              let (live, unwritten) = and_parts (finite.contains live_out r) (not (writes end r)) kept in
              live_there live (λ j behind below. elim (cases_eq j n) [
                | inl at_end ↦ ap (written insns r) at_end ∙ sym (writes_is end r other) ∙ not_true (writes end r) unwritten
                | inr before ↦ last.none_behind j behind (omega arith)
              ])
        ]
  ]
