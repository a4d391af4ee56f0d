-- A true arc, by the one register that the earlier node writes.
use Rattle.std.specs.Prelude.{◌≡◌, ℕ, ◌<◌, Bool, true, false, ◌&&◌, ◌==◌, ◌↔◌, List, [], ◌∷◌, length, Some, IsTrue}
use Rattle.std.specs.List.{list_any}
use Rattle.std.proofs.Common.{refl, sym, ap, ◌∙◌, arith, get_or, true≢false}
use Rattle.std.proofs.lemmas.Bool.{and_parts, and_from, eqb-true, eq-eqb, false_from_ne_true}
use Rattle.ci_isa.specs.declared.instruction.Insn.{Insn}
use Rattle.ci_isa.specs.Effects.{results, padded, reads_register, writes_register, is_kept}
use Rattle.ci_isa.specs.Sequences.{nth_insn, latest_writer}
use Rattle.ci_isa.proofs.LastWriter.{latest_writer_is_last}
use Rattle.ci_dfg.specs.BlockGraph.{has_true_arc}
use Rattle.ci_dfg.proofs.ArcLaws.{passes_at, source_there, true_register}
use Rattle.ci_dfg.proofs.BundleEnds.{same_test}
use Rattle.ci_dfg.proofs.InstructionLaws.{insn_there, any_is}

-- the one register that an instruction writes
written_is : (insn : Insn) (written r : ℕ) → written ∷ [] ≡ padded 1 (results insn) → writes_register insn r ≡ true → written ≡ r
written_is insn written r same writes =
    let parts = and_parts (is_kept r) (list_any (λ n. n == r) (results insn)) writes in
    let found = passes_at is_it r (results insn) (and_from (is_kept r) (r == r) parts.0 (eq-eqb r r refl)) parts.1 in
    eqb-true written r (and_parts (is_kept written) (written == r) (any_is is_it refl written (results insn) same ∙ found)).1
  where
    is_it : ℕ → Bool
    is_it n = is_kept n && (n == r)

-- where j writes what k reads, and where it doesn't
module _ (insns : List Insn) (j k : ℕ) (earlier later : Insn) (written : ℕ) (order : j < k) (there : k < length insns)
    (is_earlier : earlier ≡ get_or insns j earlier) (is_later : later ≡ get_or insns k later)
    (same : written ∷ [] ≡ padded 1 (results earlier)) where
  first : nth_insn insns j ≡ earlier
  first = insn_there insns j earlier (omega arith) is_earlier

  second : nth_insn insns k ≡ later
  second = insn_there insns k later there is_later

  -- a register that k has from j is the one that j writes
  only_register : IsTrue (has_true_arc insns k j) → (reads_register later written ≡ true) × (latest_writer insns written k ≡ Some j)
  only_register is =
      let (r, last, reads) = true_register insns j k is in
      let it = written_is earlier written r same (ap (λ insn. writes_register insn r) (sym first) ∙ last.writes) in (
        ap (reads_register later) it ∙ ap (λ insn. reads_register insn r) (sym second) ∙ reads,
        ap (λ q. latest_writer insns q k) it ∙ (latest_writer_is_last insns r k j).1 last,
      )

  pub read_there : (latest : Bool) → IsTrue latest ↔ (latest_writer insns written k ≡ Some j) → reads_register later written ≡ true
      → latest ≡ has_true_arc insns k j
  read_there latest is_latest reads = same_test latest (has_true_arc insns k j)
      (λ is.
      source_there insns j k written ((latest_writer_is_last insns written k j).0 (is_latest.0 is))
      (ap (λ insn. reads_register insn written) second ∙ reads))
      (λ is. is_latest.1 (only_register is).1)

  pub not_read_there : reads_register later written ≡ false → false ≡ has_true_arc insns k j
  not_read_there none =
      sym (false_from_ne_true (has_true_arc insns k j) (λ is. true≢false (sym (only_register is).0 ∙ none)))
