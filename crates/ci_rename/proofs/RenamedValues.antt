-- One value of a block takes a free register: every operand keeps its source, and what is live behind the block its node.
use Rattle.std.specs.Prelude.{◌≡◌, ◌≢◌, ℕ, zero, suc, ◌<◌, ◌≤◌, ◌==◌, ◌&&◌, ◌||◌, not, Bool, true, false, if◌then◌else◌, List, [], ◌∷◌, length, map, slice_index, IsTrue}
use Rattle.std.specs.List.{list_any}
use Rattle.std.specs.FinSet as finite
use Rattle.std.specs.Ordering.{nat_cmp}
use Rattle.std.proofs.Common.{refl, sym, ap, ◌∙◌, subst, arith, inl, inr, true≢false}
use Rattle.std.proofs.lemmas.Bool.{cases_eq, cases_lt, and_parts, and_from, eqb-true, eq-eqb, ne_eqb, false_from_ne_true}
use Rattle.std.proofs.lemmas.Bool.Decides.{nat_tests}
use Rattle.std.proofs.lemmas.List.{length-map, get_or-map, get_or_past, map-id}
use Rattle.ci_word.specs.Numbers.{numbers_below}
use Rattle.ci_word.proofs.NumberLaws.{length-all_below, get_or-all_below}
use Rattle.ci_isa.specs.declared.instruction.Insn.{Insn}
use Rattle.ci_isa.specs.declared.instruction.Insn.TheVariants.{Ebreak}
use Rattle.ci_isa.specs.Effects.{ends_block, is_among, is_kept, operands, results, without_x0, writes_register}
use Rattle.ci_isa.specs.Sequences.{nth_insn}
use Rattle.ci_isa.proofs.LastWriter.{latest_writer_is_last}
use Rattle.ci_cut.specs.declared.graph.Source.{Source}
use Rattle.ci_cut.specs.declared.graph.Source.TheVariants.{Entry, Made}
use Rattle.ci_cut.specs.FlowGraph.{is_source}
use Rattle.ci_dfg.specs.BlockGraph.{is_written_after, source_of}
use Rattle.ci_dfg.proofs.ArcLaws.{found_among}
use Rattle.ci_dfg.proofs.SourceLaws.{made_is}
use Rattle.ci_dfg.proofs.WritersByPlace.{not_written_after}
use Rattle.ci_machine.proofs.TestLaws.{by_test}
use Rattle.ci_machine.proofs.RegisterLaws.{first_there}
use Rattle.ci_rename.specs.OtherRegisters.{ComputeAlike, all_sources, with_operands, with_result}
use Rattle.ci_rename.specs.Renaming.{IsFree, IsLocal, moved_to, renamed, renamed_insn}
use Rattle.ci_rename.specs.Steps.{IsPlainInsn}
use Rattle.ci_rename.proofs.KnownValues.{made_before, source_first, source_kept, source_written}
use Rattle.ci_rename.proofs.ReadValues.{made_source}
use Rattle.ci_rename.proofs.OtherFields.{operands_kind, other_operands, other_result, own_result, same_operands, same_results}

module _ (live_out : finite.FinSet nat_cmp) (insns : List Insn) (plain : (k : ℕ) → k < length insns → IsPlainInsn (nth_insn insns k))
    (i r to : ℕ) (value : IsLocal live_out insns i r) (free : IsFree live_out insns to) where
  abbrev pub new : List Insn
  new = renamed insns i to

  -- the node lies in the block
  pub within : i < length insns
  within = elim (cases_lt i (length insns)) [
    | inl below ↦ below
    | inr past ↦ absurd (true≢false (sym (ap ends_block (get_or_past insns i Ebreak past)) ∙ value.acts))
  ]

  pub new_length : length new ≡ length insns
  new_length = length-map (numbers_below (length insns) (λ _. true)) (renamed_insn insns i to) ∙ length-all_below (length insns)

  pub new_insn : (k : ℕ) → k < length insns → nth_insn new k ≡ renamed_insn insns i to k
  new_insn k below =
      get_or-map (renamed_insn insns i to) (numbers_below (length insns) (λ _. true)) k k Ebreak (rw length-all_below below)
      ∙ ap (renamed_insn insns i to) (get_or-all_below (length insns) k k below)

  abbrev pub read : ℕ → Insn
  read k = with_operands (moved_to insns i to k) (nth_insn insns k)

  pub new_other : (k : ℕ) → k < length insns → k ≢ i → nth_insn new k ≡ read k
  new_other k below other = new_insn k below ∙ ap (λ b. if b then with_result to (read k) else read k) (ne_eqb k i other)

  pub new_here : nth_insn new i ≡ with_result to (read i)
  new_here = new_insn i within ∙ ap (λ b. if b then with_result to (read i) else read i) (eq-eqb i i refl)

  -- ---- what the nodes write

  pub writes_other : (k : ℕ) → k < length insns → k ≢ i → (q : ℕ) → writes_register (nth_insn new k) q ≡ writes_register (nth_insn insns k) q
  writes_other k below other q =
      ap (λ insn. is_among (results insn) q) (new_other k below other)
      ∙ ap (λ registers. is_among registers q) (same_results (moved_to insns i to k) (nth_insn insns k))

  pub here_results : results (nth_insn new i) ≡ to ∷ []
  here_results = rw new_here (other_result to (read i) r read_plain read_acts read_writes)
    where
      read_plain : IsPlainInsn (read i)
      read_plain =
          let kind = operands_kind (moved_to insns i to i) (nth_insn insns i) in
          (kind.unit ∙ (plain i within).0, kind.cread ∙ (plain i within).1, kind.cput ∙ (plain i within).2)

      read_acts : ends_block (read i) ≡ false
      read_acts = (operands_kind (moved_to insns i to i) (nth_insn insns i)).ends ∙ value.acts

      read_writes : writes_register (read i) r ≡ true
      read_writes = ap (λ registers. is_among registers r) (same_results (moved_to insns i to i) (nth_insn insns i)) ∙ value.writes

  pub writes_here : (q : ℕ) → writes_register (nth_insn new i) q ≡ is_among (to ∷ []) q
  writes_here q = ap (λ registers. is_among registers q) here_results

  pub takes_itself : is_among (to ∷ []) to ≡ true
  takes_itself = let kept = free.kept in grind (arith, nat_tests)

  pub no_other : (q : ℕ) → (q == to) ≡ false → is_among (to ∷ []) q ≡ false
  no_other q differs = grind (arith, nat_tests)

  -- ---- sources

  abbrev pub moves : ℕ → ℕ → ℕ
  moves k = moved_to insns i to k

  pub moves_by : (k q : ℕ) (s : Source) → source_of insns k q ≡ s → moves k q ≡ (if is_source (Made i) s then to else q)
  moves_by k q s is = ap (λ s. if is_source (Made i) s then to else q) is

  -- an operand, in its old register or in the new one, has the source that it had
  pub follows : (k q : ℕ) → k ≤ length insns → (q == to) ≡ false → source_of new k (moves k q) ≡ source_of insns k q
  follows zero q all differs =
      let entry = source_first insns q in
      ap (source_of new zero) (moves_by zero q (Entry q) entry) ∙ source_first new q ∙ sym entry
  follows (suc k) q all differs =
      by_test (writes_register (nth_insn insns k) q)
      (λ wrote.
      let made = source_written insns k q wrote in
      elim (cases_eq i k) [
        | inl same ↦
            ap (source_of new (suc k)) (moves_by (suc k) q (Made k) made ∙ ap (λ b. if b then to else q) (eq-eqb i k same))
            ∙ source_written new k to (ap (λ j. writes_register (nth_insn new j) to) (sym same) ∙ writes_here to ∙ takes_itself)
            ∙ sym made
        | inr other ↦
            ap (source_of new (suc k)) (moves_by (suc k) q (Made k) made ∙ ap (λ b. if b then to else q) (ne_eqb i k other))
            ∙ source_written new k q (writes_other k (omega arith) (λ is. other (sym is)) q ∙ wrote)
            ∙ sym made
      ])
      (λ kept.
      let stays = source_kept insns k q kept in
      ap (source_of new (suc k)) (moves_by (suc k) q (source_of insns k q) stays)
      ∙ source_kept new k (moves k q) (unwritten k q (omega arith) differs kept)
      ∙ follows k q (omega arith) differs
      ∙ sym stays)
    where
      unwritten : (k q : ℕ) → k < length insns → (q == to) ≡ false → writes_register (nth_insn insns k) q ≡ false
          → writes_register (nth_insn new k) (moves k q) ≡ false
      unwritten k q below differs kept =
          by_test (is_source (Made i) (source_of insns k q))
          (λ is.
          let before = made_before insns k q i (made_source i _ is) in
          ap (λ b. writes_register (nth_insn new k) (if b then to else q)) is
          ∙ writes_other k below (λ same. let never : i < i = subst (λ j. i < j) same before in omega arith) to ∙ free.unwritten k below)
          (λ other.
          ap (λ b. writes_register (nth_insn new k) (if b then to else q)) other
          ∙ elim (cases_eq k i) [
            | inl same ↦ ap (λ j. writes_register (nth_insn new j) q) same ∙ writes_here q ∙ no_other q differs
            | inr apart ↦ writes_other k below apart q ∙ kept
          ])

  -- a register that is read isn't the free one
  pub read_differs : (k q : ℕ) → k < length insns → list_any (λ n. n == q) (operands (nth_insn insns k)) ≡ true → (q == to) ≡ false
  read_differs k q below there = false_from_ne_true (q == to) (λ is.
      let same : q ≡ to = eqb-true q to is in
      let kept = free.kept in
      let some : is_kept to ≡ true = grind (arith, nat_tests) in
      true≢false (sym (and_from (is_kept to) (list_any (λ n. n == to) (operands (nth_insn insns k))) some
      (subst (λ m. list_any (λ n. n == m) (operands (nth_insn insns k)) ≡ true) same there)) ∙ free.unread k below))

  moved_sources : (k : ℕ) → k ≤ length insns → (registers : List ℕ) → ((q : ℕ) → list_any (λ n. n == q) registers ≡ true → (q == to) ≡ false)
      → map (source_of new k) (map (moves k) registers) ≡ map (source_of insns k) registers
  moved_sources k all [] differ = refl
  moved_sources k all (q ∷ registers) differ =
      let first = follows k q all (differ q (first_there q registers)) in
      let rest = moved_sources k all registers (λ p there. differ p (later (q == p) _ there)) in
      λ j. first j ∷ rest j
    where
      later : (a b : Bool) → b ≡ true → (a || b) ≡ true
      later a b is = grind arith

  -- registers of which none comes from the node stay
  unmoved : (k : ℕ) (registers : List ℕ) → list_any (is_source (Made i)) (map (source_of insns k) registers) ≡ false → map (moves k) registers ≡ registers
  unmoved k [] none = refl
  unmoved k (q ∷ registers) none =
      let first : is_source (Made i) (source_of insns k q) ≡ false = neither (is_source (Made i) (source_of insns k q)) _ none in
      let here : moves k q ≡ q = ap (λ b. if b then to else q) first in
      let rest = unmoved k registers (nor (is_source (Made i) (source_of insns k q)) _ none) in
      λ j. here j ∷ rest j
    where
      neither : (a b : Bool) → (a || b) ≡ false → a ≡ false
      neither a b none = grind arith

      nor : (a b : Bool) → (a || b) ≡ false → b ≡ false
      nor a b none = grind arith

  pub new_operands : (k : ℕ) → k < length insns → operands (nth_insn new k) ≡ map (moves k) (operands (nth_insn insns k))
  new_operands k below = elim (cases_eq k i) [
    | inl same ↦ ap operands (ap (nth_insn new) same ∙ new_here) ∙ same_operands to (read i)
        ∙ ap (λ j. operands (read j)) (sym same) ∙ reads k below
    | inr other ↦ ap operands (new_other k below other) ∙ reads k below
  ]
    where
      reads : (k : ℕ) → k < length insns → operands (read k) ≡ map (moves k) (operands (nth_insn insns k))
      reads k below = elim (other_operands (moves k) (nth_insn insns k) (plain k below)) [
        | inl calls ↦
            ap (λ insn. operands (with_operands (moves k) insn)) calls
            ∙ sym (unmoved k (10 ∷ 11 ∷ 12 ∷ 17 ∷ [])
            (subst (λ insn. list_any (is_source (Made i)) (map (source_of insns k) (without_x0 (operands insn))) ≡ false) calls (value.uncalled k below calls)))
            ∙ ap (λ insn. map (moves k) (operands insn)) (sym calls)
        | inr same ↦ same
      ]

  pub new_sources : (k : ℕ) → k < length insns → all_sources new k ≡ all_sources insns k
  new_sources k below =
      ap (map (source_of new k)) (new_operands k below)
      ∙ moved_sources k (omega arith) (operands (nth_insn insns k)) (λ q there. read_differs k q below there)

  -- ---- what is live behind the block

  pub live_source : (q : ℕ) → IsTrue (finite.contains live_out q) → source_of new (length insns) q ≡ source_of insns (length insns) q
  live_source q live =
      ap (source_of new (length insns)) (sym stays) ∙ follows (length insns) q (omega arith) differs
    where
      differs : (q == to) ≡ false
      differs = false_from_ne_true (q == to) (λ is. true≢false (sym (subst (λ m. finite.contains live_out m ≡ true) (eqb-true q to is) live) ∙ free.dead))

      from_node : is_source (Made i) (source_of insns (length insns) q) ≡ true → ⊥
      from_node is =
          let last = (latest_writer_is_last insns q (length insns) i).0 (made_is insns (length insns) q i (made_source i _ is)) in
          let parts = and_parts (is_kept q) (list_any (λ n. n == q) (results (nth_insn insns i))) last.writes in
          true≢false (sym (
          ap (list_any (λ n. finite.contains live_out n && not (is_written_after insns i n))) (sym (map-id (without_x0 (results (nth_insn insns i)))))
          ∙ found_among (λ n. finite.contains live_out n && not (is_written_after insns i n)) (λ n. n) q (results (nth_insn insns i))
          (and_from (finite.contains live_out q) (not (is_written_after insns i q)) live
          (ap not (not_written_after insns q i (λ j behind below. last.none_between j behind below)))) parts.0 parts.1) ∙ value.dead)

      stays : moves (length insns) q ≡ q
      stays = ap (λ b. if b then to else q) (false_from_ne_true _ from_node)

  -- ---- together

  pub computes_alike : ComputeAlike live_out insns new
  computes_alike = record {
    same_length = new_length;
    each = λ k below. elim (cases_eq k i) [
      | inl same ↦
          record {
            operand = moves k;
            result = to;
            is = ap (nth_insn new) same ∙ new_here ∙ ap (λ j. with_result to (read j)) (sym same);
          }
      | inr other ↦
          record { operand = moves k; result = slice_index (results (read k)) 0; is = new_other k below other ∙ sym (own_result (read k)) }
    ];
    sources = new_sources;
    live = live_source;
  }
