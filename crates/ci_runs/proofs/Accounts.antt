-- The accounts of both runs, over what they go by from a front.
use Rattle.std.specs.Prelude.{Bool, true, false, ◌==◌, ◌&&◌, if◌then◌else◌, is_none, pos, ℤ, ◌+ℤ◌, ◌*ℤ◌, All}
use lib.IntN.{+ℤ_assoc, +ℤ_comm, +ℤ_idr, *ℤ_comm, *ℤ-zero, suc_ℤ-*ℤ, pos-+ℤ-pos}
use Rattle.std.proofs.Common.{◌≡◌, ℕ, suc, ◌+◌, ◌-◌, ◌<◌, ◌≤◌, refl, sym, ap, ◌∙◌, subst, arith, List, [], ◌∷◌, length, Option, Some, None, true≢false}
use Rattle.std.proofs.lemmas.Bool.Decides.{nat_tests}
use Rattle.std.proofs.lemmas.List.Elements.{All-head, All-tail}
use Rattle.ci_word.specs.Numbers.{count_below}
use Rattle.ci_word.proofs.NumberLaws.{count_below-add, count_below-none, count_below-suc, count_below-zero, sum_below-zero, sum_below-suc}
use Rattle.ci_isa.specs.declared.instruction.Insn.{Insn}
use Rattle.ci_machine.specs.declared.ends.End.{End}
use Rattle.ci_machine.specs.Blocks.{StandAt}
use Rattle.ci_machine.specs.Programs.{Program, State}
use Rattle.ci_machine.specs.RunEvents.{entries}
use Rattle.ci_machine.specs.Runs.{Latencies, latency, before_step, is_made, step_cost, cost}
use Rattle.ci_machine.specs.Steps.{Meaning, word_at}
use Rattle.std.specs.Option.{option_map}
use Rattle.ci_machine.proofs.JoinLaws.{counts_join, counts_stay}
use Rattle.ci_machine.proofs.TestLaws.{by_test, both_first, both_second, no_end}
use Rattle.ci_rewrite.specs.Costs.{cost_of}
use Rattle.ci_runs.specs.WholeRuns.{Saving, saved}
use Rattle.ci_runs.specs.FoldedFiles.{saved_at}
use Rattle.ci_runs.specs.Crossings.{Crossing, Meet, AtLeader, Through, GoBy, block, fetch}
use Rattle.ci_runs.specs.Places.{TwoRuns, is_word, old, new}
use Rattle.ci_runs.proofs.BlockRuns.{costs_of_block}

-- ---- whole numbers

exchange : (a b c d : ℤ) → (a +ℤ b) +ℤ (c +ℤ d) ≡ (a +ℤ c) +ℤ (b +ℤ d)
exchange a b c d =
    +ℤ_assoc a b (c +ℤ d)
    ∙ ap (λ z. a +ℤ z) (sym (+ℤ_assoc b c d) ∙ ap (λ z. z +ℤ d) (+ℤ_comm b c) ∙ +ℤ_assoc c b d)
    ∙ sym (+ℤ_assoc a c (b +ℤ d))

once_more : (gain : ℤ) (n : ℕ) → gain *ℤ pos (n + 1) ≡ gain *ℤ pos n +ℤ gain
once_more gain n =
    ap (λ m. gain *ℤ pos m) (let next : n + 1 ≡ suc n = omega arith in next)
    ∙ *ℤ_comm gain (pos (suc n)) ∙ suc_ℤ-*ℤ (pos n) gain ∙ ap (λ z. z +ℤ gain) (*ℤ_comm (pos n) gain)

-- ---- what is saved

-- Where, of listed leaders, this one alone is entered once more, what is saved at it is saved once more.
saved_more : (is_listed : ℕ → Bool) (savings : List Saving) (before later : ℕ → ℕ) (leader : ℕ)
    → All (λ saving. is_listed saving.leader ≡ true) savings
    → ((a : ℕ) → is_listed a ≡ true → later a ≡ before a + (if a == leader then 1 else 0))
    → saved savings later ≡ saved savings before +ℤ saved_at savings leader
saved_more is_listed [] before later leader all more = sym (+ℤ_idr (pos 0))
saved_more is_listed (saving ∷ savings) before later leader all more =
    by_leader (saving.leader == leader) (more saving.leader (All-head (λ s. is_listed s.leader ≡ true) saving savings all))
    (saved savings before) (saved savings later) (saved_at savings leader)
    (saved_more is_listed savings before later leader (All-tail (λ s. is_listed s.leader ≡ true) saving savings all) more)
  where
    by_leader : (b : Bool) → later saving.leader ≡ before saving.leader + (if b then 1 else 0)
        → (first last at : ℤ) → last ≡ first +ℤ at
        → saving.gain *ℤ pos (later saving.leader) +ℤ last
        ≡ (saving.gain *ℤ pos (before saving.leader) +ℤ first) +ℤ (if b then saving.gain +ℤ at else at)
    by_leader true is first last at rest =
        let once = ap (λ n. saving.gain *ℤ pos n) is ∙ once_more saving.gain (before saving.leader) in
        (λ i. once i +ℤ rest i) ∙ exchange (saving.gain *ℤ pos (before saving.leader)) saving.gain first at
    by_leader false is first last at rest =
        (λ i. saving.gain *ℤ pos ((is ∙ (let none : before saving.leader + 0 ≡ before saving.leader = omega arith in none)) i) +ℤ rest i)
        ∙ sym (+ℤ_assoc (saving.gain *ℤ pos (before saving.leader)) first at)

pub saved_same : (is_listed : ℕ → Bool) (savings : List Saving) (before later : ℕ → ℕ) → All (λ saving. is_listed saving.leader ≡ true) savings
    → ((a : ℕ) → is_listed a ≡ true → later a ≡ before a) → saved savings later ≡ saved savings before
saved_same is_listed [] before later all same = refl
saved_same is_listed (saving ∷ savings) before later all same =
    λ i. saving.gain *ℤ pos (same saving.leader (All-head (λ s. is_listed s.leader ≡ true) saving savings all) i)
    +ℤ saved_same is_listed savings before later (All-tail (λ s. is_listed s.leader ≡ true) saving savings all) same i

saved_none : (savings : List Saving) → saved savings (λ a. 0) ≡ pos 0
saved_none [] = refl
saved_none (saving ∷ savings) = (λ i. *ℤ-zero saving.gain i +ℤ saved_none savings i) ∙ +ℤ_idr (pos 0)

-- ---- tests of numbers

-- of the numbers below m the first alone passes, or none
counts_first : (p : ℕ → Bool) (m : ℕ) → 0 < m → ((d : ℕ) → 0 < d → d < m → p d ≡ false) → count_below m p ≡ (if p 0 then 1 else 0)
counts_first p m some none =
    let whole = ap (λ i. count_below i p) (let same : m ≡ 1 + (m - 1) = omega arith in same) in
    let rest = count_below-none (m - 1) (λ d. p (1 + d)) (λ d below. none (1 + d) (omega arith) (omega arith)) in
    omega (arith, whole, count_below-add 1 (m - 1) p, count_below-suc 0 p, count_below-zero p, rest)

equal : (a b : ℕ) → (a == b) ≡ true → a ≡ b
equal a b is = grind (arith, nat_tests)

turned : (a b : ℕ) → (a == b) ≡ (b == a)
turned a b = grind (arith, nat_tests)

-- ---- both runs

module _ (runs : TwoRuns) (crossing : (leader : ℕ) → runs.is_listed leader ≡ true → Crossing runs leader)
    (latencies : Latencies) (savings : List Saving) (all : All (λ saving. runs.is_listed saving.leader ≡ true) savings) where
  abbrev meaning : Meaning
  meaning = runs.meaning

  abbrev program : Program
  program = runs.program

  abbrev spent : State → ℕ → ℕ
  spent opens n = cost meaning program latencies n opens

  -- the old run cost more by what was saved
  abbrev pub Balance : ℕ → Type 0
  Balance k = pos (spent runs.old_opens k) ≡ pos (spent runs.new_opens k) +ℤ saved savings (entries meaning program k runs.old_opens)

  pub opening_balance : Balance 0
  opening_balance =
      ap pos (nothing runs.old_opens) ∙ sym (+ℤ_idr (pos 0))
      ∙ (λ i. pos (sym (nothing runs.new_opens) i) +ℤ sym (saved_none savings) i)
      ∙ ap (λ z. pos (spent runs.new_opens 0) +ℤ z)
      (sym (saved_same runs.is_listed savings (λ a. 0) (entries meaning program 0 runs.old_opens) all
      (λ a listed. count_below-zero (λ i. is_made meaning program runs.old_opens i && (before_step meaning program runs.old_opens i).pc == a))))
    where
      nothing : (opens : State) → spent opens 0 ≡ 0
      nothing opens = sum_below-zero (is_made meaning program opens) (λ i. step_cost meaning program latencies (before_step meaning program opens i))

  -- after an end nothing is counted
  pub balance_stays : (m n : ℕ) (e : End) → m ≤ n → (old runs m).end ≡ Some e → (new runs m).end ≡ Some e → Balance m → Balance n
  balance_stays m n e le old_e new_e balance = subst Balance (let same : m + (n - m) ≡ n = omega arith in same) later
    where
      later : Balance (m + (n - m))
      later =
          let old_over = counts_stay meaning program m (n - m) runs.old_opens (λ on. no_end _ e on old_e) in
          let new_over = counts_stay meaning program m (n - m) runs.new_opens (λ on. no_end _ e on new_e) in
          ap pos (old_over.costs latencies) ∙ balance
          ∙ (λ i. pos (sym (new_over.costs latencies) i)
          +ℤ sym (saved_same runs.is_listed savings (entries meaning program m runs.old_opens) (entries meaning program (m + (n - m)) runs.old_opens) all
          (λ a listed. old_over.entered a)) i)

  -- ---- from a front

  module _ (k m : ℕ) (meet : Meet runs k) where
    abbrev left : State
    left = (old runs k).state

    abbrev right : State
    right = (new runs k).state

    joined : (a b c d : ℕ) (s g : ℤ) → pos a ≡ pos b +ℤ s → pos c ≡ pos d +ℤ g → pos (a + c) ≡ pos (b + d) +ℤ (s +ℤ g)
    joined a b c d s g first second =
        sym (pos-+ℤ-pos a c) ∙ (λ i. first i +ℤ second i) ∙ exchange (pos b) s (pos d) g ∙ ap (λ z. z +ℤ (s +ℤ g)) (pos-+ℤ-pos b d)

    -- m steps more, by which the old run spends more by what is saved
    balances : (c d : ℕ) (gain : ℤ) → cost meaning program latencies m left ≡ c → cost meaning program latencies m right ≡ d
        → pos c ≡ pos d +ℤ gain
        → saved savings (entries meaning program (k + m) runs.old_opens) ≡ saved savings (entries meaning program k runs.old_opens) +ℤ gain
        → Balance k → Balance (k + m)
    balances c d gain old_cost new_cost costs saves balance =
        ap pos ((counts_join meaning program k m runs.old_opens meet.old_on).costs latencies ∙ ap (λ x. spent runs.old_opens k + x) old_cost)
        ∙ joined (spent runs.old_opens k) (spent runs.new_opens k) c d (saved savings (entries meaning program k runs.old_opens)) gain balance costs
        ∙ (λ i. pos (sym ((counts_join meaning program k m runs.new_opens meet.new_on).costs latencies ∙ ap (λ x. spent runs.new_opens k + x) new_cost) i)
        +ℤ sym saves i)

    -- Where the steps begin at no listed leader but the first, each listed leader is entered once if it is there, and
    -- else never.
    entered : 0 < m → ((d : ℕ) → 0 < d → d < m → ¬ AtLeader runs (k + d)) → (a : ℕ) → runs.is_listed a ≡ true
        → entries meaning program (k + m) runs.old_opens a
        ≡ entries meaning program k runs.old_opens a + (if a == left.pc then 1 else 0)
    entered some apart a listed =
        count_below-add k m begins
        ∙ ap (λ x. entries meaning program k runs.old_opens a + x)
        (counts_first (λ d. begins (k + d)) m some none
        ∙ ap (λ (j : ℕ). if begins j then 1 else 0) (let same : k + 0 ≡ k = omega arith in same)
        ∙ ap (λ b. if b then 1 else 0) (ap (λ e. is_none e && left.pc == a) meet.old_on ∙ turned left.pc a))
      where
        begins : ℕ → Bool
        begins i = is_made meaning program runs.old_opens i && (before_step meaning program runs.old_opens i).pc == a

        none_made : (e : Option End) → is_none e ≡ true → e ≡ None
        none_made None is = refl
        none_made (Some e) is = cc

        none : (d : ℕ) → 0 < d → d < m → begins (k + d) ≡ false
        none d some below = by_test (begins (k + d))
            (λ is. absurd (apart d some below (record {
              on = none_made (old runs (k + d)).end (both_first (is_made meaning program runs.old_opens (k + d)) _ is);
              listed = ap runs.is_listed (equal _ a (both_second (is_made meaning program runs.old_opens (k + d)) _ is)) ∙ listed;
            })))
            (λ is. is)

    -- through a block
    through_block : (there : Crossing runs left.pc)
        → pos (cost_of latencies there.insns) ≡ pos (cost_of latencies there.folded) +ℤ saved_at savings left.pc
        → Through runs k there → length there.insns ≡ m → Balance k → Balance (k + m)
    through_block there saves through same =
        balances (cost_of latencies there.insns) (cost_of latencies there.folded) (saved_at savings left.pc)
        (ap (λ l. cost meaning program latencies l left) (sym same)
        ∙ costs_of_block meaning program there.insns there.n left there.block through.old_stands through.old_leaves through.old_goes latencies)
        (ap (λ l. cost meaning program latencies l right) (sym (there.keeps.shape.same_length ∙ same))
        ∙ costs_of_block meaning program there.folded there.n right there.keeps.shape.is_block through.new_stands through.new_leaves through.new_goes latencies)
        saves
        (saved_more runs.is_listed savings (entries meaning program k runs.old_opens) (entries meaning program (k + m) runs.old_opens) left.pc all
        (entered (omega (arith, there.some)) (λ d some below. through.apart d some (omega arith))))

    -- a fetch where there is no text
    over_fetch : is_word program left.pc ≡ false → m ≡ 1 → Balance k → Balance (k + m)
    over_fetch none one =
        balances 0 0 (pos 0)
        (ap (λ l. cost meaning program latencies l left) one ∙ free left none)
        (ap (λ l. cost meaning program latencies l right) one ∙ free right (ap (is_word program) (sym meet.pc) ∙ none))
        (sym (+ℤ_idr (pos 0)))
        (saved_same runs.is_listed savings (entries meaning program k runs.old_opens) (entries meaning program (k + m) runs.old_opens) all
        (λ a listed.
        entered (omega arith) (λ d some below. absurd (omega arith)) a listed
        ∙ ap (λ b. entries meaning program k runs.old_opens a + (if b then 1 else 0)) (elsewhere a listed)
        ∙ (let plus : entries meaning program k runs.old_opens a + 0 ≡ entries meaning program k runs.old_opens a = omega arith in plus))
        ∙ sym (+ℤ_idr (saved savings (entries meaning program k runs.old_opens))))
      where
        free : (state : State) → is_word program state.pc ≡ false → cost meaning program latencies 1 state ≡ 0
        free state none =
            let first = sum_below-suc 0 (is_made meaning program state) (λ i. step_cost meaning program latencies (before_step meaning program state i)) in
            let before = sum_below-zero (is_made meaning program state) (λ i. step_cost meaning program latencies (before_step meaning program state i)) in
            let here : step_cost meaning program latencies state ≡ 0 =
            ap (λ test. elim (if test then option_map meaning.insn (word_at state.core.memory state.pc) else None) as (λ _. ℕ)
            [ None ↦ 0 | Some insn ↦ latency latencies insn ]) none in
            first ∙ (λ i. before i + here i)

        -- a block stands at each listed leader
        has_word : (insns : List Insn) (a : ℕ) → 0 < length insns → StandAt meaning program runs.old_opens.core.memory a insns → is_word program a ≡ true
        has_word [] a some stand = absurd (omega arith)
        has_word (insn ∷ insns) a some stand = by_test (is_word program a) (λ is. is) (λ is.
            let never : None ≡ Some insn =
            ap (λ test. if test then option_map meaning.insn (word_at runs.old_opens.core.memory a) else None) (sym is) ∙ stand.0 in cc)

        elsewhere : (a : ℕ) → runs.is_listed a ≡ true → (a == left.pc) ≡ false
        elsewhere a listed = by_test (a == left.pc)
            (λ is.
            let there = crossing a listed in
            absurd (true≢false (sym (has_word there.insns a there.some there.old_stands) ∙ ap (is_word program) (equal a left.pc is) ∙ none)))
            (λ is. is)

    -- The accounts balance behind all that both runs go by.
    pub balance_grows :
        ((leader : ℕ) (is : runs.is_listed leader ≡ true)
        → pos (cost_of latencies (crossing leader is).insns) ≡ pos (cost_of latencies (crossing leader is).folded) +ℤ saved_at savings leader)
        → GoBy runs crossing k m → Balance k → Balance (k + m)
    balance_grows saves (block listed through same) = through_block (crossing left.pc listed) (saves left.pc listed) through same
    balance_grows saves (fetch none one) = over_fetch none one
