-- Both runs are alike after any number of steps: by the last front at or before it, and how that one is passed.
use Rattle.std.specs.Prelude.{◌≡◌, ℕ, zero, suc, ◌+◌, ◌-◌, ◌<◌, ◌≤◌, ◌↔◌, ⊤, Bool, false, Some, None}
use Rattle.std.proofs.Common.{sym, ap, ◌∙◌, subst, arith, inl, inr, true≢false}
use Rattle.std.proofs.lemmas.Bool.{cases_lt}
use Rattle.ci_machine.specs.declared.ends.End.{End}
use Rattle.ci_machine.specs.Outcomes.{Reached}
use Rattle.ci_machine.specs.Agreement.{AgreeOutside}
use Rattle.ci_machine.specs.Programs.{State}
use Rattle.ci_machine.proofs.TestLaws.{no_end, some_is}
use Rattle.ci_machine.specs.Outcomes.{is_access_fault}
use Rattle.ci_runs.specs.WholeRuns.{AreAlikeAt}
use Rattle.ci_runs.specs.Fronts.{Passage, onward, together, inside, AreQuiet}

AgreeOutside-sym : (text : ℕ → Bool) (one other : Reached State) → AgreeOutside text one.state.core other.state.core
    → AgreeOutside text other.state.core one.state.core
AgreeOutside-sym text one other same = record {
  memory = λ a clear. sym (same.memory a clear);
  heap_end = sym same.heap_end;
  input = sym same.input;
  output = sym same.output;
}

module _ (text : ℕ → Bool) (Meet At : ℕ → Type 0) (GoBy : ℕ → ℕ → Type 0) (old new : ℕ → Reached State)
    (old_stays : (m n : ℕ) (e : End) → (old m).end ≡ Some e → old (m + n) ≡ old m)
    (new_stays : (m n : ℕ) (e : End) → (new m).end ≡ Some e → new (m + n) ≡ new m)
    (Tame : ℕ → Type 0) (fewer : (m n : ℕ) → m ≤ n → Tame n → Tame m)
    (pass : (k : ℕ) → Meet k → Tame (k + 256) → Passage text Meet At GoBy old new k) where
  abbrev PassageAt : ℕ → Type 0
  PassageAt = Passage text Meet At GoBy old new

  abbrev IsQuiet : ℕ → ℕ → Type 0
  IsQuiet = AreQuiet text Meet At GoBy old new

  later_old : (m n : ℕ) (e : End) → m ≤ n → (old m).end ≡ Some e → old n ≡ old m
  later_old m n e le ended = ap old (let same : n ≡ m + (n - m) = omega arith in same) ∙ old_stays m (n - m) e ended

  later_new : (m n : ℕ) (e : End) → m ≤ n → (new m).end ≡ Some e → new n ≡ new m
  later_new m n e le ended = ap new (let same : n ≡ m + (n - m) = omega arith in same) ∙ new_stays m (n - m) e ended

  -- what holds of each step of a block holds of the nth one of the run
  at_step : (P : ℕ → Type 0) (k length n : ℕ) → k ≤ n → n < k + length → ((d : ℕ) → d < length → P (k + d)) → P n
  at_step P k length n le before is = subst P (let same : k + (n - k) ≡ n = omega arith in same) (is (n - k) (omega arith))

  -- ---- the last front

  -- a front that leads on leads past the nth step
  abbrev IsLast : (n k : ℕ) → PassageAt k → Type 0
  IsLast n k (onward length some most quiet by there) = n < k + length
  IsLast n k passage = ⊤

  record LastFront (Balance : ℕ → Type 0) (n : ℕ) : Type 0 where
    k : ℕ
    before : k ≤ n
    meet : Meet k
    balance : Balance k
    passage : PassageAt k
    last : IsLast n k passage

  module _ (Balance : ℕ → Type 0) (grows : (k m : ℕ) → Meet k → GoBy k m → Balance k → Balance (k + m)) where
    last_from : (fuel k n : ℕ) → k ≤ n → n < k + fuel → Meet k → Balance k → Tame (n + 256) → LastFront Balance n
    last_from zero k n le less meet balance tame = absurd (omega arith)
    last_from (suc fuel) k n le less meet balance tame =
        by_passage (pass k meet (fewer (k + 256) (n + 256) (omega arith) tame))
        (λ length some meet_there balance_there from. last_from fuel (k + length) n from (omega arith) meet_there balance_there tame)
      where
        by_passage : PassageAt k
            → ((length : ℕ) → 0 < length → Meet (k + length) → Balance (k + length) → k + length ≤ n → LastFront Balance n)
            → LastFront Balance n
        by_passage (onward length some most quiet by there) more = elim (cases_lt n (k + length)) [
          | inl before ↦ record { k = k; before = le; meet = meet; balance = balance; passage = onward length some most quiet by there; last = before }
          | inr from ↦ more length some there (grows k length meet by balance) from
        ]
        by_passage passage more = record { k = k; before = le; meet = meet; balance = balance; passage = passage; last = tt }

    last_front : Meet 0 → Balance 0 → (n : ℕ) → Tame (n + 256) → LastFront Balance n
    last_front meet balance n tame = last_from (suc n) 0 n (omega arith) (omega arith) meet balance tame

  -- ---- output and ends

  module _ (n : ℕ) where
    -- both go on
    goes_on : (k length : ℕ) → k ≤ n → n < k + length → IsQuiet k length → AreAlikeAt text n old new
    goes_on k length le before quiet = record {
      output = at_step (λ m. (old m).state.core.output ≡ (new m).state.core.output) k length n le before quiet.output;
      old_ends = λ e is. absurd (no_end (old n).end e old_on is);
      new_ends = λ e is. absurd (no_end (new n).end e new_on is);
      same_steps = λ e none. (λ is. absurd (no_end (old n).end e old_on is), λ is. absurd (no_end (new n).end e new_on is));
    }
      where
        old_on : (old n).end ≡ None
        old_on = at_step (λ m. (old m).end ≡ None) k length n le before quiet.old_on

        new_on : (new n).end ≡ None
        new_on = at_step (λ m. (new m).end ≡ None) k length n le before quiet.new_on

    -- both end, perhaps after different numbers of steps
    ends_by : (a b : ℕ) (e : End) → (old a).end ≡ Some e → (new b).end ≡ Some e → a ≤ n + 256 → b ≤ n + 256
        → AgreeOutside text (old a).state.core (new b).state.core → (old n).state.core.output ≡ (new n).state.core.output
        → ((f : End) → (old n).end ≡ Some f → a ≤ n) → ((f : End) → (new n).end ≡ Some f → b ≤ n)
        → ((f : End) → is_access_fault f ≡ false → (old n).end ≡ Some f ↔ (new n).end ≡ Some f)
        → AreAlikeAt text n old new
    ends_by a b e old_e new_e a_le b_le outside output old_by new_by steps = record {
      output = output;
      old_ends = λ f is.
          let there = later_old a n e (old_by f is) old_e in
          let over = later_new b (n + 256) e b_le new_e in
          record {
            ended = ap (λ r. r.end) over ∙ new_e ∙ sym (ap (λ r. r.end) there ∙ old_e) ∙ is;
            outside = subst (λ r. AgreeOutside text r.state.core (new (n + 256)).state.core) (sym there)
                (subst (λ r. AgreeOutside text (old a).state.core r.state.core) (sym over) outside);
          };
      new_ends = λ f is.
          let there = later_new b n e (new_by f is) new_e in
          let over = later_old a (n + 256) e a_le old_e in
          record {
            ended = ap (λ r. r.end) over ∙ old_e ∙ sym (ap (λ r. r.end) there ∙ new_e) ∙ is;
            outside = subst (λ r. AgreeOutside text r.state.core (old (n + 256)).state.core) (sym there)
                (subst (λ r. AgreeOutside text (new b).state.core r.state.core) (sym over) (AgreeOutside-sym text (old a) (new b) outside));
          };
      same_steps = steps;
    }

    by_front : (k : ℕ) → k ≤ n → (passage : PassageAt k) → IsLast n k passage → AreAlikeAt text n old new
    by_front k le (onward length some most quiet by there) before = goes_on k length le before quiet
    by_front k le (together length e some most quiet by old_e new_e outside) last = elim (cases_lt n (k + length)) [
      | inl before ↦ goes_on k length le before quiet
      | inr from ↦
          let old_n = later_old (k + length) n e from old_e in
          let new_n = later_new (k + length) n e from new_e in
          ends_by (k + length) (k + length) e old_e new_e (omega arith) (omega arith) outside
          (ap (λ r. r.state.core.output) old_n ∙ outside.output ∙ sym (ap (λ r. r.state.core.output) new_n))
          (λ f is. from) (λ f is. from)
          (λ f none.
          let same : (old n).end ≡ (new n).end = ap (λ r. r.end) old_n ∙ old_e ∙ sym new_e ∙ sym (ap (λ r. r.end) new_n) in
          (λ is. sym same ∙ is, λ is. same ∙ is))
    ]
    by_front k le (inside i j e i_le j_le access old_in new_in outside output apart) last =
        ends_by (k + i) (k + j) e old_in.ended new_in.ended (omega arith) (omega arith) outside
        (subst (λ m. (old m).state.core.output ≡ (new m).state.core.output) (let same : k + (n - k) ≡ n = omega arith in same) (output (n - k) (n - k)))
        old_by new_by
        (λ f none. (
          λ is. absurd (refused (old n) f none (ap (λ r. r.end) (later_old (k + i) n e (old_by f is) old_in.ended) ∙ old_in.ended) is),
          λ is. absurd (refused (new n) f none (ap (λ r. r.end) (later_new (k + j) n e (new_by f is) new_in.ended) ∙ new_in.ended) is),
        ))
      where
        old_by : (f : End) → (old n).end ≡ Some f → k + i ≤ n
        old_by f is = elim (cases_lt n (k + i)) [
          | inl before ↦ absurd (no_end (old n).end f (at_step (λ m. (old m).end ≡ None) k i n le before old_in.on) is)
          | inr from ↦ from
        ]

        new_by : (f : End) → (new n).end ≡ Some f → k + j ≤ n
        new_by f is = elim (cases_lt n (k + j)) [
          | inl before ↦ absurd (no_end (new n).end f (at_step (λ m. (new m).end ≡ None) k j n le before new_in.on) is)
          | inr from ↦ from
        ]

        refused : (run : Reached State) (f : End) → is_access_fault f ≡ false → run.end ≡ Some e → run.end ≡ Some f → ⊥
        refused run f none is other = true≢false (sym access ∙ ap is_access_fault (some_is (sym is ∙ other)) ∙ none)

  -- Both runs are alike after each number of steps.
  pub alike : Meet 0 → (n : ℕ) → Tame (n + 256) → AreAlikeAt text n old new
  alike meet n tame =
      let front = last_front (λ k. ⊤) (λ k m meet by balance. tt) meet tt n tame in
      by_front n front.k front.before front.passage front.last

  -- ---- fronts

  -- Where the old run stands at a listed leader, both stand at a front.
  pub meets : Meet 0 → (n : ℕ) → Tame (n + 256) → (old n).end ≡ None → At n → Meet n
  meets meet n tame on at =
      let front = last_front (λ k. ⊤) (λ k m meet by balance. tt) meet tt n tame in
      elim (cases_lt front.k n) [
        | inl past ↦ absurd (never front.k past front.passage front.last)
        | inr from ↦ subst Meet (let same : front.k ≡ n = omega (arith, front.before) in same) front.meet
      ]
    where
      over : (m : ℕ) (e : End) → m ≤ n → (old m).end ≡ Some e → ⊥
      over m e from ended = no_end (old n).end e on (ap (λ r. r.end) (later_old m n e from ended) ∙ ended)

      among : (k length : ℕ) → k < n → ((d : ℕ) → 0 < d → d < length → ¬ At (k + d)) → n < k + length → ⊥
      among k length past apart before =
          apart (n - k) (omega arith) (omega arith) (subst At (let same : n ≡ k + (n - k) = omega arith in same) at)

      never : (k : ℕ) → k < n → (passage : PassageAt k) → IsLast n k passage → ⊥
      never k past (onward length some most quiet by there) before = among k length past quiet.apart before
      never k past (together length e some most quiet by old_e new_e outside) last = elim (cases_lt n (k + length)) [
        | inl before ↦ among k length past quiet.apart before
        | inr from ↦ over (k + length) e from old_e
      ]
      never k past (inside i j e i_le j_le access old_in new_in outside output apart) last = elim (cases_lt n (k + i)) [
        | inl before ↦ among k i past apart before
        | inr from ↦ over (k + i) e from old_in.ended
      ]

  -- ---- accounts

  -- Where the old run ended otherwise than by a refused access, the accounts balance.
  module _ (Balance : ℕ → Type 0) (grows : (k m : ℕ) → Meet k → GoBy k m → Balance k → Balance (k + m))
      (stays : (m n : ℕ) (e : End) → m ≤ n → (old m).end ≡ Some e → (new m).end ≡ Some e → Balance m → Balance n) where
    pub balanced : Meet 0 → Balance 0 → (n : ℕ) (f : End) → Tame (n + 256) → (old n).end ≡ Some f → is_access_fault f ≡ false → Balance n
    balanced meet balance n f tame ended no_access =
        let front = last_front Balance grows meet balance n tame in
        by_front_balance front.k front.before front.meet front.balance front.passage front.last
      where
        goes : (k length : ℕ) → k ≤ n → n < k + length → ((d : ℕ) → d < length → (old (k + d)).end ≡ None) → ⊥
        goes k length le before on = no_end (old n).end f (at_step (λ m. (old m).end ≡ None) k length n le before on) ended

        by_front_balance : (k : ℕ) → k ≤ n → Meet k → Balance k → (passage : PassageAt k) → IsLast n k passage → Balance n
        by_front_balance k le meet balance (onward length some most quiet by there) before = absurd (goes k length le before quiet.old_on)
        by_front_balance k le meet balance (together length e some most quiet by old_e new_e outside) last = elim (cases_lt n (k + length)) [
          | inl before ↦ absurd (goes k length le before quiet.old_on)
          | inr from ↦ stays (k + length) n e from old_e new_e (grows k length meet by balance)
        ]
        by_front_balance k le meet balance (inside i j e i_le j_le access old_in new_in outside output apart) last = elim (cases_lt n (k + i)) [
          | inl before ↦ absurd (goes k i le before old_in.on)
          | inr from ↦
              let same = ap (λ r. r.end) (later_old (k + i) n e from old_in.ended) ∙ old_in.ended in
              absurd (true≢false (sym access ∙ ap is_access_fault (some_is (sym same ∙ ended)) ∙ no_access))
        ]
