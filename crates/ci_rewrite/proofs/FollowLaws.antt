-- Lists by pairs: one behind the other, and nodes of a test.
use Rattle.std.proofs.Common.{◌≡◌, ◌⊎◌, ℕ, zero, suc, ◌+◌, ◌<◌, ◌≤◌, refl, ap, sym, ◌∙◌, arith, inl, inr, subst, List, [], ◌∷◌, ◌++◌, length, true≢false}
use Rattle.std.specs.Prelude.{Bool, true, false, ◌&&◌, ◌||◌}
use Rattle.std.proofs.lemmas.Bool.{cases_Bool, and_from, or_left, or_right}
use Rattle.ci_isa.specs.declared.instruction.Insn.{Insn}
use Rattle.ci_isa.specs.declared.instruction.Insn.TheVariants.{Unit, Cread, Cput}
use Rattle.ci_isa.specs.Effects.{is_among, is_unit, is_cread, is_cput}
use Rattle.ci_machine.specs.Cores.{hidden_operands}
use Rattle.ci_rewrite.specs.private.Bundles.{TakeGiven, is_unit_of}
use Rattle.ci_isa.specs.Sequences.{nth_insn}
use Rattle.ci_machine.specs.Actions.{Units}
use Rattle.ci_dfg.specs.BlockGraph.{is_joined, stay_together}
use Rattle.ci_dfg.specs.Bundles.{Before, a_put, a_unit, a_first, another, left_by, MayFollow, IsDone, Bundled, before_at}
use Rattle.ci_rewrite.specs.private.Follows.{MayStand, Follow, last_of}
use Rattle.ci_dfg.proofs.BundledLists.{put_goes_on}
use Rattle.ci_rewrite.proofs.PassedUnits.{MayTake}
use Rattle.ci_rewrite.proofs.Stages.{those_below, those_zero, those_more, those_same}

-- ---- two forms

pub bundled_follow : (before : Before) (insns : List Insn) → Bundled before insns → Follow MayFollow before insns × IsDone (last_of before insns)
bundled_follow before [] bundled = (tt, bundled)
bundled_follow before (insn ∷ insns) bundled =
    let (follow, done) = bundled_follow (left_by insn) insns bundled.1 in ((bundled.0, follow), done)

pub follow_bundled : (before : Before) (insns : List Insn) → Follow MayFollow before insns → IsDone (last_of before insns) → Bundled before insns
follow_bundled before [] follow done = done
follow_bundled before (insn ∷ insns) follow done = (follow.0, follow_bundled (left_by insn) insns follow.1 done)

-- ---- one behind the other

-- what may stand at the front may stand behind any word that needs none
abbrev pub GoesAnywhere : (Before → Insn → Type 0) → Type 0
GoesAnywhere P = (before : Before) (insn : Insn) → IsDone before → P another insn → P before insn

-- what stands behind a word of another bundle may stand at the front
abbrev pub GoesFirst : (Before → Insn → Type 0) → Type 0
GoesFirst P = (first second : Insn) → stay_together first second ≡ false → P (left_by first) second → P another second

pub last-append : (before : Before) (first second : List Insn) → last_of before (first ++ second) ≡ last_of (last_of before first) second
last-append before [] second = refl
last-append before (insn ∷ first) second = last-append (left_by insn) first second

module _ (P : Before → Insn → Type 0) (anywhere : GoesAnywhere P) where
  pub follow_from : (before : Before) (insns : List Insn) → IsDone before → Follow P another insns → Follow P before insns
  follow_from before [] done follow = tt
  follow_from before (insn ∷ insns) done follow = (anywhere before insn done follow.0, follow.1)

  pub follow-append : (before : Before) (first second : List Insn) → Follow P before first → IsDone (last_of before first)
      → Follow P another second → Follow P before (first ++ second)
  follow-append before [] second follow done more = follow_from before second done more
  follow-append before (insn ∷ first) second follow done more = (follow.0, follow-append (left_by insn) first second follow.1 done more)

  pub follow_push : (before : Before) (insns : List Insn) (insn : Insn) → Follow P before insns → P (last_of before insns) insn
      → Follow P before (insns ++ insn ∷ [])
  follow_push before [] insn follow is = (is, tt)
  follow_push before (first ∷ insns) insn follow is = (follow.0, follow_push (left_by first) insns insn follow.1 is)

  pub follow_place : (before : Before) (insns : List Insn) → Follow P before insns → (k : ℕ) → k < length insns → P (before_at before insns k) (nth_insn insns k)
  follow_place before [] follow k below = absurd (omega arith)
  follow_place before (insn ∷ insns) follow zero below = follow.0
  follow_place before (insn ∷ insns) follow (suc zero) below = follow_place (left_by insn) insns follow.1 zero (omega arith)
  follow_place before (insn ∷ insns) follow (suc (suc k)) below = follow_place (left_by insn) insns follow.1 (suc k) (omega arith)

pub done-append : (before : Before) (first second : List Insn) → IsDone (last_of before first)
    → ((b : Before) → IsDone b → IsDone (last_of b second)) → IsDone (last_of before (first ++ second))
done-append before first second done later = subst IsDone (sym (last-append before first second)) (later (last_of before first) done)

pub last_push : (before : Before) (insns : List Insn) (insn : Insn) → last_of before (insns ++ insn ∷ []) ≡ left_by insn
last_push before insns insn = last-append before insns (insn ∷ [])

-- ---- both kinds of pairs

pub may_follow_anywhere : GoesAnywhere MayFollow
may_follow_anywhere a_put insn done may = absurd done
may_follow_anywhere a_unit (Cread rd index) done may = absurd may
may_follow_anywhere a_unit insn done may = tt
may_follow_anywhere a_first (Cread rd index) done may = absurd may
may_follow_anywhere a_first insn done may = tt
may_follow_anywhere another insn done may = may

pub may_stand_anywhere : (P : ℕ → Type 0) → GoesAnywhere (MayStand P)
may_stand_anywhere P a_put insn done may = tt
may_stand_anywhere P a_unit (Unit number rd rs1 rs2 rs3) done may = may
may_stand_anywhere P a_unit insn done may = tt
may_stand_anywhere P a_first (Unit number rd rs1 rs2 rs3) done may = may
may_stand_anywhere P a_first insn done may = tt
may_stand_anywhere P another insn done may = may

-- where a word stands behind another one of its bundle, both stay together
together : (first second : Insn) → stay_together first second ≡ false → is_cput first && is_unit second ≡ true → ⊥
together first second none both =
    true≢false (sym (or_left (is_cput first && is_unit second) ((is_unit first || is_cread first) && is_cread second) both) ∙ none)

read_together : (first second : Insn) → stay_together first second ≡ false → (is_unit first || is_cread first) ≡ true → is_cread second ≡ true → ⊥
read_together first second none one other =
    true≢false (sym (or_right (is_cput first && is_unit second) ((is_unit first || is_cread first) && is_cread second)
    (and_from (is_unit first || is_cread first) (is_cread second) one other)) ∙ none)

pub may_follow_first : GoesFirst MayFollow
may_follow_first (Cput rs1 rs2) (Unit number rd a b c) none may = tt
may_follow_first (Cput rs1 rs2) insn none may = absurd may
may_follow_first (Unit number rd a b c) (Cread r index) none may = absurd (read_together (Unit number rd a b c) (Cread r index) none refl refl)
may_follow_first (Unit number rd a b c) insn none may = may
may_follow_first (Cread q place) (Cread r index) none may = absurd (read_together (Cread q place) (Cread r index) none refl refl)
may_follow_first (Cread q zero) insn none may = may
may_follow_first (Cread q (suc place)) insn none may = may
may_follow_first first insn none may = may

pub may_stand_first : (P : ℕ → Type 0) → GoesFirst (MayStand P)
may_stand_first P (Cput rs1 rs2) (Unit number rd a b c) none may = absurd (together (Cput rs1 rs2) (Unit number rd a b c) none refl)
may_stand_first P (Cput rs1 rs2) insn none may = tt
may_stand_first P (Cread q zero) insn none may = may
may_stand_first P (Cread q (suc place)) insn none may = may
may_stand_first P (Unit number rd a b c) insn none may = may
may_stand_first P first insn none may = may

-- ---- nodes of a test

module _ (insns : List Insn) (bundled : Bundled another insns) (test : ℕ → Bool)
    (same_test : (u : ℕ) → is_joined insns (suc u) ≡ true → test u ≡ test (suc u)) where
  abbrev last_at : ℕ → Before
  last_at b = last_of another (those_below insns test b)

  last_taken : (u : ℕ) → test u ≡ true → last_at (suc u) ≡ left_by (nth_insn insns u)
  last_taken u is = ap (last_of another) (those_more insns test u is) ∙ last_push another (those_below insns test u) (nth_insn insns u)

  last_left : (u : ℕ) → test u ≡ false → last_at (suc u) ≡ last_at u
  last_left u is = ap (last_of another) (those_same insns test u is)

  done_unless_put : (insn : Insn) → (is_cput insn ≡ true → ⊥) → IsDone (left_by insn)
  done_unless_put (Cput rs1 rs2) none = none refl
  done_unless_put (Cread rd zero) none = tt
  done_unless_put (Cread rd (suc index)) none = tt
  done_unless_put insn none = tt

  -- behind a `cput` of the test stands its unit word, which is of the test too
  put_joins : (u : ℕ) → u < length insns → is_cput (nth_insn insns u) ≡ true → is_joined insns (suc u) ≡ true
  put_joins u below is =
      or_left (is_cput (nth_insn insns u) && is_unit (nth_insn insns (suc u)))
      ((is_unit (nth_insn insns u) || is_cread (nth_insn insns u)) && is_cread (nth_insn insns (suc u)))
      (and_from (is_cput (nth_insn insns u)) (is_unit (nth_insn insns (suc u))) is (put_goes_on another insns bundled u below is))

  -- where the node before place b is not of the test, no word has to follow
  done_left : (b : ℕ) → b < length insns → test b ≡ false → IsDone (last_at b)
  done_left zero within out = subst (λ l. IsDone (last_of another l)) (sym (those_zero insns test)) tt
  done_left (suc v) within out = elim (cases_Bool (test v)) [
    | inl taken ↦
        subst IsDone (sym (last_taken v taken)) (done_unless_put (nth_insn insns v) (λ put.
        true≢false (sym (sym (same_test v (put_joins v (omega arith) put)) ∙ taken) ∙ out)))
    | inr left ↦ subst IsDone (sym (last_left v left)) (done_left v (omega arith) left)
  ]

  -- the whole list is done where the last node is no `cput`
  pub done_those : (b : ℕ) → b ≤ length insns → ((u : ℕ) → b ≡ suc u → is_cput (nth_insn insns u) ≡ true → ⊥) → IsDone (last_at b)
  done_those zero within none = subst (λ l. IsDone (last_of another l)) (sym (those_zero insns test)) tt
  done_those (suc v) within none = elim (cases_Bool (test v)) [
    | inl taken ↦ subst IsDone (sym (last_taken v taken)) (done_unless_put (nth_insn insns v) (none v refl))
    | inr left ↦ subst IsDone (sym (last_left v left)) (done_left v (omega arith) left)
  ]

  module _ (P : Before → Insn → Type 0) (anywhere : GoesAnywhere P) (first : GoesFirst P)
      (places : (k : ℕ) → k < length insns → P (before_at another insns k) (nth_insn insns k)) where
    at_front : (b : ℕ) → b < length insns → is_joined insns b ≡ false → P another (nth_insn insns b)
    at_front zero below none = places zero below
    at_front (suc u) below none = first (nth_insn insns u) (nth_insn insns (suc u)) none (places (suc u) below)

    next : (b : ℕ) → b < length insns → test b ≡ true → P (last_at b) (nth_insn insns b)
    next zero below is = subst (λ l. P (last_of another l) (nth_insn insns zero)) (sym (those_zero insns test)) (places zero below)
    next (suc u) below is = elim (cases_Bool (test u)) [
      | inl taken ↦ subst (λ before. P before (nth_insn insns (suc u))) (sym (last_taken u taken)) (places (suc u) below)
      | inr left ↦
          subst (λ before. P before (nth_insn insns (suc u))) (sym (last_left u left))
          (anywhere (last_at u) (nth_insn insns (suc u)) (done_left u (omega arith) left)
          (at_front (suc u) below (unjoined left)))
    ]
      where
        unjoined : test u ≡ false → is_joined insns (suc u) ≡ false
        unjoined left = elim (cases_Bool (is_joined insns (suc u))) [
          | inl joined ↦ absurd (true≢false (sym (same_test u joined ∙ is) ∙ left))
          | inr none ↦ none
        ]

    pub follow_those : (b : ℕ) → b ≤ length insns → Follow P another (those_below insns test b)
    follow_those zero within = subst (Follow P another) (sym (those_zero insns test)) tt
    follow_those (suc b) within =
        let before = follow_those b (omega arith) in
        elim (cases_Bool (test b)) [
          | inl passes ↦
              subst (Follow P another) (sym (those_more insns test b passes))
              (follow_push P anywhere another (those_below insns test b) (nth_insn insns b) before (next b (omega arith) passes))
          | inr fails ↦ subst (Follow P another) (sym (those_same insns test b fails)) before
        ]

-- ---- units

-- what is said of pairs is said by place
pub take_given : (units : Units) (insns : List Insn) → ((number r : ℕ) → is_among (units.further number) r ≡ true → is_among hidden_operands r ≡ true)
    → Follow (MayTake units) another insns → TakeGiven units insns
take_given units insns operands follow = record {
  operands = operands;
  bare = λ number k below unit. by_before number k (nth_insn insns k) unit (follow_place (MayTake units) (may_stand_anywhere (λ m. units.further m ≡ [])) another insns follow k below);
}
  where
    put_there : (insn : Insn) → left_by insn ≡ a_put → is_cput insn ≡ true
    put_there (Cput rs1 rs2) is = refl
    put_there (Cread rd zero) is = cc
    put_there (Cread rd (suc index)) is = cc
    put_there insn is = cc

    taken : (number : ℕ) (before : Before) (insn : Insn) → is_unit_of number insn → MayTake units before insn → (before ≡ a_put) ⊎ (units.further number ≡ [])
    taken number a_put insn unit may = inl refl
    taken number a_unit (Unit m rd a b c) unit may = inr (ap units.further (sym unit) ∙ may)
    taken number a_first (Unit m rd a b c) unit may = inr (ap units.further (sym unit) ∙ may)
    taken number another (Unit m rd a b c) unit may = inr (ap units.further (sym unit) ∙ may)
    taken number before insn unit may = absurd unit

    by_before : (number k : ℕ) (insn : Insn) → is_unit_of number insn → MayTake units (before_at another insns k) insn
        → ((u : ℕ) × (k ≡ suc u) × (is_cput (nth_insn insns u) ≡ true)) ⊎ (units.further number ≡ [])
    by_before number zero insn unit may = elim (taken number another insn unit may) [ inl same ↦ cc | inr none ↦ inr none ]
    by_before number (suc u) insn unit may = elim (taken number (left_by (nth_insn insns u)) insn unit may) [
      | inl same ↦ inl (u, refl, put_there (nth_insn insns u) same)
      | inr none ↦ inr none
    ]
