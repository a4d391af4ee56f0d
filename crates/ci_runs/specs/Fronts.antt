-- From one front to the next. For private laws: by these short steps the theorems on whole runs are an induction.
use Rattle.std.specs.Prelude.{◌≡◌, ℕ, ◌+◌, ◌<◌, ◌≤◌, Bool, true, Some, None}
use Rattle.ci_machine.specs.declared.ends.End.{End}
use Rattle.ci_machine.specs.Outcomes.{Reached}
use Rattle.ci_machine.specs.Agreement.{AgreeOutside}
use Rattle.ci_machine.specs.Programs.{State}
use Rattle.ci_machine.specs.Outcomes.{is_access_fault}

-- `At` says where the old run stands at a listed leader, and `GoBy` what both runs go by from a front, in so many
-- steps.
module _ (text : ℕ → Bool) (Meet At : ℕ → Type 0) (GoBy : ℕ → ℕ → Type 0) (old new : ℕ → Reached State) where
  -- in the steps of a block but the last, neither run ends, neither puts any output, and none begins at a listed leader
  -- but the first
  pub record AreQuiet (k length : ℕ) : Type 0 where
    pub old_on : (d : ℕ) → d < length → (old (k + d)).end ≡ None
    pub new_on : (d : ℕ) → d < length → (new (k + d)).end ≡ None
    pub output : (d : ℕ) → d < length → (old (k + d)).state.core.output ≡ (new (k + d)).state.core.output
    pub apart : (d : ℕ) → 0 < d → d < length → ¬ At (k + d)

  -- a run ends i steps on, and not before
  pub record EndsIn (run : ℕ → Reached State) (k i : ℕ) (end : End) : Type 0 where
    pub ended : (run (k + i)).end ≡ Some end
    pub on : (d : ℕ) → d < i → (run (k + d)).end ≡ None

  -- How a block is passed in which both runs begin after k steps: to the next front after as many steps; to one end
  -- with its last instruction; or to one access fault among its actions, perhaps after different numbers of steps.
  pub data Passage (k : ℕ) : Type 0 where
    onward : (length : ℕ) → 0 < length → length ≤ 256 → AreQuiet k length → GoBy k length → Meet (k + length)
        → Passage k
    together :
        (length : ℕ) (end : End) → 0 < length → length ≤ 256 → AreQuiet k length → GoBy k length
        → (old (k + length)).end ≡ Some end → (new (k + length)).end ≡ Some end
        → AgreeOutside text (old (k + length)).state.core (new (k + length)).state.core → Passage k
    inside :
        (i j : ℕ) (end : End) → i ≤ 256 → j ≤ 256 → is_access_fault end ≡ true → EndsIn old k i end → EndsIn new k j end
        → AgreeOutside text (old (k + i)).state.core (new (k + j)).state.core
        → ((c d : ℕ) → (old (k + c)).state.core.output ≡ (new (k + d)).state.core.output)
        → ((d : ℕ) → 0 < d → d < i → ¬ At (k + d)) → Passage k
