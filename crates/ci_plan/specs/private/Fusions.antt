-- For private contracts: one step in place of several.
use Rattle.std.specs.Prelude.{◌≡◌, ℕ, ◌+◌, ◌-◌, ◌<◌, ◌≤◌, List, [], ◌∷◌, ◌++◌, length, take, slice_set, Option, None, Some, ⊤, IfSome}
use Rattle.ci_plan.specs.declared.founds.Found.{Found}
use Rattle.ci_plan.specs.declared.steps.Step.{Step}
use Rattle.ci_plan.specs.private.Drafts.{Draft}
use Rattle.ci_plan.specs.private.Steps.{IsStep, step_value, words_after}

-- the step is made of other words than that at the place
abbrev pub Ignores : ℕ → Step → Type 0
Ignores place step = (words : List ℕ) (n : ℕ) → step_value (slice_set words place n) step ≡ step_value words step

-- the step makes of any words what the last one makes of them behind those of the others, which are put at the place and
-- behind it
pub record MakesAll (place : ℕ) (others : List Step) (last step : Step) : Type 0 where
  pub is_step : IsStep 64 step
  pub same : (words : List ℕ) → place + length others ≤ length words
      → step_value words step ≡ step_value (words_after words place others) last

-- behind the first steps, the step makes what the last one of all makes, and these are so many more
pub record Replaces (steps : List Step) (many : ℕ) (step : Step) : Type 0 where
  pub others : List Step
  pub last : Step
  pub many_is : many ≡ length others + 1
  pub few : many ≤ length steps
  pub are : steps ≡ take (length steps - many) steps ++ others ++ last ∷ []
  pub makes : MakesAll (5 + (length steps - many)) others last step

-- so many of the last steps were replaced by the step, which puts its word at the place
pub record IsReplaced (old new : Draft) (many place : ℕ) (step : Step) : Type 0 where
  pub place_is : place ≡ 5 + (length old.steps - many)
  pub steps_are : new.steps ≡ take (length old.steps - many) old.steps ++ step ∷ []
  pub words_are : new.words ≡ old.words
  pub lowest_is : new.lowest ≡ old.lowest

-- what stood at a place still does, if that isn't from the first to before the end, and else it stands nowhere
abbrev pub IsLeft : ℕ → ℕ → Option Found → Option Found → Type 0
IsLeft first end old None = ⊤
IsLeft first end old (Some found) = (old ≡ Some found) × (first ≤ found.place → end ≤ found.place)
