-- For private contracts: what stands at the places of a plan, in every run.
use Rattle.std.specs.Prelude.{◌≡◌, ℕ, ◌+◌, ◌^◌, ◌<◌, ◌≤◌, List, [], ◌∷◌, ◌++◌, length, slice_index, All}
use Rattle.ci_verilog.specs.declared.vectors.Vector.{Vector}
use Rattle.ci_verilog.specs.Modules.{Module}
use Rattle.ci_verilog.specs.Values.{Settles}
use Rattle.ci_verilog.specs.private.Held.{Fits}
use Rattle.ci_plan.specs.declared.steps.Step.{Step}
use Rattle.ci_plan.specs.private.Steps.{IsStep, step_value, words_after}

-- Words, of which the first five are those of the inputs and those from the lowest number on are numbers, and steps,
-- which put their words behind those of the inputs, one behind the other.
pub record Draft : Type 0 where
  pub words : List ℕ
  pub lowest : ℕ
  pub steps : List Step

-- the words of the steps lie below the numbers
pub record IsDraft (draft : Draft) : Type 0 where
  pub whole : length draft.words ≡ 64
  pub room : 5 + length draft.steps ≤ draft.lowest
  pub numbers_within : draft.lowest ≤ 64
  pub are_steps : All (IsStep 64) draft.steps

-- steps were added behind the others, and numbers below the others
pub record Grows (old new : Draft) : Type 0 where
  pub more : List Step
  pub steps_are : new.steps ≡ old.steps ++ more
  pub lower : new.lowest ≤ old.lowest
  pub numbers_stay : (p : ℕ) → old.lowest ≤ p → slice_index new.words p ≡ slice_index old.words p
  pub is_draft : IsDraft new

-- the number stands at the place before the first step
pub record HasNumber (draft : Draft) (place n : ℕ) : Type 0 where
  pub below : place < 64
  pub among : draft.lowest ≤ place
  pub is : slice_index draft.words place ≡ n

-- the step makes the other one's word, where the numbers stand at their places
pub record MakesAs (draft : Draft) (other step : Step) : Type 0 where
  pub is_step : IsStep 64 step
  pub same : (words : List ℕ) → ((p n : ℕ) → HasNumber draft p n → slice_index words p ≡ n)
      → step_value words step ≡ step_value words other

-- the step was added, and puts its word at the place
pub record IsAdded (old new : Draft) (place : ℕ) (step : Step) : Type 0 where
  pub below : place < 64
  pub place_is : place ≡ 5 + length old.steps
  pub steps_are : new.steps ≡ old.steps ++ step ∷ []
  pub words_are : new.words ≡ old.words
  pub lowest_is : new.lowest ≡ old.lowest

-- the words of a run before the first step, at these values of the inputs
pub record Opens (draft : Draft) (arguments words : List ℕ) : Type 0 where
  pub room : 5 + length draft.steps ≤ length words
  pub inputs : (k : ℕ) → k < 5 → slice_index words k ≡ slice_index arguments k
  pub numbers : (p : ℕ) → draft.lowest ≤ p → slice_index words p ≡ slice_index draft.words p

-- what a run begins with, at names that settle the module
pub record Run (m : Module) (draft : Draft) : Type 0 where
  pub arguments : List ℕ
  pub words : List ℕ
  pub names : List ℕ → Vector
  pub opens : Opens draft arguments words
  pub are_words : All (λ n. n < 2 ^ 32) arguments
  pub settles : Settles m arguments names

-- in every run the value stands at the place behind the steps
pub record Stands (m : Module) (draft : Draft) (place : ℕ) (value : (List ℕ → Vector) → ℕ) : Type 0 where
  pub below : place < 64
  pub kept : 5 + length draft.steps ≤ place → draft.lowest ≤ place
  pub is : (run : Run m draft) → slice_index (words_after run.words 5 draft.steps) place ≡ value run.names

-- so do the bits of a vector, of so many bits
pub record StandsFor (m : Module) (draft : Draft) (place width : ℕ) (bits : (List ℕ → Vector) → Vector) : Type 0 where
  pub stands : Stands m draft place (λ names. (bits names).value)
  pub narrow : width ≤ 64
  pub fit : (run : Run m draft) → Fits (bits run.names) width
