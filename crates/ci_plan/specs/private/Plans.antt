-- For private contracts: whole plans, and their runs.
use Rattle.std.specs.Prelude.{◌≡◌, ℕ, ◌+◌, ◌%◌, ◌^◌, ◌<◌, ◌≤◌, List, length, slice_index, All}
use Rattle.ci_verilog.specs.Modules.{Module}
use Rattle.ci_verilog.specs.Values.{expr_value}
use Rattle.ci_plan.specs.declared.plans.Plan.{Plan}
use Rattle.ci_plan.specs.declared.plans.Size.{Size}
use Rattle.ci_plan.specs.declared.plans.Size.TheVariants.{Tiny, Small, Middle, Whole}
use Rattle.ci_plan.specs.private.Drafts.{Draft, Opens, Stands}
use Rattle.ci_plan.specs.private.Steps.{IsStep, words_after}

-- the first words, so many, are enough for a run: all its places are below, and no number stands at another one
pub record FitsIn (n : ℕ) (draft : Draft) (y z x : ℕ) : Type 0 where
  pub room : 5 + length draft.steps ≤ n
  pub are_steps : All (IsStep n) draft.steps
  pub zeros : (p : ℕ) → n ≤ p → slice_index draft.words p ≡ 0
  pub y_below : y < n
  pub z_below : z < n
  pub x_below : x < n

abbrev pub words_of : Size → ℕ
words_of Tiny = 8
words_of Small = 16
words_of Middle = 32
words_of Whole = 64

-- the results of the module stand at the plan's places
pub record IsPlanOf (m : Module) (plan : Plan) : Type 0 where
  pub y : Stands m plan.draft plan.y (λ names. expr_value names m.y)
  pub z : Stands m plan.draft plan.z (λ names. expr_value names m.z)
  pub x : Stands m plan.draft plan.x (λ names. expr_value names m.x)
  pub fits : FitsIn (words_of plan.size) plan.draft plan.y plan.z plan.x

-- the lowest 32 bits of the words at the plan's places, after its steps
pub record IsRun (plan : Plan) (arguments : List ℕ) (results : ℕ × ℕ × ℕ) : Type 0 where
  pub words : List ℕ
  pub opens : Opens plan.draft arguments words
  pub y : results.0 ≡ slice_index (words_after words 5 plan.draft.steps) plan.y % 2 ^ 32
  pub z : results.1 ≡ slice_index (words_after words 5 plan.draft.steps) plan.z % 2 ^ 32
  pub x : results.2 ≡ slice_index (words_after words 5 plan.draft.steps) plan.x % 2 ^ 32
