-- Lists that loops fill: the numbers below a count, and the flows of blocks.
use Rattle.std.proofs.Common.{◌≡◌, ℕ, ◌+◌, ◌-◌, ◌<◌, ◌≤◌, inl, inr, List, [], ◌∷◌, ◌++◌, length, get_or, sym, ap, ◌∙◌, subst, arith, length-append}
use Rattle.std.specs.List.{Contains}
use Rattle.std.proofs.lemmas.Bool.{cases_eq, cases_lt}
use Rattle.std.proofs.lemmas.List.{get_or_default}
use Rattle.std.proofs.lemmas.List.Elements.{Contains-append_left, Contains-append_right}
use Rattle.std.proofs.Math.ListN.{get_or-append}
use Rattle.std.proofs.Math.Seq.{get_or-append_seam}
use Rattle.ci_block.specs.declared.blocks.Block.{Block}
use Rattle.ci_live.specs.declared.flow.Flow.{Flow}
use Rattle.ci_live.specs.private.Flows.{AreFlows, IsFlowOf, flow_at}

-- ---- one number less

pub all_from :
    (count n : ℕ) (numbers : List ℕ) → 0 < n → ((k : ℕ) → n ≤ k → k < count → Contains numbers k)
    → (k : ℕ) → n - 1 ≤ k → k < count → Contains (numbers ++ (n - 1) ∷ []) k
all_from count n numbers some so_far k from below = elim (cases_eq k (n - 1)) [
  | inl same ↦ Contains-append_right numbers ((n - 1) ∷ []) k (0, omega arith, sym same)
  | inr other ↦ Contains-append_left numbers ((n - 1) ∷ []) k (so_far k (omega arith) below)
]

-- ---- one flow more

pub flows_more :
    (leaders : List ℕ) (blocks : List Block) (i : ℕ) (flows : List Flow) (block : Block) (flow : Flow)
    → i < length blocks → get_or blocks i block ≡ block → AreFlows leaders blocks i flows → IsFlowOf leaders block flow
    → AreFlows leaders blocks (i + 1) (flows ++ flow ∷ [])
flows_more leaders blocks i flows block flow within is so_far of = record {
  many = length-append flows (flow ∷ []) ∙ ap (λ n. n + 1) so_far.many;
  each =
      λ k other below at.
      let many = so_far.many in
      elim (cases_lt k i) [
        | inl earlier ↦
            subst (λ f. IsFlowOf leaders other f) (sym (before k (omega arith))) (so_far.each k other earlier at)
        | inr later ↦
            let here : k ≡ i = omega arith in
            let same : block ≡ other = sym is ∙ get_or_default blocks i block other within ∙ ap (λ n. get_or blocks n other) (sym here) ∙ at in
            subst (λ b. IsFlowOf leaders b (flow_at (flows ++ flow ∷ []) k)) same
            (subst (λ f. IsFlowOf leaders block f) (sym (last k (here ∙ sym many))) of)
      ];
}
  where
    before : (k : ℕ) → k < length flows → flow_at (flows ++ flow ∷ []) k ≡ flow_at flows k
    before k below = get_or-append flows (flow ∷ []) _ k below

    last : (k : ℕ) → k ≡ length flows → flow_at (flows ++ flow ∷ []) k ≡ flow
    last k is_last = ap (λ n. flow_at (flows ++ flow ∷ []) n) is_last ∙ get_or-append_seam flows flow [] _
