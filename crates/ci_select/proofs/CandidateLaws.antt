-- The candidates of a history.
use Rattle.std.proofs.Common.{◌≡◌, ℕ, ℤ, pos, ◌*ℤ◌, inl, inr, sym, ◌∙◌, arith}
use Rattle.std.specs.FinSet as finite
use Rattle.std.proofs.lemmas.Int.{ints}
use Rattle.ci_block.specs.Blocks.{AreInOrder}
use Rattle.ci_cut.specs.Gain.{gain}
use Rattle.ci_select.specs.Histories.{History}
use Rattle.ci_select.specs.Instances.{Instance}
use Rattle.ci_select.specs.PresentBlocks.{graph_at}
use Rattle.ci_select.specs.Candidates.{IsCandidate, IsDueCandidate}
use Rattle.ci_select.proofs.HistoryLaws.{cut_is_one}
use Rattle.ci_select.proofs.PresentIsOne.{present_is_one}

-- the cut of a block saves one number of cycles,
pub saved_is_one :
    {instance : Instance} {history : History} {leader : ℕ} {left right : ℤ} → AreInOrder instance.blocks
    → IsCandidate instance history leader left → IsCandidate instance history leader right → left ≡ right
saved_is_one {instance} {history} {leader} order left right =
    let insns : left.insns ≡ right.insns =
    present_is_one instance history leader left.insns right.insns order left.has_cut.present right.has_cut.present in
    let cut : left.cut ≡ right.cut = cut_is_one left.has_cut.has_cut right.has_cut.has_cut in
    left.saved_is
    ∙ (λ i. gain (graph_at instance leader (insns i)) (finite.contains (cut i)) *ℤ pos (instance.entries leader))
    ∙ sym right.saved_is

-- and of the candidates one is due
pub due_candidate_is_one :
    {instance : Instance} {history : History} {left right : ℕ} → AreInOrder instance.blocks
    → IsDueCandidate instance history left → IsDueCandidate instance history right → left ≡ right
due_candidate_is_one {left = left} {right = right} order l r =
    elim (l.greatest right r.saved r.candidate) [
      | inl less ↦ elim (r.greatest left l.saved l.candidate) [
        | inl more ↦ absurd (omega (arith, ints))
        | inr same ↦ absurd (omega (arith, ints))
      ]
      | inr first ↦ elim (r.greatest left l.saved l.candidate) [
        | inl more ↦ absurd (omega (arith, ints))
        | inr same ↦ omega arith
      ]
    ]
