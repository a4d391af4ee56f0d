use Rattle.std.proofs.Common.{ℕ, List, [], ◌∷◌, arith, below_more}
use Rattle.ci_elf.specs.Fields.{e_phnum}
use Rattle.ci_elf.specs.Rules.{Rule, NamesNoInterpreter, HasFilePart, IsPlaced, Holds, segment_rules}
use Rattle.ci_reading.proofs.BrokenLaws.{kept_each}
use Rattle.ci_elf.proofs.CheckLaws.{handed_on, fault_each}
use Rattle.ci_elf.proofs.segments.check_segments.Goals as goal

abbrev rules_of : ℕ → List Rule
rules_of n = NamesNoInterpreter n ∷ HasFilePart n ∷ IsPlaced n ∷ []

pub returns-in_err-check_segment : goal.returns-in_err-check_segment
returns-in_err-check_segment c =
    handed_on c.args.bytes.now (segment_rules c.args.bytes.now) _ _ c.from_residual.ensures.1
    (fault_each c.args.bytes.now (e_phnum c.args.bytes.now) c.loop-n.n rules_of _ (omega arith) c.loop-n.invariant c.in_err-check_segment.ensures)

pub loop-n-preserved : goal.loop-n-preserved
loop-n-preserved c = below_more _ _ c.loop-n.invariant c.in_ok-check_segment.ensures

pub returns : goal.returns
returns c = kept_each (Holds c.args.bytes.now) (e_phnum c.args.bytes.now) rules_of (λ k h. c.loop-n.invariant k (omega arith))
