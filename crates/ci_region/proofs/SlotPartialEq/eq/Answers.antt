use Rattle.std.proofs.Common.{◌≡◌, ℕ, List, nat_eq, sym, ◌∙◌}
use Rattle.std.specs.Int.{w32, to_le_bytes}
use Rattle.std.specs.Cmp.Lexicographic.{pointwise}
use Rattle.std.proofs.lemmas.Nat.{le_bytes_4}
use Rattle.ci_region.proofs.SlotPartialEq.eq.Goals as goal

pub returns : goal.returns
returns c =
    let left : c.t1-1.inside.bytes ≡ to_le_bytes w32 c.args.self.now =
    sym (le_bytes_4 _ _ c.t1-1.invariant.0 c.t1-1.invariant.1 (sym c.t1-1.view_is)) in
    let right : c.t2-1.inside.bytes ≡ to_le_bytes w32 c.args.other.now =
    sym (le_bytes_4 _ _ c.t2-1.invariant.0 c.t2-1.invariant.1 (sym c.t2-1.view_is)) in
    c.eq.ensures ∙ (λ i. pointwise nat_eq (left i) (right i))
