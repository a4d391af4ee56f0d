use Rattle.std.proofs.Common.{◌≤◌, ◌<◌, ◌≡◌, ℕ, List, length, take, get_or, subst, ap, arith, rules}
use Rattle.std.specs.List.{All}
use Rattle.std.proofs.lemmas.List.{get_or-take, length-take}
use Rattle.ci_lat.specs.Latencies.{place}
use Rattle.ci_lat.proofs.table.Table.latency.Goals as goal

-- what holds of each of the first elements holds at their places
at_front : (P : ℕ → Type 0) (n : ℕ) (xs : List ℕ) (k : ℕ) → All P (take n xs) → k < n → k < length xs → P (get_or xs k 0)
at_front P n xs k front below there = subst P (get_or-take n xs k 0 below) (front k 0 (simp length-take (omega arith)))

pub returns-clause-pad : goal.returns-clause-pad
returns-clause-pad c below =
    let value : c.unwrap_or.result ≡ get_or c.self.inside.software (place c.args.class) 0 = search rules in
    let pad : c.self.inside.pad ≡ c.args.self.now.pad = ap (λ t. t.pad) c.self.view_is in
    let minimum : c.self.inside.pad ≤ get_or c.self.inside.software (place c.args.class) 0 =
    at_front (λ n. c.self.inside.pad ≤ n) 8 c.self.inside.software
    (place c.args.class) c.self.invariant.pad_below_latency below (omega (arith, c.self.told.0)) in
    rw (value, ← pad) minimum
