-- The end, a token, or a byte that begins none.
use Rattle.std.proofs.Common.{◌∙◌, ap, arith}
use Rattle.std.specs.Prelude.{option_map}
use Rattle.ci_vread.specs.private.Scanning.{scan, kind_and_size}
use Rattle.ci_vread.proofs.ScanSteps.{IsToken, end_from, token_is, stray_is}
use Rattle.ci_vread.proofs.scanning.token_at.Goals as goal

pub returns-then-place-text-clause-symbols : goal.returns-then-place-text-clause-symbols
returns-then-place-text-clause-symbols c = rw c.placed.ensures (end_from c.args.text.now c.args.place (omega arith))

found : (c : goal.After-placed-in-Some) → IsToken c.args.text.now c.args.place c.in-Some.kind c.in-Some.size
found c =
    let there = c.in-Some.ensures ∙ ap (λ t. option_map kind_and_size (scan t)) c.behind.ensures in
    token_is c.args.text.now c.args.place c.in-Some.kind c.in-Some.size (omega arith) c.requires.solid there

pub overflow_add-result : goal.overflow_add-result
overflow_add-result c = omega (arith, (found c).within)

pub returns-in-Some-clause-symbols : goal.returns-in-Some-clause-symbols
returns-in-Some-clause-symbols c = rw (c.placed-in-Some.ensures, (found c).goes_on) (found c).symbols

pub returns-in-Some-clause-more : goal.returns-in-Some-clause-more
returns-in-Some-clause-more c = λ more. omega (arith, (found c).some)

pub returns-in-Some-clause-bound : goal.returns-in-Some-clause-bound
returns-in-Some-clause-bound c = (found c).within

pub returns-in-None-clause-symbols : goal.returns-in-None-clause-symbols
returns-in-None-clause-symbols c =
    let there = c.in-None.ensures ∙ ap (λ t. option_map kind_and_size (scan t)) c.behind.ensures in
    rw c.placed-in-None.ensures (stray_is c.args.text.now c.args.place (omega arith) c.requires.solid there)
