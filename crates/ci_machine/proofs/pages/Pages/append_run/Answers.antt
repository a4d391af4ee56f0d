use Rattle.std.proofs.Common.{◌+◌, ◌/◌, ◌++◌, ◌∙◌, length, ap, refl, arith}
use Rattle.ci_machine.specs.Pages.{content, has}
use Rattle.ci_machine.proofs.ByteLaws.{length-run_of, zeros_run}
use Rattle.ci_machine.proofs.PageLaws.{content_none}
use Rattle.ci_machine.proofs.pages.Pages.append_run.Goals as goal

pub append_reserved-requires : goal.append_reserved-requires
append_reserved-requires c =
    let long = ap length c.run.ensures ∙ length-run_of (content c.args.self.now) c.args.count c.args.address in
    omega (arith, c.requires.room, long)

pub returns-in-None-clause-items : goal.returns-in-None-clause-items
returns-in-None-clause-items c =
    let old = c.args.self.now in
    c.append_zeros.ensures.items
    ∙ ap (λ row. c.args.output.now.items ++ row)
    (zeros_run (content old) c.args.count c.args.address
    (λ k lt. content_none old (c.args.address + k)
    (ap (has old) {x = (c.args.address + k) / 4096} {y = c.args.address / 4096} (omega (arith, c.requires.inside)) ∙ c.in-None.ensures.none refl)))
