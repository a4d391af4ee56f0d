use Rattle.std.proofs.Common.{IsTrue, sym, subst, ◌∙◌, rules}
use Rattle.ci_verilog.specs.Modules.{known_by, IsNew, IsExpr, IsFree}
use Rattle.ci_verilog.proofs.WidthLaws.{some_is_one}
use Rattle.ci_verilog.proofs.wires.Wires.allows.Goals as goal

pub returns-in-Some : goal.returns-in-Some
returns-in-Some c =
    let known = known_by c.args.self.now in
    let wire = c.args.wire.now in
    let tested : IsTrue c.is_new.result = search rules in
    let new : IsNew known wire.name = c.is_new.ensures.0 tested in
    let is_free : IsFree c.args.self.now.wide wire.name = search rules in (
      (λ is.
          let fits = c.is_declared.ensures.0 is in (
            record {
              is_new = new;
              least = fits.0;
              most = fits.1;
              value = subst (IsExpr known wire.value) (sym fits.2) ((c.expr_width.ensures c.in-Some.width).0 c.in-Some.is);
            },
            is_free,
          )),
      (λ is.
          c.is_declared.ensures.1
          (is.0.least, is.0.most, some_is_one wire.width c.in-Some.width (sym ((c.expr_width.ensures wire.width).1 is.0.value) ∙ c.in-Some.is))),
    )
