use Rattle.std.proofs.Common.{◌*◌, [], pos, ◌-ℤ◌, refl, sym, ap, ◌∙◌, arith}
use Rattle.ci_cut.specs.Gain.{software}
use Rattle.ci_cut.specs.Ports.{size}
use Rattle.ci_cut.proofs.Represented.{software-few, size-few}
use Rattle.ci_pair.proofs.Numbers.{undecided_none, pads_cast, start_fits, start_is}
use Rattle.ci_pair.proofs.terms.PairTerms.none.Goals as goal

pub overflow_cast-result : goal.overflow_cast-result
overflow_cast-result c =
    let represents = c.none-first.ensures [] in
    pads_cast c.none-first.result.software c.from.result c.from-2.result
    (software-few c.args.graph.now [] c.none-first.result [] represents)
    (omega (arith, c.from.ensures, size-few c.args.graph.now [] c.none-first.result [] represents)) (omega (arith, c.from-2.ensures))

pub overflow_sub-result : goal.overflow_sub-result
overflow_sub-result c =
    let represents = c.none-first.ensures [] in
    start_fits c.none-first.result.software c.from.result c.from-2.result
    (software-few c.args.graph.now [] c.none-first.result [] represents)
    (omega (arith, c.from.ensures, size-few c.args.graph.now [] c.none-first.result [] represents)) (omega (arith, c.from-2.ensures))
    c.from-3.result c.from-3.ensures

pub returns : goal.returns
returns c delays =
    let graph = c.args.graph.now in
    let represents = c.none-first.ensures [] in
    let none = undecided_none graph in
    record {
      first = c.none-first.ensures delays.first;
      second = c.none-first.ensures delays.second;
      same_place = refl;
      shared_is = start_is c.none-first.result.software c.from.result c.from-2.result
          (software-few graph [] c.none-first.result [] represents)
          (omega (arith, c.from.ensures, size-few graph [] c.none-first.result [] represents)) (omega (arith, c.from-2.ensures))
          c.from-3.result c.from-3.ensures
          ∙ (λ i. pos ((represents.software_is ∙ ap (software graph) (sym none)) i)
          -ℤ pos ((c.from.ensures ∙ represents.size_is ∙ ap (size graph) (sym none)) i * (c.from-2.ensures ∙ c.pad.ensures) i));
    }
