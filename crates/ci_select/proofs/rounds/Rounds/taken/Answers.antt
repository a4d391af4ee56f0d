-- What is told of the take that is due.
use Rattle.std.proofs.Common.{◌∙◌, sym, ap, subst, rules, arith}
use Rattle.std.specs.Prelude.{pos, ◌<ℤ◌}
use Rattle.std.specs.FinSet as finite
use mir.Syntax.{w64}
use mir.Val.{SFits}
use Rattle.ci_isa.specs.Table.{IsWordOf}
use Rattle.ci_unit.specs.Operands.{AreOperands}
use Rattle.ci_unit.specs.Uses.{unit_word}
use Rattle.ci_select.proofs.DuePlaces.{some_candidate}
use Rattle.ci_select.proofs.TakenLaws.{CanBeTaken, cast_fits, cast_is, first_can_be_taken, first_is_told}
use Rattle.ci_select.proofs.rounds.Rounds.taken.Goals as goal
use Rattle.ci_select.proofs.rounds.Rounds.taken.Goals.{After-deref}

pub unreachable-requires : goal.unreachable-requires
unreachable-requires c = some_candidate c.requires.2 c.requires.3 c.in_default.ensures

pub index-requires : goal.index-requires
index-requires c =
    let held = c.requires.2.ranked c.in-Some.rank.now c.in-Some.candidate.now c.in-Some.ensures.there in
    omega (arith, held.within, c.requires.2.many, c.args.self.now.present.ok.0)

-- the first candidate can be taken
can : (c : After-deref) → CanBeTaken c.index.result.now.items c.in-Some.candidate.now.graph c.in-Some.candidate.now.cut c.args.unit
can c = first_can_be_taken c.requires.2 c.in-Some.ensures c.requires.3 c.index.result.now c.index.ensures

pub encode_use-used-requires-clause-operands : goal.encode_use-used-requires-clause-operands
encode_use-used-requires-clause-operands c =
    subst (λ i. AreOperands i c.in-Some.candidate.now.graph) (sym c.deref.ensures.value)
    (can (goal.at.encode_use-used-requires-clause-operands c).After-deref).operands

pub encode_use-used-requires-clause-registers : goal.encode_use-used-requires-clause-registers
encode_use-used-requires-clause-registers c =
    (can (goal.at.encode_use-used-requires-clause-registers c).After-deref).registers

pub encode_use-used-requires-clause-fits : goal.encode_use-used-requires-clause-fits
encode_use-used-requires-clause-fits c = (can (goal.at.encode_use-used-requires-clause-fits c).After-deref).fits

pub encode_use-used-requires-clause-number : goal.encode_use-used-requires-clause-number
encode_use-used-requires-clause-number c = (can (goal.at.encode_use-used-requires-clause-number c).After-deref).small

pub gain-requires : goal.gain-requires
gain-requires c = (can (goal.at.gain-requires c).After-deref).nodes

pub overflow_cast-result : goal.overflow_cast-result
overflow_cast-result c =
    cast_fits c.gain.result (search rules)
    (subst (λ z. pos 0 <ℤ z) (sym c.gain.ensures) (can (goal.at.overflow_cast-result c).After-deref).positive)

pub returns : goal.returns
returns c = λ history leader follows is.
    let candidate = c.in-Some.candidate.now in
    let cut = finite.contains candidate.cut in
    let fits : SFits w64 c.gain.result = search rules in
    let positive = subst (λ z. pos 0 <ℤ z) (sym c.gain.ensures) (can (goal.at.returns c).After-deref).positive in
    first_is_told follows c.in-Some.ensures is c.index.result.now c.index.ensures _ c.entries.result c.encode.result
    (cast_is c.gain.result fits positive ∙ c.gain.ensures) c.entries.ensures
    (subst (IsWordOf c.encode.result)
    (c.encode_use-used.ensures.unit ∙ ap (λ insns. unit_word insns candidate.graph cut c.args.unit) c.deref.ensures.value)
    c.encode.ensures.reads_back)
