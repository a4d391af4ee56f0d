use Rattle.std.proofs.Common.{◌≡◌, ◌+◌, take, subst, arith}
use Rattle.std.proofs.lemmas.Bool.Decides.{not_from_Decides}
use Rattle.ci_elf.specs.private.Parts.{AreApart}
use Rattle.ci_elf.proofs.PartLaws.{front_whole}
use Rattle.ci_elf.proofs.parts.disjoint_front.Goals as goal

pub loop-low-init : goal.loop-low-init
loop-low-init c = front_whole c.args.parts.now c.requires

pub loop-low-preserved : goal.loop-low-preserved
loop-low-preserved c = record {
  order = omega arith;
  within = omega arith;
  apart = c.loop-low.invariant.apart;
  meets = λ apart. not_from_Decides _ c.in_ok-is_disjoint.ensures c.if-branch.false apart;
}

pub loop-low-smaller : goal.loop-low-smaller
loop-low-smaller c = omega arith

pub returns-clause-next : goal.returns-clause-next
returns-clause-next c =
    let last : c.loop-low.high ≡ c.loop-low.low + 1 = omega arith in
    subst (λ n. ¬ (AreApart (take n c.args.parts.now))) last c.loop-low.invariant.meets
