use Rattle.std.proofs.Common.{◌≡◌, ◌+◌, take, get_or, refl, subst, arith}
use Rattle.std.proofs.lemmas.List.{take_all}
use Rattle.std.specs.List.{Contains}
use Rattle.ci_block.specs.private.Marks.{Adds}
use Rattle.ci_block.proofs.MarkLaws.{added_both, contained_more, contained_before}
use Rattle.ci_block.proofs.marks.Marks.mark_all.Goals as goal

pub loop-address-preserved : goal.loop-address-preserved
loop-address-preserved c =
    let xs = c.args.addresses.now in
    let i = c.loop-address.address-index in
    let x = get_or xs i 0 in
    added_both c.args.self.now c.loop-address.self c.mark.new.self (λ a. Contains (take i xs) a) (λ a. x ≡ a) (λ a. Contains (take (i + 1) xs) a)
    c.loop-address.invariant c.mark.ensures (contained_more xs i x (omega arith) refl) (contained_before xs i x (omega arith) refl)

pub returns : goal.returns
returns c =
    let all : take c.loop-address.address-index c.args.addresses.now ≡ c.args.addresses.now =
    take_all c.loop-address.address-index c.args.addresses.now (omega arith) in
    subst (λ xs. Adds c.args.self.now c.loop-address.self (λ a. Contains xs a)) all c.loop-address.invariant
