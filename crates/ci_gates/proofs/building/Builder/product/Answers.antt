use Rattle.std.proofs.Common.{◌≡◌, suc, ◌∷◌, ◌+◌, ◌-◌, ◌*◌, ◌∙◌, sym, ap, subst, length, take, arith}
use Rattle.std.specs.List.{slice_index_or}
use Rattle.std.proofs.lemmas.List.{length-take-le}
use Rattle.ci_netlist.specs.declared.bits.Bit.TheVariants.{Zero}
use Rattle.ci_netlist.specs.Netlists.{AreBits, digit, spelt}
use Rattle.ci_gates.specs.private.Growing.{MakesWord, Always}
use Rattle.ci_netlist.proofs.NumberLaws.{rows_fit}
use Rattle.ci_gates.proofs.BitLaws.{doubled_bits, grown_bit, grown_bits, taken_bits}
use Rattle.ci_gates.proofs.ProductLaws.{IsProduct, product_none, product_more, product_whole}
use Rattle.ci_gates.proofs.building.Builder.product.Goals as goal

pub loop-k-init : goal.loop-k-init
loop-k-init c =
    let gates = c.args.self.now in
    subst (λ bits. IsProduct gates gates c.args.left.now c.args.right.now bits 0) (sym c.new-product.ensures.items)
    (product_none gates c.args.left.now c.args.right.now)

pub row-requires-clause-room : goal.row-requires-clause-room
row-requires-clause-room c =
    let k = c.loop-k.k in
    let e : length (take (k + 1) c.args.left.now) ≡ k + 1 = length-take-le (k + 1) c.args.left.now (omega arith) in
    omega (arith, e, rows_fit k (length c.args.left.now) c.loop-k-test.true, c.loop-k.invariant.makes.grows.count_is, c.requires.room)

pub row-requires-clause-are_bits : goal.row-requires-clause-are_bits
row-requires-clause-are_bits c =
    let k = c.loop-k.k in
    grown_bits c.args.self.now c.loop-k.self (3 * k * (k + 1)) (take (k + 1) c.args.left.now) c.loop-k.invariant.makes.grows
    (taken_bits (length c.args.self.now) (k + 1) c.args.left.now (omega arith) c.requires.left_are)

pub row-requires-clause-bit_is : goal.row-requires-clause-bit_is
row-requires-clause-bit_is c =
    let k = c.loop-k.k in
    let i = length c.args.left.now - 1 - k in
    grown_bit c.args.self.now c.loop-k.self (3 * k * (k + 1)) (slice_index_or c.args.right.now i Zero) c.loop-k.invariant.makes.grows
    (c.requires.right_are.each i (omega arith) Zero)

pub sum-requires : goal.sum-requires
sum-requires c =
    let k = c.loop-k.k in
    let left = c.args.left.now in
    let row = c.in_ok-row.row.items in
    let product = c.loop-k.product.items in
    let row_here : c.deref-in-loop-k.result.now ≡ row = c.deref-in-loop-k.ensures.value in
    let twice_here : c.deref-in-loop-k-2.result.now ≡ Zero ∷ product =
    c.deref-in-loop-k-2.ensures.value ∙ c.in_ok-twice.ensures ∙ ap (λ l. Zero ∷ l) c.deref.ensures.value in
    let taken : length (take (k + 1) left) ≡ k + 1 = length-take-le (k + 1) left (omega arith) in
    let row_wide : length c.deref-in-loop-k.result.now ≡ k + 1 = ap length row_here ∙ c.in_ok-row.ensures.makes.width_is ∙ taken in
    let twice_wide : length c.deref-in-loop-k-2.result.now ≡ suc (length product) = ap length twice_here in
    let grown : length c.row.new.self ≡ length c.loop-k.self + length (take (k + 1) left) = c.in_ok-row.ensures.makes.grows.count_is in
    let before : length c.loop-k.self ≡ length c.args.self.now + 3 * k * (k + 1) = c.loop-k.invariant.makes.grows.count_is in
    let fits = rows_fit k (length left) c.loop-k-test.true in
    record {
      same_width = omega (arith, row_wide, twice_wide, c.loop-k.invariant.makes.width_is);
      room = omega (arith, row_wide, grown, before, taken, fits, c.requires.room);
      left_are = subst (AreBits (length c.row.new.self)) (sym row_here) c.in_ok-row.ensures.makes.are_bits;
      right_are =
          doubled_bits (length c.row.new.self) product c.deref-in-loop-k-2.result.now twice_here
          (grown_bits c.loop-k.self c.row.new.self (length (take (k + 1) left)) product c.in_ok-row.ensures.makes.grows
          c.loop-k.invariant.makes.are_bits);
      carry_is = record { names = tt };
    }

pub loop-k-preserved : goal.loop-k-preserved
loop-k-preserved c =
    let k = c.loop-k.k in
    let left = c.args.left.now in
    let right = c.args.right.now in
    let product = c.loop-k.product.items in
    let row = c.deref-in-loop-k.result.now in
    let n = length (take (k + 1) left) in
    let b = slice_index_or right (length left - 1 - k) Zero in
    let row_here : row ≡ c.in_ok-row.row.items = c.deref-in-loop-k.ensures.value in
    let twice_here : c.deref-in-loop-k-2.result.now ≡ Zero ∷ product =
    c.deref-in-loop-k-2.ensures.value ∙ c.in_ok-twice.ensures ∙ ap (λ l. Zero ∷ l) c.deref.ensures.value in
    product_more c.args.self.now c.loop-k.self c.row.new.self c.sum.new.self left right product row
    c.deref-in-loop-k-2.result.now c.in_ok-sum.sum.bits.items c.in_ok-sum.sum.carry k c.loop-k.invariant c.loop-k-test.true
    c.requires.same_width
    (subst (MakesWord c.loop-k.self c.row.new.self n n) (sym row_here) c.in_ok-row.ensures.makes)
    (subst (λ l. Always c.row.new.self (λ holds. spelt holds l ≡ digit (holds b) * spelt holds (take (k + 1) left))) (sym row_here)
    c.in_ok-row.ensures.value)
    twice_here c.in_ok-sum.ensures.makes c.in_ok-sum.ensures.value

pub returns-clause-makes : goal.returns-clause-makes
returns-clause-makes c =
    (product_whole c.args.self.now c.loop-k.self c.args.left.now c.args.right.now c.loop-k.product.items c.loop-k.k
    c.loop-k.invariant (omega arith)).0

pub returns-clause-value : goal.returns-clause-value
returns-clause-value c =
    (product_whole c.args.self.now c.loop-k.self c.args.left.now c.args.right.now c.loop-k.product.items c.loop-k.k
    c.loop-k.invariant (omega arith)).1
