use Rattle.std.proofs.Common.{ℕ, Bool, arith, lit<, lit≤}
use Rattle.ci_netlist.specs.declared.bits.Bit.TheVariants.{Zero}
use Rattle.ci_netlist.specs.Netlists.{bit_value}
use Rattle.ci_netlist.proofs.SettledLaws.{no_bits, bit_below, word_fits}
use Rattle.ci_netlist.proofs.values.word.Goals as goal

pub loop-k-init : goal.loop-k-init
loop-k-init c = record {
  within = lit≤ tt;
  few = lit< tt;
  spells = λ gives holds. no_bits (bit_value c.args.arguments gives) c.args.bits.now 32 c.requires.width;
}

pub loop-k-preserved : goal.loop-k-preserved
loop-k-preserved c =
    let before = c.loop-k.invariant in
    let width = c.requires.width in
    let word = c.loop-k.word in
    let holds_bit = λ (gives : ℕ → Bool). bit_value c.args.arguments gives in record {
      within = omega (arith, before.within);
      few =
          word_fits c.loop-k.k word c.from.result c.bit_value.result
          (omega arith) before.within before.few c.from.ensures;
      spells = λ gives holds.
          bit_below (holds_bit gives) c.args.bits.now c.loop-k.k word c.from.result Zero c.bit_value.result
          (omega arith) (omega (arith, before.within, width)) (before.spells gives holds)
          (c.bit_value.ensures gives holds)
          c.from.ensures;
    }
