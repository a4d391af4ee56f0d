use Rattle.std.proofs.Common.{◌≡◌, ◌<◌, ◌-◌, ◌*◌, ◌/◌, ◌%◌, ◌^◌, arith}
use Rattle.std.proofs.lemmas.Grind.{common_steps}
use Rattle.ci_reading.specs.Hex.{hex_digit}
use Rattle.ci_reading.proofs.HexLaws.{digits_more, glyph_small}
use Rattle.ci_reading.proofs.hex.push_hex.Goals as goal

pub loop-place-preserved : goal.loop-place-preserved
loop-place-preserved c =
    let digit = c.args.word / 2 ^ (4 * (c.loop-place.place - 1)) % 16 in
    let glyph : c.unwrap.result ≡ hex_digit digit = grind (arith, common_steps, c.from_digit.ensures.value) in
    let small : c.unwrap.result < 128 = omega (arith, glyph, glyph_small digit (omega arith)) in
    grind (arith, common_steps, digits_more c.args.word (c.loop-place.place - 1), c.push.ensures.ascii small, c.in_ok-push.ensures.bytes)
