use Rattle.std.proofs.Common.{◌≡◌, ◌<◌, ◌^◌, ap, ◌∙◌, arith}
use Rattle.std.specs.Prelude.{All}
use Rattle.std.proofs.lemmas.Grind.{common_steps}
use Rattle.std.proofs.lemmas.List.Elements.{All-from_get_or}
use Rattle.ci_reading.specs.Bytes.{bytes_of_words, words_of_bytes}
use Rattle.ci_reading.proofs.ByteLaws.{words_of_bytes-bytes_of_words}
use Rattle.ci_reading.proofs.bytes.bytes_of_words.Goals as goal

pub returns-clause-words : goal.returns-clause-words
returns-clause-words c =
    let words = c.args.words.now in
    let made : c.loop-word.bytes.items ≡ bytes_of_words words = grind (arith, common_steps) in
    let small : All (λ word. word < 2 ^ 32) words = All-from_get_or (λ word. word < 2 ^ 32) words 0 (λ k _. omega (arith, c.type_inv.words k)) in
    ap words_of_bytes made ∙ words_of_bytes-bytes_of_words words small
