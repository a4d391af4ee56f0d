use Rattle.std.proofs.Common.{◌++◌, sym, ap, ◌∙◌, append_assoc, codes}
use Rattle.std.proofs.lemmas.Result.{on_ok_weaker}
use Rattle.std.specs.String.{string_bytes}
use Rattle.ci_reading.specs.Hex.{eight_hex_digits}
use Rattle.ci_asm.specs.Shown.{shown}
use Rattle.ci_asm.proofs.disassembler.push_line.Goals as goal

pub returns-in_ok-push_mnemonic-in-Illegal : goal.returns-in_ok-push_mnemonic-in-Illegal
returns-in_ok-push_mnemonic-in-Illegal c =
    let old = string_bytes c.args.text.now in
    let digits = codes "0x" ++ eight_hex_digits c.in-Illegal.word in
    on_ok_weaker c.push_word.result
    (λ e. e ∙ (ap (λ t. t ++ digits) c.in_ok-push_mnemonic-in-Illegal.ensures ∙ (append_assoc old (codes ".word ") digits
    ∙ ap (λ i. old ++ shown i) (sym c.in-Illegal.is))))
    c.push_word.ensures
