use Rattle.std.proofs.Common.{◌≡◌, ℕ, [], ◌∷◌, length, ap, ◌∙◌, arith, List}
use Rattle.std.proofs.lemmas.Result.{IfOk-weaker}
use Rattle.ci_elf.specs.Frames.{frame_of}
use Rattle.ci_gen.specs.Programs.{IsOnlyProgramOf, IsProgramOf}
use Rattle.ci_gen.specs.Texts.{text_of}
use Rattle.ci_gen.proofs.ProgramLaws.{framed_program, length-program, length-words, only_program}
use Rattle.ci_gen.proofs.PushLaws.{words_of_pushed}
use Rattle.ci_gen.proofs.file.program.Goals as goal

pub frame-requires-clause-text : goal.frame-requires-clause-text
frame-requires-clause-text c =
    let words = c.in_ok-text.text.items in
    let count = length-words c.args.seed words (words_of_pushed words (text_of c.args.seed) c.in_ok-text.ensures) in
    omega (arith, ap length c.as_slice.ensures.value)

pub frame-requires-clause-constants : goal.frame-requires-clause-constants
frame-requires-clause-constants c =
    let words = c.in_ok-text.text.items in
    let count = length-words c.args.seed words (words_of_pushed words (text_of c.args.seed) c.in_ok-text.ensures) in
    omega (arith, ap length c.as_slice.ensures.value)

pub returns-clause-bytes : goal.returns-clause-bytes
returns-clause-bytes c =
    let seed = c.args.seed in
    let words = c.in_ok-text.text.items in
    let same = ap (λ (ws : List ℕ). frame_of ws [] (0 ∷ [])) c.as_slice.ensures.value in
    IfOk-weaker c.frame.result (λ bytes. bytes.items ≡ frame_of c.as_slice.result.now [] (0 ∷ [])) (λ bytes. IsProgramOf seed bytes.items)
    (λ bytes is. framed_program seed words bytes.items c.in_ok-text.ensures (is ∙ same)) c.frame.ensures

pub returns-clause-length : goal.returns-clause-length
returns-clause-length c =
    let seed = c.args.seed in
    let words = c.in_ok-text.text.items in
    let same = ap (λ (ws : List ℕ). frame_of ws [] (0 ∷ [])) c.as_slice.ensures.value in
    IfOk-weaker c.frame.result (λ bytes. bytes.items ≡ frame_of c.as_slice.result.now [] (0 ∷ [])) (λ bytes. length bytes.items ≡ 65120)
    (λ bytes is. length-program seed words bytes.items c.in_ok-text.ensures (is ∙ same)) c.frame.ensures

pub returns-clause-only : goal.returns-clause-only
returns-clause-only c =
    let seed = c.args.seed in
    let words = c.in_ok-text.text.items in
    let same = ap (λ (ws : List ℕ). frame_of ws [] (0 ∷ [])) c.as_slice.ensures.value in
    IfOk-weaker c.frame.result (λ bytes. bytes.items ≡ frame_of c.as_slice.result.now [] (0 ∷ [])) (λ bytes. IsOnlyProgramOf seed bytes.items)
    (λ bytes is. only_program seed words bytes.items c.in_ok-text.ensures (is ∙ same)) c.frame.ensures
