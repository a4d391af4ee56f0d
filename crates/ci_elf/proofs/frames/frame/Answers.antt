use Rattle.std.proofs.Common.{◌+◌, ◌*◌, ◌++◌, ◌∙◌, ap, length}
use Rattle.ci_elf.specs.Frames.{words, headers, sections, frame_of}
use Rattle.ci_elf.proofs.frames.frame.Goals as goal

pub returns : goal.returns
unfolding frame_of
returns c =
    c.in_ok-push_sections.ensures
    ∙ ap (λ l. l ++ sections (4 * length c.args.text.now) (4 * length c.args.constants.now) (4 * length c.args.values.now))
    (c.in_ok-push_words-3.ensures
    ∙ ap (λ l. l ++ words c.args.values.now)
    (c.in_ok-push_words-2.ensures
    ∙ ap (λ l. l ++ words c.args.constants.now)
    (c.in_ok-push_words.ensures ∙ ap (λ l. l ++ words c.args.text.now) (c.in_ok-push_headers.ensures
    ∙ ap (λ l. l ++ headers (116 + 4 * length c.args.text.now + 4 * length c.args.constants.now) (4 * length c.args.values.now))
    c.new-bytes.ensures.items))))
