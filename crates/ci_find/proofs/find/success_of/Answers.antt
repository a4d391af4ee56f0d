-- The bytes of the file are small, and so are those of the new file; the choice is made.
use Rattle.std.proofs.Common.{◌∙◌, [], ◌∷◌, subst}
use Rattle.ci_machine.specs.Words.{AreBytes}
use Rattle.ci_find.specs.private.Chosen.{output_of}
use Rattle.ci_find.proofs.find.success_of.Goals as goal

pub returns : goal.returns
returns c =
    let chosen = c.in_ok-chosen.chosen in
    let made = c.in_ok-chosen.ensures in
    let texts = c.in_ok-texts.texts in
    let told = c.in_ok-texts.ensures in
    let success = c.in_ok-success.ensures in
    let output = output_of c.args.output.now in
    record {
      book = chosen.book;
      units = chosen.units;
      saved = chosen.saved;
      logs_text = texts.logs.items;
      report_text = texts.report.items;
      new_bytes = chosen.image.bytes;
      legal = made.book;
      given_up = made.given_up;
      units_are = made.units;
      units_keep = c.as_slice-units.ensures.kept;
      saved_is = made.saved;
      logs_are = told.logs;
      report_is = told.report;
      new_is = made.bytes;
      file_of_bytes = subst AreBytes c.bytes.ensures c.bytes_are_small.ensures;
      new_of_bytes = subst AreBytes c.bytes-2.ensures c.bytes_are_small-2.ensures;
      writes_are =
          success.writes
          ∙ (λ i. (output.units, told.units i) ∷ (output.logs, texts.logs.items) ∷ (output.report, texts.report.items)
          ∷ (output.new, c.new_bytes-new.ensures i) ∷ []);
      text_is = success.text ∙ told.line;
    }
