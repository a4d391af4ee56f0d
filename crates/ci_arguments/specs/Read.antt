-- For every reader: what a value of `Words` says.
use Rattle.std.specs.Prelude.{map}
use Rattle.ci_arguments.specs.Words.{Value, file, number, word, Reading, settings_in}
use Rattle.ci_arguments.specs.declared.reader.Words.{Words}
use Rattle.ci_arguments.specs.declared.tables.OptionName.{OptionName}
use Rattle.ci_arguments.specs.declared.values.Value.{Value as Held}
use Rattle.ci_arguments.specs.declared.values.Value.TheVariants as held

abbrev pub value_in : Held → Value
value_in (held.File access name) = file access name.now
value_in (held.Number n) = number n
value_in (held.Word n) = word n

abbrev pub setting_in : OptionName × Held → OptionName × Value
setting_in setting = (setting.0, value_in setting.1)

abbrev pub reading_of : Words → Reading
reading_of words = record {
  command = words.command;
  values = map value_in words.values.items;
  settings = settings_in (map setting_in words.settings.items);
}
