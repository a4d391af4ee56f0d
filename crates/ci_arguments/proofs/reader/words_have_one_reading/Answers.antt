-- Both readings are what `clap`'s matches give.
use Rattle.ci_arguments.proofs.Readings.{one_reading}
use Rattle.ci_arguments.proofs.reader.words_have_one_reading.Goals as goal

pub returns : goal.returns
returns c = one_reading
