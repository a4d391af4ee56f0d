use Rattle.ci_elf.proofs.OneAnswer.{answer_is_one}
use Rattle.ci_elf.proofs.OneImage.{image_is_one}
use Rattle.ci_elf.proofs.TextPlaceLaws.{formed}
use Rattle.ci_elf.proofs.laws.image_is_determined.Goals as goal

pub returns-clause-image : goal.returns-clause-image
returns-clause-image c = image_is_one

pub returns-clause-answer : goal.returns-clause-answer
returns-clause-answer c = answer_is_one

pub returns-clause-formed : goal.returns-clause-formed
returns-clause-formed c = λ bytes file read. formed bytes read.0 file read.1
