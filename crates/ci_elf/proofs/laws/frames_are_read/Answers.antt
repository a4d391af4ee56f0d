use Rattle.ci_elf.proofs.FrameImageLaws as laws
use Rattle.ci_elf.proofs.laws.frames_are_read.Goals as goal

pub returns-clause-image : goal.returns-clause-image
returns-clause-image c = laws.frames_are_read

pub returns-clause-rules : goal.returns-clause-rules
returns-clause-rules c = laws.frames_keep_rules
