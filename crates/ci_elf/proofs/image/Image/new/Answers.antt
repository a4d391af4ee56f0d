use Rattle.ci_elf.proofs.image.Image.new.Goals as goal

pub invariant_of-result : goal.invariant_of-result
invariant_of-result c =
    record { well_formed = c.requires.well_formed; order = c.requires.order; same = c.requires.same }
