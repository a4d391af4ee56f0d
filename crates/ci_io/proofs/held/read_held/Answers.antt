-- What the map has at the name is what its files have there.
use Rattle.std.proofs.Common.{◌≡◌, ◌<◌, ◌∙◌, Some, sym, ap, subst, length, arith}
use Rattle.std.specs.Option.{IsSomeAnd}
use Rattle.ci_io.proofs.FilesOf.{get-files_of-absent, get-files_of-found}
use Rattle.ci_io.proofs.held.read_held.Goals as goal

pub returns-in_default-clause-of_the_file : goal.returns-in_default-clause-of_the_file
returns-in_default-clause-of_the_file c = get-files_of-absent c.args.files.now c.args.name.now (sym c.in_default.ensures.value)

pub returns-then-len-limit-clause-of_the_file : goal.returns-then-len-limit-clause-of_the_file
returns-then-len-limit-clause-of_the_file c =
    let found = get-files_of-found c.args.files.now c.args.name.now c.in-Some.file.now (sym c.in-Some.ensures.value) in
    let length_is = c.in-Some.file.now.ok.0 in
    let longer : c.args.limit < length c.in-Some.file.now.items = omega arith in
    subst (λ o. IsSomeAnd o (λ bytes. c.args.limit < length bytes)) (sym found) longer

pub returns-clause-of_the_file : goal.returns-clause-of_the_file
returns-clause-of_the_file c =
    let found = get-files_of-found c.args.files.now c.args.name.now c.in-Some.file.now (sym c.in-Some.ensures.value) in
    let copied : c.in-Ok.bytes.items ≡ c.in-Some.file.now.items = c.in-Ok.ensures.items ∙ c.as_slice.ensures.value in
    let length_is = c.in-Some.file.now.ok.0 in
    let same_length = ap length copied in
    (found ∙ ap Some (sym copied), omega arith)
