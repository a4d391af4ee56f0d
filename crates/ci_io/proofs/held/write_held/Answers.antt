-- The entry put into the map is the file put under its name.
use Rattle.std.proofs.Common.{◌≡◌, ◌∙◌, ap, string_bytes}
use Rattle.std.specs.FinMap as map
use Rattle.ci_io.specs.Maps.{files_of}
use Rattle.ci_io.proofs.FilesOf.{files_of-updates}
use Rattle.ci_io.proofs.held.write_held.Goals as goal

pub returns-clause-ok : goal.returns-clause-ok
returns-clause-ok c =
    let name_is : string_bytes c.in_ok-key.key ≡ c.args.name.now = c.in_ok-key.ensures.ok in
    let bytes_are : c.in_ok-file.file.items ≡ c.args.bytes.now = c.in_ok-file.ensures.items in
    files_of-updates c.args.files.now c.insert.new.self c.in_ok-key.key c.in_ok-file.file c.in_ok-insert.ensures.updates
    ∙ ap (λ name. map.insert (files_of c.args.files.now) name c.in_ok-file.file.items) name_is
    ∙ ap (map.insert (files_of c.args.files.now) c.args.name.now) bytes_are
