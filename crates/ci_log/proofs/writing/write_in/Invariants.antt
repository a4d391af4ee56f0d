use Rattle.std.proofs.Common.{◌≡◌, ◌++◌, take}
use Rattle.std.specs.List.{flat_map}
use Rattle.ci_log.specs.Books.{entry_text, first_line}
use Rattle.ci_log.proofs.writing.write_in.Given as goal

abbrev pub invariant-loop-entry : goal.invariant-loop-entry
invariant-loop-entry l = l.text.items ≡ first_line l.version ++ flat_map (entry_text l.version) (take l.entry-index l.book.entries)
