use Rattle.std.proofs.Common.{◌≡◌, string_bytes}
use Rattle.std.specs.List.{list_all}
use Rattle.toml.specs.View.{table_view}
use Rattle.ci_lat.specs.Faults.{is_word_of, has_only}
use Rattle.ci_lat.proofs.document.has_only.Given as goal

abbrev pub invariant-loop-word : goal.invariant-loop-word
invariant-loop-word l =
    has_only l.keys (table_view l.table) ≡ list_all (λ w. is_word_of l.keys (string_bytes w)) l.word-iterator
