use Rattle.std.proofs.Common.{◌≡◌, ◌++◌, take}
use Rattle.std.specs.String.{string_bytes}
use Rattle.ci_emu.specs.Profiles.{entries_in}
use Rattle.ci_report.specs.Reports.{block_lines}
use Rattle.ci_report.proofs.reporting.push_blocks.Given as goal

abbrev pub invariant-loop-block : goal.invariant-loop-block
invariant-loop-block l =
    string_bytes l.text ≡ string_bytes l.initial.text ++ block_lines (entries_in l.profile) (take l.block-index l.blocks)
