use Rattle.std.proofs.Common.{◌≡◌, take}
use Rattle.std.specs.String.{string_bytes}
use Rattle.std.specs.List.{flat_map}
use Rattle.ci_commands.specs.BlocksCommand.{block_line}
use Rattle.ci_commands.proofs.blocks.lines_of.Given as goal

abbrev pub invariant-loop-block : goal.invariant-loop-block
invariant-loop-block l = string_bytes l.text ≡ flat_map (block_line l.live) (take l.block-index l.blocks)
