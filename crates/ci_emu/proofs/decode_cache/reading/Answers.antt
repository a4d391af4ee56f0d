use Rattle.std.proofs.Common.{sym, subst}
use Rattle.ci_isa.specs.Laws.{IsInsnAtX}
use Rattle.ci_emu.proofs.Fetching.{read_stands}
use Rattle.ci_emu.proofs.decode_cache.reading.Goals as goal

pub returns : goal.returns
returns c =
    subst (IsInsnAtX c.args.word) (sym c.unwrap_or.ensures)
    (read_stands c.args.word c.decode_x.result c.decode_x.ensures.found c.decode_x.ensures.none)
