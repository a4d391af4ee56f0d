-- A line that is known holds what would be fetched, and so does one that was fetched.
use Rattle.std.proofs.Common.{Some, ap, sym, ◌∙◌}
use Rattle.ci_machine.specs.States.{state_of}
use Rattle.ci_emu.specs.declared.decode_cache.Decoded.{Decoded}
use Rattle.ci_emu.proofs.decode_cache.DecodeCache.line.Goals as goal

pub returns-then-is_known-clause-fetched : goal.returns-then-is_known-clause-fetched
returns-then-is_known-clause-fetched g c d meaning known =
    (known (state_of c.args.state.now).pc c.args.place d c.requires.place c.requires.within
    (c.is_known.ensures c.if-is_known.true d)).insn

pub returns-clause-fetched : goal.returns-clause-fetched
returns-clause-fetched g c d meaning known =
    c.in_ok-at.ensures.fetched meaning ∙ ap (λ (l : Decoded). Some (meaning.insn l.word)) (sym (c.in_ok-at.ensures.there d))
