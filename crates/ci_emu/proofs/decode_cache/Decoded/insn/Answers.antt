use Rattle.ci_emu.proofs.decode_cache.Decoded.insn.Goals as goal

pub returns : goal.returns
returns c = c.args.self.now.decoded c.reading.result c.reading.ensures
