use Rattle.std.proofs.Common.{arith, ◌≡◌, ◌++◌, [], ◌∷◌}
use Rattle.std.proofs.lemmas.Grind.{common_steps}
use Rattle.ci_isa.proofs.WellFormed.{well_formed}
use Rattle.ci_gen.proofs.PushLaws.{one_pushed}
use Rattle.ci_gen.proofs.text.push.Goals as goal

pub encode-requires : goal.encode-requires
encode-requires c = well_formed c.args.insn.now c.requires

pub returns : goal.returns
returns c =
    let items : c.push.new.self.items ≡ c.args.text.now.items ++ c.encode.result ∷ [] = grind (arith, common_steps) in
    rw items (one_pushed c.args.text.now.items c.encode.result c.args.insn.now
    (record { stands = c.encode.ensures.reads_back; only = c.encode.ensures.only }))
