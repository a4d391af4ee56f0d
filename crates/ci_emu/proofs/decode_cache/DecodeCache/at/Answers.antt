-- A line that was fetched is known behind that.
use Rattle.std.proofs.Common.{◌≡◌, ◌<◌, ℕ, Some, ap, sym, subst, ◌∙◌, get_or, length}
use Rattle.std.specs.Prelude.{if◌then◌else◌}
use Rattle.std.proofs.lemmas.List.{get_or-set_same}
use Rattle.ci_isa.specs.declared.instruction.Insn.{Insn}
use Rattle.ci_machine.specs.States.{program_of, state_of}
use Rattle.ci_machine.specs.Steps.{word_at}
use Rattle.ci_emu.specs.private.Lines.{AreKept, AreKnown}
use Rattle.ci_emu.specs.private.Fetched.{cycles_on}
use Rattle.ci_emu.proofs.KnownLines.{here_fetched, set_kept, set_known}
use Rattle.ci_emu.proofs.decode_cache.DecodeCache.at.Given.{Over}
use Rattle.ci_emu.proofs.decode_cache.DecodeCache.at.Goals as goal
use Rattle.ci_emu.proofs.decode_cache.DecodeCache.at.Goals.{After-get}

there : (g : Over) (c : After-get g) → word_at (state_of c.args.state.now).core.memory (state_of c.args.state.now).pc ≡ Some c.get.result.word
there g c = sym c.fetch_word.ensures ∙ c.in_ok-word.was ∙ ap Some (sym c.get.ensures.word)

seen : (g : Over) (c : After-get g) → c.args.place < length c.args.self.now.words.items
    → c.get.result.seen ≡ (if c.args.aligned then c.args.changes else 0)
seen g c below = c.get.ensures.seen below ∙ c.seen_at.ensures

pub returns-clause-fetched : goal.returns-clause-fetched
returns-clause-fetched g c meaning =
    here_fetched meaning (program_of c.args.state.now) (state_of c.args.state.now) c.requires.small c.args.place c.requires.place c.get.result
    (there g (goal.at.returns-clause-fetched g c).After-get)

pub returns-clause-kept : goal.returns-clause-kept
returns-clause-kept g c =
    let cycles : ℕ → Insn → ℕ = cycles_on (g.M.Machine.has_unit c.args.machine.now) (g.M.Machine.has_hidden c.args.machine.now)
    (g.M.Machine.unit_cycles c.args.machine.now) c.args.table.now in
    subst (AreKept cycles c.args.changes) (sym c.get.ensures.words)
    (set_kept cycles c.args.self.now.words.items c.args.changes c.args.place c.get.result c.args.aligned c.get.ensures.timed
    (seen g (goal.at.returns-clause-kept g c).After-get) c.requires.kept)

pub returns-clause-known : goal.returns-clause-known
returns-clause-known g c meaning known =
    let program = program_of c.args.state.now in
    let state = state_of c.args.state.now in
    subst (AreKnown meaning program state.core.memory c.args.changes) (sym c.get.ensures.words)
    (set_known meaning program state c.requires.small c.args.place c.requires.place c.get.result (there g (goal.at.returns-clause-known g c).After-get)
    c.args.self.now.words.items c.args.changes c.requires.begun c.args.aligned c.requires.aligned
    (seen g (goal.at.returns-clause-known g c).After-get) known)

pub returns-clause-there : goal.returns-clause-there
returns-clause-there g c d =
    ap (λ items. get_or items c.args.place d) c.get.ensures.words
    ∙ get_or-set_same c.args.self.now.words.items c.args.place c.get.result d c.requires.within
