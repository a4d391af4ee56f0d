-- The pc has a place where it is a word of the text.
use Rattle.std.proofs.Common.{arith, ◌≡◌, ◌<◌, ◌^◌, ℕ, None, Some, subst}
use Rattle.ci_machine.specs.States.{program_of, state_of}
use Rattle.ci_elf.specs.Executables.{IsTextWord}
use Rattle.ci_elf.specs.WordPlaces.{word_place}
use Rattle.ci_elf.proofs.WordPlaceLaws.{text_word}
use Rattle.ci_emu.proofs.CountLaws.{place_at, entered, not_entered, count_here}
use Rattle.ci_emu.proofs.Fetching.{nothing_fetched}
use Rattle.ci_emu.proofs.tally.enter.Goals as goal
use Rattle.ci_emu.proofs.tally.enter.Goals.{In-Some, In-None}
use Rattle.ci_emu.proofs.tally.enter.Given.{Over}

here : (g : Over) (c : In-Some g) → word_place (program_of c.args.state.now).text (state_of c.args.state.now).pc ≡ Some c.in-Some.place
here g c = place_at (program_of c.args.state.now) c.args.counts.now c.requires.text _ _ _ c.pc.ensures c.in-Some.ensures.value

word : (g : Over) (c : In-Some g) → IsTextWord (program_of c.args.state.now).text (state_of c.args.state.now).pc
word g c = text_word _ _ _ (here g c)

nowhere : (g : Over) (c : In-None g) → word_place (program_of c.args.state.now).text (state_of c.args.state.now).pc ≡ None
nowhere g c = place_at (program_of c.args.state.now) c.args.counts.now c.requires.text _ _ _ c.pc.ensures c.in-None.ensures.value

pub add-requires-clause-room : goal.add-requires-clause-room
add-requires-clause-room g c =
    let same = count_here (program_of c.args.state.now) c.args.counts.now c.requires.text _ _ (here g (goal.at.add-requires-clause-room g c).In-Some) in
    subst (λ (n : ℕ). n < 2 ^ 32) same (c.requires.room (word g (goal.at.add-requires-clause-room g c).In-Some))

pub line-requires-clause-place : goal.line-requires-clause-place
line-requires-clause-place g c = here g (goal.at.line-requires-clause-place g c).In-Some

pub line-requires-clause-small : goal.line-requires-clause-small
line-requires-clause-small g c = subst (λ (n : ℕ). n < 2 ^ 32) c.pc.ensures (omega arith)

pub returns-in-Some-clause-counted : goal.returns-in-Some-clause-counted
returns-in-Some-clause-counted g c =
    entered (program_of c.args.state.now) c.args.counts.now c.requires.text _ _ _
    (here g (goal.at.returns-in-Some-clause-counted g c).In-Some) c.in-Some.ensures.within c.add.ensures.places c.add.ensures.counted

pub returns-in-None-clause-fetched : goal.returns-in-None-clause-fetched
returns-in-None-clause-fetched g c meaning = nothing_fetched (program_of c.args.state.now) (state_of c.args.state.now) meaning (nowhere g c)

pub returns-in-None-clause-counted : goal.returns-in-None-clause-counted
returns-in-None-clause-counted g c = not_entered (program_of c.args.state.now) c.args.counts.now c.requires.text _ (nowhere g c)
