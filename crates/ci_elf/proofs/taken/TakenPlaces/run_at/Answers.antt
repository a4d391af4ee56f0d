use Rattle.std.proofs.Common.{◌≡◌, ◌+◌, ◌*◌, ◌-◌, arith}
use Rattle.std.proofs.lemmas.Bool.Decides.{nat_tests}
use Rattle.ci_elf.proofs.RunLaws.{both_taken, joined, joined_small}
use Rattle.ci_elf.proofs.taken.TakenPlaces.run_at.Goals as goal

pub overflow_add-longer : goal.overflow_add-longer
overflow_add-longer c =
    let places = c.args.self.now in
    let small = joined_small places.runs.items places.sound (c.args.place - places.first) c.run-run.result c.run.result c.run-run.ensures c.run.ensures places.small in
    omega arith

pub invariant_of-self-clause-sound : goal.invariant_of-self-clause-sound
invariant_of-self-clause-sound c =
    let places = c.args.self.now in
    joined places.runs.items places.sound (c.args.place - places.first) c.run-run.result c.run.result c.run-run.ensures c.run.ensures (omega (arith, c.requires.to, c.requires.from))

pub returns-clause-run : goal.returns-clause-run
returns-clause-run c =
    let places = c.args.self.now in
    record {
      taken = λ j h.
          let some = both_taken places.runs.items places.sound (c.args.place - places.first) c.run-run.result c.run.result c.run-run.ensures c.run.ensures j h in
          let same : c.args.place - places.first + 16 * j ≡ c.args.place + 16 * j - places.first = omega (arith, c.requires.from) in
          rw (← same) (grind (arith, nat_tests));
      free = λ none. grind (arith, nat_tests);
    }
