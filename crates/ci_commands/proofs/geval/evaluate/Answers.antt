-- The results of the netlist that the file holds, or why there are none.
use Rattle.std.proofs.Common.{[], ◌∷◌, inl, inr, length, refl, arith}
use Rattle.std.proofs.lemmas.Bool.Decides.{nat_tests}
use Rattle.std.proofs.lemmas.Option.{slice_get_read}
use Rattle.std.proofs.lemmas.Result.{err_from_is_err_and}
use Rattle.ci_calls.proofs.InputLaws.{read_without_memory}
use Rattle.ci_commands.proofs.geval.evaluate.Goals as goal

pub returns-in_err-nets : goal.returns-in_err-nets
returns-in_err-nets g c =
    let p = err_from_is_err_and c.from_residual.result c.from_residual.ensures.1 in
    rw (p.1, p.2) (inl (c.in_err-nets.ensures []))

pub returns-in_default : goal.returns-in_default
returns-in_default g c =
    let file = c.in_ok-nets.ensures in
    inr (record {
      answered = file.0 ∷ [];
      read = file.1;
      refused = record {
        bytes = file.0;
        read_is = refl;
        nets = c.in_ok-nets.nets.items;
        spelled = file.2;
        unsupported = record {
          absent = let out = rw c.deref.ensures.value at c.in_default.ensures.lookup in grind (arith, nat_tests);
          position_is = refl;
          word_is = refl;
        };
      };
    })

pub returns-in_err-text : goal.returns-in_err-text
returns-in_err-text g c =
    let p = err_from_is_err_and c.from_residual-in_err-text.result c.from_residual-in_err-text.ensures.1 in
    rw (p.1, p.2) (inl (read_without_memory _ _ _ _ _ _ c.in_ok-nets.ensures.1))

pub returns-in_err-y : goal.returns-in_err-y
returns-in_err-y g c =
    let p = err_from_is_err_and c.from_residual-in_err-y.result c.from_residual-in_err-y.ensures.1 in
    rw (p.1, p.2) (inl (read_without_memory _ _ _ _ _ _ c.in_ok-nets.ensures.1))

pub returns : goal.returns
returns g c =
    let file = c.in_ok-nets.ensures in
    let nets = c.in_ok-nets.nets.items in
    let found = rw c.deref.ensures.value at c.in-Some.ensures.lookup in
    record {
      answered = file.0 ∷ [];
      read = file.1;
      made = record {
        bytes = file.0;
        read_is = refl;
        nets = nets;
        spelled = file.2;
        chosen = c.in-Some.chosen.now;
        there = slice_get_read nets (length nets) c.args.number c.in-Some.chosen.now refl found.3.0 found.1;
        y = c.in_ok-y.y;
        z = c.in_ok-y.z;
        x = c.in_ok-y.x;
        results = c.in_ok-y.ensures;
        text_is = rw c.into_bytes.ensures.value c.in_ok-text.ensures;
        writes_none = c.new.ensures.items;
      };
    }
