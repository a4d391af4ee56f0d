-- The netlists of the modules that the file holds, and their line, or why there are none.
use Rattle.std.proofs.Common.{◌≤◌, List, ◌∙◌, [], ◌∷◌, ap, inl, length, refl, subst, arith}
use Rattle.std.specs.List.{AllZip}
use Rattle.std.proofs.lemmas.Result.{err_from_is_err_and}
use Rattle.ci_verilog.specs.Modules.{Module}
use Rattle.ci_netlist.specs.Netlists.{Netlist}
use Rattle.ci_netlist.specs.Texts.{Spells}
use Rattle.ci_gates.specs.Modules.{IsNetlistOf}
use Rattle.ci_calls.proofs.InputLaws.{read_without_memory}
use Rattle.ci_commands.specs.GatesCommand.{gates_line, gates_of, HaveTogether}
use Rattle.ci_commands.proofs.GateLaws.{nets_together, spelled_few, spelled_modules, together_once, zipped_long}
use Rattle.ci_commands.proofs.gates.evaluate.Goals as goal

pub returns-in_err-nets : goal.returns-in_err-nets
returns-in_err-nets g c =
    let p = err_from_is_err_and c.from_residual-in_err-nets.result c.from_residual-in_err-nets.ensures.1 in
    rw (p.1, p.2) (inl (read_without_memory _ _ _ _ _ _ c.in_ok-modules.ensures.1))

pub write-requires : goal.write-requires
write-requires g c =
    let nets = c.in_ok-nets.nets.items in
    let few = spelled_few c.in_ok-modules.ensures.0 c.in_ok-modules.modules.items c.in_ok-modules.ensures.2 in
    let long = zipped_long IsNetlistOf c.as_slice-2.result.now nets c.in_ok-nets.ensures in
    let same = ap (λ (modules : List Module). length modules) c.as_slice-2.ensures.value in
    let there = ap (λ (ns : List Netlist). length ns) c.as_slice-3.ensures.value in
    omega (arith, few, long, same, there)

pub returns-in_err-bytes : goal.returns-in_err-bytes
returns-in_err-bytes g c =
    let p = err_from_is_err_and c.from_residual-in_err-bytes.result c.from_residual-in_err-bytes.ensures.1 in
    rw (p.1, p.2) (inl (read_without_memory _ _ _ _ _ _ c.in_ok-modules.ensures.1))

pub returns-in_err-text : goal.returns-in_err-text
returns-in_err-text g c =
    let p = err_from_is_err_and c.from_residual-in_err-text.result c.from_residual-in_err-text.ensures.1 in
    rw (p.1, p.2) (inl (read_without_memory _ _ _ _ _ _ c.in_ok-modules.ensures.1))

pub returns-in_err-vec : goal.returns-in_err-vec
returns-in_err-vec g c =
    let p = err_from_is_err_and c.from_residual-in_err-vec.result c.from_residual-in_err-vec.ensures.1 in
    rw (p.1, p.2) (inl (read_without_memory _ _ _ _ _ _ c.in_ok-modules.ensures.1))

pub returns : goal.returns
returns g c =
    let file = c.in_ok-modules.ensures in
    let modules = c.in_ok-modules.modules.items in
    let nets = c.in_ok-nets.nets.items in
    let are = subst (λ ms. AllZip IsNetlistOf ms nets) c.as_slice-2.ensures.value c.in_ok-nets.ensures in
    let together = nets_together modules nets are in
    let gates = c.in_ok-gates.gates in
    let counted = subst (λ ms. HaveTogether ms gates) c.as_slice.ensures.value c.in_ok-gates.ensures.together in
    let each = spelled_modules file.0 modules file.2 in
    let same = together_once modules gates (gates_of nets) each counted together in
    record {
      answered = file.0 ∷ [];
      read = file.1;
      made = record {
        bytes = file.0;
        read_is = refl;
        modules = modules;
        spelled = file.2;
        nets = nets;
        nets_are = are;
        together = together;
        few = subst (λ n. n ≤ 4194304) same c.in_ok-gates.ensures.few;
        file = record { name = c.args.out; bytes = c.in_ok-bytes.bytes };
        writes_one = c.in_ok-vec.ensures.items;
        name_is = refl;
        file_spells = subst (Spells c.in_ok-bytes.bytes.items) c.as_slice-3.ensures.value c.in_ok-bytes.ensures;
        puts_line =
            rw c.into_bytes.ensures.value
            (c.in_ok-text.ensures ∙ (λ i. gates_line ((c.len.ensures ∙ c.in_ok-nets.nets.ok.0) i) (same i)));
      };
    }
