-- Values that are not apart give no reading.
use Rattle.std.proofs.Common.{◌≡◌, ◌∙◌, ◌++◌, ap, ap₂, codes, false, map, subst, sym}
use Rattle.std.specs.Prelude.{AllPairs, IsTrue}
use Rattle.clap.specs.Words.{found_of, rows_of}
use Rattle.ci_arguments.specs.Words.{AreApart, AreSaid}
use Rattle.ci_arguments.specs.private.Parses.{command_row, values_in}
use Rattle.ci_arguments.specs.Read.{setting_in, value_in}
use Rattle.ci_arguments.proofs.Readings.{given_apart}
use Rattle.ci_arguments.proofs.SettingLaws.{texts}
use Rattle.ci_arguments.proofs.said.reading_by.Goals as goal

pub returns-then-not-are_apart-clause-none : goal.returns-then-not-are_apart-clause-none
returns-then-not-are_apart-clause-none c = λ e reading gives.
    let row = command_row c.args.row.now in
    let rows = rows_of (found_of c.args.matches.now) in
    let values = map value_in c.in_ok-values.values.items in
    let set = map setting_in c.in_ok-settings.settings.items in
    let said : AreSaid row.positional (values_in rows (codes "names")) values =
    subst (λ names. AreSaid row.positional names values) (ap texts c.deref.ensures.value ∙ c.in_ok-names.ensures)
    c.in_ok-values.ensures.ok in
    let all : map value_in c.as_slice.result.now ≡ values ++ map (λ setting. setting.1) set =
    ap (map value_in) c.as_slice.ensures.value
    ∙ (c.in_ok-all_values.ensures
    ∙ ap₂ (λ a b. map value_in a ++ map (λ setting. setting.1) (map setting_in b)) c.deref-2.ensures.value
    c.deref-3.ensures.value) in
    let bad : IsTrue false =
    c.if-not-are_apart.ensures.1 (subst (AllPairs AreApart) (sym all)
    (given_apart row (values_in rows (codes "names")) (values_in rows) values set said c.in_ok-settings.ensures.ok reading gives)) in
    cc
