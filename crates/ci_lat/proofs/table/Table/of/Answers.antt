use Rattle.std.proofs.Common.{◌≡◌, map, ap, ◌∙◌}
use Rattle.toml.specs.View.{table_view}
use Rattle.ci_lat.specs.Keys.{software_keys, hardware_keys}
use Rattle.ci_lat.specs.Faults.{setting, table_of}
use Rattle.ci_lat.proofs.KeyLists.{SOFTWARE_KEYS-listed, HARDWARE_KEYS-listed}
use Rattle.ci_lat.proofs.SettingsFit.{IsLatencyTable-table_of}
use Rattle.ci_lat.proofs.table.Table.of.Goals as goal

pub invariant_of-result : goal.invariant_of-result
unfolding table_of
invariant_of-result c =
    let settings = setting (table_view c.args.document.now) in
    let software : c.put_settings.new.numbers ≡ map settings software_keys =
    c.put_settings.ensures ∙ ap (map settings) SOFTWARE_KEYS-listed in
    let hardware : c.put_settings-2.new.numbers ≡ map settings hardware_keys =
    c.put_settings-2.ensures ∙ ap (map settings) HARDWARE_KEYS-listed in
    rw (c.setting.ensures, c.setting-2.ensures, software, hardware) (IsLatencyTable-table_of (table_view c.args.document.now) c.requires)
