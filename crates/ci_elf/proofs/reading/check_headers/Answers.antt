use Rattle.std.proofs.Common.{◌++◌}
use Rattle.ci_elf.specs.Rules.{file_header_rules, kind_rules, table_rules}
use Rattle.ci_elf.proofs.CheckLaws.{handed_on, fault_in_front, fault_behind, test_behind}
use Rattle.ci_elf.proofs.reading.check_headers.Goals as goal

pub returns-in_err-check_file_header : goal.returns-in_err-check_file_header
returns-in_err-check_file_header c =
    handed_on c.args.bytes.now (file_header_rules ++ (kind_rules ++ (table_rules))) _ _ c.from_residual.ensures.1
    (fault_in_front c.args.bytes.now file_header_rules (kind_rules ++ (table_rules)) _ c.in_err-check_file_header.ensures)

pub returns-in_err-check_kind : goal.returns-in_err-check_kind
returns-in_err-check_kind c =
    handed_on c.args.bytes.now (file_header_rules ++ (kind_rules ++ (table_rules))) _ _ c.from_residual-in_err-check_kind.ensures.1
    (fault_behind c.args.bytes.now file_header_rules (kind_rules ++ (table_rules)) _ c.in_ok-check_file_header.ensures
    (fault_in_front c.args.bytes.now kind_rules (table_rules) _ c.in_err-check_kind.ensures))

pub returns : goal.returns
returns c =
    test_behind c.args.bytes.now file_header_rules (kind_rules ++ (table_rules)) _ c.in_ok-check_file_header.ensures
    (test_behind c.args.bytes.now kind_rules (table_rules) _ c.in_ok-check_kind.ensures
    c.check_tables.ensures)
