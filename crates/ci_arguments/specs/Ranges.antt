-- For every reader: that the numbers among the positional words of a command, and those that its options are set to,
-- lie in their ranges.
use Rattle.std.specs.Prelude.{◌≡◌, ◌≤◌, ◌||◌, ◌&&◌, ℕ, Bool, true, false, not, nat_le, slice_get, unwrap_or, option_map}
use Rattle.std.specs.List.{list_all, list_any}
use denote.Enum.Bare.{sameb}
use Rattle.ci_arguments.specs.contracts.tables.CommandName.{the_type as command_type}
use Rattle.ci_arguments.specs.contracts.tables.OptionName.{the_type as option_type}
use Rattle.ci_arguments.specs.declared.tables.CommandName.{CommandName}
use Rattle.ci_arguments.specs.declared.tables.DefaultValue.{DefaultValue}
use Rattle.ci_arguments.specs.declared.tables.DefaultValue.TheVariants as default
use Rattle.ci_arguments.specs.declared.tables.Kind.{Kind}
use Rattle.ci_arguments.specs.declared.tables.Kind.TheVariants as kind
use Rattle.ci_arguments.specs.declared.tables.OptionName.{OptionName}
use Rattle.ci_arguments.specs.Tables.{CommandRow, OptionRow, commands}
use Rattle.ci_arguments.specs.Words.{Reading, number_at, number_set}

module _ (minimum maximum : ℕ) where
  abbrev pub is_kind_within : Kind → Bool
  is_kind_within (kind.Number least most) = nat_le minimum least && nat_le most maximum
  is_kind_within other = false

  abbrev pub is_default_within : DefaultValue → Bool
  is_default_within (default.Number n) = nat_le minimum n && nat_le n maximum
  is_default_within default.Nothing = false
  is_default_within default.MustStand = true

-- ---- positional words

-- the row is another command's, or has a number of the range at the place
abbrev pub keeps_place : ℕ → ℕ → ℕ → CommandName → CommandRow → Bool
keeps_place place minimum maximum command row =
    not (sameb command_type row.command command)
    || unwrap_or (option_map (is_kind_within minimum maximum) (slice_get row.positional place)) false

-- the number that is a positional word of the command lies in any range that the rows of the command keep
abbrev pub KeepsPlaces : CommandName → Reading → Type 0
KeepsPlaces command reading =
    (place minimum maximum : ℕ) → list_all (keeps_place place minimum maximum command) commands ≡ true →
    (minimum ≤ number_at reading place) × (number_at reading place ≤ maximum)

-- ---- options

module _ (option : OptionName) (minimum maximum : ℕ) where
  abbrev pub is_option : OptionRow → Bool
  is_option row = sameb option_type row.option option

  -- the row is another option's, or sets numbers of the range alone
  abbrev pub is_within : OptionRow → Bool
  is_within row =
      not (is_option row)
      || (is_kind_within minimum maximum row.kind && is_default_within minimum maximum row.default)

  -- the row is another command's, or has the option, which sets numbers of the range alone
  abbrev pub keeps_range : CommandName → CommandRow → Bool
  keeps_range command row =
      not (sameb command_type row.command command)
      || (list_any is_option row.options && list_all is_within row.options)

-- the number that an option of the command is set to lies in any range that the rows of the command keep
abbrev pub KeepsRanges : CommandName → Reading → Type 0
KeepsRanges command reading =
    (option : OptionName) (minimum maximum : ℕ) →
    list_all (keeps_range option minimum maximum command) commands ≡ true →
    (minimum ≤ number_set reading option) × (number_set reading option ≤ maximum)
