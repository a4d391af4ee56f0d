-- For private contracts: what the map of a module's names answers.
use Rattle.std.specs.Prelude.{◌≡◌, ℕ, Option, Some, None, min, List, [], ◌∷◌, length, if◌then◌else◌}
use Rattle.std.specs.BTreeMap.{BTreeMap, get_by}
use Rattle.std.specs.Ordering.{nat_cmp}
use Rattle.std.specs.Cmp.Lexicographic.{slice_cmp}
use denote.Ref.{Bor}
use Rattle.ci_verilog.specs.Modules.{Known}
use Rattle.ci_vread.specs.Rules.{same}
use Rattle.ci_vread.specs.declared.names.Names.{Names}

abbrev pub width_at : BTreeMap (Bor (List ℕ)) ℕ → List ℕ → Option ℕ
width_at widths name = get_by (λ k. slice_cmp nat_cmp name k.now) widths

-- the first of two, if there is one
abbrev pub earlier : Option ℕ → Option ℕ → Option ℕ
earlier (Some width) other = Some width
earlier None other = other

-- the width of the name, if some name is this one
abbrev pub lookup : List Known → List ℕ → Option ℕ
lookup [] bytes = None
lookup (v ∷ known) bytes = if same v.name bytes then Some v.width else lookup known bytes

-- The map has the widths of the names, and the count is theirs, as far as it counts.
abbrev pub Knows : Names → List Known → Type 0
Knows names known =
    ((name : List ℕ) → width_at names.widths name ≡ lookup known name) × (names.count ≡ min (length known) 2053)
