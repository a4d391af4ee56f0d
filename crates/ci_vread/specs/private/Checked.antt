-- For private contracts: what the checker has seen of a text, and which rule is broken at a place.
use Rattle.std.specs.Prelude.{◌≡◌, ℕ, ◌+◌, ◌*◌, ◌^◌, ◌<◌, ◌≤◌, Option, Some, None, min, List, [], ◌∷◌, reverse, true}
use Rattle.std.specs.List.{AllByRecursion}
use Rattle.ci_verilog.specs.Modules.{Known}
use Rattle.ci_vread.specs.declared.seen.Seen.{Seen as SeenValue}
use Rattle.ci_reading.specs.Tokens.{token}
use Rattle.ci_vread.specs.declared.grammar.Role.{Role as RoleValue}
use Rattle.ci_vread.specs.declared.grammar.Role.TheVariants as role
use Rattle.ci_vread.specs.declared.tokens.Kind.{Kind}
use Rattle.ci_vread.specs.declared.tokens.Kind.TheVariants as kind
use Rattle.ci_vread.specs.private.Tables.{IsOperator, IsUse}
use Rattle.ci_vread.specs.private.Scanned.{symbol_by}
use Rattle.ci_vread.specs.Lexicon.{number, name}
use Rattle.ci_vread.specs.Grammar.{Event}
use Rattle.ci_vread.specs.Rules.{Seen, Rule, behind, rules_of, IsFirst}
use Rattle.ci_vread.specs.private.Names.{Knows}

-- what the value says where these names are known
abbrev pub seen_of : SeenValue → List Known → Seen
seen_of c known = record {
  modules = c.modules;
  wide = c.wide;
  known = known;
  declared = c.declared.now;
  due = c.due;
  its_op = c.operator;
  widths = reverse c.widths.items;
  sum = c.sum;
  times = c.times;
  width = c.width;
  index = c.index;
}

-- the value says this
abbrev pub Shows : SeenValue → Seen → Type 0
Shows c s = Knows c.names s.known × (seen_of c s.known ≡ s)

-- the lesser kind of two, of which each may be none
abbrev pub least : Option ℕ → Option ℕ → Option ℕ
least None other = other
least (Some k) None = Some k
least (Some k) (Some other) = Some (min k other)

-- The kind is the least of the broken rules, of which the first is at this place; and where there is none all are kept.
abbrev pub IsLeast : Option ℕ → ℕ → List Rule → Type 0
IsLeast None place rules = AllByRecursion (λ r. r.is_kept ≡ true) rules
IsLeast (Some kind) place rules = IsFirst rules kind place

-- An event leads from one value to the other, and this kind of rule is broken there.
abbrev pub StepsOn : SeenValue → SeenValue → Option ℕ → (ℕ → Event) → Type 0
StepsOn old new broken event = (known : List Known) (place : ℕ) → Knows old.names known
    → Shows new (behind (seen_of old known) (event place))
    × IsLeast broken place (rules_of (seen_of old known) (event place))

-- tokens of this kind can have the role
abbrev pub Suits : RoleValue → Kind → List ℕ → Type 0
Suits (role.Sign s) k bytes = k ≡ kind.Sign s
Suits (role.Number n) k bytes = symbol_by k bytes ≡ token (number n)
Suits (role.Letter c) k bytes = symbol_by k bytes ≡ token (name (c ∷ []))
Suits role.Cycles k bytes = k ≡ kind.Cycles
Suits role.Use k bytes = IsUse k
Suits role.Module k bytes = k ≡ kind.Name
Suits role.Name k bytes = k ≡ kind.Name
Suits role.Target k bytes = k ≡ kind.Name
Suits role.High k bytes = k ≡ kind.Number
Suits role.Index k bytes = k ≡ kind.Number
Suits role.Low k bytes = k ≡ kind.Number
Suits role.Count k bytes = k ≡ kind.Number
Suits role.Constant k bytes = k ≡ kind.Constant
Suits role.Operator k bytes = IsOperator k

-- what is bounded as long as no rule is broken is the same
abbrev pub IsCalm : SeenValue → SeenValue → Type 0
IsCalm old new = (new.sum ≡ old.sum) × (new.modules ≡ old.modules)

-- and so is the width of the present term so far
abbrev pub IsStill : SeenValue → SeenValue → Type 0
IsStill old new = IsCalm old new × (new.times ≡ old.times) × (new.width ≡ old.width)

-- the width of the present term can be computed, and nothing is too large as long as no rule is broken
abbrev pub IsBounded : SeenValue → Option ℕ → Type 0
IsBounded c broken = (c.sum + c.times * c.width < 2 ^ 128) × (broken ≡ None → (c.sum ≤ 64) × (c.modules ≤ 32))
