-- For private contracts: how far the checker has come in a list of symbols, and what it answers.
use Rattle.std.specs.Prelude.{◌≡◌, ℕ, ◌+◌, ◌≤◌, ◌⊎◌, true, Option, Some, None, ⊤, List, [], ◌∷◌, ◌++◌}
use Rattle.std.specs.List.{AllByRecursion}
use Rattle.ci_reading.specs.Tokens.{text_end}
use Rattle.ci_vread.specs.Grammar.{Part, reads, made, Phrase, Placed, Symbol, NeedsNext, Event, Finish, Goes, units}
use Rattle.ci_vread.specs.Rules.{Rule, Seen, rules_from, rules_at, IsFirst, HasFault, KeepsRules}
use Rattle.ci_vread.specs.private.Tables.{role_of, due_of}
use Rattle.ci_vread.specs.private.Checked.{Shows, IsLeast}
use Rattle.ci_vread.specs.declared.checking.Checker.{Checker}
use Rattle.ci_vread.specs.declared.checking.Fault.{Fault}
use Rattle.ci_vread.specs.declared.checking.Due.{Due}
use Rattle.ci_vread.specs.declared.checking.Due.TheVariants as due
use Rattle.ci_vread.specs.declared.checking.Step.{Step}
use Rattle.ci_vread.specs.declared.checking.Step.TheVariants as step

-- Of the rules of a text those in front belong to what was seen, and the rest of the symbols gives the others.
pub record Leads
    (rules : List Rule) (symbols : List Placed) (last : ℕ) (due : List Part) (broken : Option ℕ) (seen : Seen)
    : Type 0 where
  pub before : List Rule
  pub events : List Event
  pub finish : Finish
  pub goes : Goes last due symbols events finish
  pub rules_are : rules ≡ before ++ (rules_from seen events ++ rules_at finish)
  pub least : IsLeast broken last before

-- the checker leads there, with further parts due in front of its own
abbrev pub LeadsWith : List Rule → List Placed → List Part → Checker → Type 0
LeadsWith rules symbols parts c =
    (seen : Seen) × Shows c.seen seen × Leads rules symbols c.last (parts ++ due_of c.due.items) c.broken seen

abbrev pub IsAt : List Rule → List Placed → Checker → Type 0
IsAt rules symbols c = LeadsWith rules symbols [] c

-- what is due where this symbol comes next
abbrev pub IsDue : List Rule → List Placed → Symbol → Due → Checker → Type 0
IsDue rules symbols next (due.Role role) c = LeadsWith rules symbols (reads (role_of role) ∷ []) c
IsDue rules symbols next due.Nothing c = (seen : Seen) × Leads rules symbols c.last [] c.broken seen
IsDue rules symbols next due.Missing c =
    (seen : Seen) × (parts : List Part) × (p : Phrase) × NeedsNext p × (next ≡ text_end)
    × Leads rules symbols c.last (made p ∷ parts) c.broken seen

-- the places ascend, all of them behind this one or, for the first symbol of a text, at it
abbrev pub AscendFrom : ℕ → List Placed → Type 0
AscendFrom place [] = ⊤
AscendFrom place (symbol ∷ symbols) = (place ≤ symbol.place) × AscendFrom (symbol.place + 1) symbols

-- nothing was read yet
abbrev pub IsFresh : Checker → Type 0
IsFresh c = (due_of c.due.items ≡ made units ∷ []) × (c.broken ≡ None)

-- the symbols stand behind the last token, if there is one
abbrev pub IsBehind : Checker → List Placed → Type 0
IsBehind c symbols = AscendFrom 0 symbols × (IsFresh c ⊎ AscendFrom (c.last + 1) symbols)

-- what is known behind one symbol more
abbrev pub IsAfter : List Rule → List Placed → Step → Checker → Type 0
IsAfter rules symbols step.On c = IsAt rules symbols c × IsBehind c symbols
IsAfter rules symbols step.Whole c = AllByRecursion (λ r. r.is_kept ≡ true) rules
IsAfter rules symbols (step.Bad fault) c = IsFirst rules fault.kind fault.place

abbrev pub IsOn : Step → Type 0
IsOn step.On = ⊤
IsOn s = ⊥

-- the first fault of the text, or none where it keeps all rules
abbrev pub IsAnswer : List ℕ → Option Fault → Type 0
IsAnswer text None = KeepsRules text
IsAnswer text (Some fault) = HasFault text fault.kind fault.place
