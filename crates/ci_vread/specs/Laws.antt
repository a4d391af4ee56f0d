-- What the definitions say of every text, for everybody: it spells modules or has a fault, never both, and one list of
-- modules or one fault at most.
use Rattle.std.specs.Prelude.{◌≡◌, ℕ, ◌⊎◌, ◌↔◌, List}
use Rattle.ci_verilog.specs.Modules.{Module}
use Rattle.ci_vread.specs.Rules.{HasFault, KeepsRules}
use Rattle.ci_vread.specs.Spelling.{Spell}

-- it spells modules or has a fault
abbrev pub SpellsOrHasFault : Type 0
SpellsOrHasFault =
    (text : List ℕ) → ((modules : List Module) × Spell text modules) ⊎ ((kind place : ℕ) × HasFault text kind place)

-- and not both
abbrev pub HasNoFault : Type 0
HasNoFault = (text : List ℕ) (modules : List Module) (kind place : ℕ) → Spell text modules → ¬ HasFault text kind place

-- it has one fault
abbrev pub FaultIsOne : Type 0
FaultIsOne =
    (text : List ℕ) (kind place other_kind other_place : ℕ) → HasFault text kind place
    → HasFault text other_kind other_place → (kind ≡ other_kind) × (place ≡ other_place)

-- it spells modules exactly where it keeps every rule
abbrev pub SpellsWhereRulesAreKept : Type 0
SpellsWhereRulesAreKept = (text : List ℕ) → KeepsRules text ↔ ((modules : List Module) × Spell text modules)

-- it spells one list of modules
abbrev pub SpellingIsOne : Type 0
SpellingIsOne =
    (text : List ℕ) (modules others : List Module) → Spell text modules → Spell text others → modules ≡ others
