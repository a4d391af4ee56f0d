-- What a text of modules keeps beside its grammar, token by token, and the first fault, for everybody.
use Rattle.std.specs.Prelude.{◌≡◌, ℕ, ◌+◌, ◌-◌, ◌*◌, ◌^◌, ◌<◌, ◌≤◌, ◌⊎◌, Bool, true, false, not, ◌&&◌, ◌||◌, ◌==◌}
use Rattle.std.specs.Prelude.{nat_lt, nat_le, if◌then◌else◌, List, [], ◌∷◌, ◌++◌, length, codes}
use Rattle.std.specs.List.{AllByRecursion, Contains}
use Rattle.std.specs.Fmt.{decimal}
use Rattle.ci_verilog.specs.declared.expressions.Operator.{Operator}
use Rattle.ci_verilog.specs.declared.expressions.Operator.TheVariants.{Plus, Left, Right, Less}
use Rattle.ci_verilog.specs.Modules.{Known, vector, inputs}
use Rattle.ci_reading.specs.Tokens.{AreSymbols}
use Rattle.ci_vread.specs.Lexicon.{Token, sign, operator, name, number, constant, spelling, unit_format}
use Rattle.ci_vread.specs.Grammar.{Placed, its_module, its_high, its_name, its_target, its_use, its_index}
use Rattle.ci_vread.specs.Grammar.{its_low, its_count, its_constant, its_operator, of_simple, of_term, of_side}
use Rattle.ci_vread.specs.Grammar.{of_condition, of_branch, of_operand, of_wire, of_wires, of_three, made, units, Event}
use Rattle.ci_vread.specs.Grammar.{read, ended, Finish, whole, stops, Goes}

abbrev pub same : List ℕ → List ℕ → Bool
same [] [] = true
same (x ∷ xs) (y ∷ ys) = x == y && same xs ys
same xs ys = false

abbrev pub is_known : List Known → List ℕ → Bool
is_known [] bytes = false
is_known (v ∷ known) bytes = same v.name bytes || is_known known bytes

-- the width of the name, and 0 where none has it
abbrev pub width_of : List Known → List ℕ → ℕ
width_of [] bytes = 0
width_of (v ∷ known) bytes = if same v.name bytes then v.width else width_of known bytes

-- ---- what the events so far say

pub record Seen : Type 0 where
  -- how many module names were read
  pub modules : ℕ
  -- the module is a wide one
  pub wide : Bool
  -- names that a term may have, and the wire that is declared but has no value yet
  pub known : List Known
  pub declared : List ℕ
  -- the width that a right side has to have
  pub due : ℕ
  -- of the right side so far: its operator, and the widths of its whole terms, the last one first
  pub its_op : Operator
  pub widths : List ℕ
  -- of the present term so far: the width of its items, the count of the present one, and the width and the index of
  -- the present simple
  pub sum : ℕ
  pub times : ℕ
  pub width : ℕ
  pub index : ℕ

abbrev pub nothing : Seen
nothing = record {
  modules = 0;
  wide = false;
  known = [];
  declared = [];
  due = 0;
  its_op = Plus;
  widths = [];
  sum = 0;
  times = 1;
  width = 0;
  index = 0;
}

-- the bytes of a name or of an input
abbrev pub bytes_of : Token → List ℕ
bytes_of (name bytes) = bytes
bytes_of (sign s) = spelling s
bytes_of t = []

-- the further inputs of a wide module
abbrev pub further : List Known
further = vector (codes "d") 32 ∷ vector (codes "e") 32 ∷ []

-- In a wide module d, e and x are words of the grammar: no wire has such a name, though terms have d and e.
abbrev pub is_word : Bool → List ℕ → Bool
is_word wide bytes = wide && (same bytes (codes "d") || (same bytes (codes "e") || same bytes (codes "x")))

-- the most names of a module: its inputs and 2,048 wires
abbrev pub most_names : Bool → ℕ
most_names wide = length (inputs wide) + 2048

abbrev pub grown : Seen → ℕ
grown s = s.sum + s.times * s.width

abbrev pub behind : Seen → Event → Seen
behind s (read its_module t place) = record s { modules = s.modules + 1; wide = false; known = inputs false }
behind s (read its_high (number n) place) = record s { due = n + 1 }
behind s (read its_name t place) = record s { declared = bytes_of t }
behind s (read its_operator (operator o) place) = record s { its_op = o }
behind s (read its_use t place) = record s { width = width_of s.known (bytes_of t) }
behind s (read its_index (number n) place) = record s { index = n; width = 1 }
behind s (read its_low (number n) place) = record s { width = s.index + 1 - n }
behind s (read its_count (number n) place) = record s { times = n }
behind s (read its_constant (constant width value) place) = record s { width = width }
behind s (ended of_simple place) = record s { sum = grown s; times = 1; width = 0; index = 0 }
behind s (ended of_term place) = record s { widths = s.sum ∷ s.widths; sum = 0 }
behind s (ended of_side place) = record s { widths = [] }
behind s (ended of_operand place) = record s { widths = []; its_op = Plus }
behind s (ended of_branch place) = record s { widths = [] }
behind s (ended of_wire place) = record s { known = s.known ++ vector s.declared s.due ∷ [] }
behind s (ended of_wires place) = record s { due = 32 }
behind s (ended of_three place) = record s { wide = true; known = s.known ++ further }
behind s e = s

-- ---- rules

-- a rule of this kind for the token at this place, and whether the token keeps it
pub record Rule : Type 0 where
  pub kind : ℕ
  pub place : ℕ
  pub is_kept : Bool

abbrev pub rule : ℕ → ℕ → Bool → Rule
rule kind place is_kept = record { kind = kind; place = place; is_kept = is_kept }

-- the operator makes this width of operands of those widths
abbrev pub makes : Operator → List ℕ → ℕ → Bool
makes Left (right ∷ left ∷ []) due = left == due
makes Right (right ∷ left ∷ []) due = left == due
makes Less (right ∷ left ∷ []) due = left == right && due == 1
makes o (right ∷ left ∷ []) due = left == right && left == due
makes o widths due = false

-- A word of a wide module that is a target, or stands in a term and isn't an input, is no name there: its kind is 2.
abbrev pub rules_of : Seen → Event → List Rule
rules_of s (read its_module (name bytes) place) =
    rule 9 place (same bytes (codes "ci_" ++ decimal s.modules) && nat_lt s.modules 32) ∷ []
rules_of s (read its_high (number n) place) = rule 6 place (nat_lt n 64) ∷ []
rules_of s (read its_name (name bytes) place) =
    rule 2 place (not (is_word s.wide bytes)) ∷ rule 4 place (not (is_known s.known bytes))
    ∷ rule 8 place (nat_lt (length s.known) (most_names s.wide)) ∷ []
rules_of s (read its_target (name bytes) place) =
    rule (if is_word s.wide bytes then 2 else 7) place (same bytes s.declared) ∷ []
rules_of s (read its_use t place) =
    rule (if is_word s.wide (bytes_of t) then 2 else 3) place (is_known s.known (bytes_of t)) ∷ []
rules_of s (read its_index (number n) place) = rule 6 place (nat_lt n s.width) ∷ []
rules_of s (read its_low (number n) place) = rule 6 place (nat_le n s.index) ∷ []
rules_of s (read its_count (number n) place) = rule 6 place (nat_le 1 n && nat_le n 64) ∷ []
rules_of s (read its_constant (constant width value) place) =
    rule 5 place (nat_lt value (2 ^ width)) ∷ rule 6 place (nat_le 1 width && nat_le width 64) ∷ []
rules_of s (ended of_simple place) = rule 6 place (nat_le (grown s) 64) ∷ []
rules_of s (ended of_condition place) = rule 5 place (same s.widths (1 ∷ [])) ∷ []
rules_of s (ended of_side place) = rule 5 place (same s.widths (s.due ∷ [])) ∷ []
rules_of s (ended of_operand place) = rule 5 place (makes s.its_op s.widths s.due) ∷ []
rules_of s (ended of_branch place) = rule 5 place (same s.widths (s.due ∷ s.due ∷ 1 ∷ [])) ∷ []
rules_of s e = []

abbrev pub rules_from : Seen → List Event → List Rule
rules_from s [] = []
rules_from s (e ∷ events) = rules_of s e ++ rules_from (behind s e) events

-- where the tokens stop following the grammar, one more rule, which the token there breaks
abbrev pub rules_at : Finish → List Rule
rules_at whole = []
rules_at (stops kind place) = rule kind place false ∷ []

-- the rules that the text has to keep
pub record AreRules (text : List ℕ) (rules : List Rule) : Type 0 where
  pub symbols : List Placed
  pub events : List Event
  pub finish : Finish
  pub are_symbols : AreSymbols unit_format 0 text symbols
  pub goes : Goes 0 (made units ∷ []) symbols events finish
  pub rules_are : rules ≡ rules_from nothing events ++ rules_at finish

-- the first one is at an earlier place, or at the same and of no greater kind
abbrev pub IsBefore : Rule → Rule → Type 0
IsBefore r q = (r.place < q.place) ⊎ ((r.place ≡ q.place) × (r.kind ≤ q.kind))

-- the least kind at the first place where a rule is broken
pub record IsFirst (rules : List Rule) (kind place : ℕ) : Type 0 where
  pub is_rule : Contains rules (rule kind place false)
  pub is_first : (r : Rule) → Contains rules r → r.is_kept ≡ false → IsBefore (rule kind place false) r

abbrev pub HasFault : List ℕ → ℕ → ℕ → Type 0
HasFault text kind place = (rules : List Rule) × AreRules text rules × IsFirst rules kind place

abbrev pub KeepsRules : List ℕ → Type 0
KeepsRules text = (rules : List Rule) × AreRules text rules × AllByRecursion (λ r. r.is_kept ≡ true) rules
