-- For private contracts: what the values in the tables of the grammar stand for.
use Rattle.std.specs.Prelude.{⊤, Bool, true, false, List, [], ◌∷◌, map, reverse}
use Rattle.ci_vread.specs.declared.grammar.Role.{Role as RoleValue}
use Rattle.ci_vread.specs.declared.grammar.Role.TheVariants as role
use Rattle.ci_vread.specs.declared.grammar.End.{End as EndValue}
use Rattle.ci_vread.specs.declared.grammar.End.TheVariants as end
use Rattle.ci_vread.specs.declared.grammar.Phrase.{Phrase as PhraseValue}
use Rattle.ci_vread.specs.declared.grammar.Phrase.TheVariants as phrase
use Rattle.ci_vread.specs.declared.grammar.Part.{Part as PartValue}
use Rattle.ci_vread.specs.declared.grammar.Part.TheVariants as part
use Rattle.ci_vread.specs.declared.tokens.Kind.{Kind}
use Rattle.ci_vread.specs.declared.tokens.Kind.TheVariants as kind
use Rattle.ci_vread.specs.declared.tokens.Sign.TheVariants.{NameA, NameB, NameC}
use Rattle.ci_vread.specs.Lexicon.{sign, number, name}
use Rattle.ci_vread.specs.Grammar.{Role, is, its_cycles, its_module, its_high, its_name, its_target, its_use, its_index}
use Rattle.ci_vread.specs.Grammar.{its_low, its_count, its_constant, its_operator, End, of_simple, of_term, of_side}
use Rattle.ci_vread.specs.Grammar.{of_condition, of_branch, of_operand, of_wire, of_wires, of_three}
use Rattle.ci_vread.specs.Grammar.{Phrase, units, body, wires, side, others, term, inside, item, items, simple, bits}
use Rattle.ci_vread.specs.Grammar.{range, Part, reads, ends, made}

abbrev pub role_of : RoleValue → Role
role_of (role.Sign s) = is (sign s)
role_of (role.Number n) = is (number n)
role_of (role.Letter c) = is (name (c ∷ []))
role_of role.Cycles = its_cycles
role_of role.Module = its_module
role_of role.High = its_high
role_of role.Name = its_name
role_of role.Target = its_target
role_of role.Use = its_use
role_of role.Index = its_index
role_of role.Low = its_low
role_of role.Count = its_count
role_of role.Constant = its_constant
role_of role.Operator = its_operator

abbrev pub end_of : EndValue → End
end_of end.Simple = of_simple
end_of end.Term = of_term
end_of end.Side = of_side
end_of end.Condition = of_condition
end_of end.Branch = of_branch
end_of end.Operand = of_operand
end_of end.Wire = of_wire
end_of end.Wires = of_wires
end_of end.Three = of_three

abbrev pub phrase_of : PhraseValue → Phrase
phrase_of phrase.Units = units
phrase_of phrase.Body = body
phrase_of phrase.Wires = wires
phrase_of phrase.Side = side
phrase_of phrase.Others = others
phrase_of phrase.Term = term
phrase_of phrase.Inside = inside
phrase_of phrase.Item = item
phrase_of phrase.Items = items
phrase_of phrase.Simple = simple
phrase_of phrase.Bits = bits
phrase_of phrase.Range = range

abbrev pub part_of : PartValue → Part
part_of (part.Reads r) = reads (role_of r)
part_of (part.Ends e) = ends (end_of e)
part_of (part.Made p) = made (phrase_of p)

-- the parts that are due, the next one last
abbrev pub due_of : List PartValue → List Part
due_of stack = map part_of (reverse stack)

abbrev pub IsOperator : Kind → Type 0
IsOperator (kind.Operator o) = ⊤
IsOperator k = ⊥

-- a name, or a word for an input
abbrev pub IsUse : Kind → Type 0
IsUse kind.Name = ⊤
IsUse (kind.Sign NameA) = ⊤
IsUse (kind.Sign NameB) = ⊤
IsUse (kind.Sign NameC) = ⊤
IsUse k = ⊥

-- the phrase's end is seen only by the symbol behind it
abbrev pub needs_next : PhraseValue → Bool
needs_next phrase.Bits = true
needs_next phrase.Others = true
needs_next p = false
