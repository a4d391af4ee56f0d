use Rattle.std.proofs.Common.{◌≡◌, ℕ, List, Option, sym, ap, ◌∙◌, subst}
use Rattle.ci_reading.specs.Tokens.{token}
use Rattle.ci_vread.specs.declared.grammar.Role.{Role as RoleValue}
use Rattle.ci_vread.specs.declared.seen.Seen.{Seen as SeenValue}
use Rattle.ci_vread.specs.declared.tokens.Token.{Token as TokenValue}
use Rattle.ci_vread.specs.declared.tokens.Kind.{Kind}
use Rattle.ci_vread.specs.Lexicon.{Token, operator, name, number, constant}
use Rattle.ci_vread.specs.Grammar.{Fits, read}
use Rattle.ci_vread.specs.private.Scanned.{symbol_of, symbol_by, text_of}
use Rattle.ci_vread.specs.private.Scanning.{kind_of}
use Rattle.ci_vread.specs.private.Tables.{role_of}
use Rattle.ci_vread.specs.private.Checked.{StepsOn, Suits}
use Rattle.ci_vread.proofs.RoleLaws.{suits}
use Rattle.ci_vread.proofs.seen.Seen.read.Goals as goal

abbrev Notes : List ℕ → TokenValue → SeenValue → SeenValue → Option ℕ → RoleValue → Type 0
Notes text value old new broken r = (t : Token) → symbol_of text value ≡ token t → Fits (role_of r) t → StepsOn old new broken (read (role_of r) t)

-- what is noted of the token that the value stands for, where it is of this kind, is noted in this role
noted : (text : List ℕ) (value : TokenValue) (old new : SeenValue) (broken : Option ℕ) {role r : RoleValue} → role ≡ r → (u : Token)
    → (value.kind ≡ kind_of u → symbol_of text value ≡ token u) → (Suits r value.kind (text_of text value) → value.kind ≡ kind_of u)
    → StepsOn old new broken (read (role_of r) u) → Notes text value old new broken role
noted text value old new broken {role} {r} is u found kind on =
    subst (Notes text value old new broken) (sym is)
    (λ t e fit.
    let both : token u ≡ token t = sym (found (kind (suits r value.kind (text_of text value) t e fit))) ∙ e in
    let same : u ≡ t = cc in
    subst (λ (x : Token). StepsOn old new broken (read (role_of r) x)) same on)

pub returns-in_ok-read_module-in-Module-clause-on : goal.returns-in_ok-read_module-in-Module-clause-on
returns-in_ok-read_module-in-Module-clause-on c =
    noted c.args.text.now c.args.token c.args.self.now c.read_module.new.self c.in_ok-read_module-in-Module.field-0 c.in-Module.is
    (name c.name_of.result.now) c.name_of.ensures (λ k. k) c.in_ok-read_module-in-Module.ensures.on

pub returns-in-High-clause-on : goal.returns-in-High-clause-on
returns-in-High-clause-on c =
    noted c.args.text.now c.args.token c.args.self.now c.read_high.new.self c.read_high.result c.in-High.is
    (number c.number_of.result) c.number_of.ensures (λ k. k) c.read_high.ensures.on

pub returns-in-Name-clause-on : goal.returns-in-Name-clause-on
returns-in-Name-clause-on c =
    noted c.args.text.now c.args.token c.args.self.now c.read_name.new.self c.read_name.result c.in-Name.is
    (name c.name_of-in-Name.result.now) c.name_of-in-Name.ensures (λ k. k) c.read_name.ensures.on

pub returns-in-Target-clause-on : goal.returns-in-Target-clause-on
returns-in-Target-clause-on c =
    noted c.args.text.now c.args.token c.args.self.now c.read_target.new.self c.read_target.result c.in-Target.is
    (name c.name_of-in-Target.result.now) c.name_of-in-Target.ensures (λ k. k) c.read_target.ensures.on

pub returns-in-Index-clause-on : goal.returns-in-Index-clause-on
returns-in-Index-clause-on c =
    noted c.args.text.now c.args.token c.args.self.now c.read_index.new.self c.read_index.result c.in-Index.is
    (number c.number_of-in-Index.result) c.number_of-in-Index.ensures (λ k. k) c.read_index.ensures.on

pub returns-in-Low-clause-on : goal.returns-in-Low-clause-on
returns-in-Low-clause-on c =
    noted c.args.text.now c.args.token c.args.self.now c.read_low.new.self c.read_low.result c.in-Low.is
    (number c.number_of-in-Low.result) c.number_of-in-Low.ensures (λ k. k) c.read_low.ensures.on

pub returns-in-Count-clause-on : goal.returns-in-Count-clause-on
returns-in-Count-clause-on c =
    noted c.args.text.now c.args.token c.args.self.now c.read_count.new.self c.read_count.result c.in-Count.is
    (number c.number_of-in-Count.result) c.number_of-in-Count.ensures (λ k. k) c.read_count.ensures.on

pub returns-in-Use-clause-on : goal.returns-in-Use-clause-on
returns-in-Use-clause-on c =
    subst (Notes c.args.text.now c.args.token c.args.self.now c.read_use.new.self c.read_use.result) (sym c.in-Use.is)
    (λ t e fit. c.read_use.ensures.on t (c.used_name.ensures t e fit))

pub returns-in-Constant-clause-on : goal.returns-in-Constant-clause-on
returns-in-Constant-clause-on c =
    let t = constant c.constant_of-width.result.0 c.constant_of-width.result.1 in
    noted c.args.text.now c.args.token c.args.self.now c.read_constant.new.self c.read_constant.result c.in-Constant.is
    t c.constant_of-width.ensures (λ k. k) c.read_constant.ensures.on

pub returns-in-Operator-kind-clause-on : goal.returns-in-Operator-kind-clause-on
returns-in-Operator-kind-clause-on c =
    noted c.args.text.now c.args.token c.args.self.now c.read_operator.new.self c.read_operator.result c.in-Operator.is
    (operator c.in-Operator-kind.operator) (λ is. ap (λ (k : Kind). symbol_by k (text_of c.args.text.now c.args.token)) is)
    (λ _. c.in-Operator-kind.is) c.read_operator.ensures.on
