-- The module of a unit keeps what every module keeps.
use Rattle.std.proofs.Common.{◌≡◌, ℕ, zero, suc, ◌+◌, ◌*◌, ◌<◌, ◌≤◌, ◌⊎◌, List, [], ◌∷◌, ◌++◌, map, length, Contains}
use Rattle.std.proofs.Common.{slice_index_or, decimal, refl, sym, ap, ◌∙◌, subst, arith, inl, inr, append_assoc}
use Rattle.std.proofs.Common.{append-nil, length-append, lit<}
use Rattle.std.proofs.lemmas.List.{map-append, length-map}
use Rattle.std.proofs.lemmas.Bool.{cases_lt, lt-ltb}
use Rattle.std.proofs.lemmas.List.Folds.{list_any_at}
use Rattle.std.proofs.Common.{add-zero, Bool, true, false, ◌||◌, nat_lt, ◌≢◌, true≢false}
use Rattle.std.specs.Prelude.{⊤, codes}
use Rattle.std.specs.List.{AllByRecursion, list_any}
use Rattle.std.proofs.lemmas.List.Elements.{Contains-append_left, Contains-append_right, Contains-append_cases}
use Rattle.std.proofs.lemmas.Fmt.{decimal_nonempty, decimal_injective}
use Rattle.ci_reading.proofs.BrokenLaws.{kept_append}
use Rattle.ci_word.specs.declared.arithmetic.Op.{Op}
use Rattle.ci_verilog.specs.declared.expressions.Wire.{Wire}
use Rattle.ci_verilog.specs.Modules.{Known, vector, inputs, wires_of, declared_by, known_by, nothing}
use Rattle.ci_verilog.specs.Modules.{IsTerm, IsExpr, IsNew, AreWires, IsFree, AreFree, IsModule}
use Rattle.ci_unit.specs.declared.operations.Arg.{Arg}
use Rattle.ci_unit.specs.declared.operations.Arg.TheVariants.{Input, Earlier, Constant}
use Rattle.ci_unit.specs.declared.operations.UnitOp.{UnitOp}
use Rattle.ci_unit.specs.Units.{Unit, IsArg, IsOp, IsUnit, no_op, op_at}
use Rattle.ci_vemit.specs.Templates.{p, q, t, template, numbered, numbered_wire, input_name, operand, op_wires, wires_from}
use Rattle.ci_vemit.specs.Templates.{is_further, takes_further, is_wide, output_at, module_of}
use Rattle.ci_vemit.proofs.NumberedParts.{Carries, numbered_is_expr}
use Rattle.ci_vemit.proofs.TemplateWires.{IsLetter, AllLetters, letter_of, letters_more, free_is_new, is_whole, is_constant, operands, IsTemplate, template_is}

-- ---- lists

module _ {A B : Type 0} (f : A → B) where
  pub map_contains : (xs : List A) (x : A) → Contains xs x → Contains (map f xs) (f x)
  map_contains [] x is = absurd (omega (arith, is.1))
  map_contains (first ∷ xs) x (zero, below, is) = (0, omega arith, ap f is)
  map_contains (first ∷ xs) x (suc k, below, is) =
      let r = map_contains xs x (k, omega arith, is) in (suc r.0, omega (arith, r.1), r.2)

  from_map : (xs : List A) (y : B) → Contains (map f xs) y → (x : A) × Contains xs x × (f x ≡ y)
  from_map [] y is = absurd (omega (arith, is.1))
  from_map (first ∷ xs) y (zero, below, is) = (first, (0, omega arith, refl), is)
  from_map (first ∷ xs) y (suc k, below, is) =
      let r = from_map xs y (k, omega arith, is) in (r.0, (suc r.1.0, omega (arith, r.1.1), r.1.2), r.2)

pub wires_append : (known : List Known) (xs ys : List Wire) → AreWires known xs → AreWires (known ++ map declared_by xs) ys
    → AreWires known (xs ++ ys)
wires_append known [] ys are more = subst (λ k. AreWires k ys) (append-nil known) more
wires_append known (x ∷ xs) ys are more = (
  are.0,
  wires_append (known ++ declared_by x ∷ []) xs ys are.1
      (subst (λ k. AreWires k ys) (sym (append_assoc known (declared_by x ∷ []) (map declared_by xs))) more),
)

-- ---- names

abbrev numbered_known : ℕ → Known → Known
numbered_known n k = vector (numbered n k.name) k.width

-- a name of an input, or of an operation before n
abbrev IsBefore : ℕ → List ℕ → Type 0
IsBefore n name = (length name ≡ 1) ⊎ ((byte : ℕ) × (m : ℕ) × (m < n) × (name ≡ byte ∷ decimal m))

abbrev AllBefore : ℕ → List Known → Type 0
AllBefore n known = (k : Known) → Contains known k → IsBefore n k.name

-- operation n brings names of its own
not_before : (n byte : ℕ) → n < 256 → ¬ IsBefore n (byte ∷ decimal n)
not_before n byte few (inl short) =
    let some : 0 < length (decimal n) = decimal_nonempty n (omega arith) in absurd (omega arith)
not_before n byte few (inr (other, m, below, same)) =
    let digits : decimal n ≡ decimal m = cc in
    let e : n ≡ m = decimal_injective n m (omega arith) (omega arith) digits in
    absurd (omega arith)

name_of_letter : (n : ℕ) (name : List ℕ) (byte : ℕ) → name ≡ byte ∷ [] → numbered n name ≡ byte ∷ decimal n
name_of_letter n name byte is = ap (λ l. l ++ decimal n) is

same_letter : (n : ℕ) (letter name : List ℕ) → IsLetter letter → IsLetter name → numbered n letter ≡ numbered n name → letter ≡ name
same_letter n letter name of_letter of_name same =
    let e : (of_letter.0 ∷ decimal n) ≡ (of_name.0 ∷ decimal n) =
    sym (name_of_letter n letter of_letter.0 of_letter.1) ∙ same ∙ name_of_letter n name of_name.0 of_name.1 in
    let f : of_letter.0 ≡ of_name.0 = cc in
    of_letter.1 ∙ ap (λ byte. byte ∷ []) f ∙ sym of_name.1

-- ---- the lines of one operation

module _ (n : ℕ) (few : n < 256) (known : List Known) (before : AllBefore n known) where
  new_name : (letters : List Known) (name : List ℕ) → AllLetters letters → IsLetter name → IsNew letters name
      → IsNew (known ++ map (numbered_known n) letters) (numbered n name)
  new_name letters name are is new width has =
      elim (Contains-append_cases known (map (numbered_known n) letters) (vector (numbered n name) width) has) [
        | inl old ↦ not_before n is.0 few (subst (IsBefore n) (name_of_letter n name is.0 is.1) (before (vector (numbered n name) width) old))
        | inr own ↦
            let r = from_map (numbered_known n) letters (vector (numbered n name) width) own in
            let e : r.0.name ≡ name = same_letter n r.0.name name (letter_of letters r.0 are r.1) is (ap (λ k. k.name) r.2) in
            new r.0.width (subst (λ l. Contains letters (vector l r.0.width)) e r.1)
      ]

  carries : (letters : List Known) → Carries n letters (known ++ map (numbered_known n) letters)
  carries letters letter width is =
      Contains-append_right known (map (numbered_known n) letters) (vector (numbered n letter) width)
      (map_contains (numbered_known n) letters (vector letter width) is)

  more_letters : (letters : List Known) (k : Known)
      → known ++ map (numbered_known n) (letters ++ k ∷ []) ≡ (known ++ map (numbered_known n) letters) ++ numbered_known n k ∷ []
  more_letters letters k =
      ap (λ ks. known ++ ks) (map-append (numbered_known n) letters (k ∷ []))
      ∙ sym (append_assoc known (map (numbered_known n) letters) (numbered_known n k ∷ []))

  numbered_are_wires : (letters : List Known) (lines : List Wire) → AllLetters letters → AllLetters (map declared_by lines)
      → AreWires letters lines → AreWires (known ++ map (numbered_known n) letters) (map (numbered_wire n) lines)
  numbered_are_wires letters [] are own keep = tt
  numbered_are_wires letters (line ∷ lines) are own keep = (
    record {
      is_new = new_name letters line.name are own.0 keep.0.is_new;
      least = keep.0.least;
      most = keep.0.most;
      value =
          numbered_is_expr n letters (known ++ map (numbered_known n) letters) (carries letters) line.value line.width keep.0.value;
    },
    subst (λ ks. AreWires ks (map (numbered_wire n) lines)) (more_letters letters (declared_by line))
        (numbered_are_wires (letters ++ declared_by line ∷ []) lines (letters_more letters (declared_by line) are own.0) own.1 keep.1),
  )

-- the argument is no input that the module doesn't have
abbrev pub IsTaken : Bool → Arg → Type 0
IsTaken wide (Input i) = i < length (inputs wide)
IsTaken wide (Earlier m) = ⊤
IsTaken wide (Constant word) = ⊤

-- operation n of a wide module's unit, or of a narrow one's
pub record IsOpOf (wide : Bool) (n : ℕ) (op : UnitOp) : Type 0 where
  pub is : IsOp n op
  pub left : IsTaken wide op.left
  pub right : IsTaken wide op.right

-- what operation n may be applied to is known
pub record HasOperands (wide : Bool) (n : ℕ) (known : List Known) : Type 0 where
  pub inputs_are : (i : ℕ) → i < length (inputs wide) → Contains known (vector (input_name i) 32)
  pub results_are : (m : ℕ) → m < n → Contains known (vector (numbered m t) 32)

wider : (wide : Bool) (n : ℕ) (known more : List Known) → HasOperands wide n known → HasOperands wide n (known ++ more)
wider wide n known more has = record {
  inputs_are = λ i below. Contains-append_left known more (vector (input_name i) 32) (has.inputs_are i below);
  results_are = λ m below. Contains-append_left known more (vector (numbered m t) 32) (has.results_are m below);
}

operand_is : (wide : Bool) (n : ℕ) (known : List Known) (arg : Arg) → HasOperands wide n known → IsArg n arg → IsTaken wide arg
    → IsTerm known (operand arg) 32
operand_is wide n known (Input i) has is taken = is_whole known (input_name i) 32 (has.inputs_are i taken)
operand_is wide n known (Earlier m) has is taken = is_whole known (numbered m t) 32 (has.results_are m is)
operand_is wide n known (Constant word) has is taken = is_constant known word is

operand_letters : AllLetters operands
operand_letters = ((112, refl), ((113, refl), tt))

op_wires_are : (wide : Bool) (n : ℕ) (op : UnitOp) (known : List Known) → n < 256 → AllBefore n known → HasOperands wide n known
    → IsOpOf wide n op → AreWires known (op_wires n op)
op_wires_are wide n op known few before has of = (
  record {
    is_new = subst (λ ks. IsNew ks (numbered n p)) (append-nil known) (new_name n few known before [] p tt (112, refl) (free_is_new [] p refl));
    least = omega arith;
    most = omega arith;
    value = IsExpr.one (operand_is wide n known op.left has of.is.left of.left);
  },
  (
    record {
      is_new = new_name n few known before (vector p 32 ∷ []) q ((112, refl), tt) (113, refl) (free_is_new (vector p 32 ∷ []) q refl);
      least = omega arith;
      most = omega arith;
      value =
          IsExpr.one (operand_is wide n (known ++ vector (numbered n p) 32 ∷ []) op.right
          (wider wide n known (vector (numbered n p) 32 ∷ []) has) of.is.right of.right);
    },
    subst (λ ks. AreWires ks (map (numbered_wire n) (template op.op)))
        (sym (append_assoc known (vector (numbered n p) 32 ∷ []) (vector (numbered n q) 32 ∷ [])))
        (numbered_are_wires n few known before operands (template op.op) operand_letters lines.are_letters lines.are_wires),
  ),
)
  where
    lines : IsTemplate (template op.op)
    lines = template_is op.op of.is.no_division

-- ---- all operations

-- what is known before operation n
pub record Ready (wide : Bool) (n : ℕ) (known : List Known) : Type 0 where
  pub before : AllBefore n known
  pub operands_are : HasOperands wide n known

declared_numbered : (n : ℕ) (lines : List Wire) → map declared_by (map (numbered_wire n) lines) ≡ map (numbered_known n) (map declared_by lines)
declared_numbered n [] = refl
declared_numbered n (line ∷ lines) = λ t. numbered_known n (declared_by line) ∷ declared_numbered n lines t

-- the letters of an operation
abbrev letters_of : Op → List Known
letters_of op = vector p 32 ∷ vector q 32 ∷ map declared_by (template op)

declared_by_op : (n : ℕ) (op : UnitOp) → map declared_by (op_wires n op) ≡ map (numbered_known n) (letters_of op.op)
declared_by_op n op = λ t. vector (numbered n p) 32 ∷ vector (numbered n q) 32 ∷ declared_numbered n (template op.op) t

ready_next : (wide : Bool) (n : ℕ) (op : UnitOp) (known : List Known) → IsOp n op → Ready wide n known
    → Ready wide (suc n) (known ++ map declared_by (op_wires n op))
ready_next wide n op known is ready =
    subst (λ ks. Ready wide (suc n) (known ++ ks)) (sym (declared_by_op n op)) (record {
      before = λ k has. elim (Contains-append_cases known (map (numbered_known n) (letters_of op.op)) k has) [
        | inl old ↦ later k.name (ready.before k old)
        | inr own ↦
            let r = from_map (numbered_known n) (letters_of op.op) k own in
            let l = letter_of (letters_of op.op) r.0 are_letters r.1 in
            inr (l.0, n, omega arith, sym (ap (λ k. k.name) r.2) ∙ name_of_letter n r.0.name l.0 l.1)
      ];
      operands_are = record {
        inputs_are = (wider wide n known (map (numbered_known n) (letters_of op.op)) ready.operands_are).inputs_are;
        results_are = results;
      };
    })
  where
    lines : IsTemplate (template op.op)
    lines = template_is op.op is.no_division

    are_letters : AllLetters (letters_of op.op)
    are_letters = ((112, refl), ((113, refl), lines.are_letters))

    later : (name : List ℕ) → IsBefore n name → IsBefore (suc n) name
    later name (inl short) = inl short
    later name (inr (byte, m, below, same)) = inr (byte, m, omega arith, same)

    has_t : Contains (letters_of op.op) (vector t 32)
    has_t = Contains-append_right operands (map declared_by (template op.op)) (vector t 32) lines.has_result

    results : (m : ℕ) → m < suc n → Contains (known ++ map (numbered_known n) (letters_of op.op)) (vector (numbered m t) 32)
    results m below =
        elim (cases_lt m n) [
          | inl early ↦ (wider wide n known (map (numbered_known n) (letters_of op.op)) ready.operands_are).results_are m early
          | inr late ↦
              let e : n ≡ m = omega arith in
              subst (λ m. Contains (known ++ map (numbered_known n) (letters_of op.op)) (vector (numbered m t) 32)) e
              (Contains-append_right known (map (numbered_known n) (letters_of op.op)) (vector (numbered n t) 32)
              (map_contains (numbered_known n) (letters_of op.op) (vector t 32) has_t))
        ]

-- each operation is one of a unit, where the first is operation n
abbrev pub AreOps : Bool → ℕ → List UnitOp → Type 0
AreOps wide n [] = ⊤
AreOps wide n (op ∷ ops) = IsOpOf wide n op × AreOps wide (suc n) ops

pub are_ops : (wide : Bool) (n : ℕ) (ops : List UnitOp) → ((k : ℕ) → k < length ops → IsOpOf wide (n + k) (slice_index_or ops k no_op))
    → AreOps wide n ops
are_ops wide n [] is = tt
are_ops wide n (op ∷ ops) is = (
  subst (λ m. IsOpOf wide m op) (add-zero n) (is 0 (omega arith)),
  are_ops wide (suc n) ops
      (λ k below. subst (λ m. IsOpOf wide m (slice_index_or ops k no_op)) (let e : n + suc k ≡ suc n + k = omega arith in e) (is (suc k) (omega arith))),
)

record AreWiresOf (wide : Bool) (n : ℕ) (ops : List UnitOp) (known : List Known) : Type 0 where
  are_wires : AreWires known (wires_from n ops)
  ready : Ready wide (n + length ops) (known ++ map declared_by (wires_from n ops))

wires_are : (wide : Bool) (n : ℕ) (ops : List UnitOp) (known : List Known) → n + length ops ≤ 256 → AreOps wide n ops → Ready wide n known
    → AreWiresOf wide n ops known
wires_are wide n [] known few are ready = record {
  are_wires = tt;
  ready = subst (λ m. Ready wide m (known ++ [])) (sym (add-zero n)) (subst (λ ks. Ready wide n ks) (sym (append-nil known)) ready);
}
wires_are wide n (op ∷ ops) known few are ready =
    let rest = wires_are wide (suc n) ops (known ++ map declared_by (op_wires n op)) (omega arith) are.1 (ready_next wide n op known are.0.is ready) in
    record {
      are_wires =
          wires_append known (op_wires n op) (wires_from (suc n) ops)
          (op_wires_are wide n op known (omega arith) ready.before ready.operands_are are.0) rest.are_wires;
      ready =
          subst (λ m. Ready wide m (known ++ map declared_by (op_wires n op ++ wires_from (suc n) ops)))
          (let e : suc n + length ops ≡ n + suc (length ops) = omega arith in e)
          (subst (λ ks. Ready wide (suc n + length ops) ks)
          (append_assoc known (map declared_by (op_wires n op)) (map declared_by (wires_from (suc n) ops))
          ∙ ap (λ ks. known ++ ks) (sym (map-append declared_by (op_wires n op) (wires_from (suc n) ops)))) rest.ready);
    }

-- six wires an operation
few_wires : (wide : Bool) (n : ℕ) (ops : List UnitOp) → AreOps wide n ops → length (wires_from n ops) ≤ 6 * length ops
few_wires wide n [] are = omega arith
few_wires wide n (op ∷ ops) are =
    let first : length (map (numbered_wire n) (template op.op)) ≤ 4 =
    rw length-map (template_is op.op are.0.is.no_division).few in
    let rest = few_wires wide (suc n) ops are.1 in
    omega (arith, first, rest, length-append (op_wires n op) (wires_from (suc n) ops))

-- ---- modules

input_known : (wide : Bool) (i : ℕ) → i < length (inputs wide) → Contains (inputs wide) (vector (input_name i) 32)
input_known false zero below = (0, omega arith, refl)
input_known false (suc zero) below = (1, omega arith, refl)
input_known false (suc (suc zero)) below = (2, omega arith, refl)
input_known false (suc (suc (suc i))) below = absurd (omega arith)
input_known true zero below = (0, omega arith, refl)
input_known true (suc zero) below = (1, omega arith, refl)
input_known true (suc (suc zero)) below = (2, omega arith, refl)
input_known true (suc (suc (suc zero))) below = (3, omega arith, refl)
input_known true (suc (suc (suc (suc zero)))) below = (4, omega arith, refl)
input_known true (suc (suc (suc (suc (suc i))))) below = absurd (omega arith)

each_short : (known : List Known) → AllByRecursion (λ k. length k.name ≡ 1) known → (k : Known) → Contains known k → length k.name ≡ 1
each_short [] all k (j, below, is) = absurd (omega arith)
each_short (v ∷ known) all k (zero, below, is) = sym (ap (λ k. length k.name) is) ∙ all.0
each_short (v ∷ known) all k (suc j, below, is) = each_short known all.1 k (j, omega arith, is)

inputs_short : (wide : Bool) → AllByRecursion (λ k. length k.name ≡ 1) (inputs wide)
inputs_short false = (refl, (refl, (refl, tt)))
inputs_short true = (refl, (refl, (refl, (refl, (refl, tt)))))

ready_first : (wide : Bool) → Ready wide 0 (inputs wide)
ready_first wide = record {
  before = λ k is. inl (each_short (inputs wide) (inputs_short wide) k is);
  operands_are = record { inputs_are = input_known wide; results_are = λ m below. absurd (omega arith) };
}

output_is : (wide : Bool) (n : ℕ) (known : List Known) (outputs : List ℕ) (k : ℕ) → HasOperands wide n known
    → ((m : ℕ) → Contains outputs m → m < n) → IsExpr known (output_at outputs k) 32
output_is wide n known [] k has are = IsExpr.one (is_constant known 0 (lit< tt))
output_is wide n known (m ∷ outputs) zero has are =
    IsExpr.one (is_whole known (numbered m t) 32 (has.results_are m (are m (0, omega arith, refl))))
output_is wide n known (m ∷ outputs) (suc k) has are =
    output_is wide n known outputs k has (λ j is. are j (suc is.0, omega (arith, is.1), is.2))

-- ---- the operations of a unit

-- an argument is an input of the module, which is wide where it is a further one
taken : (wide : Bool) (n : ℕ) (arg : Arg) → IsArg n arg → (is_further arg ≡ true → wide ≡ true) → IsTaken wide arg
taken true n (Input i) is wide = is
taken false n (Input i) is wide = elim (cases_lt i 3) [
  | inl below ↦ below
  | inr past ↦ absurd (true≢false (sym (wide (lt-ltb 2 i past))))
]
taken wide n (Earlier m) is of = tt
taken wide n (Constant word) is of = tt

either : (a b c : Bool) → (a || b ≡ true → c ≡ true) → (a ≡ true → c ≡ true) × (b ≡ true → c ≡ true)
either true b c both = ((λ e. both refl), λ e. both refl)
either false b c both = ((λ e. absurd (true≢false (sym e))), both)

module _ (unit : Unit) (is : IsUnit unit) where
  wide_by_op : (k : ℕ) → k < length unit.ops → takes_further (op_at unit k) ≡ true → is_wide unit ≡ true
  wide_by_op k below takes =
      ap (λ b. b || nat_lt 2 (length unit.outputs)) (list_any_at takes_further unit.ops k no_op below takes)

  op_of_unit : (k : ℕ) → k < length unit.ops → IsOpOf (is_wide unit) k (op_at unit k)
  op_of_unit k below =
      let op : UnitOp = op_at unit k in
      let op_is : IsOp k op = is.ops k below in
      let each = either (is_further op.left) (is_further op.right) (is_wide unit) (wide_by_op k below) in
      record { is = op_is; left = taken (is_wide unit) k op.left op_is.left each.0; right = taken (is_wide unit) k op.right op_is.right each.1 }

  pub ops_of_unit : AreOps (is_wide unit) 0 unit.ops
  ops_of_unit =
      are_ops (is_wide unit) 0 unit.ops
      (λ k below. subst (λ m. IsOpOf (is_wide unit) m (op_at unit k)) (let e : k ≡ 0 + k = omega arith in e) (op_of_unit k below))

  wires_of_unit : AreWiresOf (is_wide unit) 0 unit.ops (inputs (is_wide unit))
  wires_of_unit = wires_are (is_wide unit) 0 unit.ops (inputs (is_wide unit)) (omega (arith, is.few)) ops_of_unit (ready_first (is_wide unit))

  pub result_is_known : (m : ℕ) → m < length unit.ops
      → Contains (known_by (wires_of (is_wide unit) (wires_from 0 unit.ops))) (vector (numbered m t) 32)
  result_is_known m below = wires_of_unit.ready.operands_are.results_are m (omega arith)

  -- the results may stand behind the wires
  pub output_is_allowed : (k : ℕ) → IsExpr (known_by (wires_of (is_wide unit) (wires_from 0 unit.ops))) (output_at unit.outputs k) 32
  output_is_allowed k =
      output_is (is_wide unit) (0 + length unit.ops) (known_by (wires_of (is_wide unit) (wires_from 0 unit.ops))) unit.outputs k
      wires_of_unit.ready.operands_are
      (λ m has. let e = is.outputs m has in omega (arith, e))

-- ---- no wire is named as the result x

-- a letter with a number has two bytes at least
long_name : (n : ℕ) (letter : List ℕ) → n < 256 → IsLetter letter → numbered n letter ≢ codes "x"
long_name n letter few is same =
    let some : 0 < length (decimal n) = decimal_nonempty n (omega arith) in
    let e : length (is.0 ∷ decimal n) ≡ 1 = ap length (sym (name_of_letter n letter is.0 is.1) ∙ same) in
    absurd (omega arith)

lines_free : (wide : Bool) (n : ℕ) → n < 256 → (lines : List Wire) → AllLetters (map declared_by lines)
    → AreFree wide (map (numbered_wire n) lines)
lines_free wide n few [] are = tt
lines_free wide n few (line ∷ lines) are = ((λ is. long_name n line.name few are.0), lines_free wide n few lines are.1)

wires_free : (wide : Bool) (n : ℕ) (ops : List UnitOp) → n + length ops ≤ 256 → AreOps wide n ops → AreFree wide (wires_from n ops)
wires_free wide n [] few are = tt
wires_free wide n (op ∷ ops) few are =
    let lines : IsTemplate (template op.op) = template_is op.op are.0.is.no_division in (
      (λ is. long_name n p (omega arith) (112, refl)),
      (
        (λ is. long_name n q (omega arith) (113, refl)),
        kept_append (λ w. IsFree wide w.name) (map (numbered_wire n) (template op.op)) (wires_from (suc n) ops)
            (lines_free wide n (omega arith) (template op.op) lines.are_letters) (wires_free wide (suc n) ops (omega arith) are.1),
      ),
    )

-- ---- the module

-- a narrow module's unit has no third output
no_third : (outputs : List ℕ) (b : Bool) → (b || nat_lt 2 (length outputs)) ≡ false → output_at outputs 2 ≡ nothing
no_third outputs true narrow = absurd (true≢false narrow)
no_third [] false narrow = refl
no_third (x ∷ []) false narrow = refl
no_third (x ∷ y ∷ []) false narrow = refl
no_third (x ∷ y ∷ z ∷ rest) false narrow = absurd (true≢false (sym (lt-ltb 2 (length (x ∷ y ∷ z ∷ rest)) (omega arith)) ∙ narrow))

pub nothing_behind : (unit : Unit) → is_wide unit ≡ false → output_at unit.outputs 2 ≡ nothing
nothing_behind unit narrow = no_third unit.outputs (list_any takes_further unit.ops) narrow

pub module_is : (k : ℕ) (unit : Unit) → IsUnit unit → IsModule (module_of k unit)
module_is k unit is =
    let few : length (wires_from 0 unit.ops) ≤ 2048 = omega (arith, few_wires (is_wide unit) 0 unit.ops (ops_of_unit unit is), is.few) in
    record {
      are_wires = (wires_of_unit unit is).are_wires;
      are_free = wires_free (is_wide unit) 0 unit.ops (omega (arith, is.few)) (ops_of_unit unit is);
      few = few;
      y = output_is_allowed unit is 0;
      z = output_is_allowed unit is 1;
      x = output_is_allowed unit is 2;
      narrow = nothing_behind unit;
    }
