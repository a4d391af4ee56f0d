-- The text of an expression is written by tokens that spell it, and so are its parts.
use Rattle.std.proofs.Common.{false, ◌≡◌, ℕ, zero, suc, ◌*◌, ◌<◌, ◌≤◌, Bool, true, false, cond, ◌==◌, List, [], ◌∷◌, ◌++◌, length, refl, sym, subst}
use Rattle.std.proofs.Common.{arith, append-nil, lit≤}
use Rattle.std.specs.Prelude.{codes}
use Rattle.std.specs.List.{AllByRecursion, Contains, join_by, slice_index_or}
use Rattle.std.specs.Fmt.{decimal}
use Rattle.std.proofs.Math.Nat.{le-mul_of_pos_right}
use Rattle.std.proofs.lemmas.Bool.{eqb-true}
use Rattle.ci_verilog.specs.declared.expressions.Simple.{Simple}
use Rattle.ci_verilog.specs.declared.expressions.Simple.TheVariants.{Whole, Bits}
use Rattle.ci_verilog.specs.declared.expressions.Item.{Item}
use Rattle.ci_verilog.specs.declared.expressions.Term.{Term}
use Rattle.ci_verilog.specs.declared.expressions.Term.TheVariants as as_term
use Rattle.ci_verilog.specs.declared.expressions.Operator.{Operator}
use Rattle.ci_verilog.specs.declared.expressions.Operator.TheVariants as operators
use Rattle.ci_verilog.specs.declared.expressions.Expr.{Expr}
use Rattle.ci_verilog.specs.declared.expressions.Wire.{Wire}
use Rattle.ci_verilog.specs.Modules.{Known, vector, inputs, declared_by, IsSimple, IsItem, AreItems, IsTerm, IsExpr, IsWire}
use Rattle.ci_vread.specs.declared.tokens.Sign.TheVariants.{NameA, NameB, NameC, LeftBracket, RightBracket, LeftBrace, RightBrace, Comma, Colon, Question}
use Rattle.ci_vread.specs.Lexicon.{Token, sign, operator, name, number, constant, operator_spelling, Spells, of_sign, of_operator, of_name}
use Rattle.ci_vread.specs.Grammar.{Fits, its_use, a_use, input_a, input_b, input_c}
use Rattle.ci_vread.specs.Rules.{bytes_of}
use Rattle.ci_vread.specs.Spelling.{SpellsSimple, whole_name, one_bit, some_bits, some_constant, repeated, SpellsItem, SpellsItems, SpellsTerm, SpellsExpr}
use Rattle.ci_vemit.specs.Texts.{simple_text, repeat_text, item_text, term_text, expr_text, IsName}
use Rattle.ci_vemit.proofs.NameLaws.{further_name_is}
use Rattle.ci_vemit.proofs.TokenBytes.{is_word, name_joins, word_of_joins}
use Rattle.ci_vemit.proofs.WrittenPhrases.{Written, none, lone, word, mark, blank, phrase, number_word, number_spelt, constant_spelt, constant_word}

-- ---- names

-- a name that a term may have
pub record IsUse (bytes : List ℕ) : Type 0 where
  pub its : Token
  pub fits : Fits its_use its
  pub bytes_are : bytes_of its ≡ bytes
  pub spelt : Spells bytes its
  pub is_word : is_word bytes ≡ true

pub record IsUsable (v : Known) : Type 0 where
  pub use_is : IsUse v.name
  pub least : 1 ≤ v.width
  pub most : v.width ≤ 64

some_letters : (bytes : List ℕ) → IsName bytes → 0 < length bytes
some_letters [] is = absurd is.letters
some_letters (c ∷ bytes) is = omega arith

pub name_word : (bytes : List ℕ) → IsName bytes → is_word bytes ≡ true
name_word bytes is = word_of_joins bytes (some_letters bytes is) (name_joins bytes is.letters)

pub name_spelt : (bytes : List ℕ) → IsName bytes → Spells bytes (name bytes)
name_spelt bytes is = of_name is.letters is.no_word is.short

use_of : (bytes : List ℕ) → IsName bytes → IsUse bytes
use_of bytes is =
    record { its = name bytes; fits = a_use bytes; bytes_are = refl; spelt = name_spelt bytes is; is_word = name_word bytes is }

input_usable : (bytes : List ℕ) → IsUse bytes → IsUsable (vector bytes 32)
input_usable bytes is = record { use_is = is; least = lit≤ tt; most = lit≤ tt }

a_usable : IsUsable (vector (codes "a") 32)
a_usable = input_usable (codes "a") (record { its = sign NameA; fits = input_a; bytes_are = refl; spelt = of_sign NameA; is_word = refl })

b_usable : IsUsable (vector (codes "b") 32)
b_usable = input_usable (codes "b") (record { its = sign NameB; fits = input_b; bytes_are = refl; spelt = of_sign NameB; is_word = refl })

c_usable : IsUsable (vector (codes "c") 32)
c_usable = input_usable (codes "c") (record { its = sign NameC; fits = input_c; bytes_are = refl; spelt = of_sign NameC; is_word = refl })

pub name_d_is : IsName (codes "d")
name_d_is = further_name_is 100 refl refl

pub name_e_is : IsName (codes "e")
name_e_is = further_name_is 101 refl refl

pub name_x_is : IsName (codes "x")
name_x_is = further_name_is 120 refl refl

pub inputs_usable : (wide : Bool) → AllByRecursion IsUsable (inputs wide)
inputs_usable false = (a_usable, (b_usable, (c_usable, tt)))
inputs_usable true =
    (a_usable, (b_usable, (c_usable, (input_usable (codes "d") (use_of (codes "d") name_d_is), (input_usable (codes "e") (use_of (codes "e") name_e_is), tt)))))

pub wire_usable : (known : List Known) (wire : Wire) → IsName wire.name → IsWire known wire → IsUsable (declared_by wire)
wire_usable known wire is kept = record { use_is = use_of wire.name is; least = kept.least; most = kept.most }

element : (known : List Known) → AllByRecursion IsUsable known → (k : ℕ) → k < length known → (d : Known) → IsUsable (slice_index_or known k d)
element [] all k below d = absurd (omega arith)
element (v ∷ known) all zero below d = all.0
element (v ∷ known) all (suc k) below d = element known all.1 k (omega arith) d

-- ---- parts of expressions

-- the text is written by tokens that spell something
pub record IsSpelt (text : List ℕ) (Spell : List Token → Type 0) : Type 0 where
  pub tokens : List Token
  pub written : Written text tokens
  pub spells : Spell tokens

module _ (known : List Known) (usable : AllByRecursion IsUsable known) where
  usable_at : (v : Known) → Contains known v → IsUsable v
  usable_at v is = subst IsUsable is.2 (element known usable is.0 is.1 v)

  some_bits_wide : (s : Simple) (w : ℕ) → IsSimple known s w → 1 ≤ w
  some_bits_wide _ _ (IsSimple.whole {name = n} {width = w} is) = (usable_at (vector n w) is).least
  some_bits_wide _ _ (IsSimple.bits is below order) = omega (arith, order)
  some_bits_wide _ _ (IsSimple.number least most below) = least

  bits_spelt : (bytes : List ℕ) (high low : ℕ) → IsUse bytes → high ≤ 9999999 → low ≤ 9999999 → (b : Bool) → (high == low) ≡ b
      → IsSpelt (bytes ++ (91 ∷ (cond b (decimal high) (decimal high ++ (58 ∷ decimal low)) ++ 93 ∷ []))) (λ k. SpellsSimple k (Bits bytes high low))
  bits_spelt bytes high low use_is high_small low_small true e = record {
    tokens = use_is.its ∷ sign LeftBracket ∷ number high ∷ sign RightBracket ∷ [];
    written = word use_is.spelt use_is.is_word refl (mark LeftBracket 91 refl refl
        (word (number_spelt high high_small) (number_word high high_small) refl (mark RightBracket 93 refl refl none)));
    spells = subst (λ n. SpellsSimple (use_is.its ∷ sign LeftBracket ∷ number high ∷ sign RightBracket ∷ []) (Bits bytes high n)) (eqb-true high low e)
        (subst (λ n. SpellsSimple (use_is.its ∷ sign LeftBracket ∷ number high ∷ sign RightBracket ∷ []) (Bits n high high)) use_is.bytes_are
        (one_bit use_is.fits));
  }
  bits_spelt bytes high low use_is high_small low_small false e = record {
    tokens = use_is.its ∷ sign LeftBracket ∷ number high ∷ sign Colon ∷ number low ∷ sign RightBracket ∷ [];
    written = word use_is.spelt use_is.is_word refl (mark LeftBracket 91 refl refl
        (phrase (word (number_spelt high high_small) (number_word high high_small) refl
        (mark Colon 58 refl refl (lone (number_spelt low low_small) (number_word low low_small)))) refl (mark RightBracket 93 refl refl none)));
    spells = subst (λ n. SpellsSimple (use_is.its ∷ sign LeftBracket ∷ number high ∷ sign Colon ∷ number low ∷ sign RightBracket ∷ []) (Bits n high low))
        use_is.bytes_are (some_bits use_is.fits);
  }

  simple_spelt : (s : Simple) (w : ℕ) → IsSimple known s w → IsSpelt (simple_text s) (λ k. SpellsSimple k s)
  simple_spelt _ _ (IsSimple.whole {name = n} {width = w} is) =
      let used = (usable_at (vector n w) is).use_is in
      record {
        tokens = used.its ∷ [];
        written = lone used.spelt used.is_word;
        spells = subst (λ b. SpellsSimple (used.its ∷ []) (Whole b)) used.bytes_are (whole_name used.fits);
      }
  simple_spelt _ _ (IsSimple.bits {name = n} {high = high} {low = low} {width = w} is below order) =
      let v = usable_at (vector n w) is in
      let narrow : w ≤ 64 = v.most in
      bits_spelt n high low v.use_is (omega (arith, below, narrow)) (omega (arith, below, order, narrow)) (high == low) refl
  simple_spelt _ _ (IsSimple.number {width = width} {value = value} least most below) = record {
    tokens = constant width value ∷ [];
    written = lone (constant_spelt width value most below) (constant_word width value most below);
    spells = some_constant;
  }

  few_copies : (count w : ℕ) → 1 ≤ w → count * w ≤ 64 → count ≤ 9999999
  few_copies count w some most = omega (arith, le-mul_of_pos_right count some, most)

  repeat_written : (count w : ℕ) (s : Simple) {tokens : List Token} → 1 ≤ w → count * w ≤ 64 → Written (simple_text s) tokens
      → Written (repeat_text count s) (repeated count tokens)
  repeat_written count w s some most written =
      let few = few_copies count w some most in
      mark LeftBrace 123 refl refl (word (number_spelt count few) (number_word count few) refl (mark LeftBrace 123 refl refl
      (phrase written refl (mark RightBrace 125 refl refl (mark RightBrace 125 refl refl none)))))

  item_spelt : (i : Item) (w : ℕ) → IsItem known i w → IsSpelt (item_text i) (λ k. SpellsItem k i)
  item_spelt _ _ (IsItem.plain {simple = s} {width = w} is) =
      let part = simple_spelt s w is in
      record { tokens = part.tokens; written = part.written; spells = SpellsItem.plain part.spells }
  item_spelt _ _ (IsItem.repeat {count = count} {width = w} {simple = s} some most is) =
      let part = simple_spelt s w is in
      record {
        tokens = repeated count part.tokens;
        written = repeat_written count w s (some_bits_wide s w is) most part.written;
        spells = SpellsItem.repeat part.spells;
      }

  items_spelt : (i : Item) (items : List Item) (w : ℕ) → AreItems known (i ∷ items) w
      → IsSpelt (join_by item_text (codes ", ") (i ∷ items)) (λ k. SpellsItems k (i ∷ items))
  items_spelt i [] w (AreItems.one is) =
      let part = item_spelt i w is in
      record {
        tokens = part.tokens;
        written = subst (λ x. Written x part.tokens) (sym (append-nil (item_text i))) part.written;
        spells = SpellsItems.last part.spells;
      }
  items_spelt i [] w (AreItems.more is are) = elim are [ ]
  items_spelt i (next ∷ items) w (AreItems.more is are) =
      let part = item_spelt i _ is in
      let others = items_spelt next items _ are in
      record {
        tokens = part.tokens ++ sign Comma ∷ others.tokens;
        written = phrase part.written refl (mark Comma 44 refl refl (blank others.written));
        spells = SpellsItems.more part.spells others.spells;
      }

  join_spelt : (items : List Item) (w : ℕ) → AreItems known items w → IsSpelt (term_text (as_term.Join items)) (λ k. SpellsTerm k (as_term.Join items))
  join_spelt [] w are = elim are [ ]
  join_spelt (i ∷ items) w are =
      let inner = items_spelt i items w are in
      record {
        tokens = sign LeftBrace ∷ inner.tokens ++ sign RightBrace ∷ [];
        written = mark LeftBrace 123 refl refl (phrase inner.written refl (mark RightBrace 125 refl refl none));
        spells = SpellsTerm.join inner.spells;
      }

  term_spelt : (t : Term) (w : ℕ) → IsTerm known t w → IsSpelt (term_text t) (λ k. SpellsTerm k t)
  term_spelt _ _ (IsTerm.plain {simple = s} {width = w} is) =
      let part = simple_spelt s w is in
      record { tokens = part.tokens; written = part.written; spells = SpellsTerm.plain part.spells }
  term_spelt _ _ (IsTerm.repeat {count = count} {width = w} {simple = s} some most is) =
      let part = simple_spelt s w is in
      record {
        tokens = repeated count part.tokens;
        written = repeat_written count w s (some_bits_wide s w is) most part.written;
        spells = SpellsTerm.repeat part.spells;
      }
  term_spelt _ _ (IsTerm.join {items = items} {width = w} are most) = join_spelt items w are

  operator_word : (o : Operator) → is_word (operator_spelling o) ≡ true
  operator_word operators.Plus = refl
  operator_word o = refl

  pub expr_spelt : (e : Expr) (w : ℕ) → IsExpr known e w → IsSpelt (expr_text e) (λ k. SpellsExpr k e)
  expr_spelt _ _ (IsExpr.one {t = t} {width = w} is) =
      let part = term_spelt t w is in
      record { tokens = part.tokens; written = part.written; spells = SpellsExpr.one part.spells }
  expr_spelt _ _ (IsExpr.two {operator = o} {l = l} {r = r} {left = left} {right = right} is_l is_r makes) =
      let first = term_spelt l left is_l in
      let second = term_spelt r right is_r in
      record {
        tokens = first.tokens ++ operator o ∷ second.tokens;
        written = phrase first.written refl (blank (word (of_operator o) (operator_word o) refl (blank second.written)));
        spells = SpellsExpr.two o first.spells second.spells;
      }
  expr_spelt _ _ (IsExpr.choose {test = t} {first = f} {second = s} {width = w} is_t is_f is_s) =
      let test = term_spelt t 1 is_t in
      let first = term_spelt f w is_f in
      let second = term_spelt s w is_s in
      record {
        tokens = test.tokens ++ sign Question ∷ (first.tokens ++ sign Colon ∷ second.tokens);
        written = phrase test.written refl (blank (mark Question 63 refl refl (blank
            (phrase first.written refl (blank (mark Colon 58 refl refl (blank second.written)))))));
        spells = SpellsExpr.choose test.spells first.spells second.spells;
      }
