-- What spells items or terms goes on and keeps every rule.
use Rattle.std.proofs.Common.{◌≡◌, ℕ, ◌+◌, ◌*◌, ◌≤◌, List, [], ◌∷◌, ◌++◌, refl, sym, arith, subst, ◌&&◌, nat_le, true}
use Rattle.std.proofs.Math.Nat.{le-mul_of_pos_right}
use Rattle.std.proofs.lemmas.Bool.{le-leb}
use Rattle.ci_verilog.specs.declared.expressions.Simple.{Simple}
use Rattle.ci_verilog.specs.declared.expressions.Item.{Item}
use Rattle.ci_verilog.specs.declared.expressions.Term.{Term}
use Rattle.ci_verilog.specs.Modules.{Known, IsSimple, IsItem, AreItems, IsTerm, join, one as one_item, more as more_items}
use Rattle.ci_reading.specs.Tokens.{token, at}
use Rattle.ci_vread.specs.declared.tokens.Sign.TheVariants.{LeftBrace, RightBrace, Comma}
use Rattle.ci_vread.specs.Lexicon.{Token, sign, number}
use Rattle.ci_vread.specs.Grammar.{Placed, its_use, Fits, that_token, a_use, input_a, input_b, input_c, a_count, of_term, term, inside, item, items, simple}
use Rattle.ci_vread.specs.Grammar.{Part, ends, made, the, repetition, parts_of}
use Rattle.ci_vread.specs.Rules.{Seen}
use Rattle.ci_vread.specs.Spelling.{SpellsSimple, whole_name, one_bit, some_bits, some_constant, SpellsItem, SpellsItems, SpellsTerm}
use Rattle.ci_vread.specs.Spelling.{last as last_item, more as item_and_more, join as spells_join}
use Rattle.ci_vread.proofs.NameLaws.{IsTable}
use Rattle.ci_vread.proofs.ReadSteps.{Begins, none, more}
use Rattle.ci_vread.proofs.ReadTerms.{with_sum, behind_term}
use Rattle.ci_vread.proofs.SpeltSimples.{Good, good_token, good_end, good_made, Shows, simple_goes_well}

-- ---- first tokens

-- a simple's first token is none of those that the grammar looks for
record IsPlainStart (t : Token) : Type 0 where
  as_item : parts_of item (token t) ≡ made simple ∷ []
  as_term : parts_of term (token t) ≡ made simple ∷ ends of_term ∷ []
  as_inside : parts_of inside (token t) ≡ made item ∷ made items ∷ []

data HasStart (P : Token → Type 0) : List Placed → Type 0 where
  starts : {place : ℕ} {t : Token} {others : List Placed} → P t → HasStart P (at place (token t) ∷ others)

use_start : {t : Token} → Fits its_use t → IsPlainStart t
use_start (a_use bytes) = record { as_item = refl; as_term = refl; as_inside = refl }
use_start input_a = record { as_item = refl; as_term = refl; as_inside = refl }
use_start input_b = record { as_item = refl; as_term = refl; as_inside = refl }
use_start input_c = record { as_item = refl; as_term = refl; as_inside = refl }

plain_start : {tokens : List Token} {value : Simple} {symbols rest : List Placed} → SpellsSimple tokens value → Begins symbols tokens rest
    → HasStart IsPlainStart symbols
plain_start (whole_name fit) (more a) = starts (use_start fit)
plain_start (one_bit fit) (more a) = starts (use_start fit)
plain_start (some_bits fit) (more a) = starts (use_start fit)
plain_start some_constant (more a) = starts (record { as_item = refl; as_term = refl; as_inside = refl })

module _ {seen : Seen} {due : List Part} where
  as_item : {symbols : List Placed} → HasStart IsPlainStart symbols → Good seen (made simple ∷ due) symbols → Good seen (made item ∷ due) symbols
  as_item (starts {place = p} {t = t} {others = others} s) g =
      good_made item (subst (λ ps. Good seen (ps ++ due) (at p (token t) ∷ others)) (sym s.as_item) g)

  as_term : {symbols : List Placed} → HasStart IsPlainStart symbols → Good seen (made simple ∷ ends of_term ∷ due) symbols → Good seen (made term ∷ due) symbols
  as_term (starts {place = p} {t = t} {others = others} s) g =
      good_made term (subst (λ ps. Good seen (ps ++ due) (at p (token t) ∷ others)) (sym s.as_term) g)

-- an item's first token is no number
abbrev IsItemStart : Token → Type 0
IsItemStart t = parts_of inside (token t) ≡ made item ∷ made items ∷ []

item_start : {tokens : List Token} {value : Item} {symbols rest : List Placed} → SpellsItem tokens value → Begins symbols tokens rest
    → HasStart IsItemStart symbols
item_start (SpellsItem.plain spelled) a = by (plain_start spelled a)
  where
    by : {symbols : List Placed} → HasStart IsPlainStart symbols → HasStart IsItemStart symbols
    by (starts s) = starts s.as_inside
item_start (SpellsItem.repeat spelled) (more a) = starts refl

-- tokens that are joined stand behind one another
pub record AreCut (symbols : List Placed) (left right : List Token) (rest : List Placed) : Type 0 where
  pub middle : List Placed
  pub first : Begins symbols left middle
  pub second : Begins middle right rest

pub cut : (left : List Token) {right : List Token} {symbols rest : List Placed} → Begins symbols (left ++ right) rest → AreCut symbols left right rest
cut [] {symbols = symbols} a = record { middle = symbols; first = none; second = a }
cut (t ∷ left) (more a) = let o = cut left a in record { middle = o.middle; first = more o.first; second = o.second }

-- ---- widths

pub least_width : {known : List Known} {value : Simple} {width : ℕ} → IsTable known → IsSimple known value width → 1 ≤ width
least_width table (IsSimple.whole c) = (table _ _ c).least
least_width table (IsSimple.bits c h l) = omega (arith, l)
least_width table (IsSimple.number l m v) = l

most_width : {known : List Known} {value : Simple} {width : ℕ} → IsTable known → IsSimple known value width → width ≤ 64
most_width table (IsSimple.whole c) = (table _ _ c).most
most_width table (IsSimple.bits c h l) = let n = (table _ _ c).most in omega (arith, h, n)
most_width table (IsSimple.number l m v) = m

pub most_count : (n w : ℕ) → 1 ≤ w → n * w ≤ 64 → n ≤ 64
most_count n w least most = let e : n ≤ n * w = le-mul_of_pos_right n least in omega (arith, e, most)

-- ---- items

module _ (base : Seen) (table : IsTable base.known) where
  repetition_goes_well :
      {symbols rest : List Placed} {tokens : List Token} {value : Simple} {width : ℕ} (count sum : ℕ) (due : List Part)
      → SpellsSimple tokens value → IsSimple base.known value width → 1 ≤ count → count * width ≤ 64
      → Begins symbols (number count ∷ sign LeftBrace ∷ tokens ++ (sign RightBrace ∷ sign RightBrace ∷ [])) rest
      → sum + count * width ≤ 64 → Good (with_sum base (sum + count * width)) due rest → Good (with_sum base sum) (repetition ++ due) symbols
  repetition_goes_well {rest = rest} {tokens = tokens} {width = w} count sum due spelled is_simple least most (more (more a)) small g =
      let s = cut tokens a in
      let bounds : (nat_le 1 count && nat_le count 64) ≡ true =
      rw (le-leb _ _ least, le-leb _ _ (most_count count w (least_width table is_simple) most)) refl in
      good_token (a_count count) (bounds, tt) (good_token (that_token _) tt (by s.middle s.first s.second))
    where
      by : {symbols : List Placed} (middle : List Placed) → Begins symbols tokens middle → Begins middle (sign RightBrace ∷ sign RightBrace ∷ []) rest
          → Good (record (with_sum base sum) { times = count }) (made simple ∷ the RightBrace ∷ the RightBrace ∷ due) symbols
      by _ first (more (more none)) =
          simple_goes_well (record (with_sum base sum) { times = count }) (the RightBrace ∷ the RightBrace ∷ due) table spelled is_simple first refl small
          (good_token (that_token _) tt (good_token (that_token _) tt g))

  -- a simple alone, behind items of this width
  plain_goes_well :
      {symbols rest : List Placed} {tokens : List Token} {value : Simple} {size place : ℕ} {t : Token} (sum : ℕ) (due : List Part)
      → SpellsSimple tokens value → IsSimple base.known value size → Begins symbols tokens (at place (token t) ∷ rest) → Shows t → sum + size ≤ 64
      → Good (with_sum base (sum + size)) due (at place (token t) ∷ rest) → Good (with_sum base sum) (made simple ∷ due) symbols
  plain_goes_well {rest = rest} {size = size} {place = p} {t = t} sum due spelled is_simple a shows small g =
      let e : size ≡ 1 * size = omega arith in
      simple_goes_well (with_sum base sum) due table spelled is_simple a shows (omega (arith, small))
      (subst (λ n. Good (with_sum base (sum + n)) due (at p (token t) ∷ rest)) e g)

  item_goes_well :
      {symbols rest : List Placed} {tokens : List Token} {value : Item} {size place : ℕ} {t : Token} (sum : ℕ) (due : List Part)
      → SpellsItem tokens value → IsItem base.known value size → Begins symbols tokens (at place (token t) ∷ rest) → Shows t → sum + size ≤ 64
      → Good (with_sum base (sum + size)) due (at place (token t) ∷ rest) → Good (with_sum base sum) (made item ∷ due) symbols
  item_goes_well sum due (SpellsItem.plain spelled) (IsItem.plain is_simple) a shows small g =
      as_item (plain_start spelled a) (plain_goes_well sum due spelled is_simple a shows small g)
  item_goes_well sum due (SpellsItem.repeat {count = n} spelled) (IsItem.repeat least most is_simple) (more a) shows small g =
      good_made item (good_token (that_token _) tt (repetition_goes_well n sum due spelled is_simple least most a small g))

  -- items, and the `}` behind them
  items_go_well :
      {symbols rest : List Placed} {tokens : List Token} {value : List Item} {size place : ℕ} (sum : ℕ) (due : List Part)
      → SpellsItems tokens value → AreItems base.known value size → Begins symbols tokens (at place (token (sign RightBrace)) ∷ rest) → sum + size ≤ 64
      → Good (with_sum base (sum + size)) due rest → Good (with_sum base sum) (made item ∷ made items ∷ due) symbols
  items_go_well sum due (last_item spelled) (one_item is_item) a small g =
      item_goes_well sum (made items ∷ due) spelled is_item a refl small (good_made items (good_token (that_token _) tt g))
  items_go_well sum due (last_item spelled) (more_items is_item none_) a small g = elim none_ [ ]
  items_go_well sum due (item_and_more spelled others) (one_item is_item) a small g = elim others [ ]
  items_go_well {symbols = symbols} {rest = rest} {place = p} sum due (item_and_more {tokens = tokens} {others = later} spelled others)
      (more_items {width = w} {others = v} is_item are_items) a small g =
      let s = cut tokens a in
      by s.middle s.first s.second (λ behind b. let e : sum + (w + v) ≡ (sum + w) + v = omega arith in
      items_go_well {symbols = behind} (sum + w) due others are_items b (omega (arith, small)) (subst (λ n. Good (with_sum base n) due rest) e g))
    where
      by : {symbols : List Placed} (middle : List Placed) → Begins symbols tokens middle
          → Begins middle (sign Comma ∷ later) (at p (token (sign RightBrace)) ∷ rest)
          → ((symbols : List Placed) → Begins symbols later (at p (token (sign RightBrace)) ∷ rest)
          → Good (with_sum base (sum + w)) (made item ∷ made items ∷ due) symbols) → Good (with_sum base sum) (made item ∷ made items ∷ due) symbols
      by _ first (more b) again =
          item_goes_well sum (made items ∷ due) spelled is_item first refl (omega (arith, small)) (good_made items (good_token (that_token _) tt (again _ b)))

  -- ---- terms

  term_ends_well : {due : List Part} {size : ℕ} {symbols : List Placed} → Good (behind_term base size) due symbols
      → Good (with_sum base (0 + size)) (ends of_term ∷ due) symbols
  term_ends_well {due} {size} {symbols} g =
      let e : size ≡ 0 + size = omega arith in
      subst (λ n. Good (with_sum base n) (ends of_term ∷ due) symbols) e (good_end of_term (λ last. tt) g)

  inside_goes_well : {due : List Part} {symbols : List Placed} → HasStart IsItemStart symbols → Good (with_sum base 0) (made item ∷ made items ∷ due) symbols
      → Good (with_sum base 0) (made inside ∷ due) symbols
  inside_goes_well {due} (starts {place = p} {t = t} {others = others} s) g =
      good_made inside (subst (λ ps. Good (with_sum base 0) (ps ++ due) (at p (token t) ∷ others)) (sym s) g)

  items_start : {tokens : List Token} {value : List Item} {symbols rest : List Placed} → SpellsItems tokens value → Begins symbols tokens rest
      → HasStart IsItemStart symbols
  items_start (last_item spelled) a = item_start spelled a
  items_start (item_and_more {tokens = tokens} spelled later) a = item_start spelled (cut tokens a).first

  pub term_goes_well :
      {symbols rest : List Placed} {tokens : List Token} {value : Term} {size place : ℕ} {t : Token} (due : List Part)
      → SpellsTerm tokens value → IsTerm base.known value size → Begins symbols tokens (at place (token t) ∷ rest) → Shows t
      → Good (behind_term base size) due (at place (token t) ∷ rest) → Good (with_sum base 0) (made term ∷ due) symbols
  term_goes_well due (SpellsTerm.plain spelled) (IsTerm.plain is_simple) a shows g =
      let m = most_width table is_simple in
      as_term (plain_start spelled a) (plain_goes_well 0 (ends of_term ∷ due) spelled is_simple a shows (omega (arith, m)) (term_ends_well g))
  term_goes_well due (SpellsTerm.repeat {count = n} spelled) (IsTerm.repeat least most is_simple) (more (more a)) shows g =
      good_made term (good_token (that_token _) tt (good_made inside
      (repetition_goes_well n 0 (ends of_term ∷ due) spelled is_simple least most (more a) (omega (arith, most)) (term_ends_well g))))
  term_goes_well {rest = rest} {place = p} {t = t} due (spells_join {tokens = tokens} spelled) (join are_items small) (more a) shows g =
      let s = cut tokens a in
      good_made term (good_token (that_token _) tt (by s.middle s.first s.second))
    where
      by : {symbols : List Placed} (middle : List Placed) → Begins symbols tokens middle → Begins middle (sign RightBrace ∷ []) (at p (token t) ∷ rest)
          → Good (with_sum base 0) (made inside ∷ ends of_term ∷ due) symbols
      by _ first (more none) =
          inside_goes_well (items_start spelled first) (items_go_well 0 (ends of_term ∷ due) spelled are_items first (omega (arith, small)) (term_ends_well g))
