-- Where an item or a term is due in a text that keeps its rules, one stands.
use Rattle.std.proofs.Common.{◌≡◌, ℕ, zero, suc, ◌+◌, ◌*◌, ◌<◌, ◌≤◌, List, [], ◌∷◌, ◌++◌, length, refl, sym, arith, subst}
use Rattle.std.proofs.lemmas.Bool.{and_parts, leb-true}
use Rattle.ci_verilog.specs.declared.expressions.Simple.{Simple}
use Rattle.ci_verilog.specs.declared.expressions.Item.{Item}
use Rattle.ci_verilog.specs.declared.expressions.Item.TheVariants as as_item
use Rattle.ci_verilog.specs.declared.expressions.Term.{Term}
use Rattle.ci_verilog.specs.declared.expressions.Term.TheVariants as as_term
use Rattle.ci_verilog.specs.Modules.{IsSimple, IsItem, AreItems, IsTerm, join, one, more as more_items}
use Rattle.ci_reading.specs.Tokens.{token, at}
use Rattle.ci_vread.specs.declared.tokens.Sign.TheVariants.{LeftBrace, RightBrace, Comma}
use Rattle.ci_vread.specs.Lexicon.{Token, sign, number}
use Rattle.ci_vread.specs.Grammar.{Symbol, Placed, a_count, of_term, term, inside, item, items, simple, Part, ends, made, the, repetition, parts_of, Event}
use Rattle.ci_vread.specs.Grammar.{whole, Goes, by_token}
use Rattle.ci_vread.specs.Rules.{Seen, rules_from}
use Rattle.ci_vread.specs.Spelling.{SpellsSimple, SpellsItem, SpellsItems, SpellsTerm, last as last_item, more as item_and_more, join as spells_join}
use Rattle.ci_vread.proofs.ReadSteps.{AreKept, IsGood, Begins, more, joined, no_longer, shorter, sign_read, end_read, phrase_read, IsRead}
use Rattle.ci_vread.proofs.ReadSimples.{simple_read}

-- a term so far, of items of this width
abbrev pub with_sum : Seen → ℕ → Seen
with_sum base sum = record base { sum = sum; times = 1; width = 0; index = 0 }

module _ (base : Seen) where
  -- a simple, so many times, behind items of this width
  pub record IsPlainItem (times sum : ℕ) (tokens : List Token) (size : ℕ) : Type 0 where
    pub value : Simple
    pub spelled : SpellsSimple tokens value
    pub width : ℕ
    pub is_simple : IsSimple base.known value width
    pub size_is : size ≡ times * width
    pub fits : sum + size ≤ 64

  abbrev grown : ℕ → ℕ → Seen
  grown sum size = with_sum base (sum + size)

  abbrev with_times : ℕ → ℕ → Seen
  with_times times sum = record (with_sum base sum) { times = times }

  plain_read : (times sum : ℕ) (due : List Part) (symbols : List Placed) → IsGood (with_times times sum) (made simple ∷ due) symbols
      → IsRead (IsPlainItem times sum) (grown sum) due symbols
  plain_read times sum due symbols g =
      let o = simple_read (with_times times sum) due symbols g in
      let p = o.is_part in
      record {
        tokens = o.tokens;
        size = times * o.size;
        rest = o.rest;
        begins = o.begins;
        is_part = record { value = p.value; spelled = p.spelled; width = o.size; is_simple = p.is_simple; size_is = refl; fits = p.fits };
        good = o.good;
      }

  -- what follows the first `{` of a repetition
  pub record IsRepetition (sum : ℕ) (tokens : List Token) (size : ℕ) : Type 0 where
    pub count : ℕ
    pub inner : List Token
    pub tokens_are : tokens ≡ number count ∷ sign LeftBrace ∷ inner ++ (sign RightBrace ∷ sign RightBrace ∷ [])
    pub at_least : 1 ≤ count
    pub is_plain : IsPlainItem count sum inner size

  repetition_read : (sum : ℕ) (due : List Part) (symbols : List Placed) → IsGood (with_sum base sum) (repetition ++ due) symbols
      → IsRead (IsRepetition sum) (grown sum) due symbols
  repetition_read sum due symbols g = by symbols g.events g.goes g.kept
    where
      by : (symbols : List Placed) (events : List Event) → Goes g.last (repetition ++ due) symbols events whole
          → AreKept (rules_from (with_sum base sum) events) → IsRead (IsRepetition sum) (grown sum) due symbols
      by _ _ (by_token {place = p} {symbols = symbols} (a_count n) goes) kept =
          let start = sign_read LeftBrace (with_times n sum) _ symbols (record { last = p; events = _; goes = goes; kept = kept.1 }) in
          let o = plain_read n sum _ start.rest start.good in
          let first = sign_read RightBrace (grown sum o.size) _ o.rest o.good in
          let second = sign_read RightBrace (grown sum o.size) due first.rest first.good in
          record {
            tokens = number n ∷ sign LeftBrace ∷ o.tokens ++ (sign RightBrace ∷ sign RightBrace ∷ []);
            size = o.size;
            rest = second.rest;
            begins = more (joined start.begins (joined o.begins (joined first.begins second.begins)));
            is_part = record { count = n; inner = o.tokens; tokens_are = refl; at_least = leb-true _ _ (and_parts _ _ kept.0).0; is_plain = o.is_part };
            good = second.good;
          }

  -- ---- items

  pub record IsOneItem (sum : ℕ) (tokens : List Token) (size : ℕ) : Type 0 where
    pub value : Item
    pub spelled : SpellsItem tokens value
    pub is_item : IsItem base.known value size
    pub fits : sum + size ≤ 64

  plain_item : {sum size : ℕ} {tokens : List Token} → IsPlainItem 1 sum tokens size → IsOneItem sum tokens size
  plain_item {size = size} o = record {
    value = as_item.Plain o.value;
    spelled = SpellsItem.plain o.spelled;
    is_item = let e : o.width ≡ size = omega (arith, o.size_is) in subst (IsItem base.known (as_item.Plain o.value)) e (IsItem.plain o.is_simple);
    fits = o.fits;
  }

  repeated_item : {sum size : ℕ} {tokens : List Token} → IsRepetition sum tokens size → IsOneItem sum (sign LeftBrace ∷ tokens) size
  repeated_item o =
      let p = o.is_plain in
      let value = as_item.Repeat o.count p.value in
      record {
        value = value;
        spelled = subst (λ ts. SpellsItem (sign LeftBrace ∷ ts) value) (sym o.tokens_are) (SpellsItem.repeat p.spelled);
        is_item = subst (IsItem base.known value) (sym p.size_is) (IsItem.repeat o.at_least (omega (arith, p.size_is, p.fits)) p.is_simple);
        fits = p.fits;
      }

  module _ (sum : ℕ) (due : List Part) where
    abbrev IsItemRead : List Placed → Type 0
    IsItemRead symbols = IsRead (IsOneItem sum) (grown sum) due symbols

    plain_item_read : (symbols : List Placed) → IsGood (with_sum base sum) (made simple ∷ due) symbols → IsItemRead symbols
    plain_item_read symbols g =
        let o = plain_read 1 sum due symbols g in
        record { tokens = o.tokens; size = o.size; rest = o.rest; begins = o.begins; is_part = plain_item o.is_part; good = o.good }

    repeated_item_read : (symbols : List Placed) → IsGood (with_sum base sum) (the LeftBrace ∷ repetition ++ due) symbols → IsItemRead symbols
    repeated_item_read symbols g =
        let h = sign_read LeftBrace (with_sum base sum) (repetition ++ due) symbols g in
        let o = repetition_read sum due h.rest h.good in
        record {
          tokens = sign LeftBrace ∷ o.tokens;
          size = o.size;
          rest = o.rest;
          begins = joined h.begins o.begins;
          is_part = repeated_item o.is_part;
          good = o.good;
        }

    item_opens : (place : ℕ) (x : Symbol) (others : List Placed) → IsGood (with_sum base sum) (parts_of item x ++ due) (at place x ∷ others)
        → IsItemRead (at place x ∷ others)
    item_opens place (token (sign LeftBrace)) others good = repeated_item_read (at place (token (sign LeftBrace)) ∷ others) good
    item_opens place x others good = plain_item_read (at place x ∷ others) good

    item_read : (symbols : List Placed) → IsGood (with_sum base sum) (made item ∷ due) symbols → IsItemRead symbols
    item_read symbols g = phrase_read item (with_sum base sum) due symbols IsItemRead g item_opens

  pub record AreAllItems (sum : ℕ) (tokens : List Token) (size : ℕ) : Type 0 where
    pub value : List Item
    pub spelled : SpellsItems tokens value
    pub are_items : AreItems base.known value size
    pub fits : sum + size ≤ 64

  -- what items that follow those of this width are read as
  abbrev AreItemsRead : List Part → ℕ → List Placed → Type 0
  AreItemsRead due sum symbols = IsRead (AreAllItems sum) (grown sum) (the RightBrace ∷ due) symbols

  items_read : (k sum : ℕ) (due : List Part) (symbols : List Placed) → length symbols < k
      → IsGood (with_sum base sum) (made item ∷ made items ∷ due) symbols → AreItemsRead due sum symbols
  items_read zero sum due symbols short g = absurd (omega (arith, short))
  items_read (suc k) sum due symbols short g =
      let o = item_read sum (made items ∷ due) symbols g in
      phrase_read items (grown sum o.size) due o.rest (λ rest. Begins symbols o.tokens rest → AreItemsRead due sum symbols) o.good
      (opens o (items_read k)) o.begins
    where
      last_one : (o : IsRead (IsOneItem sum) (grown sum) (made items ∷ due) symbols) (rest : List Placed)
          → IsGood (grown sum o.size) (the RightBrace ∷ due) rest → Begins symbols o.tokens rest → AreItemsRead due sum symbols
      last_one o rest good begins = record {
        tokens = o.tokens;
        size = o.size;
        rest = rest;
        begins = begins;
        is_part = record {
          value = o.is_part.value ∷ [];
          spelled = last_item o.is_part.spelled;
          are_items = one o.is_part.is_item;
          fits = o.is_part.fits;
        };
        good = good;
      }

      with_others : (o : IsRead (IsOneItem sum) (grown sum) (made items ∷ due) symbols)
          → ((sum : ℕ) (due : List Part) (symbols : List Placed) → length symbols < k
          → IsGood (with_sum base sum) (made item ∷ made items ∷ due) symbols → AreItemsRead due sum symbols)
          → (place : ℕ) (rest : List Placed)
          → IsGood (grown sum o.size) (the Comma ∷ made item ∷ made items ∷ due) (at place (token (sign Comma)) ∷ rest)
          → Begins symbols o.tokens (at place (token (sign Comma)) ∷ rest) → AreItemsRead due sum symbols
      with_others o again place rest good begins =
          let h = sign_read Comma (grown sum o.size) _ (at place (token (sign Comma)) ∷ rest) good in
          let fewer : length h.rest < k = omega (arith, no_longer begins, shorter h.begins, short) in
          let r = again (sum + o.size) due h.rest fewer h.good in
          let sums : (sum + o.size) + r.size ≡ sum + (o.size + r.size) = omega arith in
          record {
            tokens = o.tokens ++ sign Comma ∷ r.tokens;
            size = o.size + r.size;
            rest = r.rest;
            begins = joined begins (joined h.begins r.begins);
            is_part = record {
              value = o.is_part.value ∷ r.is_part.value;
              spelled = item_and_more o.is_part.spelled r.is_part.spelled;
              are_items = more_items o.is_part.is_item r.is_part.are_items;
              fits = omega (arith, r.is_part.fits);
            };
            good = subst (λ n. IsGood (with_sum base n) (the RightBrace ∷ due) r.rest) sums r.good;
          }

      opens : (o : IsRead (IsOneItem sum) (grown sum) (made items ∷ due) symbols)
          → ((sum : ℕ) (due : List Part) (symbols : List Placed) → length symbols < k
          → IsGood (with_sum base sum) (made item ∷ made items ∷ due) symbols → AreItemsRead due sum symbols)
          → (place : ℕ) (x : Symbol) (rest : List Placed) → IsGood (grown sum o.size) (parts_of items x ++ due) (at place x ∷ rest)
          → Begins symbols o.tokens (at place x ∷ rest) → AreItemsRead due sum symbols
      opens o again place (token (sign Comma)) rest good begins = with_others o again place rest good begins
      opens o again place x rest good begins = last_one o (at place x ∷ rest) good begins

  -- ---- terms

  abbrev pub behind_term : ℕ → Seen
  behind_term size = record base { widths = size ∷ base.widths; sum = 0; times = 1; width = 0; index = 0 }

  pub record IsWholeTerm (tokens : List Token) (size : ℕ) : Type 0 where
    pub value : Term
    pub spelled : SpellsTerm tokens value
    pub is_term : IsTerm base.known value size

  term_ended : (due : List Part) (size : ℕ) (symbols : List Placed) → IsGood (grown 0 size) (ends of_term ∷ due) symbols
      → IsGood (behind_term size) due symbols
  term_ended due size symbols g =
      let e : 0 + size ≡ size = omega arith in
      (end_read of_term (with_sum base size) due symbols (subst (λ n. IsGood (with_sum base n) (ends of_term ∷ due) symbols) e g)).good

  plain_term : {size : ℕ} {tokens : List Token} → IsPlainItem 1 0 tokens size → IsWholeTerm tokens size
  plain_term {size} o = record {
    value = as_term.Plain o.value;
    spelled = SpellsTerm.plain o.spelled;
    is_term = let e : o.width ≡ size = omega (arith, o.size_is) in subst (IsTerm base.known (as_term.Plain o.value)) e (IsTerm.plain o.is_simple);
  }

  repeated_term : {size : ℕ} {tokens : List Token} → IsRepetition 0 tokens size → IsWholeTerm (sign LeftBrace ∷ tokens) size
  repeated_term o =
      let p = o.is_plain in
      let value = as_term.Repeat o.count p.value in
      record {
        value = value;
        spelled = subst (λ ts. SpellsTerm (sign LeftBrace ∷ ts) value) (sym o.tokens_are) (SpellsTerm.repeat p.spelled);
        is_term = subst (IsTerm base.known value) (sym p.size_is) (IsTerm.repeat o.at_least (omega (arith, p.size_is, p.fits)) p.is_simple);
      }

  joined_term : {size : ℕ} {tokens : List Token} → AreAllItems 0 tokens size → IsWholeTerm (sign LeftBrace ∷ tokens ++ sign RightBrace ∷ []) size
  joined_term o = record { value = as_term.Join o.value; spelled = spells_join o.spelled; is_term = join o.are_items (omega (arith, o.fits)) }

  module _ (due : List Part) where
    abbrev IsTermRead : List Placed → Type 0
    IsTermRead symbols = IsRead IsWholeTerm behind_term due symbols

    -- the term whose `{` stands at a place
    braced : (open_ : ℕ) (symbols : List Placed) → IsGood (with_sum base 0) (made inside ∷ ends of_term ∷ due) symbols
        → IsTermRead (at open_ (token (sign LeftBrace)) ∷ symbols)
    braced open_ symbols g = phrase_read inside (with_sum base 0) (ends of_term ∷ due) symbols
        (λ symbols. IsTermRead (at open_ (token (sign LeftBrace)) ∷ symbols)) g opens
      where
        repeated : (symbols : List Placed) → IsGood (with_sum base 0) (repetition ++ (ends of_term ∷ due)) symbols
            → IsTermRead (at open_ (token (sign LeftBrace)) ∷ symbols)
        repeated symbols g =
            let o = repetition_read 0 (ends of_term ∷ due) symbols g in
            record {
              tokens = sign LeftBrace ∷ o.tokens;
              size = o.size;
              rest = o.rest;
              begins = more o.begins;
              is_part = repeated_term o.is_part;
              good = term_ended due o.size o.rest o.good;
            }

        several : (symbols : List Placed) → IsGood (with_sum base 0) (made item ∷ made items ∷ ends of_term ∷ due) symbols
            → IsTermRead (at open_ (token (sign LeftBrace)) ∷ symbols)
        several symbols g =
            let o = items_read (suc (length symbols)) 0 (ends of_term ∷ due) symbols (omega arith) g in
            let h = sign_read RightBrace (grown 0 o.size) (ends of_term ∷ due) o.rest o.good in
            record {
              tokens = sign LeftBrace ∷ o.tokens ++ sign RightBrace ∷ [];
              size = o.size;
              rest = h.rest;
              begins = more (joined o.begins h.begins);
              is_part = joined_term o.is_part;
              good = term_ended due o.size h.rest h.good;
            }

        opens : (place : ℕ) (x : Symbol) (others : List Placed) → IsGood (with_sum base 0) (parts_of inside x ++ (ends of_term ∷ due)) (at place x ∷ others)
            → IsTermRead (at open_ (token (sign LeftBrace)) ∷ at place x ∷ others)
        opens place (token (number n)) others good = repeated (at place (token (number n)) ∷ others) good
        opens place x others good = several (at place x ∷ others) good

    braced_read : (place : ℕ) (symbols : List Placed)
        → IsGood (with_sum base 0) (the LeftBrace ∷ made inside ∷ ends of_term ∷ due) (at place (token (sign LeftBrace)) ∷ symbols)
        → IsTermRead (at place (token (sign LeftBrace)) ∷ symbols)
    braced_read place symbols g = by g.events g.goes g.kept
      where
        by : (events : List Event) → Goes g.last (the LeftBrace ∷ made inside ∷ ends of_term ∷ due) (at place (token (sign LeftBrace)) ∷ symbols) events whole
            → AreKept (rules_from (with_sum base 0) events) → IsTermRead (at place (token (sign LeftBrace)) ∷ symbols)
        by _ (by_token fit goes) kept = braced place symbols (record { last = place; events = _; goes = goes; kept = kept })

    plain_term_read : (symbols : List Placed) → IsGood (with_sum base 0) (made simple ∷ ends of_term ∷ due) symbols → IsTermRead symbols
    plain_term_read symbols g =
        let o = plain_read 1 0 (ends of_term ∷ due) symbols g in
        record {
          tokens = o.tokens;
          size = o.size;
          rest = o.rest;
          begins = o.begins;
          is_part = plain_term o.is_part;
          good = term_ended due o.size o.rest o.good;
        }

    term_opens : (place : ℕ) (x : Symbol) (others : List Placed) → IsGood (with_sum base 0) (parts_of term x ++ due) (at place x ∷ others)
        → IsTermRead (at place x ∷ others)
    term_opens place (token (sign LeftBrace)) others good = braced_read place others good
    term_opens place x others good = plain_term_read (at place x ∷ others) good

    pub term_read : (symbols : List Placed) → IsGood (with_sum base 0) (made term ∷ due) symbols → IsRead IsWholeTerm behind_term due symbols
    term_read symbols g = phrase_read term (with_sum base 0) due symbols IsTermRead g term_opens
