-- The first fault of a document, by its three kinds of cause.
use Rattle.std.proofs.Common.{◌≡◌, ℕ, Bool, true, false, not, cond, List, [], ◌∷◌, ◌++◌, map, Option, Some, None, option_map, IfSome, subst, refl, ap, sym, ◌∙◌}
use Rattle.std.specs.List.{find, list_all}
use Rattle.std.specs.Option.{option_or}
use Rattle.std.proofs.lemmas.List.{append-nil}
use Rattle.toml.specs.Data.{Members}
use Rattle.ci_lat.specs.declared.keys.Key.{Key}
use Rattle.ci_lat.specs.declared.faults.LatFault.{LatFault}
use Rattle.ci_lat.specs.declared.faults.LatFault.TheVariants.{NotToml, UnknownKey, OutOfRange, PadTooLarge, NoMemory}
use Rattle.ci_lat.specs.Keys.{keys_by_value, keys_above_pad}
use Rattle.ci_lat.specs.Latencies.{Latencies}
use Rattle.ci_lat.specs.Faults.{causes, first_fault, has_unknown_key, is_out_of_range, is_below_pad, AreDocument, AreTable, HaveFirst, HaveFault}

one_more : (b : Bool) (F : Key → LatFault) (k : Key) (rest : List (Bool × LatFault)) (found : Option Key) (after : Option LatFault)
    → first_fault rest ≡ option_or (option_map F found) after
    → first_fault ((b, F k) ∷ rest) ≡ option_or (option_map F (cond b (Some k) found)) after
one_more true F k rest found after e = refl
one_more false F k rest found after e = e

first_fault-map : (p : Key → Bool) (F : Key → LatFault) (keys : List Key) (rest : List (Bool × LatFault))
    → first_fault (map (λ k. (p k, F k)) keys ++ rest) ≡ option_or (option_map F (find p keys)) (first_fault rest)
first_fault-map p F [] rest = refl
first_fault-map p F (k ∷ keys) rest = one_more (p k) F k _ (find p keys) (first_fault rest) (first_fault-map p F keys rest)

first_fault-cons : (b : Bool) (fault : LatFault) (rest : List (Bool × LatFault))
    → first_fault ((b, fault) ∷ rest) ≡ cond b (Some fault) (first_fault rest)
first_fault-cons true fault rest = refl
first_fault-cons false fault rest = refl

module _ (document : Members) where
  abbrev out_of_range : Option LatFault
  out_of_range = option_map OutOfRange (find (is_out_of_range document) keys_by_value)

  abbrev below_pad : Option LatFault
  below_pad = option_map PadTooLarge (find (is_below_pad document) keys_above_pad)

  or_none : (o : Option LatFault) → option_or o None ≡ o
  or_none None = refl
  or_none (Some x) = refl

  pads : first_fault (map (λ k. (is_below_pad document k, PadTooLarge k)) keys_above_pad) ≡ below_pad
  pads =
      ap first_fault (sym (append-nil (map (λ k. (is_below_pad document k, PadTooLarge k)) keys_above_pad)))
      ∙ first_fault-map (is_below_pad document) PadTooLarge keys_above_pad [] ∙ or_none below_pad

  pub first_fault-causes : first_fault (causes document) ≡ cond (has_unknown_key document) (Some UnknownKey) (option_or out_of_range below_pad)
  unfolding causes
  first_fault-causes =
      first_fault-cons (has_unknown_key document) UnknownKey _
      ∙ ap (cond (has_unknown_key document) (Some UnknownKey))
      (first_fault-map (is_out_of_range document) OutOfRange keys_by_value _ ∙ ap (option_or out_of_range) pads)

-- the three kinds of cause, and no other
abbrev IsCause : LatFault → Type 0
IsCause NotToml = ⊥
IsCause NoMemory = ⊥
IsCause fault = Unit {0}

cause_of : (b : Bool) (o p : Option Key) → IfSome (cond b (Some UnknownKey) (option_or (option_map OutOfRange o) (option_map PadTooLarge p))) IsCause
cause_of true o p = tt
cause_of false (Some k) p = tt
cause_of false None (Some k) = tt
cause_of false None None = tt

is_cause : (document : Members) (fault : LatFault) → first_fault (causes document) ≡ Some fault → IsCause fault
is_cause document fault first =
    let P : Option LatFault → Type 0 = λ o. IfSome o IsCause in
    subst P (sym (first_fault-causes document) ∙ first) (cause_of (has_unknown_key document) _ _)

-- the first fault of a document is a fault of its bytes
pub HaveFault-first : (bytes : List ℕ) (fault : LatFault) → HaveFirst bytes fault → HaveFault bytes fault
HaveFault-first bytes NotToml (document, are, first) = absurd (is_cause document NotToml first)
HaveFault-first bytes NoMemory (document, are, first) = absurd (is_cause document NoMemory first)
HaveFault-first bytes UnknownKey h = h
HaveFault-first bytes (OutOfRange k) h = h
HaveFault-first bytes (PadTooLarge k) h = h

-- no element that passes
found_none : {X : Type 0} (p : X → Bool) (b : Bool) (x : X) (found : Option X) → cond b (Some x) found ≡ None → (b ≡ false) × (found ≡ None)
found_none p true x found e = absurd cc
found_none p false x found e = (refl, e)

pub list_all-found_none : {X : Type 0} (p : X → Bool) (xs : List X) → find p xs ≡ None → list_all (λ x. not (p x)) xs ≡ true
list_all-found_none p [] e = refl
list_all-found_none p (x ∷ xs) e =
    let (here, rest) = found_none p (p x) x (find p xs) e in
    rw here (list_all-found_none p xs rest)

no_pad : (b : Bool) (o p : Option Key) → cond b (Some UnknownKey) (option_or (option_map OutOfRange o) (option_map PadTooLarge p)) ≡ None → p ≡ None
no_pad true o p e = absurd cc
no_pad false (Some k) p e = absurd cc
no_pad false None (Some k) e = absurd cc
no_pad false None None e = refl

-- without a fault, `pad` exceeds nothing that it is compared with
pub pad_fits : (document : Members) → first_fault (causes document) ≡ None → find (is_below_pad document) keys_above_pad ≡ None
pad_fits document e = no_pad (has_unknown_key document) _ _ (sym (first_fault-causes document) ∙ e)

pub ruleset first_laws = (first_fault-causes)

-- ---- a table's text has no fault

-- bytes are one document
same_document : (bytes : List ℕ) (first second : Members) → AreDocument bytes first → AreDocument bytes second → first ≡ second
same_document bytes first second a b = let both : Some first ≡ Some second = sym a.1 ∙ b.1 in cc

none_first : (bytes : List ℕ) (latencies : Latencies) (fault : LatFault) → AreTable bytes latencies → HaveFirst bytes fault → ⊥
none_first bytes latencies fault table first =
    let same = ap (λ (d : Members). first_fault (causes d)) (same_document bytes table.0 first.0 table.1 first.1) in
    let both : None ≡ Some fault = sym table.2 ∙ same ∙ first.2 in
    absurd cc

pub table_or_fault : (bytes : List ℕ) (latencies : Latencies) (fault : LatFault) → AreTable bytes latencies → HaveFault bytes fault → ⊥
table_or_fault bytes latencies NotToml table fault = fault (table.0, table.1)
table_or_fault bytes latencies UnknownKey table fault = none_first bytes latencies UnknownKey table fault
table_or_fault bytes latencies (OutOfRange key) table fault = none_first bytes latencies (OutOfRange key) table fault
table_or_fault bytes latencies (PadTooLarge key) table fault = none_first bytes latencies (PadTooLarge key) table fault
table_or_fault bytes latencies NoMemory table fault = fault
