-- Each list of symbols of a text goes on with the grammar in just one way.
use Rattle.std.proofs.Common.{◌≡◌, ℕ, zero, suc, ◌<◌, ◌≤◌, inl, inr, List, [], ◌∷◌, ◌++◌, length, map, refl, ap, sym, subst, append_assoc, arith}
use Rattle.ci_reading.specs.Tokens.{token, stray_byte, text_end, at}
use Rattle.ci_vread.specs.declared.tokens.Sign.TheVariants.{ModuleWord}
use Rattle.ci_vread.specs.Lexicon.{Token, sign}
use Rattle.ci_vread.specs.Grammar.{Symbol, Placed, Role, is, its_cycles, its_module, Part, reads, ends, made, End, Phrase, parts_of, first_ports}
use Rattle.ci_vread.specs.Grammar.{units, body, others, bits, NeedsNext, of_bits, of_others}
use Rattle.ci_vread.specs.Grammar.{Event, read, ended, Finish, Goes, all_read, by_parts, by_end, by_token, bad_token, bad_byte, no_token, no_next}
use Rattle.ci_vread.proofs.TokenDecisions.{Decided, fits_or_not}
use Rattle.ci_vread.proofs.Work.{work, falls}

-- ---- one way

pub record AreSame (events others : List Event) (f g : Finish) : Type 0 where
  pub events_are : events ≡ others
  pub finish_is : f ≡ g

one_more : {events others : List Event} {f g : Finish} (e : Event) → AreSame events others f g → AreSame (e ∷ events) (e ∷ others) f g
one_more e o = record { events_are = ap (λ l. e ∷ l) o.events_are; finish_is = o.finish_is }

pub goes_once :
    {last : ℕ} {due : List Part} {symbols : List Placed} {events others : List Event} {f g : Finish}
    → Goes last due symbols events f → Goes last due symbols others g → AreSame events others f g
goes_once all_read all_read = record { events_are = refl; finish_is = refl }
goes_once (by_parts h one) (by_parts i two) = goes_once one two
goes_once (by_parts h one) (no_next n) = absurd (h refl n)
goes_once (no_next n) (by_parts h one) = absurd (h refl n)
goes_once (no_next n) (no_next m) = record { events_are = refl; finish_is = refl }
goes_once (by_end {last = l} {what = w} one) (by_end two) = one_more (ended w l) (goes_once one two)
goes_once (by_token {place = n} {role = r} {t = t} h one) (by_token i two) = one_more (read r t n) (goes_once one two)
goes_once (by_token h one) (bad_token misfit) = absurd (misfit h)
goes_once (bad_token misfit) (by_token h one) = absurd (misfit h)
goes_once (bad_token misfit) (bad_token also) = record { events_are = refl; finish_is = refl }
goes_once bad_byte bad_byte = record { events_are = refl; finish_is = refl }
goes_once no_token no_token = record { events_are = refl; finish_is = refl }

-- ---- some way

-- symbols of a text: tokens, and at last a byte that begins none or the end
pub data AreEnded : List Placed → Type 0 where
  by_stray : {place : ℕ} → AreEnded (at place stray_byte ∷ [])
  by_text_end : {place : ℕ} → AreEnded (at place text_end ∷ [])
  behind : {place : ℕ} {t : Token} {symbols : List Placed} → AreEnded symbols → AreEnded (at place (token t) ∷ symbols)

pub record HasRun (last : ℕ) (due : List Part) (symbols : List Placed) : Type 0 where
  pub events : List Event
  pub finish : Finish
  pub goes : Goes last due symbols events finish

-- a module behind its cycles
abbrev behind_cycles : List Part
behind_cycles = reads (is (sign ModuleWord)) ∷ reads its_module ∷ map (λ t. reads (is t)) first_ports ++ made body ∷ []

-- with these parts due, each list of at most so many symbols goes on in some way
abbrev pub Runs : ℕ → List Part → Type 0
Runs n due = (last : ℕ) (symbols : List Placed) → AreEnded symbols → length symbols ≤ n → HasRun last due symbols

unfoldable pub needs_or_not : (p : Phrase) → Decided (NeedsNext p)
needs_or_not bits = inl of_bits
needs_or_not others = inl of_others
needs_or_not p = inr (λ n. elim n [ ])

module _ {n : ℕ} {due : List Part} where
  reads_run : {role : Role} → Runs n due → Runs (suc n) (reads role ∷ due)
  reads_run g last _ by_stray short = record { events = []; finish = _; goes = bad_byte }
  reads_run g last _ by_text_end short = record { events = []; finish = _; goes = no_token }
  reads_run {role} g last _ (behind {place = p} {t = t} {symbols = symbols} e) short = elim (fits_or_not role t) [
    | inl fit ↦ let o = g p symbols e (omega (arith, short)) in record { events = _; finish = o.finish; goes = by_token fit o.goes }
    | inr not_ ↦ record { events = []; finish = _; goes = bad_token not_ }
  ]

  ends_run : {what : End} → Runs n due → Runs n (ends what ∷ due)
  ends_run g last symbols e short = let o = g last symbols e short in record { events = _; finish = o.finish; goes = by_end o.goes }

  -- a phrase, by what it consists of before each symbol
  phrase_run : {p : Phrase} → ((x : Symbol) → Runs n (parts_of p x ++ due)) → Runs n (made p ∷ due)
  phrase_run {p} g last symbols e short = by symbols e short
    where
      opened : (place : ℕ) (x : Symbol) (rest : List Placed) → (x ≡ text_end → ¬ NeedsNext p) → AreEnded (at place x ∷ rest)
          → length (at place x ∷ rest) ≤ n → HasRun last (made p ∷ due) (at place x ∷ rest)
      opened place x rest h e short =
          let o = g x last (at place x ∷ rest) e short in record { events = o.events; finish = o.finish; goes = by_parts h o.goes }

      by : (symbols : List Placed) → AreEnded symbols → length symbols ≤ n → HasRun last (made p ∷ due) symbols
      by _ (by_stray {place = q}) short = opened q stray_byte [] (λ e. absurd (cc)) by_stray short
      by _ (by_text_end {place = q}) short = elim (needs_or_not p) [
        | inl need ↦ record { events = []; finish = _; goes = no_next need }
        | inr free ↦ opened q text_end [] (λ e. free) by_text_end short
      ]
      by _ (behind {place = q} {t = t} {symbols = symbols} e) short = opened q (token t) symbols (λ f. absurd (cc)) (behind e) short

none_short : {due : List Part} → Runs 0 due
none_short last _ by_stray short = absurd (omega (arith, short))
none_short last _ by_text_end short = absurd (omega (arith, short))
none_short last _ (behind e) short = absurd (omega (arith, short))

-- these parts, and modules behind them
abbrev before_units : List Part → List Part
before_units due = due ++ made units ∷ []

opened_before : {n w : ℕ} (parts due : List Part) → work (parts ++ before_units due) < w
    → (work (before_units (parts ++ due)) < w → Runs n (before_units (parts ++ due))) → Runs n (parts ++ before_units due)
opened_before {n} {w} parts due less g =
    let same = append_assoc parts due (made units ∷ []) in subst (Runs n) same (g (subst (λ ps. work ps < w) (sym same) less))

-- where only modules are due, the text ends or another one begins
units_run : (n : ℕ) → ((due : List Part) → Runs n (before_units due)) → Runs (suc n) (made units ∷ [])
units_run n again last _ by_text_end short = record { events = []; finish = _; goes = by_parts (λ e m. elim m [ ]) all_read }
units_run n again last _ by_stray short = record { events = []; finish = _; goes = by_parts (λ e m. elim m [ ]) bad_byte }
units_run n again last _ (behind {place = p} {t = t} e) short =
    let o = reads_run {role = its_cycles} (again behind_cycles) last _ (behind {place = p} {t = t} e) short in
    record { events = o.events; finish = o.finish; goes = by_parts (λ e m. elim m [ ]) o.goes }

-- with less work than w in front of the next token, where it goes on behind that one
within : (n : ℕ) → ((due : List Part) → Runs n (before_units due)) → (w : ℕ) (due : List Part) → work (before_units due) < w
    → Runs (suc n) (before_units due)
within n again zero due less = absurd (omega (arith, less))
within n again (suc w) [] less = units_run n again
within n again (suc w) (reads role ∷ due) less = reads_run (again due)
within n again (suc w) (ends what ∷ due) less = ends_run (within n again w due (omega (arith, less)))
within n again (suc w) (made p ∷ due) less =
    phrase_run (λ x. opened_before (parts_of p x) due (omega (arith, falls p x (before_units due), less)) (within n again w (parts_of p x ++ due)))

-- symbols of a text go on with the grammar in some way
runs : (n : ℕ) (due : List Part) → Runs n (before_units due)
runs zero due = none_short
runs (suc n) due = within n (runs n) (suc (work (before_units due))) due (omega arith)

pub goes_somehow : (n : ℕ) → Runs n (made units ∷ [])
goes_somehow n = runs n []
