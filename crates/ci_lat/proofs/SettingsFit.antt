-- What the numbers that a document gives keep.
use Rattle.std.proofs.Common.{◌≡◌, ◌≢◌, ℕ, List, ◌≤◌, Bool, true, false, not, nat_le, [], ◌∷◌, sym, ◌∙◌, ◌&&◌, cond}
use Rattle.std.proofs.Common.{get_or, map, take, Option, Some, None, pos, negsuc, refl, arith, unwrap_or, lit≤}
use Rattle.std.specs.List.{All, list_all}
use Rattle.std.specs.Option.{option_and_then}
use Rattle.std.proofs.lemmas.List.Sums.{AllPass-from_list_all}
use Rattle.std.proofs.lemmas.List.Elements.{All-map}
use Rattle.std.proofs.lemmas.List.Folds.{list_all-append}
use Rattle.std.proofs.lemmas.List.{take-map}
use Rattle.std.proofs.lemmas.Bool.{and_parts}
use Rattle.std.proofs.lemmas.Bool.Decides.{nat_tests}
use Rattle.toml.specs.Data.{Data, Members, string, integer, float, boolean, datetime, array, table}
use Rattle.ci_lat.specs.declared.keys.Key.{Key}
use Rattle.ci_lat.specs.declared.keys.Key.TheVariants.{Read, Pad, SoftwareOf, HardwareOf}
use Rattle.ci_lat.specs.Latencies.{rows, delayed_rows, usual, latency_of, delay_of}
use Rattle.ci_lat.specs.TableRules.{IsLatencyTable, HasDelay}
use Rattle.ci_word.specs.declared.arithmetic.Class.{Class}
use Rattle.ci_word.specs.declared.arithmetic.Class.TheVariants as class
use Rattle.ci_lat.proofs.KeyLists.{listed}
use Rattle.ci_lat.specs.Keys.{number, number_of, kind_of, entry, software_keys, hardware_keys, keys_above_pad}
use Rattle.ci_lat.proofs.FaultLaws.{list_all-found_none, pad_fits}
use Rattle.ci_lat.specs.Faults.{setting, table_of, given, causes, first_fault, is_below_pad}

abbrev Within : ℕ → ℕ → ℕ → Type 0
Within minimum maximum n = (minimum ≤ n) × (n ≤ maximum)

tested : (minimum maximum n d : ℕ) (b : Bool) → (nat_le minimum n && nat_le n maximum) ≡ b
    → Within minimum maximum d → Within minimum maximum (unwrap_or (cond b (Some n) None) d)
tested minimum maximum n d true e usual_within = grind (arith, nat_tests)
tested minimum maximum n d false e usual_within = usual_within

-- the number of a value, or another one in its range
number_within : (minimum maximum d : ℕ) (value : Data) → Within minimum maximum d
    → Within minimum maximum (unwrap_or (number_of (number minimum maximum) value) d)
number_within minimum maximum d (string s) h = h
number_within minimum maximum d (integer (pos n)) h = tested minimum maximum n d _ refl h
number_within minimum maximum d (integer (negsuc n)) h = h
number_within minimum maximum d (float x) h = h
number_within minimum maximum d (boolean b) h = h
number_within minimum maximum d (datetime t) h = h
number_within minimum maximum d (array ds) h = h
number_within minimum maximum d (table ms) h = h

given_within : (minimum maximum d : ℕ) (o : Option Data) → Within minimum maximum d
    → Within minimum maximum (unwrap_or (option_and_then (number_of (number minimum maximum)) o) d)
given_within minimum maximum d None h = h
given_within minimum maximum d (Some value) h = number_within minimum maximum d value h

-- the number that a test puts in its range
within_from_test : (minimum maximum n : ℕ) → (nat_le minimum n && nat_le n maximum) ≡ true → Within minimum maximum n
within_from_test minimum maximum n e = grind (arith, nat_tests)

-- the usual table's number at the key is in this range
abbrev usual_fits : ℕ → ℕ → Key → Bool
usual_fits minimum maximum k = nat_le minimum (entry usual k) && nat_le (entry usual k) maximum

module _ (document : Members) (minimum maximum : ℕ) where
  setting_within : (k : Key) → kind_of k ≡ number minimum maximum → Within minimum maximum (entry usual k) → Within minimum maximum (setting document k)
  unfolding setting
  setting_within k kind h = rw kind (given_within minimum maximum (entry usual k) (given document k) h)

  -- the numbers of keys of one kind
  settings_within : (keys : List Key) → All (λ k. kind_of k ≡ number minimum maximum) keys → list_all (usual_fits minimum maximum) keys ≡ true
      → All (Within minimum maximum) (map (setting document) keys)
  settings_within keys kinds fit =
      All-map (Within minimum maximum) (setting document) keys
      (λ i k h. setting_within (get_or keys i k) (kinds i k h)
      (within_from_test minimum maximum (entry usual (get_or keys i k)) (AllPass-from_list_all (usual_fits minimum maximum) keys fit i k h)))

module _ (document : Members) where
  read_within : Within 1 1000 (setting document Read)
  unfolding usual
  read_within = setting_within document 1 1000 Read refl (lit≤ tt, lit≤ tt)

  software_within : All (Within 1 1000) (map (setting document) software_keys)
  unfolding usual listed
  software_within =
      settings_within document 1 1000 software_keys
      (All-map (λ k. kind_of k ≡ number 1 1000) (λ r. SoftwareOf r.class) rows (λ i r h. refl)) refl

  hardware_within : All (Within 0 100000) (map (setting document) hardware_keys)
  unfolding usual listed
  hardware_within =
      settings_within document 0 100000 hardware_keys
      (All-map (λ k. kind_of k ≡ number 0 100000) (λ r. HardwareOf r.class) delayed_rows (λ i r h. refl)) refl

not_below : (k : Key) (document : Members) → not (is_below_pad document k) ≡ true → setting document Pad ≤ setting document k
unfolding is_below_pad
not_below k document e = grind (arith, nat_tests)

module _ (document : Members) (sound : first_fault (causes document) ≡ None) where
  passes : list_all (λ k. not (is_below_pad document k)) keys_above_pad ≡ true
  passes = list_all-found_none (is_below_pad document) keys_above_pad (pad_fits document sound)

  parts : (list_all (λ k. not (is_below_pad document k)) (take 8 software_keys) ≡ true) × (list_all (λ k. not (is_below_pad document k)) (Read ∷ []) ≡ true)
  unfolding keys_above_pad listed
  parts = and_parts _ _ (sym (list_all-append (λ k. not (is_below_pad document k)) (take 8 software_keys) (Read ∷ [])) ∙ passes)

  pad_below_read : setting document Pad ≤ setting document Read
  pad_below_read = not_below Read document (and_parts (not (is_below_pad document Read)) true parts.1).0

  pad_below_software : All (λ n. setting document Pad ≤ n) (take 8 (map (setting document) software_keys))
  pad_below_software =
      rw (take-map (setting document) 8 software_keys)
      (All-map (λ n. setting document Pad ≤ n) (setting document) (take 8 software_keys)
      (λ k d h. not_below _ document (AllPass-from_list_all (λ x. not (is_below_pad document x)) (take 8 software_keys) parts.0 k d h)))

  pub IsLatencyTable-table_of : IsLatencyTable (table_of document)
  unfolding table_of listed
  IsLatencyTable-table_of = record {
    rows_with_latency = refl;
    rows_with_delay = refl;
    minimum_read = (read_within document).0;
    maximum_read = (read_within document).1;
    pad_below_read = pad_below_read;
    minimum_latency = λ k d h. (software_within document k d h).0;
    maximum_latency = λ k d h. (software_within document k d h).1;
    pad_below_latency = pad_below_software;
    maximum_delay = λ k d h. (hardware_within document k d h).1;
  }

-- ---- the table by default

module _ (minimum maximum : ℕ) (numbers : List ℕ) where
  numbers_within : list_all (λ n. nat_le minimum n && nat_le n maximum) numbers ≡ true → All (Within minimum maximum) numbers
  numbers_within fit k d h =
      within_from_test minimum maximum (get_or numbers k d)
      (AllPass-from_list_all (λ n. nat_le minimum n && nat_le n maximum) numbers fit k d h)

pub usual_is_table : IsLatencyTable usual
unfolding usual listed
usual_is_table = record {
  rows_with_latency = refl;
  rows_with_delay = refl;
  minimum_read = lit≤ tt;
  maximum_read = lit≤ tt;
  pad_below_read = lit≤ tt;
  minimum_latency = λ k d h. (numbers_within 1 1000 usual.software refl k d h).0;
  maximum_latency = λ k d h. (numbers_within 1 1000 usual.software refl k d h).1;
  pad_below_latency = λ k d h. omega arith;
  maximum_delay = λ k d h. (numbers_within 0 100000 usual.hardware refl k d h).1;
}

-- ---- the places of the classes

pub latency_of-table_of : (document : Members) (c : Class) → c ≢ class.Free → latency_of (table_of document) c ≡ setting document (SoftwareOf c)
unfolding table_of listed
latency_of-table_of document class.Add h = refl
latency_of-table_of document class.Logic h = refl
latency_of-table_of document class.Shift h = refl
latency_of-table_of document class.ShiftConst h = refl
latency_of-table_of document class.Compare h = refl
latency_of-table_of document class.Lui h = refl
latency_of-table_of document class.Mul h = refl
latency_of-table_of document class.Mulh h = refl
latency_of-table_of document class.Load h = refl
latency_of-table_of document class.Store h = refl
latency_of-table_of document class.Branch h = refl
latency_of-table_of document class.Jump h = refl
latency_of-table_of document class.Auipc h = refl
latency_of-table_of document class.Div h = refl
latency_of-table_of document class.Fence h = refl
latency_of-table_of document class.System h = refl
latency_of-table_of document class.Free h = absurd (h refl)

pub delay_of-table_of : (document : Members) (c : Class) → HasDelay c → delay_of (table_of document) c ≡ setting document (HardwareOf c)
unfolding table_of listed
delay_of-table_of document class.Add h = refl
delay_of-table_of document class.Logic h = refl
delay_of-table_of document class.Shift h = refl
delay_of-table_of document class.ShiftConst h = refl
delay_of-table_of document class.Compare h = refl
delay_of-table_of document class.Lui h = refl
delay_of-table_of document class.Mul h = refl
delay_of-table_of document class.Mulh h = refl
delay_of-table_of document class.Load h = absurd (omega arith)
delay_of-table_of document class.Store h = absurd (omega arith)
delay_of-table_of document class.Branch h = absurd (omega arith)
delay_of-table_of document class.Jump h = absurd (omega arith)
delay_of-table_of document class.Auipc h = absurd (omega arith)
delay_of-table_of document class.Div h = absurd (omega arith)
delay_of-table_of document class.Fence h = absurd (omega arith)
delay_of-table_of document class.System h = absurd (omega arith)
delay_of-table_of document class.Free h = absurd (omega arith)
