-- Files that a shelf tells are read, or refused with one status.
use Rattle.std.proofs.Common.{◌≡◌, ℕ, inl, inr, List, [], ◌∷◌, Option, Some, None, length, refl, sym, ap, subst, ◌∙◌, arith}
use Rattle.ci_io.specs.Outcomes.{Files}
use Rattle.ci_lat.proofs.FaultLaws.{table_or_fault}
use Rattle.ci_log.proofs.OneFault.{no_fault as no_log_fault}
use Rattle.ci_netlist.proofs.TextReading.{texts_have_no_fault}
use Rattle.ci_vread.proofs.TextLaws.{never_both}
use Rattle.ci_calls.specs.declared.refusals.Refusal.{Refusal}
use Rattle.ci_calls.specs.declared.refusals.Refusal.TheVariants.{BadElf, BadTable, BadUnits, BadLog, BadAsm, BadNets}
use Rattle.ci_calls.specs.Forms.{Form, assembler_text, executable_file, gate_netlists, latency_table, log_book}
use Rattle.ci_calls.specs.Forms.{verilog_units, IsWellFormed, IsMalformed}
use Rattle.ci_calls.specs.Inputs.{Input, IsGood, AreRead, IsRefusedFile, absent, too_large, malformed, IsFileRefusal}
use Rattle.ci_calls.specs.Refusals.{status_of}
use Rattle.ci_calls.proofs.FormLaws.{text_or_fault, kept_or_broken}

-- ---- one file

-- what is well formed is not malformed
formed_or_not : (form : Form) (bytes : List ℕ) (refusal : Refusal) → IsWellFormed form bytes
    → IsMalformed form bytes refusal → ⊥
formed_or_not assembler_text bytes (BadAsm kind line column) good bad =
    text_or_fault bytes good.0 kind line column good.1 bad
formed_or_not executable_file bytes (BadElf fault) good bad = kept_or_broken bytes fault good bad
formed_or_not latency_table bytes (BadTable fault) good bad = table_or_fault bytes good.0 fault good.1 bad
formed_or_not verilog_units bytes (BadUnits kind offset) good bad = never_both bytes good.0 kind offset good.1 bad
formed_or_not log_book bytes (BadLog fault) good bad = no_log_fault bytes good.0 fault good.1 bad
formed_or_not gate_netlists bytes (BadNets offset) good bad = texts_have_no_fault bytes offset good bad
formed_or_not form bytes refusal good bad = absurd bad

-- bytes are malformed with one status
malformed_once : (form : Form) (bytes : List ℕ) (first second : Refusal) → IsMalformed form bytes first
    → IsMalformed form bytes second → status_of first ≡ status_of second
malformed_once assembler_text bytes (BadAsm kind line column) (BadAsm kind' line' column') a b = refl
malformed_once assembler_text bytes (BadAsm kind line column) second a b = absurd b
malformed_once executable_file bytes (BadElf fault) (BadElf fault') a b = refl
malformed_once executable_file bytes (BadElf fault) second a b = absurd b
malformed_once latency_table bytes (BadTable fault) (BadTable fault') a b = refl
malformed_once latency_table bytes (BadTable fault) second a b = absurd b
malformed_once verilog_units bytes (BadUnits kind offset) (BadUnits kind' offset') a b = refl
malformed_once verilog_units bytes (BadUnits kind offset) second a b = absurd b
malformed_once log_book bytes (BadLog fault) (BadLog fault') a b = refl
malformed_once log_book bytes (BadLog fault) second a b = absurd b
malformed_once gate_netlists bytes (BadNets offset) (BadNets offset') a b = refl
malformed_once gate_netlists bytes (BadNets offset) second a b = absurd b
malformed_once form bytes first second a b = absurd a

-- ---- the files of a shelf that tells them

module _ (held : Files) where
  -- a name has one file
  same_bytes : (bytes other : List ℕ) (found : Option (List ℕ)) → found ≡ Some bytes → found ≡ Some other → bytes ≡ other
  same_bytes bytes other found a b = let both : Some bytes ≡ Some other = sym a ∙ b in cc

  good_once : (input : Input) (bytes other : List ℕ) → IsGood (Some held) input bytes → IsGood (Some held) input other
      → bytes ≡ other
  good_once input bytes other a b = same_bytes bytes other _ a.there b.there

  -- a file with which nothing is wrong is not refused
  good_or_refused : (input : Input) (bytes : List ℕ) (refusal : Refusal) → IsGood (Some held) input bytes
      → IsRefusedFile (Some held) input refusal → ⊥
  good_or_refused input bytes refusal good (absent name is none) =
      let both : None ≡ Some bytes = sym none ∙ good.there in absurd cc
  good_or_refused input bytes refusal good (too_large name other is there longer) =
      let same = ap length (same_bytes bytes other _ good.there there) in
      absurd (omega (arith, same, good.within_limit))
  good_or_refused input bytes refusal good (malformed {refusal = r} other there within bad) =
      formed_or_not input.form other r
      (subst (IsWellFormed input.form) (same_bytes bytes other _ good.there there) good.well_formed) bad

  -- a file is refused with one status
  refused_once : (input : Input) (first second : Refusal) → IsRefusedFile (Some held) input first
      → IsRefusedFile (Some held) input second → status_of first ≡ status_of second
  refused_once input first second (absent name is a) (absent other same b) = refl
  refused_once input first second (absent name is a) (too_large other bytes same there longer) =
      let both : None ≡ Some bytes = sym a ∙ there in absurd cc
  refused_once input first second (absent name is a) (malformed bytes there within bad) =
      let both : None ≡ Some bytes = sym a ∙ there in absurd cc
  refused_once input first second (too_large name bytes is there longer) (absent other same b) =
      let both : None ≡ Some bytes = sym b ∙ there in absurd cc
  refused_once input first second (too_large name bytes is there longer) (too_large other more alike found larger) = refl
  refused_once input first second (too_large name bytes is there longer) (malformed more found within bad) =
      let same = ap length (same_bytes bytes more _ there found) in
      absurd (omega (arith, same, longer, within))
  refused_once input first second (malformed bytes there within bad) (absent other same b) =
      let both : None ≡ Some bytes = sym b ∙ there in absurd cc
  refused_once input first second (malformed bytes there within bad) (too_large other more alike found larger) =
      let same = ap length (same_bytes bytes more _ there found) in
      absurd (omega (arith, same, larger, within))
  refused_once input first second (malformed {refusal = r} bytes there within bad) (malformed {refusal = r'} more found under worse) =
      malformed_once input.form more r r'
      (subst (λ b. IsMalformed input.form b r) (same_bytes bytes more _ there found) bad) worse

  -- the files hold one list of bytes
  pub read_once : (inputs : List Input) (read other : List (List ℕ)) → AreRead (Some held) inputs read
      → AreRead (Some held) inputs other → read ≡ other
  read_once [] [] [] a b = refl
  read_once [] [] (y ∷ other) a b = absurd b
  read_once [] (x ∷ read) other a b = absurd a
  read_once (input ∷ inputs) [] other a b = absurd a
  read_once (input ∷ inputs) (x ∷ read) [] a b = absurd b
  read_once (input ∷ inputs) (x ∷ read) (y ∷ other) a b =
      let first = good_once input x y a.0 b.0 in
      let others = read_once inputs read other a.1 b.1 in
      cc

  -- files that are all read are not refused
  pub read_or_refused : (inputs : List Input) (read : List (List ℕ)) (refusal : Refusal) → AreRead (Some held) inputs read
      → IsFileRefusal (Some held) inputs refusal → ⊥
  read_or_refused [] read refusal a b = b
  read_or_refused (input ∷ inputs) [] refusal a b = a
  read_or_refused (input ∷ inputs) (x ∷ read) refusal a (inl b) = good_or_refused input x refusal a.0 b
  read_or_refused (input ∷ inputs) (x ∷ read) refusal a (inr b) = read_or_refused inputs read refusal a.1 b.2

  -- files are refused with one status
  pub refusal_once : (inputs : List Input) (first second : Refusal) → IsFileRefusal (Some held) inputs first
      → IsFileRefusal (Some held) inputs second → status_of first ≡ status_of second
  refusal_once [] first second a b = absurd a
  refusal_once (input ∷ inputs) first second (inl a) (inl b) = refused_once input first second a b
  refusal_once (input ∷ inputs) first second (inl a) (inr b) = absurd (good_or_refused input b.0 first b.1 a)
  refusal_once (input ∷ inputs) first second (inr a) (inl b) = absurd (good_or_refused input a.0 second a.1 b)
  refusal_once (input ∷ inputs) first second (inr a) (inr b) = refusal_once inputs first second a.2 b.2
