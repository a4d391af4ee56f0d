-- The symbol tables of a file, and which of their entries are taken behind some of them.
use Rattle.std.proofs.Common.{◌≡◌, ℕ, ◌+◌, ◌-◌, ◌*◌, ◌/◌, ◌%◌, ◌<◌, ◌≤◌, ◌||◌, ◌&&◌, Bool, true, false, not, cond, List, [], ◌∷◌}
use Rattle.std.proofs.Common.{length, inl, inr, refl, ◌∙◌, ap, arith, add-one}
use Rattle.std.specs.Prelude.{IsTrue}
use Rattle.std.proofs.lemmas.Bool.{cases_Bool, cases_lt}
use Rattle.std.proofs.lemmas.Bool.Decides.{nat_tests}
use Rattle.ci_elf.specs.declared.parts.Part.{Part}
use Rattle.ci_elf.specs.declared.taken.TakenPlaces.{TakenPlaces}
use Rattle.ci_elf.specs.Fields.{e_shnum, is_symbol_table, sh_offset, sh_size, st_value}
use Rattle.ci_elf.specs.Executables.{begins_entry, has_entry, has_entry_below}
use Rattle.ci_elf.specs.Rules.{Holds, HasSymbols, TextIsLoaded, TextIsAlone, IsSymbolTable, KeepsRules, section_rules}
use Rattle.ci_elf.specs.private.Parts.{IsWidened, nothing, part, symbols_at}
use Rattle.ci_elf.specs.private.SymbolChecks.{AreTakenBelow, IsSpan, IsTableAmong, TakesToo, free_values, is_taken, symbols_here, value_at}
use Rattle.ci_reading.proofs.BrokenLaws.{each_below_none, kept_at}
use Rattle.ci_elf.proofs.SameFields.{each_same}

-- there is room for each symbol table of the file
pub record HaveRoom (bytes : List ℕ) (places : TakenPlaces) : Type 0 where
  pub from :
      (n : ℕ) → n < e_shnum bytes → (symbols_at bytes n).start < (symbols_at bytes n).end
      → places.first ≤ (symbols_at bytes n).start
  pub to :
      (n : ℕ) → n < e_shnum bytes → (symbols_at bytes n).start < (symbols_at bytes n).end
      → (symbols_at bytes n).end ≤ places.first + length places.runs.items

module _ (bytes : List ℕ) where
  -- the rule on symbol tables is kept by each section
  pub table_holds : KeepsRules bytes (section_rules bytes) → (n : ℕ) → n < e_shnum bytes → Holds bytes (HasSymbols n)
  table_holds kept n exists =
      (kept_at (Holds bytes) (e_shnum bytes) n (λ k. HasSymbols k ∷ TextIsLoaded k ∷ TextIsAlone k ∷ []) exists kept).0

  -- ---- the span

  module _ (n : ℕ) (holds : Holds bytes (HasSymbols n)) where
    in_file : (symbols_at bytes n).start < (symbols_at bytes n).end → (symbols_at bytes n).end ≤ length bytes
    in_file = by (is_symbol_table bytes n) holds
      where
        by : (b : Bool) → (IsTrue b → IsSymbolTable bytes n)
            → (cond b (part (sh_offset bytes n) (sh_size bytes n)) nothing).start < (cond b (part (sh_offset bytes n) (sh_size bytes n)) nothing).end
            → (cond b (part (sh_offset bytes n) (sh_size bytes n)) nothing).end ≤ length bytes
        by true table some = (table refl).in_file (omega arith)
        by false table some = absurd (omega arith)

    order : (symbols_at bytes n).start ≤ (symbols_at bytes n).end
    order = by (is_symbol_table bytes n)
      where
        by : (b : Bool) → (cond b (part (sh_offset bytes n) (sh_size bytes n)) nothing).start ≤ (cond b (part (sh_offset bytes n) (sh_size bytes n)) nothing).end
        by true = omega arith
        by false = omega arith

    whole : ((symbols_at bytes n).end - (symbols_at bytes n).start) % 16 ≡ 0
    whole = by (is_symbol_table bytes n) holds
      where
        by : (b : Bool) → (IsTrue b → IsSymbolTable bytes n)
            → ((cond b (part (sh_offset bytes n) (sh_size bytes n)) nothing).end - (cond b (part (sh_offset bytes n) (sh_size bytes n)) nothing).start) % 16 ≡ 0
        by true table = omega (arith, (table refl).whole)
        by false table = omega arith

    pub table_among : (places : TakenPlaces) → HaveRoom bytes places → n < e_shnum bytes → IsTableAmong bytes places (symbols_at bytes n)
    table_among places room exists = record {
      order = order;
      whole = whole;
      in_file = in_file;
      from = room.from n exists;
      to = room.to n exists;
    }

    pub span_more : (span wider : Part) → IsSpan bytes n span → IsWidened span (symbols_at bytes n) wider → IsSpan bytes (n + 1) wider
    span_more span wider is widened = record {
      in_file = widened.last (length bytes) is.in_file in_file;
      from = λ m h some. elim (cases_lt m n) [
        | inl l ↦ omega (arith, is.from m l some, widened.start)
        | inr l ↦ let same : m ≡ n = omega arith in rw same (widened.from (rw same at some))
      ];
      to = λ m h some. elim (cases_lt m n) [
        | inl l ↦ omega (arith, is.to m l some, widened.end)
        | inr l ↦ let same : m ≡ n = omega arith in rw same (widened.to (rw same at some))
      ];
    }

  -- ---- what is taken

  pub none_taken : (places : TakenPlaces) → ((place : ℕ) → is_taken places place ≡ false) → AreTakenBelow bytes 0 places
  unfolding has_entry_below
  none_taken places free = λ place h. free place

  pub room_for : (span : Part) (places : TakenPlaces) → IsSpan bytes (e_shnum bytes) span → places.first ≡ span.start
      → length places.runs.items ≡ span.end - span.start → HaveRoom bytes places
  room_for span places is first many = record {
    from = λ n exists some. omega (arith, is.from n exists some);
    to = λ n exists some. omega (arith, is.from n exists some, is.to n exists some);
  }

  module _ (n : ℕ) (old new : TakenPlaces) (taken : AreTakenBelow bytes n old) where
    module _ (same : TakesToo old new (begins_entry (symbols_at bytes n).start (symbols_at bytes n).end)) where
      entry_is : (place : ℕ) → begins_entry (symbols_at bytes n).start (symbols_at bytes n).end place ≡ has_entry bytes n place
      unfolding has_entry
      entry_is place = by (is_symbol_table bytes n)
        where
          by : (b : Bool)
              → begins_entry (cond b (part (sh_offset bytes n) (sh_size bytes n)) nothing).start (cond b (part (sh_offset bytes n) (sh_size bytes n)) nothing).end place
              ≡ (b && begins_entry (sh_offset bytes n) (sh_offset bytes n + sh_size bytes n) place)
          by true = refl
          by false = grind (arith, nat_tests)

      pub table_taken : AreTakenBelow bytes (n + 1) new
      unfolding has_entry_below
      table_taken = rw add-one (λ place h.
          same.taken place (omega (arith, same.first))
          ∙ (λ i. entry_is place i || taken place (omega (arith, same.first)) i))

      pub room_stays : HaveRoom bytes old → HaveRoom bytes new
      room_stays room = record {
        from = λ m exists some. omega (arith, same.first, room.from m exists some);
        to = λ m exists some. omega (arith, same.first, same.many, room.to m exists some);
      }

    pub values_here : HaveRoom bytes old → n < e_shnum bytes → free_values bytes old (symbols_at bytes n) ≡ symbols_here bytes n
    unfolding st_value
    values_here room exists = elim (cases_Bool (is_symbol_table bytes n)) [
      | inl is ↦
          let many : (sh_offset bytes n + sh_size bytes n - sh_offset bytes n) / 16 ≡ sh_size bytes n / 16 = omega arith in
          let from = rw is at (room.from n exists) in
          rw (is, many) (each_same (sh_size bytes n / 16) _ _ (λ k h.
          ap (λ b. cond (not b) (value_at bytes (sh_offset bytes n) k ∷ []) [])
          (taken (sh_offset bytes n + 16 * k) (omega (arith, from (omega arith))))))
      | inr is ↦ rw (is, each_below_none) refl
    ]
