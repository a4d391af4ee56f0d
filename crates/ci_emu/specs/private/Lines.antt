-- For private contracts: what the lines of decoded words keep, and what is known of them while a program runs.
use Rattle.std.specs.Prelude.{◌≡◌, ℕ, ◌<◌, ◌≤◌, true, List, length, Option, Some, slice_index_or}
use Rattle.std.specs.List.{All, list_all}
use Rattle.ci_elf.specs.WordPlaces.{word_place}
use Rattle.ci_isa.specs.declared.instruction.Insn.{Insn}
use Rattle.ci_machine.specs.Accesses.{addresses}
use Rattle.ci_machine.specs.Programs.{Program, in_text}
use Rattle.ci_machine.specs.Steps.{Meaning, insn_in}
use Rattle.ci_emu.specs.private.Actions.{insn_of}
use Rattle.ci_emu.specs.declared.decode_cache.Decoded.{Decoded}

-- the line has how long its word takes
abbrev pub IsTimed : (ℕ → Insn → ℕ) → Decoded → Type 0
IsTimed cycles line = line.latency ≡ cycles line.word (insn_of line.action)

-- Each line has how long its word takes, and was compared with memory after at most so many changes of the text.
abbrev pub AreKept : (ℕ → Insn → ℕ) → ℕ → List Decoded → Type 0
AreKept cycles changes lines = All (λ line. IsTimed cycles line × (line.seen ≤ changes)) lines

-- ---- words that are known without a look at memory

module _ (meaning : Meaning) (program : Program) (memory : ℕ → Option ℕ) where
  -- what is fetched at the address is what the line's word stands for, and all its bytes are text
  pub record IsWordAt (address : ℕ) (line : Decoded) : Type 0 where
    pub insn : insn_in meaning program memory address ≡ Some (meaning.insn line.word)
    pub text : list_all (in_text program) (addresses 4 address) ≡ true

  -- Where the text may have changed so often, a line that was compared with memory since then is of the word there.
  abbrev pub AreKnown : ℕ → List Decoded → Type 0
  AreKnown changes lines =
      (address place : ℕ) (d : Decoded) → word_place program.text address ≡ Some place → place < length lines
      → (slice_index_or lines place d).seen ≡ changes → IsWordAt address (slice_index_or lines place d)
