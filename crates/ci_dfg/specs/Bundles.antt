-- Blocks whose bundles are whole. A bundle is the use of a unit: a `cput`, the unit word behind it, and a `cread` of
-- index 0 and one of index 1 behind that, of which all but the unit word may be missing.
use Rattle.std.specs.Prelude.{◌≡◌, ℕ, zero, suc, ◌<◌, true, ⊤, List, [], ◌∷◌, length}
use Rattle.ci_isa.specs.declared.instruction.Insn.{Insn}
use Rattle.ci_isa.specs.declared.instruction.Insn.TheVariants.{Unit, Cread, Cput}
use Rattle.ci_isa.specs.Effects.{is_unit, is_cput}
use Rattle.ci_isa.specs.Sequences.{nth_insn}

-- ---- by place

-- a `cread` of this index
abbrev pub is_read_of : ℕ → Insn → Type 0
is_read_of n (Cread rd index) = index ≡ n
is_read_of n insn = ⊥

-- what the word at place k asks of the words around it
module _ (insns : List Insn) (k : ℕ) where
  -- a `cput` stands directly before a unit word
  abbrev pub PutIsWhole : Type 0
  PutIsWhole = is_cput (nth_insn insns k) ≡ true → is_unit (nth_insn insns (suc k)) ≡ true

  -- a `cread` of index 0 stands directly behind a unit word
  abbrev pub FirstIsWhole : Type 0
  FirstIsWhole = is_read_of 0 (nth_insn insns k) → (u : ℕ) × (k ≡ suc u) × (is_unit (nth_insn insns u) ≡ true)

  -- a `cread` of index 1 stands directly behind a `cread` of index 0
  abbrev pub SecondIsWhole : Type 0
  SecondIsWhole = is_read_of 1 (nth_insn insns k) → (u : ℕ) × (k ≡ suc u) × is_read_of 0 (nth_insn insns u)

  abbrev pub IsBundledAt : Type 0
  IsBundledAt = PutIsWhole × FirstIsWhole × SecondIsWhole

-- each word has what it asks for
pub record AreBundled (insns : List Insn) : Type 0 where
  pub put : (k : ℕ) → k < length insns → PutIsWhole insns k
  pub first : (k : ℕ) → k < length insns → FirstIsWhole insns k
  pub second : (k : ℕ) → k < length insns → SecondIsWhole insns k

-- ---- word by word, for private contracts and proofs: so it is where the fields of each word fit

-- what stands directly before an instruction: a `cput`, a unit word, a `cread` of index 0, or none of these
pub data Before : Type 0 where
  a_put : Before
  a_unit : Before
  a_first : Before
  another : Before

abbrev pub left_by_read : ℕ → Before
left_by_read zero = a_first
left_by_read (suc index) = another

abbrev pub left_by : Insn → Before
left_by (Cput rs1 rs2) = a_put
left_by (Unit number rd rs1 rs2 rs3) = a_unit
left_by (Cread rd index) = left_by_read index
left_by insn = another

-- a `cread` of this index may stand there
abbrev pub may_read : Before → ℕ → Type 0
may_read a_unit index = index ≡ 0
may_read a_first index = index ≡ 1
may_read before index = ⊥

-- A unit word alone stands behind a `cput`; a `cread` of index 0 behind a unit word, and one of index 1 behind that.
abbrev pub MayFollow : Before → Insn → Type 0
MayFollow a_put (Unit number rd rs1 rs2 rs3) = ⊤
MayFollow a_put insn = ⊥
MayFollow before (Cread rd index) = may_read before index
MayFollow before insn = ⊤

-- no word has to follow
abbrev pub IsDone : Before → Type 0
IsDone a_put = ⊥
IsDone before = ⊤

-- the bundles of a list behind such a word are whole
abbrev pub Bundled : Before → List Insn → Type 0
Bundled before [] = IsDone before
Bundled before (insn ∷ insns) = MayFollow before insn × Bundled (left_by insn) insns

-- what stands before place k
abbrev pub before_at : Before → List Insn → ℕ → Before
before_at before insns zero = before
before_at before insns (suc k) = left_by (nth_insn insns k)
