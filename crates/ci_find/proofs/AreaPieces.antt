-- The units of a choice are pieces that a best set can be chosen of.
use Rattle.std.proofs.Common.{◌≡◌, ℕ, Ok, zero, suc, ◌+◌, ◌^◌, ◌<◌, ◌≤◌, true, List, [], ◌∷◌, ◌++◌, length, refl, sym, ap, subst, arith}
use Rattle.std.proofs.Common.{slice_index_or}
use Rattle.std.specs.Prelude.{reverse}
use Rattle.std.proofs.lemmas.Option.{slice_get_within}
use Rattle.std.specs.List.{sum_by}
use Rattle.ci_word.specs.Numbers.{sum_below}
use Rattle.ci_word.proofs.NumberLaws.{sum_below-le}
use Rattle.ci_elf.specs.Executables.{Executable}
use Rattle.ci_elf.specs.Rules.{IsReadAs}
use Rattle.ci_elf.proofs.TextPlaceLaws.{formed}
use Rattle.ci_lat.specs.Latencies.{Latencies}
use Rattle.ci_lat.specs.TableRules.{IsLatencyTable}
use Rattle.ci_machine.specs.Programs.{opening}
use Rattle.ci_machine.specs.Words.{AreBytes}
use Rattle.ci_block.specs.declared.blocks.Block.{Block}
use Rattle.ci_live.specs.Sets.{Sets}
use Rattle.ci_emu.specs.declared.profile.Profile.{Profile}
use Rattle.ci_emu.specs.Profiles.{targets_in}
use Rattle.ci_emu.specs.TableLatencies.{latencies_of}
use Rattle.ci_log.specs.Books.{Book}
use Rattle.ci_unit.specs.Tables.{IsTable}
use Rattle.ci_unit.specs.Units.{Unit}
use Rattle.ci_verilog.specs.Modules.{Module}
use Rattle.ci_vemit.specs.Templates.{modules_from, modules_of}
use Rattle.ci_area.specs.declared.piece.Piece.{Piece}
use Rattle.ci_area.specs.Pieces.{area_at, gain_at, no_piece, ArePieces}
use Rattle.ci_select.specs.declared.taken.Taken.{Taken}
use Rattle.ci_select.specs.declared.plan.Plan.{Plan}
use Rattle.ci_select.specs.Instances.{Instance, AreBlocksOf, AreOfSomeFile, entries_of, instance_of}
use Rattle.ci_select.specs.LegalBooks.{IsLegal}
use Rattle.ci_select.specs.Savings.{IsSaved, IsSavedBy}
use Rattle.ci_select.specs.Takes.{AreTaken, cycles_of}
use Rattle.ci_select.specs.UnitNumbers.{AreUnits}
use Rattle.ci_select.proofs.PresentIsOne.{blocks_in_order}
use Rattle.ci_select.proofs.EntrySums.{entries_are_steps}
use Rattle.ci_select.proofs.SavingBounds.{saved_is_few, takes_save_few}
use Rattle.ci_select.proofs.UnitSavings.{each_unit_saves, units_save_all}
use Rattle.ci_find.specs.AreaCommand.{ArePiecesOf}
use Rattle.ci_find.specs.Profiled.{IsProfiled}
use Rattle.ci_find.specs.private.Pieces.{ArePiecesFor, IsPieceAt}

-- ---- lists

-- as many modules as units
modules_long : (k : ℕ) (units : List Unit) → length (modules_from k units) ≡ length units
modules_long k [] = refl
modules_long k (unit ∷ units) = ap suc (modules_long (suc k) units)

pub as_many_modules : (units : List Unit) → length (modules_of units) ≡ length units
as_many_modules units = modules_long 0 units

-- what holds of each element of a list, and of one more, holds of each
pushed : {X : Type 0} (P : ℕ → X → Type 0) (none : X) (xs : List X) (x : X)
    → ((k : ℕ) → k < length xs → P k (slice_index_or xs k none)) → P (length xs) x
    → (k : ℕ) → k < suc (length xs) → P k (slice_index_or (xs ++ x ∷ []) k none)
pushed P none [] x told here zero below = here
pushed P none [] x told here (suc k) below = absurd (omega (arith, below))
pushed P none (y ∷ ys) x told here zero below = told 0 (omega arith)
pushed P none (y ∷ ys) x told here (suc k) below =
    pushed (λ j. P (suc j)) none ys x (λ j less. told (suc j) (omega (arith, less))) here k (omega (arith, below))

-- ---- the pieces

length_pushed : {X : Type 0} (xs : List X) (x : X) → length (xs ++ x ∷ []) ≡ suc (length xs)
length_pushed [] x = refl
length_pushed (y ∷ ys) x = ap suc (length_pushed ys x)

-- none
pub no_pieces : (modules : List Module) (takes : List Taken) → ArePiecesFor modules takes 0 []
no_pieces modules takes = record { as_many = refl; each = λ k below. absurd (omega (arith, below)) }

-- one more
pub one_more : (modules : List Module) (takes : List Taken) (count : ℕ) (pieces : List Piece) (piece : Piece)
    → ArePiecesFor modules takes count pieces → IsPieceAt modules takes count piece.area piece.gain
    → ArePiecesFor modules takes (count + 1) (pieces ++ piece ∷ [])
one_more modules takes count pieces piece are is =
    let P : ℕ → Piece → Type 0 = λ k p. IsPieceAt modules takes k p.area p.gain in
    record {
      as_many = (let many = are.as_many in let long = length_pushed pieces piece in omega (arith, many, long));
      each = λ k below.
          pushed P no_piece pieces piece (λ j less. are.each j (let many = are.as_many in omega (arith, many, less)))
          (subst (λ n. P n piece) (sym are.as_many) is) k (let many = are.as_many in omega (arith, many, below));
    }

module _ (instance : Instance) (book : Book) (units : List Unit) (takes : List Taken) (pieces : List Piece)
    (legal : IsLegal instance book) (units_are : AreUnits instance (reverse book.entries) units)
    (taken : AreTaken instance (reverse book.entries) (reverse takes))
    (are : ArePiecesFor (modules_of units) takes (length units) pieces) where
  gains_are : (k : ℕ) → k < length units → IsSavedBy instance k (reverse book.entries) (gain_at pieces k)
  gains_are k below = (are.each k below).gain_is instance (reverse book.entries) taken

  -- they are those of the units
  pub of_units : ArePiecesOf instance (reverse book.entries) units pieces
  of_units = record {
    as_many = are.as_many;
    areas_are = λ k m at.
        (are.each k (let there = slice_get_within (modules_of units) k m at in let many = as_many_modules units in
        omega (arith, there, many))).area_is m at;
    gains_are = gains_are;
  }

  -- and so few and small that their sums are below 2 to the power 63
  pub are_pieces : AreOfSomeFile instance.blocks instance.live → IsLatencyTable instance.table → IsTable units
      → entries_of instance ≤ 2 ^ 32 → (saved : ℕ) → IsSaved instance (reverse book.entries) saved → ArePieces pieces
  are_pieces of_file kept table few_entries saved saved_is =
      let many = are.as_many in
      let few_units = table.few in
      let all : sum_below (length units) (λ _. true) (gain_at pieces) ≡ saved =
      units_save_all instance book units (gain_at pieces) saved (blocks_in_order instance of_file) legal units_are gains_are
      saved_is in
      let few : saved < 2 ^ 63 = saved_is_few instance book saved of_file kept legal few_entries saved_is in
      let areas = sum_below-le (length pieces) (λ _. true) (area_at pieces) 25596480
      (λ k below. (are.each k (omega (arith, many, below))).area_most) in
      record {
        few = omega (arith, many, few_units);
        gain_least = λ k below.
            each_unit_saves instance book units k (gain_at pieces k) of_file legal units_are (omega (arith, many, below))
            (gains_are k (omega (arith, many, below)));
        gain_most = subst (λ n. sum_below n (λ _. true) (gain_at pieces) < 2 ^ 63) (sym many) (omega (arith, all, few));
        area_most = omega (arith, many, few_units, areas);
      }

-- ---- the run

module _ (file : Executable) (latencies : Latencies) (input : List ℕ) (steps : ℕ) (named : List ℕ) (profile : Profile)
    (blocks : List Block) (live : Sets) (is : IsProfiled file latencies input steps named profile blocks live) where
  of_this_file : AreBlocksOf file blocks live
  of_this_file = (targets_in profile, named, is.analysis)

  -- the blocks are those of a file
  pub of_some_file : IsReadAs file.bytes (Ok file) → AreBytes file.bytes → AreOfSomeFile blocks live
  of_some_file read of_bytes = (file, of_this_file, formed file.bytes read.0 file read.1, of_bytes)

  -- and are entered no more often than the run may have steps
  pub few_entries : (plan : Plan) → steps ≤ 4294967296
      → entries_of (instance_of profile blocks live latencies plan) ≤ 2 ^ 32
  few_entries plan most =
      let few : entries_of (instance_of profile blocks live latencies plan) ≤ steps =
      entries_are_steps file blocks live is.meaning steps (opening file input) (latencies_of latencies) profile
      of_this_file is.profile_is in
      omega (arith, few, most)

  -- so the takes of a choice save few cycles, and its units are pieces
  module _ (plan : Plan) (most : steps ≤ 4294967296) (read : IsReadAs file.bytes (Ok file)) (of_bytes : AreBytes file.bytes)
      (kept : IsLatencyTable latencies) (book : Book) (takes : List Taken)
      (legal : IsLegal (instance_of profile blocks live latencies plan) book)
      (taken : AreTaken (instance_of profile blocks live latencies plan) (reverse book.entries) (reverse takes)) where
    pub takes_fit : sum_by cycles_of takes < 2 ^ 64
    takes_fit =
        let few = takes_save_few (instance_of profile blocks live latencies plan) book takes (of_some_file read of_bytes) kept
        legal (few_entries plan most) taken in
        omega (arith, few)

    pub pieces_fit : (units : List Unit) (saved : ℕ) (pieces : List Piece)
        → AreUnits (instance_of profile blocks live latencies plan) (reverse book.entries) units → IsTable units
        → IsSaved (instance_of profile blocks live latencies plan) (reverse book.entries) saved
        → ArePiecesFor (modules_of units) takes (length units) pieces → ArePieces pieces
    pieces_fit units saved pieces units_are table saved_is are =
        are_pieces (instance_of profile blocks live latencies plan) book units takes pieces legal units_are taken are
        (of_some_file read of_bytes) kept table (few_entries plan most) saved saved_is
