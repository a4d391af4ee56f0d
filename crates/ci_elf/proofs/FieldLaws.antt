-- Numbers in the bytes of a file.
use Rattle.std.proofs.Common.{◌≡◌, ℕ, suc, zero, ◌+◌, ◌-◌, ◌<◌, ◌^◌, List, length, take, drop, get_or, refl, get_or-drop, add-zero, add-suc}
use Rattle.std.proofs.lemmas.List.{take_rest}
use Rattle.byteorder.specs.Endian.{little_from}
use Rattle.byteorder.specs.Numbers.{little_from-lt}
use Rattle.ci_elf.specs.Fields.{field, e_phnum, e_shnum, program_header, p_offset, p_filesz}

-- what is read behind a front of the bytes
little_from_drop : (i n k : ℕ) (bytes : List ℕ) → little_from i n (drop k bytes) ≡ little_from (k + i) n bytes
little_from_drop i zero k bytes = refl
little_from_drop i (suc n) k bytes =
    rw (get_or-drop k bytes i 0, little_from_drop (suc i) n k bytes, add-suc k i) refl

pub field_drop :
    (width offset : ℕ) (bytes : List ℕ)
    → little_from 0 width (take (length bytes - offset) (drop offset bytes)) ≡ field width offset bytes
unfolding field
field_drop width offset bytes = rw (take_rest bytes offset, little_from_drop 0 width offset bytes, add-zero offset) refl

-- a field of bytes fits its width
pub field_fits : (width offset : ℕ) (bytes : List ℕ) → ((i : ℕ) → get_or bytes i 0 < 256) → field width offset bytes < 256 ^ width
unfolding field
field_fits width offset bytes fits = little_from-lt offset width bytes fits

-- counts of headers are numbers of two bytes
module _ (bytes : List ℕ) (fits : (i : ℕ) → get_or bytes i 0 < 256) where
  pub e_phnum_small : e_phnum bytes < 65536
  unfolding e_phnum
  e_phnum_small = field_fits 2 44 bytes fits

  pub e_shnum_small : e_shnum bytes < 65536
  unfolding e_shnum
  e_shnum_small = field_fits 2 48 bytes fits

  pub p_offset_small : (n : ℕ) → p_offset bytes n < 2 ^ 32
  unfolding p_offset
  p_offset_small n = field_fits 4 (program_header bytes n + 4) bytes fits

  pub p_filesz_small : (n : ℕ) → p_filesz bytes n < 2 ^ 32
  unfolding p_filesz
  p_filesz_small n = field_fits 4 (program_header bytes n + 16) bytes fits
