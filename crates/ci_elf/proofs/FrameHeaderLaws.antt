-- The headers of a frame, and where its words stand.
use Rattle.std.proofs.Common.{◌≡◌, ℕ, ◌+◌, ◌*◌, ◌<◌, ◌≤◌, ◌^◌, List, [], ◌∷◌, ◌++◌, length, refl, ap, sym, subst, arith, append_assoc, length-append, add-zero}
use Rattle.std.proofs.lemmas.List.Concat.{flat_map-append}
use Rattle.byteorder.specs.Numbers.{little_number-reads_back}
use Rattle.ci_elf.specs.Fields.{field, e_entry, e_phoff, e_phnum, e_shoff, e_shnum, p_type, p_offset, p_vaddr, p_filesz}
use Rattle.ci_elf.specs.Fields.{p_memsz, sh_type, sh_flags, sh_addr, sh_offset, sh_size}
use Rattle.ci_elf.specs.Frames.{words, file_header, frame_of}
use Rattle.ci_elf.specs.FrameImages.{FitFrame, values_offset}
use Rattle.ci_elf.proofs.WordLaws.{StandAt, words_stand, words_in_front, words_behind, words_inside, length_words}

-- ---- headers that stand as words in a table

-- program header n is that of a loadable segment whose memory all comes from the file
pub record IsLoad (bytes : List ℕ) (n from to long : ℕ) : Type 0 where
  pub kind : p_type bytes n ≡ 1
  pub offset : p_offset bytes n ≡ from
  pub address : p_vaddr bytes n ≡ to
  pub file_size : p_filesz bytes n ≡ long
  pub memory_size : p_memsz bytes n ≡ long

abbrev load_words : (from to long access : ℕ) → List ℕ
load_words from to long access = 1 ∷ from ∷ to ∷ to ∷ long ∷ long ∷ access ∷ 4 ∷ []

load_from :
    (bytes front behind : List ℕ) (n from to long access : ℕ) → 4 * length front ≡ 32 * n
    → StandAt bytes (e_phoff bytes) (front ++ (load_words from to long access ++ behind)) → from + to + long < 2 ^ 32
    → IsLoad bytes n from to long
unfolding p_type p_offset p_vaddr p_filesz p_memsz
load_from bytes front behind n from to long access there table small =
    let stand = rw there at (words_inside bytes (e_phoff bytes) front (load_words from to long access) behind table) in
    record {
      kind = rw add-zero at (stand 0 (omega arith) (omega arith));
      offset = stand 1 (omega arith) (omega arith);
      address = stand 2 (omega arith) (omega arith);
      file_size = stand 4 (omega arith) (omega arith);
      memory_size = stand 5 (omega arith) (omega arith);
    }

-- section header n has these fields
pub record IsSection (bytes : List ℕ) (n type_ access to from long : ℕ) : Type 0 where
  pub kind : sh_type bytes n ≡ type_
  pub flags : sh_flags bytes n ≡ access
  pub address : sh_addr bytes n ≡ to
  pub offset : sh_offset bytes n ≡ from
  pub size : sh_size bytes n ≡ long

abbrev section_words : (type_ access to from long : ℕ) → List ℕ
section_words type_ access to from long = 0 ∷ type_ ∷ access ∷ to ∷ from ∷ long ∷ 0 ∷ 0 ∷ 0 ∷ 0 ∷ []

section_from :
    (bytes front behind : List ℕ) (n type_ access to from long : ℕ) → 4 * length front ≡ 40 * n
    → StandAt bytes (e_shoff bytes) (front ++ (section_words type_ access to from long ++ behind))
    → type_ + access + to + from + long < 2 ^ 32 → IsSection bytes n type_ access to from long
unfolding sh_type sh_flags sh_addr sh_offset sh_size
section_from bytes front behind n type_ access to from long there table small =
    let numbers = section_words type_ access to from long in
    let stand = rw there at (words_inside bytes (e_shoff bytes) front numbers behind table) in
    record {
      kind = stand 1 (omega arith) (omega arith);
      flags = stand 2 (omega arith) (omega arith);
      address = stand 3 (omega arith) (omega arith);
      offset = stand 4 (omega arith) (omega arith);
      size = stand 5 (omega arith) (omega arith);
    }

-- ---- a frame

-- the headers are those of a frame with t words of text, c constants and v values
pub record HasFrameHeaders (bytes : List ℕ) (t c v : ℕ) : Type 0 where
  pub some_text : 0 < t
  pub text_fits : t + c ≤ 16355
  pub values_fit : v ≤ 262144
  pub long : length bytes ≡ 116 + 4 * t + 4 * c + 4 * v + 160
  pub entry : e_entry bytes ≡ 0x10074
  pub program_table : e_phoff bytes ≡ 52
  pub programs : e_phnum bytes ≡ 2
  pub section_table : e_shoff bytes ≡ 116 + 4 * t + 4 * c + 4 * v
  pub sections : e_shnum bytes ≡ 4
  pub text_segment : IsLoad bytes 0 0 0x10000 (116 + 4 * t + 4 * c)
  pub values_segment : IsLoad bytes 1 (116 + 4 * t + 4 * c) 0x20000 (4 * v)
  pub empty : IsSection bytes 0 0 0 0 0 0
  pub text : IsSection bytes 1 1 6 0x10074 116 (4 * t)
  pub constants : IsSection bytes 2 1 2 (0x10000 + (116 + 4 * t)) (116 + 4 * t) (4 * c)
  pub values : IsSection bytes 3 1 3 0x20000 (116 + 4 * t + 4 * c) (4 * v)

one_list :
    (front a b c d e : List ℕ)
    → ((((front ++ words a) ++ words b) ++ words c) ++ words d) ++ words e
    ≡ front ++ words (a ++ (b ++ (c ++ (d ++ e))))
one_list front a b c d e = simp (flat_map-append, append_assoc)

module _ (text constants values : List ℕ) where
  abbrev frame : List ℕ
  frame = frame_of text constants values

  -- how many bytes stand before the constants, before the values, and before the section headers
  abbrev text_end : ℕ
  text_end = 116 + 4 * length text

  abbrev middle : ℕ
  middle = values_offset text constants

  abbrev end : ℕ
  end = middle + 4 * length values

  abbrev text_load : List ℕ
  text_load = load_words 0 0x10000 middle 5

  abbrev values_load : List ℕ
  values_load = load_words middle 0x20000 (4 * length values) 6

  abbrev empty_section : List ℕ
  empty_section = section_words 0 0 0 0 0

  abbrev text_section : List ℕ
  text_section = section_words 1 6 0x10074 116 (4 * length text)

  abbrev constants_section : List ℕ
  constants_section = section_words 1 2 (0x10000 + text_end) text_end (4 * length constants)

  abbrev values_section : List ℕ
  values_section = section_words 1 3 0x20000 middle (4 * length values)

  abbrev sections : List ℕ
  sections = empty_section ++ text_section ++ constants_section ++ values_section

  -- the words from the values, from the constants, from the text, and from the program headers on
  abbrev from_values : List ℕ
  from_values = values ++ sections

  abbrev from_constants : List ℕ
  from_constants = constants ++ from_values

  abbrev from_text : List ℕ
  from_text = text ++ from_constants

  abbrev from_loads : List ℕ
  from_loads = text_load ++ values_load ++ from_text

  frame_is : frame ≡ file_header end ++ words from_loads
  unfolding frame_of
  frame_is = one_list (file_header end) (text_load ++ values_load) text constants values sections

  loads_on : StandAt frame 52 from_loads
  loads_on =
      subst (λ bytes. StandAt bytes 52 from_loads) (sym frame_is) (words_stand (file_header end) from_loads)

  text_on : StandAt frame 116 from_text
  text_on = words_behind frame 52 (text_load ++ values_load) from_text loads_on

  constants_on : StandAt frame text_end from_constants
  constants_on = words_behind frame 116 text from_constants text_on

  values_on : StandAt frame middle from_values
  values_on = words_behind frame text_end constants from_values constants_on

  pub text_stands : StandAt frame 116 text
  text_stands = words_in_front frame 116 text from_constants text_on

  pub constants_stand : StandAt frame text_end constants
  constants_stand = words_in_front frame text_end constants from_values constants_on

  pub values_stand : StandAt frame middle values
  values_stand = words_in_front frame middle values sections values_on

  frame_long : length frame ≡ end + 160
  frame_long =
      let header : length (file_header end) ≡ 52 = refl in
      omega (
        arith,
        ap length frame_is,
        header,
        length_words from_loads,
        length-append (file_header end) (words from_loads),
        length-append text from_constants,
        length-append constants from_values,
        length-append values sections,
      )

  module _ (fits : FitFrame text constants values) where
    table_at : e_shoff frame ≡ end
    unfolding e_shoff frame_of field
    table_at = little_number-reads_back 4 end [] (omega (arith, fits.text_fits, fits.values_fit))

    table : StandAt frame (e_shoff frame) sections
    table = rw table_at (words_behind frame middle values sections values_on)

    pub frame_headers : HasFrameHeaders frame (length text) (length constants) (length values)
    unfolding e_entry e_phoff e_phnum e_shnum field frame_of
    frame_headers =
        let size = 4 * length values in
        let small : middle + size < 2 ^ 30 = omega (arith, fits.text_fits, fits.values_fit) in
        let loads = load_from frame in
        let section = section_from frame in
        record {
          some_text = fits.some_text;
          text_fits = fits.text_fits;
          values_fit = fits.values_fit;
          long = frame_long;
          entry = refl;
          program_table = refl;
          programs = refl;
          section_table = table_at;
          sections = refl;
          text_segment = loads [] (values_load ++ from_text) 0 0 0x10000 middle 5 refl loads_on (omega arith);
          values_segment = loads text_load from_text 1 middle 0x20000 size 6 refl loads_on (omega arith);
          empty = section [] (text_section ++ constants_section ++ values_section) 0 0 0 0 0 0 refl table (omega arith);
          text =
              section empty_section (constants_section ++ values_section) 1 1 6 0x10074 116 (4 * length text) refl table
              (omega arith);
          constants =
              section (empty_section ++ text_section) values_section 2 1 2 (0x10000 + text_end) text_end
              (4 * length constants) refl table (omega arith);
          values =
              section (empty_section ++ text_section ++ constants_section) [] 3 1 3 0x20000 middle size refl table
              (omega arith);
        }
