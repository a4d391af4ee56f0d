-- The line that shows an instruction is written token by token, and its tokens are a statement that says the instruction.
use Rattle.std.proofs.Common.{◌≡◌, ℕ, zero, suc, ◌+◌, ◌*◌, ◌/◌, ◌%◌, ◌^◌, ◌<◌, ◌≤◌, inl, inr, true, false, List, [], ◌∷◌, ◌++◌, refl, sym, ap, subst, arith}
use Rattle.std.proofs.Common.{lit≤, lit<, append-nil, Some, ℤ, pos, negsuc, neg_ℤ, ◌≤ℤ◌, ◌<ℤ◌}
use Rattle.std.specs.Prelude.{codes, unsigned_abs}
use Rattle.std.specs.List.{AllByRecursion, list_all}
use Rattle.std.specs.Fmt.{decimal, signed_decimal, digits}
use Rattle.std.proofs.lemmas.Int.{ints}
use Rattle.ci_reading.specs.Hex.{eight_hex_digits}
use Rattle.ci_reading.specs.WrittenTokens.{IsApart, IsWritten, nothing, blank_before, token_before}
use Rattle.ci_reading.proofs.TokenLaws.{AllTail, apart_from}
use Rattle.ci_word.specs.declared.arithmetic.Op.{Op}
use Rattle.ci_word.specs.declared.arithmetic.Op.TheVariants as ops
use Rattle.ci_isa.specs.declared.instruction.Insn.{Insn}
use Rattle.ci_isa.specs.declared.instruction.Insn.TheVariants as insn
use Rattle.ci_isa.specs.Table.{constant_form}
use Rattle.ci_isa.specs.FieldBounds.{IsOfWidth, IsEven, ConstantFits, FieldsFit}
use Rattle.ci_asm.specs.declared.scanner.ByteClass.TheVariants.{NameByte}
use Rattle.ci_asm.specs.declared.mnemonics.Mnemonic.TheVariants.{RegisterRegister, Branch, Load, Store}
use Rattle.ci_asm.specs.private.Tokens.{belongs, is_letter, scan}
use Rattle.ci_asm.specs.Lexicon.{IsDigit, IsHexDigit, Token, name, decimal_number, hex_number, word, comma, open_bracket, close_bracket, colon, spelling}
use Rattle.ci_asm.specs.Lexicon.{StartsWith, IsToken, Spells, line_format}
use Rattle.ci_asm.specs.declared.slots.Field.{Field}
use Rattle.ci_asm.specs.declared.slots.Field.TheVariants.{Immediate, ShiftAmount, UpperBits, BranchOffset, JumpOffset, FenceBits, UnitNumber, WholeWord}
use Rattle.ci_asm.specs.Forms.{most_above, is_offset, IsIn, operation_name, register_immediate, branch_name}
use Rattle.ci_asm.specs.Forms.{load_name, store_name, Writes, HasNumber, plain, IsStatement, on_registers, on_immediate, lui, auipc, jump, jump_register}
use Rattle.ci_asm.specs.Forms.{branch, load, store, fence, ecall, ebreak, custom, cput, cread, cread_second, data_word}
use Rattle.ci_asm.specs.Shown.{register_name, upper_text, immediate_line, shown}
use Rattle.ci_asm.proofs.TestLaws.{true_is_not_false, and_both}
use Rattle.ci_asm.proofs.LongestTokens.{IsNameByte, letter_yes, name_yes, begun, format_clear}
use Rattle.ci_asm.proofs.WrittenDigits.{AreDigitsOf, decimal_digits, hex_digits, eight_digits}
use Rattle.ci_asm.proofs.KnownMnemonics.{is_word, known_mnemonic}

-- ---- bytes of a class

pub all_weaker : (P Q : ℕ → Type 0) → ((c : ℕ) → P c → Q c) → (bytes : List ℕ) → AllByRecursion P bytes → AllByRecursion Q bytes
all_weaker P Q weaker [] all = tt
all_weaker P Q weaker (c ∷ bytes) all = (weaker c all.0, all_weaker P Q weaker bytes all.1)

hex_name : (c : ℕ) → IsHexDigit c → IsNameByte c
hex_name c (inl digit) = inr digit
hex_name c (inr (inl small)) = inl (inl (omega (arith, small.0), omega (arith, small.1)))
hex_name c (inr (inr large)) = inl (inr (inl (omega (arith, large.0), omega (arith, large.1))))

-- ---- tokens that are apart

-- behind its first byte a token has letters and digits alone
spelling_tail : (t : Token) → IsToken t → AllTail IsNameByte (spelling t)
spelling_tail (name []) proper = tt
spelling_tail (name (c ∷ bytes)) proper = proper.1
spelling_tail (decimal_number true []) proper = tt
spelling_tail (decimal_number true (d ∷ ds)) proper = (inr proper.0, all_weaker IsDigit IsNameByte (λ c. inr) ds proper.1)
spelling_tail (decimal_number false (d ∷ ds)) proper = all_weaker IsDigit IsNameByte (λ c. inr) ds proper.1
spelling_tail (hex_number []) proper = absurd proper
spelling_tail (hex_number (d ∷ ds)) proper =
    (inl (inl (lit≤ tt, lit≤ tt)), (hex_name d proper.0, all_weaker IsHexDigit IsNameByte hex_name ds proper.1))
spelling_tail word proper =
    (inl (inl (lit≤ tt, lit≤ tt)), (inl (inl (lit≤ tt, lit≤ tt)), (inl (inl (lit≤ tt, lit≤ tt)), (inl (inl (lit≤ tt, lit≤ tt)), tt))))
spelling_tail other proper = tt

pub spelt_tail : (bytes : List ℕ) (t : Token) → Spells bytes t → AllTail IsNameByte bytes
spelt_tail bytes t s = subst (AllTail IsNameByte) (sym s.is_spelling) (spelling_tail t s.is_token)

-- a token and a byte other than a letter or a digit don't join
apart : (bytes : List ℕ) (t : Token) (c : ℕ) (rest : List ℕ) → Spells bytes t → ¬ IsNameByte c → IsApart line_format bytes (c ∷ rest)
apart = apart_from line_format IsNameByte spelt_tail format_clear.not_empty

no_blank_byte : ¬ IsNameByte 32
no_blank_byte = λ h. absurd (grind arith)

no_comma_byte : ¬ IsNameByte 44
no_comma_byte = λ h. absurd (grind arith)

no_open_byte : ¬ IsNameByte 40
no_open_byte = λ h. absurd (grind arith)

no_close_byte : ¬ IsNameByte 41
no_close_byte = λ h. absurd (grind arith)

open_apart : (text : List ℕ) → IsApart line_format (40 ∷ []) text
unfolding scan
open_apart [] = tt
open_apart (c ∷ text) = λ more u joined.
    let most = begun (40 ∷ c ∷ more ++ []) u (40 ∷ c ∷ more) [] (record { spells = joined; is_text = refl }) in
    absurd (omega arith)

-- ---- written lines

abbrev Line : List ℕ → List Token → Type 0
Line text tokens = IsWritten line_format text tokens

last : (bytes : List ℕ) (t : Token) → Spells bytes t → Line bytes (t ∷ [])
last bytes t s = subst (λ text. Line text (t ∷ [])) (append-nil bytes) (token_before s tt nothing)

spaced : (bytes rest : List ℕ) (t : Token) (tokens : List Token) → Spells bytes t → Line rest tokens → Line (bytes ++ 32 ∷ rest) (t ∷ tokens)
spaced bytes rest t tokens s more = token_before s (apart bytes t 32 rest s no_blank_byte) (blank_before (inl refl) more)

comma_spelt : Spells (44 ∷ []) comma
comma_spelt = record { is_token = tt; is_spelling = refl }

listed : (bytes rest : List ℕ) (t : Token) (tokens : List Token) → Spells bytes t → Line rest tokens
    → Line (bytes ++ 44 ∷ 32 ∷ rest) (t ∷ comma ∷ tokens)
listed bytes rest t tokens s more =
    token_before s (apart bytes t 44 (32 ∷ rest) s no_comma_byte) (spaced (44 ∷ []) rest comma tokens comma_spelt more)

in_brackets : (bytes inner : List ℕ) (t u : Token) → Spells bytes t → Spells inner u
    → Line (bytes ++ 40 ∷ (inner ++ 41 ∷ [])) (t ∷ open_bracket ∷ u ∷ close_bracket ∷ [])
in_brackets bytes inner t u s v =
    token_before s (apart bytes t 40 (inner ++ 41 ∷ []) s no_open_byte)
    (token_before (record { is_token = tt; is_spelling = refl }) (open_apart (inner ++ 41 ∷ []))
    (token_before v (apart inner u 41 [] v no_close_byte) (last (41 ∷ []) close_bracket (record { is_token = tt; is_spelling = refl }))))

-- ---- words and registers

word_bytes : (bytes : List ℕ) → list_all (belongs NameByte) bytes ≡ true → AllByRecursion IsNameByte bytes
word_bytes [] all = tt
word_bytes (c ∷ bytes) all =
    let both = and_both (belongs NameByte c) (list_all (belongs NameByte) bytes) all in
    (name_yes c both.0, word_bytes bytes both.1)

word_spelt : (bytes : List ℕ) → is_word bytes ≡ true → Spells bytes (name bytes)
word_spelt [] is = absurd (cc)
word_spelt (c ∷ bytes) is =
    let both = and_both (is_letter c) (list_all (belongs NameByte) bytes) is in
    record { is_token = (letter_yes c both.0, word_bytes bytes both.1); is_spelling = refl }

abbrev register : ℕ → Token
register r = name (register_name r)

register_spelt : (r : ℕ) → r < 32 → Spells (register_name r) (register r)
register_spelt r below = record { is_token = (inl (lit≤ tt, lit≤ tt), by (decimal r) (decimal_digits r (omega arith)).proper); is_spelling = refl }
  where
    by : (ds : List ℕ) → StartsWith IsDigit IsDigit ds → AllByRecursion IsNameByte ds
    by [] proper = absurd proper
    by (d ∷ ds) proper = all_weaker IsDigit IsNameByte (λ c. inr) (d ∷ ds) proper

-- ---- numbers

abbrev number : ℤ → Token
number (pos n) = decimal_number false (decimal n)
number (negsuc n) = decimal_number true (decimal (suc n))

number_spelt : (z : ℤ) → unsigned_abs z < 2 ^ 32 → Spells (signed_decimal z) (number z)
number_spelt (pos n) h = record { is_token = (decimal_digits n h).proper; is_spelling = refl }
number_spelt (negsuc n) h = record { is_token = (decimal_digits (suc n) h).proper; is_spelling = refl }

number_writes : (z : ℤ) → unsigned_abs z < 2 ^ 32 → Writes (number z) z
number_writes (pos n) h = let d = decimal_digits n h in (d.few, ap pos (sym d.value))
number_writes (negsuc n) h = let d = decimal_digits (suc n) h in (d.few, ap (λ k. neg_ℤ (pos k)) (sym d.value))

-- a number of so many bits is small, and fits its field
pub near : (half : ℕ) (z : ℤ) → half ≤ 1048576 → neg_ℤ (pos half) ≤ℤ z → z <ℤ pos half → unsigned_abs z < 2 ^ 32
near half (pos n) few low high = omega (arith, ints)
near half (negsuc n) few low high = omega (arith, ints)

record IsNumberFor (field : Field) (z : ℤ) : Type 0 where
  spelt : Spells (signed_decimal z) (number z)
  has : HasNumber field (number z) z

number_for : (field : Field) (half : ℕ) (z : ℤ) → half ≤ 1048576 → neg_ℤ (pos half) ≤ℤ z → z <ℤ pos half → IsIn field z → IsNumberFor field z
number_for field half z few low high within =
    let small = near half z few low high in
    record { spelt = number_spelt z small; has = (number_writes z small, within) }

below_up_to : (most : ℕ) (z : ℤ) → z <ℤ pos (most + 1) → z ≤ℤ pos most
below_up_to most (pos n) h = omega (arith, ints)
below_up_to most (negsuc n) h = omega (arith, ints)

even_up_to : (k : ℕ) (z : ℤ) → z <ℤ pos (2 * k + 2) → IsEven z → z ≤ℤ pos (2 * k)
even_up_to k (pos n) h even = omega (arith, ints)
even_up_to k (negsuc n) h even = omega (arith, ints)

twelve : (z : ℤ) → IsOfWidth 12 z → IsNumberFor Immediate z
twelve z h = number_for Immediate 2048 z (lit≤ tt) h.0 h.1 (h.0, below_up_to 2047 z h.1, λ none. absurd (cc))

amount : (z : ℤ) → pos 0 ≤ℤ z → z <ℤ pos 32 → IsNumberFor ShiftAmount z
amount (pos n) low high = number_for ShiftAmount 32 (pos n) (lit≤ tt) (omega (arith, ints)) high (low, omega (arith, ints), λ none. absurd (cc))
amount (negsuc n) low high = absurd (omega (arith, ints, low))

thirteen : (z : ℤ) → IsOfWidth 13 z → IsEven z → IsNumberFor BranchOffset z
thirteen z h even = number_for BranchOffset 4096 z (lit≤ tt) h.0 h.1 (h.0, even_up_to 2047 z h.1 even, λ offset. even)

twenty_one : (z : ℤ) → IsOfWidth 21 z → IsEven z → IsNumberFor JumpOffset z
twenty_one z h even = number_for JumpOffset 1048576 z (lit≤ tt) h.0 h.1 (h.0, even_up_to 524287 z h.1 even, λ offset. even)

-- a number that isn't below 0, in decimal and in hex digits
plain_spelt : (n : ℕ) → n < 2 ^ 32 → Spells (decimal n) (decimal_number false (decimal n))
plain_spelt n h = number_spelt (pos n) h

hex_spelt : (n : ℕ) (written : List ℕ) → AreDigitsOf IsHexDigit 16 n written → Spells (48 ∷ 120 ∷ written) (hex_number written)
hex_spelt n written d = record { is_token = d.proper; is_spelling = refl }

hex_writes : (n : ℕ) (written : List ℕ) → AreDigitsOf IsHexDigit 16 n written → Writes (hex_number written) (pos n)
hex_writes n written d = (d.few, ap pos (sym d.value))

upper_near : (upper : ℕ) → upper < 2 ^ 32 → upper / 4096 < 16 ^ 5
upper_near upper h = omega arith

upper_again : (upper : ℕ) → upper % 2 ^ 12 ≡ 0 → 4096 * (upper / 4096) ≡ upper
upper_again upper e = omega arith

unsigned_in : (field : Field) (n most : ℕ) → n ≤ most → most_above field ≡ most → is_offset field ≡ false → IsIn field (pos n)
unsigned_in field n most h limit no_offset =
    (omega (arith, ints), subst (λ k. pos n ≤ℤ pos k) (sym limit) (omega (arith, ints)), λ offset. absurd (true_is_not_false offset no_offset))

-- ---- register-immediate forms

-- the form of an operation that has one
pub record HasForm (op : Op) (imm : ℤ) : Type 0 where
  pub mnemonic : List ℕ
  pub field : Field
  pub form : register_immediate op ≡ Some (mnemonic, field)
  spelt : Spells mnemonic (name mnemonic)
  fits : IsNumberFor field imm

signed_form : (op : Op) (mnemonic : List ℕ) (imm : ℤ) → register_immediate op ≡ Some (mnemonic, Immediate) → is_word mnemonic ≡ true → IsOfWidth 12 imm
    → HasForm op imm
signed_form op mnemonic imm e is fits = record { mnemonic = mnemonic; field = Immediate; form = e; spelt = word_spelt mnemonic is; fits = twelve imm fits }

shift_form : (op : Op) (mnemonic : List ℕ) (imm : ℤ) → register_immediate op ≡ Some (mnemonic, ShiftAmount) → is_word mnemonic ≡ true
    → (pos 0 ≤ℤ imm) × (imm <ℤ pos 32) → HasForm op imm
shift_form op mnemonic imm e is fits =
    record { mnemonic = mnemonic; field = ShiftAmount; form = e; spelt = word_spelt mnemonic is; fits = amount imm fits.0 fits.1 }

pub form_of : (op : Op) (imm : ℤ) → ConstantFits (constant_form op) imm → HasForm op imm
form_of ops.Add imm fits = signed_form ops.Add _ imm refl refl fits
form_of ops.Slt imm fits = signed_form ops.Slt _ imm refl refl fits
form_of ops.Sltu imm fits = signed_form ops.Sltu _ imm refl refl fits
form_of ops.Xor imm fits = signed_form ops.Xor _ imm refl refl fits
form_of ops.Or imm fits = signed_form ops.Or _ imm refl refl fits
form_of ops.And imm fits = signed_form ops.And _ imm refl refl fits
form_of ops.Sll imm fits = shift_form ops.Sll _ imm refl refl fits
form_of ops.Srl imm fits = shift_form ops.Srl _ imm refl refl fits
form_of ops.Sra imm fits = shift_form ops.Sra _ imm refl refl fits
form_of other imm fits = absurd fits

-- ---- instructions

-- no colon comes first
abbrev pub IsNoColon : List Token → Type 0
IsNoColon (colon ∷ tokens) = ⊥
IsNoColon tokens = Unit {0}

-- the instruction's line is written so
pub record IsWrittenAs (i : Insn) : Type 0 where
  pub first : Token
  pub others : List Token
  pub written : IsWritten line_format (shown i) (first ∷ others)
  pub states : IsStatement (first ∷ others) (plain i)
  pub no_colon : IsNoColon others

is_written : {i : Insn} {first : Token} {others : List Token} → Line (shown i) (first ∷ others) → IsStatement (first ∷ others) (plain i) → IsNoColon others
    → IsWrittenAs i
is_written {first} {others} written states no_colon =
    record { first = first; others = others; written = written; states = states; no_colon = no_colon }

constant_written : (op : Op) (rd rs1 : ℕ) (imm : ℤ) → rd < 32 → rs1 < 32 → HasForm op imm → IsWrittenAs (insn.AluImm op rd rs1 imm)
constant_written op rd rs1 imm a b f =
    is_written (subst (λ o. Line (immediate_line o (register_name rd ∷ register_name rs1 ∷ signed_decimal imm ∷ []))
    (name f.mnemonic ∷ register rd ∷ comma ∷ register rs1 ∷ comma ∷ number imm ∷ [])) (sym f.form)
    (spaced f.mnemonic _ (name f.mnemonic) _ f.spelt (listed _ _ _ _ (register_spelt rd a)
    (listed _ _ _ _ (register_spelt rs1 b) (last _ _ f.fits.spelt)))))
    (on_immediate f.form (refl, a) (refl, b) f.fits.has) tt

upper_written : (mnemonic : List ℕ) (rd upper : ℕ) → is_word mnemonic ≡ true → rd < 32 → upper < 2 ^ 32
    → Line (mnemonic ++ 32 ∷ (register_name rd ++ 44 ∷ 32 ∷ upper_text upper))
    (name mnemonic ∷ register rd ∷ comma ∷ hex_number (digits 16 false (upper / 4096)) ∷ [])
upper_written mnemonic rd upper is a h =
    spaced mnemonic _ (name mnemonic) _ (word_spelt mnemonic is) (listed _ _ _ _ (register_spelt rd a)
    (last _ _ (hex_spelt (upper / 4096) _ (hex_digits (upper / 4096) (upper_near upper h)))))

upper_has : (upper : ℕ) → upper < 2 ^ 32 → HasNumber UpperBits (hex_number (digits 16 false (upper / 4096))) (pos (upper / 4096))
upper_has upper h = (
  hex_writes (upper / 4096) _ (hex_digits (upper / 4096) (upper_near upper h)),
  unsigned_in UpperBits (upper / 4096) 0xfffff (omega arith) refl refl,
)

access_written : (mnemonic : List ℕ) (first base : ℕ) (offset : ℤ) → is_word mnemonic ≡ true → first < 32 → base < 32
    → Spells (signed_decimal offset) (number offset)
    → Line (mnemonic ++ 32 ∷ (register_name first ++ 44 ∷ 32 ∷ (signed_decimal offset ++ 40 ∷ (register_name base ++ 41 ∷ []))))
    (name mnemonic ∷ register first ∷ comma ∷ number offset ∷ open_bracket ∷ register base ∷ close_bracket ∷ [])
access_written mnemonic first base offset is a b n =
    spaced mnemonic _ (name mnemonic) _ (word_spelt mnemonic is)
    (listed _ _ _ _ (register_spelt first a) (in_brackets _ _ _ _ n (register_spelt base b)))

pub written_as : (i : Insn) → FieldsFit i → IsWrittenAs i
written_as (insn.Alu op rd rs1 rs2) f =
    is_written (spaced (operation_name op) _ _ _ (word_spelt _ (known_mnemonic (RegisterRegister op) refl).1)
    (listed _ _ _ _ (register_spelt rd f.0) (listed _ _ _ _ (register_spelt rs1 f.1) (last _ _ (register_spelt rs2 f.2)))))
    (on_registers (refl, f.0) (refl, f.1) (refl, f.2)) tt
written_as (insn.AluImm op rd rs1 imm) f = constant_written op rd rs1 imm f.0 f.1 (form_of op imm f.2)
written_as (insn.Lui rd upper) f =
    is_written (upper_written (codes "lui") rd upper refl f.0 f.1)
    (subst (λ k. IsStatement (name (codes "lui") ∷ register rd ∷ comma ∷ hex_number (digits 16 false (upper / 4096)) ∷ []) (plain (insn.Lui rd k)))
    (upper_again upper f.2) (lui (refl, f.0) (upper_has upper f.1))) tt
written_as (insn.Auipc rd upper) f =
    is_written (upper_written (codes "auipc") rd upper refl f.0 f.1)
    (subst (λ k. IsStatement (name (codes "auipc") ∷ register rd ∷ comma ∷ hex_number (digits 16 false (upper / 4096)) ∷ []) (plain (insn.Auipc rd k)))
    (upper_again upper f.2) (auipc (refl, f.0) (upper_has upper f.1))) tt
written_as (insn.Jal rd offset) f =
    let n = twenty_one offset f.1 f.2 in
    is_written (spaced (codes "jal") _ _ _ (word_spelt _ refl) (listed _ _ _ _ (register_spelt rd f.0) (last _ _ n.spelt))) (jump (refl, f.0) n.has) tt
written_as (insn.Jalr rd rs1 offset) f =
    let n = twelve offset f.2 in
    is_written (access_written (codes "jalr") rd rs1 offset refl f.0 f.1 n.spelt) (jump_register (refl, f.0) n.has (refl, f.1)) tt
written_as (insn.Branch cond rs1 rs2 offset) f =
    let n = thirteen offset f.2 f.3 in
    is_written (spaced (branch_name cond) _ _ _ (word_spelt _ (known_mnemonic (Branch cond) refl).1)
    (listed _ _ _ _ (register_spelt rs1 f.0) (listed _ _ _ _ (register_spelt rs2 f.1) (last _ _ n.spelt))))
    (branch (refl, f.0) (refl, f.1) n.has) tt
written_as (insn.Load kind rd rs1 offset) f =
    let n = twelve offset f.2 in
    is_written (access_written (load_name kind) rd rs1 offset (known_mnemonic (Load kind) refl).1 f.0 f.1 n.spelt) (load (refl, f.0) n.has (refl, f.1)) tt
written_as (insn.Store width rs1 rs2 offset) f =
    let n = twelve offset f.2 in
    is_written (access_written (store_name width) rs2 rs1 offset (known_mnemonic (Store width) refl).1 f.1 f.0 n.spelt)
    (store (refl, f.1) n.has (refl, f.0)) tt
written_as (insn.Fence bits rs1 rd) f =
    is_written (spaced (codes "fence") _ _ _ (word_spelt _ refl) (listed _ _ _ _ (plain_spelt bits (omega (arith, f.0)))
    (listed _ _ _ _ (register_spelt rs1 f.1) (last _ _ (register_spelt rd f.2)))))
    (fence (number_writes (pos bits) (omega (arith, f.0)), unsigned_in FenceBits bits 4095 (omega (arith, f.0)) refl refl) (refl, f.1) (refl, f.2)) tt
written_as insn.Ecall f = is_written (last _ _ (word_spelt _ refl)) ecall tt
written_as insn.Ebreak f = is_written (last _ _ (word_spelt _ refl)) ebreak tt
written_as (insn.Unit n rd rs1 rs2 rs3) f =
    is_written (spaced (codes "ci") _ _ _ (word_spelt _ refl) (listed _ _ _ _ (plain_spelt n (omega (arith, f.0)))
    (listed _ _ _ _ (register_spelt rd f.1) (listed _ _ _ _ (register_spelt rs1 f.2)
    (listed _ _ _ _ (register_spelt rs2 f.3) (last _ _ (register_spelt rs3 f.4)))))))
    (custom (number_writes (pos n) (omega (arith, f.0)), unsigned_in UnitNumber n 31 (omega (arith, f.0)) refl refl)
    (refl, f.1) (refl, f.2) (refl, f.3) (refl, f.4)) tt
written_as (insn.Cput rs1 rs2) f =
    is_written (spaced (codes "cput") _ _ _ (word_spelt _ refl) (listed _ _ _ _ (register_spelt rs1 f.0) (last _ _ (register_spelt rs2 f.1))))
    (cput (refl, f.0) (refl, f.1)) tt
written_as (insn.Cread rd zero) f =
    is_written (spaced (codes "cread") _ _ _ (word_spelt _ refl) (last _ _ (register_spelt rd f.0))) (cread (refl, f.0)) tt
written_as (insn.Cread rd (suc zero)) f =
    is_written (spaced (codes "cread") _ _ _ (word_spelt _ refl) (listed _ _ _ _ (register_spelt rd f.0) (last _ _ (plain_spelt 1 (lit< tt)))))
    (cread_second (refl, f.0) (number_writes (pos 1) (lit< tt))) tt
written_as (insn.Cread rd (suc (suc n))) f = absurd (omega (arith, f.1))
written_as (insn.Illegal w) f =
    let d = eight_digits w f in
    is_written (spaced (codes ".word") _ word _ (record { is_token = tt; is_spelling = refl }) (last _ _ (hex_spelt w (eight_hex_digits w) d)))
    (data_word (hex_writes w (eight_hex_digits w) d, unsigned_in WholeWord w 0xffff_ffff (omega (arith, f)) refl refl)) tt
