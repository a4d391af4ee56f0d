-- Each mnemonic is found by its name, and is spelt as a word.
use Rattle.std.proofs.Common.{◌≡◌, ℕ, false, Bool, true, ◌&&◌, List, [], ◌∷◌, refl, Some}
use Rattle.std.specs.List.{list_all}
use Rattle.ci_word.specs.declared.arithmetic.Op.TheVariants.{Add, Sub, Mul, Mulh, Mulhsu, Mulhu, Div, Divu, Rem, Remu}
use Rattle.ci_isa.specs.declared.instruction.Cond.TheVariants as cond_of
use Rattle.ci_isa.specs.declared.instruction.LoadKind.TheVariants as load_of
use Rattle.ci_isa.specs.declared.instruction.Width.TheVariants as width_of
use Rattle.ci_asm.specs.declared.scanner.ByteClass.TheVariants.{NameByte}
use Rattle.ci_asm.specs.declared.mnemonics.Mnemonic.{Mnemonic}
use Rattle.ci_asm.specs.declared.mnemonics.Mnemonic.TheVariants.{RegisterRegister, RegisterImmediate, Branch, Load, Store, Data}
use Rattle.ci_asm.specs.private.Tokens.{belongs, is_letter}
use Rattle.ci_asm.specs.private.Shapes.{is_statement, name_of, mnemonic_of}

-- a letter, and then letters and digits
abbrev pub is_word : List ℕ → Bool
is_word [] = false
is_word (c ∷ cs) = is_letter c && list_all (belongs NameByte) cs

-- `.word` alone is no word
abbrev pub is_spelt : Mnemonic → Bool
is_spelt Data = true
is_spelt m = is_word (name_of m)

pub known_mnemonic : (m : Mnemonic) → is_statement m ≡ true → (mnemonic_of (name_of m) ≡ Some m) × (is_spelt m ≡ true)
unfolding mnemonic_of
known_mnemonic (RegisterRegister Add) named = (refl, refl)
known_mnemonic (RegisterImmediate Add) named = (refl, refl)
known_mnemonic (RegisterImmediate Sub) named = absurd (cc)
known_mnemonic (RegisterImmediate Mul) named = absurd (cc)
known_mnemonic (RegisterImmediate Mulh) named = absurd (cc)
known_mnemonic (RegisterImmediate Mulhsu) named = absurd (cc)
known_mnemonic (RegisterImmediate Mulhu) named = absurd (cc)
known_mnemonic (RegisterImmediate Div) named = absurd (cc)
known_mnemonic (RegisterImmediate Divu) named = absurd (cc)
known_mnemonic (RegisterImmediate Rem) named = absurd (cc)
known_mnemonic (RegisterImmediate Remu) named = absurd (cc)
known_mnemonic (Branch cond_of.Eq) named = (refl, refl)
known_mnemonic (Load load_of.B) named = (refl, refl)
known_mnemonic (Store width_of.Byte) named = (refl, refl)
known_mnemonic other named = (refl, refl)
