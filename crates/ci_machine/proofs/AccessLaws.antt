-- What accesses read and write, at addresses in a row.
use Rattle.std.proofs.Common.{◌≡◌, ℕ, zero, suc, ◌+◌, ◌-◌, ◌*◌, ◌%◌, ◌/◌, ◌^◌, ◌<◌, ◌≤◌, Bool, true, false, cond, List}
use Rattle.std.proofs.Common.{[], ◌∷◌, length, get_or, refl, sym, ◌∙◌, ap, subst, arith, eqb, Option, Some}
use Rattle.std.proofs.Common.{None, is_some, lit≤, drop, find}
use Rattle.std.proofs.lemmas.List.{drop_more}
use Rattle.std.specs.Option.{option_map}
use Rattle.ci_machine.specs.Accesses.{addresses, joined, bytes_at, with_bytes, number_of_bytes, bytes_of_number}
use Rattle.ci_machine.specs.ByteLists.{bytes_from}
use Rattle.ci_machine.proofs.TestLaws.{some_is}

-- ---- addresses

pub mod_small : (a : ℕ) → a < 2 ^ 32 → a % 2 ^ 32 ≡ a
mod_small a h = omega arith

mod_next : (a : ℕ) → (a % 2 ^ 32 + 1) % 2 ^ 32 ≡ (a + 1) % 2 ^ 32
mod_next a = omega arith

mod_twice : (a : ℕ) → (a % 2 ^ 32) % 2 ^ 32 ≡ a % 2 ^ 32
mod_twice a = omega arith

pub addresses-wrap : (n a : ℕ) → addresses n (a % 2 ^ 32) ≡ addresses n a
addresses-wrap zero a = refl
addresses-wrap (suc n) a =
    let more : addresses n (a % 2 ^ 32 + 1) ≡ addresses n (a + 1) =
    sym (addresses-wrap n (a % 2 ^ 32 + 1)) ∙ ap (addresses n) (mod_next a) ∙ addresses-wrap n (a + 1) in
    λ k. mod_twice a k ∷ more k

-- ---- bytes that are read

both_some : (byte : Option ℕ) (bytes : Option (List ℕ)) → is_some (joined byte bytes) ≡ true
    → (is_some byte ≡ true) × (is_some bytes ≡ true)
both_some None bytes h = absurd (let e : false ≡ true = h in cc)
both_some (Some byte) None h = absurd (let e : false ≡ true = h in cc)
both_some (Some byte) (Some bytes) h = (refl, refl)

module _ (memory : ℕ → Option ℕ) where
  -- bytes that stand in a list from an index on
  pub bytes_at_row : (n a : ℕ) (bytes : List ℕ) (i : ℕ) → a + n ≤ 2 ^ 32
      → ((k : ℕ) → k < n → memory (a + k) ≡ Some (get_or bytes (i + k) 0)) → bytes_at memory (addresses n a) ≡ Some (bytes_from n bytes i)
  bytes_at_row zero a bytes i fits row = refl
  bytes_at_row (suc n) a bytes i fits row =
      let first : memory (a % 2 ^ 32) ≡ Some (get_or bytes i 0) =
      ap memory (mod_small a (omega arith) ∙ omega arith) ∙ row 0 (omega arith) ∙ ap (λ (j : ℕ). Some (get_or bytes j 0)) (omega arith) in
      let more : bytes_at memory (addresses n (a + 1)) ≡ Some (bytes_from n bytes (i + 1)) =
      bytes_at_row n (a + 1) bytes (i + 1) (omega arith)
      (λ k h. ap memory (omega arith) ∙ row (k + 1) (omega arith) ∙ ap (λ (j : ℕ). Some (get_or bytes j 0)) (omega arith)) in
      λ k. joined (first k) (more k)

  joined_none : (byte : Option ℕ) → joined byte None ≡ None
  joined_none None = refl
  joined_none (Some byte) = refl

  -- a byte that is not mapped
  pub bytes_at_none : (n a k : ℕ) → k < n → memory ((a + k) % 2 ^ 32) ≡ None → bytes_at memory (addresses n a) ≡ None
  bytes_at_none zero a k lt h = absurd (omega arith)
  bytes_at_none (suc n) a zero lt h =
      let first : memory (a % 2 ^ 32) ≡ None = ap (λ (b : ℕ). memory (b % 2 ^ 32)) (omega arith) ∙ h in
      ap (λ (o : Option ℕ). joined o (bytes_at memory (addresses n (a + 1)))) first
  bytes_at_none (suc n) a (suc k) lt h =
      let more : bytes_at memory (addresses n (a + 1)) ≡ None =
      bytes_at_none n (a + 1) k (omega arith) (ap (λ (b : ℕ). memory (b % 2 ^ 32)) (omega arith) ∙ h) in
      ap (λ (o : Option (List ℕ)). joined (memory (a % 2 ^ 32)) o) more ∙ joined_none _

  -- bytes that are mapped
  pub bytes_at_first : (n a : ℕ) → is_some (bytes_at memory (addresses (suc n) a)) ≡ true
      → (is_some (memory (a % 2 ^ 32)) ≡ true) × (is_some (bytes_at memory (addresses n (a + 1))) ≡ true)
  bytes_at_first n a h = both_some (memory (a % 2 ^ 32)) (bytes_at memory (addresses n (a + 1))) h

  pub bytes_at_mapped : (n a k : ℕ) → k < n → is_some (bytes_at memory (addresses n a)) ≡ true → is_some (memory ((a + k) % 2 ^ 32)) ≡ true
  bytes_at_mapped zero a k lt h = absurd (omega arith)
  bytes_at_mapped (suc n) a zero lt h = ap (λ (b : ℕ). is_some (memory (b % 2 ^ 32))) (omega arith) ∙ (bytes_at_first n a h).0
  bytes_at_mapped (suc n) a (suc k) lt h =
      ap (λ (b : ℕ). is_some (memory (b % 2 ^ 32))) (omega arith) ∙ bytes_at_mapped n (a + 1) k (omega arith) (bytes_at_first n a h).1

  some_both : (byte : Option ℕ) (bytes : Option (List ℕ)) → is_some byte ≡ true → is_some bytes ≡ true → is_some (joined byte bytes) ≡ true
  some_both None bytes h k = absurd (let e : false ≡ true = h in cc)
  some_both (Some byte) None h k = absurd (let e : false ≡ true = k in cc)
  some_both (Some byte) (Some bytes) h k = refl

  -- one byte more before bytes that are mapped
  pub bytes_at_before : (n m a : ℕ) → m ≡ n + 1 → is_some (memory (a % 2 ^ 32)) ≡ true
      → is_some (bytes_at memory (addresses n (a + 1))) ≡ true → is_some (bytes_at memory (addresses m a)) ≡ true
  bytes_at_before n m a e h k =
      let P : ℕ → Type 0 = λ j. is_some (bytes_at memory (addresses j a)) ≡ true in
      subst P (let f : suc n ≡ m = omega arith in f) (some_both (memory (a % 2 ^ 32)) (bytes_at memory (addresses n (a + 1))) h k)

-- ---- numbers that are read

joined_number : (byte : Option ℕ) (bytes : Option (List ℕ)) (low high : ℕ) → byte ≡ Some low → option_map number_of_bytes bytes ≡ Some high
    → option_map number_of_bytes (joined byte bytes) ≡ Some (low + 256 * high)
joined_number None bytes low high h k = absurd (let e : None ≡ Some low = h in cc)
joined_number (Some byte) None low high h k = absurd (let e : None ≡ Some high = k in cc)
joined_number (Some byte) (Some bytes) low high h k =
    let e : byte ≡ low = some_is h in let f : number_of_bytes bytes ≡ high = some_is k in
    λ i. Some (e i + 256 * f i)

joined_nothing : (byte : Option ℕ) (bytes : Option (List ℕ)) → option_map number_of_bytes bytes ≡ None
    → option_map number_of_bytes (joined byte bytes) ≡ None
joined_nothing None bytes h = refl
joined_nothing (Some byte) None h = refl
joined_nothing (Some byte) (Some bytes) h = absurd (let e : Some (number_of_bytes bytes) ≡ None = h in cc)

module _ (memory : ℕ → Option ℕ) where
  unwrapped : (n a : ℕ) → option_map number_of_bytes (bytes_at memory (addresses n ((a + 1) % 2 ^ 32)))
      ≡ option_map number_of_bytes (bytes_at memory (addresses n (a + 1)))
  unwrapped n a = ap (λ (row : List ℕ). option_map number_of_bytes (bytes_at memory row)) (addresses-wrap n (a + 1))

  pub number_more : (n count a low high : ℕ) → count ≡ n + 1 → a < 2 ^ 32 → memory a ≡ Some low
      → option_map number_of_bytes (bytes_at memory (addresses n ((a + 1) % 2 ^ 32))) ≡ Some high
      → option_map number_of_bytes (bytes_at memory (addresses count a)) ≡ Some (low + 256 * high)
  number_more n count a low high e small h k =
      let P : ℕ → Type 0 = λ j. option_map number_of_bytes (bytes_at memory (addresses j a)) ≡ Some (low + 256 * high) in
      subst P (let f : suc n ≡ count = omega arith in f)
      (joined_number (memory (a % 2 ^ 32)) (bytes_at memory (addresses n (a + 1))) low high
      (ap memory (mod_small a small) ∙ h) (sym (unwrapped n a) ∙ k))

  pub number_none : (n count a : ℕ) → count ≡ n + 1
      → option_map number_of_bytes (bytes_at memory (addresses n ((a + 1) % 2 ^ 32))) ≡ None
      → option_map number_of_bytes (bytes_at memory (addresses count a)) ≡ None
  number_none n count a e k =
      let P : ℕ → Type 0 = λ j. option_map number_of_bytes (bytes_at memory (addresses j a)) ≡ None in
      subst P (let f : suc n ≡ count = omega arith in f)
      (joined_nothing (memory (a % 2 ^ 32)) (bytes_at memory (addresses n (a + 1))) (sym (unwrapped n a) ∙ k))

bound_suc : (low high n : ℕ) → n ≤ 3 → low < 256 → high < 256 ^ n → (low + 256 * high < 256 ^ suc n) × (256 ^ suc n ≤ 2 ^ 32)
bound_suc low high zero small l h = (omega arith, lit≤ tt)
bound_suc low high (suc zero) small l h = (omega arith, lit≤ tt)
bound_suc low high (suc (suc zero)) small l h = (omega arith, lit≤ tt)
bound_suc low high (suc (suc (suc zero))) small l h = (omega arith, lit≤ tt)
bound_suc low high (suc (suc (suc (suc n)))) small l h = absurd (omega arith)

pub number_bound : (low high n count : ℕ) → count ≡ n + 1 → count ≤ 4 → low < 256 → high < 256 ^ n
    → (low + 256 * high < 256 ^ count) × (256 ^ count ≤ 2 ^ 32)
number_bound low high n count e small l h =
    let P : ℕ → Type 0 = λ j. (low + 256 * high < 256 ^ j) × (256 ^ j ≤ 2 ^ 32) in
    subst P (let f : suc n ≡ count = omega arith in f) (bound_suc low high n (omega arith) l h)

-- ---- bytes that are written

pub none_from_is_some : (o : Option ℕ) → is_some o ≡ false → o ≡ None
none_from_is_some None h = refl
none_from_is_some (Some n) h = absurd (let e : true ≡ false = h in cc)

-- ---- bytes that are written one after the other

pub with_bytes-mapped : (memory : ℕ → Option ℕ) (row bytes : List ℕ) (x : ℕ) → is_some (memory x) ≡ true
    → is_some (with_bytes memory row bytes x) ≡ true
with_bytes-mapped memory [] bytes x h = h
with_bytes-mapped memory (a ∷ row) [] x h = h
with_bytes-mapped memory (a ∷ row) (b ∷ bytes) x h = some_either (eqb x a) b _ (with_bytes-mapped memory row bytes x h)
  where
    some_either : (here : Bool) (byte : ℕ) (o : Option ℕ) → is_some o ≡ true → is_some (cond here (Some byte) o) ≡ true
    some_either true byte o k = refl
    some_either false byte o k = k

pub mapped_still : (memory later : ℕ → Option ℕ) (row bytes : List ℕ) (x : ℕ) → later ≡ with_bytes memory row bytes
    → is_some (memory x) ≡ true → is_some (later x) ≡ true
mapped_still memory later row bytes x e h = ap (λ (m : ℕ → Option ℕ). is_some (m x)) e ∙ with_bytes-mapped memory row bytes x h

-- one byte more before those that were written
pub with_bytes-before : (memory later : ℕ → Option ℕ) (n count a i byte : ℕ) (bytes : List ℕ) → count ≡ n + 1 → i < length bytes
    → byte ≡ get_or bytes i 0 → later ≡ with_bytes memory (addresses n (a + 1)) (drop (i + 1) bytes)
    → with_bytes later (a % 2 ^ 32 ∷ []) (byte ∷ []) ≡ with_bytes memory (addresses count a) (drop i bytes)
with_bytes-before memory later n count a i byte bytes e lt is h =
    let P : ℕ → Type 0 = λ m. with_bytes later (a % 2 ^ 32 ∷ []) (byte ∷ []) ≡ with_bytes memory (addresses m a) (drop i bytes) in
    let Q : List ℕ → Type 0 = λ bs. with_bytes later (a % 2 ^ 32 ∷ []) (byte ∷ []) ≡ with_bytes memory (addresses (suc n) a) bs in
    let R : ℕ → Type 0 = λ b. with_bytes later (a % 2 ^ 32 ∷ []) (byte ∷ [])
    ≡ with_bytes memory (addresses (suc n) a) (b ∷ drop (i + 1) bytes) in
    subst P (let f : suc n ≡ count = omega arith in f)
    (subst Q (sym (drop_more bytes i 0 lt))
    (subst R is (λ k y. cond (eqb y (a % 2 ^ 32)) (Some byte) (h k y))))

pub length-bytes_of_number : (k n : ℕ) → length (bytes_of_number k n) ≡ k
length-bytes_of_number zero n = refl
length-bytes_of_number (suc k) n = ap (λ (m : ℕ). suc m) (length-bytes_of_number k (n / 256))

-- ---- the first of several addresses with a property

-- the addresses from one of them on
addresses_from : (count i address : ℕ) → i < count
    → addresses (count - i) (address + i) ≡ (address + i) % 2 ^ 32 ∷ addresses (count - (i + 1)) (address + (i + 1))
addresses_from count i address within =
    let e : count - i ≡ suc (count - (i + 1)) = omega arith in
    let next : address + i + 1 ≡ address + (i + 1) = omega arith in
    rw (e, next) refl

pub find_here : (p : ℕ → Bool) (count i address : ℕ) → i < count → p ((address + i) % 2 ^ 32) ≡ true
    → find p (addresses (count - i) (address + i)) ≡ Some ((address + i) % 2 ^ 32)
find_here p count i address within holds = rw (addresses_from count i address within, holds) refl

pub find_later : (p : ℕ → Bool) (count i address : ℕ) → i < count → p ((address + i) % 2 ^ 32) ≡ false
    → find p (addresses (count - i) (address + i)) ≡ find p (addresses (count - (i + 1)) (address + (i + 1)))
find_later p count i address within fails = rw (addresses_from count i address within, fails) refl

pub find_none : (p : ℕ → Bool) (count i address : ℕ) → count ≤ i → find p (addresses (count - i) (address + i)) ≡ None
find_none p count i address past = let e : count - i ≡ 0 = omega arith in rw e refl
