-- The places of the blocks that were entered, and their leaders.
use Rattle.std.proofs.Common.{◌≡◌, ℕ, zero, suc, ◌-◌, ◌<◌, ◌≤◌, Bool, true, false, if◌then◌else◌, List, [], ◌∷◌, ◌++◌}
use Rattle.std.proofs.Common.{length, map, filter, take, get_or, nat_lt, refl, sym, ap, ◌∙◌, append_assoc, add-one}
use Rattle.std.proofs.Common.{arith}
use Rattle.std.proofs.lemmas.Bool.Decides.{nat_tests}
use Rattle.std.proofs.lemmas.List.{get_or-map, length-map, map-append, take_all}
use Rattle.std.proofs.lemmas.List.Elements.{filter_more}
use Rattle.ci_word.specs.Numbers.{numbers_below}
use Rattle.ci_word.proofs.NumberLaws.{numbers_below-suc, numbers_below-zero}
use Rattle.ci_block.specs.declared.blocks.Block.{Block}
use Rattle.ci_emu.specs.declared.profile.Profile.{Profile}
use Rattle.ci_emu.specs.Profiles.{entries_in}
use Rattle.ci_select.specs.private.Followed.{entered_from, leaders_of}

-- ---- numbers that pass a test

-- the next number is taken where it passes,
pub number_taken :
    (n : ℕ) (p : ℕ → Bool) (rest : List ℕ) → p n ≡ true
    → numbers_below (suc n) p ++ rest ≡ numbers_below n p ++ n ∷ rest
number_taken n p rest is = rw (numbers_below-suc, is, append_assoc) refl

-- and left out where it doesn't
pub number_left :
    (n : ℕ) (p : ℕ → Bool) (rest : List ℕ) → p n ≡ false → numbers_below (suc n) p ++ rest ≡ numbers_below n p ++ rest
number_left n p rest is = rw (numbers_below-suc, is, append_assoc) refl

-- what they make is what is kept of all
module _ (xs : List ℕ) (test : ℕ → Bool) (f : ℕ → ℕ) (reads : (k : ℕ) → k < length xs → f k ≡ get_or xs k 0) where
  one_more :
      (n : ℕ) (passes : Bool) → f n ≡ get_or xs n 0
      → map f (if passes then n ∷ [] else []) ≡ (if passes then get_or xs n 0 ∷ [] else [])
  one_more n true is = ap (λ x. x ∷ []) is
  one_more n false is = refl

  made_below : (n : ℕ) → n ≤ length xs → map f (numbers_below n (λ k. test (get_or xs k 0))) ≡ filter test (take n xs)
  made_below zero within = rw numbers_below-zero refl
  made_below (suc n) within =
      let p : ℕ → Bool = λ k. test (get_or xs k 0) in
      let before : n < length xs = omega arith in
      ap (map f) (numbers_below-suc n p) ∙ map-append f (numbers_below n p) (if p n then n ∷ [] else [])
      ∙ (λ i. made_below n (omega arith) i ++ one_more n (p n) (reads n before) i)
      ∙ sym (filter_more test xs n 0 before) ∙ ap (λ m. filter test (take m xs)) (add-one n)

-- ---- blocks

-- the leader at a place, by the list of leaders
pub leader_in : (blocks : List Block) (place : ℕ) (block : Block) → place < length blocks
    → get_or (leaders_of blocks) place 0 ≡ (get_or blocks place block).leader
leader_in blocks place block within = get_or-map (λ (b : Block). b.leader) blocks place block 0 within

-- the leaders of the blocks that were entered, in order
pub leaders_of_entered :
    (profile : Profile) (blocks : List Block) (block : Block)
    → map (λ place. (get_or blocks place block).leader) (entered_from profile blocks)
    ≡ filter (λ leader. nat_lt 0 (entries_in profile leader)) (leaders_of blocks)
leaders_of_entered profile blocks block =
    let leaders = leaders_of blocks in
    let many : length leaders ≡ length blocks = length-map blocks (λ (b : Block). b.leader) in
    let test : ℕ → Bool = λ leader. nat_lt 0 (entries_in profile leader) in
    let made =
    made_below leaders test (λ place. (get_or blocks place block).leader)
    (λ k within. sym (leader_in blocks k block (omega arith))) (length blocks) (omega arith) in
    made ∙ ap (filter test) (take_all (length blocks) leaders (omega arith))

-- ---- the loop over the places, from the last one down

module _ (profile : Profile) (blocks : List Block) where
  abbrev pub is_entered : ℕ → Bool
  is_entered place = nat_lt 0 (entries_in profile (get_or (leaders_of blocks) place 0))

  -- the places below this one that were entered, and the rest behind them
  abbrev pub entered_below : ℕ → List ℕ → List ℕ
  entered_below place rest = numbers_below place is_entered ++ rest

  pub entered_none : (place : ℕ) (rest : List ℕ) → place ≤ 0 → entered_below place rest ≡ rest
  entered_none place rest last =
      let none : place ≡ 0 = omega arith in
      ap (λ n. entered_below n rest) none ∙ ap (λ xs. xs ++ rest) (numbers_below-zero is_entered)

  module _ (place : ℕ) (rest : List ℕ) (block : Block) (some : 0 < place) (within : place ≤ length blocks) where
    same : suc (place - 1) ≡ place
    same = omega arith

    read_at : is_entered (place - 1) ≡ nat_lt 0 (entries_in profile (get_or blocks (place - 1) block).leader)
    read_at = ap (λ leader. nat_lt 0 (entries_in profile leader)) (leader_in blocks (place - 1) block (omega arith))

    -- the place goes into the rest where its block was entered,
    pub entered_more :
        0 < entries_in profile (get_or blocks (place - 1) block).leader
        → entered_below (place - 1) ((place - 1) ∷ rest) ≡ entered_below place rest
    entered_more more =
        let is : is_entered (place - 1) ≡ true = read_at ∙ grind (arith, nat_tests) in
        sym (number_taken (place - 1) is_entered rest is) ∙ ap (λ n. entered_below n rest) same

    -- and else the rest stays
    pub entered_as_before :
        entries_in profile (get_or blocks (place - 1) block).leader ≤ 0
        → entered_below (place - 1) rest ≡ entered_below place rest
    entered_as_before never =
        let is : is_entered (place - 1) ≡ false = read_at ∙ grind (arith, nat_tests) in
        sym (number_left (place - 1) is_entered rest is) ∙ ap (λ n. entered_below n rest) same
