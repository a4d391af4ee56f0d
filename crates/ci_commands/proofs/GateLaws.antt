-- The counts of modules, and the netlists of modules, one after the other.
use Rattle.std.proofs.Common.{◌≡◌, ℕ, zero, suc, ◌+◌, ◌<◌, ◌≤◌, List, [], ◌∷◌, ◌++◌, length, take, map, refl, sym}
use Rattle.std.proofs.Common.{ap, ◌∙◌, subst, arith}
use Rattle.std.specs.Prelude.{sum}
use Rattle.std.specs.List.{AllByRecursion, AllZip, slice_index_or}
use Rattle.std.proofs.lemmas.List.{take_all, take_more}
use Rattle.std.proofs.lemmas.List.Sums.{sum-map, sum_by-cons, sum_by_push, sum_by-take-le}
use Rattle.ci_verilog.specs.Modules.{Module, IsModule}
use Rattle.ci_vread.specs.Lexicon.{Token}
use Rattle.ci_vread.specs.Spelling.{SpellsModules, no_modules, more_modules, Spell}
use Rattle.ci_vread.proofs.OneSpelling.{all_modules}
use Rattle.ci_netlist.specs.Netlists.{Netlist}
use Rattle.ci_gates.specs.Counts.{IsCountOf}
use Rattle.ci_gates.specs.Modules.{HasFewGates, IsNetlistOf}
use Rattle.ci_gates.proofs.ModuleLaws.{count_is_one}
use Rattle.ci_commands.specs.GatesCommand.{HaveTogether, gates_of}

-- ---- the modules of a text

-- they are at most 32
few_modules : {k : ℕ} {tokens : List Token} {modules : List Module} → SpellsModules k tokens modules → k ≤ 32
    → k + length modules ≤ 32
few_modules no_modules few = omega (arith, few)
few_modules (more_modules is_k below is spells later) few = let rest = few_modules later below in omega (arith, rest)

module _ (bytes : List ℕ) (modules : List Module) (spell : Spell bytes modules) where
  pub spelled_few : length modules ≤ 32
  spelled_few = let few = few_modules spell.spelled (omega arith) in omega (arith, few)

  pub spelled_modules : AllByRecursion IsModule modules
  spelled_modules = all_modules spell.spelled

-- ---- lists that go together, place by place

module _ {A B : Type 0} (R : A → B → Type 0) where
  zipped_push : (xs : List A) (ys : List B) (x : A) (y : B) → AllZip R xs ys → R x y
      → AllZip R (xs ++ x ∷ []) (ys ++ y ∷ [])
  zipped_push [] [] x y are is = (is, tt)
  zipped_push [] (z ∷ ys) x y are is = absurd are
  zipped_push (w ∷ xs) [] x y are is = absurd are
  zipped_push (w ∷ xs) (z ∷ ys) x y are is = (are.0, zipped_push xs ys x y are.1 is)

  -- one place more
  pub zipped_more : (xs : List A) (k : ℕ) (x : A) (ys : List B) (y : B) → k < length xs → x ≡ slice_index_or xs k x
      → AllZip R (take k xs) ys → R x y → AllZip R (take (k + 1) xs) (ys ++ y ∷ [])
  zipped_more xs k x ys y below at are is =
      let more : take k xs ++ x ∷ [] ≡ take (k + 1) xs =
      ap (λ z. take k xs ++ z ∷ []) at ∙ sym (take_more xs k x below) in
      subst (λ zs. AllZip R zs (ys ++ y ∷ [])) more (zipped_push (take k xs) ys x y are is)

  pub zipped_long : (xs : List A) (ys : List B) → AllZip R xs ys → length ys ≡ length xs
  zipped_long [] [] are = refl
  zipped_long [] (y ∷ ys) are = absurd are
  zipped_long (x ∷ xs) [] are = absurd are
  zipped_long (x ∷ xs) (y ∷ ys) are = ap suc (zipped_long xs ys are.1)

-- ---- the gates of modules together

pub none_together : HaveTogether [] 0
none_together = record { counts = []; are_counts = tt; sum_is = refl }

-- one more module, behind the others
pub one_together : (modules : List Module) (k : ℕ) (m : Module) (before n : ℕ) → k < length modules
    → m ≡ slice_index_or modules k m → HaveTogether (take k modules) before → IsCountOf m n
    → HaveTogether (take (k + 1) modules) (before + n)
one_together modules k m before n below at have is = record {
  counts = have.counts ++ n ∷ [];
  are_counts = zipped_more IsCountOf modules k m have.counts n below at have.are_counts is;
  sum_is = ap (λ s. s + n) have.sum_is ∙ sym (sum_by_push (λ x. x) have.counts n);
}

-- the counts of the first modules are the first counts
first_counts : (k : ℕ) (modules : List Module) (first counts : List ℕ) → AllByRecursion IsModule modules
    → AllZip IsCountOf (take k modules) first → AllZip IsCountOf modules counts → first ≡ take k counts
first_counts zero modules [] counts are firsts all = refl
first_counts zero modules (n ∷ first) counts are firsts all = absurd firsts
first_counts (suc k) [] [] [] are firsts all = refl
first_counts (suc k) [] (n ∷ first) counts are firsts all = absurd firsts
first_counts (suc k) [] [] (n ∷ counts) are firsts all = absurd all
first_counts (suc k) (m ∷ modules) [] counts are firsts all = absurd firsts
first_counts (suc k) (m ∷ modules) (n ∷ first) [] are firsts all = absurd all
first_counts (suc k) (m ∷ modules) (n ∷ first) (i ∷ counts) are firsts all =
    λ j. count_is_one m are.0 n i firsts.0 all.0 j ∷ first_counts k modules first counts are.1 firsts.1 all.1 j

-- the first modules have no more gates than all
pub first_fewer : (modules : List Module) (k some all : ℕ) → AllByRecursion IsModule modules
    → HaveTogether (take k modules) some → HaveTogether modules all → some ≤ all
first_fewer modules k some all are first whole =
    let same = first_counts k modules first.counts whole.counts are first.are_counts whole.are_counts in
    let is : some ≡ sum (take k whole.counts) = first.sum_is ∙ ap sum same in
    let less : sum (take k whole.counts) ≤ sum whole.counts = sum_by-take-le (λ x. x) whole.counts k in
    omega (arith, is, less, whole.sum_is)

-- modules have one number of gates together
pub together_once : (modules : List Module) (some other : ℕ) → AllByRecursion IsModule modules
    → HaveTogether modules some → HaveTogether modules other → some ≡ other
together_once modules some other are one two =
    let whole = sym (take_all (length modules) modules (omega arith)) in
    let less : some ≤ other =
    first_fewer modules (length modules) some other are (subst (λ ms. HaveTogether ms some) whole one) two in
    let more : other ≤ some =
    first_fewer modules (length modules) other some are (subst (λ ms. HaveTogether ms other) whole two) one in
    omega (arith, less, more)

-- a module has no more gates than all together
count_within : (modules : List Module) (counts : List ℕ) (k : ℕ) (d : Module) → AllZip IsCountOf modules counts
    → k < length modules → (n : ℕ) × IsCountOf (slice_index_or modules k d) n × (n ≤ sum counts)
count_within [] counts k d are below = absurd (omega (arith, below))
count_within (m ∷ modules) [] k d are below = absurd are
count_within (m ∷ modules) (n ∷ counts) zero d are below =
    let all = sum_by-cons (λ (x : ℕ). x) n counts in (n, are.0, omega (arith, all))
count_within (m ∷ modules) (n ∷ counts) (suc k) d are below =
    let rest = count_within modules counts k d are.1 (omega (arith, below)) in
    let all = sum_by-cons (λ (x : ℕ). x) n counts in
    (rest.0, rest.1, omega (arith, rest.2, all))

pub few_gates : (modules : List Module) (all k : ℕ) (m : Module) → HaveTogether modules all → all ≤ 4194304
    → k < length modules → m ≡ slice_index_or modules k m → HasFewGates m
few_gates modules all k m have few below at =
    let within = count_within modules have.counts k m have.are_counts below in
    (within.0, subst (λ x. IsCountOf x within.0) (sym at) within.1, omega (arith, within.2, have.sum_is, few))

-- ---- netlists

gates_counted : (modules : List Module) (nets : List Netlist) → AllZip IsNetlistOf modules nets
    → AllZip IsCountOf modules (map (λ net. length net.gates) nets)
gates_counted [] [] are = tt
gates_counted [] (net ∷ nets) are = absurd are
gates_counted (m ∷ modules) [] are = absurd are
gates_counted (m ∷ modules) (net ∷ nets) are = (are.0.count, gates_counted modules nets are.1)

-- the gates of the netlists together are those of the modules
pub nets_together : (modules : List Module) (nets : List Netlist) → AllZip IsNetlistOf modules nets
    → HaveTogether modules (gates_of nets)
nets_together modules nets are = record {
  counts = map (λ (net : Netlist). length net.gates) nets;
  are_counts = gates_counted modules nets are;
  sum_is = sym (sum-map (λ (net : Netlist). length net.gates) nets);
}
