-- Ranks that are equal or follow one another, and the first entry of a map that was taken out.
use Rattle.std.proofs.Common.{◌≡◌, ℕ, ◌<◌, false, List, ◌∷◌, refl, sym, ap, ◌∙◌, subst}
use Rattle.std.specs.Prelude.{slice_get}
use Rattle.std.specs.List.{All, Contains}
use Rattle.std.specs.Map.{keys_of}
use Rattle.std.specs.Ordering.{is_gt, nat_cmp, ordering_then}
use Rattle.std.specs.declared.cmp.Ordering.TheVariants.{Less, Equal}
use Rattle.std.proofs.lemmas.Cmp.{by_ranked, nat_cmp_total, ranked, tied_itself}
use Rattle.std.proofs.lemmas.List.Elements.{All-cons, All-contains, All-weaker}
use Rattle.ci_select.specs.declared.rounds.Candidate.{Candidate}
use Rattle.ci_select.specs.declared.rounds.Rank.{Rank}
use Rattle.ci_select.specs.private.Followed.{IsFirst}
use Rattle.ci_select.proofs.RankLaws.{first_of_all, mapped_there, rank_order}

-- equal numbers are tied,
numbers_tied : (a l : ℕ) → ordering_then (nat_cmp a a) (nat_cmp l l) ≡ Equal
numbers_tied a l = ap (λ o. ordering_then o (nat_cmp l l)) (tied_itself nat_cmp_total a) ∙ tied_itself nat_cmp_total l

-- and tied ones are equal
equal_numbers : (a b l m : ℕ) → ordering_then (nat_cmp b a) (nat_cmp l m) ≡ Equal → (b ≡ a) × (m ≡ l)
equal_numbers a b l m equal =
    by_ranked (b < a) (b ≡ a) (a < b) (nat_cmp b a) (ranked b a (nat_cmp b a) refl)
    (λ is less. let no = sym (ap (λ o. ordering_then o (nat_cmp l m)) is) ∙ equal in absurd (cc))
    (λ is same.
    let rest : nat_cmp l m ≡ Equal = sym (ap (λ o. ordering_then o (nat_cmp l m)) is) ∙ equal in (
      same,
      by_ranked (l < m) (l ≡ m) (m < l) (nat_cmp l m) (ranked l m (nat_cmp l m) refl)
          (λ other _. absurd (cc)) (λ _ one. sym one) (λ other _. absurd (cc)),
    ))
    (λ is more. let no = sym (ap (λ o. ordering_then o (nat_cmp l m)) is) ∙ equal in absurd (cc))

-- ranks that are tied are one
pub rank_is_one : (x y : Rank) → rank_order x y ≡ Equal → y ≡ x
rank_is_one x y equal =
    let both = equal_numbers x.saved.0 y.saved.0 x.leader y.leader equal in
    λ i. record { saved = record { 0 = both.0 i }; leader = both.1 i }

-- a rank that goes before another differs from it
pub before_is_other : (x y : Rank) → rank_order x y ≡ Less → x.saved.0 ≡ y.saved.0 → x.leader ≡ y.leader → ⊥
before_is_other x y before saved leader =
    let tied = numbers_tied x.saved.0 x.leader in
    let here : ordering_then (nat_cmp x.saved.0 x.saved.0) (nat_cmp x.leader x.leader) ≡ Less =
    (λ i. ordering_then (nat_cmp (saved i) x.saved.0) (nat_cmp x.leader (leader i))) ∙ before in
    let no = sym tied ∙ here in
    cc

-- what was taken out first went first,
pub first_taken :
    (entries rest : List (Rank × Candidate)) (rank : Rank) (candidate : Candidate)
    → entries ≡ (rank, candidate) ∷ rest → All (λ r. rank_order rank r ≡ Less) (keys_of rest)
    → IsFirst entries (rank, candidate)
first_taken entries rest rank candidate taken above =
    first_of_all entries (rank, candidate) (ap (λ es. slice_get es 0) taken)
    (subst (λ es. All (λ r. is_gt (rank_order rank r) ≡ false) (keys_of es)) (sym taken)
    (All-cons (λ r. is_gt (rank_order rank r) ≡ false) rank (keys_of rest)
    (ap is_gt (numbers_tied rank.saved.0 rank.leader))
    (All-weaker (λ r. rank_order rank r ≡ Less) (λ r. is_gt (rank_order rank r) ≡ false)
    (λ r less. ap is_gt less) (keys_of rest) above)))

-- and before all that are left
pub before_rest :
    (rest : List (Rank × Candidate)) (rank : Rank) (other : Rank × Candidate)
    → All (λ r. rank_order rank r ≡ Less) (keys_of rest) → Contains rest other → rank_order rank other.0 ≡ Less
before_rest rest rank other above there =
    All-contains (λ r. rank_order rank r ≡ Less) (keys_of rest) other.0 above
    (mapped_there (λ (e : Rank × Candidate). e.0) rest other there)
