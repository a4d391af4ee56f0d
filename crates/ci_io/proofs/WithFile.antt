-- Files with another content under one name.
use Rattle.std.proofs.Common.{◌≡◌, ℕ, ◌∙◌, sym, true, false, cond, List, Option, Some, None, refl}
use Rattle.std.specs.Ordering.{nat_cmp, eq_by_cmp}
use Rattle.std.specs.Cmp.{Equal-is}
use Rattle.std.specs.Cmp.Lexicographic.{slice_cmp, nat_list_cmp_total}
use Rattle.std.specs.FinMap.{get, get-insert, get-remove, get_tied, same_map, slice_cmp-IsAntisymmetric, nat_cmp-IsAntisymmetric}
use Rattle.ci_io.specs.Outcomes.{Files, with_file}

-- what a name has, put there again, answers at each name as before
get-again : (files : Files) (name : List ℕ) (content : Option (List ℕ)) → get files name ≡ content → (q : List ℕ)
    → cond (eq_by_cmp (slice_cmp nat_cmp) q name) content (get files q) ≡ get files q
get-again files name content has q =
    elim (eq_by_cmp (slice_cmp nat_cmp) q name) as (λ b. eq_by_cmp (slice_cmp nat_cmp) q name ≡ b → cond b content (get files q) ≡ get files q) [
      | true ↦ λ same. sym has ∙ get_tied nat_list_cmp_total files q name ((Equal-is (slice_cmp nat_cmp q name)).0 same)
      | false ↦ λ _. refl
    ] refl

-- the files are the same with what a name has put there again
pub with_file-again : (name : List ℕ) (content : Option (List ℕ)) (files : Files) → get files name ≡ content → with_file name content files ≡ files
with_file-again name None files has =
    same_map nat_list_cmp_total (slice_cmp-IsAntisymmetric nat_cmp-IsAntisymmetric) _ _
    (λ q. get-remove nat_list_cmp_total files name q ∙ get-again files name None has q)
with_file-again name (Some bytes) files has =
    same_map nat_list_cmp_total (slice_cmp-IsAntisymmetric nat_cmp-IsAntisymmetric) _ _
    (λ q. get-insert nat_list_cmp_total files name bytes q ∙ get-again files name (Some bytes) has q)
