-- What a history saves is one number.
use Rattle.std.proofs.Common.{◌≡◌, pos, true≢false, refl, arith}
use Rattle.ci_select.specs.Savings.{none, of_search, of_take}
use Rattle.ci_select.specs.Laws.{SavedIsOne}
use Rattle.ci_select.proofs.CandidateLaws.{saved_is_one}

pub savings_are_one : SavedIsOne
savings_are_one instance history left right order none none = refl
savings_are_one instance history left right order (of_search {saved = a} search l) (of_search {saved = b} again r) =
    savings_are_one instance _ a b order l r
savings_are_one instance history left right order (of_search search l) (of_take r other) = absurd (true≢false search)
savings_are_one instance history left right order (of_take l candidate) (of_search search r) =
    absurd (true≢false search)
savings_are_one instance history left right order
    (of_take {saved = a} {more = m} l candidate) (of_take {saved = b} {more = n} r other) =
    let before : a ≡ b = savings_are_one instance _ a b order l r in
    let more : pos m ≡ pos n = saved_is_one order candidate other in
    let same : m ≡ n = cc in
    omega (arith, before, same)
