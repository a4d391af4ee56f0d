-- What histories that are one but for their logs have in common.
use Rattle.std.proofs.Common.{◌≡◌, ℕ, suc, Bool, true, false, List, [], ◌∷◌, ◌++◌, length, map, reverse, Option, Some, None, refl, sym, ap, ◌∙◌}
use Rattle.std.specs.Prelude.{filter, if◌then◌else◌}
use Rattle.std.specs.Option.{option_map}
use Rattle.std.specs.FinSet as finite
use Rattle.std.specs.Ordering.{nat_cmp}
use Rattle.std.proofs.lemmas.List.{length-map, map-append, reverse-append}
use Rattle.ci_log.specs.declared.book.Entry.{Entry}
use Rattle.ci_log.specs.declared.book.Entry.TheVariants.{Best, Without, Take}
use Rattle.ci_log.specs.declared.log.Item.{Item}
use Rattle.ci_select.specs.Histories.{AreOneButLogs, HasCut, History, is_search_of, is_take, is_take_of, last_search, round, without_log}

-- ---- lists of entries

-- each is one with itself,
pub itself : {history : History} → AreOneButLogs history history
itself = record { same = refl }

-- and the other with it
pub turned : {left right : History} → AreOneButLogs left right → AreOneButLogs right left
turned one = record { same = sym one.same }

pub first_alike : {x y : Entry} {xs ys : History} → AreOneButLogs (x ∷ xs) (y ∷ ys) → without_log x ≡ without_log y
first_alike one = let same = one.same in cc

pub rest_alike : {x y : Entry} {xs ys : History} → AreOneButLogs (x ∷ xs) (y ∷ ys) → AreOneButLogs xs ys
rest_alike one = record { same = let same = one.same in cc }

pub one_more :
    {xs ys : History} (x y : Entry) → without_log x ≡ without_log y → AreOneButLogs xs ys
    → AreOneButLogs (x ∷ xs) (y ∷ ys)
one_more x y first one = record { same = λ i. first i ∷ one.same i }

-- no entry is one with none
pub none_alike : {x : Entry} {xs : History} → AreOneButLogs [] (x ∷ xs) → ⊥
none_alike one = let same = one.same in cc

-- they are as many,
pub lengths_alike : {left right : History} → AreOneButLogs left right → length left ≡ length right
lengths_alike {left} {right} one = sym (length-map left without_log) ∙ ap length one.same ∙ length-map right without_log

-- also in the other order
map-reverse : (xs : History) → map without_log (reverse xs) ≡ reverse (map without_log xs)
map-reverse [] = refl
map-reverse (x ∷ xs) =
    ap (map without_log) (reverse-append (x ∷ []) xs)
    ∙ map-append without_log (reverse xs) (x ∷ [])
    ∙ ap (λ l. l ++ without_log x ∷ []) (map-reverse xs)
    ∙ sym (reverse-append (without_log x ∷ []) (map without_log xs))

pub reversed_alike : {left right : History} → AreOneButLogs left right → AreOneButLogs (reverse left) (reverse right)
reversed_alike {left} {right} one = record { same = map-reverse left ∙ ap reverse one.same ∙ sym (map-reverse right) }

-- ---- entries

-- what is told without the log is the same of both
told_alike :
    {X : Type 0} (tells : Entry → X) → ((entry : Entry) → tells (without_log entry) ≡ tells entry)
    → (left right : Entry) → without_log left ≡ without_log right → tells left ≡ tells right
told_alike tells kept left right same = sym (kept left) ∙ ap tells same ∙ kept right

-- whether it is a take of the block,
pub take_of_alike :
    (leader : ℕ) (left right : Entry) → without_log left ≡ without_log right
    → is_take_of leader left ≡ is_take_of leader right
take_of_alike leader left right same = told_alike (is_take_of leader) kept left right same
  where
    kept : (entry : Entry) → is_take_of leader (without_log entry) ≡ is_take_of leader entry
    kept (Best l cut log) = refl
    kept entry = refl

-- or any take,
take_kept : (entry : Entry) → is_take (without_log entry) ≡ is_take entry
take_kept (Best l cut log) = refl
take_kept entry = refl

pub take_alike : (left right : Entry) → without_log left ≡ without_log right → is_take left ≡ is_take right
take_alike left right same = told_alike is_take take_kept left right same

-- and a take is told whole
pub same_take : (leader unit : ℕ) (entry : Entry) → Take leader unit ≡ without_log entry → Take leader unit ≡ entry
same_take leader unit (Best l cut log) same = absurd cc
same_take leader unit (Without l log) same = absurd cc
same_take leader unit entry same = same

-- ---- what the entries say

-- how many pass a test that no log decides,
pub counts_alike :
    (test : Entry → Bool) → ((entry : Entry) → test (without_log entry) ≡ test entry) → {left right : History}
    → AreOneButLogs left right → length (filter test left) ≡ length (filter test right)
counts_alike test test_kept {left} {right} one =
    sym (kept left) ∙ ap (λ history. length (filter test history)) one.same ∙ kept right
  where
    by_test : (b : Bool) (x y : Entry) (xs ys : History) → length xs ≡ length ys
        → length (if b then x ∷ xs else xs) ≡ length (if b then y ∷ ys else ys)
    by_test true x y xs ys same = ap suc same
    by_test false x y xs ys same = same

    kept : (history : History) → length (filter test (map without_log history)) ≡ length (filter test history)
    kept [] = refl
    kept (entry ∷ history) =
        let bare = filter test (map without_log history) in
        ap (λ b. length (if b then without_log entry ∷ bare else bare)) (test_kept entry)
        ∙ by_test (test entry) (without_log entry) entry bare (filter test history) (kept history)

-- as the round,
pub rounds_alike : {left right : History} → AreOneButLogs left right → round left ≡ round right
rounds_alike one = counts_alike is_take take_kept one

-- the last search of a block, but for its log
last_kept :
    (history : History) (leader : ℕ)
    → last_search (map without_log history) leader ≡ option_map without_log (last_search history leader)
last_kept [] leader = refl
last_kept (entry ∷ history) leader =
    ap (λ b. if b then Some (without_log entry) else last_search (map without_log history) leader) (search_kept entry)
    ∙ by_test (is_search_of leader entry) (last_search history leader) (last_search (map without_log history) leader)
    (last_kept history leader)
  where
    search_kept : (e : Entry) → is_search_of leader (without_log e) ≡ is_search_of leader e
    search_kept (Best l cut log) = refl
    search_kept e = refl

    by_test : (b : Bool) (o p : Option Entry) → p ≡ option_map without_log o
        → (if b then Some (without_log entry) else p) ≡ option_map without_log (if b then Some entry else o)
    by_test true o p same = refl
    by_test false o p same = same

found_alike :
    (found : Option Entry) (leader : ℕ) (cut : finite.FinSet nat_cmp)
    → option_map without_log found ≡ Some (Best leader cut []) → (log : List Item) × (found ≡ Some (Best leader cut log))
found_alike None leader cut is = absurd cc
found_alike (Some (Best l c log)) leader cut is =
    let leads : l ≡ leader = cc in
    let cuts : c ≡ cut = cc in (log, λ i. Some (Best (leads i) (cuts i) log))
found_alike (Some entry) leader cut is = absurd cc

-- and its cut
pub cut_alike :
    {left right : History} {leader : ℕ} {cut : finite.FinSet nat_cmp} → AreOneButLogs left right
    → HasCut left leader cut → HasCut right leader cut
cut_alike {left} {right} {leader} {cut} one has =
    let is : option_map without_log (last_search right leader) ≡ Some (Best leader cut []) =
    sym (last_kept right leader) ∙ ap (λ history. last_search history leader) (sym one.same) ∙ last_kept left leader
    ∙ ap (option_map without_log) has.found in
    let found = found_alike (last_search right leader) leader cut is in
    record { log = found.0; found = found.1 }
