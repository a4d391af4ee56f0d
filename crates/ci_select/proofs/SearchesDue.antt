-- The list of the searches that are due: its first is the one that is due, and behind it the others are.
use Rattle.std.proofs.Common.{◌≡◌, ℕ, zero, suc, ◌+◌, ◌-◌, ◌<◌, ◌==◌, Bool, true, false, refl, sym, ap, subst, ◌∙◌}
use Rattle.std.proofs.Common.{List, [], ◌∷◌, length, drop, get_or, Some, nat_lt, arith, if◌then◌else◌}
use Rattle.std.proofs.lemmas.List.{get_or-drop, get_or-map, length-drop, length-map}
use Rattle.std.proofs.lemmas.Bool.Decides.{nat_tests}
use Rattle.std.proofs.lemmas.List.Kept.{AllPairs-filter}
use Rattle.std.specs.Prelude.{slice_get}
use Rattle.std.specs.List.{AllPairs, Contains}
use Rattle.ci_block.specs.declared.blocks.Block.{Block}
use Rattle.ci_block.specs.Blocks.{AreInOrder}
use Rattle.ci_log.specs.declared.book.Entry.{Entry}
use Rattle.ci_log.specs.declared.book.Entry.TheVariants.{Best, Without, Spent, Take}
use Rattle.ci_select.specs.Histories.{History, is_take, round}
use Rattle.ci_select.specs.Instances.{Instance, entered}
use Rattle.ci_select.specs.Dues.{IsSearchDue, HasNoSearchDue, at_first, after_take}
use Rattle.ci_select.specs.private.Followed.{leaders_of, searches_due}

-- ---- lists from a place on

-- from the place of an element on, the list begins with it
drop_at_get : {X : Type 0} (xs : List X) (n : ℕ) (x : X) → slice_get xs n ≡ Some x → drop n xs ≡ x ∷ drop (suc n) xs
drop_at_get [] n x e = absurd (cc)
drop_at_get (y ∷ ys) zero x e = ap (λ z. z ∷ ys) (cc)
drop_at_get (y ∷ ys) (suc n) x e = drop_at_get ys n x e

-- and an element that begins the rest stands at its place
get_at_drop : {X : Type 0} (xs : List X) (n : ℕ) (x : X) (rest : List X) → drop n xs ≡ x ∷ rest → slice_get xs n ≡ Some x
get_at_drop [] zero x rest e = absurd (cc)
get_at_drop [] (suc n) x rest e = absurd (cc)
get_at_drop (y ∷ ys) zero x rest e = cc
get_at_drop (y ∷ ys) (suc n) x rest e = get_at_drop ys n x rest e

-- ---- by the kind of the last entry

-- behind a search the list goes on until the first take,
behind_search : (instance : Instance) (history : History) (entry : Entry) → is_take entry ≡ false
    → searches_due instance (entry ∷ history)
    ≡ (if round history == 0 then drop (suc (length history)) (entered instance) else [])
behind_search instance history (Best l cut log) other = refl
behind_search instance history (Without l log) other = refl
behind_search instance history (Spent l budget) other = refl
behind_search instance history (Take l unit) other = absurd (cc)

-- so that before it those are due that were not searched yet
before_first : (instance : Instance) (history : History) → round history ≡ 0
    → searches_due instance history ≡ drop (length history) (entered instance)
before_first instance [] none = refl
before_first instance (Best l cut log ∷ history) none = rw none refl
before_first instance (Without l log ∷ history) none = rw none refl
before_first instance (Spent l budget ∷ history) none = rw none refl
before_first instance (Take l unit ∷ history) none = absurd (omega arith)

-- a take is a round, so behind it no first search is due
behind_take : (instance : Instance) (history : History) (leader unit : ℕ)
    → (if round (Take leader unit ∷ history) == 0 then drop (suc (suc (length history))) (entered instance) else [])
    ≡ []
behind_take instance history leader unit =
    let some : (suc (round history) == 0) ≡ false = grind (arith, nat_tests) in
    ap (λ (none : Bool). if none then drop (suc (suc (length history))) (entered instance) else []) some

-- ---- the first of the list

-- The search that is due is the first, and an entry of it leaves the others.
pub list_of_due :
    {instance : Instance} {history : History} {leader : ℕ} (entry : Entry)
    → IsSearchDue instance history leader → is_take entry ≡ false
    → searches_due instance history ≡ leader ∷ searches_due instance (entry ∷ history)
list_of_due {instance} {history = history} {leader} entry (at_first none there) other =
    before_first instance history none ∙ drop_at_get (entered instance) (length history) leader there
    ∙ ap (λ rest. leader ∷ rest) (sym (rw (behind_search instance history entry other, none) refl))
list_of_due {instance} {history = Take l unit ∷ history} {leader} entry after_take other =
    ap (λ rest. l ∷ rest) (sym (behind_search instance (Take l unit ∷ history) entry other ∙ behind_take instance history l unit))

-- what begins the rest of the list before the first take
due_by_round : (instance : Instance) (history : History) (none : Bool) (n leader : ℕ) (rest : List ℕ)
    → (round history == 0) ≡ none → (if none then drop n (entered instance) else []) ≡ leader ∷ rest
    → (round history ≡ 0) × (slice_get (entered instance) n ≡ Some leader)
due_by_round instance history true n leader rest is e =
    (grind (arith, is), get_at_drop (entered instance) n leader rest e)
due_by_round instance history false n leader rest is e = absurd (cc)

-- and the first of the list is due.
pub due_of_list :
    (instance : Instance) (history : History) (leader : ℕ) (rest : List ℕ)
    → searches_due instance history ≡ leader ∷ rest → IsSearchDue instance history leader
due_of_list instance [] leader rest e = at_first refl (get_at_drop (entered instance) 0 leader rest e)
due_of_list instance (Best l cut log ∷ history) leader rest e =
    let both = due_by_round instance history (round history == 0) (suc (length history)) leader rest refl e in
    at_first both.0 both.1
due_of_list instance (Without l log ∷ history) leader rest e =
    let both = due_by_round instance history (round history == 0) (suc (length history)) leader rest refl e in
    at_first both.0 both.1
due_of_list instance (Spent l budget ∷ history) leader rest e =
    let both = due_by_round instance history (round history == 0) (suc (length history)) leader rest refl e in
    at_first both.0 both.1
due_of_list instance (Take l unit ∷ history) leader rest e =
    let same : l ≡ leader = cc in
    subst (λ (m : ℕ). IsSearchDue instance (Take l unit ∷ history) m) same after_take

-- by what the list is
none_of : (instance : Instance) (history : History) (xs : List ℕ) → HasNoSearchDue instance history
    → searches_due instance history ≡ xs → xs ≡ []
none_of instance history [] none e = refl
none_of instance history (leader ∷ rest) none e = absurd (none leader (due_of_list instance history leader rest e))

-- where no search is due, the list is empty
pub none_listed :
    (instance : Instance) (history : History) → HasNoSearchDue instance history → searches_due instance history ≡ []
none_listed instance history none = none_of instance history (searches_due instance history) none refl

-- ---- no block is listed twice

-- what is left of a list that ascends ascends,
ascends_drop : (n : ℕ) (xs : List ℕ) → AllPairs (λ x y. x < y) xs → AllPairs (λ x y. x < y) (drop n xs)
ascends_drop n xs h i j d less within =
    let long : length (drop n xs) ≡ length xs - n = length-drop n xs in
    rw (get_or-drop n xs i d, get_or-drop n xs j d) (h (n + i) (n + j) d (omega arith) (omega arith))

-- and the leaders of blocks do,
leaders_ascend : (blocks : List Block) → AreInOrder blocks → AllPairs (λ x y. x < y) (leaders_of blocks)
leaders_ascend [] order i j d less within = absurd (omega arith)
leaders_ascend (block ∷ blocks) order i j d less within =
    let long : length (leaders_of (block ∷ blocks)) ≡ length (block ∷ blocks) =
    length-map (block ∷ blocks) (λ b. b.leader) in
    let later : j < length (block ∷ blocks) = omega arith in
    rw (get_or-map (λ b. b.leader) (block ∷ blocks) i block d (omega arith), get_or-map (λ b. b.leader) (block ∷ blocks) j block d later)
    (order i j block less later)

-- those that were entered too,
entered_ascends : (instance : Instance) → AreInOrder instance.blocks → AllPairs (λ x y. x < y) (entered instance)
entered_ascends instance order =
    AllPairs-filter (λ x y. x < y) (λ leader. nat_lt 0 (instance.entries leader)) (leaders_of instance.blocks)
    (leaders_ascend instance.blocks order)

-- and those that are left of them,
by_round_ascends : (instance : Instance) (none : Bool) (n : ℕ) → AreInOrder instance.blocks
    → AllPairs (λ x y. x < y) (if none then drop n (entered instance) else [])
by_round_ascends instance true n order = ascends_drop n (entered instance) (entered_ascends instance order)
by_round_ascends instance false n order = λ i j d less within. absurd (omega arith)

-- so that the list does
list_ascends : (instance : Instance) (history : History) → AreInOrder instance.blocks
    → AllPairs (λ x y. x < y) (searches_due instance history)
list_ascends instance [] order = entered_ascends instance order
list_ascends instance (Take l unit ∷ history) order = λ i j d less within. absurd (omega arith)
list_ascends instance (Best l cut log ∷ history) order =
    by_round_ascends instance (round history == 0) (suc (length history)) order
list_ascends instance (Without l log ∷ history) order =
    by_round_ascends instance (round history == 0) (suc (length history)) order
list_ascends instance (Spent l budget ∷ history) order =
    by_round_ascends instance (round history == 0) (suc (length history)) order

-- the block whose search is due is not among those behind it
pub listed_once :
    (instance : Instance) (history : History) (leader : ℕ) (rest : List ℕ) → AreInOrder instance.blocks
    → searches_due instance history ≡ leader ∷ rest → ¬ Contains rest leader
listed_once instance history leader rest order e (k, within, is) =
    let ascends : AllPairs (λ x y. x < y) (leader ∷ rest) =
    subst (λ (xs : List ℕ). AllPairs (λ x y. x < y) xs) e (list_ascends instance history order) in
    let less : leader < get_or rest k leader = ascends 0 (suc k) leader (omega arith) (omega arith) in
    absurd (omega arith)
