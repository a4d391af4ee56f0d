-- For private contracts: how the value of `LogBook` is stored, for proofs to tell values apart.
use Rattle.std.specs.Prelude.{◌≡◌, ℕ, zero, suc, Bool, true, false, List, refl, ◌⊎◌}
use Rattle.std.proofs.Common.{inl, inr}
use Rattle.std.specs.Ordering.{nat_cmp}
use Rattle.std.specs.FinSet as set
use Rattle.std.specs.Coded.{Coded, code_by, coded×, coded_ℕ, coded⊎, coded_bool, coded_list}
use Rattle.ci_log.specs.declared.log.Item.{Item}
use Rattle.ci_log.specs.declared.log.Item.TheVariants.{B, O, C, I, G, F}
use Rattle.ci_log.specs.declared.book.Entry.{Entry}
use Rattle.ci_log.specs.declared.book.Entry.TheVariants.{Best, Without, Spent, Take}
use Rattle.ci_log.specs.declared.book.Finish.{Finish}
use Rattle.ci_log.specs.declared.book.Finish.TheVariants.{Empty, Count}
use Rattle.ci_log.specs.Books.{Book}

abbrev item_number : Item → ℕ
item_number B = 0
item_number O = 1
item_number C = 2
item_number I = 3
item_number G = 4
item_number F = 5

abbrev item_of : ℕ → Item
item_of zero = B
item_of (suc zero) = O
item_of (suc (suc zero)) = C
item_of (suc (suc (suc zero))) = I
item_of (suc (suc (suc (suc zero)))) = G
item_of (suc (suc (suc (suc (suc n))))) = F

pub item_again : (item : Item) → item_of (item_number item) ≡ item
item_again B = refl
item_again O = refl
item_again C = refl
item_again I = refl
item_again G = refl
item_again F = refl

abbrev coded_item : Coded Item
coded_item = code_by ℕ coded_ℕ item_number item_of item_again

abbrev is_empty : Finish → Bool
is_empty Empty = true
is_empty Count = false

abbrev finish_of : Bool → Finish
finish_of true = Empty
finish_of false = Count

pub finish_again : (finish : Finish) → finish_of (is_empty finish) ≡ finish
finish_again Empty = refl
finish_again Count = refl

abbrev coded_finish : Coded Finish
coded_finish = code_by Bool coded_bool is_empty finish_of finish_again

abbrev Parts : Type 0
Parts = (ℕ × (set.FinSet nat_cmp × List Item)) ⊎ ((ℕ × List Item) ⊎ ((ℕ × ℕ) ⊎ (ℕ × ℕ)))

abbrev entry_parts : Entry → Parts
entry_parts (Best leader cut log) = inl (leader, (cut, log))
entry_parts (Without leader log) = inr (inl (leader, log))
entry_parts (Spent leader budget) = inr (inr (inl (leader, budget)))
entry_parts (Take leader unit) = inr (inr (inr (leader, unit)))

abbrev entry_of : Parts → Entry
entry_of (inl p) = Best p.0 p.1.0 p.1.1
entry_of (inr (inl p)) = Without p.0 p.1
entry_of (inr (inr (inl p))) = Spent p.0 p.1
entry_of (inr (inr (inr p))) = Take p.0 p.1

pub entry_again : (entry : Entry) → entry_of (entry_parts entry) ≡ entry
entry_again (Best leader cut log) = refl
entry_again (Without leader log) = refl
entry_again (Spent leader budget) = refl
entry_again (Take leader unit) = refl

abbrev coded_entry : Coded Entry
coded_entry =
    code_by Parts
    (coded⊎ (coded× coded_ℕ (coded× (set.code coded_ℕ) (coded_list coded_item)))
    (coded⊎ (coded× coded_ℕ (coded_list coded_item))
    (coded⊎ (coded× coded_ℕ coded_ℕ) (coded× coded_ℕ coded_ℕ))))
    entry_parts entry_of entry_again

abbrev pub coded_book : Coded Book
coded_book = code_by (List Entry × Finish) (coded× (coded_list coded_entry) coded_finish)
    (λ b. (b.entries, b.finish)) (λ p. record { entries = p.0; finish = p.1 }) (λ _. refl)
