-- There is one list of leaders.
use Rattle.std.proofs.Common.{◌≡◌, ℕ, zero, suc, ◌<◌, inl, inr, List, arith}
use Rattle.std.specs.List.{Contains}
use Rattle.ci_elf.specs.Executables.{Executable}
use Rattle.ci_elf.proofs.OneOrder.{ascending_is_one}
use Rattle.ci_block.specs.Leaders.{IsListing}
use Rattle.ci_block.specs.Laws.{ListingIsOne}

-- ---- two listings have the same members

module _ (image : Executable) (targets named : List ℕ) where
  -- a leader of one list is one of the other, where the lists agree below it
  moved : (left right : List ℕ) → IsListing image targets named left → IsListing image targets named right
      → (a : ℕ) → ((b : ℕ) → b < a → (Contains left b → Contains right b) × (Contains right b → Contains left b))
      → Contains left a → Contains right a
  moved left right l r a below c =
      let rule = (l.listed a).0 c in
      (r.listed a).1 (
        rule.0,
        elim rule.1 [
          | inl mark ↦ inl mark
          | inr f ↦ inr (record {
            leader = f.leader;
            listed = (below f.leader (omega (arith, f.distance))).0 f.listed;
            distance = f.distance;
            nearest = λ b h k d. f.nearest b h k ((below b k).1 d);
            range = f.range;
            there = f.there;
            from = f.from;
            to = f.to;
            unbroken = f.unbroken;
          })
        ],
      )

  module _ (left right : List ℕ) (l : IsListing image targets named left) (r : IsListing image targets named right) where
    agree : (n a : ℕ) → a < n → (Contains left a → Contains right a) × (Contains right a → Contains left a)
    agree zero a h = absurd (omega arith)
    agree (suc n) a h = (
      moved left right l r a (λ b k. agree n b (omega arith)),
      moved right left r l a (λ b k. let both = agree n b (omega arith) in (both.1, both.0)),
    )

    one : left ≡ right
    one =
        ascending_is_one (λ a. a) left right l.ascending r.ascending (λ a. (agree (suc a) a (omega arith)).0)
        (λ a. (agree (suc a) a (omega arith)).1)

pub listing_is_one : ListingIsOne
listing_is_one image targets named left right l r = one image targets named left right l r
