-- Branches that wait for what is found where their nodes are left out.
use Rattle.std.proofs.Common.{◌≡◌, ℕ, zero, suc, ◌+◌, ◌<◌, ◌≤◌, false, List, ◌∷◌, length, refl, sym, ap, ◌∙◌, subst, arith}
use Rattle.std.proofs.Common.{get_or-set_other, get_or-set_same}
use Rattle.std.proofs.Math.ListN.{set as list_set}
use Rattle.ci_region.specs.BoundedMap.{BoundedMap, used}
use Rattle.ci_cut.specs.declared.graph.Limits.{Limits}
use Rattle.ci_cut.specs.FlowGraph.{FlowGraph}
use Rattle.ci_log.specs.declared.log.Item.TheVariants.{F}
use Rattle.ci_log.specs.declared.flattening.Child.{Child}
use Rattle.ci_log.specs.declared.flattening.Child.TheVariants.{Leaf}
use Rattle.ci_log.specs.declared.flattening.LogNode.{LogNode}
use Rattle.ci_cut.specs.declared.prefix.PrefixTerms.{PrefixTerms}
use Rattle.ci_cut.specs.declared.incumbent.Incumbent.{Incumbent}
use Rattle.ci_cut.specs.Prefixes.{Prefix}
use Rattle.ci_search.specs.private.Searched.{IsReady, IsSpentAt}
use Rattle.ci_search.specs.private.Trees.{IsSearched}
use Rattle.ci_search.specs.private.Branches.{IsBranch}
use Rattle.ci_search.specs.private.Waiting.{child_at, AreKeptBelow, IsWaiting, AreWaiting, IsJoined}
use Rattle.ci_search.proofs.SearchLaws.{spent_out, spent_here, searched_branch}

-- a child that is written is the one there, and those below are the same
pub written_at : (children : List Child) (k : ℕ) (child : Child) → k < length children → child_at (list_set children k child) k ≡ child
written_at children k child room = get_or-set_same children k child (Leaf F) room

pub written_above : (children : List Child) (k : ℕ) (child : Child) → AreKeptBelow k children (list_set children k child)
written_above children k child j below = get_or-set_other children k j child (Leaf F) (λ same. omega (arith, same, below))

module _ (graph : FlowGraph) (limits : Limits) (start : Prefix) (first : Incumbent) (before : BoundedMap LogNode) (bottom : ℕ) where
  -- branches wait as before where their children are the same
  pub waiting_kept : (children later : List Child) (n : ℕ) (prefix : Prefix) (best : Incumbent) (region : BoundedMap LogNode)
      → AreKeptBelow (bottom + n) children later
      → AreWaiting graph limits start first before children bottom n prefix best region
      → AreWaiting graph limits start first before later bottom n prefix best region
  waiting_kept children later zero prefix best region kept waits = waits
  waiting_kept children later (suc n) prefix best region kept (above, earlier, held, waits, waiting, is) = (
    above,
    earlier,
    held,
    waiting_kept children later n above earlier held (λ k below. kept k (omega (arith, below))) waits,
    subst (IsWaiting graph limits above earlier best held region) (sym (kept (bottom + n) (omega arith))) waiting,
    is,
  )

  -- where slots are wanting behind branches that wait, they are from the first on
  pub spent_waiting : (children : List Child) (n : ℕ) (prefix : Prefix) (best : Incumbent) (region : BoundedMap LogNode)
      → AreWaiting graph limits start first before children bottom n prefix best region
      → (after : BoundedMap LogNode) → IsSpentAt graph limits prefix region after → IsSpentAt graph limits start before after
  spent_waiting children zero prefix best region (is_start, is_first, is_before) after spent =
      subst (λ (p : Prefix). IsSpentAt graph limits p before after) is_start
      (subst (λ (r : BoundedMap LogNode). IsSpentAt graph limits prefix r after) is_before spent)
  spent_waiting children (suc n) prefix best region (above, earlier, held, waits, waiting, is) after spent =
      spent_waiting children n above earlier held waits after
      (spent_out graph limits above waiting.terms waiting.delays earlier waiting.ready waiting.measured held waiting.node waiting.next waiting.some
      region best (child_at children (bottom + n)) waiting.searched after
      (subst (λ (p : Prefix). IsSpentAt graph limits p region after) is spent))

  -- ---- branches that are joined

  -- one branch less, by a slot or for want of one
  pub record Joins (children : List Child) (next : ℕ) (later : Incumbent) (region : BoundedMap LogNode) (root : Child) : Type 0 where
    pub joined : (last : BoundedMap LogNode) (wider : Child) → IsBranch region last (child_at children next) root wider
        → IsJoined graph limits start first later before children bottom next last wider
    pub spent : used region ≡ region.capacity → (last : BoundedMap LogNode) → last ≡ region → IsSpentAt graph limits start before last

  pub joins : (children : List Child) (left next : ℕ) (later : Incumbent) (region : BoundedMap LogNode) (root : Child)
      → left ≡ next + 1 → bottom < left → IsJoined graph limits start first later before children bottom left region root
      → Joins children next later region root
  joins children left next later region root is_next more joined =
      by_count joined.count joined.is_left joined.prefix joined.best joined.held joined.waits joined.searched
    where
      by_count : (count : ℕ) → left ≡ bottom + count → (prefix : Prefix) (best : Incumbent) (held : BoundedMap LogNode)
          → AreWaiting graph limits start first before children bottom count prefix best held
          → IsSearched graph limits prefix best later held region root → Joins children next later region root
      by_count zero is_left prefix best held waits searched = absurd (omega (arith, is_left, more))
      by_count (suc n) is_left prefix best held (above, earlier, below, waits, waiting, is) searched =
          let here : next ≡ bottom + n = omega (arith, is_left, is_next) in
          let second = subst (λ (p : Prefix). IsSearched graph limits p best later held region root) is searched in
          record {
            joined = λ last wider branch. record {
              count = n;
              is_left = here;
              prefix = above;
              best = earlier;
              held = below;
              waits = waits;
              searched = searched_branch graph limits above waiting.terms waiting.delays earlier waiting.ready waiting.measured below
                  waiting.node waiting.next waiting.some held best (child_at children (bottom + n)) waiting.searched region later root second
                  waiting.is_open last wider
                  (subst (λ (k : ℕ). IsBranch region last (child_at children k) root wider) here branch);
            };
            spent = λ full last same. spent_waiting children n above earlier below waits last
                (spent_here graph limits above waiting.terms waiting.delays earlier waiting.ready waiting.measured below
                waiting.node waiting.next waiting.some held best (child_at children (bottom + n)) waiting.searched region later root second
                waiting.is_open full last same);
          }

  -- where no branch waits any more, the tree is that of the first prefix
  pub all_joined : (children : List Child) (left : ℕ) (later : Incumbent) (region : BoundedMap LogNode) (root : Child)
      → left ≤ bottom → IsJoined graph limits start first later before children bottom left region root
      → IsSearched graph limits start first later before region root
  all_joined children left later region root none joined =
      by_count joined.count joined.is_left joined.prefix joined.best joined.held joined.waits joined.searched
    where
      by_count : (count : ℕ) → left ≡ bottom + count → (prefix : Prefix) (best : Incumbent) (held : BoundedMap LogNode)
          → AreWaiting graph limits start first before children bottom count prefix best held
          → IsSearched graph limits prefix best later held region root → IsSearched graph limits start first later before region root
      by_count zero is_left prefix best held (is_start, is_first, is_before) searched =
          subst (λ (p : Prefix). IsSearched graph limits p first later before region root) is_start
          (subst (λ (b : Incumbent). IsSearched graph limits prefix b later before region root) is_first
          (subst (λ (r : BoundedMap LogNode). IsSearched graph limits prefix best later r region root) is_before searched))
      by_count (suc n) is_left prefix best held waits searched = absurd (omega (arith, is_left, none))

  -- ---- branches that come to wait

  -- the search of the first prefix has come to another one, with so many branches that wait
  pub record Goes (children : List Child) (top : ℕ) (terms : PrefixTerms) (delays : List ℕ) (best : Incumbent) (region : BoundedMap LogNode)
      : Type 0 where
    pub now : Prefix
    pub ready : IsReady graph limits terms delays best now
    pub count : ℕ
    pub is_top : top ≡ bottom + count
    pub waits : AreWaiting graph limits start first before children bottom count now best region

  -- one branch more waits
  pub goes_on : (children : List Child) (top : ℕ) (terms : PrefixTerms) (delays : List ℕ) (best : Incumbent) (region : BoundedMap LogNode)
      → (goes : Goes children top terms delays best region) (later : List Child) (child : Child) → AreKeptBelow top children later
      → child_at later top ≡ child → (later_best : Incumbent) (between : BoundedMap LogNode)
      → IsWaiting graph limits goes.now best later_best region between child → (terms_out : PrefixTerms) (delays_out : List ℕ)
      → IsReady graph limits terms_out delays_out later_best (false ∷ goes.now)
      → Goes later (top + 1) terms_out delays_out later_best between
  goes_on children top terms delays best region goes later child kept is_child later_best between waiting terms_out delays_out ready = record {
    now = false ∷ goes.now;
    ready = ready;
    count = suc goes.count;
    is_top = omega (arith, goes.is_top);
    waits = (
      goes.now,
      best,
      region,
      waiting_kept children later goes.count goes.now best region (λ k below. kept k (omega (arith, below, goes.is_top))) goes.waits,
      subst (IsWaiting graph limits goes.now best later_best region between)
          (sym is_child ∙ ap (child_at later) goes.is_top) waiting,
      refl,
    );
  }
