-- What bundles add to the arcs that nodes have of their own.
use Rattle.std.specs.Prelude.{◌≡◌, ℕ, suc, ◌<◌, ◌≤◌, ◌⊎◌, Bool, true, false}

-- The test says which nodes stand in one bundle with the node directly before them.
module _ (joined : ℕ → Bool) where
  -- the nodes from the first to the last are of one bundle
  pub record IsSpan (first last : ℕ) : Type 0 where
    pub rises : first ≤ last
    pub inside : (i : ℕ) → first < i → i ≤ last → joined i ≡ true

  -- There is an arc from node j to node k by one of these rules, and by no other, where the relation says which arcs
  -- nodes have of their own: one of these; from each node of a bundle to the next; what enters a node of a bundle from
  -- outside enters its first node too; and what leaves a node of a bundle to the outside leaves its last node too.
  pub data IsArc (Own : ℕ → ℕ → Type 0) : ℕ → ℕ → Type 0 where
    own : (j k : ℕ) → j < k → Own j k → IsArc Own j k
    chain : (j : ℕ) → joined (suc j) ≡ true → IsArc Own j (suc j)
    enters : (j first k : ℕ) → IsSpan first k → joined first ≡ false → j < first → IsArc Own j k → IsArc Own j first
    leaves : (j last k : ℕ) → IsSpan j last → joined (suc last) ≡ false → last < k → IsArc Own j k → IsArc Own last k

  -- What leaves node i leaves node j too: j is the same node, or the last of its bundle.
  abbrev pub ComesFrom : ℕ → ℕ → Type 0
  ComesFrom i j = (i ≡ j) ⊎ (IsSpan i j × (joined (suc j) ≡ false))

  -- What enters node l enters node k too: k is the same node, or the first of its bundle.
  abbrev pub LeadsTo : ℕ → ℕ → Type 0
  LeadsTo l k = (l ≡ k) ⊎ (IsSpan k l × (joined k ≡ false))
