-- An instance has one legal book in which each search was given up exactly by need, but for its logs.
use Rattle.std.proofs.Common.{◌≡◌, ℕ, ◌↔◌, ℤ, ◌≤ℤ◌, ◌<ℤ◌, Bool, false, List, [], ◌∷◌, ◌++◌, reverse, refl, sym, ap, ◌∙◌, subst, inl, inr, append_assoc, arith}
use Rattle.std.proofs.lemmas.Int.{ints}
use Rattle.std.proofs.lemmas.List.{append-nil, reverse-append}
use Rattle.ci_word.proofs.NumberLaws.{same_numbers}
use Rattle.ci_lat.specs.TableRules.{IsLatencyTable}
use Rattle.ci_block.specs.Blocks.{AreInOrder}
use Rattle.ci_cut.specs.declared.graph.Limits.{Limits}
use Rattle.ci_cut.specs.Best.{HasNoCut, IsBest, IsSameSet}
use Rattle.ci_cut.specs.FlowGraph.{FlowGraph}
use Rattle.ci_cut.specs.GraphRules.{IsFlowGraph}
use Rattle.ci_cut.specs.Need.{NeedExceeds}
use Rattle.ci_search.proofs.LogLaws.{one_first}
use Rattle.ci_log.specs.declared.book.Entry.{Entry}
use Rattle.ci_log.specs.declared.book.Entry.TheVariants.{Best, Without, Spent, Take}
use Rattle.ci_log.specs.declared.book.Finish.{Finish}
use Rattle.ci_select.specs.declared.plan.Plan.{Plan}
use Rattle.ci_select.specs.declared.rounds.Due.TheVariants as due
use Rattle.ci_select.specs.Histories.{AreOneButLogs, History, is_take, leader_of, without_log}
use Rattle.ci_select.specs.Instances.{Instance, AreOfSomeFile}
use Rattle.ci_select.specs.PresentBlocks.{IsPresent, graph_at}
use Rattle.ci_select.specs.Dues.{IsDue, searches}
use Rattle.ci_select.specs.GivenUp.{GivesUpByNeed, IsGivenUp, IsGivenUpByNeed}
use Rattle.ci_select.specs.LegalBooks.{IsLegalHistory, IsRight, IsSearched}
use Rattle.ci_select.specs.Laws.{ChoiceIsOne}
use Rattle.ci_select.proofs.AlikeLaws.{due_alike, like_itself, present_alike, search_due_alike}
use Rattle.ci_select.proofs.DueLaws.{due_is_one, search_due_is_one}
use Rattle.ci_select.proofs.FreeLogs.{itself, one_more, turned}
use Rattle.ci_select.proofs.PresentLaws.{IsSearchedAt, blocks_in_order, present_flows, present_is_one, present_is_sound, right_cases}
use Rattle.ci_select.proofs.TruthLaws.{legal_behind, search_is_true}
use Rattle.ci_select.proofs.UnitLaws.{due_of_take}

-- ---- searches of one graph

not_both_ways : {a b : ℤ} → a <ℤ b → b ≤ℤ a → ⊥
not_both_ways less back = omega (arith, ints)

-- of the sets that fit one is the best
best_is_one :
    {graph : FlowGraph} {limits : Limits} {s t : ℕ → Bool} → IsBest graph limits s → IsBest graph limits t
    → IsSameSet s t
best_is_one {s = s} {t = t} a b = elim (a.best t b.fits) [
  | inl less ↦ elim (b.best s a.fits) [
    | inl more ↦ absurd (omega (arith, ints))
    | inr (same, order) ↦ absurd (omega (arith, ints))
  ]
  | inr (same, inl is) ↦ is
  | inr (same, inr before) ↦ elim (b.best s a.fits) [
    | inl more ↦ absurd (omega (arith, ints))
    | inr (again, inl is) ↦ λ k. sym (is k)
    | inr (again, inr behind) ↦ absurd (one_first before behind)
  ]
]

-- and where there is one, some set fits and gains
best_is_none : {graph : FlowGraph} {limits : Limits} {s : ℕ → Bool} → IsBest graph limits s → HasNoCut graph limits → ⊥
best_is_none {s = s} best none = not_both_ways best.positive (none s best.fits)

-- an entry of a search of the graph was given up exactly by need
abbrev ByNeed : FlowGraph → Plan → Entry → Type 0
ByNeed graph plan entry = is_take entry ≡ false → IsGivenUp entry ↔ NeedExceeds graph plan.limits plan.budget

module _ (graph : FlowGraph) (flows : IsFlowGraph graph) (plan : Plan) where
  -- two searches of the graph tell the same but for their logs
  one_search :
      (x y : Entry) → leader_of x ≡ leader_of y → IsSearched graph plan x → IsSearched graph plan y
      → ByNeed graph plan x → ByNeed graph plan y → without_log x ≡ without_log y
  one_search (Best l c log) (Best m d other) leads a b by_need also =
      let same : c ≡ d =
      same_numbers c d
      (best_is_one (search_is_true graph plan flows (Best l c log) a)
      (search_is_true graph plan flows (Best m d other) b)) in
      λ i. Best (leads i) (same i) []
  one_search (Best l c log) (Without m other) leads a b by_need also =
      absurd (best_is_none (search_is_true graph plan flows (Best l c log) a)
      (search_is_true graph plan flows (Without m other) b))
  one_search (Best l c log) (Spent m q) leads a b by_need also = absurd ((by_need refl).1 b.1)
  one_search (Without l log) (Best m d other) leads a b by_need also =
      absurd (best_is_none (search_is_true graph plan flows (Best m d other) b)
      (search_is_true graph plan flows (Without l log) a))
  one_search (Without l log) (Without m other) leads a b by_need also = λ i. Without (leads i) []
  one_search (Without l log) (Spent m q) leads a b by_need also = absurd ((by_need refl).1 b.1)
  one_search (Spent l p) (Best m d other) leads a b by_need also = absurd ((also refl).1 a.1)
  one_search (Spent l p) (Without m other) leads a b by_need also = absurd ((also refl).1 a.1)
  one_search (Spent l p) (Spent m q) leads a b by_need also = λ i. Spent (leads i) ((a.0 ∙ sym b.0) i)
  one_search (Take l u) y leads a b by_need also = absurd a
  one_search x (Take m v) leads a b by_need also = absurd b

-- ---- entries that are due behind histories that are one but for their logs

-- what is known of the entries of a book, behind some history: they are legal, by need, and the end is due
record IsSettled (instance : Instance) (finish : Finish) (history : History) : Type 0 where
  legal : IsLegalHistory instance history
  by_need : GivesUpByNeed instance history
  is_due : IsDue instance history (due.End finish)

-- what was given up in front of entries was so by need
need_behind :
    (instance : Instance) (later before : List Entry) (entry : Entry) → GivesUpByNeed instance (later ++ entry ∷ before)
    → IsGivenUpByNeed instance before entry
need_behind instance [] before entry by_need = by_need.0
need_behind instance (other ∷ later) before entry by_need = need_behind instance later before entry by_need.1

-- the first of the entries to come joins the history
joined : (x : Entry) (xs history : List Entry) → reverse (x ∷ xs) ++ history ≡ reverse xs ++ x ∷ history
joined x xs history = ap (λ l. l ++ history) (reverse-append (x ∷ []) xs) ∙ append_assoc (reverse xs) (x ∷ []) history

module _
    (instance : Instance) (of_file : AreOfSomeFile instance.blocks instance.live)
    (kept : IsLatencyTable instance.table) where
  order : AreInOrder instance.blocks
  order = blocks_in_order instance of_file

  -- of two searches that are due
  searches_alike :
      {left right : History} (x y : Entry) → AreOneButLogs left right → IsLegalHistory instance left
      → IsSearchedAt instance left x → IsSearchedAt instance right y → IsGivenUpByNeed instance left x
      → IsGivenUpByNeed instance right y → without_log x ≡ without_log y
  searches_alike {left} {right} x y one legal a b by_need also =
      let leads : leader_of x ≡ leader_of y =
      search_due_is_one a.is_due (search_due_alike like_itself (turned one) b.is_due) in
      let insns : a.insns ≡ b.insns =
      present_is_one instance right (leader_of y) a.insns b.insns order
      (subst (λ leader. IsPresent instance right leader a.insns) leads (present_alike like_itself one a.present))
      b.present in
      let same : graph_at instance (leader_of y) b.insns ≡ graph_at instance (leader_of x) a.insns =
      λ i. graph_at instance (sym leads i) (sym insns i) in
      one_search (graph_at instance (leader_of x) a.insns)
      (present_flows (present_is_sound of_file legal a.present) kept) instance.plan x y leads a.is_searched
      (subst (λ graph. IsSearched graph instance.plan y) same b.is_searched)
      (λ search. by_need a.insns search a.present)
      (subst (λ graph. ByNeed graph instance.plan y) same (λ search. also b.insns search b.present))

  -- so there is one entry
  entries_alike :
      {left right : History} (x y : Entry) → AreOneButLogs left right → IsLegalHistory instance left
      → IsRight instance left x → IsRight instance right y → IsGivenUpByNeed instance left x
      → IsGivenUpByNeed instance right y → without_log x ≡ without_log y
  entries_alike {left} {right} x y one legal is also by_need likewise = elim (right_cases is) [
    | inl a ↦ elim (right_cases also) [
      | inl b ↦ searches_alike x y one legal a b by_need likewise
      | inr (m, v, same, b) ↦ absurd (b.next.no_search (leader_of x) (search_due_alike like_itself one a.is_due))
    ]
    | inr (l, u, same, a) ↦ elim (right_cases also) [
      | inl b ↦ absurd (a.next.no_search (leader_of y) (search_due_alike like_itself (turned one) b.is_due))
      | inr (m, v, equal, b) ↦
          let first : IsDue instance left (due.Take l u) = due_of_take (subst (IsRight instance left) same is) in
          let second : IsDue instance right (due.Take m v) = due_of_take (subst (IsRight instance right) equal also) in
          let takes : due.Take l u ≡ due.Take m v =
          due_is_one instance left (due.Take l u) (due.Take m v) order legal first
          (due_alike like_itself (turned one) second) in
          ap without_log (same ∙ same_take l u m v takes ∙ sym equal)
    ]
  ]
    where
      same_take : (l u m v : ℕ) → due.Take l u ≡ due.Take m v → Take l u ≡ Take m v
      same_take l u m v same = let leads : l ≡ m = cc in let units : u ≡ v = cc in λ i. Take (leads i) (units i)

  -- where the end is due, no entry is
  ended : {history : History} {finish : Finish} (entry : Entry) → IsLegalHistory instance history
      → IsDue instance history (due.End finish) → IsRight instance history entry → ⊥
  ended {history} {finish} entry legal is_due is = elim (right_cases is) [
    | inl a ↦
        no_search (leader_of entry)
        (due_is_one instance history (due.Search (leader_of entry)) (due.End finish) order legal (searches a.is_due)
        is_due)
    | inr (l, u, same, a) ↦
        no_take l u
        (due_is_one instance history (due.Take l u) (due.End finish) order legal
        (due_of_take (subst (IsRight instance history) same is)) is_due)
  ]
    where
      no_search : (l : ℕ) → due.Search l ≡ due.End finish → ⊥
      no_search l same = cc

      no_take : (l u : ℕ) → due.Take l u ≡ due.End finish → ⊥
      no_take l u same = cc

  -- behind histories that are one but for their logs the entries to come are, and so is the end
  rest_is_one :
      (xs ys : List Entry) {left right : History} {f g : Finish} → AreOneButLogs left right
      → IsSettled instance f (reverse xs ++ left) → IsSettled instance g (reverse ys ++ right)
      → AreOneButLogs xs ys × (f ≡ g)
  rest_is_one [] [] {right = right} {f = f} {g = g} one l r =
      let same =
      due_is_one instance right (due.End f) (due.End g) order r.legal (due_alike like_itself one l.is_due) r.is_due in
      (itself, same_end same)
    where
      same_end : due.End f ≡ due.End g → f ≡ g
      same_end same = cc
  rest_is_one [] (y ∷ ys) {left = left} {right = right} {g = g} one l r =
      let next = subst (IsSettled instance g) (joined y ys right) r in
      let behind = legal_behind instance (reverse ys) right y next.legal in
      absurd (ended y behind.1 (due_alike like_itself one l.is_due) behind.0)
  rest_is_one (x ∷ xs) [] {left = left} {right = right} {f = f} one l r =
      let next = subst (IsSettled instance f) (joined x xs left) l in
      let behind = legal_behind instance (reverse xs) left x next.legal in
      absurd (ended x behind.1 (due_alike like_itself (turned one) r.is_due) behind.0)
  rest_is_one (x ∷ xs) (y ∷ ys) {left = left} {right = right} {f = f} {g = g} one l r =
      let first = subst (IsSettled instance f) (joined x xs left) l in
      let second = subst (IsSettled instance g) (joined y ys right) r in
      let one_way = legal_behind instance (reverse xs) left x first.legal in
      let other_way = legal_behind instance (reverse ys) right y second.legal in
      let same : without_log x ≡ without_log y =
      entries_alike x y one one_way.1 one_way.0 other_way.0 (need_behind instance (reverse xs) left x first.by_need)
      (need_behind instance (reverse ys) right y second.by_need) in
      let rest = rest_is_one xs ys (one_more x y same one) first second in
      (one_more x y same rest.0, rest.1)

pub choice_is_one : ChoiceIsOne
choice_is_one instance left right of_file kept legal by_need also likewise =
    rest_is_one instance of_file kept left.entries right.entries {left = []} {right = []} itself
    (subst (IsSettled instance left.finish) (sym (append-nil (reverse left.entries)))
    (record { legal = legal.entries; by_need = by_need; is_due = legal.finish }))
    (subst (IsSettled instance right.finish) (sym (append-nil (reverse right.entries)))
    (record { legal = also.entries; by_need = likewise; is_due = also.finish }))
