-- A book with modules and a new file has one verdict.
use Rattle.std.proofs.Common.{◌≡◌, ◌↔◌, ℕ, ◌⊎◌, Bool, IsTrue, List, [], ◌∷◌, ◌++◌, length, map, reverse, Some, None, refl, sym, ap, ◌∙◌, subst, inl, inr}
use Rattle.std.specs.Bool.{Decides}
use Rattle.std.specs.List.{AllByRecursion}
use Rattle.ci_isa.specs.declared.instruction.Insn.{Insn}
use Rattle.ci_elf.specs.Executables.{Executable, IsWellFormed}
use Rattle.ci_machine.specs.Words.{AreBytes}
use Rattle.ci_unit.specs.Units.{Unit}
use Rattle.ci_vemit.specs.Templates.{modules_of}
use Rattle.ci_block.specs.Blocks.{AreInOrder}
use Rattle.ci_cut.specs.declared.graph.Limits.{Limits}
use Rattle.ci_cut.specs.FlowGraph.{FlowGraph}
use Rattle.ci_log.specs.declared.book.Entry.{Entry}
use Rattle.ci_log.specs.declared.book.Entry.TheVariants.{Best, Without, Spent, Take}
use Rattle.ci_log.specs.declared.log.Item.{Item}
use Rattle.ci_log.specs.Books.{Book}
use Rattle.ci_check.specs.declared.checking.Wrong.{Wrong}
use Rattle.ci_check.specs.Rules.{Given, IsAccepted, IsFirstWrong, IsFirstWrongIn, IsRightAt, Station, reason_at, stations}
use Rattle.ci_check.proofs.OneTree.{one_reading}
use Rattle.ci_cut.proofs.FirstWrongLaws.{all_right, not_all}
use Rattle.ci_verilog.specs.Modules.{Module}
use Rattle.ci_select.specs.declared.acceptance.Verdict.{Verdict}
use Rattle.ci_select.specs.declared.acceptance.Verdict.TheVariants.{Accepted, Rejected}
use Rattle.ci_select.specs.declared.plan.Plan.{Plan}
use Rattle.ci_select.specs.declared.rounds.Due.{Due}
use Rattle.ci_select.specs.declared.rounds.Due.TheVariants as due
use Rattle.ci_select.specs.declared.rounds.Rounds.{Rounds}
use Rattle.ci_select.specs.Histories.{History, leader_of, round}
use Rattle.ci_select.specs.Instances.{Instance, AreBlocksOf}
use Rattle.ci_select.specs.UnitNumbers.{AreUnits}
use Rattle.ci_select.specs.NewFiles.{IsNewFile}
use Rattle.ci_select.specs.private.Followed.{Follows, instance_in}
use Rattle.ci_select.specs.PresentBlocks.{IsPresent, graph_at}
use Rattle.ci_select.specs.Dues.{IsDue}
use Rattle.ci_select.specs.LegalBooks.{IsLegal, IsLegalHistory, IsRight, IsSearched, searched, taken}
use Rattle.ci_select.specs.WrongPlaces.{Part, entry as part_of, finish as finish_of, HasWrongLog, IsOtherSearch}
use Rattle.ci_select.specs.WrongPlaces.{IsWrongPart, wrong_log, no_search, no_take, no_end, Place, place}
use Rattle.ci_select.specs.WrongPlaces.{IsFirstWrongPart, IsAcceptable, IsFirstWrongPlace, in_book, other_modules}
use Rattle.ci_select.specs.WrongPlaces.{other_file, IsVerdict}
use Rattle.ci_select.specs.Laws.{VerdictIsOne}
use Rattle.ci_select.proofs.PresentIsOne.{blocks_in_order, present_is_one}
use Rattle.ci_select.proofs.UnitLaws.{units_are_one}
use Rattle.ci_select.proofs.NewFileLaws.{new_file_is_one}
use Rattle.ci_select.proofs.DueLaws.{due_is_one}
use Rattle.ci_select.proofs.TruthLaws.{entry_is_right}

-- ---- two places of one list

module _ {X : Type 0} where
  -- they are one, or one lies behind the other
  two_places : (before other : List X) {x y : X} (behind rest : List X) → before ++ x ∷ behind ≡ other ++ y ∷ rest
      → ((before ≡ other) × (x ≡ y))
      ⊎ (((more : List X) × (other ≡ before ++ x ∷ more)) ⊎ ((more : List X) × (before ≡ other ++ y ∷ more)))
  two_places [] [] behind rest same = inl (refl, (cc))
  two_places [] (b ∷ other) behind rest same = inr (inl (other, (cc)))
  two_places (a ∷ before) [] behind rest same = inr (inr (before, (cc)))
  two_places (a ∷ before) (b ∷ other) {x = x} {y = y} behind rest same =
      let first : a ≡ b = (cc) in
      let tails : before ++ x ∷ behind ≡ other ++ y ∷ rest = (cc) in
      elim (two_places before other behind rest tails) [
        | inl (equal, here) ↦ inl ((cc), here)
        | inr (inl (more, longer)) ↦ inr (inl (more, (cc)))
        | inr (inr (more, longer)) ↦ inr (inr (more, (cc)))
      ]

-- ---- the first wrong item of a log is one

module _ (graph : FlowGraph) (limits : Limits) (best : Given) where
  -- of one list of stations
  station_is_one : {all : List Station} {m n r s : ℕ} → IsFirstWrongIn graph limits best all m r
      → IsFirstWrongIn graph limits best all n s → (m ≡ n) × (r ≡ s)
  station_is_one left right =
      elim (two_places left.before right.before left.behind right.behind (sym left.is_split ∙ right.is_split)) [
        | inl (same, here) ↦ (
          left.is_number ∙ ap length same ∙ sym right.is_number,
          left.is_reason ∙ ap reason_at here ∙ sym right.is_reason,
        )
        | inr (inl (more, longer)) ↦ absurd (left.not_right (right_within left.station right.before left.before more longer right.right_before))
        | inr (inr (more, longer)) ↦ absurd (right.not_right (right_within right.station left.before right.before more longer left.right_before))
      ]
    where
      right_within : (here : Station) (longer before more : List Station) → longer ≡ before ++ here ∷ more
          → AllByRecursion (IsRightAt graph limits best) longer → IsRightAt graph limits best here
      right_within here longer before more split all =
          (all_right (IsRightAt graph limits best) before (here ∷ more)
          (subst (AllByRecursion (IsRightAt graph limits best)) split all)).0

  -- of one list of items
  item_is_one : {items : List Item} {left right : Wrong} → IsFirstWrong graph limits best items left
      → IsFirstWrong graph limits best items right → left ≡ right
  item_is_one (inl (bad, is)) (inl (worse, also)) = is ∙ sym also
  item_is_one (inl (bad, is)) (inr (good, first)) = absurd (bad good)
  item_is_one (inr (good, first)) (inl (bad, is)) = absurd (bad good)
  item_is_one {items = items} {left = left} {right = right} (inr (good, (tree, first))) (inr (also, (other, second))) =
      let same = station_is_one first
      (subst (λ all. IsFirstWrongIn graph limits best all right.item right.reason) (one_reading items other tree []) second) in
      λ i. record { item = same.0 i; reason = same.1 i }

  -- an accepted log has none
  accepted_has_none : {items : List Item} {wrong : Wrong} → IsAccepted graph limits best items
      → IsFirstWrong graph limits best items wrong → ⊥
  accepted_has_none accepted (inl (bad, is)) = bad accepted.good
  accepted_has_none {items = items} {wrong = wrong} accepted (inr (good, (tree, first))) =
      not_all (IsRightAt graph limits best) reason_at (stations accepted.tree []) wrong.item wrong.reason
      (subst (λ all. IsFirstWrongIn graph limits best all wrong.item wrong.reason) (one_reading items tree accepted.tree []) first)
      accepted.right

-- ---- where a search is due

module _ (leader : ℕ) (graph : FlowGraph) (plan : Plan) where
  -- a log of the block has one first wrong item
  log_is_one : (part : Part) (left right : Wrong) → HasWrongLog leader graph plan part left
      → HasWrongLog leader graph plan part right → left ≡ right
  log_is_one (part_of (Best l cut log)) left right first second = item_is_one graph plan.limits (Some cut) first.1 second.1
  log_is_one (part_of (Without l log)) left right first second = item_is_one graph plan.limits None first.1 second.1
  log_is_one (part_of (Spent l budget)) left right first second = absurd first
  log_is_one (part_of (Take l unit)) left right first second = absurd first
  log_is_one (finish_of f) left right first second = absurd first

  -- a log of the block is not another thing
  log_is_not_other : (part : Part) (wrong : Wrong) → HasWrongLog leader graph plan part wrong
      → IsOtherSearch leader graph plan part → ⊥
  log_is_not_other (part_of (Best l cut log)) wrong first other = other first.0
  log_is_not_other (part_of (Without l log)) wrong first other = other first.0
  log_is_not_other (part_of (Spent l budget)) wrong first other = first
  log_is_not_other (part_of (Take l unit)) wrong first other = first
  log_is_not_other (finish_of f) wrong first other = first

  -- what is right of the search is not wrong of it
  search_has_none : (entry : Entry) (wrong : Wrong) → IsSearched graph plan entry
      → HasWrongLog leader graph plan (part_of entry) wrong → ⊥
  search_has_none (Best l cut log) wrong is first = accepted_has_none graph plan.limits (Some cut) is first.1
  search_has_none (Without l log) wrong is first = accepted_has_none graph plan.limits None is first.1
  search_has_none (Spent l budget) wrong is first = first
  search_has_none (Take l unit) wrong is first = first

  -- nor is it another thing
  search_is_not_other : (entry : Entry) → leader_of entry ≡ leader → IsSearched graph plan entry
      → IsOtherSearch leader graph plan (part_of entry) → ⊥
  search_is_not_other (Best l cut log) same is other = other same
  search_is_not_other (Without l log) same is other = other same
  search_is_not_other (Spent l budget) same is other = other (same, is.0, is.1)
  search_is_not_other (Take l unit) same is other = is

-- ---- the first wrong part of a book is one

module _ (instance : Instance) (in_order : AreInOrder instance.blocks) where
  -- the item of a log is wrong at this place, or something else stands there than a search
  abbrev IsWrongSearch : History → Part → ℕ → List Insn → Place → Type 0
  IsWrongSearch history part leader insns wrong =
      ((item : Wrong) × HasWrongLog leader (graph_at instance leader insns) instance.plan part item
      × (wrong ≡ place (round history) leader item.item item.reason))
      ⊎ (IsOtherSearch leader (graph_at instance leader insns) instance.plan part
      × (wrong ≡ place (round history) leader 0 8))

  -- the part is wrong at this place where this is due
  abbrev IsWrongWhere : History → Part → Due → Place → Type 0
  IsWrongWhere history part (due.Search leader) wrong =
      (insns : List Insn) × IsPresent instance history leader insns × IsWrongSearch history part leader insns wrong
  IsWrongWhere history part (due.Take leader unit) wrong =
      (¬ (part ≡ part_of (Take leader unit))) × (wrong ≡ place (round history) leader 0 9)
  IsWrongWhere history part (due.End f) wrong = (¬ (part ≡ finish_of f)) × (wrong ≡ place (round history) 0 0 10)

  -- the search of the block stands there, and tells of its present graph
  abbrev IsRightSearch : History → ℕ → Part → Type 0
  IsRightSearch history leader (part_of entry) =
      (leader_of entry ≡ leader)
      × ((insns : List Insn) × IsPresent instance history leader insns
      × IsSearched (graph_at instance leader insns) instance.plan entry)
  IsRightSearch history leader (finish_of f) = ⊥

  -- the part is right where this is due
  abbrev IsRightWhere : History → Part → Due → Type 0
  IsRightWhere history part (due.Search leader) = IsRightSearch history leader part
  IsRightWhere history part (due.Take leader unit) = part ≡ part_of (Take leader unit)
  IsRightWhere history part (due.End f) = part ≡ finish_of f

  -- a wrong part is wrong where something is due,
  wrong_where : {history : History} {part : Part} {wrong : Place} → IsWrongPart instance history part wrong
      → (what : Due) × IsDue instance history what × IsWrongWhere history part what wrong
  wrong_where (wrong_log {leader = leader} {insns = insns} {wrong = item} is_due present log) =
      (due.Search leader, is_due, (insns, present, inl (item, log, refl)))
  wrong_where (no_search {leader = leader} {insns = insns} is_due present other) =
      (due.Search leader, is_due, (insns, present, inr (other, refl)))
  wrong_where (no_take {leader = leader} {unit = unit} is_due other) = (due.Take leader unit, is_due, (other, refl))
  wrong_where (no_end {f = f} is_due other) = (due.End f, is_due, (other, refl))

  -- and a right entry is right where something is
  right_where : {history : History} {entry : Entry} → IsRight instance history entry
      → (what : Due) × IsDue instance history what × IsRightWhere history (part_of entry) what
  right_where (searched {entry = entry} {insns = insns} is_due present is) =
      (due.Search (leader_of entry), is_due, (refl, (insns, present, is)))
  right_where (taken {leader = leader} {unit = unit} is_due) = (due.Take leader unit, is_due, refl)

  module _ (history : History) (part : Part) where
    -- a part is wrong at one place
    search_is_one : (leader : ℕ) (insns : List Insn) {left right : Place}
        → IsWrongSearch history part leader insns left → IsWrongSearch history part leader insns right → left ≡ right
    search_is_one leader insns (inl (item, log, is)) (inl (other, also, at)) =
        let same = log_is_one leader (graph_at instance leader insns) instance.plan part item other log also in
        is ∙ ap (λ (i : Wrong). place (round history) leader i.item i.reason) same ∙ sym at
    search_is_one leader insns (inl (item, log, is)) (inr (other, at)) =
        absurd (log_is_not_other leader (graph_at instance leader insns) instance.plan part item log other)
    search_is_one leader insns (inr (other, at)) (inl (item, log, is)) =
        absurd (log_is_not_other leader (graph_at instance leader insns) instance.plan part item log other)
    search_is_one leader insns (inr (other, is)) (inr (also, at)) = is ∙ sym at

    -- so it is where a search, a take or an end is due,
    wrong_is_one : (what : Due) {left right : Place} → IsWrongWhere history part what left
        → IsWrongWhere history part what right → left ≡ right
    wrong_is_one (due.Search leader) {right = right} (insns, present, left) (others, also, second) =
        search_is_one leader insns left
        (subst (λ is. IsWrongSearch history part leader is right)
        (present_is_one instance history leader others insns in_order also present) second)
    wrong_is_one (due.Take leader unit) left right = left.1 ∙ sym right.1
    wrong_is_one (due.End f) left right = left.1 ∙ sym right.1

    -- and one thing is due
    pub wrong_part_is_one : {left right : Place} → IsLegalHistory instance history
        → IsWrongPart instance history part left → IsWrongPart instance history part right → left ≡ right
    wrong_part_is_one {right = right} legal left second =
        let (what, is_due, is) = wrong_where left in
        let (other, also_due, also) = wrong_where second in
        wrong_is_one what is
        (subst (λ w. IsWrongWhere history part w right)
        (due_is_one instance history other what in_order legal also_due is_due) also)

  module _ (history : History) where
    -- and it is not right then
    search_is_not_right : (part : Part) (leader : ℕ) (insns : List Insn) (wrong : Place)
        → IsPresent instance history leader insns → IsWrongSearch history part leader insns wrong
        → IsRightSearch history leader part → ⊥
    search_is_not_right (part_of entry) leader insns at present (inl (item, log, here)) (same, (others, also, is)) =
        search_has_none leader (graph_at instance leader insns) instance.plan entry item
        (subst (λ i. IsSearched (graph_at instance leader i) instance.plan entry)
        (present_is_one instance history leader others insns in_order also present) is) log
    search_is_not_right (part_of entry) leader insns at present (inr (other, here)) (same, (others, also, is)) =
        search_is_not_other leader (graph_at instance leader insns) instance.plan entry same
        (subst (λ i. IsSearched (graph_at instance leader i) instance.plan entry)
        (present_is_one instance history leader others insns in_order also present) is) other
    search_is_not_right (finish_of f) leader insns at present wrong right = right

    -- where a search, a take or an end is due
    wrong_is_not_right : (part : Part) (what : Due) (wrong : Place) → IsWrongWhere history part what wrong
        → IsRightWhere history part what → ⊥
    wrong_is_not_right part (due.Search leader) at (insns, present, wrong) right =
        search_is_not_right part leader insns at present wrong right
    wrong_is_not_right part (due.Take leader unit) at wrong right = wrong.0 right
    wrong_is_not_right part (due.End f) at wrong right = wrong.0 right

    -- and one thing is due
    not_right : (part : Part) {wrong : Place} → IsLegalHistory instance history
        → IsWrongPart instance history part wrong
        → ((what : Due) × IsDue instance history what × IsRightWhere history part what) → ⊥
    not_right part {wrong = wrong} legal is_wrong (what, is_due, right) =
        let (other, also_due, is) = wrong_where is_wrong in
        wrong_is_not_right part what wrong
        (subst (λ w. IsWrongWhere history part w wrong)
        (due_is_one instance history other what in_order legal also_due is_due) is)
        right

  -- the part at a place among entries is one of them
  entry_there : (entries before : List Entry) {part : Part} (more : List Part)
      → map part_of entries ≡ map part_of before ++ part ∷ more
      → (here : Entry) × (behind : List Entry) × (part ≡ part_of here) × (entries ≡ before ++ here ∷ behind)
  entry_there [] [] more same = absurd (cc)
  entry_there [] (b ∷ before) more same = absurd (cc)
  entry_there (e ∷ entries) [] more same = (e, entries, (cc), refl)
  entry_there (e ∷ entries) (b ∷ before) {part = part} more same =
      let tails : map part_of entries ≡ map part_of before ++ part ∷ more = (cc) in
      let (here, behind, is, split) = entry_there entries before more tails in
      let first : e ≡ b = (cc) in
      (here, behind, is, (cc))

  -- no part among entries that are right is wrong
  among_right : (entries before : List Entry) {part : Part} (more : List Part) {wrong : Place}
      → IsLegalHistory instance (reverse entries) → map part_of entries ≡ map part_of before ++ part ∷ more
      → IsWrongPart instance (reverse before) part wrong → ⊥
  among_right entries before more {wrong = wrong} legal same is_wrong =
      let (here, behind, is, split) = entry_there entries before more same in
      let (right, legal_before) = entry_is_right instance entries before behind here legal split in
      not_right (reverse before) (part_of here) legal_before
      (subst (λ p. IsWrongPart instance (reverse before) p wrong) is is_wrong) (right_where right)

  -- entries are known by the parts that they are
  same_entries : (left right : List Entry) → map part_of left ≡ map part_of right → left ≡ right
  same_entries [] [] same = refl
  same_entries [] (r ∷ right) same = absurd (cc)
  same_entries (l ∷ left) [] same = absurd (cc)
  same_entries (l ∷ left) (r ∷ right) same =
      let tails : map part_of left ≡ map part_of right = (cc) in
      let rest = same_entries left right tails in
      let first : l ≡ r = (cc) in
      (cc)

  module _ (book : Book) where
    -- a book has one first wrong part
    first_part_is_one : {left right : Place} → IsFirstWrongPart instance book left
        → IsFirstWrongPart instance book right → left ≡ right
    first_part_is_one {left = left} {right = right} first second =
        elim (two_places (map part_of first.before) (map part_of second.before) first.behind second.behind (sym first.split ∙ second.split)) [
          | inl (same, here) ↦ at_one (same_entries first.before second.before same) here
          | inr (inl (more, longer)) ↦ absurd (among_right second.before first.before more second.legal longer first.is_wrong)
          | inr (inr (more, longer)) ↦ absurd (among_right first.before second.before more first.legal longer second.is_wrong)
        ]
      where
        at_one : first.before ≡ second.before → first.part ≡ second.part → left ≡ right
        at_one same here =
            wrong_part_is_one (reverse second.before) second.part second.legal
            (subst (λ p. IsWrongPart instance (reverse second.before) p left) here
            (subst (λ b. IsWrongPart instance (reverse b) first.part left) same first.is_wrong))
            second.is_wrong

    -- a legal book has none
    pub legal_has_none : {wrong : Place} → IsLegal instance book → IsFirstWrongPart instance book wrong → ⊥
    legal_has_none {wrong = wrong} legal first =
        elim (two_places (map part_of book.entries) (map part_of first.before) [] first.behind first.split) [
          | inl (same, here) ↦ at_end (same_entries book.entries first.before same) here
          | inr (inl (more, longer)) ↦ no_end_there (entry_there first.before book.entries more longer)
          | inr (inr (more, longer)) ↦ among_right book.entries first.before more legal.entries longer first.is_wrong
        ]
      where
        at_end : book.entries ≡ first.before → finish_of book.finish ≡ first.part → ⊥
        at_end same here =
            not_right (reverse book.entries) (finish_of book.finish) legal.entries
            (subst (λ b. IsWrongPart instance (reverse b) (finish_of book.finish) wrong) (sym same)
            (subst (λ p. IsWrongPart instance (reverse first.before) p wrong) (sym here) first.is_wrong))
            (due.End book.finish, legal.finish, refl)

        no_end_there : ((here : Entry) × (behind : List Entry) × (finish_of book.finish ≡ part_of here)
            × (first.before ≡ book.entries ++ here ∷ behind)) → ⊥
        no_end_there (here, behind, is, split) = absurd (cc)

    -- ---- one verdict

    module _ (file : Executable) (modules : List Module) (new : List ℕ) where
      -- there is one first wrong place,
      first_place_is_one : {left right : Place} → IsFirstWrongPlace instance file book modules new left
          → IsFirstWrongPlace instance file book modules new right → left ≡ right
      first_place_is_one (in_book first) (in_book second) = first_part_is_one first second
      first_place_is_one (in_book first) (other_modules legal other) = absurd (legal_has_none legal first)
      first_place_is_one (in_book first) (other_file legal are other) = absurd (legal_has_none legal first)
      first_place_is_one (other_modules legal other) (in_book second) = absurd (legal_has_none legal second)
      first_place_is_one (other_modules legal other) (other_modules also others) = refl
      first_place_is_one (other_modules legal other) (other_file also are others) = absurd (other are)
      first_place_is_one (other_file legal are other) (in_book second) = absurd (legal_has_none legal second)
      first_place_is_one (other_file legal are other) (other_modules also others) = absurd (others are)
      first_place_is_one (other_file legal are other) (other_file also these others) = refl

      -- and none where all is right
      acceptable_has_none : {wrong : Place} → IsAcceptable instance file book modules new
          → IsFirstWrongPlace instance file book modules new wrong → ⊥
      acceptable_has_none is (in_book first) = legal_has_none is.legal first
      acceptable_has_none is (other_modules legal other) = other is.modules_are
      acceptable_has_none is (other_file legal are other) = other is.new_is

-- so there is one verdict
pub verdict_is_one : VerdictIsOne
verdict_is_one instance file book modules new Accepted Accepted in_order first second = refl
verdict_is_one instance file book modules new Accepted (Rejected round leader item reason) in_order first second =
    absurd (acceptable_has_none instance in_order book file modules new first second)
verdict_is_one instance file book modules new (Rejected round leader item reason) Accepted in_order first second =
    absurd (acceptable_has_none instance in_order book file modules new second first)
verdict_is_one instance file book modules new (Rejected round leader item reason) (Rejected r l i why) in_order first second =
    ap (λ (p : Place). Rejected p.round p.leader p.item p.reason)
    (first_place_is_one instance in_order book file modules new first second)

-- ---- the verdict behind a book that was followed

-- a right verdict is that the book is accepted exactly where all of it is right
pub accepted_decides : {instance : Instance} {file : Executable} {book : Book} {modules : List Module} {new : List ℕ}
    → AreInOrder instance.blocks → (verdict : Verdict) → IsVerdict instance file book modules new verdict
    → (verdict ≡ Accepted) ↔ IsAcceptable instance file book modules new
accepted_decides {instance = instance} {file = file} {book = book} {modules = modules} {new = new} in_order verdict is = (
  λ accepted. subst (IsVerdict instance file book modules new) accepted is,
  λ acceptable. verdict_is_one instance file book modules new verdict Accepted in_order is acceptable,
)

module _ {rounds : Rounds} {book : Book} {units : List Unit} (legal : IsLegal (instance_in rounds) book)
    (follows : Follows (reverse book.entries) rounds)
    (units_are : AreUnits (instance_in rounds) (reverse book.entries) units)
    (file : Executable) (modules : List Module) (new : List ℕ) where
  -- other modules are the first wrong place,
  pub other_modules_here : ¬ (modules ≡ modules_of units)
      → IsFirstWrongPlace (instance_in rounds) file book modules new (place rounds.round 0 0 11)
  other_modules_here other =
      rw follows.round_is (other_modules legal (λ are. other
      (are.2 ∙ ap modules_of (units_are_one (instance_in rounds) (reverse book.entries) are.0 units
      (blocks_in_order (instance_in rounds) follows.of_file) are.1 units_are))))

  -- then another file,
  pub other_file_here : modules ≡ modules_of units
      → ¬ IsNewFile (instance_in rounds) file (reverse book.entries) new
      → IsFirstWrongPlace (instance_in rounds) file book modules new (place rounds.round 0 0 12)
  other_file_here same other = rw follows.round_is (other_file legal (units, units_are, same) other)

  -- and where neither is, the book is accepted
  pub accepted_here : modules ≡ modules_of units → IsNewFile (instance_in rounds) file (reverse book.entries) new
      → IsAcceptable (instance_in rounds) file book modules new
  accepted_here same is = record { legal = legal; modules_are = (units, units_are, same); new_is = is }

-- the bytes that were made decide whether others are the new file
pub new_file_decided : (instance : Instance) (file : Executable) (history : History) (own bytes : List ℕ) (same : Bool)
    → IsWellFormed file → AreBytes file.bytes → AreBlocksOf file instance.blocks instance.live
    → IsLegalHistory instance history → AreBytes own → AreBytes bytes → Decides same (own ≡ bytes)
    → IsNewFile instance file history own → IsTrue same ↔ IsNewFile instance file history bytes
new_file_decided instance file history own bytes same formed old blocks legal own_bytes are_bytes decides is = (
  λ equal. subst (IsNewFile instance file history) (decides.0 equal) is,
  λ other. decides.1 (new_file_is_one instance file history own bytes formed old blocks legal is other own_bytes are_bytes),
)
