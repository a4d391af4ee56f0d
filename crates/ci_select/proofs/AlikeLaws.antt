-- Instances that say the same have the same books, and histories that are one but for their logs say the same.
use Rattle.std.proofs.Common.{◌≡◌, ℕ, suc, ◌+◌, ◌*◌, ◌<◌, ◌≤◌, ℤ, pos, ◌*ℤ◌, ◌↔◌, Bool, cond, List, [], ◌∷◌, ◌++◌}
use Rattle.std.proofs.Common.{length, map, reverse, refl, sym, ap, ◌∙◌, subst, arith}
use Rattle.std.specs.Prelude.{filter, nat_lt, slice_get}
use Rattle.std.specs.FinSet as finite
use Rattle.std.specs.List.{Contains}
use Rattle.std.specs.Ordering.{nat_cmp}
use Rattle.std.proofs.lemmas.Simd.{map-map}
use Rattle.ci_isa.specs.declared.instruction.Insn.{Insn}
use Rattle.ci_isa.specs.Sequences.{nth_insn}
use Rattle.ci_isa.specs.Table.{IsWordOf}
use Rattle.ci_elf.specs.Executables.{Executable, text_word}
use Rattle.ci_block.specs.declared.blocks.Block.{Block}
use Rattle.ci_block.specs.Laws.{BlockContents, contents_of}
use Rattle.ci_cut.specs.Gain.{gain}
use Rattle.ci_cut.specs.Need.{NeedExceeds}
use Rattle.ci_dfg.specs.BlockGraph.{graph_of}
use Rattle.ci_live.specs.Sets.{after_block}
use Rattle.ci_live.proofs.OneAnalysis.{block_with, other_of}
use Rattle.ci_log.specs.declared.book.Entry.{Entry}
use Rattle.ci_log.specs.Books.{Book}
use Rattle.ci_rewrite.specs.FoldedBlock.{IsFolded}
use Rattle.ci_unit.specs.Units.{Unit, unit_of}
use Rattle.ci_select.specs.declared.rounds.Due.{Due}
use Rattle.ci_select.specs.Histories.{AreOneButLogs, History, leader_of}
use Rattle.ci_select.specs.Instances.{Instance, entered}
use Rattle.ci_select.specs.AlikeInstances.{AreAlike}
use Rattle.ci_select.specs.PresentBlocks.{HasPresentCut, IsPresent, folded, graph_at, original, unchanged}
use Rattle.ci_select.specs.Candidates.{IsCandidate}
use Rattle.ci_select.specs.UnitNumbers.{AreUnits, IsUnitAt}
use Rattle.ci_select.specs.UnitNumbers as numbers
use Rattle.ci_select.specs.Savings as savings
use Rattle.ci_select.specs.Dues.{HasNoSearchDue, IsDue, IsNextTake, IsSearchDue, after_take, at_first, ends_empty, ends_full, searches, takes_known, takes_new}
use Rattle.ci_select.specs.GivenUp.{GivesUpByNeed, IsGivenUp, IsGivenUpByNeed}
use Rattle.ci_select.specs.LegalBooks.{IsLegal, IsLegalHistory, IsRight, IsSearched, searched, taken}
use Rattle.ci_select.specs.NewFiles.{IsNewFile, with_bytes}
use Rattle.ci_select.specs.Laws.{AcceptableAlike, LogsDecideNothing}
use Rattle.ci_select.proofs.FreeLogs.{cut_alike, first_alike, itself, lengths_alike, none_alike, rest_alike}
use Rattle.ci_select.proofs.FreeLogs.{rounds_alike, same_take, take_alike, take_of_alike, turned}
use Rattle.ci_select.proofs.PresentIsOne.{block_of_present}

-- what is the same at each block is so at the leader of one
same_at :
    {X : Type 0} {leader : ℕ} (blocks : List Block) (f g : ℕ → X)
    → ((block : Block) → Contains blocks block → f block.leader ≡ g block.leader)
    → (block : Block) × Contains blocks block × (block.leader ≡ leader) → f leader ≡ g leader
same_at blocks f g same (block, there, leads) = ap f (sym leads) ∙ same block there ∙ ap g leads

-- each instance says the same as itself,
pub like_itself : {instance : Instance} → AreAlike instance instance
like_itself =
    record { blocks = refl; live = λ block there. refl; entries = λ block there. refl; table = refl; plan = refl }

-- and each of the two the same as the other
pub like_back : {left right : Instance} → AreAlike left right → AreAlike right left
like_back {left} {right} alike = record {
  blocks = sym alike.blocks;
  live = λ block there.
      sym (same_at left.blocks (after_block left.live) (after_block right.live) alike.live (back block there));
  entries = λ block there. sym (same_at left.blocks left.entries right.entries alike.entries (back block there));
  table = sym alike.table;
  plan = sym alike.plan;
}
  where
    back :
        (block : Block) → Contains right.blocks block
        → (other : Block) × Contains left.blocks other × (other.leader ≡ block.leader)
    back block there =
        let o = other_of right.blocks left.blocks (sym alike.blocks) block there in (o.other, o.there, sym o.leader)

-- tests that agree at each element of a list keep the same ones
filter_same :
    {X : Type 0} (p q : X → Bool) (xs : List X) → ((x : X) → Contains xs x → p x ≡ q x) → filter p xs ≡ filter q xs
filter_same p q [] same = refl
filter_same p q (x ∷ xs) same =
    let first = same x (0, omega arith, refl) in
    let rest = filter_same p q xs (λ y there. same y (suc there.0, omega (arith, there.1), there.2)) in
    λ i. cond (first i) (x ∷ rest i) (rest i)

-- ---- what holds of the one holds of the other, and behind each history that is one but for its logs

module _ {left right : Instance} (alike : AreAlike left right) where
  -- how often the block at the leader was entered
  same_entries :
      {leader : ℕ} → (block : Block) × Contains left.blocks block × (block.leader ≡ leader)
      → left.entries leader ≡ right.entries leader
  same_entries has = same_at left.blocks left.entries right.entries alike.entries has

  -- the leaders of the blocks that were entered
  same_entered : entered left ≡ entered right
  same_entered =
      let leader = λ (said : BlockContents). said.leader in
      let test = λ (l : ℕ). nat_lt 0 (right.entries l) in
      filter_same (λ l. nat_lt 0 (left.entries l)) test (map (λ block. block.leader) left.blocks)
      (λ l there. ap (nat_lt 0) (same_entries (block_with left.blocks l there)))
      ∙ ap (filter test) (sym (map-map leader contents_of left.blocks))
      ∙ ap (λ said. filter test (map leader said)) alike.blocks
      ∙ ap (filter test) (map-map leader contents_of right.blocks)

  -- the graph of a present block
  same_graph :
      {history : History} {leader : ℕ} {insns : List Insn} → IsPresent left history leader insns
      → graph_at left leader insns ≡ graph_at right leader insns
  same_graph {insns = insns} present =
      let live = same_at left.blocks (after_block left.live) (after_block right.live) alike.live (block_of_present present) in
      λ i. graph_of insns (live i) (alike.table i)

  -- the present blocks
  pub present_alike :
      {history other : History} {leader : ℕ} {insns : List Insn} → AreOneButLogs history other
      → IsPresent left history leader insns → IsPresent right other leader insns
  present_alike {other = []} one (original (block, there, leads, is)) =
      let o = other_of left.blocks right.blocks alike.blocks block there in
      original (o.other, o.there, sym o.leader ∙ leads, is ∙ o.insns)
  present_alike {other = e ∷ other} one (original is) = absurd (none_alike one)
  present_alike {other = []} one (unchanged none before) = absurd (none_alike (turned one))
  present_alike {other = e ∷ other} one (unchanged {entry = entry} {leader = leader} none before) =
      unchanged (sym (take_of_alike leader entry e (first_alike one)) ∙ none) (present_alike (rest_alike one) before)
  present_alike {other = []} one (folded cut before has_cut is) = absurd (none_alike (turned one))
  present_alike {other = e ∷ other} one
      (folded {leader = leader} {unit = unit} {insns = insns} {new = new} cut before has_cut is) =
      subst (λ entry. IsPresent right (entry ∷ other) leader new) (same_take leader unit e (first_alike one))
      (folded cut (present_alike (rest_alike one) before) (cut_alike (rest_alike one) has_cut)
      (subst (λ graph. IsFolded insns graph (finite.contains cut) unit new) (same_graph before) is))

  present_cut_alike :
      {history other : History} {leader : ℕ} {insns : List Insn} {cut : finite.FinSet nat_cmp}
      → AreOneButLogs history other → HasPresentCut left history leader insns cut
      → HasPresentCut right other leader insns cut
  present_cut_alike one has = record { present = present_alike one has.present; has_cut = cut_alike one has.has_cut }

  -- the candidates
  candidate_alike :
      {history other : History} {leader : ℕ} {saved : ℤ} → AreOneButLogs history other
      → IsCandidate left history leader saved → IsCandidate right other leader saved
  candidate_alike one is =
      let graph = same_graph is.has_cut.present in
      let entries = same_entries (block_of_present is.has_cut.present) in
      record {
        insns = is.insns;
        cut = is.cut;
        has_cut = present_cut_alike one is.has_cut;
        saved_is = is.saved_is ∙ (λ i. gain (graph i) (finite.contains is.cut) *ℤ pos (entries i));
      }

  -- what the cuts that were taken save
  pub saved_alike :
      {history other : History} {saved : ℕ} → AreOneButLogs history other → savings.IsSaved left history saved
      → savings.IsSaved right other saved
  saved_alike {other = []} one (savings.none) = savings.none
  saved_alike {other = e ∷ other} one (savings.none) = absurd (none_alike one)
  saved_alike {other = []} one (savings.of_search search before) = absurd (none_alike (turned one))
  saved_alike {other = e ∷ other} one (savings.of_search {entry = entry} search before) =
      savings.of_search (sym (take_alike entry e (first_alike one)) ∙ search) (saved_alike (rest_alike one) before)
  saved_alike {other = []} one (savings.of_take before is) = absurd (none_alike (turned one))
  saved_alike {other = e ∷ other} one
      (savings.of_take {leader = leader} {unit = unit} {saved = s} {more = m} before is) =
      subst (λ entry. savings.IsSaved right (entry ∷ other) (s + m)) (same_take leader unit e (first_alike one))
      (savings.of_take (saved_alike (rest_alike one) before) (candidate_alike (rest_alike one) is))

  -- the units
  unit_alike :
      {history other : History} {leader : ℕ} {unit : Unit} → AreOneButLogs history other
      → IsUnitAt left history leader unit → IsUnitAt right other leader unit
  unit_alike one is =
      let graph = same_graph is.has_cut.present in
      record {
        insns = is.insns;
        cut = is.cut;
        has_cut = present_cut_alike one is.has_cut;
        unit_is = is.unit_is ∙ (λ i. unit_of is.insns (graph i) (finite.contains is.cut));
      }

  pub units_alike :
      {history other : History} {units : List Unit} → AreOneButLogs history other → AreUnits left history units
      → AreUnits right other units
  units_alike {other = []} one (numbers.none) = numbers.none
  units_alike {other = e ∷ other} one (numbers.none) = absurd (none_alike one)
  units_alike {other = []} one (numbers.of_search search before) = absurd (none_alike (turned one))
  units_alike {other = e ∷ other} one (numbers.of_search {entry = entry} search before) =
      numbers.of_search (sym (take_alike entry e (first_alike one)) ∙ search) (units_alike (rest_alike one) before)
  units_alike {other = []} one (numbers.known before unit there) = absurd (none_alike (turned one))
  units_alike {other = e ∷ other} one
      (numbers.known {leader = leader} {number = number} {units = units} before unit there) =
      subst (λ entry. AreUnits right (entry ∷ other) units) (same_take leader number e (first_alike one))
      (numbers.known (units_alike (rest_alike one) before) (unit_alike (rest_alike one) unit) there)
  units_alike {other = []} one (numbers.new before unit apart) = absurd (none_alike (turned one))
  units_alike {other = e ∷ other} one
      (numbers.new {leader = leader} {number = number} {units = units} {unit = u} before unit apart) =
      subst (λ entry. AreUnits right (entry ∷ other) (units ++ u ∷ [])) (same_take leader number e (first_alike one))
      (numbers.new (units_alike (rest_alike one) before) (unit_alike (rest_alike one) unit) apart)

  -- the search that is due
  pub search_due_alike :
      {history other : History} {leader : ℕ} → AreOneButLogs history other → IsSearchDue left history leader
      → IsSearchDue right other leader
  search_due_alike {history = history} {other = other} one (at_first none at) =
      at_first (sym (rounds_alike one) ∙ none)
      (ap (slice_get (entered right)) (sym (lengths_alike one))
      ∙ ap (λ leaders. slice_get leaders (length history)) (sym same_entered) ∙ at)
  search_due_alike {other = []} one (after_take) = absurd (none_alike (turned one))
  search_due_alike {other = e ∷ other} one (after_take {leader = leader} {unit = unit}) =
      subst (λ entry. IsSearchDue right (entry ∷ other) leader) (same_take leader unit e (first_alike one)) after_take

-- ---- what needs both ways

module _ {left right : Instance} (alike : AreAlike left right) where
  -- no search is due
  no_search_alike :
      {history other : History} → AreOneButLogs history other → HasNoSearchDue left history → HasNoSearchDue right other
  no_search_alike one none leader is = none leader (search_due_alike (like_back alike) (turned one) is)

  -- the take that is due
  next_take_alike :
      {history other : History} {leader : ℕ} {units : List Unit} {unit : Unit} → AreOneButLogs history other
      → IsNextTake left history leader units unit → IsNextTake right other leader units unit
  next_take_alike one next = record {
    no_search = no_search_alike one next.no_search;
    candidate = record {
      saved = next.candidate.saved;
      candidate = candidate_alike alike one next.candidate.candidate;
      greatest = λ l s is. next.candidate.greatest l s (candidate_alike (like_back alike) (turned one) is);
    };
    units_are = units_alike alike one next.units_are;
    unit_is = unit_alike alike one next.unit_is;
  }

  -- what is due
  pub due_alike :
      {history other : History} {what : Due} → AreOneButLogs history other → IsDue left history what
      → IsDue right other what
  due_alike one (searches is) = searches (search_due_alike alike one is)
  due_alike one (takes_known next at) = takes_known (next_take_alike one next) at
  due_alike one (takes_new {units = units} next apart few) =
      takes_new (next_take_alike one next) apart (subst (λ plan. length units < plan.count) alike.plan few)
  due_alike one (ends_empty no_search no_candidate) =
      ends_empty (no_search_alike one no_search)
      (λ leader saved is. no_candidate leader saved (candidate_alike (like_back alike) (turned one) is))
  due_alike one (ends_full {units = units} next apart full) =
      ends_full (next_take_alike one next) apart (subst (λ plan. plan.count ≤ length units) alike.plan full)

  -- the entries that are right, and legal books
  right_alike : {history : History} {entry : Entry} → IsRight left history entry → IsRight right history entry
  right_alike {entry = entry} (searched {insns = insns} is present log) =
      let graph = same_graph alike present in
      searched (due_alike itself is) (present_alike alike itself present)
      (subst (λ g. IsSearched g right.plan entry) graph
      (subst (λ plan. IsSearched (graph_at left (leader_of entry) insns) plan entry) alike.plan log))
  right_alike (taken is) = taken (due_alike itself is)

  legal_history_alike : (history : History) → IsLegalHistory left history → IsLegalHistory right history
  legal_history_alike [] legal = tt
  legal_history_alike (entry ∷ history) legal = (right_alike legal.0, legal_history_alike history legal.1)

  pub legal_alike : {book : Book} → IsLegal left book → IsLegal right book
  legal_alike {book} legal = record {
    entries = legal_history_alike (reverse book.entries) legal.entries;
    finish = due_alike itself legal.finish;
  }

  -- what was given up by need
  pub given_up_alike : (history : History) → GivesUpByNeed left history → GivesUpByNeed right history
  given_up_alike [] given = tt
  given_up_alike (entry ∷ history) given = (by_need, given_up_alike history given.1)
    where
      by_need : IsGivenUpByNeed right history entry
      by_need insns search present =
          let before = present_alike (like_back alike) itself present in
          subst (λ g. IsGivenUp entry ↔ NeedExceeds g right.plan.limits right.plan.budget) (same_graph alike before)
          (subst
          (λ plan. IsGivenUp entry ↔ NeedExceeds (graph_at left (leader_of entry) insns) plan.limits plan.budget)
          alike.plan (given.0 insns search before))

  -- the new files
  pub new_file_alike :
      {file : Executable} {history other : History} {new : List ℕ} → AreOneButLogs history other
      → IsNewFile left file history new → IsNewFile right file other new
  new_file_alike {file} {history} {other} {new} one is = record {
    text_alone = is.text_alone;
    blocks = λ block insns k there present below.
        let o = other_of right.blocks left.blocks (sym alike.blocks) block there in
        subst (λ leader. IsWordOf (text_word (with_bytes file new) (leader + 4 * k)) (nth_insn insns k)) (sym o.leader)
        (is.blocks o.other insns k o.there
        (subst (λ leader. IsPresent left history leader insns) o.leader
        (present_alike (like_back alike) (turned one) present)) below);
    between = λ address text none.
        is.between address text
        (λ block there lies.
        let o = other_of left.blocks right.blocks alike.blocks block there in
        let many = ap length o.insns in
        none o.other o.there (omega (arith, o.leader, lies.0), omega (arith, o.leader, many, lies.1)));
  }

pub acceptable_alike : AcceptableAlike
acceptable_alike left right file book modules new alike is =
    let (units, are, made) = is.modules_are in
    record {
      legal = legal_alike alike is.legal;
      modules_are = (units, units_alike alike itself are, made);
      new_is = new_file_alike alike itself is.new_is;
    }

-- ---- histories

pub logs_decide_nothing : LogsDecideNothing
logs_decide_nothing instance left right one = record {
  due = λ what. due_alike like_itself one;
  present = λ leader insns. present_alike like_itself one;
  units = λ units. units_alike like_itself one;
  saved = λ saved. saved_alike like_itself one;
  new_file = λ file bytes. new_file_alike like_itself one;
}
