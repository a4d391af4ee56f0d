-- The take that is due: the cut of the candidate that goes first can be folded and become a unit word.
use Rattle.std.proofs.Common.{◌≡◌, ◌∙◌, ℕ, ◌<◌, List, sym, ap, subst, arith}
use Rattle.std.specs.Prelude.{ℤ, pos, ◌<ℤ◌, slice_index_or}
use Rattle.std.proofs.lemmas.Int.{ints, to_z-of_z}
use lib.Dec.{T}
use lib.IntN.{nat_abs}
use lib.Signed.{non_neg}
use mir.Syntax.{w64}
use mir.Val.{SFits, Fits, of_z, to_z}
use Rattle.std.specs.FinSet as finite
use Rattle.std.specs.Global.{Vec}
use Rattle.std.specs.Ordering.{nat_cmp}
use Rattle.ci_isa.specs.declared.instruction.Insn.{Insn}
use Rattle.ci_isa.specs.Table.{IsWordOf}
use Rattle.ci_cut.specs.FlowGraph.{FlowGraph}
use Rattle.ci_cut.specs.Gain.{gain}
use Rattle.ci_cut.specs.GraphRules.{AreNodes}
use Rattle.ci_unit.specs.Operands.{AreOperands, FitsSomeLimits}
use Rattle.ci_unit.specs.Uses.{AreRegisters, unit_word}
use Rattle.ci_rewrite.specs.Blocks.{AllFieldsFit}
use Rattle.ci_rewrite.specs.FoldedBlock.{IsGraphOf}
use Rattle.ci_rewrite.proofs.BlockGraphs.{has_registers}
use Rattle.ci_rewrite.proofs.FoldLaws.{members_are_nodes}
use Rattle.ci_select.specs.declared.rounds.Candidate.{Candidate}
use Rattle.ci_select.specs.declared.rounds.Due.TheVariants as due
use Rattle.ci_select.specs.declared.rounds.Rank.{Rank}
use Rattle.ci_select.specs.declared.rounds.Rounds.{Rounds}
use Rattle.ci_select.specs.declared.taken.Taken.{Taken}
use Rattle.ci_select.specs.Histories.{History}
use Rattle.ci_select.specs.Instances.{AreOfSomeFile, Instance}
use Rattle.ci_select.specs.PresentBlocks.{HasPresentCut, graph_at}
use Rattle.ci_select.specs.Dues.{IsDue}
use Rattle.ci_select.specs.LegalBooks.{IsLegalHistory}
use Rattle.ci_select.specs.Takes.{IsTaken}
use Rattle.ci_select.specs.private.Followed.{Follows, IsFirst, IsRanked, instance_in}
use Rattle.ci_select.proofs.DuePlaces.{first_leads}
use Rattle.ci_select.proofs.PresentLaws.{blocks_in_order, cut_is_found, due_take, present_is_sound, take_is_small}
use Rattle.ci_select.proofs.SearchFollowed.{present_here}

-- what the folded block of a cut, its unit word and its gain are made from
pub record CanBeTaken (insns : List Insn) (graph : FlowGraph) (cut : finite.FinSet nat_cmp) (unit : ℕ) : Type 0 where
  pub of_block : IsGraphOf insns graph
  pub fields : AllFieldsFit insns
  pub operands : AreOperands insns graph
  pub registers : AreRegisters graph
  pub fits : FitsSomeLimits graph (finite.contains cut)
  pub nodes : AreNodes graph cut
  pub small : unit < 32
  pub positive : pos 0 <ℤ gain graph (finite.contains cut)

present_can_be_taken :
    {instance : Instance} {history : History} {leader unit : ℕ} {insns : List Insn} {cut : finite.FinSet nat_cmp}
    → AreOfSomeFile instance.blocks instance.live → IsLegalHistory instance history
    → IsDue instance history (due.Take leader unit) → HasPresentCut instance history leader insns cut
    → CanBeTaken insns (graph_at instance leader insns) cut unit
present_can_be_taken {instance} {history} {leader} {unit} {insns} {cut} of_file legal is has =
    let graph = graph_at instance leader insns in
    let ordered = blocks_in_order instance of_file in
    let take = due_take is in
    let sound = present_is_sound of_file legal has.present in
    let good = (cut_is_found history ordered legal (take.next.no_search leader) has).accepted.good in
    let fits : FitsSomeLimits graph (finite.contains cut) = (instance.plan.limits, good.0) in
    record {
      of_block = sound.graph;
      fields = sound.can_be_folded.fit;
      operands = sound.operands;
      registers = has_registers insns graph sound.graph sound.can_be_folded.fit;
      fits = fits;
      nodes = members_are_nodes graph cut fits;
      small = take_is_small ordered legal take;
      positive = good.1;
    }

-- ---- a candidate whose take is due

module _ {history : History} {rounds : Rounds} {rank : Rank} {candidate : Candidate} {unit : ℕ}
    (follows : Follows history rounds)
    (held : IsRanked (instance_in rounds) history rounds.blocks.now rank candidate)
    (is_due : IsDue (instance_in rounds) history (due.Take rank.leader unit)) (block : Vec Insn)
    (here : block ≡ slice_index_or rounds.present.items candidate.place block) where
  -- the instructions at its place are those of its present block,
  pub insns_are : block.items ≡ held.insns
  insns_are = present_here candidate.place block follows held.within held.leader here held.has_cut.present

  -- so that its cut can be taken
  pub can_be_taken : CanBeTaken block.items candidate.graph candidate.cut unit
  can_be_taken =
      subst (λ g. CanBeTaken block.items g candidate.cut unit) (sym held.graph)
      (subst (λ i. CanBeTaken i (graph_at (instance_in rounds) rank.leader held.insns) candidate.cut unit) (sym insns_are)
      (present_can_be_taken follows.of_file follows.legal is_due held.has_cut))

-- ---- the candidate that goes first

-- where a take is due, it is that of the first candidate,
pub first_is_due_at :
    {history : History} {rounds : Rounds} {rank : Rank} {candidate : Candidate} {leader unit : ℕ}
    → Follows history rounds → IsFirst rounds.candidates.entries (rank, candidate)
    → IsDue (instance_in rounds) history (due.Take leader unit) → rank.leader ≡ leader
first_is_due_at {rank = rank} {candidate = candidate} follows first is =
    first_leads rank candidate follows (due_take is).next.no_search first (due_take is).next.candidate

module _ {history : History} {rounds : Rounds} {rank : Rank} {candidate : Candidate} {leader unit : ℕ}
    (follows : Follows history rounds) (first : IsFirst rounds.candidates.entries (rank, candidate))
    (is_due : IsDue (instance_in rounds) history (due.Take leader unit)) (block : Vec Insn)
    (here : block ≡ slice_index_or rounds.present.items candidate.place block) where
  held : IsRanked (instance_in rounds) history rounds.blocks.now rank candidate
  held = follows.ranked rank candidate first.there

  leads : rank.leader ≡ leader
  leads = first_is_due_at follows first is_due

  is_due_here : IsDue (instance_in rounds) history (due.Take rank.leader unit)
  is_due_here = subst (λ l. IsDue (instance_in rounds) history (due.Take l unit)) (sym leads) is_due

  -- which can be taken,
  pub first_can_be_taken : CanBeTaken block.items candidate.graph candidate.cut unit
  first_can_be_taken = can_be_taken follows held is_due_here block here

  -- and of which this is told
  abbrev pub told : ℕ → ℕ → ℕ → Taken
  told gained entries word = record {
    round = rounds.round;
    leader = rank.leader;
    unit = unit;
    gain = gained;
    entries = entries;
    cut = candidate.cut;
    word = word;
  }

  pub first_is_told :
      (gained entries word : ℕ) → pos gained ≡ gain candidate.graph (finite.contains candidate.cut)
      → entries ≡ (instance_in rounds).entries rank.leader
      → IsWordOf word (unit_word block.items candidate.graph (finite.contains candidate.cut) unit)
      → IsTaken (instance_in rounds) history leader unit (told gained entries word)
  first_is_told gained entries word gain_is entries_are word_is =
      subst (λ l. IsTaken (instance_in rounds) history l unit (told gained entries word)) leads
      (record {
        insns = held.insns;
        has_cut = held.has_cut;
        round_is = follows.round_is;
        leader_is = λ _. rank.leader;
        unit_is = λ _. unit;
        entries_are = entries_are;
        gain_is = gain_is ∙ ap (λ g. gain g (finite.contains candidate.cut)) held.graph;
        word_is = subst (IsWordOf word)
            (λ i. unit_word (insns_are follows held is_due_here block here i) (held.graph i) (finite.contains candidate.cut) unit)
            word_is;
      })

-- ---- numbers

-- a positive number is kept where it is cast
pub cast_fits : (z : ℤ) → SFits w64 z → pos 0 <ℤ z → T (non_neg (to_z w64 (of_z w64 z))) × Fits w64 (nat_abs (to_z w64 (of_z w64 z)))
cast_fits z fits positive = rw (to_z-of_z w64 z fits) (omega (arith, ints), omega (arith, ints))

pub cast_is : (z : ℤ) → SFits w64 z → pos 0 <ℤ z → pos (nat_abs (to_z w64 (of_z w64 z))) ≡ z
cast_is z fits positive = rw (to_z-of_z w64 z fits) (omega (arith, ints))
