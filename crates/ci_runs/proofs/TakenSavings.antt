-- The savings of a legal history.
use Rattle.std.proofs.Common.{◌≡◌, ℕ, ◌+◌, pos, ◌+ℤ◌, ◌*ℤ◌, true≢false, List, [], ◌∷◌, All, map, refl, sym, ap, ◌∙◌}
use Rattle.std.proofs.Common.{arith, subst}
use Rattle.std.specs.FinSet as finite
use Rattle.std.specs.List.{Contains}
use Rattle.std.specs.Ordering.{nat_cmp}
use Rattle.std.proofs.lemmas.List.Elements.{All-cons, All-nil}
use Rattle.ci_isa.specs.declared.instruction.Insn.{Insn}
use Rattle.ci_block.specs.declared.blocks.Block.{Block}
use Rattle.ci_block.specs.Blocks.{AreInOrder}
use Rattle.ci_cut.specs.Gain.{gain}
use Rattle.ci_log.specs.declared.book.Entry.TheVariants.{Take}
use Rattle.ci_vemit.proofs.UnitModules.{map_contains}
use Rattle.ci_select.specs.Histories.{History}
use Rattle.ci_select.specs.Instances.{Instance}
use Rattle.ci_select.specs.LegalBooks.{IsLegalHistory}
use Rattle.ci_select.specs.PresentBlocks.{HasPresentCut, graph_at}
use Rattle.ci_select.specs.Savings as cycles
use Rattle.ci_select.proofs.HistoryLaws.{cut_is_one}
use Rattle.ci_select.proofs.PresentIsOne.{block_of_present, present_is_one}
use Rattle.ci_select.proofs.PresentLaws.{take_is_due}
use Rattle.ci_runs.specs.WholeRuns.{Saving, saved}
use Rattle.ci_runs.specs.ChosenFiles.{AreSavings, none, of_search, of_take}

-- a block has one gain
pub gain_is_one :
    {instance : Instance} {history : History} {leader : ℕ} {left right : List Insn}
    {first second : finite.FinSet nat_cmp}
    → AreInOrder instance.blocks → HasPresentCut instance history leader left first
    → HasPresentCut instance history leader right second
    → gain (graph_at instance leader left) (finite.contains first)
    ≡ gain (graph_at instance leader right) (finite.contains second)
gain_is_one {instance} {history} {leader} {left} {right} {first} {second} order one other =
    let insns : left ≡ right = present_is_one instance history leader left right order one.present other.present in
    let cut : first ≡ second = cut_is_one one.has_cut other.has_cut in
    λ i. gain (graph_at instance leader (insns i)) (finite.contains (cut i))

-- each take of a legal history has a saving
pub savings_of :
    (instance : Instance) (history : History) → IsLegalHistory instance history
    → (savings : List Saving) × AreSavings instance history savings
savings_of instance [] legal = ([], none)
savings_of instance (Take leader number ∷ history) legal =
    let before = savings_of instance history legal.1 in
    (_, of_take before.1 (take_is_due legal.0).next.candidate.candidate.has_cut)
savings_of instance (entry ∷ history) legal =
    let before = savings_of instance history legal.1 in (before.0, of_search refl before.1)

-- at a leader of a block
pub savings_are_listed :
    {instance : Instance} {history : History} {savings : List Saving}
    → map (λ block. block.leader) instance.blocks ≡ instance.live.leaders → AreSavings instance history savings
    → All (λ saving. Contains instance.live.leaders saving.leader) savings
savings_are_listed {instance} leaders none = All-nil (λ saving. Contains instance.live.leaders saving.leader)
savings_are_listed leaders (of_search searches are) = savings_are_listed leaders are
savings_are_listed {instance} leaders (of_take {leader} {savings} {insns} {cut} are has) =
    let (block, there, leads) = block_of_present has.present in
    All-cons (λ saving. Contains instance.live.leaders saving.leader)
    (record { leader = leader; gain = gain (graph_at instance leader insns) (finite.contains cut) }) savings
    (subst (Contains instance.live.leaders) leads
    (subst (λ listed. Contains listed block.leader) leaders
    (map_contains (λ (b : Block). b.leader) instance.blocks block there)))
    (savings_are_listed leaders are)

-- over the profiled run they are what the history saves
pub saved_is_sum :
    {instance : Instance} {history : History} {savings : List Saving} {sum : ℕ}
    → AreInOrder instance.blocks → AreSavings instance history savings → cycles.IsSaved instance history sum
    → saved savings instance.entries ≡ pos sum
saved_is_sum order none cycles.none = refl
saved_is_sum order (of_search searches are) (cycles.of_search also is) = saved_is_sum order are is
saved_is_sum order (of_search searches are) (cycles.of_take is candidate) = absurd (true≢false searches)
saved_is_sum order (of_take are has) (cycles.of_search searches is) = absurd (true≢false searches)
saved_is_sum {instance} order
    (of_take {leader} {savings} {insns} {cut} are has)
    (cycles.of_take {saved = before} {more = more} is candidate) =
    let this : gain (graph_at instance leader insns) (finite.contains cut) *ℤ pos (instance.entries leader) ≡ pos more =
    ap (λ g. g *ℤ pos (instance.entries leader)) (gain_is_one order has candidate.has_cut) ∙ sym candidate.saved_is in
    let others : saved savings instance.entries ≡ pos before = saved_is_sum order are is in
    let sum : more + before ≡ before + more = omega arith in
    (λ i. this i +ℤ others i) ∙ ap pos sum
