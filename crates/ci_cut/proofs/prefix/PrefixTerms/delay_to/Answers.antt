use Rattle.std.proofs.Common.{◌≡◌, Bool, true, false, not, ◌&&◌, max, slice_index, refl, sym, ap, ◌∙◌, arith, true≢false}
use Rattle.std.specs.Cmp.{nat_cmp_total}
use Rattle.std.specs.Ordering.{nat_cmp}
use Rattle.std.specs.FinSet as set
use Rattle.std.proofs.lemmas.Bool.Decides.{nat_tests}
use Rattle.std.proofs.lemmas.List.{get_or_default}
use Rattle.ci_word.proofs.NumberLaws.{contains-remove_nat}
use Rattle.ci_cut.specs.Representation.{row_at}
use Rattle.ci_cut.proofs.ChainsTo.{all_left, one_passed, none_left, most_small}
use Rattle.ci_cut.proofs.SetLaws.{fewer_left}
use Rattle.ci_cut.proofs.prefix.PrefixTerms.delay_to.Goals as goal

both : (r t : Bool) → (r && not (r && not t)) ≡ (r && t)
both true true = refl
both true false = refl
both false t = refl

pub loop-reader-init : goal.loop-reader-init
loop-reader-init c =
    let taken = c.args.self.now.taken in
    let row : set.FinSet nat_cmp = row_at c.args.rows.now.readers c.args.node in
    let first = get_or_default c.args.rows.now.readers c.args.node set.empty c.index-rows-node.result (omega arith) in
    let second = get_or_default c.args.rows.now.readers c.args.node set.empty c.index-rows-node-2.result (omega arith) in
    let outside = c.minus-outside.ensures.value ∙ (λ i. set.difference (sym first i) taken) in
    let left = c.minus-readers.ensures.value ∙ (λ i. set.difference (sym second i) (outside i)) in
    all_left (set.contains row) (set.contains taken) c.args.delays.now _
    (λ m.
    ap (λ s. set.contains s m) left
    ∙ set.contains-difference nat_cmp_total row (set.difference row taken) m
    ∙ ap (λ b. set.contains row m && not b) (set.contains-difference nat_cmp_total row taken m)
    ∙ both (set.contains row m) (set.contains taken m))

pub loop-reader-smaller : goal.loop-reader-smaller
loop-reader-smaller c = rw c.remove.ensures (fewer_left c.loop-reader.readers c.in-Some.reader c.in-Some.ensures.0)

pub loop-reader-preserved : goal.loop-reader-preserved
loop-reader-preserved c =
    let reader = c.in-Some.reader in
    let most : c.max-longest.result ≡ max c.loop-reader.longest (slice_index c.args.delays.now reader) = grind (arith, nat_tests) in
    rw most
    (one_passed _ _ c.args.delays.now (set.contains c.loop-reader.readers) (set.contains c.remove.new.self) c.loop-reader.longest reader
    c.loop-reader.invariant c.in-Some.ensures.0
    (λ m. ap (λ s. set.contains s m) c.remove.ensures ∙ contains-remove_nat c.loop-reader.readers reader m))

pub overflow_add-result : goal.overflow_add-result
overflow_add-result c =
    omega (arith, most_small _ _ _ _ _ 25600000 c.loop-reader.invariant c.requires.small)

pub returns : goal.returns
returns c =
    none_left _ _ _ _ c.loop-reader.longest c.args.own c.loop-reader.invariant
    (λ m in_. true≢false (sym in_ ∙ ap (λ s. set.contains s m) c.in_default.ensures ∙ set.contains-empty nat_cmp m))
