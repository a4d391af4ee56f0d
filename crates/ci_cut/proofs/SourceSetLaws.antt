-- What a set of sources holds after a change.
use Rattle.std.proofs.Common.{◌≡◌, ◌≢◌, ℕ, ◌+◌, ◌≤◌, Bool, true, false, not, ◌&&◌, ◌||◌, inl, inr, IsTrue}
use Rattle.std.proofs.Common.{if◌then◌else◌, List, length, refl, sym, ap, ◌∙◌, subst, eq-eqb, eqb-true, true≢false}
use Rattle.std.proofs.Common.{arith}
use Rattle.std.proofs.Math.Bool.{or-true}
use Rattle.std.proofs.lemmas.Bool.{cases_Bool, false_from_ne_true, and_parts, not-true}
use Rattle.std.specs.Ordering.{nat_cmp}
use Rattle.std.specs.FinSet as set
use Rattle.ci_word.proofs.NumberLaws.{contains-insert_nat}
use Rattle.ci_cut.specs.declared.graph.Source.{Source}
use Rattle.ci_cut.specs.declared.graph.Source.TheVariants.{Entry, Made}
use Rattle.ci_cut.specs.declared.ports.SourceSet.{SourceSet}
use Rattle.ci_cut.specs.FlowGraph.{FlowGraph, is_source}
use Rattle.ci_cut.specs.Ports.{is_outside}
use Rattle.ci_cut.specs.Prefixes.{is_eligible}
use Rattle.ci_cut.specs.private.SourceSets.{holds, count_held, AreSettledBy}
use Rattle.ci_cut.proofs.OneMore.{IsCounted, sources_one_more, sources_same, count_sources-few}

-- a set without registers and nodes holds no source
pub holds-empty : (source : Source) → holds (record { registers = set.empty; nodes = set.empty }) source ≡ false
holds-empty (Entry r) = set.contains-empty nat_cmp r
holds-empty (Made k) = set.contains-empty nat_cmp k

-- a register or a node more
pub holds-entry : (sources : SourceSet) (r : ℕ) (other : Source)
    → holds (record sources { registers = set.insert sources.registers r }) other
    ≡ (is_source other (Entry r) || holds sources other)
holds-entry sources r (Entry q) = contains-insert_nat sources.registers r q
holds-entry sources r (Made k) = refl

pub holds-made : (sources : SourceSet) (k : ℕ) (other : Source)
    → holds (record sources { nodes = set.insert sources.nodes k }) other
    ≡ (is_source other (Made k) || holds sources other)
holds-made sources k (Entry q) = refl
holds-made sources k (Made j) = contains-insert_nat sources.nodes k j

-- ---- what is counted, one source more

pub is_source_itself : (source : Source) → is_source source source ≡ true
is_source_itself (Entry r) = eq-eqb r r refl
is_source_itself (Made k) = eq-eqb k k refl

one_source : (first second : Source) → is_source first second ≡ true → first ≡ second
one_source (Entry r) (Entry q) same = ap Entry (eqb-true r q same)
one_source (Entry r) (Made k) same = cc
one_source (Made k) (Entry q) same = cc
one_source (Made j) (Made k) same = ap Made (eqb-true j k same)

other_source : (first second : Source) → first ≢ second → is_source first second ≡ false
other_source first second differs = false_from_ne_true _ (λ same. differs (one_source first second same))

-- what passes is counted once, where it was not in
new_in : (o i h : Bool) → i ≡ false → (o && (i || h)) ≡ (o && h)
new_in o i h other = rw other

module _ (graph : FlowGraph) (outside : Source → Bool) (old new : SourceSet) (source : Source)
    (within : IsTrue (holds new source) → IsCounted graph source)
    (more : (other : Source) → holds new other ≡ (is_source other source || holds old other)) where
  holds_itself : holds new source ≡ true
  holds_itself = more source ∙ ap (λ b. b || holds old source) (is_source_itself source)

  count_held-new : holds old source ≡ false → outside source ≡ true → count_held graph outside new ≡ count_held graph outside old + 1
  count_held-new was_out passes =
      sources_one_more graph (λ other. outside other && holds old other) (λ other. outside other && holds new other) source (within holds_itself)
      (rw (passes, was_out))
      (rw (passes, holds_itself))
      (λ other differs. ap (λ b. outside other && b) (more other)
      ∙ new_in (outside other) (is_source other source) (holds old other) (other_source other source differs))

  count_held-old : (not (holds old source) && outside source) ≡ false → count_held graph outside new ≡ count_held graph outside old
  count_held-old not_counted =
      sources_same graph (λ other. outside other && holds old other) (λ other. outside other && holds new other)
      (λ other. ap (λ b. outside other && b) (more other) ∙ elim (cases_Bool (is_source other source)) [
        | inr differs ↦ new_in (outside other) (is_source other source) (holds old other) differs
        | inl same ↦
            let is : other ≡ source = one_source other source same in
            subst (λ (s : Source). (outside s && (is_source s source || holds old s)) ≡ (outside s && holds old s)) (sym is)
            (not_new (outside source) (is_source source source) (holds old source) not_counted)
      ])
    where
      not_new : (o i h : Bool) → (not h && o) ≡ false → (o && (i || h)) ≡ (o && h)
      not_new true i true e = rw (or-true i)
      not_new true i false e = absurd (true≢false e)
      not_new false i h e = refl

  -- counted where it is new and passes
  pub count_held-more : (settled : Bool) → settled ≡ (not (holds old source) && outside source)
      → count_held graph outside new ≡ count_held graph outside old + (if settled then 1 else 0)
  count_held-more true is =
      let parts = and_parts (not (holds old source)) (outside source) (sym is) in
      count_held-new (not-true (holds old source) parts.0) parts.1
  count_held-more false is = omega (arith, count_held-old (sym is))

-- the count can't grow by much
pub settled_few : (graph : FlowGraph) (sources : List Source) (old new : SourceSet) (settled : ℕ) → length graph.nodes ≤ 256
    → ((outside : Source → Bool) → AreSettledBy graph outside sources → count_held graph outside new ≡ count_held graph outside old + settled)
    → settled ≤ 512
settled_few graph sources old new settled few counted =
    let outside = is_outside (is_eligible graph) in
    omega (arith, counted outside (λ source among. refl), count_sources-few graph (λ source. outside source && holds new source) few)
