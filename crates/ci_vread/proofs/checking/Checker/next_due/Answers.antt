use Rattle.std.proofs.Common.{◌≡◌, [], ◌∷◌, ◌++◌, ◌<◌, List, ℕ, Option, refl, ap, sym, ◌∙◌, subst, arith}
use Rattle.ci_reading.specs.Tokens.{text_end, at}
use Rattle.ci_vread.specs.declared.grammar.Part.{Part as PartValue}
use Rattle.ci_vread.specs.declared.grammar.Part.TheVariants as part
use Rattle.ci_vread.specs.declared.tokens.Kind.{Kind}
use Rattle.ci_vread.specs.Grammar.{Part, made, ended, parts_of}
use Rattle.ci_vread.specs.Rules.{behind}
use Rattle.ci_vread.specs.private.Scanned.{symbol_by}
use Rattle.ci_vread.specs.private.Tables.{due_of, phrase_of, end_of, part_of}
use Rattle.ci_vread.specs.private.Checked.{IsBounded}
use Rattle.ci_vread.specs.private.Led.{Leads}
use Rattle.ci_vread.proofs.CheckerSteps.{opened, closed}
use Rattle.ci_vread.proofs.RoleLaws.{of_symbol}
use Rattle.ci_vread.proofs.CheckerLaws.{needs, needs_not, popped, due_popped, no_parts, steps_on}
use Rattle.ci_vread.proofs.Work.{work, falls, IsQuiet, stays_quiet}
use Rattle.ci_vread.proofs.checking.Checker.next_due.Goals as goal

pub returns-in-Reads-clause-due : goal.returns-in-Reads-clause-due
returns-in-Reads-clause-due c = λ rules symbols place bytes there.
    popped rules (at place (symbol_by c.args.next bytes) ∷ symbols) c.loop-part.self c.pop.new.self.items c.in-Some.part
    (part.Reads c.in-Reads.role) c.in-Some.ensures.items c.in-Reads.is (c.loop-part.invariant.led rules symbols place bytes there)

pub loop-part-preserved-in-Ends : goal.loop-part-preserved-in-Ends
loop-part-preserved-in-Ends c = record {
  led = λ rules symbols place bytes there.
      let o = popped rules (at place (symbol_by c.args.next bytes) ∷ symbols) c.loop-part.self c.pop.new.self.items c.in-Some.part
      (part.Ends c.in-Ends.what) c.in-Some.ensures.items c.in-Ends.is (c.loop-part.invariant.led rules symbols place bytes there) in
      let n = steps_on c.loop-part.self.seen c.end.new.self c.in_ok-broken-in-Ends.broken (ended (end_of c.in-Ends.what))
      c.in_ok-broken-in-Ends.ensures.on o.0 c.loop-part.self.last o.1 in (
        behind o.0 (ended (end_of c.in-Ends.what) c.loop-part.self.last),
        n.0,
        subst (λ (b : Option ℕ). Leads rules (at place (symbol_by c.args.next bytes) ∷ symbols) c.loop-part.self.last (due_of c.pop.new.self.items) b
            (behind o.0 (ended (end_of c.in-Ends.what) c.loop-part.self.last)))
            (sym c.least-self.ensures) (closed c.in_ok-broken-in-Ends.broken o.2 n.1),
      );
  last = c.loop-part.invariant.last;
  bounded = subst (λ (b : Option ℕ). IsBounded c.end.new.self b) (sym c.least-self.ensures)
      (c.in_ok-broken-in-Ends.ensures.bounded c.loop-part.self.broken c.loop-part.invariant.bounded);
  fresh = λ h. absurd (subst IsQuiet (due_popped c.loop-part.self.due.items c.pop.new.self.items c.in-Some.part c.in-Some.ensures.items
      ∙ ap (λ (r : PartValue). part_of r ∷ due_of c.pop.new.self.items) c.in-Ends.is) (c.loop-part.invariant.fresh h).0);
}

pub returns-then-is_cut_off-clause-due : goal.returns-then-is_cut_off-clause-due
returns-then-is_cut_off-clause-due c = λ rules symbols place bytes there.
    let o = popped rules (at place (symbol_by c.args.next bytes) ∷ symbols) c.loop-part.self c.pop.new.self.items c.in-Some.part
    (part.Made c.in-Made.phrase) c.in-Some.ensures.items c.in-Made.is (c.loop-part.invariant.led rules symbols place bytes there) in
    let cut = c.if-is_cut_off.ensures.cut_off refl in (
      o.0,
      due_of c.pop.new.self.items,
      phrase_of c.in-Made.phrase,
      needs c.in-Made.phrase cut.1,
      ap (λ (k : Kind). symbol_by k bytes) cut.0,
      o.2,
    )

pub loop-part-smaller : goal.loop-part-smaller
loop-part-smaller c =
    let next = symbol_by c.args.next [] in
    let now : due_of c.put_first.new.due.items ≡ parts_of (phrase_of c.in-Made.phrase) next ++ due_of c.pop.new.self.items =
    c.in_ok-put_first-in-Made.ensures ∙ ap (λ (l : List Part). l ++ due_of c.pop.new.self.items) (c.parts.ensures []) in
    let before : due_of c.loop-part.self.due.items ≡ made (phrase_of c.in-Made.phrase) ∷ due_of c.pop.new.self.items =
    due_popped c.loop-part.self.due.items c.pop.new.self.items c.in-Some.part c.in-Some.ensures.items
    ∙ ap (λ (r : PartValue). part_of r ∷ due_of c.pop.new.self.items) c.in-Made.is in
    let less : work (due_of c.put_first.new.due.items) < work (due_of c.loop-part.self.due.items) =
    subst (λ (l : List Part). work l < work (due_of c.loop-part.self.due.items)) (sym now)
    (subst (λ (l : List Part). work (parts_of (phrase_of c.in-Made.phrase) next ++ due_of c.pop.new.self.items) < work l) (sym before)
    (falls (phrase_of c.in-Made.phrase) next (due_of c.pop.new.self.items))) in
    less

pub loop-part-preserved : goal.loop-part-preserved
loop-part-preserved c = record {
  led = λ rules symbols place bytes there.
      let next = symbol_by c.args.next bytes in
      let o = popped rules (at place next ∷ symbols) c.loop-part.self c.pop.new.self.items c.in-Some.part
      (part.Made c.in-Made.phrase) c.in-Some.ensures.items c.in-Made.is (c.loop-part.invariant.led rules symbols place bytes there) in
      let now : due_of c.put_first.new.due.items ≡ parts_of (phrase_of c.in-Made.phrase) next ++ due_of c.pop.new.self.items =
      c.in_ok-put_first-in-Made.ensures ∙ ap (λ (l : List Part). l ++ due_of c.pop.new.self.items) (c.parts.ensures bytes) in (
        o.0,
        o.1,
        subst (λ (l : List Part). Leads rules (at place next ∷ symbols) c.loop-part.self.last l c.loop-part.self.broken o.0) (sym now)
            (opened (λ e. needs_not c.in-Made.phrase (c.if-is_cut_off.ensures.whole refl (of_symbol c.args.next bytes text_end e))) o.2),
      );
  last = c.loop-part.invariant.last;
  bounded = c.loop-part.invariant.bounded;
  fresh = λ h.
      let next = symbol_by c.args.next [] in
      let now : due_of c.put_first.new.due.items ≡ parts_of (phrase_of c.in-Made.phrase) next ++ due_of c.pop.new.self.items =
      c.in_ok-put_first-in-Made.ensures ∙ ap (λ (l : List Part). l ++ due_of c.pop.new.self.items) (c.parts.ensures []) in
      let quiet = c.loop-part.invariant.fresh h in (
        subst IsQuiet (sym now) (stays_quiet (phrase_of c.in-Made.phrase) next (due_of c.pop.new.self.items)
            (subst IsQuiet (due_popped c.loop-part.self.due.items c.pop.new.self.items c.in-Some.part c.in-Some.ensures.items
            ∙ ap (λ (r : PartValue). part_of r ∷ due_of c.pop.new.self.items) c.in-Made.is) quiet.0)),
        quiet.1,
      );
}

pub returns-clause-due : goal.returns-clause-due
returns-clause-due c = λ rules symbols place bytes there.
    let o = c.loop-part.invariant.led rules symbols place bytes there in
    let empty : c.loop-part.self.due.items ≡ [] =
    no_parts c.loop-part.self.due.items (omega (arith, c.loop-part.self.due.ok.0, c.in_default.ensures.cases.0)) in (
      o.0,
      subst (λ (l : List PartValue). Leads rules (at place (symbol_by c.args.next bytes) ∷ symbols) c.loop-part.self.last (due_of l)
          c.loop-part.self.broken o.0) empty o.2,
    )
