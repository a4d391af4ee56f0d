use Rattle.std.proofs.Common.{◌≡◌, ◌∷◌, ℕ, List, None}
use Rattle.ci_reading.specs.Tokens.{at}
use Rattle.ci_vread.specs.Grammar.{Placed}
use Rattle.ci_vread.specs.Rules.{Rule}
use Rattle.ci_vread.specs.private.Scanned.{symbol_by}
use Rattle.ci_vread.specs.private.Tables.{due_of}
use Rattle.ci_vread.specs.private.Checked.{IsBounded}
use Rattle.ci_vread.specs.private.Led.{IsAt, IsFresh}
use Rattle.ci_vread.proofs.Work.{work, IsQuiet}
use Rattle.ci_vread.proofs.checking.Checker.next_due.Given as goal

abbrev pub invariant-loop-part : goal.invariant-loop-part
invariant-loop-part l = record {
  led : (rules : List Rule) (symbols : List Placed) (place : ℕ) (bytes : List ℕ)
      → IsAt rules (at place (symbol_by l.next bytes) ∷ symbols) l.fn.self → IsAt rules (at place (symbol_by l.next bytes) ∷ symbols) l.self;
  last : l.self.last ≡ l.fn.self.last;
  bounded : IsBounded l.self.seen l.self.broken;
  fresh : IsFresh l.fn.self → IsQuiet (due_of l.self.due.items) × (l.self.broken ≡ None);
}

abbrev pub decreases-loop-part : goal.decreases-loop-part
decreases-loop-part l = work (due_of l.self.due.items)
