use Rattle.std.proofs.Common.{◌≡◌, ◌≤◌, ◌+◌, ◌*◌, ℕ, length}
use Rattle.ci_machine.specs.Pages.{content, has, room}
use Rattle.ci_machine.specs.PageTables.{missing, without_pages, zeroed}
use Rattle.ci_machine.proofs.pages.Pages.remove_all.Given as goal

abbrev pub invariant-loop-place : goal.invariant-loop-place
invariant-loop-place l = record {
  room : (low high : ℕ) → missing (has l.self) low high + room l.initial.self ≤ missing (has l.initial.self) low high + room l.self;
  has : without_pages (has l.self) l.from l.to ≡ without_pages (has l.initial.self) l.from l.to;
  content : zeroed (content l.self) (l.from * 4096) (l.to * 4096) ≡ zeroed (content l.initial.self) (l.from * 4096) (l.to * 4096);
}

abbrev pub decreases-loop-place : goal.decreases-loop-place
decreases-loop-place l = length l.self.table.items
