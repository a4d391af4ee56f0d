use Rattle.std.proofs.Common.{◌+◌, ◌-◌, ◌%◌, List, ℕ, length, arith, ap, ◌∙◌, get_or}
use borrow.Rule.Slice.PartMut.{put_mid}
use Rattle.ci_machine.specs.Pages.{content, has, page_at, room}
use Rattle.ci_machine.proofs.ByteLaws.{put_at}
use Rattle.ci_machine.proofs.PageWriteLaws.{content_is, has_same, room_same, table_kept}
use Rattle.ci_machine.proofs.pages.Pages.write_at.Goals as goal

-- the list with a row in the place of so many bytes
abbrev with_row : List ℕ → ℕ → ℕ → List ℕ → List ℕ
with_row bytes offset size row = put_mid offset (offset + size - offset) bytes row

pub invariant_of-self : goal.invariant_of-self
invariant_of-self c = record {
  table_is =
      table_kept c.args.self.now c.args.address _ c.requires.there _ c.index.ensures _ c.get_mut-page.ensures.value
      (with_row c.get_mut-page.result.now.bytes (c.args.address % 4096) (length c.args.bytes.now) c.copy_from_slice.new.self);
  reserved = c.args.self.now.reserved;
}

pub returns-clause-content : goal.returns-clause-content
unfolding content page_at
returns-clause-content c =
    let offset = c.args.address % 4096 in
    let row = c.args.bytes.now in
    let bytes = with_row c.get_mut-page.result.now.bytes offset (length row) in
    λ k x. content_is c.args.self.now c.args.address _ c.requires.there _ c.index.ensures _ c.get_mut-page.ensures.value
    (bytes c.copy_from_slice.new.self) row c.requires.inside
    (λ j lt. ap (λ part. get_or (bytes part) j 0) c.copy_from_slice.ensures.after
    ∙ put_at c.get_mut-page.result.now.bytes row offset (offset + length row - offset) j (omega arith)
    (omega (arith, c.requires.inside)))
    x k

pub returns-clause-has : goal.returns-clause-has
unfolding has page_at
returns-clause-has c =
    λ k x. has_same c.args.self.now c.args.address _ c.requires.there _ c.index.ensures _ c.get_mut-page.ensures.value
    (with_row c.get_mut-page.result.now.bytes (c.args.address % 4096) (length c.args.bytes.now) c.copy_from_slice.new.self)
    x k

pub returns-clause-room : goal.returns-clause-room
unfolding room
returns-clause-room c =
    room_same c.args.self.now c.args.address _ c.requires.there _ c.index.ensures _ c.get_mut-page.ensures.value
    (with_row c.get_mut-page.result.now.bytes (c.args.address % 4096) (length c.args.bytes.now) c.copy_from_slice.new.self)
