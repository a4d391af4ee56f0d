use Rattle.std.proofs.Common.{◌%◌, arith, ap, ◌∙◌, get_or}
use Rattle.ci_isa.specs.Effects.{width_bytes}
use Rattle.ci_machine.specs.Accesses.{bytes_of_number}
use Rattle.ci_machine.specs.Pages.{content, has, page_at, room}
use Rattle.ci_machine.proofs.AccessLaws.{length-bytes_of_number}
use Rattle.ci_machine.proofs.ByteLaws.{overwritten_at}
use Rattle.ci_machine.proofs.PageWriteLaws.{content_is, has_same, room_same, table_kept}
use Rattle.ci_machine.proofs.pages.Pages.store_at.Goals as goal

pub invariant_of-self : goal.invariant_of-self
invariant_of-self c = record {
  table_is =
      table_kept c.args.self.now c.args.address _ c.requires.there _ c.index.ensures _ c.get_mut-page.ensures.value
      c.put_number.new.bytes;
  reserved = c.args.self.now.reserved;
}

pub returns-clause-content : goal.returns-clause-content
unfolding content page_at
returns-clause-content c =
    let row = bytes_of_number (width_bytes c.args.width) c.args.value in
    let long = length-bytes_of_number (width_bytes c.args.width) c.args.value in
    λ k x. content_is c.args.self.now c.args.address _ c.requires.there _ c.index.ensures _ c.get_mut-page.ensures.value
    c.put_number.new.bytes row (omega (arith, long, c.requires.inside))
    (λ j lt. ap (λ bytes. get_or bytes j 0) c.put_number.ensures
    ∙ overwritten_at c.get_mut-page.result.now.bytes row (c.args.address % 4096) j (omega (arith, long, c.requires.inside)))
    x k

pub returns-clause-has : goal.returns-clause-has
unfolding has page_at
returns-clause-has c =
    λ k x. has_same c.args.self.now c.args.address _ c.requires.there _ c.index.ensures _ c.get_mut-page.ensures.value
    c.put_number.new.bytes x k

pub returns-clause-room : goal.returns-clause-room
unfolding room
returns-clause-room c =
    room_same c.args.self.now c.args.address _ c.requires.there _ c.index.ensures _ c.get_mut-page.ensures.value
    c.put_number.new.bytes
