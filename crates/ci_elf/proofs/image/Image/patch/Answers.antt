use Rattle.std.proofs.Common.{◌≡◌, ◌+◌, ◌≤◌, length, sym, ◌∙◌, subst, ap, arith}
use Rattle.ci_elf.specs.TextChanges.{with_word}
use Rattle.ci_elf.proofs.ImageLaws.{formed_with, length_with_word, replaced}
use Rattle.ci_elf.proofs.image.Image.patch.Goals as goal

pub invariant_of-self : goal.invariant_of-self
invariant_of-self c =
    let items = c.self.inside.bytes.items in
    let within : c.place-place.result + 4 ≤ length items =
    subst (λ v. c.place-place.result + 4 ≤ length v.bytes) (sym c.self.view_is) c.place-place.ensures.within in
    let is : c.write_word.new.bytes ≡ with_word items c.place-place.result c.args.word =
    c.write_word.ensures ∙ ap (λ b. with_word b c.place-place.result c.args.word) c.deref_mut.ensures.value in
    let same : length c.write_word.new.bytes ≡ length items = ap length is ∙ length_with_word items c.place-place.result c.args.word within in
    let full : c.self.inside.bytes.len ≡ length items = omega (arith, c.self.inside.bytes.ok.0) in
    rw (replaced items c.write_word.new.bytes c.self.inside.bytes.len full same)
    (record {
      well_formed = formed_with _ c.write_word.new.bytes same c.self.invariant.well_formed;
      order = c.self.invariant.order;
      same = c.self.invariant.same;
    })
