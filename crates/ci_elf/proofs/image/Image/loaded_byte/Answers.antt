use Rattle.std.proofs.Common.{◌≡◌, sym, ap, subst, get_or, arith}
use Rattle.std.specs.List.{Contains}
use Rattle.std.specs.Prelude.{Some}
use Rattle.ci_elf.specs.private.LoadedPlaces.{IsLoadedFrom, IsSound}
use Rattle.ci_elf.specs.private.SectionChecks.{AreLaidOut}
use Rattle.ci_elf.proofs.ImageLaws.{byte_in_file, is_loaded, layout_by_address, not_loaded, only_byte}
use Rattle.ci_elf.proofs.image.Image.loaded_byte.Goals as goal

pub loaded_place-requires-clause-layout : goal.loaded_place-requires-clause-layout
loaded_place-requires-clause-layout c = subst AreLaidOut (sym c.deref.ensures.value) (layout_by_address _ _ c.self.invariant)

pub returns-in_err-place-clause-only : goal.returns-in_err-place-clause-only
returns-in_err-place-clause-only c byte loaded =
    let sound = subst (λ image. IsSound image c.self.inside.by_address.items) c.self.view_is c.self.invariant in
    absurd (not_loaded c.args.self.now _ sound c.args.address
    (λ s there. c.in_err-place.ensures s (subst (λ xs. Contains xs s) (sym c.deref.ensures.value) there)) byte loaded)

pub index-requires : goal.index-requires
index-requires c =
    let from = subst (λ xs. IsLoadedFrom xs c.args.address c.in_ok-place.place) c.deref.ensures.value c.in_ok-place.ensures in
    omega (arith, byte_in_file _ _ c.self.invariant c.args.address c.in_ok-place.place from, c.self.inside.bytes.ok.0)

pub returns-clause-found : goal.returns-clause-found
returns-clause-found c =
    let sound = subst (λ image. IsSound image c.self.inside.by_address.items) c.self.view_is c.self.invariant in
    let from = subst (λ xs. IsLoadedFrom xs c.args.address c.in_ok-place.place) c.deref.ensures.value c.in_ok-place.ensures in
    is_loaded c.args.self.now _ sound c.args.address c.in_ok-place.place from c.index.result.now
    (subst (λ image. c.index.result.now ≡ get_or image.bytes c.in_ok-place.place c.index.result.now) c.self.view_is c.index.ensures)

pub returns-clause-only : goal.returns-clause-only
returns-clause-only c byte loaded =
    let sound = subst (λ image. IsSound image c.self.inside.by_address.items) c.self.view_is c.self.invariant in
    let from = subst (λ xs. IsLoadedFrom xs c.args.address c.in_ok-place.place) c.deref.ensures.value c.in_ok-place.ensures in
    ap Some (only_byte c.args.self.now _ sound c.args.address c.in_ok-place.place from c.index.result.now byte
    (subst (λ image. c.index.result.now ≡ get_or image.bytes c.in_ok-place.place c.index.result.now) c.self.view_is c.index.ensures) loaded)
