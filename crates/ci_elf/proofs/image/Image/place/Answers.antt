use Rattle.std.proofs.Common.{sym, subst}
use Rattle.std.specs.List.{Contains}
use Rattle.ci_elf.specs.private.LoadedPlaces.{IsLoadedFrom, IsSound}
use Rattle.ci_elf.specs.private.SectionChecks.{AreLaidOut}
use Rattle.ci_elf.proofs.ImageLaws.{layout_by_address, place_is, word_in_file, word_is_loaded}
use Rattle.ci_elf.proofs.image.Image.place.Goals as goal

pub loaded_place-requires-clause-layout : goal.loaded_place-requires-clause-layout
loaded_place-requires-clause-layout c = subst AreLaidOut (sym c.deref.ensures.value) (layout_by_address _ _ c.self.invariant)

pub unreachable-requires : goal.unreachable-requires
unreachable-requires c =
    let sound = subst (λ image. IsSound image c.self.inside.by_address.items) c.self.view_is c.self.invariant in
    word_is_loaded c.args.self.now _ sound c.args.address c.requires
    (λ s there. c.in-None.ensures s (subst (λ xs. Contains xs s) (sym c.deref.ensures.value) there))

pub returns-clause-place : goal.returns-clause-place
returns-clause-place c =
    let sound = subst (λ image. IsSound image c.self.inside.by_address.items) c.self.view_is c.self.invariant in
    place_is c.args.self.now _ sound c.args.address c.in-Some.place
    (subst (λ xs. IsLoadedFrom xs c.args.address c.in-Some.place) c.deref.ensures.value c.in-Some.ensures)

pub returns-clause-within : goal.returns-clause-within
returns-clause-within c =
    let sound = subst (λ image. IsSound image c.self.inside.by_address.items) c.self.view_is c.self.invariant in
    word_in_file c.args.self.now _ sound c.args.address c.in-Some.place
    (subst (λ xs. IsLoadedFrom xs c.args.address c.in-Some.place) c.deref.ensures.value c.in-Some.ensures) c.requires
