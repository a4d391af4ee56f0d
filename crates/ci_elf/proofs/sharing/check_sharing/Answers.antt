use Rattle.std.proofs.Common.{ℕ, subst, refl, sym, ap, arith, List, length, Option}
use Rattle.std.specs.Prelude.{MatchOption}
use Rattle.ci_elf.specs.declared.parts.Part.{Part}
use Rattle.ci_elf.specs.Fields.{e_phnum, e_shnum}
use Rattle.ci_elf.specs.Rules.{TextIsUnshared}
use Rattle.ci_elf.specs.private.Parts.{text_of, parts_below, part_at, IsCoverage, ArePartsFromText, IsFirstOverlap, AreApart}
use Rattle.ci_elf.proofs.FieldLaws.{e_phnum_small}
use Rattle.ci_elf.proofs.PairRuleLaws.{pairs_kept, pairs_broken}
use Rattle.ci_elf.proofs.SharingLaws.{sharing_kept, sharing_broken}
use Rattle.ci_elf.proofs.sharing.check_sharing.Goals as goal

abbrev Found : List Part → Option (ℕ × ℕ) → Type 0
Found parts found = MatchOption found (AreApart parts) (λ pair. IsFirstOverlap parts pair.0 pair.1)

pub first_overlap-requires : goal.first_overlap-requires
first_overlap-requires c =
    omega (arith, e_phnum_small c.args.bytes.now (λ i. omega (arith, c.type_inv.bytes i)), c.in_ok-parts.ensures.many, ap length c.deref-3.ensures.value)

pub returns-in-Some : goal.returns-in-Some
returns-in-Some c =
    let bytes = c.args.bytes.now in
    let covers : IsCoverage (parts_below (e_shnum bytes) (text_of bytes)) c.deref-2.result.now =
    rw (c.deref-2.ensures.value, ← c.in_ok-texts.ensures, ← c.deref.ensures.value) c.in_ok-texts-2.ensures in
    let are : ArePartsFromText bytes c.deref-2.result.now (e_phnum bytes) c.deref-3.result.now =
    subst (ArePartsFromText bytes c.deref-2.result.now (e_phnum bytes)) (sym c.deref-3.ensures.value) c.in_ok-parts.ensures in
    pairs_broken bytes TextIsUnshared (part_at c.deref-3.result.now) (e_phnum bytes) c.deref-3.result.now are.many (λ k h. refl)
    (λ m n h l. sharing_kept bytes (λ i. omega (arith, c.type_inv.bytes i)) c.deref-2.result.now covers m n _ _ (are.each m (omega arith)) (are.each n l))
    (λ m n h l. sharing_broken bytes (λ i. omega (arith, c.type_inv.bytes i)) c.deref-2.result.now covers m n _ _ (are.each m (omega arith)) (are.each n l))
    c.in-Some.m c.in-Some.n _ refl (subst (Found c.deref-3.result.now) c.in-Some.is c.in_ok-m.ensures)

pub returns : goal.returns
returns c =
    let bytes = c.args.bytes.now in
    let covers : IsCoverage (parts_below (e_shnum bytes) (text_of bytes)) c.deref-2.result.now =
    rw (c.deref-2.ensures.value, ← c.in_ok-texts.ensures, ← c.deref.ensures.value) c.in_ok-texts-2.ensures in
    let are : ArePartsFromText bytes c.deref-2.result.now (e_phnum bytes) c.deref-3.result.now =
    subst (ArePartsFromText bytes c.deref-2.result.now (e_phnum bytes)) (sym c.deref-3.ensures.value) c.in_ok-parts.ensures in
    pairs_kept bytes TextIsUnshared (part_at c.deref-3.result.now) (e_phnum bytes) c.deref-3.result.now are.many (λ k h. refl)
    (λ m n h l. sharing_kept bytes (λ i. omega (arith, c.type_inv.bytes i)) c.deref-2.result.now covers m n _ _ (are.each m (omega arith)) (are.each n l))
    (subst (Found c.deref-3.result.now) c.in-None.is c.in_ok-m.ensures)
