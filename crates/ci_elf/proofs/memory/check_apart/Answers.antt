use Rattle.std.proofs.Common.{ℕ, subst, refl, ◌∙◌, arith, List, Option}
use Rattle.std.specs.Prelude.{MatchOption}
use Rattle.ci_elf.specs.declared.parts.Part.{Part}
use Rattle.ci_elf.specs.Fields.{e_phnum}
use Rattle.ci_elf.specs.Rules.{MemoryIsApart}
use Rattle.ci_elf.specs.private.Parts.{memory_of, IsFirstOverlap, AreApart}
use Rattle.ci_elf.proofs.FieldLaws.{e_phnum_small}
use Rattle.ci_elf.proofs.PairRuleLaws.{parts_count, part_is, pairs_kept, pairs_broken}
use Rattle.ci_elf.proofs.MemoryLaws.{memory_kept, memory_broken}
use Rattle.ci_elf.proofs.memory.check_apart.Goals as goal

abbrev Found : List Part → Option (ℕ × ℕ) → Type 0
Found parts found = MatchOption found (AreApart parts) (λ pair. IsFirstOverlap parts pair.0 pair.1)

pub first_overlap-requires : goal.first_overlap-requires
first_overlap-requires c =
    omega (
      arith,
      e_phnum_small c.args.bytes.now (λ i. omega (arith, c.type_inv.bytes i)),
      parts_count (memory_of c.args.bytes.now) (e_phnum c.args.bytes.now) _ (c.deref.ensures.value ∙ c.in_ok-parts.ensures),
    )

pub returns-in-Some : goal.returns-in-Some
returns-in-Some c =
    let are = c.deref.ensures.value ∙ c.in_ok-parts.ensures in
    pairs_broken c.args.bytes.now MemoryIsApart (memory_of c.args.bytes.now) (e_phnum c.args.bytes.now) c.deref.result.now
    (parts_count (memory_of c.args.bytes.now) (e_phnum c.args.bytes.now) c.deref.result.now are)
    (part_is (memory_of c.args.bytes.now) (e_phnum c.args.bytes.now) c.deref.result.now are)
    (λ m n h l. memory_kept c.args.bytes.now m n) (λ m n h l. memory_broken c.args.bytes.now m n)
    c.in-Some.m c.in-Some.n _ refl (subst (Found c.deref.result.now) c.in-Some.is c.in_ok-m.ensures)

pub returns : goal.returns
returns c =
    let are = c.deref.ensures.value ∙ c.in_ok-parts.ensures in
    pairs_kept c.args.bytes.now MemoryIsApart (memory_of c.args.bytes.now) (e_phnum c.args.bytes.now) c.deref.result.now
    (parts_count (memory_of c.args.bytes.now) (e_phnum c.args.bytes.now) c.deref.result.now are)
    (part_is (memory_of c.args.bytes.now) (e_phnum c.args.bytes.now) c.deref.result.now are)
    (λ m n h l. memory_kept c.args.bytes.now m n) (subst (Found c.deref.result.now) c.in-None.is c.in_ok-m.ensures)
