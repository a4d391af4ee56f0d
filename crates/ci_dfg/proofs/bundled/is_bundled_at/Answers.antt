use Rattle.std.proofs.Common.{◌≡◌, ℕ, suc, ◌-◌, refl, sym, ap, ◌∙◌, subst, true≢false, arith, List}
use Rattle.std.specs.Prelude.{true}
use Rattle.ci_isa.specs.declared.instruction.Insn.{Insn}
use Rattle.ci_isa.specs.declared.instruction.Insn.TheVariants.{Cread}
use Rattle.ci_isa.specs.Effects.{is_unit, is_cput}
use Rattle.ci_isa.specs.Sequences.{nth_insn}
use Rattle.ci_dfg.specs.Bundles.{IsBundledAt, is_read_of}
use Rattle.ci_dfg.proofs.InstructionLaws.{insn_there}
use Rattle.ci_dfg.proofs.bundled.is_bundled_at.Goals as goal

-- what a `cread` asks for is that of its index alone
module _ (insns : List Insn) (k u rd : ℕ) (behind : k ≡ suc u) where
  first_is : nth_insn insns k ≡ Cread rd 0 → is_unit (nth_insn insns u) ≡ true → IsBundledAt insns k
  first_is is unit = (
    λ put. absurd (true≢false (sym put ∙ ap is_cput is)),
    λ read. (u, behind, unit),
    λ read. absurd (let never : 0 ≡ 1 = subst (is_read_of 1) is read in cc),
  )

  first_has : nth_insn insns k ≡ Cread rd 0 → IsBundledAt insns k → is_unit (nth_insn insns u) ≡ true
  first_has is (put, first, second) =
      let (v, same, unit) = first (subst (is_read_of 0) (sym is) refl) in
      subst (λ n. is_unit (nth_insn insns n) ≡ true) (omega arith) unit

  second_is : nth_insn insns k ≡ Cread rd 1 → is_read_of 0 (nth_insn insns u) → IsBundledAt insns k
  second_is is read = (
    λ put. absurd (true≢false (sym put ∙ ap is_cput is)),
    λ first. absurd (let never : 1 ≡ 0 = subst (is_read_of 0) is first in cc),
    λ second. (u, behind, read),
  )

  second_has : nth_insn insns k ≡ Cread rd 1 → IsBundledAt insns k → is_read_of 0 (nth_insn insns u)
  second_has is (put, first, second) =
      let (v, same, read) = second (subst (is_read_of 1) (sym is) refl) in
      subst (λ n. is_read_of 0 (nth_insn insns n)) (omega arith) read

pub returns-then-k-gt0 : goal.returns-then-k-gt0
returns-then-k-gt0 c =
    let insns = c.args.insns.now in
    let this = insn_there insns c.args.k c.index-insns-k.result c.requires c.index-insns-k.is in
    let before = insn_there insns (c.args.k - 1) c.index-insns-k-then-k-gt0.result (omega arith) c.index-insns-k-then-k-gt0.is in
    let is = this ∙ c.in-Cread.is ∙ ap (Cread c.in-Cread.rd) c.in-0.is in (
      λ yes. first_is insns c.args.k (c.args.k - 1) c.in-Cread.rd (omega arith) is (ap is_unit before ∙ sym c.is_unit-then-k-gt0.ensures ∙ yes),
      λ whole.
          c.is_unit-then-k-gt0.ensures ∙ ap is_unit (sym before)
          ∙ first_has insns c.args.k (c.args.k - 1) c.in-Cread.rd (omega arith) is whole,
    )

pub returns-then-k-gt0-2 : goal.returns-then-k-gt0-2
returns-then-k-gt0-2 c =
    let insns = c.args.insns.now in
    let this = insn_there insns c.args.k c.index-insns-k.result c.requires c.index-insns-k.is in
    let before = insn_there insns (c.args.k - 1) c.index-insns-k-then-k-gt0-2.result (omega arith) c.index-insns-k-then-k-gt0-2.is in
    let is = this ∙ c.in-Cread.is ∙ ap (Cread c.in-Cread.rd) c.in-1.is in (
      λ yes. second_is insns c.args.k (c.args.k - 1) c.in-Cread.rd (omega arith) is (subst (is_read_of 0) (sym before) (c.is_first_read.ensures.0 yes)),
      λ whole.
          c.is_first_read.ensures.1 (subst (is_read_of 0) before
          (second_has insns c.args.k (c.args.k - 1) c.in-Cread.rd (omega arith) is whole)),
    )
