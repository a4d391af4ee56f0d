-- Instructions of the plain table are in no bundle, so the bundles of a list of them are whole.
use Rattle.std.specs.Prelude.{◌≡◌, ℕ, ◌<◌, false, List, length}
use Rattle.std.proofs.Common.{refl}
use Rattle.ci_isa.specs.declared.instruction.Insn.{Insn}
use Rattle.ci_isa.specs.declared.instruction.Insn.TheVariants.{Cread, Cput}
use Rattle.ci_isa.specs.Effects.{is_cread, is_cput}
use Rattle.ci_isa.specs.Sequences.{nth_insn}
use Rattle.ci_isa.specs.Table.{IsInsnAt}
use Rattle.ci_dfg.specs.Bundles.{AreBundled}
use Rattle.ci_dfg.proofs.BundledLists.{bundled_is, plain_is_bundled}

no_further : (word : ℕ) (insn : Insn) → IsInsnAt word insn → (is_cput insn ≡ false) × (is_cread insn ≡ false)
no_further word (Cread rd index) at = absurd at.1
no_further word (Cput rs1 rs2) at = absurd at.1
no_further word insn at = (refl, refl)

pub plain_are_bundled : (words : ℕ → ℕ) (insns : List Insn)
    → ((k : ℕ) → k < length insns → IsInsnAt (words k) (nth_insn insns k)) → AreBundled insns
plain_are_bundled words insns each =
    bundled_is insns (plain_is_bundled insns (λ k below. no_further (words k) (nth_insn insns k) (each k below)))
