use Rattle.std.proofs.Common.{◌+◌, ◌%◌, ◌≡◌, ◌<◌, ℕ, [], ◌∷◌, List, ap, ◌∙◌, sym, arith, true≢false}
use Rattle.ci_machine.specs.Memories.{is_mapped}
use Rattle.ci_machine.specs.Accesses.{with_bytes}
use Rattle.ci_machine.proofs.AccessLaws.{mod_small}
use Rattle.ci_machine.proofs.MemoryWrites.{is_seen, same_mapped}
use Rattle.ci_machine.proofs.memory.Memory.put.Goals as goal

pub store_at-requires-clause-mapped : goal.store_at-requires-clause-mapped
store_at-requires-clause-mapped c =
    let old = c.args.self.now in
    let new = c.place_of.new.self in
    λ k lt. ap (is_mapped new) {x = c.args.address + k} {y = c.args.address} (omega arith)
    ∙ same_mapped old new c.place_of.ensures.memory c.args.address ∙ sym (is_seen old c.args.address) ∙ c.requires

pub unreachable-requires : goal.unreachable-requires
unreachable-requires c =
    true≢false (sym (c.in-None.ensures.mapped (sym (is_seen c.args.self.now c.args.address) ∙ c.requires)))

-- one byte of a number that is a byte
row : (value byte : ℕ) → value ≡ byte → byte < 256 → ◌≡◌ {A = List ℕ} (value % 256 ∷ []) (byte ∷ [])
row value byte is small = λ k. same k ∷ []
  where
    same : value % 256 ≡ byte
    same = omega arith

pub returns-clause-written : goal.returns-clause-written
returns-clause-written c =
    c.store_at.ensures.written
    ∙ (λ k. with_bytes (c.place_of.ensures.memory k) (mod_small c.args.address (omega arith) k ∷ [])
    (row c.from.result c.args.byte c.from.ensures (omega arith) k))
