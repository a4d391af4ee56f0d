use Rattle.std.proofs.Common.{◌≡◌, ◌+◌, ◌-◌, ◌%◌, ◌^◌, ◌<◌, ℕ, ap, refl, ◌∙◌, arith, length, drop}
use Rattle.ci_machine.specs.Accesses.{addresses, with_bytes}
use Rattle.ci_machine.specs.Memories.{memory_of}
use Rattle.ci_machine.proofs.AccessLaws.{bytes_at_mapped, mapped_still, with_bytes-before}
use Rattle.ci_machine.proofs.memory.Memory.put_all.Goals as goal

pub put-requires : goal.put-requires
put-requires c =
    let x = (c.args.address + (c.loop-left.left - 1)) % 2 ^ 32 in
    let lt : c.loop-left.left - 1 < length c.args.bytes.now = omega arith in
    mapped_still (memory_of c.args.self.now) (memory_of c.loop-left.self)
    (addresses (length c.args.bytes.now - c.loop-left.left) (c.args.address + c.loop-left.left)) (drop c.loop-left.left c.args.bytes.now) x
    c.loop-left.invariant.written
    (bytes_at_mapped _ (length c.args.bytes.now) c.args.address (c.loop-left.left - 1) lt c.requires.mapped)

pub loop-left-preserved : goal.loop-left-preserved
loop-left-preserved c = record {
  some_left = omega arith;
  written =
      let e : length c.args.bytes.now - (c.loop-left.left - 1) ≡ length c.args.bytes.now - c.loop-left.left + 1 = omega arith in
      let lt : c.loop-left.left - 1 < length c.args.bytes.now = omega arith in
      let next : c.args.address + c.loop-left.left ≡ c.args.address + (c.loop-left.left - 1) + 1 = omega arith in
      let i : c.loop-left.left ≡ c.loop-left.left - 1 + 1 = omega arith in
      let later = c.loop-left.invariant.written
      ∙ ap (λ (a : ℕ). with_bytes (memory_of c.args.self.now)
      (addresses (length c.args.bytes.now - c.loop-left.left) a) (drop c.loop-left.left c.args.bytes.now)) next
      ∙ ap (λ (j : ℕ). with_bytes (memory_of c.args.self.now)
      (addresses (length c.args.bytes.now - c.loop-left.left) (c.args.address + (c.loop-left.left - 1) + 1))
      (drop j c.args.bytes.now)) i in
      c.put.ensures.written ∙ with_bytes-before _ _ _ _ _ _ _ _ e lt refl later;
  end = c.put.ensures.end ∙ c.loop-left.invariant.end;
  segments = c.put.ensures.segments ∙ c.loop-left.invariant.segments;
}
