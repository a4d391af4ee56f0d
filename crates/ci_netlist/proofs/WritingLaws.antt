-- The text of netlists, one after the other.
use Rattle.std.specs.Prelude.{◌≡◌, ℕ, suc, ◌+◌, ◌-◌, ◌<◌, List, [], ◌∷◌, ◌++◌, length, codes, take, drop}
use Rattle.std.specs.List.{AllByRecursion, slice_index_or}
use Rattle.std.proofs.Common.{sym, ap, ◌∙◌, subst, arith, append_assoc, append-nil}
use Rattle.std.proofs.lemmas.List.{take_more, take_rest, length-take-le}
use Rattle.ci_netlist.specs.Netlists.{Netlist, IsNetlist}
use Rattle.ci_netlist.specs.declared.bits.Bit.{Bit}
use Rattle.ci_netlist.specs.Texts.{bits_line, outputs_text, netlist_text, text_from}

-- the lines of the results
pub outputs_written : (bits : List Bit) (before first second third : List ℕ)
    → first ≡ before ++ bits_line (codes "y") (take 32 bits)
    → second ≡ first ++ bits_line (codes "z") (take 32 (drop 32 bits))
    → third ≡ second ++ bits_line (codes "x") (take (length bits - 64) (drop 64 bits))
    → third ≡ before ++ outputs_text bits
unfolding outputs_text
outputs_written bits before first second third y z x =
    let of_y = bits_line (codes "y") (take 32 bits) in
    let of_z = bits_line (codes "z") (take 32 (drop 32 bits)) in
    let of_x = bits_line (codes "x") (drop 64 bits) in
    x ∙ (λ i. (z ∙ ap (λ v. v ++ of_z) y) i ++ bits_line (codes "x") (take_rest bits 64 i))
    ∙ append_assoc (before ++ of_y) of_z of_x ∙ append_assoc before of_y (of_z ++ of_x)

-- one netlist behind others
text_push : (place : ℕ) (nets : List Netlist) (net : Netlist)
    → text_from place (nets ++ net ∷ []) ≡ text_from place nets ++ netlist_text (place + length nets) net
text_push place [] net =
    append-nil (netlist_text place net) ∙ ap (λ n. netlist_text n net) (let e : place ≡ place + 0 = omega arith in e)
text_push place (first ∷ nets) net =
    let e : suc place + length nets ≡ place + suc (length nets) = omega arith in
    ap (λ v. netlist_text place first ++ v)
    (text_push (suc place) nets net ∙ ap (λ n. text_from (suc place) nets ++ netlist_text n net) e)
    ∙ sym (append_assoc (netlist_text place first) (text_from (suc place) nets)
    (netlist_text (place + suc (length nets)) net))

are_push : (nets : List Netlist) (net : Netlist) → AllByRecursion IsNetlist nets → IsNetlist net
    → AllByRecursion IsNetlist (nets ++ net ∷ [])
are_push [] net are is = (is, tt)
are_push (first ∷ nets) net are is = (are.0, are_push nets net are.1 is)

-- the text of the first netlists was written
pub record AreWritten (nets : List Netlist) (k : ℕ) (bytes : List ℕ) : Type 0 where
  pub are_netlists : AllByRecursion IsNetlist (take k nets)
  pub is_text : bytes ≡ text_from 0 (take k nets)

pub one_written : (nets : List Netlist) (k : ℕ) (net : Netlist) (before after : List ℕ) → k < length nets
    → net ≡ slice_index_or nets k net
    → IsNetlist net → AreWritten nets k before → after ≡ before ++ netlist_text k net → AreWritten nets (k + 1) after
one_written nets k net before after below at is written next =
    let more : take k nets ++ net ∷ [] ≡ take (k + 1) nets =
    ap (λ n. take k nets ++ n ∷ []) at ∙ sym (take_more nets k net below) in
    let place : k ≡ 0 + length (take k nets) =
    let e = length-take-le k nets (omega arith) in omega (arith, e) in
    record {
      are_netlists = subst (AllByRecursion IsNetlist) more (are_push (take k nets) net written.are_netlists is);
      is_text =
          next ∙ (λ i. written.is_text i ++ netlist_text (place i) net) ∙ sym (text_push 0 (take k nets) net)
          ∙ ap (text_from 0) more;
    }
