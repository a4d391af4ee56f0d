-- Segments share a byte of text just where their file parts, from their first bytes of text on, overlap.
use Rattle.std.proofs.Common.{◌≡◌, ℕ, ◌+◌, ◌^◌, ◌<◌, ◌≤◌, ◌⊎◌, inl, inr, min, max, Bool, true, false, List, [], ◌∷◌}
use Rattle.std.proofs.Common.{◌++◌, length, get_or, refl, sym, ◌∙◌, ap, subst, arith, length-append}
use Rattle.std.specs.Prelude.{IsTrue}
use Rattle.std.proofs.lemmas.Bool.{cases_lt}
use Rattle.std.proofs.lemmas.List.{get_or_append_left}
use Rattle.std.proofs.Math.Seq.{get_or-append_seam}
use Rattle.ci_elf.specs.declared.parts.Part.{Part}
use Rattle.ci_elf.specs.Fields.{e_shnum, is_loadable, is_text, p_offset, p_filesz, sh_offset, sh_size}
use Rattle.ci_elf.specs.private.Parts.{Overlap, Covers, IsCoverage, IsPartFromText, ArePartsFromText, part, part_at, parts_below, text_of}
use Rattle.ci_elf.specs.Rules.{TextIsUnshared, Holds}
use Rattle.ci_elf.proofs.CoverageLaws.{covers_within}
use Rattle.ci_elf.proofs.FieldLaws.{p_offset_small, p_filesz_small}
use Rattle.ci_elf.proofs.MemoryLaws.{chosen_part, place_chosen}
use Rattle.ci_elf.proofs.PairRuleLaws.{parts_count, part_is}

-- a truth value is true, or isn't
yes_or_not : (b : Bool) → (IsTrue b) ⊎ (¬ IsTrue b)
yes_or_not true = inl refl
yes_or_not false = inr (λ h. cc)

module _ (bytes : List ℕ) (fits : (i : ℕ) → get_or bytes i 0 < 256) (texts : List Part)
    (covers : IsCoverage (parts_below (e_shnum bytes) (text_of bytes)) texts) where
  -- a byte of text is covered
  text_covered : (t x : ℕ) → t < e_shnum bytes → IsTrue (is_text bytes t) → sh_offset bytes t ≤ x → x < sh_offset bytes t + sh_size bytes t → Covers texts x
  text_covered t x h is from to =
      let here = part_is (text_of bytes) (e_shnum bytes) (parts_below (e_shnum bytes) (text_of bytes)) refl t h in
      let text = chosen_part (is_text bytes t) (part (sh_offset bytes t) (sh_size bytes t)) is in
      covers.covered x (t, rw (here, text) from, rw (here, text) to)

  -- what is covered is a byte of text
  covered_text : (x : ℕ) → Covers texts x
      → (t : ℕ) × (t < e_shnum bytes) × IsTrue (is_text bytes t) × (sh_offset bytes t ≤ x) × (x < sh_offset bytes t + sh_size bytes t)
  covered_text x c =
      let all = parts_below (e_shnum bytes) (text_of bytes) in
      let d = covers.covers x c in
      let within : d.0 < e_shnum bytes =
      omega (
        arith,
        covers_within (parts_below (e_shnum bytes) (text_of bytes)) d.0 x d.2,
        parts_count (text_of bytes) (e_shnum bytes) (parts_below (e_shnum bytes) (text_of bytes)) refl,
      ) in
      let here = part_is (text_of bytes) (e_shnum bytes) (parts_below (e_shnum bytes) (text_of bytes)) refl d.0 within in
      let text = place_chosen (is_text bytes d.0) (part (sh_offset bytes d.0) (sh_size bytes d.0)) x (rw here at d.2) in
      let is = chosen_part (is_text bytes d.0) (part (sh_offset bytes d.0) (sh_size bytes d.0)) text in
      (d.0, within, text, rw (here, is) at d.1, rw (here, is) at d.2)

  -- the part begins by each byte of text that the segment has
  begins_by : (n x : ℕ) (p : Part) → IsTrue (is_loadable bytes n) → IsPartFromText bytes texts n p → Covers texts x → p_offset bytes n ≤ x → p.start ≤ x
  begins_by n x p is from c h = elim (cases_lt x p.start) [
    | inl l ↦ absurd ((from.start is).first x h l c)
    | inr l ↦ l
  ]

  module _ (m n : ℕ) (p q : Part) (first : IsPartFromText bytes texts m p) (second : IsPartFromText bytes texts n q) where
    pub sharing_kept : min p.end q.end ≤ max p.start q.start → Holds bytes (TextIsUnshared m n)
    sharing_kept apart is_m is_n t h text x in_text in_m in_n =
        let c = text_covered t x h text in_text.0 in_text.1 in
        omega (arith, begins_by m x p is_m first c in_m.0, begins_by n x q is_n second c in_n.0, first.end is_m, second.end is_n, in_m.1, in_n.1)

    pub sharing_broken : Overlap p q → ¬ Holds bytes (TextIsUnshared m n)
    sharing_broken overlap holds = elim (yes_or_not (is_loadable bytes m)) [
      | inl is_m ↦ elim (yes_or_not (is_loadable bytes n)) [
        | inl is_n ↦
            let end_m : p.end ≡ p_offset bytes m + p_filesz bytes m = first.end is_m in
            let end_n : q.end ≡ p_offset bytes n + p_filesz bytes n = second.end is_n in
            let small_m : p.end < 2 ^ 33 = omega (arith, p_offset_small bytes fits m, p_filesz_small bytes fits m) in
            let small_n : q.end < 2 ^ 33 = omega (arith, p_offset_small bytes fits n, p_filesz_small bytes fits n) in
            let from_m = (first.start is_m).behind in
            let from_n = (second.start is_n).behind in
            let covered : Covers texts (max p.start q.start) = elim (cases_lt p.start q.start) [
              | inl l ↦
                  let top : q.start ≡ max p.start q.start = omega arith in
                  subst (Covers texts) top ((second.start is_n).covered (omega arith))
              | inr l ↦
                  let top : p.start ≡ max p.start q.start = omega arith in
                  subst (Covers texts) top ((first.start is_m).covered (omega arith))
            ] in
            let t = covered_text (max p.start q.start) covered in
            holds is_m is_n t.0 t.1 t.2 (max p.start q.start) (t.3, t.4) (omega arith, omega arith) (omega arith, omega arith)
        | inr not_n ↦ absurd (omega (arith, ap (λ r. r.end) (second.none not_n)))
      ]
      | inr not_m ↦ absurd (omega (arith, ap (λ r. r.end) (first.none not_m)))
    ]

-- one part more
pub from_text_none : (bytes : List ℕ) (texts : List Part) → ArePartsFromText bytes texts 0 []
from_text_none bytes texts = record { many = refl; each = λ k h. absurd (omega arith) }

pub from_text_more :
    (bytes : List ℕ) (texts : List Part) (n : ℕ) (parts : List Part) (p : Part) → ArePartsFromText bytes texts n parts → IsPartFromText bytes texts n p
    → ArePartsFromText bytes texts (n + 1) (parts ++ p ∷ [])
from_text_more bytes texts n parts p so_far here = record {
  many = rw (length-append, so_far.many) (omega arith);
  each = λ k h. elim (cases_lt k n) [
    | inl l ↦
        let at : part_at (parts ++ p ∷ []) k ≡ part_at parts k =
        get_or_append_left parts (p ∷ []) (record { start = 0; end = 0 }) k (omega (arith, so_far.many)) in
        rw at (so_far.each k l)
    | inr l ↦
        let last : k ≡ length parts = omega (arith, so_far.many) in
        let number : k ≡ n = omega arith in
        let at : part_at (parts ++ p ∷ []) k ≡ p = ap (part_at (parts ++ p ∷ [])) last ∙ get_or-append_seam parts p [] (record { start = 0; end = 0 }) in
        rw at (subst (λ m. IsPartFromText bytes texts m p) (sym number) here)
  ];
}
