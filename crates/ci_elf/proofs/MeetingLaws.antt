-- The first text that meets an earlier one, by the parts of the file that texts have.
use Rattle.std.proofs.Common.{◌≡◌, ℕ, ◌<◌, ◌≤◌, min, max, List, arith}
use Rattle.ci_elf.specs.declared.parts.Part.{Part}
use Rattle.ci_elf.specs.Fields.{e_shnum}
use Rattle.ci_elf.specs.private.Parts.{AreApart, AreApartAt, IsFirstOverlap, IsFirstMeeting, parts_below, text_of}
use Rattle.ci_elf.proofs.PairRuleLaws.{parts_count, part_is}
use Rattle.ci_elf.proofs.PartLaws.{no_part}

module _ (bytes : List ℕ) (parts : List Part) (are : parts ≡ parts_below (e_shnum bytes) (text_of bytes)) where
  apart_at : (j k : ℕ) → j < k → k < e_shnum bytes → AreApartAt parts j k
      → min (text_of bytes j).end (text_of bytes k).end ≤ max (text_of bytes j).start (text_of bytes k).start
  apart_at j k h l apart =
      rw (part_is (text_of bytes) (e_shnum bytes) parts are j (omega arith), part_is (text_of bytes) (e_shnum bytes) parts are k l) at (apart no_part)

  pub meeting_none : AreApart parts → IsFirstMeeting bytes (e_shnum bytes)
  meeting_none apart = record {
    within = omega arith;
    apart = λ j k h l. apart_at j k h l (λ d. apart j k d h (omega (arith, parts_count (text_of bytes) (e_shnum bytes) parts are)));
    meets = λ h. absurd (omega arith);
  }

  pub meeting_found : (m n : ℕ) → IsFirstOverlap parts m n → IsFirstMeeting bytes n
  meeting_found m n first =
      let below : n < e_shnum bytes = omega (arith, first.within, parts_count (text_of bytes) (e_shnum bytes) parts are) in
      record {
        within = omega arith;
        apart = λ j k h l. apart_at j k h (omega arith) (first.apart_before j k h l);
        meets = λ _. (
          m,
          first.order,
          rw (part_is (text_of bytes) (e_shnum bytes) parts are m (omega (arith, first.order)), part_is (text_of bytes) (e_shnum bytes) parts are n below)
              at (first.overlap no_part),
        );
      }
