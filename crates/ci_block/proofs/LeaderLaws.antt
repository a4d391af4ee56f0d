-- From marks to the listed leaders.
use Rattle.std.proofs.Common.{◌≡◌, ℕ, ◌+◌, ◌<◌, ◌≤◌, ◌⊎◌, inl, inr, List, length, refl, sym, ◌∙◌, subst, arith}
use Rattle.std.specs.List.{Contains}
use Rattle.std.proofs.lemmas.Bool.{cases_lt}
use Rattle.ci_elf.specs.declared.ranges.Range.{Range}
use Rattle.ci_elf.specs.Executables.{Executable, IsTextWord}
use Rattle.ci_elf.specs.MemoryMap.{memory_top}
use Rattle.ci_block.specs.declared.marks.Marks.{Marks}
use Rattle.ci_block.specs.Leaders.{IsBehindFullBlock, IsListing, IsMark, entry, target_of_jump, behind_terminator}
use Rattle.ci_block.specs.Leaders.{where_ranges_meet, symbol, data_word, target_of_jalr, named_by_user}
use Rattle.ci_block.specs.private.Listing.{IsFull, IsListedBelow}
use Rattle.ci_block.specs.private.Marking.{range_at, AreTextRanges}
use Rattle.ci_block.specs.private.Marks.{Adds, AreMarksOf, IsMarked}
use Rattle.ci_block.specs.private.Sources.{IsFromData, IsFromMeeting, IsFromText}
use Rattle.ci_block.specs.Text.{EndsAt}
use Rattle.ci_block.proofs.RangeLaws.{held_below, number_of, range_there, text_at, text_below_top}
use Rattle.ci_block.proofs.SourceLaws.{meeting_from, meeting_met}

-- ---- one source after the other

-- the marked words are those of the text with this property
pub record AreMarked (ranges : List Range) (P : ℕ → Type 0) (marks : Marks) : Type 0 where
  pub ranges_of : marks.places ≡ ranges
  pub sound : (a : ℕ) → IsMarked marks a → P a
  pub complete : (a : ℕ) → IsTextWord ranges a → P a → IsMarked marks a

pub none_marked : (ranges : List Range) (marks : Marks) → marks.places ≡ ranges → ((a : ℕ) → ¬ IsMarked marks a)
    → AreMarked ranges (λ _. ⊥) marks
none_marked ranges marks same none = record { ranges_of = same; sound = none; complete = λ a text p. absurd p }

pub more_marked : {ranges : List Range} {P Q : ℕ → Type 0} {old new : Marks} → AreMarked ranges P old → Adds old new Q
    → AreMarked ranges (λ a. P a ⊎ Q a) new
more_marked {ranges = ranges} marked adds = record {
  ranges_of = adds.ranges ∙ marked.ranges_of;
  sound = λ a m. elim (adds.only a m) [ inl o ↦ inl (marked.sound a o) | inr q ↦ inr q ];
  complete = λ a text pq. elim pq [
    | inl p ↦ adds.kept a (marked.complete a text p)
    | inr q ↦ adds.added a (subst (λ rs. IsTextWord rs a) (sym marked.ranges_of) text) q
  ];
}

module _ (image : Executable) (targets named : List ℕ) where
  -- the sources in the order in which they mark
  abbrev pub IsSourced : ℕ → Type 0
  IsSourced a =
      ((((((⊥ ⊎ (image.entry ≡ a)) ⊎ IsFromText image a) ⊎ IsFromMeeting image.ranges (length image.ranges) a) ⊎ Contains image.symbols a)
      ⊎ IsFromData image a) ⊎ Contains targets a) ⊎ Contains named a

  mark_of : (a : ℕ) → IsSourced a → IsMark image targets named a
  mark_of a (inr c) = named_by_user c
  mark_of a (inl (inr c)) = target_of_jalr c
  mark_of a (inl (inl (inr d))) = data_word d.place d.word
  mark_of a (inl (inl (inl (inr c)))) = symbol c
  mark_of a (inl (inl (inl (inl (inr m))))) =
      let met = meeting_met image.ranges a m in where_ranges_meet met.0 met.1 met.2 met.3 met.4.0 met.4.1
  mark_of a (inl (inl (inl (inl (inl (inr t)))))) = elim t.leads [
    | inl target ↦ target_of_jump t.from t.insn t.stands target
    | inr last ↦ behind_terminator t.from (record { insn = t.insn; stands = t.stands; ends = last.0 }) last.1
  ]
  mark_of a (inl (inl (inl (inl (inl (inl (inr e))))))) = entry e
  mark_of a (inl (inl (inl (inl (inl (inl (inl n))))))) = absurd n

  source_of : AreTextRanges image.ranges → (a : ℕ) → IsMark image targets named a → IsSourced a
  source_of text a (entry e) = inl (inl (inl (inl (inl (inl (inr e))))))
  source_of text a (target_of_jump from insn stands is) =
      inl (inl (inl (inl (inl (inr (record { from = from; insn = insn; stands = stands; leads = inl is }))))))
  source_of text a (behind_terminator last ends is) =
      inl (inl (inl (inl (inl (inr (record { from = last; insn = ends.insn; stands = ends.stands; leads = inr (ends.ends, is) }))))))
  source_of text a (where_ranges_meet before range in_before in_range meets start) =
      inl (inl (inl (inl (inr (meeting_from image.ranges text before range in_before in_range a (meets, start))))))
  source_of text a (symbol c) = inl (inl (inl (inr c)))
  source_of text a (data_word place word) = inl (inl (inr (record { place = place; word = word })))
  source_of text a (target_of_jalr c) = inl (inr c)
  source_of text a (named_by_user c) = inr c

  pub all_marked : AreTextRanges image.ranges → (marks : Marks) → AreMarked image.ranges IsSourced marks → AreMarksOf image targets named marks
  all_marked text marks marked = record {
    ranges = marked.ranges_of;
    sound = λ a m. mark_of a (marked.sound a m);
    complete = λ a t m. marked.complete a t (source_of text a m);
  }

  -- ---- the listed words are the leaders

  module _ (text : AreTextRanges image.ranges) (marks : Marks) (marked : AreMarksOf image targets named marks) (leaders : List ℕ)
      (listed : IsListedBelow image.ranges (IsMarked marks) memory_top leaders) where
    full_of : (a : ℕ) → IsBehindFullBlock image leaders a → IsFull image.ranges leaders a
    full_of a f =
        let i = number_of image.ranges f.range f.there in
        record {
          leader = f.leader;
          listed = f.listed;
          distance = f.distance;
          nearest = f.nearest;
          index = i.0;
          from = rw i.2 f.from;
          to = rw i.2 f.to;
        }

    -- a terminator before the end of the block would have a leader behind it
    unbroken : (a : ℕ) → ¬ IsMarked marks a → (f : IsFull image.ranges leaders a) → IsTextWord image.ranges a
        → (last : ℕ) → f.leader ≤ last → last < a → ¬ EndsAt image last
    unbroken a not_marked f is_text last from before ends =
        let leader_aligned = (listed.text f.leader f.listed).0 in
        let aligned = ends.stands.text.0 in
        let distance = f.distance in
        let behind : IsTextWord image.ranges (last + 4) = (
          omega (arith, aligned),
          text_at image.ranges (last + 4) f.index (omega (arith, f.from)) (omega (arith, f.to, is_text.0, aligned)),
        ) in
        let mark = marked.complete (last + 4) behind (behind_terminator last ends refl) in
        elim (cases_lt (last + 4) a) [
          | inl l ↦ f.nearest (last + 4) (omega arith) l
              (listed.complete (last + 4) (text_below_top image.ranges text (last + 4) behind.1) behind (inl mark))
          | inr l ↦
              let same : last + 4 ≡ a = omega (arith, is_text.0, aligned) in
              not_marked (subst (IsMarked marks) same mark)
        ]

    behind_full : (a : ℕ) → IsTextWord image.ranges a → ¬ IsMarked marks a → IsFull image.ranges leaders a → IsBehindFullBlock image leaders a
    behind_full a is_text not_marked f = record {
      leader = f.leader;
      listed = f.listed;
      distance = f.distance;
      nearest = f.nearest;
      range = range_at image.ranges f.index;
      there = range_there image.ranges f.index (held_below image.ranges a f.index f.to);
      from = f.from;
      to = f.to;
      unbroken = unbroken a not_marked f is_text;
    }

    pub are_listed : IsListing image targets named leaders
    are_listed = record {
      ascending = listed.ascending;
      listed = λ a. (
        (λ c. (
          listed.text a c,
          elim (listed.ruled a c) [
            | inl m ↦ inl (marked.sound a m)
            | inr f ↦ inr (behind_full a (listed.text a c) f.0 f.1)
          ],
        )),
        (λ r. listed.complete a (text_below_top image.ranges text a r.0.1) r.0 (elim r.1 [
          | inl m ↦ inl (marked.complete a r.0 m)
          | inr f ↦ inr (full_of a f)
        ])),
      );
    }
