-- One step in place of several: what stands at the other places stays there.
use Rattle.std.specs.Prelude.{◌≡◌, ℕ, zero, suc, ◌+◌, ◌-◌, ◌*◌, ◌/◌, ◌%◌, ◌^◌, ◌<◌, ◌≤◌, ◌==◌, if◌then◌else◌, nat_lt, List, [], ◌∷◌, ◌++◌, length, take, replicate}
use Rattle.std.specs.Prelude.{bit_and, bit_or, bit_xor, slice_index, slice_set, All, Option, None, Some, IfSome}
use Rattle.std.specs.List.{slice_index_or}
use Rattle.std.proofs.Common.{length-take, refl, sym, ap, ◌∙◌, subst, arith, append_assoc, length-append, drop, take-append-drop}
use Rattle.std.proofs.Math.Seq.{take-suc}
use Rattle.std.proofs.lemmas.List.{length-replicate, length-take-le, get_or-take, get_or-set_same, get_or-set_other, take_all, take_more, take_more_set, take-take, get_or_read, length-set}
use Rattle.std.proofs.lemmas.List.Elements.{All-push, All-take}
use Rattle.ci_verilog.specs.declared.vectors.Vector.{Vector}
use Rattle.ci_verilog.specs.declared.expressions.Wire.{Wire}
use Rattle.ci_verilog.specs.Modules.{Module}
use Rattle.ci_plan.specs.declared.founds.Found.{Found}
use Rattle.ci_plan.specs.declared.steps.Step.{Step}
use Rattle.ci_plan.specs.declared.steps.Step.TheVariants.{Plus, Minus, Times, And, Or, Xor, Left, Right, LeftBy, RightBy}
use Rattle.ci_plan.specs.declared.steps.Step.TheVariants.{Less, Choose, Part, Above, Signed, SignedTimes, High, SignedHigh, Turn, TimesPlus}
use Rattle.ci_plan.specs.private.Steps.{IsStep, signed_word, step_value, words_after}
use Rattle.ci_plan.specs.private.Drafts.{Draft, IsDraft, Run, Stands, StandsFor}
use Rattle.ci_plan.specs.private.Fusions.{Ignores, MakesAll, Replaces, IsReplaced, IsLeft}
use Rattle.ci_plan.specs.private.Names.{AreHeld}
use Rattle.ci_plan.proofs.StepLaws.{last_step, after_more, words_stay, untouched}

-- ---- words with zeros behind them

-- the words with so many zeros behind them
abbrev pub padded : List ℕ → ℕ → List ℕ
padded words k = words ++ replicate k 0

pub padded_reads : (words : List ℕ) (k p : ℕ) → slice_index (padded words k) p ≡ slice_index words p
padded_reads [] zero p = refl
padded_reads [] (suc k) zero = refl
padded_reads [] (suc k) (suc p) = padded_reads [] k p
padded_reads (w ∷ words) k zero = refl
padded_reads (w ∷ words) k (suc p) = padded_reads words k p

padded_set : (words : List ℕ) (k p n : ℕ) → p < length words → slice_set (padded words k) p n ≡ padded (slice_set words p n) k
padded_set [] k p n below = absurd (omega (arith, below))
padded_set (w ∷ words) k zero n below = refl
padded_set (w ∷ words) k (suc p) n below = ap (λ ws. w ∷ ws) (padded_set words k p n (omega (arith, below)))

-- a step makes the same of words that are read the same
pub same_value : (words others : List ℕ) → ((p : ℕ) → slice_index words p ≡ slice_index others p) → (step : Step)
    → step_value words step ≡ step_value others step
same_value words others same (Plus l r width) = λ t. (same l t + same r t) % 2 ^ 64 % 2 ^ width
same_value words others same (Minus l r width) = λ t. (same l t + 2 ^ 64 - same r t) % 2 ^ 64 % 2 ^ width
same_value words others same (Times l r width) = λ t. same l t * same r t % 2 ^ 64 % 2 ^ width
same_value words others same (And l r) = λ t. bit_and (same l t) (same r t)
same_value words others same (Or l r) = λ t. bit_or (same l t) (same r t)
same_value words others same (Xor l r) = λ t. bit_xor (same l t) (same r t)
same_value words others same (Left l r width) = λ t. same l t * 2 ^ (same r t) % 2 ^ width
same_value words others same (Right l r) = λ t. same l t / 2 ^ (same r t)
same_value words others same (LeftBy from amount width) = λ t. same from t * 2 ^ amount % 2 ^ width
same_value words others same (RightBy from amount) = λ t. same from t / 2 ^ amount
same_value words others same (Less l r) = λ t. if nat_lt (same l t) (same r t) then 1 else 0
same_value words others same (Choose test first second) = λ t. if same test t == 0 then same second t else same first t
same_value words others same (Part from low width) = λ t. same from t / 2 ^ low % 2 ^ width
same_value words others same (Above high low width) = λ t. (same high t * 2 ^ width % 2 ^ 64 + same low t) % 2 ^ 64
same_value words others same (Signed from) = λ t. signed_word (same from t)
same_value words others same (SignedTimes l r) = λ t. signed_word (same l t) * signed_word (same r t) % 2 ^ 64
same_value words others same (High l r) = λ t. same l t * same r t % 2 ^ 64 / 2 ^ 32 % 2 ^ 32
same_value words others same (SignedHigh l r) =
    λ t. signed_word (same l t) * signed_word (same r t) % 2 ^ 64 / 2 ^ 32 % 2 ^ 32
same_value words others same (Turn l r amount) = λ t. bit_or (same l t * 2 ^ amount % 2 ^ 32) (same r t / 2 ^ (32 - amount))
same_value words others same (TimesPlus l r more) =
    λ t. (same l t * same r t % 2 ^ 64 % 2 ^ 32 + same more t) % 2 ^ 64 % 2 ^ 32

pub padded_value : (words : List ℕ) (k : ℕ) (step : Step) → step_value (padded words k) step ≡ step_value words step
padded_value words k step = same_value (padded words k) words (padded_reads words k) step

pub padded_after : (words : List ℕ) (k place : ℕ) (steps : List Step) → place + length steps ≤ length words
    → words_after (padded words k) place steps ≡ padded (words_after words place steps) k
padded_after words k place [] room = refl
padded_after words k place (step ∷ steps) room =
    ap (λ ws. words_after ws (place + 1) steps)
    (ap (slice_set (padded words k) place) (padded_value words k step)
    ∙ padded_set words k place (step_value words step) (omega (arith, room)))
    ∙ padded_after (slice_set words place (step_value words step)) k (place + 1) steps
    (let e = words_stay words place (step ∷ []) in omega (arith, e, room))

-- ---- a step in place of the last ones

-- the last step's word
pub last_value : (words : List ℕ) (steps : List Step) (last : Step) → 5 + length steps < length words
    → slice_index (words_after words 5 (steps ++ last ∷ [])) (5 + length steps) ≡ step_value (words_after words 5 steps) last
last_value words steps last room =
    let before = words_after words 5 steps in
    let whole : length before ≡ length words = words_stay words 5 steps in
    ap (λ ws. slice_index ws (5 + length steps)) (last_step words 5 steps last)
    ∙ get_or-set_same before (5 + length steps) (step_value before last) 0 (omega (arith, whole, room))

module _ (m : Module) (old new : Draft) (many place : ℕ) (step : Step) (is : IsDraft old) (replaced : IsReplaced old new many place step)
    (some : 1 ≤ many) (few : many ≤ length old.steps) where
  -- the steps that stay
  abbrev kept : List Step
  kept = take (length old.steps - many) old.steps

  many_kept : length kept ≡ length old.steps - many
  many_kept = length-take-le (length old.steps - many) old.steps (omega arith)

  many_now : length new.steps ≡ length old.steps - many + 1
  many_now = ap length replaced.steps_are ∙ length-append kept (step ∷ []) ∙ ap (λ n. n + 1) many_kept

  -- a run of the new draft is one of the old draft, with words enough
  abbrev pub longer_run : Run m new → Run m old
  longer_run run = record {
    arguments = run.arguments;
    words = padded run.words (length old.steps);
    names = run.names;
    opens = record {
      room =
          let e = run.opens.room in
          let f = length-append run.words (replicate (length old.steps) 0) in
          let g = length-replicate {A = ℕ} (length old.steps) 0 in
          omega (arith, e, f, g);
      inputs = λ k below. padded_reads run.words (length old.steps) k ∙ run.opens.inputs k below;
      numbers = λ p among.
          padded_reads run.words (length old.steps) p
          ∙ run.opens.numbers p (subst (λ n. n ≤ p) (sym replaced.lowest_is) among)
          ∙ ap (λ ws. slice_index ws p) replaced.words_are;
    };
    are_words = run.are_words;
    settles = run.settles;
  }

  -- what the steps that stay make is there in both
  kept_words : (run : Run m new)
      → words_after (longer_run run).words 5 kept ≡ padded (words_after run.words 5 kept) (length old.steps)
  kept_words run =
      padded_after run.words (length old.steps) 5 kept
      (let e = run.opens.room in let f = many_now in let g = many_kept in omega (arith, e, f, g))

  -- the steps that go away
  abbrev taken : List Step
  taken = drop (length old.steps - many) old.steps

  split : old.steps ≡ kept ++ taken
  split = sym (take-append-drop (length old.steps - many) old.steps)

  pub stays : (p : ℕ) (value : (List ℕ → Vector) → ℕ) → (place ≤ p → 5 + length old.steps ≤ p) → Stands m old p value
      → Stands m new p value
  stays p value outside stands =
      let there = replaced.place_is in
      let room = is.room in
      let gone : place ≤ p → old.lowest ≤ p = λ past. stands.kept (outside past) in
      record {
        below = stands.below;
        kept = λ past.
            subst (λ n. n ≤ p) (sym replaced.lowest_is)
            (gone (let e = many_now in omega (arith, past, e, there)));
        is = λ run.
            let long = longer_run run in
            let after = words_after run.words 5 kept in
            let whole = many_kept in
            ap (λ steps. slice_index (words_after run.words 5 steps) p) replaced.steps_are
            ∙ ap (λ ws. slice_index ws p) (after_more run.words 5 kept (step ∷ []))
            ∙ untouched after (5 + length kept) (step ∷ []) p
            (λ past. let e = gone (omega (arith, past, whole, there)) in omega (arith, e, room, whole, some, few))
            ∙ sym (padded_reads after (length old.steps) p)
            ∙ ap (λ ws. slice_index ws p) (sym (kept_words run))
            ∙ sym (untouched (words_after long.words 5 kept) (5 + length kept) taken p
            (λ past. let e = gone (omega (arith, past, whole, there)) in
            let f = ap length split ∙ length-append kept taken in omega (arith, e, f, room, whole)))
            ∙ ap (λ ws. slice_index ws p) (sym (after_more long.words 5 kept taken))
            ∙ ap (λ steps. slice_index (words_after long.words 5 steps) p) (sym split)
            ∙ stands.is long;
      }

  pub stays_for : (p width : ℕ) (bits : (List ℕ → Vector) → Vector) → (place ≤ p → 5 + length old.steps ≤ p)
      → StandsFor m old p width bits → StandsFor m new p width bits
  stays_for p width bits outside found = record {
    stands = stays p (λ names. (bits names).value) outside found.stands;
    narrow = found.narrow;
    fit = λ run. found.fit (longer_run run);
  }

  -- the last step's word is that of the step in its place
  pub replaced_stands : (p : ℕ) (value : (List ℕ → Vector) → ℕ) → Replaces old.steps many step → p + 1 ≡ 5 + length old.steps
      → Stands m old p value → Stands m new place value
  replaced_stands p value makes last stands =
      let there = replaced.place_is in
      let room = is.room in
      let within = is.numbers_within in
      record {
        below = omega (arith, there, room, within, some, few);
        kept = λ past. absurd (let e = many_now in omega (arith, past, e, there));
        is = λ run.
            let long = longer_run run in
            let after = words_after run.words 5 kept in
            let whole = many_kept in
            let before = kept ++ makes.others in
            let parts : old.steps ≡ before ++ makes.last ∷ [] = makes.are in
            let many_before : length before + 1 ≡ length old.steps =
            sym (ap length parts ∙ length-append before (makes.last ∷ [])) in
            let enough = long.opens.room in
            let shown : 5 + length kept ≡ place = omega (arith, whole, there) in
            ap (λ steps. slice_index (words_after run.words 5 steps) place) replaced.steps_are
            ∙ ap (slice_index (words_after run.words 5 (kept ++ step ∷ []))) (sym shown)
            ∙ last_value run.words kept step (let e = run.opens.room in let f = many_now in omega (arith, e, f, whole))
            ∙ sym (padded_value after (length old.steps) step)
            ∙ ap (λ ws. step_value ws step) (sym (kept_words run))
            ∙ makes.makes.same (words_after long.words 5 kept)
            (let e = words_stay long.words 5 kept in let f = makes.many_is in let g = makes.few in omega (arith, e, f, g, enough, few))
            ∙ ap (λ k. step_value (words_after (words_after long.words 5 kept) (5 + k) makes.others) makes.last) (sym whole)
            ∙ ap (λ ws. step_value ws makes.last) (sym (after_more long.words 5 kept makes.others))
            ∙ sym (last_value long.words before makes.last (omega (arith, enough, many_before)))
            ∙ ap (slice_index (words_after long.words 5 (before ++ makes.last ∷ []))) (omega (arith, many_before, last))
            ∙ ap (λ steps. slice_index (words_after long.words 5 steps) p) (sym parts)
            ∙ stands.is long;
      }

  pub replaced_for : (p width : ℕ) (bits : (List ℕ → Vector) → Vector) → Replaces old.steps many step
      → p + 1 ≡ 5 + length old.steps → StandsFor m old p width bits → StandsFor m new place width bits
  replaced_for p width bits makes last found = record {
    stands = replaced_stands p (λ names. (bits names).value) makes last found.stands;
    narrow = found.narrow;
    fit = λ run. found.fit (longer_run run);
  }

  -- wires stand where they stood, but for those whose steps are gone
  left_stands : (width : ℕ) (bits : (List ℕ → Vector) → Vector) (before after : Option Found)
      → IsLeft place (5 + length old.steps) before after → IfSome before (λ f. StandsFor m old f.place f.width bits)
      → IfSome after (λ f. StandsFor m new f.place f.width bits)
  left_stands width bits before None left stands = tt
  left_stands width bits before (Some f) (same, outside) stands =
      stays_for f.place f.width bits outside
      (subst (λ o. IfSome o (λ g. StandsFor m old g.place g.width bits)) same stands)

  pub held_left : (k : ℕ) (before after : List (Option Found)) → length after ≡ length before → IsDraft new
      → ((j : ℕ) (d : Option Found) → j < length before
      → IsLeft place (5 + length old.steps) (slice_index_or before j d) (slice_index_or after j d))
      → AreHeld m (take k before) old → AreHeld m (take k after) new
  held_left k before after whole is_new left held = record {
    is_draft = is_new;
    few = subst (λ n. n ≤ length m.wires.list) (let e = length-take k before in let f = length-take k after in omega (arith, e, f, whole)) held.few;
    stand = λ j among d e.
        let both : length (take k after) ≡ length (take k before) =
        let e = length-take k before in let f = length-take k after in omega (arith, e, f, whole) in
        let within : j < k = let e = length-take k after in omega (arith, among, e) in
        let below : j < length before = let e = length-take k before in omega (arith, among, e, both) in
        subst (λ o. IfSome o (λ f. StandsFor m new f.place f.width (λ names. names (slice_index_or m.wires.list j e).name)))
        (sym (get_or-take k after j d within))
        (left_stands 0 (λ names. names (slice_index_or m.wires.list j e).name) (slice_index_or before j d) (slice_index_or after j d)
        (left j d below)
        (subst (λ o. IfSome o (λ f. StandsFor m old f.place f.width (λ names. names (slice_index_or m.wires.list j e).name)))
        (get_or-take k before j d within) (held.stand j (omega (arith, among, both)) d e)));
  }
