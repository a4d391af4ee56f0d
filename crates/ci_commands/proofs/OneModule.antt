-- A text has a module or a netlist of a number, or none, and its modules have too many gates, or not: of what a command
-- makes something it refuses nothing.
use Rattle.std.proofs.Common.{◌≡◌, ℕ, ◌+◌, List, [], ◌∷◌, length, Some, subst, sym, ◌∙◌, arith}
use Rattle.std.specs.Prelude.{slice_get}
use Rattle.std.proofs.lemmas.Option.{slice_get_within}
use Rattle.ci_netlist.specs.Netlists.{Netlist}
use Rattle.ci_netlist.specs.Texts.{Spells}
use Rattle.ci_netlist.proofs.TextReading.{netlists_are_one}
use Rattle.ci_verilog.specs.Modules.{Module}
use Rattle.ci_vread.proofs.OneSpelling.{one_spelling}
use Rattle.ci_vread.specs.Spelling.{Spell}
use Rattle.ci_calls.specs.declared.refusals.Refusal.{Refusal}
use Rattle.ci_calls.specs.declared.refusals.Refusal.TheVariants.{Unsupported, ManyGates}
use Rattle.ci_calls.specs.declared.success.Success.{Success}
use Rattle.ci_calls.specs.Evaluations.{IsUnsupported, IsManyGates}
use Rattle.ci_commands.specs.EvalCommand.{IsEvalMade, IsEvalRefused, IsPast}
use Rattle.ci_commands.specs.GatesCommand.{IsGatesMade, IsGatesRefused, IsFirstTooMany, HaveTogether, gates_of}
use Rattle.ci_commands.specs.GevalCommand.{IsGevalMade, IsGevalRefused}
use Rattle.ci_commands.proofs.GateLaws.{first_fewer, spelled_modules}

-- one of the number is there, or none
there_or_past : {T : Type 0} (items : List T) (number : ℕ) (item : T) (refusal : Refusal)
    → slice_get items number ≡ Some item → IsUnsupported (IsPast (length items) number) refusal → ⊥
there_or_past items number item (Unsupported position word) there past =
    let within = slice_get_within items number item there in absurd (omega (arith, within, past.absent))
there_or_past items number item refusal there past = absurd past

-- what a file has to say, by two lists that it may have been read as
module _ {T : Type 0} (Says : List ℕ → List T → Type 0)
    (one : (bytes : List ℕ) (left right : List T) → Says bytes left → Says bytes right → left ≡ right) where
  same_items : (read : List (List ℕ)) (bytes other : List ℕ) (left right : List T) → read ≡ bytes ∷ []
      → read ≡ other ∷ [] → Says bytes left → Says other right → left ≡ right
  same_items read bytes other left right read_is other_is says says_other =
      let same : bytes ≡ other = let lists : bytes ∷ [] ≡ other ∷ [] = sym read_is ∙ other_is in cc in
      one other left right (subst (λ b. Says b left) same says) says_other

module _ (read : List (List ℕ)) (success : Success) (refusal : Refusal) where
  pub eval_or_refused : (number : ℕ) (arguments : List ℕ) → IsEvalMade number arguments read success
      → IsEvalRefused number read refusal → ⊥
  eval_or_refused number arguments made is =
      let same = same_items Spell one_spelling read made.bytes is.bytes made.modules is.modules made.read_is is.read_is
      made.spelled is.spelled in
      there_or_past is.modules number made.chosen refusal
      (subst (λ (ms : List Module). slice_get ms number ≡ Some made.chosen) same made.there) is.unsupported

  pub geval_or_refused : (number : ℕ) (arguments : List ℕ) → IsGevalMade number arguments read success
      → IsGevalRefused number read refusal → ⊥
  geval_or_refused number arguments made is =
      let same = same_items Spells netlists_are_one read made.bytes is.bytes made.nets is.nets made.read_is is.read_is
      made.spelled is.spelled in
      there_or_past is.nets number made.chosen refusal
      (subst (λ (nets : List Netlist). slice_get nets number ≡ Some made.chosen) same made.there) is.unsupported

  pub gates_or_refused : (out : List ℕ) → IsGatesMade out read success → IsGatesRefused read refusal → ⊥
  gates_or_refused out made is = by_refusal refusal is.many
    where
      same : made.modules ≡ is.modules
      same =
          same_items Spell one_spelling read made.bytes is.bytes made.modules is.modules made.read_is is.read_is
          made.spelled is.spelled

      by_refusal : (r : Refusal) → IsManyGates (IsFirstTooMany is.modules) r → ⊥
      by_refusal (ManyGates number gates) many =
          let fewer = first_fewer is.modules (number + 1) gates (gates_of made.nets)
          (spelled_modules is.bytes is.modules is.spelled) many.together
          (subst (λ ms. HaveTogether ms (gates_of made.nets)) same made.together) in
          absurd (omega (arith, fewer, many.many, made.few))
      by_refusal r many = absurd many
