-- Of what a choice is made, or accepted, nothing is refused; and files are refused with one status.
use Rattle.std.proofs.Common.{◌≡◌, ◌∙◌, ℕ, ◌≤◌, List, ◌∷◌, refl, sym, subst}
use Rattle.std.proofs.Math.Bridge.{le_prop}
use Rattle.std.proofs.Math.Path.{PathP, to_path_p}
use Rattle.ci_block.proofs.BlockLaws.{blocks_in_order}
use Rattle.ci_log.specs.Books.{Book, Spells}
use Rattle.ci_log.proofs.OneFault.{one_book}
use Rattle.ci_verilog.specs.Modules.{Module}
use Rattle.ci_vread.specs.Spelling.{Spell}
use Rattle.ci_vread.proofs.OneSpelling.{one_spelling}
use Rattle.ci_select.specs.declared.acceptance.Verdict.TheVariants as verdict
use Rattle.ci_select.specs.declared.plan.Plan.{Plan}
use Rattle.ci_select.specs.WrongPlaces.{IsAcceptable, IsFirstWrongPlace, Place, place}
use Rattle.ci_select.proofs.AlikeLaws.{acceptable_alike}
use Rattle.ci_select.proofs.VerdictLaws.{verdict_is_one}
use Rattle.ci_arguments.specs.Words.{Reading}
use Rattle.ci_calls.specs.declared.refusals.Refusal.{Refusal}
use Rattle.ci_calls.specs.declared.success.Success.{Success}
use Rattle.ci_calls.specs.Refusals.{status_of}
use Rattle.ci_find.specs.ChoiceReading.{IsPlanOf}
use Rattle.ci_find.specs.Profiled.{Profiled, Settings, instance_by}
use Rattle.ci_find.specs.FindCommand.{FindOutput, IsFindMade, IsFindRefused}
use Rattle.ci_find.specs.AreaCommand.{IsAreaMade}
use Rattle.ci_find.specs.CheckCommand.{CheckFiles, IsCheckMade, IsCheckRefused, rejected, unprofiled}
use Rattle.ci_find.proofs.OneProfile.{Unprofiled, profiled_alike, profiled_or_not, same_file, unprofiled_once}

-- ---- the limits

-- that a number lies in a range is shown in one way
range_over : (least most : ℕ) {m n : ℕ} (same : m ≡ n) (left : (least ≤ m) × (m ≤ most))
    (right : (least ≤ n) × (n ≤ most)) → PathP (λ i. (least ≤ same i) × (same i ≤ most)) left right
range_over least most same left right =
    let above : PathP (λ i. least ≤ same i) left.0 right.0 = to_path_p (λ i. least ≤ same i) (le_prop _ right.0) in
    let below : PathP (λ i. same i ≤ most) left.1 right.1 = to_path_p (λ i. same i ≤ most) (le_prop _ right.1) in
    λ i. (above i, below i)

-- numbers are one plan,
pub plan_is_one :
    {left right : Plan} → left.limits.inputs ≡ right.limits.inputs → left.limits.outputs ≡ right.limits.outputs
    → left.count ≡ right.count → left.budget ≡ right.budget → left ≡ right
plan_is_one {left} {right} inputs outputs count budget = λ i. record {
  limits = record {
    inputs = inputs i;
    outputs = outputs i;
    inputs_in_range = range_over 1 5 inputs left.limits.inputs_in_range right.limits.inputs_in_range i;
    outputs_in_range = range_over 1 3 outputs left.limits.outputs_in_range right.limits.outputs_in_range i;
  };
  count = count i;
  budget = budget i;
  count_in_range = range_over 1 32 count left.count_in_range right.count_in_range i;
  budget_in_range = range_over 1 4194304 budget left.budget_in_range right.budget_in_range i;
}

-- so a reading has one
pub one_plan : (reading : Reading) (left right : Plan) → IsPlanOf reading left → IsPlanOf reading right → left ≡ right
one_plan reading left right l r =
    plan_is_one (l.inputs ∙ sym r.inputs) (l.outputs ∙ sym r.outputs) (l.count ∙ sym r.count) (l.budget ∙ sym r.budget)

-- ---- the command find

-- what can't be chosen from is not, whatever the bytes are taken for
find_moved : {settings : Settings} {read : List (List ℕ)} {refusal : Refusal} {executable : List ℕ}
    {others : List (List ℕ)} → read ≡ executable ∷ others → IsFindRefused settings read refusal
    → Unprofiled settings executable others refusal
find_moved {settings} {read} {refusal} {executable} {others} read_is is =
    let lists : is.executable ∷ is.others ≡ executable ∷ others = sym is.read_is ∙ read_is in
    let same : is.executable ≡ executable = cc in
    let same_others : is.others ≡ others = cc in
    subst (λ T. T) (λ i. Unprofiled settings (same i) (same_others i) refusal) (is.files, is.unprofiled)

-- for files of which a choice is made nothing is refused
pub find_or_refused : (output : FindOutput) (settings : Settings) (read : List (List ℕ)) (success : Success)
    (refusal : Refusal) → IsFindMade output settings read success → IsFindRefused settings read refusal → ⊥
find_or_refused output settings read success refusal made is =
    profiled_or_not made.profiled (find_moved made.read_is is)

-- nor for files of whose units a set is chosen
pub area_or_refused : (settings : Settings) (limit : ℕ) (read : List (List ℕ)) (success : Success) (refusal : Refusal)
    → IsAreaMade settings limit read success → IsFindRefused settings read refusal → ⊥
area_or_refused settings limit read success refusal made is =
    profiled_or_not made.profiled (find_moved made.read_is is)

-- others are refused with one status
pub find_refused_once : (settings : Settings) (read : List (List ℕ)) (first second : Refusal)
    → IsFindRefused settings read first → IsFindRefused settings read second → status_of first ≡ status_of second
find_refused_once settings read first second a b = unprofiled_once (a.files, a.unprofiled) (find_moved a.read_is b)

-- ---- the files of a choice

module _ {read : List (List ℕ)} (left right : CheckFiles read) where
  -- bytes that are read are parted in one way
  same_parts : (left.executable ≡ right.executable) × (left.new_bytes ≡ right.new_bytes)
      × (left.units_text ≡ right.units_text) × (left.logs_text ≡ right.logs_text) × (left.others ≡ right.others)
  same_parts =
      let lists : left.executable ∷ left.new_bytes ∷ left.units_text ∷ left.logs_text ∷ left.others
      ≡ right.executable ∷ right.new_bytes ∷ right.units_text ∷ right.logs_text ∷ right.others =
      sym left.read_is ∙ right.read_is in
      (cc, cc, cc, cc, cc)

  -- so they spell the same modules
  same_modules : left.modules ≡ right.modules
  same_modules =
      one_spelling right.units_text left.modules right.modules
      (subst (λ text. Spell text left.modules) same_parts.2 left.modules_are) right.modules_are

  -- and the same book
  same_book : left.book ≡ right.book
  same_book =
      one_book right.logs_text left.book right.book (subst (λ text. Spells text left.book) same_parts.3 left.book_is)
      right.book_is

-- ---- the command check

-- these are no files of a choice: this is their first wrong place
abbrev Rejects : Settings → List ℕ → List (List ℕ) → Book → List Module → List ℕ → Place → Type 0
Rejects settings executable others book modules new wrong =
    (profiled : Profiled settings executable others)
    × IsFirstWrongPlace (instance_by profiled) profiled.files.file book modules new wrong

-- files of a choice are not rejected
accepted_or_rejected : {settings : Settings} {executable : List ℕ} {others : List (List ℕ)}
    (profiled : Profiled settings executable others) (book : Book) (modules : List Module) (new : List ℕ)
    (round leader item reason : ℕ) → IsAcceptable (instance_by profiled) profiled.files.file book modules new
    → Rejects settings executable others book modules new (place round leader item reason) → ⊥
accepted_or_rejected profiled book modules new round leader item reason accepted (other, wrong) =
    let analysis = other.is_profiled.analysis in
    let like : IsAcceptable (instance_by other) other.files.file book modules new =
    acceptable_alike (instance_by profiled) (instance_by other) other.files.file book modules new
    (profiled_alike profiled other)
    (subst (λ file. IsAcceptable (instance_by profiled) file book modules new)
    (same_file profiled.files other.files) accepted) in
    let both : verdict.Accepted ≡ verdict.Rejected round leader item reason =
    verdict_is_one (instance_by other) other.files.file book modules new verdict.Accepted
    (verdict.Rejected round leader item reason)
    (blocks_in_order analysis.leaders other.blocks analysis.blocks_are.by_leader analysis.listing.ascending) like wrong in
    absurd cc

-- what can't be chosen from is not, whatever the bytes are taken for
check_moved : {settings : Settings} {read : List (List ℕ)} {refusal : Refusal} (left right : CheckFiles read)
    → Unprofiled settings right.executable right.others refusal
    → Unprofiled settings left.executable left.others refusal
check_moved {settings} {read} {refusal} left right is =
    let same = same_parts right left in
    subst (λ T. T) (λ i. Unprofiled settings (same.0 i) (same.4 i) refusal) is

-- of files that are acceptable nothing is refused
pub acceptable_or_refused : (settings : Settings) (read : List (List ℕ)) (refusal : Refusal) (held : CheckFiles read)
    (profiled : Profiled settings held.executable held.others)
    → IsAcceptable (instance_by profiled) profiled.files.file held.book held.modules held.new_bytes
    → IsCheckRefused settings read refusal → ⊥
acceptable_or_refused settings read refusal held choice accepted (unprofiled files run is) =
    profiled_or_not choice (check_moved held files (run, is))
acceptable_or_refused settings read refusal held choice accepted (rejected {round} {leader} {item} {reason} files profiled wrong) =
    let same = same_parts files held in
    accepted_or_rejected choice held.book held.modules held.new_bytes round leader item reason accepted
    (subst (λ T. T)
    (λ i. Rejects settings (same.0 i) (same.4 i) (same_book files held i) (same_modules files held i) (same.1 i)
    (place round leader item reason)) (profiled, wrong))

-- so it is of files that are accepted
pub check_or_refused : (settings : Settings) (read : List (List ℕ)) (success : Success) (refusal : Refusal)
    → IsCheckMade settings read success → IsCheckRefused settings read refusal → ⊥
check_or_refused settings read success refusal made is =
    acceptable_or_refused settings read refusal made.files made.profiled made.accepted is

-- others are refused with one status
pub check_refused_once : (settings : Settings) (read : List (List ℕ)) (first second : Refusal)
    → IsCheckRefused settings read first → IsCheckRefused settings read second → status_of first ≡ status_of second
check_refused_once settings read first second (unprofiled files run is) (unprofiled others other also) =
    unprofiled_once (run, is) (check_moved files others (other, also))
check_refused_once settings read first second (unprofiled files run is) (rejected others profiled wrong) =
    absurd (profiled_or_not profiled (check_moved others files (run, is)))
check_refused_once settings read first second (rejected files profiled wrong) (unprofiled others other also) =
    absurd (profiled_or_not profiled (check_moved files others (other, also)))
check_refused_once settings read first second (rejected files profiled wrong) (rejected others profile also) = refl
