-- What reading netlists, one after the other, tells of all the bytes.
use Rattle.std.proofs.Common.{◌≡◌, ℕ, zero, suc, ◌+◌, ◌-◌, ◌<◌, ◌≤◌, ◌⊎◌}
use Rattle.std.proofs.Common.{inl, inr, List, [], ◌∷◌, ◌++◌, length, length-append}
use Rattle.std.proofs.Common.{refl, sym, ap, ◌∙◌, subst, arith, append_assoc, append-nil, zero-le, Result, Ok, Err}
use Rattle.std.specs.Prelude.{codes}
use Rattle.std.specs.List.{AllByRecursion, flat_map}
use Rattle.std.specs.Fmt.{decimal}
use Rattle.ci_reading.specs.LineReading.{Stop, stop, ◌>>=◌}
use Rattle.ci_reading.specs.Fronts.{IsFront, IsFirstBad, EndsEarly}
use Rattle.ci_reading.proofs.Readers.{any}
use Rattle.ci_reading.proofs.FirstBad.{IsText, reads, Tells, at_end, at_symbol}
use Rattle.ci_reading.proofs.FirstBad.{stop_tells, read_tells, one_first_bad, none_bad, is_front}
use Rattle.ci_netlist.specs.Netlists.{Netlist, IsNetlist}
use Rattle.ci_netlist.specs.Texts.{gate_text, header_text, outputs_text, netlist_text, text_from, Spells, IsWhole}
use Rattle.ci_netlist.specs.Faults as faults
use Rattle.ci_netlist.specs.Faults.{IsBad}
use Rattle.ci_netlist.specs.Laws.{TextIsOne, NetlistsAreOne, FaultIsOne, TextsHaveNoFault}
use Rattle.ci_netlist.specs.private.Reading.{Kinds, Read, netlist_read, netlists_read}
use Rattle.ci_netlist.proofs.FoundReading.{most}
use Rattle.ci_netlist.proofs.NetlistReading.{IsNetlistText, a_netlist}

-- ---- texts of at most so many netlists, with numbers from one on

pub record IsTextOf (room place : ℕ) (bytes : List ℕ) (nets : List Netlist) : Type 0 where
  pub are_netlists : AllByRecursion IsNetlist nets
  pub few : length nets ≤ room
  pub is_text : bytes ≡ text_from place nets

abbrev pub IsSome : ℕ → ℕ → List ℕ → Type 0
IsSome room place bytes = (nets : List Netlist) × IsTextOf room place bytes nets

longer : (xs ys : List ℕ) → 0 < length xs → 0 < length (xs ++ ys)
longer [] ys some = absurd (omega arith)
longer (x ∷ xs) ys some = omega arith

text_some : (place : ℕ) (net : Netlist) → 0 < length (netlist_text place net)
unfolding netlist_text header_text
text_some place net =
    let numbers = decimal place ++ (codes " gates " ++ decimal (length net.gates)) in
    longer ((codes "netlist " ++ numbers) ++ 10 ∷ []) (flat_map gate_text net.gates ++ outputs_text net.outputs)
    (longer (codes "netlist " ++ numbers) (10 ∷ []) (longer (codes "netlist ") numbers (omega arith)))

none_before : (xs ys : List ℕ) → xs ++ ys ≡ [] → xs ≡ []
none_before [] ys e = refl
none_before (x ∷ xs) ys e = absurd cc

no_text : (place : ℕ) (net : Netlist) (rest xs : List ℕ) → xs ≡ [] → xs ≡ netlist_text place net ++ rest → ⊥
no_text place net rest xs none is =
    let e = ap length (sym none ∙ is) in
    let f = length-append (netlist_text place net) rest in
    let g = text_some place net in
    absurd (omega (arith, e, f, g))

-- ---- lists that begin alike

prefixes : (xs more ys rest : List ℕ) → xs ++ more ≡ ys ++ rest
    → ((behind : List ℕ) × (ys ≡ xs ++ behind)) ⊎ ((y : ℕ) × (behind : List ℕ) × (xs ≡ ys ++ y ∷ behind))
prefixes [] more ys rest e = inl (ys, refl)
prefixes (x ∷ xs) more [] rest e = inr (x, xs, refl)
prefixes (x ∷ xs) more (y ∷ ys) rest e =
    let first : x ≡ y = cc in
    elim (prefixes xs more ys rest (let e2 : xs ++ more ≡ ys ++ rest = cc in e2)) [
      | inl longer ↦ inl (longer.0, λ i. sym first i ∷ longer.1 i)
      | inr shorter ↦ inr (shorter.0, shorter.1, λ i. first i ∷ shorter.2 i)
    ]

without_last : (front : List ℕ) (b : ℕ) (ys : List ℕ) (y : ℕ) (behind : List ℕ) → front ++ b ∷ [] ≡ ys ++ y ∷ behind
    → (others : List ℕ) × (front ≡ ys ++ others)
without_last front b [] y behind e = (front, refl)
without_last [] b (z ∷ []) y behind e = absurd cc
without_last [] b (z ∷ w ∷ ys) y behind e = absurd cc
without_last (x ∷ front) b (z ∷ ys) y behind e =
    let first : x ≡ z = cc in
    let rest = without_last front b ys y behind (let e2 : front ++ b ∷ [] ≡ ys ++ y ∷ behind = cc in e2) in
    (rest.0, λ i. first i ∷ rest.1 i)

-- ---- one netlist in front of others

module _ (place : ℕ) (below : place < 32) where
  one_read : (net : Netlist) (rest : List ℕ) → IsNetlist net
      → netlist_read place (netlist_text place net ++ rest) ≡ Ok (net, rest)
  one_read net rest is = reads (any (a_netlist place below)) (netlist_text place net) rest net (is, refl)

  -- bytes that begin with a netlist's text begin with one alone, and what stands behind it is one
  same_rest : (net other : Netlist) (xs rest others : List ℕ) → IsNetlist net → IsNetlist other
      → xs ≡ netlist_text place net ++ rest → xs ≡ netlist_text place other ++ others → (net ≡ other) × (rest ≡ others)
  same_rest net other xs rest others is is_other left right =
      let both : ◌≡◌ {A = Read Netlist} (Ok (net, rest)) (Ok (other, others)) =
      sym (one_read net rest is) ∙ ap (netlist_read place) (sym left ∙ right) ∙ one_read other others is_other in
      let pair : ◌≡◌ {A = Netlist × List ℕ} (net, rest) (other, others) = cc in
      (ap (λ (p : Netlist × List ℕ). p.0) pair, ap (λ (p : Netlist × List ℕ). p.1) pair)

  with_one : (room : ℕ) (net : Netlist) (rest : List ℕ) (nets : List Netlist) → IsNetlist net
      → IsTextOf room (place + 1) rest nets
      → IsTextOf (suc room) place (netlist_text place net ++ rest) (net ∷ nets)
  with_one room net rest nets is of =
      record {
        are_netlists = (is, of.are_netlists);
        few = let few = of.few in omega (arith, few);
        is_text =
            ap (λ v. netlist_text place net ++ v)
            (of.is_text ∙ ap (λ n. text_from n nets) (let e : place + 1 ≡ suc place = omega arith in e));
      }

  -- a text that begins with a netlist's, and isn't empty
  record IsSplit (room : ℕ) (xs : List ℕ) : Type 0 where
    net : Netlist
    rest : List ℕ
    is_netlist : IsNetlist net
    is_text : xs ≡ netlist_text place net ++ rest
    others : IsSome room (place + 1) rest

  split : (room : ℕ) (xs : List ℕ) (nets : List Netlist) → 0 < length xs → IsTextOf (suc room) place xs nets
      → IsSplit room xs
  split room xs [] some of = absurd (let e = ap length of.is_text in omega (arith, e))
  split room xs (net ∷ nets) some of =
      record {
        net = net;
        rest = text_from (suc place) nets;
        is_netlist = of.are_netlists.0;
        is_text = of.is_text;
        others = (
          nets,
          record {
            are_netlists = of.are_netlists.1;
            few = let few = of.few in omega (arith, few);
            is_text = ap (λ n. text_from n nets) (let e : suc place ≡ place + 1 = omega arith in e);
          },
        );
      }

-- ---- what a stop tells

pub data TellsText (room place : ℕ) (xs : List ℕ) (s : Stop Kinds) : Type 0 where
  early : s.left ≡ 0 → EndsEarly (IsSome room place) xs → TellsText room place xs s
  bad : (front : List ℕ) (b : ℕ) → length front + s.left ≡ length xs → IsFirstBad (IsSome room place) xs front b
      → TellsText room place xs s

no_nets : (room place : ℕ) → IsTextOf room place [] []
no_nets room place = record { are_netlists = tt; few = zero-le; is_text = refl }

full : (place x : ℕ) (xs : List ℕ) (s : Stop Kinds) → stop (length (x ∷ xs)) ≡ s → TellsText zero place (x ∷ xs) s
full place x xs s is =
    bad [] x (let e : s.left ≡ length (x ∷ xs) = ap (λ (s : Stop Kinds). s.left) (sym is) in omega (arith, e))
    (record {
      rest = xs;
      splits = refl;
      good = ([], ([], no_nets zero place));
      is_bad = λ f. none f.0 f.1.0 f.1.1;
    })
  where
    none : (more : List ℕ) (nets : List Netlist) → IsTextOf zero place ((x ∷ []) ++ more) nets → ⊥
    none more [] of = absurd (let e = ap length of.is_text in omega (arith, e))
    none more (net ∷ nets) of = absurd (let few = of.few in omega (arith, few))

module _ (room place : ℕ) (below : place < 32) (xs : List ℕ) (some : 0 < length xs) where
  -- a front of a netlist's text is one of texts
  of_front : (front : List ℕ) → IsFront (IsText (any (a_netlist place below))) front
      → IsFront (IsSome (suc room) place) front
  of_front front f =
      let net = f.1.0 in
      let text = with_one place below room net [] [] f.1.1.0 (no_nets room (place + 1)) in (
        f.0,
        (
          net ∷ [],
          subst (λ v. IsTextOf (suc room) place v (net ∷ [])) (append-nil (netlist_text place net) ∙ sym f.1.1.1) text,
        ),
      )

  no_some : (s : Stop Kinds) → netlist_read place xs ≡ Err s → (nets : List Netlist) → IsTextOf (suc room) place xs nets
      → ⊥
  no_some s read nets of =
      let parts = split place below room xs nets some of in
      let both : ◌≡◌ {A = Read Netlist} (Ok (parts.net, parts.rest)) (Err s) =
      sym (one_read place below parts.net parts.rest parts.is_netlist) ∙ ap (netlist_read place) (sym parts.is_text)
      ∙ read in
      absurd cc

  -- nothing goes on behind the bad byte
  ends : (front : List ℕ) (b : ℕ) → IsFirstBad (IsText (any (a_netlist place below))) xs front b
      → ¬ IsText (any (a_netlist place below)) front
      → (more : List ℕ) (nets : List Netlist) → IsTextOf (suc room) place ((front ++ b ∷ []) ++ more) nets → ⊥
  ends front b first not more nets of =
      let e = length-append front (b ∷ []) in
      let f = length-append (front ++ b ∷ []) more in
      let parts = split place below room ((front ++ b ∷ []) ++ more) nets (omega (arith, e, f)) of in
      let text = netlist_text place parts.net in
      elim (prefixes (front ++ b ∷ []) more text parts.rest parts.is_text) [
        | inl longer ↦ first.is_bad (longer.0, (parts.net, (parts.is_netlist, sym longer.1)))
        | inr shorter ↦
            let begun = without_last front b text shorter.0 shorter.1 shorter.2 in
            let goes_on = first.good in
            let whole : front ++ goes_on.0 ≡ text ++ (begun.0 ++ goes_on.0) =
            ap (λ v. v ++ goes_on.0) begun.1 ∙ append_assoc text begun.0 goes_on.0 in
            let same =
            same_rest place below parts.net goes_on.1.0 (front ++ goes_on.0)
            (begun.0 ++ goes_on.0) [] parts.is_netlist goes_on.1.1.0
            whole (goes_on.1.1.1 ∙ sym (append-nil (netlist_text place goes_on.1.0))) in
            let none : begun.0 ≡ [] = none_before begun.0 goes_on.0 same.1 in
            not (parts.net, (parts.is_netlist, begun.1 ∙ ap (λ v. text ++ v) none ∙ append-nil text))
      ]

  first_stops : (s : Stop Kinds) → length xs ≤ most → netlist_read place xs ≡ Err s → TellsText (suc room) place xs s
  first_stops s few read = by (stop_tells (any (a_netlist place below)) xs s few read)
    where
      by : Tells (any (a_netlist place below)) xs s → TellsText (suc room) place xs s
      by (at_end none e) = early none (record { good = of_front xs e.good; is_short = λ t. no_some s read t.0 t.1 })
      by (at_symbol front b some_left o) =
          bad front b o.left
          (record {
            rest = o.first_bad.rest;
            splits = o.first_bad.splits;
            good = of_front front o.first_bad.good;
            is_bad = λ f. ends front b o.first_bad o.no_text f.0 f.1.0 f.1.1;
          })

  module _ (net : Netlist) (after : List ℕ) (is : IsNetlist net) (at : xs ≡ netlist_text place net ++ after) where
    -- what goes on behind the netlist goes on behind it and those before
    behind : (front : List ℕ) → IsFront (IsSome room (place + 1)) front
        → IsFront (IsSome (suc room) place) (netlist_text place net ++ front)
    behind front f = (
      f.0,
      (
        net ∷ f.1.0,
        subst (λ v. IsTextOf (suc room) place v (net ∷ f.1.0)) (sym (append_assoc (netlist_text place net) front f.0))
            (with_one place below room net (front ++ f.0) f.1.0 is f.1.1),
      ),
    )

    unbehind : (front : List ℕ) (nets : List Netlist) → IsTextOf (suc room) place (netlist_text place net ++ front) nets
        → IsSome room (place + 1) front
    unbehind front nets of =
        let e = length-append (netlist_text place net) front in
        let g = text_some place net in
        let parts = split place below room (netlist_text place net ++ front) nets (omega (arith, e, g)) of in
        let same =
        same_rest place below net parts.net
        (netlist_text place net ++ front) front parts.rest is parts.is_netlist refl parts.is_text in
        subst (λ v. IsSome room (place + 1) v) (sym same.1) parts.others

    next_stops : (s : Stop Kinds) → TellsText room (place + 1) after s → TellsText (suc room) place xs s
    next_stops s (early none e) =
        early none (record {
          good = subst (λ v. IsFront (IsSome (suc room) place) v) (sym at) (behind after e.good);
          is_short = λ t. e.is_short (unbehind after t.0 (subst (λ v. IsTextOf (suc room) place v t.0) at t.1));
        })
    next_stops s (bad front b left first) =
        let text = netlist_text place net in
        bad (text ++ front) b
        (let e = length-append text front in let f = length-append text after in let g = ap length at in omega
        (arith, e, f, g, left))
        (record {
          rest = first.rest;
          splits = at ∙ ap (λ v. text ++ v) first.splits ∙ sym (append_assoc text front (b ∷ first.rest));
          good = behind front first.good;
          is_bad = λ f.
              let moved : ((text ++ front) ++ b ∷ []) ++ f.0 ≡ text ++ ((front ++ b ∷ []) ++ f.0) =
              ap (λ v. v ++ f.0) (append_assoc text front (b ∷ [])) ∙ append_assoc text (front ++ b ∷ []) f.0 in
              first.is_bad (
                f.0,
                unbehind ((front ++ b ∷ []) ++ f.0) f.1.0
                    (subst (λ v. IsTextOf (suc room) place v f.1.0) moved f.1.1),
              );
        })

-- ---- all of them

abbrev Outcome : Type 0
Outcome = Result (List Netlist) (Stop Kinds)

abbrev put_first : Netlist → Outcome → Outcome
put_first net others = others >>= λ nets. Ok (net ∷ nets)

module _ (room place x : ℕ) (xs : List ℕ) where
  reads_next : (net : Netlist) (after : List ℕ) → netlist_read place (x ∷ xs) ≡ Ok (net, after)
      → netlists_read (suc room) place (x ∷ xs) ≡ put_first net (netlists_read room (place + 1) after)
  unfolding netlists_read
  reads_next net after read = ap (λ r. r >>= λ n. put_first n.0 (netlists_read room (place + 1) n.1)) read

  reads_none : (s : Stop Kinds) → netlist_read place (x ∷ xs) ≡ Err s → netlists_read (suc room) place (x ∷ xs) ≡ Err s
  unfolding netlists_read
  reads_none s read = ap (λ r. r >>= λ n. put_first n.0 (netlists_read room (place + 1) n.1)) read

reads_empty : (room place : ℕ) → netlists_read room place [] ≡ Ok []
unfolding netlists_read
reads_empty zero place = refl
reads_empty (suc room) place = refl

reads_full : (place x : ℕ) (xs : List ℕ) → netlists_read zero place (x ∷ xs) ≡ Err (stop (length (x ∷ xs)))
unfolding netlists_read
reads_full place x xs = refl

-- what was read, or where reading stopped
pub data Told (room place : ℕ) (xs : List ℕ) : Outcome → Type 0 where
  whole : (nets : List Netlist) → IsTextOf room place xs nets → Told room place xs (Ok nets)
  stopped : (s : Stop Kinds) → TellsText room place xs s → Told room place xs (Err s)

pub told : (room place : ℕ) → place + room ≤ 32 → (xs : List ℕ) → length xs ≤ most
    → Told room place xs (netlists_read room place xs)
told room place within [] few =
    subst (Told room place []) (sym (reads_empty room place)) (whole [] (no_nets room place))
told zero place within (x ∷ xs) few =
    subst (Told zero place (x ∷ xs)) (sym (reads_full place x xs))
    (stopped (stop (length (x ∷ xs))) (full place x xs _ refl))
told (suc room) place within (x ∷ xs) few =
    by (told room (place + 1) (omega arith)) (netlist_read place (x ∷ xs)) refl
  where
    below : place < 32
    below = omega (arith, within)

    next : (net : Netlist) (after : List ℕ) → IsNetlistText place below (netlist_text place net) net
        → x ∷ xs ≡ netlist_text place net ++ after
        → (o : Outcome) → Told room (place + 1) after o → Told (suc room) place (x ∷ xs) (put_first net o)
    next net after is at _ (whole nets of) =
        whole (net ∷ nets) (subst (λ v. IsTextOf (suc room) place v (net ∷ nets)) (sym at)
        (with_one place below room net after nets is.0 of))
    next net after is at _ (stopped s tells) =
        stopped s (next_stops room place below (x ∷ xs) (omega arith) net after is.0 at s tells)

    by : ((after : List ℕ) → length after ≤ most → Told room (place + 1) after (netlists_read room (place + 1) after))
        → (r : Read Netlist) → netlist_read place (x ∷ xs) ≡ r
        → Told (suc room) place (x ∷ xs) (netlists_read (suc room) place (x ∷ xs))
    by again (Err s) read =
        subst (Told (suc room) place (x ∷ xs)) (sym (reads_none room place x xs s read))
        (stopped s (first_stops room place below (x ∷ xs) (omega arith) s few read))
    by again (Ok (net, after)) read =
        let o = read_tells (any (a_netlist place below)) (x ∷ xs) after net few read in
        let at : x ∷ xs ≡ netlist_text place net ++ after = o.1 ∙ ap (λ v. v ++ after) o.2.1 in
        let e = ap length at in
        let f = length-append (netlist_text place net) after in
        subst (Told (suc room) place (x ∷ xs)) (sym (reads_next room place x xs net after read))
        (next net after (o.2.0, refl) at (netlists_read room (place + 1) after)
        (again after (omega (arith, e, f, few))))

-- ---- texts and faults

to_spells : (bytes : List ℕ) (nets : List Netlist) → IsTextOf 32 0 bytes nets → Spells bytes nets
to_spells bytes nets is = record { are_netlists = is.are_netlists; few = is.few; is_text = is.is_text }

to_whole : (bytes : List ℕ) → IsSome 32 0 bytes → IsWhole bytes
to_whole bytes is = (is.0, to_spells bytes is.0 is.1)

of_whole : (bytes : List ℕ) → IsWhole bytes → IsSome 32 0 bytes
of_whole bytes is = (is.0, record { are_netlists = is.1.are_netlists; few = is.1.few; is_text = is.1.is_text })

to_fronts : (bytes : List ℕ) → IsFront (IsSome 32 0) bytes → IsFront IsWhole bytes
to_fronts bytes f = (f.0, to_whole (bytes ++ f.0) f.1)

of_fronts : (bytes : List ℕ) → IsFront IsWhole bytes → IsFront (IsSome 32 0) bytes
of_fronts bytes f = (f.0, of_whole (bytes ++ f.0) f.1)

pub read_spells : (bytes : List ℕ) (nets : List Netlist) → length bytes ≤ most → netlists_read 32 0 bytes ≡ Ok nets
    → Spells bytes nets
read_spells bytes nets few read = by (Ok nets) refl (subst (Told 32 0 bytes) read (told 32 0 (omega arith) bytes few))
  where
    by : (o : Outcome) → o ≡ Ok nets → Told 32 0 bytes o → Spells bytes nets
    by _ is (whole read of) =
        let same : read ≡ nets = cc in
        subst (λ v. Spells bytes v) same (to_spells bytes read of)
    by _ is (stopped s tells) = absurd cc

-- a stop leaves no more bytes than there are, and tells the fault
pub record IsTold (bytes : List ℕ) (left : ℕ) : Type 0 where
  pub few : left ≤ length bytes
  pub is_bad : IsBad bytes (length bytes - left)

pub stop_is_bad : (bytes : List ℕ) (left : ℕ) → length bytes ≤ most → netlists_read 32 0 bytes ≡ Err (stop left)
    → IsTold bytes left
stop_is_bad bytes left few read =
    by (Err (stop left)) refl (subst (Told 32 0 bytes) read (told 32 0 (omega arith) bytes few))
  where
    at : (s : Stop Kinds) → s.left ≡ left → TellsText 32 0 bytes s → IsTold bytes left
    at s same (early none e) =
        record {
          few = omega (arith, none, same);
          is_bad = subst (IsBad bytes) (let f : length bytes ≡ length bytes - left = omega (arith, none, same) in f)
              (faults.at_end (record { good = to_fronts bytes e.good; is_short = λ t. e.is_short (of_whole bytes t) }));
        }
    at s same (bad front b lefts first) =
        record {
          few = omega (arith, lefts, same);
          is_bad = subst (IsBad bytes) (let f : length front ≡ length bytes - left = omega (arith, lefts, same) in f)
              (faults.at_byte front b (record {
                rest = first.rest;
                splits = first.splits;
                good = to_fronts front first.good;
                is_bad = λ f. first.is_bad (of_fronts (front ++ b ∷ []) f);
              }));
        }

    by : (o : Outcome) → o ≡ Err (stop left) → Told 32 0 bytes o → IsTold bytes left
    by _ is (whole read of) = absurd cc
    by _ is (stopped s tells) =
        let same : s ≡ stop left = cc in
        at s (ap (λ (s : Stop Kinds). s.left) same) tells

-- ---- laws

pub text_is_one : TextIsOne
text_is_one left right nets one other = one.is_text ∙ sym other.is_text

one_list : (place room : ℕ) → place + room ≤ 32 → (left right : List Netlist) → length left ≤ room → length right ≤ room
    → AllByRecursion IsNetlist left → AllByRecursion IsNetlist right → text_from place left ≡ text_from place right
    → left ≡ right
one_list place room within [] [] few_left few_right one other same = refl
one_list place room within [] (net ∷ nets) few_left few_right one other same =
    absurd (no_text place net (text_from (suc place) nets) [] refl same)
one_list place room within (net ∷ nets) [] few_left few_right one other same =
    absurd (no_text place net (text_from (suc place) nets) [] refl (sym same))
one_list place zero within (net ∷ nets) (n ∷ ns) few_left few_right one other same = absurd (omega (arith, few_left))
one_list place (suc room) within (net ∷ nets) (n ∷ ns) few_left few_right one other same =
    let parts =
    same_rest place (omega (arith, within)) net n (text_from place (net ∷ nets)) (text_from (suc place) nets)
    (text_from (suc place) ns)
    one.0 other.0 refl same in
    λ i. parts.0 i ∷ one_list (suc place) room (omega (arith, within)) nets ns (omega (arith, few_left))
    (omega (arith, few_right)) one.1 other.1 parts.1 i

pub netlists_are_one : NetlistsAreOne
netlists_are_one bytes left right one other =
    one_list 0 32 (omega arith) left right one.few other.few one.are_netlists other.are_netlists
    (sym one.is_text ∙ other.is_text)

pub fault_is_one : FaultIsOne
fault_is_one bytes _ _ (faults.at_byte front b first) (faults.at_byte other c second) =
    ap length (one_first_bad IsWhole bytes front other b c first second).0
fault_is_one bytes _ _ (faults.at_byte front b first) (faults.at_end e) =
    absurd (none_bad IsWhole bytes front b e.good first)
fault_is_one bytes _ _ (faults.at_end e) (faults.at_byte front b first) =
    absurd (none_bad IsWhole bytes front b e.good first)
fault_is_one bytes _ _ (faults.at_end e) (faults.at_end f) = refl

pub texts_have_no_fault : TextsHaveNoFault
texts_have_no_fault bytes _ is (faults.at_byte front b first) =
    none_bad IsWhole bytes front b (is_front IsWhole bytes is) first
texts_have_no_fault bytes _ is (faults.at_end e) = e.is_short is
