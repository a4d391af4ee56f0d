-- Where inputs and wires stand.
use Rattle.std.specs.Prelude.{◌≡◌, ℕ, zero, suc, ◌+◌, ◌<◌, ◌≤◌, List, [], ◌∷◌, length, map, take, slice_set, Option, None, Some, IfSome}
use Rattle.std.specs.List.{Contains, slice_index_or}
use Rattle.std.proofs.Common.{refl, sym, ap, ◌∙◌, subst, arith, inl, inr}
use Rattle.std.proofs.lemmas.Bool.{cases_eq}
use Rattle.std.proofs.lemmas.Option.{IfSome_then}
use Rattle.std.proofs.lemmas.List.{length-map, length-set, length-take-le, get_or-take, get_or_read, get_or-set_same, get_or-set_other}
use Rattle.std.proofs.lemmas.List.Elements.{Contains-append_right}
use Rattle.ci_verilog.specs.declared.expressions.Wire.{Wire}
use Rattle.ci_verilog.specs.Modules.{Module, IsModule, IsInput, inputs, declared_by, nothing}
use Rattle.ci_verilog.specs.Values.{expr_value}
use Rattle.ci_verilog.specs.private.Held.{Fits}
use Rattle.ci_verilog.proofs.ValueLaws.{word_at, settled_fit}
use Rattle.ci_plan.specs.declared.founds.Found.{Found}
use Rattle.ci_plan.specs.private.Drafts.{Draft, IsDraft, Grows, Stands, StandsFor}
use Rattle.ci_plan.specs.private.Names.{AreHeld}
use Rattle.ci_plan.proofs.StepLaws.{untouched}
use Rattle.ci_plan.proofs.DraftLaws.{stands_as, stands_for_later}

-- what is said in each draft of what there may be
pub in_each : (o : Option Found) (P : Draft → Type 0) (Q : Draft → Found → Type 0) → ((draft : Draft) → P draft → IfSome o (Q draft))
    → IfSome o (λ f. (draft : Draft) → P draft → Q draft f)
in_each None P Q each = tt
in_each (Some f) P Q each = each

module _ (m : Module) where
  pub input_stands : (draft : Draft) (k : ℕ) (name : List ℕ) → k < 5 → IsInput m.wires.wide name k
      → StandsFor m draft k 32 (λ names. names name)
  input_stands draft k name few is = record {
    stands = record {
      below = omega (arith, few);
      kept = λ past. absurd (omega (arith, past, few));
      is = λ run.
          untouched run.words 5 draft.steps k (λ past. absurd (omega (arith, past, few)))
          ∙ run.opens.inputs k few ∙ sym (ap (λ v. v.value) (run.settles.inputs_are k name is));
    };
    narrow = omega arith;
    fit = λ run.
        subst (λ v. Fits v 32) (sym (run.settles.inputs_are k name is))
        (record { width_is = refl; in_range = word_at run.arguments run.are_words k });
  }

  -- any wire
  some_wire : Wire
  some_wire = record { name = []; width = 0; value = nothing }

  -- the wire of this number, as the code finds it among the first ones
  pub wire_found : (wires : List (Option Found)) (draft : Draft) (k : ℕ) (d : Option Found) (slice : List Wire) (name : List ℕ)
      → AreHeld m wires draft → k < length (take (length wires) slice) → slice ≡ m.wires.list
      → ((d : Wire) → (slice_index_or (take (length wires) slice) k d).name ≡ name)
      → IfSome (slice_index_or wires k d) (λ f. StandsFor m draft f.place f.width (λ names. names name))
  wire_found wires draft k d slice name held among same named =
      let few : length wires ≤ length slice = subst (λ ws. length wires ≤ length ws) (sym same) held.few in
      let whole : length (take (length wires) slice) ≡ length wires = length-take-le (length wires) slice few in
      let below : k < length wires = omega (arith, among, whole) in
      let e : (slice_index_or m.wires.list k some_wire).name ≡ name =
      ap (λ ws. (slice_index_or ws k some_wire).name) (sym same)
      ∙ ap (λ w. w.name) (sym (get_or-take (length wires) slice k some_wire below)) ∙ named some_wire in
      subst (λ n. IfSome (slice_index_or wires k d) (λ f. StandsFor m draft f.place f.width (λ names. names n))) e
      (held.stand k below d some_wire)

  read_mapped : (wires : List Wire) (k : ℕ) (d : Wire) → slice_index_or (map declared_by wires) k (declared_by d) ≡ declared_by (slice_index_or wires k d)
  read_mapped [] k d = refl
  read_mapped (w ∷ wires) zero d = refl
  read_mapped (w ∷ wires) (suc k) d = read_mapped wires k d

  declared_there : (wires : List Wire) (wire : Wire) → Contains wires wire → Contains (map declared_by wires) (declared_by wire)
  declared_there wires wire (k, below, found) =
      (k, subst (λ n. k < n) (sym (length-map wires declared_by)) below, read_mapped wires k wire ∙ ap declared_by found)

  pub wire_stands : (draft : Draft) (place : ℕ) (wire : Wire) → IsModule m → Contains m.wires.list wire → wire.width ≤ 64
      → Stands m draft place (λ names. expr_value names wire.value)
      → StandsFor m draft place wire.width (λ names. names wire.name)
  wire_stands draft place wire is there narrow stands = record {
    stands =
        stands_as m draft place (λ names. expr_value names wire.value) (λ names. (names wire.name).value) stands
        (λ run. sym (ap (λ v. v.value) (run.settles.wires_are wire there)));
    narrow = narrow;
    fit = λ run.
        settled_fit m run.arguments run.names is run.settles run.are_words (declared_by wire)
        (Contains-append_right (inputs m.wires.wide) (map declared_by m.wires.list) (declared_by wire)
        (declared_there m.wires.list wire there));
  }

  pub held_later : (wires : List (Option Found)) (old new : Draft) → Grows old new → AreHeld m wires old → AreHeld m wires new
  held_later wires old new grows held = record {
    is_draft = grows.is_draft;
    few = held.few;
    stand = λ k below d e.
        IfSome_then (slice_index_or wires k d) (held.stand k below d e)
        (λ f. stands_for_later m old new f.place f.width (λ names. names (slice_index_or m.wires.list k e).name) grows);
  }

  carried : (draft : Draft) (u v : Option Found) (w x : Wire) → u ≡ v → w ≡ x
      → IfSome v (λ f. StandsFor m draft f.place f.width (λ names. names x.name))
      → IfSome u (λ f. StandsFor m draft f.place f.width (λ names. names w.name))
  carried draft u v w x e f stands =
      subst (λ t. IfSome t (λ f. StandsFor m draft f.place f.width (λ names. names w.name))) (sym e)
      (subst (λ y. IfSome v (λ f. StandsFor m draft f.place f.width (λ names. names y.name))) (sym f) stands)

  -- a wire more
  pub held_more : (found : List (Option Found)) (k : ℕ) (next : Option Found) (wire : Wire) (draft : Draft) → AreHeld m (take k found) draft
      → k < length found → (k < length m.wires.list) × (wire ≡ slice_index_or m.wires.list k wire)
      → IfSome next (λ f. StandsFor m draft f.place f.width (λ names. names wire.name))
      → AreHeld m (take (k + 1) (slice_set found k next)) draft
  held_more found k next wire draft held room (below, is) stands =
      let now = slice_set found k next in
      let whole : length now ≡ length found = length-set found k next in
      let many : length (take (k + 1) now) ≡ k + 1 = length-take-le (k + 1) now (omega (arith, whole, room)) in
      let fewer : length (take k found) ≡ k = length-take-le k found (omega (arith, room)) in
      record {
        is_draft = held.is_draft;
        few = omega (arith, many, below);
        stand = λ j among d e.
            let within : j < k + 1 = omega (arith, among, many) in
            let read : slice_index_or (take (k + 1) now) j d ≡ slice_index_or now j d = get_or-take (k + 1) now j d within in
            elim (cases_eq j k) [
              | inl same ↦
                  carried draft (slice_index_or (take (k + 1) now) j d) next (slice_index_or m.wires.list j e) wire
                  (read ∙ ap (λ i. slice_index_or now i d) same ∙ get_or-set_same found k next d room)
                  (ap (λ i. slice_index_or m.wires.list i e) same ∙ sym (get_or_read m.wires.list k wire below is e)) stands
              | inr other ↦
                  carried draft (slice_index_or (take (k + 1) now) j d) (slice_index_or (take k found) j d)
                  (slice_index_or m.wires.list j e) (slice_index_or m.wires.list j e)
                  (read ∙ get_or-set_other found k j next d other ∙ sym (get_or-take k found j d (omega (arith, within, other))))
                  refl (held.stand j (omega (arith, fewer, within, other)) d e)
            ];
      }

  -- no wires
  pub none_held : (found : List (Option Found)) (draft : Draft) → IsDraft draft → AreHeld m (take 0 found) draft
  none_held found draft is = record {
    is_draft = is;
    few = omega arith;
    stand = λ k below d e. absurd (omega (arith, below));
  }
