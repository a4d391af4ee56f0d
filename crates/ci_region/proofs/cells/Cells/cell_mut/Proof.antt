-- `cell_mut` lends one cell, and the block follows it.
use mathlib.Core.Path.{◌≡◌, refl, sym, ap, subst}
use Prim.Native.Nat.{ℕ, ◌+◌, ◌*◌, ◌<◌, ◌^◌}
use native.Mathlib.Omega.{arith}
use mathlib.Core.List.{List, [], ◌∷◌, ◌++◌}
use lib.ListN.{length, get_or, length-set}
use seplogic.Ra.Ura.{Ura}
use base.Fraction.{full_share}
use mir.Syntax.{Fn, named, w64}
use mir.MapTy.{inst_fn}
use mir.Val.{Val, vptr, vint}
use base.Logic.{SProp, ent, sep, never, id⊢}
use base.Fml.{Lft, GName, Share, Fml, ftrue, fsep, froom, flft, fobs, fbor}
use prog.Wp.{Env, Calls, Loops, WpFn, Tables}
use types.Logic.{Logic, sem}
use contract.Monad.{fact}
use contract.Running.{tables, tables_of}
use sound.WpLaws.{WpFn-mono}
use types.Kit.{Item, ⋆, ‵, raw, ◌⊛◌, some, later, await, pick, at_ret, ◌$◌, ◌∵◌, !, qed, by, move, keep, use1, use2}
use types.Kit.{split, join, group, rewrite, fsplit, fsplit3, fjoin, fpack, feq_l, flt_l, flt_i, suffices, frame, done}
use types.Part.{whole, sub, look_in}
use types.Run.{stop, fld, load, bin, size_lit, of_opd, addr, first, blocks, exec, returns, enter}
use types.ByLocal.{alloc_all, pass_all, free_all, look_at, get, through, sets, sets_last, is, env}
use types.SemTy.{Body as Borrowed}
use denote.Exit.{yes, no}
use denote.RattleType.{owns}
use denote.Memory.{mem, cell_at, part_at, part_of}
use denote.RawPtr.{Ptr, block_ptr, ptr_val, in_a_block}
use denote.Ref.{MutBor, MutRef}
use denote.Builtin.{RefMutOf, usize}
use denote.Signature.{plain, mut_ref_to}
use denote.Steps.{nothing, opens}
use denote.Follow.{follows, Part, lends_Part}
use denote.Triple.Carry.{spared}
use denote.Triple.Clauses.{Clauses, Ended, closing}
use denote.Triple.Entry.{on_entry}
use denote.Triple.Spec.{Meets, triple_of}
use denote.Triple.Table.{entered, run_framed}
use denote.Triple.Walked.{says, needs, Stays, stay_dropped, walk_of, ends_at, Goes-dropped, Goes-spent_ref, walk_Meets}
use Rattle.core.proofs.mem.Param.{El, args, el_x}
use Rattle.core.proofs.ptr.Rows.{times_below, one_below}
use Rattle.std_alloc.proofs.VecSteps.Shapes.{after}
use Rattle.std_alloc.proofs.RcSteps.{word}
use Rattle.ci_region.specs.Ownership.{cells_at, cells_own, room_behind}
use Rattle.ci_region.specs.CellChanges.{with_cell}
use Rattle.ci_region.specs.declared.cells.Cell.{Cell}
use Rattle.ci_region.specs.declared.cells.Cell.TheVariants.{Free}
use Rattle.ci_region.proofs.Memory.{Cell-row, Cells-row, cell_size, block_type, pointer_had, pointer_made, Besides}
use Rattle.ci_region.proofs.Memory.{cell_out, cell_in}
use Rattle.ci_region.specs.contracts.cells.Cells.cell_mut.Key.{name as #self}
use Rattle.ci_region.proofs.cells.Cells.cell_mut.Statement as stated
use Rattle.ci_region.proofs.cells.Cells.cell_mut.Code as code

module _ (E : El) where
  abbrev function : Fn
  function = inst_fn (args E) code.function

  abbrev ended : Ended
  ended = record {
    signature = record {
      lifetimes = 1;
      outlives = [];
      params = RefMutOf (0 ∷ []) tt (plain (λ _. Cells-row E)) (λ _. tt)
          ∷ plain (λ _. usize) ∷ [];
      result = RefMutOf (0 ∷ []) tt (plain (λ _. Cell-row E)) (λ _. tt);
    };
    kept =
        (no, (yes, tt));
  }

  abbrev stayed : Stays ended.signature.params ended.kept
  stayed = (
    stay_dropped (mut_ref_to (0 ∷ []) tt (plain (λ _. Cells-row E))) no,
    (stay_dropped (plain (λ _. usize)) yes, tt),
  )

  abbrev spec : {M : Type 1} {𝓤 : Ura M} (𝓛 : Logic 𝓤) → Clauses 𝓤 ended
  spec {𝓤 = 𝓤} 𝓛 κs a = record {
    ghost = Unit {0};
    requires = λ _. fact 𝓤 (a.1.0 < length a.0.now.cells);
    ensures =
        λ _ r w. sep 𝓤 (sem 𝓛 (follows (Cells-row E) (Cell-row E) a.0.ghost_name r.ghost_name
        (λ w. with_cell a.0.now a.1.0 w))) (fact 𝓤 (r.now ≡ get_or a.0.now.cells a.1.0 (Free 0)));
  }

module _ (E : El) {M : Type 1} {𝓤 : Ura M} (𝓛 : Logic 𝓤) (C : Calls 𝓤 𝓛.H) (Λ : Loops 𝓤 𝓛.H) (κ : Lft) (q : Share)
    (rb ro : ℕ) (γ : GName) (d : (Cells-row E).Denot) (number : ℕ) (us0 us1 : List Val) where
  open 𝓛 use {H, A}

  abbrev self : MutBor (Cells-row E).Denot
  self = record { ref_ptr = (rb, ro); ghost_name = γ; now = d }

  abbrev bound : (walk_of 𝓛 (ended E) (stayed E) (spec E 𝓛)).Ghost
  bound = (((κ, tt), (q, tt), tt, (self, (number, tt)), (us0, (us1, tt))), tt)

  abbrev Post : Val → SProp 𝓤
  Post = (walk_of 𝓛 (ended E) (stayed E) (spec E 𝓛)).post bound

  abbrev x : Cell (el_x E)
  x = get_or d.cells number (Free 0)

  abbrev new : Cell (el_x E) → (Cells-row E).Denot
  new w = with_cell d number w

  module _ (b o : ℕ) (inside : number < length d.cells) where
    -- all but the cell
    abbrev Rest : Fml
    Rest = fsep (Besides (Cell-row E) 𝓛 b o d.cells number inside (Free 0))
        (fsep (room_behind (Cell-row E) b o d.cells d.left)
        (cell_at full_share (Cells-row E).mir (word d.start ∷ []) rb ro))

    back : d.start ≡ block_ptr b o → (length d.cells + d.left) * cell_size E < 2 ^ 63
        → (w : Cell (el_x E)) → ent 𝓤 (sep 𝓤 (sem 𝓛 ((mem (Cell-row E)).own_at w b (number * cell_size E + o)))
        (sem 𝓛 Rest)) (sem 𝓛 ((mem (Cells-row E)).own_at (new w) rb ro))
    unfolding part_of
    back e small w =
        let long = length-set d.cells number w in
        qed 𝓛 (‵ (part_at (Cell-row E) full_share w b (number * cell_size E + o)) ∷ ‵ Rest ∷ []) ∵ move ! (1 ∷ []) $
        fsplit ! $ move ! (2 ∷ 0 ∷ []) $
        use2 𝓛 (‵ (cells_at (Cell-row E) b o (new w).cells))
        (cell_in (Cell-row E) 𝓛 b o d.cells number inside (Free 0) w) $ move ! (1 ∷ []) $ fsplit ! $
        rewrite ! 0 (λ (k : ℕ). ‵ (froom (block_type E d.left) b (k * cell_size E + o))) (sym long) refl $
        move ! (2 ∷ 0 ∷ []) $ fjoin ! $
        flt_i ! ((length (new w).cells + d.left) * cell_size E) (2 ^ 63)
        (subst (λ k. (k + d.left) * cell_size E < 2 ^ 63) (sym long) small) $ fjoin ! $
        rewrite ! 0 (λ (p : Ptr). ‵ (cells_own (Cell-row E) p (new w).cells d.left)) (sym e) refl $
        pointer_made ! d.start $ fjoin ! $ move ! (1 ∷ 0 ∷ []) $ fjoin ! $
        fpack ! (List Val) (λ us. fsep (cell_at full_share (Cells-row E).mir us rb ro)
        ((Cells-row E).own_val (new w) us)) (word d.start ∷ []) $ done !

  exits : (v : Val) (r : MutBor (Cell (el_x E))) → r.now ≡ x
      → ent 𝓤 (sep 𝓤 (sem 𝓛 ((MutRef (named 0) κ (Cell-row E)).own_val r (v ∷ [])))
      (sep 𝓤 (A.lft κ q) (sem 𝓛 (follows (Cells-row E) (Cell-row E) γ r.ghost_name new)))) (Post v)
  exits v r e =
      qed 𝓛 (‵ ((MutRef (named 0) κ (Cell-row E)).own_val r (v ∷ [])) ∷ ‵ (flft κ q)
      ∷ ‵ (follows (Cells-row E) (Cell-row E) γ r.ghost_name new) ∷ []) ∵
      suffices ! _ (ends_at 𝓛 (ended E) (stayed E) (spec E 𝓛) bound v r (tt, (tt, tt)) (tt, (tt, tt))) $
      nothing ! $ nothing ! $ fjoin ! $ nothing ! $ fjoin ! $ join ! $ nothing ! $ move ! (2 ∷ 0 ∷ []) $ join ! $
      join ! $ frame ! $ says ! e $ done !

  abbrev Had : List (Item 𝓤)
  Had = ‵ (fobs γ ((Cells-row E).coded.code d)) ∷ ‵ (fbor κ (Borrowed (mem (Cells-row E)) rb ro γ)) ∷ ‵ (flft κ q) ∷ []

  walk : number < length d.cells → number < 2 ^ 64
      → ent 𝓤 (⋆ 𝓛 Had) (WpFn 𝓤 H C Λ (function E) (vptr rb ro ∷ vint w64 number ∷ []) Post)
  walk inside fits =
      let code = (Cells-row E).coded.code d in
      qed 𝓛 Had ∵ enter ! C Λ (function E) (vptr rb ro ∷ vint w64 number ∷ []) _ $
      alloc_all ! (λ l. pass_all ! refl ((tt, tt), ((tt, record { fits = fits }), tt)) $
      let En : Env 𝓤 H = env (function E).locals l in
      opens ! tt (Cells-row E) {h = d} rb ro (λ vs. move ! (1 ∷ []) $ fsplit ! $ pointer_had ! d.start vs (λ one.
      rewrite ! 1 (λ (ws : List Val). ‵ (cell_at full_share (Cells-row E).mir ws rb ro)) one refl $
      in_a_block ! d.start (λ p. cells_own (Cell-row E) p d.cells d.left) (id⊢ 𝓤 (never 𝓤)) (λ b o e. fsplit ! $
      flt_l ! (λ small.
      let s = cell_size E in let tiny : s
      < 2 ^ 64 = omega (arith, one_below (length d.cells + d.left) s (2 ^ 63) (omega arith) small) in
      let far : number * s < 2 ^ 64 = omega
      (arith, times_below number (length d.cells + d.left) s (2 ^ 63) (omega arith) small) in
      let at = number * s + o in let way = back b o inside e small in fsplit ! $
      use1 𝓛 (‵ (part_at (Cell-row E) full_share x b at)
      ⊛ ‵ (Besides (Cell-row E) 𝓛 b o d.cells number inside (Free 0)))
      (cell_out (Cell-row E) 𝓛 b o d.cells number inside (Free 0)) $ split ! $
      -- [the cell; the others; the room; the block's word; the open borrow, in three entries]
      first ! $ blocks ! $
      sets ! (is ! (of_opd ! (load ! (through ! refl (fld ! refl (stop !))) (look_in ! 3 (sub ! 0 refl (whole !)))))
      (ap ptr_val e)) refl (tt, tt) $
      sets ! (bin ! (get ! refl) (size_lit ! (record { fits = tiny })) (record { fits = far })) refl
      (tt, record { fits = far }) $
      sets ! (bin ! (get ! refl) (get ! refl) tt) refl (tt, tt) $
      sets_last ! (addr ! (through ! refl (stop !))) refl (tt, tt) $
      exec ! C Λ En (after 1 (function E).body) (at_ret En Post) $ sets ! (of_opd ! (get ! refl)) refl (tt, tt) $
      move ! (2 ∷ 3 ∷ []) $ fjoin ! $ move ! (2 ∷ 0 ∷ []) $ fjoin ! $ move ! (2 ∷ 3 ∷ 4 ∷ 1 ∷ 0 ∷ []) $ group ! 5 $
      use1 𝓛 (later (some (λ (δ : GName). raw
      (Part 𝓛 (Cells-row E) (Cell-row E) new (named 0) κ q rb ro b at γ (sem 𝓛 (Rest b o inside)) way x δ))))
      (lends_Part 𝓛 (Cells-row E) (Cell-row E) new (named 0) κ q rb ro b at γ (sem 𝓛 (Rest b o inside)) way code code
      x) $ await ! tt $ pick ! (λ δ.
      returns ! (look_at ! 0 refl) $ free_all ! refl $ keep ! (0 ∷ []) $
      by ! (exits (vptr b at) (record { ref_ptr = (b, at); ghost_name = δ; now = x }) refl)))))))

  entry : number < length d.cells
      → ent 𝓤 (on_entry 𝓛 (ended E).signature (κ, tt) (q, tt) (self, (number, tt)) (us0, (us1, tt)))
      (WpFn 𝓤 H C Λ (function E) (us0 ++ (us1 ++ [])) Post)
  entry asked =
      qed 𝓛 ((‵ (flft κ q) ⊛ ‵ ftrue)
      ∷ ‵ (owns (MutRef (named 0) κ (Cells-row E) ∷ usize ∷ []) (self, (number, tt)) (us0, (us1, tt))) ∷ []) ∵
      split ! $ move ! (2 ∷ []) $ fsplit ! $ fsplit3 ! $ feq_l ! (λ e0.
      move ! (2 ∷ []) $ fsplit ! $ fsplit ! $ feq_l ! (λ e1. flt_l ! (λ fits. keep ! (1 ∷ 2 ∷ 3 ∷ []) $
      by ! (subst (λ (ws : List Val × List Val). ent 𝓤 (⋆ 𝓛 Had)
      (WpFn 𝓤 H C Λ (function E) (ws.0 ++ (ws.1 ++ [])) Post)) (λ j. (sym e0 j, sym e1 j)) (walk asked fits)))))

meets : (E : El) {M : Type 1} {𝓤 : Ura M} (𝓛 : Logic 𝓤) (𝓣 : Tables 𝓤 𝓛.H)
    → Meets 𝓛 (ended E).signature (WpFn 𝓤 𝓛.H 𝓣.C 𝓣.Λ (function E)) (closing 𝓛 (ended E) (spec E 𝓛))
meets E {𝓤 = 𝓤} 𝓛 𝓣 =
    walk_Meets 𝓛 (ended E) (stayed E) (
      Goes-spent_ref 𝓛 1 (0 ∷ []) tt (plain (λ _. Cells-row E)),
      (Goes-dropped 𝓛 1 (plain (λ _. usize)) yes (λ κs x f. refl), tt),
    ) (spec E 𝓛)
    (WpFn 𝓤 𝓛.H 𝓣.C 𝓣.Λ (function E)) (WpFn-mono 𝓤 𝓛.H 𝓛.laws 𝓣 (function E))
    (λ z. needs 𝓤 (z.0.3.1.0 < length z.0.3.0.now.cells) _
    (entry E 𝓛 𝓣.C 𝓣.Λ z.0.0.0 z.0.1.0 z.0.3.0.ref_ptr.0 z.0.3.0.ref_ptr.1 z.0.3.0.ghost_name z.0.3.0.now
    z.0.3.1.0 z.0.4.0 z.0.4.1.0))

pub cell_mut_spec : {M : Type 1} → stated.statement M
unfolding tables_of
cell_mut_spec 𝓤 𝓛 𝓜 𝓡 wired X LX y =
    let E : El = record { row = X; laws = LX } in
    let 𝓣 : Tables 𝓤 𝓛.H = tables_of 𝓤 𝓛.H 𝓜 (tables 𝓤 𝓛.H 𝓜 𝓡 𝓡.env) in
    let k = #self (args E) in
    spared 𝓛 (ended E).signature (𝓡.run (𝓡.env k)) (run_framed 𝓤 𝓛.H 𝓜 𝓡 (𝓡.env k)) 1 (X.lives, tt)
    (closing 𝓛 (ended E) (spec E 𝓛))
    (entered 𝓤 𝓛.H (triple_of 𝓛 (ended E).signature (closing 𝓛 (ended E) (spec E 𝓛))) 𝓣.C 𝓣.Λ k (function E)
    (code.unfolded 𝓤 𝓛.H 𝓜 𝓡 wired (X, tt)) (meets E 𝓛 𝓣))
    ((y.0.0, y.0.1, tt, y.0.3, y.0.4), y.1)
