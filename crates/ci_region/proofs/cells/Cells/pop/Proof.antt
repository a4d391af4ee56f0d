-- `pop` moves the last cell out, whose memory is room then.
use mathlib.Core.Path.{◌≡◌, refl, sym, ap, subst}
use Prim.Native.Nat.{ℕ, ◌+◌, ◌*◌, ◌<◌, ◌^◌}
use native.Mathlib.Omega.{arith}
use mathlib.Core.List.{List, [], ◌∷◌, ◌++◌}
use lib.ListN.{length, get_or, length-take}
use seplogic.Ra.Ura.{Ura}
use base.Fraction.{full_share}
use mir.Syntax.{Fn, named, w64}
use mir.MapTy.{inst_fn}
use mir.Val.{Val, vptr, vint}
use base.Logic.{SProp, ent, sep, never, id⊢}
use base.Fml.{Lft, GName, Share, ftrue, fat, froom, flft, fobs, fbor}
use prog.Wp.{Env, Calls, Loops, WpFn, Tables}
use types.Logic.{Logic}
use contract.Monad.{fact}
use contract.Running.{tables, tables_of}
use sound.WpLaws.{WpFn-mono}
use types.Kit.{Item, ⋆, ‵, ◌⊛◌, some, pick, at_ret, ◌$◌, ◌∵◌, !, qed, by, move, keep, use1, use2, split, join, rewrite}
use types.Kit.{fsplit, fsplit3, fjoin, fjoin3, feq_i, feq_l, flt_l, flt_i, suffices, frame, done}
use types.Part.{whole, sub, look_in}
use types.Run.{look, stop, fld, load, bin, size_lit, of_opd, first, blocks, exec, returns, enter}
use types.ByLocal.{alloc_all, pass_all, free_all, look_at, get, through, sets, sets_last, is, env}
use types.SemTy.{Body as Borrowed}
use denote.Exit.{yes}
use denote.Laws.{Is, Lawful, shows}
use denote.Param.Laws.{param_laws}
use denote.RattleType.{owns}
use denote.Memory.{mem, cell_at, part_at}
use denote.RawPtr.{Ptr, ptr_val, in_a_block}
use denote.Ref.{MutBor, MutRef}
use denote.Builtin.{RefMutOf, usize}
use denote.Signature.{plain}
use denote.Steps.{nothing, opens, closes, peeks}
use denote.Triple.Carry.{spared}
use denote.Triple.Clauses.{Clauses, Ended, closing}
use denote.Triple.Entry.{on_entry}
use denote.Triple.Spec.{Meets, triple_of}
use denote.Triple.Table.{entered, run_framed}
use denote.Triple.Walked.{needs, Stays, stay_dropped, stay_ref, walk_of, ends_at, Goes-dropped, Goes-ref}
use denote.Triple.Walked.{walk_Meets}
use borrow.Table.OneValue.{part_out}
use Rattle.core.proofs.mem.Param.{El, R, args, el_x}
use Rattle.core.proofs.ptr.Rows.{times_below, one_below}
use Rattle.std_alloc.proofs.VecSteps.Shapes.{after}
use Rattle.std_alloc.proofs.RcSteps.{word}
use Rattle.ci_region.specs.CellChanges.{with_only}
use Rattle.ci_region.specs.Ownership.{cells_at, room_behind, cells_own}
use Rattle.ci_region.specs.declared.cells.Cell.{Cell}
use Rattle.ci_region.specs.declared.cells.Cell.TheVariants.{Free}
use Rattle.ci_region.proofs.Memory.{Cell-row, Cells-row, cell_size, cell_type, pointer_had, pointer_made}
use Rattle.ci_region.proofs.Memory.{last_out, last_room, says_both}
use Rattle.ci_region.proofs.cells.Cell.TheLaws.{the_row_laws}
use Rattle.ci_region.specs.contracts.cells.Cells.pop.Key.{name as #self}
use Rattle.ci_region.proofs.cells.Cells.pop.Statement as stated
use Rattle.ci_region.proofs.cells.Cells.pop.Code as code

module _ (E : El) where
  abbrev function : Fn
  function = inst_fn (args E) code.function

  abbrev ended : Ended
  ended = record {
    signature = record {
      lifetimes = 1;
      outlives = [];
      params = RefMutOf (0 ∷ []) tt (plain (λ _. Cells-row E)) (λ _. tt)
          ∷ plain (λ _. usize) ∷ [];
      result = plain (λ _. Cell-row E);
    };
    kept =
        (yes, (yes, tt));
  }

  abbrev stayed : Stays ended.signature.params ended.kept
  stayed = (
    stay_ref (0 ∷ []) tt (plain (λ _. Cells-row E)),
    (stay_dropped (plain (λ _. usize)) yes, tt),
  )

  abbrev Asks : (Cells-row E).Denot → ℕ → Type 0
  Asks d number = number + 1 ≡ length d.cells

  abbrev spec : {M : Type 1} {𝓤 : Ura M} (𝓛 : Logic 𝓤) → Clauses 𝓤 ended
  spec {𝓤 = 𝓤} 𝓛 κs a = record {
    ghost = Unit {0};
    requires = λ _. fact 𝓤 (Asks a.0.now a.1.0);
    ensures =
        λ _ r w. sep 𝓤 (fact 𝓤 (r ≡ get_or a.0.now.cells a.1.0 (Free 0)))
        (fact 𝓤 (w.0.now ≡ with_only a.0.now a.1.0));
  }

module _ (E : El) {M : Type 1} {𝓤 : Ura M} (𝓛 : Logic 𝓤) (C : Calls 𝓤 𝓛.H) (Λ : Loops 𝓤 𝓛.H) (κ : Lft) (q : Share)
    (rb ro : ℕ) (γ : GName) (d : (Cells-row E).Denot) (number : ℕ) (us0 us1 : List Val) where
  open 𝓛 use {H, A}

  abbrev self : MutBor (Cells-row E).Denot
  self = record { ref_ptr = (rb, ro); ghost_name = γ; now = d }

  abbrev bound : (walk_of 𝓛 (ended E) (stayed E) (spec E 𝓛)).Ghost
  bound = (((κ, tt), (q, tt), tt, (self, (number, tt)), (us0, (us1, tt))), tt)

  abbrev Post : Val → SProp 𝓤
  Post = (walk_of 𝓛 (ended E) (stayed E) (spec E 𝓛)).post bound

  abbrev last : Cell (el_x E)
  last = get_or d.cells number (Free 0)

  abbrev new : (Cells-row E).Denot
  new = with_only d number

  abbrev lawful_cell : Lawful 𝓛 (Cell-row E)
  lawful_cell = (the_row_laws (R E) (param_laws 0 E.row E.laws)).lawful 𝓛

  exits : us0 ≡ vptr rb ro ∷ [] → (v : Val) → ent 𝓤 (⋆ 𝓛 (‵ (fobs γ ((Cells-row E).coded.code new))
      ∷ ‵ (fbor κ (Borrowed (mem (Cells-row E)) rb ro γ)) ∷ ‵ (flft κ q) ∷ ‵ ((Cell-row E).own_val last (v ∷ [])) ∷ []))
      (Post v)
  exits passed v =
      qed 𝓛 (‵ (fobs γ ((Cells-row E).coded.code new)) ∷ ‵ (fbor κ (Borrowed (mem (Cells-row E)) rb ro γ))
      ∷ ‵ (flft κ q) ∷ ‵ ((Cell-row E).own_val last (v ∷ [])) ∷ []) ∵
      suffices ! _ (ends_at 𝓛 (ended E) (stayed E) (spec E 𝓛) bound v last (new, (tt, tt))
      (tt, (tt, tt))) $ says_both ! refl refl $
      nothing ! $ move ! (3 ∷ 0 ∷ []) $ join ! $ frame ! $ feq_i ! (List Val) us0 (vptr rb ro ∷ []) passed $ fjoin3 ! $
      nothing ! $ nothing ! $ fjoin ! $ move ! (1 ∷ 0 ∷ []) $ fjoin ! $ done !

  abbrev Had : List (Item 𝓤)
  Had = ‵ (fobs γ ((Cells-row E).coded.code d)) ∷ ‵ (fbor κ (Borrowed (mem (Cells-row E)) rb ro γ)) ∷ ‵ (flft κ q) ∷ []

  walk : us0 ≡ vptr rb ro ∷ [] → Asks E d number → number < 2 ^ 64
      → ent 𝓤 (⋆ 𝓛 Had) (WpFn 𝓤 H C Λ (function E) (vptr rb ro ∷ vint w64 number ∷ []) Post)
  walk passed asked fits =
      qed 𝓛 Had ∵ enter ! C Λ (function E) (vptr rb ro ∷ vint w64 number ∷ []) _ $
      alloc_all ! (λ l. pass_all ! refl ((tt, tt), ((tt, record { fits = fits }), tt)) $
      let En : Env 𝓤 H = env (function E).locals l in
      opens ! tt (Cells-row E) {h = d} rb ro (λ vs. move ! (1 ∷ []) $ fsplit ! $ pointer_had ! d.start vs (λ one.
      rewrite ! 1 (λ (ws : List Val). ‵ (cell_at full_share (Cells-row E).mir ws rb ro)) one refl $
      in_a_block ! d.start (λ p. cells_own (Cell-row E) p d.cells d.left) (id⊢ 𝓤 (never 𝓤)) (λ b o e. fsplit ! $
      flt_l ! (λ small. fsplit ! $
      let s = cell_size E in let at : ℕ = number * s + o in let all : ℕ = length d.cells + d.left in
      let inside : number < all = omega (arith, asked) in
      let tiny : s < 2 ^ 64 = omega (arith, one_below all s (2 ^ 63) (omega (arith, inside)) small) in
      let far : number * s < 2 ^ 64 = omega (arith, times_below number all s (2 ^ 63) (omega (arith, inside)) small) in
      let long : length d.cells + d.left ≡ length new.cells + new.left = omega
      (arith, asked, length-take number d.cells) in
      -- [the cells; the room behind them; the block's word; the open borrow, in three entries]
      first ! $ blocks ! $
      sets ! (is ! (of_opd ! (load ! (through ! refl (fld ! refl (stop !))) (look_in ! 2 (sub ! 0 refl (whole !)))))
      (ap ptr_val e)) refl (tt, tt) $
      sets ! (bin ! (get ! refl) (size_lit ! (record { fits = tiny })) (record { fits = far })) refl
      (tt, record { fits = far }) $
      sets ! (bin ! (get ! refl) (get ! refl) tt) refl (tt, tt) $
      use1 𝓛 (‵ (part_at (Cell-row E) full_share last b at) ⊛ ‵ (cells_at (Cell-row E) b o new.cells))
      (last_out (Cell-row E) 𝓛 b o d.cells number asked (Free 0)) $ split ! $
      use1 𝓛 (some (λ (v : Val). ‵ (fat full_share (cell_type E) b at v) ⊛ ‵ ((Cell-row E).own_val last (v ∷ []))))
      (part_out 𝓛 (Cell-row E) refl full_share last b at) $ pick ! (λ v. split ! $ move ! (1 ∷ []) $
      peeks ! (Cell-row E) (Is (Cell-row E)) (shows 𝓛 (Cell-row E)) last (v ∷ []) (λ known.
      let good = (lawful_cell.typed last (v ∷ []) known).0 in
      -- [the value; its memory; the other cells; the room; the word; the open borrow]
      sets_last ! (of_opd ! (load ! (through ! refl (stop !)) (look ! 1 refl))) refl good $
      exec ! C Λ En (after 1 (function E).body) (at_ret En Post) $ sets ! (of_opd ! (get ! refl)) refl good $
      move ! (1 ∷ []) $ use1 𝓛 (‵ (froom (cell_type E) b at)) (𝓛.laws.at_room (cell_type E) b at v) $
      move ! (0 ∷ 3 ∷ []) $
      use2 𝓛 (‵ (room_behind (Cell-row E) b o new.cells new.left)) (last_room E 𝓛 b o d.cells number d.left asked) $
      move ! (2 ∷ 0 ∷ []) $ fjoin ! $
      flt_i ! ((length new.cells + new.left) * s) (2 ^ 63) (subst (λ k. k * s < 2 ^ 63) long small) $ fjoin ! $
      rewrite ! 0 (λ (p : Ptr). ‵ (cells_own (Cell-row E) p new.cells new.left)) (sym e) refl $
      pointer_made ! d.start $ fjoin ! $ move ! (2 ∷ 0 ∷ 3 ∷ 4 ∷ 5 ∷ []) $
      closes ! tt (Cells-row E) new (word d.start ∷ []) rb ro $
      returns ! (look_at ! 0 refl) $ free_all ! refl $ keep ! (0 ∷ 1 ∷ 2 ∷ 3 ∷ []) $ by ! (exits passed v))))))))

  entry : Asks E d number
      → ent 𝓤 (on_entry 𝓛 (ended E).signature (κ, tt) (q, tt) (self, (number, tt)) (us0, (us1, tt)))
      (WpFn 𝓤 H C Λ (function E) (us0 ++ (us1 ++ [])) Post)
  entry asked =
      qed 𝓛 ((‵ (flft κ q) ⊛ ‵ ftrue)
      ∷ ‵ (owns (MutRef (named 0) κ (Cells-row E) ∷ usize ∷ []) (self, (number, tt)) (us0, (us1, tt))) ∷ []) ∵
      split ! $ move ! (2 ∷ []) $ fsplit ! $ fsplit3 ! $ feq_l ! (λ e0.
      move ! (2 ∷ []) $ fsplit ! $ fsplit ! $ feq_l ! (λ e1. flt_l ! (λ fits. keep ! (1 ∷ 2 ∷ 3 ∷ []) $
      by ! (subst (λ (ws : List Val × List Val). ent 𝓤 (⋆ 𝓛 Had)
      (WpFn 𝓤 H C Λ (function E) (ws.0 ++ (ws.1 ++ [])) Post)) (λ j. (sym e0 j, sym e1 j)) (walk e0 asked fits)))))

meets : (E : El) {M : Type 1} {𝓤 : Ura M} (𝓛 : Logic 𝓤) (𝓣 : Tables 𝓤 𝓛.H)
    → Meets 𝓛 (ended E).signature (WpFn 𝓤 𝓛.H 𝓣.C 𝓣.Λ (function E)) (closing 𝓛 (ended E) (spec E 𝓛))
meets E {𝓤 = 𝓤} 𝓛 𝓣 =
    walk_Meets 𝓛 (ended E) (stayed E) (
      Goes-ref 𝓛 1 0 tt (plain (λ _. Cells-row E)),
      (Goes-dropped 𝓛 1 (plain (λ _. usize)) yes (λ κs x f. refl), tt),
    ) (spec E 𝓛)
    (WpFn 𝓤 𝓛.H 𝓣.C 𝓣.Λ (function E)) (WpFn-mono 𝓤 𝓛.H 𝓛.laws 𝓣 (function E))
    (λ z. needs 𝓤 (Asks E z.0.3.0.now z.0.3.1.0) _
    (entry E 𝓛 𝓣.C 𝓣.Λ z.0.0.0 z.0.1.0 z.0.3.0.ref_ptr.0 z.0.3.0.ref_ptr.1 z.0.3.0.ghost_name z.0.3.0.now
    z.0.3.1.0 z.0.4.0 z.0.4.1.0))

pub pop_spec : {M : Type 1} → stated.statement M
unfolding tables_of
pop_spec 𝓤 𝓛 𝓜 𝓡 wired X LX y =
    let E : El = record { row = X; laws = LX } in
    let 𝓣 : Tables 𝓤 𝓛.H = tables_of 𝓤 𝓛.H 𝓜 (tables 𝓤 𝓛.H 𝓜 𝓡 𝓡.env) in
    let k = #self (args E) in
    spared 𝓛 (ended E).signature (𝓡.run (𝓡.env k)) (run_framed 𝓤 𝓛.H 𝓜 𝓡 (𝓡.env k)) 1 (X.lives, tt)
    (closing 𝓛 (ended E) (spec E 𝓛))
    (entered 𝓤 𝓛.H (triple_of 𝓛 (ended E).signature (closing 𝓛 (ended E) (spec E 𝓛))) 𝓣.C 𝓣.Λ k (function E)
    (code.unfolded 𝓤 𝓛.H 𝓜 𝓡 wired (X, tt)) (meets E 𝓛 𝓣))
    ((y.0.0, y.0.1, tt, y.0.3, y.0.4), y.1)
