-- `cell` shows one cell of the block.
use mathlib.Core.Path.{◌≡◌, refl, sym, subst}
use Prim.Native.Nat.{ℕ, ◌+◌, ◌*◌, ◌<◌, ◌^◌}
use native.Mathlib.Omega.{arith}
use mathlib.Core.List.{List, [], ◌∷◌, ◌++◌}
use lib.ListN.{length, get_or}
use seplogic.Ra.Ura.{Ura}
use mir.Syntax.{Fn, named, w64}
use mir.MapTy.{inst_fn}
use mir.Val.{Val, vptr, vint}
use base.Logic.{SProp, ent, never, id⊢}
use base.Fml.{Lft, Share, ftrue, fhide, flft}
use prog.Wp.{Env, Calls, Loops, WpFn, Tables}
use types.Logic.{Logic}
use contract.Monad.{fact}
use contract.Running.{tables, tables_of}
use sound.WpLaws.{WpFn-mono}
use types.Kit.{Item, ⋆, ‵, ◌⊛◌, at_ret, ◌$◌, ◌∵◌, !, qed, by, move, keep, use1, split, join, rewrite, fsplit}
use types.Kit.{fjoin, feq_i, feq_l, flt_l, suffices, frame, done}
use types.Run.{stop, fld, load, look, bin, size_lit, of_opd, addr, first, blocks, exec, returns, enter}
use types.ByLocal.{alloc_all, pass_all, free_all, look_at, get, through, sets, sets_last, env}
use denote.Exit.{yes}
use denote.RattleType.{owns}
use denote.Memory.{hidden_shr, shared_of}
use denote.RawPtr.{Ptr, block_ptr, in_a_block}
use denote.Ref.{Bor, ShrRef}
use denote.Builtin.{RefOf, usize}
use denote.Signature.{plain}
use denote.Opens.{hide, unhide}
use denote.Steps.{nothing}
use denote.Struct.Lending.{lent_out}
use denote.Triple.Carry.{spared}
use denote.Triple.Clauses.{Clauses, Ended, closing}
use denote.Triple.Entry.{on_entry}
use denote.Triple.Spec.{Meets, triple_of}
use denote.Triple.Table.{entered, run_framed}
use denote.Triple.Walked.{says, needs, Stays, stay_dropped, walk_of, ends_at, Goes-dropped, walk_Meets}
use Rattle.core.proofs.mem.Param.{El, R, args, el_x}
use Rattle.core.proofs.ptr.Rows.{times_below, one_below}
use Rattle.std_alloc.proofs.VecSteps.Shapes.{after}
use Rattle.std_alloc.proofs.Words.{pointer_in, pointer_out}
use Rattle.ci_region.specs.Ownership.{cells_lent}
use Rattle.ci_region.specs.declared.cells.Cell.{Cell}
use Rattle.ci_region.specs.declared.cells.Cell.TheVariants.{Free}
use Rattle.ci_region.specs.contracts.cells.Cells as block
use Rattle.ci_region.proofs.Memory.{Cell-row, Cells-row, Pointer, cell_size, shows_pointer, cell_seen}
use Rattle.ci_region.specs.contracts.cells.Cells.cell.Key.{name as #self}
use Rattle.ci_region.proofs.cells.Cells.cell.Statement as stated
use Rattle.ci_region.proofs.cells.Cells.cell.Code as code

module _ (E : El) where
  abbrev function : Fn
  function = inst_fn (args E) code.function

  abbrev ended : Ended
  ended = record {
    signature = record {
      lifetimes = 1;
      outlives = [];
      params = RefOf (0 ∷ []) tt (plain (λ _. Cells-row E)) (λ _. tt)
          ∷ plain (λ _. usize) ∷ [];
      result = RefOf (0 ∷ []) tt (plain (λ _. Cell-row E)) (λ _. tt);
    };
    kept =
        (yes, (yes, tt));
  }

  abbrev stayed : Stays ended.signature.params ended.kept
  stayed = (
    stay_dropped (RefOf (0 ∷ []) tt (plain (λ _. Cells-row E)) (λ _. tt)) yes,
    (stay_dropped (plain (λ _. usize)) yes, tt),
  )

  abbrev spec : {M : Type 1} {𝓤 : Ura M} (𝓛 : Logic 𝓤) → Clauses 𝓤 ended
  spec {𝓤 = 𝓤} 𝓛 κs a = record {
    ghost = Unit {0};
    requires = λ _. fact 𝓤 (a.1.0 < length a.0.now.cells);
    ensures =
        λ _ r w. fact 𝓤 (r.now ≡ get_or a.0.now.cells a.1.0 (Free 0));
  }

module _ (E : El) {M : Type 1} {𝓤 : Ura M} (𝓛 : Logic 𝓤) (C : Calls 𝓤 𝓛.H) (Λ : Loops 𝓤 𝓛.H) (κ : Lft) (q : Share)
    (rb ro : ℕ) (d : (Cells-row E).Denot) (number : ℕ) (us0 us1 : List Val) where
  open 𝓛 use {H, A}

  abbrev self : Bor (Cells-row E).Denot
  self = record { ref_ptr = (rb, ro); now = d }

  abbrev bound : (walk_of 𝓛 (ended E) (stayed E) (spec E 𝓛)).Ghost
  bound = (((κ, tt), (q, tt), tt, (self, (number, tt)), (us0, (us1, tt))), tt)

  abbrev Post : Val → SProp 𝓤
  Post = (walk_of 𝓛 (ended E) (stayed E) (spec E 𝓛)).post bound

  abbrev x : Cell (el_x E)
  x = get_or d.cells number (Free 0)

  exits : (b o : ℕ) → ent 𝓤 (⋆ 𝓛 (‵ (flft κ q) ∷ ‵ (hidden_shr (Cell-row E) κ x b o) ∷ [])) (Post (vptr b o))
  exits b o =
      qed 𝓛 (‵ (flft κ q) ∷ ‵ (hidden_shr (Cell-row E) κ x b o) ∷ []) ∵ move ! (1 ∷ []) $
      feq_i ! (List Val) (vptr b o ∷ []) (vptr b o ∷ []) refl $ fjoin ! $ move ! (1 ∷ 0 ∷ []) $
      suffices ! _ (ends_at 𝓛 (ended E) (stayed E) (spec E 𝓛) bound (vptr b o) (record { ref_ptr = (b, o); now = x })
      (tt, (tt, tt)) (tt, (tt, tt))) $ says ! refl $
      nothing ! $ move ! (1 ∷ 0 ∷ []) $ join ! $ frame ! $ nothing ! $ nothing ! $ fjoin ! $ nothing ! $ fjoin ! $
      done !

  abbrev Had : List (Item 𝓤)
  Had = ‵ (hidden_shr (Cells-row E) κ d rb ro) ∷ ‵ (flft κ q) ∷ []

  walk : number < length d.cells → number < 2 ^ 64
      → ent 𝓤 (⋆ 𝓛 Had) (WpFn 𝓤 H C Λ (function E) (vptr rb ro ∷ vint w64 number ∷ []) Post)
  walk inside fits =
      qed 𝓛 Had ∵ enter ! C Λ (function E) (vptr rb ro ∷ vint w64 number ∷ []) _ $
      alloc_all ! (λ l. pass_all ! refl ((tt, tt), ((tt, record { fits = fits }), tt)) $
      let En : Env 𝓤 H = env (function E).locals l in
      use1 𝓛 (‵ (hidden_shr Pointer κ (d.start, tt) rb ro) ⊛ ‵ (fhide (block.the_lent (R E) d d.start κ)))
      (lent_out 𝓛 (block.struct (R E)) (block.the_codes (el_x E) (R E).coded) (block.the_heap (R E))
      (block.the_lent (R E)) κ d rb ro) $ split ! $ move ! (1 ∷ []) $
      unhide ! $ in_a_block ! d.start (λ p. cells_lent (Cell-row E) p d.cells d.left κ) (id⊢ 𝓤 (never 𝓤))
      (λ b o e. fsplit ! $ flt_l ! (λ small.
      let s = cell_size E in let tiny : s
      < 2 ^ 64 = omega (arith, one_below (length d.cells + d.left) s (2 ^ 63) (omega arith) small) in
      let far : number * s < 2 ^ 64 = omega
      (arith, times_below number (length d.cells + d.left) s (2 ^ 63) (omega arith) small) in
      use1 𝓛 (‵ (shared_of (Cell-row E) x b (number * s + o) κ))
      (cell_seen (Cell-row E) 𝓛 b κ o d.cells number inside (Free 0)) $ hide ! $ move ! (1 ∷ 2 ∷ []) $
      rewrite ! 0 (λ (p : Ptr). ‵ (hidden_shr Pointer κ (p, tt) rb ro)) e refl $
      -- [a `&` to the pointer; the token; a `&` to the cell]
      first ! $ blocks ! $
      pointer_in ! tt (block_ptr b o) tt rb (ro + 0) (shows_pointer 𝓛 κ (block_ptr b o) rb ro) (λ q0.
      sets ! (of_opd ! (load ! (through ! refl (fld ! refl (stop !))) (look ! 1 refl))) refl (tt, tt) $
      pointer_out ! tt (block_ptr b o) tt rb (ro + 0) $
      sets ! (bin ! (get ! refl) (size_lit ! (record { fits = tiny })) (record { fits = far })) refl
      (tt, record { fits = far }) $
      sets ! (bin ! (get ! refl) (get ! refl) tt) refl (tt, tt) $
      sets_last ! (addr ! (through ! refl (stop !))) refl (tt, tt) $
      exec ! C Λ En (after 1 (function E).body) (at_ret En Post) $ sets ! (of_opd ! (get ! refl)) refl (tt, tt) $
      returns ! (look_at ! 0 refl) $ free_all ! refl $ keep ! (0 ∷ 2 ∷ []) $ by ! (exits b (number * s + o))))))

  entry : number < length d.cells
      → ent 𝓤 (on_entry 𝓛 (ended E).signature (κ, tt) (q, tt) (self, (number, tt)) (us0, (us1, tt)))
      (WpFn 𝓤 H C Λ (function E) (us0 ++ (us1 ++ [])) Post)
  entry asked =
      qed 𝓛 ((‵ (flft κ q) ⊛ ‵ ftrue)
      ∷ ‵ (owns (ShrRef (named 0) κ (Cells-row E) ∷ usize ∷ []) (self, (number, tt)) (us0, (us1, tt))) ∷ []) ∵
      split ! $ move ! (2 ∷ []) $ fsplit ! $ fsplit ! $ feq_l ! (λ e0.
      move ! (1 ∷ []) $ fsplit ! $ fsplit ! $ feq_l ! (λ e1. flt_l ! (λ fits. keep ! (1 ∷ 2 ∷ []) $
      by ! (subst (λ (ws : List Val × List Val). ent 𝓤 (⋆ 𝓛 Had)
      (WpFn 𝓤 H C Λ (function E) (ws.0 ++ (ws.1 ++ [])) Post)) (λ j. (sym e0 j, sym e1 j)) (walk asked fits)))))

meets : (E : El) {M : Type 1} {𝓤 : Ura M} (𝓛 : Logic 𝓤) (𝓣 : Tables 𝓤 𝓛.H)
    → Meets 𝓛 (ended E).signature (WpFn 𝓤 𝓛.H 𝓣.C 𝓣.Λ (function E)) (closing 𝓛 (ended E) (spec E 𝓛))
meets E {𝓤 = 𝓤} 𝓛 𝓣 =
    walk_Meets 𝓛 (ended E) (stayed E) (
      Goes-dropped 𝓛 1 (RefOf (0 ∷ []) tt (plain (λ _. Cells-row E)) (λ _. tt)) yes
          (λ κs x f. refl),
      (Goes-dropped 𝓛 1 (plain (λ _. usize)) yes (λ κs x f. refl), tt),
    ) (spec E 𝓛)
    (WpFn 𝓤 𝓛.H 𝓣.C 𝓣.Λ (function E)) (WpFn-mono 𝓤 𝓛.H 𝓛.laws 𝓣 (function E))
    (λ z. needs 𝓤 (z.0.3.1.0 < length z.0.3.0.now.cells) _
    (entry E 𝓛 𝓣.C 𝓣.Λ z.0.0.0 z.0.1.0 z.0.3.0.ref_ptr.0 z.0.3.0.ref_ptr.1 z.0.3.0.now z.0.3.1.0 z.0.4.0 z.0.4.1.0))

pub cell_spec : {M : Type 1} → stated.statement M
unfolding tables_of
cell_spec 𝓤 𝓛 𝓜 𝓡 wired X LX y =
    let E : El = record { row = X; laws = LX } in
    let 𝓣 : Tables 𝓤 𝓛.H = tables_of 𝓤 𝓛.H 𝓜 (tables 𝓤 𝓛.H 𝓜 𝓡 𝓡.env) in
    let k = #self (args E) in
    spared 𝓛 (ended E).signature (𝓡.run (𝓡.env k)) (run_framed 𝓤 𝓛.H 𝓜 𝓡 (𝓡.env k)) 1 (X.lives, tt)
    (closing 𝓛 (ended E) (spec E 𝓛))
    (entered 𝓤 𝓛.H (triple_of 𝓛 (ended E).signature (closing 𝓛 (ended E) (spec E 𝓛))) 𝓣.C 𝓣.Λ k (function E)
    (code.unfolded 𝓤 𝓛.H 𝓜 𝓡 wired (X, tt)) (meets E 𝓛 𝓣))
    ((y.0.0, y.0.1, tt, y.0.3, y.0.4), y.1)
