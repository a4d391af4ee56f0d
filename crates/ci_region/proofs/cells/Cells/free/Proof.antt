-- `free` makes memory of the cells, and hands it back with the allocator's token.
use mathlib.Core.Path.{◌≡◌, refl, sym, ap, subst, ◌∙◌}
use Prim.Native.Nat.{ℕ, ◌+◌, ◌*◌, ◌<◌, ◌^◌}
use native.Mathlib.Omega.{arith}
use mathlib.Core.List.{List, [], ◌∷◌, ◌++◌}
use lib.Dec.{T}
use lib.ListN.{length}
use seplogic.Ra.Ura.{Ura}
use mir.Syntax.{Fn, named, w32, w64, ty_unit}
use mir.MapTy.{inst_fn}
use mir.Val.{Val, vptr, vint, vunit, has_ty, WT}
use base.Logic.{SProp, ent, never, id⊢}
use base.Fml.{Lft, Share, ftrue, froom, flft, Incl-trans}
use prog.Memory.{Memory, align, capped}
use prog.Capped.{capped_fits}
use prog.Routine.{Routine}
use prog.Wp.{Env, Calls, Loops, WpFn, Tables}
use types.Logic.{Logic}
use contract.BorrowLft.{◌⊑◌}
use contract.Monad.{Fun, fact}
use contract.Running.{tables, tables_of}
use sound.WpLaws.{FmC, fm_of, WpFn-mono}
use types.Kit.{Item, ⋆, ‵, raw, ◌⊛◌, given, later, await, learn, at_ret, ◌$◌, ◌∵◌, !, qed, by, move, keep, use1}
use types.Kit.{use2, split, join, group, rewrite, fsplit, fjoin, feq_i, feq_l, flt_l, suffices, done}
use types.Part.{whole, sub}
use types.Run.{stop, fld, unit_lit, un, bin, of_opd, and_then, no_more, size_word, align_word, first, blocks, exec}
use types.Run.{returns, enter}
use types.ByLocal.{alloc_all, pass_all, free_all, look_at, get, get_in, sets, is, lands_last, env}
use denote.Exit.{yes, no}
use denote.RattleType.{owns}
use denote.Memory.{hidden_shr}
use denote.RawPtr.{Ptr, ptr_val, in_a_block}
use denote.Ref.{Bor, ShrRef}
use denote.Builtin.{RefOf, u32}
use denote.Signature.{plain}
use denote.Steps.{nothing}
use denote.Triple.Call.{calls_at_last}
use denote.Triple.Clauses.{Clauses, Ended, closing}
use denote.Triple.Entry.{on_entry}
use denote.Triple.Spec.{Meets, triple_of}
use denote.Triple.Statement.{Triple}
use denote.Triple.Table.{entered}
use denote.Triple.Walked.{needs, Stays, stay_dropped, walk_of, ends_at, Goes-dropped, walk_Meets}
use Rattle.core.proofs.alloc.Calls.{Al, second, token, gives_key, Gives, at_gives, Gives-goes, Gives-Gives, Goes-blank}
use Rattle.core.proofs.mem.Param.{El}
use Rattle.core.proofs.slots.Leases.{uncapped, args, P}
use Rattle.std_alloc.proofs.RcSteps.{word, word-Good}
use Rattle.std_alloc.proofs.VecSteps.Shapes.{after}
use Rattle.ci_region.specs.CellChanges.{IsLeaseOf}
use Rattle.ci_region.specs.private.Cells.{AreFree}
use Rattle.ci_region.specs.Ownership.{cells_own, lease_owns}
use Rattle.ci_region.proofs.Memory.{Cell-row, Cells-row, Lease-row, cell_size, cell_type, block_type}
use Rattle.ci_region.proofs.Memory.{block_size, block_align, mark, mark_had, pointer_had, to_room}
use Rattle.ci_region.specs.contracts.cells.Cells.free as F
use Rattle.ci_region.specs.contracts.cells.Cells.free.Key.{name as #self}
use Rattle.ci_region.proofs.cells.Cells.free.Statement as stated
use Rattle.ci_region.proofs.cells.Cells.free.Code as code

module _ (E : El) (Z : Al) where
  abbrev function : Fn
  function = inst_fn (args E Z) code.function

  abbrev ended : Ended
  ended = F.ended E.row Z.row Z.g Z.d Z.drops

  abbrev clauses : {M : Type 1} {𝓤 : Ura M} (𝓛 : Logic 𝓤) → (Memory → SProp 𝓤) → (Routine → Fun 𝓤) → Clauses 𝓤 ended
  clauses 𝓛 = F.clauses E.row Z.row Z.g Z.d Z.drops 𝓛

  abbrev stayed : Stays ended.signature.params ended.kept
  stayed = (
    stay_dropped (plain (λ _. Cells-row E)) no,
    (
      stay_dropped (plain (λ _. Lease-row E Z)) no,
      (stay_dropped (plain (λ _. u32)) yes, (stay_dropped (RefOf (0 ∷ []) tt (plain (λ _. P E Z)) (λ _. tt)) yes, tt)),
    ),
  )

  abbrev Asks : (Cells-row E).Denot → (Lease-row E Z).Denot → ℕ → Z.row.Denot → Type 0
  Asks d right count a = IsLeaseOf right d count a × (length d.cells + d.left ≡ count) × AreFree d.cells

module _ (E : El) (Z : Al) {M : Type 1} {𝓤 : Ura M} (𝓛 : Logic 𝓤) (at_mem : Memory → SProp 𝓤) (run : Routine → Fun 𝓤)
    (C : Calls 𝓤 𝓛.H) (Λ : Loops 𝓤 𝓛.H) (fm : FmC 𝓤 𝓛.H 𝓛.laws C)
    (callee : Triple 𝓤 (C (gives_key Z)) (Gives Z 𝓛 at_mem run)) (κ κ₁ κ₂ : Lft) (q q₁ q₂ : Share) (short : κ ⊑ κ₂)
    (within : κ₂ ⊑ Z.row.lives) (rb ro : ℕ) (d : (Cells-row E).Denot) (right : (Lease-row E Z).Denot) (count : ℕ)
    (a : Z.row.Denot) (us0 us1 us2 us3 : List Val) where
  open 𝓛 use {H, A}

  abbrev alloc : Bor Z.row.Denot
  alloc = record { ref_ptr = (rb, ro); now = a }

  abbrev others : Item 𝓤
  others = ‵ (flft κ₁ q₁) ⊛ ‵ (flft κ₂ q₂) ⊛ ‵ ftrue

  abbrev bound : (walk_of 𝓛 (ended E Z) (stayed E Z) (clauses E Z 𝓛 at_mem run)).Ghost
  bound = (
    (
      (κ, (κ₁, (κ₂, tt))),
      (q, (q₁, (q₂, tt))),
      (short, tt),
      (d, (right, (count, (alloc, tt)))),
      (us0, (us1, (us2, (us3, tt)))),
    ),
    tt,
  )

  abbrev Post : Val → SProp 𝓤
  Post = (walk_of 𝓛 (ended E Z) (stayed E Z) (clauses E Z 𝓛 at_mem run)).post bound

  exits : ent 𝓤 (⋆ 𝓛 (‵ (flft κ q) ∷ others ∷ [])) (Post vunit)
  exits =
      qed 𝓛 (‵ (flft κ q) ∷ others ∷ []) ∵
      suffices ! _ (ends_at 𝓛 (ended E Z) (stayed E Z) (clauses E Z 𝓛 at_mem run) bound vunit tt
      (tt, (tt, (tt, (tt, tt)))) (tt, (tt, (tt, (tt, tt))))) $
      join ! $ feq_i ! (List Val) (vunit ∷ []) (vunit ∷ []) refl $ nothing ! $ nothing ! $ fjoin ! $ nothing ! $
      fjoin ! $ nothing ! $ fjoin ! $ nothing ! $ fjoin ! $ join ! $
      move ! (1 ∷ 0 ∷ []) $ join ! $ nothing ! $ move ! (1 ∷ 0 ∷ []) $ done !

  abbrev Had : List (Item 𝓤)
  Had = ‵ (cells_own (Cell-row E) d.start d.cells d.left)
      ∷ ‵ (lease_owns (Cell-row E) (token Z right.alloc) right.start right.count) ∷ ‵ (hidden_shr (P E Z) κ a rb ro)
      ∷ ‵ (flft κ q) ∷ others ∷ []

  walk : Asks E Z d right count a → count < 2 ^ 32
      → ent 𝓤 (⋆ 𝓛 Had) (WpFn 𝓤 H C Λ (function E Z) (word d.start ∷ mark ∷ vint w32 count ∷ vptr rb ro ∷ []) Post)
  walk asked fits =
      qed 𝓛 Had ∵ enter ! C Λ (function E Z) (word d.start ∷ mark ∷ vint w32 count ∷ vptr rb ro ∷ []) _ $
      alloc_all ! (λ l. pass_all ! refl
      (word-Good [] d.start, ((tt, (tt, tt)), ((tt, record { fits = fits }), ((tt, tt), tt)))) $
      let En : Env 𝓤 H = env (function E Z).locals l in
      let s = cell_size E in let al : ℕ = capped (align (cell_type E)) in let wide : count < 2 ^ 64 = omega arith in
      in_a_block ! d.start (λ p. cells_own (Cell-row E) p d.cells d.left) (id⊢ 𝓤 (never 𝓤)) (λ b o e. fsplit ! $
      flt_l ! (λ fit.
      let small : count * s < 2 ^ 63 = subst (λ k. k * s < 2 ^ 63) asked.1 fit in
      let bytes : count * s < 2 ^ 64 = omega arith in
      let y : (Gives Z 𝓛 at_mem run).Ghost = at_gives Z 𝓛 at_mem run κ q (rb, ro) a b o (count * s) al
      (block_type E count) in
      fsplit ! $ use2 𝓛 (‵ (froom (block_type E (length d.cells + d.left)) b o)) (to_room E 𝓛 b d.cells o d.left) $
      rewrite ! 1 (λ (t : Z.row.Denot × Ptr × ℕ). ‵ (lease_owns (Cell-row E) (token Z t.0) t.1 t.2))
      (λ i. (asked.0.2 i, (asked.0.0 ∙ e) i, asked.0.1 i)) refl $
      rewrite ! 0 (λ (k : ℕ). ‵ (froom (block_type E k) b o)) asked.1 refl $
      sets ! (is ! (of_opd ! (get_in ! (fld ! refl (stop !)) (sub ! 0 refl (whole !)))) (ap ptr_val e)) refl (tt, tt)
      $ first ! $ blocks ! $
      sets ! (of_opd ! (get ! refl)) refl (tt, tt) $
      sets ! (un ! (get ! refl) (record { fits = wide })) refl (tt, record { fits = wide }) $
      sets ! (is ! (bin ! (get ! refl) (size_word !)
      (record { fits = subst (λ (k : ℕ). k < 2 ^ 64) (sym (uncapped count s bytes)) bytes }))
      (ap (vint w64) (uncapped count s bytes))) refl (tt, record { fits = bytes }) $
      group ! 4 $ use1 𝓛 (raw ((Gives Z 𝓛 at_mem run).pre y))
      (Gives-goes Z 𝓛 at_mem run κ q (rb, ro) a (Incl-trans short within) b o (count * s) al (block_type E count)
      (block_size E count bytes) (block_align E count) bytes (capped_fits (align (cell_type E)))) $
      calls_at_last ! fm (Gives Z 𝓛 at_mem run) callee y
      (and_then ! (get ! refl) (and_then ! (get ! refl)
      (and_then ! (get ! refl) (and_then ! (align_word !) (no_more !))))) (λ v.
      use1 𝓛 (later (given (v ≡ vunit) (‵ (flft κ q))))
      (Gives-Gives Z 𝓛 at_mem run κ q (rb, ro) a b o (count * s) al (block_type E count) v) $ await ! tt $
      learn ! (λ done_with.
      lands_last ! refl (subst (λ (z : Val). T (has_ty ty_unit z) × WT z) (sym done_with) (tt, tt)) $
      exec ! C Λ En (after 2 (function E Z).body) (at_ret En Post) $
      sets ! (of_opd ! (unit_lit !)) refl (tt, tt) $ returns ! (look_at ! 0 refl) $ free_all ! refl $
      keep ! (0 ∷ 1 ∷ []) $ by ! exits)))))

  entry : Asks E Z d right count a
      → ent 𝓤 (on_entry 𝓛 (ended E Z).signature (κ, (κ₁, (κ₂, tt))) (q, (q₁, (q₂, tt)))
      (d, (right, (count, (alloc, tt)))) (us0, (us1, (us2, (us3, tt)))))
      (WpFn 𝓤 H C Λ (function E Z) (us0 ++ (us1 ++ (us2 ++ (us3 ++ [])))) Post)
  entry asked =
      qed 𝓛 ((‵ (flft κ q) ⊛ others) ∷ ‵ (owns (Cells-row E ∷ Lease-row E Z ∷ u32 ∷ ShrRef (named 0) κ (P E Z) ∷ [])
      (d, (right, (count, (alloc, tt)))) (us0, (us1, (us2, (us3, tt))))) ∷ []) ∵ split ! $ move ! (2 ∷ []) $
      fsplit ! $ fsplit ! $ pointer_had ! d.start us0 (λ e0.
      move ! (1 ∷ []) $ fsplit ! $ fsplit ! $
      mark_had ! E Z us1 (λ e1. move ! (1 ∷ []) $ fsplit ! $ fsplit ! $ feq_l ! (λ e2. flt_l ! (λ fits.
      fsplit ! $ fsplit ! $ feq_l ! (λ e3. keep ! (3 ∷ 2 ∷ 0 ∷ 4 ∷ 5 ∷ []) $
      by ! (subst (λ (ws : List Val × List Val × List Val × List Val). ent 𝓤 (⋆ 𝓛 Had)
      (WpFn 𝓤 H C Λ (function E Z) (ws.0 ++ (ws.1 ++ (ws.2 ++ (ws.3 ++ [])))) Post))
      (λ j. (sym e0 j, sym e1 j, sym e2 j, sym e3 j)) (walk asked fits)))))))

meets : (E : El) (Z : Al) {M : Type 1} {𝓤 : Ura M} (𝓛 : Logic 𝓤) (at_mem : Memory → SProp 𝓤) (run : Routine → Fun 𝓤)
    (𝓣 : Tables 𝓤 𝓛.H) → Triple 𝓤 (𝓣.C (gives_key Z)) (Gives Z 𝓛 at_mem run)
    → Meets 𝓛 (ended E Z).signature (WpFn 𝓤 𝓛.H 𝓣.C 𝓣.Λ (function E Z))
    (closing 𝓛 (ended E Z) (clauses E Z 𝓛 at_mem run))
meets E Z {𝓤 = 𝓤} 𝓛 at_mem run 𝓣 callee =
    walk_Meets 𝓛 (ended E Z) (stayed E Z) (
      Goes-blank 𝓛 3 (plain (λ _. Cells-row E)) no (λ κs x f. tt),
      (
        Goes-blank 𝓛 3 (plain (λ _. Lease-row E Z)) no (λ κs x f. tt),
        (
          Goes-dropped 𝓛 3 (plain (λ _. u32)) yes (λ κs x f. refl),
          (Goes-dropped 𝓛 3 (RefOf (0 ∷ []) tt (plain (λ _. P E Z)) (λ _. tt)) yes (λ κs x f. refl), tt),
        ),
      ),
    )
    (clauses E Z 𝓛 at_mem run) (WpFn 𝓤 𝓛.H 𝓣.C 𝓣.Λ (function E Z)) (WpFn-mono 𝓤 𝓛.H 𝓛.laws 𝓣 (function E Z))
    (λ z. let κs = z.0.0 in let qs = z.0.1 in let a = z.0.3 in let vss = z.0.4 in
    let On : SProp 𝓤 = on_entry 𝓛 (ended E Z).signature κs qs a vss in
    let asks = Asks E Z a.0 a.1.0 a.1.1.0 a.1.1.1.0.now in
    second 𝓤 (κs.1.0 ⊑ E.row.lives) (κs.1.1.0 ⊑ Z.row.lives) On (fact 𝓤 asks) (λ within. needs 𝓤 asks On
    (entry E Z 𝓛 at_mem run 𝓣.C 𝓣.Λ (fm_of 𝓤 𝓛.H 𝓛.laws 𝓣) callee κs.0 κs.1.0 κs.1.1.0 qs.0 qs.1.0 qs.1.1.0 z.0.2.0
    within a.1.1.1.0.ref_ptr.0 a.1.1.1.0.ref_ptr.1 a.0 a.1.0 a.1.1.0 a.1.1.1.0.now vss.0 vss.1.0 vss.1.1.0
    vss.1.1.1.0)))

pub free_spec : {M : Type 1} → stated.statement M
unfolding tables_of
free_spec 𝓤 𝓛 𝓜 𝓡 wired X W LX LW g d dd met md =
    let E : El = record { row = X; laws = LX } in
    let Z : Al = record { row = W; laws = LW; g = g; d = d; drops = dd } in
    let 𝓣 : Tables 𝓤 𝓛.H = tables_of 𝓤 𝓛.H 𝓜 (tables 𝓤 𝓛.H 𝓜 𝓡 𝓡.env) in
    entered 𝓤 𝓛.H (triple_of 𝓛 (ended E Z).signature (F.spec X W g d dd 𝓛 𝓜.mem 𝓡.returns)) 𝓣.C 𝓣.Λ
    (#self (args E Z)) (function E Z) (code.unfolded 𝓤 𝓛.H 𝓜 𝓡 wired (X, (W, tt)) d dd)
    (meets E Z 𝓛 𝓜.mem 𝓡.returns 𝓣 (met.deallocate dd))
