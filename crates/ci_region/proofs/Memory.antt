-- What the proofs by hand of the functions with pointers share: that the value of a block is one pointer; how one cell
-- is taken out of the others, put back, or seen; the room behind the cells, and how cells are forgotten; and the values
-- of a lease, a pair and a live cell.
use mathlib.Core.Path.{◌≡◌, refl, sym, ap, subst, ◌∙◌}
use Prim.Native.Nat.{ℕ, zero, suc, ◌+◌, ◌-◌, ◌*◌, ◌<◌, ◌≤◌, ◌^◌}
use native.Mathlib.Omega.{arith}
use native.Mathlib.Nat.{zero-mul, suc-mul}
use mathlib.Core.List.{List, [], ◌∷◌, ◌++◌}
use lib.ListN.{length, take, drop, set, get_or, take-append-drop, length-take}
use lib.Seq.{drop-cons, set_split}
use seplogic.Ra.Ura.{Ura}
use base.Fraction.{full_share}
use mir.Syntax.{Ty, ty_array}
use mir.Val.{Val, vstruct, vcons, vnil, of_list}
use mir.Raw.{raw as bare}
use prog.Memory.{size, align, capped}
use prog.Capped.{capped_is}
use prog.RawLaws.{size-raw, align-raw}
use base.Logic.{SProp, ent, sep, emp, via, snd∗, id⊢}
use base.Fml.{Fml, Lft, ftrue, fsep, fat, froom}
use types.Logic.{Logic, sem}
use types.Match.{live}
use types.Run.{forget}
use contract.Monad.{fact, fact_i}
use types.Kit.{Item, Goal, Seq, Step, step, prop, ‵, raw, some, ◌⊛◌, ◌$◌, ◌∵◌, !, qed, pick, move, keep, drop as skip}
use types.Kit.{use0, use1, use2, split, frame, fsplit, fjoin, fpick, fpack, feq_i, feq_l, rewrite, done}
use borrow.Table.OneValue.{part_out}
use denote.RattleType.{RattleType, Valss, owns}
use denote.Memory.{part_at, shared_of, hidden_shr}
use denote.Opens.{shr_dup, unhide, hide}
use denote.RawPtr.{Ptr, RawPtr, ptr_val, ptr_row_laws}
use denote.Param.{layout}
use denote.Steps.{nothing, peeks}
use denote.Laws.{Is, shows}
use denote.Shadow.{makes_shadow}
use denote.Struct.Struct.{Shape, Struct, within, Struct-row_laws}
use denote.Struct.Owning.{shape as owning_shape}
use denote.Struct.Declared.{shape as struct_shape}
use denote.Struct.Tuple.{Tuple, tuple_type}
use denote.Enum.Row.{tagged_with}
use denote.Enum.Enum.{form_of, in_a_row}
use denote.Enum.Declared.{shape}
use Rattle.std.specs.Mem.{type_size}
use Rattle.core.proofs.mem.Param.{El, R, el_x, elτ, one, lawful}
use Rattle.core.proofs.alloc.Calls.{Al}
use Rattle.core.proofs.slots.Leases.{P}
use Rattle.std_alloc.proofs.RawLayout.{as_raw, as_written}
use Rattle.std_alloc.proofs.RcSteps.{Good, word}
use Rattle.ci_region.specs.Ownership.{cells_at, cells_lent_at, room_behind}
use Rattle.ci_region.specs.contracts.cells.Cells as block
use Rattle.ci_region.specs.contracts.cells.Cell as cell
use Rattle.ci_region.specs.contracts.cells.Lease as lease
use Rattle.ci_region.specs.declared.cells.Cell.{Cell}
use Rattle.ci_region.specs.declared.cells.Cell.TheVariants.{Live}
use Rattle.std.proofs.lemmas.List.{length_push}

module _ (E : El) where
  abbrev pub Cells : Type 0
  Cells = List (Cell (el_x E))

  abbrev pub Cell-row : RattleType
  Cell-row = cell.the_row (R E)

  abbrev pub Cells-row : RattleType
  Cells-row = block.the_row (R E)

  abbrev pub cell_size : ℕ
  cell_size = type_size Cell-row

abbrev one_field : Shape
one_field = record { name = []; args = []; types = []; fields = RawPtr ∷ [] }

-- the data of a block, as a plain struct
abbrev pub Pointer : RattleType
Pointer = Struct one_field

module _ {M : Type 1} {𝓤 : Ura M} {𝓛 : Logic 𝓤} {K : Type 0} {Γ : List (Item 𝓤)} {G : Goal 𝓤 𝓛.H} where
  pub pointer_had : K → (c : Ptr) (vs : List Val) → (vs ≡ word c ∷ [] → Seq K 𝓛 Γ G)
      → Seq K 𝓛 (‵ (Pointer.own_val (c, tt) vs) ∷ Γ) G
  pointer_had t c vs k =
      fpick t (λ vss. fsplit t $ feq_l t (λ ev. fsplit t $ feq_l t (λ e. skip t $
      k (subst (λ (ws : List Val). vs ≡ vstruct (of_list (ws ++ [])) ∷ []) e ev))))

  pub pointer_made : K → (c : Ptr) → Step K 𝓛 (‵ (Pointer.own_val (c, tt) (word c ∷ [])) ∷ Γ) G Γ G
  pointer_made t c = step (λ s.
      nothing t $ feq_i t (List Val) (ptr_val c ∷ []) (ptr_val c ∷ []) refl $ fjoin t $
      feq_i t (List Val) (word c ∷ []) (word c ∷ []) refl $ fjoin t $
      fpack t (Valss (RawPtr ∷ [])) (within one_field (c, tt) (word c ∷ [])) (ptr_val c ∷ [], tt) $ s)

module _ {M : Type 1} {𝓤 : Ura M} {𝓛 : Logic 𝓤} {K : Type 0} {Γ : List (Item 𝓤)} where
  -- two clauses hold
  pub says_both : K → {φ ψ : Type 0} {P : SProp 𝓤} → φ → ψ
      → Step K 𝓛 Γ (prop P) Γ (prop (sep 𝓤 P (sep 𝓤 (fact 𝓤 φ) (fact 𝓤 ψ))))
  says_both t {φ} {ψ} {P} x y = step (λ s. record {
    prf = via 𝓤 P s.prf (qed 𝓛 (raw P ∷ []) {P = sep 𝓤 P (sep 𝓤 (fact 𝓤 φ) (fact 𝓤 ψ))} (frame ! $
        use0 𝓛 (raw (fact 𝓤 ψ)) (fact_i 𝓤 ψ (emp 𝓤) y) $ use0 𝓛 (raw (fact 𝓤 φ)) (fact_i 𝓤 φ (emp 𝓤) x) $ done !));
  })

-- a `&` to the data of a block shows the pointer
pub shows_pointer : {M : Type 1} {𝓤 : Ura M} (𝓛 : Logic 𝓤) (κ : Lft) (c : Ptr) (b o : ℕ)
    → ent 𝓤 (sem 𝓛 (hidden_shr Pointer κ (c, tt) b o))
    (sep 𝓤 (sem 𝓛 (hidden_shr RawPtr κ c b (o + 0))) (sem 𝓛 (hidden_shr Pointer κ (c, tt) b o)))
shows_pointer 𝓛 κ c b o =
    qed 𝓛 (‵ (hidden_shr Pointer κ (c, tt) b o) ∷ []) ∵
    shr_dup ! Pointer (Struct-row_laws one_field (ptr_row_laws, tt)) (c, tt) b o κ $
    unhide ! $ fsplit ! $ fsplit ! $ hide ! $ keep ! (0 ∷ 3 ∷ []) $ done !

module _ (C : RattleType) {M : Type 1} {𝓤 : Ura M} (𝓛 : Logic 𝓤) (b : ℕ) where
  open 𝓛 use {H}

  abbrev s : ℕ
  s = type_size C

  abbrev Row : ℕ → List C.Denot → Fml
  Row = cells_at C b

  cut : (xs ys : List C.Denot) (o at : ℕ) → at ≡ length xs * s + o
      → ent 𝓤 (sem 𝓛 (Row o (xs ++ ys))) (sep 𝓤 (sem 𝓛 (Row o xs)) (sem 𝓛 (Row at ys)))
  cut [] ys o at e =
      qed 𝓛 (‵ (Row o ys) ∷ []) ∵
      rewrite ! 0 (λ (k : ℕ). ‵ (Row k ys)) {x = at} (omega (arith, zero-mul s)) refl $ nothing ! $ done !
  cut (x ∷ xs) ys o at e =
      let more : at ≡ suc (length xs) * s + o = e in
      qed 𝓛 (‵ (Row o (x ∷ xs ++ ys)) ∷ []) ∵ fsplit ! $ move ! (1 ∷ []) $
      use1 𝓛 (‵ (Row (o + s) xs) ⊛ ‵ (Row at ys)) (cut xs ys (o + s) at (omega (arith, suc-mul (length xs) s))) $
      split ! $ move ! (2 ∷ 0 ∷ []) $ fjoin ! $ done !

  glue : (xs ys : List C.Denot) (o at : ℕ) → at ≡ length xs * s + o
      → ent 𝓤 (sep 𝓤 (sem 𝓛 (Row o xs)) (sem 𝓛 (Row at ys))) (sem 𝓛 (Row o (xs ++ ys)))
  glue [] ys o at e =
      qed 𝓛 (‵ ftrue ∷ ‵ (Row at ys) ∷ []) ∵ skip ! $
      rewrite ! 0 (λ (k : ℕ). ‵ (Row k ys)) {x = o} (omega (arith, zero-mul s)) refl $ done !
  glue (x ∷ xs) ys o at e =
      let more : at ≡ suc (length xs) * s + o = e in
      qed 𝓛 (‵ (Row o (x ∷ xs)) ∷ ‵ (Row at ys) ∷ []) ∵ fsplit ! $ move ! (1 ∷ 2 ∷ []) $
      use2 𝓛 (‵ (Row (o + s) (xs ++ ys))) (glue xs ys (o + s) at (omega (arith, suc-mul (length xs) s))) $
      move ! (1 ∷ 0 ∷ []) $ fjoin ! $ done !

  -- a cell more at the end of a row
  pub joined_cell : (xs : List C.Denot) (x : C.Denot) (o : ℕ)
      → ent 𝓤 (sep 𝓤 (sem 𝓛 (Row o xs)) (sem 𝓛 (part_at C full_share x b (length xs * s + o))))
      (sem 𝓛 (Row o (xs ++ x ∷ [])))
  joined_cell xs x o =
      qed 𝓛 (‵ (Row o xs) ∷ ‵ (part_at C full_share x b (length xs * s + o)) ∷ []) ∵ nothing ! $ move ! (2 ∷ 0 ∷ []) $
      fjoin ! $ move ! (1 ∷ 0 ∷ []) $
      use2 𝓛 (‵ (Row o (xs ++ x ∷ []))) (glue xs (x ∷ []) o (length xs * s + o) refl) $ done !

  -- the last cell of a row, and the others
  pub last_out : (o : ℕ) (cells : List C.Denot) (i : ℕ) → i + 1 ≡ length cells → (d : C.Denot)
      → ent 𝓤 (sem 𝓛 (Row o cells))
      (sep 𝓤 (sem 𝓛 (part_at C full_share (get_or cells i d) b (i * s + o))) (sem 𝓛 (Row o (take i cells))))
  last_out o cells i last d =
      let long : i ≡ length (take i cells) = omega (arith, length-take i cells, last) in
      qed 𝓛 (‵ (Row o cells) ∷ []) ∵
      rewrite ! 0 (λ (l : List C.Denot). ‵ (Row o l))
      (sym (take-append-drop i cells) ∙ ap (λ l. take i cells ++ l) (drop-cons cells i d (omega (arith, last)))) refl $
      use1 𝓛 (‵ (Row o (take i cells)) ⊛ ‵ (Row (i * s + o) (get_or cells i d ∷ drop (suc i) cells)))
      (cut (take i cells) (get_or cells i d ∷ drop (suc i) cells) o (i * s + o) (ap (λ k. k * s + o) long)) $
      split ! $ move ! (1 ∷ []) $ fsplit ! $ keep ! (0 ∷ 2 ∷ []) $ done !

  module _ (o : ℕ) (cells : List C.Denot) (i : ℕ) (lt : i < length cells) (d : C.Denot) where
    -- the cells but for the i-th
    abbrev pub Besides : Fml
    Besides = fsep (Row o (take i cells)) (Row (i * s + o + s) (drop (suc i) cells))

    before : i * s + o ≡ length (take i cells) * s + o
    before = let long : i ≡ length (take i cells) = omega (arith, length-take i cells) in ap (λ k. k * s + o) long

    pub cell_out : ent 𝓤 (sem 𝓛 (Row o cells))
        (sep 𝓤 (sem 𝓛 (part_at C full_share (get_or cells i d) b (i * s + o))) (sem 𝓛 Besides))
    cell_out =
        qed 𝓛 (‵ (Row o cells) ∷ []) ∵
        rewrite ! 0 (λ (l : List C.Denot). ‵ (Row o l))
        (sym (take-append-drop i cells) ∙ ap (λ l. take i cells ++ l) (drop-cons cells i d lt)) refl $
        use1 𝓛 (‵ (Row o (take i cells)) ⊛ ‵ (Row (i * s + o) (get_or cells i d ∷ drop (suc i) cells)))
        (cut (take i cells) (get_or cells i d ∷ drop (suc i) cells) o (i * s + o) before) $
        split ! $ move ! (1 ∷ []) $ fsplit ! $ move ! (2 ∷ 1 ∷ []) $ fjoin ! $ move ! (1 ∷ []) $ done !

    pub cell_in : (c : C.Denot)
        → ent 𝓤 (sep 𝓤 (sem 𝓛 (part_at C full_share c b (i * s + o))) (sem 𝓛 Besides)) (sem 𝓛 (Row o (set cells i c)))
    cell_in c =
        qed 𝓛 (‵ (part_at C full_share c b (i * s + o)) ∷ ‵ Besides ∷ []) ∵ move ! (1 ∷ []) $ fsplit ! $
        move ! (2 ∷ 1 ∷ []) $ fjoin ! $ move ! (1 ∷ 0 ∷ []) $
        use2 𝓛 (‵ (Row o (take i cells ++ c ∷ drop (suc i) cells)))
        (glue (take i cells) (c ∷ drop (suc i) cells) o (i * s + o) before) $
        rewrite ! 0 (λ (l : List C.Denot). ‵ (Row o l)) (sym (set_split cells i c lt)) refl $ done !

  module _ (κ : Lft) where
    abbrev Seen : ℕ → List C.Denot → Fml
    Seen o cells = cells_lent_at C b o cells κ

    from_on : (cells : List C.Denot) (i o at : ℕ) → i ≤ length cells → at ≡ i * s + o
        → ent 𝓤 (sem 𝓛 (Seen o cells)) (sem 𝓛 (Seen at (drop i cells)))
    from_on cells zero o at le e =
        let same : o ≡ at = omega (arith, zero-mul s) in
        subst (λ k. ent 𝓤 (sem 𝓛 (Seen o cells)) (sem 𝓛 (Seen k cells))) same (id⊢ 𝓤 _)
    from_on [] (suc i) o at le e = absurd (omega arith)
    from_on (c ∷ cells) (suc i) o at le e =
        via 𝓤 (sem 𝓛 (Seen (o + s) cells)) (snd∗ 𝓤 (sem 𝓛 (shared_of C c b o κ)) (sem 𝓛 (Seen (o + s) cells)))
        (from_on cells i (o + s) at (omega arith) (omega (arith, suc-mul i s)))

    pub cell_seen : (o : ℕ) (cells : List C.Denot) (i : ℕ) → i < length cells → (d : C.Denot)
        → ent 𝓤 (sem 𝓛 (Seen o cells)) (sem 𝓛 (shared_of C (get_or cells i d) b (i * s + o) κ))
    cell_seen o cells i lt d =
        qed 𝓛 (‵ (Seen o cells) ∷ []) ∵
        use1 𝓛 (‵ (Seen (i * s + o) (drop i cells))) (from_on cells i o (i * s + o) (omega arith) refl) $
        rewrite ! 0 (λ (l : List C.Denot). ‵ (Seen (i * s + o) l)) (drop-cons cells i d lt) refl $
        fsplit ! $ keep ! (0 ∷ []) $ done !

-- ---- room for cells

module _ (E : El) where
  abbrev pub cell_type : Ty
  cell_type = layout (Cell-row E)

  -- the type that memory for so many cells is asked for
  abbrev pub block_type : ℕ → Ty
  block_type count = bare (ty_array cell_type count)

  pub block_size : (count : ℕ) → count * cell_size E < 2 ^ 64 → capped (size (block_type count)) ≡ count * cell_size E
  block_size count fits = ap capped (size-raw (ty_array cell_type count)) ∙ capped_is (count * cell_size E) fits

  pub block_align : (count : ℕ) → capped (align (block_type count)) ≡ capped (align cell_type)
  block_align count = ap capped (align-raw (ty_array cell_type count))

module _ (E : El) {M : Type 1} {𝓤 : Ura M} (𝓛 : Logic 𝓤) (b o : ℕ) where
  open 𝓛 use {H}

  -- behind the cells, the room for the next one and that for the others
  pub next_room : (cells : Cells E) (value : el_x E) (left : ℕ) → 0 < left
      → ent 𝓤 (sem 𝓛 (room_behind (Cell-row E) b o cells left))
      (sep 𝓤 (H.room (cell_type E) b (length cells * cell_size E + o))
      (sem 𝓛 (room_behind (Cell-row E) b o (cells ++ Live value ∷ []) (left - 1))))
  next_room cells value left room =
      let s = cell_size E in let at : ℕ = length cells * s + o in
      let after : Cells E = cells ++ Live value ∷ [] in
      let longer : suc (length cells) ≡ length after = omega (arith, length_push cells (Live value)) in
      let beside : at + s ≡ suc (length cells) * s + o = omega (arith, suc-mul (length cells) s) in
      let behind : at + s ≡ length after * s + o = beside ∙ ap (λ k. k * s + o) longer in
      let more : left ≡ suc (left - 1) = omega arith in
      qed 𝓛 (‵ (froom (block_type E left) b at) ∷ []) ∵ as_written ! (ty_array (cell_type E) left) b at $
      rewrite ! 0 (λ (k : ℕ). ‵ (froom (ty_array (cell_type E) k) b at)) more refl $
      use1 𝓛 (‵ (froom (cell_type E) b at) ⊛ ‵ (froom (ty_array (cell_type E) (left - 1)) b (at + s)))
      (𝓛.laws.room_uncons (cell_type E) (left - 1) b at) $ split ! $ move ! (1 ∷ []) $
      as_raw ! (ty_array (cell_type E) (left - 1)) b (at + s) $
      rewrite ! 0 (λ (k : ℕ). ‵ (froom (block_type E (left - 1)) b k)) behind refl $
      move ! (1 ∷ 0 ∷ []) $ done !

  -- the room of the last cell and that behind it, where it isn't reached any more
  pub last_room : (cells : Cells E) (number left : ℕ) → number + 1 ≡ length cells
      → ent 𝓤 (sep 𝓤 (H.room (cell_type E) b (number * cell_size E + o))
      (sem 𝓛 (room_behind (Cell-row E) b o cells left)))
      (sem 𝓛 (room_behind (Cell-row E) b o (take number cells) (left + (length cells - number))))
  last_room cells number left last =
      let s = cell_size E in let at : ℕ = number * s + o in
      let kept : length (take number cells) ≡ number = omega (arith, length-take number cells, last) in
      let beside : suc number * s + o ≡ at + s = omega (arith, suc-mul number s) in
      let more : suc number ≡ length cells = omega (arith, last) in
      let behind : length cells * s + o ≡ at + s = ap (λ k. k * s + o) (sym more) ∙ beside in
      let one : suc left ≡ left + (length cells - number) = omega (arith, last) in
      qed 𝓛 (‵ (froom (cell_type E) b at) ∷ ‵ (froom (block_type E left) b (length cells * s + o)) ∷ []) ∵
      move ! (1 ∷ []) $ rewrite ! 0 (λ (k : ℕ). ‵ (froom (block_type E left) b k)) behind refl $
      as_written ! (ty_array (cell_type E) left) b (at + s) $ move ! (1 ∷ 0 ∷ []) $
      use2 𝓛 (‵ (froom (ty_array (cell_type E) (suc left)) b at)) (𝓛.laws.room_cons (cell_type E) left b at) $
      as_raw ! (ty_array (cell_type E) (suc left)) b at $
      rewrite ! 0 (λ (k : ℕ × ℕ). ‵ (froom (block_type E k.0) b (k.1 * s + o))) (λ j. (one j, sym kept j)) refl $ done !

module _ (E : El) {M : Type 1} {𝓤 : Ura M} (𝓛 : Logic 𝓤) (b : ℕ) where
  open 𝓛 use {H}

  -- where no cell is reached, all is room
  pub of_room : (o count : ℕ) → ent 𝓤 (H.room (block_type E count) b o)
      (sem 𝓛 (fsep (cells_at (Cell-row E) b o []) (room_behind (Cell-row E) b o [] count)))
  of_room o count =
      let front : o ≡ 0 * cell_size E + o = omega (arith, zero-mul (cell_size E)) in
      qed 𝓛 (‵ (froom (block_type E count) b o) ∷ []) ∵
      rewrite ! 0 (λ (k : ℕ). ‵ (froom (block_type E count) b k)) front refl $ nothing ! $ fjoin ! $ done !

  -- room for typed cells behind these
  abbrev Behind : ℕ → Cells E → ℕ → Fml
  Behind o cells left = froom (ty_array (cell_type E) left) b (length cells * cell_size E + o)

  -- the cells are forgotten, and all is room
  forgotten : (cells : Cells E) (o left : ℕ)
      → ent 𝓤 (sep 𝓤 (sem 𝓛 (cells_at (Cell-row E) b o cells)) (sem 𝓛 (Behind o cells left)))
      (H.room (ty_array (cell_type E) (length cells + left)) b o)
  forgotten [] o left =
      let front : 0 * cell_size E + o ≡ o = omega (arith, zero-mul (cell_size E)) in
      let all : left ≡ 0 + left = omega arith in
      qed 𝓛 (‵ ftrue ∷ ‵ (Behind o [] left) ∷ []) ∵ skip ! $
      rewrite ! 0 (λ (k : ℕ × ℕ). ‵ (froom (ty_array (cell_type E) k.0) b k.1)) (λ j. (all j, front j)) refl $ done !
  forgotten (c ∷ cells) o left =
      let s = cell_size E in
      let behind : suc (length cells) * s + o ≡ length cells * s + (o + s) = omega (arith, suc-mul (length cells) s) in
      let all : suc (length cells + left) ≡ suc (length cells) + left = omega arith in
      qed 𝓛 (‵ (cells_at (Cell-row E) b o (c ∷ cells)) ∷ ‵ (Behind o (c ∷ cells) left) ∷ []) ∵
      move ! (1 ∷ []) $ rewrite ! 0 (λ (k : ℕ). ‵ (froom (ty_array (cell_type E) left) b k)) behind refl $
      move ! (1 ∷ []) $ fsplit ! $
      use1 𝓛 (some (λ (v : Val). ‵ (fat full_share (cell_type E) b o v) ⊛ ‵ ((Cell-row E).own_val c (v ∷ []))))
      (part_out 𝓛 (Cell-row E) refl full_share c b o) $
      pick ! (λ v. split ! $ forget ! 0 refl $ move ! (2 ∷ 3 ∷ []) $
      use2 𝓛 (‵ (froom (ty_array (cell_type E) (length cells + left)) b (o + s))) (forgotten cells (o + s) left) $
      keep ! (1 ∷ 0 ∷ []) $
      use2 𝓛 (‵ (froom (ty_array (cell_type E) (suc (length cells + left))) b o))
      (𝓛.laws.room_cons (cell_type E) (length cells + left) b o) $
      rewrite ! 0 (λ (k : ℕ). ‵ (froom (ty_array (cell_type E) k) b o)) all refl $ done !)

  pub to_room : (cells : Cells E) (o left : ℕ)
      → ent 𝓤 (sep 𝓤 (sem 𝓛 (cells_at (Cell-row E) b o cells)) (sem 𝓛 (room_behind (Cell-row E) b o cells left)))
      (H.room (block_type E (length cells + left)) b o)
  to_room cells o left =
      qed 𝓛 (‵ (cells_at (Cell-row E) b o cells) ∷ ‵ (room_behind (Cell-row E) b o cells left) ∷ []) ∵ move ! (1 ∷ []) $
      as_written ! (ty_array (cell_type E) left) b (length cells * cell_size E + o) $ move ! (1 ∷ 0 ∷ []) $
      use2 𝓛 (‵ (froom (ty_array (cell_type E) (length cells + left)) b o)) (forgotten cells o left) $
      as_raw ! (ty_array (cell_type E) (length cells + left)) b o $ done !

-- ---- the right to free the memory, and what makes a block

abbrev pub mark : Val
mark = vstruct (vcons (vstruct vnil) vnil)

abbrev pub two_value : Val → Val → Val
two_value u v = vstruct (vcons u (vcons v vnil))

module _ (E : El) (Z : Al) where
  abbrev pub Lease-row : RattleType
  Lease-row = lease.the_row (R E) (P E Z) Z.g

  -- the one field of a lease, which takes no bytes
  abbrev pub Mark : RattleType
  Mark = Struct (owning_shape (lease.the_type (R E) (P E Z) Z.g))

  pub mark_made : {M : Type 1} {𝓤 : Ura M} (𝓛 : Logic 𝓤) → ent 𝓤 (emp 𝓤) (sem 𝓛 (Mark.own_val (tt, tt) (mark ∷ [])))
  mark_made 𝓛 = makes_shadow 𝓛 (Mark.own_val (tt, tt) (mark ∷ [])) (λ vss. (tt, ((λ uss. (tt, tt)), tt)))
      ((vstruct vnil ∷ [], tt), (refl, ((tt, (refl, tt)), tt)))

module _ {M : Type 1} {𝓤 : Ura M} {𝓛 : Logic 𝓤} {K : Type 0} {Γ : List (Item 𝓤)} {G : Goal 𝓤 𝓛.H} where
  pub mark_had : K → (E : El) (Z : Al) (vs : List Val) → (vs ≡ mark ∷ [] → Seq K 𝓛 Γ G)
      → Seq K 𝓛 (‵ ((Mark E Z).own_val (tt, tt) vs) ∷ Γ) G
  mark_had t E Z vs k = fpick t (λ vss. fsplit t $
      feq_l t (λ ev. fsplit t $ fpick t (λ uss. fsplit t $ feq_l t (λ e. skip t $ skip t $
      k (subst (λ (ws : List Val). vs ≡ vstruct (of_list (ws ++ [])) ∷ []) e ev)))))

pub two_of : {M : Type 1} {𝓤 : Ura M} (𝓛 : Logic 𝓤) (S T : RattleType) (x : S.Denot) (y : T.Denot) (u v : Val)
    → ent 𝓤 (sep 𝓤 (sem 𝓛 (S.own_val x (u ∷ []))) (sem 𝓛 (T.own_val y (v ∷ []))))
    (sem 𝓛 ((Tuple (S ∷ T ∷ [])).own_val (x, y) (two_value u v ∷ [])))
two_of 𝓛 S T x y u v =
    qed 𝓛 (‵ (S.own_val x (u ∷ [])) ∷ ‵ (T.own_val y (v ∷ [])) ∷ []) ∵ nothing ! $ move ! (2 ∷ 0 ∷ []) $ fjoin ! $
    move ! (1 ∷ 0 ∷ []) $ fjoin ! $
    feq_i ! (List Val) (two_value u v ∷ []) (two_value u v ∷ []) refl $ fjoin ! $
    fpack ! (Valss (S ∷ T ∷ [])) (within (struct_shape (tuple_type (S ∷ T ∷ []))) (x, (y, tt)) (two_value u v ∷ []))
    (u ∷ [], (v ∷ [], tt)) $ done !

-- ---- the value of a live cell

module _ (E : El) where
  -- the machine's value of it
  abbrev pub live_value : Val → Val
  live_value v = live 0 (of_list (v ∷ []))

  pub live_made : {M : Type 1} {𝓤 : Ura M} (𝓛 : Logic 𝓤) (value : el_x E) (v : Val)
      → ent 𝓤 (sem 𝓛 ((R E).own_val value (v ∷ []))) (sem 𝓛 ((Cell-row E).own_val (Live value) (live_value v ∷ [])))
  live_made 𝓛 value v =
      qed 𝓛 (‵ ((R E).own_val value (v ∷ [])) ∷ []) ∵ nothing ! $ move ! (1 ∷ 0 ∷ []) $ fjoin ! $
      feq_i ! (List Val) (v ∷ []) (v ∷ []) refl $ fjoin ! $
      fpack ! (Valss (R E ∷ [])) (in_a_row (R E ∷ []) (owns (R E ∷ []) (value, tt)) (v ∷ [])) (v ∷ [], tt) $
      feq_i ! (List Val) (live_value v ∷ []) (live_value v ∷ []) refl $ fjoin ! $
      fpack ! (List Val) (tagged_with (form_of (shape (cell.the_type (R E))))
      (form_of (shape (cell.the_type (R E)))).payload ((cell.the_type (R E)).to (Live value))
      (live_value v ∷ [])) (v ∷ []) $ done !

module _ {M : Type 1} {𝓤 : Ura M} {𝓛 : Logic 𝓤} {K : Type 0} {Γ : List (Item 𝓤)} {G : Goal 𝓤 𝓛.H} where
  -- a value of the parameter's type is one value of the machine, of that type
  pub value_had : K → (E : El) (x : el_x E) (vs : List Val)
      → ((v : Val) → vs ≡ v ∷ [] → Good (elτ E) v → Seq K 𝓛 (‵ ((R E).own_val x (v ∷ [])) ∷ Γ) G)
      → Seq K 𝓛 (‵ ((R E).own_val x vs) ∷ Γ) G
  value_had t E x vs k =
      peeks t (R E) (Is (R E)) (shows 𝓛 (R E)) x vs (λ is.
      let alone = one E vs ((lawful E 𝓛).typed x vs is) in
      rewrite t 0 (λ (us : List Val). ‵ ((R E).own_val x us)) alone.1 refl $ k alone.0 alone.1 alone.2)
