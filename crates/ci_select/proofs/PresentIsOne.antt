-- There is one present block at each leader of a block.
use Rattle.std.proofs.Common.{◌≡◌, ℕ, ◌<◌, ◌⊎◌, true, false, List, [], ◌∷◌, length, refl, sym, ap, ◌∙◌, subst, inl, inr, arith, true≢false}
use Rattle.std.specs.FinSet as finite
use Rattle.std.specs.List.{Contains}
use Rattle.std.specs.Ordering.{nat_cmp}
use Rattle.std.proofs.lemmas.Bool.{cases_lt, eq-eqb}
use Rattle.std.specs.Prelude.{slice_index_or}
use Rattle.std.proofs.lemmas.List.{get_or_default}
use Rattle.ci_isa.specs.declared.instruction.Insn.{Insn}
use Rattle.ci_block.specs.declared.blocks.Block.{Block}
use Rattle.ci_block.specs.Blocks.{AreInOrder}
use Rattle.ci_block.proofs.BlockLaws.{blocks_in_order as in_order_by_leaders}
use Rattle.ci_log.specs.declared.book.Entry.{Entry}
use Rattle.ci_log.specs.declared.book.Entry.TheVariants.{Best, Without, Spent, Take}
use Rattle.ci_rewrite.specs.FoldedBlock.{IsFolded}
use Rattle.ci_rewrite.proofs.Chains.{folded_is_one}
use Rattle.ci_select.specs.Histories.{History, HasCut, is_take, is_take_of}
use Rattle.ci_select.specs.Instances.{Instance, AreOfSomeFile}
use Rattle.ci_select.specs.PresentBlocks.{IsPresent, IsOriginal, original, unchanged, folded, graph_at}
use Rattle.ci_select.specs.Laws.{PresentIsOne}
use Rattle.ci_select.proofs.HistoryLaws.{cut_is_one}

-- ---- blocks

-- blocks of a file are in the order of their leaders
pub blocks_in_order : (instance : Instance) → AreOfSomeFile instance.blocks instance.live → AreInOrder instance.blocks
blocks_in_order instance of_file =
    let analysis = of_file.1.2 in
    in_order_by_leaders analysis.leaders instance.blocks analysis.blocks_are.by_leader analysis.listing.ascending

-- so there is one at a leader
pub one_block :
    (blocks : List Block) (left right : Block) → AreInOrder blocks → Contains blocks left → Contains blocks right
    → left.leader ≡ right.leader → left ≡ right
one_block blocks left right ordered (i, below, is_left) (j, under, is_right) same = elim (cases_three i j) [
  | inl before ↦ absurd (apart left right i j before below under is_left is_right same)
  | inr (inl equal) ↦
      sym is_left ∙ ap (λ k. slice_index_or blocks k left) equal ∙ get_or_default blocks j left right under ∙ is_right
  | inr (inr behind) ↦ absurd (apart right left j i behind under below is_right is_left (sym same))
]
  where
    cases_three : (m n : ℕ) → (m < n) ⊎ ((m ≡ n) ⊎ (n < m))
    cases_three m n = elim (cases_lt m n) [
      | inl less ↦ inl less
      | inr most ↦ elim (cases_lt n m) [ inl more ↦ inr (inr more) | inr least ↦ inr (inl (omega arith)) ]
    ]

    apart : (a b : Block) (m n : ℕ) → m < n → m < length blocks → n < length blocks → slice_index_or blocks m a ≡ a
        → slice_index_or blocks n b ≡ b → a.leader ≡ b.leader → ⊥
    apart a b m n before within there is_a is_b equal =
        let less = ordered m n a before there in
        let at_m : (slice_index_or blocks m a).leader ≡ a.leader = ap (λ (c : Block). c.leader) is_a in
        let at_n : (slice_index_or blocks n a).leader ≡ b.leader =
        ap (λ (c : Block). c.leader) (get_or_default blocks n a b there ∙ is_b) in
        omega (arith, less, at_m, at_n, equal)

-- ---- by the last entry

-- the block was folded last, from these instructions
pub record IsRefolded (instance : Instance) (history : History) (leader unit : ℕ) (new : List Insn) : Type 0 where
  pub insns : List Insn
  pub cut : finite.FinSet nat_cmp
  pub present : IsPresent instance history leader insns
  pub has_cut : HasCut history leader cut
  pub is_folded : IsFolded insns (graph_at instance leader insns) (finite.contains cut) unit new

-- what a present block comes from: from the file, from the present block before, or by a fold of that
abbrev pub ComesBy : Instance → History → ℕ → List Insn → Type 0
ComesBy instance [] leader insns = IsOriginal instance leader insns
ComesBy instance (entry ∷ history) leader insns =
    ((is_take_of leader entry ≡ false) × IsPresent instance history leader insns)
    ⊎ ((unit : ℕ) × (entry ≡ Take leader unit) × IsRefolded instance history leader unit insns)

pub present_cases :
    {instance : Instance} {history : History} {leader : ℕ} {insns : List Insn} → IsPresent instance history leader insns
    → ComesBy instance history leader insns
present_cases (original is) = is
present_cases (unchanged other before) = inl (other, before)
present_cases (folded {unit = unit} cut before has_cut is) = inr (
  unit,
  refl,
  record { insns = _; cut = cut; present = before; has_cut = has_cut; is_folded = is },
)

-- a take is one of its own block
pub takes_its_block : (leader unit : ℕ) (entry : Entry) → entry ≡ Take leader unit → is_take_of leader entry ≡ true
takes_its_block leader unit entry same = ap (is_take_of leader) same ∙ eq-eqb leader leader refl

-- an entry that is no take of the block leaves it as it is
pub present_before :
    {instance : Instance} {entry : Entry} {history : History} {leader : ℕ} {insns : List Insn}
    → is_take_of leader entry ≡ false → IsPresent instance (entry ∷ history) leader insns
    → IsPresent instance history leader insns
present_before {instance} {entry} {history} {leader} other present = elim (present_cases present) [
  | inl (none, before) ↦ before
  | inr (unit, same, is) ↦ absurd (true≢false (sym (takes_its_block leader unit entry same) ∙ other))
]

-- no entry but a take is one of a block
pub search_takes_none : (entry : Entry) (leader : ℕ) → is_take entry ≡ false → is_take_of leader entry ≡ false
search_takes_none (Best l cut log) leader search = refl
search_takes_none (Without l log) leader search = refl
search_takes_none (Spent l budget) leader search = refl
search_takes_none (Take l unit) leader search = absurd (true≢false search)

-- there is a block behind each present one
pub block_of_present :
    {instance : Instance} {history : History} {leader : ℕ} {insns : List Insn} → IsPresent instance history leader insns
    → (block : Block) × Contains instance.blocks block × (block.leader ≡ leader)
block_of_present (original (block, there, leads, is)) = (block, there, leads)
block_of_present (unchanged other before) = block_of_present before
block_of_present (folded cut before has_cut is) = block_of_present before

-- ---- one of each

-- a block of the file has one list of instructions
original_is_one :
    (instance : Instance) (leader : ℕ) (left right : List Insn) → AreInOrder instance.blocks
    → IsOriginal instance leader left → IsOriginal instance leader right → left ≡ right
original_is_one instance leader left right ordered (one, in_one, at_one, is_left) (two, in_two, at_two, is_right) =
    is_left ∙ ap (λ (block : Block). block.insns.items) (one_block instance.blocks one two ordered in_one in_two (at_one ∙ sym at_two)) ∙ sym is_right

-- and so has one that is folded, where what it is folded from is one
refolded_is_one :
    {instance : Instance} {history : History} {leader unit : ℕ} (left right : List Insn)
    (first : IsRefolded instance history leader unit left) (second : IsRefolded instance history leader unit right)
    → first.insns ≡ second.insns → left ≡ right
refolded_is_one {instance} {history} {leader} {unit} left right first second same =
    folded_is_one second.insns (graph_at instance leader second.insns) (finite.contains second.cut) unit left right
    (subst (λ cut. IsFolded second.insns (graph_at instance leader second.insns) (finite.contains cut) unit left)
    (cut_is_one first.has_cut second.has_cut)
    (subst (λ insns. IsFolded insns (graph_at instance leader insns) (finite.contains first.cut) unit left) same first.is_folded))
    second.is_folded

pub present_is_one : PresentIsOne
present_is_one instance [] leader left right ordered first second =
    original_is_one instance leader left right ordered (present_cases first) (present_cases second)
present_is_one instance (entry ∷ history) leader left right ordered first second = elim (present_cases first) [
  | inl (other, before) ↦ present_is_one instance history leader left right ordered before (present_before other second)
  | inr (unit, same, one) ↦ elim (present_cases second) [
    | inl (other, before) ↦ absurd (true≢false (sym (takes_its_block leader unit entry same) ∙ other))
    | inr (number, equal, two) ↦
        let numbers : unit ≡ number = same_unit unit number (sym same ∙ equal) in
        let moved : IsRefolded instance history leader number left =
        subst (λ u. IsRefolded instance history leader u left) numbers one in
        refolded_is_one left right moved two
        (present_is_one instance history leader moved.insns two.insns ordered moved.present two.present)
  ]
]
  where
    same_unit : (u v : ℕ) → Take leader u ≡ Take leader v → u ≡ v
    same_unit u v equal = cc
