-- What the definitions give, by computing.
use Rattle.std.proofs.Common.{◌≡◌, [], ◌∷◌, refl}
use Rattle.ci_log.specs.declared.log.Item.TheVariants.{B, O, G, F}
use Rattle.ci_log.specs.Packed.{more_leaves, packed}

-- two logs
pub a_tree : packed (B ∷ B ∷ O ∷ B ∷ O ∷ F ∷ B ∷ B ∷ F ∷ F ∷ G ∷ []) ≡ 0x00 ∷ 0x10 ∷ 0x15 ∷ 0x00 ∷ 0x56 ∷ 0x40 ∷ []
a_tree = refl

a_leaf : packed (G ∷ []) ≡ 0x40 ∷ []
a_leaf = refl

-- runs of 2, 10, 11, 12, 21 and 31 leaves
two : more_leaves 1 ≡ 6 ∷ []
two = refl

ten : more_leaves 9 ≡ 14 ∷ []
ten = refl

eleven : more_leaves 10 ≡ 15 ∷ []
eleven = refl

twelve : more_leaves 11 ≡ 15 ∷ 6 ∷ []
twelve = refl

twenty_one : more_leaves 20 ≡ 15 ∷ 15 ∷ []
twenty_one = refl

thirty_one : more_leaves 30 ≡ 15 ∷ 15 ∷ 15 ∷ []
thirty_one = refl

-- a run goes on across nodes, up to the next branch
across_nodes : packed (B ∷ B ∷ F ∷ F ∷ F ∷ []) ≡ 0x00 ∷ 0x57 ∷ []
across_nodes = refl

to_a_branch : packed (B ∷ F ∷ B ∷ F ∷ F ∷ []) ≡ 0x05 ∷ 0x05 ∷ 0x60 ∷ []
to_a_branch = refl
