-- The states of the generator, one behind the other.
use Rattle.std.proofs.Common.{◌≡◌, ℕ, suc, ap, ◌∙◌}
use Rattle.ci_gen.specs.Draws.{following, state_of}

-- the state behind state n is state n + 1
pub state_behind : (seed n before after : ℕ) → before ≡ state_of seed n → after ≡ following before → after ≡ state_of seed (suc n)
unfolding state_of
state_behind seed n before after is moved = moved ∙ ap following is

-- a state by another form of its number
pub same_state : (seed n m state : ℕ) → n ≡ m → state ≡ state_of seed n → state ≡ state_of seed m
same_state seed n m state same is = is ∙ ap (state_of seed) same
