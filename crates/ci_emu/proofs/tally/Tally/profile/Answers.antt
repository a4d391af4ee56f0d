use Rattle.std.proofs.Common.{ℕ, ◌<◌, sym, subst, refl}
use Rattle.std.specs.List.{AllPairs, Contains}
use Rattle.std.proofs.lemmas.Cmp.{nat_cmp_total}
use Rattle.std.proofs.lemmas.List.Kept.{AllPairs-from_increasing}
use Rattle.std.proofs.lemmas.Map.Keys.{IsStrictlyIncreasing-from_sorted}
use Rattle.std.proofs.lemmas.Map.Lookups.{exact_unsigned}
use Rattle.std.proofs.lemmas.Map.Views.{btree_set_contains_iff}
use Rattle.ci_emu.specs.Profiles.{entries_in, targets_in}
use Rattle.ci_emu.proofs.tally.Tally.profile.Goals as goal

pub returns : goal.returns
unfolding entries_in targets_in
returns c =
    let targets = c.args.self.targets in
    let same = c.in_ok-targets.ensures.keys in record {
      steps = refl;
      cost = refl;
      end = refl;
      touched = refl;
      entries = λ address. refl;
      ascending = subst (AllPairs (λ (a b : ℕ). a < b)) (sym same)
          (AllPairs-from_increasing targets.keys (IsStrictlyIncreasing-from_sorted targets.keys c.in_ok-targets.ensures.ordered));
      targets = λ address.
          let contained = btree_set_contains_iff nat_cmp_total exact_unsigned targets address in (
            λ c. contained.1 (subst (λ keys. Contains keys address) same c),
            λ led. subst (λ keys. Contains keys address) (sym same) (contained.0 led),
          );
    }
