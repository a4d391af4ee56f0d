-- A folded file has a crossing at each listed leader, whose blocks differ in cost by what is saved there.
use Rattle.std.specs.Prelude.{◌≡◌, ℕ, ◌+ℤ◌, true, pos, List}
use Rattle.std.specs.List.{Contains}
use Rattle.std.proofs.Math.Path.{path_j, subst_refl}
use Rattle.std.proofs.Common.{sym, ap, subst, inl}
use Rattle.ci_lat.specs.Latencies.{Latencies as Table}
use Rattle.ci_block.specs.declared.blocks.Block.{Block}
use Rattle.ci_block.specs.Leaders.{entry}
use Rattle.ci_live.specs.Sets.{after_block}
use Rattle.ci_machine.specs.Extended.{IsExtended, latencies_with}
use Rattle.ci_machine.specs.Runs.{Latencies}
use Rattle.ci_machine.specs.Steps.{Meaning}
use Rattle.ci_rewrite.specs.Costs.{cost_of}
use Rattle.ci_rewrite.specs.RunLatencies.{AreOfTable}
use Rattle.ci_runs.specs.WholeRuns.{Rewriting, Saving, is_among}
use Rattle.ci_runs.specs.FoldedFiles.{IsFoldedFile, saved_at}
use Rattle.ci_runs.specs.CrossedFiles.{AreCrossed, SaveAtLeaders, two_runs}
use Rattle.ci_runs.specs.Crossings.{Crossing}
use Rattle.ci_runs.specs.Places.{at_leader}
use Rattle.ci_runs.proofs.BlockWays.{on_from, onto}
use Rattle.ci_runs.proofs.ChangedFiles as files
use Rattle.ci_runs.proofs.FileBlocks as blocks
use Rattle.ci_runs.proofs.ListedLeaders.{is_listed, listed_there}
use Rattle.ci_runs.proofs.Ways.{alone}

module _ (rewriting : Rewriting) (table : Table) (savings : List Saving) (is : IsFoldedFile rewriting table savings) (meaning : Meaning)
    (extended : IsExtended rewriting.modules meaning) (input : List ℕ) where
  -- a block of the file is crossed
  block_crossed : (block : Block) → Contains is.blocks block → Crossing (two_runs rewriting meaning input) block.leader
  block_crossed block there =
      let kept = blocks.kept rewriting table savings is block there meaning extended in
      let block_is = blocks.is_block rewriting table savings is block there in
      record {
        insns = block.insns.items;
        folded = (blocks.fold rewriting table savings is block there).insns;
        n = blocks.n rewriting table savings is block there;
        live_out = after_block rewriting.live block.leader;
        some = (blocks.at_leader_of rewriting table savings is block there).some;
        block = block_is;
        named = blocks.named rewriting table savings is block there;
        serve = blocks.serve rewriting table savings is block there meaning extended;
        keeps = kept.keeps;
        covers = blocks.covers rewriting table savings is block there;
        old_stands = blocks.old_stands rewriting table savings is block there meaning extended input;
        new_stands = blocks.new_stands rewriting table savings is block there meaning extended input;
        one_leader = alone rewriting.old rewriting.new rewriting.live (blocks.changed rewriting table savings is) meaning input block there;
        onto = onto rewriting table savings is meaning input block there (blocks.n rewriting table savings is block there) block_is;
        on_from = on_from rewriting table savings is meaning input block there (blocks.n rewriting table savings is block there) block_is;
      }

  -- so each listed leader is crossed,
  crossing : (leader : ℕ) → is_among rewriting.live.leaders leader ≡ true → Crossing (two_runs rewriting meaning input) leader
  crossing leader listed =
      let found = files.block_there rewriting.old rewriting.new rewriting.live (blocks.changed rewriting table savings is) leader (listed_there rewriting.live.leaders leader listed) in
      subst (Crossing (two_runs rewriting meaning input)) found.2 (block_crossed found.0 found.1)

  -- and the files are
  pub are_crossed : AreCrossed rewriting meaning input
  are_crossed = record {
    old_formed = files.old_formed rewriting.old rewriting.new rewriting.live (blocks.changed rewriting table savings is);
    new_formed = files.new_formed rewriting.old rewriting.new rewriting.live (blocks.changed rewriting table savings is);
    plain = is.plain;
    modules_are = is.modules_are;
    same_program = files.same_program rewriting.old rewriting.new rewriting.live (blocks.changed rewriting table savings is);
    same_entry = sym (ap (λ file. file.entry) is.new_is);
    outside = files.outside rewriting.old rewriting.new rewriting.live (blocks.changed rewriting table savings is) input;
    old_of_bytes = is.old_of_bytes;
    new_of_bytes = is.new_of_bytes;
    entry = at_leader (is_listed rewriting.live.leaders rewriting.old.entry entry_listed);
    crossing = crossing;
  }
    where
      entry_listed : Contains rewriting.live.leaders rewriting.old.entry
      entry_listed =
          subst (λ (leaders : List ℕ). Contains leaders rewriting.old.entry) (files.same_leaders rewriting.old rewriting.new rewriting.live (blocks.changed rewriting table savings is))
          ((is.analysis.listing.listed rewriting.old.entry).1
          ((files.old_formed rewriting.old rewriting.new rewriting.live (blocks.changed rewriting table savings is)).entry, inl (entry (λ i. rewriting.old.entry))))

  -- ---- the accounts

  module _ (latencies : Latencies) (of_table : AreOfTable table latencies) where
    abbrev all : Latencies
    all = latencies_with latencies rewriting.modules

    -- a crossing costs less by what is saved at its leader
    abbrev Saves : (leader : ℕ) → Crossing (two_runs rewriting meaning input) leader → Type 0
    Saves leader there = pos (cost_of all there.insns) ≡ pos (cost_of all there.folded) +ℤ saved_at savings leader

    -- so it does at an equal address
    carried : (here there : ℕ) (same : here ≡ there) (at : Crossing (two_runs rewriting meaning input) here) → Saves here at
        → Saves there (subst (Crossing (two_runs rewriting meaning input)) same at)
    carried here there same at saves =
        let runs = two_runs rewriting meaning input in
        path_j (λ other is_there. Saves other (subst (Crossing runs) is_there at)) (subst (Saves here) (sym (subst_refl (Crossing runs) at)) saves) same

    -- at each listed leader a crossing costs less by what is saved there
    pub saves_at_leaders : SaveAtLeaders rewriting meaning input are_crossed latencies savings
    unfolding block_crossed are_crossed crossing
    saves_at_leaders = record {
      listed = is.listed;
      saves = λ leader listed.
          let found = files.block_there rewriting.old rewriting.new rewriting.live (blocks.changed rewriting table savings is) leader (listed_there rewriting.live.leaders leader listed) in
          carried found.0.leader leader found.2 (block_crossed found.0 found.1)
          (blocks.block_saves rewriting table savings is found.0 found.1 meaning extended latencies of_table);
    }
