-- What a choice of cuts is about: an instance of the selection problem.
use Rattle.std.specs.Prelude.{ℕ, nat_lt, List, map, filter}
use Rattle.std.specs.List.{sum_by}
use Rattle.ci_lat.specs.Latencies.{Latencies}
use Rattle.ci_elf.specs.Executables.{Executable, IsWellFormed}
use Rattle.ci_block.specs.declared.blocks.Block.{Block}
use Rattle.ci_live.specs.Sets.{Sets}
use Rattle.ci_live.specs.Analyses.{IsAnalysis}
use Rattle.ci_machine.specs.Words.{AreBytes}
use Rattle.ci_emu.specs.declared.profile.Profile.{Profile}
use Rattle.ci_emu.specs.Profiles.{entries_in}
use Rattle.ci_select.specs.declared.plan.Plan.{Plan}

-- The blocks of a program, in the order of their leaders, the registers that are live around them, how often each block
-- was entered, by its leader, the latencies, and the limits of the choice.
pub record Instance : Type 0 where
  pub blocks : List Block
  pub live : Sets
  pub entries : ℕ → ℕ
  pub table : Latencies
  pub plan : Plan

-- the instance of a profile
abbrev pub instance_of : Profile → List Block → Sets → Latencies → Plan → Instance
instance_of profile blocks live table plan =
    record { blocks = blocks; live = live; entries = entries_in profile; table = table; plan = plan }

-- the leaders of the blocks that were entered, in ascending order
abbrev pub entered : Instance → List ℕ
entered instance =
    filter (λ leader. nat_lt 0 (instance.entries leader)) (map (λ block. block.leader) instance.blocks)

-- how often the blocks were entered together
abbrev pub entries_of : Instance → ℕ
entries_of instance = sum_by (λ block. instance.entries block.leader) instance.blocks

-- The blocks and the live sets are those of the file, for some targets of JALR and some addresses that the user names.
abbrev pub AreBlocksOf : Executable → List Block → Sets → Type 0
AreBlocksOf file blocks live =
    (targets : List ℕ) × (named : List ℕ) × IsAnalysis file targets named blocks live

-- they are those of some file of bytes that keeps all rules
abbrev pub AreOfSomeFile : List Block → Sets → Type 0
AreOfSomeFile blocks live =
    (file : Executable) × AreBlocksOf file blocks live × IsWellFormed file × AreBytes file.bytes
