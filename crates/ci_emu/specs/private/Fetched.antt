-- For private contracts: what a decoded word keeps, and what may change the word that stands in memory.
use Rattle.std.specs.Prelude.{◌≡◌, ℕ, ◌<◌, ◌≤◌, ⊤, Bool, false, is_some, find}
use Rattle.ci_isa.specs.declared.instruction.Insn.{Insn}
use Rattle.ci_isa.specs.declared.instruction.Insn.TheVariants.{Store, Ecall, Cread}
use Rattle.ci_isa.specs.Laws.{IsInsnAtX}
use Rattle.ci_machine.specs.Actions.{accessed}
use Rattle.ci_machine.specs.Cores.{Core}
use Rattle.ci_machine.specs.Programs.{Program, in_text}
use Rattle.ci_machine.specs.Runs.{latency}
use Rattle.ci_machine.specs.Touches.{may_change_below}
use Rattle.ci_lat.specs.Latencies.{Latencies as Table}
use Rattle.ci_emu.specs.Machines.{standing}
use Rattle.ci_emu.specs.TableLatencies.{latencies_on}

-- no other instruction stands at the word by the extended table
abbrev pub IsOnlyAt : ℕ → Insn → Type 0
IsOnlyAt word insn = (other : Insn) → IsInsnAtX word other → other ≡ insn

-- a `cread` has the index of a hidden result, as each has for which there is a word
abbrev pub HasHiddenIndex : Insn → Type 0
HasHiddenIndex (Cread rd index) = index < 2
HasHiddenIndex insn = ⊤

-- how long a word takes, for which the extended table has this reading, on a machine that has these units, of these
-- cycles, and maybe `cread` and `cput`
abbrev pub cycles_on : (ℕ → Bool) → Bool → (ℕ → ℕ) → Table → ℕ → Insn → ℕ
cycles_on has_unit has_hidden unit_cycles table word reading =
    latency (latencies_on table unit_cycles) (standing has_unit has_hidden word reading)

-- Bytes of the text, which ends there, may be others behind the instruction: a store moves some, or a call may change
-- bytes below that end.
abbrev pub may_change : Program → ℕ → Insn → Core → Bool
may_change program end Ecall core = may_change_below program end core
may_change program end (Store width rs1 rs2 offset) core =
    is_some (find (in_text program) (accessed (Store width rs1 rs2 offset) core))
may_change program end insn core = false

-- no byte at this address or behind it is text
abbrev pub IsTextBelow : (ℕ → Bool) → ℕ → Type 0
IsTextBelow text end = (address : ℕ) → end ≤ address → text address ≡ false
