-- The lines of a report, by what they say.
use Rattle.std.specs.Prelude.{ℕ, Bool, List, ◌++◌, codes, Option, length}
use Rattle.std.specs.Fmt.{decimal}
use Rattle.ci_reading.specs.Hex.{eight_hex_digits}
use Rattle.ci_reading.specs.Lines.{line}
use Rattle.ci_word.specs.Members.{members_text}
use Rattle.ci_lat.specs.Latencies.{Latencies}
use Rattle.ci_machine.specs.declared.ends.End.{End}
use Rattle.ci_unit.specs.Units.{Unit}
use Rattle.ci_select.specs.declared.plan.Plan.{Plan}
use Rattle.ci_emu.specs.Ends.{end_text}

-- a text, and behind it a number in decimal, or a word of 32 bits in eight hexadecimal digits
unfoldable pub number_after : List ℕ → ℕ → List ℕ
number_after text n = text ++ decimal n

unfoldable pub word_after : List ℕ → ℕ → List ℕ
word_after text n = text ++ eight_hex_digits n

abbrev pub first_line : List ℕ
first_line = line (codes "ci-report 1")

abbrev pub limits_text : Plan → List ℕ
limits_text plan =
    number_after (codes "ports ") plan.limits.inputs ++ number_after (codes " ") plan.limits.outputs
    ++ number_after (codes " count ") plan.count ++ number_after (codes " budget ") plan.budget

-- the limits of the choice, and what no-ops cost, and words that write or read hidden registers
abbrev pub plan_line : Plan → Latencies → List ℕ
plan_line plan table =
    line (limits_text plan ++ number_after (codes " pad ") table.pad ++ number_after (codes " read ") table.read)

-- how the profiled run ended, its steps, and their cost in cycles
abbrev pub profile_line : Option End → ℕ → ℕ → List ℕ
profile_line end steps cost =
    line (codes "profile " ++ end_text end ++ number_after (codes " steps ") steps
    ++ number_after (codes " cost ") cost)

-- a block that was entered: its leader, how many instructions it has, and how often it was entered
abbrev pub block_line : ℕ → ℕ → ℕ → List ℕ
block_line leader size entries =
    line (word_after (codes "block ") leader ++ number_after (codes " length ") size
    ++ number_after (codes " entries ") entries)

abbrev pub place_text : ℕ → ℕ → ℕ → List ℕ
place_text round leader unit =
    number_after (codes "cut ") round ++ word_after (codes " block ") leader ++ number_after (codes " unit ") unit

-- a cut that was taken: how many were before, its block and its unit, its gain in cycles and how often the block was
-- entered, its members as the block was in that round, and the word of its unit
abbrev pub cut_line : ℕ → ℕ → ℕ → ℕ → ℕ → (ℕ → Bool) → ℕ → List ℕ
cut_line round leader unit gain entries members word =
    line (place_text round leader unit ++ number_after (codes " gain ") gain ++ number_after (codes " entries ") entries
    ++ codes " nodes" ++ members_text members ++ word_after (codes " word ") word)

-- a block that is skipped from there on: how many cuts were taken before, and the budget
abbrev pub skip_line : ℕ → ℕ → ℕ → List ℕ
skip_line round leader budget =
    line (number_after (codes "skip ") round ++ word_after (codes " block ") leader
    ++ number_after (codes " budget ") budget)

-- a unit: its number, the cycles of one use, how many operations it has, and how many cuts were taken as it
abbrev pub unit_line : ℕ → Unit → ℕ → List ℕ
unit_line k unit uses =
    line (number_after (codes "unit ") k ++ number_after (codes " cycles ") unit.cycles
    ++ number_after (codes " operations ") (length unit.ops) ++ number_after (codes " uses ") uses)

-- what all cuts save over the profiled run, in cycles
abbrev pub total_line : ℕ → List ℕ
total_line saved = line (number_after (codes "total ") saved)
