-- For every reader: the table of the commands and of their options.
use Rattle.std.specs.Prelude.{ℕ, Bool, true, false, List, [], ◌∷◌, ◌++◌, codes}
use Rattle.ci_arguments.specs.declared.tables.Access.TheVariants.{Reads, Writes}
use Rattle.ci_arguments.specs.declared.tables.CommandName.{CommandName}
use Rattle.ci_arguments.specs.declared.tables.CommandName.TheVariants.{Best, Pair, Asm, Dis, Run, Blocks, Eval, Find, Check, Area, Rename, Relog, Gates, Geval, Load}
use Rattle.ci_arguments.specs.declared.tables.DefaultValue.{DefaultValue}
use Rattle.ci_arguments.specs.declared.tables.DefaultValue.TheVariants as default
use Rattle.ci_arguments.specs.declared.tables.Kind.{Kind}
use Rattle.ci_arguments.specs.declared.tables.Kind.TheVariants.{File, Number, Word}
use Rattle.ci_arguments.specs.declared.tables.OptionName.{OptionName}
use Rattle.ci_arguments.specs.declared.tables.OptionName.TheVariants.{Inputs, Outputs, Count, Budget, Steps, Units, Table}
use Rattle.ci_arguments.specs.declared.tables.OptionName.TheVariants.{Input, Leader, At, ArgumentD, ArgumentE, LogVersion, Limit}

-- An option of a command: its name without hyphens, which one it is, the kind of its values, whether it may stand more
-- than once, and what it is set to where it is not given.
pub record OptionRow : Type 0 where
  pub name : List ℕ
  pub option : OptionName
  pub kind : Kind
  pub repeatable : Bool
  pub default : DefaultValue

-- A command: the word that names it, which one it is, its positional words by kind, and its options.
pub record CommandRow : Type 0 where
  pub word : List ℕ
  pub command : CommandName
  pub positional : List Kind
  pub options : List OptionRow

-- an option that may stand once
abbrev pub single : List ℕ → OptionName → Kind → DefaultValue → OptionRow
single name which values unset =
    record { name = name; option = which; kind = values; repeatable = false; default = unset }

abbrev pub command_of : List ℕ → CommandName → List Kind → List OptionRow → CommandRow
command_of word which positional options =
    record { word = word; command = which; positional = positional; options = options }

-- a file with latencies
abbrev pub table : OptionRow
table = single (codes "table") Table (File Reads) default.Nothing

-- addresses at which blocks begin too, any number of them
abbrev pub leader : OptionRow
leader = record (single (codes "leader") Leader Word default.Nothing) { repeatable = true }

-- the limits of a cut, and of the search for one
abbrev pub inputs : OptionRow
inputs = single (codes "in") Inputs (Number 1 5) (default.Number 3)

abbrev pub outputs : OptionRow
outputs = single (codes "out") Outputs (Number 1 3) (default.Number 2)

abbrev pub budget : OptionRow
budget = single (codes "budget") Budget (Number 1 4194304) (default.Number 65536)

-- how far a program is run, and what it reads
abbrev pub steps : OptionRow
steps = single (codes "steps") Steps (Number 1 4294967296) (default.Number 16777216)

abbrev pub input : OptionRow
input = single (codes "input") Input (File Reads) default.Nothing

-- the version of the log book that is written
abbrev pub log_version : ℕ → OptionRow
log_version usual = single (codes "log") LogVersion (Number 1 2) (default.Number usual)

-- a file with modules or netlists, the number of one of them, and the first three words at which its value is taken
abbrev pub evaluated : List Kind
evaluated = File Reads ∷ Number 0 31 ∷ Word ∷ Word ∷ Word ∷ []

-- the other two words
abbrev pub others : List OptionRow
others =
    single (codes "d") ArgumentD Word default.Nothing ∷ single (codes "e") ArgumentE Word default.Nothing ∷ []

-- what a choice of cuts is bounded by and made from
abbrev pub choice : List OptionRow
choice =
    inputs ∷ outputs ∷ single (codes "count") Count (Number 1 32) (default.Number 32) ∷ budget ∷ steps ∷ table ∷ input
    ∷ leader ∷ []

-- how many gates there is room for, which has to be said
abbrev pub limit : OptionRow
limit = single (codes "limit") Limit (Number 0 4294967295) default.MustStand

-- what a search of a block is bounded by and made from
abbrev pub search : List OptionRow
search = inputs ∷ outputs ∷ budget ∷ table ∷ leader ∷ single (codes "at") At Word default.Nothing ∷ []

-- the table of the program
unfoldable pub commands : List CommandRow
commands =
    command_of (codes "best") Best (File Reads ∷ []) search
    ∷ command_of (codes "pair") Pair (File Reads ∷ []) search
    ∷ command_of (codes "asm") Asm (File Reads ∷ File Writes ∷ []) []
    ∷ command_of (codes "dis") Dis (File Reads ∷ []) []
    ∷ command_of (codes "run") Run (File Reads ∷ [])
    (steps ∷ single (codes "units") Units (File Reads) default.Nothing ∷ table ∷ input ∷ [])
    ∷ command_of (codes "blocks") Blocks (File Reads ∷ []) (leader ∷ [])
    ∷ command_of (codes "eval") Eval evaluated others
    ∷ command_of (codes "find") Find
    (File Reads ∷ File Writes ∷ File Writes ∷ File Writes ∷ File Writes ∷ []) (choice ++ log_version 1 ∷ [])
    ∷ command_of (codes "check") Check (File Reads ∷ File Reads ∷ File Reads ∷ File Reads ∷ []) choice
    ∷ command_of (codes "area") Area (File Reads ∷ []) (choice ++ limit ∷ [])
    ∷ command_of (codes "rename") Rename (File Reads ∷ File Writes ∷ []) (steps ∷ input ∷ leader ∷ [])
    ∷ command_of (codes "relog") Relog (File Reads ∷ File Writes ∷ []) (log_version 2 ∷ [])
    ∷ command_of (codes "gates") Gates (File Reads ∷ File Writes ∷ []) []
    ∷ command_of (codes "geval") Geval evaluated others
    ∷ command_of (codes "load") Load (Number 0 4294967295 ∷ []) []
    ∷ []
