-- The memory of a program: where it ends, where its stack lies, and how much of it there may be.
use Rattle.std.specs.Prelude.{ℕ, ◌+◌}

-- the address at which usable memory ends
abbrev pub memory_top : ℕ
memory_top = 0xffff0000

-- the address of the stack's first byte
abbrev pub stack_start : ℕ
stack_start = 0x7ff00000

-- how many bytes the stack has
abbrev pub stack_size : ℕ
stack_size = 0x100000

-- the address behind the stack's last byte
abbrev pub stack_end : ℕ
stack_end = stack_start + stack_size

-- how many bytes segments, stack and heap may have together: 64 mebibytes
abbrev pub most_memory : ℕ
most_memory = 67108864
