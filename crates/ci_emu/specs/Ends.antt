-- How a run ended, as text.
use Rattle.std.specs.Prelude.{ℕ, List, ◌++◌, codes, Option, Some, None}
use Rattle.std.specs.Fmt.{decimal}
use Rattle.ci_reading.specs.Hex.{eight_hex_digits}
use Rattle.ci_isa.specs.Effects.{width_bytes}
use Rattle.ci_machine.specs.declared.ends.End.{End}
use Rattle.ci_machine.specs.declared.ends.End.TheVariants as ends

-- how a run ended, or that it made as many steps as it may
abbrev pub end_text : Option End → List ℕ
end_text (Some (ends.Exit code)) = codes "exit " ++ eight_hex_digits code
end_text (Some ends.Break) = codes "break"
end_text (Some (ends.Access address width)) =
    codes "access " ++ eight_hex_digits address ++ codes " " ++ decimal (width_bytes width)
end_text (Some (ends.Misaligned target)) = codes "misaligned " ++ eight_hex_digits target
end_text (Some (ends.Fetch pc)) = codes "fetch " ++ eight_hex_digits pc
end_text (Some (ends.Illegal word)) = codes "illegal " ++ eight_hex_digits word
end_text None = codes "limit"
