-- Rows of the definition of a report: its lines for a program of two functions, and lines of skips.
use Rattle.std.specs.Prelude.{◌≡◌, refl, nat_lt, nat_le, ◌&&◌, codes, Some, None}
use Rattle.std.specs.Fmt.{digits}
use Rattle.ci_machine.specs.declared.ends.End.TheVariants.{Exit, Access}
use Rattle.ci_isa.specs.declared.instruction.Width.TheVariants.{Word}
use Rattle.ci_word.specs.Numbers.{numbers_below}
use Rattle.ci_report.specs.Lines.{number_after, word_after, profile_line, block_line, cut_line, skip_line, total_line}

exit_row :
    profile_line (Some (Exit 0)) 61 75 ≡ codes "profile exit 00000000 steps 61 cost 75\n"
unfolding digits number_after word_after numbers_below
exit_row = refl

access_row :
    profile_line (Some (Access 0 Word)) 2 3 ≡ codes "profile access 00000000 4 steps 2 cost 3\n"
unfolding digits number_after word_after numbers_below
access_row = refl

limit_row : profile_line None 3 6 ≡ codes "profile limit steps 3 cost 6\n"
unfolding digits number_after word_after numbers_below
limit_row = refl

block_row : block_line 0x100d4 6 2 ≡ codes "block 000100d4 length 6 entries 2\n"
unfolding digits number_after word_after numbers_below
block_row = refl

first_cut :
    cut_line 0 0x100c4 0 2 2 (λ k. nat_lt k 3) 0x0005050b
    ≡ codes "cut 0 block 000100c4 unit 0 gain 2 entries 2 nodes 0 1 2 word 0005050b\n"
unfolding digits number_after word_after numbers_below
first_cut = refl

second_cut :
    cut_line 1 0x100d4 1 2 2 (λ k. nat_le 2 k && nat_lt k 5) 0x0075150b
    ≡ codes "cut 1 block 000100d4 unit 1 gain 2 entries 2 nodes 2 3 4 word 0075150b\n"
unfolding digits number_after word_after numbers_below
second_cut = refl

skip_row : skip_line 1 0x100d4 65536 ≡ codes "skip 1 block 000100d4 budget 65536\n"
unfolding digits number_after word_after numbers_below
skip_row = refl

total_row : total_line 8 ≡ codes "total 8\n"
unfolding digits number_after word_after numbers_below
total_row = refl
