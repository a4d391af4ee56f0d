-- What the check unfolds to see the fields of a program header, and those of a section header.
use Rattle.std.specs.Prelude.{⊤}
use Rattle.ci_elf.specs.Fields.{is_loadable, p_offset, p_vaddr, p_filesz, p_memsz, sh_addr, sh_offset, sh_size}

unfoldable pub segment_fields : ⊤
unfolding is_loadable p_offset p_vaddr p_filesz p_memsz
segment_fields = tt

unfoldable pub section_fields : ⊤
unfolding sh_addr sh_offset sh_size
section_fields = tt
