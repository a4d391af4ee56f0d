use Rattle.std.proofs.Common.{[], ◌∷◌, ◌++◌}
use Rattle.ci_elf.specs.Rules.{HasSymbols, TextIsLoaded, TextIsAlone}
use Rattle.ci_elf.proofs.CheckLaws.{handed_on, fault_in_front, fault_behind, test_behind}
use Rattle.ci_elf.proofs.sections.check_section.Goals as goal

pub returns-in_err-check_symbols : goal.returns-in_err-check_symbols
returns-in_err-check_symbols c =
    handed_on c.args.bytes.now ((HasSymbols c.args.n ∷ []) ++ ((TextIsLoaded c.args.n ∷ []) ++ ((TextIsAlone c.args.n ∷ [])))) _ _ c.from_residual.ensures.1
    (fault_in_front c.args.bytes.now (HasSymbols c.args.n ∷ [])
    ((TextIsLoaded c.args.n ∷ []) ++ ((TextIsAlone c.args.n ∷ []))) _ c.in_err-check_symbols.ensures)

pub returns-in_err-check_loaded : goal.returns-in_err-check_loaded
returns-in_err-check_loaded c =
    handed_on c.args.bytes.now ((HasSymbols c.args.n ∷ [])
    ++ ((TextIsLoaded c.args.n ∷ []) ++ ((TextIsAlone c.args.n ∷ [])))) _ _
    c.from_residual-in_err-check_loaded.ensures.1
    (fault_behind c.args.bytes.now (HasSymbols c.args.n ∷ []) ((TextIsLoaded c.args.n ∷ []) ++ ((TextIsAlone c.args.n ∷ []))) _ c.in_ok-check_symbols.ensures
    (fault_in_front c.args.bytes.now (TextIsLoaded c.args.n ∷ []) ((TextIsAlone c.args.n ∷ [])) _ c.in_err-check_loaded.ensures))

pub returns : goal.returns
returns c =
    test_behind c.args.bytes.now (HasSymbols c.args.n ∷ []) ((TextIsLoaded c.args.n ∷ []) ++ ((TextIsAlone c.args.n ∷ []))) _ c.in_ok-check_symbols.ensures
    (test_behind c.args.bytes.now (TextIsLoaded c.args.n ∷ []) ((TextIsAlone c.args.n ∷ [])) _ c.in_ok-check_loaded.ensures
    c.check_alone.ensures)
