use Rattle.std.proofs.Common.{◌≡◌, ◌++◌, take, codes}
use Rattle.std.specs.List.{flat_map}
use Rattle.ci_vemit.specs.Texts.{item_text}
use Rattle.ci_vemit.proofs.writing.push_items.Given as goal

abbrev pub invariant-loop-item : goal.invariant-loop-item
invariant-loop-item l =
    l.text.items ≡ l.initial.text.items ++ flat_map (λ i. codes ", " ++ item_text i) (take l.item-index l.others)
