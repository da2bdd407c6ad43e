use Rattle.std.proofs.Common.{◌≡◌, take}
use Rattle.std.specs.List.{filter_map}
use Rattle.std.specs.BTreeMap.{get_by_text}
use Rattle.sd_json.specs.Entries.{size_kept}
use Rattle.sd_json.proofs.entries.sizes.Given as goal

-- the sizes of the symbols so far
abbrev pub invariant-loop-symbol : goal.invariant-loop-symbol
invariant-loop-symbol l = l.sizes ≡ filter_map (λ symbol. size_kept symbol (get_by_text l.entries symbol)) (take l.symbol-index l.symbols)
