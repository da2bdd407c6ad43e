use Rattle.std.proofs.Common.{◌≡◌, take, map, string_bytes}
use Rattle.sd_valid.specs.SizeValues.{value_of_size}
use Rattle.sd_valid.proofs.sizes.values_of_symbols.Given as goal

-- the values so far
abbrev pub invariant-loop-symbol : goal.invariant-loop-symbol
invariant-loop-symbol l = l.values.items ≡ map (value_of_size l.sizes.values) (map string_bytes (take l.symbol-index l.symbols))
