use Rattle.std.proofs.Common.{◌≡◌, drop, map, string_bytes}
use Rattle.sd_valid.specs.SizeValues.{first_name, has_no_size}
use Rattle.sd_valid.proofs.sizes.first_missing.Given as goal

-- the first among all is that among those that are left
abbrev pub invariant-loop-symbol : goal.invariant-loop-symbol
invariant-loop-symbol l =
    first_name (has_no_size l.sizes.values) (map string_bytes (drop l.symbol-index l.symbols))
    ≡ first_name (has_no_size l.sizes.values) (map string_bytes l.symbols)
