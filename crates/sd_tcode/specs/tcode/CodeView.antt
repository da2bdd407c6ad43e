-- What is seen of compiled code.
use Rattle.std.specs.Prelude.{option_map}
use Rattle.sd_tcode.specs.tcode.Compiled.{Compiled, IsSafe}
use Rattle.sd_tcode.specs.declared.tcode.code.Code.TheInside.{Inside}

abbrev pub compiled : Inside → Compiled
compiled code = record {
  ops = code.ops.items;
  layout = code.layout;
  dims = code.dims.items;
  registers = code.registers;
  slots = code.slots;
  plain = option_map (λ order. order.items) code.plain;
}

abbrev pub IsSafeInside : Inside → Type 0
IsSafeInside code = IsSafe (compiled code)
