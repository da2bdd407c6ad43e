-- What is to do with elements that were looked up.
use Rattle.std.specs.Prelude.{ℤ, Option, None, option_map}
use Rattle.sd_num.specs.declared.resolution.Resolution.{Resolution}
use Rattle.sd_work.specs.Leaf.{Pending, write_value, transfer}
use Rattle.sd_mem.specs.machine.Stack.{reference_of}
use Rattle.sd_mem.specs.declared.machine.address.Address.{Address}

-- a value to write to an element
abbrev pub writing : (value : ℤ) → (to : Option Address) → Pending
writing value to = write_value value (option_map reference_of to) None

-- an element to read, and another one to write it to
abbrev pub transferring : Option Resolution → (Option Address × Option Address) → Pending
transferring by pair = transfer (option_map reference_of pair.0) (option_map reference_of pair.1) by
