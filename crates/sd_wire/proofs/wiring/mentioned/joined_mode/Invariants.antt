use Rattle.std.proofs.Common.{◌≡◌, drop, option_map}
use Rattle.sd_graph.specs.Mode.{joined_mode}
use Rattle.sd_graph.specs.Wiring.{modes_on}
use Rattle.sd_wire.specs.wiring.Mentioned.{mode_of}
use Rattle.sd_wire.proofs.wiring_lemmas.Joined.{joined_behind}
use Rattle.sd_wire.proofs.wiring.mentioned.joined_mode.Given as goal

-- those so far, with those that are left
abbrev pub invariant-loop-use_ : goal.invariant-loop-use_
invariant-loop-use_ l = joined_behind (option_map mode_of l.joined) (modes_on l.container (drop l.use_-index l.uses)) ≡ joined_mode (modes_on l.container l.uses)
