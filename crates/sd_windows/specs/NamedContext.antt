-- Where work stands that names elements by other numbers.
use Rattle.std.specs.Prelude.{option_and_then, ℕ}
use Rattle.sd_pieces.specs.cut.Naming.{Naming, names_at}
use Rattle.sd_graph.specs.Context.{Reach, Context}

-- how a container is reached by the other numbers
abbrev pub reach_named : Naming → (depth : ℕ) → Reach → Reach
reach_named naming depth reach = record reach { find = λ index. option_and_then (names_at naming depth reach.level reach.container) (reach.find index) }

-- where all containers are reached so
abbrev pub context_named : Naming → (depth : ℕ) → Context → Context
context_named naming depth context = record context { reach = λ container. reach_named naming depth (context.reach container) }
