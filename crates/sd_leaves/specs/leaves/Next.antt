-- The way out of a state.
use Rattle.std.specs.Prelude.{◌≡◌, ◌<◌, ℤ, List, map, length, Option, Some, None, Result, Ok, Err, Bool, slice_get}
use Rattle.sd_work.specs.declared.fault.FaultKind.{FaultKind}
use Rattle.sd_work.specs.declared.fault.FaultKind.TheVariants.{Subscript}
use Rattle.sd_work.specs.Memory.{Memories}
use Rattle.sd_work.specs.Move.{fault_at}
use Rattle.sd_work.specs.Exit.{Guard, all_seen, first_exit}
use Rattle.sd_graph.specs.PlainTree.{ExitTree}
use Rattle.sd_graph.specs.Context.{Context}
use Rattle.sd_graph.specs.Unfold.{exit_of}
use Rattle.sd_mem.specs.machine.Coming.{IsExit}
use Rattle.sd_leaves.specs.declared.leaves.exit.Next.{Next}
use Rattle.sd_leaves.specs.declared.leaves.exit.Next.TheVariants.{Nowhere, By, Fault}

-- the way out of a state is this one
abbrev pub IsNext : Context → List ExitTree → Memories → Next → Type 0
IsNext context exits memories Nowhere = first_exit (map (exit_of context) exits) memories ≡ Ok None
IsNext context exits memories (By number) = (number < length exits) × IsExit context (slice_get exits number) exits memories
IsNext context exits memories (Fault place kind) = first_exit (map (exit_of context) exits) memories ≡ Err (fault_at place kind)

-- a condition of the values that it reads; the fault Subscript where an access is outside
abbrev pub condition_of_values : (List ℤ → Result Bool FaultKind) → Option (List ℤ) → Result Bool FaultKind
condition_of_values holds None = Err Subscript
condition_of_values holds (Some values) = holds values

-- whether a condition holds, or the kind of its fault
abbrev pub condition_of : {P : Type 0} → Guard P → Memories → Result Bool FaultKind
condition_of guard memories = condition_of_values guard.holds (all_seen guard.reads memories)
