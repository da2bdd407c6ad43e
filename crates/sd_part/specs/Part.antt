-- The work of a part of a graph, and how it ends.
use Rattle.std.specs.Prelude.{◌≡◌, ℕ, suc, ◌+◌, []}
use Rattle.sd_work.specs.Memory.{Memories}
use Rattle.sd_work.specs.Exit.{Values}
use Rattle.sd_work.specs.Move.{fault_at}
use Rattle.sd_work.specs.Step.{Done, Faulted, Spent}
use Rattle.sd_work.specs.Residual.{Term}
use Rattle.sd_work.specs.BigStep.{Coming}
use Rattle.sd_graph.specs.PlainTree.{KindTree, GraphTree}
use Rattle.sd_graph.specs.Context.{Reach}
use Rattle.sd_graph.specs.Unfold.{unfold_kind}
use Rattle.sd_graph.specs.declared.place.Place.{Place}
use Rattle.sd_mem.specs.machine.ComesTo.{ComesTo}
use Rattle.sd_mem.specs.machine.Coming.{state_context}
use Rattle.sd_part.specs.declared.kept.Kept.TheVariants.{Fault, Turns}
use Rattle.sd_part.specs.declared.part_end.PartEnd.{PartEnd}
use Rattle.sd_part.specs.declared.part_end.PartEnd.TheVariants as ends

-- what an item of a state has to do in a run of the whole graph whose containers are reached so
abbrev pub part_term : GraphTree → (reach : ℕ → Reach) → (state : ℕ) → Values → KindTree → (line : ℕ) → Term Place
part_term tree reach state values kind line = unfold_kind kind line (state_context tree reach [] state values)

-- the work of a part comes to this end, with these memories behind it; so many turns were spent, or one more was wanted than there were
abbrev pub PartComesTo : PartEnd → (turns : ℕ) → (after : Memories) → Coming Place → Type 0
PartComesTo (ends.Done spent) turns after coming = (left : ℕ) × (turns ≡ spent + left) × ComesTo coming (Done (record { memories = after; turns = left }))
PartComesTo (ends.Stopped (Fault place kind)) turns after coming = ComesTo coming (Faulted (fault_at place kind))
PartComesTo (ends.Stopped (Turns wanted)) turns after coming = (wanted ≡ suc turns) × ComesTo coming Spent
