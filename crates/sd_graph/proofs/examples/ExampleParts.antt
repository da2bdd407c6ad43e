-- Short words for the parts of plain trees, and their runs.
use Rattle.std.proofs.Common.{◌≡◌, ℕ, ℤ, pos, List, [], ◌∷◌, Option, Some, Bool}
use Rattle.sd_num.specs.declared.resolution.Resolution.{Resolution}
use Rattle.sd_num.specs.declared.width.Width.TheVariants.{W64}
use Rattle.sd_range.specs.declared.affine.Affine.{Affine}
use Rattle.sd_range.specs.declared.range.Range.{Range}
use Rattle.sd_range.specs.declared.subset.Dim.{Dim}
use Rattle.sd_work.specs.declared.fault.FaultKind.{FaultKind}
use Rattle.sd_work.specs.Memory.{Memory}
use Rattle.sd_work.specs.Move.{fault_at}
use Rattle.sd_work.specs.Step.{Outcome, Done, Faulted, Spent, opening}
use Rattle.sd_work.specs.Run.{Left, run, traced}
use Rattle.sd_work.specs.BigRun.{big_run}
use Rattle.sd_graph.specs.PlainTree.{ActTrees, TaskletTree, GuardTree, ExitTree, GraphTree}
use Rattle.sd_graph.specs.Unfold.{run_of, opening_memory}
use Rattle.sd_graph.specs.declared.container.Container.{Container}
use Rattle.sd_graph.specs.declared.container.ContainerKind.{ContainerKind}
use Rattle.sd_graph.specs.declared.link.Link.{Link}
use Rattle.sd_graph.specs.declared.tasklet.Port.{Port}
use Rattle.sd_graph.specs.declared.place.Frame.{Frame}
use Rattle.sd_graph.specs.declared.place.Place.{Place}

abbrev pub constant : ℤ → Affine
constant value = record { constant = value; terms = [] }

abbrev pub affine : ℤ → List (ℕ × ℤ) → Affine
affine value terms = record { constant = value; terms = terms }

abbrev pub range_of : Affine → List Affine → ℤ → Range
range_of begin ends step = record { begin = begin; ends = ends; step = step }

-- the numbers from one to another
abbrev pub from_to : (first last : ℤ) → Range
from_to first last = range_of (constant first) (constant last ∷ []) (pos 1)

-- the value of a variable
abbrev pub of_variable : (variable : ℕ) → Affine
of_variable variable = affine (pos 0) ((variable, pos 1) ∷ [])

abbrev pub link_of : List ℕ → (container : ℕ) → List Dim → Option Resolution → Link
link_of connector container dims resolution = record {
  connector = connector;
  memlet = record { container = container; subset = record { dims = dims }; volume = pos 1; resolution = resolution };
}

abbrev pub port_of : List ℕ → (dims : ℕ) → Port
port_of connector dims = record { connector = connector; dims = dims }

abbrev pub code_of : (ins outs : List Port) → (variables : List ℕ) → (locals : ℕ) → ActTrees → TaskletTree
code_of ins outs variables locals body = record { ins = ins; outs = outs; variables = variables; locals = locals; body = body }

abbrev pub container_of : List Affine → ContainerKind → Container
container_of extents kind = record { extents = extents; kind = kind; width = W64 }

abbrev pub condition_of : (line : ℕ) → List Link → TaskletTree → GuardTree
condition_of line reads code = record { line = line; reads = reads; code = code }

abbrev pub transition : (to : ℕ) → (back : Bool) → Option GuardTree → List (ℕ × Affine) → ExitTree
transition to back when set = record { to = to; back = back; when = when; set = set }

abbrev pub frame_of : (line : ℕ) → List (List ℕ × ℤ) → Frame
frame_of line values = record { line = line; values = values }

-- the sequential run, with at most so many looks at the next moves
abbrev pub run_from : GraphTree → (given : List (List ℤ)) → (looks turns : ℕ) → Option (Outcome Place Left)
run_from tree given looks turns = run looks [] (opening (run_of tree (opening_memory tree given)) turns)

-- a run by picks, and its trace
abbrev pub picked_from : GraphTree → (given : List (List ℤ)) → (looks : ℕ) → (picks : List ℕ) → (turns : ℕ) → Option (Outcome Place Left)
picked_from tree given looks picks turns = run looks picks (opening (run_of tree (opening_memory tree given)) turns)

abbrev pub trace_of : GraphTree → (given : List (List ℤ)) → (steps : ℕ) → (picks : List ℕ) → (turns : ℕ) → List (ℕ × ℕ)
trace_of tree given steps picks turns = traced steps picks (opening (run_of tree (opening_memory tree given)) turns)

-- the run from left to right, with at most so many transitions and takes
abbrev pub big_from : GraphTree → (given : List (List ℤ)) → (most turns : ℕ) → Option (Outcome Place Left)
big_from tree given most turns = big_run (run_of tree (opening_memory tree given)) most turns

-- both come to the same
abbrev pub runs_to : GraphTree → (given : List (List ℤ)) → (looks most turns : ℕ) → Option (Outcome Place Left) → Type 0
runs_to tree given looks most turns outcome =
    (run_from tree given looks turns ≡ outcome) × (big_from tree given most turns ≡ outcome)

abbrev pub done : Memory → (turns : ℕ) → Option (Outcome Place Left)
done memory turns = Some (Done (record { memory = memory; turns = turns }))

abbrev pub faulted : List Frame → FaultKind → Option (Outcome Place Left)
faulted frames kind = Some (Faulted (fault_at (record { frames = frames }) kind))

abbrev pub spent : Option (Outcome Place Left)
spent = Some Spent
