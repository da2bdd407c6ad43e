-- What holds at each choice of each run of a graph.
use Rattle.std.specs.List.{AllByRecursion, Contains}
use Rattle.std.proofs.Common.{ℕ, pos, List, [], length, replicate, refl, inl}
use Rattle.std.proofs.lemmas.List.Elements.{All-from_recursion, All-contains}
use Rattle.sd_work.specs.Memory.{Memory}
use Rattle.sd_work.specs.Exit.{Values}
use Rattle.sd_work.specs.Residual.{Term}
use Rattle.sd_work.specs.Step.{opening}
use Rattle.sd_work.specs.Run.{Choice, choices}
use Rattle.sd_confluence.specs.Left.{IsLeftOf}
use Rattle.sd_confluence.specs.Safe.{IsSafe, MayInterleave}
use Rattle.sd_confluence.proofs.left.StillLeft.{new-left, runs-left}
use Rattle.sd_confluence.proofs.left.StillSafe.{runs-may}
use Rattle.sd_graph.specs.declared.place.Place.{Place}
use Rattle.sd_graph.specs.PlainTree.{GraphTree, graph}
use Rattle.sd_graph.specs.Context.{own_reach}
use Rattle.sd_graph.specs.Unfold.{at_state, unfold_state, run_of}
use Rattle.sd_graph.proofs.UnfoldedNew.{run_unfolds_new}

-- the run of a graph is left of itself as it begins
run-begins : (tree : GraphTree) (memory : Memory) → IsLeftOf (run_of tree memory) (run_of tree memory)
run-begins (graph name containers arguments variables symbols states) memory =
    let tree = graph name containers arguments variables symbols states in
    let values : Values = replicate (length variables) (pos 0) in
    let first : Term Place = unfold_state states 0 (at_state containers variables states (own_reach containers) [] 0 values) in
    (memory, 0, values, first, refl, inl (refl, refl, new-left first ((run_unfolds_new tree memory).1 0 values).0))

-- and at each choice of each run what is left is left of it
pub graph-left : (tree : GraphTree) (memory : Memory) (steps turns : ℕ) (picks : List ℕ) → AllByRecursion (λ choice. IsLeftOf (run_of tree memory) choice.machine.term) (choices steps picks (opening (run_of tree memory) turns))
graph-left tree memory steps turns picks = runs-left (run_of tree memory) (run_of tree memory) steps turns picks (run_unfolds_new tree memory) (run-begins tree memory)

-- at each choice of each run of work that may interleave the work is safe
pub safe-choice : (term : Term Place) (steps turns : ℕ) (picks : List ℕ) (choice : Choice Place) → MayInterleave term → Contains (choices steps picks (opening term turns)) choice → IsSafe choice.machine.term
safe-choice term steps turns picks choice may member =
    let all = choices steps picks (opening term turns) in
    let each = All-from_recursion (λ (one : Choice Place). MayInterleave one.machine.term) all (runs-may term steps turns picks may) in
    let here : MayInterleave choice.machine.term = All-contains (λ (one : Choice Place). MayInterleave one.machine.term) all choice each member in
    here.safe
