-- The graph of a program that is well formed has loops of the right shape.
use Rattle.std.proofs.Common.{ℕ, List, [], ◌∷◌, refl, ap, zero-add}
use Rattle.std.specs.List.{AllByRecursion}
use Rattle.sd_lex.specs.PlainTree.{FunctionTree, ProgramTree}
use Rattle.sd_graph.specs.PlainTree.{StateTrees, no_item, GraphTree}
use Rattle.sd_graph.specs.TreeFold.{states_listed}
use Rattle.sd_graph.specs.TreeParts.{exits_at}
use Rattle.sd_program.specs.Names.{Name}
use Rattle.sd_program.specs.Bounds.{EachBound}
use Rattle.sd_program.specs.IsAffine.{IsAffine}
use Rattle.sd_program.specs.Limits.{HasSteps}
use Rattle.sd_program.specs.Every.{EveryOf}
use Rattle.sd_program.specs.WellFormed.{IsWellFormed}
use Rattle.sd_elab.specs.elab.Elaboration.{start_of, states_of_function, graph_of}
use Rattle.sd_made.specs.elab.LoopShape.{HasLoopShape, SetsLoopVariablesOnly}
use Rattle.sd_made.proofs.elab_lemmas.StateLists.{has_itself}
use Rattle.sd_made.proofs.elab_lemmas.LoopSites.{begin_in_all, block_sets, set_at_each}
use Rattle.sd_made.proofs.elab_lemmas.ThroughoutLemmas.{program_throughout}

-- the bounds of a function are affine, and its steps are at least 1
abbrev pub HasGoodLoops : FunctionTree → Type 0
HasGoodLoops function = EveryOf (EachBound IsAffine) function × EveryOf HasSteps function

pub good_loops : (functions : List FunctionTree) → AllByRecursion (EveryOf (EachBound IsAffine)) functions → AllByRecursion (EveryOf HasSteps) functions → AllByRecursion HasGoodLoops functions
good_loops [] affine steps = tt
good_loops (function ∷ functions) affine steps = ((affine.0, steps.0), good_loops functions affine.1 steps.1)

function_has_shape : (symbols : List Name) (graphs : Name → GraphTree) (function : FunctionTree) → HasGoodLoops function → HasLoopShape (states_listed (states_of_function symbols graphs function))
function_has_shape symbols graphs function good =
    let start = start_of symbols function in
    let states : StateTrees = states_listed (states_of_function symbols graphs function) in
    let begin : ℕ → ℕ = begin_in_all function.body start in (
      begin,
      set_at_each graphs states begin (states_of_function symbols graphs function)
          (block_sets graphs states begin function.body start no_item []
          (has_itself (exits_at states) 0 (states_of_function symbols graphs function) (λ state. ap (exits_at states) (zero-add state)))
          good.0.1 good.1.1 (λ variable least most. refl) tt),
    )

pub program_sets_loop_variables_only : (program : ProgramTree) → IsWellFormed program → SetsLoopVariablesOnly (graph_of program)
program_sets_loop_variables_only program well =
    program_throughout HasLoopShape ((λ variable. 0), (λ state. tt)) program.symbols HasGoodLoops (function_has_shape program.symbols) program.functions (good_loops program.functions well.affine well.steps)
