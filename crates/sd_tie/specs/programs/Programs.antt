-- Programs that call each other, with sizes, and their graphs.
use Rattle.std.specs.Prelude.{ℤ, List, [], ◌∷◌, map, ⊤}
use Rattle.sd_lex.specs.PlainTree.{FunctionTree}
use Rattle.sd_graph.specs.PlainTree.{GraphTree}
use Rattle.sd_program.specs.Names.{Name, Named}
use Rattle.sd_program.specs.Bounds.{EachBound}
use Rattle.sd_program.specs.IsAffine.{IsAffine}
use Rattle.sd_program.specs.Limits.{HasFewParameters}
use Rattle.sd_program.specs.Calls.{IsCallable}
use Rattle.sd_program.specs.Every.{EveryOf}
use Rattle.sd_program.specs.Place.{EveryOfFunction}
use Rattle.sd_program.specs.Known.{IsPlaced, IsKnown}
use Rattle.sd_elab.specs.items.Graphs.{no_graph, graph_named}
use Rattle.sd_elab.specs.elab.Elaboration.{function_graph}
use Rattle.sd_tie.specs.items.Standing.{IsJoined}
use Rattle.sd_tie.specs.programs.Joined.{HasPlainElement}

-- the size symbols, and their values
abbrev pub symbols_of : Named ℤ → List Name
symbols_of named = map (λ size. size.0) named

abbrev pub values_of : Named ℤ → List ℤ
values_of named = map (λ size. size.1) named

-- what a program fulfils where these are above it
pub record IsFitting (above : List FunctionTree) (function : FunctionTree) : Type 0 where
  pub known : EveryOfFunction IsKnown above function
  pub placed : EveryOfFunction IsPlaced above function
  pub callable : EveryOfFunction IsCallable above function
  pub affine : EveryOf (EachBound IsAffine) function
  pub few : EveryOf HasFewParameters function
  pub joined : EveryOf IsJoined function
  pub plain : EveryOf HasPlainElement function

-- of several programs, the latest first
abbrev pub AreFitting : List FunctionTree → Type 0
AreFitting [] = ⊤
AreFitting (function ∷ above) = IsFitting above function × AreFitting above

-- their graphs, each of which calls those behind it
abbrev pub graphs_latest : (symbols : List Name) → List FunctionTree → Named GraphTree
graphs_latest symbols [] = []
graphs_latest symbols (function ∷ above) = (function.name, function_graph symbols (graph_named (graphs_latest symbols above)) function) ∷ graphs_latest symbols above

-- the graph of the latest of them
abbrev pub source_graph : Named ℤ → List FunctionTree → GraphTree
source_graph named [] = no_graph
source_graph named (function ∷ above) = function_graph (symbols_of named) (graph_named (graphs_latest (symbols_of named) above)) function
