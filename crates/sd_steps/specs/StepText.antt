-- A step as a line of a chain file.
use Rattle.std.specs.Prelude.{ℕ, List, ◌++◌, codes}
use Rattle.std.specs.List.{flat_map}
use Rattle.std.specs.Fmt.{decimal}
use Rattle.sd_graph.specs.PlainTree.{GraphTree}
use Rattle.sd_print.specs.graphs.GraphText.{path_text}
use Rattle.sd_chain.specs.declared.step.Step.{Step}
use Rattle.sd_chain.specs.declared.step.Step.TheVariants.{MapCollapse, MapExpansion, MapInterchange, MapTiling}
use Rattle.sd_steps.specs.Matched.{matched}

-- the name of its rewrite
abbrev pub name_of : Step → List ℕ
name_of (MapCollapse at) = codes "MapCollapse"
name_of (MapExpansion at) = codes "MapExpansion"
name_of (MapInterchange at) = codes "MapInterchange"
name_of (MapTiling at sizes) = codes "MapTiling"

-- sizes in decimal digits, each behind a space
abbrev pub sizes_text : (sizes : List ℕ) → List ℕ
sizes_text sizes = flat_map (λ size. codes " " ++ decimal size) sizes

-- and its arguments
abbrev pub arguments_of : Step → List ℕ
arguments_of (MapCollapse at) = path_text at.steps
arguments_of (MapExpansion at) = path_text at.steps
arguments_of (MapInterchange at) = path_text at.steps
arguments_of (MapTiling at sizes) = path_text at.steps ++ sizes_text sizes

-- with a newline behind it
abbrev pub step_line : Step → List ℕ
step_line step = name_of step ++ (codes " " ++ (arguments_of step ++ codes "\n"))

-- a line for each step that may be done on a graph
abbrev pub matches_text : GraphTree → List ℕ
matches_text tree = flat_map step_line (matched tree)
