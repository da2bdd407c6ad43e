-- The text of a race.
use Rattle.std.specs.Prelude.{ℕ, List, [], ◌++◌, codes, Option, Some, None}
use Rattle.std.specs.Fmt.{decimal}
use Rattle.sd_graph.specs.ContainerParts.{Containers}
use Rattle.sd_graph.specs.PlainTree.{GraphTree}
use Rattle.sd_print.specs.graphs.GraphText.{path_text}
use Rattle.sd_prop.specs.propagation.Accesses.{Access}
use Rattle.sd_prop.specs.propagation.Scopes.{Scope, scope_at}
use Rattle.sd_race.specs.race.Race.{Race}
use Rattle.sd_race.specs.text.AccessText.{use_text}

-- the containers of the graph in which a scope stands; none where there is no scope
abbrev pub containers_of : Option Scope → Containers
containers_of None = []
containers_of (Some scope) = scope.containers

-- an access with its node, as `read A by 2`
abbrev pub side_text : Containers → Access → List ℕ
side_text containers access = use_text containers access ++ (codes " by " ++ decimal access.node)

-- both accesses, where these are the containers
abbrev pub sides_text : Containers → (first second : Access) → List ℕ
sides_text containers first second = side_text containers first ++ (codes ", " ++ side_text containers second)

-- a race of a graph, as `race at 1.1: read A by 2, write A by 2`, the containers named as in the scope's graph
abbrev pub race_text : GraphTree → Race → List ℕ
race_text tree race = codes "race at " ++ (path_text race.at ++ (codes ": " ++ sides_text (containers_of (scope_at tree race.at)) race.first race.second))
