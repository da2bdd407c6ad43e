-- The steps that may be done on a graph.
use Rattle.std.specs.Prelude.{◌≡◌, ⊤, ℕ, List, [], ◌∷◌, map, Option, Some, None, Bool, true, false}
use Rattle.std.specs.List.{AllByRecursion, filter, flat_map}
use Rattle.sd_graph.specs.PlainTree.{GraphTree}
use Rattle.sd_prop.specs.propagation.Scopes.{Scope, params_of, all_scopes}
use Rattle.sd_chain.specs.declared.step.Step.{Step}
use Rattle.sd_chain.specs.declared.step.Step.TheVariants.{MapCollapse, MapExpansion, MapInterchange, MapTiling}
use Rattle.sd_steps.specs.Chained.{failing}
use Rattle.sd_steps.specs.declared.matched.Rewrite.{Rewrite}
use Rattle.sd_steps.specs.declared.matched.Rewrite.TheVariants.{Collapse, Expansion, Interchange, Tiling}

abbrev pub fails_none : Option ℕ → Bool
fails_none None = true
fails_none (Some condition) = false

-- no condition of a step fails
abbrev pub may_be_done : GraphTree → Step → Bool
may_be_done tree step = fails_none (failing tree step)

-- the sizes with which tiles of a scope are tried: 2 for each of its parameters
abbrev pub tried_sizes : Scope → List ℕ
tried_sizes scope = map (λ param. 2) (params_of scope.over)

-- a rewrite at a scope
abbrev pub step_at : Rewrite → Scope → Step
step_at Collapse scope = MapCollapse (record { steps = scope.path })
step_at Expansion scope = MapExpansion (record { steps = scope.path })
step_at Interchange scope = MapInterchange (record { steps = scope.path })
step_at Tiling scope = MapTiling (record { steps = scope.path }) (tried_sizes scope)

-- those at these scopes that may be done
abbrev pub matches_at : GraphTree → Rewrite → List Scope → List Step
matches_at tree rewrite scopes = filter (may_be_done tree) (map (step_at rewrite) scopes)

-- the rewrites by their names
abbrev pub rewrites : List Rewrite
rewrites = Collapse ∷ Expansion ∷ Interchange ∷ Tiling ∷ []

-- the steps that may be done: by the names of rewrites, and then by the scopes of the graph in the order of its states and nodes, depth first
abbrev pub matched : GraphTree → List Step
matched tree = flat_map (λ rewrite. matches_at tree rewrite (all_scopes tree)) rewrites

-- of tilings those with the size 2 alone are tried; of other rewrites all are
abbrev pub IsTried : Step → Type 0
IsTried (MapCollapse at) = ⊤
IsTried (MapExpansion at) = ⊤
IsTried (MapInterchange at) = ⊤
IsTried (MapTiling at sizes) = AllByRecursion (λ size. size ≡ 2) sizes
