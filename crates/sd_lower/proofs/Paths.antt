-- What is told of scopes, one after another, by their paths.
use Rattle.std.specs.List.{flat_map}
use Rattle.std.proofs.Common.{◌≡◌, ℕ, List, [], ◌∷◌, ◌++◌, map, refl, ap}
use Rattle.sd_graph.specs.PlainTree.{GraphTree}
use Rattle.sd_prop.specs.propagation.Accesses.{Access}
use Rattle.sd_prop.specs.propagation.Joined.{propagated, annotated}
use Rattle.sd_prop.specs.propagation.Scopes.{Scope, top_scopes}
use Rattle.sd_lower.specs.Kinds.{top_paths}

-- a scope's path and its accesses as a whole
abbrev pub Top : Type 0
Top = List ℕ × List Access

told-scopes : {Y : Type 0} (f : List ℕ → List Y) (scopes : List Scope) →
    flat_map (λ (top : Top). f top.0) (map (λ (scope : Scope). (scope.path, propagated scope)) scopes) ≡ flat_map f (map (λ (scope : Scope). scope.path) scopes)
told-scopes f [] = refl
told-scopes f (scope ∷ scopes) = ap (λ rest. f scope.path ++ rest) (told-scopes f scopes)

pub told-tops : {Y : Type 0} (f : List ℕ → List Y) (tree : GraphTree) → flat_map (λ (top : Top). f top.0) (annotated tree) ≡ flat_map f (top_paths tree)
told-tops f tree = told-scopes f (top_scopes tree)
