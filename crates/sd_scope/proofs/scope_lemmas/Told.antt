-- All that a place shows, put together.
use Rattle.std.proofs.Common.{◌≡◌, ℕ, ℤ, List, ◌++◌, map, length, ap, ◌∙◌}
use Rattle.sd_graph.specs.PlainTree.{StateTrees}
use Rattle.sd_graph.specs.ContainerParts.{Containers}
use Rattle.sd_graph.specs.Context.{named_values}
use Rattle.sd_graph.specs.LoopScope.{loops_in_force}
use Rattle.sd_scope.specs.declared.scope.scope.Shown.{Shown}
use Rattle.sd_scope.specs.declared.scope.scope.Scope.{Scope}
use Rattle.sd_scope.specs.scope.Standing.{name_shown}

-- what is shown, with its name
abbrev pub named : (names : List (List ℕ)) → Containers → Shown → List ℕ × ℤ
named names containers shown = (name_shown names containers shown.name, shown.value)

pub told_all : (names these : List (List ℕ)) (containers : Containers) (states : StateTrees) (scope : Scope) (begun : List ℤ) (loops : List ℕ) (shown : List Shown) (before after : List (List ℕ × ℤ)) →
    these ≡ names → begun ≡ scope.begun → shown ≡ scope.shown → loops ≡ loops_in_force states (length names) scope.state →
    before ≡ named_values these begun loops → after ≡ before ++ map (named these containers) shown →
    after ≡ named_values names scope.begun (loops_in_force states (length names) scope.state) ++ map (named names containers) scope.shown
told_all names these containers states scope begun loops shown before after same_names same_begun same_shown same_loops told more =
    more
    ∙ ap (λ (list : List Shown). before ++ map (named these containers) list) same_shown
    ∙ ap (λ (list : List (List ℕ)). before ++ map (named list containers) scope.shown) same_names
    ∙ ap (λ (list : List (List ℕ × ℤ)). list ++ map (named names containers) scope.shown)
    (told
    ∙ ap (λ (list : List (List ℕ)). named_values list begun loops) same_names
    ∙ ap (λ (values : List ℤ). named_values names values loops) same_begun
    ∙ ap (λ (list : List ℕ). named_values names scope.begun list) same_loops)
