-- A value that was taken for a consume scope.
use Rattle.std.specs.Prelude.{◌≡◌, ℕ, List, Option, Some, None, ⊤}
use Rattle.sd_graph.specs.PlainTree.{GraphTree}
use Rattle.sd_graph.specs.Unfold.{at_element, element_memory}
use Rattle.sd_scope.specs.scope.Standing.{context_of}
use Rattle.sd_scope.specs.declared.scope.base.Base.{Base}
use Rattle.sd_scope.specs.declared.scope.scope.Scope.{Scope}
use Rattle.sd_scope.specs.declared.take.taken.Taken.{Taken}

-- what holds of a value that was taken
abbrev pub IfTaken : Option Taken → (Taken → Type 0) → Type 0
IfTaken None holds = ⊤
IfTaken (Some taken) holds = holds taken

-- the element of a consume scope that stands here has this memory and stands there
pub record IsElement (tree : GraphTree) (base : Base) (scope : Scope) (element : ℕ) (private : List ℕ) (taken : Taken) : Type 0 where
  pub own : taken.own.contents ≡ element_memory (context_of tree base scope) element private taken.value
  pub stands : context_of tree base taken.scope ≡ at_element (context_of tree base scope) element private taken.value
