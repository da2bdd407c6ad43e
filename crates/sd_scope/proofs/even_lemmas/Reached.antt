-- How containers are reached from a scope, a view, a point or an element: each at equal distances.
use Rattle.std.proofs.Common.{ℕ, ℤ, List, [], ◌∷◌, Option, Some, None, Bool, true, false, if◌then◌else◌, slice_index_or}
use Rattle.sd_graph.specs.ContainerParts.{Containers, container_at}
use Rattle.sd_graph.specs.Wiring.{has_number}
use Rattle.sd_graph.specs.Context.{Context, Reach, own_reach, raised, entered}
use Rattle.sd_graph.specs.PlainTree.{GraphTree}
use Rattle.sd_graph.specs.TreeParts.{containers_of}
use Rattle.sd_scope.specs.declared.scope.base.View.{View}
use Rattle.sd_scope.specs.declared.scope.base.Way.{Way}
use Rattle.sd_scope.specs.declared.scope.base.Base.{Base}
use Rattle.sd_scope.specs.declared.scope.scope.Scope.{Scope}
use Rattle.sd_scope.specs.scope.Standing.{context_of, found_through, reach_by, reach_from, reach_of}
use Rattle.sd_scope.specs.even.Even.{IsEven}
use Rattle.sd_scope.proofs.even_lemmas.Found.{IsEvenOnLines, even_inside, even_behind, even_on_lines, even_found}
use Rattle.sd_scope.proofs.even_lemmas.Row.{reach_in}

-- ---- ways

-- through views
through_on_lines : (views : List View) (extents : List ℕ) → IsEvenOnLines (found_through views extents)
through_on_lines [] extents = even_inside extents
through_on_lines (view ∷ views) extents = even_behind view.extents view.subset.dims view.values (found_through views extents) (through_on_lines views extents)

pub even_through : (views : List View) (extents : List ℕ) → IsEven (found_through views extents)
even_through views extents = even_on_lines (found_through views extents) (through_on_lines views extents)

-- by a way, or to one of the graph's own
pub even_by_way : (depth : ℕ) (containers : Containers) (number : ℕ) (way : Option Way) → IsEven (reach_by depth containers number way).find
even_by_way depth containers number None = even_found (container_at containers number)
even_by_way depth containers number (Some way) = even_through way.views way.extents

even_from : (private : Option ℕ) (depth : ℕ) (containers : Containers) (number : ℕ) (way : Option Way) → IsEven (reach_from private depth containers number way).find
even_from (Some level) depth containers number way = even_found (container_at containers number)
even_from None depth containers number way = even_by_way depth containers number way

-- from a scope
pub even_reach : (containers : Containers) (base : Base) (scope : Scope) (number : ℕ) → IsEven (reach_of containers base scope number).find
even_reach containers base scope number =
    even_from (slice_index_or scope.privates number None) scope.depth containers number (slice_index_or base.ways number None)

-- from inside one more owner
pub even_raised : (reach : Reach) → IsEven reach.find → IsEven (raised reach).find
even_raised reach even = even

-- ---- points

inside_owner : (own : Bool) (containers : Containers) (number : ℕ) (outer : Reach) → IsEven outer.find → IsEven (if own then own_reach containers number else raised outer).find
inside_owner true containers number outer even = even_found (container_at containers number)
inside_owner false containers number outer even = even

-- from a point or an element
pub even_entered : (context : Context) (own : List ℕ) (values : List ℤ) (shown : List (List ℕ × ℤ)) → ((number : ℕ) → IsEven (context.reach number).find) →
    (number : ℕ) → IsEven ((entered context own values shown).reach number).find
even_entered context own values shown even number =
    inside_owner (has_number own number) context.containers number (context.reach number) (even number)

-- from where a scope stands
pub even_standing : (tree : GraphTree) (base : Base) (scope : Scope) (number : ℕ) → IsEven ((context_of tree base scope).reach number).find
even_standing tree base scope number = even_reach (containers_of tree) base scope number

-- and from a point or an element in it, whatever its values are
pub even_within : (tree : GraphTree) (base : Base) (scope : Scope) (private : List ℕ) (number : ℕ) → IsEven (reach_in (context_of tree base scope) private number).find
even_within tree base scope private number = even_entered (context_of tree base scope) private [] [] (even_standing tree base scope) number
