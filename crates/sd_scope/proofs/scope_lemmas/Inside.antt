-- Inside one more point or element each container is reached a level higher, but those that are private to it.
use Rattle.std.proofs.Common.{◌≡◌, ℕ, zero, suc, ◌+◌, add-one, List, [], ◌∷◌, map, Option, Some, None, option_map, Bool, true, false, ◌||◌, if◌then◌else◌, slice_index_or, refl, ap, ◌∙◌, arith}
use Rattle.sd_graph.specs.ContainerParts.{Containers}
use Rattle.sd_graph.specs.Context.{own_reach, raised}
use Rattle.sd_graph.specs.Wiring.{has_number}
use Rattle.sd_scope.specs.declared.scope.base.Way.{Way}
use Rattle.sd_scope.specs.declared.scope.base.Base.{Base}
use Rattle.sd_scope.specs.declared.scope.scope.Scope.{Scope}
use Rattle.sd_scope.specs.scope.Standing.{reach_from, found_through, private_inside, IsInside}

-- a container from inside one more
pub raised_from : (own : Bool) (outer : Option ℕ) (depth : ℕ) (containers : Containers) (number : ℕ) (way : Option Way) →
    reach_from (if own then Some 0 else option_map suc outer) (depth + 1) containers number way
    ≡ (if own then own_reach containers number else raised (reach_from outer depth containers number way))
raised_from true outer depth containers number way = refl
raised_from false (Some level) depth containers number way = refl
raised_from false None depth containers number None = ap (λ level. record (own_reach containers number) { level = level }) (add-one depth)
raised_from false None depth containers number (Some way) =
    let higher : way.station.level + (depth + 1) ≡ suc (way.station.level + depth) = omega arith in
    ap (λ level. record { level = level; container = way.station.container; find = found_through way.views way.extents }) higher

-- a scope is inside another one where its private containers are those of that and of its own
pub inside_from : (private : List ℕ) (outer inner : Scope) →
    ((number : ℕ) → slice_index_or inner.privates number None ≡ private_inside private outer.privates number) →
    inner.depth ≡ outer.depth + 1 → inner.state ≡ outer.state → inner.begun ≡ outer.begun → IsInside private outer inner
inside_from private outer inner privates deeper state begun =
    let reached = λ (containers : Containers) (base : Base) (number : ℕ).
    let way = slice_index_or base.ways number None in
    ap (λ level. reach_from level inner.depth containers number way) (privates number)
    ∙ ap (λ depth. reach_from (private_inside private outer.privates number) depth containers number way) deeper
    ∙ raised_from (has_number private number) (slice_index_or outer.privates number None) outer.depth containers number way
    in record { reach = λ containers base i number. reached containers base number i; state = state; begun = begun }

-- a list of levels, each one higher
pub raised_at : (levels : List (Option ℕ)) (number : ℕ) → slice_index_or (map (option_map suc) levels) number None ≡ option_map suc (slice_index_or levels number None)
raised_at [] number = refl
raised_at (level ∷ levels) zero = refl
raised_at (level ∷ levels) (suc number) = raised_at levels number

-- a container is made private before others, or is one of them
pub private_next : (this others : Bool) (level : Option ℕ) → (if others then Some 0 else (if this then Some 0 else level)) ≡ (if (this || others) then Some 0 else level)
private_next true true level = refl
private_next true false level = refl
private_next false true level = refl
private_next false false level = refl
