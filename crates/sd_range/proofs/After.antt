-- The points after a point.
use Rattle.std.proofs.Common.{Some, ◌≡◌, ◌∷◌, ◌++◌, [], ℤ, List, map, refl, ap, sym, ◌∙◌}
use Rattle.std.specs.List.{flat_map, AllByRecursion}
use Rattle.std.proofs.lemmas.Int.{by_lt_z}
use Rattle.sd_range.specs.Points.{tuples, moved, Walk}
use Rattle.sd_range.specs.Axis.{axis_values, first_of, later_values, Rises, IsFilled, after}
use Rattle.sd_range.specs.declared.axis.Axis.{Axis}
use Rattle.sd_range.proofs.Stepped.{stepped-empty, stepped-filled}

-- no tuple begins where there is no rest
no_tuple : (firsts : List ℤ) → flat_map (λ first. map (λ rest. first ∷ rest) []) firsts ≡ []
no_tuple [] = refl
no_tuple (first ∷ firsts) = no_tuple firsts

-- the first of all points, and those after it
pub tuples-first : (axes : List Axis) → AllByRecursion Rises axes → AllByRecursion IsFilled axes →
    tuples (map axis_values axes) ≡ map first_of axes ∷ after axes (map first_of axes)
tuples-first [] rising filled = refl
tuples-first (axis ∷ axes) rising filled =
    ap (flat_map (λ first. map (λ rest. first ∷ rest) (tuples (map axis_values axes)))) (stepped-filled axis.first axis.last axis.step rising.0 filled.0)
    ∙ ap (λ inner. map (λ rest. axis.first ∷ rest) inner ++ flat_map (λ later. map (λ rest. later ∷ rest) (tuples (map axis_values axes))) (later_values axis axis.first)) (tuples-first axes rising.1 filled.1)

-- where the other axes have gone round, the next number of the first axis comes with their first ones
pub after-round : (axis : Axis) (axes : List Axis) (number next : ℤ) (at : List ℤ) → AllByRecursion Rises axes → AllByRecursion IsFilled axes →
    after axes at ≡ [] → later_values axis number ≡ next ∷ later_values axis next →
    after (axis ∷ axes) (number ∷ at) ≡ (next ∷ map first_of axes) ∷ after (axis ∷ axes) (next ∷ map first_of axes)
after-round axis axes number next at rising filled round goes =
    ap (λ inner. map (λ rest. number ∷ rest) inner ++ flat_map (λ later. map (λ rest. later ∷ rest) (tuples (map axis_values axes))) (later_values axis number)) round
    ∙ ap (flat_map (λ later. map (λ rest. later ∷ rest) (tuples (map axis_values axes)))) goes
    ∙ ap (λ inner. map (λ rest. next ∷ rest) inner ++ flat_map (λ later. map (λ rest. later ∷ rest) (tuples (map axis_values axes))) (later_values axis next)) (tuples-first axes rising filled)

-- where an axis has no number there is no point
pub tuples-empty : (axes : List Axis) → (AllByRecursion IsFilled axes → ⊥) → tuples (map axis_values axes) ≡ []
tuples-empty [] none = absurd (none tt)
tuples-empty (axis ∷ axes) none =
    by_lt_z axis.last axis.first
    (λ over. ap (flat_map (λ first. map (λ rest. first ∷ rest) (tuples (map axis_values axes)))) (stepped-empty axis.first axis.last axis.step over))
    (λ filled. ap (λ inner. flat_map (λ first. map (λ rest. first ∷ rest) inner) (axis_values axis)) (tuples-empty axes (λ others. none (filled, others)))
    ∙ no_tuple (axis_values axis))

-- the step to the first point
pub moved-first : (walk : Walk) (axes : List Axis) (at : List ℤ) → AllByRecursion Rises axes → AllByRecursion IsFilled axes → at ≡ map first_of axes →
    walk.left ≡ tuples (map axis_values axes) → moved walk ≡ record walk { current = Some at; left = after axes at }
moved-first walk axes at rising filled first all =
    ap (λ left. moved (record walk { left = left })) (all ∙ tuples-first axes rising filled)
    ∙ ap (λ point. let on : Walk = record walk { current = Some point; left = after axes point } in on) (sym first)
