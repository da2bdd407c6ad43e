-- Whether a scope is free of races, as a test. A law says that the test tells it rightly.
use Rattle.std.specs.Prelude.{ℕ, nat_eq, ℤ, pos, ◌-ℤ◌, ◌*ℤ◌, int_lt, unsigned_abs, List, [], ◌∷◌, Bool, true, false, not, ◌&&◌, ◌||◌}
use Rattle.std.specs.Ordering.{int_eq}
use Rattle.std.specs.List.{list_all, list_any}
use Rattle.sd_range.specs.Terms.{coefficient_of}
use Rattle.sd_range.specs.Arithmetic.{affine_difference}
use Rattle.sd_range.specs.declared.affine.Affine.{Affine}
use Rattle.sd_subset.specs.declared.boxes.bounds.Bounds.{Bounds}
use Rattle.sd_subset.specs.boxes.Box.{Parameter, Box, least, greatest, replaced}
use Rattle.sd_graph.specs.Mode.{do_conflict}
use Rattle.sd_prop.specs.propagation.Scopes.{Over, points, elements, Scope}
use Rattle.sd_race.specs.race.Pairs.{Pair, pairs_of}

-- the same terms
abbrev pub are_same : (terms others : List (ℕ × ℤ)) → Bool
are_same [] [] = true
are_same [] (other ∷ others) = false
are_same (term ∷ terms) [] = false
are_same (term ∷ terms) (other ∷ others) = (nat_eq term.0 other.0 && int_eq term.1 other.1) && are_same terms others

-- in some dimension
abbrev pub in_some : (Bounds → Bounds → Bool) → Box → Box → Bool
in_some test [] other = false
in_some test (one ∷ box) [] = false
in_some test (one ∷ box) (two ∷ other) = test one two || in_some test box other

-- the one begins above the other's end
abbrev pub begins_above : (around : List Parameter) → (one other : Bounds) → Bool
begins_above around one other = let gap = least around (affine_difference one.low other.high) in are_same gap.terms [] && int_lt (pos 0) gap.constant

-- two boxes are apart, with a map's parameters replaced
abbrev pub are_apart : (around own : List Parameter) → Box → Box → Bool
are_apart around own box other = in_some (λ one two. begins_above around one two || begins_above around two one) (replaced own box) (replaced own other)

-- all four bounds have one sum of terms
abbrev pub are_parallel : (one other : Bounds) → Bool
are_parallel one other = are_same one.high.terms one.low.terms && (are_same other.low.terms one.low.terms && are_same other.high.terms one.low.terms)

-- a step of a parameter moves bounds by more than they are wide
abbrev pub is_wide : (by : Parameter) → (one other : Bounds) → Bool
is_wide by one other =
    int_lt (one.high.constant -ℤ other.low.constant) (pos (unsigned_abs (coefficient_of one.low.terms by.0)) *ℤ by.1.step)
    && int_lt (other.high.constant -ℤ one.low.constant) (pos (unsigned_abs (coefficient_of one.low.terms by.0)) *ℤ by.1.step)

-- none of a map's parameters but this one is in the terms
abbrev pub is_alone : (own : List Parameter) → (by : ℕ) → Affine → Bool
is_alone own by a = list_all (λ parameter. nat_eq parameter.0 by || int_eq (coefficient_of a.terms parameter.0) (pos 0)) own

-- a parameter separates two boxes in a dimension
abbrev pub separates_in : (own : List Parameter) → (by : Parameter) → (one other : Bounds) → Bool
separates_in own by one other = (not (int_eq (coefficient_of one.low.terms by.0) (pos 0)) && is_alone own by.0 one.low) && (are_parallel one other && is_wide by one other)

-- less than a step of a parameter fits between its begin and this end
abbrev pub is_near : (around : List Parameter) → Parameter → Affine → Bool
is_near around parameter end = let length = greatest around (affine_difference end parameter.1.begin) in are_same length.terms [] && int_lt length.constant parameter.1.step

-- two boxes are separated on each parameter that is not single
abbrev pub are_all_separated : (around own : List Parameter) → Box → Box → Bool
are_all_separated around own box other = list_all (λ (parameter : Parameter). list_any (is_near around parameter) parameter.1.ends || in_some (separates_in own parameter) box other) own

abbrev pub are_harmless : (around own : List Parameter) → Box → Box → Bool
are_harmless around own box other = are_apart around own box other || are_all_separated around own box other

-- the same where a scope's body is done twice: no two boxes are known to be harmless for two elements of a stream
abbrev pub are_harmless_over : Over → (around : List Parameter) → Box → Box → Bool
are_harmless_over (points sequential params) around box other = are_harmless around params box other
are_harmless_over elements around box other = false

-- a pair is accepted: where it is of one container, in modes that conflict, its boxes are harmless
abbrev pub is_accepted : Pair → Bool
is_accepted pair =
    not (nat_eq pair.first.container pair.second.container && do_conflict pair.first.mode pair.second.mode)
    || are_harmless_over pair.scope.over pair.scope.around pair.first.box pair.second.box

-- each pair of accesses of a scope is accepted, whether it is sequential or not
abbrev pub is_free_of_races : Scope → Bool
is_free_of_races scope = list_all is_accepted (pairs_of scope)
