-- The extents of containers, and when two lists of them are the same.
use Rattle.std.specs.Prelude.{ℕ, nat_eq, ℤ, pos, List, [], ◌∷◌, Bool, true, ◌&&◌, ◌≡◌}
use Rattle.std.specs.List.{All}
use Rattle.std.specs.Ordering.{int_eq}
use Rattle.std.specs.Cmp.Lexicographic.{pointwise}
use Rattle.sd_range.specs.declared.affine.Affine.{Affine}
use Rattle.sd_names.specs.Limits.{is_within}

abbrev pub is_same_term : ℕ × ℤ → ℕ × ℤ → Bool
is_same_term a b = nat_eq a.0 b.0 && int_eq a.1 b.1

abbrev pub is_same : Affine → Affine → Bool
is_same a b = int_eq a.constant b.constant && pointwise is_same_term a.terms b.terms

abbrev pub are_same : List Affine → List Affine → Bool
are_same = pointwise is_same

abbrev pub one_extent : Affine
one_extent = record { constant = pos 1; terms = [] }

-- where no dimension is left there is one of extent 1
abbrev pub or_one : List Affine → List Affine
or_one [] = one_extent ∷ []
or_one extents = extents

-- each extent is within the limits of affine expressions
abbrev pub AreWithin : List Affine → Type 0
AreWithin extents = All (λ extent. is_within extent ≡ true) extents
