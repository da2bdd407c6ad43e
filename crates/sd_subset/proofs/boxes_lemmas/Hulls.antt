-- A hull has what each of its boxes has inside the container.
use Rattle.std.specs.List.{AllByRecursion, AllZip, Contains, flat_map, fold, list_all}
use Rattle.std.proofs.Common.{◌≡◌, inl, inr, ℕ, ℤ, pos, neg_ℤ, ◌+ℤ◌, ◌≤ℤ◌, ◌<ℤ◌, int_lt, List, [], ◌∷◌, map, Bool, true, false, ◌&&◌, if◌then◌else◌, refl, ap, sym, ◌∙◌, subst, arith}
use Rattle.std.proofs.lemmas.Int.{ints}
use Rattle.sd_range.specs.Affine.{affine_value, terms_value}
use Rattle.sd_range.specs.Arithmetic.{affine_difference}
use Rattle.sd_range.specs.Terms.{IsNormal}
use Rattle.sd_range.proofs.Normal.{normal-combined}
use Rattle.sd_range.proofs.Coefficients.{same_coefficients, coefficient_of-combined}
use Rattle.sd_subset.specs.boxes.InForce.{AreNormalBounds, IsNormalBox}
use Rattle.sd_range.specs.declared.affine.Affine.{Affine}
use Rattle.sd_range.proofs.AffineLaws.{affine_value-difference}
use Rattle.sd_range.proofs.Members.{Contains-nil, Contains-first, Contains-cases, Contains-map, Contains-flat_map}
use Rattle.sd_range.proofs.SubsetLaws.{IsWithin}
use Rattle.sd_subset.specs.declared.boxes.bounds.Bounds.{Bounds}
use Rattle.sd_subset.specs.boxes.Box.{Box, IsBetween, IsInBox}
use Rattle.sd_subset.specs.boxes.Hull.{has_no_terms, differs_by_constant, is_level, whole_bounds, wider, hull_bounds, first_of, rest_of, hull}

-- a list without terms
pub none_there : (terms : List (ℕ × ℤ)) → has_no_terms terms ≡ true → terms ≡ []
none_there [] is = refl
none_there (term ∷ terms) is = cc

-- how far an expression is above another, where that is a constant
abbrev above : Affine → Affine → ℤ
above first other = (affine_difference other first).constant

-- the value of an expression that differs from another by a constant
value-above : (first other : Affine) (values : List ℤ) → differs_by_constant first other ≡ true → affine_value values other ≡ affine_value values first +ℤ above first other
value-above first other values is =
    let gap = affine_difference other first in
    let constant : affine_value values gap ≡ gap.constant = ap (λ terms. gap.constant +ℤ terms_value values terms) (none_there gap.terms is) ∙ omega (arith, ints) in
    omega (arith, ints, constant, affine_value-difference other first values)

-- both of two tests
two : (a b : Bool) → (a && b) ≡ true → (a ≡ true) × (b ≡ true)
two true b is = (refl, is)
two false b is = cc

-- bounds that differ from the first by constants, and are at least as wide as these
record IsWider (values : List ℤ) (first bounds wide : Bounds) : Type 0 where
  level : is_level first wide ≡ true
  low : affine_value values wide.low ≤ℤ affine_value values bounds.low
  high : affine_value values bounds.high ≤ℤ affine_value values wide.high

-- a test of two numbers
less : (n m : ℤ) → int_lt n m ≡ true → n <ℤ m
less n m is = grind (arith, ints)

not_less : (n m : ℤ) → int_lt n m ≡ false → m ≤ℤ n
not_less n m is = grind (arith, ints)

low-lesser : (first a b : Affine) (values : List ℤ) (test : Bool) → int_lt b.constant a.constant ≡ test → differs_by_constant first a ≡ true → differs_by_constant first b ≡ true →
    (affine_value values (if test then b else a) ≤ℤ affine_value values a) × (affine_value values (if test then b else a) ≤ℤ affine_value values b) × (differs_by_constant first (if test then b else a) ≡ true)
low-lesser first a b values true test level level' =
    let below = less b.constant a.constant test in
    (omega (arith, ints, below, value-above first a values level, value-above first b values level'), omega (arith, ints), level')
low-lesser first a b values false test level level' =
    let below = not_less b.constant a.constant test in
    (omega (arith, ints), omega (arith, ints, below, value-above first a values level, value-above first b values level'), level)

high-greater : (first a b : Affine) (values : List ℤ) (test : Bool) → int_lt a.constant b.constant ≡ test → differs_by_constant first a ≡ true → differs_by_constant first b ≡ true →
    (affine_value values a ≤ℤ affine_value values (if test then b else a)) × (affine_value values b ≤ℤ affine_value values (if test then b else a)) × (differs_by_constant first (if test then b else a) ≡ true)
high-greater first a b values true test level level' =
    let below = less a.constant b.constant test in
    (omega (arith, ints, below, value-above first a values level, value-above first b values level'), omega (arith, ints), level')
high-greater first a b values false test level level' =
    let below = not_less a.constant b.constant test in
    (omega (arith, ints), omega (arith, ints, below, value-above first a values level, value-above first b values level'), level)

both_true : (a b : Bool) → a ≡ true → b ≡ true → (a && b) ≡ true
both_true a b is is' = rw is is'

-- the wider of two is as wide as each
wider-first : (values : List ℤ) (first bounds other : Bounds) → is_level first bounds ≡ true → is_level first other ≡ true → IsWider values first bounds (wider bounds other)
wider-first values first bounds other level level' =
    let l = two (differs_by_constant first.low bounds.low) (differs_by_constant first.high bounds.high) level in
    let l' = two (differs_by_constant first.low other.low) (differs_by_constant first.high other.high) level' in
    let low = low-lesser first.low bounds.low other.low values (int_lt other.low.constant bounds.low.constant) refl l.0 l'.0 in
    let high = high-greater first.high bounds.high other.high values (int_lt bounds.high.constant other.high.constant) refl l.1 l'.1 in
    record { level = both_true (differs_by_constant first.low (wider bounds other).low) (differs_by_constant first.high (wider bounds other).high) low.2 high.2; low = low.0; high = high.0 }

wider-second : (values : List ℤ) (first bounds other : Bounds) → is_level first bounds ≡ true → is_level first other ≡ true → IsWider values first other (wider bounds other)
wider-second values first bounds other level level' =
    let l = two (differs_by_constant first.low bounds.low) (differs_by_constant first.high bounds.high) level in
    let l' = two (differs_by_constant first.low other.low) (differs_by_constant first.high other.high) level' in
    let low = low-lesser first.low bounds.low other.low values (int_lt other.low.constant bounds.low.constant) refl l.0 l'.0 in
    let high = high-greater first.high bounds.high other.high values (int_lt bounds.high.constant other.high.constant) refl l.1 l'.1 in
    record { level = both_true (differs_by_constant first.low (wider bounds other).low) (differs_by_constant first.high (wider bounds other).high) low.2 high.2; low = low.1; high = high.1 }

wider-wider : (values : List ℤ) (first a b c : Bounds) → IsWider values first a b → IsWider values first b c → IsWider values first a c
wider-wider values first a b c one two' = record { level = two'.level; low = omega (arith, ints, one.low, two'.low); high = omega (arith, ints, one.high, two'.high) }

-- the widest is as wide as the one it begins with, and as each other
widest-first : (values : List ℤ) (first bounds : Bounds) (others : List Bounds) → is_level first bounds ≡ true → list_all (is_level first) others ≡ true → IsWider values first bounds (fold wider bounds others)
widest-first values first bounds [] level levels = record { level = level; low = omega (arith, ints); high = omega (arith, ints) }
widest-first values first bounds (other ∷ others) level levels =
    let l = two (is_level first other) (list_all (is_level first) others) levels in
    let next = wider-first values first bounds other level l.0 in
    wider-wider values first bounds (wider bounds other) (fold wider (wider bounds other) others) next (widest-first values first (wider bounds other) others next.level l.1)

widest-each : (values : List ℤ) (first bounds one : Bounds) (others : List Bounds) → is_level first bounds ≡ true → list_all (is_level first) others ≡ true → Contains others one → IsWider values first one (fold wider bounds others)
widest-each values first bounds one [] level levels member = absurd (Contains-nil one member)
widest-each values first bounds one (other ∷ others) level levels member =
    let l = two (is_level first other) (list_all (is_level first) others) levels in
    let next = wider-first values first bounds other level l.0 in
    elim (Contains-cases other others one member) [
      | inl is ↦ subst (λ b. IsWider values first b (fold wider (wider bounds other) others)) is
          (wider-wider values first other (wider bounds other) (fold wider (wider bounds other) others) (wider-second values first bounds other level l.0) (widest-first values first (wider bounds other) others next.level l.1))
      | inr later ↦ widest-each values first (wider bounds other) one others next.level l.1 later
    ]

-- an expression in normal form differs from itself by a constant
pub no_difference : (a : Affine) → IsNormal a.terms → differs_by_constant a a ≡ true
no_difference a normal =
    let gap = affine_difference a a in
    let none : gap.terms ≡ [] = same_coefficients gap.terms [] (normal-combined a.terms (neg_ℤ (pos 1)) a.terms normal) tt
    (λ variable. coefficient_of-combined a.terms (neg_ℤ (pos 1)) a.terms variable normal normal ∙ omega (arith, ints)) in
    ap has_no_terms none

level-itself : (first : Bounds) → AreNormalBounds first → is_level first first ≡ true
level-itself first normal = both_true (differs_by_constant first.low first.low) (differs_by_constant first.high first.high) (no_difference first.low normal.low) (no_difference first.high normal.high)

-- between wider bounds
between-wider : (values : List ℤ) (first bounds wide : Bounds) (number : ℤ) → IsWider values first bounds wide → IsBetween values bounds number → IsBetween values wide number
between-wider values first bounds wide number wider' between = record { low = omega (arith, ints, wider'.low, between.low); high = omega (arith, ints, wider'.high, between.high) }

-- a number inside a dimension is between its ends
between-ends : (values : List ℤ) (extent : ℕ) (number : ℤ) → IsWithin extent number → IsBetween values (whole_bounds extent) number
between-ends values extent number within = record { low = omega (arith, ints, within.0); high = omega (arith, ints, within.1) }

by_level : (values : List ℤ) (extent : ℕ) (first one : Bounds) (others : List Bounds) (number : ℤ) (level : Bool) → list_all (is_level first) others ≡ level → AreNormalBounds first → Contains (first ∷ others) one →
    IsBetween values one number → IsWithin extent number → IsBetween values (if level then fold wider first others else whole_bounds extent) number
by_level values extent first one others number true level normal member between within =
    elim (Contains-cases first others one member) [
      | inl is ↦ between-wider values first first (fold wider first others) number (widest-first values first first others (level-itself first normal) level) (subst (λ b. IsBetween values b number) (sym is) between)
      | inr later ↦ between-wider values first one (fold wider first others) number (widest-each values first first one others (level-itself first normal) level later) between
    ]
by_level values extent first one others number false level normal member between within = between-ends values extent number within

in-bounds : (values : List ℤ) (extent : ℕ) (one : Bounds) (all : List Bounds) (number : ℤ) → AllByRecursion AreNormalBounds all → Contains all one →
    IsBetween values one number → IsWithin extent number → IsBetween values (hull_bounds extent all) number
in-bounds values extent one [] number normal member between within = absurd (Contains-nil one member)
in-bounds values extent one (first ∷ others) number normal member between within =
    by_level values extent first one others number (list_all (is_level first) others) refl normal.0 member between within

-- the first bounds of boxes in normal form are, and so are their other bounds
normal-firsts : (boxes : List Box) → AllByRecursion IsNormalBox boxes → AllByRecursion AreNormalBounds (flat_map first_of boxes)
normal-firsts [] normal = tt
normal-firsts ([] ∷ boxes) normal = normal-firsts boxes normal.1
normal-firsts ((bounds ∷ box) ∷ boxes) normal = (normal.0.0, normal-firsts boxes normal.1)

normal-rests : (boxes : List Box) → AllByRecursion IsNormalBox boxes → AllByRecursion IsNormalBox (map rest_of boxes)
normal-rests [] normal = tt
normal-rests ([] ∷ boxes) normal = (tt, normal-rests boxes normal.1)
normal-rests ((bounds ∷ box) ∷ boxes) normal = (normal.0.1, normal-rests boxes normal.1)

-- an index of one of the boxes that is inside the container is in their hull
pub in-hull : (extents : List ℕ) (one : Box) (boxes : List Box) (values index : List ℤ) → AllByRecursion IsNormalBox boxes → Contains boxes one → IsInBox values one index → AllZip IsWithin extents index →
    IsInBox values (hull extents boxes) index
in-hull [] one boxes values [] normal member inside within = tt
in-hull [] one boxes values (number ∷ index) normal member inside within = absurd within
in-hull (extent ∷ extents) one boxes values [] normal member inside within = absurd within
in-hull (extent ∷ extents) [] boxes values (number ∷ index) normal member inside within = absurd inside
in-hull (extent ∷ extents) (bounds ∷ one) boxes values (number ∷ index) normal member inside within = (
  in-bounds values extent bounds (flat_map first_of boxes) number (normal-firsts boxes normal)
      (Contains-flat_map first_of boxes (bounds ∷ one) bounds member (Contains-first bounds [])) inside.0 within.0,
  in-hull extents one (map rest_of boxes) values index (normal-rests boxes normal) (Contains-map rest_of boxes (bounds ∷ one) member) inside.1 within.1,
)
