-- Parts of unfolded lists.
use Rattle.std.specs.List.{Contains}
use Rattle.std.proofs.Common.{ℤ, zero, suc, ℕ, ◌<◌, List, [], ◌∷◌, length, slice_index_or, arith}
use Rattle.std.proofs.lemmas.List.Elements.{Contains-append_left, Contains-append_right}
use Rattle.sd_range.proofs.Members.{Contains-nil, Contains-first, Contains-later}
use Rattle.sd_work.specs.Residual.{Term, part_at}
use Rattle.sd_work.specs.Touch.{Touch, Touches}
use Rattle.sd_confluence.specs.Safe.{IsSafe, AreSafe}
use Rattle.sd_subset.specs.boxes.Box.{Parameter}
use Rattle.sd_subset.specs.boxes.InForce.{AreInForce}
use Rattle.sd_graph.specs.declared.place.Place.{Place}
use Rattle.sd_graph.specs.PlainTree.{ItemTrees, no_item, and_item}
use Rattle.sd_graph.specs.Wiring.{Use, kind_uses, item_uses, uses_of_each, uses_at}
use Rattle.sd_graph.specs.Context.{Context}
use Rattle.sd_graph.specs.Unfold.{point_terms, unfold_items}
use Rattle.sd_prop.specs.propagation.Accesses.{Access}
use Rattle.sd_race.specs.cover.Fit.{AreFit}
use Rattle.sd_race.specs.cover.Touched.{IsTouchOf}
use Rattle.sd_race.proofs.cover_lemmas.UsesOf.{of_access, uses-kind}
use Rattle.sd_race.proofs.cover_lemmas.Covered.{kind-covered}

-- the member of a number
pub contains-at : {A : Type 0} (all : List A) (i : ℕ) (d : A) → i < length all → Contains all (slice_index_or all i d)
contains-at [] i d below = absurd (omega arith)
contains-at (a ∷ all) zero d below = Contains-first a all
contains-at (a ∷ all) (suc i) d below = Contains-later a all (slice_index_or all i d) (contains-at all i d (omega arith))

-- what a part of a list of parts for each touches
pub point_terms-at : (part : List ℤ → Term Place) (all : List (List ℤ)) (i : ℕ) (touch : Touch) (d : List ℤ) → Touches (part_at (point_terms part all) i) touch → (i < length all) × Touches (part (slice_index_or all i d)) touch
point_terms-at part [] i touch d is = absurd is
point_terms-at part (a ∷ all) zero touch d is = (omega arith, is)
point_terms-at part (a ∷ all) (suc i) touch d is =
    let (below, at) = point_terms-at part all i touch d is in (omega (arith, below), at)

-- parts for each are safe where each is
pub point_terms-safe : (part : List ℤ → Term Place) (all : List (List ℤ)) → ((a : List ℤ) → Contains all a → IsSafe (part a)) → AreSafe (point_terms part all)
point_terms-safe part [] safe = tt
point_terms-safe part (a ∷ all) safe = (safe a (Contains-first a all), point_terms-safe part all (λ other member. safe other (Contains-later a all other member)))

-- a list with a member is not past the end
pub not_past : (all : List (List Use)) (j : ℕ) (other : Use) → Contains (uses_at all j) other → j < length all
not_past [] j other member = absurd (Contains-nil other member)
not_past (uses ∷ all) zero other member = omega arith
not_past (uses ∷ all) (suc j) other member = let below = not_past all j other member in omega (arith, below)

-- what an item of a list touches is covered by an access of a use of that item
pub part-used : (items : ItemTrees) (around : List Parameter) (context : Context) (i : ℕ) (touch : Touch) → AreFit items around → AreInForce context.values around →
    Touches (part_at (unfold_items items context) i) touch →
    (access : Access) × Contains (uses_at (uses_of_each items context.containers) i) (of_access access) × Contains (item_uses items context.containers) (of_access access) × IsTouchOf context.values context.reach access touch
part-used no_item around context i touch fit in_force is = absurd is
part-used (and_item line kind items) around context zero touch fit in_force is =
    let (access, member, at) = kind-covered kind around line [] context touch fit.0 in_force is in
    let used = uses-kind kind context.containers [] access member in
    (access, used, Contains-append_left (kind_uses kind context.containers) (item_uses items context.containers) (of_access access) used, at)
part-used (and_item line kind items) around context (suc i) touch fit in_force is =
    let (access, member, used, at) = part-used items around context i touch fit.1 in_force is in
    (access, member, Contains-append_right (kind_uses kind context.containers) (item_uses items context.containers) (of_access access) used, at)
