-- What accesses of an array of eight elements keep, and pieces of a map over it.
use Rattle.std.specs.List.{Contains}
use Rattle.std.proofs.Common.{◌≡◌, true, inl, inr, zero, suc, ℕ, ℤ, pos, negsuc, List, [], ◌∷◌, map, Some, refl, ap, sym, ◌∙◌, subst, arith}
use Rattle.std.proofs.lemmas.Int.{ints}
use Rattle.sd_num.specs.declared.resolution.Resolution.TheVariants.{Sum, Product}
use Rattle.sd_range.specs.Points.{points, ranges_of}
use Rattle.sd_range.proofs.Members.{Contains-nil, Contains-first, Contains-later, Contains-cases}
use Rattle.sd_range.specs.declared.affine.Affine.{Affine}
use Rattle.sd_subset.specs.boxes.Box.{Box, IsInBox, replaced}
use Rattle.sd_subset.proofs.boxes_lemmas.examples.BoxExamples.{i}
use Rattle.sd_graph.specs.TreeParts.{containers_of}
use Rattle.sd_graph.specs.ContainerParts.{Containers, container_at}
use Rattle.sd_graph.specs.Context.{found}
use Rattle.sd_graph.specs.Mode.{Read, Write, Resolve, Push, Take}
use Rattle.sd_prop.specs.propagation.Accesses.{Access, kind_accesses}
use Rattle.sd_prop.proofs.propagation_lemmas.examples.AccessExamples.{access_by, from_below, shift, shift_of}
use Rattle.sd_race.specs.cover.Touched.{AllowsRead}
use Rattle.sd_windows.specs.MapPieces.{range_piece}
use Rattle.sd_safe.specs.pieces.ItemPieces.{ItemPiece, item_pieces, state_items}
use Rattle.sd_safe.specs.pieces.Keeping.{IsInAccess, KeepsElement, DrainsStream}

abbrev containers : Containers
containers = containers_of (shift (pos 4))

abbrev reads : Access
reads = access_by 1 0 Read (from_below (pos 0) (pos 1))

abbrev adds : Access
adds = access_by 2 0 (Resolve Sum) (from_below (pos 1) (pos 2))

abbrev multiplies : Access
multiplies = access_by 3 0 (Resolve Product) (from_below (pos 2) (pos 3))

what_is_read_is_kept : KeepsElement containers [] (reads ∷ []) 0 1
what_is_read_is_kept = record {
  first = reads;
  second = reads;
  is_first = Contains-first reads [];
  is_second = Contains-first reads [];
  first_has = record { same = refl; index = pos 1 ∷ []; inside = (record { low = omega (arith, ints); high = omega (arith, ints) }, tt); is = refl };
  second_has = record { same = refl; index = pos 1 ∷ []; inside = (record { low = omega (arith, ints); high = omega (arith, ints) }, tt); is = refl };
  keeps = inl tt;
}

only-one : (access other : Access) → Contains (access ∷ []) other → access ≡ other
only-one access other member = elim (Contains-cases access [] other member) [ inl is ↦ is | inr later ↦ absurd (Contains-nil other later) ]

what_is_only_summed_is_not_kept : (element : ℕ) → KeepsElement containers [] (adds ∷ []) 0 element → ⊥
what_is_only_summed_is_not_kept element kept =
    let first = only-one adds kept.first kept.is_first in
    let second = only-one adds kept.second kept.is_second in
    elim kept.keeps [
      | inl reading ↦ subst (λ (a : Access). AllowsRead a.mode) (sym first) reading
      | inr different ↦ different (sym (ap (λ (a : Access). a.mode) first) ∙ ap (λ (a : Access). a.mode) second)
    ]

what_is_summed_and_multiplied_is_kept : KeepsElement containers [] (adds ∷ multiplies ∷ []) 0 2
what_is_summed_and_multiplied_is_kept = record {
  first = adds;
  second = multiplies;
  is_first = Contains-first adds (multiplies ∷ []);
  is_second = Contains-later adds (multiplies ∷ []) multiplies (Contains-first multiplies []);
  first_has = record { same = refl; index = pos 2 ∷ []; inside = (record { low = omega (arith, ints); high = omega (arith, ints) }, tt); is = refl };
  second_has = record { same = refl; index = pos 2 ∷ []; inside = (record { low = omega (arith, ints); high = omega (arith, ints) }, tt); is = refl };
  keeps = inr (λ e. cc);
}

-- outside of the box
an_element_beside_a_box_is_not_kept : IsInAccess containers [] reads 0 2 → ⊥
an_element_beside_a_box_is_not_kept has = on has.index has.inside has.is
  where
    on : (index : List ℤ) → IsInBox [] reads.box index → found (container_at containers 0) index ≡ Some 2 → ⊥
    on [] inside is = absurd inside
    on (pos zero ∷ []) inside is = cc
    on (pos (suc zero) ∷ []) inside is = cc
    on (pos (suc (suc n)) ∷ []) inside is = omega (arith, ints, inside.0.high)
    on (negsuc n ∷ []) inside is = omega (arith, ints, inside.0.low)
    on (n ∷ m ∷ index) inside is = absurd inside.1

a_stream_that_is_taken_from_is_drained : DrainsStream (access_by 1 1 Push [] ∷ access_by 1 1 Take [] ∷ []) 1
a_stream_that_is_taken_from_is_drained = (access_by 1 1 Take [], Contains-later (access_by 1 1 Push []) (access_by 1 1 Take [] ∷ []) (access_by 1 1 Take []) (Contains-first (access_by 1 1 Take []) []), refl, refl)

a_stream_that_is_only_pushed_into_is_not : DrainsStream (access_by 1 1 Push [] ∷ []) 1 → ⊥
a_stream_that_is_only_pushed_into_is_not drained =
    let same = only-one (access_by 1 1 Push []) drained.0 drained.1 in
    let clash : Push ≡ Take = ap (λ (a : Access). a.mode) same ∙ drained.3 in
    cc

-- ---- pieces

-- A[i] = A[i + 4] for i from 0 to 3, in pieces of three values and of one
abbrev pieces : List ItemPiece
pieces = item_pieces [] (λ item. 3 ∷ 1 ∷ []) 0 (state_items (shift (pos 4)) 1)

they_are_of_one_item : map (λ (p : ItemPiece). p.item) pieces ≡ 0 ∷ 0 ∷ []
they_are_of_one_item = refl

each_has_the_elements_of_its_values : map (λ (p : ItemPiece). kind_accesses p.kind containers (1 ∷ 2 ∷ [])) pieces
    ≡ (access_by 2 0 Read (from_below (pos 4) (pos 6)) ∷ access_by 2 0 Write (from_below (pos 0) (pos 2)) ∷ [])
    ∷ (access_by 2 0 Read (from_below (pos 7) (pos 7)) ∷ access_by 2 0 Write (from_below (pos 3) (pos 3)) ∷ []) ∷ []
each_has_the_elements_of_its_values = refl

-- a sequential map is one piece
a_sequential_map_is_one_piece : map (λ (p : ItemPiece). p.item) (item_pieces [] (λ item. 3 ∷ 1 ∷ []) 0 (state_items (shift_of true (pos 4)) 1)) ≡ 0 ∷ []
a_sequential_map_is_one_piece = refl

-- a piece without values has no point, but a box that is wider than a point has an element there
no_values_give_no_point : points (ranges_of ((0, range_piece [] 0 0 (i (pos 2)).1) ∷ [])) [] ≡ []
no_values_give_no_point = refl

abbrev line : (factor number : ℤ) → Affine
line factor number = record { constant = number; terms = (0, factor) ∷ [] }

abbrev from_to : Affine → Affine → Box
from_to low high = record { low = low; high = high } ∷ []

no_values_leave_an_element : IsInBox [] (replaced ((0, range_piece [] 0 0 (i (pos 2)).1) ∷ []) (from_to (line (pos 1) (pos 0)) (line (pos 1) (pos 1)))) (pos 0 ∷ [])
no_values_leave_an_element = (record { low = omega (arith, ints); high = omega (arith, ints) }, tt)
