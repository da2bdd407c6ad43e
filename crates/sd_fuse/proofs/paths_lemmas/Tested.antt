-- Where the tests of two maps hold, what MapFusion asks of them does.
use Rattle.std.specs.List.{list_all}
use Rattle.std.specs.Ordering.{int_eq}
use Rattle.std.proofs.Common.{◌≡◌, ℕ, nat_eq, List, [], ◌∷◌, Some, Bool, true, false, not, ◌&&◌, ◌||◌, refl, sym, subst}
use Rattle.std.proofs.lemmas.Bool.Decides.{Decides-eqb, Decides-int_eq}
use Rattle.sd_range.specs.declared.affine.Affine.{Affine}
use Rattle.sd_range.specs.declared.range.Range.{Range}
use Rattle.sd_subset.specs.boxes.Box.{Parameter}
use Rattle.sd_graph.specs.ContainerParts.{Containers}
use Rattle.sd_graph.specs.Mode.{do_conflict}
use Rattle.sd_graph.specs.PlainTree.{task, map_scope, consume_scope, nested_graph, reduction, copy, ItemTrees, no_item, and_item}
use Rattle.sd_prop.specs.propagation.Accesses.{Access}
use Rattle.sd_race.specs.race.Tests.{are_same, are_harmless}
use Rattle.sd_race.proofs.race_lemmas.Deciding.{same-decides, harmless-decides}
use Rattle.sd_safe.proofs.fit_lemmas.Members.{both, passes-at}
use Rattle.sd_fuse.specs.renamed.Renamed.{Names, range_renamed}
use Rattle.sd_fuse.specs.maps.Cross.{CrossHarmlessly}
use Rattle.sd_fuse.specs.maps.MapRenamed.{names_for, HaveSameRanges}
use Rattle.sd_fuse.specs.maps.FusionRewrite.{items_before, items_from}
use Rattle.sd_fuse.specs.maps.FusionAsked.{FusionAskedWith, FusionAsked}
use Rattle.sd_fuse.specs.paths.TwoMaps.{TwoMaps, maps_with, two_maps}
use Rattle.sd_fuse.specs.paths.FusionTests.{is_same_affine, are_same_ends, is_same_range, have_same_ranges, are_ranges_same, is_none_between, is_pair_harmless, cross_harmlessly, are_bodies_harmless}

-- ---- ranges

same-affine : (a other : Affine) → is_same_affine a other ≡ true → a ≡ other
same-affine a other is =
    let split = both (int_eq a.constant other.constant) (are_same a.terms other.terms) is in
    λ i. record { constant = (Decides-int_eq a.constant other.constant).0 split.0 i; terms = (same-decides a.terms other.terms).0 split.1 i }

same-ends : (ends others : List Affine) → are_same_ends ends others ≡ true → ends ≡ others
same-ends [] [] is = refl
same-ends [] (other ∷ others) is = cc
same-ends (end ∷ ends) [] is = cc
same-ends (end ∷ ends) (other ∷ others) is =
    let split = both (is_same_affine end other) (are_same_ends ends others) is in
    λ i. same-affine end other split.0 i ∷ same-ends ends others split.1 i

same-range : (range other : Range) → is_same_range range other ≡ true → range ≡ other
same-range range other is =
    let split = both (is_same_affine range.begin other.begin) (are_same_ends range.ends other.ends && int_eq range.step other.step) is in
    let rest = both (are_same_ends range.ends other.ends) (int_eq range.step other.step) split.1 in
    λ i. record { begin = same-affine range.begin other.begin split.0 i; ends = same-ends range.ends other.ends rest.0 i; step = (Decides-int_eq range.step other.step).0 rest.1 i }

same-ranges : (names : Names) (params others : List Parameter) → have_same_ranges names params others ≡ true → HaveSameRanges names params others
same-ranges names [] [] is = tt
same-ranges names [] (other ∷ others) is = cc
same-ranges names (param ∷ params) [] is = cc
same-ranges names (param ∷ params) (other ∷ others) is =
    let split = both (is_same_range (range_renamed names param.1) other.1) (have_same_ranges names params others) is in
    (same-range (range_renamed names param.1) other.1 split.0, same-ranges names params others split.1)

-- ---- accesses

asked-pair : (same conflict free : Bool) → (not (same && conflict) || free) ≡ true → same ≡ true → conflict ≡ true → free ≡ true
asked-pair true true free is one two = is
asked-pair true false free is one two = cc
asked-pair false conflict free is one two = cc

crosses : (around params : List Parameter) (first second : List Access) → cross_harmlessly around params first second ≡ true → CrossHarmlessly around params first second
crosses around params first second is access other member member' same conflict =
    let each = passes-at (λ (access : Access). list_all (is_pair_harmless around params access) second) first access is member in
    let pair = passes-at (is_pair_harmless around params access) second other each member' in
    (harmless-decides around params access.box other.box).0
    (asked-pair (nat_eq access.container other.container) (do_conflict access.mode other.mode) (are_harmless around params access.box other.box) pair
    ((Decides-eqb access.container other.container).1 same) conflict)

-- ---- two maps

-- the conditions that are asked of two maps
pub record AreTested (maps : TwoMaps) : Type 0 where
  pub ranges : are_ranges_same maps ≡ true
  pub free : is_none_between maps ≡ true
  pub harmless : are_bodies_harmless maps ≡ true

some-same : {A : Type 0} (x y : A) → Some x ≡ Some y → x ≡ y
some-same x y is = cc

asked-with : (maps : TwoMaps) → AreTested maps → (c : Containers) (sequential : Bool) (a params : List Parameter) (private : List ℕ) (body between behind : ItemTrees) →
    maps_with c a params private body between behind ≡ Some maps → FusionAskedWith c sequential a params private body between behind
asked-with maps tested c sequential a params private body between no_item is = cc
asked-with maps tested c sequential a params private body between (and_item there (task code ins outs) items) is = cc
asked-with maps tested c sequential a params private body between (and_item there (map_scope other_sequential others own other) items) is =
    let here : TwoMaps = record { containers = c; around = a; params = params; private = private; body = body; between = between; others = others; own = own; other = other } in
    let test : AreTested here = subst AreTested (sym (some-same here maps is)) tested in
    record {
      ranges = same-ranges (names_for others params) others params test.ranges;
      free = test.free;
      bodies = record { nodes = []; other_nodes = []; harmless = crosses a params _ _ test.harmless };
    }
asked-with maps tested c sequential a params private body between (and_item there (consume_scope stream element own other) items) is = cc
asked-with maps tested c sequential a params private body between (and_item there (nested_graph inner links) items) is = cc
asked-with maps tested c sequential a params private body between (and_item there (reduction resolution axis identity from to) items) is = cc
asked-with maps tested c sequential a params private body between (and_item there (copy from to) items) is = cc

pub fusion-asked : (distance : ℕ) (maps : TwoMaps) → AreTested maps → (c : Containers) (a : List Parameter) (variables : ℕ) (items : ItemTrees) → two_maps distance c a items ≡ Some maps → FusionAsked distance c a variables items
fusion-asked distance maps tested c a variables no_item is = cc
fusion-asked distance maps tested c a variables (and_item line (task code ins outs) items) is = cc
fusion-asked distance maps tested c a variables (and_item line (map_scope sequential params private body) items) is =
    asked-with maps tested c sequential a params private body (items_before distance items) (items_from distance items) is
fusion-asked distance maps tested c a variables (and_item line (consume_scope stream element private body) items) is = cc
fusion-asked distance maps tested c a variables (and_item line (nested_graph inner links) items) is = cc
fusion-asked distance maps tested c a variables (and_item line (reduction resolution axis identity from to) items) is = cc
fusion-asked distance maps tested c a variables (and_item line (copy from to) items) is = cc
