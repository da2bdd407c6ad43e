-- What MapFusion asks of two maps, as tests.
use Rattle.std.specs.Prelude.{nat_eq, List, [], ◌∷◌, Option, Some, None, Bool, true, false, not, ◌&&◌, ◌||◌}
use Rattle.std.specs.Ordering.{int_eq}
use Rattle.std.specs.List.{list_all}
use Rattle.sd_range.specs.declared.affine.Affine.{Affine}
use Rattle.sd_range.specs.declared.range.Range.{Range}
use Rattle.sd_subset.specs.boxes.Box.{Parameter}
use Rattle.sd_graph.specs.Mode.{do_conflict}
use Rattle.sd_graph.specs.Wiring.{outside, item_uses}
use Rattle.sd_prop.specs.propagation.Accesses.{Access, item_accesses, outside_accesses}
use Rattle.sd_race.specs.race.Tests.{are_same, are_harmless}
use Rattle.sd_fuse.specs.renamed.Renamed.{Names, range_renamed, items_renamed}
use Rattle.sd_fuse.specs.maps.MapRenamed.{names_for}
use Rattle.sd_fuse.specs.maps.Gathered.{early, is_free_of}
use Rattle.sd_fuse.specs.paths.TwoMaps.{TwoMaps}

-- the same expression
abbrev pub is_same_affine : (a other : Affine) → Bool
is_same_affine a other = int_eq a.constant other.constant && are_same a.terms other.terms

-- the same ends
abbrev pub are_same_ends : (ends others : List Affine) → Bool
are_same_ends [] [] = true
are_same_ends [] (other ∷ others) = false
are_same_ends (end ∷ ends) [] = false
are_same_ends (end ∷ ends) (other ∷ others) = is_same_affine end other && are_same_ends ends others

-- the same range
abbrev pub is_same_range : (range other : Range) → Bool
is_same_range range other = is_same_affine range.begin other.begin && (are_same_ends range.ends other.ends && int_eq range.step other.step)

-- as many parameters, with the same ranges after renaming
abbrev pub have_same_ranges : Names → (params others : List Parameter) → Bool
have_same_ranges names [] [] = true
have_same_ranges names [] (other ∷ others) = false
have_same_ranges names (param ∷ params) [] = false
have_same_ranges names (param ∷ params) (other ∷ others) = is_same_range (range_renamed names param.1) other.1 && have_same_ranges names params others

-- the second map has the ranges of the first one, after its parameters are renamed
abbrev pub are_ranges_same : TwoMaps → Bool
are_ranges_same maps = have_same_ranges (names_for maps.others maps.params) maps.others maps.params

-- no item between is on a path from the first to the second: of those from which a path leads to the second none conflicts with the first
abbrev pub is_none_between : TwoMaps → Bool
is_none_between maps =
    is_free_of maps.containers (outside maps.private (item_uses maps.body maps.containers))
    (early maps.containers maps.between (outside maps.own (item_uses maps.other maps.containers)))

-- two accesses of one container in modes that conflict are apart, or separated on each parameter that is not single
abbrev pub is_pair_harmless : (around params : List Parameter) → (access other : Access) → Bool
is_pair_harmless around params access other =
    not (nat_eq access.container other.container && do_conflict access.mode other.mode) || are_harmless around params access.box other.box

-- each pair of accesses, one of each list, is
abbrev pub cross_harmlessly : (around params : List Parameter) → (first second : List Access) → Bool
cross_harmlessly around params first second = list_all (λ access. list_all (is_pair_harmless around params access) second) first

-- each pair of accesses, one of each body, is, where the second body has the parameters of the first map; nodes play no part
abbrev pub are_bodies_harmless : TwoMaps → Bool
are_bodies_harmless maps =
    cross_harmlessly maps.around maps.params (outside_accesses maps.private (item_accesses maps.body maps.containers []))
    (outside_accesses maps.own (item_accesses (items_renamed (names_for maps.others maps.params) maps.other) maps.containers []))

-- there are two maps, of which this holds
abbrev pub are_found : (TwoMaps → Bool) → Option TwoMaps → Bool
are_found test None = false
are_found test (Some maps) = test maps
