-- The bound graph of a program that was read keeps the rule on dimensions.
use Rattle.std.proofs.Common.{◌≡◌, ℕ, ℤ, List, [], ◌∷◌, map, Bool, true, false, ◌&&◌, Option, Some, None, Ok, refl, sym, subst}
use Rattle.std.specs.List.{AllByRecursion, list_all}
use Rattle.sd_lex.specs.PlainTree.{ProgramTree}
use Rattle.sd_range.specs.declared.range.Range.{Range}
use Rattle.sd_range.specs.declared.subset.Dim.{Dim}
use Rattle.sd_range.specs.declared.subset.Dim.TheVariants.{Index, Span}
use Rattle.sd_graph.specs.PlainTree.{KindTree, task, map_scope, consume_scope, nested_graph, reduction, copy, GraphTree, GuardTree, ExitTree}
use Rattle.sd_graph.specs.TreeParts.{containers_of}
use Rattle.sd_graph.specs.ContainerParts.{Containers}
use Rattle.sd_graph.specs.declared.link.Link.{Link}
use Rattle.sd_source.specs.source.SourceReading.{reads}
use Rattle.sd_read.proofs.readable_lemmas.Fields.{well_formed}
use Rattle.sd_elab.specs.elab.Elaboration.{graph_of}
use Rattle.sd_valid.specs.BoundTree.{bound_exit, bound_graph}
use Rattle.sd_valid.specs.SizeValues.{NamedSizes, sizes_in}
use Rattle.sd_valid.specs.Binding.{binding}
use Rattle.sd_validity.specs.rules.Places.{Thing, whole, leaving, doing, Place, all_places, places_of}
use Rattle.sd_validity.specs.rules.Parts.{is_range_passed, is_dim_passed, is_link_passed, are_links_passed, are_params_passed, is_condition_passed, is_exit_passed, is_kind_passed, is_thing_passed}
use Rattle.sd_validity.specs.rules.Failing.{Holds}
use Rattle.sd_validity.specs.rules.Dimensions.{is_link_fitting, is_code_linked, dimensions_tests, rule_2}
use Rattle.sd_validity.specs.rules.CodeNames.{is_code_known}
use Rattle.sd_validity.specs.bound_places.BoundPlace.{bound_thing, bound_place}
use Rattle.sd_validity.proofs.bound_places_lemmas.EachPlace.{AtThing, AtPlace, graph_places}
use Rattle.sd_validity.proofs.bound_places_lemmas.Asked.{HoldsAt, none_fails, all_mapped}
use Rattle.sd_validity.proofs.bound_places_lemmas.BoundPlaces.{graph_bound}
use Rattle.sd_made.proofs.places_lemmas.Bound.{bound_is}
use Rattle.sd_made_valid.specs.values.Names.{names_tests}
use Rattle.sd_made_valid.specs.dimensions.Subsets.{subset_tests}
use Rattle.sd_made_valid.proofs.dimensions_lemmas.Linked.{code_linked}
use Rattle.sd_made_valid.proofs.dimensions_lemmas.Subsets.{subsets_fit}
use Rattle.sd_made_valid.proofs.read_dimensions_lemmas.Read.{tasklets_counted}
use Rattle.sd_made_valid.proofs.read_extents_lemmas.Ends.{extents_named}
use Rattle.sd_made_valid.proofs.counted_lemmas.Items.{IsWhole, IsLeaving, IsDoing, IsRightThroughout}
use Rattle.sd_made_valid.proofs.counted_lemmas.Programs.{program_right}

-- ---- at each place

abbrev IsNamed : Place → Type 0
IsNamed place = is_thing_passed names_tests place.thing ≡ true

module _ (sizes : List ℤ) where
  exits_named : (tree : GraphTree) (state : ℕ) (exits : List ExitTree) → AllByRecursion (IsLeaving tree state) exits → list_all (is_exit_passed names_tests) (map (bound_exit sizes) exits) ≡ true
  exits_named tree state [] all = refl
  exits_named tree state (exit ∷ exits) all = rw (all.0 sizes) (exits_named tree state exits all.1)

  thing_named : (place : Place) (thing : Thing) → AtThing IsWhole IsLeaving IsDoing thing place → is_thing_passed names_tests (bound_thing sizes thing) ≡ true
  thing_named place whole is = refl
  thing_named place (leaving items exits) is = exits_named place.graph place.state exits is.1
  thing_named place (doing kind) is = is.1 sizes

  all_named : (tree : GraphTree) → IsRightThroughout tree → AllByRecursion IsNamed (all_places (bound_graph sizes tree))
  all_named tree right =
      subst (AllByRecursion IsNamed) (sym (graph_bound sizes tree [] 0))
      (all_mapped (bound_place sizes) (AtPlace IsWhole IsLeaving IsDoing) IsNamed (λ place is. thing_named place place.thing is.1) (places_of tree [] 0) (graph_places IsWhole IsLeaving IsDoing tree [] 0 right))

pub names_known : (text : List ℕ) (program : ProgramTree) (known : NamedSizes) (bound : GraphTree) → reads text ≡ Ok program → binding (graph_of program) known ≡ Ok bound → AllByRecursion IsNamed (all_places bound)
names_known text program known bound read is =
    subst (λ bound. AllByRecursion IsNamed (all_places bound)) (bound_is (graph_of program) bound known is)
    (all_named (sizes_in known (graph_of program)) (graph_of program) (program_right program (well_formed text program read) (tasklets_counted text program read) (extents_named text program read)))

-- ---- both tests

both_true : (a b : Bool) → a && b ≡ true → (a ≡ true) × (b ≡ true)
both_true true b is = (refl, is)
both_true false b is = cc

module _ (containers : Containers) where
  -- a dimension and a range are asked nothing by either
  range_both : (range : Range) → is_range_passed (subset_tests containers) range ≡ is_range_passed (dimensions_tests containers) range
  range_both range = refl

  link_both : (link : Link) → is_link_passed (subset_tests containers) link ≡ true → is_link_passed (dimensions_tests containers) link ≡ true
  link_both link is =
      let halves = both_true (is_link_fitting containers link) (list_all (is_dim_passed (subset_tests containers)) link.memlet.subset.dims) is in
      rw halves.0 (dims_both link.memlet.subset.dims halves.1)
    where
      dims_both : (dims : List Dim) → list_all (is_dim_passed (subset_tests containers)) dims ≡ true → list_all (is_dim_passed (dimensions_tests containers)) dims ≡ true
      dims_both [] is = refl
      dims_both (Index at ∷ dims) is = dims_both dims is
      dims_both (Span range ∷ dims) is =
          let halves = both_true (is_range_passed (subset_tests containers) range) (list_all (is_dim_passed (subset_tests containers)) dims) is in
          rw halves.0 (dims_both dims halves.1)

  links_both : (links : List Link) → are_links_passed (subset_tests containers) links ≡ true → are_links_passed (dimensions_tests containers) links ≡ true
  links_both [] is = refl
  links_both (link ∷ links) is =
      let halves = both_true (is_link_passed (subset_tests containers) link) (are_links_passed (subset_tests containers) links) is in
      rw (link_both link halves.0) (links_both links halves.1)

  params_both : (params : List (ℕ × Range)) → are_params_passed (subset_tests containers) params ≡ true → are_params_passed (dimensions_tests containers) params ≡ true
  params_both [] is = refl
  params_both (param ∷ params) is =
      let halves = both_true (is_range_passed (subset_tests containers) param.1) (are_params_passed (subset_tests containers) params) is in
      rw halves.0 (params_both params halves.1)

  condition_both : (when : Option GuardTree) → is_condition_passed (subset_tests containers) when ≡ true → is_condition_passed names_tests when ≡ true → is_condition_passed (dimensions_tests containers) when ≡ true
  condition_both None fits named = refl
  condition_both (Some guard) fits named =
      rw (links_both guard.reads (both_true (are_links_passed (subset_tests containers) guard.reads) true fits).0) (both_true (are_links_passed names_tests guard.reads) (is_code_known guard.code) named).1

  exit_both : (exit : ExitTree) → is_exit_passed (subset_tests containers) exit ≡ true → is_exit_passed names_tests exit ≡ true → is_exit_passed (dimensions_tests containers) exit ≡ true
  exit_both exit fits named =
      let fit = both_true (is_condition_passed (subset_tests containers) exit.when) (list_all (λ assignment. true) exit.set) fits in
      let name = both_true (is_condition_passed names_tests exit.when) (list_all (λ assignment. true) exit.set) named in
      rw (condition_both exit.when fit.0 name.0) fit.1

  exits_both : (exits : List ExitTree) → list_all (is_exit_passed (subset_tests containers)) exits ≡ true → list_all (is_exit_passed names_tests) exits ≡ true → list_all (is_exit_passed (dimensions_tests containers)) exits ≡ true
  exits_both [] fits named = refl
  exits_both (exit ∷ exits) fits named =
      let fit = both_true (is_exit_passed (subset_tests containers) exit) (list_all (is_exit_passed (subset_tests containers)) exits) fits in
      let name = both_true (is_exit_passed names_tests exit) (list_all (is_exit_passed names_tests) exits) named in
      rw (exit_both exit fit.0 name.0) (exits_both exits fit.1 name.1)

  kind_both : (kind : KindTree) → is_kind_passed (subset_tests containers) kind ≡ true → is_kind_passed names_tests kind ≡ true → is_kind_passed (dimensions_tests containers) kind ≡ true
  kind_both (task code ins outs) fits named =
      let fit = both_true (are_links_passed (subset_tests containers) ins) (are_links_passed (subset_tests containers) outs) fits in
      let name = both_true (is_code_known code) (are_links_passed names_tests ins && are_links_passed names_tests outs) named in
      rw (name.0, links_both ins fit.0) (links_both outs fit.1)
  kind_both (map_scope sequential params private body) fits named = params_both params fits
  kind_both (consume_scope stream element private body) fits named = refl
  kind_both (nested_graph inner links) fits named = links_both links fits
  kind_both (reduction resolution axis identity from to) fits named =
      let fit = both_true (is_link_passed (subset_tests containers) from) (is_link_passed (subset_tests containers) to) fits in
      rw (link_both from fit.0) (link_both to fit.1)
  kind_both (copy from to) fits named =
      let fit = both_true (is_link_passed (subset_tests containers) from) (is_link_passed (subset_tests containers) to) fits in
      rw (link_both from fit.0) (link_both to fit.1)

  thing_both : (thing : Thing) → is_thing_passed (subset_tests containers) thing ≡ true → is_thing_passed names_tests thing ≡ true → is_thing_passed (dimensions_tests containers) thing ≡ true
  thing_both whole fits named = refl
  thing_both (leaving items exits) fits named = exits_both exits fits named
  thing_both (doing kind) fits named = kind_both kind fits named

-- ---- the rule

places_hold : (places : List Place) → AllByRecursion (λ place. is_thing_passed (subset_tests (containers_of place.graph)) place.thing ≡ true) places → AllByRecursion IsNamed places →
    AllByRecursion (λ place. is_code_linked place.thing ≡ true) places → AllByRecursion (HoldsAt rule_2) places
places_hold [] fits named linked = tt
places_hold (place ∷ places) fits named linked =
    (λ before. rw (thing_both (containers_of place.graph) place.thing fits.0 named.0) linked.0, places_hold places fits.1 named.1 linked.1)

pub dimensions_kept : (text : List ℕ) (program : ProgramTree) (known : NamedSizes) (bound : GraphTree) → reads text ≡ Ok program → binding (graph_of program) known ≡ Ok bound → Holds rule_2 bound
dimensions_kept text program known bound read is =
    none_fails rule_2 [] (all_places bound)
    (places_hold (all_places bound) (subsets_fit text program known bound read is) (names_known text program known bound read is) (code_linked program known bound (well_formed text program read) is))
