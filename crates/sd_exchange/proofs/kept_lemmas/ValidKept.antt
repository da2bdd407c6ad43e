-- A valid graph with two maps interchanged, or with one cut into tiles, is valid.
use Rattle.std.proofs.Common.{◌≡◌, ℕ, List, [], length, Bool, true, sym, subst}
use Rattle.std.specs.Bool.{⊤}
use Rattle.sd_range.specs.declared.range.Range.{Range}
use Rattle.sd_graph.specs.PlainTree.{GraphTree}
use Rattle.sd_validity.specs.rules.Failing.{Holds}
use Rattle.sd_validity.specs.rules.Transitions.{rule_3}
use Rattle.sd_validity.specs.rules.WithinLimits.{rule_7}
use Rattle.sd_validity.specs.rules.Valid.{IsValid}
use Rattle.sd_alike.specs.alike.Maps.{IsCollapsible}
use Rattle.sd_alike.specs.alike.Places.{GraphLeads, graph_with}
use Rattle.sd_alike.specs.alike.Tiles.{range_of_tiles, range_in_tile}
use Rattle.sd_alike.proofs.kept_lemmas.Held.{Asked, rule_of, IsLocal, StaysWider, KeepsAsked}
use Rattle.sd_alike.proofs.kept_lemmas.HeldReplaced.{graph_keeps, rule_keeps, none_grow, rule_stays}
use Rattle.sd_alike.proofs.kept_lemmas.LocalRules.{dimensions_asked, streams_asked, nesting_asked, shapes_asked, sizes_asked, AsksParams, dimensions_local, streams_local, nesting_local, shapes_local, sizes_local, dimensions_params, streams_params, nesting_params, shapes_params, sizes_params, dimensions_any, streams_any, nesting_any, shapes_any}
use Rattle.sd_alike.proofs.kept_lemmas.NamesAsked.{names_asked, names_local}
use Rattle.sd_alike.proofs.kept_lemmas.Wider.{dimensions_wider, streams_wider, nesting_wider, shapes_wider, sizes_wider, sized_asked, sized_local, sized_wider, sized_params, HasFurther, any_grows, names_grow, sizes_grow, sized_held, held_sizes}
use Rattle.sd_alike.proofs.kept_lemmas.RuleOfNames.{symbols_pass}
use Rattle.sd_alike.proofs.kept_lemmas.NamesKept.{names_keep}
use Rattle.sd_exchange.specs.maps.OrderRewrites.{interchanged, tiled_by, HasSizes}
use Rattle.sd_exchange.proofs.kept_lemmas.InterchangedKept.{interchanged_keeps, interchanged_names, interchanged_held, interchanged_params, interchanged_set, interchanged_nests}
use Rattle.sd_exchange.proofs.kept_lemmas.TiledKept.{tiled_keeps, sized_tiles, tiled_names, tiled_held, tiled_params, tiled_set, tiled_nests}

-- a rule that asks something of each parameter alone holds of the graph with maps interchanged
interchanged_rule : (asked : Asked) (local : IsLocal asked) (stays : StaysWider asked) (params : AsksParams asked) (tree : GraphTree) (path : List ℕ) → GraphLeads IsCollapsible tree path →
    Holds (rule_of asked) tree → Holds (rule_of asked) (graph_with interchanged [] tree path)
interchanged_rule asked local stays params tree path leads is = rule_stays asked local IsCollapsible interchanged (interchanged_keeps asked local stays params) tree path leads is

pub interchanged_valid : (tree : GraphTree) (path : List ℕ) → IsValid tree → GraphLeads IsCollapsible tree path →
    Holds rule_3 (graph_with interchanged [] tree path) → Holds rule_7 (graph_with interchanged [] tree path) → IsValid (graph_with interchanged [] tree path)
interchanged_valid tree path valid leads transitions limits = record {
  names = names_keep [] (λ tree variables. ⊤) IsCollapsible interchanged (record {
    grows = none_grow names_asked names_local;
    asked = interchanged_names;
    held = interchanged_held;
    params = interchanged_params;
    set = interchanged_set;
    nested = interchanged_nests;
  }) tree path leads valid.names;
  dimensions = interchanged_rule dimensions_asked dimensions_local dimensions_wider dimensions_params tree path leads valid.dimensions;
  transitions = transitions;
  streams = interchanged_rule streams_asked streams_local streams_wider streams_params tree path leads valid.streams;
  nesting = interchanged_rule nesting_asked nesting_local nesting_wider nesting_params tree path leads valid.nesting;
  shapes = interchanged_rule shapes_asked shapes_local shapes_wider shapes_params tree path leads valid.shapes;
  limits = limits;
  sizes = interchanged_rule sizes_asked sizes_local sizes_wider sizes_params tree path leads valid.sizes;
}

-- one that asks nothing of parameters holds of the graph with a map cut into tiles
tiled_rule : (asked : Asked) (local : IsLocal asked) (stays : StaysWider asked) (params : AsksParams asked) → ((tree : GraphTree) (param : ℕ × Range) → params.test tree param ≡ true) →
    (sizes : List ℕ) (names : List (List ℕ)) (tree : GraphTree) (path : List ℕ) → GraphLeads (HasSizes sizes) tree path → Holds (rule_of asked) tree → Holds (rule_of asked) (graph_with (tiled_by sizes) names tree path)
tiled_rule asked local stays params any sizes names tree path leads is =
    rule_keeps asked local names (λ tree variables. ⊤) (any_grows asked local stays names) (HasSizes sizes) (tiled_by sizes) (tiled_keeps asked local stays params (λ tree variables. ⊤)
    (λ tree variables known size variable param from is. (any tree (variable, range_of_tiles size param.1), any tree (param.0, range_in_tile size variable param.1))) sizes) tree path leads is

pub tiled_valid : (sizes : List ℕ) (names : List (List ℕ)) (tree : GraphTree) (path : List ℕ) → IsValid tree → GraphLeads (HasSizes sizes) tree path → length names ≡ length sizes →
    Holds rule_3 (graph_with (tiled_by sizes) names tree path) → Holds rule_7 (graph_with (tiled_by sizes) names tree path) → IsValid (graph_with (tiled_by sizes) names tree path)
tiled_valid sizes names tree path valid leads same transitions limits = record {
  names = names_keep names (HasFurther (length names)) (HasSizes sizes) (tiled_by sizes) (record {
    grows = names_grow names;
    asked = subst (λ count. KeepsAsked names_asked (HasFurther count) (HasSizes sizes) (tiled_by sizes)) (sym same) (tiled_names sizes);
    held = tiled_held sizes;
    params = tiled_params sizes;
    set = tiled_set sizes;
    nested = tiled_nests sizes;
  }) tree path leads valid.names;
  dimensions = tiled_rule dimensions_asked dimensions_local dimensions_wider dimensions_params dimensions_any sizes names tree path leads valid.dimensions;
  transitions = transitions;
  streams = tiled_rule streams_asked streams_local streams_wider streams_params streams_any sizes names tree path leads valid.streams;
  nesting = tiled_rule nesting_asked nesting_local nesting_wider nesting_params nesting_any sizes names tree path leads valid.nesting;
  shapes = tiled_rule shapes_asked shapes_local shapes_wider shapes_params shapes_any sizes names tree path leads valid.shapes;
  limits = limits;
  sizes = held_sizes (graph_with (tiled_by sizes) names tree path)
      (graph_keeps sized_asked sized_local names (HasFurther (length names)) (sizes_grow names) (HasSizes sizes) (tiled_by sizes)
      (tiled_keeps sized_asked sized_local sized_wider sized_params (HasFurther (length names)) (sized_tiles (length names)) sizes) tree path leads
      (sized_held tree valid.sizes (symbols_pass tree valid.names)));
}
