-- The code's places, as plain ones.
use Rattle.std.specs.Prelude.{map}
use Rattle.sd_graph.specs.TreeFold.{exit_tree, graph_tree, item_trees, kind_tree}
use Rattle.sd_validity.specs.rules.Places as places
use Rattle.sd_places.specs.declared.places.place.Thing.{Thing}
use Rattle.sd_places.specs.declared.places.place.Thing.TheVariants.{Whole, Leaving, Doing}
use Rattle.sd_places.specs.declared.places.place.Scopes.{Scopes}
use Rattle.sd_places.specs.declared.places.place.Place.{Place}

abbrev pub thing_of : Thing → places.Thing
thing_of Whole = places.whole
thing_of (Leaving items exits) = places.leaving (item_trees items.now) (map exit_tree exits.now)
thing_of (Doing kind) = places.doing (kind_tree kind.now)

abbrev pub scopes_of : Scopes → places.Scopes
scopes_of scopes = record { count = scopes.count; private = scopes.private.items; params = scopes.params.items }

abbrev pub place_of : Place → places.Place
place_of place = record {
  path = place.path.items;
  graph = graph_tree place.graph.now;
  graph_path = place.graph_path.items;
  depth = place.depth;
  ranks = place.ranks.value.items;
  state = place.state;
  loops = place.loops.items;
  loop_count = place.loop_count;
  scopes = scopes_of place.scopes;
  thing = thing_of place.thing;
}
