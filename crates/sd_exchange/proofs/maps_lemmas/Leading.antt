-- What holds of a graph holds where a path leads.
use Rattle.std.specs.List.{AllByRecursion}
use Rattle.std.proofs.Common.{◌≤◌, ◌<◌, zero, suc, ℕ, List, [], ◌∷◌, ◌++◌, length, arith}
use Rattle.sd_subset.specs.boxes.Box.{Parameter}
use Rattle.sd_graph.specs.declared.link.Link.{Link}
use Rattle.sd_graph.specs.ContainerParts.{Containers}
use Rattle.sd_graph.specs.PlainTree.{KindTree, task, map_scope, consume_scope, nested_graph, reduction, copy, ItemTrees, no_item, and_item, StateTrees, no_state, and_state, GraphTree, graph}
use Rattle.sd_alike.specs.alike.Alike.{RangeBelow, KindBelow, ItemsBelow, StatesBelow, NamesItsVariables}
use Rattle.sd_race.specs.cover.Fit.{IsFit, AreFit, AreStatesFit, IsGraphFit}
use Rattle.sd_race.proofs.race_lemmas.Members.{all-joined}
use Rattle.sd_exchange.specs.maps.Spared.{IsNoName, KindSpares, ItemsSpare}
use Rattle.sd_exchange.specs.maps.Tails.{Asked, KindLeadsTo, ItemsLeadTo, StatesLeadTo, GraphLeadsTo}
use Rattle.sd_exchange.specs.maps.There.{KindGivesBelow, ItemsGiveBelow, StatesGiveBelow, GivesItsVariables}
use Rattle.sd_exchange.specs.maps.MapTiled.{tile_names}
use Rattle.sd_exchange.specs.maps.OrderRewrites.{CanInterchange, CanTile}
use Rattle.sd_exchange.specs.maps.OrderAsked.{InterchangeAsked, TilingAsked}

-- parameters in force around, which with their ranges are below
abbrev pub AreBelow : (count : ℕ) → List Parameter → Type 0
AreBelow count around = AllByRecursion (λ (param : Parameter). (param.0 < count) × RangeBelow count param.1) around

-- what is known of the items to which a path leads
pub record Known (around : List Parameter) (variables : ℕ) (items : ItemTrees) : Type 0 where
  pub fit : AreFit items around
  pub outer : AreBelow variables around
  pub below : ItemsBelow variables items
  pub gives : ItemsGiveBelow variables items

both-below : (count : ℕ) (params : List Parameter) → AllByRecursion (λ (param : Parameter). param.0 < count) params → AllByRecursion (λ (param : Parameter). RangeBelow count param.1) params → AreBelow count params
both-below count [] given named = tt
both-below count (param ∷ params) given named = ((given.0, named.0), both-below count params given.1 named.1)

-- one question that holds where the other does
abbrev pub GoesOn : (H G : Asked) → Type 0
GoesOn H G = (containers : Containers) (around : List Parameter) (variables : ℕ) (items : ItemTrees) → Known around variables items → H containers around variables items → G containers around variables items

mutual
  kind-on : (H G : Asked) → GoesOn H G → (c : Containers) (a : List Parameter) (variables : ℕ) (kind : KindTree) (path : List ℕ) → IsFit kind a → AreBelow variables a → KindBelow variables kind → KindGivesBelow variables kind → KindLeadsTo H c a variables kind path → KindLeadsTo G c a variables kind path
  kind-on H G h c a variables (task code ins outs) path fit outer below gives leads = leads
  kind-on H G h c a variables (map_scope sequential params private body) path fit outer below gives leads =
      items-on H G h c (a ++ params) variables body path fit.1 (all-joined (λ (param : Parameter). (param.0 < variables) × RangeBelow variables param.1) a params outer (both-below variables params gives.0 below.0)) below.1 gives.1 leads
  kind-on H G h c a variables (consume_scope source element private body) path fit outer below gives leads = items-on H G h c a variables body path fit outer below gives leads
  kind-on H G h c a variables (nested_graph inner links) path fit outer below gives leads = graph-on H G h inner links path fit.1 below.0 gives leads
  kind-on H G h c a variables (reduction resolution axis identity from to) path fit outer below gives leads = leads
  kind-on H G h c a variables (copy from to) path fit outer below gives leads = leads

  items-on : (H G : Asked) → GoesOn H G → (c : Containers) (a : List Parameter) (variables : ℕ) (items : ItemTrees) (path : List ℕ) → AreFit items a → AreBelow variables a → ItemsBelow variables items → ItemsGiveBelow variables items → ItemsLeadTo H c a variables items path → ItemsLeadTo G c a variables items path
  items-on H G h c a variables no_item path fit outer below gives leads = leads
  items-on H G h c a variables (and_item line kind items) [] fit outer below gives leads = leads
  items-on H G h c a variables (and_item line kind items) (zero ∷ []) fit outer below gives leads = h c a variables (and_item line kind items) (record { fit = fit; outer = outer; below = below; gives = gives }) leads
  items-on H G h c a variables (and_item line kind items) (zero ∷ next ∷ path) fit outer below gives leads = kind-on H G h c a variables kind (next ∷ path) fit.0 outer below.0 gives.0 leads
  items-on H G h c a variables (and_item line kind items) (suc number ∷ path) fit outer below gives leads = items-on H G h c a variables items (number ∷ path) fit.1 outer below.1 gives.1 leads

  states-on : (H G : Asked) → GoesOn H G → (c : Containers) (variables : ℕ) (states : StateTrees) (path : List ℕ) → AreStatesFit states → StatesBelow variables states → StatesGiveBelow variables states → StatesLeadTo H c variables states path → StatesLeadTo G c variables states path
  states-on H G h c variables no_state path fit below gives leads = leads
  states-on H G h c variables (and_state items exits states) [] fit below gives leads = leads
  states-on H G h c variables (and_state items exits states) (zero ∷ path) fit below gives leads = items-on H G h c [] variables items path fit.0.0 tt below.0 gives.0 leads
  states-on H G h c variables (and_state items exits states) (suc number ∷ path) fit below gives leads = states-on H G h c variables states (number ∷ path) fit.1 below.1.1 gives.1 leads

  pub graph-on : (H G : Asked) → GoesOn H G → (tree : GraphTree) (links : List Link) (path : List ℕ) → IsGraphFit tree links → NamesItsVariables tree → GivesItsVariables tree → GraphLeadsTo H tree path → GraphLeadsTo G tree path
  graph-on H G h (graph name containers arguments variables symbols states) links path fit below gives leads = states-on H G h containers (length variables) states path fit.1 below gives leads

-- ---- tiles

-- variables below are none of the tiles'
no-tile : (sizes : List ℕ) (count variable other : ℕ) → other < count → count ≤ variable → IsNoName (tile_names sizes variable) other
no-tile [] count variable other less least = tt
no-tile (size ∷ sizes) count variable other less least = ((λ e. omega (arith, e, less, least)), no-tile sizes count (suc variable) other less (omega (arith, least)))

params-spare : (sizes : List ℕ) (count : ℕ) (params : List Parameter) → AllByRecursion (λ (param : Parameter). param.0 < count) params → AllByRecursion (λ (param : Parameter). IsNoName (tile_names sizes count) param.0) params
params-spare sizes count [] below = tt
params-spare sizes count (param ∷ params) below = (no-tile sizes count count param.0 below.0 (omega arith), params-spare sizes count params below.1)

mutual
  kind-spares : (sizes : List ℕ) (count : ℕ) (kind : KindTree) → KindGivesBelow count kind → KindSpares (tile_names sizes count) kind
  kind-spares sizes count (task code ins outs) gives = tt
  kind-spares sizes count (map_scope sequential params private body) gives = (params-spare sizes count params gives.0, items-spare sizes count body gives.1)
  kind-spares sizes count (consume_scope source element private body) gives = items-spare sizes count body gives
  kind-spares sizes count (nested_graph inner links) gives = tt
  kind-spares sizes count (reduction resolution axis identity from to) gives = tt
  kind-spares sizes count (copy from to) gives = tt

  items-spare : (sizes : List ℕ) (count : ℕ) (items : ItemTrees) → ItemsGiveBelow count items → ItemsSpare (tile_names sizes count) items
  items-spare sizes count no_item gives = tt
  items-spare sizes count (and_item line kind items) gives = (kind-spares sizes count kind gives.0, items-spare sizes count items gives.1)

tile-on : (sizes : List ℕ) → GoesOn (TilingAsked sizes) (CanTile sizes)
tile-on sizes c a variables no_item known asked = asked
tile-on sizes c a variables (and_item line (task code ins outs) items) known asked = asked
tile-on sizes c a variables (and_item line (map_scope sequential params private body) items) known asked = record {
  valid = known.fit.0;
  tileable = asked.0.0;
  few = asked.0.1;
  ranges = known.below.0.0;
  own = known.gives.0.0;
  outer = known.outer;
  below = known.below.0.1;
  spare = items-spare sizes variables body known.gives.0.1;
  path = asked.1.path;
  nodes = asked.1.nodes;
  free = asked.1.free;
}
tile-on sizes c a variables (and_item line (consume_scope source element private body) items) known asked = asked
tile-on sizes c a variables (and_item line (nested_graph inner links) items) known asked = asked
tile-on sizes c a variables (and_item line (reduction resolution axis identity from to) items) known asked = asked
tile-on sizes c a variables (and_item line (copy from to) items) known asked = asked

pub can-tile : (sizes : List ℕ) (tree : GraphTree) (path : List ℕ) → IsGraphFit tree [] → NamesItsVariables tree → GivesItsVariables tree → GraphLeadsTo (TilingAsked sizes) tree path → GraphLeadsTo (CanTile sizes) tree path
can-tile sizes tree path fit below gives leads = graph-on (TilingAsked sizes) (CanTile sizes) (tile-on sizes) tree [] path fit below gives leads

-- ---- interchange

interchange-on : GoesOn InterchangeAsked CanInterchange
interchange-on c a variables no_item known asked = asked
interchange-on c a variables (and_item line (task code ins outs) items) known asked = asked
interchange-on c a variables (and_item line (map_scope outer_sequential outer [] (and_item inner_line (map_scope inner_sequential inner private body) no_item)) items) known asked = record {
  valid = known.fit.0;
  ranges = asked.0;
  path = asked.1.path;
  nodes = asked.1.nodes;
  free = asked.1.free;
}
interchange-on c a variables (and_item line (map_scope outer_sequential outer (k ∷ own) body) items) known asked = asked
interchange-on c a variables (and_item line (map_scope outer_sequential outer [] no_item) items) known asked = asked
interchange-on c a variables (and_item line (map_scope outer_sequential outer [] (and_item n (task code ins outs) no_item)) items) known asked = asked
interchange-on c a variables (and_item line (map_scope outer_sequential outer [] (and_item n (consume_scope source element private body) no_item)) items) known asked = asked
interchange-on c a variables (and_item line (map_scope outer_sequential outer [] (and_item n (nested_graph inner links) no_item)) items) known asked = asked
interchange-on c a variables (and_item line (map_scope outer_sequential outer [] (and_item n (reduction resolution axis identity from to) no_item)) items) known asked = asked
interchange-on c a variables (and_item line (map_scope outer_sequential outer [] (and_item n (copy from to) no_item)) items) known asked = asked
interchange-on c a variables (and_item line (map_scope outer_sequential outer [] (and_item n (task code ins outs) (and_item there other rest))) items) known asked = asked
interchange-on c a variables (and_item line (map_scope outer_sequential outer [] (and_item n (map_scope inner_sequential inner private body) (and_item there other rest))) items) known asked = asked
interchange-on c a variables (and_item line (map_scope outer_sequential outer [] (and_item n (consume_scope source element private body) (and_item there other rest))) items) known asked = asked
interchange-on c a variables (and_item line (map_scope outer_sequential outer [] (and_item n (nested_graph inner links) (and_item there other rest))) items) known asked = asked
interchange-on c a variables (and_item line (map_scope outer_sequential outer [] (and_item n (reduction resolution axis identity from to) (and_item there other rest))) items) known asked = asked
interchange-on c a variables (and_item line (map_scope outer_sequential outer [] (and_item n (copy from to) (and_item there other rest))) items) known asked = asked
interchange-on c a variables (and_item line (consume_scope source element private body) items) known asked = asked
interchange-on c a variables (and_item line (nested_graph inner links) items) known asked = asked
interchange-on c a variables (and_item line (reduction resolution axis identity from to) items) known asked = asked
interchange-on c a variables (and_item line (copy from to) items) known asked = asked

pub can-interchange : (tree : GraphTree) (path : List ℕ) → IsGraphFit tree [] → NamesItsVariables tree → GivesItsVariables tree → GraphLeadsTo InterchangeAsked tree path → GraphLeadsTo CanInterchange tree path
can-interchange tree path fit below gives leads = graph-on InterchangeAsked CanInterchange interchange-on tree [] path fit below gives leads
