-- In a valid graph an item of a state uses arrays as arrays and streams as streams, which the graph has for itself.
use Rattle.std.proofs.Common.{◌≡◌, inl, inr, ℕ, zero, suc, ◌+◌, nat_eq, ℤ, List, [], ◌∷◌, ◌++◌, map, Option, Some, None, Bool, true, false, not, ◌||◌, if◌then◌else◌, slice_get, refl, subst, arith}
use Rattle.std.specs.List.{AllByRecursion, Contains, filter, fold}
use Rattle.std.proofs.lemmas.Bool.{cases_Bool, eqb-true}
use Rattle.sd_num.specs.declared.resolution.Resolution.{Resolution}
use Rattle.sd_num.specs.declared.resolution.Resolution.TheVariants.{Sum, Product, Min, Max, And, Or, Xor, Last}
use Rattle.sd_range.proofs.Members.{Contains-from_map}
use Rattle.sd_subset.specs.boxes.Box.{Parameter}
use Rattle.sd_graph.specs.declared.link.Link.{Link}
use Rattle.sd_graph.specs.ContainerParts.{Containers, container_at, is_stream}
use Rattle.sd_graph.specs.InForce.{IsInForce, AreLinksInForce, IsKindInForce, AreItemsInForce, AreStatesInForce, AreContainersInForce}
use Rattle.sd_graph.specs.InPlace.{AreToArrays, KindHasStreamsInPlace, ItemsHaveStreamsInPlace, StatesHaveStreamsInPlace, HasStreamsInPlace}
use Rattle.sd_graph.specs.Mode.{Mode, Read, Write, Resolve, Push, Take, do_conflict, mode_by, common_mode, joined_mode}
use Rattle.sd_graph.specs.PlainTree.{KindTree, task, map_scope, consume_scope, nested_graph, reduction, copy, ItemTrees, no_item, and_item, StateTrees, no_state, and_state, GraphTree, graph}
use Rattle.sd_graph.specs.TreeFold.{PlainItem}
use Rattle.sd_graph.specs.TreeParts.{containers_of, items_at}
use Rattle.sd_graph.specs.Wiring.{Use, has_number, use_of, output_use, reduction_mode, outside, modes_on, link_uses, nested_uses, graph_uses, kind_uses, item_uses}
use Rattle.sd_race.specs.cover.Fit.{IsArrayMode, IsFit, AreFit}
use Rattle.sd_race.proofs.cover_lemmas.Among.{among-filtered}
use Rattle.sd_race.proofs.race_lemmas.Members.{all-joined, all-of_each}
use Rattle.sd_safe.specs.pieces.ItemPieces.{state_items}
use Rattle.sd_windows.specs.MapPieces.{kind_piece}
use Rattle.sd_piece.specs.Piece.{item_of}

-- a container is of the sort that a mode is for
abbrev pub RightAs : Containers → (number : ℕ) → Mode → Type 0
RightAs containers number Read = is_stream (container_at containers number).kind ≡ false
RightAs containers number Write = is_stream (container_at containers number).kind ≡ false
RightAs containers number (Resolve by) = is_stream (container_at containers number).kind ≡ false
RightAs containers number Push = is_stream (container_at containers number).kind ≡ true
RightAs containers number Take = is_stream (container_at containers number).kind ≡ true

-- a use is of a container in force, as what it is
abbrev pub IsRight : Containers → (private : List ℕ) → Use → Type 0
IsRight containers private use' = IsInForce containers private use'.container × RightAs containers use'.container use'.mode

abbrev pub AreRight : Containers → (private : List ℕ) → List Use → Type 0
AreRight containers private uses = AllByRecursion (IsRight containers private) uses

-- ---- links

reads-right : (containers : Containers) (private : List ℕ) (links : List Link) → AreLinksInForce containers private links → AreToArrays containers links → AreRight containers private (map (use_of Read) links)
reads-right containers private [] force arrays = tt
reads-right containers private (link ∷ links) force arrays = ((force.0, arrays.0), reads-right containers private links force.1 arrays.1)

by-right : (containers : Containers) (number : ℕ) (by : Option Resolution) → is_stream (container_at containers number).kind ≡ false → RightAs containers number (mode_by by)
by-right containers number None is = is
by-right containers number (Some Sum) is = is
by-right containers number (Some Product) is = is
by-right containers number (Some Min) is = is
by-right containers number (Some Max) is = is
by-right containers number (Some And) is = is
by-right containers number (Some Or) is = is
by-right containers number (Some Xor) is = is
by-right containers number (Some Last) is = is

output-right : (stream : Bool) (containers : Containers) (link : Link) → is_stream (container_at containers link.memlet.container).kind ≡ stream →
    RightAs containers link.memlet.container (if stream then Push else mode_by link.memlet.resolution)
output-right true containers link is = is
output-right false containers link is = by-right containers link.memlet.container link.memlet.resolution is

outputs-right : (containers : Containers) (private : List ℕ) (links : List Link) → AreLinksInForce containers private links → AreRight containers private (map (output_use containers) links)
outputs-right containers private [] force = tt
outputs-right containers private (link ∷ links) force =
    ((force.0, output-right (is_stream (container_at containers link.memlet.container).kind) containers link refl), outputs-right containers private links force.1)

-- ---- scopes

among-both : (n : ℕ) (own private : List ℕ) → has_number own n ≡ false → has_number (own ++ private) n ≡ true → has_number private n ≡ true
among-both n [] private none is = is
among-both n (first ∷ own) private none is = on (nat_eq n first) none is (among-both n own private)
  where
    on : (b : Bool) → (b || has_number own n) ≡ false → (b || has_number (own ++ private) n) ≡ true → (has_number own n ≡ false → has_number (own ++ private) n ≡ true → has_number private n ≡ true) → has_number private n ≡ true
    on true none is rest = cc
    on false none is rest = rest none is

not-true : (b : Bool) → not b ≡ true → b ≡ false
not-true true e = cc
not-true false e = refl

force-outside : (containers : Containers) (own private : List ℕ) (number : ℕ) → not (has_number own number) ≡ true → IsInForce containers (own ++ private) number → IsInForce containers private number
force-outside containers own private number stays force = (
  force.0,
  elim force.1 [
    | inl shared ↦ inl shared
    | inr among ↦ inr (among-both number own private (not-true (has_number own number) stays) among)
  ],
)

outside-right : (containers : Containers) (own private : List ℕ) (uses : List Use) → AreRight containers (own ++ private) uses → AreRight containers private (outside own uses)
outside-right containers own private [] each = tt
outside-right containers own private (use' ∷ uses) each = elim (cases_Bool (not (has_number own use'.container))) [
  | inl stays ↦ rw stays ((force-outside containers own private use'.container stays each.0.0, each.0.1), outside-right containers own private uses each.1)
  | inr goes ↦ rw goes (outside-right containers own private uses each.1)
]

-- ---- nested graphs

common-array : (mode other : Mode) → IsArrayMode mode → IsArrayMode (common_mode mode other)
common-array mode other is = on (do_conflict mode other)
  where
    on : (b : Bool) → IsArrayMode (if b then Write else mode)
    on true = tt
    on false = is

fold-array : (mode : Mode) (modes : List Mode) → IsArrayMode mode → IsArrayMode (fold common_mode mode modes)
fold-array mode [] is = is
fold-array mode (other ∷ modes) is = fold-array (common_mode mode other) modes (common-array mode other is)

-- all modes on a parameter are of arrays
abbrev Arrays : List Use → (number : ℕ) → Type 0
Arrays inner number = (use' : Use) → Contains inner use' → use'.container ≡ number → IsArrayMode use'.mode

modes-array : (inner : List Use) (number : ℕ) → Arrays inner number → AllByRecursion IsArrayMode (modes_on number inner)
modes-array inner number arrays = all-of_each IsArrayMode (modes_on number inner) (λ mode member.
    let from = Contains-from_map (λ (use' : Use). use'.mode) (filter (λ (use' : Use). nat_eq use'.container number) inner) mode member in
    let is = among-filtered (λ (use' : Use). nat_eq use'.container number) inner from.0 from.1 in
    subst IsArrayMode from.2 (arrays from.0 is.0 (eqb-true from.0.container number is.1)))

as-array : (containers : Containers) (number : ℕ) (mode : Mode) → IsArrayMode mode → is_stream (container_at containers number).kind ≡ false → RightAs containers number mode
as-array containers number Read array is = is
as-array containers number Write array is = is
as-array containers number (Resolve by) array is = is
as-array containers number Push array is = absurd array
as-array containers number Take array is = absurd array

joined-right : (containers : Containers) (private : List ℕ) (link : Link) (modes : List Mode) → IsInForce containers private link.memlet.container → is_stream (container_at containers link.memlet.container).kind ≡ false →
    AllByRecursion IsArrayMode modes → AreRight containers private (link_uses link (joined_mode modes))
joined-right containers private link [] force is each = tt
joined-right containers private link (mode ∷ modes) force is each = ((force, as-array containers link.memlet.container (fold common_mode mode modes) (fold-array mode modes each.0) is), tt)

nested-right : (containers : Containers) (private : List ℕ) (inner : List Use) (number : ℕ) (links : List Link) → AreLinksInForce containers private links → AreToArrays containers links →
    ((k : ℕ) (link : Link) → slice_get links k ≡ Some link → Arrays inner (number + k)) → AreRight containers private (nested_uses inner number links)
nested-right containers private inner number [] force arrays all = tt
nested-right containers private inner number (link ∷ links) force arrays all =
    let here : number + 0 ≡ number = omega arith in
    all-joined (IsRight containers private) (link_uses link (joined_mode (modes_on number inner))) (nested_uses inner (suc number) links)
    (joined-right containers private link (modes_on number inner) force.0 arrays.0 (modes-array inner number (subst (Arrays inner) here (all 0 link refl))))
    (nested-right containers private inner (suc number) links force.1 arrays.1
    (λ k other is. let next : number + suc k ≡ suc number + k = omega arith in subst (Arrays inner) next (all (suc k) other is)))

-- ---- items

reduction-right : (containers : Containers) (number : ℕ) (resolution : Resolution) (identity : Option ℤ) → is_stream (container_at containers number).kind ≡ false → RightAs containers number (reduction_mode resolution identity)
reduction-right containers number resolution None is = by-right containers number (Some resolution) is
reduction-right containers number resolution (Some identity) is = is

mutual
  pub kind-right : (kind : KindTree) (containers : Containers) (private : List ℕ) (around : List Parameter) → IsKindInForce kind containers private → KindHasStreamsInPlace kind containers → IsFit kind around → AreRight containers private (kind_uses kind containers)
  kind-right (task code ins outs) containers private around force streams fit =
      all-joined (IsRight containers private) (map (use_of Read) ins) (map (output_use containers) outs) (reads-right containers private ins force.0 streams) (outputs-right containers private outs force.1)
  kind-right (map_scope sequential params own body) containers private around force streams fit =
      outside-right containers own private (item_uses body containers) (items-right body containers (own ++ private) (around ++ params) force streams fit.1)
  kind-right (consume_scope stream element own body) containers private around force streams fit =
      ((force.0, streams.0), outside-right containers (element ∷ own) private (item_uses body containers) (items-right body containers (element ∷ own ++ private) around force.2 streams.1 fit))
  kind-right (nested_graph inner links) containers private around force streams fit =
      nested-right containers private (graph_uses inner) 0 links force.0 streams.0 (λ k link is use' member same. let to : k ≡ use'.container = omega (arith, same) in fit.3 use' link member (subst (λ n. slice_get links n ≡ Some link) to is))
  kind-right (reduction resolution axis identity from to) containers private around force streams fit =
      ((force.0, streams.0), ((force.1.0, reduction-right containers to.memlet.container resolution identity streams.1.0), tt))
  kind-right (copy from to) containers private around force streams fit = ((force.0, streams.0), ((force.1.0, streams.1.0), tt))

  items-right : (items : ItemTrees) (containers : Containers) (private : List ℕ) (around : List Parameter) → AreItemsInForce items containers private → ItemsHaveStreamsInPlace items containers → AreFit items around → AreRight containers private (item_uses items containers)
  items-right no_item containers private around force streams fit = tt
  items-right (and_item line kind items) containers private around force streams fit =
      all-joined (IsRight containers private) (kind_uses kind containers) (item_uses items containers) (kind-right kind containers private around force.0 streams.0 fit.0) (items-right items containers private around force.1 streams.1 fit.1)

-- ---- items of a state, and pieces of them

same-some : {A : Type 0} (x y : A) → Some x ≡ Some y → x ≡ y
same-some x y e = cc

-- what is named and how streams are used, of a kind
abbrev pub IsInPlace : Containers → KindTree → Type 0
IsInPlace containers kind = IsKindInForce kind containers [] × KindHasStreamsInPlace kind containers

item-placed : (items : ItemTrees) (n : ℕ) (item : PlainItem) (containers : Containers) → AreItemsInForce items containers [] → ItemsHaveStreamsInPlace items containers → item_of items n ≡ Some item → IsInPlace containers item.1
item-placed no_item n item containers force streams is = cc
item-placed (and_item line kind items) zero item containers force streams is = subst (λ (i : PlainItem). IsInPlace containers i.1) (same-some (line, kind) item is) (force.0, streams.0)
item-placed (and_item line kind items) (suc n) item containers force streams is = item-placed items n item containers force.1 streams.1 is

items-placed : (states : StateTrees) (state : ℕ) (containers : Containers) → AreStatesInForce states containers → StatesHaveStreamsInPlace states containers →
    AreItemsInForce (items_at states state) containers [] × ItemsHaveStreamsInPlace (items_at states state) containers
items-placed no_state state containers force streams = (tt, tt)
items-placed (and_state items exits states) zero containers force streams = (force.0, streams.0)
items-placed (and_state items exits states) (suc state) containers force streams = items-placed states state containers force.2 streams.2

pub state-placed : (tree : GraphTree) (state n : ℕ) (item : PlainItem) → AreContainersInForce tree → HasStreamsInPlace tree → item_of (state_items tree state) n ≡ Some item → IsInPlace (containers_of tree) item.1
state-placed (graph name containers arguments variables symbols states) state n item force streams is =
    let at = items-placed states state containers force streams in item-placed (items_at states state) n item containers at.0 at.1 is

pub piece-placed : (containers : Containers) (values : List ℤ) (first count : ℕ) (kind : KindTree) → IsInPlace containers kind → IsInPlace containers (kind_piece values first count kind)
piece-placed containers values first count (task code ins outs) is = is
piece-placed containers values first count (map_scope true params own body) is = is
piece-placed containers values first count (map_scope false params own body) is = is
piece-placed containers values first count (consume_scope stream element own body) is = is
piece-placed containers values first count (nested_graph inner links) is = is
piece-placed containers values first count (reduction resolution axis identity from to) is = is
piece-placed containers values first count (copy from to) is = is
