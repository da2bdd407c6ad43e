-- A piece of a fit item is fit, and an access that takes has a box without dimension.
use Rattle.std.specs.List.{AllByRecursion, AllZip, Contains, fold, filter}
use Rattle.std.proofs.Common.{◌≡◌, inl, inr, zero, suc, ℕ, nat_eq, ◌+◌, ℤ, List, [], ◌∷◌, ◌++◌, map, Bool, true, false, not, Option, Some, None, slice_get, if◌then◌else◌, refl, ap, sym, ◌∙◌, subst, arith}
use Rattle.std.proofs.lemmas.Bool.{cases_Bool, eqb-true}
use Rattle.sd_num.specs.declared.resolution.Resolution.{Resolution}
use Rattle.sd_num.specs.declared.resolution.Resolution.TheVariants.{Sum, Product, Min, Max, And, Or, Xor, Last}
use Rattle.sd_range.proofs.Members.{Contains-first, Contains-later}
use Rattle.sd_subset.specs.boxes.Box.{Parameter, replaced}
use Rattle.sd_subset.specs.boxes.InForce.{IsOther, RangeNamesOthers, AreFresh, IsNormalRange}
use Rattle.sd_subset.proofs.boxes_lemmas.Disjoint.{of_member}
use Rattle.sd_graph.specs.declared.link.Link.{Link}
use Rattle.sd_graph.specs.ContainerParts.{Containers, container_at, is_stream}
use Rattle.sd_graph.specs.Mode.{Mode, Read, Write, Push, Take, do_conflict, mode_by, common_mode, joined_mode}
use Rattle.sd_graph.specs.Wiring.{Use, has_number, output_mode, reduction_mode, modes_on, graph_uses}
use Rattle.sd_graph.specs.PlainTree.{KindTree, task, map_scope, consume_scope, nested_graph, reduction, copy, ItemTrees, no_item, and_item}
use Rattle.sd_prop.specs.propagation.ItemNodes.{own_node, nodes_behind, past}
use Rattle.sd_prop.specs.propagation.Accesses.{Access, access_of, output_access, link_accesses, nested_accesses, access_replaced, outside_accesses, kind_accesses, item_accesses}
use Rattle.sd_race.specs.cover.Fit.{IsFit, AreFit, IsArrayMode, AreArrays}
use Rattle.sd_windows.specs.MapPieces.{range_piece, kind_piece, kind_pieces, pieces_from}
use Rattle.sd_safe.specs.pieces.ItemPieces.{ItemPiece, item_pieces}
use Rattle.sd_safe.proofs.pieces_lemmas.PieceValues.{part-range}
use Rattle.sd_safe.proofs.pieces_lemmas.PiecePlaces.{get-append, get-map, some-same}

-- ---- parameters around

-- the same variables, with ranges that name no more
abbrev NamesNoMore : List Parameter → List Parameter → Type 0
NamesNoMore around others = AllZip (λ (one : Parameter) (other : Parameter). (other.0 ≡ one.0) × ((own : List Parameter) → RangeNamesOthers own one.1 → RangeNamesOthers own other.1)) around others

same-names : (params : List Parameter) → NamesNoMore params params
same-names [] = tt
same-names (param ∷ params) = ((refl, λ own named. named), same-names params)

append-names : (around others params : List Parameter) → NamesNoMore around others → NamesNoMore (around ++ params) (others ++ params)
append-names [] [] params same = same-names params
append-names [] (other ∷ others) params same = absurd same
append-names (one ∷ around) [] params same = absurd same
append-names (one ∷ around) (other ∷ others) params same = (same.0, append-names around others params same.1)

others-around : (own around others : List Parameter) → NamesNoMore around others → AllByRecursion (λ parameter. IsOther own parameter.0) around → AllByRecursion (λ parameter. IsOther own parameter.0) others
others-around own [] [] same each = tt
others-around own [] (other ∷ others) same each = absurd same
others-around own (one ∷ around) [] same each = absurd same
others-around own (one ∷ around) (other ∷ others) same each = (subst (IsOther own) (sym same.0.0) each.0, others-around own around others same.1 each.1)

ranges-around : (own around others : List Parameter) → NamesNoMore around others → AllByRecursion (λ parameter. RangeNamesOthers own parameter.1) around → AllByRecursion (λ parameter. RangeNamesOthers own parameter.1) others
ranges-around own [] [] same each = tt
ranges-around own [] (other ∷ others) same each = absurd same
ranges-around own (one ∷ around) [] same each = absurd same
ranges-around own (one ∷ around) (other ∷ others) same each = (same.0.1 own each.0, ranges-around own around others same.1 each.1)

fresh-around : (own around others : List Parameter) → NamesNoMore around others → AreFresh around own → AreFresh others own
fresh-around own around others same f = record {
  distinct = f.distinct;
  normal = f.normal;
  others = others-around own around others same f.others;
  outer_ranges = ranges-around own around others same f.outer_ranges;
  own_ranges = f.own_ranges;
}

mutual
  -- what is fit inside of parameters is fit inside of others that name no more
  kind-around : (kind : KindTree) (around others : List Parameter) → NamesNoMore around others → IsFit kind around → IsFit kind others
  kind-around (task code ins outs) around others same fit = fit
  kind-around (map_scope sequential params private body) around others same fit = (fresh-around params around others same fit.0, items-around body (around ++ params) (others ++ params) (append-names around others params same) fit.1)
  kind-around (consume_scope stream element private body) around others same fit = items-around body around others same fit
  kind-around (nested_graph inner links) around others same fit = fit
  kind-around (reduction resolution axis identity from to) around others same fit = fit
  kind-around (copy from to) around others same fit = fit

  items-around : (items : ItemTrees) (around others : List Parameter) → NamesNoMore around others → AreFit items around → AreFit items others
  items-around no_item around others same fit = tt
  items-around (and_item line kind items) around others same fit = (kind-around kind around others same fit.0, items-around items around others same fit.1)

-- ---- pieces

-- a map with a part of the first parameter's values
map-fit : (values : List ℤ) (first count : ℕ) (params : List Parameter) (private : List ℕ) (body : ItemTrees) → IsFit (map_scope false params private body) [] → IsFit (kind_piece values first count (map_scope false params private body)) []
map-fit values first count [] private body fit = fit
map-fit values first count (param ∷ own) private body fit =
    let normal : IsNormalRange (range_piece values first count param.1) = record { range = part-range values param.1 first count fit.0.normal.0.range; begin = tt; ends = (tt, tt) } in (
      record {
        distinct = fit.0.distinct;
        normal = (normal, fit.0.normal.1);
        others = tt;
        outer_ranges = tt;
        own_ranges = ((tt, (tt, tt)), fit.0.own_ranges.1);
      },
      items-around body (param ∷ own) ((param.0, range_piece values first count param.1) ∷ own) ((refl, λ others named. (tt, (tt, tt))), same-names own) fit.1,
    )

from-fit : (values : List ℤ) (first : ℕ) (counts : List ℕ) (params : List Parameter) (private : List ℕ) (body : ItemTrees) (part : KindTree) (i : ℕ) → IsFit (map_scope false params private body) [] →
    slice_get (pieces_from values first counts (map_scope false params private body)) i ≡ Some part → IsFit part []
from-fit values first [] params private body part i fit is = cc
from-fit values first (count ∷ counts) params private body part zero fit is =
    subst (λ k. IsFit k []) (some-same (kind_piece values first count (map_scope false params private body)) part is) (map-fit values first count params private body fit)
from-fit values first (count ∷ counts) params private body part (suc i) fit is = from-fit values (first + count) counts params private body part i fit is

one-fit : (kind part : KindTree) (i : ℕ) → IsFit kind [] → slice_get (kind ∷ []) i ≡ Some part → IsFit part []
one-fit kind part zero fit is = subst (λ k. IsFit k []) (some-same kind part is) fit
one-fit kind part (suc i) fit is = cc

kind-fit : (values : List ℤ) (counts : List ℕ) (kind part : KindTree) (i : ℕ) → IsFit kind [] → slice_get (kind_pieces values counts kind) i ≡ Some part → IsFit part []
kind-fit values counts (task code ins outs) part i fit is = one-fit (task code ins outs) part i fit is
kind-fit values counts (map_scope true params private body) part i fit is = one-fit (map_scope true params private body) part i fit is
kind-fit values counts (map_scope false params private body) part i fit is = from-fit values 0 counts params private body part i fit is
kind-fit values counts (consume_scope stream element private body) part i fit is = one-fit (consume_scope stream element private body) part i fit is
kind-fit values counts (nested_graph inner links) part i fit is = one-fit (nested_graph inner links) part i fit is
kind-fit values counts (reduction resolution axis identity from to) part i fit is = one-fit (reduction resolution axis identity from to) part i fit is
kind-fit values counts (copy from to) part i fit is = one-fit (copy from to) part i fit is

-- a piece of fit items is fit
pub pieces-fit : (values : List ℤ) (counts : ℕ → List ℕ) (item : ℕ) (items : ItemTrees) (i : ℕ) (piece : ItemPiece) → AreFit items [] → slice_get (item_pieces values counts item items) i ≡ Some piece → IsFit piece.kind []
pieces-fit values counts item no_item i piece fit is = cc
pieces-fit values counts item (and_item line kind items) i piece fit is =
    elim (get-append (map (λ part. record { item = item; line = line; kind = part }) (kind_pieces values (counts item) kind)) (item_pieces values counts (suc item) items) i piece is) [
      | inl here ↦
          let r = get-map (λ part. record { item = item; line = line; kind = part }) (kind_pieces values (counts item) kind) i piece here in
          subst (λ (p : ItemPiece). IsFit p.kind []) r.2 (kind-fit values (counts item) kind r.0 i fit.0 r.1)
      | inr later ↦ pieces-fit values counts (suc item) items later.0 piece fit.1 later.2
    ]

-- ---- takes

-- an access that takes has no dimension
abbrev IsFlatTake : Access → Type 0
IsFlatTake access = access.mode ≡ Take → access.box ≡ []

abbrev AreFlatTakes : List Access → Type 0
AreFlatTakes accesses = AllByRecursion IsFlatTake accesses

abbrev IsNoTake : Mode → Type 0
IsNoTake mode = mode ≡ Take → ⊥

flat-append : (accesses more : List Access) → AreFlatTakes accesses → AreFlatTakes more → AreFlatTakes (accesses ++ more)
flat-append [] more first second = second
flat-append (access ∷ accesses) more first second = (first.0, flat-append accesses more first.1 second)

flat-links : (node : ℕ) (mode : Link → Mode) (links : List Link) → ((link : Link) → IsNoTake (mode link)) → AreFlatTakes (map (λ link. access_of node (mode link) link) links)
flat-links node mode [] none = tt
flat-links node mode (link ∷ links) none = ((λ is. absurd (none link is)), flat-links node mode links none)

flat-outside : (own : List ℕ) (accesses : List Access) → AreFlatTakes accesses → AreFlatTakes (outside_accesses own accesses)
flat-outside own [] each = tt
flat-outside own (access ∷ accesses) each = elim (cases_Bool (not (has_number own access.container))) [
  | inl stays ↦ rw stays (each.0, flat-outside own accesses each.1)
  | inr goes ↦ rw goes (flat-outside own accesses each.1)
]

flat-replaced : (params : List Parameter) (accesses : List Access) → AreFlatTakes accesses → AreFlatTakes (map (access_replaced params) accesses)
flat-replaced params [] each = tt
flat-replaced params (access ∷ accesses) each = ((λ is. ap (replaced params) (each.0 is)), flat-replaced params accesses each.1)

by-no-take : (by : Option Resolution) → IsNoTake (mode_by by)
by-no-take None is = cc
by-no-take (Some Sum) is = cc
by-no-take (Some Product) is = cc
by-no-take (Some Min) is = cc
by-no-take (Some Max) is = cc
by-no-take (Some And) is = cc
by-no-take (Some Or) is = cc
by-no-take (Some Xor) is = cc
by-no-take (Some Last) is = cc

choice-no-take : (b : Bool) (first second : Mode) → IsNoTake first → IsNoTake second → IsNoTake (if b then first else second)
choice-no-take true first second one two = one
choice-no-take false first second one two = two

push-no-take : IsNoTake Push
push-no-take is = cc

reduction-no-take : (resolution : Resolution) (identity : Option ℤ) → IsNoTake (reduction_mode resolution identity)
reduction-no-take resolution None is = by-no-take (Some resolution) is
reduction-no-take resolution (Some identity) is = cc

-- many modes in one are Take only where the first one is
common-take : (mode other : Mode) → common_mode mode other ≡ Take → mode ≡ Take
common-take mode other = on (do_conflict mode other)
  where
    on : (b : Bool) → (if b then Write else mode) ≡ Take → mode ≡ Take
    on true is = cc
    on false is = is

fold-take : (mode : Mode) (modes : List Mode) → fold common_mode mode modes ≡ Take → mode ≡ Take
fold-take mode [] is = is
fold-take mode (other ∷ modes) is = common-take mode other (fold-take (common_mode mode other) modes is)

-- a use that is first among those of a container
first-mode : (number : ℕ) (uses : List Use) (mode : Mode) (modes : List Mode) → modes_on number uses ≡ mode ∷ modes → (use' : Use) × Contains uses use' × (use'.container ≡ number) × (use'.mode ≡ mode)
first-mode number [] mode modes is = cc
first-mode number (use' ∷ uses) mode modes is = on (nat_eq use'.container number) refl is (first-mode number uses mode modes)
  where
    on : (b : Bool) → nat_eq use'.container number ≡ b → map (λ (u : Use). u.mode) (if b then use' ∷ filter (λ (u : Use). nat_eq u.container number) uses else filter (λ (u : Use). nat_eq u.container number) uses) ≡ mode ∷ modes →
        (modes_on number uses ≡ mode ∷ modes → (u : Use) × Contains uses u × (u.container ≡ number) × (u.mode ≡ mode)) → (u : Use) × Contains (use' ∷ uses) u × (u.container ≡ number) × (u.mode ≡ mode)
    on true same is later = (use', Contains-first use' uses, eqb-true use'.container number same, let e : use'.mode ≡ mode = cc in e)
    on false same is later = let r = later is in (r.0, Contains-later use' uses r.0 r.1, r.2, r.3)

joined-take : (number : ℕ) (uses : List Use) (modes : List Mode) → modes_on number uses ≡ modes → joined_mode modes ≡ Some Take → (use' : Use) × Contains uses use' × (use'.container ≡ number) × (use'.mode ≡ Take)
joined-take number uses [] same is = cc
joined-take number uses (mode ∷ modes) same is =
    let folded : fold common_mode mode modes ≡ Take = cc in
    let r = first-mode number uses mode modes same in
    (r.0, r.1, r.2, r.3 ∙ fold-take mode modes folded)

flat-link : (node : ℕ) (link : Link) (mode : Option Mode) → (mode ≡ Some Take → ⊥) → AreFlatTakes (link_accesses node link mode)
flat-link node link None none = tt
flat-link node link (Some mode) none = ((λ is. absurd (none (ap Some is))), tt)

-- links behind others
flat-nested : (node : ℕ) (inner : List Use) (all : List Link) → AreArrays all inner → (number : ℕ) (links : List Link) → ((k : ℕ) (link : Link) → slice_get links k ≡ Some link → slice_get all (number + k) ≡ Some link) → AreFlatTakes (nested_accesses node inner number links)
flat-nested node inner all arrays number [] behind = tt
flat-nested node inner all arrays number (link ∷ links) behind =
    flat-append (link_accesses node link (joined_mode (modes_on number inner))) (nested_accesses node inner (suc number) links)
    (flat-link node link (joined_mode (modes_on number inner)) (λ is.
    let r = joined-take number inner (modes_on number inner) refl is in
    let here : slice_get all r.0.container ≡ Some link = let same : number + 0 ≡ number = omega arith in ap (slice_get all) (r.2 ∙ sym same) ∙ behind 0 link refl in
    let mode : IsArrayMode Take = subst IsArrayMode r.3 (arrays r.0 link r.1 here) in
    mode))
    (flat-nested node inner all arrays (suc number) links (λ k other is. let same : suc number + k ≡ number + suc k = omega arith in ap (slice_get all) same ∙ behind (suc k) other is))

mutual
  flat-kind : (kind : KindTree) (containers : Containers) (nodes : List ℕ) (around : List Parameter) → IsFit kind around → AreFlatTakes (kind_accesses kind containers nodes)
  flat-kind (task code ins outs) containers nodes around fit =
      flat-append (map (access_of (own_node nodes) Read) ins) (map (output_access containers (own_node nodes)) outs) (flat-links (own_node nodes) (λ link. Read) ins (λ link is. cc))
      (flat-links (own_node nodes) (output_mode containers) outs (λ link. choice-no-take (is_stream (container_at containers link.memlet.container).kind) Push (mode_by link.memlet.resolution) push-no-take (by-no-take link.memlet.resolution)))
  flat-kind (map_scope sequential params private body) containers nodes around fit =
      flat-replaced params (outside_accesses private (item_accesses body containers (nodes_behind nodes))) (flat-outside private (item_accesses body containers (nodes_behind nodes)) (flat-items body containers (nodes_behind nodes) (around ++ params) fit.1))
  flat-kind (consume_scope stream element private body) containers nodes around fit =
      ((λ is. refl), flat-outside (element ∷ private) (item_accesses body containers (nodes_behind nodes)) (flat-items body containers (nodes_behind nodes) around fit))
  flat-kind (nested_graph inner links) containers nodes around fit = flat-nested (own_node nodes) (graph_uses inner) links fit.3 0 links (λ k link is. let same : 0 + k ≡ k = omega arith in ap (slice_get links) same ∙ is)
  flat-kind (reduction resolution axis identity from to) containers nodes around fit = ((λ is. cc), ((λ is. absurd (reduction-no-take resolution identity is)), tt))
  flat-kind (copy from to) containers nodes around fit = ((λ is. cc), ((λ is. cc), tt))

  flat-items : (items : ItemTrees) (containers : Containers) (nodes : List ℕ) (around : List Parameter) → AreFit items around → AreFlatTakes (item_accesses items containers nodes)
  flat-items no_item containers nodes around fit = tt
  flat-items (and_item line kind items) containers nodes around fit =
      flat-append (kind_accesses kind containers nodes) (item_accesses items containers (past kind nodes)) (flat-kind kind containers nodes around fit.0) (flat-items items containers (past kind nodes) around fit.1)

pub take-box : (kind : KindTree) (containers : Containers) (nodes : List ℕ) (access : Access) → IsFit kind [] → Contains (kind_accesses kind containers nodes) access → access.mode ≡ Take → access.box ≡ []
take-box kind containers nodes access fit member = of_member IsFlatTake (kind_accesses kind containers nodes) access (flat-kind kind containers nodes [] fit) member
