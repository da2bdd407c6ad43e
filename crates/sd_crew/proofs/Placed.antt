-- The pieces of a state's items, each at its place.
use Rattle.std.proofs.Common.{◌≡◌, ℕ, zero, suc, ◌+◌, ◌<◌, nat_le, ℤ, List, [], ◌∷◌, ◌++◌, map, length, Some, Bool, true, false, ◌&&◌, slice_get, get_or, drop, append_assoc, refl, sym, ◌∙◌, ap, subst, arith}
use Rattle.std.specs.Bool.{⊤}
use Rattle.std.specs.List.{AllZip, list_all}
use Rattle.sd_range.specs.declared.range.Range.{Range}
use Rattle.sd_pieces.specs.history.Pieces.{Piece}
use Rattle.sd_graph.specs.LoopScope.{numbers_below}
use Rattle.sd_graph.specs.PlainTree.{KindTree, task, map_scope, consume_scope, nested_graph, reduction, copy, ItemTrees, no_item, and_item, StateTrees, no_state, and_state, GraphTree, graph, ExitTree}
use Rattle.sd_graph.specs.TreeFold.{item_tree, item_trees}
use Rattle.sd_graph.specs.declared.graph.Item.{Item}
use Rattle.sd_graph.specs.TreeParts.{containers_of, items_at}
use Rattle.sd_graph.specs.Context.{Context, own_reach}
use Rattle.sd_graph.specs.Unfold.{unfold_kind}
use Rattle.sd_graph.specs.declared.place.Place.{Place as SourcePlace}
use Rattle.sd_validity.specs.rules.Places.{Thing, whole, leaving, doing, Place, Scopes, no_scopes, graph_place, state_place as place_at_state, item_place, places_in, item_places as item_places_in, state_places, all_places}
use Rattle.sd_validity.specs.rules.Parts.{is_thing_passed}
use Rattle.sd_validity.specs.rules.WithinLimits.{is_within, has_small_params, is_item_small, is_thing_small, limits_tests, rule_7, elements_among, nodes_among}
use Rattle.sd_validity.specs.rules.Ranks.{is_ranked}
use Rattle.sd_validity.specs.rules.Valid.{IsValid}
use Rattle.sd_validity.proofs.rules_lemmas.HoldingLemmas.{both, each_passes, parts}
use Rattle.sd_mem.specs.machine.Coming.{state_context}
use Rattle.sd_race.specs.cover.Fit.{IsFit, AreFit, AreStatesFit, IsGraphFit}
use Rattle.sd_race.specs.race.Pairs.{IsGraphAccepted}
use Rattle.sd_windows.specs.MapPieces.{kind_piece, kind_pieces, pieces_of_items, CutsAll, CutAllItems}
use Rattle.sd_safe.specs.normal.NormalForm.{IsGraphNormal}
use Rattle.sd_safe.specs.pieces.ItemPieces.{state_items, state_place, IsStateInPieces}
use Rattle.sd_safe.proofs.fit_lemmas.Fitting.{graph-fit}
use Rattle.sd_safe.proofs.pieces_lemmas.StateRuns.{place-is}
use Rattle.sd_lower.specs.Pieces.{piece_count, values_before, values_in, values_in_each}
use Rattle.sd_lower.proofs.Shares.{some-values, all-values}
use Rattle.sd_piece.specs.Piece.{item_of, value_count}
use Rattle.sd_piece.specs.declared.piece.PieceAt.{PieceAt}
use Rattle.sd_crew.specs.Places.{count_at, counts_of, place_of, item_places, places_from, places_of}
use Rattle.sd_crew.specs.Work.{IsWorkAt}
use Rattle.sd_crew.proofs.Sharing.{map-last, all-below, has-values, pieces-are}

-- ---- lists side by side

zip-last : {A B : Type 0} (R : A → B → Type 0) (xs : List A) (ys : List B) (x : A) (y : B) → AllZip R xs ys → R x y → AllZip R (xs ++ x ∷ []) (ys ++ y ∷ [])
zip-last R [] [] x y all one = (one, tt)
zip-last R [] (b ∷ ys) x y all one = absurd all
zip-last R (a ∷ xs) [] x y all one = absurd all
zip-last R (a ∷ xs) (b ∷ ys) x y all one = (all.0, zip-last R xs ys x y all.1 one)

zip-append : {A B : Type 0} (R : A → B → Type 0) (xs : List A) (ys : List B) (more : List A) (others : List B) → AllZip R xs ys → AllZip R more others → AllZip R (xs ++ more) (ys ++ others)
zip-append R [] [] more others all rest = rest
zip-append R [] (b ∷ ys) more others all rest = absurd all
zip-append R (a ∷ xs) [] more others all rest = absurd all
zip-append R (a ∷ xs) (b ∷ ys) more others all rest = (all.0, zip-append R xs ys more others all.1 rest)

zip-below : {A B : Type 0} (R : A → B → Type 0) (f : ℕ → A) (g : ℕ → B) (n : ℕ) → ((k : ℕ) → k < n → R (f k) (g k)) → AllZip R (map f (numbers_below n)) (map g (numbers_below n))
zip-below R f g zero each = tt
zip-below R f g (suc n) each =
    subst (λ xs. AllZip R xs (map g (numbers_below (suc n)))) (sym (map-last f (numbers_below n) n))
    (subst (AllZip R (map f (numbers_below n) ++ f n ∷ [])) (sym (map-last g (numbers_below n) n))
    (zip-last R (map f (numbers_below n)) (map g (numbers_below n)) (f n) (g n) (zip-below R f g n (λ k less. each k (omega (arith, less)))) (each n (omega arith))))

same-some : {A : Type 0} (x y : A) → Some x ≡ Some y → x ≡ y
same-some x y e = cc

pub zip-get : {A B : Type 0} (R : A → B → Type 0) (xs : List A) (ys : List B) (k : ℕ) (x : A) (y : B) → AllZip R xs ys → slice_get xs k ≡ Some x → slice_get ys k ≡ Some y → R x y
zip-get R [] [] k x y all is also = cc
zip-get R [] (b ∷ ys) k x y all is also = absurd all
zip-get R (a ∷ xs) [] k x y all is also = absurd all
zip-get R (a ∷ xs) (b ∷ ys) zero x y all is also = subst (λ u. R u y) (same-some a x is) (subst (R a) (same-some b y also) all.0)
zip-get R (a ∷ xs) (b ∷ ys) (suc k) x y all is also = zip-get R xs ys k x y all.1 is also

pub zip-length : {A B : Type 0} (R : A → B → Type 0) (xs : List A) (ys : List B) → AllZip R xs ys → length xs ≡ length ys
zip-length R [] [] all = refl
zip-length R [] (b ∷ ys) all = absurd all
zip-length R (a ∷ xs) [] all = absurd all
zip-length R (a ∷ xs) (b ∷ ys) all = ap suc (zip-length R xs ys all.1)

-- the items of places are those of their pieces
pub zip-items : (tree : GraphTree) (values : List ℤ) (places : List PieceAt) (pieces : List (Piece SourcePlace)) → AllZip (IsWorkAt tree values) places pieces →
    map (λ (at : PieceAt). at.item) places ≡ map (λ (piece : Piece SourcePlace). piece.item) pieces
zip-items tree values [] [] all = refl
zip-items tree values [] (piece ∷ pieces) all = absurd all
zip-items tree values (at ∷ places) [] all = absurd all
zip-items tree values (at ∷ places) (piece ∷ pieces) all = λ i. all.0.same_item i ∷ zip-items tree values places pieces all.1 i

map-twice : {A B C : Type 0} (f : A → B) (g : B → C) (xs : List A) → map g (map f xs) ≡ map (λ x. g (f x)) xs
map-twice f g [] = refl
map-twice f g (x ∷ xs) = ap (λ all. g (f x) ∷ all) (map-twice f g xs)

-- ---- each piece at its place

context-is : (tree : GraphTree) (state : ℕ) (values : List ℤ) → state_place tree state values ≡ state_context tree (own_reach (containers_of tree)) [] state values
context-is (graph name containers arguments variables symbols states) state values = refl

-- a list of items is that of a state from this number on
abbrev IsFrom : GraphTree → (state item : ℕ) → ItemTrees → Type 0
IsFrom tree state item items = (k : ℕ) → item_of (state_items tree state) (k + item) ≡ item_of items k

from-first : (tree : GraphTree) (state item line : ℕ) (kind : KindTree) (items : ItemTrees) → IsFrom tree state item (and_item line kind items) → item_of (state_items tree state) item ≡ Some (line, kind)
from-first tree state item line kind items from = ap (item_of (state_items tree state)) (let e : item ≡ 0 + item = omega arith in e) ∙ from 0

from-next : (tree : GraphTree) (state item line : ℕ) (kind : KindTree) (items : ItemTrees) → IsFrom tree state item (and_item line kind items) → IsFrom tree state (suc item) items
from-next tree state item line kind items from k = ap (item_of (state_items tree state)) (let e : k + suc item ≡ suc k + item = omega arith in e) ∙ from (suc k)

module _ (tree : GraphTree) (state : ℕ) (values : List ℤ) (workers : ℕ) (some : 0 < workers) where
  abbrev here : Context
  here = state_place tree state values

  abbrev counts : ℕ → List ℕ
  counts = counts_of tree state values workers

  abbrev work : (item line : ℕ) → KindTree → Piece SourcePlace
  work item line kind = record { item = item; term = unfold_kind kind line here }

  counts-are : (item line : ℕ) (kind : KindTree) (items : ItemTrees) → IsFrom tree state item (and_item line kind items) → counts item ≡ values_in_each (value_count values kind) workers
  counts-are item line kind items from = ap (λ found. values_in_each (count_at values found) workers) (from-first tree state item line kind items from)

  item-placed : (item line : ℕ) (kind : KindTree) (items : ItemTrees) → IsFrom tree state item (and_item line kind items) →
      AllZip (IsWorkAt tree values) (item_places state item (value_count values kind) workers) (map (work item line) (kind_pieces here.values (counts item) kind))
  item-placed item line kind items from =
      let count = value_count values kind in
      let pieces = λ (k : ℕ). kind_piece values (values_before count workers k) (values_in count workers k) kind in
      let same : kind_pieces here.values (counts item) kind ≡ map pieces (numbers_below (piece_count count workers)) =
      (λ i. kind_pieces ((place-is tree state values).1 i) (counts-are item line kind items from i) kind) ∙ pieces-are values kind workers some in
      subst (AllZip (IsWorkAt tree values) (item_places state item count workers)) (sym (ap (map (work item line)) same ∙ map-twice pieces (work item line) (numbers_below (piece_count count workers))))
      (zip-below (IsWorkAt tree values) (place_of state item count workers) (λ k. work item line (pieces k)) (piece_count count workers) (λ k less. record {
        item = (line, kind);
        meant = from-first tree state item line kind items from;
        has = has-values values kind workers k some less;
        same_item = refl;
        term = ap (unfold_kind (pieces k) line) (context-is tree state values);
      }))

  placed-from : (item : ℕ) (items : ItemTrees) → IsFrom tree state item items → AllZip (IsWorkAt tree values) (places_from state values workers item items) (pieces_of_items counts item items here)
  placed-from item no_item from = tt
  placed-from item (and_item line kind items) from =
      zip-append (IsWorkAt tree values) (item_places state item (value_count values kind) workers) (map (work item line) (kind_pieces here.values (counts item) kind))
      (places_from state values workers (suc item) items) (pieces_of_items counts (suc item) items here) (item-placed item line kind items from) (placed-from (suc item) items (from-next tree state item line kind items from))

  add-zero : (k : ℕ) → k + 0 ≡ k
  add-zero k = omega arith

  pub placed : AllZip (IsWorkAt tree values) (places_of tree state values workers) (pieces_of_items counts 0 (state_items tree state) here)
  placed = placed-from 0 (state_items tree state) (λ k. ap (item_of (state_items tree state)) (add-zero k))

-- ---- maps of a valid graph have parameters

abbrev HasParams : KindTree → Type 0
HasParams (task code ins outs) = ⊤
HasParams (map_scope sequential params private body) = 0 < length params
HasParams (consume_scope stream element private body) = ⊤
HasParams (nested_graph inner links) = ⊤
HasParams (reduction resolution axis identity from to) = ⊤
HasParams (copy from to) = ⊤

abbrev HaveParams : ItemTrees → Type 0
HaveParams no_item = ⊤
HaveParams (and_item line kind items) = HasParams kind × HaveParams items

abbrev passes : (ranks : List Bool) → Thing → Bool
passes ranks whole = true
passes ranks (leaving items exits) = true
passes ranks (doing kind) = has_small_params ranks kind

abbrev place_passes : Place → Bool
place_passes place = passes place.ranks place.thing

thing-passes : (elements nodes : ℕ) (place : Place) (thing : Thing) (rest : Bool) → (is_thing_small elements nodes place thing && rest) ≡ true → passes place.ranks thing ≡ true
thing-passes elements nodes place whole rest is = refl
thing-passes elements nodes place (leaving items exits) rest is = refl
thing-passes elements nodes place (doing kind) rest is = (both (nat_le (place.scopes.count + place.loop_count) 7) (has_small_params place.ranks kind) (both (is_item_small place kind) rest is).0).1

kind-params : (ranks : List Bool) (kind : KindTree) → has_small_params ranks kind ≡ true → HasParams kind
kind-params ranks (task code ins outs) is = tt
kind-params ranks (map_scope sequential params private body) is =
    let within = both (is_within 1 8 (length params)) (list_all (is_ranked ranks) (map (λ (param : ℕ × Range). param.0) params)) is in
    let least = (both (nat_le 1 (length params)) (nat_le (length params) 8) within.0).0 in
    grind (arith, least)
kind-params ranks (consume_scope stream element private body) is = tt
kind-params ranks (nested_graph inner links) is = tt
kind-params ranks (reduction resolution axis identity from to) is = tt
kind-params ranks (copy from to) is = tt

items-params : (items : ItemTrees) (around : Place) (scopes : Scopes) (number : ℕ) → list_all place_passes (item_places_in items around scopes number) ≡ true → HaveParams items
items-params no_item around scopes number is = tt
items-params (and_item line kind items) around scopes number is =
    let place = item_place around scopes number kind in
    let first = both (place_passes place) (list_all place_passes (places_in kind place ++ item_places_in items around scopes (suc number))) is in
    let rest = parts place_passes (places_in kind place) (item_places_in items around scopes (suc number)) first.1 in
    (kind-params around.ranks kind first.0, items-params items around scopes (suc number) rest.1)

states-split : (items : ItemTrees) (exits : List ExitTree) (states : StateTrees) (around : Place) (number : ℕ) → list_all place_passes (state_places (and_state items exits states) around number) ≡ true →
    HaveParams items × (list_all place_passes (state_places states around (suc number)) ≡ true)
states-split items exits states around number is =
    let place = place_at_state around number items exits in
    let first = both (place_passes place) (list_all place_passes (item_places_in items place no_scopes 0 ++ state_places states around (suc number))) is in
    let rest = parts place_passes (item_places_in items place no_scopes 0) (state_places states around (suc number)) first.1 in
    (items-params items place no_scopes 0 rest.0, rest.1)

states-params : (states : StateTrees) (around : Place) (number state : ℕ) → list_all place_passes (state_places states around number) ≡ true → HaveParams (items_at states state)
states-params no_state around number state is = tt
states-params (and_state items exits states) around number zero is = (states-split items exits states around number is).0
states-params (and_state items exits states) around number (suc state) is = states-params states around (suc number) state (states-split items exits states around number is).1

have-params : (tree : GraphTree) (state : ℕ) → IsValid tree → HaveParams (state_items tree state)
have-params (graph name containers arguments variables symbols states) state valid =
    let tree = graph name containers arguments variables symbols states in
    let all = each_passes rule_7 place_passes (λ earlier place is. thing-passes (elements_among earlier) (nodes_among earlier) place place.thing (is_thing_passed limits_tests place.thing) is) [] (all_places tree) valid.limits in
    states-params states (graph_place tree [] 0) 0 state (both (place_passes (graph_place tree [] 0)) (list_all place_passes (state_places states (graph_place tree [] 0) 0)) all).1

-- ---- a state in pieces

fit-at : (states : StateTrees) (state : ℕ) → AreStatesFit states → AreFit (items_at states state) []
fit-at no_state state fit = tt
fit-at (and_state items exits states) zero fit = fit.0.0
fit-at (and_state items exits states) (suc state) fit = fit-at states state fit.1

items-fit : (tree : GraphTree) (state : ℕ) → IsGraphFit tree [] → AreFit (state_items tree state) []
items-fit (graph name containers arguments variables symbols states) state fit = fit-at states state fit.1

cut-kind : (values : List ℤ) (workers : ℕ) (kind : KindTree) → 0 < workers → IsFit kind [] → HasParams kind → CutsAll values (values_in_each (value_count values kind) workers) kind
cut-kind values workers (task code ins outs) some fit has = tt
cut-kind values workers (map_scope true params private body) some fit has = tt
cut-kind values workers (map_scope false [] private body) some fit has = absurd (omega (arith, has))
cut-kind values workers (map_scope false (param ∷ params) private body) some fit has = (fit.0.normal.0.range.rises, all-values (value_count values (map_scope false (param ∷ params) private body)) workers some)
cut-kind values workers (consume_scope stream element private body) some fit has = tt
cut-kind values workers (nested_graph inner links) some fit has = tt
cut-kind values workers (reduction resolution axis identity from to) some fit has = tt
cut-kind values workers (copy from to) some fit has = tt

cut-items : (tree : GraphTree) (state : ℕ) (values : List ℤ) (workers item : ℕ) (items : ItemTrees) → 0 < workers → AreFit items [] → HaveParams items → IsFrom tree state item items →
    CutAllItems values (counts_of tree state values workers) item items
cut-items tree state values workers item no_item some fit has from = tt
cut-items tree state values workers item (and_item line kind items) some fit has from = (
  subst (λ counts. CutsAll values counts kind) (sym (ap (λ found. values_in_each (count_at values found) workers) (from-first tree state item line kind items from))) (cut-kind values workers kind some fit.0 has.0),
  cut-items tree state values workers (suc item) items some fit.1 has.1 (from-next tree state item line kind items from),
)

pub in-pieces : (tree : GraphTree) (state : ℕ) (values : List ℤ) (workers : ℕ) → 0 < workers → IsValid tree → IsGraphNormal tree → IsGraphAccepted tree →
    IsStateInPieces tree state (counts_of tree state values workers) (state_place tree state values)
in-pieces tree state values workers some valid normal accepted =
    let place = place-is tree state values in
    record {
      valid = valid;
      normal = normal;
      accepted = accepted;
      same = place.0;
      here = place.2;
      all = subst (λ (v : List ℤ). CutAllItems v (counts_of tree state values workers) 0 (state_items tree state)) (sym place.1)
          (cut-items tree state values workers 0 (state_items tree state) some (items-fit tree state (graph-fit tree valid normal)) (have-params tree state valid) (λ k. ap (item_of (state_items tree state)) (let e : k + 0 ≡ k = omega arith in e)));
      some = λ item. all-below (λ n. 0 < n) (values_in (count_at values (item_of (state_items tree state) item)) workers) (piece_count (count_at values (item_of (state_items tree state) item)) workers) (some-values (count_at values (item_of (state_items tree state) item)) workers);
    }

-- ---- places in code

-- those of an item and of the others behind it
next-places : (state : ℕ) (values : List ℤ) (workers : ℕ) (items : List Item) (n : ℕ) (found : Item) → n < length items → found ≡ get_or items n found → (item : ℕ) →
    places_from state values workers item (item_trees (drop n items)) ≡ item_places state item (value_count values (item_tree found).1) workers ++ places_from state values workers (suc item) (item_trees (drop (suc n) items))
next-places state values workers [] n found less is item = absurd (omega (arith, less))
next-places state values workers (first ∷ items) zero found less is item =
    let same : first ≡ found = sym is in
    λ i. item_places state item (value_count values (item_tree (same i)).1) workers ++ places_from state values workers (suc item) (item_trees items)
next-places state values workers (first ∷ items) (suc n) found less is item = next-places state values workers items n found (omega (arith, less)) is item

pub places-kept : (state : ℕ) (values : List ℤ) (workers : ℕ) (items : List Item) (n : ℕ) (found : Item) (so_far now all : List PieceAt) → n < length items → found ≡ get_or items n found →
    so_far ++ places_from state values workers n (item_trees (drop n items)) ≡ all → now ≡ so_far ++ item_places state n (value_count values (item_tree found).1) workers →
    now ++ places_from state values workers (n + 1) (item_trees (drop (n + 1) items)) ≡ all
places-kept state values workers items n found so_far now all less is before added =
    let next : suc n ≡ n + 1 = omega arith in
    let rest = λ (m : ℕ). places_from state values workers m (item_trees (drop m items)) in
    ap (λ m. now ++ rest m) (sym next)
    ∙ ap (λ places. places ++ rest (suc n)) added
    ∙ append_assoc so_far (item_places state n (value_count values (item_tree found).1) workers) (rest (suc n))
    ∙ ap (λ places. so_far ++ places) (sym (next-places state values workers items n found less is n))
    ∙ before
