-- What holds of a list of items holds of those behind others; what rule 1 says of each of them.
use Rattle.std.specs.Bool.{⊤}
use Rattle.std.specs.List.{AllByRecursion, Contains, list_all}
use Rattle.std.proofs.Common.{◌≡◌, suc, ℕ, nat_lt, List, [], ◌∷◌, ◌++◌, length, true, ◌&&◌, None, refl, sym, ◌∙◌, ap}
use Rattle.std.proofs.lemmas.List.{append_assoc}
use Rattle.sd_subset.specs.boxes.Box.{Parameter}
use Rattle.sd_graph.specs.ContainerParts.{Containers, container_at}
use Rattle.sd_graph.specs.TreeParts.{containers_of}
use Rattle.sd_graph.specs.PlainTree.{ItemTrees, no_item, and_item}
use Rattle.sd_graph.specs.InForce.{is_private, AreItemsInForce}
use Rattle.sd_alike.specs.alike.Places.{items_then}
use Rattle.sd_validity.specs.rules.Places.{Thing, doing, Place, Scopes, item_place, places_in, item_places}
use Rattle.sd_validity.specs.rules.Failing.{failing}
use Rattle.sd_validity.specs.rules.NamesInForce.{is_own, are_own_private, are_single, of_graph, is_each_held, are_symbols_apart, are_names_in_force, rule_1}
use Rattle.sd_race.specs.cover.Fit.{AreFit}
use Rattle.sd_safe.proofs.fit_lemmas.Members.{both, passes-at, each-parts}
use Rattle.sd_safe.proofs.fit_lemmas.Single.{first-holds, parts-hold}
use Rattle.sd_safe.proofs.fit_lemmas.Right.{IsRightPlace}
use Rattle.sd_fuse.proofs.valid_lemmas.Once.{in_kind, in_items}

pub then-in : (numbers : Thing → List ℕ) (items others : ItemTrees) → in_items numbers (items_then items others) ≡ in_items numbers items ++ in_items numbers others
then-in numbers no_item others = refl
then-in numbers (and_item line kind items) others = ap (λ rest. in_kind numbers kind ++ rest) (then-in numbers items others) ∙ sym (append_assoc (in_kind numbers kind) (in_items numbers items) (in_items numbers others))

pub fit-behind : (items others : ItemTrees) (around : List Parameter) → AreFit (items_then items others) around → AreFit others around
fit-behind no_item others around fit = fit
fit-behind (and_item line kind items) others around fit = fit-behind items others around fit.1

pub force-behind : (items others : ItemTrees) (containers : Containers) (private : List ℕ) → AreItemsInForce (items_then items others) containers private → AreItemsInForce others containers private
force-behind no_item others containers private force = force
force-behind (and_item line kind items) others containers private force = force-behind items others containers private force.1

pub right-behind : (items others : ItemTrees) (around : Place) (scopes : Scopes) (number : ℕ) → AllByRecursion IsRightPlace (item_places (items_then items others) around scopes number) → (m : ℕ) × AllByRecursion IsRightPlace (item_places others around scopes m)
right-behind no_item others around scopes number right = (number, right)
right-behind (and_item line kind items) others around scopes number right =
    right-behind items others around scopes (suc number) (each-parts IsRightPlace (places_in kind (item_place around scopes number kind)) (item_places (items_then items others) around scopes (suc number)) right.1).1

-- each item makes private containers its own
abbrev pub HoldPrivate : Containers → ItemTrees → Type 0
HoldPrivate containers no_item = ⊤
HoldPrivate containers (and_item line kind items) = (are_own_private containers (doing kind) ≡ true) × HoldPrivate containers items

pub private-behind : (containers : Containers) (items others : ItemTrees) → HoldPrivate containers (items_then items others) → HoldPrivate containers others
private-behind containers no_item others hold = hold
private-behind containers (and_item line kind items) others hold = private-behind containers items others hold.1

own-private : (before : List Place) (place : Place) → rule_1 before place ≡ true → are_own_private (containers_of place.graph) place.thing ≡ true
own-private before place is =
    let split = both (are_names_in_force place && (is_each_held place.graph place.thing && are_symbols_apart place.graph place.thing)) (are_own_private (containers_of place.graph) place.thing && are_single (of_graph before place) place.thing) is in
    (both (are_own_private (containers_of place.graph) place.thing) (are_single (of_graph before place) place.thing) split.1).0

pub symbols-apart : (before : List Place) (place : Place) → rule_1 before place ≡ true → are_symbols_apart place.graph place.thing ≡ true
symbols-apart before place is =
    let names = are_names_in_force place && (is_each_held place.graph place.thing && are_symbols_apart place.graph place.thing) in
    let split = both names (are_own_private (containers_of place.graph) place.thing && are_single (of_graph before place) place.thing) is in
    (both (is_each_held place.graph place.thing) (are_symbols_apart place.graph place.thing) (both (are_names_in_force place) (is_each_held place.graph place.thing && are_symbols_apart place.graph place.thing) split.0).1).1

pub hold-private : (items : ItemTrees) (around : Place) (scopes : Scopes) (number : ℕ) (before : List Place) → failing rule_1 before (item_places items around scopes number) ≡ None → HoldPrivate (containers_of around.graph) items
hold-private no_item around scopes number before none = tt
hold-private (and_item line kind items) around scopes number before none =
    let place = item_place around scopes number kind in
    let inside = places_in kind place in
    let first = first-holds rule_1 before place (inside ++ item_places items around scopes (suc number)) none in
    let rest = parts-hold rule_1 (before ++ place ∷ []) inside (item_places items around scopes (suc number)) first.1 in
    (own-private before place first.0, hold-private items around scopes (suc number) ((before ++ place ∷ []) ++ inside) rest.1)

pub private-kinds : (containers : Containers) (own : List ℕ) → list_all (is_own containers) own ≡ true → (n : ℕ) → Contains own n → is_private (container_at containers n).kind ≡ true
private-kinds containers own is n member = (both (nat_lt n (length containers)) (is_private (container_at containers n).kind) (passes-at (is_own containers) own n is member)).1
