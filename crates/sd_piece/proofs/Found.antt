-- The items of a graph's states, as they are found in code, and what a valid graph makes of them.
use Rattle.std.proofs.Common.{◌≡◌, ℕ, zero, suc, ◌<◌, ◌≤◌, List, [], ◌∷◌, length, get_or, Some, None, refl, sym, ◌∙◌, ap, subst, arith}
use Rattle.sd_graph.specs.PlainTree.{ItemTrees, no_item, and_item, StateTrees, no_state, and_state, GraphTree, graph}
use Rattle.sd_graph.specs.TreeParts.{states_of_graph, items_at}
use Rattle.sd_graph.specs.TreeFold.{PlainItem, PlainState, graph_tree, item_tree, item_trees, state_tree, state_trees}
use Rattle.sd_graph.specs.Upwards.{KindLeadsUpwards, ItemsLeadUpwards, StatesLeadUpwards, LeadsUpwards}
use Rattle.sd_graph.specs.declared.graph.Item.{Item}
use Rattle.sd_graph.specs.declared.graph.State.{State}
use Rattle.sd_graph.specs.declared.graph.Sdfg.{Sdfg}
use Rattle.sd_graph.specs.declared.graph.ItemKind.TheViews.{out-State, out-Sdfg}
use Rattle.sd_graph.proofs.TreeLemmas.{state_opened, graph_opened}
use Rattle.sd_validity.specs.rules.Valid.{IsValid}
use Rattle.sd_validity.proofs.rules_lemmas.UpwardsLemmas.{leads_upwards}
use Rattle.sd_race.specs.cover.Fit.{IsFit, AreFit, AreStatesFit, IsGraphFit}
use Rattle.sd_safe.specs.normal.NormalForm.{IsGraphNormal}
use Rattle.sd_safe.specs.pieces.ItemPieces.{state_items}
use Rattle.sd_safe.proofs.fit_lemmas.Fitting.{graph-fit}
use Rattle.sd_piece.specs.Piece.{item_of}

-- ---- in code

item_in : (items : List Item) (n : ℕ) (here : Item) → n < length items → here ≡ get_or items n here → item_of (item_trees items) n ≡ Some (item_tree here)
item_in [] n here within is = absurd (omega (arith, within))
item_in (first ∷ items) zero here within is = ap (λ (i : Item). Some (item_tree i)) (sym is)
item_in (first ∷ items) (suc n) here within is = item_in items n here (omega (arith, within)) is

item_past : (items : List Item) (n : ℕ) → length items ≤ n → item_of (item_trees items) n ≡ None
item_past [] n past = refl
item_past (first ∷ items) zero past = absurd (omega (arith, past))
item_past (first ∷ items) (suc n) past = item_past items n (omega (arith, past))

items_in : (states : List State) (state : ℕ) (here : State) → state < length states → here ≡ get_or states state here → items_at (state_trees states) state ≡ item_trees (out-State here).items.items
items_in [] state here within is = absurd (omega (arith, within))
items_in (first ∷ states) zero here within is = ap (λ (s : State). (state_tree s).0) (sym is) ∙ ap (λ (s : PlainState). s.0) (state_opened here)
items_in (first ∷ states) (suc state) here within is = items_in states state here (omega (arith, within)) is

items_past : (states : List State) (state : ℕ) → length states ≤ state → items_at (state_trees states) state ≡ no_item
items_past [] state past = refl
items_past (first ∷ states) zero past = absurd (omega (arith, past))
items_past (first ∷ states) (suc state) past = items_past states state (omega (arith, past))

states_in : (g : Sdfg) → states_of_graph (graph_tree g) ≡ state_trees (out-Sdfg g).states.items
states_in g = ap states_of_graph (graph_opened g)

-- no state has this number
pub no-state : (g : Sdfg) (states : List State) (state item : ℕ) → states ≡ (out-Sdfg g).states.items → length states ≤ state → item_of (state_items (graph_tree g) state) item ≡ None
no-state g states state item same past =
    ap (λ (items : ItemTrees). item_of items item) (ap (λ (s : StateTrees). items_at s state) (states_in g ∙ ap state_trees (sym same)) ∙ items_past states state past)

items-there : (g : Sdfg) (states : List State) (state : ℕ) (here : State) → states ≡ (out-Sdfg g).states.items → state < length states → here ≡ get_or states state here →
    state_items (graph_tree g) state ≡ item_trees (out-State here).items.items
items-there g states state here same within is = ap (λ (s : StateTrees). items_at s state) (states_in g ∙ ap state_trees (sym same)) ∙ items_in states state here within is

-- the state has no such item
pub no-item : (g : Sdfg) (states : List State) (state : ℕ) (here : State) (items : List Item) (item : ℕ) → states ≡ (out-Sdfg g).states.items → state < length states → here ≡ get_or states state here →
    items ≡ (out-State here).items.items → length items ≤ item → item_of (state_items (graph_tree g) state) item ≡ None
no-item g states state here items item same within is these past =
    ap (λ (all : ItemTrees). item_of all item) (items-there g states state here same within is ∙ ap item_trees (sym these)) ∙ item_past items item past

-- the item is there
pub item-there : (g : Sdfg) (states : List State) (state : ℕ) (here : State) (items : List Item) (item : ℕ) (found : Item) → states ≡ (out-Sdfg g).states.items → state < length states → here ≡ get_or states state here →
    items ≡ (out-State here).items.items → item < length items → found ≡ get_or items item found → item_of (state_items (graph_tree g) state) item ≡ Some (item_tree found)
item-there g states state here items item found same within is these less at =
    ap (λ (all : ItemTrees). item_of all item) (items-there g states state here same within is ∙ ap item_trees (sym these)) ∙ item_in items item found less at

-- ---- in a valid graph

same-some : {A : Type 0} (x y : A) → Some x ≡ Some y → x ≡ y
same-some x y e = cc

item-fit : (items : ItemTrees) (n : ℕ) (item : PlainItem) → AreFit items [] → item_of items n ≡ Some item → IsFit item.1 []
item-fit no_item n item fit is = cc
item-fit (and_item line kind items) zero item fit is = subst (λ (i : PlainItem). IsFit i.1 []) (same-some (line, kind) item is) fit.0
item-fit (and_item line kind items) (suc n) item fit is = item-fit items n item fit.1 is

items-fit-at : (states : StateTrees) (state : ℕ) → AreStatesFit states → AreFit (items_at states state) []
items-fit-at no_state state fit = tt
items-fit-at (and_state items exits states) zero fit = fit.0.0
items-fit-at (and_state items exits states) (suc state) fit = items-fit-at states state fit.1

fit-in : (tree : GraphTree) (state n : ℕ) (item : PlainItem) → IsGraphFit tree [] → item_of (state_items tree state) n ≡ Some item → IsFit item.1 []
fit-in (graph name containers arguments variables symbols states) state n item fit is = item-fit (items_at states state) n item (items-fit-at states state fit.1) is

pub item-fits : (tree : GraphTree) (state n : ℕ) (item : PlainItem) → IsValid tree → IsGraphNormal tree → item_of (state_items tree state) n ≡ Some item → IsFit item.1 []
item-fits tree state n item valid normal is = fit-in tree state n item (graph-fit tree valid normal) is

item-up : (items : ItemTrees) (n : ℕ) (item : PlainItem) → ItemsLeadUpwards items → item_of items n ≡ Some item → KindLeadsUpwards item.1
item-up no_item n item up is = cc
item-up (and_item line kind items) zero item up is = subst (λ (i : PlainItem). KindLeadsUpwards i.1) (same-some (line, kind) item is) up.0
item-up (and_item line kind items) (suc n) item up is = item-up items n item up.1 is

items-up-at : (states : StateTrees) (state : ℕ) → StatesLeadUpwards states → ItemsLeadUpwards (items_at states state)
items-up-at no_state state up = tt
items-up-at (and_state items exits states) zero up = up.0
items-up-at (and_state items exits states) (suc state) up = items-up-at states state up.1

up-in : (tree : GraphTree) (state n : ℕ) (item : PlainItem) → LeadsUpwards tree → item_of (state_items tree state) n ≡ Some item → KindLeadsUpwards item.1
up-in (graph name containers arguments variables symbols states) state n item up is = item-up (items_at states state) n item (items-up-at states state up.1) is

pub item-leads : (tree : GraphTree) (state n : ℕ) (item : PlainItem) → IsValid tree → item_of (state_items tree state) n ≡ Some item → KindLeadsUpwards item.1
item-leads tree state n item valid is = up-in tree state n item (leads_upwards tree valid.transitions) is
