-- What is found in a state or an item by its number.
use Rattle.std.proofs.Common.{◌≡◌, ℕ, zero, suc, ◌<◌, ◌≤◌, List, [], ◌∷◌, length, slice_index_or, Option, Some, None, Bool, false, refl, ap, sym, ◌∙◌, arith}
use Rattle.sd_graph.specs.PlainTree.{KindTree, GraphTree}
use Rattle.sd_graph.specs.TreeFold.{PlainItem, kind_tree, item_trees, state_tree, state_trees}
use Rattle.sd_graph.specs.ContainerParts.{Containers}
use Rattle.sd_graph.specs.declared.graph.Item.{Item}
use Rattle.sd_graph.specs.declared.graph.State.{State}
use Rattle.sd_wire.proofs.wiring_lemmas.ItemLists.{item_opened}
use Rattle.sd_alike.specs.alike.Places.{kind_nests, items_nest, states_nest}
use Rattle.sd_mapx.specs.Paths.{place_in_state, place_in_items}
use Rattle.sd_mapx.specs.Found.{Found, found_in, found_among, found_in_states}

-- ---- paths

first_of : (state : State) (states : List State) (containers : Containers) (path : List ℕ) → place_in_state (state_trees (state ∷ states)) containers 0 path ≡ place_in_items (state_tree state).0 containers path
first_of state states containers [] = refl
first_of state states containers (node ∷ path) = refl

pub walk_there : (states : List State) (containers : Containers) (number : ℕ) (state : State) (path : List ℕ) → number < length states → state ≡ slice_index_or states number state →
    place_in_state (state_trees states) containers number path ≡ place_in_items (state_tree state).0 containers path
walk_there [] containers number state path within is = absurd (omega (arith, within))
walk_there (first ∷ states) containers zero state path within is = first_of first states containers path ∙ ap (λ (state : State). place_in_items (state_tree state).0 containers path) (sym is)
walk_there (first ∷ states) containers (suc number) state path within is = walk_there states containers number state path (omega (arith, within)) is

pub walk_past : (states : List State) (containers : Containers) (number : ℕ) (path : List ℕ) → length states ≤ number → place_in_state (state_trees states) containers number path ≡ None
walk_past [] containers number path past = refl
walk_past (first ∷ states) containers zero path past = absurd (omega (arith, past))
walk_past (first ∷ states) containers (suc number) path past = walk_past states containers number path (omega (arith, past))

-- ---- what is found

abbrev found_as : GraphTree → KindTree → Found
found_as tree kind = record { tree = tree; kind = kind }

abbrev pub found_item : GraphTree → Item → (rest : List ℕ) → Option Found
found_item tree item [] = Some (record { tree = tree; kind = kind_tree item.kind })
found_item tree item (next ∷ rest) = found_in tree (kind_tree item.kind) (next ∷ rest)

first_item : (tree : GraphTree) (item : Item) (items : List Item) (rest : List ℕ) → found_among tree (item_trees (item ∷ items)) (0 ∷ rest) ≡ found_item tree item rest
first_item tree item items [] = ap (λ (at : PlainItem). Some (found_as tree at.1)) (item_opened item)
first_item tree item items (next ∷ rest) = ap (λ (at : PlainItem). found_in tree at.1 (next ∷ rest)) (item_opened item)

pub item_there : (tree : GraphTree) (items : List Item) (number : ℕ) (item : Item) (rest : List ℕ) → number < length items → item ≡ slice_index_or items number item →
    found_among tree (item_trees items) (number ∷ rest) ≡ found_item tree item rest
item_there tree [] number item rest within is = absurd (omega (arith, within))
item_there tree (first ∷ items) zero item rest within is = first_item tree first items rest ∙ ap (λ (item : Item). found_item tree item rest) (sym is)
item_there tree (first ∷ items) (suc number) item rest within is = item_there tree items number item rest (omega (arith, within)) is

pub item_past : (tree : GraphTree) (items : List Item) (number : ℕ) (rest : List ℕ) → length items ≤ number → found_among tree (item_trees items) (number ∷ rest) ≡ None
item_past tree [] number rest past = refl
item_past tree (first ∷ items) zero rest past = absurd (omega (arith, past))
item_past tree (first ∷ items) (suc number) rest past = item_past tree items number rest (omega (arith, past))

pub state_there : (tree : GraphTree) (states : List State) (number : ℕ) (state : State) (rest : List ℕ) → number < length states → state ≡ slice_index_or states number state →
    found_in_states tree (state_trees states) (number ∷ rest) ≡ found_among tree (state_tree state).0 rest
state_there tree [] number state rest within is = absurd (omega (arith, within))
state_there tree (first ∷ states) zero state rest within is = ap (λ (state : State). found_among tree (state_tree state).0 rest) (sym is)
state_there tree (first ∷ states) (suc number) state rest within is = state_there tree states number state rest (omega (arith, within)) is

pub state_past : (tree : GraphTree) (states : List State) (number : ℕ) (rest : List ℕ) → length states ≤ number → found_in_states tree (state_trees states) (number ∷ rest) ≡ None
state_past tree [] number rest past = refl
state_past tree (first ∷ states) zero rest past = absurd (omega (arith, past))
state_past tree (first ∷ states) (suc number) rest past = state_past tree states number rest (omega (arith, past))

-- what is behind an item, where the place goes on
pub found_behind : (tree : GraphTree) (item : Item) (rest : List ℕ) (first : ℕ) (others : List ℕ) → rest ≡ first ∷ others → found_item tree item rest ≡ found_in tree (kind_tree item.kind) rest
found_behind tree item rest first others is = ap (found_item tree item) is ∙ sym (ap (found_in tree (kind_tree item.kind)) is)

-- no place
pub nothing_among : (tree : GraphTree) (items : List Item) → found_among tree (item_trees items) [] ≡ None
nothing_among tree [] = refl
nothing_among tree (item ∷ items) = refl

pub nothing_in_states : (tree : GraphTree) (states : List State) → found_in_states tree (state_trees states) [] ≡ None
nothing_in_states tree [] = refl
nothing_in_states tree (state ∷ states) = refl

-- ---- whether a place leads on into a nested graph

abbrev pub nests_from : Item → (rest : List ℕ) → Bool
nests_from item [] = false
nests_from item (next ∷ rest) = kind_nests (kind_tree item.kind) (next ∷ rest)

first_nests : (item : Item) (items : List Item) (rest : List ℕ) → items_nest (item_trees (item ∷ items)) (0 ∷ rest) ≡ nests_from item rest
first_nests item items [] = refl
first_nests item items (next ∷ rest) = ap (λ (at : PlainItem). kind_nests at.1 (next ∷ rest)) (item_opened item)

pub item_nests : (items : List Item) (number : ℕ) (item : Item) (rest : List ℕ) → number < length items → item ≡ slice_index_or items number item →
    items_nest (item_trees items) (number ∷ rest) ≡ nests_from item rest
item_nests [] number item rest within is = absurd (omega (arith, within))
item_nests (first ∷ items) zero item rest within is = first_nests first items rest ∙ ap (λ (item : Item). nests_from item rest) (sym is)
item_nests (first ∷ items) (suc number) item rest within is = item_nests items number item rest (omega (arith, within)) is

pub no_item_nests : (items : List Item) (number : ℕ) (rest : List ℕ) → length items ≤ number → items_nest (item_trees items) (number ∷ rest) ≡ false
no_item_nests [] number rest past = refl
no_item_nests (first ∷ items) zero rest past = absurd (omega (arith, past))
no_item_nests (first ∷ items) (suc number) rest past = no_item_nests items number rest (omega (arith, past))

pub state_nests : (states : List State) (number : ℕ) (state : State) (rest : List ℕ) → number < length states → state ≡ slice_index_or states number state →
    states_nest (state_trees states) (number ∷ rest) ≡ items_nest (state_tree state).0 rest
state_nests [] number state rest within is = absurd (omega (arith, within))
state_nests (first ∷ states) zero state rest within is = ap (λ (state : State). items_nest (state_tree state).0 rest) (sym is)
state_nests (first ∷ states) (suc number) state rest within is = state_nests states number state rest (omega (arith, within)) is

pub no_state_nests : (states : List State) (number : ℕ) (rest : List ℕ) → length states ≤ number → states_nest (state_trees states) (number ∷ rest) ≡ false
no_state_nests [] number rest past = refl
no_state_nests (first ∷ states) zero rest past = absurd (omega (arith, past))
no_state_nests (first ∷ states) (suc number) rest past = no_state_nests states number rest (omega (arith, past))

pub nests_behind : (item : Item) (rest : List ℕ) (first : ℕ) (others : List ℕ) → rest ≡ first ∷ others → nests_from item rest ≡ kind_nests (kind_tree item.kind) rest
nests_behind item rest first others is = ap (nests_from item) is ∙ sym (ap (kind_nests (kind_tree item.kind)) is)

-- no place
pub items_nest_none : (items : List Item) → items_nest (item_trees items) [] ≡ false
items_nest_none [] = refl
items_nest_none (item ∷ items) = refl

pub states_nest_none : (states : List State) → states_nest (state_trees states) [] ≡ false
states_nest_none [] = refl
states_nest_none (state ∷ states) = refl

-- a list without a member
pub no_member : (members : List ℕ) → length members ≡ 0 → members ≡ []
no_member [] none = refl
no_member (member ∷ members) none = absurd (omega (arith, none))
