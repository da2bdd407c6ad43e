-- Maps as the code takes them apart and makes them.
use Rattle.std.proofs.Common.{◌≡◌, ◌==◌, ℕ, ap₂, List, [], ◌∷◌, ◌++◌, length, map, Vec, Some, None, Bool, ◌||◌, true, false, refl, ap, sym, ◌∙◌, arith}
use Rattle.std.specs.declared.alloc.Global.{Global}
use Rattle.sd_range.specs.declared.range.Range.{Range}
use Rattle.sd_graph.specs.PlainTree.{KindTree, task, map_scope, consume_scope, nested_graph, reduction, copy, GraphTree, ItemTrees, no_item, and_item}
use Rattle.sd_graph.specs.TreeFold.{PlainItem, PlainState, kind_step, item_step, graph_step, state_step, items_listed, kind_tree, item_tree, item_trees}
use Rattle.sd_graph.specs.declared.graph.Item.{Item}
use Rattle.sd_graph.specs.declared.graph.ItemKind.{ItemKind}
use Rattle.sd_graph.specs.declared.graph.ItemKind as shape
use Rattle.sd_graph.specs.declared.graph.ItemKind.TheOpen as layer
use Rattle.sd_graph.specs.declared.graph.ItemKind.TheFolds.{fold-roll-ItemKind}
use Rattle.sd_wire.proofs.wiring_lemmas.ItemLists.{item_opened}
use Rattle.sd_alike.specs.alike.Places.{items_then}
use Rattle.sd_alike.specs.alike.Maps.{collapsed, expanded}
use Rattle.sd_mapx.specs.MapTests.{is_map, is_sole_map}
use Rattle.sd_mapx.specs.Parts.{PlainPair, pair_in}
use Rattle.sd_mapx.proofs.RebuiltLemmas.{item_pushed}

-- one more item, the last one
pub pushed_as : (items : List Item) (line : ℕ) (kind : ItemKind) (all : List Item) (tree : KindTree) → all ≡ items ++ record { line = line; kind = kind } ∷ [] → kind_tree kind ≡ tree →
    item_trees all ≡ items_then (item_trees items) (and_item line tree no_item)
pushed_as items line kind all tree is same =
    ap item_trees is
    ∙ item_pushed items (record { line = line; kind = kind })
    ∙ ap (λ (at : PlainItem). items_then (item_trees items) (and_item at.0 at.1 no_item)) (item_opened (record { line = line; kind = kind }))
    ∙ ap (λ (tree : KindTree). items_then (item_trees items) (and_item line tree no_item)) same

-- items that are the first one and others
pub sole : (items others : List Item) (item : Item) → items ≡ item ∷ others → length others ≡ 0 → is_sole_map (item_trees items) ≡ is_map (kind_tree item.kind)
sole items [] item is none = ap (λ items. is_sole_map (item_trees items)) is ∙ ap (λ (at : PlainItem). is_map at.1) (item_opened item)
sole items (first ∷ others) item is none = cc

pub not_sole : (items others rest : List Item) (item next : Item) → items ≡ item ∷ others → others ≡ next ∷ rest → is_sole_map (item_trees items) ≡ false
not_sole items others rest item next is more = ap (λ items. is_sole_map (item_trees items)) (is ∙ ap (λ others. item ∷ others) more)

-- a map
pub map_kind : (sequential : Bool) (params : Vec (ℕ × Range) Global) (private : Vec ℕ Global) (body : Vec Item Global) → kind_tree (shape.Map params private body sequential) ≡ map_scope sequential params.items private.items (item_trees body.items)
unfolding shape.roll-ItemKind denote.Hole.Carrier.roll
map_kind sequential params private body = fold-roll-ItemKind KindTree PlainItem GraphTree PlainState kind_step item_step graph_step state_step (layer.Map params private body sequential)

-- a map of one parameter round one of others, put in the place of a map
pub put_expanded : (variables line : ℕ) (sequential : Bool) (params others made_first made_others : List (ℕ × Range)) (first : ℕ × Range) (private made_private : List ℕ) (body made_body within all old : List Item) (inner kind old_kind : ItemKind) →
    kind_tree old_kind ≡ map_scope sequential params private (item_trees body) → params ≡ first ∷ others → (length others == 0) ≡ false →
    made_first ≡ first ∷ [] → made_others ≡ others → made_private ≡ private → map item_tree made_body ≡ map item_tree body →
    kind_tree inner ≡ map_scope sequential made_others made_private (item_trees made_body) → within ≡ record { line = line; kind = inner } ∷ [] →
    kind_tree kind ≡ map_scope sequential made_first [] (item_trees within) → all ≡ old ++ record { line = line; kind = kind } ∷ [] →
    item_trees all ≡ items_then (item_trees old) (expanded variables line (kind_tree old_kind))
put_expanded variables line sequential params [] made_first made_others first private made_private body made_body within all old inner kind old_kind was split more firsts seconds privates bodies inner_is within_is kind_is all_is = cc
put_expanded variables line sequential params (second ∷ others) made_first made_others first private made_private body made_body within all old inner kind old_kind was split more firsts seconds privates bodies inner_is within_is kind_is all_is =
    pushed_as old line kind all (map_scope sequential made_first [] (item_trees within)) all_is kind_is
    ∙ ap (items_then (item_trees old))
    (ap₂ (λ params items. and_item line (map_scope sequential params [] items) no_item) firsts
    (pushed_as [] line inner within (map_scope sequential made_others made_private (item_trees made_body)) within_is inner_is
    ∙ (λ i. and_item line (map_scope sequential (seconds i) (privates i) (items_listed (bodies i))) no_item))
    ∙ sym (ap (expanded variables line) (was ∙ ap (λ params. map_scope sequential params private (item_trees body)) split)))

some_member : {A : Type 0} (first : A) (members : List A) → (length (first ∷ members) == 0) ≡ true → ⊥
some_member first members none = grind (arith, none)

-- ---- a map and the one map that is its body

pub pair_made : (outer_sequential inner_sequential : Bool) (outer inner : List (ℕ × Range)) (own private : List ℕ) (items others body : List Item) (item : Item) (kind : KindTree) →
    kind ≡ map_scope outer_sequential outer own (item_trees items) → (length own == 0) ≡ true → items ≡ item ∷ others → (length others == 0) ≡ true → kind_tree item.kind ≡ map_scope inner_sequential inner private (item_trees body) →
    Some (record { outer_sequential = outer_sequential; outer = outer; line = item.line; inner_sequential = inner_sequential; inner = inner; private = private; body = item_trees body }) ≡ pair_in kind
pair_made outer_sequential inner_sequential outer inner (first ∷ own) private items others body item kind was none split alone item_is = absurd (some_member first own none)
pair_made outer_sequential inner_sequential outer inner [] private items (next ∷ others) body item kind was none split alone item_is = absurd (some_member next others alone)
pair_made outer_sequential inner_sequential outer inner [] private items [] body item kind was none split alone item_is =
    sym (ap pair_in (was ∙ ap (λ items. map_scope outer_sequential outer [] (item_trees items)) split
    ∙ ap (λ (at : PlainItem). map_scope outer_sequential outer [] (and_item at.0 at.1 no_item)) (item_opened item)
    ∙ ap (λ (kind : KindTree). map_scope outer_sequential outer [] (and_item item.line kind no_item)) item_is))

-- there is none where there is a private container, or an item more
no_pair_with_own : (sequential : Bool) (outer : List (ℕ × Range)) (first : ℕ) (own : List ℕ) (body : ItemTrees) → pair_in (map_scope sequential outer (first ∷ own) body) ≡ None
no_pair_with_own sequential outer first own body = refl

pub none_with_own : (sequential : Bool) (outer : List (ℕ × Range)) (own : List ℕ) (items : List Item) (kind : KindTree) →
    kind ≡ map_scope sequential outer own (item_trees items) → (length own == 0) ≡ false → None ≡ pair_in kind
none_with_own sequential outer [] items kind was more = cc
none_with_own sequential outer (first ∷ own) items kind was more = sym (ap pair_in was ∙ no_pair_with_own sequential outer first own (item_trees items))

no_pair_with_more : (sequential : Bool) (outer : List (ℕ × Range)) (own : List ℕ) (first next : ℕ) (kind other : KindTree) (items : ItemTrees) →
    pair_in (map_scope sequential outer own (and_item first kind (and_item next other items))) ≡ None
no_pair_with_more sequential outer (number ∷ own) first next kind other items = refl
no_pair_with_more sequential outer [] first next (task code ins outs) other items = refl
no_pair_with_more sequential outer [] first next (map_scope inner_sequential inner private body) other items = refl
no_pair_with_more sequential outer [] first next (consume_scope stream element private body) other items = refl
no_pair_with_more sequential outer [] first next (nested_graph inner links) other items = refl
no_pair_with_more sequential outer [] first next (reduction resolution axis identity from to) other items = refl
no_pair_with_more sequential outer [] first next (copy from to) other items = refl

pub none_with_more : (sequential : Bool) (outer : List (ℕ × Range)) (own : List ℕ) (items others : List Item) (item : Item) (kind : KindTree) →
    kind ≡ map_scope sequential outer own (item_trees items) → items ≡ item ∷ others → (length others == 0) ≡ false → None ≡ pair_in kind
none_with_more sequential outer own items [] item kind was split more = cc
none_with_more sequential outer own items (next ∷ others) item kind was split more =
    sym (ap pair_in (was ∙ ap (λ items. map_scope sequential outer own (item_trees items)) split)
    ∙ no_pair_with_more sequential outer own (item_tree item).0 (item_tree next).0 (item_tree item).1 (item_tree next).1 (item_trees others))

abbrev pub paired : PlainPair → KindTree
paired pair = map_scope pair.outer_sequential pair.outer [] (and_item pair.line (map_scope pair.inner_sequential pair.inner pair.private pair.body) no_item)

-- the item is that map
pub of_pair : (kind : KindTree) (pair : PlainPair) → Some pair ≡ pair_in kind → kind ≡ paired pair
of_pair (task code ins outs) pair is = cc
of_pair (map_scope sequential outer (first ∷ own) body) pair is = cc
of_pair (map_scope sequential outer [] no_item) pair is = cc
of_pair (map_scope sequential outer [] (and_item line (task code ins outs) items)) pair is = cc
of_pair (map_scope sequential outer [] (and_item line (map_scope inner_sequential inner private body) no_item)) pair is = sym (ap paired (same is))
  where
    same : {a b : PlainPair} → Some a ≡ Some b → a ≡ b
    same equal = cc
of_pair (map_scope sequential outer [] (and_item line (map_scope inner_sequential inner private body) (and_item next other items))) pair is = cc
of_pair (map_scope sequential outer [] (and_item line (consume_scope stream element private body) items)) pair is = cc
of_pair (map_scope sequential outer [] (and_item line (nested_graph inner links) items)) pair is = cc
of_pair (map_scope sequential outer [] (and_item line (reduction resolution axis identity from to) items)) pair is = cc
of_pair (map_scope sequential outer [] (and_item line (copy from to) items)) pair is = cc
of_pair (consume_scope stream element private body) pair is = cc
of_pair (nested_graph inner links) pair is = cc
of_pair (reduction resolution axis identity from to) pair is = cc
of_pair (copy from to) pair is = cc

-- any other item stays
pub stays_collapsed : (variables line : ℕ) (kind : KindTree) → None ≡ pair_in kind → and_item line kind no_item ≡ collapsed variables line kind
stays_collapsed variables line (task code ins outs) is = refl
stays_collapsed variables line (map_scope sequential outer (first ∷ own) body) is = refl
stays_collapsed variables line (map_scope sequential outer [] no_item) is = refl
stays_collapsed variables line (map_scope sequential outer [] (and_item inner (task code ins outs) items)) is = refl
stays_collapsed variables line (map_scope sequential outer [] (and_item inner (map_scope inner_sequential params private body) no_item)) is = cc
stays_collapsed variables line (map_scope sequential outer [] (and_item inner (map_scope inner_sequential params private body) (and_item next other items))) is = refl
stays_collapsed variables line (map_scope sequential outer [] (and_item inner (consume_scope stream element private body) items)) is = refl
stays_collapsed variables line (map_scope sequential outer [] (and_item inner (nested_graph nested links) items)) is = refl
stays_collapsed variables line (map_scope sequential outer [] (and_item inner (reduction resolution axis identity from to) items)) is = refl
stays_collapsed variables line (map_scope sequential outer [] (and_item inner (copy from to) items)) is = refl
stays_collapsed variables line (consume_scope stream element private body) is = refl
stays_collapsed variables line (nested_graph inner links) is = refl
stays_collapsed variables line (reduction resolution axis identity from to) is = refl
stays_collapsed variables line (copy from to) is = refl

-- a map of both parameters, put in the place of a map and the map in it
pub put_collapsed : (variables line : ℕ) (pair : PlainPair) (mark : Bool) (made : List (ℕ × Range)) (made_private : List ℕ) (made_body all old : List Item) (kind : ItemKind) (old_kind : KindTree) →
    Some pair ≡ pair_in old_kind → mark ≡ (pair.outer_sequential || pair.inner_sequential) → made ≡ pair.outer ++ pair.inner → made_private ≡ pair.private → item_trees made_body ≡ pair.body →
    kind_tree kind ≡ map_scope mark made made_private (item_trees made_body) → all ≡ old ++ record { line = line; kind = kind } ∷ [] →
    item_trees all ≡ items_then (item_trees old) (collapsed variables line old_kind)
put_collapsed variables line pair mark made made_private made_body all old kind old_kind is marks params privates bodies kind_is all_is =
    pushed_as old line kind all (map_scope mark made made_private (item_trees made_body)) all_is kind_is
    ∙ ap (items_then (item_trees old))
    ((λ i. and_item line (map_scope (marks i) (params i) (privates i) (bodies i)) no_item) ∙ sym (ap (collapsed variables line) (of_pair old_kind pair is)))
