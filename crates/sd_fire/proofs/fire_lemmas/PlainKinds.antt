-- What an item of the code is in the plain tree, where its parts are seen as lists.
use Rattle.std.proofs.Common.{◌≡◌, ℕ, List, Bool, Vec, sym, ap, ◌∙◌}
use Rattle.std.specs.declared.alloc.Global.{Global}
use Rattle.sd_range.specs.declared.range.Range.{Range}
use Rattle.sd_graph.specs.PlainTree.{map_scope, consume_scope}
use Rattle.sd_graph.specs.TreeFold.{kind_tree, item_trees}
use Rattle.sd_graph.specs.declared.graph.Item.{Item}
use Rattle.sd_graph.specs.declared.graph.ItemKind as shape
use Rattle.sd_graph.specs.declared.graph.ItemKind.{ItemKind}
use Rattle.sd_fire.proofs.begin_lemmas.ItemKinds.{map_kind, consume_kind}

pub map_here : (kind : ItemKind) (params : Vec (ℕ × Range) Global) (private : Vec ℕ Global) (body : Vec Item Global) (sequential : Bool) (these : List (ℕ × Range)) (own : List ℕ) (items : List Item)
    → kind ≡ shape.Map params private body sequential → these ≡ params.items → own ≡ private.items → items ≡ body.items → kind_tree kind ≡ map_scope sequential these own (item_trees items)
map_here kind params private body sequential these own items is same_params same_own same_items =
    ap kind_tree is ∙ map_kind params private body sequential ∙ (λ i. map_scope sequential (sym same_params i) (sym same_own i) (item_trees (sym same_items i)))

pub consume_here : (kind : ItemKind) (stream element : ℕ) (private : Vec ℕ Global) (body : Vec Item Global) (own : List ℕ) (items : List Item)
    → kind ≡ shape.Consume stream element private body → own ≡ private.items → items ≡ body.items → kind_tree kind ≡ consume_scope stream element own (item_trees items)
consume_here kind stream element private body own items is same_own same_items =
    ap kind_tree is ∙ consume_kind stream element private body ∙ (λ i. consume_scope stream element (sym same_own i) (item_trees (sym same_items i)))
