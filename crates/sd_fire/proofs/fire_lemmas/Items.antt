-- Moves of the code's items are those of their lists.
use Rattle.std.proofs.Common.{◌≡◌, ℕ, zero, suc, ◌<◌, List, [], ◌∷◌, length, map, get_or, slice_set, Bool, sym, ap, ap₂, ◌∙◌, subst, arith}
use Rattle.sd_work.specs.Residual.{Items, Term, list}
use Rattle.sd_work.specs.Moves.{Path}
use Rattle.sd_work.specs.BigStep.{Reached}
use Rattle.sd_graph.specs.PlainTree.{KindTree}
use Rattle.sd_graph.specs.Context.{Context}
use Rattle.sd_graph.specs.TreeFold.{PlainItem, kind_tree, item_tree, item_trees}
use Rattle.sd_graph.specs.declared.graph.Item.{Item}
use Rattle.sd_graph.specs.declared.graph.ItemKind.TheViews.{out-Item}
use Rattle.sd_graph.specs.declared.place.Place.{Place}
use Rattle.sd_mem.specs.declared.machine.end.End.{End}
use Rattle.sd_left.specs.tree.Standing.{ItemLeft, first_line, first_kind, behind, parts_left}
use Rattle.sd_left.specs.fired.Fired.{IsFired}
use Rattle.sd_left.proofs.fired_lemmas.Kept.{kept-item-fired}
use Rattle.sd_fire.proofs.begin_lemmas.ItemKinds.{item_opened}

-- the same work in other words
pub retold : {old old2 new new2 : Term Place} (path : Path) (before after : Reached) (end : End) → old2 ≡ old → new2 ≡ new → IsFired old path before end after new → IsFired old2 path before end after new2
retold {old = old} {old2 = old2} {new = new} path before after end same_old same_new fired =
    subst (λ (work : Term Place). IsFired old2 path before end after work) (sym same_new)
    (subst (λ (work : Term Place). IsFired work path before end after new) (sym same_old) fired)

-- ---- items of the code

kind_at : (items : List Item) (number : ℕ) (item : Item) → number < length items → item ≡ get_or items number item → first_kind (behind number (item_trees items)) ≡ kind_tree (out-Item item).kind
kind_at [] number item within is = absurd (omega (arith, within))
kind_at (first ∷ items) zero item within is = ap (λ (i : Item). (item_tree i).1) (sym is) ∙ ap (λ (plain : PlainItem). plain.1) (item_opened item)
kind_at (first ∷ items) (suc number) item within is = kind_at items number item (omega (arith, within)) is

line_at : (items : List Item) (number : ℕ) (item : Item) → number < length items → item ≡ get_or items number item → first_line (behind number (item_trees items)) ≡ (out-Item item).line
line_at [] number item within is = absurd (omega (arith, within))
line_at (first ∷ items) zero item within is = ap (λ (i : Item). (item_tree i).0) (sym is) ∙ ap (λ (plain : PlainItem). plain.0) (item_opened item)
line_at (first ∷ items) (suc number) item within is = line_at items number item (omega (arith, within)) is

module _ {A : Type 0} (tell : A → ItemLeft) (order : ℕ → ℕ → Bool) (parts : List A) (number : ℕ) (old new : A) (items : List Item) (item : Item) (context : Context) (path : Path) (before after : Reached) (end : End)
    (there : number < length items) (is_item : item ≡ get_or items number item) where
  same : (part : A) → tell part (first_kind (behind number (item_trees items))) (first_line (behind number (item_trees items))) context ≡ tell part (kind_tree (out-Item item).kind) (out-Item item).line context
  same part = ap₂ (λ (kind : KindTree) (line : ℕ). tell part kind line context) (kind_at items number item there is_item) (line_at items number item there is_item)

  pub parts_fired : number < length parts → old ≡ get_or parts number old
      → IsFired (tell old (kind_tree (out-Item item).kind) (out-Item item).line context) path before end after (tell new (kind_tree (out-Item item).kind) (out-Item item).line context)
      → IsFired (list Items order (parts_left (map tell parts) (item_trees items) context)) (number ∷ path) before end after (list Items order (parts_left (map tell (slice_set parts number new)) (item_trees items) context))
  parts_fired within is fired =
      kept-item-fired tell order parts number old new (item_trees items) context path before after end within is (retold path before after end (same old) (same new) fired)
