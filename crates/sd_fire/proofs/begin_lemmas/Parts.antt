-- Items and points that begin, one after another.
use Rattle.std.proofs.Common.{◌≡◌, ℕ, ◌+◌, ◌<◌, ◌≤◌, ℤ, List, [], ◌∷◌, ◌++◌, map, length, drop, get_or, slice_get, Some, is_some, Bool, true, false, ◌&&◌, refl, sym, ap, ap₂, ◌∙◌, subst, drop_of_length-le}
use Rattle.std.proofs.lemmas.List.{drop_more}
use Rattle.sd_range.specs.declared.range.Range.{Range}
use Rattle.sd_range.specs.Points.{Walk, moved}
use Rattle.sd_work.specs.Memory.{Memories}
use Rattle.sd_graph.specs.PlainTree.{ItemTrees, and_item}
use Rattle.sd_graph.specs.TreeFold.{PlainItem, kind_tree, item_trees}
use Rattle.sd_graph.specs.Context.{Context}
use Rattle.sd_graph.specs.Unfold.{unfold_kind}
use Rattle.sd_graph.specs.declared.graph.Item.{Item}
use Rattle.sd_graph.specs.declared.graph.ItemKind.TheViews.{out-Item}
use Rattle.sd_left.specs.tree.Standing.{ItemLeft, BodyLeft}
use Rattle.sd_left.specs.tree.Begun.{AreBegun, IsPointBegun, ArePointsBegun}
use Rattle.sd_left.specs.left.Telling.{Telling, all_right}
use Rattle.sd_left.specs.left.Waits.{Told, all_hold}
use Rattle.sd_fire.proofs.begin_lemmas.ItemKinds.{item_opened}

-- ---- lists that grow at their end

map-behind : {A B : Type 0} (f : A → B) (members : List A) (member : A) (rest : List B) → map f (members ++ member ∷ []) ++ rest ≡ map f members ++ f member ∷ rest
map-behind f [] member rest = refl
map-behind f (first ∷ members) member rest = ap (λ others. f first ∷ others) (map-behind f members member rest)

with-none : {A : Type 0} (members : List A) → members ++ [] ≡ members
with-none [] = refl
with-none (first ∷ members) = ap (λ others. first ∷ others) (with-none members)

both-hold : (first second : Bool) → first ≡ true → second ≡ true → (first && second) ≡ true
both-hold first second here there = ap₂ (λ (a b : Bool). a && b) here there

both-true : (first second : Bool) → (first && second) ≡ true → (first ≡ true) × (second ≡ true)
both-true true second held = (refl, held)
both-true false second held = absurd (let no : true ≡ false = sym held in cc)

-- what holds of all and of one more
pub all-hold-more : {A : Type 0} (told : A → Told) (members : List A) (member : A) (memories : Memories) → all_hold (map told members) memories ≡ true → told member memories ≡ true →
    all_hold (map told (members ++ member ∷ [])) memories ≡ true
all-hold-more told [] member memories held here = both-hold (told member memories) true here refl
all-hold-more told (first ∷ members) member memories held here =
    let each = both-true (told first memories) (all_hold (map told members) memories) held in
    both-hold (told first memories) (all_hold (map told (members ++ member ∷ [])) memories) each.0 (all-hold-more told members member memories each.1 here)

-- where each is right and so is one more
pub all-right-more : {A : Type 0} (telling : A → Telling) (members : List A) (member : A) → all_right (map telling members) ≡ true → (telling member).is_right ≡ true →
    all_right (map telling (members ++ member ∷ [])) ≡ true
all-right-more telling [] member held here = both-hold (telling member).is_right true here refl
all-right-more telling (first ∷ members) member held here =
    let each = both-true (telling first).is_right (all_right (map telling members)) held in
    both-hold (telling first).is_right (all_right (map telling (members ++ member ∷ []))) each.0 (all-right-more telling members member each.1 here)

-- ---- items

-- these are begun, and with those that are left all are
abbrev pub AreBegunSoFar : (all : ItemTrees) → Context → (parts : List ItemLeft) → (left : ItemTrees) → Type 0
AreBegunSoFar all context parts left = (rest : List ItemLeft) → AreBegun rest left context → AreBegun (parts ++ rest) all context

pub items-first : (all : ItemTrees) (context : Context) → AreBegunSoFar all context [] all
items-first all context = λ rest begun. begun

pub items-more : {A : Type 0} (left : A → ItemLeft) (context : Context) (all : ItemTrees) (parts : List A) (part : A) (items : List Item) (index : ℕ) (item : Item) →
    index < length items → item ≡ get_or items index item →
    left part (kind_tree (out-Item item).kind) (out-Item item).line context ≡ unfold_kind (kind_tree (out-Item item).kind) (out-Item item).line context →
    AreBegunSoFar all context (map left parts) (item_trees (drop index items)) →
    AreBegunSoFar all context (map left (parts ++ part ∷ [])) (item_trees (drop (index + 1) items))
items-more left context all parts part items index item within is begun so_far = λ rest others.
    subst (λ (parts : List ItemLeft). AreBegun parts all context) (sym (map-behind left parts part rest))
    (so_far (left part ∷ rest) (subst (λ (items : ItemTrees). AreBegun (left part ∷ rest) items context) (sym opened) (begun, others)))
  where
    opened : item_trees (drop index items) ≡ and_item (out-Item item).line (kind_tree (out-Item item).kind) (item_trees (drop (index + 1) items))
    opened =
        ap item_trees (drop_more items index item within)
        ∙ ap (λ (i : Item). item_trees (i ∷ drop (index + 1) items)) (sym is)
        ∙ ap (λ (first : PlainItem). and_item first.0 first.1 (item_trees (drop (index + 1) items))) (item_opened item)

pub items-all : (context : Context) (all : ItemTrees) (parts : List ItemLeft) (items : List Item) (index : ℕ) → length items ≤ index →
    AreBegunSoFar all context parts (item_trees (drop index items)) → AreBegun parts all context
items-all context all parts items index over so_far =
    subst (λ (parts : List ItemLeft). AreBegun parts all context) (with-none parts)
    (so_far [] (subst (λ (left : List Item). AreBegun [] (item_trees left) context) (sym (drop_of_length-le items over)) tt))

-- ---- points

first-is : (points : List (List ℤ)) (point : List ℤ) → slice_get points 0 ≡ Some point → points ≡ point ∷ drop 1 points
first-is [] point is = cc
first-is (first ∷ points) point is = ap (λ (p : List ℤ). p ∷ points) (same first point is)
  where
    same : (a b : List ℤ) → Some a ≡ Some b → a ≡ b
    same a b is = cc

-- the point that is come to was the first that was left
pub point-first : (old new : Walk) (point : List ℤ) → new ≡ moved old → new.current ≡ Some point → old.left ≡ point ∷ new.left
point-first old new point step here =
    first-is old.left point (ap (λ (w : Walk). w.current) (sym step) ∙ here) ∙ ap (λ (left : List (List ℤ)). point ∷ left) (ap (λ (w : Walk). w.left) (sym step))

-- where none is come to, none was left
pub none-left : (old new : Walk) → new ≡ moved old → is_some new.current ≡ false → old.left ≡ []
none-left old new step over = empty old.left (ap (λ (w : Walk). is_some w.current) (sym step) ∙ over)
  where
    empty : (points : List (List ℤ)) → is_some (slice_get points 0) ≡ false → points ≡ []
    empty [] none = refl
    empty (first ∷ points) none = absurd (let no : true ≡ false = none in cc)

module _ (params : List (ℕ × Range)) (private : List ℕ) (items : ItemTrees) (context : Context) where
  abbrev pub ArePointsBegunSoFar : (all : List (List ℤ)) → (bodies : List BodyLeft) → (left : List (List ℤ)) → Type 0
  ArePointsBegunSoFar all bodies left = (rest : List BodyLeft) → ArePointsBegun params private items context left rest → ArePointsBegun params private items context all (bodies ++ rest)

  pub points-first : (all : List (List ℤ)) → ArePointsBegunSoFar all [] all
  points-first all = λ rest begun. begun

  pub points-more : {A : Type 0} (kept : A → BodyLeft) (all : List (List ℤ)) (bodies : List A) (body : A) (at : List ℤ) (old new : List (List ℤ)) → old ≡ at ∷ new →
      IsPointBegun params private items context at (kept body) → ArePointsBegunSoFar all (map kept bodies) old → ArePointsBegunSoFar all (map kept (bodies ++ body ∷ [])) new
  points-more kept all bodies body at old new is begun so_far = λ rest others.
      subst (λ (bodies : List BodyLeft). ArePointsBegun params private items context all bodies) (sym (map-behind kept bodies body rest))
      (so_far (kept body ∷ rest) (subst (λ (left : List (List ℤ)). ArePointsBegun params private items context left (kept body ∷ rest)) (sym is) (begun, others)))

  pub points-all : (all : List (List ℤ)) (bodies : List BodyLeft) (left : List (List ℤ)) → left ≡ [] → ArePointsBegunSoFar all bodies left → ArePointsBegun params private items context all bodies
  points-all all bodies left none so_far =
      subst (λ (bodies : List BodyLeft). ArePointsBegun params private items context all bodies) (with-none bodies)
      (so_far [] (subst (λ (left : List (List ℤ)). ArePointsBegun params private items context left []) (sym none) tt))
