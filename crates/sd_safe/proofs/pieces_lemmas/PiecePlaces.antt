-- Where the pieces of a list of items stand: in which item, and two of one item in which order.
use Rattle.std.specs.List.{AllByRecursion, Contains}
use Rattle.std.proofs.Common.{◌≡◌, ◌≢◌, ◌⊎◌, inl, inr, zero, suc, ℕ, ◌+◌, ◌≤◌, ◌<◌, ℤ, List, [], ◌∷◌, ◌++◌, length, map, sum, true, false, Some, slice_get, refl, ap, sym, ◌∙◌, subst, arith}
use Rattle.std.proofs.lemmas.List.Sums.{sum_by-cons}
use Rattle.sd_subset.specs.boxes.Box.{Parameter}
use Rattle.sd_graph.specs.PlainTree.{KindTree, task, map_scope, consume_scope, nested_graph, reduction, copy, ItemTrees, no_item, and_item}
use Rattle.sd_graph.specs.ContainerParts.{Containers}
use Rattle.sd_graph.specs.Context.{Context}
use Rattle.sd_graph.specs.Wiring.{Use, kind_uses, uses_of_each, uses_at}
use Rattle.sd_windows.specs.MapPieces.{kind_piece, kind_pieces, pieces_from, pieces_of_items}
use Rattle.sd_safe.specs.pieces.ItemPieces.{ItemPiece, item_pieces, piece_work}

-- ---- lists

-- a member of two lists put together is in the first or in the second
pub get-append : {A : Type 0} (xs ys : List A) (i : ℕ) (x : A) → slice_get (xs ++ ys) i ≡ Some x → (slice_get xs i ≡ Some x) ⊎ ((k : ℕ) × (i ≡ length xs + k) × (slice_get ys k ≡ Some x))
get-append [] ys i x is = inr (i, omega arith, is)
get-append (y ∷ xs) ys zero x is = inl is
get-append (y ∷ xs) ys (suc i) x is = elim (get-append xs ys i x is) [
  | inl first ↦ inl first
  | inr second ↦ inr (second.0, (let e = second.1 in omega arith), second.2)
]

pub some-same : {A : Type 0} (x y : A) → Some x ≡ Some y → x ≡ y
some-same x y e = cc

-- a member of a list that was made of another
pub get-map : {A B : Type 0} (f : A → B) (xs : List A) (i : ℕ) (y : B) → slice_get (map f xs) i ≡ Some y → (x : A) × (slice_get xs i ≡ Some x) × (f x ≡ y)
get-map f [] i y is = cc
get-map f (x ∷ xs) zero y is = (x, refl, some-same (f x) y is)
get-map f (x ∷ xs) (suc i) y is = get-map f xs i y is

pub map-get : {A B : Type 0} (f : A → B) (xs : List A) (i : ℕ) (x : A) → slice_get xs i ≡ Some x → slice_get (map f xs) i ≡ Some (f x)
map-get f [] i x is = cc
map-get f (y ∷ xs) zero x is = ap (λ z. Some (f z)) (some-same y x is)
map-get f (y ∷ xs) (suc i) x is = map-get f xs i x is

map-append : {A B : Type 0} (f : A → B) (xs ys : List A) → map f (xs ++ ys) ≡ map f xs ++ map f ys
map-append f [] ys = refl
map-append f (x ∷ xs) ys = ap (λ zs. f x ∷ zs) (map-append f xs ys)

map-map : {A B C : Type 0} (f : A → B) (g : B → C) (xs : List A) → map g (map f xs) ≡ map (λ x. g (f x)) xs
map-map f g [] = refl
map-map f g (x ∷ xs) = ap (λ zs. g (f x) ∷ zs) (map-map f g xs)

-- ---- the work of pieces

-- what the pieces of items have to do is that of the parts of the items
pub parts-work : (context : Context) (counts : ℕ → List ℕ) (item : ℕ) (items : ItemTrees) → pieces_of_items counts item items context ≡ map (piece_work context) (item_pieces context.values counts item items)
parts-work context counts item no_item = refl
parts-work context counts item (and_item line kind items) =
    (λ i. sym (map-map (λ part. record { item = item; line = line; kind = part }) (piece_work context) (kind_pieces context.values (counts item) kind)) i ++ parts-work context counts (suc item) items i)
    ∙ sym (map-append (piece_work context) (map (λ part. record { item = item; line = line; kind = part }) (kind_pieces context.values (counts item) kind)) (item_pieces context.values counts (suc item) items))

-- ---- pieces of one map

-- so many values of a map, from the one of this number on
pub record IsRun (values : List ℤ) (kind part : KindTree) (from to : ℕ) : Type 0 where
  pub first : ℕ
  pub count : ℕ
  pub is : part ≡ kind_piece values first count kind
  pub after : from ≤ first
  pub within : first + count ≤ to
  pub some : 0 < count

run-at : (values : List ℤ) (first : ℕ) (counts : List ℕ) (kind part : KindTree) (i : ℕ) → AllByRecursion (λ count. 0 < count) counts → slice_get (pieces_from values first counts kind) i ≡ Some part → IsRun values kind part first (first + sum counts)
run-at values first [] kind part i some is = cc
run-at values first (count ∷ counts) kind part zero some is =
    let one_more : sum (count ∷ counts) ≡ count + sum counts = sum_by-cons (λ n. n) count counts in
    record { first = first; count = count; is = sym (some-same (kind_piece values first count kind) part is); after = omega arith; within = omega arith; some = some.0 }
run-at values first (count ∷ counts) kind part (suc i) some is =
    let one_more : sum (count ∷ counts) ≡ count + sum counts = sum_by-cons (λ n. n) count counts in
    let r = run-at values (first + count) counts kind part i some.1 is in
    record { first = r.first; count = r.count; is = r.is; after = (let a = r.after in omega arith); within = (let a = r.within in omega arith); some = r.some }

-- two runs of values of a map, one behind the other
pub record AreRuns (values : List ℤ) (kind part other : KindTree) (to : ℕ) : Type 0 where
  pub from : ℕ
  pub one : IsRun values kind part from to
  pub two : IsRun values kind other from to
  pub apart : (one.first + one.count ≤ two.first) ⊎ (two.first + two.count ≤ one.first)

runs-at : (values : List ℤ) (first : ℕ) (counts : List ℕ) (kind part other : KindTree) (i j : ℕ) → AllByRecursion (λ count. 0 < count) counts → i ≢ j →
    slice_get (pieces_from values first counts kind) i ≡ Some part → slice_get (pieces_from values first counts kind) j ≡ Some other → AreRuns values kind part other (first + sum counts)
runs-at values first [] kind part other i j some different is is' = cc
runs-at values first (count ∷ counts) kind part other zero zero some different is is' = absurd (different refl)
runs-at values first (count ∷ counts) kind part other zero (suc j) some different is is' =
    let one_more : sum (count ∷ counts) ≡ count + sum counts = sum_by-cons (λ n. n) count counts in
    let r = run-at values (first + count) counts kind other j some.1 is' in
    let a = r.after in
    let b = r.within in
    record {
      from = first;
      one = record { first = first; count = count; is = sym (some-same (kind_piece values first count kind) part is); after = omega arith; within = omega arith; some = some.0 };
      two = record { first = r.first; count = r.count; is = r.is; after = omega arith; within = omega arith; some = r.some };
      apart = inl a;
    }
runs-at values first (count ∷ counts) kind part other (suc i) zero some different is is' =
    let one_more : sum (count ∷ counts) ≡ count + sum counts = sum_by-cons (λ n. n) count counts in
    let r = run-at values (first + count) counts kind part i some.1 is in
    let a = r.after in
    let b = r.within in
    record {
      from = first;
      one = record { first = r.first; count = r.count; is = r.is; after = omega arith; within = omega arith; some = r.some };
      two = record { first = first; count = count; is = sym (some-same (kind_piece values first count kind) other is'); after = omega arith; within = omega arith; some = some.0 };
      apart = inr a;
    }
runs-at values first (count ∷ counts) kind part other (suc i) (suc j) some different is is' =
    let one_more : sum (count ∷ counts) ≡ count + sum counts = sum_by-cons (λ n. n) count counts in
    let r = runs-at values (first + count) counts kind part other i j some.1 (λ e. different (ap suc e)) is is' in
    let a = r.one.within in
    let b = r.two.within in
    record {
      from = r.from;
      one = record { first = r.one.first; count = r.one.count; is = r.one.is; after = r.one.after; within = omega arith; some = r.one.some };
      two = record { first = r.two.first; count = r.two.count; is = r.two.is; after = r.two.after; within = omega arith; some = r.two.some };
      apart = r.apart;
    }

-- two pieces of one item are runs of values of a map whose points are in any order
pub record AreOfMap (values : List ℤ) (counts : List ℕ) (kind part other : KindTree) : Type 0 where
  pub params : List Parameter
  pub private : List ℕ
  pub body : ItemTrees
  pub is_map : kind ≡ map_scope false params private body
  pub runs : AreRuns values (map_scope false params private body) part other (0 + sum counts)

one-alone : {A : Type 0} {B : Type 0} (a x y : A) (i j : ℕ) → i ≢ j → slice_get (a ∷ []) i ≡ Some x → slice_get (a ∷ []) j ≡ Some y → B
one-alone a x y zero zero different is is' = absurd (different refl)
one-alone a x y zero (suc j) different is is' = cc
one-alone a x y (suc i) j different is is' = cc

pub of-map : (values : List ℤ) (counts : List ℕ) (kind part other : KindTree) (i j : ℕ) → AllByRecursion (λ count. 0 < count) counts → i ≢ j →
    slice_get (kind_pieces values counts kind) i ≡ Some part → slice_get (kind_pieces values counts kind) j ≡ Some other → AreOfMap values counts kind part other
of-map values counts (task code ins outs) part other i j some different is is' = one-alone (task code ins outs) part other i j different is is'
of-map values counts (map_scope true params private body) part other i j some different is is' = one-alone (map_scope true params private body) part other i j different is is'
of-map values counts (map_scope false params private body) part other i j some different is is' =
    record { params = params; private = private; body = body; is_map = refl; runs = runs-at values 0 counts (map_scope false params private body) part other i j some different is is' }
of-map values counts (consume_scope stream element private body) part other i j some different is is' = one-alone (consume_scope stream element private body) part other i j different is is'
of-map values counts (nested_graph inner links) part other i j some different is is' = one-alone (nested_graph inner links) part other i j different is is'
of-map values counts (reduction resolution axis identity from to) part other i j some different is is' = one-alone (reduction resolution axis identity from to) part other i j different is is'
of-map values counts (copy from to) part other i j some different is is' = one-alone (copy from to) part other i j different is is'

-- ---- the item of a piece

-- a piece has the item's uses
pieces-use : (values : List ℤ) (first : ℕ) (counts : List ℕ) (params : List Parameter) (private : List ℕ) (body : ItemTrees) (containers : Containers) (part : KindTree) (i : ℕ) → slice_get (pieces_from values first counts (map_scope false params private body)) i ≡ Some part →
    kind_uses part containers ≡ kind_uses (map_scope false params private body) containers
pieces-use values first [] params private body containers part i is = cc
pieces-use values first (count ∷ counts) params private body containers part zero is = ap (λ k. kind_uses k containers) (sym (some-same (kind_piece values first count (map_scope false params private body)) part is))
pieces-use values first (count ∷ counts) params private body containers part (suc i) is = pieces-use values (first + count) counts params private body containers part i is

one-use : (kind part : KindTree) (containers : Containers) (i : ℕ) → slice_get (kind ∷ []) i ≡ Some part → kind_uses part containers ≡ kind_uses kind containers
one-use kind part containers zero is = ap (λ k. kind_uses k containers) (sym (some-same kind part is))
one-use kind part containers (suc i) is = cc

kind-use : (values : List ℤ) (counts : List ℕ) (kind part : KindTree) (containers : Containers) (i : ℕ) → slice_get (kind_pieces values counts kind) i ≡ Some part → kind_uses part containers ≡ kind_uses kind containers
kind-use values counts (task code ins outs) part containers i is = one-use (task code ins outs) part containers i is
kind-use values counts (map_scope true params private body) part containers i is = one-use (map_scope true params private body) part containers i is
kind-use values counts (map_scope false params private body) part containers i is = pieces-use values 0 counts params private body containers part i is
kind-use values counts (consume_scope stream element private body) part containers i is = one-use (consume_scope stream element private body) part containers i is
kind-use values counts (nested_graph inner links) part containers i is = one-use (nested_graph inner links) part containers i is
kind-use values counts (reduction resolution axis identity from to) part containers i is = one-use (reduction resolution axis identity from to) part containers i is
kind-use values counts (copy from to) part containers i is = one-use (copy from to) part containers i is

-- the item of a piece, from the first one on, and that its uses are those of the piece
pub record IsPlaced (items : ItemTrees) (containers : Containers) (item : ℕ) (piece : ItemPiece) : Type 0 where
  pub number : ℕ
  pub is : piece.item ≡ item + number
  pub uses : (use' : Use) → Contains (kind_uses piece.kind containers) use' → Contains (uses_at (uses_of_each items containers) number) use'

pub placed : (values : List ℤ) (counts : ℕ → List ℕ) (item : ℕ) (items : ItemTrees) (containers : Containers) (i : ℕ) (piece : ItemPiece) → slice_get (item_pieces values counts item items) i ≡ Some piece → IsPlaced items containers item piece
placed values counts item no_item containers i piece is = cc
placed values counts item (and_item line kind items) containers i piece is =
    elim (get-append (map (λ part. record { item = item; line = line; kind = part }) (kind_pieces values (counts item) kind)) (item_pieces values counts (suc item) items) i piece is) [
      | inl here ↦
          let r = get-map (λ part. record { item = item; line = line; kind = part }) (kind_pieces values (counts item) kind) i piece here in
          record {
            number = 0;
            is = sym (ap (λ (p : ItemPiece). p.item) r.2) ∙ omega arith;
            uses = λ use' member. subst (λ uses. Contains uses use') (ap (λ (p : ItemPiece). kind_uses p.kind containers) (sym r.2) ∙ kind-use values (counts item) kind r.0 containers i r.1) member;
          }
      | inr later ↦
          let r = placed values counts (suc item) items containers later.0 piece later.2 in
          let e = r.is in
          record { number = suc r.number; is = omega arith; uses = r.uses }
    ]
