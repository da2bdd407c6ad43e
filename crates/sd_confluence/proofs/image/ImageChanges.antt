-- What changes and reads of memories are of their image.
use Rattle.std.proofs.Common.{◌≡◌, ℕ, zero, suc, List, [], ◌∷◌, Option, Some, None, ℤ, pos, not, slice_get, slice_index_or, refl, ◌∙◌, ap}
use Rattle.sd_num.specs.Width.{wrapped_to}
use Rattle.sd_num.specs.declared.width.Width.{Width}
use Rattle.sd_num.specs.declared.width.Width.TheVariants.{W64}
use Rattle.sd_work.specs.Memory.{Contents, array, stream, Memory, Memories, Reference, elements_of, values_of, contents_of, seen, waiting}
use Rattle.sd_work.specs.Change.{Change, nothing, write, push, take, written, changed_at, without, with_elements, with_values, appended, apply, outer, outer_write, innermost, own_after}
use Rattle.sd_work.specs.Leaf.{write_value, transfer, push_to, Leaf, reading, doing}
use Rattle.sd_work.specs.LeafMove.{write_move, read_move, leaf_move}
use Rattle.sd_work.specs.Exit.{Exit, Guard, all_seen, with_value, decided, passed, or_later, first_exit}
use Rattle.sd_confluence.proofs.bags.Values.{count-last, count-taken, without-none}
use Rattle.sd_confluence.proofs.bags.BagMemory.{Holding, bag, Frame, on_cells, on_bag, add_one_of, drop_one_of, plain_holding, plain_frame, plain, keep, updated, outer_put, outer_update, top, own_update}
use Rattle.sd_confluence.proofs.image.Images.{holding_of, frame_of, stack_of, remove_found, update_of}

-- ---- changes of memories

stack_at : (l : ℕ) (f : Memory → Memory) (g : Frame → Frame) (s : Memories) → frame_of (f (slice_index_or s l [])) ≡ g (frame_of (slice_index_or s l [])) → stack_of (changed_at l f s) ≡ changed_at l g (stack_of s)
stack_at l f g [] h = refl
stack_at zero f g (m ∷ s) h = ap (λ x. x ∷ stack_of s) h
stack_at (suc l) f g (m ∷ s) h = ap (λ x. frame_of m ∷ x) (stack_at l f g s h)

frame_at : (c : ℕ) (f : Contents → Contents) (g : Holding → Holding) (m : Memory) → holding_of (f (slice_index_or m c (stream W64 []))) ≡ g (holding_of (slice_index_or m c (stream W64 []))) → frame_of (changed_at c f m) ≡ changed_at c g (frame_of m)
frame_at c f g [] h = refl
frame_at zero f g (x ∷ m) h = ap (λ y. y ∷ frame_of m) h
frame_at (suc c) f g (x ∷ m) h = ap (λ y. holding_of x ∷ y) (frame_at c f g m h)

-- a container that is changed in one way
changed_in : (l c : ℕ) (f : Contents → Contents) (g : Holding → Holding) (s : Memories) → holding_of (f (contents_of l c s)) ≡ g (holding_of (contents_of l c s)) → stack_of (changed_at l (changed_at c f) s) ≡ changed_at l (changed_at c g) (stack_of s)
changed_in l c f g s h = stack_at l _ _ s (frame_at c f g (slice_index_or s l []) h)

fixed_at : {A : Type 0} (n : ℕ) (f : A → A) (d : A) (xs : List A) → f (slice_index_or xs n d) ≡ slice_index_or xs n d → changed_at n f xs ≡ xs
fixed_at n f d [] h = refl
fixed_at zero f d (x ∷ xs) h = ap (λ y. y ∷ xs) h
fixed_at (suc n) f d (x ∷ xs) h = ap (λ y. x ∷ y) (fixed_at n f d xs h)

written_in : (f : Width → List ℤ → List ℤ) (k : Contents) → holding_of (with_elements f k) ≡ on_cells f (holding_of k)
written_in f (array width elements) = refl
written_in f (stream width values) = refl

pushed_in : (v : ℤ) (k : Contents) → holding_of (with_values (appended v) k) ≡ on_bag (λ width. add_one_of (wrapped_to width v)) (holding_of k)
pushed_in v (array width elements) = refl
pushed_in v (stream width values) = ap (bag width) (λ i w. count-last values (wrapped_to width v) w i)

taken_from : (k : ℕ) (v : ℤ) (x : Contents) → slice_get (values_of x) k ≡ Some v → holding_of (with_values (λ width. without k) x) ≡ on_bag (λ width. drop_one_of v) (holding_of x)
taken_from k v (array width elements) e = cc
taken_from k v (stream width values) e = ap (bag width) (λ i w. count-taken k values v w e i)

not_taken : (k : ℕ) (x : Contents) → slice_get (values_of x) k ≡ None → with_values (λ width. without k) x ≡ x
not_taken k (array width elements) e = refl
not_taken k (stream width values) e = ap (stream width) (without-none k values e)

-- the image of changed memories is the changed image
pub image_change : (u : Change) (s : Memories) → stack_of (apply u s) ≡ updated (update_of u s) (stack_of s)
image_change nothing s = refl
image_change (write to by v) s = changed_in to.level to.container _ _ s (written_in (λ width. changed_at to.element (written width by v)) (contents_of to.level to.container s))
image_change (push l c v) s = changed_in l c _ _ s (pushed_in v (contents_of l c s))
image_change (take l c k) s = go (slice_get (waiting l c s) k) refl
  where
    go : (o : Option ℤ) → slice_get (waiting l c s) k ≡ o → stack_of (apply (take l c k) s) ≡ updated (remove_found l c o) (stack_of s)
    go None e = ap stack_of (fixed_at l _ [] s (fixed_at c _ (stream W64 []) (slice_index_or s l []) (not_taken k (contents_of l c s) e)))
    go (Some v) e = changed_in l c _ _ s (taken_from k v (contents_of l c s) e)

-- a change seen from outside an owner
pub outside_is : (u : Change) (own : Memory) (s : Memories) → update_of (outer u) s ≡ outer_update (update_of u (own ∷ s))
outside_is nothing own s = refl
outside_is (write to by v) own s = go to.level to.container to.element
  where
    go : (l c p : ℕ) → update_of (outer_write l c p by v) s ≡ outer_put l c p by v
    go zero c p = refl
    go (suc l) c p = refl
outside_is (push zero c v) own s = refl
outside_is (push (suc l) c v) own s = refl
outside_is (take zero c k) own s = go (slice_get (waiting zero c (own ∷ s)) k)
  where
    go : (o : Option ℤ) → keep ≡ outer_update (remove_found zero c o)
    go None = refl
    go (Some v) = refl
outside_is (take (suc l) c k) own s = go (slice_get (waiting l c s) k)
  where
    go : (o : Option ℤ) → remove_found l c o ≡ outer_update (remove_found (suc l) c o)
    go None = refl
    go (Some v) = refl

top_image : (s : Memories) → frame_of (innermost s) ≡ top (stack_of s)
top_image [] = refl
top_image (m ∷ s) = refl

-- what a change leaves in an owner's memory
pub own_is : (u : Change) (own : Memory) (s : Memories) → frame_of (own_after u own) ≡ own_update (update_of u (own ∷ s)) (frame_of own)
own_is nothing own s = refl
own_is (write to by v) own s = top_image (apply (write to by v) (own ∷ [])) ∙ ap top (image_change (write to by v) (own ∷ []))
own_is (push l c v) own s = top_image (apply (push l c v) (own ∷ [])) ∙ ap top (image_change (push l c v) (own ∷ []))
own_is (take zero c k) own s = top_image (apply (take zero c k) (own ∷ [])) ∙ ap top (image_change (take zero c k) (own ∷ []))
own_is (take (suc l) c k) own s = go (slice_get (waiting l c s) k)
  where
    go : (o : Option ℤ) → frame_of own ≡ own_update (remove_found (suc l) c o) (frame_of own)
    go None = refl
    go (Some v) = refl

-- ---- what is read

elements_plain : (k : Contents) → elements_of (plain_holding (holding_of k)) ≡ elements_of k
elements_plain (array width elements) = refl
elements_plain (stream width values) = refl

elements_in : (c : ℕ) (m : Memory) → elements_of (slice_index_or (plain_frame (frame_of m)) c (stream W64 [])) ≡ elements_of (slice_index_or m c (stream W64 []))
elements_in c [] = refl
elements_in zero (k ∷ m) = elements_plain k
elements_in (suc c) (k ∷ m) = elements_in c m

elements_are : (l c : ℕ) (s : Memories) → elements_of (contents_of l c (plain (stack_of s))) ≡ elements_of (contents_of l c s)
elements_are l c [] = refl
elements_are zero c (m ∷ s) = elements_in c m
elements_are (suc l) c (m ∷ s) = elements_are l c s

-- an element is read in the image as in the memories
pub seen-plain : (r : Option Reference) (s : Memories) → seen r (plain (stack_of s)) ≡ seen r s
seen-plain None s = refl
seen-plain (Some r) s = ap (λ xs. Some (slice_index_or xs r.element (pos 0))) (elements_are r.level r.container s)

all_seen-plain : (rs : List (Option Reference)) (s : Memories) → all_seen rs (plain (stack_of s)) ≡ all_seen rs s
all_seen-plain [] s = refl
all_seen-plain (r ∷ rs) s = λ i. with_value (seen-plain r s i) (all_seen-plain rs s i)

passed-plain : {P : Type 0} (g : Option (Guard P)) (s : Memories) → passed g (plain (stack_of s)) ≡ passed g s
passed-plain None s = refl
passed-plain (Some g) s = ap (decided g) (all_seen-plain g.reads s)

-- the same exit is taken in the image
pub first_exit-plain : {P : Type 0} (es : List (Exit P)) (s : Memories) → first_exit es (plain (stack_of s)) ≡ first_exit es s
first_exit-plain [] s = refl
first_exit-plain (e ∷ es) s = λ i. or_later (passed-plain e.when s i) e (first_exit-plain es s i)

-- a leaf moves in the image as in the memories
pub leaf_move-plain : {P : Type 0} (place : P) (work : Leaf) (s : Memories) → leaf_move place work (plain (stack_of s)) ≡ leaf_move place work s
leaf_move-plain place (reading begun [] values evaluation) s = refl
leaf_move-plain place (reading begun (r ∷ rs) values evaluation) s = ap (λ o. read_move place (not begun) o rs values evaluation) (seen-plain r s)
leaf_move-plain place (doing []) s = refl
leaf_move-plain place (doing (write_value v to by ∷ es)) s = refl
leaf_move-plain place (doing (transfer from to by ∷ es)) s = ap (λ o. write_move place o to by es) (seen-plain from s)
leaf_move-plain place (doing (push_to l c v ∷ es)) s = refl
