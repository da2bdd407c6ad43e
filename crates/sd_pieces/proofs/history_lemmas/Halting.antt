-- Work with bags whose moves all go on, and after so many of which none is next: work of such an image comes to an end from left to right.
use Rattle.std.proofs.Common.{◌≡◌, ℕ, zero, suc, ◌≤◌, ◌<◌, ℤ, List, [], ◌∷◌, ◌++◌, drop, Option, Some, None, Result, Ok, Err, Bool, true, false, not, cond, slice_get, refl, sym, ◌∙◌, ap, subst, arith}
use Rattle.std.specs.Bool.{⊤}
use Rattle.std.specs.Ordering.{int_eq}
use Rattle.sd_num.specs.declared.resolution.Resolution.{Resolution}
use Rattle.sd_work.specs.declared.fault.FaultKind.{FaultKind}
use Rattle.sd_work.specs.Memory.{Memories, Reference, seen, waiting}
use Rattle.sd_work.specs.Change.{Change, nothing, write, push, take, apply}
use Rattle.sd_work.specs.Leaf.{Pending, write_value, transfer, push_to, Evaluation, Leaf, reading, doing, is_done}
use Rattle.sd_work.specs.Move.{Fault, fails, goes}
use Rattle.sd_work.specs.LeafMove.{leaf_move, write_move, read_move, evaluation_move}
use Rattle.sd_work.specs.Exit.{Values, Exit, first_exit}
use Rattle.sd_work.specs.Residual.{Term, leaf, list, owning, nested, ended, pool, Terms, none, also, Actives, idle, busy, IsOrder}
use Rattle.sd_work.specs.Step.{Spent, spend}
use Rattle.sd_work.specs.WellFormed.{IsOrdered, AreOrdered, AreActiveOrdered}
use Rattle.sd_work.specs.BigStep.{Coming, reached, and_then, after_move, after_read, big_doing, big_evaluated, big_reading, big_leaf, after_exit, big_states, after_oldest, big_takes, big_step, big_parts, big_active}
use Rattle.sd_work.proofs.left_to_right.Leads.{Pays}
use Rattle.sd_confluence.specs.Alike.{how_often}
use Rattle.sd_confluence.proofs.bags.BagMemory.{Frame, Stack, Update, keep, remove, plain, updated, update_by, outer_update, own_update}
use Rattle.sd_confluence.proofs.bags.Values.{same-true, same-refl}
use Rattle.sd_confluence.proofs.bags.Works.{Work, thread, group, scope, nest, basin, Works, no_works, and_work, is_over, all_over, Route, part_number, taking, acting, at_last, put_active, Answer, stops, makes, no_answer, map_answer, leaf_answer, owned_answer, follow, act, act_at, Can, CanAt, CanHere}
use Rattle.sd_confluence.proofs.image.Images.{frame_of, stack_of, remove_found, update_of, work_of, works_of, active_of}
use Rattle.sd_confluence.proofs.image.ImageChanges.{image_change, first_exit-plain, leaf_move-plain}
use Rattle.sd_confluence.proofs.image.NextLinked.{held_image}
use Rattle.sd_pieces.proofs.history_lemmas.Ways.{Goes, stays, moves, plus, count_works, act_plus, can_plus, ready_plus, MayGo, group-goes, plus-assoc, updated-own, IsOwner, owner-goes}
use Rattle.sd_pieces.proofs.history_lemmas.Doing.{term-goes, nest-owner, scope-owner, all_ready, all_more, plus_nothing, at_last-plus, put_same, put_other, basin-goes, AllOver}

-- each next move goes and its turn is there, after at most so many moves none is next, and at least so many turns are left then
abbrev pub Halts : {P : Type 0} → (low : ℕ) → ℕ → Work P → Stack → (turns : ℕ) → Type 0
Halts low zero w s n = (low ≤ n) × ((p : Route) → Can w p s → ⊥)
Halts {P} low (suc k) w s n =
    (low ≤ n) × ((p : Route) → Can w p s → (b : Bool) × (u : Update) × (x : Work P) × (m : ℕ) × (act w p s ≡ makes b u x) × Pays b n m × Halts low k x (updated u s) m)

-- a move that was made from here
record Moved {P : Type 0} (low k : ℕ) (s : Stack) (n : ℕ) (b : Bool) (u : Update) (x : Work P) : Type 0 where
  pub fewer : ℕ
  pub is_less : k ≡ suc fewer
  pub turns : ℕ
  pub pays : Pays b n turns
  pub halts : Halts low fewer x (updated u s) turns

abbrev turn_of : {P A : Type 0} → Bool → Answer P A → Bool
turn_of d (makes b u x) = b
turn_of d (stops b f) = d
turn_of d no_answer = d

abbrev update_in : {P A : Type 0} → Update → Answer P A → Update
update_in d (makes b u x) = u
update_in d (stops b f) = d
update_in d no_answer = d

abbrev left_in : {P A : Type 0} → A → Answer P A → A
left_in d (makes b u x) = x
left_in d (stops b f) = d
left_in d no_answer = d

abbrev Makes : {P A : Type 0} → Answer P A → Type 0
Makes (makes b u x) = ⊤
Makes (stops b f) = ⊥
Makes no_answer = ⊥

moved_by : {P : Type 0} (low k : ℕ) (w : Work P) (s : Stack) (n : ℕ) (p : Route) (b : Bool) (u : Update) (x : Work P) → Halts low k w s n → Can w p s → act w p s ≡ makes b u x → Moved low k s n b u x
moved_by low zero w s n p b u x h c a = elim (h.1 p c) [ ]
moved_by {P} low (suc k) w s n p b u x h c a =
    let r = h.1 p c in
    let e : makes r.0 r.1 r.2 ≡ makes b u x = sym r.4 ∙ a in
    let f : r.0 ≡ b = ap (turn_of b) e in
    let g : r.1 ≡ u = ap (update_in u) e in
    let i : r.2 ≡ x = ap (left_in x) e in
    record {
      fewer = k;
      is_less = refl;
      turns = r.3;
      pays = subst (λ y. Pays y n r.3) f r.5;
      halts = subst (λ y. Halts low k y (updated u s) r.3) i (subst (λ y. Halts low k r.2 (updated y s) r.3) g r.6);
    }

-- no next move stops
never_stops : {P : Type 0} {A : Type 0} (low k : ℕ) (w : Work P) (s : Stack) (n : ℕ) (p : Route) (b : Bool) (f : Fault P) → Halts low k w s n → Can w p s → act w p s ≡ stops b f → A
never_stops low zero w s n p b f h c a = elim (h.1 p c) [ ]
never_stops low (suc k) w s n p b f h c a = let r = h.1 p c in elim (subst Makes (sym r.4 ∙ a) tt) [ ]

pub halts-low : {P : Type 0} (low k : ℕ) (w : Work P) (s : Stack) (n : ℕ) → Halts low k w s n → low ≤ n
halts-low low zero w s n h = h.0
halts-low low (suc k) w s n h = h.0

pays_once : (b : Bool) (n m l : ℕ) → Pays b n m → Pays b n l → m ≡ l
pays_once true n m l p q = omega (arith, p, q)
pays_once false n m l p q = omega (arith, p, q)

-- so it is at the end of moves
pub halts-along : {P : Type 0} {w w' : Work P} {s s' : Stack} {n n' : ℕ} (low k : ℕ) → Halts low k w s n → Goes w s n w' s' n' → (j : ℕ) × (j ≤ k) × Halts low j w' s' n'
halts-along low k h (stays w s n) = (k, omega arith, h)
halts-along low k h (moves w x w' s s' n m n' p b u c a y g) =
    let r = moved_by low k w s n p b u x h c a in
    let q = halts-along low r.fewer (subst (λ i. Halts low r.fewer x (updated u s) i) (pays_once b n r.turns m r.pays y) r.halts) g in
    (q.0, (let e = r.is_less in let f = q.1 in omega arith), q.2)

-- ---- a part and an owner

record Mapped {P A B : Type 0} (f : A → B) (m : Answer P A) (b : Bool) (u : Update) (y : B) : Type 0 where
  pub left : A
  pub is_made : m ≡ makes b u left
  pub is_left : f left ≡ y

from_map : {P A B : Type 0} (f : A → B) (m : Answer P A) (b : Bool) (u : Update) (y : B) → map_answer f m ≡ makes b u y → Mapped f m b u y
from_map f (makes c v x) b u y e = record { left = x; is_made = (λ i. makes (ap (turn_of b) e i) (ap (update_in u) e i) x); is_left = ap (left_in y) e }
from_map f (stops c v) b u y e = elim (subst Makes (sym e) tt) [ ]
from_map f no_answer b u y e = elim (subst Makes (sym e) tt) [ ]

record Owned {P : Type 0} (make : Frame → Work P → Work P) (f : Frame) (m : Answer P (Work P)) (b : Bool) (u : Update) (y : Work P) : Type 0 where
  pub inside : Update
  pub left : Work P
  pub is_made : m ≡ makes b inside left
  pub is_update : outer_update inside ≡ u
  pub is_left : make (own_update inside f) left ≡ y

from_owned : {P : Type 0} (make : Frame → Work P → Work P) (f : Frame) (m : Answer P (Work P)) (b : Bool) (u : Update) (y : Work P) → owned_answer make f m ≡ makes b u y → Owned make f m b u y
from_owned make f (makes c v x) b u y e =
    record { inside = v; left = x; is_made = ap (λ d. makes d v x) (ap (turn_of b) e); is_update = ap (update_in u) e; is_left = ap (left_in y) e }
from_owned make f (stops c v) b u y e = elim (subst Makes (sym e) tt) [ ]
from_owned make f no_answer b u y e = elim (subst Makes (sym e) tt) [ ]

pub halts-part : {P : Type 0} (before : ℕ → ℕ → Bool) → IsOrder before → (pre post : Works P) → MayGo before pre → (low k : ℕ) (t : Work P) (s : Stack) (n : ℕ) → Halts low k (group before (plus pre (and_work t post))) s n → Halts low k t s n
halts-part before o pre post r low zero t s n h =
    (h.0, λ p c. h.1 (part_number (count_works pre) ∷ p) (ready_plus before o pre (and_work t post) 0 (count_works pre) (omega arith) r, can_plus pre post t p s c))
halts-part before o pre post r low (suc k) t s n h = (
  h.0,
  λ p c.
      let q = h.1 (part_number (count_works pre) ∷ p) (ready_plus before o pre (and_work t post) 0 (count_works pre) (omega arith) r, can_plus pre post t p s c) in
      let a = from_map (group before) (act_at (plus pre (and_work t post)) (count_works pre) p s) q.0 q.1 q.2 q.4 in
      let b = from_map (λ x. plus pre (and_work x post)) (act t p s) q.0 q.1 a.left (sym (act_plus pre post t p s) ∙ a.is_made) in (
        q.0,
        q.1,
        b.left,
        q.3,
        b.is_made,
        q.5,
        halts-part before o pre post r low k b.left (updated q.1 s) q.3 (subst (λ y. Halts low k y (updated q.1 s) q.3) (sym (ap (group before) b.is_left ∙ a.is_left)) q.6),
      ),
)

pub halts-owner : {P : Type 0} (make : Frame → Work P → Work P) → IsOwner make → (low k : ℕ) (f : Frame) (t : Work P) (s : Stack) (n : ℕ) → Halts low k (make f t) s n → Halts low k t (f ∷ s) n
halts-owner make o low zero f t s n h = (h.0, λ p c. h.1 p (o.cans f t p s c))
halts-owner make o low (suc k) f t s n h = (
  h.0,
  λ p c.
      let q = h.1 p (o.cans f t p s c) in
      let a = from_owned make f (act t p (f ∷ s)) q.0 q.1 q.2 (sym (o.acts f t p s c) ∙ q.4) in
      let there : Halts low k (make (own_update a.inside f) a.left) (updated (outer_update a.inside) s) q.3 =
      subst (λ v. Halts low k (make (own_update a.inside f) a.left) (updated v s) q.3) (sym a.is_update) (subst (λ y. Halts low k y (updated q.1 s) q.3) (sym a.is_left) q.6) in (
        q.0,
        a.inside,
        a.left,
        q.3,
        a.is_made,
        q.5,
        subst (λ z. Halts low k a.left z q.3) (sym (updated-own a.inside f s)) (halts-owner make o low k (own_update a.inside f) a.left (updated (outer_update a.inside) s) q.3 there),
      ),
)

pub halts-basin : {P : Type 0} (l c : ℕ) (body : ℤ → Work P) (v : ℤ) (pre post : Works P) (low k : ℕ) (t : Work P) (s : Stack) (n : ℕ) (active : ℤ → Works P) → active v ≡ plus pre (and_work t post) →
    Halts low k (basin l c body active false) s n → Halts low k t s n
halts-basin l c body v pre post low zero t s n active e h =
    (h.0, λ p k. h.1 (acting v (count_works pre) ∷ p) (refl, subst (λ ts. CanAt ts (count_works pre) p s) (sym e) (can_plus pre post t p s k)))
halts-basin l c body v pre post low (suc k) t s n active e h = (
  h.0,
  λ p d.
      let q = h.1 (acting v (count_works pre) ∷ p) (refl, subst (λ ts. CanAt ts (count_works pre) p s) (sym e) (can_plus pre post t p s d)) in
      let a = from_map (λ ts. basin l c body (put_active v ts active) false) (act_at (active v) (count_works pre) p s) q.0 q.1 q.2 q.4 in
      let b = from_map (λ x. plus pre (and_work x post)) (act t p s) q.0 q.1 a.left (sym (ap (λ ts. act_at ts (count_works pre) p s) e ∙ act_plus pre post t p s) ∙ a.is_made) in (
        q.0,
        q.1,
        b.left,
        q.3,
        b.is_made,
        q.5,
        halts-basin l c body v pre post low k b.left (updated q.1 s) q.3 (put_active v a.left active) (put_same v a.left active ∙ sym b.is_left)
            (subst (λ y. Halts low k y (updated q.1 s) q.3) (sym a.is_left) q.6),
      ),
)

-- ---- ends

-- with enough transitions and takes allowed, all is done
pub record Comes {P : Type 0} (f : ℕ → Coming P) : Type 0 where
  pub least : ℕ
  pub memories : Memories
  pub turns : ℕ
  pub done : (most : ℕ) → least ≤ most → f most ≡ reached memories turns

abbrev most_of : ℕ → ℕ → ℕ
most_of zero b = b
most_of (suc a) zero = suc a
most_of (suc a) (suc b) = suc (most_of a b)

most_left : (a b c : ℕ) → most_of a b ≤ c → a ≤ c
most_left zero b c h = omega arith
most_left (suc a) zero c h = h
most_left (suc a) (suc b) zero h = absurd (omega arith)
most_left (suc a) (suc b) (suc c) h = let k : a ≤ c = most_left a b c (omega arith) in omega arith

most_right : (a b c : ℕ) → most_of a b ≤ c → b ≤ c
most_right zero b c h = h
most_right (suc a) zero c h = omega arith
most_right (suc a) (suc b) zero h = absurd (omega arith)
most_right (suc a) (suc b) (suc c) h = let k : b ≤ c = most_right a b c (omega arith) in omega arith

abbrev comes-then : {P : Type 0} (f : ℕ → Coming P) (g : ℕ → Memories → ℕ → Coming P) → (a : Comes f) → Comes (λ most. g most a.memories a.turns) → Comes (λ most. and_then (f most) (g most))
comes-then f g a b =
    record {
      least = most_of a.least b.least;
      memories = b.memories;
      turns = b.turns;
      done = λ most up. ap (λ c. and_then c (g most)) (a.done most (most_left a.least b.least most up)) ∙ b.done most (most_right a.least b.least most up);
    }

abbrev comes-at : {P : Type 0} (f : ℕ → Coming P) (s : Memories) (n : ℕ) → ((most : ℕ) → f most ≡ reached s n) → Comes f
comes-at f s n h = record { least = 0; memories = s; turns = n; done = λ most up. h most }

comes-as : {P : Type 0} (f g : ℕ → Coming P) → ((most : ℕ) → g most ≡ f most) → Comes f → Comes g
comes-as f g e a = record { least = a.least; memories = a.memories; turns = a.turns; done = λ most up. e most ∙ a.done most up }

turn_spent : {P : Type 0} (b : Bool) (n m : ℕ) (f : ℕ → Coming P) → Pays b n m → spend (Some Spent) b n f ≡ f m
turn_spent true zero m f p = absurd (omega (arith, p))
turn_spent true (suc n) m f p = let e : n ≡ m = omega (arith, p) in ap f e
turn_spent false n m f p = ap f p

-- ---- instances, copies and reductions

leaf-act : {P : Type 0} (place : P) (work : Leaf) (s : Memories) → act (thread place work) [] (stack_of s) ≡ map_answer (thread place) (leaf_answer (leaf_move place work s))
leaf-act place work s = ap (λ m. map_answer (thread place) (leaf_answer m)) (leaf_move-plain place work s)

leaf-moved : {P : Type 0} (low k : ℕ) (place : P) (work left : Leaf) (s : Memories) (n : ℕ) (b : Bool) (u : Change) → is_done work ≡ false → leaf_move place work s ≡ goes b u left → update_by u ≡ update_of u s →
    Halts low k (thread place work) (stack_of s) n → (j : ℕ) × (m : ℕ) × Pays b n m × Halts low j (thread place left) (stack_of (apply u s)) m
leaf-moved low k place work left s n b u d e same h =
    let r = moved_by low k (thread place work) (stack_of s) n [] b (update_by u) (thread place left) h (d, refl) (leaf-act place work s ∙ ap (λ m. map_answer (thread place) (leaf_answer m)) e) in
    (r.fewer, r.turns, r.pays, subst (λ z. Halts low r.fewer (thread place left) z r.turns) (ap (λ v. updated v (stack_of s)) same ∙ sym (image_change u s)) r.halts)

leaf-never : {P : Type 0} {A : Type 0} (low k : ℕ) (place : P) (work : Leaf) (s : Memories) (n : ℕ) (b : Bool) (f : Fault P) → is_done work ≡ false → leaf_move place work s ≡ fails b f → Halts low k (thread place work) (stack_of s) n → A
leaf-never low k place work s n b f d e h =
    never_stops low k (thread place work) (stack_of s) n [] b f h (d, refl) (leaf-act place work s ∙ ap (λ m. map_answer (thread place) (leaf_answer m)) e)

-- what a leaf comes to does not hang on what is allowed
abbrev Ended : {P : Type 0} → Coming P → Type 0
Ended c = (s : Memories) × (n : ℕ) × (c ≡ reached s n)

ended-as : {P : Type 0} (c d : Coming P) → c ≡ d → Ended d → Ended c
ended-as c d e h = (h.0, h.1, e ∙ h.2)

transfer-ends : {P : Type 0} (low k : ℕ) (place : P) (from to : Option Reference) (by : Option Resolution) (left : List Pending) (s : Memories) (n : ℕ) (o : Option ℤ) → seen from s ≡ o →
    Halts low k (thread place (doing (transfer from to by ∷ left))) (stack_of s) n →
    ((j : ℕ) (s : Memories) (n : ℕ) → Halts low j (thread place (doing left)) (stack_of s) n → Ended (big_doing place left s n)) → Ended (after_move (write_move place o to by left) s n (big_doing place left))
transfer-ends low k place from to by left s n None e h rest = leaf-never low k place (doing (transfer from to by ∷ left)) s n _ _ refl (ap (λ o. write_move place o to by left) e) h
transfer-ends low k place from None by left s n (Some v) e h rest = leaf-never low k place (doing (transfer from None by ∷ left)) s n _ _ refl (ap (λ o. write_move place o None by left) e) h
transfer-ends low k place from (Some to) by left s n (Some v) e h rest =
    let r = leaf-moved low k place (doing (transfer from (Some to) by ∷ left)) (doing left) s n false (write to by v) refl (ap (λ o. write_move place o (Some to) by left) e) refl h in
    ended-as _ _ (ap (big_doing place left (apply (write to by v) s)) r.2) (rest r.0 (apply (write to by v) s) r.1 r.3)

doing-ends : {P : Type 0} (low k : ℕ) (place : P) (left : List Pending) (s : Memories) (n : ℕ) → Halts low k (thread place (doing left)) (stack_of s) n → Ended (big_doing place left s n)
doing-ends low k place [] s n h = (s, n, refl)
doing-ends low k place (write_value v None by ∷ left) s n h = leaf-never low k place (doing (write_value v None by ∷ left)) s n _ _ refl refl h
doing-ends low k place (write_value v (Some to) by ∷ left) s n h =
    let r = leaf-moved low k place (doing (write_value v (Some to) by ∷ left)) (doing left) s n false (write to by v) refl refl refl h in
    ended-as _ _ (ap (big_doing place left (apply (write to by v) s)) r.2) (doing-ends low r.0 place left (apply (write to by v) s) r.1 r.3)
doing-ends low k place (transfer from to by ∷ left) s n h = transfer-ends low k place from to by left s n (seen from s) refl h (λ j s n i. doing-ends low j place left s n i)
doing-ends low k place (push_to l c v ∷ left) s n h =
    let r = leaf-moved low k place (doing (push_to l c v ∷ left)) (doing left) s n false (push l c v) refl refl refl h in
    ended-as _ _ (ap (big_doing place left (apply (push l c v) s)) r.2) (doing-ends low r.0 place left (apply (push l c v) s) r.1 r.3)

evaluated-ends : {P : Type 0} (low k : ℕ) (place : P) (begun : Bool) (values : List ℤ) (evaluation : Evaluation) (s : Memories) (n : ℕ) (given : Result (List Pending) FaultKind) → evaluation values ≡ given →
    Halts low k (thread place (reading begun [] values evaluation)) (stack_of s) n → Ended (big_evaluated place (not begun) given s n)
evaluated-ends low k place begun values evaluation s n (Err kind) e h = leaf-never low k place (reading begun [] values evaluation) s n _ _ refl (ap (evaluation_move place (not begun)) e) h
evaluated-ends low k place begun values evaluation s n (Ok effects) e h =
    let r = leaf-moved low k place (reading begun [] values evaluation) (doing effects) s n (not begun) nothing refl (ap (evaluation_move place (not begun)) e) refl h in
    ended-as _ _ (turn_spent (not begun) n r.1 (big_doing place effects s) r.2) (doing-ends low r.0 place effects s r.1 r.3)

read-ends : {P : Type 0} (low k : ℕ) (place : P) (begun : Bool) (next : Option Reference) (left : List (Option Reference)) (values : List ℤ) (evaluation : Evaluation) (s : Memories) (n : ℕ) (o : Option ℤ) → seen next s ≡ o →
    Halts low k (thread place (reading begun (next ∷ left) values evaluation)) (stack_of s) n →
    ((j : ℕ) (values : List ℤ) (n : ℕ) → Halts low j (thread place (reading true left values evaluation)) (stack_of s) n → Ended (big_reading place false left values evaluation s n)) →
    Ended (after_read place (not begun) o n (λ value. big_reading place false left (values ++ value ∷ []) evaluation s))
read-ends low k place begun next left values evaluation s n None e h rest =
    leaf-never low k place (reading begun (next ∷ left) values evaluation) s n _ _ refl (ap (λ o. read_move place (not begun) o left values evaluation) e) h
read-ends low k place begun next left values evaluation s n (Some v) e h rest =
    let r = leaf-moved low k place (reading begun (next ∷ left) values evaluation) (reading true left (values ++ v ∷ []) evaluation) s n (not begun) nothing refl (ap (λ o. read_move place (not begun) o left values evaluation) e) refl h in
    ended-as _ _ (turn_spent (not begun) n r.1 (big_reading place false left (values ++ v ∷ []) evaluation s) r.2) (rest r.0 (values ++ v ∷ []) r.1 r.3)

reading-ends : {P : Type 0} (low k : ℕ) (place : P) (begun : Bool) (left : List (Option Reference)) (values : List ℤ) (evaluation : Evaluation) (s : Memories) (n : ℕ) →
    Halts low k (thread place (reading begun left values evaluation)) (stack_of s) n → Ended (big_reading place (not begun) left values evaluation s n)
reading-ends low k place begun [] values evaluation s n h = evaluated-ends low k place begun values evaluation s n (evaluation values) refl h
reading-ends low k place begun (next ∷ left) values evaluation s n h =
    read-ends low k place begun next left values evaluation s n (seen next s) refl h (λ j values n i. reading-ends low j place true left values evaluation s n i)

leaf-ends : {P : Type 0} (low k : ℕ) (place : P) (work : Leaf) (s : Memories) (n : ℕ) → Halts low k (thread place work) (stack_of s) n → Ended (big_leaf place work s n)
leaf-ends low k place (reading begun left values evaluation) s n h = reading-ends low k place begun left values evaluation s n h
leaf-ends low k place (doing left) s n h = doing-ends low k place left s n h

-- ---- terms

-- work of this image that halts comes to an end
abbrev WillCome : {P : Type 0} → Term P → Type 0
WillCome t = (low k : ℕ) (s : Memories) (n : ℕ) → Halts low k (work_of t) (stack_of s) n → Comes (λ most. big_step t most s n)

abbrev WillAllCome : {P : Type 0} → Actives P → Type 0
WillAllCome idle = ⊤
WillAllCome (busy value part active) = WillCome part × WillAllCome active

-- a term that came to an end, by its moves
pub record ByMoves {P : Type 0} (t : Term P) (s s' : Memories) (n n' : ℕ) : Type 0 where
  pub left : Work P
  pub goes : Goes (work_of t) (stack_of s) n left (stack_of s') n'
  pub is_over : is_over left ≡ true

pub by-moves : {P : Type 0} (t : Term P) → IsOrdered t → (s : Memories) (n : ℕ) → (a : Comes (λ most. big_step t most s n)) → ByMoves t s a.memories n a.turns
by-moves t f s n a = let r = term-goes t f a.least s a.memories n a.turns (a.done a.least (omega arith)) in record { left = r.0; goes = r.1; is_over = r.2 }

-- the states of a run, with so many transitions and so much inside of each state allowed
record StatesCome {P : Type 0} (f : ℕ → ℕ → Coming P) : Type 0 where
  pub least : ℕ
  pub memories : Memories
  pub turns : ℕ
  pub done : (most all : ℕ) → least ≤ most → least ≤ all → f most all ≡ reached memories turns

suc_of : (n : ℕ) → 1 ≤ n → (m : ℕ) × (n ≡ suc m)
suc_of zero h = absurd (omega arith)
suc_of (suc n) h = (n, refl)

nest-over : {P : Type 0} (body : ℕ → Values → Work P) (exits : ℕ → Values → List (Exit P)) (f : Frame) (state : ℕ) (values : Values) (t : Work P) (s : Stack) (z : Memories) → stack_of z ≡ f ∷ s → is_over t ≡ true →
    act (nest body exits f state values t) [] s ≡ follow body exits f (first_exit (exits state values) z)
nest-over body exits f state values t s z e o =
    ap (λ b. cond b (follow body exits f (first_exit (exits state values) (plain (f ∷ s)))) (owned_answer (λ g x. nest body exits g state values x) f (act t [] (f ∷ s)))) o
    ∙ ap (follow body exits f) (ap (λ k. first_exit (exits state values) (plain k)) (sym e) ∙ first_exit-plain (exits state values) z)

can-leave : {P : Type 0} (body : ℕ → Values → Work P) (exits : ℕ → Values → List (Exit P)) (f : Frame) (state : ℕ) (values : Values) (t : Work P) (s : Stack) → is_over t ≡ true → Can (nest body exits f state values t) [] s
can-leave body exits f state values t s o = subst (λ b. CanHere b [] (Can t [] (f ∷ s))) (sym o) refl

-- the states that follow come to their ends, from each place where fewer moves are left
abbrev LaterCome : {P : Type 0} → (body : ℕ → Values → Term P) → (ℕ → Values → List (Exit P)) → (low k : ℕ) → Type 0
LaterCome {P} body exits low k =
    (j : ℕ) → j < k → (state : ℕ) (values : Values) (t : Work P) → is_over t ≡ true → (z : Memories) (n : ℕ) (f : Frame) (s : Stack) → stack_of z ≡ f ∷ s →
    Halts low j (nest (λ k e. work_of (body k e)) exits f state values t) s n → StatesCome (λ most all. big_states most (λ state values. big_step (body state values) all) exits state values z n)

state-comes : {P : Type 0} (body : ℕ → Values → Term P) (exits : ℕ → Values → List (Exit P)) → ((state : ℕ) (values : Values) → WillCome (body state values)) → ((state : ℕ) (values : Values) → IsOrdered (body state values)) →
    (low k : ℕ) → LaterCome body exits low k → (state : ℕ) (values : Values) (t : Work P) → is_over t ≡ true → (z : Memories) (n : ℕ) (f : Frame) (s : Stack) → stack_of z ≡ f ∷ s →
    Halts low k (nest (λ k e. work_of (body k e)) exits f state values t) s n → StatesCome (λ most all. big_states most (λ state values. big_step (body state values) all) exits state values z n)
state-comes {P} body exits ih ordered low k later state values t o z n f s e h = on (first_exit (exits state values) z) refl
  where
    inside : ℕ → Values → Work P
    inside k v = work_of (body k v)

    now : Work P
    now = nest inside exits f state values t

    run : ℕ → ℕ → Values → Memories → ℕ → Coming P
    run all state values = big_step (body state values) all

    rest : ℕ → ℕ → Exit P → ℕ → Coming P
    rest most all exit n = and_then (run all exit.state exit.values z n) (big_states most (run all) exits exit.state exit.values)

    answers : (r : Result (Option (Exit P)) (Fault P)) → first_exit (exits state values) z ≡ r → act now [] s ≡ follow inside exits f r
    answers r q = nest-over inside exits f state values t s z e o ∙ ap (follow inside exits f) q

    one-more : (r : Result (Option (Exit P)) (Fault P)) → first_exit (exits state values) z ≡ r → (most all l : ℕ) → most ≡ suc l → big_states most (run all) exits state values z n ≡ after_exit r z n (rest l all)
    one-more r q most all l i = ap (λ m. big_states m (run all) exits state values z n) i ∙ ap (λ x. after_exit x z n (rest l all)) q

    on : (r : Result (Option (Exit P)) (Fault P)) → first_exit (exits state values) z ≡ r → StatesCome (λ most all. big_states most (run all) exits state values z n)
    on (Err fault) q = never_stops low k now s n [] false fault h (can-leave inside exits f state values t s o) (answers (Err fault) q)
    on (Ok None) q =
        record {
          least = 1;
          memories = z;
          turns = n;
          done = λ most all up in_it. let l = suc_of most up in one-more (Ok None) q most all l.0 l.1;
        }
    on (Ok (Some exit)) q =
        let m = moved_by low k now s n [] exit.marked keep (nest inside exits f exit.state exit.values (inside exit.state exit.values)) h (can-leave inside exits f state values t s o) (answers (Ok (Some exit)) q) in
        let a = ih exit.state exit.values low m.fewer z m.turns
        (subst (λ y. Halts low m.fewer (inside exit.state exit.values) y m.turns) (sym e)
        (halts-owner (λ f t. nest inside exits f exit.state exit.values t) (nest-owner inside exits exit.state exit.values) low m.fewer f (inside exit.state exit.values) s m.turns m.halts)) in
        let b = by-moves (body exit.state exit.values) (ordered exit.state exit.values) z m.turns a in
        let g = owner-goes (λ f t. nest inside exits f exit.state exit.values t) (nest-owner inside exits exit.state exit.values) b.goes f s e in
        let i = halts-along low m.fewer m.halts g.3 in
        let c = later i.0 (let x = i.1 in let y = m.is_less in omega arith) exit.state exit.values b.left b.is_over a.memories a.turns g.0 g.1 g.2 i.2 in
        record {
          least = suc (most_of a.least c.least);
          memories = c.memories;
          turns = c.turns;
          done = λ most all up in_it.
              let l = suc_of most (omega (arith, up)) in
              one-more (Ok (Some exit)) q most all l.0 l.1
              ∙ turn_spent exit.marked n m.turns (rest l.0 all exit) m.pays
              ∙ ap (λ x. and_then x (big_states l.0 (run all) exits exit.state exit.values)) (a.done all (most_left a.least c.least all (omega (arith, in_it))))
              ∙ c.done l.0 all (most_right a.least c.least l.0 (let x = l.1 in omega (arith, up))) (most_right a.least c.least all (omega (arith, in_it)));
        }

states-come : {P : Type 0} (body : ℕ → Values → Term P) (exits : ℕ → Values → List (Exit P)) → ((state : ℕ) (values : Values) → WillCome (body state values)) → ((state : ℕ) (values : Values) → IsOrdered (body state values)) →
    (low bound k : ℕ) → k ≤ bound → (state : ℕ) (values : Values) (t : Work P) → is_over t ≡ true → (z : Memories) (n : ℕ) (f : Frame) (s : Stack) → stack_of z ≡ f ∷ s →
    Halts low k (nest (λ k e. work_of (body k e)) exits f state values t) s n → StatesCome (λ most all. big_states most (λ state values. big_step (body state values) all) exits state values z n)
states-come body exits ih ordered low zero k up = state-comes body exits ih ordered low k (λ j less. absurd (omega arith))
states-come body exits ih ordered low (suc bound) k up = state-comes body exits ih ordered low k (λ j less. states-come body exits ih ordered low bound j (omega arith))

-- ---- pools

-- the takes that follow come to their end
abbrev LaterTakes : {P : Type 0} → (l c : ℕ) → (body : ℤ → Term P) → (low k : ℕ) → Type 0
LaterTakes {P} l c body low k =
    (j : ℕ) → j < k → (active : ℤ → Works P) → AllOver active → (s : Memories) (n : ℕ) → Halts low j (basin l c (λ v. work_of (body v)) active false) (stack_of s) n →
    StatesCome (λ most all. big_takes most l c (λ value. big_step (body value) all) s n)

take-then : {P : Type 0} (l c : ℕ) (run : ℕ → ℤ → Memories → ℕ → Coming P) (v : ℤ) (values : List ℤ) (s : Memories) (n m : ℕ) → waiting l c s ≡ v ∷ values → n ≡ m →
    (a : Comes (λ all. run all v (apply (take l c 0) s) m)) → StatesCome (λ most all. big_takes most l c (run all) a.memories a.turns) → StatesCome (λ most all. big_takes most l c (run all) s n)
take-then {P} l c run v values s n m q same a d =
    record {
      least = suc (most_of a.least d.least);
      memories = d.memories;
      turns = d.turns;
      done = λ most all up in_it. let o = suc_of most (omega (arith, up)) in on most o.0 all o.1 up in_it;
    }
  where
    on : (most o all : ℕ) → most ≡ suc o → suc (most_of a.least d.least) ≤ most → suc (most_of a.least d.least) ≤ all → big_takes most l c (run all) s n ≡ reached d.memories d.turns
    on most o all e up in_it =
        let first : big_takes most l c (run all) s n ≡ and_then (run all v (apply (take l c 0) s) n) (big_takes o l c (run all)) =
        ap (λ m. big_takes m l c (run all) s n) e ∙ ap (λ x. after_oldest x s n (λ value. and_then (run all value (apply (take l c 0) s) n) (big_takes o l c (run all)))) q in
        let second : and_then (run all v (apply (take l c 0) s) n) (big_takes o l c (run all)) ≡ and_then (run all v (apply (take l c 0) s) m) (big_takes o l c (run all)) =
        ap (λ x. and_then (run all v (apply (take l c 0) s) x) (big_takes o l c (run all))) same in
        let third : and_then (run all v (apply (take l c 0) s) m) (big_takes o l c (run all)) ≡ big_takes o l c (run all) a.memories a.turns =
        ap (λ x. and_then x (big_takes o l c (run all))) (a.done all (most_left a.least d.least all (omega (arith, in_it)))) in
        first ∙ second ∙ third ∙ d.done o all (most_right a.least d.least o (omega (arith, up, e))) (most_right a.least d.least all (omega (arith, in_it)))

take-comes : {P : Type 0} (l c : ℕ) (body : ℤ → Term P) → ((value : ℤ) → WillCome (body value)) → ((value : ℤ) → IsOrdered (body value)) → (low k : ℕ) → LaterTakes l c body low k → (active : ℤ → Works P) → AllOver active → (s : Memories) (n : ℕ) →
    Halts low k (basin l c (λ v. work_of (body v)) active false) (stack_of s) n → StatesCome (λ most all. big_takes most l c (λ value. big_step (body value) all) s n)
take-comes {P} l c body ih ordered low k later active all s n h = on (waiting l c s) refl
  where
    inside : ℤ → Work P
    inside v = work_of (body v)

    run : ℕ → ℤ → Memories → ℕ → Coming P
    run all value = big_step (body value) all

    rest : ℕ → ℕ → ℤ → Coming P
    rest most all value = and_then (run all value (apply (take l c 0) s) n) (big_takes most l c (run all))

    one-more : (values : List ℤ) → waiting l c s ≡ values → (most all l' : ℕ) → most ≡ suc l' → big_takes most l c (run all) s n ≡ after_oldest values s n (rest l' all)
    one-more values q most all l' i = ap (λ m. big_takes m l c (run all) s n) i ∙ ap (λ x. after_oldest x s n (rest l' all)) q

    on : (values : List ℤ) → waiting l c s ≡ values → StatesCome (λ most all. big_takes most l c (run all) s n)
    on [] q =
        record {
          least = 1;
          memories = s;
          turns = n;
          done = λ most all up in_it. let i = suc_of most up in one-more [] q most all i.0 i.1;
        }
    on (v ∷ values) q =
        let next : ℤ → Works P = put_active v (at_last (active v) (inside v)) active in
        let m = moved_by low k (basin l c inside active false) (stack_of s) n (taking v ∷ []) false (remove l c v) (basin l c inside next false) h
        (refl, refl, (how_often values v, held_image l c v s ∙ ap (λ values. how_often values v) q ∙ ap (λ b. cond b (suc (how_often values v)) (how_often values v)) (same-refl v))) refl in
        let there : Halts low m.fewer (basin l c inside next false) (stack_of (apply (take l c 0) s)) m.turns =
        subst (λ z. Halts low m.fewer (basin l c inside next false) z m.turns) (sym (image_change (take l c 0) s ∙ ap (λ values. updated (remove_found l c (slice_get values 0)) (stack_of s)) q)) m.halts in
        let here : next v ≡ plus (active v) (and_work (inside v) no_works) = put_same v (at_last (active v) (inside v)) active ∙ at_last-plus (active v) (inside v) in
        let a = ih v low m.fewer (apply (take l c 0) s) m.turns (halts-basin l c inside v (active v) no_works low m.fewer (inside v) (stack_of (apply (take l c 0) s)) m.turns next here there) in
        let b = by-moves (body v) (ordered v) (apply (take l c 0) s) m.turns a in
        let g = basin-goes l c inside v (active v) no_works b.goes next here in
        let over' : AllOver g.0 = λ w. each g.0 b.left g.1 (λ z f. g.2 z f ∙ put_other v z (at_last (active v) (inside v)) active f) b.is_over w (int_eq v w) refl in
        let i = halts-along low m.fewer there g.3 in
        let d = later i.0 (let x = i.1 in let y = m.is_less in omega arith) g.0 over' a.memories a.turns i.2 in
        take-then l c run v values s n m.turns q m.pays a d
      where
        each : (now : ℤ → Works P) (w : Work P) → now v ≡ plus (active v) (and_work w no_works) → ((z : ℤ) → int_eq v z ≡ false → now z ≡ active z) → is_over w ≡ true → (z : ℤ) (b : Bool) → int_eq v z ≡ b → all_over (now z) ≡ true
        each now w here others o z true e = subst (λ x. all_over (now x) ≡ true) (same-true v z e) (ap all_over here ∙ all_more (active v) w (all v) o)
        each now w here others o z false e = ap all_over (others z e) ∙ all z

takes-come : {P : Type 0} (l c : ℕ) (body : ℤ → Term P) → ((value : ℤ) → WillCome (body value)) → ((value : ℤ) → IsOrdered (body value)) → (low bound k : ℕ) → k ≤ bound → (active : ℤ → Works P) → AllOver active → (s : Memories) (n : ℕ) →
    Halts low k (basin l c (λ v. work_of (body v)) active false) (stack_of s) n → StatesCome (λ most all. big_takes most l c (λ value. big_step (body value) all) s n)
takes-come l c body ih ordered low zero k up = take-comes l c body ih ordered low k (λ j less. absurd (omega arith))
takes-come l c body ih ordered low (suc bound) k up = take-comes l c body ih ordered low k (λ j less. takes-come l c body ih ordered low bound j (omega arith))

-- active works that came to their ends, and what the pool is then
record ActiveCame {P : Type 0} (l c : ℕ) (body : ℤ → Work P) (active : Actives P) (low k : ℕ) (s : Memories) (n : ℕ) : Type 0 where
  pub comes : Comes (λ most. big_active active most s n)
  pub now : ℤ → Works P
  pub all_over_now : AllOver now
  pub left : ℕ
  pub halts : Halts low left (basin l c body now false) (stack_of comes.memories) comes.turns

active-comes : {P : Type 0} (l c : ℕ) (body : ℤ → Work P) (active : Actives P) → WillAllCome active → AreActiveOrdered active → (front : ℤ → Works P) → AllOver front → (now : ℤ → Works P) → ((w : ℤ) → now w ≡ plus (front w) (active_of active w)) →
    (low k : ℕ) (s : Memories) (n : ℕ) → Halts low k (basin l c body now false) (stack_of s) n → ActiveCame l c body active low k s n
active-comes l c body idle ih f front a now e low k s n h =
    record { comes = comes-at (λ most. reached s n) s n (λ most. refl); now = now; all_over_now = λ w. ap all_over (e w ∙ plus_nothing (front w)) ∙ a w; left = k; halts = h }
active-comes {P} l c body (busy v part active) ih f front a now e low k s n h =
    let here : now v ≡ plus (front v) (and_work (work_of part) (active_of active v)) = e v ∙ ap (λ b. plus (front v) (cond b (and_work (work_of part) (active_of active v)) (active_of active v))) (same-refl v) in
    let x = ih.0 low k s n (halts-basin l c body v (front v) (active_of active v) low k (work_of part) (stack_of s) n now here h) in
    let r = by-moves part f.0 s n x in
    let g = basin-goes l c body v (front v) (active_of active v) r.goes now here in
    let i = halts-along low k h g.3 in
    let front' : ℤ → Works P = λ w. cond (int_eq v w) (plus (front w) (and_work r.left no_works)) (front w) in
    let q = active-comes l c body active ih.1 f.1 front' (λ w. still r.left r.is_over w (int_eq v w)) g.0 (λ w. stands g.0 r.left g.1 g.2 w (int_eq v w) refl) low i.0 x.memories x.turns i.2 in
    record { comes = comes-then (λ most. big_step part most s n) (λ most. big_active active most) x q.comes; now = q.now; all_over_now = q.all_over_now; left = q.left; halts = q.halts }
  where
    still : (x : Work P) → is_over x ≡ true → (w : ℤ) (b : Bool) → all_over (cond b (plus (front w) (and_work x no_works)) (front w)) ≡ true
    still x o w true = all_more (front w) x (a w) o
    still x o w false = a w

    stands : (now' : ℤ → Works P) (x : Work P) → now' v ≡ plus (front v) (and_work x (active_of active v)) → ((w : ℤ) → int_eq v w ≡ false → now' w ≡ now w) → (w : ℤ) (b : Bool) → int_eq v w ≡ b →
        now' w ≡ plus (cond (int_eq v w) (plus (front w) (and_work x no_works)) (front w)) (active_of active w)
    stands now' x here others w true q =
        subst (λ z. now' z ≡ plus (plus (front z) (and_work x no_works)) (active_of active z)) (same-true v w q) (here ∙ sym (plus-assoc (front v) x (active_of active v)))
        ∙ ap (λ b. plus (cond b (plus (front w) (and_work x no_works)) (front w)) (active_of active w)) (sym q)
    stands now' x here others w false q =
        others w q ∙ e w ∙ ap (λ b. plus (front w) (cond b (and_work (work_of part) (active_of active w)) (active_of active w))) q
        ∙ ap (λ b. plus (cond b (plus (front w) (and_work x no_works)) (front w)) (active_of active w)) (sym q)

-- ---- terms

abbrev comes-both : {P : Type 0} (f : ℕ → Coming P) (g : ℕ → ℕ → Memories → ℕ → Coming P) → (a : Comes f) → StatesCome (λ most all. g most all a.memories a.turns) → Comes (λ most. and_then (f most) (g most most))
comes-both f g a b =
    record {
      least = most_of a.least b.least;
      memories = b.memories;
      turns = b.turns;
      done = λ most up. ap (λ c. and_then c (g most most)) (a.done most (most_left a.least b.least most up)) ∙ b.done most most (most_right a.least b.least most up) (most_right a.least b.least most up);
    }

mutual
  -- ordered work whose image halts comes to an end from left to right
  pub term-comes : {P : Type 0} (t : Term P) → IsOrdered t → (low k : ℕ) (s : Memories) (n : ℕ) → Halts low k (work_of t) (stack_of s) n → Comes (λ most. big_step t most s n)
  term-comes (leaf place work) f low k s n h = let r = leaf-ends low k place work s n h in comes-at (λ most. big_leaf place work s n) r.0 r.1 (λ most. r.2)
  term-comes (list kind before parts) f low k s n h = parts-come before f.0 parts f.1 no_works refl low k s n h
  term-comes (owning own part) f low k s n h =
      let a = term-comes part f low k (own ∷ s) n (halts-owner scope scope-owner low k (frame_of own) (work_of part) (stack_of s) n h) in
      comes-then (λ most. big_step part most (own ∷ s) n) (λ most z m. reached (drop 1 z) m) a (comes-at (λ most. reached (drop 1 a.memories) a.turns) (drop 1 a.memories) a.turns (λ most. refl))
  term-comes {P} (nested body exits own state values part) f low k s n h =
      let inside : ℕ → Values → Work P = λ k e. work_of (body k e) in
      let owner = nest-owner inside exits state values in
      let a = term-comes part f.0 low k (own ∷ s) n (halts-owner (λ f t. nest inside exits f state values t) owner low k (frame_of own) (work_of part) (stack_of s) n h) in
      let b = by-moves part f.0 (own ∷ s) n a in
      let g = owner-goes (λ f t. nest inside exits f state values t) owner b.goes (frame_of own) (stack_of s) refl in
      let i = halts-along low k h g.3 in
      let c = states-come body exits (λ state values. term-comes (body state values) (f.1 state values)) f.1 low i.0 i.0 (omega arith) state values b.left b.is_over a.memories a.turns g.0 g.1 g.2 i.2 in
      let d = comes-both (λ most. big_step part most (own ∷ s) n) (λ most all. big_states most (λ state values. big_step (body state values) all) exits state values) a c in
      comes-then (λ most. and_then (big_step part most (own ∷ s) n) (big_states most (λ state values. big_step (body state values) most) exits state values)) (λ most z m. reached (drop 1 z) m) d
      (comes-at (λ most. reached (drop 1 d.memories) d.turns) (drop 1 d.memories) d.turns (λ most. refl))
  term-comes (ended own) f low k s n h = comes-at (λ most. reached s n) s n (λ most. refl)
  term-comes (pool l c body active true) f low k s n h = comes-at (λ most. reached s n) s n (λ most. refl)
  term-comes (pool l c body active false) f low k s n h =
      let a = active-comes l c (λ v. work_of (body v)) active (actives-come active f.0) f.0 (λ v. no_works) (λ v. refl) (active_of active) (λ w. refl) low k s n h in
      let d = takes-come l c body (λ value. term-comes (body value) (f.1 value)) f.1 low a.left a.left (omega arith) a.now a.all_over_now a.comes.memories a.comes.turns a.halts in
      comes-both (λ most. big_active active most s n) (λ most all. big_takes most l c (λ value. big_step (body value) all)) a.comes d

  pub actives-come : {P : Type 0} (active : Actives P) → AreActiveOrdered active → WillAllCome active
  actives-come idle f = tt
  actives-come (busy value part active) f = (term-comes part f.0, actives-come active f.1)

  pub parts-come : {P : Type 0} (before : ℕ → ℕ → Bool) → IsOrder before → (ts : Terms P) → AreOrdered ts → (pre : Works P) → all_over pre ≡ true → (low k : ℕ) (s : Memories) (n : ℕ) →
      Halts low k (group before (plus pre (works_of ts))) (stack_of s) n → Comes (λ most. big_parts ts most s n)
  parts-come before o none f pre a low k s n h = comes-at (λ most. reached s n) s n (λ most. refl)
  parts-come before o (also t ts) f pre a low k s n h =
      let may = all_ready before 0 (count_works pre) pre a in
      let x = term-comes t f.0 low k s n (halts-part before o pre (works_of ts) may low k (work_of t) (stack_of s) n h) in
      let r = by-moves t f.0 s n x in
      let i = halts-along low k h (group-goes before o pre (works_of ts) may r.goes) in
      let q = parts-come before o ts f.1 (plus pre (and_work r.left no_works)) (all_more pre r.left a r.is_over) low i.0 x.memories x.turns
      (subst (λ y. Halts low i.0 (group before y) (stack_of x.memories) x.turns) (sym (plus-assoc pre r.left (works_of ts))) i.2) in
      comes-then (λ most. big_step t most s n) (λ most. big_parts ts most) x q
