-- What is done from left to right is done by moves of the work with bags.
use Rattle.std.proofs.Common.{◌≡◌, ℕ, zero, suc, ℤ, List, [], ◌∷◌, ◌++◌, drop, Option, Some, None, Result, Ok, Err, Bool, true, false, not, ◌||◌, cond, slice_get, refl, sym, ◌∙◌, ap, subst}
use Rattle.std.specs.Bool.{⊤}
use Rattle.sd_work.specs.declared.fault.FaultKind.{FaultKind}
use Rattle.sd_num.specs.declared.resolution.Resolution.{Resolution}
use Rattle.sd_work.specs.Memory.{Memories, Reference, seen, waiting}
use Rattle.sd_work.specs.Change.{Change, nothing, write, push, take, apply}
use Rattle.sd_work.specs.Leaf.{Pending, write_value, transfer, push_to, Evaluation, Leaf, reading, doing, is_done}
use Rattle.sd_work.specs.Move.{Fault, goes}
use Rattle.sd_work.specs.LeafMove.{leaf_move, write_move, read_move, evaluation_move}
use Rattle.sd_work.specs.Exit.{Values, Exit, first_exit}
use Rattle.sd_work.specs.Residual.{Term, leaf, list, owning, nested, ended, pool, Terms, none, also, Actives, idle, busy, IsOrder, ready_from}
use Rattle.sd_work.specs.Step.{Done, Faulted, Spent, spend}
use Rattle.sd_work.specs.BigStep.{Coming, reached, and_then, after_move, after_read, big_doing, big_evaluated, big_reading, big_leaf, after_exit, big_states, after_oldest, big_takes, big_step, big_parts, big_active}
use Rattle.sd_work.proofs.Flags.{both, both_true}
use Rattle.sd_work.proofs.left_to_right.Leads.{Pays}
use Rattle.sd_confluence.proofs.bags.BagMemory.{Frame, Stack, keep, remove, plain, updated, update_by}
use Rattle.sd_confluence.proofs.bags.Works.{Work, thread, group, scope, nest, over, basin, Works, no_works, and_work, is_over, all_over, overs, taking, acting, closing, at_last, put_active, act, act_at, Can, CanAt, CanHere, makes, owned_answer, follow, leaf_answer, map_answer}
use Rattle.sd_confluence.proofs.image.Images.{frame_of, stack_of, remove_found, update_of, work_of, works_of, active_of}
use Rattle.sd_confluence.proofs.image.NextLinked.{held_image}
use Rattle.sd_confluence.proofs.bags.Values.{same-true, same-refl}
use Rattle.std.specs.Ordering.{int_eq}
use Rattle.sd_confluence.specs.Alike.{how_often}
use Rattle.sd_confluence.proofs.image.ImageChanges.{image_change, first_exit-plain, leaf_move-plain}
use Rattle.sd_confluence.proofs.commuting.NextMoves.{can_unfinished, can_here}
use Rattle.sd_work.specs.WellFormed.{IsOrdered, AreOrdered, AreActiveOrdered}
use Rattle.sd_pieces.proofs.history_lemmas.Ways.{Goes, stays, moves, goes-then, plus, count_works, act_plus, can_plus, group-goes, plus-assoc, IsOwner, owner-goes}

-- ---- ends

abbrev pub IsReached : {P : Type 0} → Coming P → Type 0
IsReached (Some (Done now)) = ⊤
IsReached (Some (Faulted fault)) = ⊥
IsReached (Some Spent) = ⊥
IsReached None = ⊥

abbrev pub memories_in : {P : Type 0} → Memories → Coming P → Memories
memories_in d (Some (Done now)) = now.memories
memories_in d (Some (Faulted fault)) = d
memories_in d (Some Spent) = d
memories_in d None = d

abbrev pub turns_in : {P : Type 0} → Coming P → ℕ
turns_in (Some (Done now)) = now.turns
turns_in (Some (Faulted fault)) = 0
turns_in (Some Spent) = 0
turns_in None = 0

pub not_reached : {P : Type 0} {A : Type 0} (c : Coming P) {s : Memories} {n : ℕ} → c ≡ reached s n → (IsReached c → ⊥) → A
not_reached c e h = elim (h (subst IsReached (sym e) tt)) [ ]

-- work and then more came to an end: each did
pub split : {P : Type 0} (c : Coming P) (f : Memories → ℕ → Coming P) (s' : Memories) (n' : ℕ) → and_then c f ≡ reached s' n' → (s : Memories) × (n : ℕ) × (c ≡ reached s n) × (f s n ≡ reached s' n')
split (Some (Done now)) f s' n' h = (now.memories, now.turns, refl, h)
split (Some (Faulted fault)) f s' n' h = not_reached (Some (Faulted fault)) h (λ x. x)
split (Some Spent) f s' n' h = not_reached (Some Spent) h (λ x. x)
split None f s' n' h = not_reached None h (λ x. x)

-- a turn was paid
paid : {P : Type 0} (turn : Bool) (n : ℕ) (f : ℕ → Coming P) (s' : Memories) (n' : ℕ) → spend (Some Spent) turn n f ≡ reached s' n' → (m : ℕ) × Pays turn n m × (f m ≡ reached s' n')
paid true zero f s' n' h = not_reached (Some Spent) h (λ x. x)
paid true (suc n) f s' n' h = (n, refl, h)
paid false n f s' n' h = (n, refl, h)

never_paid : {P : Type 0} {A : Type 0} (turn : Bool) (n : ℕ) (c : Coming P) (s' : Memories) (n' : ℕ) → spend (Some Spent) turn n (λ m. c) ≡ reached s' n' → (IsReached c → ⊥) → A
never_paid true zero c s' n' h x = not_reached (Some Spent) h (λ y. y)
never_paid true (suc n) c s' n' h x = not_reached c h x
never_paid false n c s' n' h x = not_reached c h x

-- nothing is left to do
rests : {P : Type 0} (w : Work P) (s s' : Memories) (n n' : ℕ) → ◌≡◌ {A = Coming P} (reached s n) (reached s' n') → Goes w (stack_of s) n w (stack_of s') n'
rests {P} w s s' n n' h =
    subst (λ x. Goes w (stack_of s) n w (stack_of x) n') (ap (memories_in s) h)
    (subst (λ k. Goes w (stack_of s) n w (stack_of s) k) (ap turns_in h) (stays w (stack_of s) n))

-- ---- instances, copies and reductions

-- a move of a leaf
leaf-moves : {P : Type 0} (place : P) (work left : Leaf) (s : Memories) (n m : ℕ) (b : Bool) (u : Change) → is_done work ≡ false → leaf_move place work s ≡ goes b u left → update_by u ≡ update_of u s → Pays b n m →
    (w' : Work P) (s' : Stack) (n' : ℕ) → Goes (thread place left) (stack_of (apply u s)) m w' s' n' → Goes (thread place work) (stack_of s) n w' s' n'
leaf-moves place work left s n m b u d e same y w' s' n' g =
    moves (thread place work) (thread place left) w' (stack_of s) s' n m n' [] b (update_by u) (d, refl)
    (ap (λ a. map_answer (thread place) (leaf_answer a)) (leaf_move-plain place work s ∙ e)) y
    (subst (λ z. Goes (thread place left) z m w' s' n') (image_change u s ∙ ap (λ v. updated v (stack_of s)) (sym same)) g)

transfer-goes : {P : Type 0} (place : P) (from to : Option Reference) (by : Option Resolution) (left : List Pending) (s s' : Memories) (n n' : ℕ) (o : Option ℤ) → seen from s ≡ o →
    after_move (write_move place o to by left) s n (big_doing place left) ≡ reached s' n' →
    ((t : Memories) → big_doing place left t n ≡ reached s' n' → Goes (thread place (doing left)) (stack_of t) n (thread place (doing [])) (stack_of s') n') →
    Goes (thread place (doing (transfer from to by ∷ left))) (stack_of s) n (thread place (doing [])) (stack_of s') n'
transfer-goes place from to by left s s' n n' None e h rest = not_reached _ h (λ x. x)
transfer-goes place from None by left s s' n n' (Some v) e h rest = not_reached _ h (λ x. x)
transfer-goes place from (Some to) by left s s' n n' (Some v) e h rest =
    leaf-moves place (doing (transfer from (Some to) by ∷ left)) (doing left) s n n false (write to by v) refl (ap (λ o. write_move place o (Some to) by left) e) refl refl _ _ _ (rest (apply (write to by v) s) h)

doing-goes : {P : Type 0} (place : P) (left : List Pending) (s s' : Memories) (n n' : ℕ) → big_doing place left s n ≡ reached s' n' → Goes (thread place (doing left)) (stack_of s) n (thread place (doing [])) (stack_of s') n'
doing-goes place [] s s' n n' h = rests _ s s' n n' h
doing-goes place (write_value v None by ∷ left) s s' n n' h = not_reached _ h (λ x. x)
doing-goes place (write_value v (Some to) by ∷ left) s s' n n' h =
    leaf-moves place (doing (write_value v (Some to) by ∷ left)) (doing left) s n n false (write to by v) refl refl refl refl _ _ _ (doing-goes place left (apply (write to by v) s) s' n n' h)
doing-goes place (transfer from to by ∷ left) s s' n n' h =
    transfer-goes place from to by left s s' n n' (seen from s) refl h (λ t k. doing-goes place left t s' n n' k)
doing-goes place (push_to l c v ∷ left) s s' n n' h =
    leaf-moves place (doing (push_to l c v ∷ left)) (doing left) s n n false (push l c v) refl refl refl refl _ _ _ (doing-goes place left (apply (push l c v) s) s' n n' h)

evaluated-goes : {P : Type 0} (place : P) (begun : Bool) (values : List ℤ) (evaluation : Evaluation) (s s' : Memories) (n n' : ℕ) (given : Result (List Pending) FaultKind) → evaluation values ≡ given →
    big_evaluated place (not begun) given s n ≡ reached s' n' → Goes (thread place (reading begun [] values evaluation)) (stack_of s) n (thread place (doing [])) (stack_of s') n'
evaluated-goes place begun values evaluation s s' n n' (Err kind) e h = never_paid (not begun) n _ s' n' h (λ x. x)
evaluated-goes place begun values evaluation s s' n n' (Ok effects) e h =
    let p = paid (not begun) n _ s' n' h in
    leaf-moves place (reading begun [] values evaluation) (doing effects) s n p.0 (not begun) nothing refl (ap (evaluation_move place (not begun)) e) refl p.1 _ _ _ (doing-goes place effects s s' p.0 n' p.2)

read-goes : {P : Type 0} (place : P) (begun : Bool) (next : Option Reference) (left : List (Option Reference)) (values : List ℤ) (evaluation : Evaluation) (s s' : Memories) (n n' : ℕ) (o : Option ℤ) → seen next s ≡ o →
    after_read place (not begun) o n (λ value. big_reading place false left (values ++ value ∷ []) evaluation s) ≡ reached s' n' →
    ((value : ℤ) (m : ℕ) → big_reading place false left (values ++ value ∷ []) evaluation s m ≡ reached s' n' → Goes (thread place (reading true left (values ++ value ∷ []) evaluation)) (stack_of s) m (thread place (doing [])) (stack_of s') n') →
    Goes (thread place (reading begun (next ∷ left) values evaluation)) (stack_of s) n (thread place (doing [])) (stack_of s') n'
read-goes place begun next left values evaluation s s' n n' None e h rest = never_paid (not begun) n _ s' n' h (λ x. x)
read-goes place begun next left values evaluation s s' n n' (Some v) e h rest =
    let p = paid (not begun) n _ s' n' h in
    leaf-moves place (reading begun (next ∷ left) values evaluation) (reading true left (values ++ v ∷ []) evaluation) s n p.0 (not begun) nothing refl
    (ap (λ o. read_move place (not begun) o left values evaluation) e) refl p.1 _ _ _ (rest v p.0 p.2)

reading-goes : {P : Type 0} (place : P) (begun : Bool) (left : List (Option Reference)) (values : List ℤ) (evaluation : Evaluation) (s s' : Memories) (n n' : ℕ) → big_reading place (not begun) left values evaluation s n ≡ reached s' n' →
    Goes (thread place (reading begun left values evaluation)) (stack_of s) n (thread place (doing [])) (stack_of s') n'
reading-goes place begun [] values evaluation s s' n n' h = evaluated-goes place begun values evaluation s s' n n' (evaluation values) refl h
reading-goes place begun (next ∷ left) values evaluation s s' n n' h =
    read-goes place begun next left values evaluation s s' n n' (seen next s) refl h (λ v m k. reading-goes place true left (values ++ v ∷ []) evaluation s s' m n' k)

leaf-goes : {P : Type 0} (place : P) (work : Leaf) (s s' : Memories) (n n' : ℕ) → big_leaf place work s n ≡ reached s' n' → Goes (thread place work) (stack_of s) n (thread place (doing [])) (stack_of s') n'
leaf-goes place (reading begun left values evaluation) s s' n n' h = reading-goes place begun left values evaluation s s' n n' h
leaf-goes place (doing left) s s' n n' h = doing-goes place left s s' n n' h

-- ---- terms

-- an owner of private containers
pub scope-owner : {P : Type 0} → IsOwner {P = P} scope
scope-owner = record { acts = λ f t p s c. refl; cans = λ f t p s c. c }

-- what stands behind an owner's memory
pub behind : (z : Memories) (f : Frame) (s : Stack) → stack_of z ≡ f ∷ s → s ≡ stack_of (drop 1 z)
behind [] f s e = cc
behind (m ∷ z) f s e = sym (ap tail_of e)
  where
    tail_of : Stack → Stack
    tail_of [] = []
    tail_of (f ∷ s) = s

pub all_ready : {P : Type 0} (before : ℕ → ℕ → Bool) (j k : ℕ) (pre : Works P) → all_over pre ≡ true → ready_from before j (overs pre) k ≡ true
all_ready before j k no_works h = refl
all_ready before j k (and_work t pre) h = let e = both (is_over t) (all_over pre) h in both_true _ _ (ap (λ b. b || not (before j k)) e.0) (all_ready before (suc j) k pre e.1)

pub all_more : {P : Type 0} (pre : Works P) (t : Work P) → all_over pre ≡ true → is_over t ≡ true → all_over (plus pre (and_work t no_works)) ≡ true
all_more no_works t h e = both_true _ _ e refl
all_more (and_work y pre) t h e = let k = both (is_over y) (all_over pre) h in both_true _ _ k.0 (all_more pre t k.1 e)

-- ---- runs of graphs

-- a run of a graph acts as its state does
pub nest-owner : {P : Type 0} (body : ℕ → Values → Work P) (exits : ℕ → Values → List (Exit P)) (state : ℕ) (values : Values) → IsOwner (λ f t. nest body exits f state values t)
nest-owner body exits state values = record {
  acts = λ f t p s c. ap (λ b. cond b (follow body exits f (first_exit (exits state values) (plain (f ∷ s)))) (owned_answer (λ g x. nest body exits g state values x) f (act t p (f ∷ s)))) (can_unfinished t p (f ∷ s) c);
  cans = λ f t p s c. can_here (is_over t) p (Can t p (f ∷ s)) (can_unfinished t p (f ∷ s) c) c;
}

-- the transition
exit-moves : {P : Type 0} (body : ℕ → Values → Work P) (exits : ℕ → Values → List (Exit P)) (f : Frame) (state : ℕ) (values : Values) (t : Work P) (s : Stack) (z : Memories) → stack_of z ≡ f ∷ s → is_over t ≡ true →
    (b : Bool) (x : Work P) (n m : ℕ) → follow body exits f (first_exit (exits state values) z) ≡ makes b keep x → Pays b n m → (w' : Work P) (s' : Stack) (n' : ℕ) → Goes x s m w' s' n' → Goes (nest body exits f state values t) s n w' s' n'
exit-moves body exits f state values t s z e o b x n m a y w' s' n' g =
    moves (nest body exits f state values t) x w' s s' n m n' [] b keep (subst (λ b. CanHere b [] (Can t [] (f ∷ s))) (sym o) refl)
    (ap (λ b. cond b (follow body exits f (first_exit (exits state values) (plain (f ∷ s)))) (owned_answer (λ g x. nest body exits g state values x) f (act t [] (f ∷ s)))) o
    ∙ ap (follow body exits f) (ap (λ k. first_exit (exits state values) (plain k)) (sym e) ∙ first_exit-plain (exits state values) z) ∙ a)
    y g

-- what is done of a term is done by moves, and is over
abbrev pub IsDoneBy : {P : Type 0} → Term P → (most : ℕ) → Type 0
IsDoneBy {P} t most = (s s' : Memories) (n n' : ℕ) → big_step t most s n ≡ reached s' n' → (w : Work P) × Goes (work_of t) (stack_of s) n w (stack_of s') n' × (is_over w ≡ true)

abbrev pub AreDoneBy : {P : Type 0} → Actives P → (most : ℕ) → Type 0
AreDoneBy idle most = ⊤
AreDoneBy (busy value part active) most = IsDoneBy part most × AreDoneBy active most

states-goes : {P : Type 0} (body : ℕ → Values → Term P) (exits : ℕ → Values → List (Exit P)) (all : ℕ) → ((state : ℕ) (values : Values) → IsDoneBy (body state values) all) →
    (most state : ℕ) (values : Values) (t : Work P) → is_over t ≡ true → (z z' : Memories) (n n' : ℕ) (f : Frame) (s : Stack) → stack_of z ≡ f ∷ s →
    big_states most (λ state values. big_step (body state values) all) exits state values z n ≡ reached z' n' →
    (f' : Frame) × (s' : Stack) × (stack_of z' ≡ f' ∷ s') × Goes (nest (λ k e. work_of (body k e)) exits f state values t) s n (over f') s' n'
states-goes body exits all ih zero state values t o z z' n n' f s e h = not_reached None h (λ x. x)
states-goes {P} body exits all ih (suc most) state values t o z z' n n' f s e h = on (first_exit (exits state values) z) refl h
    (λ state values t o z n f s e h. states-goes body exits all ih most state values t o z z' n n' f s e h)
  where
    inside : ℕ → Values → Work P
    inside k v = work_of (body k v)

    on : (r : Result (Option (Exit P)) (Fault P)) → first_exit (exits state values) z ≡ r →
        after_exit r z n (λ exit n. and_then (big_step (body exit.state exit.values) all z n) (big_states most (λ state values. big_step (body state values) all) exits exit.state exit.values)) ≡ reached z' n' →
        ((state : ℕ) (values : Values) (t : Work P) → is_over t ≡ true → (z : Memories) (n : ℕ) (f : Frame) (s : Stack) → stack_of z ≡ f ∷ s →
        big_states most (λ state values. big_step (body state values) all) exits state values z n ≡ reached z' n' →
        (f' : Frame) × (s' : Stack) × (stack_of z' ≡ f' ∷ s') × Goes (nest inside exits f state values t) s n (over f') s' n') →
        (f' : Frame) × (s' : Stack) × (stack_of z' ≡ f' ∷ s') × Goes (nest inside exits f state values t) s n (over f') s' n'
    on (Err fault) q h rest = not_reached _ h (λ x. x)
    on (Ok None) q h rest = (
      f,
      s,
      (ap stack_of (sym (ap (memories_in z) h)) ∙ e),
      subst (λ k. Goes (nest inside exits f state values t) s n (over f) s k) (ap turns_in h)
          (exit-moves inside exits f state values t s z e o false (over f) n n (ap (follow inside exits f) q) refl (over f) s n (stays (over f) s n)),
    )
    on (Ok (Some exit)) q h rest =
        let p = paid exit.marked n _ z' n' h in
        let b = split (big_step (body exit.state exit.values) all z p.0) (big_states most (λ state values. big_step (body state values) all) exits exit.state exit.values) z' n' p.2 in
        let r = ih exit.state exit.values z b.0 p.0 b.1 b.2 in
        let g = owner-goes (λ f t. nest inside exits f exit.state exit.values t) (nest-owner inside exits exit.state exit.values) r.1 f s e in
        let k = rest exit.state exit.values r.0 r.2 b.0 b.1 g.0 g.1 g.2 b.3 in (
          k.0,
          k.1,
          k.2,
          exit-moves inside exits f state values t s z e o exit.marked (nest inside exits f exit.state exit.values (inside exit.state exit.values)) n p.0 (ap (follow inside exits f) q) p.1 (over k.0) k.1 n' (goes-then g.3 k.3),
        )

pub plus_nothing : {P : Type 0} (pre : Works P) → plus pre no_works ≡ pre
plus_nothing no_works = refl
plus_nothing (and_work t pre) = ap (and_work t) (plus_nothing pre)

-- ---- pools

pub at_last-plus : {P : Type 0} (ts : Works P) (t : Work P) → at_last ts t ≡ plus ts (and_work t no_works)
at_last-plus no_works t = refl
at_last-plus (and_work y ts) t = ap (and_work y) (at_last-plus ts t)

pub put_same : {P : Type 0} (v : ℤ) (ts : Works P) (active : ℤ → Works P) → put_active v ts active v ≡ ts
put_same v ts active = ap (λ b. cond b ts (active v)) (same-refl v)

pub put_other : {P : Type 0} (v w : ℤ) (ts : Works P) (active : ℤ → Works P) → int_eq v w ≡ false → put_active v ts active w ≡ active w
put_other v w ts active e = ap (λ b. cond b ts (active w)) e

-- moves of one active work of a value are moves of the pool
pub basin-goes : {P : Type 0} (l c : ℕ) (body : ℤ → Work P) (v : ℤ) (pre post : Works P) {t t' : Work P} {s s' : Stack} {n n' : ℕ} → Goes t s n t' s' n' → (active : ℤ → Works P) → active v ≡ plus pre (and_work t post) →
    (active' : ℤ → Works P) × (active' v ≡ plus pre (and_work t' post)) × ((w : ℤ) → int_eq v w ≡ false → active' w ≡ active w) × Goes (basin l c body active false) s n (basin l c body active' false) s' n'
basin-goes l c body v pre post (stays w s n) active e = (active, e, (λ w f. refl), stays (basin l c body active false) s n)
basin-goes l c body v pre post (moves w x w' s s' n m n' p b u k a y g) active e =
    let next = put_active v (plus pre (and_work x post)) active in
    let r = basin-goes l c body v pre post g next (put_same v (plus pre (and_work x post)) active) in (
      r.0,
      r.1,
      (λ z f. r.2 z f ∙ put_other v z (plus pre (and_work x post)) active f),
      moves (basin l c body active false) (basin l c body next false) (basin l c body r.0 false) s s' n m n' (acting v (count_works pre) ∷ p) b u
          (refl, subst (λ ts. CanAt ts (count_works pre) p s) (sym e) (can_plus pre post w p s k))
          (ap (map_answer (λ ts. basin l c body (put_active v ts active) false)) (ap (λ ts. act_at ts (count_works pre) p s) e ∙ act_plus pre post w p s ∙ ap (map_answer (λ x. plus pre (and_work x post))) a)) y
          r.3,
    )

-- all active works are over
abbrev pub AllOver : {P : Type 0} → (ℤ → Works P) → Type 0
AllOver active = (w : ℤ) → all_over (active w) ≡ true

takes-goes : {P : Type 0} (l c : ℕ) (body : ℤ → Term P) (all : ℕ) → ((value : ℤ) → IsDoneBy (body value) all) → (most : ℕ) (active : ℤ → Works P) → AllOver active → (s s' : Memories) (n n' : ℕ) →
    big_takes most l c (λ value. big_step (body value) all) s n ≡ reached s' n' →
    (active' : ℤ → Works P) × Goes (basin l c (λ v. work_of (body v)) active false) (stack_of s) n (basin l c (λ v. work_of (body v)) active' true) (stack_of s') n'
takes-goes l c body all ih zero active a s s' n n' h = not_reached None h (λ x. x)
takes-goes {P} l c body all ih (suc most) active a s s' n n' h = on (waiting l c s) refl h (λ active a s n h. takes-goes l c body all ih most active a s s' n n' h)
  where
    inside : ℤ → Work P
    inside v = work_of (body v)

    on : (values : List ℤ) → waiting l c s ≡ values → after_oldest values s n (λ value. and_then (big_step (body value) all (apply (take l c 0) s) n) (big_takes most l c (λ value. big_step (body value) all))) ≡ reached s' n' →
        ((active : ℤ → Works P) → AllOver active → (s : Memories) (n : ℕ) → big_takes most l c (λ value. big_step (body value) all) s n ≡ reached s' n' →
        (active' : ℤ → Works P) × Goes (basin l c inside active false) (stack_of s) n (basin l c inside active' true) (stack_of s') n') →
        (active' : ℤ → Works P) × Goes (basin l c inside active false) (stack_of s) n (basin l c inside active' true) (stack_of s') n'
    on [] q h rest = (
      active,
      moves (basin l c inside active false) (basin l c inside active true) (basin l c inside active true) (stack_of s) (stack_of s') n n n' (closing ∷ []) false keep
          (refl, refl, a, λ v. held_image l c v s ∙ ap (λ values. how_often values v) q) refl refl
          (rests (basin l c inside active true) s s' n n' h),
    )
    on (v ∷ values) q h rest =
        let b = split (big_step (body v) all (apply (take l c 0) s) n) (big_takes most l c (λ value. big_step (body value) all)) s' n' h in
        let r = ih v (apply (take l c 0) s) b.0 n b.1 b.2 in
        let next : ℤ → Works P = put_active v (at_last (active v) (inside v)) active in
        let g = basin-goes l c inside v (active v) no_works r.1 next (put_same v (at_last (active v) (inside v)) active ∙ at_last-plus (active v) (inside v)) in
        let over' : AllOver g.0 = λ w. each g.0 r.0 g.1 (λ z f. g.2 z f ∙ put_other v z (at_last (active v) (inside v)) active f) r.2 w (int_eq v w) refl in
        let k = rest g.0 over' b.0 b.1 b.3 in (
          k.0,
          moves (basin l c inside active false) (basin l c inside next false) (basin l c inside k.0 true) (stack_of s) (stack_of s') n n n' (taking v ∷ []) false (remove l c v)
              (refl, refl, (how_often values v, held_image l c v s ∙ ap (λ values. how_often values v) q ∙ ap (λ b. cond b (suc (how_often values v)) (how_often values v)) (same-refl v))) refl refl
              (subst (λ z. Goes (basin l c inside next false) z n (basin l c inside k.0 true) (stack_of s') n')
              (image_change (take l c 0) s ∙ ap (λ values. updated (remove_found l c (slice_get values 0)) (stack_of s)) q) (goes-then g.3 k.1)),
        )
      where
        each : (now : ℤ → Works P) (w : Work P) → now v ≡ plus (active v) (and_work w no_works) → ((z : ℤ) → int_eq v z ≡ false → now z ≡ active z) → is_over w ≡ true → (z : ℤ) (b : Bool) → int_eq v z ≡ b → all_over (now z) ≡ true
        each now w here others o z true e = subst (λ x. all_over (now x) ≡ true) (same-true v z e) (ap all_over here ∙ all_more (active v) w (a v) o)
        each now w here others o z false e = ap all_over (others z e) ∙ a z

-- the active works of a pool, each value's behind ones that are over
active-goes : {P : Type 0} (l c : ℕ) (body : ℤ → Work P) (most : ℕ) (active : Actives P) → AreDoneBy active most → (front : ℤ → Works P) → AllOver front → (now : ℤ → Works P) → ((w : ℤ) → now w ≡ plus (front w) (active_of active w)) →
    (s s' : Memories) (n n' : ℕ) → big_active active most s n ≡ reached s' n' →
    (now' : ℤ → Works P) × AllOver now' × Goes (basin l c body now false) (stack_of s) n (basin l c body now' false) (stack_of s') n'
active-goes l c body most idle ih front a now e s s' n n' h = (now, (λ w. ap all_over (e w ∙ plus_nothing (front w)) ∙ a w), rests (basin l c body now false) s s' n n' h)
active-goes {P} l c body most (busy v part active) ih front a now e s s' n n' h =
    let b = split (big_step part most s n) (big_active active most) s' n' h in
    let r = ih.0 s b.0 n b.1 b.2 in
    let here : now v ≡ plus (front v) (and_work (work_of part) (active_of active v)) = e v ∙ ap (λ b. plus (front v) (cond b (and_work (work_of part) (active_of active v)) (active_of active v))) (same-refl v) in
    let g = basin-goes l c body v (front v) (active_of active v) r.1 now here in
    let front' : ℤ → Works P = λ w. cond (int_eq v w) (plus (front w) (and_work r.0 no_works)) (front w) in
    let k = active-goes l c body most active ih.1 front' (λ w. still r.0 r.2 w (int_eq v w)) g.0 (λ w. stands g.0 r.0 g.1 g.2 w (int_eq v w) refl) b.0 s' b.1 n' b.3 in
    (k.0, k.1, goes-then g.3 k.2)
  where
    still : (x : Work P) → is_over x ≡ true → (w : ℤ) (b : Bool) → all_over (cond b (plus (front w) (and_work x no_works)) (front w)) ≡ true
    still x o w true = all_more (front w) x (a w) o
    still x o w false = a w

    stands : (now' : ℤ → Works P) (x : Work P) → now' v ≡ plus (front v) (and_work x (active_of active v)) → ((w : ℤ) → int_eq v w ≡ false → now' w ≡ now w) → (w : ℤ) (b : Bool) → int_eq v w ≡ b →
        now' w ≡ plus (cond (int_eq v w) (plus (front w) (and_work x no_works)) (front w)) (active_of active w)
    stands now' x here others w true q =
        subst (λ z. now' z ≡ plus (plus (front z) (and_work x no_works)) (active_of active z)) (same-true v w q) (here ∙ sym (plus-assoc (front v) x (active_of active v)))
        ∙ ap (λ b. plus (cond b (plus (front w) (and_work x no_works)) (front w)) (active_of active w)) (sym q)
    stands now' x here others w false q =
        others w q ∙ e w ∙ ap (λ b. plus (front w) (cond b (and_work (work_of part) (active_of active w)) (active_of active w))) q
        ∙ ap (λ b. plus (cond b (plus (front w) (and_work x no_works)) (front w)) (active_of active w)) (sym q)

mutual
  -- ordered work that is done from left to right is done by moves, and is over
  pub term-goes : {P : Type 0} (t : Term P) → IsOrdered t → (most : ℕ) (s s' : Memories) (n n' : ℕ) → big_step t most s n ≡ reached s' n' →
      (w : Work P) × Goes (work_of t) (stack_of s) n w (stack_of s') n' × (is_over w ≡ true)
  term-goes (leaf place work) f most s s' n n' h = (thread place (doing []), leaf-goes place work s s' n n' h, refl)
  term-goes (list kind before parts) f most s s' n n' h =
      let r = parts-goes before f.0 parts f.1 no_works refl most s s' n n' h in
      (group before r.0, r.1, r.2)
  term-goes (owning own part) f most s s' n n' h =
      let b = split (big_step part most (own ∷ s) n) (λ z m. reached (drop 1 z) m) s' n' h in
      let r = term-goes part f most (own ∷ s) b.0 n b.1 b.2 in
      let o = owner-goes scope scope-owner r.1 (frame_of own) (stack_of s) refl in
      let g = subst (λ z. Goes (scope (frame_of own) (work_of part)) (stack_of s) n (scope o.0 r.0) z b.1) (behind b.0 o.0 o.1 o.2) o.3 in
      (scope o.0 r.0, goes-then g (rests (scope o.0 r.0) (drop 1 b.0) s' b.1 n' b.3), r.2)
  term-goes (nested body exits own state values part) f most s s' n n' h =
      let a = split (and_then (big_step part most (own ∷ s) n) (big_states most (λ state values. big_step (body state values) most) exits state values)) (λ z m. reached (drop 1 z) m) s' n' h in
      let b = split (big_step part most (own ∷ s) n) (big_states most (λ state values. big_step (body state values) most) exits state values) a.0 a.1 a.2 in
      let r = term-goes part f.0 most (own ∷ s) b.0 n b.1 b.2 in
      let o = owner-goes (λ f t. nest (λ k e. work_of (body k e)) exits f state values t) (nest-owner (λ k e. work_of (body k e)) exits state values) r.1 (frame_of own) (stack_of s) refl in
      let k = states-goes body exits most (λ state values. term-goes (body state values) (f.1 state values) most) most state values r.0 r.2 b.0 a.0 b.1 a.1 o.0 o.1 o.2 b.3 in (
        over k.0,
        goes-then (goes-then o.3 (subst (λ z. Goes (nest (λ k e. work_of (body k e)) exits o.0 state values r.0) o.1 b.1 (over k.0) z a.1) (behind a.0 k.0 k.1 k.2) k.3)) (rests (over k.0) (drop 1 a.0) s' a.1 n' a.3),
        refl,
      )
  term-goes (ended own) f most s s' n n' h = (over (frame_of own), rests _ s s' n n' h, refl)
  term-goes (pool l c body active true) f most s s' n n' h = (basin l c (λ v. work_of (body v)) (active_of active) true, rests _ s s' n n' h, refl)
  term-goes (pool l c body active false) f most s s' n n' h =
      let b = split (big_active active most s n) (big_takes most l c (λ value. big_step (body value) most)) s' n' h in
      let r = active-goes l c (λ v. work_of (body v)) most active (actives-go active f.0 most) (λ v. no_works) (λ v. refl) (active_of active) (λ w. refl) s b.0 n b.1 b.2 in
      let k = takes-goes l c body most (λ value. term-goes (body value) (f.1 value) most) most r.0 r.1 b.0 s' b.1 n' b.3 in
      (basin l c (λ v. work_of (body v)) k.0 true, goes-then r.2 k.1, refl)

  pub actives-go : {P : Type 0} (active : Actives P) → AreActiveOrdered active → (most : ℕ) → AreDoneBy active most
  actives-go idle f most = tt
  actives-go (busy value part active) f most = (term-goes part f.0 most, actives-go active f.1 most)

  -- parts behind ones that are over
  pub parts-goes : {P : Type 0} (before : ℕ → ℕ → Bool) → IsOrder before → (ts : Terms P) → AreOrdered ts → (pre : Works P) → all_over pre ≡ true → (most : ℕ) (s s' : Memories) (n n' : ℕ) → big_parts ts most s n ≡ reached s' n' →
      (us : Works P) × Goes (group before (plus pre (works_of ts))) (stack_of s) n (group before us) (stack_of s') n' × (all_over us ≡ true)
  parts-goes before o none f pre a most s s' n n' h = (plus pre no_works, rests _ s s' n n' h, subst (λ x. all_over x ≡ true) (sym (plus_nothing pre)) a)
  parts-goes before o (also t ts) f pre a most s s' n n' h =
      let b = split (big_step t most s n) (big_parts ts most) s' n' h in
      let r = term-goes t f.0 most s b.0 n b.1 b.2 in
      let g = group-goes before o pre (works_of ts) (all_ready before 0 (count_works pre) pre a) r.1 in
      let q = parts-goes before o ts f.1 (plus pre (and_work r.0 no_works)) (all_more pre r.0 a r.2) most b.0 s' b.1 n' b.3 in
      (q.0, goes-then g (subst (λ x. Goes (group before x) (stack_of b.0) b.1 (group before q.0) (stack_of s') n') (plus-assoc pre r.0 (works_of ts)) q.1), q.2)
