-- What moves of a term are of its image.
use Rattle.std.proofs.Common.{◌≡◌, ℕ, zero, suc, List, [], ◌∷◌, Option, Some, None, Result, Ok, Err, ℤ, Bool, true, false, cond, ◌&&◌, slice_get, refl, sym, ◌∙◌, ap, subst}
use Rattle.sd_work.specs.Memory.{Memory, Memories, waiting}
use Rattle.sd_work.specs.Change.{nothing, write, push, take, outer, own_after}
use Rattle.sd_work.specs.Leaf.{Leaf}
use Rattle.sd_work.specs.Move.{Fault, Move, fails, goes, no_move, map_move}
use Rattle.sd_work.specs.LeafMove.{leaf_move}
use Rattle.sd_work.specs.Exit.{Values, Exit, first_exit}
use Rattle.sd_work.specs.Residual.{Term, leaf, list, owning, nested, ended, pool, Terms, none, also, Actives, idle, busy, finished, all_finished, flags_of}
use Rattle.sd_work.specs.Moves.{Path}
use Rattle.sd_work.specs.Fire.{owned, transition, and_last, take_move, fire, fire_part, fire_active}
use Rattle.std.specs.Ordering.{int_eq}
use Rattle.sd_confluence.proofs.bags.Values.{same-true, same-refl}
use Rattle.sd_confluence.proofs.bags.BagMemory.{Frame, plain}
use Rattle.sd_confluence.proofs.bags.Works.{Work, thread, group, scope, nest, basin, Works, and_work, is_over, all_over, overs, taking, acting, Route, Answer, stops, makes, no_answer, map_answer, leaf_answer, follow, owned_answer, at_last, put_active, act, act_at}
use Rattle.sd_confluence.proofs.image.Images.{frame_of, stack_of, remove_found, update_of, work_of, works_of, active_of, value_at, number_at, named, route_of, route_at, route_in}
use Rattle.sd_confluence.proofs.image.ImageChanges.{outside_is, own_is, first_exit-plain, leaf_move-plain}
use Rattle.sd_confluence.proofs.taking.TakesTouched.{TakesWithin, within_leaf}

-- ---- answers

-- the answer of an image is the image of the answer
abbrev pub Matches : {P A B : Type 0} → (A → B) → Memories → Move P A → Answer P B → Type 0
Matches f s (fails b e) m = m ≡ stops b e
Matches f s (goes b u x) m = m ≡ makes b (update_of u s) (f x)
Matches f s no_move m = m ≡ no_answer

matches_map : {P A B C D : Type 0} (f : A → B) (f' : C → D) (g : A → C) (h : B → D) → ((x : A) → f' (g x) ≡ h (f x)) → (s : Memories) (m : Move P A) (n : Answer P B) → Matches f s m n → Matches f' s (map_move g m) (map_answer h n)
matches_map f f' g h e s (fails b z) n q = ap (map_answer h) q
matches_map f f' g h e s (goes b u x) n q = ap (map_answer h) q ∙ ap (makes b (update_of u s)) (sym (e x))
matches_map f f' g h e s no_move n q = ap (map_answer h) q

matches_owned : {P : Type 0} (make : Memory → Term P → Term P) (made : Frame → Work P → Work P) → ((m : Memory) (x : Term P) → work_of (make m x) ≡ made (frame_of m) (work_of x)) → (own : Memory) (s : Memories) (m : Move P (Term P)) (n : Answer P (Work P)) →
    Matches work_of (own ∷ s) m n → Matches work_of s (owned make own m) (owned_answer made (frame_of own) n)
matches_owned make made e own s (fails b z) n q = ap (owned_answer made (frame_of own)) q
matches_owned make made e own s (goes b u x) n q =
    ap (owned_answer made (frame_of own)) q
    ∙ (λ i. makes b (sym (outside_is u own s) i) (made (sym (own_is u own s) i) (work_of x)))
    ∙ ap (makes b (update_of (outer u) s)) (sym (e (own_after u own) x))
matches_owned make made e own s no_move n q = ap (owned_answer made (frame_of own)) q

matches_thread : {P : Type 0} (place : P) (s : Memories) (m : Move P Leaf) → TakesWithin (λ a. ⊥) m → Matches work_of s (map_move (leaf place) m) (map_answer (thread place) (leaf_answer m))
matches_thread place s (fails b z) h = refl
matches_thread place s (goes b nothing w) h = refl
matches_thread place s (goes b (write to by v) w) h = refl
matches_thread place s (goes b (push l c v) w) h = refl
matches_thread place s (goes b (take l c k) w) h = elim h [ ]
matches_thread place s no_move h = refl

follow_sim : {P : Type 0} (body : ℕ → Values → Term P) (exits : ℕ → Values → List (Exit P)) (own : Memory) (s : Memories) (r : Result (Option (Exit P)) (Fault P)) →
    Matches work_of s (transition body exits own r) (follow (λ k e. work_of (body k e)) exits (frame_of own) r)
follow_sim body exits own s (Err f) = refl
follow_sim body exits own s (Ok None) = refl
follow_sim body exits own s (Ok (Some e)) = refl

mutual
  -- a term is finished where its image is over
  pub finished_is : {P : Type 0} (t : Term P) → finished t ≡ is_over (work_of t)
  finished_is (leaf place work) = refl
  finished_is (list kind before parts) = all_finished_is parts
  finished_is (owning own part) = finished_is part
  finished_is (nested body exits own state values part) = refl
  finished_is (ended own) = refl
  finished_is (pool l c body active closed) = refl

  -- a list is finished where all works of its image are over
  pub all_finished_is : {P : Type 0} (ts : Terms P) → all_finished ts ≡ all_over (works_of ts)
  all_finished_is none = refl
  all_finished_is (also t ts) = λ i. finished_is t i && all_finished_is ts i

-- the same parts are finished
pub flags_is : {P : Type 0} (ts : Terms P) → flags_of ts ≡ overs (works_of ts)
flags_is none = refl
flags_is (also t ts) = λ i. finished_is t i ∷ flags_is ts i

-- ---- pools

busy_image : {P : Type 0} (active : Actives P) (v : ℤ) (t : Term P) (w : ℤ) → active_of (and_last active v t) w ≡ cond (int_eq v w) (at_last (active_of active w) (work_of t)) (active_of active w)
busy_image idle v t w = refl
busy_image {P} (busy x u us) v t w = ap (λ z. cond (int_eq x w) (and_work (work_of u) z) z) (busy_image us v t w) ∙ go (int_eq x w) (int_eq v w) (active_of us w)
  where
    go : (a b : Bool) (r : Works P) → cond a (and_work (work_of u) (cond b (at_last r (work_of t)) r)) (cond b (at_last r (work_of t)) r) ≡ cond b (at_last (cond a (and_work (work_of u) r) r) (work_of t)) (cond a (and_work (work_of u) r) r)
    go true true r = refl
    go true false r = refl
    go false true r = refl
    go false false r = refl

taken_image : {P : Type 0} (active : Actives P) (v : ℤ) (t : Term P) → active_of (and_last active v t) ≡ put_active v (at_last (active_of active v) (work_of t)) (active_of active)
taken_image active v t = λ i w. (busy_image active v t w ∙ go w (int_eq v w) refl) i
  where
    go : (w : ℤ) (b : Bool) → int_eq v w ≡ b → cond b (at_last (active_of active w) (work_of t)) (active_of active w) ≡ cond b (at_last (active_of active v) (work_of t)) (active_of active w)
    go w true e = ap (λ x. at_last (active_of active x) (work_of t)) (sym (same-true v w e))
    go w false e = refl

taken_sim : {P : Type 0} (l c : ℕ) (body : ℤ → Term P) (active : Actives P) (closed : Bool) (k : ℕ) (s : Memories) (o : Option ℤ) → slice_get (waiting l c s) k ≡ o →
    Matches work_of s (take_move l c body active closed k o) (act (work_of (pool l c body active closed)) (named o (λ v. taking v ∷ [])) (stack_of s))
taken_sim l c body active closed k s None e = refl
taken_sim l c body active closed k s (Some v) e =
    λ i. makes false (remove_found l c (sym e i)) (basin l c (λ x. work_of (body x)) (sym (taken_image active v (body v)) i) closed)

nobody : {P : Type 0} (active : Actives P) (k : ℕ) (p : Path) (s : Memories) → value_at active k ≡ None → fire_active active k p s ≡ no_move
nobody idle k p s e = refl
nobody (busy v t ts) zero p s e = cc
nobody (busy v t ts) (suc k) p s e = ap (map_move (busy v t)) (nobody ts k p s e)

-- a move of the active term k, which works on v
abbrev ActMatches : {P : Type 0} → Actives P → ℤ → Memories → Move P (Actives P) → Answer P (Works P) → Type 0
ActMatches active v s (fails b z) n = n ≡ stops b z
ActMatches active v s (goes b u xs) n = (n ≡ makes b (update_of u s) (active_of xs v)) × ((w : ℤ) → int_eq v w ≡ false → active_of xs w ≡ active_of active w)
ActMatches active v s no_move n = n ≡ no_answer

-- where only the works of one value differ, these are put
pub same_put : {P : Type 0} (active xs : Actives P) (v : ℤ) → ((w : ℤ) → int_eq v w ≡ false → active_of xs w ≡ active_of active w) → active_of xs ≡ put_active v (active_of xs v) (active_of active)
same_put active xs v h = λ i w. go w (int_eq v w) refl i
  where
    go : (w : ℤ) (b : Bool) → int_eq v w ≡ b → active_of xs w ≡ cond b (active_of xs v) (active_of active w)
    go w true e = ap (active_of xs) (sym (same-true v w e))
    go w false e = h w e

act_sim : {P : Type 0} (l c : ℕ) (body : ℤ → Term P) (active : Actives P) (closed : Bool) (v : ℤ) (s : Memories) (m : Move P (Actives P)) (n : Answer P (Works P)) → ActMatches active v s m n →
    Matches work_of s (map_move (λ ts. pool l c body ts closed) m) (map_answer (λ ts. basin l c (λ x. work_of (body x)) (put_active v ts (active_of active)) closed) n)
act_sim l c body active closed v s (fails b z) n q = ap (map_answer (λ ts. basin l c (λ x. work_of (body x)) (put_active v ts (active_of active)) closed)) q
act_sim l c body active closed v s (goes b u xs) n q =
    ap (map_answer (λ ts. basin l c (λ x. work_of (body x)) (put_active v ts (active_of active)) closed)) q.0 ∙ ap (λ a. makes b (update_of u s) (basin l c (λ x. work_of (body x)) a closed)) (sym (same_put active xs v q.1))
act_sim l c body active closed v s no_move n q = ap (map_answer (λ ts. basin l c (λ x. work_of (body x)) (put_active v ts (active_of active)) closed)) q

first_act : {P : Type 0} (v : ℤ) (t : Term P) (ts : Actives P) (s : Memories) (m : Move P (Term P)) (n : Answer P (Work P)) → Matches work_of s m n → ActMatches (busy v t ts) v s (map_move (λ x. busy v x ts) m) (map_answer (λ x. and_work x (active_of ts v)) n)
first_act v t ts s (fails b z) n q = ap (map_answer (λ x. and_work x (active_of ts v))) q
first_act v t ts s (goes b u x) n q = (
  ap (map_answer (λ y. and_work y (active_of ts v))) q ∙ ap (λ a. makes b (update_of u s) (cond a (and_work (work_of x) (active_of ts v)) (active_of ts v))) (sym (same-refl v)),
  λ w e. ap (λ a. cond a (and_work (work_of x) (active_of ts w)) (active_of ts w)) e ∙ sym (ap (λ a. cond a (and_work (work_of t) (active_of ts w)) (active_of ts w)) e),
)
first_act v t ts s no_move n q = ap (map_answer (λ x. and_work x (active_of ts v))) q

later_act : {P : Type 0} (x : ℤ) (t : Term P) (ts : Actives P) (v : ℤ) (i : ℕ) (p : Route) (s : Memories) (m : Move P (Actives P)) → ActMatches ts v s m (act_at (active_of ts v) i p (stack_of s)) → (b : Bool) → int_eq x v ≡ b →
    ActMatches (busy x t ts) v s (map_move (busy x t) m) (act_at (cond b (and_work (work_of t) (active_of ts v)) (active_of ts v)) (cond b (suc i) i) p (stack_of s))
later_act x t ts v i p s (fails d z) q true e = ap (map_answer (λ y. and_work (work_of t) y)) q
later_act x t ts v i p s (fails d z) q false e = q
later_act x t ts v i p s (goes d u xs) q true e =
    (ap (map_answer (λ y. and_work (work_of t) y)) q.0 ∙ ap (λ a. makes d (update_of u s) (cond a (and_work (work_of t) (active_of xs v)) (active_of xs v))) (sym e), λ w f. ap (λ z. cond (int_eq x w) (and_work (work_of t) z) z) (q.1 w f))
later_act x t ts v i p s (goes d u xs) q false e =
    (q.0 ∙ ap (λ a. makes d (update_of u s) (cond a (and_work (work_of t) (active_of xs v)) (active_of xs v))) (sym e), λ w f. ap (λ z. cond (int_eq x w) (and_work (work_of t) z) z) (q.1 w f))
later_act x t ts v i p s no_move q true e = ap (map_answer (λ y. and_work (work_of t) y)) q
later_act x t ts v i p s no_move q false e = q

here : (x v : ℤ) → ◌≡◌ {A = Option ℤ} (Some x) (Some v) → x ≡ v
here x v e = cc

pool_sim : {P : Type 0} (l c : ℕ) (body : ℤ → Term P) (active : Actives P) (closed : Bool) (k : ℕ) (p : Path) (s : Memories) (o : Option ℤ) → value_at active k ≡ o →
    ((v : ℤ) → value_at active k ≡ Some v → ActMatches active v s (fire_active active k p s) (act_at (active_of active v) (number_at active v k) (route_in active k p s) (stack_of s))) →
    Matches work_of s (map_move (λ ts. pool l c body ts closed) (fire_active active k p s)) (act (work_of (pool l c body active closed)) (named o (λ v. acting v (number_at active v k) ∷ route_in active k p s)) (stack_of s))
pool_sim l c body active closed k p s None e h =
    subst (λ m. Matches work_of s (map_move (λ ts. pool l c body ts closed) m) no_answer) (sym (nobody active k p s e)) refl
pool_sim l c body active closed k p s (Some v) e h =
    act_sim l c body active closed v s (fire_active active k p s) (act_at (active_of active v) (number_at active v k) (route_in active k p s) (stack_of s)) (h v e)

-- ---- terms

nest_sim : {P : Type 0} (body : ℕ → Values → Term P) (exits : ℕ → Values → List (Exit P)) (own : Memory) (state : ℕ) (values : Values) (part : Term P) (p : Path) (s : Memories) (b : Bool) →
    Matches work_of (own ∷ s) (fire part p (own ∷ s)) (act (work_of part) (route_of part p (own ∷ s)) (stack_of (own ∷ s))) →
    Matches work_of s (cond b (transition body exits own (first_exit (exits state values) (own ∷ s))) (owned (λ f t. nested body exits f state values t) own (fire part p (own ∷ s))))
    (cond b (follow (λ k e. work_of (body k e)) exits (frame_of own) (first_exit (exits state values) (plain (stack_of (own ∷ s)))))
    (owned_answer (λ f t. nest (λ k e. work_of (body k e)) exits f state values t) (frame_of own) (act (work_of part) (cond b [] (route_of part p (own ∷ s))) (stack_of (own ∷ s)))))
nest_sim body exits own state values part p s true h =
    subst (λ r. Matches work_of s (transition body exits own (first_exit (exits state values) (own ∷ s))) (follow (λ k e. work_of (body k e)) exits (frame_of own) r))
    (sym (first_exit-plain (exits state values) (own ∷ s)))
    (follow_sim body exits own s (first_exit (exits state values) (own ∷ s)))
nest_sim body exits own state values part p s false h =
    matches_owned (λ f t. nested body exits f state values t) (λ f t. nest (λ k e. work_of (body k e)) exits f state values t) (λ m x. refl) own s (fire part p (own ∷ s)) (act (work_of part) (route_of part p (own ∷ s)) (stack_of (own ∷ s))) h

mutual
  -- a move of a term, seen as one of its image
  pub linked : {P : Type 0} (t : Term P) (p : Path) (s : Memories) → Matches work_of s (fire t p s) (act (work_of t) (route_of t p s) (stack_of s))
  linked (leaf place work) p s =
      subst (λ m. Matches work_of s (map_move (leaf place) (leaf_move place work s)) (map_answer (thread place) (leaf_answer m))) (sym (leaf_move-plain place work s))
      (matches_thread place s (leaf_move place work s) (within_leaf place (λ a. ⊥) work s))
  linked (list kind before parts) [] s = refl
  linked (list kind before parts) (k ∷ p) s =
      matches_map works_of work_of (list kind before) (group before) (λ x. refl) s (fire_part parts k p s) (act_at (works_of parts) k (route_at parts k p s) (stack_of s)) (linked_at parts k p s)
  linked (owning own part) p s =
      matches_owned owning scope (λ m x. refl) own s (fire part p (own ∷ s)) (act (work_of part) (route_of part p (own ∷ s)) (stack_of (own ∷ s))) (linked part p (own ∷ s))
  linked (nested body exits own state values part) p s =
      subst (λ c. Matches work_of s (fire (nested body exits own state values part) p s)
      (cond c (follow (λ k e. work_of (body k e)) exits (frame_of own) (first_exit (exits state values) (plain (stack_of (own ∷ s)))))
      (owned_answer (λ f t. nest (λ k e. work_of (body k e)) exits f state values t) (frame_of own) (act (work_of part) (route_of (nested body exits own state values part) p s) (stack_of (own ∷ s))))))
      (finished_is part)
      (nest_sim body exits own state values part p s (finished part) (linked part p (own ∷ s)))
  linked (ended own) p s = refl
  linked (pool l c body active closed) [] s = refl
  linked (pool l c body active closed) (zero ∷ []) s = refl
  linked (pool l c body active closed) (zero ∷ k ∷ p) s = taken_sim l c body active closed k s (slice_get (waiting l c s) k) refl
  linked (pool l c body active closed) (suc j ∷ []) s = refl
  linked (pool l c body active closed) (suc j ∷ k ∷ p) s = pool_sim l c body active closed k p s (value_at active k) refl (λ v e. linked_in active k p s v e)

  -- a move of the part k, seen as one of its image
  pub linked_at : {P : Type 0} (ts : Terms P) (k : ℕ) (p : Path) (s : Memories) → Matches works_of s (fire_part ts k p s) (act_at (works_of ts) k (route_at ts k p s) (stack_of s))
  linked_at none k p s = refl
  linked_at (also t ts) zero p s = matches_map work_of works_of (λ x. also x ts) (λ x. and_work x (works_of ts)) (λ x. refl) s (fire t p s) (act (work_of t) (route_of t p s) (stack_of s)) (linked t p s)
  linked_at (also t ts) (suc k) p s = matches_map works_of works_of (also t) (λ x. and_work (work_of t) x) (λ x. refl) s (fire_part ts k p s) (act_at (works_of ts) k (route_at ts k p s) (stack_of s)) (linked_at ts k p s)

  -- a move of the active term k, seen as one of its value's works in the image
  pub linked_in : {P : Type 0} (ts : Actives P) (k : ℕ) (p : Path) (s : Memories) (v : ℤ) → value_at ts k ≡ Some v → ActMatches ts v s (fire_active ts k p s) (act_at (active_of ts v) (number_at ts v k) (route_in ts k p s) (stack_of s))
  linked_in idle k p s v e = cc
  linked_in (busy x t ts) zero p s v e =
      subst (λ y. ActMatches (busy x t ts) y s (map_move (λ z. busy x z ts) (fire t p s)) (act_at (active_of (busy x t ts) y) 0 (route_of t p s) (stack_of s))) (here x v e)
      (subst (λ b. ActMatches (busy x t ts) x s (map_move (λ z. busy x z ts) (fire t p s)) (act_at (cond b (and_work (work_of t) (active_of ts x)) (active_of ts x)) 0 (route_of t p s) (stack_of s))) (sym (same-refl x))
      (first_act x t ts s (fire t p s) (act (work_of t) (route_of t p s) (stack_of s)) (linked t p s)))
  linked_in (busy x t ts) (suc k) p s v e =
      later_act x t ts v (number_at ts v k) (route_in ts k p s) s (fire_active ts k p s) (linked_in ts k p s v e) (int_eq x v) refl
