-- Two next moves of safe work commute, pools included.
use Rattle.std.proofs.Common.{◌≡◌, ℕ, zero, suc, pred, List, [], ◌∷◌, ℤ, Bool, true, false, cond, refl, sym, ◌∙◌, ap, subst}
use Rattle.sd_num.specs.Width.{wrapped_to}
use Rattle.sd_work.specs.Change.{changed_at}
use Rattle.sd_work.specs.Exit.{Values, Exit, first_exit}
use Rattle.sd_work.specs.Touch.{Touch, AreCompatible}
use Rattle.std.specs.Ordering.{int_eq}
use Rattle.sd_confluence.proofs.bags.Values.{same-true, same-refl, same-false}
use Rattle.sd_confluence.proofs.bags.BagMemory.{Holding, cells, bag, nth, nowhere, on_bag, add_one_of, drop_one_of, count_in, Frame, Stack, Update, keep, put, add, remove, updated, held, plain}
use Rattle.sd_confluence.proofs.bags.Works.{Work, thread, group, scope, nest, over, basin, Works, no_works, and_work, is_over, part_number, taking, acting, closing, Route, Answer, stops, makes, no_answer, map_answer, follow, owned_answer, at_last, put_active, act, act_at, Can, CanAt, CanHere}
use Rattle.sd_confluence.proofs.bags.WorkTouches.{WorkTouches, AllCompatible, work_at, Safe, AllSafe}
use Rattle.sd_confluence.proofs.bags.BagChanges.{apply_comm}
use Rattle.sd_confluence.proofs.commuting.Stable.{Covered, stable, stable_at, can_kept_at}
use Rattle.sd_confluence.proofs.commuting.Within.{Gives}
use Rattle.sd_confluence.proofs.commuting.NextMoves.{can_false, can_unfinished, clear}
use Rattle.sd_confluence.proofs.commuting.Stays.{in_part, body_unseen, covered_of, covered_at, stays_closing}
use Rattle.sd_confluence.proofs.commuting.Square.{Other, Square, at_place, square_map, beside, square_owned}

-- two changes at one place commute where they do at what stands there
at_comm_at : {A : Type 0} (d : A) (i j : ℕ) (f g : A → A) (xs : List A) → (i ≡ j → f (g (nth d i xs)) ≡ g (f (nth d i xs))) → changed_at i f (changed_at j g xs) ≡ changed_at j g (changed_at i f xs)
at_comm_at d i j f g [] h = refl
at_comm_at d zero zero f g (x ∷ xs) h = ap (λ y. y ∷ xs) (h refl)
at_comm_at d zero (suc j) f g (x ∷ xs) h = refl
at_comm_at d (suc i) zero f g (x ∷ xs) h = refl
at_comm_at d (suc i) (suc j) f g (x ∷ xs) h = ap (λ ys. x ∷ ys) (at_comm_at d i j f g xs (λ e. h (ap suc e)))

-- a value that waits can be taken before or after a push
drop_add : (v x : ℤ) (k : Holding) (n : ℕ) → count_in k v ≡ suc n → on_bag (λ width. drop_one_of v) (on_bag (λ width. add_one_of (wrapped_to width x)) k) ≡ on_bag (λ width. add_one_of (wrapped_to width x)) (on_bag (λ width. drop_one_of v) k)
drop_add v x (cells width elements) n e = refl
drop_add v x (bag width f) n e = ap (bag width) (λ i y. go y (int_eq v y) refl (int_eq (wrapped_to width x) y) i)
  where
    go : (y : ℤ) (a : Bool) → int_eq v y ≡ a → (b : Bool) → cond a (pred (cond b (suc (f y)) (f y))) (cond b (suc (f y)) (f y)) ≡ cond b (suc (cond a (pred (f y)) (f y))) (cond a (pred (f y)) (f y))
    go y true q true = let h : f y ≡ suc n = ap f (sym (same-true v y q)) ∙ e in h ∙ ap (λ m. suc (pred m)) (sym h)
    go y true q false = refl
    go y false q true = refl
    go y false q false = refl

take_push : (l c m d : ℕ) (v x : ℤ) (s : Stack) (n : ℕ) → held l c v s ≡ suc n → updated (remove l c v) (updated (add m d x) s) ≡ updated (add m d x) (updated (remove l c v) s)
take_push l c m d v x s n e =
    at_comm_at [] l m _ _ s (λ _. at_comm_at nowhere c d _ _ (nth [] l s) (λ _. drop_add v x (nth nowhere c (nth [] l s)) n e))

-- a take and what a body changes
take_body : (l c : ℕ) (v : ℤ) (u : Update) (T : Touch → Type 0) → Covered u T → (s : Stack) (n : ℕ) → held l c v s ≡ suc n → updated (remove l c v) (updated u s) ≡ updated u (updated (remove l c v) s)
take_body l c v keep T h s n e = refl
take_body l c v (put to by x) T h s n e = apply_comm (remove l c v) (put to by x) tt s
take_body l c v (add m d x) T h s n e = take_push l c m d v x s n e
take_body l c v (remove m d x) T h s n e = apply_comm (remove l c v) (remove m d x) tt s

pick_cond : {A : Type 0} (b c : Bool) (x y : A) → b ≡ c → cond b x y ≡ cond c x y
pick_cond b c x y e = ap (λ w. cond w x y) e

put_same : {P : Type 0} (v : ℤ) (ts : Works P) (active : ℤ → Works P) → put_active v ts active v ≡ ts
put_same v ts active = pick_cond (int_eq v v) true ts (active v) (same-refl v)

put_other : {P : Type 0} (v w : ℤ) (ts : Works P) (active : ℤ → Works P) → int_eq v w ≡ false → put_active v ts active w ≡ active w
put_other v w ts active e = pick_cond (int_eq v w) false ts (active w) e

put_twice : {P : Type 0} (v : ℤ) (ts us : Works P) (active : ℤ → Works P) → put_active v ts (put_active v us active) ≡ put_active v ts active
put_twice {P} v ts us active = λ i x. go (int_eq v x) (active x) i
  where
    go : (b : Bool) (a : Works P) → cond b ts (cond b us a) ≡ cond b ts a
    go true a = refl
    go false a = refl

put_self : {P : Type 0} (v : ℤ) (active : ℤ → Works P) → put_active v (active v) active ≡ active
put_self v active = λ i x. go x (int_eq v x) refl i
  where
    go : (x : ℤ) (b : Bool) → int_eq v x ≡ b → cond b (active v) (active x) ≡ active x
    go x true e = ap active (same-true v x e)
    go x false e = refl

put_put : {P : Type 0} (v w : ℤ) (ts us : Works P) (active : ℤ → Works P) → (v ≡ w → ⊥) → put_active v ts (put_active w us active) ≡ put_active w us (put_active v ts active)
put_put v w ts us active n = λ i x. go x (int_eq v x) refl (int_eq w x) refl i
  where
    go : (x : ℤ) (a : Bool) → int_eq v x ≡ a → (b : Bool) → int_eq w x ≡ b → cond a ts (cond b us (active x)) ≡ cond b us (cond a ts (active x))
    go x true e true f = absurd (n (same-true v x e ∙ sym (same-true w x f)))
    go x true e false f = refl
    go x false e true f = refl
    go x false e false f = refl

act_last : {P : Type 0} (us : Works P) (t : Work P) (k : ℕ) (p : Route) (s : Stack) → CanAt us k p s → act_at (at_last us t) k p s ≡ map_answer (λ x. at_last x t) (act_at us k p s)
act_last no_works t k p s c = elim c [ ]
act_last {P} (and_work u us) t zero p s c = go (act u p s)
  where
    go : (m : Answer P (Work P)) → map_answer (λ x. and_work x (at_last us t)) m ≡ map_answer (λ x. at_last x t) (map_answer (λ x. and_work x us) m)
    go (stops turn f) = refl
    go no_answer = refl
    go (makes turn v x) = refl
act_last {P} (and_work u us) t (suc k) p s c = ap (map_answer (λ x. and_work u x)) (act_last us t k p s c) ∙ go (act_at us k p s)
  where
    go : (m : Answer P (Works P)) → map_answer (λ x. and_work u x) (map_answer (λ x. at_last x t) m) ≡ map_answer (λ x. at_last x t) (map_answer (λ x. and_work u x) m)
    go (stops turn f) = refl
    go no_answer = refl
    go (makes turn v x) = refl

map_twice : {P A B C : Type 0} (f : A → B) (g : B → C) (m : Answer P A) → map_answer g (map_answer f m) ≡ map_answer (λ x. g (f x)) m
map_twice f g (stops turn e) = refl
map_twice f g no_answer = refl
map_twice f g (makes turn u x) = refl

-- moves of a pool
module _ {P : Type 0} (l c : ℕ) (body : ℤ → Work P) (active : ℤ → Works P) (closed : Bool) (s : Stack) (h : Safe (basin l c body active closed)) where
  of_part : (v : ℤ) (k : ℕ) (a : Touch) → WorkTouches (work_at (active v) k) a → AreCompatible a a
  of_part v k a x = h.2 a a (in_part body active v k a x) (in_part body active v k a x)

  -- the active works of v after v was taken
  more : ℤ → ℤ → Works P
  more v = put_active v (at_last (active v) (body v)) active

  take_take : (v w : ℤ) → (v ≡ w → ⊥) → Square act (basin l c body active closed) (taking v ∷ []) (taking w ∷ []) s
  unfolding more
  take_take v w n =
      let v_w : int_eq v w ≡ false = same-false v w n in
      let w_v : int_eq w v ≡ false = same-false w v (λ e. n (sym e)) in
      let first : put_active v (at_last (more w v) (body v)) (more w) ≡ put_active v (at_last (active v) (body v)) (more w) =
      ap (λ ts. put_active v (at_last ts (body v)) (more w)) (put_other w v (at_last (active w) (body w)) active w_v) in
      let second : put_active w (at_last (more v w) (body w)) (more v) ≡ put_active w (at_last (active w) (body w)) (more v) =
      ap (λ ts. put_active w (at_last ts (body w)) (more v)) (put_other v w (at_last (active v) (body v)) active v_w) in (
        basin l c body (more w) closed,
        refl,
        ap (λ a. makes false (remove l c v) (basin l c body a closed)) (first ∙ put_put v w (at_last (active v) (body v)) (at_last (active w) (body w)) active n ∙ sym second),
        apply_comm (remove l c v) (remove l c w) tt s,
      )

  stable_take : (v w : ℤ) (k : ℕ) (p : Route) → act_at (active w) k p (updated (remove l c v) s) ≡ act_at (active w) k p s
  stable_take v w k p = stable_at (active w) k p (remove l c v) s (λ b tb. body_unseen l c b (of_part w k b tb))

  -- a take and then a move of an active work
  take_act : (v : ℤ) (n : ℕ) → held l c v s ≡ suc n → (w : ℤ) (k : ℕ) (p : Route) → CanAt (active w) k p s → Square act (basin l c body active closed) (taking v ∷ []) (acting w k ∷ p) s
  unfolding more
  take_act v n e w k p a = go (int_eq v w) refl
    where
      -- for each move of the active work: what the other order gives
      both_orders : (m : Answer P (Works P)) → act_at (active w) k p s ≡ m → Gives (λ b u x. Covered u (WorkTouches (work_at (active w) k))) m → (f : Works P → ℤ → Works P) →
          ((us : Works P) → put_active v (at_last (put_active w us active v) (body v)) (put_active w us active) ≡ f us) →
          Gives (λ b u z. Other act (basin l c body active closed) (taking v ∷ []) (acting w k ∷ p) s false (remove l c v) b u z) (map_answer (λ us. basin l c body (f us) closed) m)
      both_orders (stops turn z) q g f r = tt
      both_orders no_answer q g f r = tt
      both_orders (makes turn u us) q g f r = (
        basin l c body (put_active w us active) closed,
        ap (map_answer (λ ts. basin l c body (put_active w ts active) closed)) q,
        ap (λ x. makes false (remove l c v) (basin l c body x closed)) (r us),
        take_body l c v u (WorkTouches (work_at (active w) k)) g s n e,
      )

      go : (b : Bool) → int_eq v w ≡ b → Square act (basin l c body active closed) (taking v ∷ []) (acting w k ∷ p) s
      go false q =
          let n' : v ≡ w → ⊥ = λ x. let bad : true ≡ false = sym (same-refl v) ∙ ap (int_eq v) x ∙ q in cc in
          let w_v : int_eq w v ≡ false = same-false w v (λ x. n' (sym x)) in
          let moved : act_at (more v w) k p (updated (remove l c v) s) ≡ act_at (active w) k p s =
          ap (λ ts. act_at ts k p (updated (remove l c v) s)) (put_other v w (at_last (active v) (body v)) active q) ∙ stable_take v w k p in
          subst (λ m. Gives (λ b u z. Other act (basin l c body active closed) (taking v ∷ []) (acting w k ∷ p) s false (remove l c v) b u z) m)
          (sym (ap (map_answer (λ us. basin l c body (put_active w us (more v)) closed)) moved))
          (both_orders (act_at (active w) k p s) refl (covered_at (active w) k p s) (λ us. put_active w us (more v))
          (λ us. ap (λ ts. put_active v (at_last ts (body v)) (put_active w us active)) (put_other w v us active w_v) ∙ put_put v w (at_last (active v) (body v)) us active n'))
      go true q =
          let same : v ≡ w = same-true v w q in
          let moved : act_at (more v w) k p (updated (remove l c v) s) ≡ map_answer (λ x. at_last x (body v)) (act_at (active w) k p s) =
          ap (λ ts. act_at ts k p (updated (remove l c v) s)) (ap (more v) (sym same) ∙ put_same v (at_last (active v) (body v)) active ∙ ap (λ x. at_last (active x) (body v)) same)
          ∙ act_last (active w) (body v) k p (updated (remove l c v) s) (kept same) ∙ ap (map_answer (λ x. at_last x (body v))) (stable_take v w k p) in
          subst (λ m. Gives (λ b u z. Other act (basin l c body active closed) (taking v ∷ []) (acting w k ∷ p) s false (remove l c v) b u z) m)
          (sym (ap (map_answer (λ us. basin l c body (put_active w us (more v)) closed)) moved ∙ map_twice (λ x. at_last x (body v)) (λ us. basin l c body (put_active w us (more v)) closed) (act_at (active w) k p s)))
          (both_orders (act_at (active w) k p s) refl (covered_at (active w) k p s) (λ us. put_active w (at_last us (body v)) (more v)) (λ us.
          subst (λ x. put_active v (at_last (put_active x us active v) (body v)) (put_active x us active) ≡ put_active x (at_last us (body v)) (more v)) same
          (ap (λ ts. put_active v (at_last ts (body v)) (put_active v us active)) (put_same v us active) ∙ put_twice v (at_last us (body v)) us active ∙ sym (put_twice v (at_last us (body v)) (at_last (active v) (body v)) active))))
        where
          kept : v ≡ w → CanAt (active w) k p (updated (remove l c v) s)
          kept x = can_kept_at (active w) k p (remove l c v) s (λ b tb. body_unseen l c b (of_part w k b tb)) a

  -- a move of an active work and then a take
  act_take : (v : ℤ) (i : ℕ) (p : Route) → CanAt (active v) i p s → (w : ℤ) (n : ℕ) → held l c w s ≡ suc n → Square act (basin l c body active closed) (acting v i ∷ p) (taking w ∷ []) s
  unfolding more
  act_take v i p a w n e = at_move (act_at (active v) i p s) refl (covered_at (active v) i p s)
    where
      after : (b : Bool) → int_eq w v ≡ b → (us : Works P) (d : Bool) (u : Update) → act_at (active v) i p s ≡ makes d u us →
          act (basin l c body (more w) closed) (acting v i ∷ p) (updated (remove l c w) s) ≡ makes d u (basin l c body (put_active w (at_last (put_active v us active w) (body w)) (put_active v us active)) closed)
      after false q us d u f =
          let n' : w ≡ v → ⊥ = λ x. let bad : true ≡ false = sym (same-refl w) ∙ ap (int_eq w) x ∙ q in cc in
          ap (map_answer (λ ts. basin l c body (put_active v ts (more w)) closed))
          (ap (λ ts. act_at ts i p (updated (remove l c w) s)) (put_other w v (at_last (active w) (body w)) active q) ∙ stable_take w v i p ∙ f)
          ∙ ap (λ x. makes d u (basin l c body x closed))
          (sym (ap (λ ts. put_active w (at_last ts (body w)) (put_active v us active)) (put_other v w us active (same-false v w (λ x. n' (sym x)))) ∙ put_put w v (at_last (active w) (body w)) us active n'))
      after true q us d u f =
          let same : w ≡ v = same-true w v q in
          let kept : CanAt (active v) i p (updated (remove l c w) s) = can_kept_at (active v) i p (remove l c w) s (λ b tb. body_unseen l c b (of_part v i b tb)) a in
          let moved : act_at (more w v) i p (updated (remove l c w) s) ≡ makes d u (at_last us (body v)) =
          ap (λ ts. act_at ts i p (updated (remove l c w) s)) (ap (more w) (sym same) ∙ put_same w (at_last (active w) (body w)) active ∙ ap (λ x. at_last (active x) (body x)) same)
          ∙ act_last (active v) (body v) i p (updated (remove l c w) s) kept ∙ ap (map_answer (λ x. at_last x (body v))) (stable_take w v i p ∙ f) in
          ap (map_answer (λ ts. basin l c body (put_active v ts (more w)) closed)) moved
          ∙ ap (λ x. makes d u (basin l c body x closed))
          (subst (λ x. put_active v (at_last us (body v)) (more x) ≡ put_active x (at_last (put_active v us active x) (body x)) (put_active v us active)) (sym same)
          (put_twice v (at_last us (body v)) (at_last (active v) (body v)) active
          ∙ sym (ap (λ ts. put_active v (at_last ts (body v)) (put_active v us active)) (put_same v us active) ∙ put_twice v (at_last us (body v)) us active)))

      at_move : (m : Answer P (Works P)) → act_at (active v) i p s ≡ m → Gives (λ b u x. Covered u (WorkTouches (work_at (active v) i))) m →
          Gives (λ b u y. Gives (λ d v' z. Other act (basin l c body active closed) (acting v i ∷ p) (taking w ∷ []) s b u d v' z) (act y (taking w ∷ []) (updated u s))) (map_answer (λ us. basin l c body (put_active v us active) closed) m)
      at_move (stops turn z) f g = tt
      at_move no_answer f g = tt
      at_move (makes d u us) f g =
          (basin l c body (more w) closed, refl, after (int_eq w v) refl us d u f, sym (take_body l c w u (WorkTouches (work_at (active v) i)) g s n e))

  -- moves of two active works
  act_act : (v : ℤ) (i : ℕ) (p : Route) (w : ℤ) (j : ℕ) (q : Route) → (v ≡ w → Square at_place (active v) (i, p) (j, q) s) → Square act (basin l c body active closed) (acting v i ∷ p) (acting w j ∷ q) s
  act_act v i p w j q sq = go (int_eq v w) refl
    where
      one_list : (k : ℕ) (r : Route) (x : Works P) (s' : Stack) → act (basin l c body (put_active v x active) closed) (acting v k ∷ r) s' ≡ map_answer (λ ts. basin l c body (put_active v ts active) closed) (act_at x k r s')
      one_list k r x s' =
          ap (λ ts. map_answer (λ us. basin l c body (put_active v us (put_active v x active)) closed) (act_at ts k r s')) (put_same v x active)
          ∙ ap (λ (f : Works P → ℤ → Works P). map_answer (λ us. basin l c body (f us) closed) (act_at x k r s')) (λ i' us. put_twice v us x active i')

      go : (b : Bool) → int_eq v w ≡ b → Square act (basin l c body active closed) (acting v i ∷ p) (acting w j ∷ q) s
      go true e =
          let same : v ≡ w = same-true v w e in
          subst (λ x. Square act (basin l c body active closed) (acting v i ∷ p) (acting x j ∷ q) s) same
          (subst (λ a. Square act (basin l c body a closed) (acting v i ∷ p) (acting v j ∷ q) s) (put_self v active)
          (square_map (λ ts. basin l c body (put_active v ts active) closed) at_place act (i, p) (j, q) (acting v i ∷ p) (acting v j ∷ q) (λ x s'. one_list i p x s') (λ x s'. one_list j q x s') (active v) s (sq same)))
      go false e =
          let n' : v ≡ w → ⊥ = λ x. let bad : true ≡ false = sym (same-refl v) ∙ ap (int_eq v) x ∙ e in cc in
          subst (λ a. Square act (basin l c body a closed) (acting v i ∷ p) (acting w j ∷ q) s) (ap (λ a. put_active w (active w) a) (put_self v active) ∙ put_self w active)
          (beside (λ x y. basin l c body (put_active w y (put_active v x active)) closed) act (acting v i ∷ p) (acting w j ∷ q) (λ x s'. act_at x i p s') (λ y s'. act_at y j q s')
          (λ x y s'.
          ap (λ ts. map_answer (λ us. basin l c body (put_active v us (put_active w y (put_active v x active))) closed) (act_at ts i p s')) (put_other w v y (put_active v x active) (same-false w v (λ z. n' (sym z))) ∙ put_same v x active)
          ∙ ap (λ (f : Works P → ℤ → Works P). map_answer (λ us. basin l c body (f us) closed) (act_at x i p s')) (λ i' us. (put_put v w us y (put_active v x active) n' ∙ ap (put_active w y) (put_twice v us x active)) i'))
          (λ x y s'.
          ap (λ ts. map_answer (λ us. basin l c body (put_active w us (put_active w y (put_active v x active))) closed) (act_at ts j q s')) (put_same w y (put_active v x active))
          ∙ ap (λ (f : Works P → ℤ → Works P). map_answer (λ us. basin l c body (f us) closed) (act_at y j q s')) (λ i' us. put_twice w us y (put_active v x active) i'))
          (active v) (active w) s (WorkTouches (work_at (active v) i)) (WorkTouches (work_at (active w) j)) (covered_at (active v) i p s) (covered_at (active w) j q s)
          (λ u av. stable_at (active v) i p u s av) (λ u av. stable_at (active w) j q u s av)
          (λ x y tx ty. h.2 x y (in_part body active v i x tx) (in_part body active w j y ty)))

swap_nest : {P : Type 0} (body : ℕ → Values → Work P) (exits : ℕ → Values → List (Exit P)) (own : Frame) (state : ℕ) (values : Values) (inside : Work P) (p q : Route) (s : Stack) → Safe inside →
    Can (nest body exits own state values inside) p s → Can (nest body exits own state values inside) q s → (p ≡ q → ⊥) →
    (Can inside p (own ∷ s) → Can inside q (own ∷ s) → Square act inside p q (own ∷ s)) → (b : Bool) → is_over inside ≡ b → Square act (nest body exits own state values inside) p q s
swap_nest body exits own state values inside p q s f c d n h true e =
    absurd (n ((subst (λ b. CanHere b p (Can inside p (own ∷ s))) e c) ∙ sym (subst (λ b. CanHere b q (Can inside q (own ∷ s))) e d)))
swap_nest body exits own state values inside p q s f c d n h false e =
    let c' : Can inside p (own ∷ s) = can_false (is_over inside) p (Can inside p (own ∷ s)) e c in
    let d' : Can inside q (own ∷ s) = can_false (is_over inside) q (Can inside q (own ∷ s)) e d in
    square_owned (λ f t. nest body exits f state values t) p q
    (λ f t s' x. ap (λ b. cond b (follow body exits f (first_exit (exits state values) (plain (f ∷ s')))) (owned_answer (λ f t. nest body exits f state values t) f (act t p (f ∷ s')))) (can_unfinished t p (f ∷ s') x))
    (λ f t s' x. ap (λ b. cond b (follow body exits f (first_exit (exits state values) (plain (f ∷ s')))) (owned_answer (λ f t. nest body exits f state values t) f (act t q (f ∷ s')))) (can_unfinished t q (f ∷ s') x))
    own inside s f c' d' n (h c' d')

-- two moves of a pool, with the squares of its active works
swap_pool : {P : Type 0} (l c : ℕ) (body : ℤ → Work P) (active : ℤ → Works P) (closed : Bool) (p q : Route) (s : Stack) → Safe (basin l c body active closed) →
    Can (basin l c body active closed) p s → Can (basin l c body active closed) q s → (p ≡ q → ⊥) →
    ((v : ℤ) (i : ℕ) (r : Route) (j : ℕ) (r' : Route) → CanAt (active v) i r s → CanAt (active v) j r' s → (i ≡ j → r ≡ r' → ⊥) → Square at_place (active v) (i, r) (j, r') s) →
    Square act (basin l c body active closed) p q s
swap_pool l c body active closed [] q s h a d n sq = elim a [ ]
swap_pool l c body active closed (part_number k ∷ p) q s h a d n sq = elim a [ ]
swap_pool l c body active closed (closing ∷ p) q s h a d n sq = absurd (stays_closing l c body active closed p q s a d n)
swap_pool l c body active closed (taking v ∷ p) [] s h a d n sq = elim d [ ]
swap_pool l c body active closed (taking v ∷ p) (part_number k ∷ q) s h a d n sq = elim d [ ]
swap_pool l c body active closed (taking v ∷ p) (closing ∷ q) s h a d n sq = absurd (stays_closing l c body active closed q (taking v ∷ p) s d a (λ e. n (sym e)))
swap_pool l c body active closed (taking v ∷ p) (taking w ∷ q) s h a d n sq =
    let m : v ≡ w → ⊥ = λ e. n (λ k. taking (e k) ∷ (a.1 ∙ sym d.1) k) in
    subst (λ r. Square act (basin l c body active closed) (taking v ∷ r) (taking w ∷ q) s) (sym a.1)
    (subst (λ r. Square act (basin l c body active closed) (taking v ∷ []) (taking w ∷ r) s) (sym d.1) (take_take l c body active closed s h v w m))
swap_pool l c body active closed (taking v ∷ p) (acting w k ∷ q) s h a d n sq =
    subst (λ r. Square act (basin l c body active closed) (taking v ∷ r) (acting w k ∷ q) s) (sym a.1) (take_act l c body active closed s h v a.2.0 a.2.1 w k q d.1)
swap_pool l c body active closed (acting v i ∷ p) [] s h a d n sq = elim d [ ]
swap_pool l c body active closed (acting v i ∷ p) (part_number k ∷ q) s h a d n sq = elim d [ ]
swap_pool l c body active closed (acting v i ∷ p) (closing ∷ q) s h a d n sq = absurd (stays_closing l c body active closed q (acting v i ∷ p) s d a (λ e. n (sym e)))
swap_pool l c body active closed (acting v i ∷ p) (taking w ∷ q) s h a d n sq =
    subst (λ r. Square act (basin l c body active closed) (acting v i ∷ p) (taking w ∷ r) s) (sym d.1) (act_take l c body active closed s h v i p a.1 w d.2.0 d.2.1)
swap_pool l c body active closed (acting v i ∷ p) (acting w j ∷ q) s h a d n sq =
    act_act l c body active closed s h v i p w j q (λ e. sq v i p j q a.1 (subst (λ x. CanAt (active x) j q s) (sym e) d.1) (λ f g. n (λ k. acting (e k) (f k) ∷ g k)))

mutual
  -- two next moves of safe work commute
  pub swap : {P : Type 0} (t : Work P) (p q : Route) (s : Stack) → Safe t → Can t p s → Can t q s → (p ≡ q → ⊥) → Square act t p q s
  swap (thread place w) p q s h c d n = absurd (n (c.1 ∙ sym d.1))
  swap (group before parts) [] q s h c d n = elim c [ ]
  swap (group before parts) (taking v ∷ p) q s h c d n = elim c [ ]
  swap (group before parts) (acting v k ∷ p) q s h c d n = elim c [ ]
  swap (group before parts) (closing ∷ p) q s h c d n = elim c [ ]
  swap (group before parts) (part_number k ∷ p) [] s h c d n = elim d [ ]
  swap (group before parts) (part_number k ∷ p) (taking v ∷ q) s h c d n = elim d [ ]
  swap (group before parts) (part_number k ∷ p) (acting v l ∷ q) s h c d n = elim d [ ]
  swap (group before parts) (part_number k ∷ p) (closing ∷ q) s h c d n = elim d [ ]
  swap (group before parts) (part_number k ∷ p) (part_number l ∷ q) s h c d n =
      square_map (group before) at_place act (k, p) (l, q) (part_number k ∷ p) (part_number l ∷ q) (λ x s'. refl) (λ x s'. refl) parts s
      (swap_at parts k p l q s h.0 c.1 d.1 (λ e e'. n (λ i. part_number (e i) ∷ e' i)) (clear before parts k p l q s h.1 c d))
  swap (scope own inside) p q s h c d n =
      square_owned scope p q (λ f t s' x. refl) (λ f t s' x. refl) own inside s h c d n (swap inside p q (own ∷ s) h c d n)
  swap (nest body exits own state values inside) p q s h c d n =
      swap_nest body exits own state values inside p q s h.0 c d n (λ c' d'. swap inside p q (own ∷ s) h.0 c' d' n) (is_over inside) refl
  swap (over own) p q s h c d n = elim c [ ]
  swap (basin l c body active closed) p q s h a d n =
      swap_pool l c body active closed p q s h a d n (λ v i r j r' x y m. swap_at (active v) i r j r' s (h.0 v) x y m (λ z x' y' tx ty. h.2 x' y' (in_part body active v i x' tx) (in_part body active v j y' ty)))

  -- the same of two parts, or of two moves of one part
  pub swap_at : {P : Type 0} (ts : Works P) (k : ℕ) (p : Route) (l : ℕ) (q : Route) (s : Stack) → AllSafe ts → CanAt ts k p s → CanAt ts l q s → (k ≡ l → p ≡ q → ⊥) → ((k ≡ l → ⊥) → AllCompatible (work_at ts k) (work_at ts l)) → Square at_place ts (k, p) (l, q) s
  swap_at no_works k p l q s h c d n a = elim c [ ]
  swap_at (and_work t ts) zero p zero q s h c d n a =
      square_map (λ x. and_work x ts) act at_place p q (0, p) (0, q) (λ x s'. refl) (λ x s'. refl) t s (swap t p q s h.0 c d (n refl))
  swap_at (and_work t ts) zero p (suc l) q s h c d n a =
      beside and_work at_place (0, p) (suc l, q) (λ x s'. act x p s') (λ x s'. act_at x l q s') (λ x y s'. refl) (λ x y s'. refl) t ts s (WorkTouches t) (WorkTouches (work_at ts l))
      (covered_of t p s) (covered_at ts l q s) (λ u av. stable t p u s av) (λ u av. stable_at ts l q u s av) (λ x y tx ty. a (λ e. cc) x y tx ty)
  swap_at (and_work t ts) (suc k) p zero q s h c d n a =
      beside (λ us x. and_work x us) at_place (suc k, p) (0, q) (λ x s'. act_at x k p s') (λ x s'. act x q s') (λ x y s'. refl) (λ x y s'. refl) ts t s (WorkTouches (work_at ts k)) (WorkTouches t)
      (covered_at ts k p s) (covered_of t q s) (λ u av. stable_at ts k p u s av) (λ u av. stable t q u s av) (λ x y tx ty. a (λ e. cc) x y tx ty)
  swap_at (and_work t ts) (suc k) p (suc l) q s h c d n a =
      square_map (λ x. and_work t x) at_place at_place (k, p) (l, q) (suc k, p) (suc l, q) (λ x s'. refl) (λ x s'. refl) ts s
      (swap_at ts k p l q s h.1 c d (λ e. n (ap suc e)) (λ m. a (λ e. m (ap pred e))))
