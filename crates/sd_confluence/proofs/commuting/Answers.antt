-- A next move has an answer.
use Rattle.std.proofs.Common.{◌≡◌, ℕ, zero, suc, List, [], ◌∷◌, Option, Some, None, Result, Ok, Err, ℤ, Bool, true, false, cond, not}
use Rattle.std.specs.Bool.{⊤}
use Rattle.sd_num.specs.declared.resolution.Resolution.{Resolution}
use Rattle.sd_work.specs.declared.fault.FaultKind.{FaultKind}
use Rattle.sd_work.specs.Memory.{Memories, Reference, seen}
use Rattle.sd_work.specs.Leaf.{Pending, write_value, transfer, push_to, Leaf, reading, doing, is_done}
use Rattle.sd_work.specs.LeafMove.{leaf_move, write_move, read_move, evaluation_move}
use Rattle.sd_work.specs.Move.{Fault}
use Rattle.sd_work.specs.Exit.{Values, Exit, first_exit}
use Rattle.sd_confluence.proofs.bags.BagMemory.{Frame, Stack, plain}
use Rattle.sd_confluence.proofs.bags.Works.{Work, thread, group, scope, nest, over, basin, Works, no_works, and_work, is_over, part_number, taking, acting, closing, Route, Answer, stops, makes, no_answer, map_answer, leaf_answer, follow, owned_answer, put_active, act, act_at, Can, CanAt, CanHere}

-- a move stops or goes on
abbrev pub IsAnswer : {P A : Type 0} → Answer P A → Type 0
IsAnswer (stops turn fault) = ⊤
IsAnswer (makes turn update left) = ⊤
IsAnswer no_answer = ⊥

map_answers : {P A B : Type 0} (f : A → B) (m : Answer P A) → IsAnswer m → IsAnswer (map_answer f m)
map_answers f (stops turn e) h = tt
map_answers f (makes turn u a) h = tt
map_answers f no_answer h = elim h [ ]

owned_answers : {P : Type 0} (make : Frame → Work P → Work P) (own : Frame) (m : Answer P (Work P)) → IsAnswer m → IsAnswer (owned_answer make own m)
owned_answers make own (stops turn e) h = tt
owned_answers make own (makes turn u t) h = tt
owned_answers make own no_answer h = elim h [ ]

cond_answers : {P A : Type 0} (b : Bool) (p : Route) (C : Type 0) (m n : Answer P A) → CanHere b p C → IsAnswer m → (C → IsAnswer n) → IsAnswer (cond b m n)
cond_answers true p C m n c h k = h
cond_answers false p C m n c h k = k c

follow_answers : {P : Type 0} (body : ℕ → Values → Work P) (exits : ℕ → Values → List (Exit P)) (own : Frame) (r : Result (Option (Exit P)) (Fault P)) → IsAnswer (follow body exits own r)
follow_answers body exits own (Err f) = tt
follow_answers body exits own (Ok None) = tt
follow_answers body exits own (Ok (Some e)) = tt

write_answers : {P : Type 0} (place : P) (o : Option ℤ) (r : Option Reference) (by : Option Resolution) (left : List Pending) → IsAnswer (leaf_answer (write_move place o r by left))
write_answers place None r by left = tt
write_answers place (Some v) None by left = tt
write_answers place (Some v) (Some r) by left = tt

read_answers : {P : Type 0} (place : P) (turn : Bool) (o : Option ℤ) (left : List (Option Reference)) (vs : List ℤ) (f : List ℤ → Result (List Pending) FaultKind) → IsAnswer (leaf_answer (read_move place turn o left vs f))
read_answers place turn None left vs f = tt
read_answers place turn (Some v) left vs f = tt

evaluation_answers : {P : Type 0} (place : P) (turn : Bool) (r : Result (List Pending) FaultKind) → IsAnswer (leaf_answer (evaluation_move place turn r))
evaluation_answers place turn (Ok es) = tt
evaluation_answers place turn (Err f) = tt

leaf_answers : {P : Type 0} (place : P) (w : Leaf) (s : Memories) → is_done w ≡ false → IsAnswer (leaf_answer (leaf_move place w s))
leaf_answers place (reading b [] vs f) s e = evaluation_answers place (not b) (f vs)
leaf_answers place (reading b (r ∷ rs) vs f) s e = read_answers place (not b) (seen r s) rs vs f
leaf_answers place (doing []) s e = cc
leaf_answers place (doing (write_value v to by ∷ es)) s e = write_answers place (Some v) to by es
leaf_answers place (doing (transfer from to by ∷ es)) s e = write_answers place (seen from s) to by es
leaf_answers place (doing (push_to l c v ∷ es)) s e = tt

mutual
  -- a next move stops or goes on
  pub can_answers : {P : Type 0} (t : Work P) (p : Route) (s : Stack) → Can t p s → IsAnswer (act t p s)
  can_answers (thread place w) p s c = map_answers (thread place) (leaf_answer (leaf_move place w (plain s))) (leaf_answers place w (plain s) c.0)
  can_answers (group before parts) [] s c = elim c [ ]
  can_answers (group before parts) (part_number k ∷ p) s c = map_answers (group before) (act_at parts k p s) (can_answers_at parts k p s c.1)
  can_answers (group before parts) (taking v ∷ p) s c = elim c [ ]
  can_answers (group before parts) (acting v k ∷ p) s c = elim c [ ]
  can_answers (group before parts) (closing ∷ p) s c = elim c [ ]
  can_answers (scope own inside) p s c = owned_answers scope own (act inside p (own ∷ s)) (can_answers inside p (own ∷ s) c)
  can_answers (nest body exits own state values inside) p s c =
      cond_answers (is_over inside) p (Can inside p (own ∷ s)) _ _ c (follow_answers body exits own (first_exit (exits state values) (plain (own ∷ s))))
      (λ d. owned_answers (λ f t. nest body exits f state values t) own (act inside p (own ∷ s)) (can_answers inside p (own ∷ s) d))
  can_answers (over own) p s c = elim c [ ]
  can_answers (basin l c body active closed) [] s d = elim d [ ]
  can_answers (basin l c body active closed) (part_number k ∷ p) s d = elim d [ ]
  can_answers (basin l c body active closed) (taking v ∷ p) s d = tt
  can_answers (basin l c body active closed) (acting v k ∷ p) s d =
      map_answers (λ ts. basin l c body (put_active v ts active) closed) (act_at (active v) k p s) (can_answers_at (active v) k p s d.1)
  can_answers (basin l c body active closed) (closing ∷ p) s d = tt

  -- the same of a part
  pub can_answers_at : {P : Type 0} (ts : Works P) (k : ℕ) (p : Route) (s : Stack) → CanAt ts k p s → IsAnswer (act_at ts k p s)
  can_answers_at no_works k p s c = elim c [ ]
  can_answers_at (and_work t ts) zero p s c = map_answers (λ x. and_work x ts) (act t p s) (can_answers t p s c)
  can_answers_at (and_work t ts) (suc k) p s c = map_answers (λ x. and_work t x) (act_at ts k p s) (can_answers_at ts k p s c)
