-- Residual work with bags: streams have no order, active terms go by their values, and the closing of a pool is a move.
use Rattle.std.proofs.Common.{◌≡◌, ℕ, zero, suc, List, [], ◌∷◌, Option, Some, None, Result, Ok, Err, ℤ, Bool, true, false, ◌&&◌, cond}
use Rattle.sd_work.specs.Leaf.{Leaf, is_done}
use Rattle.sd_work.specs.Move.{Fault, Move, fails, goes, no_move}
use Rattle.sd_work.specs.LeafMove.{leaf_move}
use Rattle.sd_work.specs.Exit.{Values, Exit, first_exit}
use Rattle.sd_work.specs.Residual.{is_ready}
use Rattle.std.specs.Ordering.{int_eq}
use Rattle.sd_confluence.proofs.bags.BagMemory.{Frame, Stack, Update, keep, remove, update_by, outer_update, own_update, plain, held}

mutual
  pub data Work (P : Type 0) : Type 0 where
    thread : (place : P) → (work : Leaf) → Work P
    -- items of a list or points of a map
    group : (before : ℕ → ℕ → Bool) → (parts : Works P) → Work P
    scope : (own : Frame) → (part : Work P) → Work P
    nest : (body : ℕ → Values → Work P) → (exits : ℕ → Values → List (Exit P)) → (own : Frame) → (state : ℕ) → (values : Values) → (part : Work P) → Work P
    over : (own : Frame) → Work P
    -- a pool: the active works of each value, in the order of taking
    basin : (level container : ℕ) → (body : ℤ → Work P) → (active : ℤ → Works P) → (closed : Bool) → Work P

  pub data Works (P : Type 0) : Type 0 where
    no_works : Works P
    and_work : Work P → Works P → Works P

abbrev mutual
  pub is_over : {P : Type 0} → Work P → Bool
  is_over (thread place work) = is_done work
  is_over (group before parts) = all_over parts
  is_over (scope own part) = is_over part
  is_over (nest body exits own state values part) = false
  is_over (over own) = true
  is_over (basin l c body active closed) = closed

  pub all_over : {P : Type 0} → Works P → Bool
  all_over no_works = true
  all_over (and_work t ts) = is_over t && all_over ts

-- which parts are over, in order
abbrev pub overs : {P : Type 0} → Works P → List Bool
overs no_works = []
overs (and_work t ts) = is_over t ∷ overs ts

-- a place in a work: a part by its number, and in a pool an active work by its value and its number among those of this value
pub data Hop : Type 0 where
  part_number : ℕ → Hop
  taking : ℤ → Hop
  acting : ℤ → ℕ → Hop
  closing : Hop

abbrev pub Route : Type 0
Route = List Hop

-- what a move answers
pub data Answer (P A : Type 0) : Type 0 where
  stops : (turn : Bool) → (fault : Fault P) → Answer P A
  makes : (turn : Bool) → (update : Update) → (left : A) → Answer P A
  no_answer : Answer P A

abbrev pub map_answer : {P A B : Type 0} → (A → B) → Answer P A → Answer P B
map_answer f (stops turn e) = stops turn e
map_answer f (makes turn u a) = makes turn u (f a)
map_answer f no_answer = no_answer

-- the answer of a leaf's move
abbrev pub leaf_answer : {P : Type 0} → Move P Leaf → Answer P Leaf
leaf_answer (fails turn fault) = stops turn fault
leaf_answer (goes turn change left) = makes turn (update_by change) left
leaf_answer no_move = no_answer

abbrev pub follow : {P : Type 0} → (ℕ → Values → Work P) → (ℕ → Values → List (Exit P)) → Frame → Result (Option (Exit P)) (Fault P) → Answer P (Work P)
follow body exits own (Err fault) = stops false fault
follow body exits own (Ok None) = makes false keep (over own)
follow body exits own (Ok (Some exit)) = makes exit.marked keep (nest body exits own exit.state exit.values (body exit.state exit.values))

abbrev pub owned_answer : {P : Type 0} → (Frame → Work P → Work P) → Frame → Answer P (Work P) → Answer P (Work P)
owned_answer make own (stops turn fault) = stops turn fault
owned_answer make own (makes turn u t) = makes turn (outer_update u) (make (own_update u own) t)
owned_answer make own no_answer = no_answer

abbrev pub at_last : {P : Type 0} → Works P → Work P → Works P
at_last no_works t = and_work t no_works
at_last (and_work u us) t = and_work u (at_last us t)

abbrev pub put_active : {P : Type 0} → ℤ → Works P → (ℤ → Works P) → ℤ → Works P
put_active v ts active w = cond (int_eq v w) ts (active w)

-- the move at a place
abbrev mutual
  pub act : {P : Type 0} → Work P → Route → Stack → Answer P (Work P)
  act (thread place work) p s = map_answer (thread place) (leaf_answer (leaf_move place work (plain s)))
  act (group before parts) [] s = no_answer
  act (group before parts) (part_number k ∷ p) s = map_answer (group before) (act_at parts k p s)
  act (group before parts) (taking v ∷ p) s = no_answer
  act (group before parts) (acting v k ∷ p) s = no_answer
  act (group before parts) (closing ∷ p) s = no_answer
  act (scope own part) p s = owned_answer scope own (act part p (own ∷ s))
  act (nest body exits own state values part) p s =
      cond (is_over part)
      (follow body exits own (first_exit (exits state values) (plain (own ∷ s))))
      (owned_answer (λ f t. nest body exits f state values t) own (act part p (own ∷ s)))
  act (over own) p s = no_answer
  act (basin l c body active closed) [] s = no_answer
  act (basin l c body active closed) (part_number k ∷ p) s = no_answer
  act (basin l c body active closed) (taking v ∷ p) s = makes false (remove l c v) (basin l c body (put_active v (at_last (active v) (body v)) active) closed)
  act (basin l c body active closed) (acting v k ∷ p) s = map_answer (λ ts. basin l c body (put_active v ts active) closed) (act_at (active v) k p s)
  act (basin l c body active closed) (closing ∷ p) s = makes false keep (basin l c body active true)

  pub act_at : {P : Type 0} → Works P → ℕ → Route → Stack → Answer P (Works P)
  act_at no_works k p s = no_answer
  act_at (and_work t ts) zero p s = map_answer (λ x. and_work x ts) (act t p s)
  act_at (and_work t ts) (suc k) p s = map_answer (λ x. and_work t x) (act_at ts k p s)

abbrev pub CanHere : Bool → Route → Type 0 → Type 0
CanHere true p C = p ≡ []
CanHere false p C = C

-- that a move is among the next ones
abbrev mutual
  pub Can : {P : Type 0} → Work P → Route → Stack → Type 0
  Can (thread place work) p s = (is_done work ≡ false) × (p ≡ [])
  Can (group before parts) [] s = ⊥
  Can (group before parts) (part_number k ∷ p) s = (is_ready before (overs parts) k ≡ true) × CanAt parts k p s
  Can (group before parts) (taking v ∷ p) s = ⊥
  Can (group before parts) (acting v k ∷ p) s = ⊥
  Can (group before parts) (closing ∷ p) s = ⊥
  Can (scope own part) p s = Can part p (own ∷ s)
  Can (nest body exits own state values part) p s = CanHere (is_over part) p (Can part p (own ∷ s))
  Can (over own) p s = ⊥
  Can (basin l c body active closed) [] s = ⊥
  Can (basin l c body active closed) (part_number k ∷ p) s = ⊥
  Can (basin l c body active closed) (taking v ∷ p) s = (closed ≡ false) × (p ≡ []) × ((n : ℕ) × (held l c v s ≡ suc n))
  Can (basin l c body active closed) (acting v k ∷ p) s = (closed ≡ false) × CanAt (active v) k p s
  Can (basin l c body active closed) (closing ∷ p) s =
      (closed ≡ false) × (p ≡ []) × ((v : ℤ) → all_over (active v) ≡ true) × ((v : ℤ) → held l c v s ≡ 0)

  pub CanAt : {P : Type 0} → Works P → ℕ → Route → Stack → Type 0
  CanAt no_works k p s = ⊥
  CanAt (and_work t ts) zero p s = Can t p s
  CanAt (and_work t ts) (suc k) p s = CanAt ts k p s
