-- A move takes from no stream that its term does not touch.
use Rattle.std.proofs.Common.{ℕ, zero, suc, List, [], ◌∷◌, Option, Some, None, Result, Ok, Err, ℤ, Bool, true, false, not, cond, slice_get, refl, inl, inr}
use Rattle.std.specs.Bool.{⊤}
use Rattle.sd_num.specs.declared.resolution.Resolution.{Resolution}
use Rattle.sd_work.specs.declared.fault.FaultKind.{FaultKind}
use Rattle.sd_work.specs.Memory.{Memory, Memories, Reference, seen, waiting}
use Rattle.sd_work.specs.Change.{Change, nothing, write, push, take, outer, outer_write}
use Rattle.sd_work.specs.Leaf.{Pending, write_value, transfer, push_to, Leaf, reading, doing}
use Rattle.sd_work.specs.Move.{Fault, Move, fails, goes, no_move, map_move}
use Rattle.sd_work.specs.LeafMove.{write_move, read_move, evaluation_move, leaf_move}
use Rattle.sd_work.specs.Exit.{Values, Exit, first_exit}
use Rattle.sd_work.specs.Residual.{Term, leaf, list, owning, nested, ended, pool, Terms, none, also, Actives, idle, busy, finished}
use Rattle.sd_work.specs.Moves.{Path}
use Rattle.sd_work.specs.Fire.{owned, transition, take_move, fire, fire_part, fire_active}
use Rattle.sd_work.specs.Touch.{Touch, takes, inner, Touches, SomePartTouches, SomeActiveTouches}

-- a stream that a change takes from is among these
abbrev pub TakesOf : Change → (Touch → Type 0) → Type 0
TakesOf nothing T = ⊤
TakesOf (write to by value) T = ⊤
TakesOf (push level container value) T = ⊤
TakesOf (take level container position) T = T (takes level container)

-- it is among more touches
pub takes_more : (u : Change) (T U : Touch → Type 0) → ((a : Touch) → T a → U a) → TakesOf u T → TakesOf u U
takes_more nothing T U h g = tt
takes_more (write to by value) T U h g = tt
takes_more (push l c w) T U h g = tt
takes_more (take l c k) T U h g = h (takes l c) g

takes_outer : (u : Change) (T : Touch → Type 0) → TakesOf u T → TakesOf (outer u) (λ a. T (inner a))
takes_outer nothing T g = tt
takes_outer (write to by value) T g = go to.level to.container to.element
  where
    go : (l c p : ℕ) → TakesOf (outer_write l c p by value) (λ a. T (inner a))
    go zero c p = tt
    go (suc l) c p = tt
takes_outer (push zero c w) T g = tt
takes_outer (push (suc l) c w) T g = tt
takes_outer (take zero c k) T g = tt
takes_outer (take (suc l) c k) T g = g

-- what holds of the change of a move
abbrev pub Changes : {P A : Type 0} → (Change → A → Type 0) → Move P A → Type 0
Changes H (fails turn fault) = ⊤
Changes H (goes turn change left) = H change left
Changes H no_move = ⊤

-- what holds of the change of a move of a part, as one of the whole
pub changes_map : {P A B : Type 0} (f : A → B) (G : Change → A → Type 0) (H : Change → B → Type 0) → ((u : Change) (x : A) → G u x → H u (f x)) → (m : Move P A) → Changes G m → Changes H (map_move f m)
changes_map f G H h (fails turn fault) g = tt
changes_map f G H h (goes turn change left) g = h change left g
changes_map f G H h no_move g = tt

changes_cond : {P A : Type 0} (H : Change → A → Type 0) (b : Bool) (m n : Move P A) → Changes H m → Changes H n → Changes H (cond b m n)
changes_cond H true m n g h = g
changes_cond H false m n g h = h

-- a move takes from no streams but these
abbrev pub TakesWithin : {P A : Type 0} → (Touch → Type 0) → Move P A → Type 0
TakesWithin {P} {A} T m = Changes (λ u x. TakesOf u T) m

within_map : {P A B : Type 0} (f : A → B) (T U : Touch → Type 0) → ((a : Touch) → T a → U a) → (m : Move P A) → TakesWithin T m → TakesWithin U (map_move f m)
within_map f T U h m g = changes_map f (λ u x. TakesOf u T) (λ u x. TakesOf u U) (λ u x. takes_more u T U h) m g

within_owned : {P : Type 0} (whole : Memory → Term P → Term P) (own : Memory) (T U : Touch → Type 0) → ((a : Touch) → T (inner a) → U a) → (m : Move P (Term P)) → TakesWithin T m → TakesWithin U (owned whole own m)
within_owned whole own T U h (fails turn fault) g = tt
within_owned whole own T U h (goes turn change left) g = takes_more (outer change) (λ a. T (inner a)) U h (takes_outer change T g)
within_owned whole own T U h no_move g = tt

within_transition : {P : Type 0} (body : ℕ → Values → Term P) (exits : ℕ → Values → List (Exit P)) (own : Memory) (T : Touch → Type 0) (r : Result (Option (Exit P)) (Fault P)) → TakesWithin T (transition body exits own r)
within_transition body exits own T (Err fault) = tt
within_transition body exits own T (Ok None) = tt
within_transition body exits own T (Ok (Some exit)) = tt

within_take : {P : Type 0} (l c : ℕ) (body : ℤ → Term P) (active : Actives P) (closed : Bool) (k : ℕ) (o : Option ℤ) → TakesWithin (Touches (pool l c body active closed)) (take_move l c body active closed k o)
within_take l c body active closed k None = tt
within_take l c body active closed k (Some v) = inl refl

within_write : {P : Type 0} (place : P) (T : Touch → Type 0) (o : Option ℤ) (to : Option Reference) (by : Option Resolution) (left : List Pending) → TakesWithin T (write_move place o to by left)
within_write place T None to by left = tt
within_write place T (Some v) None by left = tt
within_write place T (Some v) (Some to) by left = tt

-- a leaf takes from no stream
pub within_leaf : {P : Type 0} (place : P) (T : Touch → Type 0) (work : Leaf) (s : Memories) → TakesWithin T (leaf_move place work s)
within_leaf {P} place T (reading begun [] values evaluation) s = go (evaluation values)
  where
    go : (r : Result (List Pending) FaultKind) → TakesWithin T (evaluation_move place (not begun) r)
    go (Err kind) = tt
    go (Ok effects) = tt
within_leaf {P} place T (reading begun (next ∷ left) values evaluation) s = go (seen next s)
  where
    go : (o : Option ℤ) → TakesWithin T (read_move place (not begun) o left values evaluation)
    go None = tt
    go (Some v) = tt
within_leaf place T (doing []) s = tt
within_leaf place T (doing (write_value v to by ∷ es)) s = within_write place T (Some v) to by es
within_leaf place T (doing (transfer from to by ∷ es)) s = within_write place T (seen from s) to by es
within_leaf place T (doing (push_to l c v ∷ es)) s = tt

mutual
  -- a stream that a move takes from is touched by its term
  pub takes-touched : {P : Type 0} (t : Term P) (p : Path) (s : Memories) → Changes (λ u x. TakesOf u (Touches t)) (fire t p s)
  takes-touched (leaf place work) p s = within_map (leaf place) (Touches (leaf place work)) (Touches (leaf place work)) (λ a x. x) (leaf_move place work s) (within_leaf place (Touches (leaf place work)) work s)
  takes-touched (list kind before parts) [] s = tt
  takes-touched (list kind before parts) (k ∷ p) s = within_map (list kind before) (SomePartTouches parts) (SomePartTouches parts) (λ a x. x) (fire_part parts k p s) (part_takes parts k p s)
  takes-touched (owning own part) p s = within_owned owning own (Touches part) (Touches (owning own part)) (λ a x. x) (fire part p (own ∷ s)) (takes-touched part p (own ∷ s))
  takes-touched (nested body exits own state values part) p s =
      changes_cond (λ u x. TakesOf u (Touches (nested body exits own state values part))) (finished part) _ _
      (within_transition body exits own (Touches (nested body exits own state values part)) (first_exit (exits state values) (own ∷ s)))
      (within_owned (λ f x. nested body exits f state values x) own (Touches part) (Touches (nested body exits own state values part)) (λ a x. inl x) (fire part p (own ∷ s)) (takes-touched part p (own ∷ s)))
  takes-touched (ended own) p s = tt
  takes-touched (pool l c body active closed) [] s = tt
  takes-touched (pool l c body active closed) (zero ∷ []) s = tt
  takes-touched (pool l c body active closed) (zero ∷ k ∷ p) s = within_take l c body active closed k (slice_get (waiting l c s) k)
  takes-touched (pool l c body active closed) (suc n ∷ []) s = tt
  takes-touched (pool l c body active closed) (suc n ∷ k ∷ p) s =
      within_map (λ x. pool l c body x closed) (SomeActiveTouches active) (Touches (pool l c body active closed)) (λ a x. inr (inl x)) (fire_active active k p s) (active_takes active k p s)

  part_takes : {P : Type 0} (ts : Terms P) (k : ℕ) (p : Path) (s : Memories) → TakesWithin (SomePartTouches ts) (fire_part ts k p s)
  part_takes none k p s = tt
  part_takes (also t ts) zero p s = within_map (λ x. also x ts) (Touches t) (SomePartTouches (also t ts)) (λ a x. inl x) (fire t p s) (takes-touched t p s)
  part_takes (also t ts) (suc k) p s = within_map (also t) (SomePartTouches ts) (SomePartTouches (also t ts)) (λ a x. inr x) (fire_part ts k p s) (part_takes ts k p s)

  active_takes : {P : Type 0} (ts : Actives P) (k : ℕ) (p : Path) (s : Memories) → TakesWithin (SomeActiveTouches ts) (fire_active ts k p s)
  active_takes idle k p s = tt
  active_takes (busy v t ts) zero p s = within_map (λ x. busy v x ts) (Touches t) (SomeActiveTouches (busy v t ts)) (λ a x. inl x) (fire t p s) (takes-touched t p s)
  active_takes (busy v t ts) (suc k) p s = within_map (busy v t) (SomeActiveTouches ts) (SomeActiveTouches (busy v t ts)) (λ a x. inr x) (fire_active ts k p s) (active_takes ts k p s)
