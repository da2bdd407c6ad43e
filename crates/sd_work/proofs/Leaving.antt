-- What holds of what a move leaves.
use Rattle.std.proofs.Common.{ℕ, ℤ, List, Option, Some, None, Result, Ok, Err, Bool, true, false, cond}
use Rattle.std.specs.Bool.{⊤}
use Rattle.sd_work.specs.Memory.{Memory}
use Rattle.sd_work.specs.Change.{own_after}
use Rattle.sd_work.specs.Move.{Fault, Move, fails, goes, no_move, map_move}
use Rattle.sd_work.specs.Exit.{Values, Exit}
use Rattle.sd_work.specs.Residual.{Term, nested, ended, pool, Actives}
use Rattle.sd_work.specs.Fire.{owned, transition, and_last, take_move}

-- what holds of what a move leaves
abbrev pub Leaves : {P A : Type 0} → (A → Type 0) → Move P A → Type 0
Leaves H (fails turn fault) = ⊤
Leaves H (goes turn change left) = H left
Leaves H no_move = ⊤

-- what holds of a whole with any part
pub leaves_any : {P A B : Type 0} (f : A → B) (H : B → Type 0) → ((x : A) → H (f x)) → (m : Move P A) → Leaves H (map_move f m)
leaves_any f H h (fails turn fault) = tt
leaves_any f H h (goes turn change left) = h left
leaves_any f H h no_move = tt

-- what holds of a whole where it does of the part that is left
pub leaves_map : {P A B : Type 0} (f : A → B) (G : A → Type 0) (H : B → Type 0) → ((x : A) → G x → H (f x)) → (m : Move P A) → Leaves G m → Leaves H (map_move f m)
leaves_map f G H h (fails turn fault) g = tt
leaves_map f G H h (goes turn change left) g = h left g
leaves_map f G H h no_move g = tt

-- what follows from it holds too
pub leaves_so : {P A : Type 0} (G H : A → Type 0) → ((x : A) → G x → H x) → (m : Move P A) → Leaves G m → Leaves H m
leaves_so G H h (fails turn fault) g = tt
leaves_so G H h (goes turn change left) g = h left g
leaves_so G H h no_move g = tt

-- and so do two things that hold
pub leaves_both : {P A : Type 0} (G H : A → Type 0) (m : Move P A) → Leaves G m → Leaves H m → Leaves (λ x. G x × H x) m
leaves_both G H (fails turn fault) g h = tt
leaves_both G H (goes turn change left) g h = (g, h)
leaves_both G H no_move g h = tt

-- what holds of an owner where it does of its part
pub leaves_owned : {P : Type 0} (G H : Term P → Type 0) (whole : Memory → Term P → Term P) (own : Memory) → ((memory : Memory) (x : Term P) → G x → H (whole memory x)) → (m : Move P (Term P)) → Leaves G m → Leaves H (owned whole own m)
leaves_owned G H whole own h (fails turn fault) g = tt
leaves_owned G H whole own h (goes turn change left) g = h (own_after change own) left g
leaves_owned G H whole own h no_move g = tt

-- of two moves by a test
pub leaves_cond : {P A : Type 0} (H : A → Type 0) (b : Bool) (m n : Move P A) → Leaves H m → Leaves H n → Leaves H (cond b m n)
leaves_cond H true m n g h = g
leaves_cond H false m n g h = h

-- a transition leaves an ended run, or the run with the body of a state
pub leaves_transition : {P : Type 0} (H : Term P → Type 0) (body : ℕ → Values → Term P) (exits : ℕ → Values → List (Exit P)) (own : Memory) →
    H (ended own) → ((state : ℕ) (values : Values) → H (nested body exits own state values (body state values))) → (r : Result (Option (Exit P)) (Fault P)) → Leaves H (transition body exits own r)
leaves_transition H body exits own g h (Err fault) = tt
leaves_transition H body exits own g h (Ok None) = g
leaves_transition H body exits own g h (Ok (Some exit)) = h exit.state exit.values

-- a take leaves the pool with one more active term
pub leaves_take : {P : Type 0} (H : Term P → Type 0) (level container : ℕ) (body : ℤ → Term P) (active : Actives P) (closed : Bool) → ((value : ℤ) → H (pool level container body (and_last active value (body value)) closed)) →
    (position : ℕ) (o : Option ℤ) → Leaves H (take_move level container body active closed position o)
leaves_take H level container body active closed h position None = tt
leaves_take H level container body active closed h position (Some value) = h value
