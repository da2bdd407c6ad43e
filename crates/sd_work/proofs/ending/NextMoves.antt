-- At the place of each next move there is a move.
use Rattle.std.proofs.Common.{◌≡◌, ℕ, suc, ◌+◌, ℤ, List, [], ◌∷◌, ◌++◌, Option, Some, None, Result, Ok, Err, Bool, true, false, cond, not, refl, sym, ◌∙◌, ap, subst, arith, slice_get}
use Rattle.std.specs.Bool.{⊤}
use Rattle.sd_work.specs.declared.fault.FaultKind.{FaultKind}
use Rattle.sd_work.specs.Memory.{Memory, Memories, Reference, seen, waiting}
use Rattle.sd_work.specs.Leaf.{Pending, Evaluation, reading, doing}
use Rattle.sd_work.specs.Move.{Fault, Move, fails, goes, no_move, map_move}
use Rattle.sd_work.specs.LeafMove.{do_move, read_move, evaluation_move}
use Rattle.sd_work.specs.Exit.{Values, Exit, first_exit}
use Rattle.sd_work.specs.Residual.{Term, leaf, list, owning, nested, ended, pool, Terms, none, also, Actives, idle, busy, finished, flags_of, is_ready}
use Rattle.sd_work.specs.Moves.{Path, moves_in, takes_from, moves, moves_of_parts, moves_of_active}
use Rattle.sd_work.specs.Fire.{owned, transition, take_move, fire, fire_part, fire_active}
use Rattle.sd_work.proofs.left_to_right.LeftmostOwners.{effect_some}
use Rattle.sd_work.proofs.Paths.{AllOf, all_more, all_append, all_in, all_if, all_unless}

-- there is a move
abbrev pub IsMove : {P A : Type 0} → Move P A → Type 0
IsMove (fails turn fault) = ⊤
IsMove (goes turn change left) = ⊤
IsMove no_move = ⊥

is_mapped : {P A B : Type 0} (f : A → B) (m : Move P A) → IsMove m → IsMove (map_move f m)
is_mapped f (fails turn fault) h = tt
is_mapped f (goes turn change left) h = tt
is_mapped f no_move h = elim h [ ]

is_owned : {P : Type 0} (whole : Memory → Term P → Term P) (own : Memory) (m : Move P (Term P)) → IsMove m → IsMove (owned whole own m)
is_owned whole own (fails turn fault) h = tt
is_owned whole own (goes turn change left) h = tt
is_owned whole own no_move h = elim h [ ]

is_some : {P A : Type 0} (m : Move P A) → (m ≡ no_move → ⊥) → IsMove m
is_some (fails turn fault) h = tt
is_some (goes turn change left) h = tt
is_some no_move h = absurd (h refl)

is_transition : {P : Type 0} (body : ℕ → Values → Term P) (exits : ℕ → Values → List (Exit P)) (own : Memory) (r : Result (Option (Exit P)) (Fault P)) → IsMove (transition body exits own r)
is_transition body exits own (Err fault) = tt
is_transition body exits own (Ok None) = tt
is_transition body exits own (Ok (Some exit)) = tt

is_read : {P : Type 0} (place : P) (turn : Bool) (o : Option ℤ) (left : List (Option Reference)) (values : List ℤ) (evaluation : Evaluation) → IsMove (read_move place turn o left values evaluation)
is_read place turn None left values evaluation = tt
is_read place turn (Some v) left values evaluation = tt

is_evaluated : {P : Type 0} (place : P) (turn : Bool) (r : Result (List Pending) FaultKind) → IsMove (evaluation_move place turn r)
is_evaluated place turn (Err kind) = tt
is_evaluated place turn (Ok effects) = tt

-- at the place of a next move there is a move
abbrev pub MovesAt : {P : Type 0} → Term P → Memories → Path → Type 0
MovesAt t s p = IsMove (fire t p s)

-- there is a move in a member of a list, the first of which has number k
abbrev CountedAt : {P A : Type 0} → ℕ → (ℕ → Path → Move P A) → Path → Type 0
CountedAt k at path = (i : ℕ) × (p : Path) × (path ≡ (i + k) ∷ p) × IsMove (at i p)

first_counted : {P A : Type 0} (k : ℕ) (at : ℕ → Path → Move P A) (p : Path) → IsMove (at 0 p) → CountedAt k at (k ∷ p)
first_counted k at p c = let same : k ≡ 0 + k = omega arith in (0, p, ap (λ w. w ∷ p) same, c)

later_counted : {P A B : Type 0} (k : ℕ) (at : ℕ → Path → Move P A) (later : ℕ → Path → Move P B) → ((i : ℕ) (p : Path) → IsMove (later i p) → IsMove (at (suc i) p)) → (path : Path) → CountedAt (suc k) later path → CountedAt k at path
later_counted k at later h path c =
    let same : c.0 + suc k ≡ suc c.0 + k = omega arith in
    (suc c.0, c.1, c.2 ∙ ap (λ w. w ∷ c.1) same, h c.0 c.1 c.3)

counted_moves : {P A : Type 0} (T : Path → Type 0) (at : ℕ → Path → Move P A) → ((i : ℕ) (p : Path) → IsMove (at i p) → T (i ∷ p)) → (path : Path) → CountedAt 0 at path → T path
counted_moves T at h path c =
    let same : c.0 ≡ c.0 + 0 = omega arith in
    subst T (ap (λ w. w ∷ c.1) same ∙ sym c.2) (h c.0 c.1 c.3)

nested_moves : {P : Type 0} (body : ℕ → Values → Term P) (exits : ℕ → Values → List (Exit P)) (own : Memory) (state : ℕ) (values : Values) (part : Term P) (s : Memories) (b : Bool) (ps : List Path) → AllOf (MovesAt part (own ∷ s)) ps →
    AllOf (λ p. IsMove (cond b (transition body exits own (first_exit (exits state values) (own ∷ s))) (owned (λ memory left. nested body exits memory state values left) own (fire part p (own ∷ s))))) (cond b ([] ∷ []) ps)
nested_moves body exits own state values part s true ps a = (is_transition body exits own (first_exit (exits state values) (own ∷ s)), tt)
nested_moves {P} body exits own state values part s false ps a =
    all_more (MovesAt part (own ∷ s)) (λ p. IsMove (owned whole own (fire part p (own ∷ s)))) (λ p h. is_owned whole own (fire part p (own ∷ s)) h) ps a
  where
    whole : Memory → Term P → Term P
    whole memory left = nested body exits memory state values left

is_taken : {P : Type 0} (level container : ℕ) (body : ℤ → Term P) (active : Actives P) (closed : Bool) (position : ℕ) (o : Option ℤ) (v : ℤ) → o ≡ Some v → IsMove (take_move level container body active closed position o)
is_taken level container body active closed position None v h = cc
is_taken level container body active closed position (Some w) v h = tt

-- each value that waits may be taken, here those from position k on
all_taken : {P : Type 0} (level container : ℕ) (body : ℤ → Term P) (active : Actives P) (closed : Bool) (s : Memories) (k : ℕ) (values : List ℤ) →
    ((j : ℕ) (v : ℤ) → slice_get values j ≡ Some v → slice_get (waiting level container s) (j + k) ≡ Some v) → AllOf (MovesAt (pool level container body active closed) s) (takes_from k values)
all_taken level container body active closed s k [] h = tt
all_taken level container body active closed s k (value ∷ values) h =
    let here : 0 + k ≡ k = omega arith in (
      is_taken level container body active closed k (slice_get (waiting level container s) k) value (sym (ap (slice_get (waiting level container s)) here) ∙ h 0 value refl),
      all_taken level container body active closed s (suc k) values (λ j v e. let same : j + suc k ≡ suc j + k = omega arith in ap (slice_get (waiting level container s)) same ∙ h (suc j) v e),
    )

mutual
  pub all_move : {P : Type 0} (t : Term P) (s : Memories) → AllOf (MovesAt t s) (moves t s)
  all_move (leaf place (reading begun [] values evaluation)) s =
      (is_mapped (leaf place) (evaluation_move place (not begun) (evaluation values)) (is_evaluated place (not begun) (evaluation values)), tt)
  all_move (leaf place (reading begun (next ∷ left) values evaluation)) s =
      (is_mapped (leaf place) (read_move place (not begun) (seen next s) left values evaluation) (is_read place (not begun) (seen next s) left values evaluation), tt)
  all_move (leaf place (doing [])) s = tt
  all_move (leaf place (doing (next ∷ left))) s =
      (is_mapped (leaf place) (do_move place next s left) (is_some (do_move place next s left) (effect_some place next s left)), tt)
  all_move {P} (list kind before parts) s =
      let at : ℕ → Path → Move P (Terms P) = λ i p. fire_part parts i p s in
      all_more (CountedAt 0 at) (MovesAt (list kind before parts) s) (counted_moves (MovesAt (list kind before parts) s) at (λ i p c. is_mapped (list kind before) (fire_part parts i p s) c))
      (moves_of_parts before (flags_of parts) 0 parts s) (all_counted before (flags_of parts) 0 parts s)
  all_move (owning own part) s =
      all_more (MovesAt part (own ∷ s)) (MovesAt (owning own part) s) (λ p h. is_owned owning own (fire part p (own ∷ s)) h) (moves part (own ∷ s)) (all_move part (own ∷ s))
  all_move (nested body exits own state values part) s =
      nested_moves body exits own state values part s (finished part) (moves part (own ∷ s)) (all_move part (own ∷ s))
  all_move (ended own) s = tt
  all_move {P} (pool level container body active closed) s =
      let at : ℕ → Path → Move P (Actives P) = λ i p. fire_active active i p s in
      let T : Path → Type 0 = MovesAt (pool level container body active closed) s in
      all_unless T closed (moves_in 1 (moves_of_active 0 active s) ++ takes_from 0 (waiting level container s))
      (all_append T (moves_in 1 (moves_of_active 0 active s)) (takes_from 0 (waiting level container s))
      (all_in T 1 (moves_of_active 0 active s)
      (all_more (CountedAt 0 at) (λ p. T (1 ∷ p)) (counted_moves (λ p. T (1 ∷ p)) at (λ i p c. is_mapped (λ left. pool level container body left closed) (fire_active active i p s) c))
      (moves_of_active 0 active s) (all_active 0 active s)))
      (all_taken level container body active closed s 0 (waiting level container s) (λ j v e. let same : j + 0 ≡ j = omega arith in ap (slice_get (waiting level container s)) same ∙ e)))

  all_counted : {P : Type 0} (before : ℕ → ℕ → Bool) (flags : List Bool) (k : ℕ) (ts : Terms P) (s : Memories) → AllOf (CountedAt k (λ i p. fire_part ts i p s)) (moves_of_parts before flags k ts s)
  all_counted before flags k none s = tt
  all_counted {P} before flags k (also t ts) s =
      let at : ℕ → Path → Move P (Terms P) = λ i p. fire_part (also t ts) i p s in
      let later : ℕ → Path → Move P (Terms P) = λ i p. fire_part ts i p s in
      all_append (CountedAt k at) (cond (is_ready before flags k) (moves_in k (moves t s)) []) (moves_of_parts before flags (suc k) ts s)
      (all_if (CountedAt k at) (is_ready before flags k) (moves_in k (moves t s)) (λ r.
      all_in (CountedAt k at) k (moves t s)
      (all_more (MovesAt t s) (λ p. CountedAt k at (k ∷ p)) (λ p c. first_counted k at p (is_mapped (λ x. also x ts) (fire t p s) c)) (moves t s) (all_move t s))))
      (all_more (CountedAt (suc k) later) (CountedAt k at) (later_counted k at later (λ i p c. is_mapped (λ x. also t x) (fire_part ts i p s) c)) (moves_of_parts before flags (suc k) ts s) (all_counted before flags (suc k) ts s))

  all_active : {P : Type 0} (k : ℕ) (ts : Actives P) (s : Memories) → AllOf (CountedAt k (λ i p. fire_active ts i p s)) (moves_of_active k ts s)
  all_active k idle s = tt
  all_active {P} k (busy v t ts) s =
      let at : ℕ → Path → Move P (Actives P) = λ i p. fire_active (busy v t ts) i p s in
      let later : ℕ → Path → Move P (Actives P) = λ i p. fire_active ts i p s in
      all_append (CountedAt k at) (moves_in k (moves t s)) (moves_of_active (suc k) ts s)
      (all_in (CountedAt k at) k (moves t s)
      (all_more (MovesAt t s) (λ p. CountedAt k at (k ∷ p)) (λ p c. first_counted k at p (is_mapped (λ x. busy v x ts) (fire t p s) c)) (moves t s) (all_move t s)))
      (all_more (CountedAt (suc k) later) (CountedAt k at) (later_counted k at later (λ i p c. is_mapped (λ x. busy v t x) (fire_active ts i p s) c)) (moves_of_active (suc k) ts s) (all_active (suc k) ts s))
