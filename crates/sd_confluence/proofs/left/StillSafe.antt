-- Work that may interleave still may at each choice of each run.
use Rattle.std.proofs.Common.{◌≡◌, ℕ, zero, suc, ℤ, List, [], ◌∷◌, map, drop, Bool, true, false, ◌&&◌, cond, sym, ◌∙◌, inl, inr, slice_get}
use Rattle.std.specs.Bool.{⊤}
use Rattle.std.specs.List.{AllByRecursion}
use Rattle.sd_work.specs.Memory.{Memories, waiting}
use Rattle.sd_work.specs.LeafMove.{leaf_move}
use Rattle.sd_work.specs.Exit.{first_exit}
use Rattle.sd_work.specs.Move.{Move, fails, goes, no_move}
use Rattle.sd_work.specs.Residual.{Parts, Term, leaf, list, owning, nested, ended, pool, Terms, none, also, Actives, idle, busy, finished, none_active, is_ready}
use Rattle.sd_work.specs.Moves.{Path}
use Rattle.sd_work.specs.Fire.{owned, transition, and_last, fire, fire_part, fire_active}
use Rattle.sd_work.specs.Settle.{is_first_left, settle, settle_parts, settle_active, settled}
use Rattle.sd_work.specs.Step.{Machine, Outcome, Done, Faulted, Spent, opening, next_moves, moved, step}
use Rattle.sd_work.specs.Run.{Choice, chosen_number, chosen, choices, choices_by, choices_on}
use Rattle.sd_work.proofs.Leaving.{Leaves, leaves_any, leaves_map, leaves_both, leaves_owned, leaves_transition, leaves_take}
use Rattle.sd_work.proofs.Paths.{AllOf, all_at}
use Rattle.sd_work.proofs.going.OrdersKept.{ordered-kept, ordered-settled}
use Rattle.sd_work.specs.WellFormed.{IsOrdered}
use Rattle.sd_confluence.specs.Safe.{TakesNothingOutside, IsSafe, AreSafe, AreActiveSafe, ArePartsSafe, IsPoolSafe, MayInterleave}
use Rattle.sd_confluence.proofs.image.Images.{IsNext, IsNextAt, IsNextIn, IsNextHere}
use Rattle.sd_confluence.proofs.settling.Kept.{AtMostParts, AtMostActive, less_last, parts_kept, active_kept, takes-nothing-kept}
use Rattle.sd_confluence.proofs.settling.SettleKept.{settle_active-touches, part-touches, takes-nothing-settled}
use Rattle.sd_confluence.proofs.settling.ClosedPools.{closed-settled}
use Rattle.sd_confluence.proofs.settling.ClosedKept.{closed-safe}
use Rattle.sd_confluence.proofs.runs.Listed.{all-next}

-- ---- moves

parts_safe : {P : Type 0} (kind : Parts) (before : ℕ → ℕ → Bool) (ts us : Terms P) → AtMostParts ts us → ArePartsSafe kind before ts → ArePartsSafe kind before us
parts_safe kind before ts us g f = record {
  compatible = λ i j less free a b x y. f.compatible i j less free a b (g i a x) (g j b y);
  points = λ is i j less free l c x. f.points is i j less free l c (g j _ x);
}

pool_safe : {P : Type 0} (body : ℤ → Term P) (ts us : Actives P) → AtMostActive ts us → IsPoolSafe body ts → IsPoolSafe body us
pool_safe body ts us g f = λ a b x y. f a b (elim x [ inl z ↦ inl (g a z) | inr z ↦ inr z ]) (elim y [ inl z ↦ inl (g b z) | inr z ↦ inr z ])

-- one more work of a value is one of the pool's works
pool_more : {P : Type 0} (body : ℤ → Term P) (ts : Actives P) (v : ℤ) → IsPoolSafe body ts → IsPoolSafe body (and_last ts v (body v))
pool_more body ts v f = λ a b x y. f a b
    (elim x [ inl z ↦ elim (less_last ts v (body v) a z) [ inl w ↦ inl w | inr w ↦ inr (v, w) ] | inr z ↦ inr z ])
    (elim y [ inl z ↦ elim (less_last ts v (body v) b z) [ inl w ↦ inl w | inr w ↦ inr (v, w) ] | inr z ↦ inr z ])

safe_last : {P : Type 0} (ts : Actives P) (v : ℤ) (t : Term P) → AreActiveSafe ts → IsSafe t → AreActiveSafe (and_last ts v t)
safe_last idle v t f g = (g, tt)
safe_last (busy w x ts) v t f g = (f.0, safe_last ts v t f.1 g)

not_closed : (closed : Bool) (F : Type 0) → closed ≡ false → closed ≡ true → F
not_closed closed F o e = let no : true ≡ false = sym e ∙ o in cc

nested_safe : {P : Type 0} (b : Bool) (p : Path) (C : Type 0) (m n : Move P (Term P)) → Leaves IsSafe m → (C → Leaves IsSafe n) → IsNextHere b p C → Leaves IsSafe (cond b m n)
nested_safe true p C m n g h c = g
nested_safe false p C m n g h c = h c

mutual
  -- a next move leaves safe work safe
  pub safe-left : {P : Type 0} (t : Term P) (p : Path) (s : Memories) → IsNext t p s → IsSafe t → Leaves IsSafe (fire t p s)
  safe-left (leaf place work) p s c f = leaves_any (leaf place) IsSafe (λ x. tt) (leaf_move place work s)
  safe-left (list kind before parts) [] s c f = tt
  safe-left (list kind before parts) (k ∷ p) s c f =
      leaves_map (list kind before) (λ x. AreSafe x × AtMostParts parts x) IsSafe (λ x g. (g.0, parts_safe kind before parts x g.1 f.1))
      (fire_part parts k p s) (leaves_both AreSafe (AtMostParts parts) (fire_part parts k p s) (safe_part parts k p s c.1 f.0) (parts_kept parts k p s))
  safe-left (owning own part) p s c f = leaves_owned IsSafe IsSafe owning own (λ m x g. g) (fire part p (own ∷ s)) (safe-left part p (own ∷ s) c f)
  safe-left (nested body exits own state values part) p s c f =
      nested_safe (finished part) p (IsNext part p (own ∷ s)) (transition body exits own (first_exit (exits state values) (own ∷ s))) (owned (λ memory left. nested body exits memory state values left) own (fire part p (own ∷ s)))
      (leaves_transition IsSafe body exits own tt (λ k e. (f.1 k e, f.1)) (first_exit (exits state values) (own ∷ s)))
      (λ d. leaves_owned IsSafe IsSafe (λ m x. nested body exits m state values x) own (λ m x g. (g, f.1)) (fire part p (own ∷ s)) (safe-left part p (own ∷ s) d f.0)) c
  safe-left (ended own) p s c f = tt
  safe-left (pool level container body active closed) [] s c f = tt
  safe-left (pool level container body active closed) (zero ∷ []) s c f = tt
  safe-left (pool level container body active closed) (zero ∷ k ∷ p) s c f =
      leaves_take IsSafe level container body active closed
      (λ v. (safe_last active v (body v) f.0 (f.1 v), f.1, pool_more body active v f.2, not_closed closed (none_active (and_last active v (body v)) ≡ true) c.0)) k (slice_get (waiting level container s) k)
  safe-left (pool level container body active closed) (suc zero ∷ []) s c f = tt
  safe-left (pool level container body active closed) (suc zero ∷ k ∷ p) s c f =
      leaves_map (λ x. pool level container body x closed) (λ x. AreActiveSafe x × AtMostActive active x) IsSafe
      (λ x g. (g.0, f.1, pool_safe body active x g.1 f.2, not_closed closed (none_active x ≡ true) c.0)) (fire_active active k p s)
      (leaves_both AreActiveSafe (AtMostActive active) (fire_active active k p s) (safe_active active k p s c.1 f.0) (active_kept active k p s))
  safe-left (pool level container body active closed) (suc (suc j) ∷ p) s c f = elim c [ ]

  safe_part : {P : Type 0} (ts : Terms P) (k : ℕ) (p : Path) (s : Memories) → IsNextAt ts k p s → AreSafe ts → Leaves AreSafe (fire_part ts k p s)
  safe_part none k p s c f = tt
  safe_part (also t ts) zero p s c f = leaves_map (λ x. also x ts) IsSafe AreSafe (λ x g. (g, f.1)) (fire t p s) (safe-left t p s c f.0)
  safe_part (also t ts) (suc k) p s c f = leaves_map (also t) AreSafe AreSafe (λ x g. (f.0, g)) (fire_part ts k p s) (safe_part ts k p s c f.1)

  safe_active : {P : Type 0} (ts : Actives P) (k : ℕ) (p : Path) (s : Memories) → IsNextIn ts k p s → AreActiveSafe ts → Leaves AreActiveSafe (fire_active ts k p s)
  safe_active idle k p s c f = tt
  safe_active (busy v t ts) zero p s c f = leaves_map (λ x. busy v x ts) IsSafe AreActiveSafe (λ x g. (g, f.1)) (fire t p s) (safe-left t p s c f.0)
  safe_active (busy v t ts) (suc k) p s c f = leaves_map (busy v t) AreActiveSafe AreActiveSafe (λ x g. (f.0, g)) (fire_active ts k p s) (safe_active ts k p s c f.1)

-- ---- settling

mutual
  -- settling leaves safe work safe
  pub safe-settled : {P : Type 0} (go : Bool) (cleared : List Bool) (s : Memories) (t : Term P) → IsSafe t → IsSafe (settle go cleared s t)
  safe-settled go cleared s (leaf place work) f = tt
  safe-settled go cleared s (list kind before parts) f =
      (safe_settled_parts go cleared s kind before [] 0 parts f.0, parts_safe kind before parts (settle_parts go cleared s kind before [] 0 parts) (λ k a x. part-touches go cleared s kind before [] 0 parts k a x) f.1)
  safe-settled go cleared s (owning own part) f = safe-settled go (true ∷ cleared) (own ∷ s) part f
  safe-settled go cleared s (nested body exits own state values part) f = (safe-settled go (true ∷ cleared) (own ∷ s) part f.0, f.1)
  safe-settled go cleared s (ended own) f = tt
  safe-settled go cleared s (pool level container body active closed) f = (
    safe_settled_active go cleared s active f.0,
    f.1,
    pool_safe body active (settle_active go cleared s active) (λ a x. settle_active-touches go cleared s active a x) f.2,
    (closed-settled go cleared s (pool level container body active closed) (closed-safe (pool level container body active closed) f)).2,
  )

  safe_settled_parts : {P : Type 0} (go : Bool) (cleared : List Bool) (s : Memories) (kind : Parts) (before : ℕ → ℕ → Bool) (flags : List Bool) (number : ℕ) (ts : Terms P) →
      AreSafe ts → AreSafe (settle_parts go cleared s kind before flags number ts)
  safe_settled_parts go cleared s kind before flags number none f = tt
  safe_settled_parts go cleared s kind before flags number (also t ts) f =
      (safe-settled (go && is_ready before flags number) (map (λ flag. is_first_left kind flags && flag) cleared) s t f.0, safe_settled_parts go cleared s kind before _ (suc number) ts f.1)

  safe_settled_active : {P : Type 0} (go : Bool) (cleared : List Bool) (s : Memories) (ts : Actives P) → AreActiveSafe ts → AreActiveSafe (settle_active go cleared s ts)
  safe_settled_active go cleared s idle f = tt
  safe_settled_active go cleared s (busy v t ts) f = (safe-settled go cleared s t f.0, safe_settled_active go cleared s ts f.1)

-- ---- runs

pub may-settled : {P : Type 0} (t : Term P) → MayInterleave t → MayInterleave (settled t)
may-settled t h = record { ordered = ordered-settled true [] [] t h.ordered; safe = safe-settled true [] [] t h.safe; inside = takes-nothing-settled true [] [] t h.inside }

may_left : {P : Type 0} (m : Move P (Term P)) → Leaves IsSafe m → Leaves IsOrdered m → Leaves TakesNothingOutside m → Leaves MayInterleave m
may_left (fails turn fault) f g h = tt
may_left (goes turn change x) f g h = record { ordered = g; safe = f; inside = h }
may_left no_move f g h = tt

-- what holds of the machine that a step leaves
abbrev After : {P : Type 0} → Outcome P (Machine P) → Type 0
After (Done machine) = MayInterleave machine.term
After (Faulted fault) = ⊤
After Spent = ⊤

may_moved : {P : Type 0} (term : Term P) (turns : ℕ) (m : Move P (Term P)) → MayInterleave term → Leaves MayInterleave m → After (moved (record { term = term; turns = turns }) m)
may_moved term zero (fails true fault) h g = tt
may_moved term (suc turns) (fails true fault) h g = tt
may_moved term turns (fails false fault) h g = tt
may_moved term zero (goes true change x) h g = tt
may_moved term (suc turns) (goes true change x) h g = may-settled x g
may_moved term turns (goes false change x) h g = may-settled x g
may_moved term turns no_move h g = h

may_step : {P : Type 0} (p : Path) (m : Machine P) → IsNext m.term p [] → MayInterleave m.term → After (step p m)
may_step p m c h = may_moved m.term m.turns (fire m.term p []) h
    (may_left (fire m.term p []) (safe-left m.term p [] c h.safe) (ordered-kept m.term p [] h.ordered) (takes-nothing-kept m.term p [] h.inside))

may_on : {P : Type 0} (outcome : Outcome P (Machine P)) (rest : Machine P → List (Choice P)) → After outcome →
    ((m : Machine P) → MayInterleave m.term → AllByRecursion (λ choice. MayInterleave choice.machine.term) (rest m)) → AllByRecursion (λ choice. MayInterleave choice.machine.term) (choices_on outcome rest)
may_on (Done m) rest h each = each m h
may_on (Faulted fault) rest h each = tt
may_on Spent rest h each = tt

may_by : {P : Type 0} (moves : List Path) (picks : List ℕ) (m : Machine P) (rest : Machine P → List (Choice P)) → AllOf (λ p. IsNext m.term p []) moves → MayInterleave m.term →
    ((m : Machine P) → MayInterleave m.term → AllByRecursion (λ choice. MayInterleave choice.machine.term) (rest m)) → AllByRecursion (λ choice. MayInterleave choice.machine.term) (choices_by moves picks m rest)
may_by [] picks m rest next h each = tt
may_by (first ∷ others) picks m rest next h each =
    (h, may_on (step (chosen picks first others) m) rest (may_step (chosen picks first others) m (all_at (λ p. IsNext m.term p []) first (chosen_number picks (first ∷ others)) (first ∷ others) next.0 next) h) each)

may_choices : {P : Type 0} (steps : ℕ) (picks : List ℕ) (m : Machine P) → MayInterleave m.term → AllByRecursion (λ choice. MayInterleave choice.machine.term) (choices steps picks m)
may_choices zero picks m h = tt
may_choices (suc steps) picks m h = may_by (next_moves m) picks m (choices steps (drop 1 picks)) (all-next m.term []) h (λ next g. may_choices steps (drop 1 picks) next g)

-- at each choice of a run what is left may interleave
pub runs-may : {P : Type 0} (t : Term P) (steps turns : ℕ) (picks : List ℕ) → MayInterleave t → AllByRecursion (λ choice. MayInterleave choice.machine.term) (choices steps picks (opening t turns))
runs-may t steps turns picks h = may_choices steps picks (opening t turns) (may-settled t h)
