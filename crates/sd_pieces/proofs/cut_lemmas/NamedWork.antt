-- Work that names elements by other numbers comes to the same.
use Rattle.std.proofs.Common.{◌≡◌, inl, inr, ℕ, zero, suc, ℤ, List, [], ◌∷◌, ◌++◌, map, drop, Option, Some, None, option_map, Result, Ok, Err, Bool, true, false, not, refl, sym, ◌∙◌, ap, subst}
use Rattle.sd_num.specs.declared.resolution.Resolution.{Resolution}
use Rattle.sd_work.specs.declared.fault.FaultKind.{FaultKind}
use Rattle.sd_work.specs.declared.fault.FaultKind.TheVariants.{Subscript}
use Rattle.sd_work.specs.Memory.{Memory, Memories, Reference, seen, waiting}
use Rattle.sd_work.specs.Change.{write, push, take, apply}
use Rattle.sd_work.specs.Leaf.{Pending, write_value, transfer, push_to, Evaluation, Leaf, reading, doing}
use Rattle.sd_work.specs.Move.{Fault, fault_at}
use Rattle.sd_work.specs.LeafMove.{write_move}
use Rattle.sd_work.specs.Exit.{Values, Guard, Exit, with_value, all_seen, decided, passed, or_later, first_exit}
use Rattle.sd_work.specs.Residual.{Term, leaf, list, owning, nested, ended, pool, Terms, none, also, Actives, idle, busy}
use Rattle.sd_work.specs.Step.{Done, Faulted, Spent}
use Rattle.sd_work.specs.BigStep.{Coming, reached, faulted, and_then, leaving, spending, after_move, after_read, big_doing, big_evaluated, big_reading, big_leaf, after_exit, big_states, after_oldest, big_takes, big_step, big_parts, big_active}
use Rattle.sd_work.specs.Touch.{Touch, reads, writes, pushes, takes, inner, IsRead, IsWrite, SomeRead, SomePendingTouches, GuardTouches, LeafTouches, SomeExitTouches, Touches, SomePartTouches, SomeActiveTouches}
use Rattle.sd_pieces.specs.cut.Naming.{Naming, IsOneToOne, names_at, reference_named, access_named, pending_named, evaluated_named, leaf_named, guard_named, exit_named, term_named, parts_named, active_named, IsTouchNamed, AreMemoriesNamed, ComesToNamed}
use Rattle.sd_pieces.proofs.cut_lemmas.NamedMemories.{write-named, push-named, take-named, look-named, waiting-named, inside-named, outside-named}

-- all of these touches have numbers
abbrev pub AreNamed : Naming → (depth : ℕ) → (Touch → Type 0) → Type 0
AreNamed naming d T = (touch : Touch) → T touch → IsTouchNamed naming d touch

-- work that comes to the same from memories by the other numbers
abbrev pub GoesNamed : {P : Type 0} → Naming → (depth : ℕ) → (Memories → ℕ → Coming P) → (Memories → ℕ → Coming P) → Type 0
GoesNamed naming d f g = (s t : Memories) (n : ℕ) → AreMemoriesNamed naming d s t → ComesToNamed naming d (f s n) (g t n)

-- ---- one after another

and_then-named : {P : Type 0} (w : Naming) (d : ℕ) (F F' : Coming P) (g g' : Memories → ℕ → Coming P) → ComesToNamed w d F F' → GoesNamed w d g g' → ComesToNamed w d (and_then F g) (and_then F' g')
and_then-named w d (Some (Done now)) F' g g' h k =
    subst (λ o. ComesToNamed w d (g now.memories now.turns) (and_then o g')) (sym h.1) (k now.memories h.0 now.turns h.2)
and_then-named w d (Some (Faulted fault)) F' g g' h k = ap (λ o. and_then o g') h
and_then-named w d (Some Spent) F' g g' h k = ap (λ o. and_then o g') h
and_then-named w d None F' g g' h k = ap (λ o. and_then o g') h

reached-named : {P : Type 0} (w : Naming) (d : ℕ) → GoesNamed {P = P} w d reached reached
reached-named w d s t n r = (t, refl, r)

spending-named : {P : Type 0} (w : Naming) (d : ℕ) (turn : Bool) (n : ℕ) (f f' : ℕ → Coming P) → ((n : ℕ) → ComesToNamed w d (f n) (f' n)) → ComesToNamed w d (spending turn n f) (spending turn n f')
spending-named w d true zero f f' h = refl
spending-named w d true (suc n) f f' h = h n
spending-named w d false n f f' h = h n

leaving-named : {P : Type 0} (w : Naming) (d : ℕ) (F F' : Coming P) → ComesToNamed w (suc d) F F' → ComesToNamed w d (leaving F) (leaving F')
leaving-named w d (Some (Done now)) F' h =
    (drop 1 h.0, ap leaving h.1, outside-named w d now.memories h.0 h.2)
leaving-named w d (Some (Faulted fault)) F' h = ap leaving h
leaving-named w d (Some Spent) F' h = ap leaving h
leaving-named w d None F' h = ap leaving h

-- ---- elements

abbrev at_number : Reference → ℕ → Reference
at_number r k = record { level = r.level; container = r.container; element = k }

named-is : (w : Naming) (d : ℕ) (r : Reference) (k : ℕ) → names_at w d r.level r.container r.element ≡ Some k → reference_named w d r ≡ Some (at_number r k)
named-is w d r k e = ap (option_map (at_number r)) e

seen-named : (w : Naming) (d : ℕ) (o : Option Reference) (s t : Memories) → ((touch : Touch) → IsRead o touch → IsTouchNamed w d touch) → AreMemoriesNamed w d s t → seen (access_named w d o) t ≡ seen o s
seen-named w d None s t f r = refl
seen-named w d (Some a) s t f r =
    let k = f (reads a) refl in
    ap (λ o. seen o t) (named-is w d a k.0 k.1) ∙ ap Some (sym (look-named w d a.level a.container a.element k.0 s t k.1 r))

-- ---- leaves

move-named : {P : Type 0} (w : Naming) (d : ℕ) → IsOneToOne w → (place : P) (v : Option ℤ) (to : Option Reference) (by : Option Resolution) (left left' : List Pending) (s t : Memories) (n : ℕ)
    (g g' : Memories → ℕ → Coming P) → ((touch : Touch) → IsWrite to by touch → IsTouchNamed w d touch) → GoesNamed w d g g' → AreMemoriesNamed w d s t →
    ComesToNamed w d (after_move (write_move place v to by left) s n g) (after_move (write_move place v (access_named w d to) by left') t n g')
move-named w d one place None to by left left' s t n g g' f k r = refl
move-named w d one place (Some v) None by left left' s t n g g' f k r = refl
move-named w d one place (Some v) (Some to) by left left' s t n g g' f k r =
    let q = f (writes to by) refl in
    subst (λ o. ComesToNamed w d (g (apply (write to by v) s) n) (after_move (write_move place (Some v) o by left') t n g')) (sym (named-is w d to q.0 q.1))
    (k (apply (write to by v) s) (apply (write (at_number to q.0) by v) t) n (write-named w one d to.level to.container to.element q.0 by v s t q.1 r))

doing-named : {P : Type 0} (w : Naming) (d : ℕ) → IsOneToOne w → (place : P) (left : List Pending) → AreNamed w d (SomePendingTouches left) → GoesNamed w d (big_doing place left) (big_doing place (map (pending_named w d) left))
doing-named w d one place [] f = reached-named w d
doing-named w d one place (write_value v to by ∷ left) f = λ s t n r.
    move-named w d one place (Some v) to by left (map (pending_named w d) left) s t n (big_doing place left) (big_doing place (map (pending_named w d) left)) (λ touch h. f touch (inl h))
    (doing-named w d one place left (λ touch h. f touch (inr h))) r
doing-named w d one place (transfer from to by ∷ left) f = λ s t n r.
    subst (λ v. ComesToNamed w d (after_move (write_move place (seen from s) to by left) s n (big_doing place left)) (after_move (write_move place v (access_named w d to) by (map (pending_named w d) left)) t n (big_doing place (map (pending_named w d) left))))
    (sym (seen-named w d from s t (λ touch h. f touch (inl (inl h))) r))
    (move-named w d one place (seen from s) to by left (map (pending_named w d) left) s t n (big_doing place left) (big_doing place (map (pending_named w d) left)) (λ touch h. f touch (inl (inr h)))
    (doing-named w d one place left (λ touch h. f touch (inr h))) r)
doing-named w d one place (push_to l c v ∷ left) f = λ s t n r.
    doing-named w d one place left (λ touch h. f touch (inr h)) (apply (push l c v) s) (apply (push l c v) t) n (push-named w d l c v s t r)

-- an evaluation that gives these effects
abbrev Gives : Result (List Pending) FaultKind → Touch → Type 0
Gives given touch = (effects : List Pending) × (given ≡ Ok effects) × SomePendingTouches effects touch

evaluated-goes : {P : Type 0} (w : Naming) (d : ℕ) → IsOneToOne w → (place : P) (turn : Bool) (given : Result (List Pending) FaultKind) → AreNamed w d (Gives given) →
    GoesNamed w d (big_evaluated place turn given) (big_evaluated place turn (evaluated_named w d given))
evaluated-goes w d one place turn (Err kind) f = λ s t n r. spending-named w d turn n (λ n. faulted (fault_at place kind)) (λ n. faulted (fault_at place kind)) (λ n. refl)
evaluated-goes w d one place turn (Ok effects) f = λ s t n r.
    spending-named w d turn n (big_doing place effects s) (big_doing place (map (pending_named w d) effects) t) (λ n. doing-named w d one place effects (λ touch h. f touch (effects, refl, h)) s t n r)

read-named : {P : Type 0} (w : Naming) (d : ℕ) (place : P) (turn : Bool) (v : Option ℤ) (n : ℕ) (g g' : ℤ → ℕ → Coming P) → ((value : ℤ) (n : ℕ) → ComesToNamed w d (g value n) (g' value n)) →
    ComesToNamed w d (after_read place turn v n g) (after_read place turn v n g')
read-named w d place turn None n g g' h = spending-named w d turn n (λ n. faulted (fault_at place Subscript)) (λ n. faulted (fault_at place Subscript)) (λ n. refl)
read-named w d place turn (Some value) n g g' h = spending-named w d turn n (g value) (g' value) (h value)

reading-named : {P : Type 0} (w : Naming) (d : ℕ) → IsOneToOne w → (place : P) (turn : Bool) (left : List (Option Reference)) (values : List ℤ) (evaluation : Evaluation) →
    AreNamed w d (SomeRead left) → ((given : List ℤ) → AreNamed w d (Gives (evaluation given))) →
    GoesNamed w d (big_reading place turn left values evaluation) (big_reading place turn (map (access_named w d) left) values (λ read. evaluated_named w d (evaluation read)))
reading-named w d one place turn [] values evaluation f e = evaluated-goes w d one place turn (evaluation values) (e values)
reading-named {P} w d one place turn (next ∷ left) values evaluation f e = λ s t n r.
    subst (λ v. ComesToNamed w d (after_read place turn (seen next s) n (go s)) (after_read place turn v n (go' t))) (sym (seen-named w d next s t (λ touch h. f touch (inl h)) r))
    (read-named w d place turn (seen next s) n (go s) (go' t) (λ value n. reading-named w d one place false left (values ++ value ∷ []) evaluation (λ touch h. f touch (inr h)) e s t n r))
  where
    go : Memories → ℤ → ℕ → Coming P
    go s value = big_reading place false left (values ++ value ∷ []) evaluation s

    go' : Memories → ℤ → ℕ → Coming P
    go' t value = big_reading place false (map (access_named w d) left) (values ++ value ∷ []) (λ read. evaluated_named w d (evaluation read)) t

leaf-goes : {P : Type 0} (w : Naming) (d : ℕ) → IsOneToOne w → (place : P) (work : Leaf) → AreNamed w d (LeafTouches work) → GoesNamed w d (big_leaf place work) (big_leaf place (leaf_named w d work))
leaf-goes w d one place (reading begun left values evaluation) f =
    reading-named w d one place (not begun) left values evaluation (λ touch h. f touch (inl h)) (λ given touch h. f touch (inr (given, h.0, h.1, h.2)))
leaf-goes w d one place (doing left) f = doing-named w d one place left f

-- ---- transitions

all_seen-named : (w : Naming) (d : ℕ) (rs : List (Option Reference)) → AreNamed w d (SomeRead rs) → (s t : Memories) → AreMemoriesNamed w d s t → all_seen (map (access_named w d) rs) t ≡ all_seen rs s
all_seen-named w d [] f s t r = refl
all_seen-named w d (o ∷ rs) f s t r =
    let e = seen-named w d o s t (λ touch h. f touch (inl h)) r in
    let e' = all_seen-named w d rs (λ touch h. f touch (inr h)) s t r in
    λ i. with_value (e i) (e' i)

passed-named : {P : Type 0} (w : Naming) (d : ℕ) (guard : Option (Guard P)) → AreNamed w d (GuardTouches guard) → (s t : Memories) → AreMemoriesNamed w d s t →
    passed (option_map (guard_named w d) guard) t ≡ passed guard s
passed-named w d None f s t r = refl
passed-named w d (Some guard) f s t r = ap (decided guard) (all_seen-named w d guard.reads f s t r)

abbrev chosen_named : {P : Type 0} → Naming → (depth : ℕ) → Result (Option (Exit P)) (Fault P) → Result (Option (Exit P)) (Fault P)
chosen_named w d (Err fault) = Err fault
chosen_named w d (Ok None) = Ok None
chosen_named w d (Ok (Some exit)) = Ok (Some (exit_named w d exit))

or_later-named : {P : Type 0} (w : Naming) (d : ℕ) (o : Result Bool (Fault P)) (exit : Exit P) (later : Result (Option (Exit P)) (Fault P)) →
    or_later o (exit_named w d exit) (chosen_named w d later) ≡ chosen_named w d (or_later o exit later)
or_later-named w d (Err fault) exit later = refl
or_later-named w d (Ok true) exit later = refl
or_later-named w d (Ok false) exit later = refl

exits-named : {P : Type 0} (w : Naming) (d : ℕ) (exits : List (Exit P)) → AreNamed w d (SomeExitTouches exits) → (s t : Memories) → AreMemoriesNamed w d s t →
    first_exit (map (exit_named w d) exits) t ≡ chosen_named w d (first_exit exits s)
exits-named w d [] f s t r = refl
exits-named w d (exit ∷ exits) f s t r =
    let e = passed-named w d exit.when (λ touch h. f touch (inl h)) s t r in
    let e' = exits-named w d exits (λ touch h. f touch (inr h)) s t r in
    (λ i. or_later (e i) (exit_named w d exit) (e' i)) ∙ or_later-named w d (passed exit.when s) exit (first_exit exits s)

exit-goes : {P : Type 0} (w : Naming) (d : ℕ) (e : Result (Option (Exit P)) (Fault P)) (s t : Memories) (n : ℕ) (g g' : Exit P → ℕ → Coming P) → AreMemoriesNamed w d s t →
    ((exit : Exit P) (n : ℕ) → ComesToNamed w d (g exit n) (g' (exit_named w d exit) n)) → ComesToNamed w d (after_exit e s n g) (after_exit (chosen_named w d e) t n g')
exit-goes w d (Err fault) s t n g g' r h = refl
exit-goes w d (Ok None) s t n g g' r h = (t, refl, r)
exit-goes w d (Ok (Some exit)) s t n g g' r h = spending-named w d exit.marked n (g exit) (g' (exit_named w d exit)) (h exit)

states-named : {P : Type 0} (w : Naming) (d : ℕ) (most : ℕ) (run run' : ℕ → Values → Memories → ℕ → Coming P) (exits : ℕ → Values → List (Exit P)) →
    ((state : ℕ) (values : Values) → GoesNamed w d (run state values) (run' state values)) → ((state : ℕ) (values : Values) → AreNamed w d (SomeExitTouches (exits state values))) →
    (state : ℕ) (values : Values) → GoesNamed w d (big_states most run exits state values) (big_states most run' (λ state values. map (exit_named w d) (exits state values)) state values)
states-named w d zero run run' exits f e state values = λ s t n r. refl
states-named {P} w d (suc most) run run' exits f e state values = λ s t n r.
    subst (λ o. ComesToNamed w d (after_exit (first_exit (exits state values) s) s n (go s)) (after_exit o t n (go' t))) (sym (exits-named w d (exits state values) (e state values) s t r))
    (exit-goes w d (first_exit (exits state values) s) s t n (go s) (go' t) r
    (λ exit n. and_then-named w d (run exit.state exit.values s n) (run' exit.state exit.values t n) (big_states most run exits exit.state exit.values) (big_states most run' exits' exit.state exit.values)
    (f exit.state exit.values s t n r) (states-named w d most run run' exits f e exit.state exit.values)))
  where
    exits' : ℕ → Values → List (Exit P)
    exits' state values = map (exit_named w d) (exits state values)

    go : Memories → Exit P → ℕ → Coming P
    go s exit n = and_then (run exit.state exit.values s n) (big_states most run exits exit.state exit.values)

    go' : Memories → Exit P → ℕ → Coming P
    go' t exit n = and_then (run' exit.state exit.values t n) (big_states most run' exits' exit.state exit.values)

-- ---- streams

oldest-named : {P : Type 0} (w : Naming) (d : ℕ) (values : List ℤ) (s t : Memories) (n : ℕ) (g g' : ℤ → Coming P) → AreMemoriesNamed w d s t → ((value : ℤ) → ComesToNamed w d (g value) (g' value)) →
    ComesToNamed w d (after_oldest values s n g) (after_oldest values t n g')
oldest-named w d [] s t n g g' r h = (t, refl, r)
oldest-named w d (value ∷ values) s t n g g' r h = h value

takes-named : {P : Type 0} (w : Naming) (d : ℕ) (most l c : ℕ) (run run' : ℤ → Memories → ℕ → Coming P) → ((value : ℤ) → GoesNamed w d (run value) (run' value)) →
    GoesNamed w d (big_takes most l c run) (big_takes most l c run')
takes-named w d zero l c run run' f = λ s t n r. refl
takes-named {P} w d (suc most) l c run run' f = λ s t n r.
    subst (λ values. ComesToNamed w d (after_oldest (waiting l c s) s n (go s n)) (after_oldest values t n (go' t n))) (waiting-named w d l c s t r)
    (oldest-named w d (waiting l c s) s t n (go s n) (go' t n) r (λ value.
    and_then-named w d (run value (apply (take l c 0) s) n) (run' value (apply (take l c 0) t) n) (big_takes most l c run) (big_takes most l c run')
    (f value (apply (take l c 0) s) (apply (take l c 0) t) n (take-named w d l c 0 s t r)) (takes-named w d most l c run run' f)))
  where
    go : Memories → ℕ → ℤ → Coming P
    go s n value = and_then (run value (apply (take l c 0) s) n) (big_takes most l c run)

    go' : Memories → ℕ → ℤ → Coming P
    go' t n value = and_then (run' value (apply (take l c 0) t) n) (big_takes most l c run')

-- ---- inside an owner

inside-touched : (w : Naming) (d : ℕ) (T : Touch → Type 0) → ((touch : Touch) → T (inner touch) → IsTouchNamed w d touch) → AreNamed w (suc d) T
inside-touched w d T f (reads r) h = at r.level r.container r.element h
  where
    at : (l c e : ℕ) → T (reads (record { level = l; container = c; element = e })) → (k : ℕ) × (names_at w (suc d) l c e ≡ Some k)
    at zero c e h = (e, refl)
    at (suc l) c e h = f (reads (record { level = l; container = c; element = e })) h
inside-touched w d T f (writes r by) h = at r.level r.container r.element h
  where
    at : (l c e : ℕ) → T (writes (record { level = l; container = c; element = e }) by) → (k : ℕ) × (names_at w (suc d) l c e ≡ Some k)
    at zero c e h = (e, refl)
    at (suc l) c e h = f (writes (record { level = l; container = c; element = e }) by) h
inside-touched w d T f (pushes l c) h = tt
inside-touched w d T f (takes l c) h = tt

inside-goes : {P : Type 0} (w : Naming) (d : ℕ) (own : Memory) (f f' : Memories → ℕ → Coming P) → GoesNamed w (suc d) f f' → GoesNamed w d (λ s n. leaving (f (own ∷ s) n)) (λ s n. leaving (f' (own ∷ s) n))
inside-goes w d own f f' h = λ s t n r. leaving-named w d (f (own ∷ s) n) (f' (own ∷ t) n) (h (own ∷ s) (own ∷ t) n (inside-named w d own s t r))

-- ---- terms

mutual
  pub term-goes : {P : Type 0} (w : Naming) → IsOneToOne w → (d : ℕ) (x : Term P) → AreNamed w d (Touches x) → (most : ℕ) → GoesNamed w d (big_step x most) (big_step (term_named w d x) most)
  term-goes w one d (leaf place work) f most = leaf-goes w d one place work f
  term-goes w one d (list kind before parts) f most = parts-go w one d parts f most
  term-goes w one d (owning own part) f most =
      inside-goes w d own (big_step part most) (big_step (term_named w (suc d) part) most) (term-goes w one (suc d) part (inside-touched w d (Touches part) f) most)
  term-goes {P} w one d (nested body exits own state values part) f most =
      inside-goes w d own _ _ (λ s t n r. and_then-named w (suc d) (big_step part most s n) (big_step (term_named w (suc d) part) most t n) (big_states most run exits state values) (big_states most run' exits' state values)
      (term-goes w one (suc d) part (inside-touched w d (Touches part) (λ touch h. f touch (inl h))) most s t n r)
      (states-named w (suc d) most run run' exits
      (λ state values. term-goes w one (suc d) (body state values) (inside-touched w d (Touches (body state values)) (λ touch h. f touch (inr (inl (state, values, h))))) most)
      (λ state values. inside-touched w d (SomeExitTouches (exits state values)) (λ touch h. f touch (inr (inr (state, values, h)))))
      state values))
    where
      run : ℕ → Values → Memories → ℕ → Coming P
      run state values = big_step (body state values) most

      run' : ℕ → Values → Memories → ℕ → Coming P
      run' state values = big_step (term_named w (suc d) (body state values)) most

      exits' : ℕ → Values → List (Exit P)
      exits' state values = map (exit_named w (suc d)) (exits state values)
  term-goes w one d (ended own) f most = reached-named w d
  term-goes w one d (pool l c body active true) f most = reached-named w d
  term-goes {P} w one d (pool l c body active false) f most = λ s t n r.
      and_then-named w d (big_active active most s n) (big_active (active_named w d active) most t n) (big_takes most l c run) (big_takes most l c run')
      (active-go w one d active (λ touch h. f touch (inr (inl h))) most s t n r)
      (takes-named w d most l c run run' (λ value. term-goes w one d (body value) (λ touch h. f touch (inr (inr (value, h)))) most))
    where
      run : ℤ → Memories → ℕ → Coming P
      run value = big_step (body value) most

      run' : ℤ → Memories → ℕ → Coming P
      run' value = big_step (term_named w d (body value)) most

  parts-go : {P : Type 0} (w : Naming) → IsOneToOne w → (d : ℕ) (xs : Terms P) → AreNamed w d (SomePartTouches xs) → (most : ℕ) → GoesNamed w d (big_parts xs most) (big_parts (parts_named w d xs) most)
  parts-go w one d none f most = reached-named w d
  parts-go w one d (also x xs) f most = λ s t n r.
      and_then-named w d (big_step x most s n) (big_step (term_named w d x) most t n) (big_parts xs most) (big_parts (parts_named w d xs) most)
      (term-goes w one d x (λ touch h. f touch (inl h)) most s t n r) (parts-go w one d xs (λ touch h. f touch (inr h)) most)

  active-go : {P : Type 0} (w : Naming) → IsOneToOne w → (d : ℕ) (xs : Actives P) → AreNamed w d (SomeActiveTouches xs) → (most : ℕ) → GoesNamed w d (big_active xs most) (big_active (active_named w d xs) most)
  active-go w one d idle f most = reached-named w d
  active-go w one d (busy value x xs) f most = λ s t n r.
      and_then-named w d (big_step x most s n) (big_step (term_named w d x) most t n) (big_active xs most) (big_active (active_named w d xs) most)
      (term-goes w one d x (λ touch h. f touch (inl h)) most s t n r) (active-go w one d xs (λ touch h. f touch (inr h)) most)
