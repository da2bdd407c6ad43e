-- The course of work tells what it comes to, and depends on what it reads alone.
use Rattle.std.proofs.Common.{◌≡◌, ℕ, zero, suc, ℤ, List, [], ◌∷◌, ◌++◌, Option, Some, None, Result, Ok, Err, Bool, true, false, not, refl, sym, ◌∙◌, ap}
use Rattle.sd_work.specs.declared.fault.FaultKind.{FaultKind}
use Rattle.sd_work.specs.Memory.{Memory, Memories, Reference, seen, waiting}
use Rattle.sd_work.specs.Change.{Change, take, apply}
use Rattle.sd_work.specs.Leaf.{Pending, write_value, transfer, push_to, Evaluation, Leaf, reading, doing}
use Rattle.sd_work.specs.Move.{Fault, fault_at, Move, fails, goes, no_move}
use Rattle.sd_work.specs.LeafMove.{do_move, write_move}
use Rattle.sd_work.specs.Exit.{Values, Exit, first_exit}
use Rattle.sd_work.specs.Residual.{Term, leaf, list, owning, nested, ended, pool, Terms, none, also, Actives, idle, busy}
use Rattle.sd_work.specs.Step.{Outcome, Done, Faulted, Spent, spend}
use Rattle.sd_work.specs.BigStep.{Coming, reached, and_then, leaving, after_move, after_read, big_doing, big_evaluated, big_reading, big_leaf, after_exit, big_states, after_oldest, big_takes, big_step, big_parts, big_active}
use Rattle.sd_pieces.specs.course.Reading.{Reading, reads_stream, AgreeOn, apply_all}
use Rattle.sd_pieces.specs.course.Course.{Course, rests, fails_by, after, and_rest, and_on, paying, read_at, pending_reads, on_move, doing_course, evaluated_course, on_value, reading_course, leaf_course, outside, exits_read, on_exit, states_course, on_oldest, takes_course, course, parts_course, active_course, told_end, told}
use Rattle.sd_pieces.proofs.course_lemmas.Readings.{agree_on-apply, agree_on-apply_all, agree-first, agree-rest, apply_all-append, apply_all-outside, agree-inside, seen-agrees, waiting-agrees, exits-agree}

-- ---- what work comes to

-- a course with something before it
told-after : {P : Type 0} (rs : List Reading) (cs : List Change) (c : Course P) (s : Memories) → told (after rs cs c) s ≡ told c (apply_all cs s)
told-after rs cs c s = ap (told_end c.end) (apply_all-append cs c.changes s)

-- two courses, one after the other
told-and_rest : {P : Type 0} (rs : List Reading) (cs : List Change) (end : Option (Outcome P ℕ)) (s : Memories) (g : Memories → ℕ → Course P) (G : Memories → ℕ → Coming P) →
    ((s : Memories) (turns : ℕ) → G s turns ≡ told (g s turns) s) → and_then (told_end end (apply_all cs s)) G ≡ told (and_rest rs cs end (g (apply_all cs s))) s
told-and_rest rs cs (Some (Done turns)) s g G h = h (apply_all cs s) turns ∙ sym (told-after rs cs (g (apply_all cs s) turns) s)
told-and_rest rs cs (Some (Faulted fault)) s g G h = refl
told-and_rest rs cs (Some Spent) s g G h = refl
told-and_rest rs cs None s g G h = refl

told-and_on : {P : Type 0} (F : Coming P) (c : Course P) (s : Memories) (g : Memories → ℕ → Course P) (G : Memories → ℕ → Coming P) → F ≡ told c s →
    ((s : Memories) (turns : ℕ) → G s turns ≡ told (g s turns) s) → and_then F G ≡ told (and_on c s g) s
told-and_on F c s g G e h = ap (λ F. and_then F G) e ∙ told-and_rest c.readings c.changes c.end s g G h

-- a turn spent before
told-paying : {P : Type 0} (turn : Bool) (turns : ℕ) (s : Memories) (f : ℕ → Course P) (F : ℕ → Coming P) → ((turns : ℕ) → F turns ≡ told (f turns) s) →
    spend (Some Spent) turn turns F ≡ told (paying turn turns f) s
told-paying true zero s f F h = refl
told-paying true (suc turns) s f F h = h turns
told-paying false turns s f F h = h turns

told-outside : {P : Type 0} (F : Coming P) (c : Course P) (own : Memory) (s : Memories) → F ≡ told c (own ∷ s) → leaving F ≡ told (outside c) s
told-outside {P} F c own s e = ap leaving e ∙ on c.end
  where
    on : (end : Option (Outcome P ℕ)) → leaving (told_end end (apply_all c.changes (own ∷ s))) ≡ told_end end (apply_all (outside c).changes s)
    on (Some (Done turns)) = ap (λ t. reached t turns) (apply_all-outside c.changes own s)
    on (Some (Faulted fault)) = refl
    on (Some Spent) = refl
    on None = refl

told-move : {P A : Type 0} (m : Move P A) (s : Memories) (turns : ℕ) (g : Memories → ℕ → Course P) (G : Memories → ℕ → Coming P) →
    ((s : Memories) (turns : ℕ) → G s turns ≡ told (g s turns) s) → after_move m s turns G ≡ told (on_move m s turns g) s
told-move (fails turn fault) s turns g G h = told-paying turn turns s _ _ (λ turns. refl)
told-move (goes turn change left) s turns g G h = told-paying turn turns s _ _ (λ turns. h (apply change s) turns)
told-move no_move s turns g G h = h s turns

told-doing : {P : Type 0} (place : P) (left : List Pending) (s : Memories) (turns : ℕ) → big_doing place left s turns ≡ told (doing_course place left s turns) s
told-doing place [] s turns = refl
told-doing place (next ∷ left) s turns = told-move (do_move place next s left) s turns _ _ (told-doing place left)

told-evaluated : {P : Type 0} (place : P) (turn : Bool) (given : Result (List Pending) FaultKind) (s : Memories) (turns : ℕ) →
    big_evaluated place turn given s turns ≡ told (evaluated_course place turn given s turns) s
told-evaluated place turn (Err kind) s turns = told-paying turn turns s _ _ (λ turns. refl)
told-evaluated place turn (Ok effects) s turns = told-paying turn turns s _ _ (told-doing place effects s)

told-value : {P : Type 0} (place : P) (turn : Bool) (next : Option Reference) (v : Option ℤ) (s : Memories) (turns : ℕ) (g : ℕ → ℤ → Course P) (G : ℤ → ℕ → Coming P) →
    ((value : ℤ) (turns : ℕ) → G value turns ≡ told (g turns value) s) →
    after_read place turn v turns G ≡ told (paying turn turns (λ turns. after (read_at next) [] (on_value place v (g turns)))) s
told-value place turn next None s turns g G h = told-paying turn turns s _ _ (λ turns. refl)
told-value place turn next (Some value) s turns g G h = told-paying turn turns s _ _ (λ turns. h value turns)

told-reading : {P : Type 0} (place : P) (turn : Bool) (left : List (Option Reference)) (values : List ℤ) (evaluation : Evaluation) (s : Memories) (turns : ℕ) →
    big_reading place turn left values evaluation s turns ≡ told (reading_course place turn left values evaluation s turns) s
told-reading place turn [] values evaluation s turns = told-evaluated place turn (evaluation values) s turns
told-reading place turn (next ∷ left) values evaluation s turns =
    told-value place turn next (seen next s) s turns (λ turns value. reading_course place false left (values ++ value ∷ []) evaluation s turns) _
    (λ value turns. told-reading place false left (values ++ value ∷ []) evaluation s turns)

told-leaf : {P : Type 0} (place : P) (work : Leaf) (s : Memories) (turns : ℕ) → big_leaf place work s turns ≡ told (leaf_course place work s turns) s
told-leaf place (reading begun left values evaluation) s turns = told-reading place (not begun) left values evaluation s turns
told-leaf place (doing left) s turns = told-doing place left s turns

told-exit : {P : Type 0} (e : Result (Option (Exit P)) (Fault P)) (s : Memories) (turns : ℕ) (g : Exit P → ℕ → Course P) (G : Exit P → ℕ → Coming P) →
    ((exit : Exit P) (turns : ℕ) → G exit turns ≡ told (g exit turns) s) → after_exit e s turns G ≡ told (on_exit e turns g) s
told-exit (Err fault) s turns g G h = refl
told-exit (Ok None) s turns g G h = refl
told-exit (Ok (Some exit)) s turns g G h = told-paying exit.marked turns s _ _ (h exit)

told-states : {P : Type 0} (most : ℕ) (f : ℕ → Values → Memories → ℕ → Course P) (F : ℕ → Values → Memories → ℕ → Coming P) →
    ((state : ℕ) (values : Values) (s : Memories) (turns : ℕ) → F state values s turns ≡ told (f state values s turns) s) →
    (exits : ℕ → Values → List (Exit P)) (state : ℕ) (values : Values) (s : Memories) (turns : ℕ) →
    big_states most F exits state values s turns ≡ told (states_course most f exits state values s turns) s
told-states zero f F h exits state values s turns = refl
told-states (suc most) f F h exits state values s turns =
    told-exit (first_exit (exits state values) s) s turns
    (λ exit turns. and_on (f exit.state exit.values s turns) s (states_course most f exits exit.state exit.values))
    (λ exit turns. and_then (F exit.state exit.values s turns) (big_states most F exits exit.state exit.values))
    (λ exit turns. told-and_on _ _ s (states_course most f exits exit.state exit.values) _ (h exit.state exit.values s turns) (told-states most f F h exits exit.state exit.values))

told-oldest : {P : Type 0} (l c : ℕ) (values : List ℤ) (s : Memories) (turns : ℕ) (f : ℤ → Memories → ℕ → Course P) (F : ℤ → Memories → ℕ → Coming P) →
    ((value : ℤ) (s : Memories) (turns : ℕ) → F value s turns ≡ told (f value s turns) s) → (g : Memories → ℕ → Course P) (G : Memories → ℕ → Coming P) →
    ((s : Memories) (turns : ℕ) → G s turns ≡ told (g s turns) s) →
    after_oldest values s turns (λ value. and_then (F value (apply (take l c 0) s) turns) G)
    ≡ told (after (reads_stream l c ∷ []) [] (on_oldest values turns (λ value. after [] (take l c 0 ∷ []) (and_on (f value (apply (take l c 0) s) turns) (apply (take l c 0) s) g)))) s
told-oldest l c [] s turns f F h g G k = refl
told-oldest l c (value ∷ values) s turns f F h g G k = told-and_on _ _ (apply (take l c 0) s) g G (h value (apply (take l c 0) s) turns) k

told-takes : {P : Type 0} (most l c : ℕ) (f : ℤ → Memories → ℕ → Course P) (F : ℤ → Memories → ℕ → Coming P) →
    ((value : ℤ) (s : Memories) (turns : ℕ) → F value s turns ≡ told (f value s turns) s) →
    (s : Memories) (turns : ℕ) → big_takes most l c F s turns ≡ told (takes_course most l c f s turns) s
told-takes zero l c f F h s turns = refl
told-takes (suc most) l c f F h s turns =
    told-oldest l c (waiting l c s) s turns f F h (takes_course most l c f) (big_takes most l c F) (told-takes most l c f F h)

mutual
  -- work comes to what its course tells
  pub told-course : {P : Type 0} (t : Term P) (most : ℕ) (s : Memories) (turns : ℕ) → big_step t most s turns ≡ told (course t most s turns) s
  told-course (leaf place work) most s turns = told-leaf place work s turns
  told-course (list kind before parts) most s turns = told-parts parts most s turns
  told-course (owning own part) most s turns = told-outside _ (course part most (own ∷ s) turns) own s (told-course part most (own ∷ s) turns)
  told-course (nested body exits own state values part) most s turns =
      told-outside _ (and_on (course part most (own ∷ s) turns) (own ∷ s) (states_course most (λ state values. course (body state values) most) exits state values)) own s (told-and_on _ _ (own ∷ s) (states_course most (λ state values. course (body state values) most) exits state values) _ (told-course part most (own ∷ s) turns)
      (told-states most _ _ (λ state values. told-course (body state values) most) exits state values))
  told-course (ended own) most s turns = refl
  told-course (pool l c body active true) most s turns = refl
  told-course (pool l c body active false) most s turns =
      told-and_on _ _ s (takes_course most l c (λ value. course (body value) most)) _ (told-active active most s turns) (told-takes most l c _ _ (λ value. told-course (body value) most))

  told-parts : {P : Type 0} (ts : Terms P) (most : ℕ) (s : Memories) (turns : ℕ) → big_parts ts most s turns ≡ told (parts_course ts most s turns) s
  told-parts none most s turns = refl
  told-parts (also t ts) most s turns = told-and_on _ _ s (parts_course ts most) _ (told-course t most s turns) (told-parts ts most)

  told-active : {P : Type 0} (ts : Actives P) (most : ℕ) (s : Memories) (turns : ℕ) → big_active ts most s turns ≡ told (active_course ts most s turns) s
  told-active idle most s turns = refl
  told-active (busy value t ts) most s turns = told-and_on _ _ s (active_course ts most) _ (told-course t most s turns) (told-active ts most)

-- ---- it depends on what it reads alone

-- from memories that agree on what is read the course is the same
abbrev Depends : {P : Type 0} → (Memories → ℕ → Course P) → Type 0
Depends f = (s s' : Memories) (turns : ℕ) → AgreeOn (f s turns).readings s s' → f s' turns ≡ f s turns

and_rest-readings : {P : Type 0} (rs : List Reading) (cs : List Change) (end : Option (Outcome P ℕ)) (k : ℕ → Course P) (s s' : Memories) → AgreeOn (and_rest rs cs end k).readings s s' → AgreeOn rs s s'
and_rest-readings rs cs (Some (Done turns)) k s s' h = agree-first rs _ s s' h
and_rest-readings rs cs (Some (Faulted fault)) k s s' h = h
and_rest-readings rs cs (Some Spent) k s s' h = h
and_rest-readings rs cs None k s s' h = h

and_rest-depends : {P : Type 0} (rs : List Reading) (cs : List Change) (end : Option (Outcome P ℕ)) (g : Memories → ℕ → Course P) → Depends g → (s s' : Memories) →
    AgreeOn (and_rest rs cs end (g (apply_all cs s))).readings s s' → and_rest rs cs end (g (apply_all cs s')) ≡ and_rest rs cs end (g (apply_all cs s))
and_rest-depends rs cs (Some (Done turns)) g d s s' h =
    ap (after rs cs) (d (apply_all cs s) (apply_all cs s') turns (agree_on-apply_all _ cs s s' (agree-rest rs _ s s' h)))
and_rest-depends rs cs (Some (Faulted fault)) g d s s' h = refl
and_rest-depends rs cs (Some Spent) g d s s' h = refl
and_rest-depends rs cs None g d s s' h = refl

and_on-depends : {P : Type 0} (f g : Memories → ℕ → Course P) → Depends f → Depends g → Depends (λ s turns. and_on (f s turns) s g)
and_on-depends {P} f g d e s s' turns h =
    let c : Course P = f s turns in
    ap (λ (c : Course P). and_on c s' g) (d s s' turns (and_rest-readings c.readings c.changes c.end _ s s' h))
    ∙ and_rest-depends c.readings c.changes c.end g e s s' h

-- a turn spent before; what follows may see the memories
paying-depends : {P : Type 0} (turn : Bool) (f : Memories → ℕ → Course P) → Depends f → Depends (λ s turns. paying turn turns (f s))
paying-depends true f d s s' zero h = refl
paying-depends true f d s s' (suc turns) h = d s s' turns h
paying-depends false f d s s' turns h = d s s' turns h

-- a change before
change-depends : {P : Type 0} (change : Change) (f : Memories → ℕ → Course P) → Depends f → Depends (λ s turns. after [] (change ∷ []) (f (apply change s) turns))
change-depends change f d s s' turns h = ap (after [] (change ∷ [])) (d (apply change s) (apply change s') turns (agree_on-apply _ change s s' h))

outside-depends : {P : Type 0} (own : Memory) (f : Memories → ℕ → Course P) → Depends f → Depends (λ s turns. outside (f (own ∷ s) turns))
outside-depends own f d s s' turns h = ap outside (d (own ∷ s) (own ∷ s') turns (agree-inside _ own s s' h))

move-depends : {P A : Type 0} (m : Move P A) (g : Memories → ℕ → Course P) → Depends g → Depends (λ s turns. on_move m s turns g)
move-depends (fails turn fault) g d = paying-depends turn (λ s turns. fails_by fault) (λ s s' turns h. refl)
move-depends (goes turn change left) g d = paying-depends turn (λ s turns. after [] (change ∷ []) (g (apply change s) turns)) (change-depends change g d)
move-depends no_move g d = d

-- what the next thing to do does follows from what it reads
do_move-agrees : {P : Type 0} (place : P) (next : Pending) (left : List Pending) (s s' : Memories) → AgreeOn (pending_reads next) s s' → do_move place next s' left ≡ do_move place next s left
do_move-agrees place (write_value value to by) left s s' h = refl
do_move-agrees place (transfer from to by) left s s' h = ap (λ v. write_move place v to by left) (seen-agrees from s s' h)
do_move-agrees place (push_to l c value) left s s' h = refl

doing-depends : {P : Type 0} (place : P) (left : List Pending) → Depends (doing_course place left)
doing-depends place [] s s' turns h = refl
doing-depends place (next ∷ left) s s' turns h =
    ap (λ m. after (pending_reads next) [] (on_move m s' turns (doing_course place left))) (do_move-agrees place next left s s' (agree-first (pending_reads next) _ s s' h))
    ∙ ap (after (pending_reads next) []) (move-depends (do_move place next s left) (doing_course place left) (doing-depends place left) s s' turns (agree-rest (pending_reads next) _ s s' h))

evaluated-depends : {P : Type 0} (place : P) (turn : Bool) (given : Result (List Pending) FaultKind) → Depends (evaluated_course place turn given)
evaluated-depends place turn (Err kind) = paying-depends turn (λ s turns. fails_by (fault_at place kind)) (λ s s' turns h. refl)
evaluated-depends place turn (Ok effects) = paying-depends turn (doing_course place effects) (doing-depends place effects)

value-depends : {P : Type 0} (place : P) (v : Option ℤ) (g : ℤ → Memories → ℕ → Course P) → ((value : ℤ) → Depends (g value)) → Depends (λ s turns. on_value place v (λ value. g value s turns))
value-depends place None g d s s' turns h = refl
value-depends place (Some value) g d s s' turns h = d value s s' turns h

-- a value that is read, and then the rest
read-depends : {P : Type 0} (place : P) (next : Option Reference) (rest : ℤ → Memories → ℕ → Course P) → ((value : ℤ) → Depends (rest value)) →
    Depends (λ s turns. after (read_at next) [] (on_value place (seen next s) (λ value. rest value s turns)))
read-depends place next rest d s s' turns h =
    ap (λ v. after (read_at next) [] (on_value place v (λ value. rest value s' turns))) (seen-agrees next s s' (agree-first (read_at next) _ s s' h))
    ∙ ap (after (read_at next) []) (value-depends place (seen next s) rest d s s' turns (agree-rest (read_at next) _ s s' h))

reading-depends : {P : Type 0} (place : P) (turn : Bool) (left : List (Option Reference)) (values : List ℤ) (evaluation : Evaluation) → Depends (reading_course place turn left values evaluation)
reading-depends place turn [] values evaluation = evaluated-depends place turn (evaluation values)
reading-depends {P} place turn (next ∷ left) values evaluation =
    paying-depends turn (λ s turns. after (read_at next) [] (on_value place (seen next s) (λ value. reading_course place false left (values ++ value ∷ []) evaluation s turns)))
    (read-depends place next (λ value. reading_course place false left (values ++ value ∷ []) evaluation) (λ value. reading-depends place false left (values ++ value ∷ []) evaluation))

leaf-depends : {P : Type 0} (place : P) (work : Leaf) → Depends (leaf_course place work)
leaf-depends place (reading begun left values evaluation) = reading-depends place (not begun) left values evaluation
leaf-depends place (doing left) = doing-depends place left

exit-depends : {P : Type 0} (e : Result (Option (Exit P)) (Fault P)) (g : Exit P → Memories → ℕ → Course P) → ((exit : Exit P) → Depends (g exit)) →
    Depends (λ s turns. on_exit e turns (λ exit turns. g exit s turns))
exit-depends (Err fault) g d s s' turns h = refl
exit-depends (Ok None) g d s s' turns h = refl
exit-depends (Ok (Some exit)) g d s s' turns h = paying-depends exit.marked (g exit) (d exit) s s' turns h

states-depends : {P : Type 0} (most : ℕ) (f : ℕ → Values → Memories → ℕ → Course P) → ((state : ℕ) (values : Values) → Depends (f state values)) →
    (exits : ℕ → Values → List (Exit P)) (state : ℕ) (values : Values) → Depends (states_course most f exits state values)
states-depends zero f d exits state values s s' turns h = refl
states-depends {P} (suc most) f d exits state values s s' turns h =
    let rs : List Reading = exits_read (exits state values) s in
    let e = exits-agree (exits state values) s s' (agree-first rs _ s s' h) in
    (λ i. after (e.1 i) [] (on_exit (e.0 i) turns (λ exit turns. on exit s' turns)))
    ∙ ap (after rs []) (exit-depends (first_exit (exits state values) s) on
    (λ exit. and_on-depends (f exit.state exit.values) (states_course most f exits exit.state exit.values) (d exit.state exit.values) (states-depends most f d exits exit.state exit.values))
    s s' turns (agree-rest rs _ s s' h))
  where
    on : Exit P → Memories → ℕ → Course P
    on exit s turns = and_on (f exit.state exit.values s turns) s (states_course most f exits exit.state exit.values)

-- the oldest value is taken, and then the rest
oldest-depends : {P : Type 0} (l c : ℕ) (values : List ℤ) (rest : ℤ → Memories → ℕ → Course P) → ((value : ℤ) → Depends (rest value)) →
    Depends (λ s turns. on_oldest values turns (λ value. after [] (take l c 0 ∷ []) (rest value (apply (take l c 0) s) turns)))
oldest-depends l c [] rest d s s' turns h = refl
oldest-depends l c (value ∷ values) rest d s s' turns h = change-depends (take l c 0) (rest value) (d value) s s' turns h

takes-depends : {P : Type 0} (most l c : ℕ) (f : ℤ → Memories → ℕ → Course P) → ((value : ℤ) → Depends (f value)) → Depends (takes_course most l c f)
takes-depends zero l c f d s s' turns h = refl
takes-depends {P} (suc most) l c f d s s' turns h =
    ap (λ values. after (reads_stream l c ∷ []) [] (on_oldest values turns (λ value. after [] (take l c 0 ∷ []) (rest value (apply (take l c 0) s') turns)))) (waiting-agrees l c s s' h.0)
    ∙ ap (after (reads_stream l c ∷ []) []) (oldest-depends l c (waiting l c s) rest
    (λ value. and_on-depends (f value) (takes_course most l c f) (d value) (takes-depends most l c f d)) s s' turns h.1)
  where
    rest : ℤ → Memories → ℕ → Course P
    rest value s turns = and_on (f value s turns) s (takes_course most l c f)

rests-depends : {P : Type 0} → Depends {P = P} (λ s turns. rests turns)
rests-depends s s' turns h = refl

mutual
  -- the course of work depends on what it reads alone
  pub course-depends : {P : Type 0} (t : Term P) (most : ℕ) → Depends (course t most)
  course-depends (leaf place work) most = leaf-depends place work
  course-depends (list kind before parts) most = parts-depend parts most
  course-depends (owning own part) most = outside-depends own (course part most) (course-depends part most)
  course-depends (nested body exits own state values part) most =
      outside-depends own _ (and_on-depends (course part most) (states_course most (λ state values. course (body state values) most) exits state values) (course-depends part most)
      (states-depends most (λ state values. course (body state values) most) (λ state values. course-depends (body state values) most) exits state values))
  course-depends (ended own) most = rests-depends
  course-depends (pool l c body active true) most = rests-depends
  course-depends (pool l c body active false) most =
      and_on-depends (active_course active most) (takes_course most l c (λ value. course (body value) most)) (active-depends active most)
      (takes-depends most l c (λ value. course (body value) most) (λ value. course-depends (body value) most))

  parts-depend : {P : Type 0} (ts : Terms P) (most : ℕ) → Depends (parts_course ts most)
  parts-depend none most = rests-depends
  parts-depend (also t ts) most = and_on-depends (course t most) (parts_course ts most) (course-depends t most) (parts-depend ts most)

  active-depends : {P : Type 0} (ts : Actives P) (most : ℕ) → Depends (active_course ts most)
  active-depends idle most = rests-depends
  active-depends (busy value t ts) most = and_on-depends (course t most) (active_course ts most) (course-depends t most) (active-depends ts most)
