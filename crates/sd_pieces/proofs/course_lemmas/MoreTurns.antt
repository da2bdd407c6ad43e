-- More turns leave more: what work reads and changes stays.
use Rattle.std.proofs.Common.{◌≡◌, ℕ, zero, suc, ◌+◌, ℤ, List, [], ◌∷◌, ◌++◌, Option, Some, None, Result, Ok, Err, Bool, true, false, not, refl, ◌∙◌, ap, arith}
use Rattle.sd_work.specs.declared.fault.FaultKind.{FaultKind}
use Rattle.sd_work.specs.Memory.{Memories, Reference, seen, waiting}
use Rattle.sd_work.specs.Change.{Change, take, apply}
use Rattle.sd_work.specs.Leaf.{Pending, Evaluation, Leaf, reading, doing}
use Rattle.sd_work.specs.Move.{Fault, fault_at, Move, fails, goes, no_move}
use Rattle.sd_work.specs.LeafMove.{do_move}
use Rattle.sd_work.specs.Exit.{Values, Exit, first_exit}
use Rattle.sd_work.specs.Residual.{Term, leaf, list, owning, nested, ended, pool, Terms, none, also, Actives, idle, busy}
use Rattle.sd_work.specs.Step.{Outcome, Done, Faulted, Spent}
use Rattle.sd_pieces.specs.course.Reading.{Reading, reads_stream, apply_all}
use Rattle.sd_pieces.specs.course.Course.{Course, rests, fails_by, after, and_rest, and_on, paying, read_at, pending_reads, on_move, doing_course, evaluated_course, on_value, reading_course, leaf_course, outside, exits_read, on_exit, states_course, on_oldest, takes_course, course, parts_course, active_course, with_more, spare, HasTurns}

-- with more turns there is more left, where the turns were enough
abbrev More : {P : Type 0} → (ℕ → Course P) → Type 0
More f = (n k : ℕ) → HasTurns (f n).end → f (n + k) ≡ spare k (f n)

rests-more : {P : Type 0} → More {P = P} (λ n. rests n)
rests-more n k h = refl

fails-more : {P : Type 0} (fault : Fault P) → More (λ n. fails_by fault)
fails-more fault n k h = refl

after-more : {P : Type 0} (rs : List Reading) (cs : List Change) (f : ℕ → Course P) → More f → More (λ n. after rs cs (f n))
after-more rs cs f d n k h = ap (after rs cs) (d n k h)

paying-more : {P : Type 0} (turn : Bool) (f : ℕ → Course P) → More f → More (λ n. paying turn n f)
paying-more true f d zero k h = elim h [ ]
paying-more true f d (suc n) k h = let e : suc n + k ≡ suc (n + k) = omega arith in ap (λ m. paying true m f) e ∙ d n k h
paying-more false f d n k h = d n k h

and_rest-turns : {P : Type 0} (rs : List Reading) (cs : List Change) (end : Option (Outcome P ℕ)) (g : ℕ → Course P) → HasTurns (and_rest rs cs end g).end → HasTurns end
and_rest-turns rs cs (Some (Done n)) g h = tt
and_rest-turns rs cs (Some (Faulted fault)) g h = tt
and_rest-turns rs cs (Some Spent) g h = h
and_rest-turns rs cs None g h = tt

and_rest-more : {P : Type 0} (rs : List Reading) (cs : List Change) (end : Option (Outcome P ℕ)) (g : ℕ → Course P) → More g → (k : ℕ) → HasTurns (and_rest rs cs end g).end →
    and_rest rs cs (with_more k end) g ≡ spare k (and_rest rs cs end g)
and_rest-more rs cs (Some (Done n)) g d k h = ap (after rs cs) (d n k h)
and_rest-more rs cs (Some (Faulted fault)) g d k h = refl
and_rest-more rs cs (Some Spent) g d k h = elim h [ ]
and_rest-more rs cs None g d k h = refl

and_on-more : {P : Type 0} (s : Memories) (f : ℕ → Course P) (g : Memories → ℕ → Course P) → More f → ((s : Memories) → More (g s)) → More (λ n. and_on (f n) s g)
and_on-more {P} s f g d e n k h =
    let c : Course P = f n in
    ap (λ (c : Course P). and_on c s g) (d n k (and_rest-turns c.readings c.changes c.end (g (apply_all c.changes s)) h))
    ∙ and_rest-more c.readings c.changes c.end (g (apply_all c.changes s)) (e (apply_all c.changes s)) k h

outside-more : {P : Type 0} (f : ℕ → Course P) → More f → More (λ n. outside (f n))
outside-more f d n k h = ap outside (d n k h)

move-more : {P A : Type 0} (m : Move P A) (s : Memories) (g : Memories → ℕ → Course P) → ((s : Memories) → More (g s)) → More (λ n. on_move m s n g)
move-more (fails turn fault) s g d = paying-more turn (λ n. fails_by fault) (fails-more fault)
move-more (goes turn change left) s g d = paying-more turn (λ n. after [] (change ∷ []) (g (apply change s) n)) (after-more [] (change ∷ []) (g (apply change s)) (d (apply change s)))
move-more no_move s g d = d s

doing-more : {P : Type 0} (place : P) (left : List Pending) (s : Memories) → More (doing_course place left s)
doing-more place [] s = rests-more
doing-more place (next ∷ left) s =
    after-more (pending_reads next) [] (λ n. on_move (do_move place next s left) s n (doing_course place left)) (move-more (do_move place next s left) s (doing_course place left) (doing-more place left))

evaluated-more : {P : Type 0} (place : P) (turn : Bool) (given : Result (List Pending) FaultKind) (s : Memories) → More (evaluated_course place turn given s)
evaluated-more place turn (Err kind) s = paying-more turn (λ n. fails_by (fault_at place kind)) (fails-more (fault_at place kind))
evaluated-more place turn (Ok effects) s = paying-more turn (doing_course place effects s) (doing-more place effects s)

value-more : {P : Type 0} (place : P) (v : Option ℤ) (g : ℤ → ℕ → Course P) → ((value : ℤ) → More (g value)) → More (λ n. on_value place v (λ value. g value n))
value-more place None g d n k h = refl
value-more place (Some value) g d n k h = d value n k h

reading-more : {P : Type 0} (place : P) (turn : Bool) (left : List (Option Reference)) (values : List ℤ) (evaluation : Evaluation) (s : Memories) → More (reading_course place turn left values evaluation s)
reading-more place turn [] values evaluation s = evaluated-more place turn (evaluation values) s
reading-more place turn (next ∷ left) values evaluation s =
    paying-more turn (λ n. after (read_at next) [] (on_value place (seen next s) (λ value. reading_course place false left (values ++ value ∷ []) evaluation s n)))
    (after-more (read_at next) [] (λ n. on_value place (seen next s) (λ value. reading_course place false left (values ++ value ∷ []) evaluation s n))
    (value-more place (seen next s) (λ value. reading_course place false left (values ++ value ∷ []) evaluation s) (λ value. reading-more place false left (values ++ value ∷ []) evaluation s)))

leaf-more : {P : Type 0} (place : P) (work : Leaf) (s : Memories) → More (leaf_course place work s)
leaf-more place (reading begun left values evaluation) s = reading-more place (not begun) left values evaluation s
leaf-more place (doing left) s = doing-more place left s

exit-more : {P : Type 0} (e : Result (Option (Exit P)) (Fault P)) (g : Exit P → ℕ → Course P) → ((exit : Exit P) → More (g exit)) → More (λ n. on_exit e n g)
exit-more (Err fault) g d = fails-more fault
exit-more (Ok None) g d = rests-more
exit-more (Ok (Some exit)) g d = paying-more exit.marked (g exit) (d exit)

states-more : {P : Type 0} (most : ℕ) (f : ℕ → Values → Memories → ℕ → Course P) → ((state : ℕ) (values : Values) (s : Memories) → More (f state values s)) →
    (exits : ℕ → Values → List (Exit P)) (state : ℕ) (values : Values) (s : Memories) → More (states_course most f exits state values s)
states-more zero f d exits state values s n k h = refl
states-more {P} (suc most) f d exits state values s n k h =
    after-more (exits_read (exits state values) s) [] (λ n. on_exit (first_exit (exits state values) s) n on)
    (exit-more (first_exit (exits state values) s) on (λ exit. and_on-more s (f exit.state exit.values s) (states_course most f exits exit.state exit.values) (d exit.state exit.values s) (states-more most f d exits exit.state exit.values)))
    n k h
  where
    on : Exit P → ℕ → Course P
    on exit n = and_on (f exit.state exit.values s n) s (states_course most f exits exit.state exit.values)

oldest-more : {P : Type 0} (values : List ℤ) (g : ℤ → ℕ → Course P) → ((value : ℤ) → More (g value)) → More (λ n. on_oldest values n (λ value. g value n))
oldest-more [] g d n k h = refl
oldest-more (value ∷ values) g d n k h = d value n k h

takes-more : {P : Type 0} (most l c : ℕ) (f : ℤ → Memories → ℕ → Course P) → ((value : ℤ) (s : Memories) → More (f value s)) → (s : Memories) → More (takes_course most l c f s)
takes-more zero l c f d s n k h = refl
takes-more {P} (suc most) l c f d s n k h =
    after-more (reads_stream l c ∷ []) [] (λ n. on_oldest (waiting l c s) n (λ value. on value n))
    (oldest-more (waiting l c s) on (λ value. after-more [] (take l c 0 ∷ []) (λ n. and_on (f value (apply (take l c 0) s) n) (apply (take l c 0) s) (takes_course most l c f))
    (and_on-more (apply (take l c 0) s) (f value (apply (take l c 0) s)) (takes_course most l c f) (d value (apply (take l c 0) s)) (takes-more most l c f d))))
    n k h
  where
    on : ℤ → ℕ → Course P
    on value n = after [] (take l c 0 ∷ []) (and_on (f value (apply (take l c 0) s) n) (apply (take l c 0) s) (takes_course most l c f))

mutual
  -- more turns leave more
  pub course-more : {P : Type 0} (t : Term P) (most : ℕ) (s : Memories) → More (course t most s)
  course-more (leaf place work) most s = leaf-more place work s
  course-more (list kind before parts) most s = parts-more parts most s
  course-more (owning own part) most s = outside-more (course part most (own ∷ s)) (course-more part most (own ∷ s))
  course-more (nested body exits own state values part) most s =
      outside-more (λ n. and_on (course part most (own ∷ s) n) (own ∷ s) (states_course most (λ state values. course (body state values) most) exits state values))
      (and_on-more (own ∷ s) (course part most (own ∷ s)) (states_course most (λ state values. course (body state values) most) exits state values) (course-more part most (own ∷ s))
      (states-more most (λ state values. course (body state values) most) (λ state values. course-more (body state values) most) exits state values))
  course-more (ended own) most s = rests-more
  course-more (pool l c body active true) most s = rests-more
  course-more (pool l c body active false) most s =
      and_on-more s (active_course active most s) (takes_course most l c (λ value. course (body value) most)) (active-more active most s)
      (takes-more most l c (λ value. course (body value) most) (λ value. course-more (body value) most))

  parts-more : {P : Type 0} (ts : Terms P) (most : ℕ) (s : Memories) → More (parts_course ts most s)
  parts-more none most s = rests-more
  parts-more (also t ts) most s = and_on-more s (course t most s) (parts_course ts most) (course-more t most s) (parts-more ts most)

  active-more : {P : Type 0} (ts : Actives P) (most : ℕ) (s : Memories) → More (active_course ts most s)
  active-more idle most s = rests-more
  active-more (busy value t ts) most s = and_on-more s (course t most s) (active_course ts most) (course-more t most s) (active-more ts most)
