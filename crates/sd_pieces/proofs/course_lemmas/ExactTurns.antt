-- Work wants just so many turns: what it leaves is what it was given beyond them.
use Rattle.std.proofs.Common.{◌≡◌, ℕ, zero, suc, ◌+◌, ℤ, List, [], ◌∷◌, ◌++◌, Option, Some, None, Result, Ok, Err, Bool, true, false, not, refl, ◌∙◌, ap, arith, sym, subst}
use Rattle.std.specs.Bool.{⊤}
use Rattle.sd_work.specs.declared.fault.FaultKind.{FaultKind}
use Rattle.sd_work.specs.Memory.{Memories, Reference, seen, waiting}
use Rattle.sd_work.specs.Change.{Change, take, apply}
use Rattle.sd_work.specs.Leaf.{Pending, Evaluation, Leaf, reading, doing}
use Rattle.sd_work.specs.Move.{Fault, fault_at, Move, fails, goes, no_move}
use Rattle.sd_work.specs.LeafMove.{do_move}
use Rattle.sd_work.specs.Exit.{Values, Exit, first_exit}
use Rattle.sd_work.specs.Residual.{Term, leaf, list, owning, nested, ended, pool, Terms, none, also, Actives, idle, busy}
use Rattle.sd_work.specs.Step.{Outcome, Done, Faulted, Spent}
use Rattle.sd_pieces.specs.course.Reading.{Reading, reads_stream, apply_all}
use Rattle.sd_pieces.specs.course.Course.{Course, comes_to, rests, fails_by, after, and_rest, and_on, paying, read_at, pending_reads, on_move, doing_course, evaluated_course, on_value, reading_course, leaf_course, outside, exits_read, on_exit, states_course, on_oldest, takes_course, course, parts_course, active_course, with_left}

-- with so many turns left there is a number of turns that is wanted, whatever is left
abbrev Exact : {P : Type 0} → (ℕ → Course P) → Type 0
Exact f = (n m : ℕ) → (f n).end ≡ Some (Done m) → (k : ℕ) × (n ≡ k + m) × ((j : ℕ) → f (k + j) ≡ with_left (f n) j)

abbrev turns_left : {P : Type 0} → Option (Outcome P ℕ) → ℕ
turns_left (Some (Done turns)) = turns
turns_left (Some (Faulted fault)) = 0
turns_left (Some Spent) = 0
turns_left None = 0

abbrev IsLeft : {P : Type 0} → Option (Outcome P ℕ) → Type 0
IsLeft (Some (Done turns)) = ⊤
IsLeft (Some (Faulted fault)) = ⊥
IsLeft (Some Spent) = ⊥
IsLeft None = ⊥

not_left : {P A : Type 0} (end : Option (Outcome P ℕ)) {m : ℕ} → end ≡ Some (Done m) → (IsLeft end → ⊥) → A
not_left end e h = elim (h (subst IsLeft (sym e) tt)) [ ]

rests-exact : {P : Type 0} → Exact {P = P} (λ n. rests n)
rests-exact n m e = (0, (let same : n ≡ m = ap turns_left e in omega arith), λ j. (let zero_plus : 0 + j ≡ j = omega arith in ap rests zero_plus))

fails-exact : {P : Type 0} (fault : Fault P) → Exact (λ n. fails_by fault)
fails-exact fault n m e = not_left _ e (λ x. x)

none-exact : {P : Type 0} → Exact {P = P} (λ n. comes_to None)
none-exact n m e = not_left _ e (λ x. x)

after-exact : {P : Type 0} (rs : List Reading) (cs : List Change) (f : ℕ → Course P) → Exact f → Exact (λ n. after rs cs (f n))
after-exact rs cs f d n m e = let r = d n m e in (r.0, r.1, λ j. ap (after rs cs) (r.2 j))

paying-exact : {P : Type 0} (turn : Bool) (f : ℕ → Course P) → Exact f → Exact (λ n. paying turn n f)
paying-exact true f d zero m e = not_left _ e (λ x. x)
paying-exact true f d (suc n) m e =
    let r = d n m e in
    (suc r.0, (let same = r.1 in omega arith), λ j. (let more : suc r.0 + j ≡ suc (r.0 + j) = omega arith in ap (λ k. paying true k f) more ∙ r.2 j))
paying-exact false f d n m e = d n m e

and_on-exact : {P : Type 0} (s : Memories) (f : ℕ → Course P) (g : Memories → ℕ → Course P) → Exact f → ((s : Memories) → Exact (g s)) → Exact (λ n. and_on (f n) s g)
and_on-exact {P} s f g d e n m h = on (f n).end refl h
  where
    c : Course P
    c = f n

    on : (end : Option (Outcome P ℕ)) → c.end ≡ end → (and_rest c.readings c.changes end (g (apply_all c.changes s))).end ≡ Some (Done m) →
        (k : ℕ) × (n ≡ k + m) × ((j : ℕ) → and_on (f (k + j)) s g ≡ with_left (and_on c s g) j)
    on None q h = not_left _ h (λ x. x)
    on (Some (Faulted fault)) q h = not_left _ h (λ x. x)
    on (Some Spent) q h = not_left _ h (λ x. x)
    on (Some (Done i)) q h =
        let r = d n i q in
        let t = e (apply_all c.changes s) i m h in (
          r.0 + t.0,
          (let a = r.1 in let b = t.1 in omega arith),
          λ j.
              (let same : (r.0 + t.0) + j ≡ r.0 + (t.0 + j) = omega arith in ap (λ k. and_on (f k) s g) same)
              ∙ ap (λ (c : Course P). and_on c s g) (r.2 (t.0 + j))
              ∙ ap (after c.readings c.changes) (t.2 j)
              ∙ sym (ap (λ end. with_left (and_rest c.readings c.changes end (g (apply_all c.changes s))) j) q),
        )

outside-exact : {P : Type 0} (f : ℕ → Course P) → Exact f → Exact (λ n. outside (f n))
outside-exact f d n m e = let r = d n m e in (r.0, r.1, λ j. ap outside (r.2 j))

move-exact : {P A : Type 0} (m : Move P A) (s : Memories) (g : Memories → ℕ → Course P) → ((s : Memories) → Exact (g s)) → Exact (λ n. on_move m s n g)
move-exact (fails turn fault) s g d = paying-exact turn (λ n. fails_by fault) (fails-exact fault)
move-exact (goes turn change left) s g d = paying-exact turn (λ n. after [] (change ∷ []) (g (apply change s) n)) (after-exact [] (change ∷ []) (g (apply change s)) (d (apply change s)))
move-exact no_move s g d = d s

doing-exact : {P : Type 0} (place : P) (left : List Pending) (s : Memories) → Exact (doing_course place left s)
doing-exact place [] s = rests-exact
doing-exact place (next ∷ left) s =
    after-exact (pending_reads next) [] (λ n. on_move (do_move place next s left) s n (doing_course place left)) (move-exact (do_move place next s left) s (doing_course place left) (doing-exact place left))

evaluated-exact : {P : Type 0} (place : P) (turn : Bool) (given : Result (List Pending) FaultKind) (s : Memories) → Exact (evaluated_course place turn given s)
evaluated-exact place turn (Err kind) s = paying-exact turn (λ n. fails_by (fault_at place kind)) (fails-exact (fault_at place kind))
evaluated-exact place turn (Ok effects) s = paying-exact turn (doing_course place effects s) (doing-exact place effects s)

value-exact : {P : Type 0} (place : P) (v : Option ℤ) (g : ℤ → ℕ → Course P) → ((value : ℤ) → Exact (g value)) → Exact (λ n. on_value place v (λ value. g value n))
value-exact place None g d n m e = not_left _ e (λ x. x)
value-exact place (Some value) g d n m e = d value n m e

reading-exact : {P : Type 0} (place : P) (turn : Bool) (left : List (Option Reference)) (values : List ℤ) (evaluation : Evaluation) (s : Memories) → Exact (reading_course place turn left values evaluation s)
reading-exact place turn [] values evaluation s = evaluated-exact place turn (evaluation values) s
reading-exact place turn (next ∷ left) values evaluation s =
    paying-exact turn (λ n. after (read_at next) [] (on_value place (seen next s) (λ value. reading_course place false left (values ++ value ∷ []) evaluation s n)))
    (after-exact (read_at next) [] (λ n. on_value place (seen next s) (λ value. reading_course place false left (values ++ value ∷ []) evaluation s n))
    (value-exact place (seen next s) (λ value. reading_course place false left (values ++ value ∷ []) evaluation s) (λ value. reading-exact place false left (values ++ value ∷ []) evaluation s)))

leaf-exact : {P : Type 0} (place : P) (work : Leaf) (s : Memories) → Exact (leaf_course place work s)
leaf-exact place (reading begun left values evaluation) s = reading-exact place (not begun) left values evaluation s
leaf-exact place (doing left) s = doing-exact place left s

exit-exact : {P : Type 0} (e : Result (Option (Exit P)) (Fault P)) (g : Exit P → ℕ → Course P) → ((exit : Exit P) → Exact (g exit)) → Exact (λ n. on_exit e n g)
exit-exact (Err fault) g d = fails-exact fault
exit-exact (Ok None) g d = rests-exact
exit-exact (Ok (Some exit)) g d = paying-exact exit.marked (g exit) (d exit)

states-exact : {P : Type 0} (most : ℕ) (f : ℕ → Values → Memories → ℕ → Course P) → ((state : ℕ) (values : Values) (s : Memories) → Exact (f state values s)) →
    (exits : ℕ → Values → List (Exit P)) (state : ℕ) (values : Values) (s : Memories) → Exact (states_course most f exits state values s)
states-exact zero f d exits state values s n m e = none-exact n m e
states-exact {P} (suc most) f d exits state values s n m e =
    after-exact (exits_read (exits state values) s) [] (λ n. on_exit (first_exit (exits state values) s) n on)
    (exit-exact (first_exit (exits state values) s) on (λ exit. and_on-exact s (f exit.state exit.values s) (states_course most f exits exit.state exit.values) (d exit.state exit.values s) (states-exact most f d exits exit.state exit.values)))
    n m e
  where
    on : Exit P → ℕ → Course P
    on exit n = and_on (f exit.state exit.values s n) s (states_course most f exits exit.state exit.values)

oldest-exact : {P : Type 0} (values : List ℤ) (g : ℤ → ℕ → Course P) → ((value : ℤ) → Exact (g value)) → Exact (λ n. on_oldest values n (λ value. g value n))
oldest-exact [] g d n m e = rests-exact n m e
oldest-exact (value ∷ values) g d n m e = d value n m e

takes-exact : {P : Type 0} (most l c : ℕ) (f : ℤ → Memories → ℕ → Course P) → ((value : ℤ) (s : Memories) → Exact (f value s)) → (s : Memories) → Exact (takes_course most l c f s)
takes-exact zero l c f d s n m e = none-exact n m e
takes-exact {P} (suc most) l c f d s n m e =
    after-exact (reads_stream l c ∷ []) [] (λ n. on_oldest (waiting l c s) n (λ value. on value n))
    (oldest-exact (waiting l c s) on (λ value. after-exact [] (take l c 0 ∷ []) (λ n. and_on (f value (apply (take l c 0) s) n) (apply (take l c 0) s) (takes_course most l c f))
    (and_on-exact (apply (take l c 0) s) (f value (apply (take l c 0) s)) (takes_course most l c f) (d value (apply (take l c 0) s)) (takes-exact most l c f d))))
    n m e
  where
    on : ℤ → ℕ → Course P
    on value n = after [] (take l c 0 ∷ []) (and_on (f value (apply (take l c 0) s) n) (apply (take l c 0) s) (takes_course most l c f))

mutual
  -- work wants just so many turns
  pub course-exact : {P : Type 0} (t : Term P) (most : ℕ) (s : Memories) → Exact (course t most s)
  course-exact (leaf place work) most s = leaf-exact place work s
  course-exact (list kind before parts) most s = parts-exact parts most s
  course-exact (owning own part) most s = outside-exact (course part most (own ∷ s)) (course-exact part most (own ∷ s))
  course-exact (nested body exits own state values part) most s =
      outside-exact (λ n. and_on (course part most (own ∷ s) n) (own ∷ s) (states_course most (λ state values. course (body state values) most) exits state values))
      (and_on-exact (own ∷ s) (course part most (own ∷ s)) (states_course most (λ state values. course (body state values) most) exits state values) (course-exact part most (own ∷ s))
      (states-exact most (λ state values. course (body state values) most) (λ state values. course-exact (body state values) most) exits state values))
  course-exact (ended own) most s = rests-exact
  course-exact (pool l c body active true) most s = rests-exact
  course-exact (pool l c body active false) most s =
      and_on-exact s (active_course active most s) (takes_course most l c (λ value. course (body value) most)) (active-exact active most s)
      (takes-exact most l c (λ value. course (body value) most) (λ value. course-exact (body value) most))

  parts-exact : {P : Type 0} (ts : Terms P) (most : ℕ) (s : Memories) → Exact (parts_course ts most s)
  parts-exact none most s = rests-exact
  parts-exact (also t ts) most s = and_on-exact s (course t most s) (parts_course ts most) (course-exact t most s) (parts-exact ts most)

  active-exact : {P : Type 0} (ts : Actives P) (most : ℕ) (s : Memories) → Exact (active_course ts most s)
  active-exact idle most s = rests-exact
  active-exact (busy value t ts) most s = and_on-exact s (course t most s) (active_course ts most) (course-exact t most s) (active-exact ts most)
