-- What a course reads and changes is what its work touches.
use Rattle.std.proofs.Common.{◌≡◌, ℕ, zero, suc, ℤ, List, [], ◌∷◌, ◌++◌, map, Option, Some, None, Result, Ok, Err, Bool, true, false, not, refl, inl, inr}
use Rattle.std.specs.Bool.{⊤}
use Rattle.std.specs.List.{AllByRecursion}
use Rattle.sd_num.specs.declared.resolution.Resolution.{Resolution}
use Rattle.sd_work.specs.declared.fault.FaultKind.{FaultKind}
use Rattle.sd_work.specs.Memory.{Memories, Reference, seen, waiting}
use Rattle.sd_work.specs.Change.{Change, nothing, write, push, take, apply, outer, outer_write}
use Rattle.sd_work.specs.Leaf.{Pending, write_value, transfer, push_to, Evaluation, Leaf, reading, doing}
use Rattle.sd_work.specs.Move.{Fault, fault_at}
use Rattle.sd_work.specs.LeafMove.{write_move}
use Rattle.sd_work.specs.Exit.{Values, Guard, Exit, passed, first_exit}
use Rattle.sd_work.specs.Residual.{Term, leaf, list, owning, nested, ended, pool, Terms, none, also, Actives, idle, busy}
use Rattle.sd_work.specs.Step.{Outcome, Done, Faulted, Spent}
use Rattle.sd_work.specs.Touch.{Touch, reads, writes, pushes, takes, IsRead, IsWrite, SomeRead, SomePendingTouches, GuardTouches, inner, LeafTouches, SomeExitTouches, Touches, SomePartTouches, SomeActiveTouches}
use Rattle.sd_pieces.specs.course.Reading.{Reading, reads_element, reads_stream, apply_all, outer_element, outer_readings}
use Rattle.sd_pieces.specs.course.Course.{Course, fails_by, after, and_rest, and_on, paying, read_at, on_move, doing_course, evaluated_course, on_value, reading_course, leaf_course, outside, reads_up_to, guard_reads, unless_passed, exits_read, on_exit, states_course, on_oldest, takes_course, course, parts_course, active_course}
use Rattle.sd_pieces.specs.course.Touched.{IsChangeBy, AreChangesBy, AreReadingsBy, IsCourseBy}

-- ---- lists of both

all-append : {A : Type 0} (P : A → Type 0) (xs ys : List A) → AllByRecursion P xs → AllByRecursion P ys → AllByRecursion P (xs ++ ys)
all-append P [] ys h k = k
all-append P (x ∷ xs) ys h k = (h.0, all-append P xs ys h.1 k)

-- ---- courses

after-by : {P : Type 0} (By : Touch → Type 0) (rs : List Reading) (cs : List Change) (c : Course P) → AreReadingsBy By rs → AreChangesBy By cs → IsCourseBy By c → IsCourseBy By (after rs cs c)
after-by By rs cs c h k e = (all-append _ rs c.readings h e.0, all-append _ cs c.changes k e.1)

and_rest-by : {P : Type 0} (By : Touch → Type 0) (rs : List Reading) (cs : List Change) (end : Option (Outcome P ℕ)) (k : ℕ → Course P) →
    AreReadingsBy By rs → AreChangesBy By cs → ((n : ℕ) → IsCourseBy By (k n)) → IsCourseBy By (and_rest rs cs end k)
and_rest-by By rs cs (Some (Done n)) k h j e = after-by By rs cs (k n) h j (e n)
and_rest-by By rs cs (Some (Faulted fault)) k h j e = (h, j)
and_rest-by By rs cs (Some Spent) k h j e = (h, j)
and_rest-by By rs cs None k h j e = (h, j)

and_on-by : {P : Type 0} (By : Touch → Type 0) (c : Course P) (s : Memories) (g : Memories → ℕ → Course P) → IsCourseBy By c → ((s : Memories) (n : ℕ) → IsCourseBy By (g s n)) → IsCourseBy By (and_on c s g)
and_on-by By c s g h k = and_rest-by By c.readings c.changes c.end (g (apply_all c.changes s)) h.0 h.1 (k (apply_all c.changes s))

paying-by : {P : Type 0} (By : Touch → Type 0) (turn : Bool) (n : ℕ) (f : ℕ → Course P) → ((n : ℕ) → IsCourseBy By (f n)) → IsCourseBy By (paying turn n f)
paying-by By true zero f h = (tt, tt)
paying-by By true (suc n) f h = h n
paying-by By false n f h = h n

-- ---- leaves

read-by : (By : Touch → Type 0) (next : Option Reference) → ((touch : Touch) → IsRead next touch → By touch) → AreReadingsBy By (read_at next)
read-by By None f = tt
read-by By (Some from) f = (f (reads from) refl, tt)

write-by : {P : Type 0} (By : Touch → Type 0) (place : P) (v : Option ℤ) (to : Option Reference) (by : Option Resolution) (left : List Pending) (s : Memories) (n : ℕ) (g : Memories → ℕ → Course P) →
    ((touch : Touch) → IsWrite to by touch → By touch) → ((s : Memories) (n : ℕ) → IsCourseBy By (g s n)) → IsCourseBy By (on_move (write_move place v to by left) s n g)
write-by By place None to by left s n g f k = (tt, tt)
write-by By place (Some v) None by left s n g f k = (tt, tt)
write-by By place (Some v) (Some to) by left s n g f k = after-by By [] (write to by v ∷ []) (g (apply (write to by v) s) n) tt (f (writes to by) refl, tt) (k (apply (write to by v) s) n)

doing-by : {P : Type 0} (By : Touch → Type 0) (place : P) (left : List Pending) → ((touch : Touch) → SomePendingTouches left touch → By touch) → (s : Memories) (n : ℕ) → IsCourseBy By (doing_course place left s n)
doing-by By place [] f s n = (tt, tt)
doing-by By place (write_value v to by ∷ left) f s n =
    write-by By place (Some v) to by left s n (doing_course place left) (λ touch h. f touch (inl h)) (doing-by By place left (λ touch h. f touch (inr h)))
doing-by By place (transfer from to by ∷ left) f s n =
    after-by By (read_at from) [] (on_move (write_move place (seen from s) to by left) s n (doing_course place left)) (read-by By from (λ touch h. f touch (inl (inl h)))) tt
    (write-by By place (seen from s) to by left s n (doing_course place left) (λ touch h. f touch (inl (inr h))) (doing-by By place left (λ touch h. f touch (inr h))))
doing-by By place (push_to l c v ∷ left) f s n =
    after-by By [] (push l c v ∷ []) (doing_course place left (apply (push l c v) s) n) tt (f (pushes l c) (inl refl), tt) (doing-by By place left (λ touch h. f touch (inr h)) (apply (push l c v) s) n)

-- an evaluation that gives these effects
abbrev Gives : Result (List Pending) FaultKind → Touch → Type 0
Gives given touch = (effects : List Pending) × (given ≡ Ok effects) × SomePendingTouches effects touch

evaluated-by : {P : Type 0} (By : Touch → Type 0) (place : P) (turn : Bool) (given : Result (List Pending) FaultKind) → ((touch : Touch) → Gives given touch → By touch) → (s : Memories) (n : ℕ) →
    IsCourseBy By (evaluated_course place turn given s n)
evaluated-by By place turn (Err kind) f s n = paying-by By turn n (λ n. fails_by (fault_at place kind)) (λ n. (tt, tt))
evaluated-by By place turn (Ok effects) f s n = paying-by By turn n (doing_course place effects s) (doing-by By place effects (λ touch h. f touch (effects, refl, h)) s)

value-by : {P : Type 0} (By : Touch → Type 0) (place : P) (v : Option ℤ) (g : ℤ → Course P) → ((value : ℤ) → IsCourseBy By (g value)) → IsCourseBy By (on_value place v g)
value-by By place None g f = (tt, tt)
value-by By place (Some value) g f = f value

reading-by : {P : Type 0} (By : Touch → Type 0) (place : P) (turn : Bool) (left : List (Option Reference)) (values : List ℤ) (evaluation : Evaluation) →
    ((touch : Touch) → SomeRead left touch → By touch) → ((given : List ℤ) (touch : Touch) → Gives (evaluation given) touch → By touch) → (s : Memories) (n : ℕ) →
    IsCourseBy By (reading_course place turn left values evaluation s n)
reading-by By place turn [] values evaluation f e s n = evaluated-by By place turn (evaluation values) (e values) s n
reading-by {P} By place turn (next ∷ left) values evaluation f e s n =
    paying-by By turn n on (λ n. after-by By (read_at next) [] (on_value place (seen next s) (rest n)) (read-by By next (λ touch h. f touch (inl h))) tt
    (value-by By place (seen next s) (rest n) (λ value. reading-by By place false left (values ++ value ∷ []) evaluation (λ touch h. f touch (inr h)) e s n)))
  where
    rest : ℕ → ℤ → Course P
    rest n value = reading_course place false left (values ++ value ∷ []) evaluation s n

    on : ℕ → Course P
    on n = after (read_at next) [] (on_value place (seen next s) (rest n))

leaf-by : {P : Type 0} (By : Touch → Type 0) (place : P) (work : Leaf) → ((touch : Touch) → LeafTouches work touch → By touch) → (s : Memories) (n : ℕ) → IsCourseBy By (leaf_course place work s n)
leaf-by By place (reading begun left values evaluation) f =
    reading-by By place (not begun) left values evaluation (λ touch h. f touch (inl h)) (λ given touch h. f touch (inr (given, h.0, h.1, h.2)))
leaf-by By place (doing left) f = doing-by By place left f

-- ---- transitions

up_to-by : (By : Touch → Type 0) (reads : List (Option Reference)) → ((touch : Touch) → SomeRead reads touch → By touch) → AreReadingsBy By (reads_up_to reads)
up_to-by By [] f = tt
up_to-by By (None ∷ rs) f = tt
up_to-by By (Some from ∷ rs) f = (f (reads from) (inl refl), up_to-by By rs (λ touch h. f touch (inr h)))

guard-by : {P : Type 0} (By : Touch → Type 0) (guard : Option (Guard P)) → ((touch : Touch) → GuardTouches guard touch → By touch) → AreReadingsBy By (guard_reads guard)
guard-by By None f = tt
guard-by By (Some guard) f = up_to-by By guard.reads f

unless-by : {P : Type 0} (By : Touch → Type 0) (o : Result Bool (Fault P)) (rs : List Reading) → AreReadingsBy By rs → AreReadingsBy By (unless_passed o rs)
unless-by By (Err fault) rs h = tt
unless-by By (Ok true) rs h = tt
unless-by By (Ok false) rs h = h

exits-by : {P : Type 0} (By : Touch → Type 0) (exits : List (Exit P)) → ((touch : Touch) → SomeExitTouches exits touch → By touch) → (s : Memories) → AreReadingsBy By (exits_read exits s)
exits-by By [] f s = tt
exits-by By (exit ∷ exits) f s =
    all-append _ (guard_reads exit.when) _ (guard-by By exit.when (λ touch h. f touch (inl h)))
    (unless-by By (passed exit.when s) (exits_read exits s) (exits-by By exits (λ touch h. f touch (inr h)) s))

exit-by : {P : Type 0} (By : Touch → Type 0) (e : Result (Option (Exit P)) (Fault P)) (n : ℕ) (g : Exit P → ℕ → Course P) → ((exit : Exit P) (n : ℕ) → IsCourseBy By (g exit n)) → IsCourseBy By (on_exit e n g)
exit-by By (Err fault) n g f = (tt, tt)
exit-by By (Ok None) n g f = (tt, tt)
exit-by By (Ok (Some exit)) n g f = paying-by By exit.marked n (g exit) (f exit)

states-by : {P : Type 0} (By : Touch → Type 0) (most : ℕ) (run : ℕ → Values → Memories → ℕ → Course P) (exits : ℕ → Values → List (Exit P)) →
    ((state : ℕ) (values : Values) (s : Memories) (n : ℕ) → IsCourseBy By (run state values s n)) →
    ((state : ℕ) (values : Values) (touch : Touch) → SomeExitTouches (exits state values) touch → By touch) →
    (state : ℕ) (values : Values) (s : Memories) (n : ℕ) → IsCourseBy By (states_course most run exits state values s n)
states-by By zero run exits f e state values s n = (tt, tt)
states-by {P} By (suc most) run exits f e state values s n =
    after-by By (exits_read (exits state values) s) [] (on_exit (first_exit (exits state values) s) n on) (exits-by By (exits state values) (e state values) s) tt
    (exit-by By (first_exit (exits state values) s) n on
    (λ exit n. and_on-by By (run exit.state exit.values s n) s (states_course most run exits exit.state exit.values) (f exit.state exit.values s n) (states-by By most run exits f e exit.state exit.values)))
  where
    on : Exit P → ℕ → Course P
    on exit n = and_on (run exit.state exit.values s n) s (states_course most run exits exit.state exit.values)

-- ---- streams

takes-by : {P : Type 0} (By : Touch → Type 0) (most l c : ℕ) (run : ℤ → Memories → ℕ → Course P) → By (takes l c) → ((value : ℤ) (s : Memories) (n : ℕ) → IsCourseBy By (run value s n)) →
    (s : Memories) (n : ℕ) → IsCourseBy By (takes_course most l c run s n)
takes-by By zero l c run t f s n = (tt, tt)
takes-by {P} By (suc most) l c run t f s n =
    after-by By (reads_stream l c ∷ []) [] (on_oldest (waiting l c s) n on) (t, tt) tt (oldest (takes-by By most l c run t f) (waiting l c s))
  where
    on : ℤ → Course P
    on value = after [] (take l c 0 ∷ []) (and_on (run value (apply (take l c 0) s) n) (apply (take l c 0) s) (takes_course most l c run))

    oldest : ((s : Memories) (n : ℕ) → IsCourseBy By (takes_course most l c run s n)) → (values : List ℤ) → IsCourseBy By (on_oldest values n on)
    oldest k [] = (tt, tt)
    oldest k (value ∷ values) =
        after-by By [] (take l c 0 ∷ []) (and_on (run value (apply (take l c 0) s) n) (apply (take l c 0) s) (takes_course most l c run)) tt (t, tt)
        (and_on-by By (run value (apply (take l c 0) s) n) (apply (take l c 0) s) (takes_course most l c run) (f value (apply (take l c 0) s) n) k)

-- ---- inside an owner

-- a touch inside an owner: of the owner's memory, or such a touch outside
abbrev Behind : ℕ → (ℕ → Type 0) → Type 0
Behind zero outside = ⊤
Behind (suc level) outside = outside level

abbrev InsideBy : (Touch → Type 0) → Touch → Type 0
InsideBy By (reads r) = Behind r.level (λ l. By (reads (record { level = l; container = r.container; element = r.element })))
InsideBy By (writes r by) = Behind r.level (λ l. By (writes (record { level = l; container = r.container; element = r.element }) by))
InsideBy By (pushes level container) = Behind level (λ l. By (pushes l container))
InsideBy By (takes level container) = Behind level (λ l. By (takes l container))

-- touches inside an owner that are such touches outside
inside-by : (By Of : Touch → Type 0) → ((touch : Touch) → Of (inner touch) → By touch) → (touch : Touch) → Of touch → InsideBy By touch
inside-by By Of f (reads r) h = at r.level r.container r.element h
  where
    at : (l c e : ℕ) → Of (reads (record { level = l; container = c; element = e })) → Behind l (λ l. By (reads (record { level = l; container = c; element = e })))
    at zero c e h = tt
    at (suc l) c e h = f (reads (record { level = l; container = c; element = e })) h
inside-by By Of f (writes r by) h = at r.level r.container r.element h
  where
    at : (l c e : ℕ) → Of (writes (record { level = l; container = c; element = e }) by) → Behind l (λ l. By (writes (record { level = l; container = c; element = e }) by))
    at zero c e h = tt
    at (suc l) c e h = f (writes (record { level = l; container = c; element = e }) by) h
inside-by By Of f (pushes zero c) h = tt
inside-by By Of f (pushes (suc l) c) h = f (pushes l c) h
inside-by By Of f (takes zero c) h = tt
inside-by By Of f (takes (suc l) c) h = f (takes l c) h

outer-readings-by : (By : Touch → Type 0) (rs : List Reading) → AreReadingsBy (InsideBy By) rs → AreReadingsBy By (outer_readings rs)
outer-readings-by By [] h = tt
outer-readings-by By (reads_element r ∷ rs) h = at r.level r.container r.element (outer_readings rs) h.0 (outer-readings-by By rs h.1)
  where
    at : (l c e : ℕ) (rs : List Reading) → Behind l (λ l. By (reads (record { level = l; container = c; element = e }))) → AreReadingsBy By rs → AreReadingsBy By (outer_element l c e rs)
    at zero c e rs h k = k
    at (suc l) c e rs h k = (h, k)
outer-readings-by By (reads_stream zero c ∷ rs) h = outer-readings-by By rs h.1
outer-readings-by By (reads_stream (suc l) c ∷ rs) h = (h.0, outer-readings-by By rs h.1)

outer-change-by : (By : Touch → Type 0) (change : Change) → IsChangeBy (InsideBy By) change → IsChangeBy By (outer change)
outer-change-by By nothing h = tt
outer-change-by By (write to by value) h = at to.level to.container to.element h
  where
    at : (l c e : ℕ) → Behind l (λ l. By (writes (record { level = l; container = c; element = e }) by)) → IsChangeBy By (outer_write l c e by value)
    at zero c e h = tt
    at (suc l) c e h = h
outer-change-by By (push zero c v) h = tt
outer-change-by By (push (suc l) c v) h = h
outer-change-by By (take zero c p) h = tt
outer-change-by By (take (suc l) c p) h = h

outer-changes-by : (By : Touch → Type 0) (cs : List Change) → AreChangesBy (InsideBy By) cs → AreChangesBy By (map outer cs)
outer-changes-by By [] h = tt
outer-changes-by By (c ∷ cs) h = (outer-change-by By c h.0, outer-changes-by By cs h.1)

outside-by : {P : Type 0} (By : Touch → Type 0) (c : Course P) → IsCourseBy (InsideBy By) c → IsCourseBy By (outside c)
outside-by By c h = (outer-readings-by By c.readings h.0, outer-changes-by By c.changes h.1)

-- ---- terms

mutual
  pub course-by : {P : Type 0} (By : Touch → Type 0) (t : Term P) → ((touch : Touch) → Touches t touch → By touch) → (most : ℕ) (s : Memories) (n : ℕ) → IsCourseBy By (course t most s n)
  course-by By (leaf place work) f most s n = leaf-by By place work f s n
  course-by By (list kind before parts) f most s n = parts-by By parts f most s n
  course-by By (owning own part) f most s n =
      outside-by By (course part most (own ∷ s) n) (course-by (InsideBy By) part (inside-by By (Touches part) f) most (own ∷ s) n)
  course-by {P} By (nested body exits own state values part) f most s n =
      outside-by By (and_on (course part most (own ∷ s) n) (own ∷ s) (states_course most run exits state values))
      (and_on-by (InsideBy By) (course part most (own ∷ s) n) (own ∷ s) (states_course most run exits state values)
      (course-by (InsideBy By) part (inside-by By (Touches part) (λ touch h. f touch (inl h))) most (own ∷ s) n)
      (states-by (InsideBy By) most run exits
      (λ state values. course-by (InsideBy By) (body state values) (inside-by By (Touches (body state values)) (λ touch h. f touch (inr (inl (state, values, h))))) most)
      (λ state values. inside-by By (SomeExitTouches (exits state values)) (λ touch h. f touch (inr (inr (state, values, h)))))
      state values))
    where
      run : ℕ → Values → Memories → ℕ → Course P
      run state values = course (body state values) most
  course-by By (ended own) f most s n = (tt, tt)
  course-by By (pool l c body active true) f most s n = (tt, tt)
  course-by {P} By (pool l c body active false) f most s n =
      and_on-by By (active_course active most s n) s (takes_course most l c run) (active-by By active (λ touch h. f touch (inr (inl h))) most s n)
      (takes-by By most l c run (f (takes l c) (inl refl)) (λ value. course-by By (body value) (λ touch h. f touch (inr (inr (value, h)))) most))
    where
      run : ℤ → Memories → ℕ → Course P
      run value = course (body value) most

  parts-by : {P : Type 0} (By : Touch → Type 0) (ts : Terms P) → ((touch : Touch) → SomePartTouches ts touch → By touch) → (most : ℕ) (s : Memories) (n : ℕ) → IsCourseBy By (parts_course ts most s n)
  parts-by By none f most s n = (tt, tt)
  parts-by By (also t ts) f most s n =
      and_on-by By (course t most s n) s (parts_course ts most) (course-by By t (λ touch h. f touch (inl h)) most s n) (parts-by By ts (λ touch h. f touch (inr h)) most)

  active-by : {P : Type 0} (By : Touch → Type 0) (ts : Actives P) → ((touch : Touch) → SomeActiveTouches ts touch → By touch) → (most : ℕ) (s : Memories) (n : ℕ) → IsCourseBy By (active_course ts most s n)
  active-by By idle f most s n = (tt, tt)
  active-by By (busy value t ts) f most s n =
      and_on-by By (course t most s n) s (active_course ts most) (course-by By t (λ touch h. f touch (inl h)) most s n) (active-by By ts (λ touch h. f touch (inr h)) most)
