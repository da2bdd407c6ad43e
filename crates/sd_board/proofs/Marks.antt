-- What a change of one mark does to the progress.
use Rattle.std.proofs.Common.{◌≡◌, ◌⊎◌, ℕ, zero, suc, ◌+◌, ◌<◌, ◌≤◌, ◌==◌, List, [], ◌∷◌, ◌++◌, length, length-append, length-set, slice_get, slice_set, replicate, Option, Some, None, Bool, true, false, ◌||◌, refl, sym, ◌∙◌, ap, subst, inl, inr, arith}
use Rattle.std.proofs.lemmas.Bool.{eqb-true, eq-eqb}
use Rattle.std.proofs.lemmas.Option.{slice_get_within}
use Rattle.std.proofs.lemmas.List.{length-replicate}
use Rattle.sd_pieces.specs.history.History.{is_in_history}
use Rattle.sd_order.specs.declared.table.order.Order.{Order}
use Rattle.sd_board.specs.declared.mark.Mark.{Mark}
use Rattle.sd_board.specs.declared.mark.Mark.TheVariants.{ToBegin, InWork, Finished}
use Rattle.sd_board.specs.declared.progress.Asked.{Asked}
use Rattle.sd_board.specs.declared.progress.Asked.TheVariants.{Wait, Over}
use Rattle.sd_board.specs.Progress.{Standing, Is, IsReady, MayBegin, NoneMayBegin, marked, Progress, progress_of, not_begun, turned, with_finished, IsTold, one_if_finished, count_finished, IsKept, IsNext, HasEach, AreAllFinished}

abbrev Untrue : Bool → Type 0
Untrue true = ⊥
Untrue false = Unit {0}

pub no : {A : Type 0} → false ≡ true → A
no e = elim (subst Untrue e tt) [ ]

abbrev IsNothing : {A : Type 0} → Option A → Type 0
IsNothing None = Unit {0}
IsNothing (Some x) = ⊥

pub none_some : {A B : Type 0} {x : A} → None ≡ Some x → B
none_some e = elim (subst IsNothing e tt) [ ]

-- the value of an option that has one
abbrev value_of : {A : Type 0} → A → Option A → A
value_of d None = d
value_of d (Some x) = x

pub some_same : {A : Type 0} (x y : A) → Some x ≡ Some y → x ≡ y
some_same x y e = ap (value_of x) e

-- ---- one mark

pub get-set : {A : Type 0} (xs : List A) (k : ℕ) (x : A) → k < length xs → slice_get (slice_set xs k x) k ≡ Some x
get-set [] k x l = absurd (omega arith)
get-set (y ∷ xs) zero x l = refl
get-set (y ∷ xs) (suc k) x l = get-set xs k x (omega arith)

pub get-other : {A : Type 0} (xs : List A) (k j : ℕ) (x : A) → (k ≡ j → ⊥) → slice_get (slice_set xs k x) j ≡ slice_get xs j
get-other [] zero j x h = refl
get-other [] (suc k) j x h = refl
get-other (y ∷ xs) zero zero x h = elim (h refl) [ ]
get-other (y ∷ xs) zero (suc j) x h = refl
get-other (y ∷ xs) (suc k) zero x h = refl
get-other (y ∷ xs) (suc k) (suc j) x h = get-other xs k j x (λ e. h (ap suc e))

-- a number is this one or another
pub is_this : (k j : ℕ) → ((k ≡ j) × ((k == j) ≡ true)) ⊎ ((k ≡ j → ⊥) × ((k == j) ≡ false))
is_this k j = on (k == j) refl
  where
    on : (b : Bool) → (k == j) ≡ b → ((k ≡ j) × ((k == j) ≡ true)) ⊎ ((k ≡ j → ⊥) × ((k == j) ≡ false))
    on true e = inl (eqb-true k j e, e)
    on false e = inr ((λ f. no (sym e ∙ eq-eqb k j f)), e)

abbrev IsFinished : Mark → Type 0
IsFinished ToBegin = ⊥
IsFinished InWork = ⊥
IsFinished Finished = Unit {0}

abbrev IsInWork : Mark → Type 0
IsInWork ToBegin = ⊥
IsInWork InWork = Unit {0}
IsInWork Finished = ⊥

pub work_not_finished : {A : Type 0} → InWork ≡ Finished → A
work_not_finished e = elim (subst IsFinished (sym e) tt) [ ]

begin_not_finished : {A : Type 0} → ToBegin ≡ Finished → A
begin_not_finished e = elim (subst IsFinished (sym e) tt) [ ]

pub begin_not_work : {A : Type 0} → ToBegin ≡ InWork → A
begin_not_work e = elim (subst IsInWork (sym e) tt) [ ]

pub finished_not_work : {A : Type 0} → Finished ≡ InWork → A
finished_not_work e = elim (subst IsInWork (sym e) tt) [ ]

-- a piece with another mark is another one
other-than : (s : Standing) (k j : ℕ) (m n : Mark) → Is s k m → Is s j n → (m ≡ n → ⊥) → k ≡ j → ⊥
other-than s k j m n at at' differ e = differ (some_same m n (sym at ∙ ap (slice_get s.marks) e ∙ at'))

-- ---- how many are finished

pub count-same : (ms : List Mark) (k : ℕ) (x y : Mark) → slice_get ms k ≡ Some y → one_if_finished x ≡ one_if_finished y → count_finished (slice_set ms k x) ≡ count_finished ms
count-same [] k x y at e = none_some at
count-same (m ∷ ms) zero x y at e = ap (λ n. n + count_finished ms) (e ∙ ap one_if_finished (sym (some_same m y at)))
count-same (m ∷ ms) (suc k) x y at e = ap (λ n. one_if_finished m + n) (count-same ms k x y at e)

pub count-more : (ms : List Mark) (k : ℕ) → slice_get ms k ≡ Some InWork → count_finished (slice_set ms k Finished) ≡ count_finished ms + 1
count-more [] k at = none_some at
count-more (m ∷ ms) zero at = let e : one_if_finished m ≡ 0 = ap one_if_finished (some_same m InWork at) in omega arith
count-more (m ∷ ms) (suc k) at = let e = count-more ms k at in omega arith

pub count-few : (ms : List Mark) → count_finished ms ≤ length ms
count-few [] = omega arith
count-few (ToBegin ∷ ms) = let e = count-few ms in omega arith
count-few (InWork ∷ ms) = let e = count-few ms in omega arith
count-few (Finished ∷ ms) = let e = count-few ms in omega arith

pub count-less : (ms : List Mark) (k : ℕ) → slice_get ms k ≡ Some InWork → count_finished ms < length ms
count-less [] k at = none_some at
count-less (m ∷ ms) zero at = let e : one_if_finished m ≡ 0 = ap one_if_finished (some_same m InWork at) in let f = count-few ms in omega arith
count-less (ToBegin ∷ ms) (suc k) at = let e = count-less ms k at in omega arith
count-less (InWork ∷ ms) (suc k) at = let e = count-less ms k at in omega arith
count-less (Finished ∷ ms) (suc k) at = let e = count-less ms k at in omega arith

count-none : (n : ℕ) → count_finished (replicate n ToBegin) ≡ 0
count-none zero = refl
count-none (suc n) = let e = count-none n in omega arith

marks-none : (n k : ℕ) (mark : Mark) → slice_get (replicate n ToBegin) k ≡ Some mark → mark ≡ ToBegin
marks-none zero k mark at = none_some at
marks-none (suc n) zero mark at = sym (some_same ToBegin mark at)
marks-none (suc n) (suc k) mark at = marks-none n k mark at

-- ---- the history

pub in-longer : (j k : ℕ) (h : List ℕ) → is_in_history j (h ++ k ∷ []) ≡ (is_in_history j h || (k == j))
in-longer j k [] = or_false (k == j)
  where
    or_false : (b : Bool) → (b || false) ≡ b
    or_false true = refl
    or_false false = refl
in-longer j k (x ∷ h) = ap (λ b. (x == j) || b) (in-longer j k h) ∙ assoc (x == j) (is_in_history j h) (k == j)
  where
    assoc : (a b c : Bool) → (a || (b || c)) ≡ ((a || b) || c)
    assoc true b c = refl
    assoc false b c = refl

or_left : (a b : Bool) → a ≡ true → (a || b) ≡ true
or_left true b h = refl
or_left false b h = no h

or_right : (a b : Bool) → b ≡ true → (a || b) ≡ true
or_right true b h = refl
or_right false b h = h

or_elim : (a b : Bool) → (a || b) ≡ true → (a ≡ true) ⊎ (b ≡ true)
or_elim true b h = inl refl
or_elim false b h = inr h

-- ---- what holds of all progress

pub kept-opened : (items : List ℕ) (order : Order) (room total : ℕ) → length items ≤ room → total ≡ 0 → IsKept (not_begun items order) room total
kept-opened items order room total few none = record {
  marked = length-replicate (length items) ToBegin;
  entered = λ number at. begin_not_finished (sym (marks-none (length items) number Finished at));
  finished = λ number is. no is;
  ready = λ number item at of. begin_not_work (sym (marks-none (length items) number InWork at));
  counted = count-none (length items);
  booked = none;
  has_room = few;
}

-- a mark that is not for a finished piece, in the place of one that is not
turned-ready : (s : Standing) (k item : ℕ) (x y : Mark) → Is s k y → (y ≡ Finished → ⊥) → IsReady s item → IsReady (marked k x s) item
turned-ready s k item x y at not ready number earlier of before =
    let done = ready number earlier of before in
    get-other s.marks k number x (other-than s k number y Finished at done not) ∙ done

kept-turned : (p : Progress) (room total k : ℕ) (x y : Mark) → IsKept p room total → Is p.pieces k y → (y ≡ Finished → ⊥) → (x ≡ Finished → ⊥) → one_if_finished x ≡ one_if_finished y
    → ((item : ℕ) → x ≡ InWork → slice_get p.pieces.items k ≡ Some item → IsReady p.pieces item)
    → IsKept (turned k x p) room total
kept-turned p room total k x y h at not not' same ready = record {
  marked = length-set p.pieces.marks k x ∙ h.marked;
  entered = λ number is. h.entered number (on number is (is_this k number));
  finished = λ number is. let done = h.finished number is in get-other p.pieces.marks k number x (other-than p.pieces k number y Finished at done not) ∙ done;
  ready = λ number item is of. turned-ready p.pieces k item x y at not (on_ready number item is of (is_this k number));
  counted = count-same p.pieces.marks k x y at same ∙ h.counted;
  booked = h.booked;
  has_room = h.has_room;
}
  where
    within : k < length p.pieces.marks
    within = slice_get_within p.pieces.marks k y at

    on : (number : ℕ) → Is (marked k x p.pieces) number Finished → ((k ≡ number) × ((k == number) ≡ true)) ⊎ ((k ≡ number → ⊥) × ((k == number) ≡ false)) → Is p.pieces number Finished
    on number is (inl e) = elim (not' (some_same x Finished (sym (get-set p.pieces.marks k x within) ∙ ap (slice_get (slice_set p.pieces.marks k x)) e.0 ∙ is))) [ ]
    on number is (inr e) = sym (get-other p.pieces.marks k number x e.0) ∙ is

    on_ready : (number item : ℕ) → Is (marked k x p.pieces) number InWork → slice_get p.pieces.items number ≡ Some item → ((k ≡ number) × ((k == number) ≡ true)) ⊎ ((k ≡ number → ⊥) × ((k == number) ≡ false)) → IsReady p.pieces item
    on_ready number item is of (inl e) =
        ready item (some_same x InWork (sym (get-set p.pieces.marks k x within) ∙ ap (slice_get (slice_set p.pieces.marks k x)) e.0 ∙ is)) (ap (slice_get p.pieces.items) e.0 ∙ of)
    on_ready number item is of (inr e) = h.ready number item (sym (get-other p.pieces.marks k number x e.0) ∙ is) of

pub kept-begun : (p : Progress) (room total k : ℕ) → IsKept p room total → MayBegin p.pieces k → IsKept (turned k InWork p) room total
kept-begun p room total k h may =
    kept-turned p room total k InWork ToBegin h may.to_begin begin_not_finished work_not_finished refl
    (λ item _ of. subst (IsReady p.pieces) (some_same may.item item (sym may.is_of ∙ of)) may.is_ready)

pub kept-given : (p : Progress) (room total k : ℕ) → IsKept p room total → Is p.pieces k InWork → IsKept (turned k ToBegin p) room total
kept-given p room total k h at = kept-turned p room total k ToBegin InWork h at work_not_finished begin_not_finished refl (λ item e of. begin_not_work e)

pub kept-finished : (p : Progress) (room total k : ℕ) → IsKept p room total → Is p.pieces k InWork → IsKept (with_finished k p) room (total + 1)
kept-finished p room total k h at = record {
  marked = length-set p.pieces.marks k Finished ∙ h.marked;
  entered = λ number is. in-longer number k p.history ∙ on_entered number is (is_this k number);
  finished = λ number is. on_finished number (is_this k number) (or_elim (is_in_history number p.history) (k == number) (sym (in-longer number k p.history) ∙ is));
  ready = λ number item is of. more item (h.ready number item (on_work number is (is_this k number)) of);
  counted = count-more p.pieces.marks k at ∙ ap (λ n. n + 1) h.counted ∙ sym (length-append p.history (k ∷ []));
  booked = ap (λ n. n + 1) h.booked ∙ sym (length-append p.history (k ∷ []));
  has_room = h.has_room;
}
  where
    within : k < length p.pieces.marks
    within = slice_get_within p.pieces.marks k InWork at

    on_entered : (number : ℕ) → Is (marked k Finished p.pieces) number Finished → ((k ≡ number) × ((k == number) ≡ true)) ⊎ ((k ≡ number → ⊥) × ((k == number) ≡ false)) →
        (is_in_history number p.history || (k == number)) ≡ true
    on_entered number is (inl e) = or_right (is_in_history number p.history) (k == number) e.1
    on_entered number is (inr e) = or_left (is_in_history number p.history) (k == number) (h.entered number (sym (get-other p.pieces.marks k number Finished e.0) ∙ is))

    this : (number : ℕ) → k ≡ number → Is (marked k Finished p.pieces) number Finished
    this number e = subst (λ n. Is (marked k Finished p.pieces) n Finished) e (get-set p.pieces.marks k Finished within)

    on_finished : (number : ℕ) → ((k ≡ number) × ((k == number) ≡ true)) ⊎ ((k ≡ number → ⊥) × ((k == number) ≡ false)) → (is_in_history number p.history ≡ true) ⊎ ((k == number) ≡ true) → Is (marked k Finished p.pieces) number Finished
    on_finished number (inl e) is = this number e.0
    on_finished number (inr e) (inl is) = get-other p.pieces.marks k number Finished e.0 ∙ h.finished number is
    on_finished number (inr e) (inr is) = no (sym e.1 ∙ is)

    on_work : (number : ℕ) → Is (marked k Finished p.pieces) number InWork → ((k ≡ number) × ((k == number) ≡ true)) ⊎ ((k ≡ number → ⊥) × ((k == number) ≡ false)) → Is p.pieces number InWork
    on_work number is (inl e) = finished_not_work (some_same Finished InWork (sym (this number e.0) ∙ is))
    on_work number is (inr e) = sym (get-other p.pieces.marks k number Finished e.0) ∙ is

    more : (item : ℕ) → IsReady p.pieces item → IsReady (marked k Finished p.pieces) item
    more item ready number earlier of before = on (is_this k number)
      where
        on : ((k ≡ number) × ((k == number) ≡ true)) ⊎ ((k ≡ number → ⊥) × ((k == number) ≡ false)) → Is (marked k Finished p.pieces) number Finished
        on (inl e) = this number e.0
        on (inr e) = get-other p.pieces.marks k number Finished e.0 ∙ ready number earlier of before

-- ---- what follows

not_in : (b : Bool) → (b ≡ true → ⊥) → b ≡ false
not_in true h = elim (h refl) [ ]
not_in false h = refl

there : (xs : List ℕ) (k : ℕ) → k < length xs → (x : ℕ) × (slice_get xs k ≡ Some x)
there [] k l = absurd (omega arith)
there (x ∷ xs) zero l = (x, refl)
there (x ∷ xs) (suc k) l = there xs k (omega arith)

pub next-of : (p : Progress) (room total k : ℕ) → IsKept p room total → Is p.pieces k InWork → IsNext p k
next-of p room total k h at = record {
  is_new = not_in (is_in_history k p.history) (λ is. work_not_finished (some_same InWork Finished (sym at ∙ h.finished k is)));
  is_ready = λ item other earlier of of' before. h.entered other (h.ready k item at of other earlier of' before);
  is_there = there p.pieces.items k (subst (λ n. k < n) h.marked (slice_get_within p.pieces.marks k InWork at));
  few = let a = count-less p.pieces.marks k at in let b = h.counted in let c = h.marked in omega arith;
}

pub room-left : (p : Progress) (room total k : ℕ) → IsKept p room total → Is p.pieces k InWork → length p.history < room
room-left p room total k h at = let a = (next-of p room total k h at).few in let b = h.has_room in omega arith

pub has-each : (p : Progress) (room total : ℕ) → IsKept p room total → AreAllFinished p.pieces.marks → HasEach p
has-each p room total h all number l = h.entered number (all number (subst (λ n. number < n) (sym h.marked) l))

pub all-finished : (p : Progress) (room total : ℕ) → IsKept p room total → HasEach p → AreAllFinished p.pieces.marks
all-finished p room total h each number l = h.finished number (each number (subst (λ n. number < n) h.marked l))

-- ---- as the code keeps it

pub told-over : (p : Progress) (asked : Asked) → asked ≡ Over → AreAllFinished p.pieces.marks → IsTold p asked p
told-over p asked e h = subst (λ a. IsTold p a p) (sym e) (h, refl)

pub told-wait : (p : Progress) (asked : Asked) → asked ≡ Wait → NoneMayBegin p.pieces → ((number : ℕ) × Is p.pieces number InWork) → IsTold p asked p
told-wait p asked e none works = subst (λ a. IsTold p a p) (sym e) (none, works, refl)

pub kept-as : (pieces : Standing) (history history' : List ℕ) (room room' total total' : ℕ) → history ≡ history' → room ≡ room' → total ≡ total'
    → IsKept (record { pieces = pieces; history = history }) room total → IsKept (record { pieces = pieces; history = history' }) room' total'
kept-as pieces history history' room room' total total' e f k h =
    subst (λ x. IsKept (record { pieces = pieces; history = x }) room' total') e
    (subst (λ x. IsKept (record { pieces = pieces; history = history }) x total') f
    (subst (λ x. IsKept (record { pieces = pieces; history = history }) room x) k h))

pub kept-new : (items : List ℕ) (order : Order) (marks : List Mark) (history : List ℕ) (room total : ℕ) → marks ≡ replicate (length items) ToBegin → history ≡ [] → length items ≤ room → total ≡ 0
    → IsKept (progress_of items order marks history) room total
kept-new items order marks history room total e f few none =
    subst (λ m. IsKept (progress_of items order m history) room total) (sym e)
    (subst (λ h. IsKept (progress_of items order (replicate (length items) ToBegin) h) room total) (sym f) (kept-opened items order room total few none))
