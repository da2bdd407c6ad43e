-- Where no piece may begin, and one is not finished, one is in work.
use Rattle.std.proofs.Common.{◌≡◌, ◌⊎◌, ℕ, zero, suc, ◌<◌, List, [], ◌∷◌, length, slice_get, slice_index_or, ◌+◌, ◌*◌, Some, Bool, true, false, ◌&&◌, if◌then◌else◌, nat_lt, refl, sym, subst, inl, inr, arith}
use Rattle.std.proofs.lemmas.Option.{slice_get_within}
use Rattle.sd_order.specs.table.Told.{told}
use Rattle.sd_order.specs.declared.table.order.Order.{Order}
use Rattle.sd_board.specs.declared.mark.Mark.{Mark}
use Rattle.sd_board.specs.declared.mark.Mark.TheVariants.{ToBegin, InWork, Finished}
use Rattle.sd_board.specs.Progress.{Standing, Is, NoneMayBegin, AreAllFinished}
use Rattle.sd_board.proofs.Marks.{no, none_some, some_same, begin_not_work, finished_not_work}

-- one of a longer list is the first or stands behind it
behind : (m : Mark) (ms : List Mark) → (m ≡ InWork → ⊥) → ((number : ℕ) → slice_get ms number ≡ Some InWork → ⊥) → (number : ℕ) → slice_get (m ∷ ms) number ≡ Some InWork → ⊥
behind m ms not none zero at = not (some_same m InWork at)
behind m ms not none (suc number) at = none number at

longer : (m : Mark) (ms : List Mark) → (m ≡ InWork → ⊥) → ((number : ℕ) × (slice_get ms number ≡ Some InWork)) ⊎ ((number : ℕ) → slice_get ms number ≡ Some InWork → ⊥)
    → ((number : ℕ) × (slice_get (m ∷ ms) number ≡ Some InWork)) ⊎ ((number : ℕ) → slice_get (m ∷ ms) number ≡ Some InWork → ⊥)
longer m ms not (inl w) = inl (suc w.0, w.1)
longer m ms not (inr none) = inr (behind m ms not none)

-- a piece is in work, or none is
scan : (ms : List Mark) → ((number : ℕ) × (slice_get ms number ≡ Some InWork)) ⊎ ((number : ℕ) → slice_get ms number ≡ Some InWork → ⊥)
scan [] = inr (λ number at. none_some at)
scan (ToBegin ∷ ms) = longer ToBegin ms (λ e. begin_not_work e) (scan ms)
scan (InWork ∷ ms) = inl (0, refl)
scan (Finished ∷ ms) = longer Finished ms (λ e. finished_not_work e) (scan ms)

mark-at : (ms : List Mark) (k : ℕ) → k < length ms → (m : Mark) × (slice_get ms k ≡ Some m)
mark-at [] k l = absurd (omega arith)
mark-at (m ∷ ms) zero l = (m, refl)
mark-at (m ∷ ms) (suc k) l = mark-at ms k (omega arith)

more_than : (x y : ℕ) → nat_lt x y ≡ true → x < y
more_than x y h = grind arith

-- the items before an item have smaller numbers
told-rises : (order : Order) (from to : ℕ) → told order from to ≡ true → from < to
told-rises order from to h = more_than from to (both (nat_lt from to) (nat_lt to order.count) (slice_index_or order.table.items (to * order.count + from) false) h)
  where
    both : (x y z : Bool) → (if x && y then z else false) ≡ true → x ≡ true
    both true y z h = refl
    both false y z h = no h

-- none of an item below this number is to begin
none-below : (s : Standing) → length s.marks ≡ length s.items → NoneMayBegin s → ((number : ℕ) → Is s number InWork → ⊥)
    → (most k item : ℕ) → item < most → slice_get s.items k ≡ Some item → Is s k ToBegin → ⊥
none-below s len none idle zero k item l of at = absurd (omega arith)
none-below s len none idle (suc most) k item l of at =
    none k (record {
      item = item;
      is_of = of;
      to_begin = at;
      is_ready = λ number earlier of' before.
          finished (none-below s len none idle most) number earlier of' before (mark-at s.marks number (subst (λ n. number < n) (sym len) (slice_get_within s.items number earlier of')));
    })
  where
    finished : ((k item : ℕ) → item < most → slice_get s.items k ≡ Some item → Is s k ToBegin → ⊥)
        → (number earlier : ℕ) → slice_get s.items number ≡ Some earlier → told s.order earlier item ≡ true → (m : Mark) × (slice_get s.marks number ≡ Some m) → Is s number Finished
    finished fewer number earlier of' before (ToBegin, is) = absurd (fewer number earlier (let e = told-rises s.order earlier item before in omega arith) of' is)
    finished fewer number earlier of' before (InWork, is) = absurd (idle number is)
    finished fewer number earlier of' before (Finished, is) = is

item-at : (items : List ℕ) (k : ℕ) → k < length items → (item : ℕ) × (slice_get items k ≡ Some item)
item-at [] k l = absurd (omega arith)
item-at (item ∷ items) zero l = (item, refl)
item-at (item ∷ items) (suc k) l = item-at items k (omega arith)

pub one-works : (s : Standing) → length s.marks ≡ length s.items → NoneMayBegin s → (AreAllFinished s.marks → ⊥) → (number : ℕ) × Is s number InWork
one-works s len none not = on (scan s.marks)
  where
    finished : ((number : ℕ) → Is s number InWork → ⊥) → (number : ℕ) → (item : ℕ) × (slice_get s.items number ≡ Some item) → (m : Mark) × (slice_get s.marks number ≡ Some m) → Is s number Finished
    finished idle number item (ToBegin, is) = absurd (none-below s len none idle (suc item.0) number item.0 (omega arith) item.1 is)
    finished idle number item (InWork, is) = absurd (idle number is)
    finished idle number item (Finished, is) = is

    on : ((number : ℕ) × Is s number InWork) ⊎ ((number : ℕ) → Is s number InWork → ⊥) → (number : ℕ) × Is s number InWork
    on (inl w) = w
    on (inr idle) = absurd (not (λ number l. finished idle number (item-at s.items number (subst (λ n. number < n) len l)) (mark-at s.marks number l)))
