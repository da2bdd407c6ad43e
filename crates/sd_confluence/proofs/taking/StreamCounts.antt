-- How often values stand in the streams of a memory after a change, and in its event.
use Rattle.std.proofs.Common.{◌≡◌, ℕ, zero, suc, pred, ◌+◌, List, [], ◌∷◌, ◌++◌, Option, Some, None, ℤ, Bool, true, false, cond, eqb, slice_get, refl, sym, ◌∙◌, ap, arith}
use Rattle.std.proofs.Math.Dec.{eqb-suc-zero, eqb-zero-suc}
use Rattle.std.proofs.lemmas.Bool.{eqb-true, eqb-false}
use Rattle.sd_num.specs.Width.{wrapped_to}
use Rattle.sd_work.specs.Memory.{Contents, array, stream, Memory, values_of, waiting}
use Rattle.sd_work.specs.Change.{Change, nothing, write, push, take, changed_at, without, with_values, appended, apply, own_after}
use Rattle.sd_work.proofs.Changes.{waiting-apply, apply-own}
use Rattle.sd_confluence.specs.Alike.{how_often}
use Rattle.sd_confluence.specs.Event.{Event, pushed, taken, pushed_if, taken_if, event_of, values_pushed, values_taken}
use Rattle.sd_confluence.proofs.bags.Values.{count-append, count-without, without-none}

-- ---- events

taken_append : (st : ℕ) (es fs : List Event) → values_taken st (es ++ fs) ≡ values_taken st es ++ values_taken st fs
taken_append st [] fs = refl
taken_append st (pushed c w ∷ es) fs = taken_append st es fs
taken_append st (taken c w ∷ es) fs = go (eqb c st) (taken_append st es fs)
  where
    go : (b : Bool) → values_taken st (es ++ fs) ≡ values_taken st es ++ values_taken st fs →
        cond b (w ∷ values_taken st (es ++ fs)) (values_taken st (es ++ fs)) ≡ cond b (w ∷ values_taken st es) (values_taken st es) ++ values_taken st fs
    go true h = ap (λ ws. w ∷ ws) h
    go false h = h

pushed_append : (st : ℕ) (es fs : List Event) → values_pushed st (es ++ fs) ≡ values_pushed st es ++ values_pushed st fs
pushed_append st [] fs = refl
pushed_append st (taken c w ∷ es) fs = pushed_append st es fs
pushed_append st (pushed c w ∷ es) fs = go (eqb c st) (pushed_append st es fs)
  where
    go : (b : Bool) → values_pushed st (es ++ fs) ≡ values_pushed st es ++ values_pushed st fs →
        cond b (w ∷ values_pushed st (es ++ fs)) (values_pushed st (es ++ fs)) ≡ cond b (w ∷ values_pushed st es) (values_pushed st es) ++ values_pushed st fs
    go true h = ap (λ ws. w ∷ ws) h
    go false h = h

-- a value is taken in events and later ones as often as in both
pub taken-sum : (st : ℕ) (es fs : List Event) (v : ℤ) → how_often (values_taken st (es ++ fs)) v ≡ how_often (values_taken st es) v + how_often (values_taken st fs) v
taken-sum st es fs v = ap (λ xs. how_often xs v) (taken_append st es fs) ∙ count-append (values_taken st es) (values_taken st fs) v

-- a value is pushed in events and later ones as often as in both
pub pushed-sum : (st : ℕ) (es fs : List Event) (v : ℤ) → how_often (values_pushed st (es ++ fs)) v ≡ how_often (values_pushed st es) v + how_often (values_pushed st fs) v
pushed-sum st es fs v = ap (λ xs. how_often xs v) (pushed_append st es fs) ∙ count-append (values_pushed st es) (values_pushed st fs) v

-- a push takes nothing
pub pushes-only : (st c : ℕ) (w : ℤ) (o : Option Contents) → values_taken st (pushed_if c w o) ≡ []
pushes-only st c w None = refl
pushes-only st c w (Some (array width elements)) = refl
pushes-only st c w (Some (stream width values)) = refl

-- a take pushes nothing
pub takes-only : (st c : ℕ) (o : Option ℤ) → values_pushed st (taken_if c o) ≡ []
takes-only st c None = refl
takes-only st c (Some w) = refl

-- two comparisons of numbers that come to the same
pub same-eqb : (a b c d : ℕ) → (a ≡ b → c ≡ d) → (c ≡ d → a ≡ b) → eqb a b ≡ eqb c d
same-eqb a b c d f g = go (eqb a b) (eqb c d) refl refl
  where
    go : (x y : Bool) → eqb a b ≡ x → eqb c d ≡ y → x ≡ y
    go true true e h = refl
    go true false e h = absurd (eqb-false c d h (f (eqb-true a b e)))
    go false true e h = absurd (eqb-false a b e (g (eqb-true c d h)))
    go false false e h = refl

next_eqb : (a b : ℕ) → eqb (suc a) (suc b) ≡ eqb a b
next_eqb a b = same-eqb (suc a) (suc b) a b (ap pred) (ap suc)

-- the event of a container, as the next one has it in a memory with one container more
pushed_on : (st c : ℕ) (w : ℤ) (o : Option Contents) → values_pushed (suc st) (pushed_if (suc c) w o) ≡ values_pushed st (pushed_if c w o)
pushed_on st c w None = refl
pushed_on st c w (Some (array width elements)) = refl
pushed_on st c w (Some (stream width values)) = ap (λ b. cond b (wrapped_to width w ∷ []) []) (next_eqb c st)

taken_on : (st c : ℕ) (o : Option ℤ) → values_taken (suc st) (taken_if (suc c) o) ≡ values_taken st (taken_if c o)
taken_on st c None = refl
taken_on st c (Some w) = ap (λ b. cond b (w ∷ []) []) (next_eqb c st)

-- the event of another container
pushed_off : (st c : ℕ) (w : ℤ) (o : Option Contents) → eqb c st ≡ false → values_pushed st (pushed_if c w o) ≡ []
pushed_off st c w None e = refl
pushed_off st c w (Some (array width elements)) e = refl
pushed_off st c w (Some (stream width values)) e = ap (λ b. cond b (wrapped_to width w ∷ []) []) e

taken_off : (st c : ℕ) (o : Option ℤ) → eqb c st ≡ false → values_taken st (taken_if c o) ≡ []
taken_off st c None e = refl
taken_off st c (Some w) e = ap (λ b. cond b (w ∷ []) []) e

none_more : (n : ℕ) (v : ℤ) (xs : List ℤ) → xs ≡ [] → n ≡ n + how_often xs v
none_more n v xs e = let h : how_often xs v ≡ 0 = ap (λ ys. how_often ys v) e in omega (arith, h)

-- ---- changes of one memory

-- the values that wait in a stream of a memory
abbrev in_stream : ℕ → Memory → List ℤ
in_stream st own = waiting 0 st (own ∷ [])

push_counts : (st c : ℕ) (w v : ℤ) (own : Memory) →
    how_often (in_stream st (changed_at c (with_values (appended w)) own)) v ≡ how_often (in_stream st own) v + how_often (values_pushed st (pushed_if c w (slice_get own c))) v
push_counts st c w v [] = refl
push_counts zero zero w v (array width elements ∷ own) = refl
push_counts zero zero w v (stream width values ∷ own) = count-append values (wrapped_to width w ∷ []) v
push_counts zero (suc c) w v (k ∷ own) = none_more _ v _ (pushed_off 0 (suc c) w (slice_get own c) (eqb-suc-zero c))
push_counts (suc st) zero w v (k ∷ own) = none_more _ v _ (pushed_off (suc st) 0 w (Some k) (eqb-zero-suc st))
push_counts (suc st) (suc c) w v (k ∷ own) = push_counts st c w v own ∙ ap (λ xs. how_often (in_stream st own) v + how_often xs v) (sym (pushed_on st c w (slice_get own c)))

take_counts : (st c k : ℕ) (v : ℤ) (own : Memory) →
    how_often (in_stream st (changed_at c (with_values (λ width. without k)) own)) v + how_often (values_taken st (taken_if c (slice_get (in_stream c own) k))) v ≡ how_often (in_stream st own) v
take_counts st c k v [] = refl
take_counts zero zero k v (array width elements ∷ own) = refl
take_counts zero zero k v (stream width values ∷ own) = go (slice_get values k) refl
  where
    go : (o : Option ℤ) → slice_get values k ≡ o → how_often (without k values) v + how_often (values_taken 0 (taken_if 0 o)) v ≡ how_often values v
    go None e = let h : how_often (without k values) v ≡ how_often values v = ap (λ xs. how_often xs v) (without-none k values e) in omega (arith, h)
    go (Some w) e = count-without k values w v e
take_counts zero (suc c) k v (x ∷ own) = sym (none_more _ v _ (taken_off 0 (suc c) (slice_get (in_stream c own) k) (eqb-suc-zero c)))
take_counts (suc st) zero k v (x ∷ own) = sym (none_more _ v _ (taken_off (suc st) 0 (slice_get (values_of x) k) (eqb-zero-suc st)))
take_counts (suc st) (suc c) k v (x ∷ own) =
    ap (λ xs. how_often (in_stream st (changed_at c (with_values (λ width. without k)) own)) v + how_often xs v) (taken_on st c (slice_get (in_stream c own) k)) ∙ take_counts st c k v own

-- a write to an element leaves the streams of the innermost memory
written_streams : (st : ℕ) (u : Change) (own : Memory) → waiting 0 st (apply u (own ∷ [])) ≡ in_stream st own → in_stream st (own_after u own) ≡ in_stream st own
written_streams st u own h = sym (ap (waiting 0 st) (apply-own u own [])) ∙ h

-- after a change a value waits as often as before, and as its event says more or less often
pub change-counts : (st : ℕ) (v : ℤ) (u : Change) (own : Memory) →
    how_often (waiting 0 st (own_after u own ∷ [])) v + how_often (values_taken st (event_of own u)) v ≡ how_often (waiting 0 st (own ∷ [])) v + how_often (values_pushed st (event_of own u)) v
change-counts st v nothing own = refl
change-counts st v (write to by value) own = ap (λ xs. how_often xs v + 0) (written_streams st (write to by value) own (waiting-apply 0 st (write to by value) tt (own ∷ [])))
change-counts st v (push zero c w) own =
    let no : how_often (values_taken st (pushed_if c w (slice_get own c))) v ≡ 0 = ap (λ xs. how_often xs v) (pushes-only st c w (slice_get own c)) in
    let h = push_counts st c w v own in
    omega (arith, no, h)
change-counts st v (push (suc l) c w) own = refl
change-counts st v (take zero c k) own =
    let no : how_often (values_pushed st (taken_if c (slice_get (in_stream c own) k))) v ≡ 0 = ap (λ xs. how_often xs v) (takes-only st c (slice_get (in_stream c own) k)) in
    let h = take_counts st c k v own in
    omega (arith, no, h)
change-counts st v (take (suc l) c k) own = refl
