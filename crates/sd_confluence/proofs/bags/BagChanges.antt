-- What updates of memories with bags keep, and when two of them commute.
use Rattle.std.proofs.Common.{◌≡◌, ℕ, zero, suc, pred, cond, Bool, true, false, List, [], ◌∷◌, Option, ℤ, refl, sym, ◌∙◌, ap, inl, inr, ◌⊎◌}
use Rattle.std.specs.Bool.{⊤}
use Rattle.sd_num.specs.Width.{wrapped_to}
use Rattle.sd_num.specs.declared.resolution.Resolution.{Resolution}
use Rattle.sd_num.specs.declared.width.Width.{Width}
use Rattle.sd_work.specs.Memory.{Contents, Memory, Reference, look}
use Rattle.sd_work.specs.Change.{Change, nothing, write, changed_at, with_elements, apply}
use Rattle.sd_work.specs.Harmless.{SparesElement}
use Rattle.sd_work.specs.Touch.{writes, pushes, takes, AreCompatible}
use Rattle.sd_work.proofs.Changes.{changed_at-changed_at, same_reference, written-written, look-apply}
use Rattle.std.specs.Ordering.{int_eq}
use Rattle.sd_confluence.proofs.bags.BagMemory.{Holding, cells, bag, Frame, Stack, nth, nowhere, on_cells, on_bag, add_one_of, drop_one_of, count_in, held, plain_holding, plain_frame, plain, Update, keep, put, add, remove, updated, outer_put, outer_update, own_update}

-- what is seen of a place is kept by a change elsewhere, and by one that keeps what is seen
pub nth_at : {A B : Type 0} (d : A) (q : A → B) (i j : ℕ) (f : A → A) → (i ≡ j → (x : A) → q (f x) ≡ q x) → (xs : List A) → q (nth d i (changed_at j f xs)) ≡ q (nth d i xs)
nth_at d q i j f h [] = refl
nth_at d q zero zero f h (x ∷ xs) = h refl x
nth_at d q zero (suc j) f h (x ∷ xs) = refl
nth_at d q (suc i) zero f h (x ∷ xs) = refl
nth_at d q (suc i) (suc j) f h (x ∷ xs) = nth_at d q i j f (λ e. h (ap suc e)) xs

-- ---- two updates

cells_comm : (f g : Width → List ℤ → List ℤ) → ((width : Width) (xs : List ℤ) → f width (g width xs) ≡ g width (f width xs)) → (c : Holding) → on_cells f (on_cells g c) ≡ on_cells g (on_cells f c)
cells_comm f g h (cells width elements) = ap (cells width) (h width elements)
cells_comm f g h (bag width count) = refl

kinds_comm : (f : Width → List ℤ → List ℤ) (g : Width → (ℤ → ℕ) → ℤ → ℕ) → (c : Holding) → on_cells f (on_bag g c) ≡ on_bag g (on_cells f c)
kinds_comm f g (cells width elements) = refl
kinds_comm f g (bag width count) = refl

bags_comm : (f g : Width → (ℤ → ℕ) → ℤ → ℕ) → ((width : Width) (xs : ℤ → ℕ) → f width (g width xs) ≡ g width (f width xs)) → (c : Holding) → on_bag f (on_bag g c) ≡ on_bag g (on_bag f c)
bags_comm f g h (cells width elements) = refl
bags_comm f g h (bag width count) = ap (bag width) (h width count)

add_add : (v w : ℤ) (f : ℤ → ℕ) → add_one_of v (add_one_of w f) ≡ add_one_of w (add_one_of v f)
add_add v w f = λ i x. go (int_eq v x) (int_eq w x) (f x) i
  where
    go : (a b : Bool) (n : ℕ) → cond a (suc (cond b (suc n) n)) (cond b (suc n) n) ≡ cond b (suc (cond a (suc n) n)) (cond a (suc n) n)
    go true true n = refl
    go true false n = refl
    go false true n = refl
    go false false n = refl

drop_drop : (v w : ℤ) (f : ℤ → ℕ) → drop_one_of v (drop_one_of w f) ≡ drop_one_of w (drop_one_of v f)
drop_drop v w f = λ i x. go (int_eq v x) (int_eq w x) (f x) i
  where
    go : (a b : Bool) (n : ℕ) → cond a (pred (cond b (pred n) n)) (cond b (pred n) n) ≡ cond b (pred (cond a (pred n) n)) (cond a (pred n) n)
    go true true n = refl
    go true false n = refl
    go false true n = refl
    go false false n = refl

-- that the touches of two updates are compatible
abbrev pub ApartChanges : Update → Update → Type 0
ApartChanges (put r by x) (put q to y) = AreCompatible (writes r by) (writes q to)
ApartChanges (add l c x) (remove m d y) = AreCompatible (pushes l c) (takes m d)
ApartChanges (remove l c x) (add m d y) = AreCompatible (takes l c) (pushes m d)
ApartChanges u v = ⊤

bags_updated : (l c m d : ℕ) (f g : Width → (ℤ → ℕ) → ℤ → ℕ) → (l ≡ m → c ≡ d → (width : Width) (xs : ℤ → ℕ) → f width (g width xs) ≡ g width (f width xs)) → (s : Stack) →
    changed_at l (changed_at c (on_bag f)) (changed_at m (changed_at d (on_bag g)) s) ≡ changed_at m (changed_at d (on_bag g)) (changed_at l (changed_at c (on_bag f)) s)
bags_updated l c m d f g h s = changed_at-changed_at l m _ _ (λ e x. changed_at-changed_at c d _ _ (λ e' k. bags_comm f g (h e e') k) x) s

kinds_updated : (l c m d : ℕ) (f : Width → List ℤ → List ℤ) (g : Width → (ℤ → ℕ) → ℤ → ℕ) (s : Stack) →
    changed_at l (changed_at c (on_cells f)) (changed_at m (changed_at d (on_bag g)) s) ≡ changed_at m (changed_at d (on_bag g)) (changed_at l (changed_at c (on_cells f)) s)
kinds_updated l c m d f g s = changed_at-changed_at l m _ _ (λ e x. changed_at-changed_at c d _ _ (λ e' k. kinds_comm f g k) x) s

-- two updates with compatible touches commute
pub apply_comm : (u v : Update) → ApartChanges u v → (s : Stack) → updated u (updated v s) ≡ updated v (updated u s)
apply_comm keep v h s = refl
apply_comm (put r by x) keep h s = refl
apply_comm (add l c x) keep h s = refl
apply_comm (remove l c x) keep h s = refl
apply_comm (put r by x) (put q to y) h s =
    changed_at-changed_at r.level q.level _ _ (λ e f. changed_at-changed_at r.container q.container _ _ (λ e' c.
    cells_comm _ _ (λ width. changed_at-changed_at r.element q.element _ _ (λ e''. written-written width by to (h (same_reference r q e e' e'')) x y)) c) f) s
apply_comm (put r by x) (add l c y) h s = kinds_updated r.level r.container l c _ _ s
apply_comm (put r by x) (remove l c y) h s = kinds_updated r.level r.container l c _ _ s
apply_comm (add l c x) (put q to y) h s = sym (kinds_updated q.level q.container l c _ _ s)
apply_comm (add l c x) (add m d y) h s = bags_updated l c m d _ _ (λ e e' width. add_add (wrapped_to width x) (wrapped_to width y)) s
apply_comm (add l c x) (remove m d y) h s = bags_updated l c m d _ _ (λ e e'. elim (h e e') [ ]) s
apply_comm (remove l c x) (put q to y) h s = sym (kinds_updated q.level q.container l c _ _ s)
apply_comm (remove l c x) (add m d y) h s = bags_updated l c m d _ _ (λ e e'. elim (h e e') [ ]) s
apply_comm (remove l c x) (remove m d y) h s = bags_updated l c m d _ _ (λ e e' width. drop_drop x y) s

-- ---- looking after an update

frame_plain : (c : ℕ) (f : Holding → Holding) (g : Contents → Contents) → ((k : Holding) → plain_holding (f k) ≡ g (plain_holding k)) → (m : Frame) → plain_frame (changed_at c f m) ≡ changed_at c g (plain_frame m)
frame_plain c f g h [] = refl
frame_plain zero f g h (k ∷ m) = ap (λ x. x ∷ plain_frame m) (h k)
frame_plain (suc c) f g h (k ∷ m) = ap (λ x. plain_holding k ∷ x) (frame_plain c f g h m)

stack_plain : (l : ℕ) (f : Frame → Frame) (g : Memory → Memory) → ((m : Frame) → plain_frame (f m) ≡ g (plain_frame m)) → (s : Stack) → plain (changed_at l f s) ≡ changed_at l g (plain s)
stack_plain l f g h [] = refl
stack_plain zero f g h (m ∷ s) = ap (λ x. x ∷ plain s) (h m)
stack_plain (suc l) f g h (m ∷ s) = ap (λ x. plain_frame m ∷ x) (stack_plain l f g h s)

frame_kept : (c : ℕ) (f : Width → (ℤ → ℕ) → ℤ → ℕ) (m : Frame) → plain_frame (changed_at c (on_bag f) m) ≡ plain_frame m
frame_kept c f [] = refl
frame_kept zero f (cells width elements ∷ m) = refl
frame_kept zero f (bag width count ∷ m) = refl
frame_kept (suc c) f (k ∷ m) = ap (λ x. plain_holding k ∷ x) (frame_kept c f m)

stack_kept : (l c : ℕ) (f : Width → (ℤ → ℕ) → ℤ → ℕ) (s : Stack) → plain (changed_at l (changed_at c (on_bag f)) s) ≡ plain s
stack_kept l c f [] = refl
stack_kept zero c f (m ∷ s) = ap (λ x. x ∷ plain s) (frame_kept c f m)
stack_kept (suc l) c f (m ∷ s) = ap (λ x. plain_frame m ∷ x) (stack_kept l c f s)

holding_plain : (f : Width → List ℤ → List ℤ) (k : Holding) → plain_holding (on_cells f k) ≡ with_elements f (plain_holding k)
holding_plain f (cells width elements) = refl
holding_plain f (bag width count) = refl

-- an update, as leaves and conditions see it
abbrev pub plain_change : Update → Change
plain_change keep = nothing
plain_change (put to by v) = write to by v
plain_change (add l c v) = nothing
plain_change (remove l c v) = nothing

-- the arrays after an update
pub plain_updated : (u : Update) (s : Stack) → plain (updated u s) ≡ apply (plain_change u) (plain s)
plain_updated keep s = refl
plain_updated (put r by x) s = stack_plain r.level _ _ (λ m. frame_plain r.container _ _ (λ k. holding_plain _ k) m) s
plain_updated (add l c x) s = stack_kept l c _ s
plain_updated (remove l c x) s = stack_kept l c _ s

-- that an update does not write this element
abbrev pub ApartReading : Reference → Update → Type 0
ApartReading r u = SparesElement r (plain_change u)

-- an update that does not write an element leaves its value
pub look_apply : (r : Reference) (u : Update) → ApartReading r u → (s : Stack) → look r (plain (updated u s)) ≡ look r (plain s)
look_apply r u h s = ap (look r) (plain_updated u s) ∙ look-apply r (plain_change u) h (plain s)

-- ---- an update seen from outside

-- an update of a stack splits at its innermost frame
pub split : (u : Update) (f : Frame) (s : Stack) → updated u (f ∷ s) ≡ own_update u f ∷ updated (outer_update u) s
split keep f s = refl
split (put r by x) f s = split_put r.level r.container r.element by x f s
  where
    split_put : (l c p : ℕ) (by : Option Resolution) (x : ℤ) (f : Frame) (s : Stack) →
        updated (put (record { level = l; container = c; element = p }) by x) (f ∷ s) ≡ own_update (put (record { level = l; container = c; element = p }) by x) f ∷ updated (outer_put l c p by x) s
    split_put zero c p by x f s = refl
    split_put (suc l) c p by x f s = refl
split (add zero c x) f s = refl
split (add (suc l) c x) f s = refl
split (remove zero c x) f s = refl
split (remove (suc l) c x) f s = refl

-- ---- how often values wait after an update

-- what is at a place after a change
pub nth_cases : {A : Type 0} (d : A) (i j : ℕ) (f : A → A) (xs : List A) → (nth d i (changed_at j f xs) ≡ nth d i xs) ⊎ ((i ≡ j) × (nth d i (changed_at j f xs) ≡ f (nth d i xs)))
nth_cases d i j f [] = inl refl
nth_cases d zero zero f (x ∷ xs) = inr (refl, refl)
nth_cases d zero (suc j) f (x ∷ xs) = inl refl
nth_cases d (suc i) zero f (x ∷ xs) = inl refl
nth_cases d (suc i) (suc j) f (x ∷ xs) = elim (nth_cases d i j f xs) [ inl e ↦ inl e | inr h ↦ inr (ap suc h.0, h.1) ]

-- that an update leaves alone how often values wait in a stream
abbrev pub ApartHeld : ℕ → ℕ → Update → Type 0
ApartHeld l c keep = ⊤
ApartHeld l c (put r by x) = ⊤
ApartHeld l c (add m d x) = l ≡ m → c ≡ d → ⊥
ApartHeld l c (remove m d x) = l ≡ m → c ≡ d → ⊥

count_cells : (f : Width → List ℤ → List ℤ) (k : Holding) (w : ℤ) → count_in (on_cells f k) w ≡ count_in k w
count_cells f (cells width elements) w = refl
count_cells f (bag width count) w = refl

-- an update elsewhere leaves how often values wait in a stream
pub held_kept : (l c : ℕ) (w : ℤ) (u : Update) → ApartHeld l c u → (s : Stack) → held l c w (updated u s) ≡ held l c w s
held_kept l c w keep h s = refl
held_kept l c w (put r by x) h s =
    nth_at [] (λ f. count_in (nth nowhere c f) w) l r.level _ (λ e f. nth_at nowhere (λ k. count_in k w) c r.container _ (λ e' k. count_cells _ k w) f) s
held_kept l c w (add m d x) h s =
    nth_at [] (λ f. count_in (nth nowhere c f) w) l m _ (λ e f. nth_at nowhere (λ k. count_in k w) c d _ (λ e' k. elim (h e e') [ ]) f) s
held_kept l c w (remove m d x) h s =
    nth_at [] (λ f. count_in (nth nowhere c f) w) l m _ (λ e f. nth_at nowhere (λ k. count_in k w) c d _ (λ e' k. elim (h e e') [ ]) f) s

count_other : (v w : ℤ) → int_eq v w ≡ false → (k : Holding) → count_in (on_bag (λ width. drop_one_of v) k) w ≡ count_in k w
count_other v w e (cells width elements) = refl
count_other v w e (bag width count) = ap (λ b. cond b (pred (count w)) (count w)) e

-- taking one value leaves the others
pub held_other : (l c m d : ℕ) (v w : ℤ) → int_eq v w ≡ false → (s : Stack) → held l c w (updated (remove m d v) s) ≡ held l c w s
held_other l c m d v w h s =
    nth_at [] (λ f. count_in (nth nowhere c f) w) l m _ (λ e f. nth_at nowhere (λ k. count_in k w) c d _ (λ e' k. count_other v w h k) f) s

count_up : (v w : ℤ) (k : Holding) (n : ℕ) → count_in k w ≡ suc n → (m : ℕ) × (count_in (on_bag (λ width. add_one_of (wrapped_to width v)) k) w ≡ suc m)
count_up v w (cells width elements) n e = cc
count_up v w (bag width count) n e = go (int_eq (wrapped_to width v) w)
  where
    go : (b : Bool) → (m : ℕ) × (cond b (suc (count w)) (count w) ≡ suc m)
    go true = (suc n, ap suc e)
    go false = (n, e)

-- an added value takes nothing away
pub held_up : (l c m d : ℕ) (v w : ℤ) (s : Stack) (n : ℕ) → held l c w s ≡ suc n → (j : ℕ) × (held l c w (updated (add m d v) s) ≡ suc j)
held_up l c m d v w s n e = go (nth_cases [] l m (changed_at d (on_bag (λ width. add_one_of (wrapped_to width v)))) s)
  where
    inner : (f : Frame) → count_in (nth nowhere c f) w ≡ suc n → (j : ℕ) × (count_in (nth nowhere c (changed_at d (on_bag (λ width. add_one_of (wrapped_to width v))) f)) w ≡ suc j)
    inner f e = elim (nth_cases nowhere c d (on_bag (λ width. add_one_of (wrapped_to width v))) f) [
      | inl h ↦ (n, ap (λ k. count_in k w) h ∙ e)
      | inr h ↦ let r = count_up v w (nth nowhere c f) n e in (r.0, ap (λ k. count_in k w) h.1 ∙ r.1)
    ]

    go : (nth [] l (updated (add m d v) s) ≡ nth [] l s) ⊎ ((l ≡ m) × (nth [] l (updated (add m d v) s) ≡ changed_at d (on_bag (λ width. add_one_of (wrapped_to width v))) (nth [] l s))) → (j : ℕ) × (held l c w (updated (add m d v) s) ≡ suc j)
    go (inl h) = (n, ap (λ f. count_in (nth nowhere c f) w) h ∙ e)
    go (inr h) = let r = inner (nth [] l s) e in (r.0, ap (λ f. count_in (nth nowhere c f) w) h.1 ∙ r.1)
