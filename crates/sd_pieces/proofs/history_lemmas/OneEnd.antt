-- A history has one memory and one number of turns.
use Rattle.std.proofs.Common.{◌≡◌, ◌⊎◌, inl, inr, ℕ, zero, suc, ◌+◌, ◌≤◌, List, [], ◌∷◌, ◌++◌, Some, slice_get, refl, sym, ◌∙◌, ap, arith}
use Rattle.sd_work.specs.Memory.{Memories}
use Rattle.sd_work.specs.Residual.{Term}
use Rattle.sd_work.specs.BigStep.{reached, big_step}
use Rattle.sd_pieces.proofs.course_lemmas.MoreAllowed.{more-allowed}
use Rattle.sd_pieces.specs.history.Pieces.{Work}
use Rattle.sd_pieces.specs.history.History.{History, nothing_done, and_piece}
use Rattle.sd_pieces.proofs.history_lemmas.Doing.{memories_in, turns_in}
use Rattle.sd_pieces.proofs.history_lemmas.Follows.{big-more}

pub never-empty : (h : List ℕ) (x : ℕ) → [] ≡ h ++ x ∷ [] → ⊥
never-empty [] x e = cc
never-empty (y ∷ h) x e = cc

-- of two equal lists the last ones are equal, and what is before them
pub last-same : (h k : List ℕ) (x y : ℕ) → h ++ x ∷ [] ≡ k ++ y ∷ [] → (h ≡ k) × (x ≡ y)
last-same [] [] x y e = (refl, cc)
last-same [] (z ∷ k) x y e = let tail : [] ≡ k ++ y ∷ [] = cc in absurd (never-empty k y tail)
last-same (z ∷ h) [] x y e = let tail : [] ≡ h ++ x ∷ [] = cc in absurd (never-empty h x tail)
last-same (z ∷ h) (w ∷ k) x y e =
    let tail : h ++ x ∷ [] ≡ k ++ y ∷ [] = cc in
    let first : z ≡ w = cc in
    let r = last-same h k x y tail in
    ((λ i. first i ∷ r.0 i), r.1)

which : (n m : ℕ) → ((k : ℕ) × (m ≡ n + k)) ⊎ ((k : ℕ) × (n ≡ m + k))
which zero m = inl (m, omega arith)
which (suc n) zero = inr (suc n, omega arith)
which (suc n) (suc m) = more (which n m)
  where
    more : ((k : ℕ) × (m ≡ n + k)) ⊎ ((k : ℕ) × (n ≡ m + k)) → ((k : ℕ) × (suc m ≡ suc n + k)) ⊎ ((k : ℕ) × (suc n ≡ suc m + k))
    more (inl r) = inl (r.0, (let e = r.1 in omega arith))
    more (inr r) = inr (r.0, (let e = r.1 in omega arith))

-- work that wants just so many turns wants no others
wants : {P : Type 0} (t : Term P) (most : ℕ) (s a b : Memories) (n k : ℕ) → big_step t most s n ≡ reached a 0 → big_step t most s (n + k) ≡ reached b 0 → (a ≡ b) × (n ≡ n + k)
wants t most s a b n k p q =
    let e = sym (big-more t most s a n k p) ∙ q in
    let none : k ≡ 0 = ap turns_in e in
    (ap (memories_in a) e, omega arith)

pub wants-one : {P : Type 0} (t : Term P) (most : ℕ) (s a b : Memories) (n m : ℕ) → big_step t most s n ≡ reached a 0 → big_step t most s m ≡ reached b 0 → (a ≡ b) × (n ≡ m)
wants-one t most s a b n m p q = on (which n m)
  where
    on : ((k : ℕ) × (m ≡ n + k)) ⊎ ((k : ℕ) × (n ≡ m + k)) → (a ≡ b) × (n ≡ m)
    on (inl r) = let w = wants t most s a b n r.0 p (ap (big_step t most s) (sym r.1) ∙ q) in (w.0, w.1 ∙ sym r.1)
    on (inr r) = let w = wants t most s b a m r.0 q (ap (big_step t most s) (sym r.1) ∙ p) in (sym w.0, r.1 ∙ sym w.1)

ends : {P : Type 0} (work : Work P) (most : ℕ) (opening : Memories) (h k : List ℕ) (a b : Memories) (n m : ℕ) → History work most opening h a n → History work most opening k b m → h ≡ k → (a ≡ b) × (n ≡ m)
ends work most opening h k a b n m nothing_done nothing_done e = (refl, refl)
ends work most opening h k a b n m nothing_done (and_piece {history} number piece spent after g f big) e = absurd (never-empty history number e)
ends work most opening h k a b n m (and_piece {history} number piece spent after g f big) nothing_done e = absurd (never-empty history number (sym e))
ends {P} work most opening h k a b n m (and_piece {history} {memories} {turns} number piece spent after g f big) (and_piece {history = others} {memories = there} {turns = before} other next wanted left i j big_too) e =
    let same = last-same history others number other e in
    let r = ends work most opening history others memories there turns before g i same.0 in
    let found : Some piece ≡ Some next = sym f.is_piece ∙ ap (slice_get work.pieces) same.1 ∙ j.is_piece in
    let is : piece ≡ next = cc in
    let w = wants-one next.term most there after left spent wanted (sym (λ p. big_step (is p).term most (r.0 p) spent) ∙ big) big_too in
    (w.0, λ p. r.1 p + w.1 p)

-- a history stays one where more is allowed
pub allowed-more : {P : Type 0} (work : Work P) (most more : ℕ) (opening : Memories) (history : List ℕ) (memories : Memories) (turns : ℕ) → most ≤ more
    → History work most opening history memories turns → History work more opening history memories turns
allowed-more work most more opening history memories turns up nothing_done = nothing_done
allowed-more work most more opening history' memories' turns' up (and_piece {history} {memories} {turns} number piece spent after g f big) =
    and_piece number piece spent after (allowed-more work most more opening history memories turns up g) f (more-allowed piece.term most more memories spent _ up big)

pub one-end : {P : Type 0} (work : Work P) (most more : ℕ) (opening : Memories) (history : List ℕ) (memories others : Memories) (turns number : ℕ)
    → History work most opening history memories turns → History work more opening history others number → (memories ≡ others) × (turns ≡ number)
one-end {P} work most more opening history memories others turns number g i = on (which most more)
  where
    to : (k l : ℕ) (m : Memories) (n : ℕ) → k ≤ l → History work k opening history m n → History work l opening history m n
    to k l m n up = allowed-more work k l opening history m n up

    on : ((k : ℕ) × (more ≡ most + k)) ⊎ ((k : ℕ) × (most ≡ more + k)) → (memories ≡ others) × (turns ≡ number)
    on (inl r) = ends work more opening history history memories others turns number (to most more memories turns (let e = r.1 in omega arith) g) i refl
    on (inr r) = ends work most opening history history memories others turns number g (to more most others number (let e = r.1 in omega arith) i) refl
