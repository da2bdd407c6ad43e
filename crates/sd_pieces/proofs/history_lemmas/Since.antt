-- What was done since a piece may follow is of items that are not ordered with its own.
use Rattle.std.proofs.Common.{◌≡◌, ◌≢◌, ◌⊎◌, inl, inr, ℕ, ◌==◌, List, [], ◌∷◌, ◌++◌, Some, slice_get, Bool, true, false, ◌||◌, refl, sym, ◌∙◌, ap, subst}
use Rattle.std.proofs.lemmas.Bool.{eq-eqb}
use Rattle.sd_work.specs.Memory.{Memories}
use Rattle.sd_work.specs.BigStep.{reached, big_step}
use Rattle.sd_pieces.specs.history.Pieces.{Piece, Work}
use Rattle.sd_pieces.specs.history.History.{is_in_history, MayFollow, History, nothing_done, and_piece}
use Rattle.sd_pieces.proofs.history_lemmas.OneEnd.{never-empty, last-same, one-end}
use Rattle.sd_pieces.proofs.history_lemmas.Whole.{stands-append}

-- ---- lists

-- a list is empty, or has a last member
abbrev HasLast : List ℕ → Type 0
HasLast later = (later ≡ []) ⊎ ((front : List ℕ) × (last : ℕ) × (later ≡ front ++ last ∷ []))

has-last : (later : List ℕ) → HasLast later
has-last [] = inl refl
has-last (x ∷ later) = elim (has-last later) [
  | inl none ↦ inr ([], x, ap (λ rest. x ∷ rest) none)
  | inr some ↦ inr (x ∷ some.0, some.1, ap (λ rest. x ∷ rest) some.2)
]

append-nothing : (h : List ℕ) → h ++ [] ≡ h
append-nothing [] = refl
append-nothing (x ∷ h) = ap (λ rest. x ∷ rest) (append-nothing h)

append-three : (h f : List ℕ) (x : ℕ) → h ++ (f ++ x ∷ []) ≡ (h ++ f) ++ x ∷ []
append-three [] f x = refl
append-three (y ∷ h) f x = ap (λ rest. y ∷ rest) (append-three h f x)

-- what stands in a list stands in a longer one
in-longer : (number : ℕ) (h k : List ℕ) → is_in_history number h ≡ true → is_in_history number (h ++ k) ≡ true
in-longer number [] k is = cc
in-longer number (x ∷ h) k is = on (x == number) is (in-longer number h k)
  where
    on : (b : Bool) → (b || is_in_history number h) ≡ true → (is_in_history number h ≡ true → is_in_history number (h ++ k) ≡ true) → (b || is_in_history number (h ++ k)) ≡ true
    on true e later = refl
    on false e later = later e

neither : (a b : Bool) → (a || b) ≡ false → (a ≡ false) × (b ≡ false)
neither true b e = cc
neither false b e = (refl, e)

unless-true : (b : Bool) → (b ≡ true → ⊥) → b ≡ false
unless-true true h = absurd (h refl)
unless-true false h = refl

both-ways : (b : Bool) → b ≡ true → b ≡ false → ⊥
both-ways b e f = let clash : true ≡ false = sym e ∙ f in cc

-- ---- histories

-- a relation of memories that each piece keeps whose item is not ordered with that of a piece
pub record IsKeptBeside {P : Type 0} (work : Work P) (number : ℕ) (piece : Piece P) (Keeps : Memories → Memories → Type 0) : Type 0 where
  pub same : (memories : Memories) → Keeps memories memories
  pub further : (first second third : Memories) → Keeps first second → Keeps second third → Keeps first third
  pub beside : (other : ℕ) (next : Piece P) (most spent : ℕ) (memories after : Memories) → slice_get work.pieces other ≡ Some next → number ≢ other
      → work.before piece.item next.item ≡ false → work.before next.item piece.item ≡ false → big_step next.term most memories spent ≡ reached after 0 → Keeps memories after

-- it is kept by all that was done since the piece may follow, where that was not done itself
since : {P : Type 0} (work : Work P) (most more : ℕ) (opening : Memories) (history : List ℕ) (memories : Memories) (turns number : ℕ) (piece : Piece P) (Keeps : Memories → Memories → Type 0)
    → IsKeptBeside work number piece Keeps → History work most opening history memories turns → MayFollow work history number piece
    → (all later : List ℕ) (after : Memories) (left : ℕ) → all ≡ history ++ later → History work more opening all after left → is_in_history number all ≡ false → Keeps memories after
since work most more opening history memories turns number piece Keeps kept h follows all later after left is nothing_done new = on (has-last later)
  where
    on : HasLast later → Keeps memories opening
    on (inl none) =
        let empty : [] ≡ history = is ∙ ap (λ rest. history ++ rest) none ∙ append-nothing history in
        let one = one-end work most more opening history memories opening turns 0 h (subst (λ k. History work more opening k opening 0) empty nothing_done) in
        subst (λ m. Keeps m opening) (sym one.0) (kept.same opening)
    on (inr some) = absurd (never-empty (history ++ some.0) some.1 (is ∙ ap (λ rest. history ++ rest) some.2 ∙ append-three history some.0 some.1))
since {P} work most more opening history memories turns number piece Keeps kept h follows all later after left is (and_piece {history = before} {memories = there} {turns = spent_before} other next spent after_it g f big) new =
    on (has-last later) (λ rest same fresh. since work most more opening history memories turns number piece Keeps kept h follows before rest there spent_before same g fresh)
  where
    on : HasLast later → ((rest : List ℕ) → before ≡ history ++ rest → is_in_history number before ≡ false → Keeps memories there) → Keeps memories after
    on (inl none) further =
        let same : all ≡ history = is ∙ ap (λ rest. history ++ rest) none ∙ append-nothing history in
        let one = one-end work most more opening history memories after turns left h (subst (λ k. History work more opening k after left) same (and_piece other next spent after_it g f big)) in
        subst (λ m. Keeps m after) (sym one.0) (kept.same after)
    on (inr some) further =
        let same = last-same before (history ++ some.0) other some.1 (is ∙ ap (λ rest. history ++ rest) some.2 ∙ append-three history some.0 some.1) in
        let fresh = neither (is_in_history number before) (other == number) (sym (stands-append number other before) ∙ new) in
        kept.further memories there after (further some.0 same.0 fresh.0)
        (kept.beside other next more spent there after f.is_piece
        (λ e. both-ways (other == number) (eq-eqb other number (sym e)) fresh.1)
        (unless-true (work.before piece.item next.item) (λ e. both-ways (is_in_history number before) (f.is_ready number piece follows.is_piece e) fresh.0))
        (unless-true (work.before next.item piece.item) (λ e. both-ways (is_in_history other before) (ap (is_in_history other) same.0 ∙ in-longer other history some.0 (follows.is_ready other next f.is_piece e)) f.is_new))
        big)

pub kept-since : {P : Type 0} (work : Work P) (most more : ℕ) (opening : Memories) (history later : List ℕ) (memories after : Memories) (turns left number : ℕ) (piece : Piece P) (Keeps : Memories → Memories → Type 0)
    → IsKeptBeside work number piece Keeps → History work most opening history memories turns → MayFollow work history number piece
    → History work more opening (history ++ later) after left → is_in_history number (history ++ later) ≡ false → Keeps memories after
kept-since work most more opening history later memories after turns left number piece Keeps kept h follows g new =
    since work most more opening history memories turns number piece Keeps kept h follows (history ++ later) later after left refl g new
