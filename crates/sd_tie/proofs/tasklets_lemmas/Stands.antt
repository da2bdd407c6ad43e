-- Members of a list that stand in another, from a number on.
use Rattle.std.proofs.Common.{◌≡◌, ◌∙◌, ℕ, suc, List, [], ◌∷◌, ◌++◌, length, slice_index_or, refl, subst, append-nil}
use Rattle.std.specs.Bool.{⊤}

abbrev pub StandsAt : {A : Type 0} → (default : A) → (whole part : List A) → ℕ → Type 0
StandsAt default whole [] n = ⊤
StandsAt default whole (member ∷ part) n = (slice_index_or whole n default ≡ member) × StandsAt default whole part (suc n)

at_next : {A : Type 0} (first : A) (rest : List A) (n : ℕ) (default : A) → slice_index_or (first ∷ rest) (suc n) default ≡ slice_index_or rest n default
at_next first rest n default = refl

-- behind one more member
stands_behind : {A : Type 0} (default first : A) (whole part : List A) (n : ℕ) → StandsAt default whole part n → StandsAt default (first ∷ whole) part (suc n)
stands_behind default first whole [] n h = tt
stands_behind default first whole (member ∷ part) n h = (at_next first whole n default ∙ h.0, stands_behind default first whole part (suc n) h.1)

pub stands_here : {A : Type 0} (default : A) (part more : List A) → StandsAt default (part ++ more) part 0
stands_here default [] more = tt
stands_here default (member ∷ part) more = (refl, stands_behind default member (part ++ more) part 0 (stands_here default part more))

pub stands_whole : {A : Type 0} (default : A) (whole : List A) → StandsAt default whole whole 0
stands_whole default whole = subst (λ all. StandsAt default all whole 0) (append-nil whole) (stands_here default whole [])

-- behind others
pub stands_after : {A : Type 0} (default : A) (before part : List A) → StandsAt default (before ++ part) part (length before)
stands_after default [] part = stands_whole default part
stands_after default (first ∷ before) part = stands_behind default first (before ++ part) part (length before) (stands_after default before part)
