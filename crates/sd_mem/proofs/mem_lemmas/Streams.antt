-- A value taken out of a list.
use Rattle.std.proofs.Common.{◌≡◌, ◌↔◌, ℕ, zero, suc, ◌<◌, List, [], ◌∷◌, length, slice_get, slice_index_or, Option, Some, None, OnSome, IfNone, IfSome, IsSome, true, false, refl, ap, ◌∙◌, arith}
use Rattle.std.specs.Prelude.{remove}
use Rattle.sd_work.specs.Change.{without}

-- a member that is there, and one that is not
there_at : {A : Type 0} (members : List A) (number : ℕ) (x : A) → number < length members → x ≡ slice_index_or members number x → Some x ≡ slice_get members number
there_at [] number x below is = absurd (omega (arith, below))
there_at (member ∷ members) zero x below is = ap Some is
there_at (member ∷ members) (suc number) x below is = there_at members number x (omega (arith, below)) is

none_at : {A : Type 0} (members : List A) (number : ℕ) → (number < length members → ⊥) → None ≡ slice_get members number
none_at [] number beyond = refl
none_at (member ∷ members) zero beyond = absurd (beyond (omega arith))
none_at (member ∷ members) (suc number) beyond = none_at members number (λ below. beyond (omega (arith, below)))

-- what a search for it gives
pub found_at : {A : Type 0} (found : Option A) (members : List A) (number many : ℕ) → IfSome found (λ x. x ≡ slice_index_or members number x) →
    (IsSome found ↔ (number < many)) → many ≡ length members → found ≡ slice_get members number
found_at (Some x) members number many is variant all = there_at members number x (omega (arith, variant.0 refl, all)) is
found_at None members number many is variant all = none_at members number (λ below. let clash : false ≡ true = variant.1 (omega (arith, below, all)) in cc)

-- the member, or another value where there is none
pub member_or : {A : Type 0} (members : List A) (number : ℕ) (x d : A) → Some x ≡ slice_get members number → x ≡ slice_index_or members number d
member_or [] number x d is = cc
member_or (member ∷ members) zero x d is = cc
member_or (member ∷ members) (suc number) x d is = member_or members number x d is

pub no_member : {A : Type 0} (members : List A) (number : ℕ) (d : A) → None ≡ slice_get members number → d ≡ slice_index_or members number d
no_member [] number d is = refl
no_member (member ∷ members) zero d is = cc
no_member (member ∷ members) (suc number) d is = no_member members number d is

-- the list without the member of a number
removed : {A : Type 0} (members : List A) (number : ℕ) → number < length members → remove members number ≡ without number members
removed [] number below = absurd (omega (arith, below))
removed (member ∷ members) zero below = refl
removed {A} (member ∷ members) (suc number) below = ap (λ (rest : List A). member ∷ rest) (removed members number (omega (arith, below)))

-- it stays where there is no such member
kept : {A : Type 0} (members : List A) (number : ℕ) → (number < length members → ⊥) → members ≡ without number members
kept [] number beyond = refl
kept (member ∷ members) zero beyond = absurd (beyond (omega arith))
kept {A} (member ∷ members) (suc number) beyond = ap (λ (rest : List A). member ∷ rest) (kept members number (λ below. beyond (omega (arith, below))))

-- what a search for it leaves
pub taken_out : {A X : Type 0} {P : Type 0} (result : Option X) (old new : List A) (number many : ℕ) → OnSome result (new ≡ remove old number) →
    IfNone result P → (P → new ≡ old) → (IsSome result ↔ (number < many)) → many ≡ length old → new ≡ without number old
taken_out (Some x) old new number many is stays same variant all = is ∙ removed old number (omega (arith, variant.0 refl, all))
taken_out None old new number many is stays same variant all =
    same stays ∙ kept old number (λ below. let clash : false ≡ true = variant.1 (omega (arith, below, all)) in cc)
