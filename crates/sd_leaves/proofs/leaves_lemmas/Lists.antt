-- Lists from a member on.
use Rattle.std.proofs.Common.{◌≡◌, ℕ, zero, suc, ◌+◌, ◌<◌, List, [], ◌∷◌, length, map, drop, get_or, Result, Ok, Err, IfOk, slice_get, false, is_some, Some, refl, sym, ap, ◌∙◌, add-one, arith}
use Rattle.std.specs.List.{zip}
use Rattle.std.proofs.Math.Seq.{drop-cons}

-- from a member on there is this member, and then the later ones
pub from_here : {A : Type 0} (members : List A) (number : ℕ) (member : A) → number < length members → member ≡ get_or members number member →
    drop number members ≡ member ∷ drop (number + 1) members
from_here members number member within is =
    drop-cons members number member within ∙ ap (λ first. first ∷ drop (suc number) members) (sym is) ∙ ap (λ next. member ∷ drop next members) (sym (add-one number))

-- the pair at a place
pub pair_at : {A B : Type 0} (firsts : List A) (seconds : List B) (number : ℕ) (first : A) (second : B) (pair : A × B) → number < length firsts → number < length seconds →
    (get_or firsts number first, get_or seconds number second) ≡ get_or (zip firsts seconds) number pair
pair_at [] seconds number first second pair within below = absurd (omega arith)
pair_at (one ∷ firsts) [] number first second pair within below = absurd (omega arith)
pair_at (one ∷ firsts) (other ∷ seconds) zero first second pair within below = refl
pair_at (one ∷ firsts) (other ∷ seconds) (suc number) first second pair within below = pair_at firsts seconds number first second pair (omega arith) (omega arith)

-- the first of these, and then the others
pub first_here : {A : Type 0} (left : List A) (first : A) → slice_get left 0 ≡ Some first → left ≡ first ∷ drop 1 left
first_here [] first is = cc
first_here (member ∷ left) first is = cc

-- none of these is first
pub none_here : {A : Type 0} (left : List A) → is_some (slice_get left 0) ≡ false → left ≡ []
none_here [] none = refl
none_here (member ∷ left) none = cc

-- the member that is there
pub present : {A B : Type 0} (result : A → B) (members : List A) (number : ℕ) (member : A) → number < length members → member ≡ get_or members number member →
    slice_get (map result members) number ≡ Some (result member)
present result [] number member within is = absurd (omega arith)
present result (first ∷ members) zero member within is = ap (λ here. Some (result here)) (sym is)
present result (first ∷ members) (suc number) member within is = present result members number member (omega arith) is

pub member_there : {A : Type 0} (members : List A) (number : ℕ) (member : A) → number < length members → member ≡ get_or members number member → slice_get members number ≡ Some member
member_there [] number member within is = absurd (omega arith)
member_there (first ∷ members) zero member within is = ap Some (sym is)
member_there (first ∷ members) (suc number) member within is = member_there members number member (omega arith) is

-- an answer that may want memory, of which this follows
pub on_ok : {A E : Type 0} (told meant : A → Type 0) (answer : Result A E) → ((value : A) → told value → meant value) → IfOk answer told → IfOk answer meant
on_ok told meant (Ok value) follows is = follows value is
on_ok told meant (Err error) follows is = tt
