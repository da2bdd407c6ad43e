-- Names that stand for values, and the numbers of the same names.
use Rattle.std.proofs.Common.{◌≡◌, [], ◌∷◌, Option, Some, None, option_map, unwrap_or, Bool, true, false, cond, bytes_eq, refl, ap}
use Rattle.sd_program.specs.Names.{Name, Named, in_force}
use Rattle.sd_says.specs.Setting.{with_each}

-- what is made of what a name stands for is what it stands for among what is made
pub in_force_made : {A B : Type 0} (make : A → B) (names : Named A) (name : Name) → in_force (with_each make names) name ≡ option_map make (in_force names name)
in_force_made make [] name = refl
in_force_made {A} {B} make (entry ∷ entries) name = go (bytes_eq name entry.0) (in_force_made make entries name)
  where
    go : (same : Bool) → in_force (with_each make entries) name ≡ option_map make (in_force entries name) →
        cond same (Some (make entry.1)) (in_force (with_each make entries) name) ≡ option_map make (cond same (Some entry.1) (in_force entries name))
    go true e = refl
    go false e = e

-- a default goes through
pub made_or : {A B : Type 0} (make : A → B) (other : A) (found : Option A) → unwrap_or (option_map make found) (make other) ≡ make (unwrap_or found other)
made_or make other None = refl
made_or make other (Some value) = refl

pub made_twice : {A B C : Type 0} (make : B → C) (first : A → B) (names : Named A) → with_each make (with_each first names) ≡ with_each (λ x. make (first x)) names
made_twice make first [] = refl
made_twice make first (entry ∷ entries) = ap (λ rest. (entry.0, make (first entry.1)) ∷ rest) (made_twice make first entries)
