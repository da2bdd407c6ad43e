-- Properties of all members of lists.
use Rattle.std.proofs.Common.{◌≡◌, ℕ, zero, suc, ◌<◌, ◌≤◌, List, [], ◌∷◌, ◌++◌, length, Some, None, slice_get, refl, arith}
use Rattle.std.specs.List.{AllByRecursion}

pub all_first : {A : Type 0} (P : A → Type 0) (first second : List A) → AllByRecursion P (first ++ second) → AllByRecursion P first
all_first P [] second all = tt
all_first P (member ∷ first) second all = (all.0, all_first P first second all.1)

pub all_second : {A : Type 0} (P : A → Type 0) (first second : List A) → AllByRecursion P (first ++ second) → AllByRecursion P second
all_second P [] second all = all
all_second P (member ∷ first) second all = all_second P first second all.1

-- a number past the end
pub nothing_past : {A : Type 0} (members : List A) (number : ℕ) → length members ≤ number → slice_get members number ≡ None
nothing_past [] number past = refl
nothing_past (member ∷ members) zero past = absurd (omega (arith, past))
nothing_past (member ∷ members) (suc number) past = nothing_past members number (omega (arith, past))

-- and one below it
pub something_there : {A : Type 0} (members : List A) (number : ℕ) → number < length members → (member : A) × (slice_get members number ≡ Some member)
something_there [] number below = absurd (omega (arith, below))
something_there (member ∷ members) zero below = (member, refl)
something_there (member ∷ members) (suc number) below = something_there members number (omega (arith, below))
