-- Paths that begin with a path.
use Rattle.std.proofs.Common.{◌≡◌, ℕ, ◌<◌, ◌≤◌, List, [], ◌∷◌, ◌++◌, length, Bool, true, false, bytes_eq, refl, ap, arith, length-append}
use Rattle.std.proofs.lemmas.Slice.Eq.{bytes_eq-Decides}

-- behind one path two numbers that go on alike are one
pub same_next : (path : List ℕ) (number other : ℕ) (rest others : List ℕ) → path ++ number ∷ rest ≡ path ++ other ∷ others → number ≡ other
same_next [] number other rest others e = cc
same_next (first ∷ path) number other rest others e = same_next path number other rest others (inside first (path ++ number ∷ rest) (path ++ other ∷ others) e)
  where
    inside : (first : ℕ) (rest others : List ℕ) → first ∷ rest ≡ first ∷ others → rest ≡ others
    inside first rest others e = cc

-- a path that goes on from one is at least as long
pub at_least : (path long rest : List ℕ) → long ≡ path ++ rest → length path ≤ length long
at_least path long rest e = omega (arith, ap (λ (path : List ℕ). length path) e, length-append path rest)

-- and longer where it goes on
pub longer : (path long : List ℕ) (number : ℕ) (rest : List ℕ) → long ≡ path ++ number ∷ rest → length path < length long
longer path long number rest e = omega (arith, ap (λ (path : List ℕ). length path) e, length-append path (number ∷ rest))

pub is_itself : (path : List ℕ) → bytes_eq path path ≡ true
is_itself path = (bytes_eq-Decides path path).1 refl

pub is_other : (path other : List ℕ) → (path ≡ other → ⊥) → bytes_eq path other ≡ false
is_other path other apart = decided (bytes_eq path other) (bytes_eq-Decides path other).0
  where
    decided : (same : Bool) → (same ≡ true → path ≡ other) → same ≡ false
    decided true is = absurd (apart (is refl))
    decided false is = refl

-- a shorter path is another
pub shorter_is_other : (path other : List ℕ) → length other < length path → path ≡ other → ⊥
shorter_is_other path other less e = absurd (omega (arith, less, ap (λ (path : List ℕ). length path) e))
