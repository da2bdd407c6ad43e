-- Members of lists, and pairs of members in order.
use Rattle.std.proofs.Common.{◌≡◌, ◌⊎◌, inl, inr, ◌++◌, [], ◌∷◌, zero, suc, ℕ, List, map, take, drop, refl, ap, sym, subst, arith}
use Rattle.std.specs.List.{All, AllPairs, AllZip, Contains, flat_map}
use Rattle.std.proofs.lemmas.List.{take-append-drop}
use Rattle.std.proofs.lemmas.List.Elements.{All-nil, All-head, All-tail, All-append, Contains-append_left, Contains-append_right, Contains-append_cases}
use Rattle.std.proofs.lemmas.List.Kept.{AllPairs-cons}

-- an empty list has no member
pub Contains-nil : {X : Type 0} (x : X) → Contains [] x → ⊥
Contains-nil x (k, below, at) = absurd (omega arith)

-- the first element is a member
pub Contains-first : {X : Type 0} (x : X) (xs : List X) → Contains (x ∷ xs) x
Contains-first x xs = (0, omega arith, refl)

-- a member of the others is one of the whole list
pub Contains-later : {X : Type 0} (y : X) (xs : List X) (x : X) → Contains xs x → Contains (y ∷ xs) x
Contains-later y xs x (k, below, at) = (suc k, omega arith, at)

-- a member is the first one or one of the others
pub Contains-cases : {X : Type 0} (y : X) (xs : List X) (x : X) → Contains (y ∷ xs) x → (y ≡ x) ⊎ Contains xs x
Contains-cases y xs x (zero, below, at) = inl at
Contains-cases y xs x (suc k, below, at) = inr (k, omega arith, at)

-- the result at a member is among the results
pub Contains-map : {X Y : Type 0} (f : X → Y) (xs : List X) (x : X) → Contains xs x → Contains (map f xs) (f x)
Contains-map f [] x member = absurd (Contains-nil x member)
Contains-map f (y ∷ xs) x member = elim (Contains-cases y xs x member) [
  | inl first ↦ subst (Contains (map f (y ∷ xs))) (ap f first) (Contains-first (f y) (map f xs))
  | inr later ↦ Contains-later (f y) (map f xs) (f x) (Contains-map f xs x later)
]

-- each of the results comes from a member
pub Contains-from_map : {X Y : Type 0} (f : X → Y) (xs : List X) (y : Y) → Contains (map f xs) y → (x : X) × Contains xs x × (f x ≡ y)
Contains-from_map f [] y member = absurd (Contains-nil y member)
Contains-from_map f (x ∷ xs) y member = elim (Contains-cases (f x) (map f xs) y member) [
  | inl first ↦ (x, Contains-first x xs, first)
  | inr later ↦ let found = Contains-from_map f xs y later in (found.0, Contains-later x xs found.0 found.1, found.2)
]

-- a member of the part at a member is one of the joined parts
pub Contains-flat_map : {X A : Type 0} (f : X → List A) (xs : List X) (x : X) (a : A) → Contains xs x → Contains (f x) a → Contains (flat_map f xs) a
Contains-flat_map f [] x a member part = absurd (Contains-nil x member)
Contains-flat_map f (y ∷ xs) x a member part = elim (Contains-cases y xs x member) [
  | inl first ↦ Contains-append_left (f y) (flat_map f xs) a (subst (λ z. Contains (f z) a) (sym first) part)
  | inr later ↦ Contains-append_right (f y) (flat_map f xs) a (Contains-flat_map f xs x a later part)
]

-- each member of the joined parts is in the part at some member
pub Contains-from_flat_map : {X A : Type 0} (f : X → List A) (xs : List X) (a : A) → Contains (flat_map f xs) a → (x : X) × Contains xs x × Contains (f x) a
Contains-from_flat_map f [] a member = absurd (Contains-nil a member)
Contains-from_flat_map f (x ∷ xs) a member = elim (Contains-append_cases (f x) (flat_map f xs) a member) [
  | inl first ↦ (x, Contains-first x xs, first)
  | inr later ↦ let found = Contains-from_flat_map f xs a later in (found.0, Contains-later x xs found.0 found.1, found.2)
]

-- a member of the front is one of the whole list
pub Contains-from_take : {X : Type 0} (n : ℕ) (xs : List X) (x : X) → Contains (take n xs) x → Contains xs x
Contains-from_take n xs x member = subst (λ all. Contains all x) (take-append-drop n xs) (Contains-append_left (take n xs) (drop n xs) x member)

-- a member of the rest is one of the whole list
pub Contains-from_drop : {X : Type 0} (n : ℕ) (xs : List X) (x : X) → Contains (drop n xs) x → Contains xs x
Contains-from_drop n xs x member = subst (λ all. Contains all x) (take-append-drop n xs) (Contains-append_right (take n xs) (drop n xs) x member)

-- what holds at each place of the elements holds of their results
pub AllZip-map : {X Y Z : Type 0} (R : Y → Z → Type 0) (f : X → Y) (xs : List X) (zs : List Z) → AllZip (λ x z. R (f x) z) xs zs → AllZip R (map f xs) zs
AllZip-map R f [] [] all = tt
AllZip-map R f [] (z ∷ zs) all = absurd all
AllZip-map R f (x ∷ xs) [] all = absurd all
AllZip-map R f (x ∷ xs) (z ∷ zs) all = (all.0, AllZip-map R f xs zs all.1)

-- what holds at each place of the results holds of the elements
pub AllZip-from_map : {X Y Z : Type 0} (R : Y → Z → Type 0) (f : X → Y) (xs : List X) (zs : List Z) → AllZip R (map f xs) zs → AllZip (λ x z. R (f x) z) xs zs
AllZip-from_map R f [] [] all = tt
AllZip-from_map R f [] (z ∷ zs) all = absurd all
AllZip-from_map R f (x ∷ xs) [] all = absurd all
AllZip-from_map R f (x ∷ xs) (z ∷ zs) all = (all.0, AllZip-from_map R f xs zs all.1)

-- what follows at each place follows for the lists
pub AllZip-weaker : {X Z : Type 0} (R S : X → Z → Type 0) → ((x : X) (z : Z) → R x z → S x z) → (xs : List X) (zs : List Z) → AllZip R xs zs → AllZip S xs zs
AllZip-weaker R S weaker [] [] all = tt
AllZip-weaker R S weaker [] (z ∷ zs) all = absurd all
AllZip-weaker R S weaker (x ∷ xs) [] all = absurd all
AllZip-weaker R S weaker (x ∷ xs) (z ∷ zs) all = (weaker x z all.0, AllZip-weaker R S weaker xs zs all.1)

-- what holds of each member of each part holds of the joined parts
pub All-flat_map : {X A : Type 0} (P : A → Type 0) (f : X → List A) (xs : List X) → All (λ x. All P (f x)) xs → All P (flat_map f xs)
All-flat_map P f [] all = All-nil P
All-flat_map P f (x ∷ xs) all =
    All-append P (f x) (flat_map f xs) (All-head (λ y. All P (f y)) x xs all) (All-flat_map P f xs (All-tail (λ y. All P (f y)) x xs all))

-- the first element and each later one are in order
pub AllPairs-head : {X : Type 0} (R : X → X → Type 0) (x : X) (xs : List X) → AllPairs R (x ∷ xs) → All (R x) xs
AllPairs-head R x xs pairs = λ k d below. pairs 0 (suc k) d (omega arith) (omega arith)

-- the later elements are in order among each other
pub AllPairs-tail : {X : Type 0} (R : X → X → Type 0) (x : X) (xs : List X) → AllPairs R (x ∷ xs) → AllPairs R xs
AllPairs-tail R x xs pairs = λ i j d before below. pairs (suc i) (suc j) d (omega arith) (omega arith)

-- two lists in order, each of the first before each of the second, are in order
pub AllPairs-append : {X : Type 0} (R : X → X → Type 0) (xs ys : List X) → AllPairs R xs → AllPairs R ys → All (λ x. All (R x) ys) xs → AllPairs R (xs ++ ys)
AllPairs-append R [] ys firsts others between = others
AllPairs-append R (x ∷ xs) ys firsts others between =
    AllPairs-cons R x (xs ++ ys)
    (All-append (R x) xs ys (AllPairs-head R x xs firsts) (All-head (λ y. All (R y) ys) x xs between))
    (AllPairs-append R xs ys (AllPairs-tail R x xs firsts) others (All-tail (λ y. All (R y) ys) x xs between))
