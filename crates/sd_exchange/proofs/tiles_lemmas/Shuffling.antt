-- What lists with the same members in another order share.
use Rattle.std.specs.List.{Contains, filter}
use Rattle.std.proofs.Common.{◌≡◌, inl, inr, List, [], ◌∷◌, ◌++◌, map, Bool, true, false, cond, subst}
use Rattle.sd_range.proofs.Members.{Contains-first, Contains-later, Contains-cases}
use Rattle.sd_exchange.specs.tiles.Shuffled.{Shuffled, as_it_is, behind, exchanged, and_then}

pub same-shuffled : {A : Type 0} (xs ys : List A) → xs ≡ ys → Shuffled xs ys
same-shuffled xs ys e = subst (λ zs. Shuffled xs zs) e (as_it_is xs)

pub shuffled-back : {A : Type 0} (xs ys : List A) → Shuffled xs ys → Shuffled ys xs
shuffled-back xs ys (as_it_is members) = as_it_is members
shuffled-back xs ys (behind member members others s) = behind member others members (shuffled-back members others s)
shuffled-back xs ys (exchanged first second members) = exchanged second first members
shuffled-back xs ys (and_then members between others s r) = and_then others between members (shuffled-back between others r) (shuffled-back members between s)

pub shuffled-member : {A : Type 0} (xs ys : List A) → Shuffled xs ys → (a : A) → Contains xs a → Contains ys a
shuffled-member xs ys (as_it_is members) a m = m
shuffled-member xs ys (behind member members others s) a m = elim (Contains-cases member members a m) [
  | inl is ↦ subst (Contains (member ∷ others)) is (Contains-first member others)
  | inr later ↦ Contains-later member others a (shuffled-member members others s a later)
]
shuffled-member xs ys (exchanged first second members) a m = elim (Contains-cases first (second ∷ members) a m) [
  | inl is ↦ subst (Contains (second ∷ first ∷ members)) is (Contains-later second (first ∷ members) first (Contains-first first members))
  | inr later ↦ elim (Contains-cases second members a later) [
    | inl is ↦ subst (Contains (second ∷ first ∷ members)) is (Contains-first second (first ∷ members))
    | inr rest ↦ Contains-later second (first ∷ members) a (Contains-later first members a rest)
  ]
]
shuffled-member xs ys (and_then members between others s r) a m = shuffled-member between others r a (shuffled-member members between s a m)

pub shuffled-behind : {A : Type 0} (front xs ys : List A) → Shuffled xs ys → Shuffled (front ++ xs) (front ++ ys)
shuffled-behind [] xs ys s = s
shuffled-behind (a ∷ front) xs ys s = behind a (front ++ xs) (front ++ ys) (shuffled-behind front xs ys s)

pub shuffled-before : {A : Type 0} (xs ys back : List A) → Shuffled xs ys → Shuffled (xs ++ back) (ys ++ back)
shuffled-before xs ys back (as_it_is members) = as_it_is (members ++ back)
shuffled-before xs ys back (behind member members others s) = behind member (members ++ back) (others ++ back) (shuffled-before members others back s)
shuffled-before xs ys back (exchanged first second members) = exchanged first second (members ++ back)
shuffled-before xs ys back (and_then members between others s r) = and_then (members ++ back) (between ++ back) (others ++ back) (shuffled-before members between back s) (shuffled-before between others back r)

pub shuffled-both : {A : Type 0} (xs ys zs ws : List A) → Shuffled xs ys → Shuffled zs ws → Shuffled (xs ++ zs) (ys ++ ws)
shuffled-both xs ys zs ws s r = and_then (xs ++ zs) (ys ++ zs) (ys ++ ws) (shuffled-before xs ys zs s) (shuffled-behind ys zs ws r)

-- one member goes behind others
pub goes-past : {A : Type 0} (a : A) (xs ys : List A) → Shuffled (a ∷ (xs ++ ys)) (xs ++ a ∷ ys)
goes-past a [] ys = as_it_is (a ∷ ys)
goes-past a (x ∷ xs) ys = and_then (a ∷ x ∷ (xs ++ ys)) (x ∷ a ∷ (xs ++ ys)) (x ∷ (xs ++ a ∷ ys)) (exchanged a x (xs ++ ys)) (behind x (a ∷ (xs ++ ys)) (xs ++ a ∷ ys) (goes-past a xs ys))

pub shuffled-turned : {A : Type 0} (xs ys zs : List A) → Shuffled (xs ++ (ys ++ zs)) (ys ++ (xs ++ zs))
shuffled-turned [] ys zs = as_it_is (ys ++ zs)
shuffled-turned (x ∷ xs) ys zs =
    and_then (x ∷ (xs ++ (ys ++ zs))) (x ∷ (ys ++ (xs ++ zs))) (ys ++ x ∷ (xs ++ zs)) (behind x (xs ++ (ys ++ zs)) (ys ++ (xs ++ zs)) (shuffled-turned xs ys zs)) (goes-past x ys (xs ++ zs))

pub shuffled-map : {A B : Type 0} (f : A → B) (xs ys : List A) → Shuffled xs ys → Shuffled (map f xs) (map f ys)
shuffled-map f xs ys (as_it_is members) = as_it_is (map f members)
shuffled-map f xs ys (behind member members others s) = behind (f member) (map f members) (map f others) (shuffled-map f members others s)
shuffled-map f xs ys (exchanged first second members) = exchanged (f first) (f second) (map f members)
shuffled-map f xs ys (and_then members between others s r) = and_then (map f members) (map f between) (map f others) (shuffled-map f members between s) (shuffled-map f between others r)

filter-behind : {A : Type 0} (b : Bool) (a : A) (xs ys : List A) → Shuffled xs ys → Shuffled (cond b (a ∷ xs) xs) (cond b (a ∷ ys) ys)
filter-behind true a xs ys s = behind a xs ys s
filter-behind false a xs ys s = s

filter-exchanged : {A : Type 0} (b c : Bool) (a d : A) (xs : List A) → Shuffled (cond b (a ∷ cond c (d ∷ xs) xs) (cond c (d ∷ xs) xs)) (cond c (d ∷ cond b (a ∷ xs) xs) (cond b (a ∷ xs) xs))
filter-exchanged true true a d xs = exchanged a d xs
filter-exchanged true false a d xs = as_it_is (a ∷ xs)
filter-exchanged false true a d xs = as_it_is (d ∷ xs)
filter-exchanged false false a d xs = as_it_is xs

pub shuffled-filter : {A : Type 0} (test : A → Bool) (xs ys : List A) → Shuffled xs ys → Shuffled (filter test xs) (filter test ys)
shuffled-filter test xs ys (as_it_is members) = as_it_is (filter test members)
shuffled-filter test xs ys (behind member members others s) = filter-behind (test member) member (filter test members) (filter test others) (shuffled-filter test members others s)
shuffled-filter test xs ys (exchanged first second members) = filter-exchanged (test first) (test second) first second (filter test members)
shuffled-filter test xs ys (and_then members between others s r) = and_then (filter test members) (filter test between) (filter test others) (shuffled-filter test members between s) (shuffled-filter test between others r)
