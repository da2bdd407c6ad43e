-- Things of a graph among which no container is made its own twice, no variable is twice a parameter, and none is a parameter and set.
use Rattle.std.proofs.Common.{◌≡◌, ◌⊎◌, inl, inr, ℕ, nat_eq, List, [], ◌∷◌, ◌++◌, Bool, true, false, not, ◌&&◌, ◌||◌, refl, sym, ◌∙◌, ap, subst, append_assoc, arith}
use Rattle.std.specs.List.{list_all, flat_map}
use Rattle.sd_graph.specs.Wiring.{has_number}
use Rattle.sd_validity.specs.rules.Places.{Thing, whole, leaving, doing}
use Rattle.sd_validity.specs.rules.NamesInForce.{held_at, params_at, set_at, are_new, are_apart}
use Rattle.sd_validity.proofs.rules_lemmas.HoldingLemmas.{both}
use Rattle.sd_alike.proofs.kept_lemmas.HeldPlaces.{joined}
use Rattle.sd_alike.proofs.kept_lemmas.HeldReplaced.{has_both}

-- ---- numbers among others

one_of : (a b : Bool) → (a || b) ≡ true → (a ≡ true) ⊎ (b ≡ true)
one_of true b is = inl refl
one_of false b is = inr is

or_first : (a b : Bool) → a ≡ true → (a || b) ≡ true
or_first true b is = refl
or_first false b is = cc

or_second : (a b : Bool) → b ≡ true → (a || b) ≡ true
or_second true b is = refl
or_second false b is = is

isnt : (a : Bool) → (a ≡ true → ⊥) → not a ≡ true
isnt true none = absurd (none refl)
isnt false none = refl

is_not : (a : Bool) → not a ≡ true → a ≡ true → ⊥
is_not true none is = cc
is_not false none is = cc

same_number : (a b : ℕ) → nat_eq a b ≡ true → a ≡ b
same_number a b is = grind (arith, is)

itself : (a : ℕ) → nat_eq a a ≡ true
itself a = grind arith

in_first : (xs ys : List ℕ) (n : ℕ) → has_number xs n ≡ true → has_number (xs ++ ys) n ≡ true
in_first xs ys n is = has_both xs ys n ∙ or_first (has_number xs n) (has_number ys n) is

pub in_second : (xs ys : List ℕ) (n : ℕ) → has_number ys n ≡ true → has_number (xs ++ ys) n ≡ true
in_second xs ys n is = has_both xs ys n ∙ or_second (has_number xs n) (has_number ys n) is

in_one : (xs ys : List ℕ) (n : ℕ) → has_number (xs ++ ys) n ≡ true → (has_number xs n ≡ true) ⊎ (has_number ys n ≡ true)
in_one xs ys n is = one_of (has_number xs n) (has_number ys n) (sym (has_both xs ys n) ∙ is)

-- a test that each number passes that is there
each_there : (test : ℕ → Bool) (xs : List ℕ) → ((n : ℕ) → has_number xs n ≡ true → test n ≡ true) → list_all test xs ≡ true
each_there test [] passes = refl
each_there test (x ∷ xs) passes =
    joined (test x) (list_all test xs) (passes x (or_first (nat_eq x x) (has_number xs x) (itself x)))
    (each_there test xs (λ n is. passes n (or_second (nat_eq n x) (has_number xs n) is)))

pub each_of : (test : ℕ → Bool) (xs : List ℕ) (n : ℕ) → list_all test xs ≡ true → has_number xs n ≡ true → test n ≡ true
each_of test [] n all is = cc
each_of test (x ∷ xs) n all is =
    let parts = both (test x) (list_all test xs) all in
    elim (one_of (nat_eq n x) (has_number xs n) is) [
      | inl here ↦ ap test (same_number n x here) ∙ parts.0
      | inr there ↦ each_of test xs n parts.1 there
    ]

-- ---- new numbers

new_both : (known xs ys : List ℕ) → are_new known (xs ++ ys) ≡ (are_new known xs && are_new (known ++ xs) ys)
new_both known [] ys = ap (λ known. are_new known ys) (sym (nothing known))
  where
    nothing : (known : List ℕ) → known ++ [] ≡ known
    nothing [] = refl
    nothing (first ∷ known) = ap (λ rest. first ∷ rest) (nothing known)
new_both known (x ∷ xs) ys =
    ap (λ rest. not (has_number known x) && rest) (new_both (known ++ x ∷ []) xs ys)
    ∙ ap (λ known'. not (has_number known x) && (are_new (known ++ x ∷ []) xs && are_new known' ys)) (append_assoc known (x ∷ []) xs)
    ∙ and_assoc (not (has_number known x)) (are_new (known ++ x ∷ []) xs) (are_new (known ++ x ∷ xs) ys)
  where
    and_assoc : (a b c : Bool) → (a && (b && c)) ≡ ((a && b) && c)
    and_assoc true b c = refl
    and_assoc false b c = refl

-- numbers stay new where each of the others that is known was known before, or is none of them
pub new_where : (known other xs : List ℕ) → ((n : ℕ) → has_number other n ≡ true → (has_number known n ≡ true) ⊎ (has_number xs n ≡ true → ⊥)) → are_new known xs ≡ true → are_new other xs ≡ true
new_where known other [] from is = refl
new_where known other (x ∷ xs) from is =
    let parts = both (not (has_number known x)) (are_new (known ++ x ∷ []) xs) is in
    joined (not (has_number other x)) (are_new (other ++ x ∷ []) xs)
    (isnt (has_number other x) (λ there. elim (from x there) [
      | inl was ↦ is_not (has_number known x) parts.0 was
      | inr none ↦ none (or_first (nat_eq x x) (has_number xs x) (itself x))
    ]))
    (new_where (known ++ x ∷ []) (other ++ x ∷ []) xs
    (λ n there. elim (in_one other (x ∷ []) n there) [
      | inl before ↦ elim (from n before) [
        | inl was ↦ inl (in_first known (x ∷ []) n was)
        | inr none ↦ inr (λ later. none (or_second (nat_eq n x) (has_number xs n) later))
      ]
      | inr here ↦ inl (in_second known (x ∷ []) n here)
    ])
    parts.1)

new_none : (known xs : List ℕ) (n : ℕ) → are_new known xs ≡ true → has_number xs n ≡ true → has_number known n ≡ true → ⊥
new_none known [] n is member there = cc
new_none known (x ∷ xs) n is member there =
    let parts = both (not (has_number known x)) (are_new (known ++ x ∷ []) xs) is in
    elim (one_of (nat_eq n x) (has_number xs n) member) [
      | inl here ↦ is_not (has_number known x) parts.0 (subst (λ m. has_number known m ≡ true) (same_number n x here) there)
      | inr later ↦ new_none (known ++ x ∷ []) xs n parts.1 later (in_first known (x ∷ []) n there)
    ]

-- ---- things

pub flat_both : {A B : Type 0} (f : A → List B) (xs ys : List A) → flat_map f (xs ++ ys) ≡ flat_map f xs ++ flat_map f ys
flat_both f [] ys = refl
flat_both f (x ∷ xs) ys = ap (λ rest. f x ++ rest) (flat_both f xs ys) ∙ sym (append_assoc (f x) (flat_map f xs) (flat_map f ys))

pub record AreOnce (things : List Thing) : Type 0 where
  pub held : are_new [] (flat_map held_at things) ≡ true
  pub params : are_new [] (flat_map params_at things) ≡ true
  pub apart : (n : ℕ) → has_number (flat_map params_at things) n ≡ true → has_number (flat_map set_at things) n ≡ true → ⊥

-- one thing behind others
pub record IsSingle (things : List Thing) (thing : Thing) : Type 0 where
  pub held : are_new (flat_map held_at things) (held_at thing) ≡ true
  pub params : are_new (flat_map params_at things ++ flat_map set_at things) (params_at thing) ≡ true
  pub unset : are_apart (flat_map params_at things) (set_at thing) ≡ true

not_at_one : (thing : Thing) (n : ℕ) → has_number (params_at thing) n ≡ true → has_number (set_at thing) n ≡ true → ⊥
not_at_one whole n param set = cc
not_at_one (leaving items exits) n param set = cc
not_at_one (doing kind) n param set = cc

flat_one : (numbers : Thing → List ℕ) (things : List Thing) (thing : Thing) → flat_map numbers (things ++ thing ∷ []) ≡ flat_map numbers things ++ numbers thing
flat_one numbers things thing = flat_both numbers things (thing ∷ []) ∙ ap (λ rest. flat_map numbers things ++ rest) (nothing (numbers thing))
  where
    nothing : (known : List ℕ) → known ++ [] ≡ known
    nothing [] = refl
    nothing (first ∷ known) = ap (λ rest. first ∷ rest) (nothing known)

pub once_more : (things : List Thing) (thing : Thing) → AreOnce things → IsSingle things thing → AreOnce (things ++ thing ∷ [])
once_more things thing once single = record {
  held = ap (are_new []) (flat_one held_at things thing) ∙ new_both [] (flat_map held_at things) (held_at thing)
      ∙ joined (are_new [] (flat_map held_at things)) (are_new (flat_map held_at things) (held_at thing)) once.held single.held;
  params = ap (are_new []) (flat_one params_at things thing) ∙ new_both [] (flat_map params_at things) (params_at thing)
      ∙ joined (are_new [] (flat_map params_at things)) (are_new (flat_map params_at things) (params_at thing)) once.params
      (new_where (flat_map params_at things ++ flat_map set_at things) (flat_map params_at things) (params_at thing)
      (λ n there. inl (in_first (flat_map params_at things) (flat_map set_at things) n there)) single.params);
  apart = λ n param set.
      elim (in_one (flat_map params_at things) (params_at thing) n (sym (ap (λ numbers. has_number numbers n) (flat_one params_at things thing)) ∙ param)) [
        | inl before ↦ elim (in_one (flat_map set_at things) (set_at thing) n (sym (ap (λ numbers. has_number numbers n) (flat_one set_at things thing)) ∙ set)) [
          | inl before' ↦ once.apart n before before'
          | inr here ↦ is_not (has_number (flat_map params_at things) n) (each_of (λ number. not (has_number (flat_map params_at things) number)) (set_at thing) n single.unset here) before
        ]
        | inr here ↦ elim (in_one (flat_map set_at things) (set_at thing) n (sym (ap (λ numbers. has_number numbers n) (flat_one set_at things thing)) ∙ set)) [
          | inl before ↦ new_none (flat_map params_at things ++ flat_map set_at things) (params_at thing) n single.params here (in_second (flat_map params_at things) (flat_map set_at things) n before)
          | inr here' ↦ not_at_one thing n here here'
        ]
      ];
}

-- a part of things that are there once is
pub once_part : (before things behind : List Thing) → AreOnce (before ++ (things ++ behind)) → AreOnce things
once_part before things behind once = record {
  held = part held_at once.held;
  params = part params_at once.params;
  apart = λ n param set. once.apart n (within params_at n param) (within set_at n set);
}
  where
    split : (numbers : Thing → List ℕ) → flat_map numbers (before ++ (things ++ behind)) ≡ flat_map numbers before ++ (flat_map numbers things ++ flat_map numbers behind)
    split numbers = flat_both numbers before (things ++ behind) ∙ ap (λ rest. flat_map numbers before ++ rest) (flat_both numbers things behind)

    part : (numbers : Thing → List ℕ) → are_new [] (flat_map numbers (before ++ (things ++ behind))) ≡ true → are_new [] (flat_map numbers things) ≡ true
    part numbers is =
        let first = flat_map numbers before in
        let mid = flat_map numbers things in
        let last = flat_map numbers behind in
        let rest = both (are_new [] first) (are_new first (mid ++ last)) (sym (new_both [] first (mid ++ last)) ∙ sym (ap (are_new []) (split numbers)) ∙ is) in
        let here = both (are_new first mid) (are_new (first ++ mid) last) (sym (new_both first mid last) ∙ rest.1) in
        new_where first [] mid (λ n there. inl (nothing n there)) here.0
      where
        nothing : (n : ℕ) {any : Bool} → has_number [] n ≡ true → any ≡ true
        nothing n none = cc

    within : (numbers : Thing → List ℕ) (n : ℕ) → has_number (flat_map numbers things) n ≡ true → has_number (flat_map numbers (before ++ (things ++ behind))) n ≡ true
    within numbers n is =
        ap (λ all. has_number all n) (split numbers) ∙ in_second (flat_map numbers before) (flat_map numbers things ++ flat_map numbers behind) n (in_first (flat_map numbers things) (flat_map numbers behind) n is)

-- each of them is single behind those before it
pub once_single : (before : List Thing) (thing : Thing) (behind : List Thing) → AreOnce (before ++ thing ∷ behind) → IsSingle before thing
once_single before thing behind once = record {
  held = part held_at once.held;
  params = new_where (flat_map params_at before) (flat_map params_at before ++ flat_map set_at before) (params_at thing)
      (λ n there. elim (in_one (flat_map params_at before) (flat_map set_at before) n there) [
        | inl param ↦ inl param
        | inr set ↦ inr (λ here. once.apart n (at_it params_at n here) (early set_at n set))
      ])
      (part params_at once.params);
  unset = each_there (λ number. not (has_number (flat_map params_at before) number)) (set_at thing)
      (λ n here. isnt (has_number (flat_map params_at before) n) (λ param. once.apart n (early params_at n param) (at_it set_at n here)));
}
  where
    split : (numbers : Thing → List ℕ) → flat_map numbers (before ++ thing ∷ behind) ≡ flat_map numbers before ++ (numbers thing ++ flat_map numbers behind)
    split numbers = flat_both numbers before (thing ∷ behind)

    part : (numbers : Thing → List ℕ) → are_new [] (flat_map numbers (before ++ thing ∷ behind)) ≡ true → are_new (flat_map numbers before) (numbers thing) ≡ true
    part numbers is =
        let first = flat_map numbers before in
        let last = flat_map numbers behind in
        let rest = both (are_new [] first) (are_new first (numbers thing ++ last)) (sym (new_both [] first (numbers thing ++ last)) ∙ sym (ap (are_new []) (split numbers)) ∙ is) in
        (both (are_new first (numbers thing)) (are_new (first ++ numbers thing) last) (sym (new_both first (numbers thing) last) ∙ rest.1)).0

    early : (numbers : Thing → List ℕ) (n : ℕ) → has_number (flat_map numbers before) n ≡ true → has_number (flat_map numbers (before ++ thing ∷ behind)) n ≡ true
    early numbers n is = ap (λ all. has_number all n) (split numbers) ∙ in_first (flat_map numbers before) (numbers thing ++ flat_map numbers behind) n is

    at_it : (numbers : Thing → List ℕ) (n : ℕ) → has_number (numbers thing) n ≡ true → has_number (flat_map numbers (before ++ thing ∷ behind)) n ≡ true
    at_it numbers n is =
        ap (λ all. has_number all n) (split numbers) ∙ in_second (flat_map numbers before) (numbers thing ++ flat_map numbers behind) n (in_first (numbers thing) (flat_map numbers behind) n is)
