-- A fresh name has the least number that is not used: with one try more than there are names, one of the names with numbers is free.
use Rattle.std.proofs.Common.{◌≡◌, ◌∙◌, ℕ, zero, suc, ◌+◌, ◌<◌, ◌≤◌, ◌^◌, List, [], ◌∷◌, length, Bool, true, false, ◌||◌, nat_eq, if◌then◌else◌, refl, ap, sym, subst, arith, bytes_eq, decimal}
use Rattle.std.specs.Cmp.Lexicographic.{nat_list_eq_equiv}
use Rattle.std.specs.Str.Parse.{digits_value}
use Rattle.std.proofs.lemmas.Fmt.{decimal_is_IsNumeral_wide}
use Rattle.std.proofs.lemmas.List.{append_cancel_left}
use Rattle.std.proofs.lemmas.Slice.Eq.{bytes_eq-Decides}
use Rattle.sd_mapx.specs.FreshNames.{is_used, numbered, first_unused, fresh_name, IsLeastUnused}

-- ---- names with numbers are different

decimal_same : (m n : ℕ) → m < 10 ^ 64 → n < 10 ^ 64 → decimal m ≡ decimal n → m ≡ n
decimal_same m n m_small n_small same = sym (decimal_is_IsNumeral_wide m m_small).1 ∙ ap (digits_value 10) same ∙ (decimal_is_IsNumeral_wide n n_small).1

tail_same : (m n : ℕ) (xs ys : List ℕ) → m ∷ xs ≡ n ∷ ys → xs ≡ ys
tail_same m n xs ys same = cc

numbers_same : (name : List ℕ) (m n : ℕ) → m < 10 ^ 64 → n < 10 ^ 64 → numbered name m ≡ numbered name n → m ≡ n
numbers_same name m n m_small n_small same =
    decimal_same m n m_small n_small (tail_same 36 36 (decimal m) (decimal n) (append_cancel_left name (36 ∷ decimal m) (36 ∷ decimal n) same))

bytes_apart : (a b : List ℕ) → (a ≡ b → ⊥) → bytes_eq a b ≡ false
bytes_apart a b apart = by (bytes_eq a b) refl
  where
    by : (test : Bool) → bytes_eq a b ≡ test → bytes_eq a b ≡ false
    by true same = absurd (apart ((bytes_eq-Decides a b).0 same))
    by false other = other

numbered_apart : (name : List ℕ) (m n : ℕ) → m < n → n < 10 ^ 64 → bytes_eq (numbered name m) (numbered name n) ≡ false
numbered_apart name m n less small =
    bytes_apart (numbered name m) (numbered name n) (λ same. absurd (omega (arith, less, numbers_same name m n (omega (arith, less, small)) small same)))

-- a name with a smaller number is none of those that are tried
tried_apart : (many other number : ℕ) (used : List (List ℕ)) (name : List ℕ) → other < number → number + many < 10 ^ 64 →
    bytes_eq (numbered name other) (first_unused many used name number) ≡ false
tried_apart zero other number used name less small = numbered_apart name other number less (omega (arith, small))
tried_apart (suc many) other number used name less small =
    by (is_used used (numbered name number)) (tried_apart many other (number + 1) used name (omega (arith, less)) (omega (arith, small)))
  where
    by : (test : Bool) → bytes_eq (numbered name other) (first_unused many used name (number + 1)) ≡ false →
        bytes_eq (numbered name other) (if test then first_unused many used name (number + 1) else numbered name number) ≡ false
    by true rest = rest
    by false rest = numbered_apart name other number less (omega (arith, small))

-- ---- names without one of them

abbrev without : List ℕ → List (List ℕ) → List (List ℕ)
without name [] = []
without name (first ∷ names) = if bytes_eq name first then without name names else first ∷ without name names

without_no_more : (name : List ℕ) (names : List (List ℕ)) → length (without name names) ≤ length names
without_no_more name [] = omega arith
without_no_more name (first ∷ names) = by (bytes_eq name first) (without_no_more name names)
  where
    by : (test : Bool) → length (without name names) ≤ length names → length (if test then without name names else first ∷ without name names) ≤ suc (length names)
    by true rest = omega (arith, rest)
    by false rest = omega (arith, rest)

without_fewer : (name : List ℕ) (names : List (List ℕ)) → is_used names name ≡ true → length (without name names) < length names
without_fewer name [] there = cc
without_fewer name (first ∷ names) there = by (bytes_eq name first) there (without_fewer name names)
  where
    by : (test : Bool) → (test || is_used names name) ≡ true → (is_used names name ≡ true → length (without name names) < length names) →
        length (if test then without name names else first ∷ without name names) < suc (length names)
    by true there rest = omega (arith, without_no_more name names)
    by false there rest = omega (arith, rest there)

-- each other name is among them as before
others_stay : (name other : List ℕ) (names : List (List ℕ)) → bytes_eq name other ≡ false → is_used (without name names) other ≡ is_used names other
others_stay name other [] apart = refl
others_stay name other (first ∷ names) apart = by (bytes_eq name first) refl (others_stay name other names apart)
  where
    by : (test : Bool) → bytes_eq name first ≡ test → is_used (without name names) other ≡ is_used names other →
        is_used (if test then without name names else first ∷ without name names) other ≡ (bytes_eq other first || is_used names other)
    by true same rest =
        rest
        ∙ ap (λ test. test || is_used names other) (sym (nat_list_eq_equiv.symm other first ∙ sym (nat_list_eq_equiv.congr name first other same) ∙ apart))
    by false different rest = ap (λ found. bytes_eq other first || found) rest

-- so the tries with greater numbers end at the same name
tries_same : (many other number : ℕ) (used : List (List ℕ)) (name : List ℕ) → other < number → number + many < 10 ^ 64 →
    first_unused many (without (numbered name other) used) name number ≡ first_unused many used name number
tries_same zero other number used name less small = refl
tries_same (suc many) other number used name less small =
    ap (λ test. if test then first_unused many (without (numbered name other) used) name (number + 1) else numbered name number)
    (others_stay (numbered name other) (numbered name number) used (numbered_apart name other number less (omega (arith, small))))
    ∙ ap (λ rest. if is_used used (numbered name number) then rest else numbered name number) (tries_same many other (number + 1) used name (omega (arith, less)) (omega (arith, small)))

-- ---- one is free

first_is_new : (many number : ℕ) (used : List (List ℕ)) (name : List ℕ) → length used ≤ many → number + many < 10 ^ 64 → is_used used (first_unused many used name number) ≡ false
first_is_new zero number [] name few small = refl
first_is_new zero number (first ∷ used) name few small = absurd (omega (arith, few))
first_is_new (suc many) number used name few small =
    by (is_used used tried) refl (λ there. first_is_new many (number + 1) (without tried used) name (omega (arith, few, without_fewer tried used there)) (omega (arith, small)))
  where
    tried : List ℕ
    tried = numbered name number

    next : List ℕ
    next = first_unused many used name (number + 1)

    next_new : is_used (without tried used) (first_unused many (without tried used) name (number + 1)) ≡ false → is_used used next ≡ false
    next_new rest =
        sym (others_stay tried next used (tried_apart many number (number + 1) used name (omega arith) (omega (arith, small))))
        ∙ ap (is_used (without tried used)) (sym (tries_same many number (number + 1) used name (omega arith) (omega (arith, small))))
        ∙ rest

    by : (test : Bool) → is_used used tried ≡ test → (is_used used tried ≡ true → is_used (without tried used) (first_unused many (without tried used) name (number + 1)) ≡ false) →
        is_used used (if test then next else tried) ≡ false
    by true there rest = next_new (rest there)
    by false new rest = new

-- ---- and those before it are not

-- the number of the one that is told, from which those before it from this number on are used
record IsReached (many : ℕ) (used : List (List ℕ)) (name : List ℕ) (from : ℕ) : Type 0 where
  number : ℕ
  from_there : from ≤ number
  told : first_unused many used name from ≡ numbered name number
  least : (other : ℕ) → from ≤ other → other < number → is_used used (numbered name other) ≡ true

at_once : (used : List (List ℕ)) (name : List ℕ) (from other : ℕ) → from ≤ other → other < from → is_used used (numbered name other) ≡ true
at_once used name from other least less = absurd (omega (arith, least, less))

used_before : (used : List (List ℕ)) (name : List ℕ) (from number : ℕ) → is_used used (numbered name from) ≡ true →
    ((other : ℕ) → from + 1 ≤ other → other < number → is_used used (numbered name other) ≡ true) → (other : ℕ) → from ≤ other → other < number → is_used used (numbered name other) ≡ true
used_before used name from number here later other least less = by (nat_eq from other) refl
  where
    by : (test : Bool) → nat_eq from other ≡ test → is_used used (numbered name other) ≡ true
    by true same = subst (λ (number : ℕ). is_used used (numbered name number) ≡ true) (grind (arith, same)) here
    by false different = later other (grind (arith, least, different)) less

reached : (many : ℕ) (used : List (List ℕ)) (name : List ℕ) (from : ℕ) → IsReached many used name from
reached zero used name from = record { number = from; from_there = omega arith; told = refl; least = at_once used name from }
reached (suc many) used name from = by (is_used used (numbered name from)) refl (reached many used name (from + 1))
  where
    by : (test : Bool) → is_used used (numbered name from) ≡ test → IsReached many used name (from + 1) → IsReached (suc many) used name from
    by true here rest =
        let later = rest.from_there in
        record {
          number = rest.number;
          from_there = omega (arith, later);
          told = ap (λ test. if test then first_unused many used name (from + 1) else numbered name from) here ∙ rest.told;
          least = used_before used name from rest.number here rest.least;
        }
    by false new rest = record {
      number = from;
      from_there = omega arith;
      told = ap (λ test. if test then first_unused many used name (from + 1) else numbered name from) new;
      least = at_once used name from;
    }

pub fresh_is_least : (used : List (List ℕ)) (name : List ℕ) → length used + 1 < 10 ^ 64 → IsLeastUnused used name (fresh_name used name)
fresh_is_least used name small =
    let there = reached (length used) used name 1 in
    record {
      number = there.number;
      from_one = there.from_there;
      told = there.told;
      new = first_is_new (length used) 1 used name (omega arith) (omega (arith, small));
      least = there.least;
    }
