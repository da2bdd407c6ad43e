-- With one try more than there are names in use, one of the names with numbers is free.
use Rattle.std.proofs.Common.{◌≡◌, ◌∙◌, ℕ, zero, suc, ◌+◌, ◌<◌, ◌≤◌, ◌^◌, List, [], ◌∷◌, length, Bool, true, false, cond, ◌||◌, refl, ap, sym, arith, bytes_eq, decimal}
use Rattle.std.specs.List.{list_any}
use Rattle.std.specs.Cmp.Lexicographic.{nat_list_eq_equiv}
use Rattle.std.specs.Str.Parse.{digits_value}
use Rattle.std.proofs.lemmas.Fmt.{decimal_is_IsNumeral_wide}
use Rattle.std.proofs.lemmas.List.{append_cancel_left}
use Rattle.sd_program.specs.Names.{Name}
use Rattle.sd_task.specs.containers.Declarations.{name_with_number, first_free}
use Rattle.sd_task.proofs.containers_lemmas.ListLemmas.{bytes_apart}

-- ---- names with numbers are different

decimal_same : (m n : ℕ) → m < 10 ^ 64 → n < 10 ^ 64 → decimal m ≡ decimal n → m ≡ n
decimal_same m n m_small n_small same = sym (decimal_is_IsNumeral_wide m m_small).1 ∙ ap (digits_value 10) same ∙ (decimal_is_IsNumeral_wide n n_small).1

tail_same : (m n : ℕ) (xs ys : List ℕ) → m ∷ xs ≡ n ∷ ys → xs ≡ ys
tail_same m n xs ys same = cc

numbers_same : (name : Name) (m n : ℕ) → m < 10 ^ 64 → n < 10 ^ 64 → name_with_number name m ≡ name_with_number name n → m ≡ n
numbers_same name m n m_small n_small same =
    decimal_same m n m_small n_small (tail_same 36 36 (decimal m) (decimal n) (append_cancel_left name (36 ∷ decimal m) (36 ∷ decimal n) same))

numbered_apart : (name : Name) (m n : ℕ) → m < n → n < 10 ^ 64 → bytes_eq (name_with_number name m) (name_with_number name n) ≡ false
numbered_apart name m n less small =
    bytes_apart (name_with_number name m) (name_with_number name n) (λ same. absurd (omega (arith, less, numbers_same name m n (omega (arith, less, small)) small same)))

-- a name with a smaller number is none of those that are tried
tried_apart : (tries other number : ℕ) (used : List Name) (name : Name) → other < number → number + tries < 10 ^ 64 →
    bytes_eq (name_with_number name other) (first_free tries number used name) ≡ false
tried_apart zero other number used name less small = numbered_apart name other number less (omega (arith, small))
tried_apart (suc tries) other number used name less small =
    by (list_any (bytes_eq (name_with_number name number)) used) (tried_apart tries other (number + 1) used name (omega (arith, less)) (omega (arith, small)))
  where
    by : (test : Bool) → bytes_eq (name_with_number name other) (first_free tries (number + 1) used name) ≡ false →
        bytes_eq (name_with_number name other) (cond test (first_free tries (number + 1) used name) (name_with_number name number)) ≡ false
    by true rest = rest
    by false rest = numbered_apart name other number less (omega (arith, small))

-- ---- names without one of them

abbrev without : Name → List Name → List Name
without name [] = []
without name (first ∷ names) = cond (bytes_eq name first) (without name names) (first ∷ without name names)

without_no_more : (name : Name) (names : List Name) → length (without name names) ≤ length names
without_no_more name [] = omega arith
without_no_more name (first ∷ names) = by (bytes_eq name first) (without_no_more name names)
  where
    by : (test : Bool) → length (without name names) ≤ length names → length (cond test (without name names) (first ∷ without name names)) ≤ suc (length names)
    by true rest = omega (arith, rest)
    by false rest = omega (arith, rest)

without_fewer : (name : Name) (names : List Name) → list_any (bytes_eq name) names ≡ true → length (without name names) < length names
without_fewer name [] there = cc
without_fewer name (first ∷ names) there = by (bytes_eq name first) there (without_fewer name names)
  where
    by : (test : Bool) → (test || list_any (bytes_eq name) names) ≡ true → (list_any (bytes_eq name) names ≡ true → length (without name names) < length names) →
        length (cond test (without name names) (first ∷ without name names)) < suc (length names)
    by true there rest = omega (arith, without_no_more name names)
    by false there rest = omega (arith, rest there)

-- each other name is among them as before
others_stay : (name other : Name) (names : List Name) → bytes_eq name other ≡ false → list_any (bytes_eq other) (without name names) ≡ list_any (bytes_eq other) names
others_stay name other [] apart = refl
others_stay name other (first ∷ names) apart = by (bytes_eq name first) refl (others_stay name other names apart)
  where
    by : (test : Bool) → bytes_eq name first ≡ test → list_any (bytes_eq other) (without name names) ≡ list_any (bytes_eq other) names →
        list_any (bytes_eq other) (cond test (without name names) (first ∷ without name names)) ≡ (bytes_eq other first || list_any (bytes_eq other) names)
    by true same rest =
        rest
        ∙ ap (λ test. test || list_any (bytes_eq other) names) (sym (nat_list_eq_equiv.symm other first ∙ sym (nat_list_eq_equiv.congr name first other same) ∙ apart))
    by false different rest = ap (λ found. bytes_eq other first || found) rest

-- so the tries with greater numbers end at the same name
tries_same : (tries other number : ℕ) (used : List Name) (name : Name) → other < number → number + tries < 10 ^ 64 →
    first_free tries number (without (name_with_number name other) used) name ≡ first_free tries number used name
tries_same zero other number used name less small = refl
tries_same (suc tries) other number used name less small =
    ap (λ test. cond test (first_free tries (number + 1) (without (name_with_number name other) used) name) (name_with_number name number))
    (others_stay (name_with_number name other) (name_with_number name number) used (numbered_apart name other number less (omega (arith, small))))
    ∙ ap (λ rest. cond (list_any (bytes_eq (name_with_number name number)) used) rest (name_with_number name number)) (tries_same tries other (number + 1) used name (omega (arith, less)) (omega (arith, small)))

-- ---- one is free

pub free_is_new : (tries number : ℕ) (used : List Name) (name : Name) → length used ≤ tries → number + tries < 10 ^ 64 → list_any (bytes_eq (first_free tries number used name)) used ≡ false
free_is_new zero number [] name few small = refl
free_is_new zero number (first ∷ used) name few small = absurd (omega (arith, few))
free_is_new (suc tries) number used name few small =
    by (list_any (bytes_eq tried) used) refl (λ there. free_is_new tries (number + 1) (without tried used) name (omega (arith, few, without_fewer tried used there)) (omega (arith, small)))
  where
    tried : Name
    tried = name_with_number name number

    next : Name
    next = first_free tries (number + 1) used name

    next_new : list_any (bytes_eq (first_free tries (number + 1) (without tried used) name)) (without tried used) ≡ false → list_any (bytes_eq next) used ≡ false
    next_new rest =
        sym (others_stay tried next used (tried_apart tries number (number + 1) used name (omega arith) (omega (arith, small))))
        ∙ ap (λ found. list_any (bytes_eq found) (without tried used)) (sym (tries_same tries number (number + 1) used name (omega arith) (omega (arith, small))))
        ∙ rest

    by : (test : Bool) → list_any (bytes_eq tried) used ≡ test →
        (list_any (bytes_eq tried) used ≡ true → list_any (bytes_eq (first_free tries (number + 1) (without tried used) name)) (without tried used) ≡ false) →
        list_any (bytes_eq (cond test next tried)) used ≡ false
    by true there rest = next_new (rest there)
    by false new rest = new
