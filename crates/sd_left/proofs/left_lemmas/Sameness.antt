-- Counts that are the same, and counts of what is unfinished.
use Rattle.std.proofs.Common.{◌≡◌, ℕ, ◌+◌, nat_eq, nat_lt, List, [], ◌∷◌, Bool, true, false, not, ◌&&◌, refl, sym, ap, ap₂, ◌∙◌, subst, arith, rules}
use Rattle.std.proofs.lemmas.Bool.{eqb-true, lt-ltb}
use Rattle.std.proofs.lemmas.List.Sums.{sum_by-cons}
use Rattle.std.specs.List.{sum}
use Rattle.sd_moves.specs.numbered.Counts.{one_if}
use Rattle.sd_left.specs.left.Telling.{same_counts}

pub both-true : (a b : Bool) → (a && b) ≡ true → (a ≡ true) × (b ≡ true)
both-true true b h = (refl, h)
both-true false b h = absurd (let no : false ≡ true = h in cc)

pub both-are : (a b : Bool) → a ≡ true → b ≡ true → (a && b) ≡ true
both-are a b first second = ap₂ (λ (x y : Bool). x && y) first second

pub sum-cons : (x : ℕ) (xs : List ℕ) → sum (x ∷ xs) ≡ x + sum xs
sum-cons = sum_by-cons (λ x. x)

pub are-same : (counts others : List ℕ) → same_counts counts others ≡ true → counts ≡ others
are-same [] [] same = refl
are-same [] (other ∷ others) same = absurd (let no : false ≡ true = same in cc)
are-same (count ∷ counts) [] same = absurd (let no : false ≡ true = same in cc)
are-same (count ∷ counts) (other ∷ others) same =
    let each = both-true (nat_eq count other) (same_counts counts others) same in
    ap₂ (λ (first : ℕ) (rest : List ℕ). first ∷ rest) (eqb-true count other each.0) (are-same counts others each.1)

same-number : (count : ℕ) → nat_eq count count ≡ true
same-number count = search rules

pub same-self : (counts : List ℕ) → same_counts counts counts ≡ true
same-self [] = refl
same-self (count ∷ counts) = both-are (nat_eq count count) (same_counts counts counts) (same-number count) (same-self counts)

pub counts-are : (counts wanted : List ℕ) (rest : Bool) → counts ≡ wanted → (same_counts counts wanted && rest) ≡ rest
counts-are counts wanted rest same = ap (λ (so : Bool). so && rest) (subst (λ (others : List ℕ). same_counts counts others ≡ true) same (same-self counts))

-- four tests at once
abbrev pub AreRight : (moves moves_wanted unfinished unfinished_wanted pools pools_wanted : List ℕ) → (parts_right : Bool) → Type 0
AreRight moves moves_wanted unfinished unfinished_wanted pools pools_wanted parts_right =
    (same_counts moves moves_wanted && (same_counts unfinished unfinished_wanted && (same_counts pools pools_wanted && parts_right))) ≡ true

pub record Were (moves moves_wanted unfinished unfinished_wanted pools pools_wanted : List ℕ) (parts_right : Bool) : Type 0 where
  pub moves_are : moves ≡ moves_wanted
  pub unfinished_are : unfinished ≡ unfinished_wanted
  pub pools_are : pools ≡ pools_wanted
  pub parts_are : parts_right ≡ true

module _ (moves moves_wanted unfinished unfinished_wanted pools pools_wanted : List ℕ) (parts_right : Bool) where
  pub were : AreRight moves moves_wanted unfinished unfinished_wanted pools pools_wanted parts_right → Were moves moves_wanted unfinished unfinished_wanted pools pools_wanted parts_right
  were right =
      let first = both-true (same_counts moves moves_wanted) (same_counts unfinished unfinished_wanted && (same_counts pools pools_wanted && parts_right)) right in
      let second = both-true (same_counts unfinished unfinished_wanted) (same_counts pools pools_wanted && parts_right) first.1 in
      let third = both-true (same_counts pools pools_wanted) parts_right second.1 in
      record {
        moves_are = are-same moves moves_wanted first.0;
        unfinished_are = are-same unfinished unfinished_wanted second.0;
        pools_are = are-same pools pools_wanted third.0;
        parts_are = third.1;
      }

  -- counts that are the wanted ones are right where the parts are
  pub exact : moves ≡ moves_wanted → unfinished ≡ unfinished_wanted → pools ≡ pools_wanted
      → (same_counts moves moves_wanted && (same_counts unfinished unfinished_wanted && (same_counts pools pools_wanted && parts_right))) ≡ parts_right
  exact one two three =
      counts-are moves moves_wanted (same_counts unfinished unfinished_wanted && (same_counts pools pools_wanted && parts_right)) one
      ∙ counts-are unfinished unfinished_wanted (same_counts pools pools_wanted && parts_right) two
      ∙ counts-are pools pools_wanted parts_right three

  pub all-are : moves ≡ moves_wanted → unfinished ≡ unfinished_wanted → pools ≡ pools_wanted → parts_right ≡ true → AreRight moves moves_wanted unfinished unfinished_wanted pools pools_wanted parts_right
  all-are one two three four = exact one two three ∙ four

-- something is unfinished in one, or in the others
pub unfinished-more : (unfinished : Bool) (rest : ℕ) → (not unfinished && not (nat_lt 0 rest)) ≡ not (nat_lt 0 (one_if unfinished + rest))
unfinished-more true rest = sym (ap not (lt-ltb 0 (1 + rest) (omega arith)))
unfinished-more false rest =
    let same : 0 + rest ≡ rest = omega arith in
    ap (λ (n : ℕ). not (nat_lt 0 n)) (sym same)

pub not-not : (so : Bool) → not (not so) ≡ so
not-not true = refl
not-not false = refl

-- three things at once
pub at_each : {A B C : Type 0} (P : A → B → C → Type 0) {a a' : A} {b b' : B} {c c' : C} → a' ≡ a → b' ≡ b → c' ≡ c → P a b c → P a' b' c'
at_each P {a} {a'} {b} {b'} {c} {c'} first second third holds =
    subst (λ x. P x b' c') (sym first) (subst (λ y. P a y c') (sym second) (subst (λ z. P a b z) (sym third) holds))

-- four things at once
pub at_all : {A B C D : Type 0} (P : A → B → C → D → Type 0) {a a' : A} {b b' : B} {c c' : C} {d d' : D} → a' ≡ a → b' ≡ b → c' ≡ c → d' ≡ d → P a b c d → P a' b' c' d'
at_all P {a} {a'} {b} {b'} {c} {c'} {d} {d'} first second third fourth holds =
    subst (λ x. P x b' c' d') (sym first) (at_each (P a) second third fourth holds)
