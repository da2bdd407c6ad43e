-- The loop variables in force, in their order.
use Rattle.std.proofs.Common.{◌≡◌, ◌∙◌, inl, inr, ℕ, zero, suc, ◌<◌, ◌≤◌, List, [], ◌∷◌, ◌++◌, Bool, true, false, cond, ◌&&◌, ◌||◌, nat_eq, refl, ap, sym, subst, arith, ne_eqb, append-nil}
use Rattle.std.specs.Prelude.{⊤}
use Rattle.std.specs.List.{filter, flat_map, list_any}
use Rattle.sd_graph.specs.LoopScope.{numbers_below}
use Rattle.sd_graph.proofs.Among.{nat_eq_same}
use Rattle.sd_made.proofs.elab_lemmas.StateRanges.{split}

-- loops about a state, the innermost first: each by the number of its begin and of its variable
abbrev pub Loops : Type 0
Loops = List (ℕ × ℕ)

abbrev pub is_loop : (begin variable : ℕ) → ℕ × ℕ → Bool
is_loop begin variable loop = nat_eq loop.0 begin && nat_eq loop.1 variable

-- one of the loops has this begin and this variable
abbrev pub is_about : Loops → (begin variable : ℕ) → Bool
is_about loops begin variable = list_any (is_loop begin variable) loops

-- their variables, the outermost first
abbrev pub listed : Loops → List ℕ
listed [] = []
listed (loop ∷ loops) = listed loops ++ loop.1 ∷ []

-- each begin is below that of the loop inside it, and all are below a bound; there are so many variables
abbrev pub AreNested : (variables bound : ℕ) → Loops → Type 0
AreNested variables bound [] = ⊤
AreNested variables bound (loop ∷ loops) = (loop.0 < bound) × (loop.1 < variables) × AreNested variables loop.0 loops

pub nested_more : (variables bound more : ℕ) (loops : Loops) → bound ≤ more → AreNested variables bound loops → AreNested variables more loops
nested_more variables bound more [] l nested = tt
nested_more variables bound more (loop ∷ loops) l nested = (omega (arith, l, nested.0), nested.1, nested.2)

-- no loop with a begin that is not below the bound
none_above : (variables bound begin variable : ℕ) (loops : Loops) → bound ≤ begin → AreNested variables bound loops → is_about loops begin variable ≡ false
none_above variables bound begin variable [] l nested = refl
none_above variables bound begin variable (loop ∷ loops) l nested =
    ap (λ same. (same && nat_eq loop.1 variable) || is_about loops begin variable) (ne_eqb loop.0 begin (λ e. omega (arith, e, l, nested.0)))
    ∙ none_above variables loop.0 begin variable loops (omega (arith, l, nested.0)) nested.2

-- ---- lists of numbers

filter_joined : (test : ℕ → Bool) (first second : List ℕ) → filter test (first ++ second) ≡ filter test first ++ filter test second
filter_joined test [] second = refl
filter_joined test (number ∷ first) second = one (test number) (filter_joined test first second)
  where
    one : (passes : Bool) → filter test (first ++ second) ≡ filter test first ++ filter test second →
        cond passes (number ∷ filter test (first ++ second)) (filter test (first ++ second)) ≡ cond passes (number ∷ filter test first) (filter test first) ++ filter test second
    one true e = ap (λ rest. number ∷ rest) e
    one false e = e

flat_joined : (made : ℕ → List ℕ) (first second : List ℕ) → flat_map made (first ++ second) ≡ flat_map made first ++ flat_map made second
flat_joined made [] second = refl
flat_joined made (number ∷ first) second = ap (λ rest. made number ++ rest) (flat_joined made first second) ∙ grouped (made number) (flat_map made first) (flat_map made second)
  where
    grouped : (a b c : List ℕ) → a ++ (b ++ c) ≡ (a ++ b) ++ c
    grouped [] b c = refl
    grouped (number ∷ a) b c = ap (λ rest. number ∷ rest) (grouped a b c)

-- filters of numbers below a bound on which two tests agree
filter_same : (test other : ℕ → Bool) (count : ℕ) → ((number : ℕ) → number < count → test number ≡ other number) → filter test (numbers_below count) ≡ filter other (numbers_below count)
filter_same test other zero same = refl
filter_same test other (suc count) same =
    filter_joined test (numbers_below count) (count ∷ [])
    ∙ (λ i. filter_same test other count (λ number l. same number (omega (arith, l))) i ++ cond (same count (omega arith) i) (count ∷ []) [])
    ∙ sym (filter_joined other (numbers_below count) (count ∷ []))

flat_same : (made other : ℕ → List ℕ) (count : ℕ) → ((number : ℕ) → number < count → made number ≡ other number) → flat_map made (numbers_below count) ≡ flat_map other (numbers_below count)
flat_same made other zero same = refl
flat_same made other (suc count) same =
    flat_joined made (numbers_below count) (count ∷ [])
    ∙ (λ i. flat_same made other count (λ number l. same number (omega (arith, l))) i ++ (same count (omega arith) i ++ []))
    ∙ sym (flat_joined other (numbers_below count) (count ∷ []))

none_kept : (count : ℕ) → filter (λ number. false) (numbers_below count) ≡ []
none_kept zero = refl
none_kept (suc count) = filter_joined (λ number. false) (numbers_below count) (count ∷ []) ∙ append-nil (filter (λ number. false) (numbers_below count)) ∙ none_kept count

-- one number is kept
one_kept : (kept count : ℕ) → kept < count → filter (nat_eq kept) (numbers_below count) ≡ kept ∷ []
one_kept kept zero l = absurd (omega (arith, l))
one_kept kept (suc count) l = filter_joined (nat_eq kept) (numbers_below count) (count ∷ []) ∙ elim (split kept count) [
  | inl less ↦ (λ i. one_kept kept count less i ++ cond (ne_eqb kept count (λ e. omega (arith, e, less)) i) (count ∷ []) [])
  | inr last ↦ (let same : kept ≡ count = omega (arith, last, l) in
      (λ i. (filter_same (nat_eq kept) (λ number. false) count (λ number below. ne_eqb kept number (λ e. omega (arith, e, below, last))) ∙ none_kept count) i
      ++ cond (nat_eq_same kept count same i) (sym same i ∷ []) []))
]

-- ---- the loops about a state

module _ (variables : ℕ) where
  abbrev kept_of : Loops → (begin : ℕ) → List ℕ
  kept_of loops begin = filter (is_about loops begin) (numbers_below variables)

  none_made : (count : ℕ) → flat_map (kept_of []) (numbers_below count) ≡ []
  none_made zero = refl
  none_made (suc count) =
      flat_joined (kept_of []) (numbers_below count) (count ∷ []) ∙ (λ i. none_made count i ++ (none_kept variables i ++ []))

  pub loops_listed : (count : ℕ) (loops : Loops) → AreNested variables count loops → flat_map (kept_of loops) (numbers_below count) ≡ listed loops
  loops_listed count [] nested = none_made count
  loops_listed zero (loop ∷ loops) nested = absurd (omega (arith, nested.0))
  loops_listed (suc count) (loop ∷ loops) nested = flat_joined (kept_of (loop ∷ loops)) (numbers_below count) (count ∷ []) ∙ elim (split loop.0 count) [
    | inl less ↦ (λ i. loops_listed count (loop ∷ loops) (less, nested.1, nested.2) i ++ (nothing_last less i ++ [])) ∙ append-nil (listed (loop ∷ loops))
    | inr last ↦ (let same : loop.0 ≡ count = omega (arith, last, nested.0) in
        (λ i. (flat_same (kept_of (loop ∷ loops)) (kept_of loops) count (others same) ∙ loops_listed count loops (subst (λ bound. AreNested variables bound loops) same nested.2)) i ++ (the_last same i ++ [])))
  ]
    where
      nothing_last : loop.0 < count → kept_of (loop ∷ loops) count ≡ []
      nothing_last less =
          filter_same (is_about (loop ∷ loops) count) (λ number. false) variables (λ number l. none_above variables count count number (loop ∷ loops) (omega arith) (less, nested.1, nested.2)) ∙ none_kept variables

      others : loop.0 ≡ count → (begin : ℕ) → begin < count → kept_of (loop ∷ loops) begin ≡ kept_of loops begin
      others same begin l = filter_same (is_about (loop ∷ loops) begin) (is_about loops begin) variables
          (λ number below. ap (λ is. (is && nat_eq loop.1 number) || is_about loops begin number) (ne_eqb loop.0 begin (λ e. omega (arith, e, same, l))))

      or_false : (b : Bool) → (b || false) ≡ b
      or_false true = refl
      or_false false = refl

      the_last : loop.0 ≡ count → kept_of (loop ∷ loops) count ≡ loop.1 ∷ []
      the_last same = filter_same (is_about (loop ∷ loops) count) (nat_eq loop.1) variables
          (λ number below. (λ i. (nat_eq_same loop.0 count same i && nat_eq loop.1 number) || none_above variables loop.0 count number loops (omega (arith, same)) nested.2 i) ∙ or_false (nat_eq loop.1 number))
          ∙ one_kept loop.1 variables nested.1
