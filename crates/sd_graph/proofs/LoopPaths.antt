-- A path of transitions that is longer than there are states is found as a shorter one.
use Rattle.std.proofs.Common.{◌≡◌, ◌⊎◌, inl, inr, ℕ, zero, suc, ◌<◌, ◌≤◌, List, [], ◌∷◌, Bool, true, false, not, ◌&&◌, ◌||◌, nat_eq, refl, subst, arith}
use Rattle.std.specs.List.{list_any}
use Rattle.sd_graph.specs.PlainTree.{StateTrees, no_state, and_state}
use Rattle.sd_graph.specs.TreeParts.{count_states, exits_at}
use Rattle.sd_graph.specs.LoopScope.{leads_within, leads_to}
use Rattle.sd_graph.proofs.Among.{false_not_true, or_first, or_second}

-- what the first tells, the second tells too
abbrev Tells : (first second : ℕ → Bool) → Type 0
Tells first second = (state : ℕ) → first state ≡ true → second state ≡ true

by_less : {P : Type 0} (number other : ℕ) → (number < other → P) → (other ≤ number → P) → P
by_less zero zero less more = more (omega arith)
by_less zero (suc other) less more = less (omega arith)
by_less (suc number) zero less more = more (omega arith)
by_less (suc number) (suc other) less more = by_less number other (λ h. less (omega (arith, h))) (λ h. more (omega (arith, h)))

or_cases : (first second : Bool) → (first || second) ≡ true → (first ≡ true) ⊎ (second ≡ true)
or_cases true second h = inl refl
or_cases false second h = inr h

or_more : (first second third : Bool) → (second ≡ true → third ≡ true) → (first || second) ≡ true → (first || third) ≡ true
or_more true second third more h = refl
or_more false second third more h = more h

and_more : (first second third : Bool) → (second ≡ true → third ≡ true) → (first && second) ≡ true → (first && third) ≡ true
and_more true second third more h = more h
and_more false second third more h = cc

any_more : {A : Type 0} (test other : A → Bool) (members : List A) → ((member : A) → test member ≡ true → other member ≡ true) → list_any test members ≡ true → list_any other members ≡ true
any_more test other [] more h = h
any_more test other (member ∷ members) more h = elim (or_cases (test member) (list_any test members) h) [
  | inl here ↦ or_first (other member) (list_any other members) (more member here)
  | inr there ↦ or_second (other member) (list_any other members) (any_more test other members more there)
]

-- ---- how many numbers pass a test

abbrev count_if : Bool → ℕ → ℕ
count_if true count = suc count
count_if false count = count

-- how many of the numbers below a bound
abbrev passing : (ℕ → Bool) → (bound : ℕ) → ℕ
passing test zero = 0
passing test (suc bound) = count_if (test bound) (passing test bound)

count_if_most : (here : Bool) (count bound : ℕ) → count ≤ bound → count_if here count ≤ suc bound
count_if_most true count bound h = omega (arith, h)
count_if_most false count bound h = omega (arith, h)

passing_most : (test : ℕ → Bool) (bound : ℕ) → passing test bound ≤ bound
passing_most test zero = omega arith
passing_most test (suc bound) = count_if_most (test bound) (passing test bound) bound (passing_most test bound)

-- where the one tells no more than the other, it tells the same below the bound, or more pass the other
abbrev IsSameOrMore : (first second : ℕ → Bool) → (bound : ℕ) → Type 0
IsSameOrMore first second bound = ((state : ℕ) → state < bound → second state ≡ true → first state ≡ true) ⊎ (passing first bound < passing second bound)

grown : (here there : Bool) (first second : ℕ) → (here ≡ true → there ≡ true) → first < second → count_if here first < count_if there second
grown true true first second tells more = omega (arith, more)
grown true false first second tells more = absurd (false_not_true (tells refl))
grown false true first second tells more = omega (arith, more)
grown false false first second tells more = more

-- a number that is added
added : (here there : Bool) (first second : ℕ) → (here ≡ true → there ≡ true) → first ≤ second → (there ≡ true → here ≡ true) ⊎ (count_if here first < count_if there second)
added true there first second tells more = inl (λ e. refl)
added false true first second tells more = inr (omega (arith, more))
added false false first second tells more = inl (λ e. e)

count_if_more : (here there : Bool) (first second : ℕ) → (here ≡ true → there ≡ true) → first ≤ second → count_if here first ≤ count_if there second
count_if_more true true first second tells more = omega (arith, more)
count_if_more true false first second tells more = absurd (false_not_true (tells refl))
count_if_more false true first second tells more = omega (arith, more)
count_if_more false false first second tells more = more

passing_more : (first second : ℕ → Bool) (bound : ℕ) → Tells first second → passing first bound ≤ passing second bound
passing_more first second zero tells = omega arith
passing_more first second (suc bound) tells = count_if_more (first bound) (second bound) (passing first bound) (passing second bound) (tells bound) (passing_more first second bound tells)

-- the same below a bound and at it
one_further : (first second : ℕ → Bool) (bound : ℕ) → ((state : ℕ) → state < bound → second state ≡ true → first state ≡ true) → (second bound ≡ true → first bound ≡ true) → (state : ℕ) → state < suc bound → second state ≡ true → first state ≡ true
one_further first second bound below at state h = by_less state bound (λ less. below state less) (λ more. let same : bound ≡ state = omega (arith, h, more) in subst (λ state. second state ≡ true → first state ≡ true) same at)

same_or_more : (first second : ℕ → Bool) (bound : ℕ) → Tells first second → IsSameOrMore first second bound
same_or_more first second zero tells = inl (λ state h e. absurd (omega (arith, h)))
same_or_more first second (suc bound) tells = elim (same_or_more first second bound tells) [
  | inl below ↦ elim (added (first bound) (second bound) (passing first bound) (passing second bound) (tells bound) (passing_more first second bound tells)) [
    | inl at ↦ inl (one_further first second bound below at)
    | inr more ↦ inr more
  ]
  | inr more ↦ inr (grown (first bound) (second bound) (passing first bound) (passing second bound) (tells bound) more)
]

-- ---- paths

-- a path goes by one transition to where another begins
abbrev further : StateTrees → (avoided to : ℕ) → (reached : ℕ → Bool) → (from : ℕ) → Bool
further states avoided to reached from = nat_eq from to || list_any (λ exit. not (nat_eq exit.to avoided) && reached exit.to) (exits_at states from)

abbrev within : StateTrees → (avoided to : ℕ) → (most : ℕ) → (from : ℕ) → Bool
within states avoided to most from = leads_within states avoided most from to

further_more : (states : StateTrees) (avoided to : ℕ) (first second : ℕ → Bool) → Tells first second → Tells (further states avoided to first) (further states avoided to second)
further_more states avoided to first second tells = λ from.
    or_more (nat_eq from to) (list_any (λ exit. not (nat_eq exit.to avoided) && first exit.to) (exits_at states from)) (list_any (λ exit. not (nat_eq exit.to avoided) && second exit.to) (exits_at states from))
    (any_more (λ exit. not (nat_eq exit.to avoided) && first exit.to) (λ exit. not (nat_eq exit.to avoided) && second exit.to) (exits_at states from)
    (λ exit. and_more (not (nat_eq exit.to avoided)) (first exit.to) (second exit.to) (tells exit.to)))

nowhere : (states : StateTrees) (avoided to most : ℕ) (from : ℕ) → nat_eq from to ≡ true → within states avoided to most from ≡ true
nowhere states avoided to zero from e = e
nowhere states avoided to (suc most) from e = or_first (nat_eq from to) (list_any (λ exit. not (nat_eq exit.to avoided) && within states avoided to most exit.to) (exits_at states from)) e

-- a path of at most so many transitions is one of at most more
longer : (states : StateTrees) (avoided to most other : ℕ) → most ≤ other → Tells (within states avoided to most) (within states avoided to other)
longer states avoided to zero other h = nowhere states avoided to other
longer states avoided to (suc most) zero h = absurd (omega (arith, h))
longer states avoided to (suc most) (suc other) h = further_more states avoided to (within states avoided to most) (within states avoided to other) (longer states avoided to most other (omega (arith, h)))

-- where one transition more leads from no other state, none are
settled : (states : StateTrees) (avoided to most : ℕ) → Tells (within states avoided to (suc most)) (within states avoided to most) → (other : ℕ) → Tells (within states avoided to other) (within states avoided to most)
settled states avoided to most still zero = nowhere states avoided to most
settled states avoided to most still (suc other) = λ from h.
    still from (further_more states avoided to (within states avoided to other) (within states avoided to most) (settled states avoided to most still other) from h)

no_exits : (states : StateTrees) (state : ℕ) → count_states states ≤ state → exits_at states state ≡ []
no_exits no_state state h = refl
no_exits (and_state items exits states) zero h = absurd (omega (arith, h))
no_exits (and_state items exits states) (suc state) h = no_exits states state (omega (arith, h))

or_false : (b : Bool) → (b || false) ≡ true → b ≡ true
or_false true h = refl
or_false false h = h

-- from a state that is not there no transition leads
not_there : (states : StateTrees) (avoided to most : ℕ) (from : ℕ) → count_states states ≤ from → within states avoided to (suc most) from ≡ true → within states avoided to most from ≡ true
not_there states avoided to most from missing h =
    nowhere states avoided to most from
    (or_false (nat_eq from to) (subst (λ exits. (nat_eq from to || list_any (λ exit. not (nat_eq exit.to avoided) && within states avoided to most exit.to) exits) ≡ true) (no_exits states from missing) h))

-- paths settle, or from more and more states there is one
abbrev Settles : StateTrees → (avoided to most : ℕ) → Type 0
Settles states avoided to most = (less : ℕ) × (less < most) × Tells (within states avoided to (suc less)) (within states avoided to less)

settles : (states : StateTrees) (avoided to most : ℕ) → Settles states avoided to most ⊎ (most ≤ passing (within states avoided to most) (count_states states))
settles states avoided to zero = inr (omega arith)
settles states avoided to (suc most) = elim (settles states avoided to most) [
  | inl before ↦ inl (before.0, omega (arith, before.1), before.2)
  | inr many ↦ elim (same_or_more (within states avoided to most) (within states avoided to (suc most)) (count_states states) (longer states avoided to most (suc most) (omega arith))) [
    | inl same ↦ inl (most, omega arith, λ from. by_less from (count_states states) (λ less. same from less) (λ missing. not_there states avoided to most from missing))
    | inr more ↦ inr (omega (arith, many, more))
  ]
]

pub paths_are_found : (states : StateTrees) (avoided most from to : ℕ) → leads_within states avoided most from to ≡ true → leads_to states avoided from to ≡ true
paths_are_found states avoided most from to h = elim (settles states avoided to (suc (count_states states))) [
  | inl there ↦ longer states avoided to there.0 (count_states states) (omega (arith, there.1)) from (settled states avoided to there.0 there.2 most from h)
  | inr many ↦ absurd (omega (arith, many, passing_most (within states avoided to (suc (count_states states))) (count_states states)))
]
