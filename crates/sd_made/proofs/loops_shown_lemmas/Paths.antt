-- Paths of transitions, one behind another.
use Rattle.std.proofs.Common.{◌≡◌, ◌⊎◌, inl, inr, ℕ, zero, suc, ◌+◌, ◌≤◌, List, [], ◌∷◌, Bool, true, false, not, ◌&&◌, ◌||◌, nat_eq, refl, sym, subst, arith}
use Rattle.std.specs.List.{list_any}
use Rattle.sd_graph.specs.PlainTree.{StateTrees, ExitTree}
use Rattle.sd_graph.specs.TreeParts.{exits_at}
use Rattle.sd_graph.specs.LoopScope.{leads_within}
use Rattle.sd_graph.proofs.Among.{nat_eq_same, or_first, or_second}

or_cases : (first second : Bool) → (first || second) ≡ true → (first ≡ true) ⊎ (second ≡ true)
or_cases true second h = inl refl
or_cases false second h = inr h

and_more : (first second third : Bool) → (second ≡ true → third ≡ true) → (first && second) ≡ true → (first && third) ≡ true
and_more true second third more h = more h
and_more false second third more h = cc

any_more : {A : Type 0} (test other : A → Bool) (members : List A) → ((member : A) → test member ≡ true → other member ≡ true) → list_any test members ≡ true → list_any other members ≡ true
any_more test other [] more h = h
any_more test other (member ∷ members) more h = elim (or_cases (test member) (list_any test members) h) [
  | inl here ↦ or_first (other member) (list_any other members) (more member here)
  | inr there ↦ or_second (other member) (list_any other members) (any_more test other members more there)
]

not_false : (test other : Bool) → test ≡ false → other ≡ true → (not test && other) ≡ true
not_false true other h e = cc
not_false false other h e = e

-- where one state is avoided
module _ (states : StateTrees) (avoided : ℕ) where
  abbrev pub Leads : (most from to : ℕ) → Type 0
  Leads most from to = leads_within states avoided most from to ≡ true

  abbrev next_leads : (most to : ℕ) → ExitTree → Bool
  next_leads most to exit = not (nat_eq exit.to avoided) && leads_within states avoided most exit.to to

  pub stays : (most from to : ℕ) → from ≡ to → Leads most from to
  stays zero from to e = nat_eq_same from to e
  stays (suc most) from to e = or_first (nat_eq from to) (list_any (next_leads most to) (exits_at states from)) (nat_eq_same from to e)

  pub longer : (first total from to : ℕ) → first ≤ total → Leads first from to → Leads total from to
  longer zero total from to l h = stays total from to (grind (arith, h))
  longer (suc first) zero from to l h = absurd (omega (arith, l))
  longer (suc first) (suc total) from to l h = elim (or_cases (nat_eq from to) (list_any (next_leads first to) (exits_at states from)) h) [
    | inl here ↦ or_first (nat_eq from to) (list_any (next_leads total to) (exits_at states from)) here
    | inr there ↦ or_second (nat_eq from to) (list_any (next_leads total to) (exits_at states from))
        (any_more (next_leads first to) (next_leads total to) (exits_at states from)
        (λ exit. and_more (not (nat_eq exit.to avoided)) (leads_within states avoided first exit.to to) (leads_within states avoided total exit.to to) (longer first total exit.to to (omega (arith, l)))) there)
  ]

  pub joined : (first second total from middle to : ℕ) → first + second ≤ total → Leads first from middle → Leads second middle to → Leads total from to
  joined zero second total from middle to l h g = longer second total from to (omega (arith, l)) (subst (λ state. Leads second state to) same g)
    where
      same : middle ≡ from
      same = grind (arith, h)
  joined (suc first) second zero from middle to l h g = absurd (omega (arith, l))
  joined (suc first) second (suc total) from middle to l h g = elim (or_cases (nat_eq from middle) (list_any (next_leads first middle) (exits_at states from)) h) [
    | inl here ↦ (let same : middle ≡ from = grind (arith, here) in longer second (suc total) from to (omega (arith, l)) (subst (λ state. Leads second state to) same g))
    | inr there ↦ or_second (nat_eq from to) (list_any (next_leads total to) (exits_at states from))
        (any_more (next_leads first middle) (next_leads total to) (exits_at states from)
        (λ exit. and_more (not (nat_eq exit.to avoided)) (leads_within states avoided first exit.to middle) (leads_within states avoided total exit.to to) (λ h. joined first second total exit.to middle to (omega (arith, l)) h g)) there)
  ]

  -- by one transition
  pub first_way : (from : ℕ) (exit : ExitTree) (others : List ExitTree) → exits_at states from ≡ exit ∷ others → nat_eq exit.to avoided ≡ false → Leads 1 from exit.to
  first_way from exit others e apart =
      or_second (nat_eq from exit.to) (list_any (next_leads 0 exit.to) (exits_at states from))
      (subst (λ exits. list_any (next_leads 0 exit.to) exits ≡ true) (sym e)
      (or_first (next_leads 0 exit.to exit) (list_any (next_leads 0 exit.to) others) (not_false (nat_eq exit.to avoided) (nat_eq exit.to exit.to) apart (nat_eq_same exit.to exit.to refl))))

  pub second_way : (from : ℕ) (first exit : ExitTree) (others : List ExitTree) → exits_at states from ≡ first ∷ exit ∷ others → nat_eq exit.to avoided ≡ false → Leads 1 from exit.to
  second_way from first exit others e apart =
      or_second (nat_eq from exit.to) (list_any (next_leads 0 exit.to) (exits_at states from))
      (subst (λ exits. list_any (next_leads 0 exit.to) exits ≡ true) (sym e)
      (or_second (next_leads 0 exit.to first) (list_any (next_leads 0 exit.to) (exit ∷ others))
      (or_first (next_leads 0 exit.to exit) (list_any (next_leads 0 exit.to) others) (not_false (nat_eq exit.to avoided) (nat_eq exit.to exit.to) apart (nat_eq_same exit.to exit.to refl)))))
