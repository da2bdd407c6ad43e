-- The loop variables in force are those of the transitions.
use Rattle.std.proofs.Common.{◌≡◌, ℕ, zero, suc, ◌≤◌, nat_eq, nat_le, List, [], ◌∷◌, ◌++◌, Bool, true, false, cond, not, ◌&&◌, ◌||◌, refl, ap, sym, subst, arith, ◌∙◌}
use Rattle.std.proofs.lemmas.List.Elements.{filter-append}
use Rattle.std.specs.List.{filter, flat_map, list_any}
use Rattle.sd_graph.specs.PlainTree.{StateTrees}
use Rattle.sd_graph.specs.TreeParts.{count_states, exits_at}
use Rattle.sd_graph.specs.Wiring.{has_number}
use Rattle.sd_graph.specs.LoopScope.{numbers_below, leads_within, closes_loop, is_in_force, loops_in_force}

module _ (states after : StateTrees) (count : count_states after ≡ count_states states) (exits : (state : ℕ) → exits_at after state ≡ exits_at states state) where
  within_same : (avoided most from to : ℕ) → leads_within after avoided most from to ≡ leads_within states avoided most from to
  within_same avoided zero from to = refl
  within_same avoided (suc most) from to = λ i. nat_eq from to || list_any (λ exit. not (nat_eq exit.to avoided) && within_same avoided most exit.to to i) (exits from i)

  force_same : (state begin variable : ℕ) → is_in_force after state begin variable ≡ is_in_force states state begin variable
  force_same state begin variable = λ i.
      list_any (λ end. list_any (closes_loop begin variable) (exits end i)
      && (along begin begin state i && along begin state end i)) (numbers_below (count i))
    where
      along : (avoided from to : ℕ) → leads_within after avoided (count_states after) from to ≡ leads_within states avoided (count_states states) from to
      along avoided from to = within_same avoided (count_states after) from to ∙ ap (λ most. leads_within states avoided most from to) count

  pub loops_same : (variables state : ℕ) → loops_in_force after variables state ≡ loops_in_force states variables state
  loops_same variables state = λ i. flat_map (λ begin. filter (λ variable. force_same state begin variable i) (numbers_below variables)) (numbers_below (count i))

-- ---- of more variables

or_assoc : (a b c : Bool) → ((a || b) || c) ≡ (a || (b || c))
or_assoc true b c = refl
or_assoc false b c = refl

or_first : (a b : Bool) → a ≡ true → (a || b) ≡ true
or_first true b is = refl
or_first false b is = cc

or_second : (a b : Bool) → b ≡ true → (a || b) ≡ true
or_second true b is = refl
or_second false b is = is

or_more : (a b c d : Bool) → (a ≡ true → c ≡ true) → (b ≡ true → d ≡ true) → (a || b) ≡ true → (c || d) ≡ true
or_more true b c d first second is = or_first c d (first refl)
or_more false b c d first second is = or_second c d (second is)

pub has_either : (xs ys : List ℕ) (n : ℕ) → has_number (xs ++ ys) n ≡ (has_number xs n || has_number ys n)
has_either [] ys n = refl
has_either (x ∷ xs) ys n = ap (λ rest. nat_eq n x || rest) (has_either xs ys n) ∙ sym (or_assoc (nat_eq n x) (has_number xs n) (has_number ys n))

-- one more number than before is below
one_below : (test : ℕ → Bool) (few many variable : ℕ) (less : Bool) → nat_le few many ≡ less → few ≤ suc many →
    (few ≤ many → has_number (filter test (numbers_below many)) variable ≡ true) → has_number (filter test (numbers_below few)) variable ≡ true → has_number (filter test (numbers_below (suc many))) variable ≡ true
one_below test few many variable true less up later is =
    ap (λ all. has_number all variable) (filter-append test (numbers_below many) (many ∷ []))
    ∙ has_either (filter test (numbers_below many)) (filter test (many ∷ [])) variable
    ∙ or_first (has_number (filter test (numbers_below many)) variable) (has_number (filter test (many ∷ [])) variable) (later (grind (arith, less)))
one_below test few many variable false less up later is =
    let same : few ≡ suc many = grind (arith, less, up) in
    subst (λ count. has_number (filter test (numbers_below count)) variable ≡ true) same is

more_below : (test : ℕ → Bool) (few many variable : ℕ) → few ≤ many → has_number (filter test (numbers_below few)) variable ≡ true → has_number (filter test (numbers_below many)) variable ≡ true
more_below test few zero variable up is =
    let none : few ≡ 0 = omega (arith, up) in
    subst (λ count. has_number (filter test (numbers_below count)) variable ≡ true) none is
more_below test few (suc many) variable up is = one_below test few many variable (nat_le few many) refl up (λ less. more_below test few many variable less is) is

flat_more : (few many : ℕ → List ℕ) → ((one variable : ℕ) → has_number (few one) variable ≡ true → has_number (many one) variable ≡ true) → (ones : List ℕ) (variable : ℕ) →
    has_number (flat_map few ones) variable ≡ true → has_number (flat_map many ones) variable ≡ true
flat_more few many more [] variable is = is
flat_more few many more (one ∷ ones) variable is =
    has_either (many one) (flat_map many ones) variable
    ∙ or_more (has_number (few one) variable) (has_number (flat_map few ones) variable) (has_number (many one) variable) (has_number (flat_map many ones) variable)
    (more one variable) (flat_more few many more ones variable) (sym (has_either (few one) (flat_map few ones) variable) ∙ is)

pub loops_more : (states : StateTrees) (few many state : ℕ) → few ≤ many → (variable : ℕ) → has_number (loops_in_force states few state) variable ≡ true → has_number (loops_in_force states many state) variable ≡ true
loops_more states few many state up variable is =
    flat_more (λ begin. filter (is_in_force states state begin) (numbers_below few)) (λ begin. filter (is_in_force states state begin) (numbers_below many))
    (λ begin variable there. more_below (is_in_force states state begin) few many variable up there) (numbers_below (count_states states)) variable is
