-- The loops of a program's graph are entered at their begins alone.
use Rattle.std.proofs.Common.{◌≡◌, ◌⊎◌, inl, inr, ℕ, zero, suc, ◌+◌, ◌<◌, ◌≤◌, List, [], ◌∷◌, Bool, true, false, not, ◌&&◌, ◌||◌, nat_eq, refl, sym, subst, arith, ap, ◌∙◌, ne_eqb}
use Rattle.std.specs.List.{AllByRecursion, list_any}
use Rattle.sd_graph.specs.PlainTree.{ExitTree, GuardTree, GraphTree, StateTrees}
use Rattle.sd_graph.specs.TreeParts.{count_states, exits_at}
use Rattle.sd_graph.specs.LoopScope.{leads_within, leads_to}
use Rattle.sd_graph.proofs.Among.{nat_eq_same}
use Rattle.sd_program.specs.Names.{Name}
use Rattle.sd_elab.specs.states.Exits.{plainly, if_holds}
use Rattle.sd_elab.specs.states.Standing.{Standing}
use Rattle.sd_made.specs.elab.EnteredLoops.{IsEnteredAtBegin, ClosesLoop}
use Rattle.sd_made.proofs.elab_lemmas.StateRanges.{split}

-- a transition leads to a state that is none of those above the lower number and below the higher one
abbrev pub IsOut : (low high : ℕ) → ExitTree → Type 0
IsOut low high exit = (exit.to ≤ low) ⊎ (high ≤ exit.to)

pub out_more : (low high least most : ℕ) → low ≤ least → most ≤ high → (exit : ExitTree) → IsOut low high exit → IsOut least most exit
out_more low high least most h h' exit (inl lower) = inl (omega (arith, h, lower))
out_more low high least most h h' exit (inr higher) = inr (omega (arith, h', higher))

all_more : (P Q : ExitTree → Type 0) → ((exit : ExitTree) → P exit → Q exit) → (exits : List ExitTree) → AllByRecursion P exits → AllByRecursion Q exits
all_more P Q more [] all = tt
all_more P Q more (exit ∷ exits) all = (more exit all.0, all_more P Q more exits all.1)

pub all_out_more : (low high least most : ℕ) → low ≤ least → most ≤ high → (exits : List ExitTree) → AllByRecursion (IsOut low high) exits → AllByRecursion (IsOut least most) exits
all_out_more low high least most h h' exits all = all_more (IsOut low high) (IsOut least most) (out_more low high least most h h') exits all

not_the_same : (m n : ℕ) → (m < n) ⊎ (n < m) → nat_eq m n ≡ false
not_the_same m n (inl less) = ne_eqb m n (λ e. omega (arith, e, less))
not_the_same m n (inr more) = ne_eqb m n (λ e. omega (arith, e, more))

nothing : (first second : Bool) → second ≡ false → (first && second) ≡ false
nothing true second e = e
nothing false second e = refl

module _ (states : StateTrees) where
  -- the states from one number up to below another are entered from outside at the first of them alone
  abbrev pub IsEntered : (low high : ℕ) → Type 0
  IsEntered low high = (number : ℕ) → (number < low) ⊎ (high ≤ number) → AllByRecursion (IsOut low high) (exits_at states number)

  -- ---- from outside no path leads inside that does not come to the first of them

  module _ (low high end : ℕ) (entered : IsEntered low high) (above : low < end) (under : end < high) where
    abbrev Outside : ℕ → Type 0
    Outside number = (number < low) ⊎ (high ≤ number)

    not_the_end : (number : ℕ) → Outside number → nat_eq number end ≡ false
    not_the_end number (inl lower) = not_the_same number end (inl (omega (arith, lower, above)))
    not_the_end number (inr higher) = not_the_same number end (inr (omega (arith, higher, under)))

    -- where a transition leads
    next_leads : (most : ℕ) → ((from : ℕ) → Outside from → leads_within states low most from end ≡ false) → (to : ℕ) → (to ≤ low) ⊎ (high ≤ to) →
        (not (nat_eq to low) && leads_within states low most to end) ≡ false
    next_leads most nowhere to (inl lower) = elim (split to low) [
      | inl less ↦ nothing (not (nat_eq to low)) (leads_within states low most to end) (nowhere to (inl less))
      | inr same ↦ ap (λ test. not test && leads_within states low most to end) (nat_eq_same to low (omega (arith, lower, same)))
    ]
    next_leads most nowhere to (inr higher) = nothing (not (nat_eq to low)) (leads_within states low most to end) (nowhere to (inr higher))

    none_leads : (most : ℕ) → ((from : ℕ) → Outside from → leads_within states low most from end ≡ false) → (exits : List ExitTree) → AllByRecursion (IsOut low high) exits →
        list_any (λ exit. not (nat_eq exit.to low) && leads_within states low most exit.to end) exits ≡ false
    none_leads most nowhere [] all = refl
    none_leads most nowhere (exit ∷ exits) all =
        ap (λ test. test || list_any (λ exit. not (nat_eq exit.to low) && leads_within states low most exit.to end) exits) (next_leads most nowhere exit.to all.0)
        ∙ none_leads most nowhere exits all.1

    no_path : (most from : ℕ) → Outside from → leads_within states low most from end ≡ false
    no_path zero from outside = not_the_end from outside
    no_path (suc most) from outside =
        ap (λ test. test || list_any (λ exit. not (nat_eq exit.to low) && leads_within states low most exit.to end) (exits_at states from)) (not_the_end from outside)
        ∙ none_leads most (no_path most) (exits_at states from) (entered from outside)

  -- ---- loops

  -- a marked transition leads back to the begin of such a loop, to whose end no path leads from other states that does not come to the begin
  abbrev pub ClosesLoopAlone : (state : ℕ) → ExitTree → Type 0
  ClosesLoopAlone state exit =
      exit.back ≡ true → IsEnteredAtBegin states exit.to state (exits_at states exit.to)
      × ((exit.to ≤ state) × ((number : ℕ) → (number < exit.to) ⊎ (state < number) → leads_to states exit.to number state ≡ false))

  pub closes_too : (state : ℕ) (exits : List ExitTree) → AllByRecursion (ClosesLoopAlone state) exits → AllByRecursion (ClosesLoop states state) exits
  closes_too state exits all = all_more (ClosesLoopAlone state) (ClosesLoop states state) (λ exit closes marked. (closes marked).0) exits all

  -- a transition without a mark closes none
  pub unmarked : (state : ℕ) (exit : ExitTree) → exit.back ≡ false → ClosesLoopAlone state exit
  unmarked state exit e marked = cc

  module _ (graphs : Name → GraphTree) where
    -- the transitions of a loop's states, the first of which is the one before it
    pub loop_entered : (at : Standing) (current body : ℕ) (first : ExitTree) → current + 1 ≡ at.state → first.to ≡ at.state → exits_at states current ≡ first ∷ [] →
        IsEntered current (at.state + (2 + body + 1)) →
        ((number : ℕ) → number + 1 ≡ at.state + (2 + body + 1) → AllByRecursion (IsOut current (at.state + (2 + body + 1))) (exits_at states number)) →
        IsEntered at.state (at.state + 1 + 1 + body)
    loop_entered at current body first e to here entered leaves number (inl lower) = elim (split number current) [
      | inl less ↦ all_out_more current (at.state + (2 + body + 1)) at.state (at.state + 1 + 1 + body) (omega (arith, e)) (omega arith) (exits_at states number) (entered number (inl less))
      | inr same ↦ subst (λ number. AllByRecursion (IsOut at.state (at.state + 1 + 1 + body)) (exits_at states number)) (omega (arith, same, lower, e))
          (subst (AllByRecursion (IsOut at.state (at.state + 1 + 1 + body))) (sym here) (inl (omega (arith, to)), tt))
    ]
    loop_entered at current body first e to here entered leaves number (inr higher) = elim (split number (at.state + 1 + 1 + body + 1)) [
      | inl less ↦ all_out_more current (at.state + (2 + body + 1)) at.state (at.state + 1 + 1 + body) (omega (arith, e)) (omega arith) (exits_at states number) (leaves number (omega (arith, less, higher)))
      | inr more ↦ all_out_more current (at.state + (2 + body + 1)) at.state (at.state + 1 + 1 + body) (omega (arith, e)) (omega arith) (exits_at states number) (entered number (inr (omega (arith, more))))
    ]

    -- the block of a loop is entered at its first state
    pub block_entered : (at : Standing) (body : ℕ) (guard : GuardTree) → exits_at states at.state ≡ if_holds guard (at.state + 1) ∷ plainly (at.state + 1 + 1 + body) ∷ [] →
        IsEntered at.state (at.state + 1 + 1 + body) → IsEntered (at.state + 1) (at.state + 1 + 1 + body)
    block_entered at body guard head entered number (inl lower) = elim (split number at.state) [
      | inl less ↦ all_out_more at.state (at.state + 1 + 1 + body) (at.state + 1) (at.state + 1 + 1 + body) (omega arith) (omega arith) (exits_at states number) (entered number (inl less))
      | inr same ↦ subst (λ number. AllByRecursion (IsOut (at.state + 1) (at.state + 1 + 1 + body)) (exits_at states number)) (omega (arith, same, lower))
          (subst (AllByRecursion (IsOut (at.state + 1) (at.state + 1 + 1 + body))) (sym head) (inl (omega arith), (inr (omega arith), tt)))
    ]
    block_entered at body guard head entered number (inr higher) =
        all_out_more at.state (at.state + 1 + 1 + body) (at.state + 1) (at.state + 1 + 1 + body) (omega arith) (omega arith) (exits_at states number) (entered number (inr higher))

    -- the marked transition from the end of a loop's block
    pub turn_closes : (at : Standing) (body : ℕ) (guard : GuardTree) (turn : ExitTree) → 0 < at.state → turn.to ≡ at.state →
        exits_at states at.state ≡ if_holds guard (at.state + 1) ∷ plainly (at.state + 1 + 1 + body) ∷ [] →
        IsEntered at.state (at.state + 1 + 1 + body) → (number : ℕ) → number + 1 ≡ at.state + 1 + 1 + body → ClosesLoopAlone number turn
    turn_closes at body guard turn above to head entered number last marked = (
      subst (λ begin. IsEnteredAtBegin states begin number (exits_at states begin)) (sym to)
          (subst (IsEnteredAtBegin states at.state number) (sym head) (
            inr (path_from 0 (inl above)),
            path_from (at.state + 1 + 1 + body) (inr (omega arith)),
          )),
      (omega (arith, to, last), subst (λ begin. (from : ℕ) → (from < begin) ⊎ (number < from) → leads_to states begin from number ≡ false) (sym to) apart),
    )
      where
        path_from : (from : ℕ) → (from < at.state) ⊎ (at.state + 1 + 1 + body ≤ from) → leads_to states at.state from number ≡ false
        path_from from outside = no_path at.state (at.state + 1 + 1 + body) number entered (omega (arith, last)) (omega (arith, last)) (count_states states) from outside

        apart : (from : ℕ) → (from < at.state) ⊎ (number < from) → leads_to states at.state from number ≡ false
        apart from (inl lower) = path_from from (inl lower)
        apart from (inr higher) = path_from from (inr (omega (arith, higher, last)))
