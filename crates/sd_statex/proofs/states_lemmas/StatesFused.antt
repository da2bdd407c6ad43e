-- A run in which two states are one, and the run in which they are two.
use Rattle.std.proofs.Common.{◌≡◌, ◌≢◌, ◌⊎◌, inl, inr, ℕ, zero, suc, List, [], ◌∷◌, Option, Some, None, Result, Ok, Err, Bool, false, refl, sym, ◌∙◌, ap, subst}
use Rattle.std.specs.Bool.{⊤}
use Rattle.sd_work.specs.Memory.{Memories}
use Rattle.sd_work.specs.Move.{Fault}
use Rattle.sd_work.specs.Exit.{Values, Exit, first_exit}
use Rattle.sd_work.specs.Step.{Done, Faulted, Spent}
use Rattle.sd_work.specs.BigStep.{Coming, and_then, after_exit, big_states}
use Rattle.sd_alike.specs.alike.SameWork.{AgreeBelow}
use Rattle.sd_alike.proofs.alike_lemmas.SamePlaces.{then_then}
use Rattle.sd_statex.specs.states.FusedStates.{lowered}
use Rattle.sd_statex.specs.states.Reaching.{Reaches, GoesTo, AtMost, one_more, twice}
use Rattle.sd_statex.proofs.states_lemmas.More.{nothing_done, reach_then, reach_spending, at_most_less, at_most_next}

-- the transition that is found leads to the same state, as it is numbered then, and not to the one that is gone
pub record IsFoundLowered {P Q : Type 0} (gone count : ℕ) (exit : Exit P) (other : Exit Q) : Type 0 where
  pub marked : other.marked ≡ exit.marked
  pub state : other.state ≡ lowered gone exit.state
  pub stays : exit.state ≢ gone
  pub values : AgreeBelow count exit.values other.values

abbrev pub FoundLowered : {P Q : Type 0} → (gone count : ℕ) → Result (Option (Exit P)) (Fault P) → Result (Option (Exit Q)) (Fault Q) → Type 0
FoundLowered gone count (Ok None) (Ok None) = ⊤
FoundLowered gone count (Ok None) (Ok (Some other)) = ⊥
FoundLowered gone count (Ok None) (Err fault) = ⊥
FoundLowered gone count (Ok (Some exit)) (Ok None) = ⊥
FoundLowered gone count (Ok (Some exit)) (Ok (Some other)) = IsFoundLowered gone count exit other
FoundLowered gone count (Ok (Some exit)) (Err fault) = ⊥
FoundLowered gone count (Err fault) (Ok found) = ⊥
FoundLowered gone count (Err fault) (Err other) = ⊤

-- behind the transition that is found
found_reaches : {P Q : Type 0} (gone count : ℕ) (found : Result (Option (Exit P)) (Fault P)) (other : Result (Option (Exit Q)) (Fault Q)) (memories : Memories) (turns : ℕ)
    (rest : Exit P → ℕ → Coming P) (others : Exit Q → ℕ → Coming Q) → FoundLowered gone count found other →
    ((exit : Exit P) (exit' : Exit Q) → IsFoundLowered gone count exit exit' → (turns : ℕ) → Reaches (rest exit turns) (others exit' turns)) →
    Reaches (after_exit found memories turns rest) (after_exit other memories turns others)
found_reaches gone count (Ok None) (Ok None) memories turns rest others same h = λ now is. is
found_reaches gone count (Ok None) (Ok (Some exit')) memories turns rest others same h = elim same [ ]
found_reaches gone count (Ok None) (Err fault) memories turns rest others same h = elim same [ ]
found_reaches gone count (Ok (Some exit)) (Ok None) memories turns rest others same h = elim same [ ]
found_reaches gone count (Ok (Some exit)) (Ok (Some exit')) memories turns rest others same h =
    subst {A = Bool} (λ marked. Reaches (after_exit (Ok (Some exit)) memories turns rest) (after_exit (Ok (Some (record exit' { marked = marked }))) memories turns (λ exit turns. others exit' turns))) (sym same.marked)
    (reach_spending exit.marked turns (rest exit) (others exit') (h exit exit' same))
found_reaches gone count (Ok (Some exit)) (Err fault) memories turns rest others same h = elim same [ ]
found_reaches gone count (Err fault) (Ok found) memories turns rest others same h = elim same [ ]
found_reaches gone count (Err fault) (Err other) memories turns rest others same h = λ now is. nothing_done now is

found_reaches_back : {P Q : Type 0} (gone count : ℕ) (found : Result (Option (Exit P)) (Fault P)) (other : Result (Option (Exit Q)) (Fault Q)) (memories : Memories) (turns : ℕ)
    (rest : Exit P → ℕ → Coming P) (others : Exit Q → ℕ → Coming Q) → FoundLowered gone count found other →
    ((exit : Exit P) (exit' : Exit Q) → IsFoundLowered gone count exit exit' → (turns : ℕ) → Reaches (others exit' turns) (rest exit turns)) →
    Reaches (after_exit other memories turns others) (after_exit found memories turns rest)
found_reaches_back gone count (Ok None) (Ok None) memories turns rest others same h = λ now is. is
found_reaches_back gone count (Ok None) (Ok (Some exit')) memories turns rest others same h = elim same [ ]
found_reaches_back gone count (Ok None) (Err fault) memories turns rest others same h = elim same [ ]
found_reaches_back gone count (Ok (Some exit)) (Ok None) memories turns rest others same h = elim same [ ]
found_reaches_back gone count (Ok (Some exit)) (Ok (Some exit')) memories turns rest others same h =
    subst {A = Bool} (λ marked. Reaches (after_exit (Ok (Some (record exit' { marked = marked }))) memories turns (λ exit turns. others exit' turns)) (after_exit (Ok (Some exit)) memories turns rest)) (sym same.marked)
    (reach_spending exit.marked turns (others exit') (rest exit) (h exit exit' same))
found_reaches_back gone count (Ok (Some exit)) (Err fault) memories turns rest others same h = elim same [ ]
found_reaches_back gone count (Err fault) (Ok found) memories turns rest others same h = elim same [ ]
found_reaches_back gone count (Err fault) (Err other) memories turns rest others same h = λ now is. nothing_done now is

-- a transition without a mark, a condition or an assignment
abbrev pub plain_step : {P : Type 0} → (state : ℕ) → Values → Exit P
plain_step state values = record { when = None; marked = false; state = state; values = values }

-- two states are one, or not
pub is_same_state : (state other : ℕ) → (state ≡ other) ⊎ (state ≢ other)
is_same_state zero zero = inl refl
is_same_state zero (suc other) = inr (λ same. never same)
  where
    never : {number : ℕ} → zero ≡ suc number → ⊥
    never same = cc
is_same_state (suc state) zero = inr (λ same. never same)
  where
    never : {number : ℕ} → suc number ≡ zero → ⊥
    never same = cc
is_same_state (suc state) (suc other) = next (is_same_state state other)
  where
    before : {first second : ℕ} → suc first ≡ suc second → first ≡ second
    before same = cc

    next : (state ≡ other) ⊎ (state ≢ other) → (suc state ≡ suc other) ⊎ (suc state ≢ suc other)
    next (inl same) = inl (ap suc same)
    next (inr apart) = inr (λ same. apart (before same))

-- work behind which nothing is done is not done
never_then : {P Q : Type 0} (coming : Coming P) (other : Coming Q) → Reaches (and_then coming (λ memories turns. None)) other
never_then (Some (Done now')) other now is = nothing_done now is
never_then (Some (Faulted fault)) other now is = nothing_done now is
never_then (Some Spent) other now is = nothing_done now is
never_then None other now is = nothing_done now is

module _ {P Q : Type 0} (first second count : ℕ) (run : ℕ → Values → Memories → ℕ → Coming P) (other : ℕ → Values → Memories → ℕ → Coming Q) (exits : ℕ → Values → List (Exit P)) (others : ℕ → Values → List (Exit Q))
    (step : (values : Values) → exits first values ≡ plain_step second values ∷ [])
    (elsewhere : (state : ℕ) (values other_values : Values) → state ≢ first → state ≢ second → AgreeBelow count values other_values → (memories : Memories) →
    FoundLowered second count (first_exit (exits state values) memories) (first_exit (others (lowered second state) other_values) memories))
    (behind : (values other_values : Values) → AgreeBelow count values other_values → (memories : Memories) →
    FoundLowered second count (first_exit (exits second values) memories) (first_exit (others (lowered second first) other_values) memories))
  where
    -- a state with the states behind it
    abbrev from : (most state : ℕ) → Values → Memories → (turns : ℕ) → Coming P
    from most state values memories turns = and_then (run state values memories turns) (big_states most run exits state values)

    abbrev other_from : (most state : ℕ) → Values → Memories → (turns : ℕ) → Coming Q
    other_from most state values memories turns = and_then (other state values memories turns) (big_states most other others state values)

    -- the first of the two, then the second, and then the states behind that
    two_steps : (most : ℕ) (values : Values) (memories : Memories) (turns : ℕ) →
        from (suc most) first values memories turns ≡ and_then (and_then (run first values memories turns) (run second values)) (big_states most run exits second values)
    two_steps most values memories turns =
        ap (λ (rest : Memories → ℕ → Coming P). and_then (run first values memories turns) rest)
        (λ i memories turns. after_exit (first_exit (step values i) memories) memories turns (λ exit turns. and_then (run exit.state exit.values memories turns) (big_states most run exits exit.state exit.values)))
        ∙ sym (then_then (run first values memories turns) (run second values) (big_states most run exits second values))

    module _ (reaches : (state : ℕ) (values other_values : Values) → state ≢ first → state ≢ second → AgreeBelow count values other_values → GoesTo (run state values) (other (lowered second state) other_values))
        (both : (values other_values : Values) → AgreeBelow count values other_values → GoesTo (λ memories turns. and_then (run first values memories turns) (run second values)) (other (lowered second first) other_values))
      where
        -- with so many transitions where they are two, and more where they are one
        record Ahead (most : ℕ) : Type 0 where
          apart : (more : ℕ) → AtMost most more → (state : ℕ) → state ≢ first → state ≢ second → (values other_values : Values) → AgreeBelow count values other_values →
              GoesTo (big_states most run exits state values) (big_states more other others (lowered second state) other_values)
          last : (more : ℕ) → AtMost most more → (values other_values : Values) → AgreeBelow count values other_values →
              GoesTo (big_states most run exits second values) (big_states more other others (lowered second first) other_values)
          start : (more : ℕ) → AtMost most more → (values other_values : Values) → AgreeBelow count values other_values →
              GoesTo (from most first values) (other_from more (lowered second first) other_values)

        whole_ahead : (most more : ℕ) → Ahead most → AtMost most more → (state : ℕ) → state ≢ second → (values other_values : Values) → AgreeBelow count values other_values →
            GoesTo (from most state values) (other_from more (lowered second state) other_values)
        whole_ahead most more known below state stays values other_values agree = by_case (is_same_state state first)
          where
            by_case : (state ≡ first) ⊎ (state ≢ first) → GoesTo (from most state values) (other_from more (lowered second state) other_values)
            by_case (inl same) = subst (λ state. GoesTo (from most state values) (other_from more (lowered second state) other_values)) (sym same) (known.start more below values other_values agree)
            by_case (inr differs) = λ memories turns.
                reach_then (run state values memories turns) (other (lowered second state) other_values memories turns) (big_states most run exits state values) (big_states more other others (lowered second state) other_values)
                (reaches state values other_values differs stays agree memories turns) (known.apart more below state differs stays values other_values agree)

        found_ahead : (most more : ℕ) → Ahead most → AtMost most more → (memories : Memories) (exit : Exit P) (exit' : Exit Q) → IsFoundLowered second count exit exit' → (turns : ℕ) →
            Reaches (from most exit.state exit.values memories turns) (other_from more exit'.state exit'.values memories turns)
        found_ahead most more known below memories exit exit' same turns =
            subst (λ state. Reaches (from most exit.state exit.values memories turns) (other_from more state exit'.values memories turns)) (sym same.state)
            (whole_ahead most more known below exit.state same.stays exit.values exit'.values same.values memories turns)

        next_ahead : (most : ℕ) → Ahead most → Ahead (suc most)
        next_ahead most known = record {
          apart = next_apart;
          last = next_last;
          start = next_start;
        }
          where
            next_apart : (more : ℕ) → AtMost (suc most) more → (state : ℕ) → state ≢ first → state ≢ second → (values other_values : Values) → AgreeBelow count values other_values →
                GoesTo (big_states (suc most) run exits state values) (big_states more other others (lowered second state) other_values)
            next_apart zero below state differs stays values other_values agree = elim below [ ]
            next_apart (suc more) (one_more below) state differs stays values other_values agree = λ memories turns.
                found_reaches second count (first_exit (exits state values) memories) (first_exit (others (lowered second state) other_values) memories) memories turns
                (λ exit turns. from most exit.state exit.values memories turns) (λ exit turns. other_from more exit.state exit.values memories turns)
                (elsewhere state values other_values differs stays agree memories) (found_ahead most more known below memories)

            next_last : (more : ℕ) → AtMost (suc most) more → (values other_values : Values) → AgreeBelow count values other_values →
                GoesTo (big_states (suc most) run exits second values) (big_states more other others (lowered second first) other_values)
            next_last zero below values other_values agree = elim below [ ]
            next_last (suc more) (one_more below) values other_values agree = λ memories turns.
                found_reaches second count (first_exit (exits second values) memories) (first_exit (others (lowered second first) other_values) memories) memories turns
                (λ exit turns. from most exit.state exit.values memories turns) (λ exit turns. other_from more exit.state exit.values memories turns)
                (behind values other_values agree memories) (found_ahead most more known below memories)

            next_start : (more : ℕ) → AtMost (suc most) more → (values other_values : Values) → AgreeBelow count values other_values →
                GoesTo (from (suc most) first values) (other_from more (lowered second first) other_values)
            next_start more below values other_values agree = λ memories turns.
                subst (λ coming. Reaches coming (other_from more (lowered second first) other_values memories turns)) (sym (two_steps most values memories turns))
                (reach_then (and_then (run first values memories turns) (run second values)) (other (lowered second first) other_values memories turns) (big_states most run exits second values) (big_states more other others (lowered second first) other_values)
                (both values other_values agree memories turns) (known.last more (at_most_less most more below) values other_values agree))

        ahead : (most : ℕ) → Ahead most
        ahead zero = record {
          apart = λ more below state differs stays values other_values agree memories turns now is. nothing_done now is;
          last = λ more below values other_values agree memories turns now is. nothing_done now is;
          start = λ more below values other_values agree memories turns. never_then (run first values memories turns) (other_from more (lowered second first) other_values memories turns);
        }
        ahead (suc most) = next_ahead most (ahead most)

        -- a run from a state on that is not gone, as far as it goes with so many transitions
        pub fused_reaches : (most more : ℕ) → AtMost most more → (state : ℕ) → state ≢ second → (values other_values : Values) → AgreeBelow count values other_values →
            GoesTo (from most state values) (other_from more (lowered second state) other_values)
        fused_reaches most more below = whole_ahead most more (ahead most) below

    module _ (reaches : (state : ℕ) (values other_values : Values) → state ≢ first → state ≢ second → AgreeBelow count values other_values → GoesTo (other (lowered second state) other_values) (run state values))
        (both : (values other_values : Values) → AgreeBelow count values other_values → GoesTo (other (lowered second first) other_values) (λ memories turns. and_then (run first values memories turns) (run second values)))
      where
        -- with so many transitions where they are one, and twice as many where they are two
        record Back (most : ℕ) : Type 0 where
          apart : (more : ℕ) → AtMost (twice most) more → (state : ℕ) → state ≢ first → state ≢ second → (values other_values : Values) → AgreeBelow count values other_values →
              GoesTo (big_states most other others (lowered second state) other_values) (big_states more run exits state values)
          last : (more : ℕ) → AtMost (twice most) more → (values other_values : Values) → AgreeBelow count values other_values →
              GoesTo (big_states most other others (lowered second first) other_values) (big_states more run exits second values)

        whole_back : (most more : ℕ) → Back most → AtMost (suc (twice most)) more → (state : ℕ) → state ≢ second → (values other_values : Values) → AgreeBelow count values other_values →
            GoesTo (other_from most (lowered second state) other_values) (from more state values)
        whole_back most zero known below state stays values other_values agree = elim below [ ]
        whole_back most (suc more) known (one_more below) state stays values other_values agree = by_case (is_same_state state first)
          where
            by_case : (state ≡ first) ⊎ (state ≢ first) → GoesTo (other_from most (lowered second state) other_values) (from (suc more) state values)
            by_case (inl same) = subst (λ state. GoesTo (other_from most (lowered second state) other_values) (from (suc more) state values)) (sym same) (λ memories turns.
                subst (λ coming. Reaches (other_from most (lowered second first) other_values memories turns) coming) (sym (two_steps more values memories turns))
                (reach_then (other (lowered second first) other_values memories turns) (and_then (run first values memories turns) (run second values)) (big_states most other others (lowered second first) other_values) (big_states more run exits second values)
                (both values other_values agree memories turns) (known.last more below values other_values agree)))
            by_case (inr differs) = λ memories turns.
                reach_then (other (lowered second state) other_values memories turns) (run state values memories turns) (big_states most other others (lowered second state) other_values) (big_states (suc more) run exits state values)
                (reaches state values other_values differs stays agree memories turns) (known.apart (suc more) (at_most_next (twice most) more below) state differs stays values other_values agree)

        found_back : (most more : ℕ) → Back most → AtMost (suc (twice most)) more → (memories : Memories) (exit : Exit P) (exit' : Exit Q) → IsFoundLowered second count exit exit' → (turns : ℕ) →
            Reaches (other_from most exit'.state exit'.values memories turns) (from more exit.state exit.values memories turns)
        found_back most more known below memories exit exit' same turns =
            subst (λ state. Reaches (other_from most state exit'.values memories turns) (from more exit.state exit.values memories turns)) (sym same.state)
            (whole_back most more known below exit.state same.stays exit.values exit'.values same.values memories turns)

        next_back : (most : ℕ) → Back most → Back (suc most)
        next_back most known = record {
          apart = next_apart;
          last = next_last;
        }
          where
            next_apart : (more : ℕ) → AtMost (twice (suc most)) more → (state : ℕ) → state ≢ first → state ≢ second → (values other_values : Values) → AgreeBelow count values other_values →
                GoesTo (big_states (suc most) other others (lowered second state) other_values) (big_states more run exits state values)
            next_apart zero below state differs stays values other_values agree = elim below [ ]
            next_apart (suc more) (one_more below) state differs stays values other_values agree = λ memories turns.
                found_reaches_back second count (first_exit (exits state values) memories) (first_exit (others (lowered second state) other_values) memories) memories turns
                (λ exit turns. from more exit.state exit.values memories turns) (λ exit turns. other_from most exit.state exit.values memories turns)
                (elsewhere state values other_values differs stays agree memories) (found_back most more known below memories)

            next_last : (more : ℕ) → AtMost (twice (suc most)) more → (values other_values : Values) → AgreeBelow count values other_values →
                GoesTo (big_states (suc most) other others (lowered second first) other_values) (big_states more run exits second values)
            next_last zero below values other_values agree = elim below [ ]
            next_last (suc more) (one_more below) values other_values agree = λ memories turns.
                found_reaches_back second count (first_exit (exits second values) memories) (first_exit (others (lowered second first) other_values) memories) memories turns
                (λ exit turns. from more exit.state exit.values memories turns) (λ exit turns. other_from most exit.state exit.values memories turns)
                (behind values other_values agree memories) (found_back most more known below memories)

        back : (most : ℕ) → Back most
        back zero = record {
          apart = λ more below state differs stays values other_values agree memories turns now is. nothing_done now is;
          last = λ more below values other_values agree memories turns now is. nothing_done now is;
        }
        back (suc most) = next_back most (back most)

        pub fused_reaches_back : (most more : ℕ) → AtMost (suc (twice most)) more → (state : ℕ) → state ≢ second → (values other_values : Values) → AgreeBelow count values other_values →
            GoesTo (other_from most (lowered second state) other_values) (from more state values)
        fused_reaches_back most more below = whole_back most more (back most) below
