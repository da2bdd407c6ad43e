-- Steps through the values of a stream.
use Rattle.std.proofs.Common.{◌≡◌, ℕ, zero, suc, ℤ, List, [], ◌∷◌, Option, Some, None, refl, sym, subst, ap, ◌∙◌, arith, length, drop, slice_get, slice_index_or}
use Rattle.sd_num.specs.declared.width.Width.TheVariants.{W64}
use Rattle.sd_work.specs.Memory.{Contents, array, stream, Memory, Memories, contents_of, values_of, waiting}
use Rattle.sd_work.specs.Change.{changed_at, with_values, without, take, apply}
use Rattle.sd_work.specs.Step.{Outcome, Done}
use Rattle.sd_work.specs.BigStep.{Reached, Coming, and_then, after_oldest, big_step, big_takes}
use Rattle.sd_graph.specs.declared.place.Place.{Place}
use Rattle.sd_graph.specs.PlainTree.{ItemTrees}
use Rattle.sd_graph.specs.ContainerParts.{Containers, container_at}
use Rattle.sd_graph.specs.Context.{Context, private_memory}
use Rattle.sd_graph.specs.Unfold.{at_element, one_element, element_memory}
use Rattle.sd_mem.specs.machine.ComesTo.{ComesTo, outcome_of, IsEnd}
use Rattle.sd_mem.specs.machine.Coming.{items_coming}
use Rattle.sd_mem.specs.declared.machine.end.End.{End}
use Rattle.sd_mem.specs.declared.machine.end.End.TheVariants.{Finished}
use Rattle.sd_rows.specs.consume.Taking.{element_term, takes_coming}
use Rattle.sd_row.proofs.row_lemmas.Comes.{IsLeft, comes-then, comes-stop, stops, owned_ends}

-- ---- the values that wait

-- the number of members stays
pub changed_length : {A : Type 0} (number : ℕ) (change : A → A) (members : List A) → length (changed_at number change members) ≡ length members
changed_length number change [] = refl
changed_length zero change (member ∷ members) = refl
changed_length (suc number) change (member ∷ members) = ap suc (changed_length number change members)

-- a change that leaves the member leaves all
same_changed : {A : Type 0} (number : ℕ) (change : A → A) (nowhere : A) (members : List A) →
    change (slice_index_or members number nowhere) ≡ slice_index_or members number nowhere → changed_at number change members ≡ members
same_changed number change nowhere [] is = refl
same_changed zero change nowhere (member ∷ members) is = ap (λ first. first ∷ members) is
same_changed (suc number) change nowhere (member ∷ members) is = ap (λ rest. member ∷ rest) (same_changed number change nowhere members is)

first_none : (values : List ℤ) → slice_get values 0 ≡ None → values ≡ []
first_none [] is = refl
first_none (value ∷ values) is = cc

none_taken : (contents : Contents) → values_of contents ≡ [] → with_values (λ width. without 0) contents ≡ contents
none_taken (array width elements) empty = refl
none_taken (stream width values) empty = ap (λ (v : List ℤ). stream width (without 0 v)) empty ∙ ap (stream width) (sym empty)

-- nothing is taken where nothing waits
pub take_of_none : (level container : ℕ) (memories : Memories) → slice_get (waiting level container memories) 0 ≡ None → apply (take level container 0) memories ≡ memories
take_of_none level container memories empty =
    same_changed level (changed_at container (with_values (λ width. without 0))) [] memories
    (same_changed container (with_values (λ width. without 0)) (stream W64 []) (slice_index_or memories level [])
    (none_taken (contents_of level container memories) (first_none (waiting level container memories) empty)))

-- the same of a stream that stands at equal numbers
pub take_there : (level there container at : ℕ) (old new : Memories) → level ≡ there → container ≡ at → new ≡ apply (take level container 0) old → new ≡ apply (take there at 0) old
take_there level there container at old new same_level same_container is =
    is ∙ ap (λ (l : ℕ). apply (take l container 0) old) same_level ∙ ap (λ (c : ℕ). apply (take there c 0) old) same_container

pub oldest_there : (level there container at : ℕ) (old : Memories) (first : Option ℤ) → level ≡ there → container ≡ at → first ≡ slice_get (waiting level container old) 0 → slice_get (waiting there at old) 0 ≡ first
oldest_there level there container at old first same_level same_container is =
    sym (is ∙ ap (λ (l : ℕ). slice_get (waiting l container old) 0) same_level ∙ ap (λ (c : ℕ). slice_get (waiting there c old) 0) same_container)

pub no_value : (first : Option ℤ) → ((value : ℤ) → first ≡ Some value → ⊥) → first ≡ None
no_value None none = refl
no_value (Some value) none = absurd (none value refl)

by_oldest : (values : List ℤ) (value : ℤ) (memories : Memories) (turns : ℕ) (rest : ℤ → Coming Place) (outcome : Outcome Place Reached) → slice_get values 0 ≡ Some value →
    ComesTo (rest value) outcome → ComesTo (after_oldest values memories turns rest) outcome
by_oldest [] value memories turns rest outcome is comes = cc
by_oldest (first ∷ values) value memories turns rest outcome is comes = subst (λ (v : ℤ). ComesTo (rest v) outcome) (same value first (sym is)) comes
  where
    same : (a b : ℤ) → Some a ≡ Some b → a ≡ b
    same a b is = cc

by_none : (values : List ℤ) (now : Reached) (rest : ℤ → Coming Place) → slice_get values 0 ≡ None → ComesTo (after_oldest values now.memories now.turns rest) (Done now)
by_none [] now rest is = refl
by_none (value ∷ values) now rest is = cc

-- ---- takes

module _ (body : ItemTrees) (number element : ℕ) (private : List ℕ) (context : Context) (whole : ℕ → Coming Place) (before middle taken : Reached)
    (left : IsLeft whole before (takes_coming body number element private context middle) middle)
    (same_memories : taken.memories ≡ apply (take (context.reach number).level (context.reach number).container 0) middle.memories) (same_turns : taken.turns ≡ middle.turns) where
  abbrev run : (most : ℕ) → ℤ → Memories → ℕ → Coming Place
  run most value = big_step (element_term body element private context value) most

  as_many : length taken.memories ≡ length middle.memories
  as_many = ap length same_memories ∙ changed_length (context.reach number).level (changed_at (context.reach number).container (with_values (λ width. without 0))) middle.memories

  -- no value waits
  pub takes_end : slice_get (waiting (context.reach number).level (context.reach number).container middle.memories) 0 ≡ None → IsEnd whole before Finished taken
  takes_end empty = record {
    comes = λ most. left.comes most (Done taken) (λ takes. subst (λ (now : Reached). ComesTo (takes_coming body number element private context middle most takes) (Done now)) same (over most takes));
    depth = as_many ∙ left.depth;
    turns = omega (arith, same_turns, left.turns);
  }
    where
      same : middle ≡ taken
      same = λ i. record { memories = sym (same_memories ∙ take_of_none (context.reach number).level (context.reach number).container middle.memories empty) i; turns = sym same_turns i }

      over : (most takes : ℕ) → ComesTo (takes_coming body number element private context middle most takes) (Done middle)
      over most zero = tt
      over most (suc takes) = by_none (waiting (context.reach number).level (context.reach number).container middle.memories) middle
          (λ value. and_then (run most value (apply (take (context.reach number).level (context.reach number).container 0) middle.memories) middle.turns)
          (big_takes takes (context.reach number).level (context.reach number).container (run most))) empty

  module _ (value : ℤ) (oldest : slice_get (waiting (context.reach number).level (context.reach number).container middle.memories) 0 ≡ Some value) (now : Reached) where
    -- an element comes to what its body comes to inside its memory
    pub element_ends : (told : ℤ) (all : Containers) (inside : Context) (own : Memory) (entered after : Reached) (end : End) →
        told ≡ value → all ≡ context.containers → own ≡ changed_at element (λ old. one_element (container_at all element).width told) (private_memory all (element ∷ private)) → inside ≡ at_element context element private told →
        entered.memories ≡ own ∷ taken.memories → entered.turns ≡ taken.turns →
        IsEnd (items_coming body inside entered) entered end after →
        now.memories ≡ drop 1 after.memories → now.turns ≡ after.turns →
        IsEnd (λ most. run most value taken.memories taken.turns) taken end now
    element_ends told all inside own entered after end same_value same_containers same_own same_context deeper kept_turns ends dropped kept =
        let memory : own ≡ element_memory context element private value = same_own
        ∙ ap (λ (v : ℤ). changed_at element (λ old. one_element (container_at all element).width v) (private_memory all (element ∷ private))) same_value
        ∙ ap (λ (a : Containers). changed_at element (λ old. one_element (container_at a element).width value) (private_memory a (element ∷ private))) same_containers in
        owned_ends (items_coming body (at_element context element private value)) (element_memory context element private value) taken entered after now end
        (deeper ∙ ap (λ (own : Memory). own ∷ taken.memories) memory) kept_turns
        (subst (λ (c : Context). IsEnd (items_coming body c entered) entered end after) (same_context ∙ ap (at_element context element private) same_value) ends)
        dropped kept

    -- what comes behind the take
    abbrev behind_take : (most takes : ℕ) → ℤ → Coming Place
    behind_take most takes value = and_then (run most value (apply (take (context.reach number).level (context.reach number).container 0) middle.memories) middle.turns)
        (big_takes takes (context.reach number).level (context.reach number).container (run most))

    run_is : (most : ℕ) → run most value taken.memories taken.turns ≡ run most value (apply (take (context.reach number).level (context.reach number).container 0) middle.memories) middle.turns
    run_is most = ap (λ (memories : Memories). run most value memories taken.turns) same_memories
        ∙ ap (run most value (apply (take (context.reach number).level (context.reach number).container 0) middle.memories)) same_turns

    -- the element is done
    pub element_more : IsEnd (λ most. run most value taken.memories taken.turns) taken Finished now → IsLeft whole before (takes_coming body number element private context now) now
    element_more ends = record {
      comes = λ most outcome after. left.comes most outcome (on most outcome after);
      depth = ends.depth ∙ as_many ∙ left.depth;
      turns = omega (arith, ends.turns, same_turns, left.turns);
    }
      where
        on : (most : ℕ) (outcome : Outcome Place Reached) → ((takes : ℕ) → ComesTo (takes_coming body number element private context now most takes) outcome) →
            (takes : ℕ) → ComesTo (takes_coming body number element private context middle most takes) outcome
        on most outcome after zero = tt
        on most outcome after (suc takes) = by_oldest (waiting (context.reach number).level (context.reach number).container middle.memories) value middle.memories middle.turns (behind_take most takes) outcome oldest
            (comes-then (run most value (apply (take (context.reach number).level (context.reach number).container 0) middle.memories) middle.turns) now
            (big_takes takes (context.reach number).level (context.reach number).container (run most)) outcome
            (subst (λ (coming : Coming Place). ComesTo coming (Done now)) (run_is most) (ends.comes most)) (after takes))

    -- the element stops the scope
    pub element_stop : (end : End) → IsEnd (λ most. run most value taken.memories taken.turns) taken end now → ((end ≡ Finished) → ⊥) → IsEnd whole before end now
    element_stop end ends stop = record {
      comes = λ most. left.comes most (outcome_of end now) (on most);
      depth = ends.depth ∙ as_many ∙ left.depth;
      turns = omega (arith, ends.turns, same_turns, left.turns);
    }
      where
        on : (most takes : ℕ) → ComesTo (takes_coming body number element private context middle most takes) (outcome_of end now)
        on most zero = tt
        on most (suc takes) = by_oldest (waiting (context.reach number).level (context.reach number).container middle.memories) value middle.memories middle.turns (behind_take most takes) (outcome_of end now) oldest
            (comes-stop (run most value (apply (take (context.reach number).level (context.reach number).container 0) middle.memories) middle.turns)
            (big_takes takes (context.reach number).level (context.reach number).container (run most)) (outcome_of end now) (stops end now stop)
            (subst (λ (coming : Coming Place). ComesTo coming (outcome_of end now)) (run_is most) (ends.comes most)))
