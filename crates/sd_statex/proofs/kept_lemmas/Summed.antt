-- What the states of a graph come to together, and that two states as one come to the same.
use Rattle.std.proofs.Common.{◌≡◌, ◌≢◌, ℕ, zero, suc, ◌+◌, List, [], ◌∷◌, ◌++◌, map, Bool, true, false, refl, sym, ◌∙◌, ap, arith, append_assoc}
use Rattle.std.specs.List.{flat_map}
use Rattle.sd_graph.specs.PlainTree.{ItemTrees, no_item, and_item, StateTrees, no_state, and_state, ExitTree}
use Rattle.sd_graph.specs.TreeParts.{items_at, exits_at}
use Rattle.sd_graph.specs.Wiring.{has_number}
use Rattle.sd_validity.specs.rules.Places.{Thing, leaving, doing}
use Rattle.sd_validity.specs.rules.NamesInForce.{held_at, params_at, set_at, held_in_kind, held_in, held_in_states}
use Rattle.sd_validity.specs.rules.NestedLinks.{written_by, written_in, written_in_states}
use Rattle.sd_validity.specs.things.Things.{things_in, item_things, state_things}
use Rattle.sd_validity.proofs.things_lemmas.Times.{times, times_joined, is_there, not_there, some_times, no_times}
use Rattle.sd_alike.specs.alike.Places.{items_then}
use Rattle.sd_alike.proofs.kept_lemmas.OnceThings.{flat_both}
use Rattle.sd_alike.proofs.kept_lemmas.NumbersKept.{AreOutside, held_outside, params_outside, set_outside}
use Rattle.sd_statex.specs.states.FusedStates.{exits_lowered, states_lowered, left_out, put_in, fused, plain_exit, AreFusible}
use Rattle.sd_statex.proofs.states_lemmas.FusedParts.{items_beside, exits_beside}

-- a number for items, and one for the transitions out of a state: of items one after another it is the sum, and a plain transition has none
pub record IsSummed (items_sum : ItemTrees → ℕ) (exits_sum : List ExitTree → ℕ) : Type 0 where
  pub none : items_sum no_item ≡ 0
  pub then : (items others : ItemTrees) → items_sum (items_then items others) ≡ items_sum items + items_sum others
  pub no_exits : exits_sum [] ≡ 0
  pub plain : (to : ℕ) → exits_sum (plain_exit to ∷ []) ≡ 0
  pub low : (gone : ℕ) (exits : List ExitTree) → exits_sum (exits_lowered gone exits) ≡ exits_sum exits

module _ (items_sum : ItemTrees → ℕ) (exits_sum : List ExitTree → ℕ) where
  abbrev pub sum_of : StateTrees → ℕ
  sum_of no_state = 0
  sum_of (and_state items exits states) = (exits_sum exits + items_sum items) + sum_of states

  module _ (summed : IsSummed items_sum exits_sum) where
    -- what one state comes to
    abbrev one_of : StateTrees → (state : ℕ) → ℕ
    one_of states state = exits_sum (exits_at states state) + items_sum (items_at states state)

    sum_lowered : (gone : ℕ) (states : StateTrees) → sum_of (states_lowered gone states) ≡ sum_of states
    sum_lowered gone no_state = refl
    sum_lowered gone (and_state items exits states) = omega (arith, summed.low gone exits, sum_lowered gone states)

    sum_left : (gone : ℕ) (states : StateTrees) → sum_of (left_out gone states) + one_of states gone ≡ sum_of states
    sum_left gone no_state = omega (arith, summed.none, summed.no_exits)
    sum_left zero (and_state items exits states) = omega arith
    sum_left (suc gone) (and_state items exits states) = omega (arith, sum_left gone states)

    sum_put : (number : ℕ) (new : ItemTrees) (new_exits : List ExitTree) (states : StateTrees) (exit : ExitTree) (exits : List ExitTree) → exits_at states number ≡ exit ∷ exits →
        sum_of (put_in number new new_exits states) + one_of states number ≡ sum_of states + (exits_sum new_exits + items_sum new)
    sum_put number new new_exits no_state exit exits is = absurd (no_exit exit exits is)
      where
        no_exit : (exit : ExitTree) (exits : List ExitTree) → [] ≡ exit ∷ exits → ⊥
        no_exit exit exits is = cc
    sum_put zero new new_exits (and_state items old states) exit exits is = omega arith
    sum_put (suc number) new new_exits (and_state items old states) exit exits is = omega (arith, sum_put number new new_exits states exit exits is)

    pub sum_fused : (first second : ℕ) (states : StateTrees) → AreFusible first second states → sum_of (fused first second states) ≡ sum_of states
    sum_fused first second states fusible =
        let both : ItemTrees = items_then (items_at states first) (items_at states second) in
        let put : StateTrees = put_in first both (exits_at states second) states in
        let other : second ≢ first = λ same. fusible.apart (sym same) in
        let put_is : sum_of put + one_of states first ≡ sum_of states + (exits_sum (exits_at states second) + items_sum both) = sum_put first both (exits_at states second) states (plain_exit second) [] fusible.step in
        let step : exits_sum (exits_at states first) ≡ 0 = ap exits_sum fusible.step ∙ summed.plain second in
        let exits_stay : exits_sum (exits_at put second) ≡ exits_sum (exits_at states second) = ap exits_sum (exits_beside first second both (exits_at states second) states other) in
        let items_stay : items_sum (items_at put second) ≡ items_sum (items_at states second) = ap items_sum (items_beside first second both (exits_at states second) states other) in
        omega (arith, put_is, step, exits_stay, items_stay, sum_left second put, summed.then (items_at states first) (items_at states second), sum_lowered second (left_out second put))

-- ---- how often a number stands in a graph

things_then : (items others : ItemTrees) → item_things (items_then items others) ≡ item_things items ++ item_things others
things_then no_item others = refl
things_then (and_item line kind items) others =
    ap (λ rest. doing kind ∷ rest) (ap (λ rest. things_in kind ++ rest) (things_then items others) ∙ sym (append_assoc (things_in kind) (item_things items) (item_things others)))

-- where two lists have a number equally often, it is in both or in none
pub has_same : (numbers others : List ℕ) (n : ℕ) → times n others ≡ times n numbers → has_number others n ≡ has_number numbers n
has_same numbers others n same = by (has_number numbers n) refl
  where
    by : (there : Bool) → has_number numbers n ≡ there → has_number others n ≡ has_number numbers n
    by true is = is_there n others (omega (arith, same, some_times n numbers is)) ∙ sym is
    by false is = not_there n others (omega (arith, same, no_times n numbers is)) ∙ sym is

-- numbers that transitions have as they are numbered then, and a plain one has none of
pub record AreLowered (numbers : Thing → List ℕ) : Type 0 where
  pub outside : AreOutside numbers
  pub low : (gone : ℕ) (items : ItemTrees) (exits : List ExitTree) → numbers (leaving items (exits_lowered gone exits)) ≡ numbers (leaving items exits)
  pub no_exits : (items : ItemTrees) → numbers (leaving items []) ≡ []
  pub plain : (items : ItemTrees) (to : ℕ) → numbers (leaving items (plain_exit to ∷ [])) ≡ []

pub held_lowered : AreLowered held_at
held_lowered = record { outside = held_outside; low = λ gone items exits. refl; no_exits = λ items. refl; plain = λ items to. refl }

pub params_lowered : AreLowered params_at
params_lowered = record { outside = params_outside; low = λ gone items exits. refl; no_exits = λ items. refl; plain = λ items to. refl }

pub set_lowered : AreLowered set_at
set_lowered = record { outside = set_outside; low = λ gone items exits. low gone items exits; no_exits = λ items. refl; plain = λ items to. refl }
  where
    low : (gone : ℕ) (items : ItemTrees) (exits : List ExitTree) → set_at (leaving items (exits_lowered gone exits)) ≡ set_at (leaving items exits)
    low gone items [] = refl
    low gone items (exit ∷ exits) = ap (λ rest. map (λ assignment. assignment.0) exit.set ++ rest) (low gone items exits)

module _ (numbers : Thing → List ℕ) (lowered : AreLowered numbers) (n : ℕ) where
  abbrev items_times : ItemTrees → ℕ
  items_times items = times n (flat_map numbers (item_things items))

  abbrev exits_times : List ExitTree → ℕ
  exits_times exits = times n (numbers (leaving no_item exits))

  times_summed : IsSummed items_times exits_times
  times_summed = record {
    none = refl;
    then = λ items others.
        ap (times n) (ap (flat_map numbers) (things_then items others) ∙ flat_both numbers (item_things items) (item_things others))
        ∙ times_joined n (flat_map numbers (item_things items)) (flat_map numbers (item_things others));
    no_exits = ap (times n) (lowered.no_exits no_item);
    plain = λ to. ap (times n) (lowered.plain no_item to);
    low = λ gone exits. ap (times n) (lowered.low gone no_item exits);
  }

  times_are : (states : StateTrees) → times n (flat_map numbers (state_things states)) ≡ sum_of items_times exits_times states
  times_are no_state = refl
  times_are (and_state items exits states) =
      let own : List ℕ = numbers (leaving items exits) in
      let inside : List ℕ = flat_map numbers (item_things items) in
      let rest : List ℕ = flat_map numbers (state_things states) in
      let split : times n (flat_map numbers (state_things (and_state items exits states))) ≡ times n (own ++ (inside ++ rest)) = ap (λ more. times n (own ++ more)) (flat_both numbers (item_things items) (state_things states)) in
      let same : times n own ≡ exits_times exits = ap (times n) (lowered.outside.list no_item items exits) in
      omega (arith, split, same, times_joined n own (inside ++ rest), times_joined n inside rest, times_are states)

  -- each number stands as often in the graph with two states fused
  pub times_fused : (first second : ℕ) (states : StateTrees) → AreFusible first second states →
      times n (flat_map numbers (state_things (fused first second states))) ≡ times n (flat_map numbers (state_things states))
  times_fused first second states fusible =
      times_are (fused first second states) ∙ sum_fused items_times exits_times times_summed first second states fusible ∙ sym (times_are states)

-- ---- containers

-- containers that items have
pub record AreItemNumbers (in_items : ItemTrees → List ℕ) (in_states : StateTrees → List ℕ) : Type 0 where
  pub none : in_items no_item ≡ []
  pub then : (items others : ItemTrees) → in_items (items_then items others) ≡ in_items items ++ in_items others
  pub no_states : in_states no_state ≡ []
  pub states : (items : ItemTrees) (exits : List ExitTree) (states : StateTrees) → in_states (and_state items exits states) ≡ in_items items ++ in_states states

module _ (in_items : ItemTrees → List ℕ) (in_states : StateTrees → List ℕ) (are : AreItemNumbers in_items in_states) (n : ℕ) where
  abbrev in_times : ItemTrees → ℕ
  in_times items = times n (in_items items)

  abbrev no_times_of : List ExitTree → ℕ
  no_times_of exits = 0

  in_summed : IsSummed in_times no_times_of
  in_summed = record {
    none = ap (times n) are.none;
    then = λ items others. ap (times n) (are.then items others) ∙ times_joined n (in_items items) (in_items others);
    no_exits = refl;
    plain = λ to. refl;
    low = λ gone exits. refl;
  }

  in_are : (states : StateTrees) → times n (in_states states) ≡ sum_of in_times no_times_of states
  in_are no_state = ap (times n) are.no_states
  in_are (and_state items exits states) = omega (arith, ap (times n) (are.states items exits states), times_joined n (in_items items) (in_states states), in_are states)

  pub has_fused : (first second : ℕ) (states : StateTrees) → AreFusible first second states → has_number (in_states (fused first second states)) n ≡ has_number (in_states states) n
  has_fused first second states fusible =
      has_same (in_states states) (in_states (fused first second states)) n
      (in_are (fused first second states) ∙ sum_fused in_times no_times_of in_summed first second states fusible ∙ sym (in_are states))

-- those that are written
written_then : (items others : ItemTrees) → written_in (items_then items others) ≡ written_in items ++ written_in others
written_then no_item others = refl
written_then (and_item line kind items) others = ap (λ rest. written_by kind ++ rest) (written_then items others) ∙ sym (append_assoc (written_by kind) (written_in items) (written_in others))

pub written_numbers : AreItemNumbers written_in written_in_states
written_numbers = record { none = refl; then = written_then; no_states = refl; states = λ items exits states. refl }

-- those that scopes make their own
pub held_numbers : AreItemNumbers held_in held_in_states
held_numbers = record { none = refl; then = held_then; no_states = refl; states = λ items exits states. refl }
  where
    held_then : (items others : ItemTrees) → held_in (items_then items others) ≡ held_in items ++ held_in others
    held_then no_item others = refl
    held_then (and_item line kind items) others =
        ap (λ rest. held_in_kind kind ++ rest) (held_then items others) ∙ sym (append_assoc (held_in_kind kind) (held_in items) (held_in others))
