-- Takes of values that wait.
use Rattle.std.proofs.Common.{◌≡◌, ℕ, zero, suc, ℤ, List, [], ◌∷◌, ◌++◌, slice_get, slice_index_or, Option, Some, None, Bool, false, refl, sym, ap, ap₂, ◌∙◌, subst}
use Rattle.sd_work.specs.Memory.{Contents, array, stream, values_of, contents_of, waiting}
use Rattle.sd_work.specs.Change.{apply, take, without, changed_at, with_values}
use Rattle.sd_work.specs.Move.{Move}
use Rattle.sd_work.specs.Residual.{Term, pool, Actives, idle, busy}
use Rattle.sd_work.specs.Moves.{Path}
use Rattle.sd_work.specs.Fire.{and_last, take_move}
use Rattle.sd_work.specs.BigStep.{Reached}
use Rattle.sd_graph.specs.PlainTree.{KindTree}
use Rattle.sd_graph.specs.Context.{Context}
use Rattle.sd_graph.specs.declared.place.Place.{Place}
use Rattle.sd_mem.specs.declared.machine.end.End.TheVariants.{Finished}
use Rattle.sd_leaves.specs.moves.Moved.{IsMoved}
use Rattle.sd_leaves.proofs.moves_lemmas.Comings.{goes-moved, none-moved}
use Rattle.sd_left.specs.tree.Standing.{BodyLeft, value_at, element_term, element_left, active_left}
use Rattle.sd_left.specs.fired.Fired.{IsFired, IsElementBegun}

last-begun : (active : List BodyLeft) (element : BodyLeft) (kind : KindTree) (context : Context) (value : ℤ) → IsElementBegun kind context value element
    → and_last (active_left active kind context) value (element_term kind context value) ≡ active_left (active ++ element ∷ []) kind context
last-begun [] element kind context value begun = ap₂ (λ (value : ℤ) (work : Term Place). busy value work idle) (sym begun.at) (sym begun.begun)
last-begun (first ∷ active) element kind context value begun =
    ap (busy (value_at first.at) (element_left first kind context)) (last-begun active element kind context value begun)

module _ (level container : ℕ) (closed : Bool) (active : List BodyLeft) (kind : KindTree) (context : Context) (position : ℕ) (path : Path) (before after : Reached) where
  abbrev with_active : Actives Place → Term Place
  with_active active = pool level container (element_term kind context) active closed

  abbrev old_pool : Term Place
  old_pool = with_active (active_left active kind context)

  abbrev move_by : Option ℤ → Move Place (Term Place)
  move_by value = take_move level container (element_term kind context) (active_left active kind context) closed position value

  pub value-taken : (element : BodyLeft) (value : ℤ)
      → slice_get (waiting level container before.memories) position ≡ Some value → IsElementBegun kind context value element
      → after.memories ≡ apply (take level container position) before.memories → after.turns ≡ before.turns
      → IsFired old_pool (0 ∷ position ∷ path) before Finished after (with_active (active_left (active ++ element ∷ []) kind context))
  value-taken element value there begun memories turns =
      subst (λ (left : Actives Place). IsFired old_pool (0 ∷ position ∷ path) before Finished after (with_active left)) (last-begun active element kind context value begun)
      (subst (λ (value' : Option ℤ). IsMoved (move_by value') old_pool before Finished after (with_active (and_last (active_left active kind context) value (element_term kind context value)))) (sym there)
      (goes-moved false (take level container position) old_pool (with_active (and_last (active_left active kind context) value (element_term kind context value))) before after memories (sym turns)))

  -- ---- no value

  nothing-out : (values : List ℤ) (position : ℕ) → slice_get values position ≡ None → without position values ≡ values
  nothing-out [] position none = refl
  nothing-out (value ∷ values) zero none = cc
  nothing-out (value ∷ values) (suc position) none = ap (λ (rest : List ℤ). value ∷ rest) (nothing-out values position none)

  nothing-lost : (contents : Contents) → slice_get (values_of contents) position ≡ None → with_values (λ width. without position) contents ≡ contents
  nothing-lost (array width elements) none = refl
  nothing-lost (stream width values) none = ap (stream width) (nothing-out values position none)

  kept-at : {A : Type 0} (number : ℕ) (change : A → A) (other : A) (members : List A) → change (slice_index_or members number other) ≡ slice_index_or members number other → changed_at number change members ≡ members
  kept-at number change other [] same = refl
  kept-at zero change other (member ∷ members) same = ap (λ first. first ∷ members) same
  kept-at (suc number) change other (member ∷ members) same = ap (λ rest. member ∷ rest) (kept-at number change other members same)

  all-kept : slice_get (waiting level container before.memories) position ≡ None → apply (take level container position) before.memories ≡ before.memories
  all-kept none =
      kept-at level (changed_at container (with_values (λ width. without position))) [] before.memories
      (kept-at container (with_values (λ width. without position)) _ (slice_index_or before.memories level [])
      (nothing-lost (contents_of level container before.memories) none))

  pub nothing-taken : slice_get (waiting level container before.memories) position ≡ None
      → after.memories ≡ apply (take level container position) before.memories → after.turns ≡ before.turns
      → IsFired old_pool (0 ∷ position ∷ path) before Finished after old_pool
  nothing-taken none memories turns =
      let same : before ≡ after = λ i. record { memories = sym (memories ∙ all-kept none) i; turns = sym turns i } in
      subst (λ (now : Reached). IsMoved (move_by (slice_get (waiting level container before.memories) position)) old_pool before Finished now old_pool) same
      (subst (λ (value : Option ℤ). IsMoved (move_by value) old_pool before Finished before old_pool) (sym none) (none-moved old_pool before))
