-- Steps through the points of a map.
use Rattle.std.proofs.Common.{◌≡◌, ℕ, ℤ, List, [], ◌∷◌, Some, refl, arith, sym, subst, ap, ◌∙◌, drop, slice_get}
use Rattle.sd_range.specs.declared.range.Range.{Range}
use Rattle.sd_range.specs.Points.{Walk, moved, opening, ranges_of}
use Rattle.sd_work.specs.Memory.{Memory}
use Rattle.sd_work.specs.BigStep.{Reached, Coming, big_step}
use Rattle.sd_graph.specs.declared.place.Place.{Place}
use Rattle.sd_graph.specs.PlainTree.{ItemTrees}
use Rattle.sd_graph.specs.ContainerParts.{Containers}
use Rattle.sd_graph.specs.Context.{Context, private_memory}
use Rattle.sd_graph.specs.Unfold.{at_point, point_terms}
use Rattle.sd_mem.specs.machine.ComesTo.{IsEnd}
use Rattle.sd_mem.specs.machine.Coming.{items_coming, point_term, points_coming, map_coming}
use Rattle.sd_mem.specs.declared.machine.end.End.{End}
use Rattle.sd_mem.specs.declared.machine.end.End.TheVariants.{Finished}
use Rattle.sd_row.proofs.row_lemmas.Comes.{IsLeft, left_more, left_stop, owned_ends}

-- ---- the points of the code

first_is : (points : List (List ℤ)) (point : List ℤ) → slice_get points 0 ≡ Some point → points ≡ point ∷ drop 1 points
first_is [] point is = cc
first_is (first ∷ points) point is = ap (λ (p : List ℤ). p ∷ points) (same first point is)
  where
    same : (a b : List ℤ) → Some a ≡ Some b → a ≡ b
    same a b is = cc

-- the point that is come to was the first that was left
pub point_first : (old new : Walk) (point : List ℤ) → new ≡ moved old → new.current ≡ Some point → old.left ≡ point ∷ new.left
point_first old new point step here =
    first_is old.left point (ap (λ (w : Walk). w.current) (sym step) ∙ here) ∙ ap (λ (left : List (List ℤ)). point ∷ left) (ap (λ (w : Walk). w.left) (sym step))

-- before the first point all is left
pub points_begin : (body : ItemTrees) (params : List (ℕ × Range)) (private : List ℕ) (context : Context) (before : Reached) (walk : Walk) → walk ≡ opening (ranges_of params) context.values →
    IsLeft (map_coming body params private context before) before (λ most beside. points_coming body params private context walk.left before most) before
points_begin body params private context before walk is =
    subst (λ (w : Walk). IsLeft (map_coming body params private context before) before (λ most beside. points_coming body params private context w.left before most) before) (sym is)
    (record { comes = λ most outcome after. after 0; depth = refl; turns = omega arith })

-- ---- one point

module _ (body : ItemTrees) (params : List (ℕ × Range)) (private : List ℕ) (context : Context) (point : List ℤ) where
  -- a point comes to what its body comes to inside its memory
  pub point_ends : (all : Containers) (inside : Context) (own : Memory) (middle entered after now : Reached) (end : End) →
      all ≡ context.containers → own ≡ private_memory all private → inside ≡ at_point context params private point →
      entered.memories ≡ own ∷ middle.memories → entered.turns ≡ middle.turns →
      IsEnd (items_coming body inside entered) entered end after →
      now.memories ≡ drop 1 after.memories → now.turns ≡ after.turns →
      IsEnd (λ most. big_step (point_term body params private context point) most middle.memories middle.turns) middle end now
  point_ends all inside own middle entered after now end same_containers same_own same_context same_memories same_turns ends dropped kept =
      owned_ends (items_coming body (at_point context params private point)) (private_memory context.containers private) middle entered after now end
      (same_memories ∙ ap (λ (own : Memory). own ∷ middle.memories) (same_own ∙ ap (λ (a : Containers). private_memory a private) same_containers)) same_turns
      (subst (λ (c : Context). IsEnd (items_coming body c entered) entered end after) same_context ends)
      dropped kept

  module _ (whole : ℕ → Coming Place) (points rest : List (List ℤ)) (before middle now : Reached) (is : points ≡ point ∷ rest)
      (left : IsLeft whole before (λ most beside. points_coming body params private context points middle most) middle) where
    opened : IsLeft whole before (λ most beside. points_coming body params private context (point ∷ rest) middle most) middle
    opened = subst (λ (p : List (List ℤ)). IsLeft whole before (λ most beside. points_coming body params private context p middle most) middle) is left

    abbrev pub IsPointEnd : End → Type 0
    IsPointEnd end = IsEnd (λ most. big_step (point_term body params private context point) most middle.memories middle.turns) middle end now

    -- the point is done
    pub point_more : IsPointEnd Finished → IsLeft whole before (λ most beside. points_coming body params private context rest now most) now
    point_more ends = left_more whole before middle now (point_term body params private context point)
        (point_terms (point_term body params private context) rest) opened ends

    -- the point stops the map
    pub point_stop : (end : End) → IsPointEnd end → ((end ≡ Finished) → ⊥) → IsEnd whole before end now
    point_stop end ends stop = left_stop whole before middle now (point_term body params private context point)
        (point_terms (point_term body params private context) rest) end opened ends stop
