-- A move of a part is one of its list.
use Rattle.std.proofs.Common.{◌≡◌, ℕ, zero, suc, ◌<◌, ℤ, List, [], ◌∷◌, length, slice_set, slice_index_or, Bool, sym, ap, ◌∙◌, arith}
use Rattle.sd_work.specs.Residual.{Items, Points, Term, list, pool, part_at, busy}
use Rattle.sd_work.specs.Moves.{Path}
use Rattle.sd_work.specs.Fire.{fire}
use Rattle.sd_work.specs.BigStep.{Reached}
use Rattle.sd_moves.specs.numbered.Gone.{gone}
use Rattle.sd_moves.specs.numbered.PartsChanged.{with_active}
use Rattle.sd_graph.specs.PlainTree.{KindTree, ItemTrees}
use Rattle.sd_graph.specs.Context.{Context}
use Rattle.sd_graph.specs.declared.place.Place.{Place}
use Rattle.sd_mem.specs.declared.machine.end.End.{End}
use Rattle.sd_leaves.specs.moves.Moved.{outcome_with}
use Rattle.sd_left.specs.tree.Standing.{ItemLeft, BodyLeft, first_line, first_kind, others, behind, parts_left, point_left, points_left, value_at, element_left, active_left}
use Rattle.sd_left.proofs.tree_lemmas.Changes.{part-changed, point-changed, element-at}
use Rattle.sd_left.proofs.tree_lemmas.Moves.{list-gone, pool-gone}
use Rattle.sd_left.specs.fired.Fired.{IsFired}
use Rattle.sd_left.proofs.fired_lemmas.Comes.{outcome-within}

-- ---- lists

part-there : (parts : List ItemLeft) (number : ℕ) (part : ItemLeft) (items : ItemTrees) (context : Context) → number < length parts → part ≡ slice_index_or parts number part
    → part_at (parts_left parts items context) number ≡ part (first_kind (behind number items)) (first_line (behind number items)) context
part-there [] number part items context within is = absurd (omega (arith, within))
part-there (first ∷ parts) zero part items context within is = ap (λ (p : ItemLeft). p (first_kind items) (first_line items) context) (sym is)
part-there (first ∷ parts) (suc number) part items context within is = part-there parts number part (others items) context (omega (arith, within)) is

point-there : (points : List BodyLeft) (number : ℕ) (point : BodyLeft) (kind : KindTree) (context : Context) → number < length points → point ≡ slice_index_or points number point
    → part_at (points_left points kind context) number ≡ point_left point kind context
point-there [] number point kind context within is = absurd (omega (arith, within))
point-there (first ∷ points) zero point kind context within is = ap (λ (p : BodyLeft). point_left p kind context) (sym is)
point-there (first ∷ points) (suc number) point kind context within is = point-there points number point kind context (omega (arith, within)) is

pub item-fired : (order : ℕ → ℕ → Bool) (parts : List ItemLeft) (number : ℕ) (old new : ItemLeft) (items : ItemTrees) (context : Context) (path : Path) (before after : Reached) (end : End)
    → number < length parts → old ≡ slice_index_or parts number old
    → IsFired (old (first_kind (behind number items)) (first_line (behind number items)) context) path before end after (new (first_kind (behind number items)) (first_line (behind number items)) context)
    → IsFired (list Items order (parts_left parts items context)) (number ∷ path) before end after (list Items order (parts_left (slice_set parts number new) items context))
item-fired order parts number old new items context path before after end within is fired = record {
  comes = list-gone Items order (parts_left parts items context) number path before.memories before.turns
      (λ (left : ItemLeft). left (first_kind (behind number items)) (first_line (behind number items)) context) (λ (left : ItemLeft). parts_left (slice_set parts number left) items context)
      (λ left. part-changed parts number items context left within) (outcome_with end after new)
      (ap (λ (work : Term Place). gone (fire work path before.memories) work before.memories before.turns) (part-there parts number old items context within is)
      ∙ fired.comes ∙ sym (outcome-within (λ (left : ItemLeft). left (first_kind (behind number items)) (first_line (behind number items)) context) end after new))
      ∙ outcome-within (λ (left : ItemLeft). list Items order (parts_left (slice_set parts number left) items context)) end after new;
  depth = fired.depth;
}

pub point-fired : (order : ℕ → ℕ → Bool) (points : List BodyLeft) (number : ℕ) (old new : BodyLeft) (kind : KindTree) (context : Context) (path : Path) (before after : Reached) (end : End)
    → number < length points → old ≡ slice_index_or points number old
    → IsFired (point_left old kind context) path before end after (point_left new kind context)
    → IsFired (list Points order (points_left points kind context)) (number ∷ path) before end after (list Points order (points_left (slice_set points number new) kind context))
point-fired order points number old new kind context path before after end within is fired = record {
  comes = list-gone Points order (points_left points kind context) number path before.memories before.turns
      (λ (point : BodyLeft). point_left point kind context) (λ (point : BodyLeft). points_left (slice_set points number point) kind context)
      (λ point. point-changed points number kind context point within) (outcome_with end after new)
      (ap (λ (work : Term Place). gone (fire work path before.memories) work before.memories before.turns) (point-there points number old kind context within is)
      ∙ fired.comes ∙ sym (outcome-within (λ (point : BodyLeft). point_left point kind context) end after new))
      ∙ outcome-within (λ (point : BodyLeft). list Points order (points_left (slice_set points number point) kind context)) end after new;
  depth = fired.depth;
}

-- ---- elements in work

same-value : (active : List BodyLeft) (number : ℕ) (old new : BodyLeft) (kind : KindTree) (context : Context) → number < length active → old ≡ slice_index_or active number old → new.at ≡ old.at
    → with_active (active_left active kind context) number (element_left new kind context) ≡ active_left (slice_set active number new) kind context
same-value [] number old new kind context within is at = absurd (omega (arith, within))
same-value (first ∷ active) zero old new kind context within is at =
    ap (λ (numbers : List ℤ). busy (value_at numbers) (element_left new kind context) (active_left active kind context)) (ap (λ (element : BodyLeft). element.at) (sym is) ∙ sym at)
same-value (first ∷ active) (suc number) old new kind context within is at =
    ap (busy (value_at first.at) (element_left first kind context)) (same-value active number old new kind context (omega (arith, within)) is at)

-- the element that is changed has the same value
abbrev Same : BodyLeft → Type 0
Same old = (new : BodyLeft) × (new.at ≡ old.at)

pub element-fired : (level container : ℕ) (body : ℤ → Term Place) (closed : Bool) (active : List BodyLeft) (number : ℕ) (old new : BodyLeft) (kind : KindTree) (context : Context) (path : Path) (before after : Reached) (end : End)
    → number < length active → old ≡ slice_index_or active number old → new.at ≡ old.at
    → IsFired (element_left old kind context) path before end after (element_left new kind context)
    → IsFired (pool level container body (active_left active kind context) closed) (1 ∷ number ∷ path) before end after (pool level container body (active_left (slice_set active number new) kind context) closed)
element-fired level container body closed active number old new kind context path before after end within is at fired = record {
  comes = pool-gone level container body closed (active_left active kind context) number path before.memories before.turns
      (λ (element : Same old). element_left element.0 kind context) (λ (element : Same old). active_left (slice_set active number element.0) kind context)
      (λ element. same-value active number old element.0 kind context within is element.1) (outcome_with end after (new, at))
      (ap (λ (work : Term Place). gone (fire work path before.memories) work before.memories before.turns) (element-at active number old kind context within is)
      ∙ fired.comes ∙ sym (outcome-within (λ (element : Same old). element_left element.0 kind context) end after (new, at)))
      ∙ outcome-within (λ (element : Same old). pool level container body (active_left (slice_set active number element.0) kind context) closed) end after (new, at);
  depth = fired.depth;
}
