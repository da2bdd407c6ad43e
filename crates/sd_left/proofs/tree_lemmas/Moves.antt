-- A move of a part is one of its list.
use Rattle.std.proofs.Common.{◌≡◌, ℕ, zero, suc, ◌<◌, ℤ, List, ◌∷◌, length, slice_set, slice_index_or, Bool, refl, sym, ap, ◌∙◌}
use Rattle.sd_work.specs.Memory.{Memory, Memories}
use Rattle.sd_work.specs.Move.{Move, map_move}
use Rattle.sd_work.specs.Residual.{Parts, Items, Points, Term, list, pool, Terms, none, also, part_at, Actives, idle, busy}
use Rattle.sd_work.specs.Moves.{Path}
use Rattle.sd_work.specs.Fire.{fire, fire_part, fire_active}
use Rattle.sd_work.specs.Step.{Outcome, Done, Faulted, Spent}
use Rattle.sd_moves.specs.numbered.Gone.{Gone, gone, map_outcome, within}
use Rattle.sd_moves.specs.numbered.PartsChanged.{with_part, active_at, with_active}
use Rattle.sd_moves.proofs.numbered_lemmas.PartMoves.{fire-part, fire-active}
use Rattle.sd_moves.proofs.numbered_lemmas.Comes.{gone-mapped}
use Rattle.sd_graph.specs.PlainTree.{KindTree, ItemTrees}
use Rattle.sd_graph.specs.Context.{Context}
use Rattle.sd_graph.specs.declared.place.Place.{Place}
use Rattle.sd_left.specs.tree.Standing.{ItemLeft, BodyLeft, with_inside, first_line, first_kind, behind, parts_left, point_left, points_left, element_left, active_left}
use Rattle.sd_left.proofs.tree_lemmas.Changes.{part-changed, point-changed, element-at, element-changed}

abbrev done : {P A : Type 0} → Memories → (turns : ℕ) → A → Outcome P (Gone A)
done memories turns left = Done (record { memories = memories; left = left; turns = turns })

-- one whole after another
composed : {P A B C : Type 0} (outer : B → C) (inner : A → B) (whole : A → C) → ((left : A) → outer (inner left) ≡ whole left) → (given : Outcome P (Gone A))
    → map_outcome (within outer) (map_outcome (within inner) given) ≡ map_outcome (within whole) given
composed outer inner whole same (Done now) = ap (done now.memories now.turns) (same now.left)
composed outer inner whole same (Faulted fault) = refl
composed outer inner whole same Spent = refl

-- ---- lists

same-part : {P : Type 0} (parts : Terms P) (number : ℕ) → with_part parts number (part_at parts number) ≡ parts
same-part none number = refl
same-part (also part parts) zero = refl
same-part (also part parts) (suc number) = ap (also part) (same-part parts number)

module _ {P A : Type 0} (kind : Parts) (order : ℕ → ℕ → Bool) (parts : Terms P) (number : ℕ) (path : Path) (memories : Memories) (turns : ℕ) (work : A → Term P) (whole : A → Terms P)
    (same : (left : A) → with_part parts number (work left) ≡ whole left) (given : Outcome P (Gone A)) where
  abbrev part_move : Move P (Term P)
  part_move = fire (part_at parts number) path memories

  parts-gone : gone part_move (part_at parts number) memories turns ≡ map_outcome (within work) given → gone (fire_part parts number path memories) parts memories turns ≡ map_outcome (within whole) given
  parts-gone comes =
      ap (λ (move : Move P (Terms P)). gone move parts memories turns) (fire-part parts number path memories)
      ∙ ap (λ (old : Terms P). gone (map_move (with_part parts number) part_move) old memories turns) (sym (same-part parts number))
      ∙ gone-mapped (with_part parts number) part_move (part_at parts number) memories turns
      ∙ ap (λ (outcome : Outcome P (Gone (Term P))). map_outcome (within (with_part parts number)) outcome) comes
      ∙ composed (with_part parts number) work whole same given

  pub list-gone : gone part_move (part_at parts number) memories turns ≡ map_outcome (within work) given
      → gone (fire (list kind order parts) (number ∷ path) memories) (list kind order parts) memories turns ≡ map_outcome (within (λ left. list kind order (whole left))) given
  list-gone comes =
      gone-mapped (list kind order) (fire_part parts number path memories) parts memories turns
      ∙ ap (λ (outcome : Outcome P (Gone (Terms P))). map_outcome (within (list kind order)) outcome) (parts-gone comes)
      ∙ composed (list kind order) whole (λ left. list kind order (whole left)) (λ left. refl) given

pub item-moves : (order : ℕ → ℕ → Bool) (parts : List ItemLeft) (number : ℕ) (items : ItemTrees) (context : Context) (path : Path) (memories : Memories) (turns : ℕ) (given : Outcome Place (Gone ItemLeft))
    → number < length parts
    → gone (fire (part_at (parts_left parts items context) number) path memories) (part_at (parts_left parts items context) number) memories turns
    ≡ map_outcome (within (λ left. left (first_kind (behind number items)) (first_line (behind number items)) context)) given
    → gone (fire (list Items order (parts_left parts items context)) (number ∷ path) memories) (list Items order (parts_left parts items context)) memories turns
    ≡ map_outcome (within (λ left. list Items order (parts_left (slice_set parts number left) items context))) given
item-moves order parts number items context path memories turns given within comes =
    list-gone Items order (parts_left parts items context) number path memories turns
    (λ left. left (first_kind (behind number items)) (first_line (behind number items)) context) (λ left. parts_left (slice_set parts number left) items context)
    (λ left. part-changed parts number items context left within) given comes

pub point-moves : (order : ℕ → ℕ → Bool) (points : List BodyLeft) (number : ℕ) (kind : KindTree) (context : Context) (path : Path) (memories : Memories) (turns : ℕ) (given : Outcome Place (Gone BodyLeft))
    → number < length points
    → gone (fire (part_at (points_left points kind context) number) path memories) (part_at (points_left points kind context) number) memories turns
    ≡ map_outcome (within (λ point. point_left point kind context)) given
    → gone (fire (list Points order (points_left points kind context)) (number ∷ path) memories) (list Points order (points_left points kind context)) memories turns
    ≡ map_outcome (within (λ point. list Points order (points_left (slice_set points number point) kind context))) given
point-moves order points number kind context path memories turns given within comes =
    list-gone Points order (points_left points kind context) number path memories turns
    (λ point. point_left point kind context) (λ point. points_left (slice_set points number point) kind context)
    (λ point. point-changed points number kind context point within) given comes

-- ---- elements in work

same-active : {P : Type 0} (active : Actives P) (number : ℕ) → with_active active number (active_at active number) ≡ active
same-active idle number = refl
same-active (busy value part active) zero = refl
same-active (busy value part active) (suc number) = ap (busy value part) (same-active active number)

module _ {A : Type 0} (level container : ℕ) (body : ℤ → Term Place) (closed : Bool) (active : Actives Place) (number : ℕ) (path : Path) (memories : Memories) (turns : ℕ) (work : A → Term Place) (whole : A → Actives Place)
    (same : (left : A) → with_active active number (work left) ≡ whole left) (given : Outcome Place (Gone A)) where
  abbrev active_move : Move Place (Term Place)
  active_move = fire (active_at active number) path memories

  active-gone : gone active_move (active_at active number) memories turns ≡ map_outcome (within work) given → gone (fire_active active number path memories) active memories turns ≡ map_outcome (within whole) given
  active-gone comes =
      ap (λ (move : Move Place (Actives Place)). gone move active memories turns) (fire-active active number path memories)
      ∙ ap (λ (old : Actives Place). gone (map_move (with_active active number) active_move) old memories turns) (sym (same-active active number))
      ∙ gone-mapped (with_active active number) active_move (active_at active number) memories turns
      ∙ ap (λ (outcome : Outcome Place (Gone (Term Place))). map_outcome (within (with_active active number)) outcome) comes
      ∙ composed (with_active active number) work whole same given

  pub pool-gone : gone active_move (active_at active number) memories turns ≡ map_outcome (within work) given
      → gone (fire (pool level container body active closed) (1 ∷ number ∷ path) memories) (pool level container body active closed) memories turns ≡ map_outcome (within (λ left. pool level container body (whole left) closed)) given
  pool-gone comes =
      gone-mapped (λ (left : Actives Place). pool level container body left closed) (fire_active active number path memories) active memories turns
      ∙ ap (λ (outcome : Outcome Place (Gone (Actives Place))). map_outcome (within (λ (left : Actives Place). pool level container body left closed)) outcome) (active-gone comes)
      ∙ composed (λ (left : Actives Place). pool level container body left closed) whole (λ left. pool level container body (whole left) closed) (λ left. refl) given

pub element-moves : (level container : ℕ) (body : ℤ → Term Place) (closed : Bool) (active : List BodyLeft) (number : ℕ) (element : BodyLeft) (kind : KindTree) (context : Context) (path : Path) (memories : Memories) (turns : ℕ) (given : Outcome Place (Gone (Memory × List ItemLeft)))
    → number < length active → element ≡ slice_index_or active number element
    → gone (fire (element_left element kind context) path memories) (element_left element kind context) memories turns
    ≡ map_outcome (within (λ inside. element_left (with_inside element inside) kind context)) given
    → gone (fire (pool level container body (active_left active kind context) closed) (1 ∷ number ∷ path) memories) (pool level container body (active_left active kind context) closed) memories turns
    ≡ map_outcome (within (λ inside. pool level container body (active_left (slice_set active number (with_inside element inside)) kind context) closed)) given
element-moves level container body closed active number element kind context path memories turns given within is comes =
    pool-gone level container body closed (active_left active kind context) number path memories turns
    (λ inside. element_left (with_inside element inside) kind context) (λ inside. active_left (slice_set active number (with_inside element inside)) kind context)
    (λ inside. element-changed active number element kind context inside within is) given
    (ap (λ (old : Term Place). gone (fire old path memories) old memories turns) (element-at active number element kind context within is) ∙ comes)
