-- Moves of parts in lists of whatever keeps what is left of them.
use Rattle.std.proofs.Common.{◌≡◌, ℕ, zero, suc, ◌<◌, ◌≤◌, ℤ, List, [], ◌∷◌, length, map, slice_index_or, slice_set, Bool, sym, ap, subst, arith}
use Rattle.std.proofs.lemmas.List.{length-map, map-set}
use Rattle.sd_work.specs.Residual.{Items, Points, Term, list, pool}
use Rattle.sd_work.specs.Moves.{Path}
use Rattle.sd_work.specs.BigStep.{Reached}
use Rattle.sd_graph.specs.PlainTree.{KindTree, ItemTrees}
use Rattle.sd_graph.specs.Context.{Context}
use Rattle.sd_graph.specs.declared.place.Place.{Place}
use Rattle.sd_mem.specs.declared.machine.end.End.{End}
use Rattle.sd_mem.specs.declared.machine.end.End.TheVariants.{Finished}
use Rattle.sd_left.specs.tree.Standing.{ItemLeft, BodyLeft, first_line, first_kind, behind, parts_left, point_left, points_left, element_left, active_left}
use Rattle.sd_left.specs.fired.Fired.{IsFired}
use Rattle.sd_left.proofs.fired_lemmas.Parts.{item-fired, point-fired, element-fired}
use Rattle.sd_left.proofs.fired_lemmas.Nowhere.{no-item-fired, no-point-fired, no-element-fired}

-- a member of a list, told
told-at : {A B : Type 0} (tell : A → B) (members : List A) (number : ℕ) (member : A) → number < length members → member ≡ slice_index_or members number member → tell member ≡ slice_index_or (map tell members) number (tell member)
told-at tell [] number member within is = absurd (omega (arith, within))
told-at tell (first ∷ members) zero member within is = ap tell is
told-at tell (first ∷ members) (suc number) member within is = told-at tell members number member (omega (arith, within)) is

pub kept-item-fired : {A : Type 0} (tell : A → ItemLeft) (order : ℕ → ℕ → Bool) (parts : List A) (number : ℕ) (old new : A) (items : ItemTrees) (context : Context) (path : Path) (before after : Reached) (end : End)
    → number < length parts → old ≡ slice_index_or parts number old
    → IsFired (tell old (first_kind (behind number items)) (first_line (behind number items)) context) path before end after (tell new (first_kind (behind number items)) (first_line (behind number items)) context)
    → IsFired (list Items order (parts_left (map tell parts) items context)) (number ∷ path) before end after (list Items order (parts_left (map tell (slice_set parts number new)) items context))
kept-item-fired tell order parts number old new items context path before after end within is fired =
    subst (λ (left : List ItemLeft). IsFired (list Items order (parts_left (map tell parts) items context)) (number ∷ path) before end after (list Items order (parts_left left items context)))
    (sym (map-set tell parts number new))
    (item-fired order (map tell parts) number (tell old) (tell new) items context path before after end (omega (arith, within, length-map parts tell)) (told-at tell parts number old within is) fired)

pub kept-point-fired : {A : Type 0} (tell : A → BodyLeft) (order : ℕ → ℕ → Bool) (points : List A) (number : ℕ) (old new : A) (kind : KindTree) (context : Context) (path : Path) (before after : Reached) (end : End)
    → number < length points → old ≡ slice_index_or points number old
    → IsFired (point_left (tell old) kind context) path before end after (point_left (tell new) kind context)
    → IsFired (list Points order (points_left (map tell points) kind context)) (number ∷ path) before end after (list Points order (points_left (map tell (slice_set points number new)) kind context))
kept-point-fired tell order points number old new kind context path before after end within is fired =
    subst (λ (left : List BodyLeft). IsFired (list Points order (points_left (map tell points) kind context)) (number ∷ path) before end after (list Points order (points_left left kind context)))
    (sym (map-set tell points number new))
    (point-fired order (map tell points) number (tell old) (tell new) kind context path before after end (omega (arith, within, length-map points tell)) (told-at tell points number old within is) fired)

pub kept-element-fired : {A : Type 0} (tell : A → BodyLeft) (level container : ℕ) (body : ℤ → Term Place) (closed : Bool) (active : List A) (number : ℕ) (old new : A) (kind : KindTree) (context : Context) (path : Path) (before after : Reached) (end : End)
    → number < length active → old ≡ slice_index_or active number old → (tell new).at ≡ (tell old).at
    → IsFired (element_left (tell old) kind context) path before end after (element_left (tell new) kind context)
    → IsFired (pool level container body (active_left (map tell active) kind context) closed) (1 ∷ number ∷ path) before end after (pool level container body (active_left (map tell (slice_set active number new)) kind context) closed)
kept-element-fired tell level container body closed active number old new kind context path before after end within is at fired =
    subst (λ (left : List BodyLeft). IsFired (pool level container body (active_left (map tell active) kind context) closed) (1 ∷ number ∷ path) before end after (pool level container body (active_left left kind context) closed))
    (sym (map-set tell active number new))
    (element-fired level container body closed (map tell active) number (tell old) (tell new) kind context path before after end (omega (arith, within, length-map active tell)) (told-at tell active number old within is) at fired)

-- ---- nothing there

pub kept-no-item : {A : Type 0} (tell : A → ItemLeft) (order : ℕ → ℕ → Bool) (parts : List A) (number : ℕ) (items : ItemTrees) (context : Context) (path : Path) (now : Reached) → length parts ≤ number
    → IsFired (list Items order (parts_left (map tell parts) items context)) (number ∷ path) now Finished now (list Items order (parts_left (map tell parts) items context))
kept-no-item tell order parts number items context path now over = no-item-fired order (map tell parts) number items context path now (omega (arith, over, length-map parts tell))

pub kept-no-point : {A : Type 0} (tell : A → BodyLeft) (order : ℕ → ℕ → Bool) (points : List A) (number : ℕ) (kind : KindTree) (context : Context) (path : Path) (now : Reached) → length points ≤ number
    → IsFired (list Points order (points_left (map tell points) kind context)) (number ∷ path) now Finished now (list Points order (points_left (map tell points) kind context))
kept-no-point tell order points number kind context path now over = no-point-fired order (map tell points) number kind context path now (omega (arith, over, length-map points tell))

pub kept-no-element : {A : Type 0} (tell : A → BodyLeft) (level container : ℕ) (body : ℤ → Term Place) (closed : Bool) (active : List A) (number : ℕ) (kind : KindTree) (context : Context) (path : Path) (now : Reached) → length active ≤ number
    → IsFired (pool level container body (active_left (map tell active) kind context) closed) (1 ∷ number ∷ path) now Finished now (pool level container body (active_left (map tell active) kind context) closed)
kept-no-element tell level container body closed active number kind context path now over =
    no-element-fired level container body closed (map tell active) number kind context path now (omega (arith, over, length-map active tell))
