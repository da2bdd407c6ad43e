-- What an instance, a copy or a reduction touches is covered by the accesses of its links.
use Rattle.std.specs.List.{AllByRecursion, AllZip, Contains}
use Rattle.std.proofs.Common.{◌≤◌, ◌-◌, length, arith, slice_get, ap, ◌∙◌, ◌≡◌, ◌⊎◌, inl, inr, zero, suc, ℕ, ℤ, List, [], ◌∷◌, ◌++◌, map, Bool, true, false, IsTrue, Option, Some, None, Ok, Err, nat_lt, ltb-false, if◌then◌else◌, slice_index_or, refl, sym, subst}
use Rattle.std.proofs.lemmas.List.Elements.{Contains-append_left, Contains-append_right}
use Rattle.std.proofs.lemmas.List.{length-map, map-append}
use Rattle.sd_num.specs.declared.resolution.Resolution.{Resolution}
use Rattle.sd_num.specs.declared.resolution.Resolution.TheVariants.{Sum, Product, Min, Max, And, Or, Xor, Last}
use Rattle.sd_range.specs.Points.{product, tuples}
use Rattle.sd_range.specs.Subset.{dim_values, inside, whole}
use Rattle.sd_range.proofs.Members.{Contains-first, Contains-later}
use Rattle.sd_range.proofs.SubsetLaws.{IsWithin, inside-each, whole-members}
use Rattle.sd_work.specs.Change.{without}
use Rattle.sd_work.specs.Memory.{Reference}
use Rattle.sd_work.specs.Leaf.{Pending, write_value, transfer, push_to, identities}
use Rattle.sd_work.specs.Touch.{Touch, IsRead, IsWrite, SomeRead, PendingTouches, SomePendingTouches}
use Rattle.sd_subset.specs.boxes.Box.{box_of, IsInBox}
use Rattle.sd_graph.specs.declared.link.Link.{Link}
use Rattle.sd_graph.specs.PlainTree.{TaskletTree}
use Rattle.sd_graph.specs.ContainerParts.{container_at, is_stream}
use Rattle.sd_graph.specs.TaskletMeaning.{Effect, Inputs, Meaning, and_then, extents_of_connector}
use Rattle.sd_graph.specs.Context.{Reach, Context, reference_at, span_counts, index_at, link_elements, link_extents}
use Rattle.sd_graph.specs.Mode.{Mode, Read, Write, Push, mode_by}
use Rattle.sd_graph.specs.Wiring.{reduction_mode}
use Rattle.sd_num.specs.Wrapped.{wrapped}
use Rattle.sd_range.specs.Affine.{affine_value, variable_value}
use Rattle.sd_range.specs.declared.subset.Dim.{Dim}
use Rattle.sd_range.specs.declared.subset.Dim.TheVariants.{Index, Span}
use Rattle.sd_graph.specs.Unfold.{cut, meaning_at, pending_by, pending_of, target_place, reduction_pairs}
use Rattle.std.specs.List.{zip, flat_map}
use Rattle.sd_prop.specs.propagation.Accesses.{Access, access_of, output_access}
use Rattle.sd_race.specs.cover.Fit.{IsNormalDim, IsNormalLink, shape_counts, HasTargetCounts}
use Rattle.sd_graph.proofs.EffectsInside.{IsInside, each_effect_inside}
use Rattle.sd_race.specs.cover.Touched.{AllowsRead, AllowsWrite, IsAt, IsTouchOf, IsCovered}
use Rattle.sd_race.proofs.cover_lemmas.Indices.{index_at-in_box, begins-in_box, elements-in_box}

-- covered by more accesses
pub covered-left : (values : List ℤ) (reach : ℕ → Reach) (accesses others : List Access) (touch : Touch) → IsCovered values reach accesses touch → IsCovered values reach (accesses ++ others) touch
covered-left values reach accesses others touch (access, member, is) = (access, Contains-append_left accesses others access member, is)

pub covered-right : (values : List ℤ) (reach : ℕ → Reach) (accesses others : List Access) (touch : Touch) → IsCovered values reach others touch → IsCovered values reach (accesses ++ others) touch
covered-right values reach accesses others touch (access, member, is) = (access, Contains-append_right accesses others access member, is)

-- a read is a touch of an access that allows it
read-touch : (values : List ℤ) (reach : ℕ → Reach) (access : Access) (element : Option Reference) (touch : Touch) → AllowsRead access.mode →
    ((from : Reference) → element ≡ Some from → IsAt values reach access from) → IsRead element touch → IsTouchOf values reach access touch
read-touch values reach access None touch allows at is = absurd is
read-touch values reach access (Some from) touch allows at is = subst (IsTouchOf values reach access) (sym is) (allows, at from refl)

write-touch : (values : List ℤ) (reach : ℕ → Reach) (access : Access) (element : Option Reference) (by : Option Resolution) (touch : Touch) → AllowsWrite access.mode by →
    ((to : Reference) → element ≡ Some to → IsAt values reach access to) → IsWrite element by touch → IsTouchOf values reach access touch
write-touch values reach access None by touch allows at is = absurd is
write-touch values reach access (Some to) by touch allows at is = subst (IsTouchOf values reach access) (sym is) (allows, at to refl)

-- a read of one of two lists of elements
some_read-append : (elements others : List (Option Reference)) (touch : Touch) → SomeRead (elements ++ others) touch → SomeRead elements touch ⊎ SomeRead others touch
some_read-append [] others touch is = inr is
some_read-append (element ∷ elements) others touch (inl is) = inl (inl is)
some_read-append (element ∷ elements) others touch (inr is) = elim (some_read-append elements others touch is) [ inl here ↦ inl (inr here) | inr there ↦ inr there ]

-- a read of elements is a read of one
some_read-map : {A : Type 0} (element : A → Option Reference) (all : List A) (touch : Touch) → SomeRead (map element all) touch → (a : A) × Contains all a × IsRead (element a) touch
some_read-map element [] touch is = absurd is
some_read-map element (a ∷ all) touch (inl is) = (a, Contains-first a all, is)
some_read-map element (a ∷ all) touch (inr is) =
    let (other, member, at) = some_read-map element all touch is in (other, Contains-later a all other member, at)

-- what is read by a link is covered by its access
pub link-read : (context : Context) (node : ℕ) (link : Link) (mode : Mode) (touch : Touch) → IsNormalLink link → AllowsRead mode → SomeRead (link_elements context link) touch →
    IsTouchOf context.values context.reach (access_of node mode link) touch
link-read context node link mode touch normal allows is =
    let (index, member, at) = some_read-map (reference_at (context.reach link.memlet.container)) (tuples (map (dim_values context.values) link.memlet.subset.dims)) touch is in
    read-touch context.values context.reach (access_of node mode link) (reference_at (context.reach link.memlet.container) index) touch allows
    (λ from found. record { index = index; is = found; inside = elements-in_box link.memlet.subset.dims context.values index normal member }) at

-- and so for links
pub reads-covered : (context : Context) (node : ℕ) (links : List Link) (touch : Touch) → AllByRecursion IsNormalLink links → SomeRead (flat_map (link_elements context) links) touch →
    IsCovered context.values context.reach (map (access_of node Read) links) touch
reads-covered context node [] touch normal is = absurd is
reads-covered context node (link ∷ links) touch normal is = elim (some_read-append (link_elements context link) (flat_map (link_elements context) links) touch is) [
  | inl here ↦ (access_of node Read link, Contains-first (access_of node Read link) (map (access_of node Read) links), link-read context node link Read touch normal.0 tt here)
  | inr there ↦ covered-right context.values context.reach (access_of node Read link ∷ []) (map (access_of node Read) links) touch (reads-covered context node links touch normal.1 there)
]

-- a write's mode allows it
allows-by : (by : Option Resolution) → AllowsWrite (mode_by by) by
allows-by None = tt
allows-by (Some Sum) = (refl, λ is. cc)
allows-by (Some Product) = (refl, λ is. cc)
allows-by (Some Min) = (refl, λ is. cc)
allows-by (Some Max) = (refl, λ is. cc)
allows-by (Some And) = (refl, λ is. cc)
allows-by (Some Or) = (refl, λ is. cc)
allows-by (Some Xor) = (refl, λ is. cc)
allows-by (Some Last) = tt

allows-target : (resolution : Resolution) (identity : Option ℤ) → AllowsWrite (reduction_mode resolution identity) (Some resolution)
allows-target resolution None = allows-by (Some resolution)
allows-target resolution (Some identity) = tt

-- an effect on a stream or on an array
by_kind : (stream : Bool) (context : Context) (node : ℕ) (link : Link) (value : ℤ) (index : List ℤ) (touch : Touch) → IsInBox context.values (box_of link.memlet.subset.dims) index →
    PendingTouches (if stream then push_to (context.reach link.memlet.container).level (context.reach link.memlet.container).container value else write_value value (reference_at (context.reach link.memlet.container) index) link.memlet.resolution) touch →
    IsTouchOf context.values context.reach (access_of node (if stream then Push else mode_by link.memlet.resolution) link) touch
by_kind true context node link value index touch inside is =
    subst (IsTouchOf context.values context.reach (access_of node Push link)) (sym is) (refl, record { level_is = refl; container_is = refl })
by_kind false context node link value index touch inside is =
    write-touch context.values context.reach (access_of node (mode_by link.memlet.resolution) link) (reference_at (context.reach link.memlet.container) index) link.memlet.resolution touch (allows-by link.memlet.resolution)
    (λ to found. record { index = index; is = found; inside = inside }) is

-- an effect inside its output is covered by the output's access
effect-covered : (context : Context) (node : ℕ) (outs : List Link) (number : ℕ) (effect : Effect) (touch : Touch) → AllByRecursion IsNormalLink outs →
    IsTrue (inside (slice_index_or (map (link_extents context) outs) number []) effect.at) → PendingTouches (pending_by context (slice_get outs number) effect) touch →
    IsCovered context.values context.reach (map (output_access context.containers node) outs) touch
effect-covered context node [] number effect touch normal within is = absurd is
effect-covered context node (link ∷ outs) zero effect touch normal within is =
    let access = output_access context.containers node link in (
      access,
      Contains-first access (map (output_access context.containers node) outs),
      by_kind (is_stream (container_at context.containers link.memlet.container).kind) context node link effect.value (index_at link.memlet.subset.dims context.values effect.at) touch
          (index_at-in_box link.memlet.subset.dims context.values effect.at normal.0 (inside-each (link_extents context link) effect.at within)) is,
    )
effect-covered context node (link ∷ outs) (suc number) effect touch normal within is =
    covered-right context.values context.reach (output_access context.containers node link ∷ []) (map (output_access context.containers node) outs) touch (effect-covered context node outs number effect touch normal.1 within is)

-- what stands behind the first list
behind : (firsts others : List (List ℕ)) (number : ℕ) → length firsts ≤ number → slice_index_or (firsts ++ others) number [] ≡ slice_index_or others (number - length firsts) []
behind [] others number past = ap (λ n. slice_index_or others n []) (omega arith)
behind (first ∷ firsts) others zero past = absurd (omega arith)
behind (first ∷ firsts) others (suc number) past =
    behind firsts others number (omega arith) ∙ ap (λ n. slice_index_or others n []) (omega arith)

-- an effect of an input's number goes nowhere, one of an output is covered
one_effect-covered : (input : Bool) (context : Context) (node : ℕ) (ins outs : List Link) (inputs : Inputs) (effect : Effect) (touch : Touch) → nat_lt effect.connector (length ins) ≡ input → AllByRecursion IsNormalLink outs →
    inputs.extents ≡ map (link_extents context) (ins ++ outs) → IsInside inputs effect →
    PendingTouches (if input then pending_by context None effect else pending_by context (slice_get outs (effect.connector - length ins)) effect) touch →
    IsCovered context.values context.reach (map (output_access context.containers node) outs) touch
one_effect-covered true context node ins outs inputs effect touch which normal same at is = absurd is
one_effect-covered false context node ins outs inputs effect touch which normal same at is =
    let behind_inputs : length ins ≤ effect.connector = ltb-false effect.connector (length ins) which in
    let extents : extents_of_connector inputs effect.connector ≡ slice_index_or (map (link_extents context) outs) (effect.connector - length ins) [] =
    ap (λ all. slice_index_or all effect.connector []) same
    ∙ ap (λ all. slice_index_or all effect.connector []) (map-append (link_extents context) ins outs)
    ∙ behind (map (link_extents context) ins) (map (link_extents context) outs) effect.connector (subst (λ n. n ≤ effect.connector) (sym (length-map ins (link_extents context))) behind_inputs)
    ∙ ap (λ n. slice_index_or (map (link_extents context) outs) (effect.connector - n) []) (length-map ins (link_extents context)) in
    effect-covered context node outs (effect.connector - length ins) effect touch normal (subst (λ all. IsTrue (inside all effect.at)) extents at) is

effects-covered : (context : Context) (node : ℕ) (ins outs : List Link) (inputs : Inputs) (effects : List Effect) (touch : Touch) → AllByRecursion IsNormalLink outs → inputs.extents ≡ map (link_extents context) (ins ++ outs) →
    AllByRecursion (IsInside inputs) effects → SomePendingTouches (map (pending_of context ins outs) effects) touch →
    IsCovered context.values context.reach (map (output_access context.containers node) outs) touch
effects-covered context node ins outs inputs [] touch normal same each is = absurd is
effects-covered context node ins outs inputs (effect ∷ effects) touch normal same each (inl is) =
    one_effect-covered (nat_lt effect.connector (length ins)) context node ins outs inputs effect touch refl normal same each.0 is
effects-covered context node ins outs inputs (effect ∷ effects) touch normal same each (inr is) = effects-covered context node ins outs inputs effects touch normal same each.1 is

-- what gives a value gives its part one
and_then-ok : {A B : Type 0} (part : Meaning A) (rest : A → Meaning B) (value : B) → and_then part rest ≡ Ok value → (a : A) × (part ≡ Ok a) × (rest a ≡ Ok value)
and_then-ok (Ok a) rest value is = (a, refl, is)
and_then-ok (Err kind) rest value is = cc

same_ok : {A : Type 0} (a b : A) (is : (let left : Meaning A = Ok a in left) ≡ Ok b) → a ≡ b
same_ok a b is = cc

-- what code is given where it stands
abbrev inputs_at : Context → TaskletTree → (ins outs : List Link) → (given : List ℤ) → Inputs
inputs_at context code ins outs given = record {
  values = cut (map (λ link. product (link_extents context link)) ins) given;
  extents = map (link_extents context) (ins ++ outs);
  variables = map (λ variable. wrapped (variable_value context.values variable)) code.variables;
}

-- what an instance does is covered by its outputs
pub evaluation-covered : (context : Context) (node : ℕ) (code : TaskletTree) (ins outs : List Link) (given : List ℤ) (effects : List Pending) (touch : Touch) → AllByRecursion IsNormalLink outs →
    and_then (meaning_at context code ins outs given) (λ (meant : List Effect). Ok (map (pending_of context ins outs) meant)) ≡ Ok effects → SomePendingTouches effects touch →
    IsCovered context.values context.reach (map (output_access context.containers node) outs) touch
evaluation-covered context node code ins outs given effects touch normal is some =
    let (meant, here, there) = and_then-ok (meaning_at context code ins outs given) (λ (meant : List Effect). Ok (map (pending_of context ins outs) meant)) effects is in
    let made : map (pending_of context ins outs) meant ≡ effects = same_ok (map (pending_of context ins outs) meant) effects there in
    effects-covered context node ins outs (inputs_at context code ins outs given) meant touch normal refl (each_effect_inside code (inputs_at context code ins outs given) meant here) (subst (λ all. SomePendingTouches all touch) (sym made) some)

-- some of these elements is written
abbrev pub SomeWrite : List (Option Reference) → Option Resolution → Touch → Type 0
SomeWrite [] by touch = ⊥
SomeWrite (element ∷ elements) by touch = IsWrite element by touch ⊎ SomeWrite elements by touch

some_write-map : {A : Type 0} (element : A → Option Reference) (all : List A) (by : Option Resolution) (touch : Touch) → SomeWrite (map element all) by touch → (a : A) × Contains all a × IsWrite (element a) by touch
some_write-map element [] by touch is = absurd is
some_write-map element (a ∷ all) by touch (inl is) = (a, Contains-first a all, is)
some_write-map element (a ∷ all) by touch (inr is) =
    let (other, member, at) = some_write-map element all by touch is in (other, Contains-later a all other member, at)

link-write : (context : Context) (node : ℕ) (link : Link) (mode : Mode) (by : Option Resolution) (touch : Touch) → IsNormalLink link → AllowsWrite mode by → SomeWrite (link_elements context link) by touch →
    IsTouchOf context.values context.reach (access_of node mode link) touch
link-write context node link mode by touch normal allows is =
    let (index, member, at) = some_write-map (reference_at (context.reach link.memlet.container)) (tuples (map (dim_values context.values) link.memlet.subset.dims)) by touch is in
    write-touch context.values context.reach (access_of node mode link) (reference_at (context.reach link.memlet.container) index) by touch allows
    (λ to found. record { index = index; is = found; inside = elements-in_box link.memlet.subset.dims context.values index normal member }) at

-- a copy reads of the first list and writes of the second
pairs-touch : (firsts seconds : List (Option Reference)) (by : Option Resolution) (touch : Touch) → SomePendingTouches (map (λ (pair : Option Reference × Option Reference). transfer pair.0 pair.1 by) (zip firsts seconds)) touch →
    SomeRead firsts touch ⊎ SomeWrite seconds by touch
pairs-touch [] seconds by touch is = absurd is
pairs-touch (first ∷ firsts) [] by touch is = absurd is
pairs-touch (first ∷ firsts) (second ∷ seconds) by touch (inl (inl is)) = inl (inl is)
pairs-touch (first ∷ firsts) (second ∷ seconds) by touch (inl (inr is)) = inr (inl is)
pairs-touch (first ∷ firsts) (second ∷ seconds) by touch (inr is) = elim (pairs-touch firsts seconds by touch is) [ inl here ↦ inl (inr here) | inr there ↦ inr (inr there) ]

-- one of two accesses
first_of_two : (values : List ℤ) (reach : ℕ → Reach) (access other : Access) (touch : Touch) → IsTouchOf values reach access touch → IsCovered values reach (access ∷ other ∷ []) touch
first_of_two values reach access other touch is = (access, Contains-first access (other ∷ []), is)

second_of_two : (values : List ℤ) (reach : ℕ → Reach) (access other : Access) (touch : Touch) → IsTouchOf values reach other touch → IsCovered values reach (access ∷ other ∷ []) touch
second_of_two values reach access other touch is = (other, Contains-later access (other ∷ []) other (Contains-first other []), is)

pub copy-covered : (context : Context) (node : ℕ) (from to : Link) (touch : Touch) → IsNormalLink from → IsNormalLink to →
    SomePendingTouches (map (λ (pair : Option Reference × Option Reference). transfer pair.0 pair.1 None) (zip (link_elements context from) (link_elements context to))) touch →
    IsCovered context.values context.reach (access_of node Read from ∷ access_of node Write to ∷ []) touch
copy-covered context node from to touch normal normal' is = elim (pairs-touch (link_elements context from) (link_elements context to) None touch is) [
  | inl read ↦ first_of_two context.values context.reach (access_of node Read from) (access_of node Write to) touch (link-read context node from Read touch normal tt read)
  | inr written ↦ second_of_two context.values context.reach (access_of node Read from) (access_of node Write to) touch (link-write context node to Write None touch normal' tt written)
]

-- some of two lists of things to do
some_pending-append : (left others : List Pending) (touch : Touch) → SomePendingTouches (left ++ others) touch → SomePendingTouches left touch ⊎ SomePendingTouches others touch
some_pending-append [] others touch is = inr is
some_pending-append (next ∷ left) others touch (inl is) = inl (inl is)
some_pending-append (next ∷ left) others touch (inr is) = elim (some_pending-append left others touch is) [ inl here ↦ inl (inr here) | inr there ↦ inr there ]

-- identities are written to the targets
identities-touch : (value : ℤ) (targets : List (Option Reference)) (touch : Touch) → SomePendingTouches (map (λ target. write_value value target None) targets) touch → SomeWrite targets None touch
identities-touch value [] touch is = absurd is
identities-touch value (target ∷ targets) touch (inl is) = inl is
identities-touch value (target ∷ targets) touch (inr is) = inr (identities-touch value targets touch is)

-- a transfer of one of these pairs
transfers-touch : {A : Type 0} (pair_of : A → Option Reference × Option Reference) (all : List A) (by : Option Resolution) (touch : Touch) →
    SomePendingTouches (map (λ (pair : Option Reference × Option Reference). transfer pair.0 pair.1 by) (map pair_of all)) touch → (a : A) × Contains all a × (IsRead (pair_of a).0 touch ⊎ IsWrite (pair_of a).1 by touch)
transfers-touch pair_of [] by touch is = absurd is
transfers-touch pair_of (a ∷ all) by touch (inl is) = (a, Contains-first a all, is)
transfers-touch pair_of (a ∷ all) by touch (inr is) =
    let (other, member, at) = transfers-touch pair_of all by touch is in (other, Contains-later a all other member, at)

-- a position without its number of the axis is inside the extents without that of the axis
without-within : (axis : ℕ) (extents : List ℕ) (position : List ℤ) → AllZip IsWithin extents position → AllZip IsWithin (without axis extents) (without axis position)
without-within axis [] [] within = tt
without-within axis [] (number ∷ position) within = absurd within
without-within axis (extent ∷ extents) [] within = absurd within
without-within zero (extent ∷ extents) (number ∷ position) within = within.1
without-within (suc axis) (extent ∷ extents) (number ∷ position) within = (within.0, without-within axis extents position within.1)

-- a subset without a range has one index, whatever the place in it is
no_span : (dims : List Dim) (values at : List ℤ) → span_counts dims values ≡ [] → index_at dims values at ≡ index_at dims values []
no_span [] values at none = refl
no_span (Index number ∷ dims) values at none = ap (λ index. affine_value values number ∷ index) (no_span dims values at none)
no_span (Span r ∷ dims) values at none = cc

-- a place in a shape lies in the box of links whose subset has that shape
place-in_box : (dims : List Dim) (values at : List ℤ) (to left : List ℕ) → AllByRecursion IsNormalDim dims → span_counts dims values ≡ to → shape_counts to ≡ shape_counts left →
    AllZip IsWithin left at → IsInBox values (box_of dims) (index_at dims values at)
place-in_box dims values at [] left normal is same within =
    subst (λ index. IsInBox values (box_of dims) index) (sym (no_span dims values at is)) (index_at-in_box dims values [] normal (subst (λ counts. AllZip IsWithin counts []) (sym is) tt))
place-in_box dims values [] (count ∷ to) [] normal is same within =
    begins-in_box dims values normal (subst (λ counts. AllByRecursion (λ count. count ≡ 1) counts) (sym (is ∙ same)) (refl, tt))
place-in_box dims values (number ∷ at) (count ∷ to) [] normal is same within = absurd within
place-in_box dims values at (count ∷ to) (other ∷ left) normal is same within =
    index_at-in_box dims values at normal (subst (λ counts. AllZip IsWithin counts at) (sym (is ∙ same)) within)

-- the target of a position lies in the target's box
target-in_box : (axis : Option ℕ) (from to : Link) (values position : List ℤ) → IsNormalLink to → HasTargetCounts axis (span_counts from.memlet.subset.dims values) (span_counts to.memlet.subset.dims values) →
    AllZip IsWithin (span_counts from.memlet.subset.dims values) position → IsInBox values (box_of to.memlet.subset.dims) (index_at to.memlet.subset.dims values (target_place axis position))
target-in_box None from to values position normal counts within = begins-in_box to.memlet.subset.dims values normal counts
target-in_box (Some axis) from to values position normal counts within =
    place-in_box to.memlet.subset.dims values (without axis position) (span_counts to.memlet.subset.dims values) (without axis (span_counts from.memlet.subset.dims values)) normal refl counts
    (without-within axis (span_counts from.memlet.subset.dims values) position within)

-- what the pairs of a reduction touch
reduced-covered : (context : Context) (node : ℕ) (resolution : Resolution) (axis : Option ℕ) (identity : Option ℤ) (from to : Link) (touch : Touch) → IsNormalLink from → IsNormalLink to →
    ((values : List ℤ) → HasTargetCounts axis (span_counts from.memlet.subset.dims values) (span_counts to.memlet.subset.dims values)) →
    SomePendingTouches (map (λ (pair : Option Reference × Option Reference). transfer pair.0 pair.1 (Some resolution)) (reduction_pairs context axis from to)) touch →
    IsCovered context.values context.reach (access_of node Read from ∷ access_of node (reduction_mode resolution identity) to ∷ []) touch
reduced-covered context node resolution axis identity from to touch normal normal' counts is =
    let values = context.values in
    let mode = reduction_mode resolution identity in
    let (position, member, at) = transfers-touch (λ place. (reference_at (context.reach from.memlet.container) (index_at from.memlet.subset.dims values place), reference_at (context.reach to.memlet.container) (index_at to.memlet.subset.dims values (target_place axis place))))
    (whole (span_counts from.memlet.subset.dims values)) (Some resolution) touch is in
    let within : AllZip IsWithin (span_counts from.memlet.subset.dims values) position = inside-each (span_counts from.memlet.subset.dims values) position ((whole-members (span_counts from.memlet.subset.dims values) position).1 member) in
    elim at [
      | inl read ↦ first_of_two values context.reach (access_of node Read from) (access_of node mode to) touch
          (read-touch values context.reach (access_of node Read from) (reference_at (context.reach from.memlet.container) (index_at from.memlet.subset.dims values position)) touch tt
          (λ source found. record { index = index_at from.memlet.subset.dims values position; is = found; inside = index_at-in_box from.memlet.subset.dims values position normal within }) read)
      | inr written ↦ second_of_two values context.reach (access_of node Read from) (access_of node mode to) touch
          (write-touch values context.reach (access_of node mode to) (reference_at (context.reach to.memlet.container) (index_at to.memlet.subset.dims values (target_place axis position))) (Some resolution) touch (allows-target resolution identity)
          (λ target found. record { index = index_at to.memlet.subset.dims values (target_place axis position); is = found; inside = target-in_box axis from to values position normal' (counts values) within }) written)
    ]

-- what the identities of a reduction touch
identities-covered : (context : Context) (node : ℕ) (resolution : Resolution) (identity : Option ℤ) (from to : Link) (touch : Touch) → IsNormalLink to →
    SomePendingTouches (identities identity (link_elements context to)) touch → IsCovered context.values context.reach (access_of node Read from ∷ access_of node (reduction_mode resolution identity) to ∷ []) touch
identities-covered context node resolution None from to touch normal is = absurd is
identities-covered context node resolution (Some value) from to touch normal is =
    second_of_two context.values context.reach (access_of node Read from) (access_of node Write to) touch
    (link-write context node to Write None touch normal tt (identities-touch value (link_elements context to) touch is))

pub reduction-covered : (context : Context) (node : ℕ) (resolution : Resolution) (axis : Option ℕ) (identity : Option ℤ) (from to : Link) (touch : Touch) → IsNormalLink from → IsNormalLink to →
    ((values : List ℤ) → HasTargetCounts axis (span_counts from.memlet.subset.dims values) (span_counts to.memlet.subset.dims values)) →
    SomePendingTouches (identities identity (link_elements context to) ++ map (λ (pair : Option Reference × Option Reference). transfer pair.0 pair.1 (Some resolution)) (reduction_pairs context axis from to)) touch →
    IsCovered context.values context.reach (access_of node Read from ∷ access_of node (reduction_mode resolution identity) to ∷ []) touch
reduction-covered context node resolution axis identity from to touch normal normal' counts is = elim (some_pending-append (identities identity (link_elements context to)) _ touch is) [
  | inl first ↦ identities-covered context node resolution identity from to touch normal' first
  | inr later ↦ reduced-covered context node resolution axis identity from to touch normal normal' counts later
]
