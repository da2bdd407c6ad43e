-- The streams that a run of a graph opens with, and those that work leaves, have values of their widths.
use Rattle.std.proofs.Common.{◌≡◌, ℕ, zero, suc, ℤ, List, [], ◌∷◌, ◌++◌, map, Option, Some, None, Bool, true, false, if◌then◌else◌, slice_get, slice_index_or, replicate, pos, refl, sym, ◌∙◌, subst}
use Rattle.std.specs.Prelude.{option_and_then}
use Rattle.std.proofs.lemmas.List.{map-append}
use Rattle.sd_num.specs.Width.{wrapped_to}
use Rattle.sd_num.specs.declared.width.Width.{Width}
use Rattle.sd_num.proofs.StoredLemmas.{wrapped_to-twice}
use Rattle.sd_range.specs.Points.{product}
use Rattle.sd_work.specs.Memory.{Contents, array, stream, absent, Memories}
use Rattle.sd_work.specs.Change.{Change, nothing, write, push, take, without, appended, apply}
use Rattle.sd_work.specs.Residual.{Term}
use Rattle.sd_work.specs.BigStep.{reached, big_step}
use Rattle.sd_work.proofs.Changes.{width-apply}
use Rattle.sd_pieces.specs.course.Reading.{values_if, stream_found, container_width, apply_all}
use Rattle.sd_pieces.specs.course.Course.{course}
use Rattle.sd_pieces.proofs.course_lemmas.Readings.{at, if_found, stream_effect}
use Rattle.sd_pieces.proofs.course_lemmas.Shapes.{work-changes}
use Rattle.sd_pieces.proofs.cut_lemmas.Merging.{stream_effects, stream-after}
use Rattle.sd_graph.specs.PlainTree.{GraphTree}
use Rattle.sd_graph.specs.TreeParts.{containers_of}
use Rattle.sd_graph.specs.ContainerParts.{Containers, extents_of, is_argument, is_of_run, is_stream, opening_contents}
use Rattle.sd_graph.specs.Unfold.{opening_from, opening_memory}
use Rattle.sd_graph.specs.declared.container.Container.{Container}
use Rattle.sd_cut.specs.Fits.{AreValuesOfWidth}

-- values of a width
abbrev OfWidth : Width → List ℤ → Type 0
OfWidth width values = map (wrapped_to width) values ≡ values

-- ---- what work leaves

at-keeps : {A : Type 0} (P : A → Type 0) (i j : ℕ) (f : A → A) (x : A) → (P x → P (f x)) → P x → P (at i j f x)
at-keeps P zero zero f x keeps h = keeps h
at-keeps P zero (suc j) f x keeps h = h
at-keeps P (suc i) zero f x keeps h = h
at-keeps P (suc i) (suc j) f x keeps h = at-keeps P i j f x keeps h

appended-fits : (w : Width) (v : ℤ) (values : List ℤ) → OfWidth w values → OfWidth w (appended v w values)
appended-fits w v values h = map-append (wrapped_to w) values (wrapped_to w v ∷ []) ∙ (λ i. h i ++ wrapped_to-twice w v i ∷ [])

without-fits : (w : Width) (position : ℕ) (values : List ℤ) → OfWidth w values → OfWidth w (without position values)
without-fits w position [] h = refl
without-fits w zero (value ∷ values) h = cc
without-fits w (suc position) (value ∷ values) h =
    let first : wrapped_to w value ≡ value = cc in
    let rest : map (wrapped_to w) values ≡ values = cc in
    λ i. first i ∷ without-fits w position values rest i

effect-fits : (w : Width) (l c : ℕ) (change : Change) (values : List ℤ) → OfWidth w values → OfWidth w (stream_effect w l c change values)
effect-fits w l c nothing values h = h
effect-fits w l c (write to by v) values h = at-keeps (OfWidth w) to.level l (at to.container c (λ x. x)) values (at-keeps (OfWidth w) to.container c (λ x. x) values (λ same. same)) h
effect-fits w l c (push m d v) values h = at-keeps (OfWidth w) m l (at d c (appended v w)) values (at-keeps (OfWidth w) d c (appended v w) values (appended-fits w v values)) h
effect-fits w l c (take m d position) values h = at-keeps (OfWidth w) m l (at d c (without position)) values (at-keeps (OfWidth w) d c (without position) values (without-fits w position values)) h

effects-fit : (w : Width) (l c : ℕ) (changes : List Change) (values : List ℤ) → OfWidth w values → OfWidth w (stream_effects w l c changes values)
effects-fit w l c [] values h = h
effects-fit w l c (change ∷ changes) values h = effects-fit w l c changes (stream_effect w l c change values) (effect-fits w l c change values h)

width-after : (l c : ℕ) (changes : List Change) (s : Memories) → container_width l c (apply_all changes s) ≡ container_width l c s
width-after l c [] s = refl
width-after l c (change ∷ changes) s = width-after l c changes (apply change s) ∙ width-apply l c change s

values-after : (changes : List Change) (s : Memories) → AreValuesOfWidth s → AreValuesOfWidth (apply_all changes s)
values-after changes s fit c values h =
    subst (λ w. OfWidth w values) (sym (width-after 0 c changes s)) (on (stream_found 0 c s) (fit c) (sym (stream-after 0 c changes s) ∙ h))
  where
    w : Width
    w = container_width 0 c s

    on : (o : Option (List ℤ)) → ((old : List ℤ) → o ≡ Some old → OfWidth (container_width 0 c s) old) → if_found (stream_effects (container_width 0 c s) 0 c changes) o ≡ Some values → OfWidth (container_width 0 c s) values
    on None before e = cc
    on (Some old) before e =
        let is : stream_effects (container_width 0 c s) 0 c changes old ≡ values = cc in
        subst (OfWidth (container_width 0 c s)) is (effects-fit (container_width 0 c s) 0 c changes old (before old refl))

pub work-values : {P : Type 0} (term : Term P) (most turns : ℕ) (s after : Memories) (left : ℕ) → big_step term most s turns ≡ reached after left → AreValuesOfWidth s → AreValuesOfWidth after
work-values term most turns s after left h fit = subst AreValuesOfWidth (work-changes term most s turns after left h) (values-after (course term most s turns).changes s fit)

-- ---- what a run opens with

-- contents that are an array, or an empty stream
abbrev IsEmpty : Contents → Type 0
IsEmpty contents = (values : List ℤ) → values_if contents ≡ Some values → values ≡ []

begun : (streams : Bool) (width : Width) (count : ℕ) → IsEmpty (if streams then stream width [] else array width (replicate count (pos 0)))
begun true width count values e = cc
begun false width count values e = cc

opened : (argument own : Bool) (container : Container) (given : List ℤ) →
    IsEmpty (if argument then array container.width (map (wrapped_to container.width) given) else if own then opening_contents container else absent)
opened true own container given values e = cc
opened false true container given values e = begun (is_stream container.kind) container.width (product (extents_of container)) values e
opened false false container given values e = cc

opened_from : (given : List (List ℤ)) (number : ℕ) (containers : Containers) (container : ℕ) (values : List ℤ) →
    option_and_then values_if (slice_get (opening_from given number containers) container) ≡ Some values → values ≡ []
opened_from given number [] container values e = cc
opened_from given number (entry ∷ entries) zero values e = opened (is_argument entry.1.kind) (is_of_run entry.1.kind) entry.1 (slice_index_or given number []) values e
opened_from given number (entry ∷ entries) (suc container) values e = opened_from given (suc number) entries container values e

pub opens-values : (tree : GraphTree) (given : List (List ℤ)) → AreValuesOfWidth (opening_memory tree given ∷ [])
opens-values tree given c values e =
    subst (OfWidth (container_width 0 c (opening_memory tree given ∷ []))) (sym (opened_from given 0 (containers_of tree) c values e)) refl
