-- Many writes to one element are one write.
use Rattle.std.proofs.Common.{◌≡◌, ℕ, zero, suc, ◌+◌, ◌*◌, ℤ, pos, ◌+ℤ◌, ◌*ℤ◌, List, [], ◌∷◌, slice_index_or, Option, None, FitsSigned, w64, unsigned_abs, refl, sym, ap, ◌∙◌, subst, arith}
use Rattle.std.proofs.lemmas.Int.{int_wrap_fits}
use Rattle.sd_num.specs.Wrapped.{wrapped}
use Rattle.sd_num.specs.declared.resolution.Resolution.{Resolution}
use Rattle.sd_num.specs.Width.{wrapped_to}
use Rattle.sd_num.specs.declared.width.Width.{Width}
use Rattle.sd_num.specs.declared.width.Width.TheVariants.{W64}
use Rattle.sd_work.specs.Memory.{Contents, array, stream, Memories, Reference, look, elements_of, width_of, contents_of}
use Rattle.sd_work.specs.Change.{apply, write, became, changed_at, with_elements, written}
use Rattle.sd_work.proofs.Changes.{written-wide}
use Rattle.sd_tcode.specs.columns.Columns.{value_on}
use Rattle.sd_row.specs.declared.row.track.Track.{Track}
use Rattle.sd_row.specs.declared.row.row.Write.{Write}
use Rattle.sd_row.specs.row.Row.{reference_on}
use Rattle.sd_row.specs.row.Point.{width_on}
use Rattle.sd_row.specs.row.Block.{after_points}

-- ---- one change, and two

no_change : {A : Type 0} (number : ℕ) (change : A → A) (members : List A) (d : A) → change (slice_index_or members number d) ≡ slice_index_or members number d → changed_at number change members ≡ members
no_change number change [] d same = refl
no_change {A} zero change (member ∷ members) d same = ap (λ (first : A). first ∷ members) same
no_change {A} (suc number) change (member ∷ members) d same = ap (λ (rest : List A). member ∷ rest) (no_change number change members d same)

two_changes : {A : Type 0} (number : ℕ) (second first both : A → A) (members : List A) (d : A) → second (first (slice_index_or members number d)) ≡ both (slice_index_or members number d) →
    changed_at number second (changed_at number first members) ≡ changed_at number both members
two_changes number second first both [] d same = refl
two_changes {A} zero second first both (member ∷ members) d same = ap (λ (first : A). first ∷ members) same
two_changes {A} (suc number) second first both (member ∷ members) d same = ap (λ (rest : List A). member ∷ rest) (two_changes number second first both members d same)

two_elements : (number : ℕ) (second first both : Width → ℤ → ℤ) (contents : Contents) → width_of contents ≡ W64 → ((old : ℤ) → second W64 (first W64 old) ≡ both W64 old) →
    with_elements (λ width. changed_at number (second width)) (with_elements (λ width. changed_at number (first width)) contents) ≡ with_elements (λ width. changed_at number (both width)) contents
two_elements number second first both (array width elements) wide same =
    let old = slice_index_or elements number (pos 0) in
    ap (array width) (two_changes number (second width) (first width) (both width) elements (pos 0) (subst (λ (w : Width). second w (first w old) ≡ both w old) (sym wide) (same old)))
two_elements number second first both (stream width values) wide same = refl

-- ---- writes to one element of 64 bits

-- the value that stands there is written
own_value : (element : ℕ) (value : ℤ) (contents : Contents) → width_of contents ≡ W64 → value ≡ slice_index_or (elements_of contents) element (pos 0) → FitsSigned w64 value →
    with_elements (λ width. changed_at element (written width None value)) contents ≡ contents
own_value element value (array width elements) wide is fits =
    ap (array width) (no_change element (written width None value) elements (pos 0) (ap (λ (w : Width). wrapped_to w value) wide ∙ int_wrap_fits w64 value fits ∙ is))
own_value element value (stream width values) wide is fits = refl

pub nothing_new : (to : Reference) (value : ℤ) (memories : Memories) → width_of (contents_of to.level to.container memories) ≡ W64 → value ≡ look to memories → FitsSigned w64 value →
    apply (write to None value) memories ≡ memories
nothing_new to value memories wide is fits =
    no_change to.level (changed_at to.container (with_elements (λ width. changed_at to.element (written width None value)))) memories []
    (no_change to.container (with_elements (λ width. changed_at to.element (written width None value))) (slice_index_or memories to.level []) (stream W64 [])
    (own_value to.element value (contents_of to.level to.container memories) wide is fits))

-- a value is written behind another one
pub written_behind : (to : Reference) (by : Option Resolution) (old value new : ℤ) (memories : Memories) → width_of (contents_of to.level to.container memories) ≡ W64 →
    FitsSigned w64 old → FitsSigned w64 value → FitsSigned w64 new → new ≡ became by old value → apply (write to by value) (apply (write to None old) memories) ≡ apply (write to None new) memories
written_behind to by old value new memories wide old_fits value_fits new_fits is =
    two_changes to.level (changed_at to.container (with_elements (λ width. changed_at to.element (written width by value)))) (changed_at to.container (with_elements (λ width. changed_at to.element (written width None old))))
    (changed_at to.container (with_elements (λ width. changed_at to.element (written width None new)))) memories []
    (two_changes to.container (with_elements (λ width. changed_at to.element (written width by value))) (with_elements (λ width. changed_at to.element (written width None old)))
    (with_elements (λ width. changed_at to.element (written width None new))) (slice_index_or memories to.level []) (stream W64 [])
    (two_elements to.element (λ width. written width by value) (λ width. written width None old) (λ width. written width None new) (contents_of to.level to.container memories) wide both))
  where
    both : (before : ℤ) → written W64 by value (written W64 None old before) ≡ written W64 None new before
    both before =
        ap (written W64 by value) (int_wrap_fits w64 old old_fits)
        ∙ written-wide by value old value_fits old_fits
        ∙ sym is ∙ sym (int_wrap_fits w64 new new_fits)

-- ---- a track that stands still

no_times : (k : ℕ) → pos 0 *ℤ pos k ≡ pos 0
no_times k = let none : 0 * k ≡ 0 = omega arith in ap pos none

still : (track : Track) (from k : ℕ) → track.elements.step ≡ pos 0 → reference_on track k ≡ reference_on track from
still track from k none =
    let same : value_on track.elements k ≡ value_on track.elements from =
    ap (λ step. wrapped (track.elements.first +ℤ (step *ℤ pos k))) none ∙ ap (λ more. wrapped (track.elements.first +ℤ more)) (no_times k ∙ sym (no_times from))
    ∙ ap (λ step. wrapped (track.elements.first +ℤ (step *ℤ pos from))) (sym none) in
    ap (λ value. record { level = track.station.level; container = track.station.container; element = unsigned_abs value }) same

-- one run more
pub fold_on : (value : (run connector : ℕ) → ℤ) (to : Write) (from run : ℕ) (memories : Memories) (old new : ℤ) → to.to.elements.step ≡ pos 0 → width_on memories to.to ≡ W64 →
    FitsSigned w64 old → FitsSigned w64 (value run to.connector) → FitsSigned w64 new → new ≡ became to.by old (value run to.connector) →
    apply (write (reference_on to.to from) None old) memories ≡ after_points value (to ∷ []) from run memories →
    apply (write (reference_on to.to from) None new) memories ≡ after_points value (to ∷ []) from (run + 1) memories
fold_on value to from run memories old new none wide old_fits value_fits new_fits is so_far =
    let next : suc run ≡ run + 1 = omega arith in
    sym (written_behind (reference_on to.to from) to.by old (value run to.connector) new memories wide old_fits value_fits new_fits is)
    ∙ ap (apply (write (reference_on to.to from) to.by (value run to.connector))) so_far
    ∙ ap (λ place. apply (write place to.by (value run to.connector)) (after_points value (to ∷ []) from run memories)) (sym (still to.to from (from + run) none))
    ∙ ap (λ count. after_points value (to ∷ []) from count memories) next
