-- Work leaves elements of each container's width.
use Rattle.std.proofs.Common.{◌≡◌, inl, inr, ℕ, ℤ, List, [], ◌∷◌, Option, Some, None, refl, sym, ◌∙◌, subst}
use Rattle.sd_num.specs.Width.{IsElement}
use Rattle.sd_num.specs.declared.width.Width.{Width}
use Rattle.sd_work.specs.Memory.{Memories}
use Rattle.sd_work.specs.Change.{Change, nothing, write, push, take, written, apply}
use Rattle.sd_work.specs.Residual.{Term}
use Rattle.sd_work.specs.BigStep.{reached, big_step}
use Rattle.sd_work.proofs.Changes.{IsElement-written, width-apply}
use Rattle.sd_pieces.specs.course.Reading.{element_found, container_width, apply_all}
use Rattle.sd_pieces.specs.course.Course.{course}
use Rattle.sd_pieces.specs.cut.Merged.{outermost, AreElementsOfWidth}
use Rattle.sd_pieces.proofs.course_lemmas.Readings.{at, if_found, effect_on}
use Rattle.sd_pieces.proofs.course_lemmas.Shapes.{work-changes}
use Rattle.sd_pieces.proofs.cut_lemmas.Merging.{effects_on, element-after, at-nothing, at-within, WritesSo, write-effect}

effect-fits : (w : Width) (l c e : ℕ) (change : Change) (x : ℤ) → IsElement w x → IsElement w (effect_on w l c e change x)
effect-fits w l c e nothing x fits = fits
effect-fits w l c e (write to by v) x fits = on (write-effect l c e to (written w by v))
  where
    on : WritesSo l c e to (written w by v) → IsElement w (effect_on w l c e (write to by v) x)
    on (inl same) = subst (IsElement w) (sym (same x)) fits
    on (inr there) = subst (IsElement w) (sym (there.1 x)) (IsElement-written w by v x)
effect-fits w l c e (push m d v) x fits = subst (IsElement w) (sym (at-within m l (at d c (λ x. x)) (at-nothing d c) x)) fits
effect-fits w l c e (take m d p) x fits = subst (IsElement w) (sym (at-within m l (at d c (λ x. x)) (at-nothing d c) x)) fits

effects-fit : (w : Width) (l c e : ℕ) (changes : List Change) (x : ℤ) → IsElement w x → IsElement w (effects_on w l c e changes x)
effects-fit w l c e [] x fits = fits
effects-fit w l c e (change ∷ changes) x fits = effects-fit w l c e changes (effect_on w l c e change x) (effect-fits w l c e change x fits)

width-after : (l c : ℕ) (changes : List Change) (s : Memories) → container_width l c (apply_all changes s) ≡ container_width l c s
width-after l c [] s = refl
width-after l c (change ∷ changes) s = width-after l c changes (apply change s) ∙ width-apply l c change s

elements-after : (changes : List Change) (s : Memories) → AreElementsOfWidth s → AreElementsOfWidth (apply_all changes s)
elements-after changes s fit c e value h =
    subst (λ w. IsElement w value) (sym (width-after 0 c changes s)) (on (element_found (outermost c e) s) (fit c e) (sym (element-after 0 c e changes s) ∙ h))
  where
    w : Width
    w = container_width 0 c s

    on : (o : Option ℤ) → ((old : ℤ) → o ≡ Some old → IsElement w old) → if_found (effects_on w 0 c e changes) o ≡ Some value → IsElement w value
    on None before h = cc
    on (Some old) before h = let is : effects_on w 0 c e changes old ≡ value = cc in subst (IsElement w) is (effects-fit w 0 c e changes old (before old refl))

pub work-elements : {P : Type 0} (term : Term P) (most : ℕ) (s : Memories) (turns : ℕ) (after : Memories) (left : ℕ) → big_step term most s turns ≡ reached after left → AreElementsOfWidth s → AreElementsOfWidth after
work-elements term most s turns after left h fit =
    subst AreElementsOfWidth (work-changes term most s turns after left h) (elements-after (course term most s turns).changes s fit)
