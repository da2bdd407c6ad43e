-- What changes make of a memory, one after another.
use Rattle.std.proofs.Common.{◌≡◌, ℕ, zero, suc, ◌+◌, ◌<◌, List, [], ◌∷◌, ◌++◌, length, drop, slice_index_or, slice_set, refl, sym, ◌∙◌, ap, arith}
use Rattle.std.proofs.Math.Seq.{drop-cons}
use Rattle.sd_work.specs.Memory.{Memory}
use Rattle.sd_work.specs.Change.{Change, nothing, write, push, take, changed_at, innermost, apply, own_after}
use Rattle.sd_pieces.specs.course.Reading.{apply_all}
use Rattle.sd_mem.specs.mem.Shaped.{Shaped, alone, changed}
use Rattle.sd_cut.specs.declared.elements.CutElement.{CutElement}
use Rattle.sd_cut.specs.Elements.{all_changed, effects_from, all_effects}

-- a member in whose place it is put, changed
pub set-changed : {A : Type 0} (xs : List A) (i : ℕ) (d : A) (f : A → A) → i < length xs → slice_set xs i (f (slice_index_or xs i d)) ≡ changed_at i f xs
set-changed [] i d f less = refl
set-changed (x ∷ xs) zero d f less = refl
set-changed (x ∷ xs) (suc i) d f less = ap (λ l. x ∷ l) (set-changed xs i d f (omega (arith, less)))

-- changes in two lists
pub all_changed-append : (xs ys : List Change) (memory : Shaped) → all_changed (xs ++ ys) memory ≡ all_changed ys (all_changed xs memory)
all_changed-append [] ys memory = refl
all_changed-append (change ∷ xs) ys memory = all_changed-append xs ys (changed change memory)

-- the effects of one array more
pub performed_next : (container : ℕ) (left memory next : Shaped) (arrays : List (List CutElement)) (cuts : List CutElement) → container < length arrays → cuts ≡ slice_index_or arrays container cuts →
    next ≡ all_changed (effects_from container 0 left cuts) memory →
    all_changed (all_effects (container + 1) left (drop (container + 1) arrays)) next ≡ all_changed (all_effects container left (drop container arrays)) memory
performed_next container left memory next arrays cuts less is performed =
    let after : suc container ≡ container + 1 = omega arith in
    let rest : drop container arrays ≡ cuts ∷ drop (suc container) arrays = drop-cons arrays container cuts less ∙ ap (λ l. l ∷ drop (suc container) arrays) (sym is) in
    (λ i. all_changed (all_effects (sym after i) left (drop (sym after i) arrays)) (performed i))
    ∙ sym (all_changed-append (effects_from container 0 left cuts) (all_effects (suc container) left (drop (suc container) arrays)) memory)
    ∙ ap (λ l. all_changed (all_effects container left l) memory) (sym rest)

-- a stack of one memory stays one
alone-apply : (change : Change) (m : Memory) → apply change (m ∷ []) ≡ own_after change m ∷ []
alone-apply nothing m = refl
alone-apply (write to by value) m = on to.level _
  where
    on : (level : ℕ) (f : Memory → Memory) → changed_at level f (m ∷ []) ≡ innermost (changed_at level f (m ∷ [])) ∷ []
    on zero f = refl
    on (suc level) f = refl
alone-apply (push level container value) m = on level _
  where
    on : (level : ℕ) (f : Memory → Memory) → changed_at level f (m ∷ []) ≡ innermost (changed_at level f (m ∷ [])) ∷ []
    on zero f = refl
    on (suc level) f = refl
alone-apply (take level container position) m = on level _
  where
    on : (level : ℕ) (f : Memory → Memory) → changed_at level f (m ∷ []) ≡ innermost (changed_at level f (m ∷ [])) ∷ []
    on zero f = refl
    on (suc level) f = refl

pub alone-changed : (changes : List Change) (memory : Shaped) → alone (all_changed changes memory) ≡ apply_all changes (alone memory)
alone-changed [] memory = refl
alone-changed (change ∷ changes) memory = alone-changed changes (changed change memory) ∙ ap (apply_all changes) (sym (alone-apply change memory.contents))
