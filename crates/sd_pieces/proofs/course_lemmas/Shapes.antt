-- Work keeps the shape of its stack of memories, and what it does not touch.
use Rattle.std.proofs.Common.{◌≡◌, ℕ, zero, suc, ℤ, List, [], ◌∷◌, map, length, Option, Some, None, refl, sym, ◌∙◌, ap}
use Rattle.sd_num.specs.declared.width.Width.{Width}
use Rattle.sd_work.specs.Memory.{Contents, array, stream, Memories}
use Rattle.sd_work.specs.Change.{Change, nothing, write, push, take, written, changed_at, with_elements, with_values, with_contents, apply}
use Rattle.sd_work.specs.Residual.{Term}
use Rattle.sd_work.specs.Step.{Outcome, Done, Faulted, Spent}
use Rattle.sd_work.specs.BigStep.{Coming, reached, big_step}
use Rattle.sd_pieces.specs.course.Reading.{apply_all}
use Rattle.sd_pieces.specs.course.Shape.{contents_shape, stack_shape}
use Rattle.sd_pieces.specs.course.Course.{course, told_end}
use Rattle.sd_pieces.proofs.course_lemmas.Courses.{told-course}

-- ---- a change

-- what is told of each member of a list stays, where the change of a member keeps it
map-changed : {A B : Type 0} (tell : A → B) (i : ℕ) (f : A → A) → ((x : A) → tell (f x) ≡ tell x) → (xs : List A) → map tell (changed_at i f xs) ≡ map tell xs
map-changed tell i f h [] = refl
map-changed tell zero f h (x ∷ xs) = ap (λ y. y ∷ map tell xs) (h x)
map-changed tell (suc i) f h (x ∷ xs) = ap (λ ys. tell x ∷ ys) (map-changed tell i f h xs)

length-changed : {A : Type 0} (i : ℕ) (f : A → A) (xs : List A) → length (changed_at i f xs) ≡ length xs
length-changed i f [] = refl
length-changed zero f (x ∷ xs) = refl
length-changed (suc i) f (x ∷ xs) = ap suc (length-changed i f xs)

pub length-map : {A B : Type 0} (f : A → B) (xs : List A) → length (map f xs) ≡ length xs
length-map f [] = refl
length-map f (x ∷ xs) = ap suc (length-map f xs)

elements-shape : (i : ℕ) (f : Width → ℤ → ℤ) (k : Contents) → contents_shape (with_elements (λ width. changed_at i (f width)) k) ≡ contents_shape k
elements-shape i f (array width elements) = ap (λ n. (width, Some n)) (length-changed i (f width) elements)
elements-shape i f (stream width values) = refl

values-shape : (f : Width → List ℤ → List ℤ) (k : Contents) → contents_shape (with_values f k) ≡ contents_shape k
values-shape f (array width elements) = refl
values-shape f (stream width values) = refl

contents-shape : (l c : ℕ) (f : Contents → Contents) → ((k : Contents) → contents_shape (f k) ≡ contents_shape k) → (s : Memories) → stack_shape (with_contents l c f s) ≡ stack_shape s
contents-shape l c f h s = map-changed (map contents_shape) l (changed_at c f) (map-changed contents_shape c f h) s

shape-change : (change : Change) (s : Memories) → stack_shape (apply change s) ≡ stack_shape s
shape-change nothing s = refl
shape-change (write to by v) s = contents-shape to.level to.container _ (elements-shape to.element (λ width. written width by v)) s
shape-change (push l c v) s = contents-shape l c _ (values-shape _) s
shape-change (take l c p) s = contents-shape l c _ (values-shape _) s

pub shape-after : (changes : List Change) (s : Memories) → stack_shape (apply_all changes s) ≡ stack_shape s
shape-after [] s = refl
shape-after (change ∷ changes) s = shape-after changes (apply change s) ∙ shape-change change s

-- ---- work

abbrev memories_or : {P : Type 0} → Memories → Coming P → Memories
memories_or d (Some (Done now)) = now.memories
memories_or d (Some (Faulted fault)) = d
memories_or d (Some Spent) = d
memories_or d None = d

-- where work came to an end, its memories are those that its course tells
end-told : {P : Type 0} (end : Option (Outcome P ℕ)) (s after : Memories) (left : ℕ) → told_end end s ≡ reached after left → s ≡ after
end-told (Some (Done m)) s after left h = ap (memories_or s) h
end-told (Some (Faulted fault)) s after left h = cc
end-told (Some Spent) s after left h = cc
end-told None s after left h = cc

pub work-changes : {P : Type 0} (term : Term P) (most : ℕ) (s : Memories) (turns : ℕ) (after : Memories) (left : ℕ) → big_step term most s turns ≡ reached after left → apply_all (course term most s turns).changes s ≡ after
work-changes term most s turns after left h =
    let c = course term most s turns in
    end-told c.end (apply_all c.changes s) after left (sym (told-course term most s turns) ∙ h)

pub work-shape : {P : Type 0} (term : Term P) (most : ℕ) (s : Memories) (turns : ℕ) (after : Memories) (left : ℕ) → big_step term most s turns ≡ reached after left → stack_shape after ≡ stack_shape s
work-shape term most s turns after left h = ap stack_shape (sym (work-changes term most s turns after left h)) ∙ shape-after (course term most s turns).changes s
