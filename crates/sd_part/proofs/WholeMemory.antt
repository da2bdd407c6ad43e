-- A memory as a store.
use Rattle.std.proofs.Common.{◌≡◌, inl, ℕ, zero, suc, List, [], ◌∷◌, map, length, Option, Some, None, refl, sym, ◌∙◌, ap, slice_get}
use Rattle.sd_num.specs.declared.width.Width.{Width}
use Rattle.sd_work.specs.Memory.{Contents, array, stream, Memory, Memories}
use Rattle.sd_work.specs.Exit.{Values}
use Rattle.sd_pieces.specs.course.Reading.{contents_found, element_found}
use Rattle.sd_pieces.specs.course.Shape.{contents_shape, stack_shape}
use Rattle.sd_pieces.specs.cut.Naming.{AreContentsNamed, AreFoundNamed, AreMemoriesNamed, names_at}
use Rattle.sd_pieces.specs.cut.Merged.{kept, drained, outermost, IsPrepared, IsMerged}
use Rattle.sd_graph.specs.ContainerParts.{Containers}
use Rattle.sd_graph.specs.Mode.{Mode, Read, Write, Resolve, Push, Take}
use Rattle.sd_prop.specs.propagation.Accesses.{Access}
use Rattle.sd_mem.specs.mem.Shaped.{Shaped, alone, MayHave, MayAllHave}
use Rattle.sd_cut.specs.Windowed.{numbers_in}
use Rattle.sd_cut.specs.Marked.{MarksElement, MarksStream, AreAccessesMarked}
use Rattle.sd_part.specs.Boxes.{NumberBox}
use Rattle.sd_part.specs.Store.{AreMarkedFor, IsLentFor}
use Rattle.sd_part.specs.Whole.{all_kept, IsOfWidths}

same-number : (one other : ℕ) → Some one ≡ Some other → one ≡ other
same-number one other e = cc

-- ---- it is prepared for itself

pub prepared-self : (memories : Memories) → IsPrepared all_kept memories memories
prepared-self memories = record {
  kept_so = λ container element is. (refl, refl);
  drained_so = λ container is. (refl, refl);
  gathered_so = λ container element by is. cc;
  appended_so = λ container is. cc;
}

contents-self : (names : ℕ → Option ℕ) → ((element : ℕ) → names element ≡ Some element) → (contents : Contents) → AreContentsNamed names contents contents
contents-self names own (array width elements) = (refl, λ element number is. ap (slice_get elements) (same-number element number (sym (own element) ∙ is)))
contents-self names own (stream width values) = (refl, refl)

found-self : (names : ℕ → Option ℕ) → ((element : ℕ) → names element ≡ Some element) → (found : Option Contents) → AreFoundNamed names found found
found-self names own None = tt
found-self names own (Some contents) = contents-self names own contents

own-numbers : (containers : Containers) (level container element : ℕ) → names_at (numbers_in containers []) 0 level container element ≡ Some element
own-numbers containers zero container element = refl
own-numbers containers (suc level) container element = refl

pub named-self : (containers : Containers) (memories : Memories) → AreMemoriesNamed (numbers_in containers []) 0 memories memories
named-self containers memories = λ level container. found-self (names_at (numbers_in containers []) 0 level container) (own-numbers containers level container) (contents_found level container memories)

-- ---- it has what accesses may touch

marks-element : (mode : Mode) → MarksElement mode kept
marks-element Read = refl
marks-element Write = refl
marks-element (Resolve by) = inl refl
marks-element Push = tt
marks-element Take = tt

marks-stream : (mode : Mode) → MarksStream mode drained
marks-stream Read = tt
marks-stream Write = tt
marks-stream (Resolve by) = tt
marks-stream Push = inl refl
marks-stream Take = refl

marked-all : (containers : Containers) (values : Values) (accesses : List Access) → AreAccessesMarked containers values (numbers_in containers []) all_kept accesses
marked-all containers values accesses = λ access among. record {
  element = λ index element inside is. marks-element access.mode;
  stream = marks-stream access.mode;
  number = λ index element inside is. (element, refl);
}

pub marked-whole : (boxes : List NumberBox) (containers : Containers) → AreMarkedFor boxes containers [] all_kept
marked-whole boxes containers = record {
  dimensions = λ values accesses are container. tt;
  marked = λ values accesses are. marked-all containers values accesses;
}

-- ---- what is left is merged

pub merged-self : (containers : Containers) (left before : Memory) → stack_shape (left ∷ []) ≡ stack_shape (before ∷ []) → IsMerged (numbers_in containers []) all_kept (left ∷ []) (before ∷ []) (left ∷ [])
merged-self containers left before shape = record {
  shape_so = shape;
  deeper_so = refl;
  untouched_so = λ container element is. cc;
  unused_so = λ container is. cc;
  unnumbered_so = λ container element is. cc;
  kept_so = λ container element number is named. ap (λ (e : ℕ). element_found (outermost container e) (left ∷ [])) (same-number element number named);
  drained_so = λ container is. refl;
  gathered_so = λ container element number by old is named fits found. cc;
  appended_so = λ container values is found. cc;
}

-- ---- its extents stay

one-shape : (first other : Width × Option ℕ) (rest others : List (Width × Option ℕ)) → first ∷ rest ≡ other ∷ others → (first ≡ other) × (rest ≡ others)
one-shape first other rest others e = (cc, cc)

no-length : (count : ℕ) → None ≡ Some count → ⊥
no-length count e = cc

may-have : (shape : List ℕ) (contents other : Contents) → MayHave shape contents → contents_shape other ≡ contents_shape contents → MayHave shape other
may-have shape contents (array width elements) may same = tt
may-have shape (array width elements) (stream other values) may same = absurd (no-length (length elements) (ap (λ (p : Width × Option ℕ). p.1) same))
may-have shape (stream width values) (stream other others) may same = may

pub may-still : (shapes : List (List ℕ)) (memory other : Memory) → MayAllHave shapes memory → map contents_shape other ≡ map contents_shape memory → MayAllHave shapes other
may-still [] [] [] may same = tt
may-still [] [] (contents ∷ other) may same = cc
may-still [] (contents ∷ memory) other may same = absurd may
may-still (shape ∷ shapes) [] other may same = absurd may
may-still (shape ∷ shapes) (contents ∷ memory) [] may same = cc
may-still (shape ∷ shapes) (contents ∷ memory) (first ∷ other) may same =
    let both = one-shape (contents_shape first) (contents_shape contents) (map contents_shape other) (map contents_shape memory) same in
    (may-have shape contents first may.0 both.0, may-still shapes memory other may.1 both.1)

pub one-stack : (left lent : Memory) → stack_shape (left ∷ []) ≡ stack_shape (lent ∷ []) → map contents_shape left ≡ map contents_shape lent
one-stack left lent same = cc

-- ---- in the words of stores

pub lent-self : (containers : Containers) (memory : Shaped) → IsOfWidths memory → IsLentFor containers [] all_kept memory memory
lent-self containers memory widths = record {
  widths = widths.0;
  lent_widths = widths.0;
  lent_values = widths.1;
  memories = alone memory;
  prepared = prepared-self (alone memory);
  named = named-self containers (alone memory);
}
