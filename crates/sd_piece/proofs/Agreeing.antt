-- What was just cut of a memory, however boxes mark it, agrees with that memory.
use Rattle.std.proofs.Common.{◌≡◌, ℕ, zero, suc, ◌+◌, ◌<◌, ℤ, pos, List, [], ◌∷◌, length, Option, Some, None, option_map, IsSome, Bool, slice_get, slice_index_or, refl, sym, ◌∙◌, ap, subst, arith}
use Rattle.std.specs.List.{Contains}
use Rattle.std.specs.Option.{option_and_then}
use Rattle.std.proofs.lemmas.List.Elements.{All-contains}
use Rattle.sd_range.specs.Subset.{elements}
use Rattle.sd_range.proofs.Members.{Contains-first, Contains-later}
use Rattle.sd_work.specs.Memory.{elements_of, waiting, seen}
use Rattle.sd_mem.specs.mem.Shaped.{Shaped, alone, contents_at, shape_at, element, place_in}
use Rattle.sd_windows.specs.Windows as windows
use Rattle.sd_cut.specs.declared.elements.CutElement.{CutElement}
use Rattle.sd_cut.specs.declared.elements.ElementMark.{ElementMark}
use Rattle.sd_cut.specs.declared.elements.ElementMark.TheVariants.{Untouched, Kept, Replaced, Gathered}
use Rattle.sd_cut.specs.declared.streams.CutStream.{CutStream}
use Rattle.sd_cut.specs.declared.streams.StreamUse.{StreamUse}
use Rattle.sd_cut.specs.declared.streams.StreamUse.TheVariants.{Unused, Drained, Appended}
use Rattle.sd_cut.specs.Cells.{subset_within, value_or_zero}
use Rattle.sd_cut.specs.Cutting.{element_there, is_wanted, IsCutOf, IsWithin}
use Rattle.sd_cut.specs.Elements.{told, told_at, AreOfWindow, IfKept, AreAsCut, AreAllAsCut}
use Rattle.sd_cut.specs.Fits.{with_left}
use Rattle.sd_cut.specs.Overlaid.{Overlaid}
use Rattle.sd_cut.specs.Streams.{IfDrained, AreStreamsAsCut}
use Rattle.sd_cut.specs.Using.{Agrees}
use Rattle.sd_cut.specs.Windowed.{window_at}
use Rattle.sd_part.specs.Boxes.{NumberBox}
use Rattle.sd_part.specs.Cut.{IsJustCut}
use Rattle.sd_part.specs.Marking.{with_boxes}
use Rattle.sd_part.specs.Marks.{streams_of}
use Rattle.sd_graph.specs.PlainTree.{GraphTree}
use Rattle.sd_graph.specs.TreeFold.{item_tree}
use Rattle.sd_graph.specs.TreeParts.{containers_of}
use Rattle.sd_prop.specs.propagation.Accesses.{kind_accesses}
use Rattle.sd_part.specs.Hulls.{AreWindowsFor}
use Rattle.sd_part.proofs.CutStore.{boxes-marked}
use Rattle.sd_part.proofs.Frames.{HaveOneFrame, get-map, element-there, stream-there}
use Rattle.sd_piece.specs.declared.piece.Piece.{Piece}
use Rattle.sd_piece.specs.declared.piece.PieceAt.{PieceAt}
use Rattle.sd_piece.specs.Held.{HasTouched}
use Rattle.sd_piece.specs.Run.{IsCutFrom}
use Rattle.sd_piece.proofs.Touched.{windows-here}

-- ---- elements

-- an element is among an array's elements as it was
abbrev IsAs : Shaped → (c : ℕ) → CutElement → Type 0
IsAs memory c one = slice_get (elements_of (contents_at memory c)) one.place ≡ Some one.opening

-- the value at a number
abbrev at-or-zero : Shaped → (c : ℕ) → Option ℕ → ℤ
at-or-zero memory c place = value_or_zero (seen (option_map (element c) place) (alone memory))

value-at : (xs : List ℤ) (n : ℕ) (x : ℤ) → slice_get xs n ≡ Some x → slice_index_or xs n (pos 0) ≡ x
value-at [] n x h = cc
value-at (y ∷ xs) zero x h = cc
value-at (y ∷ xs) (suc n) x h = value-at xs n x h

is-some : (o : Option ℤ) → IsSome o → (x : ℤ) × (o ≡ Some x)
is-some None h = cc
is-some (Some x) h = (x, refl)

-- an element that is there, and was told so
there-as : (memory : Shaped) (c : ℕ) (place : Option ℕ) (one : CutElement) → place ≡ Some one.place → at-or-zero memory c place ≡ one.opening → IsSome (option_and_then (slice_get (elements_of (contents_at memory c))) place) → IsAs memory c one
there-as memory c None one same value there = cc
there-as memory c (Some place) one same value there =
    let found = is-some (slice_get (elements_of (contents_at memory c)) place) there in
    let opening : found.0 ≡ one.opening = sym (value-at (elements_of (contents_at memory c)) place found.0 found.1) ∙ value in
    let here : place ≡ one.place = same-place place one.place same in
    subst (λ p. slice_get (elements_of (contents_at memory c)) p ≡ Some one.opening) here (found.1 ∙ ap Some opening)
  where
    same-place : (p q : ℕ) → Some p ≡ Some q → p ≡ q
    same-place p q e = cc

get-among : (xs : List (List ℤ)) (n : ℕ) (x : List ℤ) → slice_get xs n ≡ Some x → Contains xs x
get-among [] n x e = cc
get-among (y ∷ xs) zero x e = subst (λ z. Contains (y ∷ xs) z) (same y x e) (Contains-first y xs)
  where
    same : (a b : List ℤ) → Some a ≡ Some b → a ≡ b
    same a b e = cc
get-among (y ∷ xs) (suc n) x e = Contains-later y xs x (get-among xs n x e)

told-as : (memory : Shaped) (c : ℕ) (index : List ℤ) (one : CutElement) → told one ≡ told_at memory c index → IsSome (element_there memory c index) → IsAs memory c one
told-as memory c index one is there =
    there-as memory c (place_in (shape_at memory c) index) one (sym (ap (λ (t : Option ℕ × ℤ). t.0) is)) (sym (ap (λ (t : Option ℕ × ℤ). t.1) is)) there

window-as : (memory : Shaped) (c : ℕ) (window : Option windows.Window) (cuts : List CutElement) → AreOfWindow memory c window cuts → IsWithin memory c window → (k : ℕ) (one : CutElement) → slice_get cuts k ≡ Some one → IsAs memory c one
window-as memory c None cuts of within k one is = absurd (none-some (sym (ap (λ (l : List CutElement). slice_get l k) of) ∙ is))
  where
    none-some : None ≡ Some one → ⊥
    none-some e = cc
window-as memory c (Some window) cuts of within k one is =
    on (slice_get (elements (subset_within window.shift window.extents) []) k) refl
    (sym (get-map (told_at memory c) (elements (subset_within window.shift window.extents) []) k) ∙ ap (λ l. slice_get l k) (sym of) ∙ get-map told cuts k ∙ ap (option_map told) is)
  where
    on : (o : Option (List ℤ)) → slice_get (elements (subset_within window.shift window.extents) []) k ≡ o → option_map (told_at memory c) o ≡ Some (told one) → IsAs memory c one
    on None e h = cc
    on (Some index) e h =
        told-as memory c index one (same-told (told_at memory c index) (told one) h)
        (All-contains (λ index. IsSome (element_there memory c index)) (elements (subset_within window.shift window.extents) []) index within (get-among (elements (subset_within window.shift window.extents) []) k index e))
      where
        same-told : (a b : Option ℕ × ℤ) → Some a ≡ Some b → b ≡ a
        same-told a b e = sym (ap (or-own a) e)
          where
            or-own : Option ℕ × ℤ → Option (Option ℕ × ℤ) → Option ℕ × ℤ
            or-own own None = own
            or-own own (Some t) = t

if-kept : (mark : ElementMark) (X : Type 0) → X → IfKept mark X
if-kept Untouched X x = tt
if-kept Kept X x = x
if-kept Replaced X x = tt
if-kept (Gathered by) X x = tt

each-as : (memory : Shaped) (c : ℕ) (cuts : List CutElement) → ((k : ℕ) (one : CutElement) → slice_get cuts k ≡ Some one → IsAs memory c one) → AreAsCut (elements_of (contents_at memory c)) cuts
each-as memory c [] each = tt
each-as memory c (cut ∷ cuts) each = (if-kept cut.mark (IsAs memory c cut) (each 0 cut refl), each-as memory c cuts (λ k. each (suc k)))

all-as : (memory : Shaped) (c : ℕ) (arrays : List (List CutElement)) → ((k n : ℕ) (one : CutElement) → slice_get (slice_index_or arrays k []) n ≡ Some one → IsAs memory (c + k) one) → AreAllAsCut memory c arrays
all-as memory c [] each = tt
all-as memory c (cuts ∷ arrays) each = (
  each-as memory c cuts (λ n one is. let here : c + 0 ≡ c = omega arith in subst (λ d. IsAs memory d one) here (each 0 n one is)),
  all-as memory (suc c) arrays (λ k n one is. let next : c + suc k ≡ suc c + k = omega arith in subst (λ d. IsAs memory d one) next (each (suc k) n one is)),
)

-- ---- streams

if-drained : (usage : StreamUse) (X : Type 0) → X → IfDrained usage X
if-drained Unused X x = tt
if-drained Drained X x = x
if-drained Appended X x = tt

streams-as : (memory : Shaped) (c : ℕ) (streams : List (Option CutStream)) → ((k : ℕ) (s : CutStream) → slice_index_or streams k None ≡ Some s → waiting 0 (c + k) (alone memory) ≡ s.opening) → AreStreamsAsCut memory c streams
streams-as memory c [] each = tt
streams-as memory c (None ∷ streams) each =
    (tt, streams-as memory (suc c) streams (λ k s is. let next : c + suc k ≡ suc c + k = omega arith in subst (λ d. waiting 0 d (alone memory) ≡ s.opening) next (each (suc k) s is)))
streams-as memory c (Some s ∷ streams) each = (
  if-drained s.usage (waiting 0 c (alone memory) ≡ s.opening) (let here : c + 0 ≡ c = omega arith in subst (λ d. waiting 0 d (alone memory) ≡ s.opening) here (each 0 s refl)),
  streams-as memory (suc c) streams (λ k other is. let next : c + suc k ≡ suc c + k = omega arith in subst (λ d. waiting 0 d (alone memory) ≡ other.opening) next (each (suc k) other is)),
)

below-of : (streams : List (Option CutStream)) (k : ℕ) (s : CutStream) → slice_index_or streams k None ≡ Some s → k < length streams
below-of [] k s is = cc
below-of (first ∷ streams) zero s is = omega arith
below-of (first ∷ streams) (suc k) s is = let rest = below-of streams k s is in omega (arith, rest)

cut-opening : (memory : Shaped) (c : ℕ) (wanted : Bool) (o : Option CutStream) (s : CutStream) → IsCutOf memory c wanted o → o ≡ Some s → s.opening ≡ waiting 0 c (alone memory)
cut-opening memory c wanted None s of is = cc
cut-opening memory c wanted (Some own) s of is = ap (λ (t : CutStream). t.opening) (sym (same own s is) ∙ of.2)
  where
    same : (a b : CutStream) → Some a ≡ Some b → a ≡ b
    same a b e = cc

-- ---- both

pub marked-agrees : (boxes : List NumberBox) (memory left : Shaped) (cut : Overlaid) → IsJustCut boxes memory cut → ((c : ℕ) → IsWithin memory c (window_at cut.windows c)) → Agrees (with_left left (with_boxes boxes cut)) memory
marked-agrees boxes memory left cut just within =
    let frame : HaveOneFrame (with_boxes boxes cut) cut = (boxes-marked boxes boxes cut).frame in (
      all-as memory 0 (with_boxes boxes cut).arrays (λ k n one is.
          let old = element-there (with_boxes boxes cut) cut frame k n one is in
          let was = window-as memory k (window_at cut.windows k) (slice_index_or cut.arrays k []) (just.arrays k) (within k) n old.0 old.1 in
          let here : 0 + k ≡ k = omega arith in
          subst (λ d. IsAs memory d one) (sym here) (subst (λ p. slice_get (elements_of (contents_at memory k)) p ≡ Some one.opening) old.2 (was ∙ ap Some old.3))),
      streams-as memory 0 (with_boxes boxes cut).streams (λ k s is.
          let old = stream-there (with_boxes boxes cut) cut frame k s is in
          let less = below-of cut.streams k old.0 old.1 in
          let count = just.count in
          let opening = cut-opening memory k (is_wanted (slice_index_or cut.windows k None) (streams_of boxes) k) (slice_index_or cut.streams k None) old.0 (just.streams k (omega (arith, less, count))) old.1 in
          let here : 0 + k ≡ k = omega arith in
          subst (λ d. waiting 0 d (alone memory) ≡ s.opening) (sym here) (sym opening ∙ old.2)),
    )

pub piece-agrees : (tree : GraphTree) (memory left : Shaped) (values : List ℤ) (at : PieceAt) (piece : Piece) → IsCutFrom tree memory values at piece → Agrees (with_left left (with_boxes piece.boxes.items piece.cut)) memory
piece-agrees tree memory left values at piece is =
    marked-agrees piece.boxes.items memory left piece.cut is.just (λ c.
    windows-here (containers_of tree) piece.values.items (kind_accesses (item_tree piece.item).1 (containers_of tree) is.may.boxes.0) memory piece.cut.windows c
    (subst (λ (l : List NumberBox). AreWindowsFor l piece.cut.windows) is.may.boxes.1 is.just.windows)
    (subst (HasTouched (containers_of tree) memory) is.may.boxes.1 is.touched))
