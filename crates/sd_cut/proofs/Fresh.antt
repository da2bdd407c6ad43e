-- What is just cut fits each memory of the same shapes, and work may run on it.
use Rattle.std.proofs.Common.{◌≡◌, ℕ, zero, suc, ◌+◌, ◌<◌, ◌≤◌, List, [], ◌∷◌, ◌++◌, length, Option, Some, None, option_map, slice_get, slice_index_or, Bool, refl, sym, ◌∙◌, ap, subst, arith}
use Rattle.std.specs.List.{All}
use Rattle.std.proofs.lemmas.Option.{slice_get_within}
use Rattle.sd_num.specs.declared.width.Width.TheVariants.{W64}
use Rattle.sd_work.specs.Memory.{Contents, stream, Memory}
use Rattle.sd_mem.specs.mem.Shaped.{Shaped, contents_at}
use Rattle.sd_windows.specs.Windows as windows
use Rattle.sd_cut.specs.declared.elements.CutElement.{CutElement}
use Rattle.sd_cut.specs.declared.elements.ElementMark.{ElementMark}
use Rattle.sd_cut.specs.declared.elements.ElementMark.TheVariants.{Untouched, Kept, Replaced, Gathered}
use Rattle.sd_cut.specs.declared.streams.CutStream.{CutStream}
use Rattle.sd_cut.specs.declared.streams.StreamUse.{StreamUse}
use Rattle.sd_cut.specs.declared.streams.StreamUse.TheVariants.{Unused, Drained, Appended}
use Rattle.sd_cut.specs.declared.window.Window.{Window}
use Rattle.sd_cut.specs.Windowed.{window_of, window_at}
use Rattle.sd_cut.specs.Elements.{cut_at, IsUntouched}
use Rattle.sd_cut.specs.Cutting.{begun_contents, begun_with, all_begun, is_wanted, IsCutOf}
use Rattle.sd_cut.specs.Using.{stream_at}
use Rattle.sd_cut.specs.Fits.{IsReady}
use Rattle.sd_cut.specs.Overlaid.{Overlaid}

-- ---- work may run on it

abbrev IsUntouchedMark : ElementMark → Type 0
IsUntouchedMark Untouched = Unit
IsUntouchedMark Kept = ⊥
IsUntouchedMark Replaced = ⊥
IsUntouchedMark (Gathered by) = ⊥

abbrev IsUnusedStream : StreamUse → Type 0
IsUnusedStream Unused = Unit
IsUnusedStream Drained = ⊥
IsUnusedStream Appended = ⊥

index-is : {A : Type 0} (xs : List A) (k : ℕ) (x : A) → slice_get xs k ≡ Some x → slice_index_or xs k x ≡ x
index-is [] k x h = cc
index-is (y ∷ xs) zero x h = cc
index-is (y ∷ xs) (suc k) x h = index-is xs k x h

behind : {A : Type 0} (xs : List A) (k : ℕ) (d : A) → length xs ≤ k → slice_index_or xs k d ≡ d
behind [] k d h = refl
behind (y ∷ xs) zero d h = absurd (omega (arith, h))
behind (y ∷ xs) (suc k) d h = behind xs k d (omega (arith, h))

decide : (k n : ℕ) → (n ≤ k → ⊥) → k < n
decide k zero h = absurd (h (omega arith))
decide zero (suc n) h = omega arith
decide (suc k) (suc n) h = let less = decide k n (λ l. h (omega (arith, l))) in omega (arith, less)

none-some : (s : CutStream) → None ≡ Some s → ⊥
none-some s h = cc

-- a stream that was just cut is unused
fresh-stream : (memory : Shaped) (c : ℕ) (wanted : Bool) (o : Option CutStream) (s : CutStream) → IsCutOf memory c wanted o → o ≡ Some s → s.usage ≡ Unused
fresh-stream memory c wanted None s h is = cc
fresh-stream memory c wanted (Some cut) s h is = ap use-of (sym is) ∙ ap (λ (t : CutStream). t.usage) h.2
  where
    use-of : Option CutStream → StreamUse
    use-of None = Unused
    use-of (Some t) = t.usage

pub fresh-ready : (memory : Shaped) (list : List (Option Window)) (numbers : List ℕ) (cut : Overlaid) → ((c : ℕ) → All IsUntouched (slice_index_or cut.arrays c [])) → length cut.streams ≡ length list →
    ((c : ℕ) → c < length list → IsCutOf memory c (is_wanted (slice_index_or list c None) numbers c) (slice_index_or cut.streams c None)) → IsReady cut
fresh-ready memory list numbers cut untouched count streams = record {
  gathered = λ c k one by is m. elim (subst IsUntouchedMark (sym (mark-of c k one is) ∙ m) tt) [ ];
  drained = λ c s is u. elim (subst IsUnusedStream (sym (use-of c s is) ∙ u) tt) [ ];
  appended = λ c s is u. elim (subst IsUnusedStream (sym (use-of c s is) ∙ u) tt) [ ];
}
  where
    mark-of : (c k : ℕ) (one : CutElement) → cut_at cut.arrays c k ≡ Some one → one.mark ≡ Untouched
    mark-of c k one is = subst IsUntouched (index-is (slice_index_or cut.arrays c []) k one is) (untouched c k one (slice_get_within (slice_index_or cut.arrays c []) k one is))

    use-of : (c : ℕ) (s : CutStream) → stream_at cut c ≡ Some s → s.usage ≡ Unused
    use-of c s is = fresh-stream memory c (is_wanted (slice_index_or list c None) numbers c) (stream_at cut c) s (streams c within) is
      where
        within : c < length list
        within = decide c (length list) (λ more. let none = behind cut.streams c None (omega (arith, more, count)) in none-some s (sym none ∙ is))

-- ---- what is left at first

begun-is : (memory : Shaped) (c : ℕ) (w : Option windows.Window) (cuts : List CutElement) (s : Option CutStream) (left : Shaped) → (begun_with memory c w cuts s left).contents ≡ left.contents ++ begun_contents memory c w cuts s ∷ []
begun-is memory c None cuts None left = refl
begun-is memory c None cuts (Some s) left = refl
begun-is memory c (Some w) cuts s left = refl

old-one : (xs : Memory) (x : Contents) (k : ℕ) (d : Contents) → k < length xs → slice_index_or (xs ++ x ∷ []) k d ≡ slice_index_or xs k d
old-one [] x k d h = absurd (omega (arith, h))
old-one (y ∷ xs) x zero d h = refl
old-one (y ∷ xs) x (suc k) d h = old-one xs x k d (omega (arith, h))

new-one : (xs : Memory) (x d : Contents) (k : ℕ) → length xs ≡ k → slice_index_or (xs ++ x ∷ []) k d ≡ x
new-one [] x d zero h = refl
new-one [] x d (suc k) h = cc
new-one (y ∷ xs) x d zero h = cc
new-one (y ∷ xs) x d (suc k) h = new-one xs x d k (omega (arith, h))

one-longer : (xs : Memory) (x : Contents) → length (xs ++ x ∷ []) ≡ suc (length xs)
one-longer [] x = refl
one-longer (y ∷ xs) x = ap suc (one-longer xs x)

-- those that are there stay
stays : (memory : Shaped) (list : List (Option Window)) (arrays : List (List CutElement)) (streams : List (Option CutStream)) (d k : ℕ) (left : Shaped) (x : Contents) → k < length left.contents →
    slice_index_or (all_begun memory d list arrays streams left).contents k x ≡ slice_index_or left.contents k x
stays memory [] arrays streams d k left x h = refl
stays memory (w ∷ list) arrays streams d k left x h =
    let one = begun_contents memory d (option_map window_of w) (slice_index_or arrays d []) (slice_index_or streams d None) in
    let is = begun-is memory d (option_map window_of w) (slice_index_or arrays d []) (slice_index_or streams d None) left in
    let long = ap length is ∙ one-longer left.contents one in
    stays memory list arrays streams (suc d) k (begun_with memory d (option_map window_of w) (slice_index_or arrays d []) (slice_index_or streams d None) left) x (omega (arith, h, long))
    ∙ ap (λ own. slice_index_or own k x) is
    ∙ old-one left.contents one k x h

begun-at : (memory : Shaped) (list : List (Option Window)) (arrays : List (List CutElement)) (streams : List (Option CutStream)) (d m c : ℕ) (left : Shaped) (x : Contents) → length left.contents ≡ d → d + m ≡ c → m < length list →
    slice_index_or (all_begun memory d list arrays streams left).contents c x
    ≡ begun_contents memory c (option_map window_of (slice_index_or list m None)) (slice_index_or arrays c []) (slice_index_or streams c None)
begun-at memory [] arrays streams d m c left x count at less = absurd (omega (arith, less))
begun-at memory (w ∷ list) arrays streams d zero c left x count at less =
    let here : d ≡ c = omega (arith, at) in
    let one = begun_contents memory d (option_map window_of w) (slice_index_or arrays d []) (slice_index_or streams d None) in
    let is = begun-is memory d (option_map window_of w) (slice_index_or arrays d []) (slice_index_or streams d None) left in
    let long = ap length is ∙ one-longer left.contents one in
    stays memory list arrays streams (suc d) c (begun_with memory d (option_map window_of w) (slice_index_or arrays d []) (slice_index_or streams d None) left) x (omega (arith, long, count, here))
    ∙ ap (λ own. slice_index_or own c x) is
    ∙ new-one left.contents one x c (count ∙ here)
    ∙ ap (λ k. begun_contents memory k (option_map window_of w) (slice_index_or arrays k []) (slice_index_or streams k None)) here
begun-at memory (w ∷ list) arrays streams d (suc m) c left x count at less =
    let one = begun_contents memory d (option_map window_of w) (slice_index_or arrays d []) (slice_index_or streams d None) in
    let is = begun-is memory d (option_map window_of w) (slice_index_or arrays d []) (slice_index_or streams d None) left in
    let long = ap length is ∙ one-longer left.contents one in
    begun-at memory list arrays streams (suc d) m c (begun_with memory d (option_map window_of w) (slice_index_or arrays d []) (slice_index_or streams d None) left) x (omega (arith, long, count)) (omega (arith, at)) (omega (arith, less))

pub left-at : (memory : Shaped) (list : List (Option Window)) (cut : Overlaid) (c : ℕ) → cut.windows ≡ list → cut.left ≡ all_begun memory 0 cut.windows cut.arrays cut.streams (record { shapes = []; contents = [] }) → c < length list →
    contents_at cut.left c ≡ begun_contents memory c (window_at list c) (slice_index_or cut.arrays c []) (slice_index_or cut.streams c None)
left-at memory list cut c same left less =
    let here : 0 + c ≡ c = omega arith in
    ap (λ (m : Shaped). contents_at m c) left
    ∙ ap (λ l. slice_index_or (all_begun memory 0 l cut.arrays cut.streams (record { shapes = []; contents = [] })).contents c (stream W64 [])) same
    ∙ begun-at memory list cut.arrays cut.streams 0 c c (record { shapes = []; contents = [] }) (stream W64 []) refl here less
