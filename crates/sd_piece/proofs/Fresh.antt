-- A cut that nothing has touched commits nothing.
use Rattle.std.proofs.Common.{◌≡◌, ℕ, suc, List, [], ◌∷◌, ◌++◌, Option, Some, None, slice_get, slice_index_or, map, replicate, refl, ◌∙◌, ap}
use Rattle.sd_work.specs.Memory.{waiting, look}
use Rattle.sd_work.specs.Change.{Change, push, take}
use Rattle.sd_mem.specs.mem.Shaped.{Shaped, alone, element}
use Rattle.sd_cut.specs.declared.elements.CutElement.{CutElement}
use Rattle.sd_cut.specs.declared.elements.ElementMark.{ElementMark}
use Rattle.sd_cut.specs.declared.elements.ElementMark.TheVariants.{Untouched}
use Rattle.sd_cut.specs.declared.streams.CutStream.{CutStream}
use Rattle.sd_cut.specs.declared.streams.StreamUse.{StreamUse}
use Rattle.sd_cut.specs.declared.streams.StreamUse.TheVariants.{Unused}
use Rattle.sd_cut.specs.Elements.{all_changed, all_effects, effects_from, effect_of}
use Rattle.sd_cut.specs.Streams.{all_pushes, all_takes, pushed_by, taken_by}
use Rattle.sd_cut.specs.Using.{committed}
use Rattle.sd_cut.specs.Overlaid.{Overlaid}
use Rattle.sd_cut.proofs.Performing.{all_changed-append}
use Rattle.sd_part.specs.Boxes.{NumberBox}
use Rattle.sd_part.specs.Cut.{IsCutFor}

-- no stream of these was used
abbrev AreUnused : List (Option CutStream) → Type 0
AreUnused streams = (k : ℕ) (s : CutStream) → slice_index_or streams k None ≡ Some s → s.usage ≡ Unused

no-pushes : (c : ℕ) (left : Shaped) (streams : List (Option CutStream)) → AreUnused streams → all_pushes c left streams ≡ []
no-pushes c left [] h = refl
no-pushes c left (None ∷ streams) h = no-pushes (suc c) left streams (λ k. h (suc k))
no-pushes c left (Some s ∷ streams) h =
    ap (λ (u : StreamUse). map (push 0 c) (pushed_by u (waiting 0 c (alone left))) ++ all_pushes (suc c) left streams) (h 0 s refl) ∙ no-pushes (suc c) left streams (λ k. h (suc k))

no-takes : (c : ℕ) (streams : List (Option CutStream)) → AreUnused streams → all_takes c streams ≡ []
no-takes c [] h = refl
no-takes c (None ∷ streams) h = no-takes (suc c) streams (λ k. h (suc k))
no-takes c (Some s ∷ streams) h =
    ap (λ (u : StreamUse). replicate (taken_by u s.taken) (take 0 c 0) ++ all_takes (suc c) streams) (h 0 s refl) ∙ no-takes (suc c) streams (λ k. h (suc k))

no-effects : (c n : ℕ) (left : Shaped) (cuts : List CutElement) (memory : Shaped) → ((k : ℕ) (one : CutElement) → slice_get cuts k ≡ Some one → one.mark ≡ Untouched) → all_changed (effects_from c n left cuts) memory ≡ memory
no-effects c n left [] memory h = refl
no-effects c n left (cut ∷ cuts) memory h =
    ap (λ (mark : ElementMark). all_changed (effect_of mark (element c cut.place) (look (element c n) (alone left)) ∷ effects_from c (suc n) left cuts) memory) (h 0 cut refl)
    ∙ no-effects c (suc n) left cuts memory (λ k. h (suc k))

none-at-all : (c : ℕ) (left : Shaped) (arrays : List (List CutElement)) (memory : Shaped) → ((k n : ℕ) (one : CutElement) → slice_get (slice_index_or arrays k []) n ≡ Some one → one.mark ≡ Untouched) →
    all_changed (all_effects c left arrays) memory ≡ memory
none-at-all c left [] memory h = refl
none-at-all c left (cuts ∷ arrays) memory h =
    all_changed-append (effects_from c 0 left cuts) (all_effects (suc c) left arrays) memory
    ∙ ap (all_changed (all_effects (suc c) left arrays)) (no-effects c 0 left cuts memory (λ n. h 0 n))
    ∙ none-at-all (suc c) left arrays memory (λ k. h (suc k))

pub fresh-commits-nothing : (boxes : List NumberBox) (cut : Overlaid) (memory : Shaped) → IsCutFor boxes cut → committed cut memory ≡ memory
fresh-commits-nothing boxes cut memory for_them =
    ap (λ (changes : List Change). all_changed ((changes ++ all_takes 0 cut.streams) ++ all_effects 0 cut.left cut.arrays) memory) (no-pushes 0 cut.left cut.streams unused)
    ∙ ap (λ (changes : List Change). all_changed (changes ++ all_effects 0 cut.left cut.arrays) memory) (no-takes 0 cut.streams unused)
    ∙ none-at-all 0 cut.left cut.arrays memory for_them.fresh.untouched
  where
    unused : AreUnused cut.streams
    unused k s is = (for_them.unused k s is).usage
