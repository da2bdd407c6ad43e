-- What uses of a stream that was cut keep of it.
use Rattle.std.proofs.Common.{◌≡◌, ℕ, zero, suc, ◌≤◌, ℤ, List, [], ◌∷◌, length, Option, Some, None, option_map, slice_index_or, refl, sym, ◌∙◌, ap, subst, arith}
use Rattle.sd_work.specs.Change.{changed_at}
use Rattle.sd_cut.specs.declared.streams.CutStream.{CutStream}
use Rattle.sd_cut.specs.declared.streams.StreamUse.{StreamUse}
use Rattle.sd_cut.specs.declared.streams.StreamUse.TheVariants.{Unused, Drained, Appended}
use Rattle.sd_cut.specs.Streams.{appended_use, stream_appended, stream_taken}
use Rattle.sd_cut.specs.Using.{pushed_in, pushed_to, stream_at, taken_in}
use Rattle.sd_cut.specs.Overlaid.{Overlaid}
use Rattle.sd_cut.proofs.Sounds.{taken-keeps}
use Rattle.sd_overlay.specs.Used.{IsUsedSo}

one-changed : (f : CutStream → CutStream) (streams : List (Option CutStream)) (c : ℕ) → slice_index_or (changed_at c (option_map f) streams) c None ≡ option_map f (slice_index_or streams c None)
one-changed f [] c = refl
one-changed f (s ∷ streams) zero = refl
one-changed f (s ∷ streams) (suc c) = one-changed f streams c

same-some : {A : Type 0} (x y : A) → Some x ≡ Some y → x ≡ y
same-some x y e = cc

-- the stream that comes of one that was cut
comes : (f : CutStream → CutStream) (streams : List (Option CutStream)) (c : ℕ) (s next : CutStream) → slice_index_or streams c None ≡ Some s → slice_index_or (changed_at c (option_map f) streams) c None ≡ Some next → f s ≡ next
comes f streams c s next is after = same-some (f s) next (sym (one-changed f streams c ∙ ap (option_map f) is) ∙ after)

within : (usage : StreamUse) (taken : ℕ) (opening pushed : List ℤ) → IsUsedSo usage taken opening pushed → taken ≤ length opening
within Unused taken opening pushed h = let none = h.0 in omega (arith, none)
within Drained taken opening pushed h = h
within Appended taken opening pushed h = omega (arith, h)

appended-so : (usage : StreamUse) (taken : ℕ) (opening pushed more : List ℤ) → IsUsedSo usage taken opening pushed → IsUsedSo (appended_use usage) taken opening more
appended-so Unused taken opening pushed more h = h.0
appended-so Drained taken opening pushed more h = h
appended-so Appended taken opening pushed more h = h

pub pushed-so : (cut : Overlaid) (c : ℕ) (s next : CutStream) (value : ℤ) → stream_at cut c ≡ Some s → IsUsedSo s.usage s.taken s.opening (pushed_to cut c) → stream_at (pushed_in c value cut) c ≡ Some next →
    IsUsedSo next.usage next.taken next.opening (pushed_to (pushed_in c value cut) c)
pushed-so cut c s next value is so after =
    subst (λ (n : CutStream). IsUsedSo n.usage n.taken n.opening (pushed_to (pushed_in c value cut) c)) (comes stream_appended cut.streams c s next is after)
    (appended-so s.usage s.taken s.opening (pushed_to cut c) (pushed_to (pushed_in c value cut) c) so)

pub taken-so : (cut : Overlaid) (c : ℕ) (s next : CutStream) → stream_at cut c ≡ Some s → IsUsedSo s.usage s.taken s.opening (pushed_to cut c) → stream_at (taken_in c cut) c ≡ Some next →
    IsUsedSo next.usage next.taken next.opening (pushed_to (taken_in c cut) c)
taken-so cut c s next is so after =
    subst (λ (n : CutStream). IsUsedSo n.usage n.taken n.opening (pushed_to (taken_in c cut) c)) (comes stream_taken cut.streams c s next is after)
    (taken-keeps s (within s.usage s.taken s.opening (pushed_to cut c) so))
