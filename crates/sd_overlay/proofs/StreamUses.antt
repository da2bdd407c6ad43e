-- What is committed of a stream that was cut, where a value is pushed to it or taken from it.
use Rattle.std.proofs.Common.{◌≡◌, ℕ, zero, suc, ◌≤◌, ℤ, List, [], ◌∷◌, ◌++◌, map, drop, length, Option, Some, None, slice_get, refl, sym, ◌∙◌, ap, arith}
use Rattle.std.proofs.lemmas.List.{map-append, append_assoc}
use Rattle.sd_num.specs.Width.{wrapped_to}
use Rattle.sd_num.specs.declared.width.Width.{Width}
use Rattle.sd_num.proofs.StoredLemmas.{wrapped_to-twice}
use Rattle.sd_work.specs.Change.{without}
use Rattle.sd_cut.specs.declared.streams.CutStream.{CutStream}
use Rattle.sd_cut.specs.declared.streams.StreamUse.{StreamUse}
use Rattle.sd_cut.specs.declared.streams.StreamUse.TheVariants.{Unused, Drained, Appended}
use Rattle.sd_cut.specs.Streams.{stream_seen, next_cut, one_more, stream_taken, stream_appended, appended_use, pushed_by, taken_by, stream_becomes}
use Rattle.sd_overlay.specs.Used.{IsUsedSo}

append-none : {A : Type 0} (xs : List A) → xs ++ [] ≡ xs
append-none [] = refl
append-none (x ∷ xs) = ap (λ l. x ∷ l) (append-none xs)

drop-before : {A : Type 0} (n : ℕ) (xs ys : List A) → n ≤ length xs → drop n (xs ++ ys) ≡ drop n xs ++ ys
drop-before zero xs ys few = refl
drop-before (suc n) [] ys few = absurd (omega (arith, few))
drop-before (suc n) (x ∷ xs) ys few = drop-before n xs ys (omega (arith, few))

drop-one : (n : ℕ) (xs : List ℤ) → drop (suc n) xs ≡ without 0 (drop n xs)
drop-one zero [] = refl
drop-one zero (x ∷ xs) = refl
drop-one (suc n) [] = refl
drop-one (suc n) (x ∷ xs) = drop-one n xs

drop-past : (n : ℕ) (xs : List ℤ) → slice_get xs n ≡ None → drop n xs ≡ []
drop-past zero [] none = refl
drop-past zero (x ∷ xs) none = cc
drop-past (suc n) [] none = refl
drop-past (suc n) (x ∷ xs) none = drop-past n xs none

get-within : (n : ℕ) (xs : List ℤ) (x : ℤ) → slice_get xs n ≡ Some x → suc n ≤ length xs
get-within n [] x is = cc
get-within zero (y ∷ xs) x is = omega arith
get-within (suc n) (y ∷ xs) x is = let rest = get-within n xs x is in omega (arith, rest)

-- what is in the memory's stream is what work sees of it
pub seen-becomes : (w : Width) (s : CutStream) (pushed : List ℤ) → IsUsedSo s.usage s.taken s.opening pushed → map (wrapped_to w) pushed ≡ pushed → stream_becomes w (Some s) pushed s.opening ≡ stream_seen s pushed
seen-becomes w s pushed used fit = on s.usage used
  where
    on : (usage : StreamUse) → IsUsedSo usage s.taken s.opening pushed → drop (taken_by usage s.taken) (s.opening ++ map (wrapped_to w) (pushed_by usage pushed)) ≡ drop s.taken s.opening ++ pushed
    on Unused h = append-none s.opening ∙ sym (append-none s.opening) ∙ (λ i. drop (sym h.0 i) s.opening ++ sym h.1 i)
    on Drained h = ap (λ l. drop s.taken (s.opening ++ l)) fit ∙ drop-before s.taken s.opening pushed h
    on Appended h = ap (λ l. s.opening ++ l) fit ∙ (λ i. drop (sym h i) s.opening ++ pushed)

-- one more value is pushed
pub pushed-becomes : (w : Width) (s : CutStream) (pushed values : List ℤ) (v : ℤ) → IsUsedSo s.usage s.taken s.opening pushed → (s.usage ≡ Drained → values ≡ s.opening) →
    stream_becomes w (Some (stream_appended s)) (pushed ++ wrapped_to w v ∷ []) values ≡ stream_becomes w (Some s) pushed values ++ wrapped_to w v ∷ []
pushed-becomes w s pushed values v used drained = on s.usage used drained
  where
    more : map (wrapped_to w) (pushed ++ wrapped_to w v ∷ []) ≡ map (wrapped_to w) pushed ++ wrapped_to w v ∷ []
    more = map-append (wrapped_to w) pushed (wrapped_to w v ∷ []) ∙ ap (λ x. map (wrapped_to w) pushed ++ x ∷ []) (wrapped_to-twice w v)

    longer : values ++ map (wrapped_to w) (pushed ++ wrapped_to w v ∷ []) ≡ (values ++ map (wrapped_to w) pushed) ++ wrapped_to w v ∷ []
    longer = ap (λ l. values ++ l) more ∙ sym (append_assoc values (map (wrapped_to w) pushed) (wrapped_to w v ∷ []))

    length-both : (xs ys : List ℤ) → length xs ≤ length (xs ++ ys)
    length-both [] ys = omega arith
    length-both (x ∷ xs) ys = let rest = length-both xs ys in omega (arith, rest)

    on : (usage : StreamUse) → IsUsedSo usage s.taken s.opening pushed → (usage ≡ Drained → values ≡ s.opening) →
        drop (taken_by (appended_use usage) s.taken) (values ++ map (wrapped_to w) (pushed_by (appended_use usage) (pushed ++ wrapped_to w v ∷ [])))
        ≡ drop (taken_by usage s.taken) (values ++ map (wrapped_to w) (pushed_by usage pushed)) ++ wrapped_to w v ∷ []
    on Unused h same = longer ∙ ap (λ l. (values ++ map (wrapped_to w) l) ++ wrapped_to w v ∷ []) h.1
    on Drained h same =
        let opened = ap length (same refl) in
        let all = length-both values (map (wrapped_to w) pushed) in
        ap (drop s.taken) longer ∙ drop-before s.taken (values ++ map (wrapped_to w) pushed) (wrapped_to w v ∷ []) (omega (arith, h, opened, all))
    on Appended h same = longer

-- what is left pushed where the oldest value is taken: one less, where nothing is left of what was cut
abbrev pub pushed_left : (next : Option ℤ) → List ℤ → List ℤ
pushed_left None pushed = without 0 pushed
pushed_left (Some value) pushed = pushed

without-fits : (w : Width) (pushed : List ℤ) → map (wrapped_to w) pushed ≡ pushed → map (wrapped_to w) (without 0 pushed) ≡ without 0 pushed
without-fits w [] fit = refl
without-fits w (x ∷ xs) fit = cc

-- the oldest value is taken
pub taken-becomes : (w : Width) (s : CutStream) (pushed : List ℤ) → IsUsedSo s.usage s.taken s.opening pushed → map (wrapped_to w) pushed ≡ pushed →
    stream_becomes w (Some (stream_taken s)) (pushed_left (next_cut s) pushed) s.opening ≡ without 0 (stream_seen s pushed)
taken-becomes w s pushed used fit = on (next_cut s) refl
  where
    few : s.taken ≤ length s.opening
    few = by s.usage used
      where
        by : (usage : StreamUse) → IsUsedSo usage s.taken s.opening pushed → s.taken ≤ length s.opening
        by Unused h = let none = h.0 in omega (arith, none)
        by Drained h = h
        by Appended h = omega (arith, h)

    on : (o : Option ℤ) → slice_get s.opening s.taken ≡ o → drop (one_more o s.taken) (s.opening ++ map (wrapped_to w) (pushed_left o pushed)) ≡ without 0 (drop s.taken s.opening ++ pushed)
    on None is =
        ap (λ l. drop s.taken (s.opening ++ l)) (without-fits w pushed fit)
        ∙ drop-before s.taken s.opening (without 0 pushed) few
        ∙ ap (λ l. l ++ without 0 pushed) (drop-past s.taken s.opening is)
        ∙ ap (λ l. without 0 (l ++ pushed)) (sym (drop-past s.taken s.opening is))
    on (Some value) is =
        ap (λ l. drop (suc s.taken) (s.opening ++ l)) fit
        ∙ drop-one s.taken (s.opening ++ pushed)
        ∙ ap (without 0) (drop-before s.taken s.opening pushed few)
