-- What uses of streams keep of them, and the oldest value.
use Rattle.std.proofs.Common.{◌≡◌, ℕ, zero, suc, ◌<◌, ◌≤◌, ◌^◌, ℤ, List, [], ◌∷◌, ◌++◌, take, drop, length, slice_get, slice_index_or, Option, Some, None, option_map, refl, sym, ◌∙◌, ap, subst, arith}
use Rattle.std.specs.Option.{option_and_then}
use Rattle.std.proofs.lemmas.List.{take-append-le, take_all}
use Rattle.std.proofs.lemmas.Option.{slice_get_within}
use Rattle.sd_work.specs.Change.{changed_at}
use Rattle.sd_cut.specs.declared.streams.CutStream.{CutStream}
use Rattle.sd_cut.specs.Streams.{IsTakenWithin, next_cut, one_more, stream_taken, stream_drained, stream_appended}
use Rattle.sd_cut.specs.Using.{seen_of}

-- a change of how a stream is used that takes no more than there is
abbrev pub KeepsWithin : (CutStream → CutStream) → Type 0
KeepsWithin f = (s : CutStream) → s.taken ≤ length s.opening → (f s).taken ≤ length (f s).opening

pub taken-keeps : KeepsWithin stream_taken
taken-keeps s h = on (next_cut s) refl
  where
    on : (o : Option ℤ) → next_cut s ≡ o → one_more o s.taken ≤ length s.opening
    on None is = h
    on (Some v) is = let below = slice_get_within s.opening s.taken v is in omega (arith, below)

pub drained-keeps : KeepsWithin stream_drained
drained-keeps s h = omega arith

pub appended-keeps : KeepsWithin stream_appended
appended-keeps s h = h

pub within-after : (f : CutStream → CutStream) → KeepsWithin f → (streams new : List (Option CutStream)) (c : ℕ) → new ≡ changed_at c (option_map f) streams →
    ((d : ℕ) → IsTakenWithin (slice_index_or streams d None)) → (d : ℕ) → IsTakenWithin (slice_index_or new d None)
within-after f keeps streams new c is within d = subst (λ (all : List (Option CutStream)). IsTakenWithin (slice_index_or all d None)) (sym is) (on streams c d (within d))
  where
    one : (s : Option CutStream) → IsTakenWithin s → IsTakenWithin (option_map f s)
    one None h = tt
    one (Some s) h = keeps s h

    on : (xs : List (Option CutStream)) (c d : ℕ) → IsTakenWithin (slice_index_or xs d None) → IsTakenWithin (slice_index_or (changed_at c (option_map f) xs) d None)
    on [] c d h = h
    on (x ∷ xs) zero zero h = one x h
    on (x ∷ xs) zero (suc d) h = h
    on (x ∷ xs) (suc c) zero h = h
    on (x ∷ xs) (suc c) (suc d) h = on xs c d h

pub few-after : (f : CutStream → CutStream) (streams new : List (Option CutStream)) (c : ℕ) → new ≡ changed_at c (option_map f) streams → length streams < 2 ^ 32 → length new < 2 ^ 32
few-after f streams new c is few = let same = ap length is ∙ count streams c in omega (arith, same, few)
  where
    count : (xs : List (Option CutStream)) (c : ℕ) → length (changed_at c (option_map f) xs) ≡ length xs
    count [] c = refl
    count (x ∷ xs) zero = refl
    count (x ∷ xs) (suc c) = ap suc (count xs c)

-- a list of the same length that is put into the place of another one
pub refilled : {A : Type 0} (len : ℕ) (new old : List A) → len ≡ length old → length new ≡ length old → take len (new ++ drop (length new) old) ≡ new
refilled len new old count same = take-append-le len new (drop (length new) old) (omega (arith, count, same)) ∙ take_all len new (omega (arith, count, same))

pub count-after : {A : Type 0} (f : A → A) (xs new : List A) (c : ℕ) → new ≡ changed_at c f xs → length new ≡ length xs
count-after {A} f xs new c is = ap length is ∙ count xs c
  where
    count : (xs : List A) (c : ℕ) → length (changed_at c f xs) ≡ length xs
    count [] c = refl
    count (x ∷ xs) zero = refl
    count (x ∷ xs) (suc c) = ap suc (count xs c)

-- ---- the oldest value

rest-begins : (xs pushed : List ℤ) (n : ℕ) (v : ℤ) → slice_get xs n ≡ Some v → Some v ≡ slice_get (drop n xs ++ pushed) 0
rest-begins [] pushed n v is = cc
rest-begins (x ∷ xs) pushed zero v is = sym is
rest-begins (x ∷ xs) pushed (suc n) v is = rest-begins xs pushed n v is

rest-none : (xs pushed : List ℤ) (n : ℕ) → slice_get xs n ≡ None → drop n xs ++ pushed ≡ pushed
rest-none [] pushed zero is = refl
rest-none [] pushed (suc n) is = refl
rest-none (x ∷ xs) pushed zero is = cc
rest-none (x ∷ xs) pushed (suc n) is = rest-none xs pushed n is

pub oldest_cut : (s : Option CutStream) (pushed : List ℤ) (v : ℤ) → option_and_then next_cut s ≡ Some v → Some v ≡ slice_get (seen_of s pushed) 0
oldest_cut None pushed v is = cc
oldest_cut (Some s) pushed v is = rest-begins s.opening pushed s.taken v is

pub none_cut : (s : Option CutStream) (pushed : List ℤ) → option_and_then next_cut s ≡ None → pushed ≡ seen_of s pushed
none_cut None pushed is = refl
none_cut (Some s) pushed is = sym (rest-none s.opening pushed s.taken is)
