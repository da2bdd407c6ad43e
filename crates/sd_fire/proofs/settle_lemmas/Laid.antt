-- Parts of a list that are settled one after another, where those without open pools are passed over.
use Rattle.std.specs.Bool.{⊤}
use Rattle.std.proofs.Common.{◌≡◌, ℕ, zero, suc, ◌+◌, ◌<◌, ◌≤◌, List, [], ◌∷◌, ◌++◌, length, take, map, get_or, slice_set, Bool, ◌&&◌, refl, sym, ap, ◌∙◌, subst, arith}
use Rattle.std.specs.List.{sum}
use Rattle.sd_work.specs.Memory.{Memories}
use Rattle.sd_work.specs.Residual.{Parts, Term, Terms, none, also, finished, is_ready}
use Rattle.sd_work.specs.Settle.{settle, settle_parts, is_first_left}
use Rattle.sd_moves.specs.numbered.OpenPools.{HasNoOpenPool}
use Rattle.sd_moves.proofs.numbered_lemmas.Open.{settled-open}
use Rattle.sd_fire.proofs.settle_lemmas.Sums.{sum-more}

module _ {A P : Type 0} (place : ℕ → A → Term P) where
  -- the work of parts, from this number on
  abbrev pub laid : (number : ℕ) → List A → Terms P
  laid number [] = none
  laid number (part ∷ parts) = also (place number part) (laid (suc number) parts)

  -- which of the first parts are finished
  abbrev pub flags_at : (number skip : ℕ) → List A → List Bool
  flags_at number zero parts = []
  flags_at number (suc skip) [] = []
  flags_at number (suc skip) (part ∷ parts) = finished (place number part) ∷ flags_at (suc number) skip parts

  -- where its count is 0, a part has no open pool
  abbrev pub AllCounted : (counted : A → ℕ) → List A → Type 0
  AllCounted counted [] = ⊤
  AllCounted counted (part ∷ parts) = ((number : ℕ) → counted part ≡ 0 → HasNoOpenPool (place number part)) × AllCounted counted parts

  module _ (may_go : Bool) (cleared : List Bool) (memories : Memories) (kind : Parts) (before : ℕ → ℕ → Bool) where
    -- the first parts as they are, and those behind them settled
    abbrev pub settled_from : (flags : List Bool) (number skip : ℕ) → List A → Terms P
    settled_from flags number skip [] = none
    settled_from flags number zero (part ∷ parts) = settle_parts may_go cleared memories kind before flags number (laid number (part ∷ parts))
    settled_from flags number (suc skip) (part ∷ parts) = also (place number part) (settled_from (flags ++ finished (place number part) ∷ []) (suc number) skip parts)

    -- a part behind others with these flags
    abbrev pub settled_part : (flags : List Bool) (number : ℕ) → Term P → Term P
    settled_part flags number part = settle (may_go && is_ready before flags number) (map (λ flag. is_first_left kind flags && flag) cleared) memories part

    pub settled-all : (flags : List Bool) (number : ℕ) (parts : List A) → settled_from flags number zero parts ≡ settle_parts may_go cleared memories kind before flags number (laid number parts)
    settled-all flags number [] = refl
    settled-all flags number (part ∷ parts) = refl

    module _ (counted : A → ℕ) where
      passed : (flags : List Bool) (number : ℕ) (part : A) (parts : List A) → HasNoOpenPool (place number part)
          → settle_parts may_go cleared memories kind before flags number (laid number (part ∷ parts)) ≡ also (place number part) (settled_from (flags ++ finished (place number part) ∷ []) (suc number) zero parts)
      passed flags number part parts free =
          ap (λ (t : Term P). also t (settle_parts may_go cleared memories kind before (flags ++ finished t ∷ []) (suc number) (laid (suc number) parts)))
          (settled-open (place number part) (may_go && is_ready before flags number) (map (λ flag. is_first_left kind flags && flag) cleared) memories free)
          ∙ ap (also (place number part)) (sym (settled-all (flags ++ finished (place number part) ∷ []) (suc number) parts))

      pub passed-over : (flags : List Bool) (number skip next : ℕ) (parts : List A) → AllCounted counted parts → skip ≤ next → sum (take skip (map counted parts)) ≡ sum (take next (map counted parts))
          → settled_from flags number skip parts ≡ settled_from flags number next parts
      passed-over flags number skip next [] all most same = refl
      passed-over flags number zero zero (part ∷ parts) all most same = refl
      passed-over flags number zero (suc next) (part ∷ parts) all most same =
          let none : sum (take zero (map counted (part ∷ parts))) ≡ 0 = refl in
          let first : sum (take (suc next) (map counted (part ∷ parts))) ≡ counted part + sum (take next (map counted parts)) = sum-more (counted part) (take next (map counted parts)) in
          let empty : sum (take zero (map counted parts)) ≡ 0 = refl in
          passed flags number part parts (all.0 number (omega (arith, same, none, first)))
          ∙ ap (also (place number part)) (passed-over (flags ++ finished (place number part) ∷ []) (suc number) zero next parts all.1 (omega arith) (omega (arith, same, none, first, empty)))
      passed-over flags number (suc skip) zero (part ∷ parts) all most same = absurd (omega (arith, most))
      passed-over flags number (suc skip) (suc next) (part ∷ parts) all most same =
          let first : sum (take (suc skip) (map counted (part ∷ parts))) ≡ counted part + sum (take skip (map counted parts)) = sum-more (counted part) (take skip (map counted parts)) in
          let second : sum (take (suc next) (map counted (part ∷ parts))) ≡ counted part + sum (take next (map counted parts)) = sum-more (counted part) (take next (map counted parts)) in
          ap (also (place number part)) (passed-over (flags ++ finished (place number part) ∷ []) (suc number) skip next parts all.1 (omega (arith, most)) (omega (arith, same, first, second)))

      pub passed-rest : (flags : List Bool) (number skip : ℕ) (parts : List A) → AllCounted counted parts → sum (take skip (map counted parts)) ≡ sum (map counted parts)
          → settled_from flags number skip parts ≡ laid number parts
      passed-rest flags number skip [] all same = refl
      passed-rest flags number zero (part ∷ parts) all same =
          let none : sum (take zero (map counted (part ∷ parts))) ≡ 0 = refl in
          let first : sum (map counted (part ∷ parts)) ≡ counted part + sum (map counted parts) = sum-more (counted part) (map counted parts) in
          let empty : sum (take zero (map counted parts)) ≡ 0 = refl in
          passed flags number part parts (all.0 number (omega (arith, same, none, first)))
          ∙ ap (also (place number part)) (passed-rest (flags ++ finished (place number part) ∷ []) (suc number) zero parts all.1 (omega (arith, same, none, first, empty)))
      passed-rest flags number (suc skip) (part ∷ parts) all same =
          let first : sum (take (suc skip) (map counted (part ∷ parts))) ≡ counted part + sum (take skip (map counted parts)) = sum-more (counted part) (take skip (map counted parts)) in
          let second : sum (map counted (part ∷ parts)) ≡ counted part + sum (map counted parts) = sum-more (counted part) (map counted parts) in
          ap (also (place number part)) (passed-rest (flags ++ finished (place number part) ∷ []) (suc number) skip parts all.1 (omega (arith, same, first, second)))

    -- the flags of the parts behind one
    seam : (flags : List Bool) (flag : Bool) (rest : List Bool) → (flags ++ flag ∷ []) ++ rest ≡ flags ++ flag ∷ rest
    seam [] flag rest = refl
    seam (first ∷ flags) flag rest = ap (λ (l : List Bool). first ∷ l) (seam flags flag rest)

    nothing : (flags : List Bool) → flags ++ [] ≡ flags
    nothing [] = refl
    nothing (first ∷ flags) = ap (λ (l : List Bool). first ∷ l) (nothing flags)

    pub one-settled : (flags : List Bool) (number skip at : ℕ) (all : List Bool) (parts : List A) (old new : A) → skip < length parts → old ≡ get_or parts skip old
        → at ≡ number + skip → all ≡ flags ++ flags_at number skip parts → place at new ≡ settled_part all at (place at old)
        → settled_from flags number skip parts ≡ settled_from flags number (suc skip) (slice_set parts skip new)
    one-settled flags number skip at all [] old new within is here flags_are settled = absurd (omega (arith, within))
    one-settled flags number zero at all (part ∷ parts) old new within is here flags_are settled =
        let same : at ≡ number = omega (arith, here) in
        let before_it : all ≡ flags = flags_are ∙ nothing flags in
        let first : settled_part flags number (place number part) ≡ place number new =
        sym (subst (λ (n : ℕ). place n new ≡ settled_part flags n (place n part)) same
        (subst (λ (f : List Bool). place at new ≡ settled_part f at (place at part)) before_it
        (subst (λ (p : A). place at new ≡ settled_part all at (place at p)) is settled))) in
        ap (λ (t : Term P). also t (settle_parts may_go cleared memories kind before (flags ++ finished t ∷ []) (suc number) (laid (suc number) parts))) first
        ∙ ap (also (place number new)) (sym (settled-all (flags ++ finished (place number new) ∷ []) (suc number) parts))
    one-settled flags number (suc skip) at all (part ∷ parts) old new within is here flags_are settled =
        ap (also (place number part)) (one-settled (flags ++ finished (place number part) ∷ []) (suc number) skip at all parts old new (omega (arith, within)) is (omega (arith, here))
        (flags_are ∙ sym (seam flags (finished (place number part)) (flags_at (suc number) skip parts))) settled)
