-- Active terms of a pool that are settled one after another, where those without open pools are passed over.
use Rattle.std.proofs.Common.{◌≡◌, ℕ, zero, suc, ◌+◌, ◌<◌, ◌≤◌, ℤ, List, [], ◌∷◌, length, take, map, get_or, slice_set, Bool, refl, sym, ap, ap₂, ◌∙◌, arith}
use Rattle.std.specs.List.{sum}
use Rattle.sd_work.specs.Memory.{Memories}
use Rattle.sd_work.specs.Residual.{Term, Actives, idle, busy}
use Rattle.sd_work.specs.Settle.{settle, settle_active}
use Rattle.sd_moves.proofs.numbered_lemmas.Open.{settled-open}
use Rattle.sd_fire.proofs.settle_lemmas.Sums.{sum-more}
use Rattle.sd_fire.proofs.settle_lemmas.Laid.{AllCounted}

module _ {A P : Type 0} (value : A → ℤ) (place : A → Term P) where
  abbrev pub working : List A → Actives P
  working [] = idle
  working (part ∷ parts) = busy (value part) (place part) (working parts)

  module _ (may_go : Bool) (cleared : List Bool) (memories : Memories) where
    -- the first active terms as they are, and those behind them settled
    abbrev pub working_from : (skip : ℕ) → List A → Actives P
    working_from skip [] = idle
    working_from zero (part ∷ parts) = settle_active may_go cleared memories (working (part ∷ parts))
    working_from (suc skip) (part ∷ parts) = busy (value part) (place part) (working_from skip parts)

    pub working-all : (parts : List A) → working_from zero parts ≡ settle_active may_go cleared memories (working parts)
    working-all [] = refl
    working-all (part ∷ parts) = refl

    module _ (counted : A → ℕ) where
      abbrev AllFree : List A → Type 0
      AllFree parts = AllCounted (λ (number : ℕ) (part : A). place part) counted parts

      pub active-over : (skip next : ℕ) (parts : List A) → AllFree parts → skip ≤ next → sum (take skip (map counted parts)) ≡ sum (take next (map counted parts)) → working_from skip parts ≡ working_from next parts
      active-over skip next [] all most same = refl
      active-over zero zero (part ∷ parts) all most same = refl
      active-over zero (suc next) (part ∷ parts) all most same =
          let none : sum (take zero (map counted (part ∷ parts))) ≡ 0 = refl in
          let first : sum (take (suc next) (map counted (part ∷ parts))) ≡ counted part + sum (take next (map counted parts)) = sum-more (counted part) (take next (map counted parts)) in
          let empty : sum (take zero (map counted parts)) ≡ 0 = refl in
          ap₂ (busy (value part)) (settled-open (place part) may_go cleared memories (all.0 0 (omega (arith, same, none, first))))
          (sym (working-all parts) ∙ active-over zero next parts all.1 (omega arith) (omega (arith, same, none, first, empty)))
      active-over (suc skip) zero (part ∷ parts) all most same = absurd (omega (arith, most))
      active-over (suc skip) (suc next) (part ∷ parts) all most same =
          let first : sum (take (suc skip) (map counted (part ∷ parts))) ≡ counted part + sum (take skip (map counted parts)) = sum-more (counted part) (take skip (map counted parts)) in
          let second : sum (take (suc next) (map counted (part ∷ parts))) ≡ counted part + sum (take next (map counted parts)) = sum-more (counted part) (take next (map counted parts)) in
          ap (busy (value part) (place part)) (active-over skip next parts all.1 (omega (arith, most)) (omega (arith, same, first, second)))

      pub active-rest : (skip : ℕ) (parts : List A) → AllFree parts → sum (take skip (map counted parts)) ≡ sum (map counted parts) → working_from skip parts ≡ working parts
      active-rest skip [] all same = refl
      active-rest zero (part ∷ parts) all same =
          let none : sum (take zero (map counted (part ∷ parts))) ≡ 0 = refl in
          let first : sum (map counted (part ∷ parts)) ≡ counted part + sum (map counted parts) = sum-more (counted part) (map counted parts) in
          let empty : sum (take zero (map counted parts)) ≡ 0 = refl in
          ap₂ (busy (value part)) (settled-open (place part) may_go cleared memories (all.0 0 (omega (arith, same, none, first))))
          (sym (working-all parts) ∙ active-rest zero parts all.1 (omega (arith, same, none, first, empty)))
      active-rest (suc skip) (part ∷ parts) all same =
          let first : sum (take (suc skip) (map counted (part ∷ parts))) ≡ counted part + sum (take skip (map counted parts)) = sum-more (counted part) (take skip (map counted parts)) in
          let second : sum (map counted (part ∷ parts)) ≡ counted part + sum (map counted parts) = sum-more (counted part) (map counted parts) in
          ap (busy (value part) (place part)) (active-rest skip parts all.1 (omega (arith, same, first, second)))

    pub one-active : (skip : ℕ) (parts : List A) (old new : A) → skip < length parts → old ≡ get_or parts skip old → value new ≡ value old → place new ≡ settle may_go cleared memories (place old)
        → working_from skip parts ≡ working_from (suc skip) (slice_set parts skip new)
    one-active skip [] old new within is same settled = absurd (omega (arith, within))
    one-active zero (part ∷ parts) old new within is same settled =
        ap₂ (λ (v : ℤ) (t : Term P). busy v t (settle_active may_go cleared memories (working parts)))
        (sym (same ∙ ap value is)) (sym (settled ∙ ap (λ (p : A). settle may_go cleared memories (place p)) is))
        ∙ ap (busy (value new) (place new)) (sym (working-all parts))
    one-active (suc skip) (part ∷ parts) old new within is same settled =
        ap (busy (value part) (place part)) (one-active skip parts old new (omega (arith, within)) is same settled)
