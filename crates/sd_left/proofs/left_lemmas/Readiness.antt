-- Which parts may go on, and the moves of those, one part after another.
use Rattle.std.proofs.Common.{◌≡◌, ◌⊎◌, inl, inr, ℕ, zero, suc, ◌+◌, ◌<◌, ◌≤◌, List, [], ◌∷◌, ◌++◌, append_assoc, map, length, get_or, drop, drop_of_length-le, Bool, true, false, cond, ◌&&◌, ◌||◌, not, refl, sym, ap, ap₂, ◌∙◌, arith}
use Rattle.std.proofs.lemmas.List.{drop_more, append-nil}
use Rattle.sd_work.specs.Residual.{is_ready, ready_from}
use Rattle.sd_left.specs.left.Telling.{Telling, flags_told, ready_moves}

module _ {A : Type 0} (telling : A → Telling) (parts : List A) where
  pub opened : (index : ℕ) (part : A) → index < length parts → part ≡ get_or parts index part → drop index parts ≡ part ∷ drop (index + 1) parts
  opened index part within is = drop_more parts index part within ∙ ap (λ (p : A). p ∷ drop (index + 1) parts) (sym is)

  module _ (before : ℕ → ℕ → Bool) (number : ℕ) where
    -- those from a part on
    abbrev pub ready_behind : (index : ℕ) → Bool
    ready_behind index = ready_from before index (flags_told (map telling (drop index parts))) number

    next : (index : ℕ) (part : A) → index < length parts → part ≡ get_or parts index part
        → ready_behind index ≡ ((not (telling part).is_unfinished || not (before index number)) && ready_behind (index + 1))
    next index part within is =
        let more : index + 1 ≡ suc index = omega arith in
        ap (λ (rest : List A). ready_from before index (flags_told (map telling rest)) number) (opened index part within is)
        ∙ ap (λ (n : ℕ). (not (telling part).is_unfinished || not (before index number)) && ready_from before n (flags_told (map telling (drop (index + 1) parts))) number) (sym more)

    or-true : (f : Bool) → (f || true) ≡ true
    or-true true = refl
    or-true false = refl

    -- a part that is finished, or not before it, does not hold it up
    pub goes-on : (whole : Bool) (index : ℕ) (part : A) (earlier over : Bool) → index < length parts → part ≡ get_or parts index part
        → earlier ≡ before index number → over ≡ not (telling part).is_unfinished → (earlier ≡ false) ⊎ (over ≡ true) → whole ≡ ready_behind index → whole ≡ ready_behind (index + 1)
    goes-on whole index part earlier over within is same_order same_end (inl free) so_far =
        so_far ∙ next index part within is
        ∙ ap₂ (λ (f : Bool) (b : Bool). (f || not b) && ready_behind (index + 1)) (sym same_end) (sym same_order ∙ free)
        ∙ ap (λ (f : Bool). f && ready_behind (index + 1)) (or-true over)
    goes-on whole index part earlier over within is same_order same_end (inr done) so_far =
        so_far ∙ next index part within is
        ∙ ap (λ (f : Bool). (f || not (before index number)) && ready_behind (index + 1)) (sym same_end ∙ done)

    -- one that is before it and not finished does
    pub waits : (whole : Bool) (index : ℕ) (part : A) (earlier over : Bool) → index < length parts → part ≡ get_or parts index part
        → earlier ≡ before index number → over ≡ not (telling part).is_unfinished → earlier ≡ true → over ≡ false → whole ≡ ready_behind index → false ≡ whole
    waits whole index part earlier over within is same_order same_end order unfinished so_far =
        sym (so_far ∙ next index part within is
        ∙ ap₂ (λ (f : Bool) (b : Bool). (f || not b) && ready_behind (index + 1)) (sym same_end ∙ unfinished) (sym same_order ∙ order))

    pub all-asked : (whole : Bool) (index : ℕ) → length parts ≤ index → whole ≡ ready_behind index → whole ≡ true
    all-asked whole index over so_far = so_far ∙ ap (λ (rest : List A). ready_from before index (flags_told (map telling rest)) number) (drop_of_length-le parts over)

  module _ (before : ℕ → ℕ → Bool) (flags : List Bool) (whole : List ℕ) where
    -- so many parts are counted, and the others are left
    abbrev pub CountedUpTo : (index : ℕ) (done : List ℕ) → Type 0
    CountedUpTo index done = done ++ ready_moves before flags index (map telling (drop index parts)) ≡ whole

    pub one-more : (index : ℕ) (done : List ℕ) (part : A) (here : ℕ) → index < length parts → part ≡ get_or parts index part
        → here ≡ cond (is_ready before flags index) (telling part).moves 0 → CountedUpTo index done → CountedUpTo (index + 1) (done ++ here ∷ [])
    one-more index done part here within is counted so_far =
        let more : index + 1 ≡ suc index = omega arith in
        let rest = map telling (drop (index + 1) parts) in
        append_assoc done (here ∷ []) (ready_moves before flags (index + 1) rest)
        ∙ ap₂ (λ (h : ℕ) (n : ℕ). done ++ h ∷ ready_moves before flags n rest) counted more
        ∙ ap (λ (ps : List A). done ++ ready_moves before flags index (map telling ps)) (sym (opened index part within is))
        ∙ so_far

    pub all-counted : (index : ℕ) (done : List ℕ) → length parts ≤ index → CountedUpTo index done → done ≡ whole
    all-counted index done over so_far =
        sym (append-nil done) ∙ ap (λ (ps : List A). done ++ ready_moves before flags index (map telling ps)) (sym (drop_of_length-le parts over)) ∙ so_far

-- a member there, and that there is only one
pub member-there : {A : Type 0} (all : List A) (index : ℕ) → index < length all → (member : A) × (member ≡ get_or all index member)
member-there [] index within = absurd (omega (arith, within))
member-there (first ∷ all) zero within = (first, refl)
member-there (first ∷ all) (suc index) within = member-there all index (omega (arith, within))

same-or : {A : Type 0} (all : List A) (index : ℕ) (first second : A) → index < length all → get_or all index first ≡ get_or all index second
same-or [] index first second within = absurd (omega (arith, within))
same-or (member ∷ all) zero first second within = refl
same-or (member ∷ all) (suc index) first second within = same-or all index first second (omega (arith, within))

-- it is one, whatever stands for none
pub one-member : {A : Type 0} (all : List A) (index : ℕ) (first second : A) → index < length all → first ≡ get_or all index first → second ≡ get_or all index second → first ≡ second
one-member all index first second within is other = is ∙ same-or all index first second within ∙ sym other
