-- How far the parts of a list are settled, and the numbers of values that wait in them.
use Rattle.std.specs.Bool.{⊤}
use Rattle.std.proofs.Common.{◌≡◌, ℕ, zero, suc, ◌+◌, ◌<◌, ◌≤◌, List, [], ◌∷◌, length, take, map, get_or, slice_set, true, refl, ap, ◌∙◌, arith}
use Rattle.std.specs.List.{sum}
use Rattle.sd_work.specs.Memory.{Memories}
use Rattle.sd_left.specs.left.Waits.{Told, all_hold}
use Rattle.sd_left.proofs.left_lemmas.Sameness.{both-true, both-are}
use Rattle.sd_fire.proofs.settle_lemmas.Sums.{sum-more, found-behind, in-list, one-more}

pub as-many : {A B : Type 0} (f : A → B) (parts : List A) → length (map f parts) ≡ length parts
as-many f [] = refl
as-many f (part ∷ parts) = ap suc (as-many f parts)

pub fused : {A B C : Type 0} (f : A → B) (g : B → C) (parts : List A) → map g (map f parts) ≡ map (λ part. g (f part)) parts
fused f g [] = refl
fused {C = C} f g (part ∷ parts) = ap (λ (rest : List C). g (f part) ∷ rest) (fused f g parts)

pub same-size : {A : Type 0} (parts : List A) (number : ℕ) (part : A) → length (slice_set parts number part) ≡ length parts
same-size [] number part = refl
same-size (first ∷ parts) zero part = refl
same-size (first ∷ parts) (suc number) part = ap suc (same-size parts number part)

module _ {A : Type 0} (told : A → Told) (pools : A → ℕ) (memories : Memories) where
  -- where no pool is open, no number of values is kept
  abbrev pub AllCalm : List A → Type 0
  AllCalm [] = ⊤
  AllCalm (part ∷ parts) = (pools part ≡ 0 → told part memories ≡ true) × AllCalm parts

  held-over : (skip next : ℕ) (parts : List A) → AllCalm parts → skip ≤ next → sum (take skip (map pools parts)) ≡ sum (take next (map pools parts))
      → all_hold (map told (take skip parts)) memories ≡ true → all_hold (map told (take next parts)) memories ≡ true
  held-over zero zero [] calm most same held = held
  held-over zero (suc next) [] calm most same held = refl
  held-over (suc skip) zero [] calm most same held = refl
  held-over (suc skip) (suc next) [] calm most same held = held
  held-over zero zero (part ∷ parts) calm most same held = refl
  held-over zero (suc next) (part ∷ parts) calm most same held =
      let none : sum (take zero (map pools (part ∷ parts))) ≡ 0 = refl in
      let first : sum (take (suc next) (map pools (part ∷ parts))) ≡ pools part + sum (take next (map pools parts)) = sum-more (pools part) (take next (map pools parts)) in
      let empty : sum (take zero (map pools parts)) ≡ 0 = refl in
      both-are (told part memories) (all_hold (map told (take next parts)) memories) (calm.0 (omega (arith, same, none, first)))
      (held-over zero next parts calm.1 (omega arith) (omega (arith, same, none, first, empty)) refl)
  held-over (suc skip) zero (part ∷ parts) calm most same held = refl
  held-over (suc skip) (suc next) (part ∷ parts) calm most same held =
      let each = both-true (told part memories) (all_hold (map told (take skip parts)) memories) held in
      let first : sum (take (suc skip) (map pools (part ∷ parts))) ≡ pools part + sum (take skip (map pools parts)) = sum-more (pools part) (take skip (map pools parts)) in
      let second : sum (take (suc next) (map pools (part ∷ parts))) ≡ pools part + sum (take next (map pools parts)) = sum-more (pools part) (take next (map pools parts)) in
      both-are (told part memories) (all_hold (map told (take next parts)) memories) each.0
      (held-over skip next parts calm.1 (omega (arith, most)) (omega (arith, same, first, second)) each.1)

  held-rest : (skip : ℕ) (parts : List A) → AllCalm parts → sum (take skip (map pools parts)) ≡ sum (map pools parts)
      → all_hold (map told (take skip parts)) memories ≡ true → all_hold (map told parts) memories ≡ true
  held-rest skip [] calm same held = refl
  held-rest zero (part ∷ parts) calm same held =
      let none : sum (take zero (map pools (part ∷ parts))) ≡ 0 = refl in
      let first : sum (map pools (part ∷ parts)) ≡ pools part + sum (map pools parts) = sum-more (pools part) (map pools parts) in
      let empty : sum (take zero (map pools parts)) ≡ 0 = refl in
      both-are (told part memories) (all_hold (map told parts) memories) (calm.0 (omega (arith, same, none, first)))
      (held-rest zero parts calm.1 (omega (arith, same, none, first, empty)) refl)
  held-rest (suc skip) (part ∷ parts) calm same held =
      let each = both-true (told part memories) (all_hold (map told (take skip parts)) memories) held in
      let first : sum (take (suc skip) (map pools (part ∷ parts))) ≡ pools part + sum (take skip (map pools parts)) = sum-more (pools part) (take skip (map pools parts)) in
      let second : sum (map pools (part ∷ parts)) ≡ pools part + sum (map pools parts) = sum-more (pools part) (map pools parts) in
      both-are (told part memories) (all_hold (map told parts) memories) each.0
      (held-rest skip parts calm.1 (omega (arith, same, first, second)) each.1)

  held-one : (skip : ℕ) (parts : List A) (part : A) → skip < length parts → all_hold (map told (take skip parts)) memories ≡ true → told part memories ≡ true
      → all_hold (map told (take (suc skip) (slice_set parts skip part))) memories ≡ true
  held-one skip [] part within held one = absurd (omega (arith, within))
  held-one zero (first ∷ parts) part within held one = both-are (told part memories) (all_hold (map told (take zero parts)) memories) one refl
  held-one (suc skip) (first ∷ parts) part within held one =
      let each = both-true (told first memories) (all_hold (map told (take skip parts)) memories) held in
      both-are (told first memories) (all_hold (map told (take (suc skip) (slice_set parts skip part))) memories) each.0
      (held-one skip parts part (omega (arith, within)) each.1 one)

  -- so many parts are settled after some turns, in which so many units are left
  pub record IsFar (now : List A) (turns unit reached : ℕ) : Type 0 where
    pub far : turns ≤ reached
    pub units : unit ≡ sum (take reached (map pools now))
    pub held : all_hold (map told (take reached now)) memories ≡ true

  pub far-begin : (now : List A) → IsFar now 0 0 0
  far-begin now = record { far = omega arith; units = refl; held = refl }

  pub far-next : (now : List A) (turns unit reached number rest : ℕ) (part : A) → AllCalm now → IsFar now turns unit reached
      → sum (take number (map pools now)) + rest ≡ unit → rest < get_or (map pools now) number 0 → told part memories ≡ true
      → IsFar (slice_set now number part) (suc turns) (unit + pools part) (suc number)
  far-next now turns unit reached number rest part calm far before inside one =
      let units = far.units in
      let steps = far.far in
      let behind = found-behind (map pools now) reached number rest (before ∙ units) inside in
      let most = behind.0 in
      let level = behind.1 in
      let size = as-many pools now in
      let there = in-list (map pools now) number rest inside in
      let within : number < length now = omega (arith, size, there) in
      let more = one-more pools now number part within in
      record {
        far = omega (arith, steps, most);
        units = omega (arith, more, level, units);
        held = held-one number now part within (held-over reached number now calm most level far.held) one;
      }

  pub far-end : (now : List A) (turns unit reached : ℕ) → AllCalm now → IsFar now turns unit reached → sum (take reached (map pools now)) ≡ sum (map pools now) → all_hold (map told now) memories ≡ true
  far-end now turns unit reached calm far all = held-rest reached now calm all far.held
