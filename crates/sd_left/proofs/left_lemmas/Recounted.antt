-- Counts of a list in which one part was changed, or to which one was added.
use Rattle.std.proofs.Common.{◌≡◌, ℕ, zero, suc, ◌+◌, ◌<◌, List, [], ◌∷◌, ◌++◌, map, length, get_or, slice_set, Bool, true, false, cond, not, refl, sym, ap, ap₂, ◌∙◌, subst, arith}
use Rattle.sd_work.specs.Residual.{is_ready}
use Rattle.sd_moves.specs.numbered.Counts.{one_if}
use Rattle.sd_left.specs.left.Telling.{Telling, moves_told, unfinished_told, pools_told, flags_told, ready_moves, all_right, counts_tell}
use Rattle.sd_left.proofs.left_lemmas.Sameness.{both-true, both-are, AreRight, Were, were, all-are}

map-set : {A B : Type 0} (f : A → B) (all : List A) (number : ℕ) (one : A) → map f (slice_set all number one) ≡ slice_set (map f all) number (f one)
map-set f [] number one = refl
map-set f (first ∷ all) zero one = refl
map-set f (first ∷ all) (suc number) one = ap (λ (rest : List _). f first ∷ rest) (map-set f all number one)

pub map-last : {A B : Type 0} (f : A → B) (all : List A) (one : A) → map f (all ++ one ∷ []) ≡ map f all ++ f one ∷ []
map-last f [] one = refl
map-last f (first ∷ all) one = ap (λ (rest : List _). f first ∷ rest) (map-last f all one)

right-set : (parts : List Telling) (number : ℕ) (part : Telling) → all_right parts ≡ true → part.is_right ≡ true → all_right (slice_set parts number part) ≡ true
right-set [] number part right one = refl
right-set (first ∷ parts) zero part right one = both-are part.is_right (all_right parts) one (both-true first.is_right (all_right parts) right).1
right-set (first ∷ parts) (suc number) part right one =
    let each = both-true first.is_right (all_right parts) right in
    both-are first.is_right (all_right (slice_set parts number part)) each.0 (right-set parts number part each.1 one)

right-last : (parts : List Telling) (part : Telling) → all_right parts ≡ true → part.is_right ≡ true → all_right (parts ++ part ∷ []) ≡ true
right-last [] part right one = both-are part.is_right true one refl
right-last (first ∷ parts) part right one =
    let each = both-true first.is_right (all_right parts) right in
    both-are first.is_right (all_right (parts ++ part ∷ [])) each.0 (right-last parts part each.1 one)

-- counts of parts, with that of one
set-told : (f : Telling → ℕ) (tellings : List Telling) (counts : List ℕ) (number : ℕ) (one : Telling) → counts ≡ map f tellings → slice_set counts number (f one) ≡ map f (slice_set tellings number one)
set-told f tellings counts number one are = ap (λ (c : List ℕ). slice_set c number (f one)) are ∙ sym (map-set f tellings number one)

last-told : (f : Telling → ℕ) (tellings : List Telling) (counts : List ℕ) (one : Telling) → counts ≡ map f tellings → counts ++ f one ∷ [] ≡ map f (tellings ++ one ∷ [])
last-told f tellings counts one are = ap (λ (c : List ℕ). c ++ f one ∷ []) are ∙ sym (map-last f tellings one)

-- ---- bodies

abbrev CountsRight : (tellings : List Telling) → (moves unfinished pools : List ℕ) → Type 0
CountsRight tellings moves unfinished pools = AreRight moves (moves_told tellings) unfinished (unfinished_told tellings) pools (pools_told tellings) (all_right tellings)

module _ {A : Type 0} (telling : A → Telling) where
  abbrev pub BodiesRight : (bodies : List A) → (moves unfinished pools : List ℕ) → Type 0
  BodiesRight bodies moves unfinished pools =
      (counts_tell moves unfinished pools (moves_told (map telling bodies)) (unfinished_told (map telling bodies)) (pools_told (map telling bodies)) (all_right (map telling bodies))).is_right ≡ true

  module _ (bodies : List A) (moves unfinished pools : List ℕ) (body : A) (right : BodiesRight bodies moves unfinished pools) (one : (telling body).is_right ≡ true) where
    abbrev bodies_tellings : List Telling
    bodies_tellings = map telling bodies

    bodies-held : Were moves (moves_told bodies_tellings) unfinished (unfinished_told bodies_tellings) pools (pools_told bodies_tellings) (all_right bodies_tellings)
    bodies-held = were moves (moves_told bodies_tellings) unfinished (unfinished_told bodies_tellings) pools (pools_told bodies_tellings) (all_right bodies_tellings) right

    pub body-again : (number : ℕ)
        → BodiesRight (slice_set bodies number body) (slice_set moves number (telling body).moves) (slice_set unfinished number (one_if (telling body).is_unfinished)) (slice_set pools number (telling body).pools)
    body-again number =
        subst (λ (after : List Telling). CountsRight after (slice_set moves number (telling body).moves) (slice_set unfinished number (one_if (telling body).is_unfinished)) (slice_set pools number (telling body).pools))
        (sym (map-set telling bodies number body))
        (all-are _ _ _ _ _ _ _
        (set-told (λ (part : Telling). part.moves) bodies_tellings moves number (telling body) bodies-held.moves_are)
        (set-told (λ (part : Telling). one_if part.is_unfinished) bodies_tellings unfinished number (telling body) bodies-held.unfinished_are)
        (set-told (λ (part : Telling). part.pools) bodies_tellings pools number (telling body) bodies-held.pools_are)
        (right-set bodies_tellings number (telling body) bodies-held.parts_are one))

    pub body-added : BodiesRight (bodies ++ body ∷ []) (moves ++ (telling body).moves ∷ []) (unfinished ++ one_if (telling body).is_unfinished ∷ []) (pools ++ (telling body).pools ∷ [])
    body-added =
        subst (λ (after : List Telling). CountsRight after (moves ++ (telling body).moves ∷ []) (unfinished ++ one_if (telling body).is_unfinished ∷ []) (pools ++ (telling body).pools ∷ []))
        (sym (map-last telling bodies body))
        (all-are _ _ _ _ _ _ _
        (last-told (λ (part : Telling). part.moves) bodies_tellings moves (telling body) bodies-held.moves_are)
        (last-told (λ (part : Telling). one_if part.is_unfinished) bodies_tellings unfinished (telling body) bodies-held.unfinished_are)
        (last-told (λ (part : Telling). part.pools) bodies_tellings pools (telling body) bodies-held.pools_are)
        (right-last bodies_tellings (telling body) bodies-held.parts_are one))

-- ---- items

same-flag : (one other : Bool) → one_if one ≡ one_if other → one ≡ other
same-flag true true same = refl
same-flag false false same = refl
same-flag true false same = absurd (omega (arith, same))
same-flag false true same = absurd (omega (arith, same))

flags-stay : (parts : List Telling) (number : ℕ) (part : Telling) → number < length parts → get_or (unfinished_told parts) number 0 ≡ one_if part.is_unfinished
    → flags_told (slice_set parts number part) ≡ flags_told parts
flags-stay [] number part there same = refl
flags-stay (first ∷ parts) zero part there same = ap (λ (flag : Bool). not flag ∷ flags_told parts) (sym (same-flag first.is_unfinished part.is_unfinished same))
flags-stay (first ∷ parts) (suc number) part there same = ap (λ (rest : List Bool). not first.is_unfinished ∷ rest) (flags-stay parts number part (omega (arith, there)) same)

ready-set : (before : ℕ → ℕ → Bool) (flags : List Bool) (start : ℕ) (parts : List Telling) (number : ℕ) (part : Telling)
    → ready_moves before flags start (slice_set parts number part) ≡ slice_set (ready_moves before flags start parts) number (cond (is_ready before flags (start + number)) part.moves 0)
ready-set before flags start [] number part = refl
ready-set before flags start (first ∷ parts) zero part =
    let at : start ≡ start + 0 = omega arith in
    ap (λ (n : ℕ). cond (is_ready before flags n) part.moves 0 ∷ ready_moves before flags (suc start) parts) at
ready-set before flags start (first ∷ parts) (suc number) part =
    let at : suc start + number ≡ start + suc number = omega arith in
    ap (λ (rest : List ℕ). cond (is_ready before flags start) first.moves 0 ∷ rest)
    (ready-set before flags (suc start) parts number part
    ∙ ap (λ (n : ℕ). slice_set (ready_moves before flags (suc start) parts) number (cond (is_ready before flags n) part.moves 0)) at)

module _ {A : Type 0} (telling : A → Telling) (before : ℕ → ℕ → Bool) where
  abbrev pub PartsRight : (parts : List A) → (moves unfinished pools : List ℕ) → Type 0
  PartsRight parts moves unfinished pools =
      (counts_tell moves unfinished pools (ready_moves before (flags_told (map telling parts)) 0 (map telling parts)) (unfinished_told (map telling parts)) (pools_told (map telling parts)) (all_right (map telling parts))).is_right ≡ true

  module _ (parts : List A) (moves unfinished pools : List ℕ) (number : ℕ) (part : A) (right : PartsRight parts moves unfinished pools) (one : (telling part).is_right ≡ true) where
    abbrev tellings : List Telling
    tellings = map telling parts

    abbrev after : List Telling
    after = slice_set tellings number (telling part)

    abbrev ready_in : List Telling → List ℕ
    ready_in all = ready_moves before (flags_told all) 0 all

    abbrev unfinished_after : List ℕ
    unfinished_after = slice_set unfinished number (one_if (telling part).is_unfinished)

    abbrev pools_after : List ℕ
    pools_after = slice_set pools number (telling part).pools

    held : Were moves (ready_in tellings) unfinished (unfinished_told tellings) pools (pools_told tellings) (all_right tellings)
    held = were moves (ready_in tellings) unfinished (unfinished_told tellings) pools (pools_told tellings) (all_right tellings) right

    -- of whatever moves
    with-moves : (moves_now : List Telling → List ℕ) → moves_now after ≡ ready_in after → PartsRight (slice_set parts number part) (moves_now (map telling (slice_set parts number part))) unfinished_after pools_after
    with-moves moves_now counted =
        subst (λ (now : List Telling). AreRight (moves_now now) (ready_in now) unfinished_after (unfinished_told now) pools_after (pools_told now) (all_right now)) (sym (map-set telling parts number part))
        (all-are (moves_now after) (ready_in after) unfinished_after (unfinished_told after) pools_after (pools_told after) (all_right after) counted
        (set-told (λ (part : Telling). one_if part.is_unfinished) tellings unfinished number (telling part) held.unfinished_are)
        (set-told (λ (part : Telling). part.pools) tellings pools number (telling part) held.pools_are)
        (right-set tellings number (telling part) held.parts_are one))

    -- where it is finished as before, the others may go on as before
    pub part-again : number < length parts → get_or unfinished number 0 ≡ one_if (telling part).is_unfinished
        → PartsRight (slice_set parts number part)
        (slice_set moves number (cond (is_ready before (flags_told (map telling (slice_set parts number part))) number) (telling part).moves 0)) unfinished_after pools_after
    part-again there same =
        let kept : get_or (unfinished_told tellings) number 0 ≡ one_if (telling part).is_unfinished = ap (λ (u : List ℕ). get_or u number 0) (sym held.unfinished_are) ∙ same in
        let size : number < length tellings = omega (arith, there, map-length telling parts) in
        let flags : flags_told after ≡ flags_told tellings = flags-stay tellings number (telling part) size kept in
        let at : 0 + number ≡ number = omega arith in
        with-moves (λ now. slice_set moves number (cond (is_ready before (flags_told now) number) (telling part).moves 0))
        (ap₂ (λ (m : List ℕ) (f : List Bool). slice_set m number (cond (is_ready before f number) (telling part).moves 0)) held.moves_are flags
        ∙ sym (ready-set before (flags_told tellings) 0 tellings number (telling part)
        ∙ ap (λ (n : ℕ). slice_set (ready_in tellings) number (cond (is_ready before (flags_told tellings) n) (telling part).moves 0)) at)
        ∙ ap (λ (f : List Bool). ready_moves before f 0 after) (sym flags))
      where
        map-length : {X Y : Type 0} (f : X → Y) (xs : List X) → length (map f xs) ≡ length xs
        map-length f [] = refl
        map-length f (x ∷ xs) = ap suc (map-length f xs)

    -- and else all are counted again
    pub parts-again : PartsRight (slice_set parts number part) (ready_moves before (flags_told (map telling (slice_set parts number part))) 0 (map telling (slice_set parts number part))) unfinished_after pools_after
    parts-again = with-moves ready_in refl
