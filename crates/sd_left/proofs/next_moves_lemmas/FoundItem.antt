-- The item in which the move of a number is.
use Rattle.std.proofs.Common.{◌≡◌, ℕ, zero, suc, ◌+◌, ◌-◌, ◌<◌, List, [], ◌∷◌, map, take, length, get_or, Bool, true, false, cond, refl, sym, ap, ap₂, ◌∙◌, arith}
use Rattle.std.specs.List.{sum}
use Rattle.sd_work.specs.Memory.{Memories}
use Rattle.sd_work.specs.Residual.{Items, list, is_ready}
use Rattle.sd_moves.specs.numbered.Counts.{count}
use Rattle.sd_moves.specs.numbered.Places.{place_of, place_in_parts}
use Rattle.sd_graph.specs.PlainTree.{ItemTrees}
use Rattle.sd_graph.specs.Context.{Context}
use Rattle.sd_left.specs.tree.Standing.{ItemLeft, first_line, first_kind, others, behind, parts_left}
use Rattle.sd_left.specs.left.Waits.{Told, all_hold}
use Rattle.sd_left.specs.left.Telling.{Telling, unfinished_told, pools_told, flags_told, ready_moves, all_right, counts_tell}
use Rattle.sd_left.proofs.left_lemmas.Sameness.{both-true, sum-cons, Were, were}
use Rattle.sd_left.proofs.left_lemmas.Shows.{AllItemsShow, parts-flags}
use Rattle.sd_left.proofs.next_moves_lemmas.Found.{is-here, is-later}
use Rattle.sd_left.proofs.next_moves_lemmas.Held.{right-at, held-at, counted-there, as-long}

module _ {A : Type 0} (telling : A → Telling) (before : ℕ → ℕ → Bool) (flags : List Bool) where
  -- a part that has a move may go on, and has as many as it tells
  pub part-counted : (parts : List A) (start number : ℕ) (part : A) → number < length parts → part ≡ get_or parts number part
      → get_or (ready_moves before flags start (map telling parts)) number 0 ≡ cond (is_ready before flags (start + number)) (telling part).moves 0
  part-counted [] start number part there is = absurd (omega (arith, there))
  part-counted (first ∷ parts) start zero part there is =
      let at : start ≡ start + 0 = omega arith in
      ap₂ (λ (n : ℕ) (p : A). cond (is_ready before flags n) (telling p).moves 0) at (sym is)
  part-counted (first ∷ parts) start (suc number) part there is =
      let at : suc start + number ≡ start + suc number = omega arith in
      part-counted parts (suc start) number part (omega (arith, there)) is ∙ ap (λ (n : ℕ). cond (is_ready before flags n) (telling part).moves 0) at

  pub part-moves : (parts : List A) (start number rest : ℕ) (part : A) → number < length parts → part ≡ get_or parts number part
      → rest < get_or (ready_moves before flags start (map telling parts)) number 0 → rest < (telling part).moves
  part-moves parts start number rest part there is inside =
      at-most (is_ready before flags (start + number)) (telling part).moves rest (omega (arith, inside, part-counted parts start number part there is))
    where
      at-most : (ready : Bool) (moves rest : ℕ) → rest < cond ready moves 0 → rest < moves
      at-most true moves rest less = less
      at-most false moves rest less = absurd (omega (arith, less))

module _ {A : Type 0} (kept : A → ItemLeft) (telling : A → Telling) (counted : A → Told) (before : ℕ → ℕ → Bool) (flags : List Bool) (context : Context) (memories : Memories) where
  pub part-found : (parts : List A) → AllItemsShow kept telling counted parts → all_right (map telling parts) ≡ true → all_hold (map counted parts) memories ≡ true
      → (items : ItemTrees) (start move number rest : ℕ) (part : A) → number < length parts → part ≡ get_or parts number part
      → sum (take number (ready_moves before flags start (map telling parts))) + rest ≡ move → rest < get_or (ready_moves before flags start (map telling parts)) number 0
      → place_in_parts before flags start (parts_left (map kept parts) items context) memories move
      ≡ (start + number) ∷ place_of (kept part (first_kind (behind number items)) (first_line (behind number items)) context) memories rest
  part-found [] shows right held items start move number rest part there is sums inside = absurd (omega (arith, there))
  part-found (first ∷ parts) shows right held items start move zero rest part there is sums inside =
      let each = both-true ((telling first).is_right) (all_right (map telling parts)) right in
      let hold = both-true (counted first memories) (all_hold (map counted parts) memories) held in
      let left = kept first (first_kind items) (first_line items) context in
      let moves : count left memories ≡ (telling first).moves = (shows.0 each.0).moves (first_kind items) (first_line items) context memories hold.0 in
      let here : cond (is_ready before flags start) (count left memories) 0 ≡ cond (is_ready before flags start) (telling first).moves 0 = ap (λ (n : ℕ). cond (is_ready before flags start) n 0) moves in
      let same : rest ≡ move = omega (arith, sums) in
      let at : start ≡ start + 0 = omega arith in
      is-here move (cond (is_ready before flags start) (count left memories) 0) (start ∷ place_of left memories move)
      (place_in_parts before flags (suc start) (parts_left (map kept parts) (others items) context) memories) (omega (arith, inside, here, same))
      ∙ ap₂ (λ (n : ℕ) (m : ℕ). n ∷ place_of left memories m) at (sym same)
      ∙ ap (λ (p : A). (start + 0) ∷ place_of (kept p (first_kind items) (first_line items) context) memories rest) (sym is)
  part-found (first ∷ parts) shows right held items start move (suc number) rest part there is sums inside =
      let each = both-true ((telling first).is_right) (all_right (map telling parts)) right in
      let hold = both-true (counted first memories) (all_hold (map counted parts) memories) held in
      let left = kept first (first_kind items) (first_line items) context in
      let moves : count left memories ≡ (telling first).moves = (shows.0 each.0).moves (first_kind items) (first_line items) context memories hold.0 in
      let one = cond (is_ready before flags start) (telling first).moves 0 in
      let here : cond (is_ready before flags start) (count left memories) 0 ≡ one = ap (λ (n : ℕ). cond (is_ready before flags start) n 0) moves in
      let rest_moves = ready_moves before flags (suc start) (map telling parts) in
      let earlier = sum (take number rest_moves) in
      let parted : sum (one ∷ take number rest_moves) ≡ one + earlier = sum-cons one (take number rest_moves) in
      let all : one + earlier + rest ≡ move = omega (arith, parted, sums) in
      let on : earlier + rest ≡ move - cond (is_ready before flags start) (count left memories) 0 = omega (arith, all, here) in
      let at : suc start + number ≡ start + suc number = omega arith in
      is-later move (cond (is_ready before flags start) (count left memories) 0) (start ∷ place_of left memories move)
      (place_in_parts before flags (suc start) (parts_left (map kept parts) (others items) context) memories) (omega (arith, all, here))
      ∙ part-found parts shows.1 each.1 hold.1 (others items) (suc start) (move - cond (is_ready before flags start) (count left memories) 0) number rest part (omega (arith, there)) is on inside
      ∙ ap (λ (n : ℕ). n ∷ place_of (kept part (first_kind (behind number (others items))) (first_line (behind number (others items))) context) memories rest) at

ready-length : (before : ℕ → ℕ → Bool) (flags : List Bool) (start : ℕ) (tellings : List Telling) → length (ready_moves before flags start tellings) ≡ length tellings
ready-length before flags start [] = refl
ready-length before flags start (first ∷ tellings) = ap suc (ready-length before flags (suc start) tellings)

-- the items of a body, whose counts are right
module _ {A : Type 0} (kept : A → ItemLeft) (telling : A → Telling) (counted : A → Told) (order : ℕ → ℕ → Bool) (parts : List A) (moves unfinished pools : List ℕ) (shows : AllItemsShow kept telling counted parts)
    (right : (counts_tell moves unfinished pools (ready_moves order (flags_told (map telling parts)) 0 (map telling parts)) (unfinished_told (map telling parts)) (pools_told (map telling parts)) (all_right (map telling parts))).is_right ≡ true)
    (memories : Memories) (held : all_hold (map counted parts) memories ≡ true) (unit number rest : ℕ) (inside : rest < get_or moves number 0) where
  abbrev wanted : List ℕ
  wanted = ready_moves order (flags_told (map telling parts)) 0 (map telling parts)

  kept_right : Were moves wanted unfinished (unfinished_told (map telling parts)) pools (pools_told (map telling parts)) (all_right (map telling parts))
  kept_right = were moves wanted unfinished (unfinished_told (map telling parts)) pools (pools_told (map telling parts)) (all_right (map telling parts)) right

  pub item-there : number < length parts
  item-there = omega (arith, counted-there moves number rest inside, ap length kept_right.moves_are, ready-length order (flags_told (map telling parts)) 0 (map telling parts), as-long telling parts)

  module _ (part : A) (is : part ≡ get_or parts number part) where
    pub item-right : (telling part).is_right ≡ true
    item-right = right-at telling parts number part item-there is kept_right.parts_are

    pub item-held : counted part memories ≡ true
    item-held = held-at counted memories parts number part item-there is held

    inside_wanted : rest < get_or wanted number 0
    inside_wanted = omega (arith, inside, ap (λ (m : List ℕ). get_or m number 0) kept_right.moves_are)

    pub item-moves : rest < (telling part).moves
    item-moves = part-moves telling order (flags_told (map telling parts)) parts 0 number rest part item-there is inside_wanted

    pub item-place : sum (take number moves) + rest ≡ unit → (items : ItemTrees) (context : Context)
        → place_of (list Items order (parts_left (map kept parts) items context)) memories unit
        ≡ number ∷ place_of (kept part (first_kind (behind number items)) (first_line (behind number items)) context) memories rest
    item-place before items context =
        let flags = flags_told (map telling parts) in
        let before_wanted : sum (take number wanted) + rest ≡ unit = omega (arith, before, ap (λ (m : List ℕ). sum (take number m)) kept_right.moves_are) in
        let at : 0 + number ≡ number = omega arith in
        ap (λ (f : List Bool). place_in_parts order f 0 (parts_left (map kept parts) items context) memories unit) (parts-flags kept telling counted parts shows kept_right.parts_are items context)
        ∙ part-found kept telling counted order flags context memories parts shows kept_right.parts_are held items 0 unit number rest part item-there is before_wanted inside_wanted
        ∙ ap (λ (n : ℕ). n ∷ place_of (kept part (first_kind (behind number items)) (first_line (behind number items)) context) memories rest) at
