-- The part in which the move of a number is.
use Rattle.std.proofs.Common.{◌≡◌, ℕ, zero, suc, ◌+◌, ◌-◌, ◌<◌, ◌≤◌, List, [], ◌∷◌, map, take, length, get_or, Bool, true, if◌then◌else◌, sym, ap, ap₂, ◌∙◌, arith}
use Rattle.std.proofs.lemmas.Bool.{lt-ltb, le-ltb}
use Rattle.std.specs.List.{sum}
use Rattle.sd_work.specs.Memory.{Memories}
use Rattle.sd_moves.specs.numbered.Counts.{count}
use Rattle.sd_moves.specs.numbered.Places.{here_or_later, place_of, place_in_parts, place_in_active}
use Rattle.sd_graph.specs.PlainTree.{KindTree}
use Rattle.sd_graph.specs.Context.{Context}
use Rattle.sd_graph.specs.Unfold.{in_any_order}
use Rattle.sd_left.specs.tree.Standing.{BodyLeft, body_of, point_inside, element_inside, value_at, body_left, point_left, points_left, element_left, active_left}
use Rattle.sd_left.specs.left.Waits.{Told, all_hold}
use Rattle.sd_left.specs.left.Telling.{Telling, moves_told, unfinished_told, pools_told, all_right, counts_tell}
use Rattle.sd_left.proofs.left_lemmas.Sameness.{both-true, sum-cons, Were, were}
use Rattle.sd_left.proofs.left_lemmas.Shows.{AllBodiesShow}
use Rattle.sd_left.proofs.next_moves_lemmas.Held.{right-at, held-at, counted-there, as-long}

pub is-here : {A : Type 0} (move counted : ℕ) (here : A) (later : ℕ → A) → move < counted → here_or_later move counted here later ≡ here
is-here move counted here later less = ap (λ (b : Bool). if b then here else later (move - counted)) (lt-ltb move counted less)

pub is-later : {A : Type 0} (move counted : ℕ) (here : A) (later : ℕ → A) → counted ≤ move → here_or_later move counted here later ≡ later (move - counted)
is-later move counted here later most = ap (λ (b : Bool). if b then here else later (move - counted)) (le-ltb move counted most)

module _ {A : Type 0} (kept : A → BodyLeft) (telling : A → Telling) (counted : A → Told) (kind : KindTree) (context : Context) (memories : Memories) where
  -- the bodies from a number on, and the move in one of them
  pub point-found : (bodies : List A) → AllBodiesShow kept telling counted bodies → all_right (map telling bodies) ≡ true → all_hold (map counted bodies) memories ≡ true
      → (start move number rest : ℕ) (body : A) → number < length bodies → body ≡ get_or bodies number body
      → sum (take number (moves_told (map telling bodies))) + rest ≡ move → rest < get_or (moves_told (map telling bodies)) number 0
      → place_in_parts in_any_order [] start (points_left (map kept bodies) kind context) memories move
      ≡ (start + number) ∷ place_of (body_left (kept body) (body_of kind) (point_inside kind context (kept body).at)) ((kept body).own ∷ memories) rest
  point-found [] shows right held start move number rest body there is before inside = absurd (omega (arith, there))
  point-found (first ∷ bodies) shows right held start move zero rest body there is before inside =
      let each = both-true ((telling first).is_right) (all_right (map telling bodies)) right in
      let hold = both-true (counted first memories) (all_hold (map counted bodies) memories) held in
      let moves : count (point_left (kept first) kind context) memories ≡ (telling first).moves = (shows.0 each.0).moves (body_of kind) (point_inside kind context (kept first).at) memories hold.0 in
      let same : rest ≡ move = omega (arith, before) in
      let at : start ≡ start + 0 = omega arith in
      is-here move (count (point_left (kept first) kind context) memories) (start ∷ place_of (point_left (kept first) kind context) memories move)
      (place_in_parts in_any_order [] (suc start) (points_left (map kept bodies) kind context) memories) (omega (arith, inside, moves, same))
      ∙ ap₂ (λ (n : ℕ) (m : ℕ). n ∷ place_of (point_left (kept first) kind context) memories m) at (sym same)
      ∙ ap (λ (b : A). (start + 0) ∷ place_of (body_left (kept b) (body_of kind) (point_inside kind context (kept b).at)) ((kept b).own ∷ memories) rest) (sym is)
  point-found (first ∷ bodies) shows right held start move (suc number) rest body there is before inside =
      let each = both-true ((telling first).is_right) (all_right (map telling bodies)) right in
      let hold = both-true (counted first memories) (all_hold (map counted bodies) memories) held in
      let moves : count (point_left (kept first) kind context) memories ≡ (telling first).moves = (shows.0 each.0).moves (body_of kind) (point_inside kind context (kept first).at) memories hold.0 in
      let behind = sum (take number (moves_told (map telling bodies))) in
      let parted : sum ((telling first).moves ∷ take number (moves_told (map telling bodies))) ≡ (telling first).moves + behind = sum-cons (telling first).moves (take number (moves_told (map telling bodies))) in
      let all : (telling first).moves + behind + rest ≡ move = omega (arith, parted, before) in
      let on : behind + rest ≡ move - count (point_left (kept first) kind context) memories = omega (arith, all, moves) in
      let at : suc start + number ≡ start + suc number = omega arith in
      is-later move (count (point_left (kept first) kind context) memories) (start ∷ place_of (point_left (kept first) kind context) memories move)
      (place_in_parts in_any_order [] (suc start) (points_left (map kept bodies) kind context) memories) (omega (arith, all, moves))
      ∙ point-found bodies shows.1 each.1 hold.1 (suc start) (move - count (point_left (kept first) kind context) memories) number rest body (omega (arith, there)) is on inside
      ∙ ap (λ (n : ℕ). n ∷ place_of (body_left (kept body) (body_of kind) (point_inside kind context (kept body).at)) ((kept body).own ∷ memories) rest) at

  pub element-found : (bodies : List A) → AllBodiesShow kept telling counted bodies → all_right (map telling bodies) ≡ true → all_hold (map counted bodies) memories ≡ true
      → (start move number rest : ℕ) (body : A) → number < length bodies → body ≡ get_or bodies number body
      → sum (take number (moves_told (map telling bodies))) + rest ≡ move → rest < get_or (moves_told (map telling bodies)) number 0
      → place_in_active start (active_left (map kept bodies) kind context) memories move
      ≡ (start + number) ∷ place_of (body_left (kept body) (body_of kind) (element_inside kind context (value_at (kept body).at))) ((kept body).own ∷ memories) rest
  element-found [] shows right held start move number rest body there is before inside = absurd (omega (arith, there))
  element-found (first ∷ bodies) shows right held start move zero rest body there is before inside =
      let each = both-true ((telling first).is_right) (all_right (map telling bodies)) right in
      let hold = both-true (counted first memories) (all_hold (map counted bodies) memories) held in
      let moves : count (element_left (kept first) kind context) memories ≡ (telling first).moves = (shows.0 each.0).moves (body_of kind) (element_inside kind context (value_at (kept first).at)) memories hold.0 in
      let same : rest ≡ move = omega (arith, before) in
      let at : start ≡ start + 0 = omega arith in
      is-here move (count (element_left (kept first) kind context) memories) (start ∷ place_of (element_left (kept first) kind context) memories move)
      (place_in_active (suc start) (active_left (map kept bodies) kind context) memories) (omega (arith, inside, moves, same))
      ∙ ap₂ (λ (n : ℕ) (m : ℕ). n ∷ place_of (element_left (kept first) kind context) memories m) at (sym same)
      ∙ ap (λ (b : A). (start + 0) ∷ place_of (body_left (kept b) (body_of kind) (element_inside kind context (value_at (kept b).at))) ((kept b).own ∷ memories) rest) (sym is)
  element-found (first ∷ bodies) shows right held start move (suc number) rest body there is before inside =
      let each = both-true ((telling first).is_right) (all_right (map telling bodies)) right in
      let hold = both-true (counted first memories) (all_hold (map counted bodies) memories) held in
      let moves : count (element_left (kept first) kind context) memories ≡ (telling first).moves = (shows.0 each.0).moves (body_of kind) (element_inside kind context (value_at (kept first).at)) memories hold.0 in
      let behind = sum (take number (moves_told (map telling bodies))) in
      let parted : sum ((telling first).moves ∷ take number (moves_told (map telling bodies))) ≡ (telling first).moves + behind = sum-cons (telling first).moves (take number (moves_told (map telling bodies))) in
      let all : (telling first).moves + behind + rest ≡ move = omega (arith, parted, before) in
      let on : behind + rest ≡ move - count (element_left (kept first) kind context) memories = omega (arith, all, moves) in
      let at : suc start + number ≡ start + suc number = omega arith in
      is-later move (count (element_left (kept first) kind context) memories) (start ∷ place_of (element_left (kept first) kind context) memories move)
      (place_in_active (suc start) (active_left (map kept bodies) kind context) memories) (omega (arith, all, moves))
      ∙ element-found bodies shows.1 each.1 hold.1 (suc start) (move - count (element_left (kept first) kind context) memories) number rest body (omega (arith, there)) is on inside
      ∙ ap (λ (n : ℕ). n ∷ place_of (body_left (kept body) (body_of kind) (element_inside kind context (value_at (kept body).at))) ((kept body).own ∷ memories) rest) at

pub moves-at : {A : Type 0} (telling : A → Telling) (bodies : List A) (number : ℕ) (body : A) → number < length bodies → body ≡ get_or bodies number body
    → get_or (moves_told (map telling bodies)) number 0 ≡ (telling body).moves
moves-at telling [] number body there is = absurd (omega (arith, there))
moves-at telling (first ∷ bodies) zero body there is = ap (λ (b : _). (telling b).moves) (sym is)
moves-at telling (first ∷ bodies) (suc number) body there is = moves-at telling bodies number body (omega (arith, there)) is

-- bodies, whose counts are right
module _ {A : Type 0} (kept : A → BodyLeft) (telling : A → Telling) (counted : A → Told) (bodies : List A) (moves unfinished pools : List ℕ) (shows : AllBodiesShow kept telling counted bodies)
    (right : (counts_tell moves unfinished pools (moves_told (map telling bodies)) (unfinished_told (map telling bodies)) (pools_told (map telling bodies)) (all_right (map telling bodies))).is_right ≡ true)
    (memories : Memories) (held : all_hold (map counted bodies) memories ≡ true) (unit number rest : ℕ) (inside : rest < get_or moves number 0) where
  kept_right : Were moves (moves_told (map telling bodies)) unfinished (unfinished_told (map telling bodies)) pools (pools_told (map telling bodies)) (all_right (map telling bodies))
  kept_right = were moves (moves_told (map telling bodies)) unfinished (unfinished_told (map telling bodies)) pools (pools_told (map telling bodies)) (all_right (map telling bodies)) right

  pub body-there : number < length bodies
  body-there = omega (arith, counted-there moves number rest inside, ap length kept_right.moves_are, as-long (λ (part : Telling). part.moves) (map telling bodies), as-long telling bodies)

  inside_wanted : rest < get_or (moves_told (map telling bodies)) number 0
  inside_wanted = omega (arith, inside, ap (λ (m : List ℕ). get_or m number 0) kept_right.moves_are)

  module _ (body : A) (is : body ≡ get_or bodies number body) where
    pub body-right : (telling body).is_right ≡ true
    body-right = right-at telling bodies number body body-there is kept_right.parts_are

    pub body-held : counted body memories ≡ true
    body-held = held-at counted memories bodies number body body-there is held

    pub body-moves : rest < (telling body).moves
    body-moves = omega (arith, inside_wanted, moves-at telling bodies number body body-there is)

    module _ (before : sum (take number moves) + rest ≡ unit) (kind : KindTree) (context : Context) where
      before_wanted : sum (take number (moves_told (map telling bodies))) + rest ≡ unit
      before_wanted = omega (arith, before, ap (λ (m : List ℕ). sum (take number m)) kept_right.moves_are)

      pub point-place : place_in_parts in_any_order [] 0 (points_left (map kept bodies) kind context) memories unit
          ≡ number ∷ place_of (body_left (kept body) (body_of kind) (point_inside kind context (kept body).at)) ((kept body).own ∷ memories) rest
      point-place =
          let at : 0 + number ≡ number = omega arith in
          point-found kept telling counted kind context memories bodies shows kept_right.parts_are held 0 unit number rest body body-there is before_wanted inside_wanted
          ∙ ap (λ (n : ℕ). n ∷ place_of (body_left (kept body) (body_of kind) (point_inside kind context (kept body).at)) ((kept body).own ∷ memories) rest) at

      pub element-place : place_in_active 0 (active_left (map kept bodies) kind context) memories unit
          ≡ number ∷ place_of (body_left (kept body) (body_of kind) (element_inside kind context (value_at (kept body).at))) ((kept body).own ∷ memories) rest
      element-place =
          let at : 0 + number ≡ number = omega arith in
          element-found kept telling counted kind context memories bodies shows kept_right.parts_are held 0 unit number rest body body-there is before_wanted inside_wanted
          ∙ ap (λ (n : ℕ). n ∷ place_of (body_left (kept body) (body_of kind) (element_inside kind context (value_at (kept body).at))) ((kept body).own ∷ memories) rest) at
