-- The move of a number in the first part of which something is left.
use Rattle.std.proofs.Common.{◌≡◌, ℕ, zero, suc, ◌+◌, ◌-◌, ◌<◌, nat_eq, List, [], ◌∷◌, map, take, drop, length, get_or, Bool, true, false, cond, not, ◌&&◌, refl, sym, ap, ap₂, ◌∙◌, subst, arith}
use Rattle.std.specs.List.{sum}
use Rattle.sd_work.specs.Memory.{Memories}
use Rattle.sd_work.specs.Residual.{Points, Term, Terms, list, none, also, finished, flags_of, is_ready, part_at}
use Rattle.sd_work.specs.Settle.{all_true}
use Rattle.sd_moves.specs.numbered.Counts.{count, one_if}
use Rattle.sd_moves.specs.numbered.Places.{place_of, place_in_parts}
use Rattle.sd_moves.proofs.numbered_lemmas.Counted.{count-finished}
use Rattle.sd_graph.specs.PlainTree.{KindTree}
use Rattle.sd_graph.specs.Context.{Context}
use Rattle.sd_graph.specs.Unfold.{one_after_another}
use Rattle.sd_graph.specs.declared.place.Place.{Place}
use Rattle.sd_graph.proofs.InSequence.{ready_in_sequence}
use Rattle.sd_left.specs.tree.Standing.{BodyLeft, body_of, point_inside, body_left, point_left, points_left}
use Rattle.sd_left.specs.left.Waits.{Told, all_hold}
use Rattle.sd_left.specs.left.Telling.{Telling, moves_told, unfinished_told, flags_told, all_right, count_of_first}
use Rattle.sd_left.proofs.tree_lemmas.Sequence.{one-more}
use Rattle.sd_left.proofs.left_lemmas.Sameness.{both-true, sum-cons}
use Rattle.sd_left.proofs.left_lemmas.Shows.{BodyShows, AllBodiesShow, points-flags}
use Rattle.sd_left.proofs.next_moves_lemmas.Held.{right-at, held-at}
use Rattle.sd_left.proofs.next_moves_lemmas.Found.{is-here, is-later, moves-at}

-- all parts before it are finished, from this one on
part-found : (parts : Terms Place) (flags : List Bool) (start number : ℕ) (memories : Memories) (move : ℕ) → all_true (take start flags) ≡ true → drop start flags ≡ flags_of parts
    → all_true (take number (flags_of parts)) ≡ true → move < count (part_at parts number) memories
    → place_in_parts one_after_another flags start parts memories move ≡ (start + number) ∷ place_of (part_at parts number) memories move
part-found none flags start number memories move free are over less = absurd (omega (arith, less))
part-found (also part parts) flags start zero memories move free are over less =
    let ready : is_ready one_after_another flags start ≡ true = ready_in_sequence flags start ∙ free in
    let here : cond (is_ready one_after_another flags start) (count part memories) 0 ≡ count part memories = ap (λ (so : Bool). cond so (count part memories) 0) ready in
    let at : start ≡ start + 0 = omega arith in
    is-here move (cond (is_ready one_after_another flags start) (count part memories) 0) (start ∷ place_of part memories move)
    (place_in_parts one_after_another flags (suc start) parts memories) (omega (arith, less, here))
    ∙ ap (λ (n : ℕ). n ∷ place_of part memories move) at
part-found (also part parts) flags start (suc number) memories move free are over less =
    let each = both-true (finished part) (all_true (take number (flags_of parts))) over in
    let more = one-more flags start (finished part) (flags_of parts) are in
    let ready : is_ready one_after_another flags start ≡ true = ready_in_sequence flags start ∙ free in
    let nothing : cond (is_ready one_after_another flags start) (count part memories) 0 ≡ 0 =
    ap₂ (λ (so : Bool) (n : ℕ). cond so n 0) ready (count-finished part memories each.0) in
    let all : move - cond (is_ready one_after_another flags start) (count part memories) 0 ≡ move = omega (arith, nothing) in
    let at : suc start + number ≡ start + suc number = omega arith in
    is-later move (cond (is_ready one_after_another flags start) (count part memories) 0) (start ∷ place_of part memories move)
    (place_in_parts one_after_another flags (suc start) parts memories) (omega (arith, nothing))
    ∙ ap (λ (m : ℕ). place_in_parts one_after_another flags (suc start) parts memories m) all
    ∙ part-found parts flags (suc start) number memories move (more.earlier ∙ ap₂ (λ (a b : Bool). a && b) free each.0) more.later each.1 less
    ∙ ap (λ (n : ℕ). n ∷ place_of (part_at parts number) memories move) at

first-part : (parts : Terms Place) (number : ℕ) (memories : Memories) (move : ℕ) → all_true (take number (flags_of parts)) ≡ true → move < count (part_at parts number) memories
    → place_of (list Points one_after_another parts) memories move ≡ number ∷ place_of (part_at parts number) memories move
first-part parts number memories move over less =
    let at : 0 + number ≡ number = omega arith in
    part-found parts (flags_of parts) 0 number memories move refl refl over less
    ∙ ap (λ (n : ℕ). n ∷ place_of (part_at parts number) memories move) at

point-at : {A : Type 0} (kept : A → BodyLeft) (kind : KindTree) (context : Context) (bodies : List A) (number : ℕ) (body : A) → number < length bodies → body ≡ get_or bodies number body
    → part_at (points_left (map kept bodies) kind context) number ≡ point_left (kept body) kind context
point-at kept kind context [] number body there is = absurd (omega (arith, there))
point-at kept kind context (first ∷ bodies) zero body there is = ap (λ (b : _). point_left (kept b) kind context) (sym is)
point-at kept kind context (first ∷ bodies) (suc number) body there is = point-at kept kind context bodies number body (omega (arith, there)) is

shows-at : {A : Type 0} (kept : A → BodyLeft) (telling : A → Telling) (counted : A → Told) (bodies : List A) (number : ℕ) (body : A) → AllBodiesShow kept telling counted bodies
    → number < length bodies → body ≡ get_or bodies number body → BodyShows (kept body) (telling body) (counted body)
shows-at kept telling counted [] number body shows there is = absurd (omega (arith, there))
shows-at kept telling counted (first ∷ bodies) zero body shows there is = subst (λ (b : _). BodyShows (kept b) (telling b) (counted b)) (sym is) shows.0
shows-at kept telling counted (first ∷ bodies) (suc number) body shows there is = shows-at kept telling counted bodies number body shows.1 (omega (arith, there)) is

-- of a part and those behind it: a move that is not in the part is behind it, and the part is finished
one-step : (unfinished : Bool) (here behind rest move first : ℕ) (over : Bool) → (unfinished ≡ false → here ≡ 0) → here + behind + rest ≡ move → move < cond (nat_eq (one_if unfinished) 0) first here
    → (here ≡ 0 → move < first → (over ≡ true) × (rest ≡ move)) → ((not unfinished && over) ≡ true) × (rest ≡ move)
one-step true here behind rest move first over nothing sums less later = absurd (omega (arith, sums, less))
one-step false here behind rest move first over nothing sums less later = later (nothing refl) less

-- bodies, whose counts are right
module _ {A : Type 0} (kept : A → BodyLeft) (telling : A → Telling) (counted : A → Told) (kind : KindTree) (context : Context) (memories : Memories) where
  -- a part in which a move is, that is one of the first part of which something is left, is that part
  pub in-first : (bodies : List A) → AllBodiesShow kept telling counted bodies → all_right (map telling bodies) ≡ true → all_hold (map counted bodies) memories ≡ true
      → (move number rest : ℕ) → sum (take number (moves_told (map telling bodies))) + rest ≡ move → rest < get_or (moves_told (map telling bodies)) number 0
      → move < count_of_first (moves_told (map telling bodies)) (unfinished_told (map telling bodies))
      → (all_true (take number (flags_told (map telling bodies))) ≡ true) × (rest ≡ move)
  in-first [] shows right held move number rest before inside less = absurd (omega (arith, inside))
  in-first (first ∷ bodies) shows right held move zero rest before inside less =
      let same : rest ≡ move = omega (arith, before) in
      (refl, same)
  in-first (first ∷ bodies) shows right held move (suc number) rest before inside less =
      let each = both-true ((telling first).is_right) (all_right (map telling bodies)) right in
      let hold = both-true (counted first memories) (all_hold (map counted bodies) memories) held in
      let told = shows.0 each.0 in
      let over : finished (point_left (kept first) kind context) ≡ not (telling first).is_unfinished = told.over (body_of kind) (point_inside kind context (kept first).at) in
      let moves : count (point_left (kept first) kind context) memories ≡ (telling first).moves = told.moves (body_of kind) (point_inside kind context (kept first).at) memories hold.0 in
      let behind = sum (take number (moves_told (map telling bodies))) in
      let parted : sum ((telling first).moves ∷ take number (moves_told (map telling bodies))) ≡ (telling first).moves + behind = sum-cons (telling first).moves (take number (moves_told (map telling bodies))) in
      one-step (telling first).is_unfinished (telling first).moves behind rest move (count_of_first (moves_told (map telling bodies)) (unfinished_told (map telling bodies)))
      (all_true (take number (flags_told (map telling bodies))))
      (λ done. sym moves ∙ count-finished (point_left (kept first) kind context) memories (over ∙ ap not done))
      (omega (arith, parted, before)) less
      (λ nothing now. in-first bodies shows.1 each.1 hold.1 move number rest (omega (arith, parted, before, nothing)) inside now)

  -- a move in the first part of which something is left
  pub first-place : (bodies : List A) (shows : AllBodiesShow kept telling counted bodies) → all_right (map telling bodies) ≡ true → all_hold (map counted bodies) memories ≡ true
      → (move number rest : ℕ) (body : A) → number < length bodies → body ≡ get_or bodies number body
      → sum (take number (moves_told (map telling bodies))) + rest ≡ move → rest < get_or (moves_told (map telling bodies)) number 0
      → move < count_of_first (moves_told (map telling bodies)) (unfinished_told (map telling bodies))
      → place_of (list Points one_after_another (points_left (map kept bodies) kind context)) memories move
      ≡ number ∷ place_of (body_left (kept body) (body_of kind) (point_inside kind context (kept body).at)) ((kept body).own ∷ memories) rest
  first-place bodies shows right held move number rest body there is before inside less =
      let first = in-first bodies shows right held move number rest before inside less in
      let parts = points_left (map kept bodies) kind context in
      let part : part_at parts number ≡ point_left (kept body) kind context = point-at kept kind context bodies number body there is in
      let told = shows-at kept telling counted bodies number body shows there is (right-at telling bodies number body there is right) in
      let moves : count (part_at parts number) memories ≡ (telling body).moves =
      ap (λ (work : Term Place). count work memories) part ∙ told.moves (body_of kind) (point_inside kind context (kept body).at) memories (held-at counted memories bodies number body there is held) in
      let has : get_or (moves_told (map telling bodies)) number 0 ≡ (telling body).moves = moves-at telling bodies number body there is in
      first-part parts number memories move
      (ap (λ (flags : List Bool). all_true (take number flags)) (points-flags kept telling counted bodies shows right kind context) ∙ first.0)
      (omega (arith, inside, moves, has, first.1))
      ∙ ap₂ (λ (work : Term Place) (m : ℕ). number ∷ place_of work memories m) part (sym first.1)
