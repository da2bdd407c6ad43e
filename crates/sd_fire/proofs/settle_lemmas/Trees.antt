-- The work of trees whose counts are right, laid out, and where they have no open pools.
use Rattle.std.proofs.Common.{◌≡◌, ℕ, zero, suc, nat_eq, ℤ, List, [], ◌∷◌, take, map, Bool, true, false, not, ◌&&◌, None, refl, ap, ap₂, ◌∙◌}
use Rattle.sd_work.specs.Memory.{Memories}
use Rattle.sd_work.specs.Residual.{Term, also, busy, none_active}
use Rattle.sd_work.specs.Settle.{all_true}
use Rattle.sd_moves.specs.numbered.Counts.{one_if}
use Rattle.sd_graph.specs.PlainTree.{KindTree, ItemTrees, no_item}
use Rattle.sd_graph.specs.Context.{Context}
use Rattle.sd_graph.specs.declared.place.Place.{Place}
use Rattle.sd_left.specs.tree.Standing.{first_line, first_kind, others, behind, body_of, point_inside, element_inside, value_at, point_left, points_left, element_left, active_left, parts_left}
use Rattle.sd_left.specs.declared.left.left.Left.{Left as LeftNow}
use Rattle.sd_left.specs.declared.left.left.Body.{Body as BodyNow}
use Rattle.sd_left.specs.left.Kept.{left_of, body_kept}
use Rattle.sd_left.specs.left.Waits.{is_counted, is_body_counted}
use Rattle.sd_left.specs.left.Telling.{Telling, flags_told, unfinished_told, all_right}
use Rattle.sd_left.specs.left.Tells.{tells, body_tells}
use Rattle.sd_left.proofs.left_lemmas.Sameness.{both-true}
use Rattle.sd_left.proofs.left_lemmas.Showing.{left-shows, body-shows-all}
use Rattle.sd_left.proofs.pool_free_left_lemmas.Waiting.{left-waits, body-waits}
use Rattle.sd_fire.proofs.settle_lemmas.Laid.{laid, flags_at, AllCounted}
use Rattle.sd_fire.proofs.settle_lemmas.Working.{working}
use Rattle.sd_fire.proofs.settle_lemmas.Held.{AllCalm}

abbrev pub pools_in : LeftNow → ℕ
pools_in part = (tells part).pools

abbrev pub pools_in_body : BodyNow → ℕ
pools_in_body body = (body_tells body).pools

-- no context tells more of a tree without open pools than another one
pub nowhere : Context
nowhere = record { containers = []; names = []; values = []; reach = λ number. record { level = 0; container = 0; find = λ at. None }; shown = []; around = [] }

pub parts-calm : (memories : Memories) (parts : List LeftNow) → all_right (map tells parts) ≡ true → AllCalm is_counted pools_in memories parts
parts-calm memories [] right = tt
parts-calm memories (part ∷ parts) right =
    let each = both-true (tells part).is_right (all_right (map tells parts)) right in
    (λ none. left-waits part (first_kind no_item) 0 nowhere memories ((left-shows part each.0).free (first_kind no_item) 0 nowhere none), parts-calm memories parts each.1)

pub bodies-calm : (memories : Memories) (bodies : List BodyNow) → all_right (map body_tells bodies) ≡ true → AllCalm is_body_counted pools_in_body memories bodies
bodies-calm memories [] right = tt
bodies-calm memories (body ∷ bodies) right =
    let each = both-true (body_tells body).is_right (all_right (map body_tells bodies)) right in
    (λ none. body-waits body no_item nowhere memories ((body-shows-all body each.0).free no_item nowhere none), bodies-calm memories bodies each.1)

-- ---- points and elements

module _ (kind : KindTree) (context : Context) where
  abbrev pub point_place : ℕ → BodyNow → Term Place
  point_place number body = point_left (body_kept body) kind context

  abbrev pub element_place : BodyNow → Term Place
  element_place body = element_left (body_kept body) kind context

  abbrev pub element_value : BodyNow → ℤ
  element_value body = value_at (body_kept body).at

  pub points-laid : (number : ℕ) (bodies : List BodyNow) → points_left (map body_kept bodies) kind context ≡ laid point_place number bodies
  points-laid number [] = refl
  points-laid number (body ∷ bodies) = ap (also (point_place number body)) (points-laid (suc number) bodies)

  pub elements-laid : (bodies : List BodyNow) → active_left (map body_kept bodies) kind context ≡ working element_value element_place bodies
  elements-laid [] = refl
  elements-laid (body ∷ bodies) = ap (busy (element_value body) (element_place body)) (elements-laid bodies)

  pub points-counted : (bodies : List BodyNow) → all_right (map body_tells bodies) ≡ true → AllCounted point_place pools_in_body bodies
  points-counted [] right = tt
  points-counted (body ∷ bodies) right =
      let each = both-true (body_tells body).is_right (all_right (map body_tells bodies)) right in
      (λ number none. (body-shows-all body each.0).free (body_of kind) (point_inside kind context (body_kept body).at) none, points-counted bodies each.1)

  pub elements-counted : (bodies : List BodyNow) → all_right (map body_tells bodies) ≡ true → AllCounted (λ (number : ℕ) (body : BodyNow). element_place body) pools_in_body bodies
  elements-counted [] right = tt
  elements-counted (body ∷ bodies) right =
      let each = both-true (body_tells body).is_right (all_right (map body_tells bodies)) right in
      (λ number none. (body-shows-all body each.0).free (body_of kind) (element_inside kind context (value_at (body_kept body).at)) none, elements-counted bodies each.1)

  pub point-flags : (number skip : ℕ) (bodies : List BodyNow) → all_right (map body_tells bodies) ≡ true → flags_at point_place number skip bodies ≡ take skip (flags_told (map body_tells bodies))
  point-flags number zero [] right = refl
  point-flags number zero (body ∷ bodies) right = refl
  point-flags number (suc skip) [] right = refl
  point-flags number (suc skip) (body ∷ bodies) right =
      let each = both-true (body_tells body).is_right (all_right (map body_tells bodies)) right in
      ap₂ (λ (flag : Bool) (flags : List Bool). flag ∷ flags) ((body-shows-all body each.0).over (body_of kind) (point_inside kind context (body_kept body).at)) (point-flags (suc number) skip bodies each.1)

-- ---- items

others-behind : (number : ℕ) (items : ItemTrees) → others (behind number items) ≡ behind (suc number) items
others-behind zero items = refl
others-behind (suc number) items = others-behind number (others items)

module _ (items : ItemTrees) (context : Context) where
  abbrev pub item_place : ℕ → LeftNow → Term Place
  item_place number part = left_of part (first_kind (behind number items)) (first_line (behind number items)) context

  pub parts-laid : (number : ℕ) (parts : List LeftNow) → parts_left (map left_of parts) (behind number items) context ≡ laid item_place number parts
  parts-laid number [] = refl
  parts-laid number (part ∷ parts) =
      ap (also (item_place number part))
      (ap (λ (rest : ItemTrees). parts_left (map left_of parts) rest context) (others-behind number items) ∙ parts-laid (suc number) parts)

  pub parts-counted : (parts : List LeftNow) → all_right (map tells parts) ≡ true → AllCounted item_place pools_in parts
  parts-counted [] right = tt
  parts-counted (part ∷ parts) right =
      let each = both-true (tells part).is_right (all_right (map tells parts)) right in
      (λ number none. (left-shows part each.0).free (first_kind (behind number items)) (first_line (behind number items)) context none, parts-counted parts each.1)

  pub part-flags : (number skip : ℕ) (parts : List LeftNow) → all_right (map tells parts) ≡ true → flags_at item_place number skip parts ≡ take skip (flags_told (map tells parts))
  part-flags number zero [] right = refl
  part-flags number zero (part ∷ parts) right = refl
  part-flags number (suc skip) [] right = refl
  part-flags number (suc skip) (part ∷ parts) right =
      let each = both-true (tells part).is_right (all_right (map tells parts)) right in
      ap₂ (λ (flag : Bool) (flags : List Bool). flag ∷ flags) ((left-shows part each.0).over (first_kind (behind number items)) (first_line (behind number items)) context) (part-flags (suc number) skip parts each.1)

-- ---- flags

count-flag : (unfinished : Bool) → nat_eq (one_if unfinished) 0 ≡ not unfinished
count-flag true = refl
count-flag false = refl

pub clear-flags : (number : ℕ) (tellings : List Telling) → map (λ count. nat_eq count 0) (take number (unfinished_told tellings)) ≡ take number (flags_told tellings)
clear-flags zero [] = refl
clear-flags zero (telling ∷ tellings) = refl
clear-flags (suc number) [] = refl
clear-flags (suc number) (telling ∷ tellings) = ap₂ (λ (flag : Bool) (flags : List Bool). flag ∷ flags) (count-flag telling.is_unfinished) (clear-flags number tellings)

pub none-in-work : (kind : KindTree) (context : Context) (bodies : List BodyNow) → all_right (map body_tells bodies) ≡ true
    → none_active (active_left (map body_kept bodies) kind context) ≡ all_true (flags_told (map body_tells bodies))
none-in-work kind context [] right = refl
none-in-work kind context (body ∷ bodies) right =
    let each = both-true (body_tells body).is_right (all_right (map body_tells bodies)) right in
    ap₂ (λ (a b : Bool). a && b) ((body-shows-all body each.0).over (body_of kind) (element_inside kind context (value_at (body_kept body).at))) (none-in-work kind context bodies each.1)
