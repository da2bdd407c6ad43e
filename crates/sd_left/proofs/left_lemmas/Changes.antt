-- Trees in which one part was changed and counted again.
use Rattle.std.proofs.Common.{◌≡◌, ℕ, ◌<◌, List, [], ◌∷◌, ◌++◌, map, length, get_or, slice_set, Bool, true, false, cond, ◌&&◌, refl, sym, ap, ap₂, ◌∙◌, subst, arith}
use Rattle.std.proofs.lemmas.List.{get_or-set_same, length-set}
use Rattle.sd_work.specs.Memory.{Memories}
use Rattle.sd_work.specs.Residual.{is_ready}
use Rattle.sd_moves.specs.numbered.Counts.{one_if}
use Rattle.sd_order.specs.table.Told.{told}
use Rattle.sd_left.specs.declared.left.left.Left.{Left as LeftNow}
use Rattle.sd_left.specs.declared.left.left.Bodies.{Bodies as BodiesNow}
use Rattle.sd_left.specs.declared.left.left.Body.{Body as BodyNow}
use Rattle.sd_left.specs.declared.left.left.Run.{Run as RunNow}
use Rattle.sd_left.specs.declared.left.left.Left.TheOpen.{Bodies-F, Body-F}
use Rattle.sd_left.specs.declared.left.left.Left.TheViews.{out-Bodies, out-Body, roll-Bodies, roll-Body}
use Rattle.sd_left.specs.left.Waits.{Told, all_hold}
use Rattle.sd_left.specs.left.Telling.{Telling, flags_told, ready_moves}
use Rattle.sd_left.specs.left.Tells.{tells, bodies_tell, body_tells}
use Rattle.sd_left.proofs.left_lemmas.TellRolls.{bodies_rolled, body_rolled, bodies_told, body_told}
use Rattle.sd_left.proofs.left_lemmas.Sameness.{at_all}
use Rattle.sd_left.proofs.left_lemmas.Recounted.{BodiesRight, PartsRight, body-again, body-added, part-again, parts-again}

-- one that was put there stands there
pub put-there : {A : Type 0} (all others : List A) (number : ℕ) (one : A) → number < length all → all ≡ slice_set others number one → (number < length others) × (one ≡ get_or all number one)
put-there all others number one there is =
    let size : number < length others = omega (arith, there, ap length is, length-set others number one) in
    (size, sym (ap (λ (list : List _). get_or list number one) is ∙ get_or-set_same others number one one size))

pub hold-last : (all : List Told) (one : Told) (memories : Memories) → all_hold (all ++ one ∷ []) memories ≡ (all_hold all memories && one memories)
hold-last [] one memories = and-true (one memories)
  where
    and-true : (so : Bool) → (so && true) ≡ so
    and-true true = refl
    and-true false = refl
hold-last (first ∷ all) one memories = ap (λ (so : Bool). first memories && so) (hold-last all one memories) ∙ and-and (first memories) (all_hold all memories) (one memories)
  where
    and-and : (a b c : Bool) → (a && (b && c)) ≡ ((a && b) && c)
    and-and true b c = refl
    and-and false b c = refl

-- ---- bodies

module _ (before : BodiesNow) (body : BodyNow) (x : Bodies-F LeftNow BodiesNow BodyNow RunNow) (right : (bodies_tell before).is_right ≡ true) (one : (body_tells body).is_right ≡ true) where
  were-right : BodiesRight body_tells (out-Bodies before).bodies.items (out-Bodies before).moves (out-Bodies before).unfinished (out-Bodies before).«open»
  were-right = sym (ap (λ (t : Telling). t.is_right) (bodies_told before)) ∙ right

  are-right : BodiesRight body_tells x.bodies.items x.moves x.unfinished x.«open» → (bodies_tell (roll-Bodies x)).is_right ≡ true
  are-right now = ap (λ (t : Telling). t.is_right) (bodies_rolled x) ∙ now

  pub bodies-again : (number : ℕ) → x.bodies.items ≡ slice_set (out-Bodies before).bodies.items number body → x.moves ≡ slice_set (out-Bodies before).moves number (body_tells body).moves
      → x.unfinished ≡ slice_set (out-Bodies before).unfinished number (one_if (body_tells body).is_unfinished)
      → x.«open» ≡ slice_set (out-Bodies before).«open» number (body_tells body).pools → (bodies_tell (roll-Bodies x)).is_right ≡ true
  bodies-again number bodies moves unfinished pools = are-right (at_all (BodiesRight body_tells) bodies moves unfinished pools
      (body-again body_tells (out-Bodies before).bodies.items (out-Bodies before).moves (out-Bodies before).unfinished (out-Bodies before).«open» body were-right one number))

  pub bodies-added : x.bodies.items ≡ (out-Bodies before).bodies.items ++ body ∷ [] → x.moves ≡ (out-Bodies before).moves ++ (body_tells body).moves ∷ []
      → x.unfinished ≡ (out-Bodies before).unfinished ++ one_if (body_tells body).is_unfinished ∷ []
      → x.«open» ≡ (out-Bodies before).«open» ++ (body_tells body).pools ∷ [] → (bodies_tell (roll-Bodies x)).is_right ≡ true
  bodies-added bodies moves unfinished pools = are-right (at_all (BodiesRight body_tells) bodies moves unfinished pools
      (body-added body_tells (out-Bodies before).bodies.items (out-Bodies before).moves (out-Bodies before).unfinished (out-Bodies before).«open» body were-right one))

-- ---- items

module _ (before : BodyNow) (number : ℕ) (part : LeftNow) (x : Body-F LeftNow BodiesNow BodyNow RunNow) (right : (body_tells before).is_right ≡ true) (one : (tells part).is_right ≡ true)
    (parts : x.parts.items ≡ slice_set (out-Body before).parts.items number part) (order : x.order ≡ (out-Body before).order)
    (unfinished : x.unfinished ≡ slice_set (out-Body before).unfinished number (one_if (tells part).is_unfinished))
    (pools : x.«open» ≡ slice_set (out-Body before).«open» number (tells part).pools) where
  abbrev order_before : ℕ → ℕ → Bool
  order_before = told (out-Body before).order

  abbrev parts_after : List LeftNow
  parts_after = slice_set (out-Body before).parts.items number part

  was-right : PartsRight tells order_before (out-Body before).parts.items (out-Body before).moves (out-Body before).unfinished (out-Body before).«open»
  was-right = sym (ap (λ (t : Telling). t.is_right) (body_told before)) ∙ right

  same-order : told x.order ≡ order_before
  same-order = ap told order

  is-right : PartsRight tells order_before x.parts.items x.moves x.unfinished x.«open» → (body_tells (roll-Body x)).is_right ≡ true
  is-right now =
      ap (λ (t : Telling). t.is_right) (body_rolled x)
      ∙ subst (λ (o : ℕ → ℕ → Bool). PartsRight tells o x.parts.items x.moves x.unfinished x.«open») (sym same-order) now

  pub item-again : number < length (out-Body before).parts.items → get_or (out-Body before).unfinished number 0 ≡ one_if (tells part).is_unfinished
      → x.moves ≡ slice_set (out-Body before).moves number (cond (is_ready (told x.order) (flags_told (map tells x.parts.items)) number) (tells part).moves 0)
      → (body_tells (roll-Body x)).is_right ≡ true
  item-again there same moves =
      let counted : x.moves ≡ slice_set (out-Body before).moves number (cond (is_ready order_before (flags_told (map tells parts_after)) number) (tells part).moves 0) =
      moves ∙ ap₂ (λ (o : ℕ → ℕ → Bool) (p : List LeftNow). slice_set (out-Body before).moves number (cond (is_ready o (flags_told (map tells p)) number) (tells part).moves 0)) same-order parts in
      is-right (at_all (PartsRight tells order_before) parts counted unfinished pools
      (part-again tells order_before (out-Body before).parts.items (out-Body before).moves (out-Body before).unfinished (out-Body before).«open» number part was-right one there same))

  pub items-again : x.moves ≡ ready_moves (told x.order) (flags_told (map tells x.parts.items)) 0 (map tells x.parts.items) → (body_tells (roll-Body x)).is_right ≡ true
  items-again moves =
      let counted : x.moves ≡ ready_moves order_before (flags_told (map tells parts_after)) 0 (map tells parts_after) =
      moves ∙ ap₂ (λ (o : ℕ → ℕ → Bool) (p : List LeftNow). ready_moves o (flags_told (map tells p)) 0 (map tells p)) same-order parts in
      is-right (at_all (PartsRight tells order_before) parts counted unfinished pools
      (parts-again tells order_before (out-Body before).parts.items (out-Body before).moves (out-Body before).unfinished (out-Body before).«open» number part was-right one))
