-- Moves and settling keep the orders of lists.
use Rattle.std.proofs.Common.{ℕ, zero, suc, ℤ, List, [], ◌∷◌, map, Bool, true, ◌&&◌, slice_get}
use Rattle.sd_work.specs.Memory.{Memories, waiting}
use Rattle.sd_work.specs.LeafMove.{leaf_move}
use Rattle.sd_work.specs.Exit.{first_exit}
use Rattle.sd_work.specs.Residual.{Parts, Term, leaf, list, owning, nested, ended, pool, Terms, none, also, Actives, idle, busy, finished, is_ready}
use Rattle.sd_work.specs.Moves.{Path}
use Rattle.sd_work.specs.Fire.{and_last, fire, fire_part, fire_active}
use Rattle.sd_work.specs.Settle.{is_first_left, settle, settle_parts, settle_active}
use Rattle.sd_work.specs.WellFormed.{IsOrdered, AreOrdered, AreActiveOrdered}
use Rattle.sd_work.proofs.Leaving.{Leaves, leaves_any, leaves_map, leaves_owned, leaves_cond, leaves_transition, leaves_take}

ordered_last : {P : Type 0} (active : Actives P) (v : ℤ) (t : Term P) → AreActiveOrdered active → IsOrdered t → AreActiveOrdered (and_last active v t)
ordered_last idle v t a o = (o, tt)
ordered_last (busy w u us) v t a o = (a.0, ordered_last us v t a.1 o)

mutual
  -- each list keeps an order
  pub ordered-kept : {P : Type 0} (t : Term P) (p : Path) (s : Memories) → IsOrdered t → Leaves IsOrdered (fire t p s)
  ordered-kept (leaf place work) p s o = leaves_any (leaf place) IsOrdered (λ w. tt) (leaf_move place work s)
  ordered-kept (list kind before parts) [] s o = tt
  ordered-kept (list kind before parts) (k ∷ p) s o = leaves_map (list kind before) AreOrdered IsOrdered (λ x g. (o.0, g)) (fire_part parts k p s) (ordered_part parts k p s o.1)
  ordered-kept (owning own part) p s o = leaves_owned IsOrdered IsOrdered owning own (λ f x g. g) (fire part p (own ∷ s)) (ordered-kept part p (own ∷ s) o)
  ordered-kept (nested body exits own state values part) p s o =
      leaves_cond IsOrdered (finished part) _ _ (leaves_transition IsOrdered body exits own tt (λ k e. (o.1 k e, o.1)) (first_exit (exits state values) (own ∷ s)))
      (leaves_owned IsOrdered IsOrdered (λ f x. nested body exits f state values x) own (λ f x g. (g, o.1)) (fire part p (own ∷ s)) (ordered-kept part p (own ∷ s) o.0))
  ordered-kept (ended own) p s o = tt
  ordered-kept (pool level container body active closed) [] s o = tt
  ordered-kept (pool level container body active closed) (zero ∷ []) s o = tt
  ordered-kept (pool level container body active closed) (zero ∷ k ∷ p) s o =
      leaves_take IsOrdered level container body active closed (λ v. (ordered_last active v (body v) o.0 (o.1 v), o.1)) k (slice_get (waiting level container s) k)
  ordered-kept (pool level container body active closed) (suc n ∷ []) s o = tt
  ordered-kept (pool level container body active closed) (suc n ∷ k ∷ p) s o =
      leaves_map (λ x. pool level container body x closed) AreActiveOrdered IsOrdered (λ x g. (g, o.1)) (fire_active active k p s) (ordered_active active k p s o.0)

  ordered_part : {P : Type 0} (ts : Terms P) (k : ℕ) (p : Path) (s : Memories) → AreOrdered ts → Leaves AreOrdered (fire_part ts k p s)
  ordered_part none k p s o = tt
  ordered_part (also t ts) zero p s o = leaves_map (λ x. also x ts) IsOrdered AreOrdered (λ x g. (g, o.1)) (fire t p s) (ordered-kept t p s o.0)
  ordered_part (also t ts) (suc k) p s o = leaves_map (λ x. also t x) AreOrdered AreOrdered (λ x g. (o.0, g)) (fire_part ts k p s) (ordered_part ts k p s o.1)

  ordered_active : {P : Type 0} (ts : Actives P) (k : ℕ) (p : Path) (s : Memories) → AreActiveOrdered ts → Leaves AreActiveOrdered (fire_active ts k p s)
  ordered_active idle k p s o = tt
  ordered_active (busy v t ts) zero p s o = leaves_map (λ x. busy v x ts) IsOrdered AreActiveOrdered (λ x g. (g, o.1)) (fire t p s) (ordered-kept t p s o.0)
  ordered_active (busy v t ts) (suc k) p s o = leaves_map (λ x. busy v t x) AreActiveOrdered AreActiveOrdered (λ x g. (o.0, g)) (fire_active ts k p s) (ordered_active ts k p s o.1)

mutual
  -- a settled term has its orders
  pub ordered-settled : {P : Type 0} (go : Bool) (cleared : List Bool) (s : Memories) (t : Term P) → IsOrdered t → IsOrdered (settle go cleared s t)
  ordered-settled go cleared s (leaf place work) o = tt
  ordered-settled go cleared s (list kind before parts) o = (o.0, ordered-settled_parts go cleared s kind before [] 0 parts o.1)
  ordered-settled go cleared s (owning own part) o = ordered-settled go (true ∷ cleared) (own ∷ s) part o
  ordered-settled go cleared s (nested body exits own state values part) o = (ordered-settled go (true ∷ cleared) (own ∷ s) part o.0, o.1)
  ordered-settled go cleared s (ended own) o = tt
  ordered-settled go cleared s (pool level container body active closed) o = (ordered-settled_active go cleared s active o.0, o.1)

  ordered-settled_parts : {P : Type 0} (go : Bool) (cleared : List Bool) (s : Memories) (kind : Parts) (before : ℕ → ℕ → Bool) (flags : List Bool) (number : ℕ) (ts : Terms P) →
      AreOrdered ts → AreOrdered (settle_parts go cleared s kind before flags number ts)
  ordered-settled_parts go cleared s kind before flags number none o = tt
  ordered-settled_parts go cleared s kind before flags number (also t ts) o =
      (ordered-settled (go && is_ready before flags number) (map (λ flag. is_first_left kind flags && flag) cleared) s t o.0, ordered-settled_parts go cleared s kind before _ (suc number) ts o.1)

  ordered-settled_active : {P : Type 0} (go : Bool) (cleared : List Bool) (s : Memories) (ts : Actives P) → AreActiveOrdered ts → AreActiveOrdered (settle_active go cleared s ts)
  ordered-settled_active go cleared s idle o = tt
  ordered-settled_active go cleared s (busy v t ts) o = (ordered-settled go cleared s t o.0, ordered-settled_active go cleared s ts o.1)
