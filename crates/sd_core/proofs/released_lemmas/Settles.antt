-- Settling what is left does not look at what was let go, and a machine stays well-formed.
use Rattle.std.proofs.Common.{◌≡◌, ℕ, suc, List, [], ◌∷◌, ◌++◌, map, Bool, true, false, ◌&&◌, ◌||◌, slice_index_or, refl, sym, ap, ap₂, ◌∙◌, subst}
use Rattle.sd_work.specs.Memory.{Memories, waiting}
use Rattle.sd_work.specs.Residual.{Parts, Term, leaf, list, owning, nested, ended, pool, Terms, none, also, Actives, idle, busy, finished, none_active, is_ready}
use Rattle.sd_work.specs.Settle.{is_empty, is_first_left, settle, settle_parts, settle_active}
use Rattle.sd_work.specs.WellFormed.{IsOrdered, AreOrdered, AreActiveOrdered, HasPoolMemories, HavePoolMemories, HaveActivePoolMemories}
use Rattle.sd_moves.proofs.numbered_lemmas.Open.{settled-open}
use Rattle.sd_core.specs.Released.{IsReleased, same, let_go, in_list, in_owner, in_run, in_pool, AreReleased, no_part, each_part, AreActiveReleased, no_active, each_active}
use Rattle.sd_core.proofs.released_lemmas.Moves.{finished-released, none-released}

mutual
  pub settles-released : {P : Type 0} {old new : Term P} (may_go : Bool) (cleared : List Bool) (memories : Memories) → IsReleased old new → IsReleased (settle may_go cleared memories old) (settle may_go cleared memories new)
  settles-released may_go cleared memories same = same
  settles-released {P} may_go cleared memories (let_go {kind} {before} {parts} own memory over closed) =
      subst (λ (left : Term P). IsReleased (owning own left) (owning memory (list kind before none))) (sym (settled-open (list kind before parts) may_go (true ∷ cleared) (own ∷ memories) closed)) (let_go own memory over closed)
  settles-released may_go cleared memories (in_list {kind} {before} parts) = in_list (parts-settle may_go cleared memories kind before [] 0 parts)
  settles-released may_go cleared memories (in_owner {own} part) = in_owner (settles-released may_go (true ∷ cleared) (own ∷ memories) part)
  settles-released may_go cleared memories (in_run {own = own} part) = in_run (settles-released may_go (true ∷ cleared) (own ∷ memories) part)
  settles-released {P} may_go cleared memories (in_pool {level} {container} {body} {closed} {active} {others} changed) =
      let inside = active-settle may_go cleared memories changed in
      let old = settle_active may_go cleared memories active in
      let new = settle_active may_go cleared memories others in
      subst (λ (over : Bool). IsReleased (pool level container body old (closed || (may_go && (none_active old && (is_empty (waiting level container memories) && slice_index_or cleared level false)))))
      (pool level container body new (closed || (may_go && (over && (is_empty (waiting level container memories) && slice_index_or cleared level false)))))) (sym (none-released inside)) (in_pool inside)

  parts-settle : {P : Type 0} {old new : Terms P} (may_go : Bool) (cleared : List Bool) (memories : Memories) (kind : Parts) (before : ℕ → ℕ → Bool) (flags : List Bool) (number : ℕ) → AreReleased old new
      → AreReleased (settle_parts may_go cleared memories kind before flags number old) (settle_parts may_go cleared memories kind before flags number new)
  parts-settle may_go cleared memories kind before flags number no_part = no_part
  parts-settle {P} may_go cleared memories kind before flags number (each_part {part} {other} {parts} {others} changed rest) =
      let go = may_go && is_ready before flags number in
      let clear = map (λ flag. is_first_left kind flags && flag) cleared in
      let here = settles-released go clear memories changed in
      let old = settle go clear memories part in
      let new = settle go clear memories other in
      each_part here
      (subst (λ (over : Bool). AreReleased (settle_parts may_go cleared memories kind before (flags ++ finished old ∷ []) (suc number) parts) (settle_parts may_go cleared memories kind before (flags ++ over ∷ []) (suc number) others))
      (sym (finished-released here)) (parts-settle may_go cleared memories kind before (flags ++ finished old ∷ []) (suc number) rest))

  active-settle : {P : Type 0} {old new : Actives P} (may_go : Bool) (cleared : List Bool) (memories : Memories) → AreActiveReleased old new
      → AreActiveReleased (settle_active may_go cleared memories old) (settle_active may_go cleared memories new)
  active-settle may_go cleared memories no_active = no_active
  active-settle may_go cleared memories (each_active part active) = each_active (settles-released may_go cleared memories part) (active-settle may_go cleared memories active)

-- ---- orders and memories of pools

mutual
  pub ordered-released : {P : Type 0} {old new : Term P} → IsReleased old new → IsOrdered old → IsOrdered new
  ordered-released same ordered = ordered
  ordered-released (let_go own memory over closed) ordered = (ordered.0, tt)
  ordered-released (in_list parts) ordered = (ordered.0, parts-ordered parts ordered.1)
  ordered-released (in_owner part) ordered = ordered-released part ordered
  ordered-released (in_run part) ordered = (ordered-released part ordered.0, ordered.1)
  ordered-released (in_pool active) ordered = (active-ordered active ordered.0, ordered.1)

  parts-ordered : {P : Type 0} {old new : Terms P} → AreReleased old new → AreOrdered old → AreOrdered new
  parts-ordered no_part ordered = tt
  parts-ordered (each_part part parts) ordered = (ordered-released part ordered.0, parts-ordered parts ordered.1)

  active-ordered : {P : Type 0} {old new : Actives P} → AreActiveReleased old new → AreActiveOrdered old → AreActiveOrdered new
  active-ordered no_active ordered = tt
  active-ordered (each_active part active) ordered = (ordered-released part ordered.0, active-ordered active ordered.1)

mutual
  pub memories-released : {P : Type 0} {old new : Term P} (depth : ℕ) → IsReleased old new → HasPoolMemories depth old → HasPoolMemories depth new
  memories-released depth same has = has
  memories-released depth (let_go own memory over closed) has = tt
  memories-released depth (in_list parts) has = parts-have depth parts has
  memories-released depth (in_owner part) has = memories-released (suc depth) part has
  memories-released depth (in_run part) has = (memories-released (suc depth) part has.0, has.1)
  memories-released depth (in_pool {closed = true} changed) has = tt
  memories-released depth (in_pool {closed = false} active) has = (has.0, active-have depth active has.1, has.2)

  parts-have : {P : Type 0} {old new : Terms P} (depth : ℕ) → AreReleased old new → HavePoolMemories depth old → HavePoolMemories depth new
  parts-have depth no_part has = tt
  parts-have depth (each_part part parts) has = (memories-released depth part has.0, parts-have depth parts has.1)

  active-have : {P : Type 0} {old new : Actives P} (depth : ℕ) → AreActiveReleased old new → HaveActivePoolMemories depth old → HaveActivePoolMemories depth new
  active-have depth no_active has = tt
  active-have depth (each_active part active) has = (memories-released depth part has.0, active-have depth active has.1)

-- ---- what is settled stays so

abbrev part_in : {P : Type 0} → Term P → Term P
part_in (leaf place work) = ended []
part_in (list kind before parts) = ended []
part_in (owning own part) = part
part_in (nested body exits own state values part) = part
part_in (ended own) = ended []
part_in (pool level container body active closed) = ended []

abbrev parts_in : {P : Type 0} → Term P → Terms P
parts_in (leaf place work) = none
parts_in (list kind before parts) = parts
parts_in (owning own part) = none
parts_in (nested body exits own state values part) = none
parts_in (ended own) = none
parts_in (pool level container body active closed) = none

abbrev active_in : {P : Type 0} → Term P → Actives P
active_in (leaf place work) = idle
active_in (list kind before parts) = idle
active_in (owning own part) = idle
active_in (nested body exits own state values part) = idle
active_in (ended own) = idle
active_in (pool level container body active closed) = active

abbrev closed_in : {P : Type 0} → Term P → Bool
closed_in (leaf place work) = true
closed_in (list kind before parts) = true
closed_in (owning own part) = true
closed_in (nested body exits own state values part) = true
closed_in (ended own) = true
closed_in (pool level container body active closed) = closed

abbrev first_in : {P : Type 0} → Terms P → Term P
first_in none = ended []
first_in (also part parts) = part

abbrev rest_in : {P : Type 0} → Terms P → Terms P
rest_in none = none
rest_in (also part parts) = parts

abbrev first_active : {P : Type 0} → Actives P → Term P
first_active idle = ended []
first_active (busy value part active) = part

abbrev rest_active : {P : Type 0} → Actives P → Actives P
rest_active idle = idle
rest_active (busy value part active) = active

mutual
  pub stays-settled : {P : Type 0} {old new : Term P} (may_go : Bool) (cleared : List Bool) (memories : Memories) → IsReleased old new → settle may_go cleared memories old ≡ old → settle may_go cleared memories new ≡ new
  stays-settled may_go cleared memories same stays = stays
  stays-settled may_go cleared memories (let_go own memory over closed) stays = refl
  stays-settled may_go cleared memories (in_list {kind} {before} parts) stays = ap (list kind before) (parts-stay may_go cleared memories kind before [] 0 parts (ap parts_in stays))
  stays-settled may_go cleared memories (in_owner {own} part) stays = ap (owning own) (stays-settled may_go (true ∷ cleared) (own ∷ memories) part (ap part_in stays))
  stays-settled may_go cleared memories (in_run {body} {exits} {own} {state} {values} part) stays =
      ap (nested body exits own state values) (stays-settled may_go (true ∷ cleared) (own ∷ memories) part (ap part_in stays))
  stays-settled may_go cleared memories (in_pool {level} {container} {body} {closed} {active} {others} changed) stays =
      let before : settle_active may_go cleared memories active ≡ active = ap active_in stays in
      let behind : settle_active may_go cleared memories others ≡ others = active-stay may_go cleared memories changed before in
      let over : none_active (settle_active may_go cleared memories others) ≡ none_active (settle_active may_go cleared memories active) = none-released (active-settle may_go cleared memories changed) in
      ap₂ (pool level container body) behind
      (ap (λ (none_left : Bool). closed || (may_go && (none_left && (is_empty (waiting level container memories) && slice_index_or cleared level false)))) over ∙ ap closed_in stays)

  parts-stay : {P : Type 0} {old new : Terms P} (may_go : Bool) (cleared : List Bool) (memories : Memories) (kind : Parts) (before : ℕ → ℕ → Bool) (flags : List Bool) (number : ℕ) → AreReleased old new
      → settle_parts may_go cleared memories kind before flags number old ≡ old → settle_parts may_go cleared memories kind before flags number new ≡ new
  parts-stay may_go cleared memories kind before flags number no_part stays = refl
  parts-stay {P} may_go cleared memories kind before flags number (each_part {part} {other} {parts} {others} changed rest) stays =
      let go = may_go && is_ready before flags number in
      let clear = map (λ flag. is_first_left kind flags && flag) cleared in
      let over : finished (settle go clear memories other) ≡ finished (settle go clear memories part) = finished-released (settles-released go clear memories changed) in
      let later : settle_parts may_go cleared memories kind before (flags ++ finished (settle go clear memories part) ∷ []) (suc number) others ≡ others =
      parts-stay may_go cleared memories kind before (flags ++ finished (settle go clear memories part) ∷ []) (suc number) rest (ap rest_in stays) in
      ap₂ also (stays-settled go clear memories changed (ap first_in stays))
      (ap (λ (flag : Bool). settle_parts may_go cleared memories kind before (flags ++ flag ∷ []) (suc number) others) over ∙ later)

  active-stay : {P : Type 0} {old new : Actives P} (may_go : Bool) (cleared : List Bool) (memories : Memories) → AreActiveReleased old new
      → settle_active may_go cleared memories old ≡ old → settle_active may_go cleared memories new ≡ new
  active-stay may_go cleared memories no_active stays = refl
  active-stay may_go cleared memories (each_active {value} part active) stays =
      ap₂ (busy value) (stays-settled may_go cleared memories part (ap first_active stays)) (active-stay may_go cleared memories active (ap rest_active stays))
