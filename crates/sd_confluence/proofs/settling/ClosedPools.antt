-- Closed pools have no active term, so settling leaves what is finished as it is.
use Rattle.std.proofs.Common.{◌≡◌, ℕ, suc, ℤ, List, [], ◌∷◌, ◌++◌, map, Bool, true, false, ◌&&◌, ◌||◌, slice_index_or, refl, ◌∙◌, ap}
use Rattle.std.specs.Bool.{⊤}
use Rattle.sd_work.specs.Memory.{Memories, waiting}
use Rattle.sd_work.specs.Exit.{Values}
use Rattle.sd_work.specs.Residual.{Parts, Term, leaf, list, owning, nested, ended, pool, Terms, none, also, Actives, idle, busy, finished, all_finished, none_active, is_ready}
use Rattle.sd_work.specs.Settle.{is_empty, is_first_left, settle, settle_parts, settle_active}
use Rattle.sd_work.proofs.Flags.{both}

-- each closed pool has no active term, also in what is unfolded later
abbrev mutual
  pub ClosedAreIdle : {P : Type 0} → Term P → Type 0
  ClosedAreIdle (leaf place work) = ⊤
  ClosedAreIdle (list kind before parts) = AllClosedAreIdle parts
  ClosedAreIdle (owning own part) = ClosedAreIdle part
  ClosedAreIdle (nested body exits own state values part) = ClosedAreIdle part × ((state : ℕ) (values : Values) → ClosedAreIdle (body state values))
  ClosedAreIdle (ended own) = ⊤
  ClosedAreIdle (pool level container body active closed) =
      ActiveClosedAreIdle active × ((value : ℤ) → ClosedAreIdle (body value)) × (closed ≡ true → none_active active ≡ true)

  pub AllClosedAreIdle : {P : Type 0} → Terms P → Type 0
  AllClosedAreIdle none = ⊤
  AllClosedAreIdle (also part parts) = ClosedAreIdle part × AllClosedAreIdle parts

  pub ActiveClosedAreIdle : {P : Type 0} → Actives P → Type 0
  ActiveClosedAreIdle idle = ⊤
  ActiveClosedAreIdle (busy value part active) = ClosedAreIdle part × ActiveClosedAreIdle active

closed_stays : (a : Bool) → a || false ≡ a
closed_stays true = refl
closed_stays false = refl

mutual
  -- where nothing may go on, settling changes nothing
  pub settle-false : {P : Type 0} (cleared : List Bool) (s : Memories) (t : Term P) → settle false cleared s t ≡ t
  settle-false cleared s (leaf place work) = refl
  settle-false cleared s (list kind before parts) = ap (list kind before) (settle_parts-false cleared s kind before [] 0 parts)
  settle-false cleared s (owning own part) = ap (owning own) (settle-false (true ∷ cleared) (own ∷ s) part)
  settle-false cleared s (nested body exits own state values part) = ap (nested body exits own state values) (settle-false (true ∷ cleared) (own ∷ s) part)
  settle-false cleared s (ended own) = refl
  settle-false cleared s (pool level container body active closed) = λ i. pool level container body (settle_active-false cleared s active i) (closed_stays closed i)

  pub settle_parts-false : {P : Type 0} (cleared : List Bool) (s : Memories) (kind : Parts) (before : ℕ → ℕ → Bool) (flags : List Bool) (number : ℕ) (ts : Terms P) → settle_parts false cleared s kind before flags number ts ≡ ts
  settle_parts-false cleared s kind before flags number none = refl
  settle_parts-false {P} cleared s kind before flags number (also t ts) =
      let left : Term P = settle false (map (λ flag. is_first_left kind flags && flag) cleared) s t in
      λ i. also (settle-false (map (λ flag. is_first_left kind flags && flag) cleared) s t i) (settle_parts-false cleared s kind before (flags ++ finished left ∷ []) (suc number) ts i)

  pub settle_active-false : {P : Type 0} (cleared : List Bool) (s : Memories) (ts : Actives P) → settle_active false cleared s ts ≡ ts
  settle_active-false cleared s idle = refl
  settle_active-false cleared s (busy v t ts) = λ i. busy v (settle-false cleared s t i) (settle_active-false cleared s ts i)

mutual
  -- what is finished is settled
  pub settle-finished : {P : Type 0} (go : Bool) (cleared : List Bool) (s : Memories) (t : Term P) → ClosedAreIdle t → finished t ≡ true → settle go cleared s t ≡ t
  settle-finished go cleared s (leaf place work) w e = refl
  settle-finished go cleared s (list kind before parts) w e = ap (list kind before) (settle_parts-finished go cleared s kind before [] 0 parts w e)
  settle-finished go cleared s (owning own part) w e = ap (owning own) (settle-finished go (true ∷ cleared) (own ∷ s) part w e)
  settle-finished go cleared s (nested body exits own state values part) w e = cc
  settle-finished go cleared s (ended own) w e = refl
  settle-finished go cleared s (pool level container body active true) w e = ap (λ us. pool level container body us true) (settle_active-finished go cleared s active w.0 (w.2 refl))
  settle-finished go cleared s (pool level container body active false) w e = cc

  settle_parts-finished : {P : Type 0} (go : Bool) (cleared : List Bool) (s : Memories) (kind : Parts) (before : ℕ → ℕ → Bool) (flags : List Bool) (number : ℕ) (ts : Terms P) →
      AllClosedAreIdle ts → all_finished ts ≡ true → settle_parts go cleared s kind before flags number ts ≡ ts
  settle_parts-finished go cleared s kind before flags number none w e = refl
  settle_parts-finished {P} go cleared s kind before flags number (also t ts) w e =
      let h = both (finished t) (all_finished ts) e in
      let left : Term P = settle (go && is_ready before flags number) (map (λ flag. is_first_left kind flags && flag) cleared) s t in
      λ i. also (settle-finished (go && is_ready before flags number) (map (λ flag. is_first_left kind flags && flag) cleared) s t w.0 h.0 i)
      (settle_parts-finished go cleared s kind before (flags ++ finished left ∷ []) (suc number) ts w.1 h.1 i)

  pub settle_active-finished : {P : Type 0} (go : Bool) (cleared : List Bool) (s : Memories) (ts : Actives P) → ActiveClosedAreIdle ts → none_active ts ≡ true → settle_active go cleared s ts ≡ ts
  settle_active-finished go cleared s idle w e = refl
  settle_active-finished go cleared s (busy v t ts) w e =
      let h = both (finished t) (none_active ts) e in
      λ i. busy v (settle-finished go cleared s t w.0 h.0 i) (settle_active-finished go cleared s ts w.1 h.1 i)

settled_closed : (closed go quiet empty clear : Bool) → (closed ≡ true → quiet ≡ true) → (closed || (go && (quiet && (empty && clear)))) ≡ true → quiet ≡ true
settled_closed true go quiet empty clear h e = h refl
settled_closed false true true empty clear h e = refl
settled_closed false true false empty clear h e = cc
settled_closed false false quiet empty clear h e = cc

mutual
  -- settling closes no pool that has an active term
  pub closed-settled : {P : Type 0} (go : Bool) (cleared : List Bool) (s : Memories) (t : Term P) → ClosedAreIdle t → ClosedAreIdle (settle go cleared s t)
  closed-settled go cleared s (leaf place work) w = tt
  closed-settled go cleared s (list kind before parts) w = closed-settled_parts go cleared s kind before [] 0 parts w
  closed-settled go cleared s (owning own part) w = closed-settled go (true ∷ cleared) (own ∷ s) part w
  closed-settled go cleared s (nested body exits own state values part) w = (closed-settled go (true ∷ cleared) (own ∷ s) part w.0, w.1)
  closed-settled go cleared s (ended own) w = tt
  closed-settled {P} go cleared s (pool level container body active closed) w =
      let inside : Actives P = settle_active go cleared s active in (
        closed-settled_active go cleared s active w.0,
        w.1,
        settled_closed closed go (none_active inside) (is_empty (waiting level container s)) (slice_index_or cleared level false)
            (λ e. ap none_active (settle_active-finished go cleared s active w.0 (w.2 e)) ∙ w.2 e),
      )

  closed-settled_parts : {P : Type 0} (go : Bool) (cleared : List Bool) (s : Memories) (kind : Parts) (before : ℕ → ℕ → Bool) (flags : List Bool) (number : ℕ) (ts : Terms P) →
      AllClosedAreIdle ts → AllClosedAreIdle (settle_parts go cleared s kind before flags number ts)
  closed-settled_parts go cleared s kind before flags number none w = tt
  closed-settled_parts go cleared s kind before flags number (also t ts) w =
      (closed-settled (go && is_ready before flags number) (map (λ flag. is_first_left kind flags && flag) cleared) s t w.0, closed-settled_parts go cleared s kind before _ (suc number) ts w.1)

  closed-settled_active : {P : Type 0} (go : Bool) (cleared : List Bool) (s : Memories) (ts : Actives P) → ActiveClosedAreIdle ts → ActiveClosedAreIdle (settle_active go cleared s ts)
  closed-settled_active go cleared s idle w = tt
  closed-settled_active go cleared s (busy v t ts) w = (closed-settled go cleared s t w.0, closed-settled_active go cleared s ts w.1)
