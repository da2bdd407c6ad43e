-- Terms that differ in the order of active terms alone stay so where they are settled.
use Rattle.std.proofs.Common.{◌≡◌, inl, inr, ℕ, suc, ℤ, List, [], ◌∷◌, ◌++◌, map, Bool, true, false, ◌&&◌, ◌||◌, slice_index_or, refl, ◌∙◌, ap, subst}
use Rattle.sd_work.specs.Memory.{Memories, waiting}
use Rattle.sd_work.specs.Residual.{Parts, Term, leaf, list, owning, nested, ended, pool, Terms, none, also, Actives, idle, busy, finished, all_finished, none_active, is_ready}
use Rattle.sd_work.specs.Settle.{is_empty, is_first_left, settle, settle_parts, settle_active}
use Rattle.sd_confluence.specs.Takes.{IsPutInto, AreTermsReordered, AreAllReordered, AreActivesReordered}

mutual
  -- each term is so to itself
  pub same_order : {P : Type 0} (t : Term P) → AreTermsReordered t t
  same_order (leaf place work) = refl
  same_order (list kind before parts) = (parts, refl, same_orders parts)
  same_order (owning own part) = (part, refl, same_order part)
  same_order (nested body exits own state values part) = (part, refl, same_order part)
  same_order (ended own) = refl
  same_order (pool level container body active closed) = (active, refl, same_actives active)

  pub same_orders : {P : Type 0} (ts : Terms P) → AreAllReordered ts ts
  same_orders none = refl
  same_orders (also t ts) = (t, ts, refl, same_order t, same_orders ts)

  pub same_actives : {P : Type 0} (ts : Actives P) → AreActivesReordered ts ts
  same_actives idle = refl
  same_actives (busy v t ts) = (t, ts, put-front v t ts, same_order t, same_actives ts)

  pub put-front : {P : Type 0} (v : ℤ) (t : Term P) (ts : Actives P) → IsPutInto v t ts (busy v t ts)
  put-front v t idle = refl
  put-front v t (busy w x ts) = inl refl

-- ---- what is finished

and_swap : (a b c : Bool) → (a && (b && c)) ≡ (b && (a && c))
and_swap true true c = refl
and_swap true false c = refl
and_swap false true c = refl
and_swap false false c = refl

put-none : {P : Type 0} (v : ℤ) (t : Term P) (ts us : Actives P) → IsPutInto v t ts us → none_active us ≡ (finished t && none_active ts)
put-none v t idle us h = ap none_active h
put-none v t (busy w x ts) us (inl h) = ap none_active h
put-none v t (busy w x ts) us (inr h) = ap none_active h.1 ∙ ap (λ b. finished x && b) (put-none v t ts h.0 h.2) ∙ and_swap (finished x) (finished t) (none_active ts)

mutual
  order-finished : {P : Type 0} (t x : Term P) → AreTermsReordered t x → finished t ≡ finished x
  order-finished t (leaf place work) h = ap finished h
  order-finished t (list kind before ts) h = ap finished h.1 ∙ order-all h.0 ts h.2
  order-finished t (owning own x) h = ap finished h.1 ∙ order-finished h.0 x h.2
  order-finished t (nested body exits own state values x) h = ap finished h.1
  order-finished t (ended own) h = ap finished h
  order-finished t (pool l c body active closed) h = ap finished h.1

  order-all : {P : Type 0} (ts us : Terms P) → AreAllReordered ts us → all_finished ts ≡ all_finished us
  order-all ts none h = ap all_finished h
  order-all ts (also x us) h = ap all_finished h.2 ∙ (λ i. order-finished h.0 x h.3 i && order-all h.1 us h.4 i)

order-active : {P : Type 0} (ts us : Actives P) → AreActivesReordered ts us → none_active ts ≡ none_active us
order-active ts idle h = ap none_active h
order-active ts (busy v x us) h = put-none v h.0 h.1 ts h.2 ∙ (λ i. order-finished h.0 x h.3 i && order-active h.1 us h.4 i)

-- ---- settling

put-settled : {P : Type 0} (go : Bool) (cl : List Bool) (s : Memories) (v : ℤ) (t : Term P) (ts us : Actives P) → IsPutInto v t ts us → IsPutInto v (settle go cl s t) (settle_active go cl s ts) (settle_active go cl s us)
put-settled go cl s v t idle us h = ap (settle_active go cl s) h
put-settled go cl s v t (busy w x ts) us (inl h) = inl (ap (settle_active go cl s) h)
put-settled go cl s v t (busy w x ts) us (inr h) = inr (settle_active go cl s h.0, ap (settle_active go cl s) h.1, put-settled go cl s v t ts h.0 h.2)

mutual
  pub order-settled : {P : Type 0} (go : Bool) (cl : List Bool) (s : Memories) (t x : Term P) → AreTermsReordered t x → AreTermsReordered (settle go cl s t) (settle go cl s x)
  order-settled go cl s t (leaf place work) h = ap (settle go cl s) h
  order-settled go cl s t (list kind before us) h = (settle_parts go cl s kind before [] 0 h.0, ap (settle go cl s) h.1, order_settled_parts go cl s kind before [] [] refl 0 h.0 us h.2)
  order-settled go cl s t (owning own x) h = (settle go (true ∷ cl) (own ∷ s) h.0, ap (settle go cl s) h.1, order-settled go (true ∷ cl) (own ∷ s) h.0 x h.2)
  order-settled go cl s t (nested body exits own state values x) h = (settle go (true ∷ cl) (own ∷ s) h.0, ap (settle go cl s) h.1, order-settled go (true ∷ cl) (own ∷ s) h.0 x h.2)
  order-settled go cl s t (ended own) h = ap (settle go cl s) h
  order-settled {P} go cl s t (pool l c body active closed) h =
      let inside : Actives P = settle_active go cl s h.0 in
      let there : Actives P = settle_active go cl s active in
      let same : AreActivesReordered inside there = order_settled_active go cl s h.0 active h.2 in (
        inside,
        ap (settle go cl s) h.1 ∙ (λ i. pool l c body inside (closed || (go && (order-active inside there same i && (is_empty (waiting l c s) && slice_index_or cl l false))))),
        same,
      )

  order_settled_parts : {P : Type 0} (go : Bool) (cl : List Bool) (s : Memories) (kind : Parts) (before : ℕ → ℕ → Bool) (fs fs' : List Bool) → fs ≡ fs' → (n : ℕ) (ts us : Terms P) → AreAllReordered ts us →
      AreAllReordered (settle_parts go cl s kind before fs n ts) (settle_parts go cl s kind before fs' n us)
  order_settled_parts go cl s kind before fs fs' e n ts none h = ap (settle_parts go cl s kind before fs n) h
  order_settled_parts {P} go cl s kind before fs fs' e n ts (also x us) h =
      let one : Term P = settle (go && is_ready before fs n) (map (λ flag. is_first_left kind fs && flag) cl) s h.0 in
      let other : Term P = settle (go && is_ready before fs' n) (map (λ flag. is_first_left kind fs' && flag) cl) s x in
      let same : AreTermsReordered one other =
      subst (λ w. AreTermsReordered one (settle (go && is_ready before w n) (map (λ flag. is_first_left kind w && flag) cl) s x)) e
      (order-settled (go && is_ready before fs n) (map (λ flag. is_first_left kind fs && flag) cl) s h.0 x h.3) in (
        one,
        settle_parts go cl s kind before (fs ++ finished one ∷ []) (suc n) h.1,
        ap (settle_parts go cl s kind before fs n) h.2,
        same,
        order_settled_parts go cl s kind before (fs ++ finished one ∷ []) (fs' ++ finished other ∷ []) (λ i. e i ++ order-finished one other same i ∷ []) (suc n) h.1 us h.4,
      )

  order_settled_active : {P : Type 0} (go : Bool) (cl : List Bool) (s : Memories) (ts us : Actives P) → AreActivesReordered ts us → AreActivesReordered (settle_active go cl s ts) (settle_active go cl s us)
  order_settled_active go cl s ts idle h = ap (settle_active go cl s) h
  order_settled_active go cl s ts (busy v x us) h =
      (settle go cl s h.0, settle_active go cl s h.1, put-settled go cl s v h.0 h.1 ts h.2, order-settled go cl s h.0 x h.3, order_settled_active go cl s h.1 us h.4)
