-- Terms that are alike stay so where they are settled.
use Rattle.std.proofs.Common.{◌≡◌, ℕ, zero, suc, ℤ, List, [], ◌∷◌, ◌++◌, map, Bool, true, false, cond, ◌&&◌, ◌||◌, slice_index_or, refl, sym, ◌∙◌, ap, subst}
use Rattle.sd_num.specs.declared.width.Width.TheVariants.{W64}
use Rattle.sd_work.specs.Memory.{Contents, array, stream, Memory, Memories, values_of, waiting}
use Rattle.sd_work.specs.Residual.{Parts, Term, leaf, list, owning, nested, ended, pool, Terms, none, also, Actives, idle, busy, finished, all_finished, none_active, is_ready}
use Rattle.sd_work.specs.Settle.{is_empty, is_first_left, settle, settle_parts, settle_active}
use Rattle.sd_confluence.specs.Alike.{how_often, HoldAlike, AreContentsAlike, AreAlike, AreStacksAlike}
use Rattle.sd_confluence.specs.Sides.{AreTermsAlike, AreAllAlike, AreActivesAlike}
use Rattle.sd_confluence.proofs.bags.Values.{same-refl}

mutual
  alike_finished : {P : Type 0} (t x : Term P) → AreTermsAlike t x → finished t ≡ finished x
  alike_finished t (leaf place work) h = ap finished h
  alike_finished t (list kind before ts) h = ap finished h.1 ∙ alike_all h.0 ts h.2
  alike_finished t (owning own x) h = ap finished h.2 ∙ alike_finished h.1 x h.4
  alike_finished t (nested body exits own state values x) h = ap finished h.2
  alike_finished t (ended own) h = ap finished h.1
  alike_finished t (pool l c body active closed) h = ap finished h.1

  alike_all : {P : Type 0} (ts us : Terms P) → AreAllAlike ts us → all_finished ts ≡ all_finished us
  alike_all ts none h = ap all_finished h
  alike_all ts (also x us) h = ap all_finished h.2 ∙ (λ i. alike_finished h.0 x h.3 i && alike_all h.1 us h.4 i)

alike_active : {P : Type 0} (ts us : Actives P) → AreActivesAlike ts us → none_active ts ≡ none_active us
alike_active ts idle h = ap none_active h
alike_active ts (busy v x us) h = ap none_active h.2 ∙ (λ i. alike_finished h.0 x h.3 i && alike_active h.1 us h.4 i)

-- ---- streams are empty together

holds_one : (v : ℤ) (vs : List ℤ) → how_often [] v ≡ how_often (v ∷ vs) v → ⊥
holds_one v vs e =
    let one : 0 ≡ suc (how_often vs v) = e ∙ ap (λ b. cond b (suc (how_often vs v)) (how_often vs v)) (same-refl v) in cc

empty_values : (vs ws : List ℤ) → HoldAlike vs ws → is_empty vs ≡ is_empty ws
empty_values [] [] h = refl
empty_values [] (w ∷ ws) h = absurd (holds_one w ws (h w))
empty_values (v ∷ vs) [] h = absurd (holds_one v vs (sym (h v)))
empty_values (v ∷ vs) (w ∷ ws) h = refl

empty_contents : (k j : Contents) → AreContentsAlike k j → is_empty (values_of k) ≡ is_empty (values_of j)
empty_contents (array width elements) (array other others) h = refl
empty_contents (array width elements) (stream other vs) h = absurd h
empty_contents (stream width vs) (array other elements) h = absurd h
empty_contents (stream width vs) (stream other ws) h = empty_values vs ws h.1

empty_memory : (c : ℕ) (m n : Memory) → AreAlike m n → is_empty (values_of (slice_index_or m c (stream W64 []))) ≡ is_empty (values_of (slice_index_or n c (stream W64 [])))
empty_memory c [] [] h = refl
empty_memory c [] (j ∷ n) h = absurd h
empty_memory c (k ∷ m) [] h = absurd h
empty_memory zero (k ∷ m) (j ∷ n) h = empty_contents k j h.0
empty_memory (suc c) (k ∷ m) (j ∷ n) h = empty_memory c m n h.1

empty_alike : (l c : ℕ) (s t : Memories) → AreStacksAlike s t → is_empty (waiting l c s) ≡ is_empty (waiting l c t)
empty_alike l c [] [] h = refl
empty_alike l c [] (n ∷ t) h = absurd h
empty_alike l c (m ∷ s) [] h = absurd h
empty_alike zero c (m ∷ s) (n ∷ t) h = empty_memory c m n h.0
empty_alike (suc l) c (m ∷ s) (n ∷ t) h = empty_alike l c s t h.1

mutual
  pub alike-settled : {P : Type 0} (go : Bool) (cl : List Bool) (s s' : Memories) (t x : Term P) → AreStacksAlike s s' → AreTermsAlike t x → AreTermsAlike (settle go cl s t) (settle go cl s' x)
  alike-settled go cl s s' t (leaf place work) m h = ap (settle go cl s) h
  alike-settled go cl s s' t (list kind before us) m h = (settle_parts go cl s kind before [] 0 h.0, ap (settle go cl s) h.1, alike_settled_parts go cl s s' kind before [] [] refl 0 h.0 us m h.2)
  alike-settled go cl s s' t (owning own x) m h = (h.0, settle go (true ∷ cl) (h.0 ∷ s) h.1, ap (settle go cl s) h.2, h.3, alike-settled go (true ∷ cl) (h.0 ∷ s) (own ∷ s') h.1 x (h.3, m) h.4)
  alike-settled go cl s s' t (nested body exits own state values x) m h =
      (h.0, settle go (true ∷ cl) (h.0 ∷ s) h.1, ap (settle go cl s) h.2, h.3, alike-settled go (true ∷ cl) (h.0 ∷ s) (own ∷ s') h.1 x (h.3, m) h.4)
  alike-settled go cl s s' t (ended own) m h = (h.0, ap (settle go cl s) h.1, h.2)
  alike-settled {P} go cl s s' t (pool l c body active closed) m h =
      let inside : Actives P = settle_active go cl s h.0 in
      let there : Actives P = settle_active go cl s' active in
      let alike : AreActivesAlike inside there = alike_settled_active go cl s s' h.0 active m h.2 in (
        inside,
        ap (settle go cl s) h.1 ∙ (λ i. pool l c body inside (closed || (go && (alike_active inside there alike i && (empty_alike l c s s' m i && slice_index_or cl l false))))),
        alike,
      )

  alike_settled_parts : {P : Type 0} (go : Bool) (cl : List Bool) (s s' : Memories) (kind : Parts) (before : ℕ → ℕ → Bool) (fs fs' : List Bool) → fs ≡ fs' → (n : ℕ) (ts us : Terms P) → AreStacksAlike s s' → AreAllAlike ts us →
      AreAllAlike (settle_parts go cl s kind before fs n ts) (settle_parts go cl s' kind before fs' n us)
  alike_settled_parts go cl s s' kind before fs fs' e n ts none m h = ap (settle_parts go cl s kind before fs n) h
  alike_settled_parts {P} go cl s s' kind before fs fs' e n ts (also x us) m h =
      let one : Term P = settle (go && is_ready before fs n) (map (λ flag. is_first_left kind fs && flag) cl) s h.0 in
      let other : Term P = settle (go && is_ready before fs' n) (map (λ flag. is_first_left kind fs' && flag) cl) s' x in
      let alike : AreTermsAlike one other =
      subst (λ w. AreTermsAlike one (settle (go && is_ready before w n) (map (λ flag. is_first_left kind w && flag) cl) s' x)) e
      (alike-settled (go && is_ready before fs n) (map (λ flag. is_first_left kind fs && flag) cl) s s' h.0 x m h.3) in (
        one,
        settle_parts go cl s kind before (fs ++ finished one ∷ []) (suc n) h.1,
        ap (settle_parts go cl s kind before fs n) h.2,
        alike,
        alike_settled_parts go cl s s' kind before (fs ++ finished one ∷ []) (fs' ++ finished other ∷ []) (λ i. e i ++ alike_finished one other alike i ∷ []) (suc n) h.1 us m h.4,
      )

  alike_settled_active : {P : Type 0} (go : Bool) (cl : List Bool) (s s' : Memories) (ts us : Actives P) → AreStacksAlike s s' → AreActivesAlike ts us → AreActivesAlike (settle_active go cl s ts) (settle_active go cl s' us)
  alike_settled_active go cl s s' ts idle m h = ap (settle_active go cl s) h
  alike_settled_active go cl s s' ts (busy v x us) m h =
      (settle go cl s h.0, settle_active go cl s h.1, ap (settle_active go cl s) h.2, alike-settled go cl s s' h.0 x m h.3, alike_settled_active go cl s s' h.1 us m h.4)
