-- Terms that end alike from alike memories, done from left to right.
use Rattle.std.proofs.Common.{◌≡◌, ℕ, ◌+◌, List, [], ◌∷◌, drop, Some, None, Bool, refl, sym, ◌∙◌, ap, subst, arith}
use Rattle.std.specs.Bool.{⊤}
use Rattle.sd_work.specs.Memory.{Memory, Memories}
use Rattle.sd_work.specs.Exit.{Values, Exit, first_exit}
use Rattle.sd_work.specs.Residual.{Parts, Term, list, owning, nested, ended, Terms, none, also}
use Rattle.sd_work.specs.Step.{Done, Faulted, Spent}
use Rattle.sd_work.specs.BigStep.{Reached, Coming, reached, and_then, big_step, big_parts, big_states}
use Rattle.sd_work.specs.Touch.{Touch, takes}
use Rattle.sd_work.specs.Change.{Change, nothing, write, push, take, apply}
use Rattle.sd_confluence.specs.Safe.{TouchCompatibly}
use Rattle.sd_exchange.specs.reorder.Reordered as order
use Rattle.sd_exchange.specs.reorder.Reordered.{Reordered}
use Rattle.sd_exchange.proofs.reorder_lemmas.Following.{IsMadeBy, IsBlindTo, Follows, follow-reached, follow-then, SameWay, follow-states}
use Rattle.sd_exchange.proofs.reorder_lemmas.Lockstep.{Does, done-does}
use Rattle.sd_exchange.proofs.reorder_lemmas.Nearly.{MemoryNear, same-stack, on-stack, look-near, change-near, everywhere, Near}
use Rattle.sd_exchange.proofs.reorder_lemmas.Passing.{exchange}

pub record EndsAlike {P Q : Type 0} (t : Term P) (u : Term Q) : Type 0 where
  pub ends : (most n : ℕ) (s v : Memories) → Near s v → Follows Near n (big_step t most s n) (big_step u most v)

pub record EndAlike {P Q : Type 0} (ts : Terms P) (us : Terms Q) : Type 0 where
  pub end : (most n : ℕ) (s v : Memories) → Near s v → Follows Near n (big_parts ts most s n) (big_parts us most v)

pub ends-does : {P Q : Type 0} (t : Term P) (u : Term Q) → EndsAlike t u → (most k : ℕ) (s v w : Memories) → Does t most s k w → Near s v → (z : Memories) × Does u most v k z × Near w z
ends-does t u h most k s v w d r =
    let a = (h.ends most (k + 0) s v r).done (record { memories = w; turns = 0 }) (d 0) in
    let same : k ≡ a.0 = (let p = a.2 in omega (arith, p)) in
    (a.1, subst (λ j. Does u most v j a.1) (sym same) a.3, a.4)

-- ---- one after the other

pub follow-on : {P Q O : Type 0} (n : ℕ) (came : Coming P) (other : ℕ → Coming Q) (last : ℕ → Coming O) → Follows Near n came other → ((m : ℕ) → Follows Near m (other m) last) → Follows Near n came last
follow-on {P} {Q} {O} n came other last h g = record { done = go }
  where
    go : (x : Reached) → came ≡ Some (Done x) → (k : ℕ) × (there : Memories) × (n ≡ k + x.turns) × ((m : ℕ) → last (k + m) ≡ reached there m) × Near x.memories there
    go x e =
        let a = h.done x e in
        let b = (g (a.0 + x.turns)).done (record { memories = a.1; turns = x.turns }) (a.3 x.turns) in
        let same : a.0 ≡ b.0 = (let p = b.2 in omega (arith, p)) in
        (b.0, b.1, a.2 ∙ ap (λ k. k + x.turns) same, b.3, on-stack everywhere x.memories a.1 b.1 a.4 b.4)

pub ends-on : {P Q O : Type 0} (t : Term P) (u : Term Q) (v : Term O) → EndsAlike t u → EndsAlike u v → EndsAlike t v
ends-on t u v h g = record { ends = λ most n s w r. follow-on n (big_step t most s n) (big_step u most w) (big_step v most w) (h.ends most n s w r) (λ m. g.ends most m w w (same-stack everywhere w)) }

pub end-on : {P Q O : Type 0} (t : Terms P) (u : Terms Q) (v : Terms O) → EndAlike t u → EndAlike u v → EndAlike t v
end-on t u v h g = record { end = λ most n s w r. follow-on n (big_parts t most s n) (big_parts u most w) (big_parts v most w) (h.end most n s w r) (λ m. g.end most m w w (same-stack everywhere w)) }

-- ---- of parts

pub end-none : {P Q : Type 0} → EndAlike {P = P} {Q = Q} none none
end-none = record { end = λ most n s v r. follow-reached Near n s v r }

pub end-also : {P Q : Type 0} (t : Term P) (u : Term Q) (ts : Terms P) (us : Terms Q) → EndsAlike t u → EndAlike ts us → EndAlike (also t ts) (also u us)
end-also t u ts us h g =
    record { end = λ most n s v r. follow-then Near Near n (big_step t most s n) (big_step u most v) (big_parts ts most) (big_parts us most) (h.ends most n s v r) (λ s v m r. g.end most m s v r) }

pub ends-list : {P Q : Type 0} (kind other : Parts) (before after : ℕ → ℕ → Bool) (ts : Terms P) (us : Terms Q) → EndAlike ts us → EndsAlike (list kind before ts) (list other after us)
ends-list kind other before after ts us h = record { ends = h.end }

pub ends-owning : {P Q : Type 0} (own other : Memory) (t : Term P) (u : Term Q) → MemoryNear (λ k. ⊤) own other → EndsAlike t u → EndsAlike (owning own t) (owning other u)
ends-owning {P} {Q} own other t u m h =
    record { ends = λ most n s v r. follow-then Near Near n (big_step t most (own ∷ s) n) (big_step u most (other ∷ v)) _ _ (h.ends most n (own ∷ s) (other ∷ v) (m, r)) dropped }
  where
    dropped : (s u : Memories) (m : ℕ) → Near s u → Follows {P = P} {Q = Q} Near m (reached (drop 1 s) m) (reached (drop 1 u))
    dropped [] [] m r = follow-reached Near m [] [] tt
    dropped [] (n ∷ u) m r = elim r [ ]
    dropped (o ∷ s) [] m r = elim r [ ]
    dropped (o ∷ s) (n ∷ u) m r = follow-reached Near m s u r.1

-- a run of a graph, its own memory kept
pub follow-run : {P Q : Type 0} (body : ℕ → Values → Term P) (body' : ℕ → Values → Term Q) (exits : ℕ → Values → List (Exit P)) (exits' : ℕ → Values → List (Exit Q)) (state : ℕ) (values : Values) (t : Term P) (u : Term Q) →
    ((state : ℕ) (values : Values) → EndsAlike (body state values) (body' state values)) →
    ((state : ℕ) (values : Values) (s v : Memories) → Near s v → SameWay (first_exit (exits state values) s) (first_exit (exits' state values) v)) →
    EndsAlike t u → (most n : ℕ) (s v : Memories) → Near s v →
    Follows Near n (and_then (big_step t most s n) (big_states most (λ state values. big_step (body state values) most) exits state values))
    (λ m. and_then (big_step u most v m) (big_states most (λ state values. big_step (body' state values) most) exits' state values))
follow-run body body' exits exits' state values t u h g q most n s v r =
    follow-then Near Near n (big_step t most s n) (big_step u most v) _ _ (q.ends most n s v r)
    (λ s v m r. follow-states Near (λ state values. big_step (body state values) most) (λ state values. big_step (body' state values) most) exits exits'
    (λ state values s v n r. (h state values).ends most n s v r) g most state values s v m r)

pub ends-nested : {P Q : Type 0} (body : ℕ → Values → Term P) (body' : ℕ → Values → Term Q) (exits : ℕ → Values → List (Exit P)) (exits' : ℕ → Values → List (Exit Q)) (own other : Memory) (state : ℕ) (values : Values) (t : Term P) (u : Term Q) →
    ((state : ℕ) (values : Values) → EndsAlike (body state values) (body' state values)) →
    ((state : ℕ) (values : Values) (s v : Memories) → Near s v → SameWay (first_exit (exits state values) s) (first_exit (exits' state values) v)) →
    MemoryNear (λ k. ⊤) own other → EndsAlike t u → EndsAlike (nested body exits own state values t) (nested body' exits' other state values u)
ends-nested {P} {Q} body body' exits exits' own other state values t u h g m q =
    record {
      ends = λ most n s v r.
          follow-then Near Near n _ _ _ _
          (follow-run body body' exits exits' state values t u h g q most n (own ∷ s) (other ∷ v) (m, r))
          dropped;
    }
  where
    dropped : (s u : Memories) (m : ℕ) → Near s u → Follows {P = P} {Q = Q} Near m (reached (drop 1 s) m) (reached (drop 1 u))
    dropped [] [] m r = follow-reached Near m [] [] tt
    dropped [] (n ∷ u) m r = elim r [ ]
    dropped (o ∷ s) [] m r = elim r [ ]
    dropped (o ∷ s) (n ∷ u) m r = follow-reached Near m s u r.1

pub ends-ended : {P Q : Type 0} (own other : Memory) → EndsAlike {P = P} {Q = Q} (ended own) (ended other)
ends-ended own other = record { ends = λ most n s v r. follow-reached Near n s v r }

-- ---- reads alone

-- work that takes nothing cannot tell alike stacks apart
pub blind-near : (T : Touch → Type 0) → ((l k : ℕ) → T (takes l k) → ⊥) → IsBlindTo T Near
blind-near T h =
    record {
      same_reads = λ from t s u r. look-near everywhere from s u r;
      same_takes = λ l k t s u r. elim (h l k t) [ ];
      stay = λ c m s u r. changed c m s u r;
    }
  where
    changed : (c : Change) → IsMadeBy T c → (s u : Memories) → Near s u → Near (apply c s) (apply c u)
    changed nothing m s u r = r
    changed (write to by value) m s u r = change-near everywhere (write to by value) tt s u r
    changed (push l k value) m s u r = change-near everywhere (push l k value) tt s u r
    changed (take l k p) m s u r = elim (h l k m) [ ]

-- ---- neighbours exchanged

pub assoc : {P : Type 0} (c : Coming P) (f g : Memories → ℕ → Coming P) → and_then (and_then c f) g ≡ and_then c (λ s n. and_then (f s n) g)
assoc (Some (Done now)) f g = refl
assoc (Some (Faulted fault)) f g = refl
assoc (Some Spent) f g = refl
assoc None f g = refl

pub follow-exchange : {P : Type 0} (a b : Term P) → TouchCompatibly a b → EndsAlike a a → EndsAlike b b → (most n : ℕ) (s v : Memories) → Near s v →
    Follows Near n (and_then (big_step a most s n) (big_step b most)) (λ m. and_then (big_step b most v m) (big_step a most))
follow-exchange {P} a b h ea eb most n s v r = record { done = λ x e. first x (big_step a most s n) refl e }
  where
    Result : Reached → Type 0
    Result x = (k : ℕ) × (there : Memories) × (n ≡ k + x.turns) × ((m : ℕ) → and_then (big_step b most v (k + m)) (big_step a most) ≡ reached there m) × Near x.memories there

    first : (x : Reached) (c : Coming P) → big_step a most s n ≡ c → and_then c (big_step b most) ≡ Some (Done x) → Result x
    first x (Some (Done now)) q e =
        let p = done-does a most n s now q in
        let o = done-does b most now.turns now.memories x e in
        let w = exchange a b h most p.0 o.0 s now.memories x.memories p.2 o.2 in
        let y = ends-does b b eb most o.0 s v w.0 w.2 r in
        let z = ends-does a a ea most p.0 w.0 y.0 w.1 w.3 y.2 in
        let turns : n ≡ (o.0 + p.0) + x.turns = (let i = p.1 in let j = o.1 in omega (arith, i, j)) in (
          o.0 + p.0,
          z.0,
          turns,
          λ m. (let grouped : (o.0 + p.0) + m ≡ o.0 + (p.0 + m) = omega arith in ap (λ j. and_then (big_step b most v j) (big_step a most)) grouped ∙ ap (λ c. and_then c (big_step a most)) (y.1 (p.0 + m)) ∙ z.1 m),
          on-stack everywhere x.memories w.1 z.0 w.4 z.2,
        )
    first x (Some (Faulted fault)) q e = cc
    first x (Some Spent) q e = cc
    first x None q e = cc

pub end-exchange : {P : Type 0} (a b : Term P) (ts : Terms P) → TouchCompatibly a b → EndsAlike a a → EndsAlike b b → EndAlike ts ts → EndAlike (also a (also b ts)) (also b (also a ts))
end-exchange a b ts h ea eb et =
    record {
      end = λ most n s v r.
          subst (λ came. Follows Near n came (big_parts (also b (also a ts)) most v)) (assoc (big_step a most s n) (big_step b most) (big_parts ts most))
          (subst (λ other. Follows Near n (and_then (and_then (big_step a most s n) (big_step b most)) (big_parts ts most)) other) (λ i m. assoc (big_step b most v m) (big_step a most) (big_parts ts most) i)
          (follow-then Near Near n _ (λ m. and_then (big_step b most v m) (big_step a most)) (big_parts ts most) (big_parts ts most) (follow-exchange a b h ea eb most n s v r) (λ s v m r. et.end most m s v r)));
    }

-- each part ends alike with itself
abbrev pub EachEndsAlike : {P : Type 0} → Terms P → Type 0
EachEndsAlike none = ⊤
EachEndsAlike (also t ts) = EndsAlike t t × EachEndsAlike ts

pub end-each : {P : Type 0} (ts : Terms P) → EachEndsAlike ts → EndAlike ts ts
end-each none h = end-none
end-each (also t ts) h = end-also t t ts ts h.0 (end-each ts h.1)

pub each-reordered : {P : Type 0} (ts us : Terms P) → Reordered ts us → EachEndsAlike ts → EachEndsAlike us
each-reordered ts us (order.as_it_is parts) h = h
each-reordered ts us (order.behind part parts others r) h = (h.0, each-reordered parts others r h.1)
each-reordered ts us (order.exchanged first second parts c) h = (h.1.0, (h.0, h.1.1))
each-reordered ts us (order.and_then parts between others r q) h = each-reordered between others q (each-reordered parts between r h)

pub end-reordered : {P : Type 0} (ts us : Terms P) → Reordered ts us → EachEndsAlike ts → EndAlike ts us
end-reordered ts us (order.as_it_is parts) h = end-each parts h
end-reordered ts us (order.behind part parts others r) h = end-also part part parts others h.0 (end-reordered parts others r h.1)
end-reordered ts us (order.exchanged first second parts c) h = end-exchange first second parts c h.0 h.1.0 (end-each parts h.1.1)
end-reordered ts us (order.and_then parts between others r q) h = end-on parts between others (end-reordered parts between r h) (end-reordered between others q (each-reordered parts between r h))
