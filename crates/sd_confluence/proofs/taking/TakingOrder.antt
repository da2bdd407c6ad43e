-- The order in which a pool takes its values makes no difference.
use Rattle.std.proofs.Common.{◌≡◌, ℕ, zero, suc, ◌+◌, List, [], ◌∷◌, ℤ, Bool, true, false, cond, eqb, refl, sym, ◌∙◌, ap, subst, arith, inl}
use Rattle.sd_work.specs.Memory.{Contents, array, stream, Memory, values_of, waiting}
use Rattle.sd_work.specs.Residual.{Term, owning, pool, Actives, idle}
use Rattle.sd_work.specs.Touch.{takes}
use Rattle.sd_work.specs.Step.{Machine, opening}
use Rattle.sd_work.specs.Run.{Left, memory_of}
use Rattle.sd_confluence.specs.Alike.{HoldAlike, AreContentsAlike, AreAlike, LeaveAlike, how_often}
use Rattle.sd_confluence.specs.Safe.{IsPoolSafe, MayInterleave, pool_over}
use Rattle.sd_confluence.specs.Event.{Event, events, values_pushed, values_taken, DoneWith, AreEventsAlike}
use Rattle.sd_confluence.proofs.bags.Works.{Work, Works, no_works, scope, nest, basin}
use Rattle.sd_confluence.proofs.bags.WorkRuns.{Engine}
use Rattle.sd_confluence.proofs.image.Images.{frame_of, work_of, active_of}
use Rattle.sd_confluence.proofs.image.SafeImage.{safe-image}
use Rattle.sd_confluence.proofs.image.AlikeImages.{alike-frame, left-alike}
use Rattle.sd_confluence.proofs.runs.Nearer.{engine, Sound, sound-of}
use Rattle.sd_confluence.proofs.runs.Reaching.{left_of, Reaches, reaches-run, run-reaches, one-end}
use Rattle.sd_confluence.proofs.runs.Confluent.{confluent}
use Rattle.sd_confluence.proofs.taking.Told.{event_inside, told}
use Rattle.sd_confluence.proofs.taking.RunCounts.{run-keeps}
use Rattle.sd_confluence.proofs.taking.OneState.{goes-alone}
use Rattle.sd_confluence.proofs.taking.Counting.{NoTake, Counted, counts, values_in, same-values}

-- alike memories hold alike in each stream
stream_alike : (own other : Memory) → AreAlike own other → (st : ℕ) → HoldAlike (waiting 0 st (own ∷ [])) (waiting 0 st (other ∷ []))
stream_alike [] [] h st v = refl
stream_alike [] (d ∷ other) h st v = elim h [ ]
stream_alike (c ∷ own) [] h st v = elim h [ ]
stream_alike (c ∷ own) (d ∷ other) h zero v = one c d h.0
  where
    one : (c d : Contents) → AreContentsAlike c d → how_often (values_of c) v ≡ how_often (values_of d) v
    one (array width xs) (array other ys) g = refl
    one (array width xs) (stream other ys) g = elim g [ ]
    one (stream width xs) (array other ys) g = elim g [ ]
    one (stream width xs) (stream other ys) g = g.1 v
stream_alike (c ∷ own) (d ∷ other) h (suc st) v = stream_alike own other h.1 st v

-- the works of a safe pool take from no stream outside of them
no_take : {P : Type 0} (body : ℤ → Term P) (active : Actives P) → IsPoolSafe body active → NoTake active body
no_take body active f l c h = f (takes l c) (takes l c) h h refl refl

-- as many takes where as many works were begun
same_taken : (b : Bool) (t u n m : ℕ) → n ≡ m → t + cond b 0 0 ≡ cond b n 0 → u + cond b 0 0 ≡ cond b m 0 → t ≡ u
same_taken true t u n m e f g = omega (arith, e, f, g)
same_taken false t u n m e f g = omega (arith, f, g)

-- what stands in an image of an owned pool
abbrev active_in : {P : Type 0} → Work P → ℤ → Works P
active_in (scope own (basin l c body active closed)) = active
active_in w = λ v. no_works

-- the pool in an owner, which its run goes as
abbrev owned_pool : {P : Type 0} → Memory → (container : ℕ) → (ℤ → Term P) → Term P
owned_pool own container body = owning own (pool 0 container body idle false)

sound_pool : {P : Type 0} (own other : Memory) (container : ℕ) (body : ℤ → Term P) → MayInterleave (pool_over own container body) → Sound (owned_pool other container body)
sound_pool own other container body may =
    sound-of (owned_pool other container body) (record { ordered = may.ordered.0; safe = may.safe.0; inside = λ level c touch. may.inside level c (inl touch) })

pub taking-order : {P : Type 0} (own other : Memory) (container : ℕ) (body : ℤ → Term P) (turns : ℕ) (picks others : List ℕ) (left : Left) (happened : List Event) →
    MayInterleave (pool_over own container body) → AreAlike own other → DoneWith (pool_over own container body) turns picks left happened →
    (end : Left) × (also : List Event) × DoneWith (pool_over other container body) turns others end also × LeaveAlike left end × AreEventsAlike happened also
taking-order {P} own other container body turns picks others left happened may same done =
    (left_of y, es2, (c.0, reaches-run c.0 others (opening B turns) y c.2, refl), subst (λ w. LeaveAlike w (left_of y)) (sym r.2) leave, alike)
  where
    A : Term P
    A = pool_over own container body

    B : Term P
    B = pool_over other container body

    r : (e : Machine P) × Reaches done.0 picks (opening A turns) e × (left ≡ left_of e)
    r = run-reaches done.0 picks (opening A turns) left done.1

    x : Machine P
    x = r.0

    mayB : MayInterleave B
    mayB = record { ordered = may.ordered; safe = may.safe; inside = may.inside }

    frames : frame_of own ≡ frame_of other
    frames = alike-frame own other same

    c : (j : ℕ) × (y : Machine P) × Reaches j others (opening B turns) y × (engine y.term y.turns ≡ engine x.term x.turns)
    c =
        confluent A B (ap (λ f. nest (λ state values. work_of (pool 0 container body idle false)) (λ state values. []) f 0 [] (work_of (pool 0 container body idle false))) frames)
        (sound-of A may) (sound-of B mayB) (safe-image A may.safe) turns done.0 picks x r.1 others

    y : Machine P
    y = c.1

    leave : LeaveAlike (left_of x) (left_of y)
    leave = left-alike x y (sym c.3)

    es1 : List Event
    es1 = events done.0 picks (opening A turns)

    es2 : List Event
    es2 = events c.0 others (opening B turns)

    -- both runs up to the end of the pool
    C : Term P
    C = owned_pool own container body

    D : Term P
    D = owned_pool other container body

    a : (e : Machine P) × Reaches done.0 picks (opening C turns) e × (told event_inside done.0 picks (opening C turns) ≡ es1)
    a = goes-alone (λ state values. pool 0 container body idle false) 0 [] done.0 picks own _ turns x r.1

    b : (e : Machine P) × Reaches c.0 others (opening D turns) e × (told event_inside c.0 others (opening D turns) ≡ es2)
    b = goes-alone (λ state values. pool 0 container body idle false) 0 [] c.0 others other _ turns y c.2

    d : (j : ℕ) × (z : Machine P) × Reaches j others (opening D turns) z × (engine z.term z.turns ≡ engine a.0.term a.0.turns)
    d =
        confluent C D (ap (λ f. scope f (work_of (pool 0 container body idle false))) frames) (sound_pool own own container body may) (sound_pool own other container body may)
        (safe-image C may.safe.0) turns done.0 picks a.0 a.1 others

    first : Counted container body idle es1 a.0
    first = subst (λ es. Counted container body idle es a.0) a.2 (counts done.0 picks own container body idle _ turns a.0 (no_take body idle may.safe.0.2) a.1)

    second : Counted container body idle es2 b.0
    second = subst (λ es. Counted container body idle es b.0) b.2 (counts c.0 others other container body idle _ turns b.0 (no_take body idle may.safe.0.2) b.1)

    works : active_of first.1 ≡ active_of second.1
    works =
        sym (ap (λ (m : Machine P). active_in (work_of m.term)) first.4) ∙ ap (λ (w : Engine P). active_in w.work) (sym d.3)
        ∙ ap (λ (m : Machine P). active_in (work_of m.term)) (one-end d.0 c.0 others (opening D turns) d.1 b.0 d.2 b.1) ∙ ap (λ (m : Machine P). active_in (work_of m.term)) second.4

    taken : (st : ℕ) → HoldAlike (values_taken st es1) (values_taken st es2)
    taken st v =
        same_taken (eqb st container) (how_often (values_taken st es1) v) (how_often (values_taken st es2) v) (how_often (values_in first.1) v) (how_often (values_in second.1) v)
        (same-values first.1 second.1 works v) (first.5 st v) (second.5 st v)

    pushed : (st : ℕ) → HoldAlike (values_pushed st es1) (values_pushed st es2)
    pushed st v =
        let begin : how_often (waiting 0 st (own ∷ [])) v ≡ how_often (waiting 0 st (other ∷ [])) v = stream_alike own other same st v in
        let finish : how_often (waiting 0 st (memory_of x.term ∷ [])) v ≡ how_often (waiting 0 st (memory_of y.term ∷ [])) v = stream_alike (memory_of x.term) (memory_of y.term) leave.memory st v in
        let t = taken st v in
        let f = run-keeps done.0 picks (opening A turns) x r.1 st v in
        let g = run-keeps c.0 others (opening B turns) y c.2 st v in
        omega (arith, begin, finish, t, f, g)

    alike : AreEventsAlike happened es2
    alike st = (subst (λ es. HoldAlike (values_taken st es) (values_taken st es2)) done.2 (taken st), subst (λ es. HoldAlike (values_pushed st es) (values_pushed st es2)) done.2 (pushed st))
