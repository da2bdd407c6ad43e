-- One instruction of many.
use Rattle.std.proofs.Common.{◌≡◌, ℕ, zero, suc, ◌+◌, ◌<◌, ◌≤◌, List, [], ◌∷◌, length, get_or, drop, Ok, refl, sym, ap, ◌∙◌, arith, drop-cons}
use Rattle.std.proofs.lemmas.List.{drop-drop}
use Rattle.sd_graph.specs.TaskletMeaning.{and_then}
use Rattle.sd_tcode.specs.op.Machine.{Held, State, after_one, passed, after_all, state_only}
use Rattle.sd_tcode.specs.op.Within.{kept_by, most_kept}
use Rattle.sd_tcode.specs.declared.op.op.Op.{Op}

kept_less : (n : ℕ) (ops : List Op) → most_kept (drop n ops) ≤ most_kept ops
kept_less zero ops = omega arith
kept_less (suc n) [] = omega arith
kept_less (suc n) (op ∷ ops) = omega (arith, kept_less n ops)

-- passing some is leaving them out
passes : (arrays : List Held) (n : ℕ) (ops : List Op) (state : State) → state_only (after_all arrays n ops state) ≡ state_only (after_all arrays 0 (drop n ops) state)
passes arrays zero ops state = refl
passes arrays (suc n) [] state = refl
passes arrays (suc n) (op ∷ ops) state = passes arrays n ops state

behind : (ops : List Op) (at count : ℕ) → drop count (drop (suc at) ops) ≡ drop (at + (1 + count)) ops
behind ops at count = let far : suc at + count ≡ at + (1 + count) = omega arith in drop-drop count (suc at) ops ∙ ap (λ n. drop n ops) far

pub step_left : (arrays : List Held) (ops : List Op) (at count : ℕ) (d : Op) (state next : State) → at < length ops → after_one arrays (get_or ops at d) state ≡ Ok next → count ≡ passed (get_or ops at d) state →
    state_only (after_all arrays 0 (drop at ops) state) ≡ state_only (after_all arrays 0 (drop (at + (1 + count)) ops) next)
step_left arrays ops at count d state next h e p =
    ap (λ l. state_only (after_all arrays 0 l state)) (drop-cons ops at d h)
    ∙ (ap (λ m. state_only (and_then m (λ next. after_all arrays (passed (get_or ops at d) state) (drop (suc at) ops) next))) e
    ∙ (ap (λ n. state_only (after_all arrays n (drop (suc at) ops) next)) (sym p)
    ∙ (passes arrays count (drop (suc at) ops) next
    ∙ ap (λ l. state_only (after_all arrays 0 l next)) (behind ops at count))))

pub step_kept : (ops : List Op) (at count : ℕ) (d : Op) → at < length ops → kept_by (get_or ops at d) + most_kept (drop (at + (1 + count)) ops) ≤ most_kept (drop at ops)
step_kept ops at count d h =
    let less : most_kept (drop (at + (1 + count)) ops) ≤ most_kept (drop (suc at) ops) = omega (arith, kept_less count (drop (suc at) ops), ap most_kept (behind ops at count)) in
    omega (arith, less, ap most_kept (drop-cons ops at d h))
