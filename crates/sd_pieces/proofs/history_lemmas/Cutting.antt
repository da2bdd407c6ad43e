-- Items that are cut into pieces come to the same.
use Rattle.std.proofs.Common.{◌≡◌, ◌+◌, ℕ, zero, suc, List, [], ◌∷◌, ◌++◌, Bool, refl, sym, ◌∙◌, ap}
use Rattle.sd_work.specs.Memory.{Memory, Memories}
use Rattle.sd_work.specs.Exit.{Values}
use Rattle.sd_work.specs.Residual.{Items, list, Terms, also}
use Rattle.sd_work.specs.Step.{Done}
use Rattle.sd_work.specs.Run.{Left, Sequential}
use Rattle.sd_work.specs.OrderedPools.{HasOrderedPools}
use Rattle.sd_work.proofs.left_to_right.BigRuns.{big_run-sequential, sequential-big_run}
use Rattle.sd_confluence.specs.Safe.{MayInterleave}
use Rattle.sd_confluence.specs.Alike.{AreAlike}
use Rattle.sd_pieces.proofs.history_lemmas.Whole.{whole-run}
use Rattle.sd_pieces.proofs.history_lemmas.CutSafe.{cut-interleaves, cut-pools}
use Rattle.sd_work.specs.BigStep.{Coming, and_then, big_states, big_step, big_parts}
use Rattle.sd_work.specs.BigRun.{left_by, big_run}
use Rattle.sd_pieces.specs.history.Pieces.{Piece, Work, and_parts, terms_of, piece_before, graph_of_pieces, all_parts, map_pieces, IsCut, no_items, as_it_is, in_pieces, graph_of_items}
use Rattle.sd_pieces.specs.history.History.{History, HasAll}
use Rattle.sd_pieces.proofs.history_lemmas.Follows.{parts-append}

terms-append : {P : Type 0} (ps qs : List (Piece P)) → terms_of (ps ++ qs) ≡ and_parts (terms_of ps) (terms_of qs)
terms-append [] qs = refl
terms-append (p ∷ ps) qs = ap (also p.term) (terms-append ps qs)

-- a map in pieces
map-pieces : {P : Type 0} (item : ℕ) (before : ℕ → ℕ → Bool) (runs : List (Terms P)) (most : ℕ) (s : Memories) (n : ℕ) → big_parts (terms_of (map_pieces item before runs)) most s n ≡ big_parts (all_parts runs) most s n
map-pieces item before [] most s n = refl
map-pieces item before (ts ∷ runs) most s n =
    ap (and_then (big_parts ts most s n)) (λ i z k. map-pieces item before runs most z k i) ∙ sym (parts-append ts (all_parts runs) most s n)

cut-parts : {P : Type 0} {item : ℕ} {items : Terms P} {pieces : List (Piece P)} → IsCut item items pieces → (most : ℕ) (s : Memories) (n : ℕ) → big_parts (terms_of pieces) most s n ≡ big_parts items most s n
cut-parts no_items most s n = refl
cut-parts (as_it_is term c) most s n = ap (and_then (big_step term most s n)) (λ i z k. cut-parts c most z k i)
cut-parts (in_pieces {item} {items} {pieces} before runs never c) most s n =
    ap (λ ts. big_parts ts most s n) (terms-append (map_pieces item before runs) pieces)
    ∙ parts-append (terms_of (map_pieces item before runs)) (terms_of pieces) most s n
    ∙ ap (λ x. and_then x (big_parts (terms_of pieces) most)) (map-pieces item before runs most s n)
    ∙ ap (and_then (big_parts (all_parts runs) most s n)) (λ i z k. cut-parts c most z k i)

-- where no exit is left the states are those of the first one
no-states : {P : Type 0} (most : ℕ) (f g : ℕ → Values → Memories → ℕ → Coming P) (state : ℕ) (values : Values) (s : Memories) (n : ℕ) →
    big_states most f (λ state values. []) state values s n ≡ big_states most g (λ state values. []) state values s n
no-states zero f g state values s n = refl
no-states (suc most) f g state values s n = refl

pub cut-run : {P : Type 0} (work : Work P) (before : ℕ → ℕ → Bool) (items : Terms P) (own : Memory) (most turns : ℕ) → IsCut 0 items work.pieces →
    big_run (graph_of_pieces work own) most turns ≡ big_run (graph_of_items before items own) most turns
cut-run work before items own most turns c =
    ap (λ x. left_by (and_then x (big_states most (λ state values. big_step (list Items (piece_before work) (terms_of work.pieces)) most) (λ state values. []) 0 []))) (cut-parts c most (own ∷ []) turns)
    ∙ ap (λ g. left_by (and_then (big_parts items most (own ∷ []) turns) g))
    (λ i z k. no-states most (λ state values. big_step (list Items (piece_before work) (terms_of work.pieces)) most) (λ state values. big_step (list Items before items) most) 0 [] z k i)

pub history-sequential : {P : Type 0} (work : Work P) (items : Terms P) (most : ℕ) (own memory : Memory) (history : List ℕ) (spent left : ℕ)
    → IsCut 0 items work.pieces → MayInterleave (graph_of_items work.before items own) → HasOrderedPools 0 (graph_of_items work.before items own)
    → HasAll work history → History work most (own ∷ []) history (memory ∷ []) spent
    → (end : Left) × Sequential (graph_of_items work.before items own) (spent + left) (Done end) × AreAlike memory end.memory × (end.turns ≡ left)
history-sequential work items most own memory history spent left c may pools all h =
    let in_pieces_too = cut-interleaves work items own c may in
    let r = whole-run work most own memory history spent left [] in_pieces_too all h in
    let b = sequential-big_run (graph_of_pieces work own) (spent + left) (Done r.0) in_pieces_too.ordered (cut-pools work items own 0 c may.safe pools) tt r.1 in
    (r.0, big_run-sequential (graph_of_items work.before items own) b.0 (spent + left) (Done r.0) may.ordered pools (sym (cut-run work work.before items own b.0 (spent + left) c) ∙ b.1), r.2, r.3)
