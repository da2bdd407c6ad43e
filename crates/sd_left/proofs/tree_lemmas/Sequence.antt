-- Of parts that come one after another the first moves of which something is left.
use Rattle.std.proofs.Common.{◌≡◌, ℕ, zero, suc, ◌+◌, List, [], ◌∷◌, take, drop, Bool, true, false, cond, ◌&&◌, refl, sym, ap, ap₂, ◌∙◌, arith}
use Rattle.sd_work.specs.Memory.{Memories}
use Rattle.sd_work.specs.Residual.{Points, Term, Terms, list, none, also, finished, flags_of}
use Rattle.sd_work.specs.Settle.{all_true}
use Rattle.sd_moves.specs.numbered.Counts.{count, count_parts}
use Rattle.sd_moves.proofs.numbered_lemmas.Counted.{count-finished}
use Rattle.sd_graph.specs.PlainTree.{KindTree}
use Rattle.sd_graph.specs.Context.{Context}
use Rattle.sd_graph.specs.Unfold.{one_after_another}
use Rattle.sd_graph.specs.declared.place.Place.{Place}
use Rattle.sd_graph.proofs.InSequence.{ready_in_sequence}
use Rattle.sd_left.specs.tree.Standing.{BodyLeft, point_left, points_left}

and-and : (a b c : Bool) → (a && (b && c)) ≡ ((a && b) && c)
and-and true b c = refl
and-and false b c = refl

-- the flags before one, and those behind it
pub record OneMore (flags : List Bool) (number : ℕ) (flag : Bool) (rest : List Bool) : Type 0 where
  pub earlier : all_true (take (suc number) flags) ≡ (all_true (take number flags) && flag)
  pub later : drop (suc number) flags ≡ rest

pub one-more : (flags : List Bool) (number : ℕ) (flag : Bool) (rest : List Bool) → drop number flags ≡ flag ∷ rest → OneMore flags number flag rest
one-more [] zero flag rest is = cc
one-more [] (suc number) flag rest is = cc
one-more (first ∷ flags) zero flag rest is = record { earlier = at-first (first ∷ flags) is; later = behind-first (first ∷ flags) is }
  where
    at-first : (all : List Bool) → all ≡ flag ∷ rest → all_true (take 1 all) ≡ flag
    at-first all same = ap (λ (fs : List Bool). all_true (take 1 fs)) same ∙ and-true flag
      where
        and-true : (so : Bool) → (so && true) ≡ so
        and-true true = refl
        and-true false = refl

    behind-first : (all : List Bool) → all ≡ flag ∷ rest → drop 1 all ≡ rest
    behind-first all same = ap (λ (fs : List Bool). drop 1 fs) same
one-more (first ∷ flags) (suc number) flag rest is =
    let more = one-more flags number flag rest is in
    record { earlier = ap (λ (so : Bool). first && so) more.earlier ∙ and-and first (all_true (take number flags)) flag; later = more.later }

-- how many moves of the first of these parts come next of which something is left
abbrev pub first_count : Terms Place → Memories → ℕ
first_count none memories = 0
first_count (also part parts) memories = cond (finished part) (first_count parts memories) (count part memories)

-- behind a part of which something is left no part moves
held-up : (parts : Terms Place) (flags : List Bool) (number : ℕ) (memories : Memories) → all_true (take number flags) ≡ false → drop number flags ≡ flags_of parts
    → count_parts one_after_another flags number parts memories ≡ 0
held-up none flags number memories stuck are = refl
held-up (also part parts) flags number memories stuck are =
    let more = one-more flags number (finished part) (flags_of parts) are in
    ap₂ (λ (ready : Bool) (rest : ℕ). cond ready (count part memories) 0 + rest) (ready_in_sequence flags number ∙ stuck)
    (held-up parts flags (suc number) memories (more.earlier ∙ ap (λ (so : Bool). so && finished part) stuck) more.later)

-- the first of these moves, where they are finished before it
by-first : (part : Term Place) (over : Bool) (rest first : ℕ) (memories : Memories) → finished part ≡ over → (over ≡ true → rest ≡ first) → (over ≡ false → rest ≡ 0)
    → count part memories + rest ≡ cond (finished part) first (count part memories)
by-first part true rest first memories is later nothing =
    let here : count part memories ≡ 0 = count-finished part memories is in
    let same : count part memories + rest ≡ first = omega (arith, here, later refl) in
    same ∙ ap (λ (so : Bool). cond so first (count part memories)) (sym is)
by-first part false rest first memories is later nothing =
    let same : count part memories + rest ≡ count part memories = omega (arith, nothing refl) in
    same ∙ ap (λ (so : Bool). cond so first (count part memories)) (sym is)

first-counted : (parts : Terms Place) (flags : List Bool) (number : ℕ) (memories : Memories) → all_true (take number flags) ≡ true → drop number flags ≡ flags_of parts
    → count_parts one_after_another flags number parts memories ≡ first_count parts memories
first-counted none flags number memories free are = refl
first-counted (also part parts) flags number memories free are =
    let more = one-more flags number (finished part) (flags_of parts) are in
    let earlier : all_true (take (suc number) flags) ≡ finished part = more.earlier ∙ ap (λ (so : Bool). so && finished part) free in
    ap (λ (ready : Bool). cond ready (count part memories) 0 + count_parts one_after_another flags (suc number) parts memories) (ready_in_sequence flags number ∙ free)
    ∙ by-first part (finished part) (count_parts one_after_another flags (suc number) parts memories) (first_count parts memories) memories refl
    (λ over. first-counted parts flags (suc number) memories (earlier ∙ over) more.later)
    (λ unfinished. held-up parts flags (suc number) memories (earlier ∙ unfinished) more.later)

pub sequence-counted : (parts : Terms Place) (memories : Memories) → count (list Points one_after_another parts) memories ≡ first_count parts memories
sequence-counted parts memories = first-counted parts (flags_of parts) 0 memories refl refl

pub first-added : (point : BodyLeft) (points : List BodyLeft) (kind : KindTree) (context : Context) (memories : Memories)
    → count (list Points one_after_another (points_left (point ∷ points) kind context)) memories
    ≡ cond (finished (point_left point kind context)) (count (list Points one_after_another (points_left points kind context)) memories) (count (point_left point kind context) memories)
first-added point points kind context memories =
    sequence-counted (points_left (point ∷ points) kind context) memories
    ∙ ap (λ (rest : ℕ). cond (finished (point_left point kind context)) rest (count (point_left point kind context) memories)) (sym (sequence-counted (points_left points kind context) memories))
