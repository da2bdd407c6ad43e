-- What holds of a board is kept by its steps.
use Rattle.std.proofs.Common.{◌≡◌, ℕ, zero, suc, ◌+◌, ◌*◌, ◌^◌, ◌<◌, ◌≤◌, List, [], ◌∷◌, ◌++◌, map, length, length-append, append_assoc, slice_get, Option, Some, None, is_some, Bool, true, false, IsTrue, ◌↔◌, nat_lt, if◌then◌else◌, refl, sym, ◌∙◌, ap, subst, inl, inr, arith}
use Rattle.std.proofs.lemmas.Option.{slice_get_within}
use Rattle.sd_work.specs.Memory.{Memories}
use Rattle.sd_work.specs.Move.{fault_at}
use Rattle.sd_work.specs.Change.{Change}
use Rattle.sd_work.specs.Step.{Outcome, Done, Faulted, Spent}
use Rattle.sd_work.specs.BigStep.{Coming, Reached, reached, big_step}
use Rattle.sd_pieces.specs.history.Pieces.{Piece}
use Rattle.sd_pieces.specs.history.History.{MayFollow, History, and_piece, nothing_done, HasAll}
use Rattle.sd_pieces.proofs.course_lemmas.MoreAllowed.{more-allowed}
use Rattle.sd_pieces.proofs.course_lemmas.Shapes.{length-map, work-shape}
use Rattle.sd_pieces.proofs.cut_lemmas.WidthElements.{work-elements}
use Rattle.sd_pieces.proofs.history_lemmas.Follows.{just-so-many}
use Rattle.sd_pieces.proofs.history_lemmas.OneEnd.{allowed-more}
use Rattle.sd_graph.specs.declared.place.Place.{Place}
use Rattle.sd_order.specs.table.Told.{told}
use Rattle.sd_order.specs.declared.table.order.Order.{Order}
use Rattle.sd_mem.specs.mem.Shaped.{Shaped, alone, changed}
use Rattle.sd_mem.specs.machine.ComesTo.{ComesTo}
use Rattle.sd_cut.specs.Overlaid.{Overlaid}
use Rattle.sd_cut.specs.Elements.{all_changed}
use Rattle.sd_cut.specs.Using.{effects, committed, Agrees}
use Rattle.sd_part.specs.declared.kept.Kept.{Kept}
use Rattle.sd_part.specs.declared.kept.Kept.TheVariants.{Fault, Turns}
use Rattle.sd_part.specs.declared.part_end.PartEnd.TheVariants as ends
use Rattle.sd_part.proofs.StreamWidths.{work-values}
use Rattle.sd_board.specs.declared.mark.Mark.{Mark}
use Rattle.sd_board.specs.declared.mark.Mark.TheVariants.{InWork}
use Rattle.sd_board.specs.declared.progress.Asked.{Asked}
use Rattle.sd_board.specs.declared.progress.Asked.TheVariants.{Begin, Wait, Over}
use Rattle.sd_board.specs.Progress.{Progress, turned, IsTold, IsNext, HasEach}
use Rattle.sd_board.specs.Assignment.{Assignment, IsLikeOpening, HasDone, IsEndOf, HaveEnds, Following, HasTurns, Stops, IsStopped}
use Rattle.sd_board.specs.declared.job.Closed.{Closed}
use Rattle.sd_board.specs.declared.job.Step.{Step}
use Rattle.sd_board.specs.Boards.{Board, items_of, IsFor, with_progress, opened, told_by, IsStepIf, IsStep, IsOf, after_end, IsClosed}
use Rattle.sd_board.proofs.Marks.{no, some_same, none_some}

-- ---- the items of pieces

item-at : (ps : List (Piece Place)) (k : ℕ) (p : Piece Place) → slice_get ps k ≡ Some p → slice_get (map (λ (piece : Piece Place). piece.item) ps) k ≡ Some p.item
item-at [] k p h = none_some h
item-at (q ∷ ps) zero p h = ap (λ (piece : Piece Place). Some piece.item) (some_same q p h)
item-at (q ∷ ps) (suc k) p h = item-at ps k p h

piece-at : (ps : List (Piece Place)) (k item : ℕ) → slice_get (map (λ (piece : Piece Place). piece.item) ps) k ≡ Some item → (p : Piece Place) × (slice_get ps k ≡ Some p)
piece-at [] k item h = none_some h
piece-at (q ∷ ps) zero item h = (q, refl)
piece-at (q ∷ ps) (suc k) item h = piece-at ps k item h

pub item-of : (a : Assignment) (b : Board) (k : ℕ) (p : Piece Place) → IsFor a b → slice_get a.work.pieces k ≡ Some p → slice_get b.progress.pieces.items k ≡ Some p.item
item-of a b k p h at = ap (λ items. slice_get items k) h.items ∙ item-at a.work.pieces k p at

pub piece-of : (a : Assignment) (b : Board) (k : ℕ) → IsFor a b → IsNext b.progress k → (p : Piece Place) × (slice_get a.work.pieces k ≡ Some p)
piece-of a b k h next = piece-at a.work.pieces k next.is_there.0 (ap (λ items. slice_get items k) (sym h.items) ∙ next.is_there.1)

pub may-follow : (a : Assignment) (b : Board) (k : ℕ) (p : Piece Place) → IsFor a b → IsNext b.progress k → slice_get a.work.pieces k ≡ Some p → MayFollow a.work b.progress.history k p
may-follow a b k p h next at = record {
  is_piece = at;
  is_new = next.is_new;
  is_ready = λ other earlier at' before. next.is_ready p.item other earlier.item (item-of a b k p h at) (item-of a b other earlier h at') (h.order earlier.item p.item ∙ before);
}

pub count-of : (a : Assignment) (b : Board) → IsFor a b → length b.progress.pieces.items ≡ length a.work.pieces
count-of a b h = ap length h.items ∙ length-map (λ (piece : Piece Place). piece.item) a.work.pieces

-- ---- longer histories

append_nil : (h : List ℕ) → h ≡ h ++ []
append_nil [] = refl
append_nil (x ∷ h) = ap (λ t. x ∷ t) (append_nil h)

beginning-longer : (h earlier later more : List ℕ) → h ≡ earlier ++ later → h ++ more ≡ earlier ++ (later ++ more)
beginning-longer h earlier later more e = ap (λ t. t ++ more) e ∙ append_assoc earlier later more

abbrev following-longer : (a : Assignment) (h more : List ℕ) → Following a h → Following a (h ++ more)
following-longer a h more f = record {
  earlier = f.earlier;
  later = f.later ++ more;
  is_beginning = beginning-longer h f.earlier f.later more f.is_beginning;
  memories = f.memories;
  turns = f.turns;
  done = f.done;
  number = f.number;
  piece = f.piece;
  may_follow = f.may_follow;
}

abbrev turns-longer : (a : Assignment) (h more : List ℕ) (turns : ℕ) → HasTurns a h turns → HasTurns a (h ++ more) turns
turns-longer a h more turns t = record { earlier = t.earlier; later = t.later ++ more; is_beginning = beginning-longer h t.earlier t.later more t.is_beginning; memories = t.memories; done = t.done }

stopped-longer : (a : Assignment) (h more : List ℕ) (stop : Option Kept) → IsStopped a h stop → IsStopped a (h ++ more) stop
stopped-longer a h more None s = s
stopped-longer a h more (Some (Fault place kind)) s = (following-longer a h more s.0, s.1)
stopped-longer a h more (Some (Turns turns)) (over, inl s) = (over, inl (following-longer a h more s.0, s.1, s.2))
stopped-longer a h more (Some (Turns turns)) (over, inr s) = (over, inr (turns-longer a h more turns s))

-- ---- memories

changed-shapes : (changes : List Change) (memory : Shaped) → (all_changed changes memory).shapes ≡ memory.shapes
changed-shapes [] memory = refl
changed-shapes (change ∷ changes) memory = changed-shapes changes (changed change memory)

like-after : (a : Assignment) (piece : Piece Place) (before after : Shaped) (most turns left : ℕ) → IsLikeOpening a before → after.shapes ≡ before.shapes
    → big_step piece.term most (alone before) turns ≡ reached (alone after) left → IsLikeOpening a after
like-after a piece before after most turns left like shapes came = record {
  shape = (shapes ∙ like.shape.0, work-shape piece.term most (alone before) turns (alone after) left came ∙ like.shape.1);
  elements = work-elements piece.term most (alone before) turns (alone after) left came like.elements;
  values = work-values piece.term most turns (alone before) (alone after) left came like.values;
}

-- ---- how a piece came to its end

-- what came of the piece that ended so, where enough is allowed
came : (coming : Coming Place) (outcome end : Outcome Place Reached) → coming ≡ Some outcome → ComesTo coming end → coming ≡ Some end
came coming outcome end e comes = e ∙ ap Some (subst (λ c. ComesTo c end) e comes)

abbrev following : (a : Assignment) (b : Board) (k : ℕ) (p : Piece Place) → IsFor a b → IsNext b.progress k → slice_get a.work.pieces k ≡ Some p → Following a b.progress.history
following a b k p h next at = record {
  earlier = b.progress.history;
  later = [];
  is_beginning = append_nil b.progress.history;
  memories = alone b.memory;
  turns = b.turns;
  done = h.done;
  number = k;
  piece = p;
  may_follow = may-follow a b k p h next at;
}

stops-by : (a : Assignment) (b : Board) (k : ℕ) (p : Piece Place) (cut : Overlaid) (kept : Kept) → IsFor a b → IsNext b.progress k → slice_get a.work.pieces k ≡ Some p → Agrees cut b.memory
    → IsEndOf a k cut (ends.Stopped kept) → Stops a b.progress.history kept
stops-by a b k p cut (Fault place kind) h next at agrees is_end =
    let end = h.ends k p b.memory.contents a.budget at in
    (following a b k p h next at, (end.0, came _ end.1 (Faulted (fault_at place kind)) end.2 (is_end p b.memory at h.memory agrees end.0)))
stops-by a b k p cut (Turns wanted) h next at agrees is_end =
    let end = h.ends k p b.memory.contents a.budget at in
    let it = is_end p b.memory at h.memory agrees end.0 in
    (over a.budget wanted it.0, inl (following a b k p h next at, (end.0, came _ end.1 Spent end.2 it.1), it.0))
  where
    over : (budget wanted : ℕ) → wanted ≡ suc budget → budget < wanted
    over budget wanted e = omega arith

pub for-stopped : (a : Assignment) (b : Board) (k : ℕ) (cut : Overlaid) (kept : Kept) → IsFor a b → IsNext b.progress k → Agrees cut b.memory → IsEndOf a k cut (ends.Stopped kept)
    → IsFor a (after_end a.budget k cut (ends.Stopped kept) b)
for-stopped a b k cut kept h next agrees is_end =
    let p = piece-of a b k h next in
    record {
      items = h.items;
      order = h.order;
      memory = h.memory;
      done = h.done;
      stopped = stops-by a b k p.0 cut kept h next p.1 agrees is_end;
      ends = h.ends;
      bounded = h.bounded;
      few = h.few;
      budget = h.budget;
    }

-- what a piece that was done has spent, and that the history is longer by it
record Longer (a : Assignment) (b : Board) (k : ℕ) (cut : Overlaid) (spent : ℕ) : Type 0 where
  pub done : HasDone a (b.progress.history ++ k ∷ []) (alone (committed cut b.memory)) (b.turns + spent)
  pub like : IsLikeOpening a (committed cut b.memory)
  pub within : spent ≤ a.budget

longer-by : (a : Assignment) (b : Board) (k : ℕ) (p : Piece Place) (cut : Overlaid) (spent : ℕ) → IsFor a b → IsNext b.progress k → slice_get a.work.pieces k ≡ Some p → Agrees cut b.memory
    → IsEndOf a k cut (ends.Done spent) → Longer a b k cut spent
longer-by a b k p cut spent h next at agrees is_end =
    let end = h.ends k p b.memory.contents a.budget at in
    let it = is_end p b.memory at h.memory agrees end.0 in
    let after : Memories = alone (committed cut b.memory) in
    let come : big_step p.term end.0 (alone b.memory) a.budget ≡ reached after it.0 = came _ end.1 (Done (record { memories = after; turns = it.0 })) end.2 it.2 in
    let just = just-so-many p.term end.0 (alone b.memory) after a.budget it.0 come in
    let same : just.0 ≡ spent = equal just.0 spent it.0 a.budget just.1 it.1 in
    let most : ℕ = h.done.0 + end.0 in
    record {
      done = (
        most,
        and_piece k p spent after
            (allowed-more a.work h.done.0 most (alone a.opening) b.progress.history (alone b.memory) b.turns (omega arith) h.done.1)
            (may-follow a b k p h next at)
            (more-allowed p.term end.0 most (alone b.memory) spent (Done (record { memories = after; turns = 0 })) (omega arith)
            (subst (λ n. big_step p.term end.0 (alone b.memory) n ≡ reached after 0) same just.2)),
      );
      like = like-after a p b.memory (committed cut b.memory) end.0 a.budget it.0 h.memory (changed-shapes (effects cut) b.memory) come;
      within = let e = it.1 in omega arith;
    }
  where
    equal : (x y left budget : ℕ) → budget ≡ x + left → budget ≡ y + left → x ≡ y
    equal x y left budget e f = omega arith

sum_bound : (turns spent count budget : ℕ) → turns ≤ count * 2 ^ 40 → spent ≤ budget → budget ≤ 2 ^ 40 → turns + spent ≤ (count + 1) * 2 ^ 40
sum_bound turns spent count budget x y z = omega arith

more_than : (x y : ℕ) → nat_lt x y ≡ true → x < y
more_than x y h = grind arith

pub for-done : (a : Assignment) (b : Board) (k : ℕ) (cut : Overlaid) (spent : ℕ) → IsFor a b → IsNext b.progress k → Agrees cut b.memory → IsEndOf a k cut (ends.Done spent)
    → IsFor a (after_end a.budget k cut (ends.Done spent) b)
for-done a b k cut spent h next agrees is_end =
    let p = piece-of a b k h next in
    let l = longer-by a b k p.0 cut spent h next p.1 agrees is_end in
    record {
      items = h.items;
      order = h.order;
      memory = l.like;
      done = l.done;
      stopped = on (nat_lt a.budget (b.turns + spent)) refl l.done;
      ends = h.ends;
      bounded = subst (λ n. b.turns + spent ≤ n * 2 ^ 40) (sym (length-append b.progress.history (k ∷ []))) (sum_bound b.turns spent (length b.progress.history) a.budget h.bounded l.within h.budget);
      few = h.few;
      budget = h.budget;
    }
  where
    on : (over : Bool) → nat_lt a.budget (b.turns + spent) ≡ over → HasDone a (b.progress.history ++ k ∷ []) (alone (committed cut b.memory)) (b.turns + spent)
        → IsStopped a (b.progress.history ++ k ∷ []) (if over then Some (Turns (b.turns + spent)) else b.stop)
    on true e done = (more_than _ _ e, inr (record { earlier = b.progress.history ++ k ∷ []; later = []; is_beginning = append_nil _; memories = alone (committed cut b.memory); done = done }))
    on false e done = stopped-longer a b.progress.history (k ∷ []) b.stop h.stopped

-- the sum of the turns fits
pub turns-fit : (a : Assignment) (b : Board) (k : ℕ) (cut : Overlaid) (spent : ℕ) → IsFor a b → IsNext b.progress k → Agrees cut b.memory → IsEndOf a k cut (ends.Done spent) → b.turns + spent < 2 ^ 64
turns-fit a b k cut spent h next agrees is_end =
    let p = piece-of a b k h next in
    let l = longer-by a b k p.0 cut spent h next p.1 agrees is_end in
    small b.turns spent (length b.progress.history) (length b.progress.pieces.items) (length a.work.pieces) a.budget h.bounded l.within h.budget next.few (count-of a b h) h.few
  where
    small : (turns spent count items pieces budget : ℕ) → turns ≤ count * 2 ^ 40 → spent ≤ budget → budget ≤ 2 ^ 40 → count < items → items ≡ pieces → pieces ≤ 2 ^ 20 → turns + spent < 2 ^ 64
    small turns spent count items pieces budget p q r s t u = omega arith

-- ---- other steps

for-turned : (a : Assignment) (b : Board) (k : ℕ) (mark : Mark) → IsFor a b → IsFor a (with_progress (turned k mark b.progress) b)
for-turned a b k mark h = record {
  items = h.items;
  order = h.order;
  memory = h.memory;
  done = h.done;
  stopped = h.stopped;
  ends = h.ends;
  bounded = h.bounded;
  few = h.few;
  budget = h.budget;
}

pub for-marked : (a : Assignment) (b : Board) (k : ℕ) (mark : Mark) (after : Progress) → IsFor a b → after ≡ turned k mark b.progress → IsFor a (with_progress after b)
for-marked a b k mark after h e = subst (λ p. IsFor a (with_progress p b)) (sym e) (for-turned a b k mark h)

pub for-told : (a : Assignment) (b : Board) (asked : Asked) (after : Progress) → IsFor a b → IsTold b.progress asked after → IsFor a (with_progress after b)
for-told a b (Begin number) after h is = for-marked a b number InWork after h is.1
for-told a b Wait after h is = subst (λ p. IsFor a (with_progress p b)) (sym is.2) h
for-told a b Over after h is = subst (λ p. IsFor a (with_progress p b)) (sym is.1) h

pub for-opened : (a : Assignment) (items : List ℕ) (order : Order) (memory : Shaped) → items ≡ items_of a → ((from to : ℕ) → told order from to ≡ a.work.before from to) → memory ≡ a.opening
    → IsLikeOpening a memory → HaveEnds a → length items ≤ 2 ^ 20 → a.budget ≤ 2 ^ 40 → IsFor a (opened items order memory)
for-opened a items order memory e o m like ends few small = record {
  items = e;
  order = o;
  memory = like;
  done = (0, subst (λ (n : Shaped). History a.work 0 (alone a.opening) [] (alone n) 0) (sym m) nothing_done);
  stopped = tt;
  ends = ends;
  bounded = omega arith;
  few = subst (λ n. n ≤ 2 ^ 20) (ap length e ∙ length-map (λ (piece : Piece Place). piece.item) a.work.pieces) few;
  budget = small;
}

pub for-moved : (a : Assignment) (progress progress' : Progress) (memory memory' : Shaped) (turns : ℕ) (stop stop' : Option Kept) → progress' ≡ progress → memory' ≡ memory → stop' ≡ stop
    → IsFor a (record { progress = progress; memory = memory; turns = turns; stop = stop }) → IsFor a (record { progress = progress'; memory = memory'; turns = turns; stop = stop' })
for-moved a progress progress' memory memory' turns stop stop' e f k h =
    subst (λ p. IsFor a (record { progress = p; memory = memory'; turns = turns; stop = stop' })) (sym e)
    (subst (λ m. IsFor a (record { progress = progress; memory = m; turns = turns; stop = stop' })) (sym f)
    (subst (λ s. IsFor a (record { progress = progress; memory = memory; turns = turns; stop = s })) (sym k) h))

pub step-told : (b : Board) (step : Step) (asked : Asked) (after : Progress) → is_some b.stop ≡ false → IsTold b.progress asked after → told_by step ≡ asked → IsStep b step (with_progress after b)
step-told b step asked after none is e = on b.stop none
  where
    on : (stop : Option Kept) → is_some stop ≡ false → IsStepIf stop b step (with_progress after b)
    on None h = (after, subst (λ x. IsTold b.progress x after) (sym e) is, refl)
    on (Some kept) h = no (sym h)

pub begun-there : (a : Assignment) (b : Board) (asked : Asked) (after : Progress) → IsFor a b → IsTold b.progress asked after → IsOf a asked
begun-there a b (Begin number) after h is = subst (λ n. number < n) (count-of a b h) (slice_get_within b.progress.pieces.items number is.0.may.item is.0.may.is_of)
begun-there a b Wait after h is = tt
begun-there a b Over after h is = tt

-- ---- the end

within : (ps : List (Piece Place)) (k : ℕ) (p : Piece Place) → slice_get ps k ≡ Some p → k < length ps
within [] k p h = none_some h
within (q ∷ ps) zero p h = omega arith
within (q ∷ ps) (suc k) p h = let e = within ps k p h in omega arith

pub has-all : (a : Assignment) (b : Board) → IsFor a b → HasEach b.progress → HasAll a.work b.progress.history
has-all a b h each number piece at = each number (subst (λ n. number < n) (sym (count-of a b h)) (within a.work.pieces number piece at))

pub has-each : (a : Assignment) (b : Board) → IsFor a b → HasAll a.work b.progress.history → HasEach b.progress
has-each a b h all number l = let p = there a.work.pieces number (subst (λ n. number < n) (count-of a b h) l) in all number p.0 p.1
  where
    there : (ps : List (Piece Place)) (k : ℕ) → k < length ps → (p : Piece Place) × (slice_get ps k ≡ Some p)
    there [] k l = absurd (omega arith)
    there (q ∷ ps) zero l = (q, refl)
    there (q ∷ ps) (suc k) l = there ps k (omega arith)

pub closed-as : (a : Assignment) (b : Board) (closed : Closed) → closed.memory ≡ b.memory → closed.history.items ≡ b.progress.history → closed.turns ≡ b.turns → closed.stopped ≡ b.stop
    → (IsTrue closed.is_whole ↔ HasEach b.progress) → IsFor a b → IsClosed a closed
closed-as a b closed m e t k whole h = record {
  memory = subst (IsLikeOpening a) (sym m) h.memory;
  done = (
    h.done.0,
    subst (λ (memory : Shaped). History a.work h.done.0 (alone a.opening) closed.history.items (alone memory) closed.turns) (sym m)
        (subst (λ history. History a.work h.done.0 (alone a.opening) history (alone b.memory) closed.turns) (sym e)
        (subst (λ turns. History a.work h.done.0 (alone a.opening) b.progress.history (alone b.memory) turns) (sym t) h.done.1)),
  );
  stopped = subst (λ history. IsStopped a history closed.stopped) (sym e) (subst (IsStopped a b.progress.history) (sym k) h.stopped);
  whole = (λ yes. subst (HasAll a.work) (sym e) (has-all a b h (whole.0 yes)), λ all. whole.1 (has-each a b h (subst (HasAll a.work) e all)));
}
