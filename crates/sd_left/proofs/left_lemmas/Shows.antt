-- What right counts of parts tell of the work that is left of them.
use Rattle.std.specs.Bool.{⊤}
use Rattle.std.proofs.Common.{◌≡◌, ℕ, suc, ◌+◌, nat_eq, nat_lt, ℤ, List, [], ◌∷◌, map, Bool, true, cond, not, ◌&&◌, refl, sym, ap, ap₂, ◌∙◌, arith}
use Rattle.std.specs.List.{sum}
use Rattle.sd_work.specs.Memory.{Memory, Memories}
use Rattle.sd_work.specs.Residual.{Term, Terms, also, list, Points, finished, all_finished, flags_of, is_ready}
use Rattle.sd_moves.specs.numbered.Counts.{count, count_parts, count_active, one_if}
use Rattle.sd_moves.specs.numbered.OpenPools.{HasNoOpenPool, HaveNoOpenPool, HaveNoActiveOpenPool}
use Rattle.sd_graph.specs.PlainTree.{KindTree, ItemTrees}
use Rattle.sd_graph.specs.Context.{Context}
use Rattle.sd_graph.specs.Unfold.{in_any_order, one_after_another}
use Rattle.sd_graph.specs.declared.place.Place.{Place}
use Rattle.sd_left.specs.tree.Standing.{ItemLeft, BodyLeft, first_line, first_kind, others, body_of, point_inside, element_inside, value_at, body_left, parts_left, point_left, points_left, element_left, active_left}
use Rattle.sd_left.proofs.tree_lemmas.Points.{any-count}
use Rattle.sd_left.proofs.tree_lemmas.Sequence.{first_count, sequence-counted}
use Rattle.sd_left.specs.left.Waits.{Told, all_hold}
use Rattle.sd_left.specs.left.Telling.{Telling, BodiesTelling, moves_told, unfinished_told, pools_told, flags_told, ready_moves, all_right, counts_tell, count_of_first}
use Rattle.sd_left.proofs.left_lemmas.Sameness.{both-true, sum-cons, unfinished-more, were}
use Rattle.sd_left.proofs.left_lemmas.FirstLeft.{flag-told}

-- an item tells whether something is left, how many moves come next, and whether it has open pools
pub record ItemTold (left : ItemLeft) (telling : Telling) (counted : Told) : Type 0 where
  pub over : (kind : KindTree) (line : ℕ) (context : Context) → finished (left kind line context) ≡ not telling.is_unfinished
  pub moves : (kind : KindTree) (line : ℕ) (context : Context) (memories : Memories) → counted memories ≡ true → count (left kind line context) memories ≡ telling.moves
  pub free : (kind : KindTree) (line : ℕ) (context : Context) → telling.pools ≡ 0 → HasNoOpenPool (left kind line context)

abbrev pub ItemShows : ItemLeft → Telling → Told → Type 0
ItemShows left telling counted = telling.is_right ≡ true → ItemTold left telling counted

-- so do the items of a body, inside its memory
pub record BodyTold (body : BodyLeft) (telling : Telling) (counted : Told) : Type 0 where
  pub over : (items : ItemTrees) (context : Context) → finished (body_left body items context) ≡ not telling.is_unfinished
  pub moves : (items : ItemTrees) (context : Context) (memories : Memories) → counted memories ≡ true → count (body_left body items context) (body.own ∷ memories) ≡ telling.moves
  pub free : (items : ItemTrees) (context : Context) → telling.pools ≡ 0 → HasNoOpenPool (body_left body items context)

abbrev pub BodyShows : BodyLeft → Telling → Told → Type 0
BodyShows body telling counted = telling.is_right ≡ true → BodyTold body telling counted

-- and bodies, as points and as elements
pub record BodiesTold (bodies : List BodyLeft) (telling : BodiesTelling) (counted : Told) : Type 0 where
  pub over : (kind : KindTree) (context : Context) → all_finished (points_left bodies kind context) ≡ not telling.together.is_unfinished
  pub points : (kind : KindTree) (context : Context) (memories : Memories) → counted memories ≡ true → count_parts in_any_order [] 0 (points_left bodies kind context) memories ≡ telling.together.moves
  pub first : (kind : KindTree) (context : Context) (memories : Memories) → counted memories ≡ true → count (list Points one_after_another (points_left bodies kind context)) memories ≡ telling.first
  pub elements : (kind : KindTree) (context : Context) (memories : Memories) → counted memories ≡ true → count_active (active_left bodies kind context) memories ≡ telling.together.moves
  pub free : (kind : KindTree) (context : Context) → telling.together.pools ≡ 0 → HaveNoOpenPool (points_left bodies kind context)
  pub active : (kind : KindTree) (context : Context) → telling.together.pools ≡ 0 → HaveNoActiveOpenPool (active_left bodies kind context)

abbrev pub BodiesShow : List BodyLeft → BodiesTelling → Told → Type 0
BodiesShow bodies telling counted = telling.together.is_right ≡ true → BodiesTold bodies telling counted

-- none in one, and none in the others
none-in-each : (pools : ℕ) (others : List ℕ) → sum (pools ∷ others) ≡ 0 → (pools ≡ 0) × (sum others ≡ 0)
none-in-each pools others none =
    let all : pools + sum others ≡ 0 = sym (sum-cons pools others) ∙ none in
    (omega (arith, all), omega (arith, all))

-- ---- bodies

first-counted : (part : Term Place) (parts : Terms Place) (memories : Memories)
    → count_parts in_any_order [] 0 (also part parts) memories ≡ count part memories + count_parts in_any_order [] 0 parts memories
first-counted part parts memories = ap (λ (rest : ℕ). count part memories + rest) (any-count parts [] [] 1 0 memories)

module _ {A : Type 0} (kept : A → BodyLeft) (telling : A → Telling) (counted : A → Told) where
  abbrev pub AllBodiesShow : List A → Type 0
  AllBodiesShow [] = ⊤
  AllBodiesShow (body ∷ bodies) = BodyShows (kept body) (telling body) (counted body) × AllBodiesShow bodies

  points-over : (bodies : List A) → AllBodiesShow bodies → all_right (map telling bodies) ≡ true → (kind : KindTree) (context : Context)
      → all_finished (points_left (map kept bodies) kind context) ≡ not (nat_lt 0 (sum (unfinished_told (map telling bodies))))
  points-over [] shows right kind context = refl
  points-over (body ∷ bodies) shows right kind context =
      let each = both-true ((telling body).is_right) (all_right (map telling bodies)) right in
      let first : finished (point_left (kept body) kind context) ≡ not (telling body).is_unfinished = (shows.0 each.0).over (body_of kind) (point_inside kind context (kept body).at) in
      ap₂ (λ (a b : Bool). a && b) first (points-over bodies shows.1 each.1 kind context)
      ∙ unfinished-more (telling body).is_unfinished (sum (unfinished_told (map telling bodies)))
      ∙ ap (λ (n : ℕ). not (nat_lt 0 n)) (sym (sum-cons (one_if (telling body).is_unfinished) (unfinished_told (map telling bodies))))

  pub points-flags : (bodies : List A) → AllBodiesShow bodies → all_right (map telling bodies) ≡ true → (kind : KindTree) (context : Context)
      → flags_of (points_left (map kept bodies) kind context) ≡ flags_told (map telling bodies)
  points-flags [] shows right kind context = refl
  points-flags (body ∷ bodies) shows right kind context =
      let each = both-true ((telling body).is_right) (all_right (map telling bodies)) right in
      ap₂ (λ (a : Bool) (b : List Bool). a ∷ b) ((shows.0 each.0).over (body_of kind) (point_inside kind context (kept body).at)) (points-flags bodies shows.1 each.1 kind context)

  points-moves : (bodies : List A) → AllBodiesShow bodies → all_right (map telling bodies) ≡ true → (kind : KindTree) (context : Context) (memories : Memories)
      → all_hold (map counted bodies) memories ≡ true → count_parts in_any_order [] 0 (points_left (map kept bodies) kind context) memories ≡ sum (moves_told (map telling bodies))
  points-moves [] shows right kind context memories held = refl
  points-moves (body ∷ bodies) shows right kind context memories held =
      let each = both-true ((telling body).is_right) (all_right (map telling bodies)) right in
      let hold = both-true (counted body memories) (all_hold (map counted bodies) memories) held in
      let first : count (point_left (kept body) kind context) memories ≡ (telling body).moves = (shows.0 each.0).moves (body_of kind) (point_inside kind context (kept body).at) memories hold.0 in
      first-counted (point_left (kept body) kind context) (points_left (map kept bodies) kind context) memories
      ∙ ap₂ (λ (a b : ℕ). a + b) first (points-moves bodies shows.1 each.1 kind context memories hold.1)
      ∙ sym (sum-cons (telling body).moves (moves_told (map telling bodies)))

  points-first : (bodies : List A) → AllBodiesShow bodies → all_right (map telling bodies) ≡ true → (kind : KindTree) (context : Context) (memories : Memories)
      → all_hold (map counted bodies) memories ≡ true → first_count (points_left (map kept bodies) kind context) memories ≡ count_of_first (moves_told (map telling bodies)) (unfinished_told (map telling bodies))
  points-first [] shows right kind context memories held = refl
  points-first (body ∷ bodies) shows right kind context memories held =
      let each = both-true ((telling body).is_right) (all_right (map telling bodies)) right in
      let hold = both-true (counted body memories) (all_hold (map counted bodies) memories) held in
      let told = shows.0 each.0 in
      let over : finished (point_left (kept body) kind context) ≡ nat_eq (one_if (telling body).is_unfinished) 0 =
      told.over (body_of kind) (point_inside kind context (kept body).at) ∙ sym (flag-told (telling body).is_unfinished) in
      ap₂ (λ (end : Bool) (rest : ℕ). cond end rest (count (point_left (kept body) kind context) memories)) over (points-first bodies shows.1 each.1 kind context memories hold.1)
      ∙ ap (cond (nat_eq (one_if (telling body).is_unfinished) 0) (count_of_first (moves_told (map telling bodies)) (unfinished_told (map telling bodies))))
      (told.moves (body_of kind) (point_inside kind context (kept body).at) memories hold.0)

  elements-moves : (bodies : List A) → AllBodiesShow bodies → all_right (map telling bodies) ≡ true → (kind : KindTree) (context : Context) (memories : Memories)
      → all_hold (map counted bodies) memories ≡ true → count_active (active_left (map kept bodies) kind context) memories ≡ sum (moves_told (map telling bodies))
  elements-moves [] shows right kind context memories held = refl
  elements-moves (body ∷ bodies) shows right kind context memories held =
      let each = both-true ((telling body).is_right) (all_right (map telling bodies)) right in
      let hold = both-true (counted body memories) (all_hold (map counted bodies) memories) held in
      let first : count (element_left (kept body) kind context) memories ≡ (telling body).moves = (shows.0 each.0).moves (body_of kind) (element_inside kind context (value_at (kept body).at)) memories hold.0 in
      ap₂ (λ (a b : ℕ). a + b) first (elements-moves bodies shows.1 each.1 kind context memories hold.1)
      ∙ sym (sum-cons (telling body).moves (moves_told (map telling bodies)))

  points-free : (bodies : List A) → AllBodiesShow bodies → all_right (map telling bodies) ≡ true → (kind : KindTree) (context : Context)
      → sum (pools_told (map telling bodies)) ≡ 0 → HaveNoOpenPool (points_left (map kept bodies) kind context)
  points-free [] shows right kind context none = tt
  points-free (body ∷ bodies) shows right kind context none =
      let each = both-true ((telling body).is_right) (all_right (map telling bodies)) right in
      let nones = none-in-each (telling body).pools (pools_told (map telling bodies)) none in
      ((shows.0 each.0).free (body_of kind) (point_inside kind context (kept body).at) nones.0, points-free bodies shows.1 each.1 kind context nones.1)

  elements-free : (bodies : List A) → AllBodiesShow bodies → all_right (map telling bodies) ≡ true → (kind : KindTree) (context : Context)
      → sum (pools_told (map telling bodies)) ≡ 0 → HaveNoActiveOpenPool (active_left (map kept bodies) kind context)
  elements-free [] shows right kind context none = tt
  elements-free (body ∷ bodies) shows right kind context none =
      let each = both-true ((telling body).is_right) (all_right (map telling bodies)) right in
      let nones = none-in-each (telling body).pools (pools_told (map telling bodies)) none in
      ((shows.0 each.0).free (body_of kind) (element_inside kind context (value_at (kept body).at)) nones.0, elements-free bodies shows.1 each.1 kind context nones.1)

  pub bodies-show : (bodies : List A) (moves unfinished pools : List ℕ) → AllBodiesShow bodies
      → BodiesShow (map kept bodies) (record {
        together = counts_tell moves unfinished pools (moves_told (map telling bodies)) (unfinished_told (map telling bodies)) (pools_told (map telling bodies)) (all_right (map telling bodies));
        first = count_of_first moves unfinished;
      }) (all_hold (map counted bodies))
  bodies-show bodies moves unfinished pools shows right =
      let tellings = map telling bodies in
      let are = were moves (moves_told tellings) unfinished (unfinished_told tellings) pools (pools_told tellings) (all_right tellings) right in
      let counts : sum (moves_told tellings) ≡ sum moves = sym (ap sum are.moves_are) in
      let none_of : sum (pools_told tellings) ≡ sum pools = sym (ap sum are.pools_are) in
      record {
        over = λ kind context. points-over bodies shows are.parts_are kind context ∙ sym (ap (λ (o : List ℕ). not (nat_lt 0 (sum o))) are.unfinished_are);
        points = λ kind context memories held. points-moves bodies shows are.parts_are kind context memories held ∙ counts;
        first = λ kind context memories held.
            sequence-counted (points_left (map kept bodies) kind context) memories
            ∙ points-first bodies shows are.parts_are kind context memories held
            ∙ ap₂ count_of_first (sym are.moves_are) (sym are.unfinished_are);
        elements = λ kind context memories held. elements-moves bodies shows are.parts_are kind context memories held ∙ counts;
        free = λ kind context none. points-free bodies shows are.parts_are kind context (none_of ∙ none);
        active = λ kind context none. elements-free bodies shows are.parts_are kind context (none_of ∙ none);
      }

-- ---- items

module _ {A : Type 0} (kept : A → ItemLeft) (telling : A → Telling) (counted : A → Told) where
  abbrev pub AllItemsShow : List A → Type 0
  AllItemsShow [] = ⊤
  AllItemsShow (part ∷ parts) = ItemShows (kept part) (telling part) (counted part) × AllItemsShow parts

  parts-over : (parts : List A) → AllItemsShow parts → all_right (map telling parts) ≡ true → (items : ItemTrees) (context : Context)
      → all_finished (parts_left (map kept parts) items context) ≡ not (nat_lt 0 (sum (unfinished_told (map telling parts))))
  parts-over [] shows right items context = refl
  parts-over (part ∷ parts) shows right items context =
      let each = both-true ((telling part).is_right) (all_right (map telling parts)) right in
      ap₂ (λ (a b : Bool). a && b) ((shows.0 each.0).over (first_kind items) (first_line items) context) (parts-over parts shows.1 each.1 (others items) context)
      ∙ unfinished-more (telling part).is_unfinished (sum (unfinished_told (map telling parts)))
      ∙ ap (λ (n : ℕ). not (nat_lt 0 n)) (sym (sum-cons (one_if (telling part).is_unfinished) (unfinished_told (map telling parts))))

  pub parts-flags : (parts : List A) → AllItemsShow parts → all_right (map telling parts) ≡ true → (items : ItemTrees) (context : Context)
      → flags_of (parts_left (map kept parts) items context) ≡ flags_told (map telling parts)
  parts-flags [] shows right items context = refl
  parts-flags (part ∷ parts) shows right items context =
      let each = both-true ((telling part).is_right) (all_right (map telling parts)) right in
      ap₂ (λ (a : Bool) (b : List Bool). a ∷ b) ((shows.0 each.0).over (first_kind items) (first_line items) context) (parts-flags parts shows.1 each.1 (others items) context)

  parts-moves : (before : ℕ → ℕ → Bool) (flags : List Bool) (number : ℕ) (parts : List A) → AllItemsShow parts → all_right (map telling parts) ≡ true
      → (items : ItemTrees) (context : Context) (memories : Memories) → all_hold (map counted parts) memories ≡ true
      → count_parts before flags number (parts_left (map kept parts) items context) memories ≡ sum (ready_moves before flags number (map telling parts))
  parts-moves before flags number [] shows right items context memories held = refl
  parts-moves before flags number (part ∷ parts) shows right items context memories held =
      let each = both-true ((telling part).is_right) (all_right (map telling parts)) right in
      let hold = both-true (counted part memories) (all_hold (map counted parts) memories) held in
      ap₂ (λ (a b : ℕ). cond (is_ready before flags number) a 0 + b) ((shows.0 each.0).moves (first_kind items) (first_line items) context memories hold.0)
      (parts-moves before flags (suc number) parts shows.1 each.1 (others items) context memories hold.1)
      ∙ sym (sum-cons (cond (is_ready before flags number) (telling part).moves 0) (ready_moves before flags (suc number) (map telling parts)))

  parts-free : (parts : List A) → AllItemsShow parts → all_right (map telling parts) ≡ true → (items : ItemTrees) (context : Context)
      → sum (pools_told (map telling parts)) ≡ 0 → HaveNoOpenPool (parts_left (map kept parts) items context)
  parts-free [] shows right items context none = tt
  parts-free (part ∷ parts) shows right items context none =
      let each = both-true ((telling part).is_right) (all_right (map telling parts)) right in
      let nones = none-in-each (telling part).pools (pools_told (map telling parts)) none in
      ((shows.0 each.0).free (first_kind items) (first_line items) context nones.0, parts-free parts shows.1 each.1 (others items) context nones.1)

  pub body-shows : (at : List ℤ) (own : Memory) (order : ℕ → ℕ → Bool) (parts : List A) (moves unfinished pools : List ℕ) → AllItemsShow parts
      → BodyShows (record { at = at; own = own; order = order; parts = map kept parts })
      (counts_tell moves unfinished pools (ready_moves order (flags_told (map telling parts)) 0 (map telling parts)) (unfinished_told (map telling parts)) (pools_told (map telling parts)) (all_right (map telling parts)))
      (λ memories. all_hold (map counted parts) (own ∷ memories))
  body-shows at own order parts moves unfinished pools shows right =
      let tellings = map telling parts in
      let are = were moves (ready_moves order (flags_told tellings) 0 tellings) unfinished (unfinished_told tellings) pools (pools_told tellings) (all_right tellings) right in
      record {
        over = λ items context. parts-over parts shows are.parts_are items context ∙ sym (ap (λ (o : List ℕ). not (nat_lt 0 (sum o))) are.unfinished_are);
        moves = λ items context memories held.
            ap (λ (flags : List Bool). count_parts order flags 0 (parts_left (map kept parts) items context) (own ∷ memories)) (parts-flags parts shows are.parts_are items context)
            ∙ parts-moves order (flags_told tellings) 0 parts shows are.parts_are items context (own ∷ memories) held
            ∙ sym (ap sum are.moves_are);
        free = λ items context none. parts-free parts shows are.parts_are items context (sym (ap sum are.pools_are) ∙ none);
      }
