-- What a read and an evaluation come to in the whole instance.
use Rattle.std.proofs.Common.{◌≡◌, ℕ, suc, ◌+◌, ◌<◌, ◌≤◌, ℤ, List, [], ◌∷◌, length, map, drop, get_or, Option, option_map, Result, Ok, Err, IfOk, OnErr, Bool, true, false, not, refl, sym, ap, ◌∙◌, subst, arith, drop_of_length-le}
use Rattle.sd_work.specs.Memory.{Memories, Reference, seen}
use Rattle.sd_work.specs.Move.{Move}
use Rattle.sd_work.specs.Leaf.{Leaf, Evaluation, reading}
use Rattle.sd_work.specs.LeafMove.{leaf_move, read_move, evaluation_move}
use Rattle.sd_work.specs.Settle.{is_empty}
use Rattle.sd_work.specs.BigStep.{Reached}
use Rattle.sd_graph.specs.declared.place.Place.{Place}
use Rattle.sd_mem.specs.machine.Stack.{reference_of}
use Rattle.sd_mem.specs.declared.machine.address.Address.{Address}
use Rattle.sd_mem.specs.declared.machine.end.End.{End}
use Rattle.sd_mem.specs.declared.machine.end.End.TheVariants.{Finished, Fault, OutOfTurns}
use Rattle.sd_leaves.proofs.leaves_lemmas.Lists.{from_here}
use Rattle.std.proofs.Common.{Vec}
use Rattle.std.specs.declared.alloc.Global.{Global}
use Rattle.sd_leaves.specs.declared.moves.todo.Todo.{Todo}
use Rattle.sd_leaves.specs.declared.moves.instance.Reading as kept
use Rattle.sd_leaves.specs.declared.moves.instance.Instance.{Instance}
use Rattle.sd_leaves.specs.declared.moves.instance.Instance.TheVariants as variants
use Rattle.sd_leaves.specs.moves.Left.{reading_of, instance_left}
use Rattle.sd_leaves.specs.moves.Moved.{IsMoved}
use Rattle.sd_leaves.specs.moves.Evaluated.{IsCounted, IsEvaluated}

twice : (flag : Bool) → not (not flag) ≡ flag
twice true = refl
twice false = refl

some_there : (values : List ℤ) (count : ℕ) → length values ≡ suc count → true ≡ not (is_empty values)
some_there [] count is = absurd (omega (arith, is))
some_there (value ∷ values) count is = refl

abbrev references : List (Option Address) → List (Option Reference)
references cells = map (option_map reference_of) cells

-- ---- a read

-- what is left behind a read
left_read : (evaluation : Evaluation) (cells : List (Option Address)) (values after : List ℤ) (move : Move Place Leaf) (old : Leaf) (now then : Reached) (end : End) → IsCounted end values after
    → IsMoved move old now end then (reading true (references (drop (length values + 1) cells)) after evaluation)
    → IsMoved move old now end then (reading_of evaluation cells after)
left_read evaluation cells values after move old now then Finished counted moved =
    let count : length values + 1 ≡ length after = omega (arith, counted) in
    subst (λ (begun : Bool). IsMoved move old now Finished then (reading begun (references (drop (length after) cells)) after evaluation)) (some_there after (length values) counted)
    (subst (λ (n : ℕ). IsMoved move old now Finished then (reading true (references (drop n cells)) after evaluation)) count moved)
left_read evaluation cells values after move old now then (Fault place kind) counted moved = record { comes = moved.comes; depth = moved.depth }
left_read evaluation cells values after move old now then OutOfTurns counted moved = record { comes = moved.comes; depth = moved.depth }

pub read-whole : (evaluation : Evaluation) (cells : List (Option Address)) (values after : List ℤ) (cell : Option Address) (place : Place) (now then : Reached) (end : End)
    → length values < length cells → cell ≡ get_or cells (length values) cell → IsCounted end values after
    → ((old : Leaf) (left : List (Option Reference)) (evaluation : Evaluation) → IsMoved (read_move place (is_empty values) (seen (option_map reference_of cell) now.memories) left values evaluation) old now end then (reading true left after evaluation))
    → IsMoved (leaf_move place (reading_of evaluation cells values) now.memories) (reading_of evaluation cells values) now end then (reading_of evaluation cells after)
read-whole evaluation cells values after cell place now then end within is counted moves =
    let old = reading_of evaluation cells values in
    let rest = references (drop (length values + 1) cells) in
    let here : leaf_move place old now.memories ≡ read_move place (is_empty values) (seen (option_map reference_of cell) now.memories) rest values evaluation =
    ap (λ (left : List (Option Address)). leaf_move place (reading (not (is_empty values)) (references left) values evaluation) now.memories) (from_here cells (length values) cell within is)
    ∙ ap (λ (turn : Bool). read_move place turn (seen (option_map reference_of cell) now.memories) rest values evaluation) (twice (is_empty values)) in
    subst (λ (move : Move Place Leaf). IsMoved move old now end then (reading_of evaluation cells after)) (sym here)
    (left_read evaluation cells values after (read_move place (is_empty values) (seen (option_map reference_of cell) now.memories) rest values evaluation) old now then end counted (moves old rest evaluation))

-- ---- an evaluation

pub evaluation-whole : (evaluation : Evaluation) (cells : List (Option Address)) (values : List ℤ) (place : Place) (memories : Memories) → length cells ≤ length values
    → evaluation_move place (is_empty values) (evaluation values) ≡ leaf_move place (reading_of evaluation cells values) memories
evaluation-whole evaluation cells values place memories over =
    sym (ap (λ (left : List (Option Address)). leaf_move place (reading (not (is_empty values)) (references left) values evaluation) memories) (drop_of_length-le cells over)
    ∙ ap (λ (turn : Bool). evaluation_move place turn (evaluation values)) (twice (is_empty values)))

-- the evaluation of an instance that has read all
pub evaluated-moved : (evaluation : Evaluation) (reads : kept.Reading) (instance : Instance) (place : Place) (now after : Reached) (values : List ℤ) (answer : Result (Vec Todo Global) End)
    → instance ≡ variants.Reading reads → values ≡ reads.values.items → length reads.cells.items ≤ length reads.values.items
    → IsEvaluated (evaluation_move place (is_empty values) (evaluation values)) now after answer → IsEvaluated (leaf_move place (instance_left evaluation instance) now.memories) now after answer
evaluated-moved evaluation reads instance place now after values answer is same over told =
    subst (λ (instance : Instance). IsEvaluated (leaf_move place (instance_left evaluation instance) now.memories) now after answer) (sym is)
    (subst (λ (move : Move Place Leaf). IsEvaluated move now after answer) (evaluation-whole evaluation reads.cells.items reads.values.items place now.memories over)
    (subst (λ (values : List ℤ). IsEvaluated (evaluation_move place (is_empty values) (evaluation values)) now after answer) same told))

-- ---- answers that may want memory

pub both_ok : {A E : Type 0} (told counted meant : A → Type 0) (answer : Result A E) → ((value : A) → told value → counted value → meant value) → IfOk answer told → IfOk answer counted → IfOk answer meant
both_ok told counted meant (Ok value) follows is many = follows value is many
both_ok told counted meant (Err error) follows is many = tt

pub on_err : {A E : Type 0} (told meant : Type 0) (answer : Result A E) → (told → meant) → OnErr answer told → OnErr answer meant
on_err told meant (Ok value) follows is = tt
on_err told meant (Err error) follows is = follows is
