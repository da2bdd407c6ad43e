-- What is left of a nested graph, one level deeper.
use Rattle.std.proofs.Common.{◌≡◌, ℕ, Bool, true, sym, ap, ◌∙◌, subst, Box}
use Rattle.std.specs.declared.alloc.Global.{Global}
use Rattle.sd_work.specs.Moves.{Path}
use Rattle.sd_work.specs.BigStep.{Reached}
use Rattle.sd_graph.specs.PlainTree.{KindTree}
use Rattle.sd_graph.specs.Context.{Context}
use Rattle.sd_mem.specs.declared.machine.end.End.{End}
use Rattle.sd_left.specs.declared.left.left.Left as shape
use Rattle.sd_left.specs.declared.left.left.Left.{Left as LeftNow}
use Rattle.sd_left.specs.declared.left.left.Run.{Run as RunNow}
use Rattle.sd_graph.specs.Unfold.{order_of_points}
use Rattle.sd_left.specs.declared.sparse.point.Tasks.{Tasks}
use Rattle.sd_left.specs.declared.sparse.stretch.Stretch.{Stretch}
use Rattle.sd_left.specs.sparse.Stretch.{is_told, is_summed, stretch_tells}
use Rattle.sd_left.proofs.left_lemmas.Sameness.{both-true, both-are}
use Rattle.sd_left.specs.left.Kept.{left_of}
use Rattle.sd_left.specs.left.Telling.{Telling}
use Rattle.sd_left.specs.left.Tells.{tells, run_tells}
use Rattle.sd_left.proofs.left_lemmas.Rolls.{sparse_is, nested_is}
use Rattle.sd_left.proofs.left_lemmas.TellRolls.{sparse_tells, nested_tells}
use Rattle.sd_fire.specs.advance.Right.{IsLeftFired, AreSparseFired, IsNestedFired}
use Rattle.sd_fire.proofs.fire_lemmas.Items.{retold}

abbrev is-right : Telling → Bool
is-right telling = telling.is_right

module _ (kind : KindTree) (line : ℕ) (context : Context) (path : Path) (before after : Reached) (end : End) (left : LeftNow) where
  abbrev Fires : LeftNow → Type 0
  Fires new = IsLeftFired left kind line context path before end after new

  told : (old : LeftNow) → left ≡ old → left_of left kind line context ≡ left_of old kind line context
  told old is = ap (λ (l : LeftNow). left_of l kind line context) is

  module _ (right : (tells left).is_right ≡ true) where
    right_of : (old : LeftNow) (telling : Telling) → left ≡ old → tells old ≡ telling → telling.is_right ≡ true
    right_of old telling is tells_it = sym (ap (λ (l : LeftNow). (tells l).is_right) is ∙ ap is-right tells_it) ∙ right

    pub nested_fired : (old new : Box RunNow Global) → left ≡ shape.Nested old → ((run_tells old.value).is_right ≡ true → IsNestedFired old.value kind line context path before end after new.value) → Fires (shape.Nested new)
    nested_fired old new is fires =
        let fired = fires (right_of (shape.Nested old) (run_tells old.value) is (nested_tells old)) in
        record {
          fired = retold path before after end (told (shape.Nested old) is ∙ nested_is kind line context old) (nested_is kind line context new) fired.fired;
          right = ap is-right (nested_tells new) ∙ fired.right;
        }

    pub sparse_fired : (sequential : Bool) (tasks : Tasks) (old new : Stretch) → left ≡ shape.Sparse sequential tasks old
        → (is_told tasks ≡ true → is_summed tasks old ≡ true → AreSparseFired tasks old kind context path before end after new) → Fires (shape.Sparse sequential tasks new)
    sparse_fired sequential tasks old new is fires =
        let both = both-true (is_told tasks) (is_summed tasks old) (right_of (shape.Sparse sequential tasks old) (stretch_tells sequential tasks old) is (sparse_tells sequential tasks old)) in
        let fired = fires both.0 both.1 in
        record {
          fired = retold path before after end (told (shape.Sparse sequential tasks old) is ∙ sparse_is kind line context sequential tasks old) (sparse_is kind line context sequential tasks new) (fired.fired (order_of_points sequential));
          right = ap is-right (sparse_tells sequential tasks new) ∙ both-are (is_told tasks) (is_summed tasks new) both.0 fired.summed;
        }

    pub sparse_arm : (sequential : Bool) (tasks these : Tasks) (old points new : Stretch) → left ≡ shape.Sparse sequential tasks old → these ≡ tasks → points ≡ old
        → (is_told these ≡ true → is_summed these points ≡ true → AreSparseFired these points kind context path before end after new) → Fires (shape.Sparse sequential tasks new)
    sparse_arm sequential tasks these old points new is one two fires =
        sparse_fired sequential tasks old new is
        (subst (λ (t : Tasks). is_told t ≡ true → is_summed t old ≡ true → AreSparseFired t old kind context path before end after new) one
        (subst (λ (p : Stretch). is_told these ≡ true → is_summed these p ≡ true → AreSparseFired these p kind context path before end after new) two fires))
