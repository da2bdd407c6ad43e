-- Elements that begin, behind those in work.
use Rattle.std.proofs.Common.{◌≡◌, ℕ, ℤ, List, [], ◌∷◌, ◌++◌, true, Some, None, slice_get, sym, ap, ap₂, ◌∙◌, subst}
use Rattle.sd_work.specs.Memory.{Memory, waiting}
use Rattle.sd_work.specs.Change.{apply, take}
use Rattle.sd_work.specs.Residual.{owning, pool}
use Rattle.sd_work.specs.Moves.{Path}
use Rattle.sd_work.specs.BigStep.{Reached}
use Rattle.sd_graph.specs.PlainTree.{KindTree, ItemTrees, consume_scope}
use Rattle.sd_graph.specs.Context.{Context}
use Rattle.sd_graph.specs.Unfold.{at_element, element_memory, list_of, unfold_items}
use Rattle.sd_mem.specs.declared.machine.address.Station.{Station}
use Rattle.sd_mem.specs.declared.machine.end.End.TheVariants.{Finished}
use Rattle.sd_left.specs.tree.Standing.{BodyLeft, element_term, body_left, value_at, active_left}
use Rattle.sd_left.specs.fired.Fired.{IsFired, IsElementBegun}
use Rattle.sd_left.proofs.fired_lemmas.Takes.{value-taken, nothing-taken}
use Rattle.sd_fire.specs.begin.Begun.{IsBodyBegun}
use Rattle.sd_left.specs.declared.left.left.Bodies.{Bodies as BodiesNow}
use Rattle.sd_left.specs.left.Kept.{bodies_kept}
use Rattle.sd_left.specs.left.Tells.{bodies_tell}
use Rattle.sd_fire.specs.advance.Right.{AreElementsFired}

pub element_begins : (stream element : ℕ) (private : List ℕ) (items : ItemTrees) (context inside : Context) (value : ℤ) (numbers : List ℤ) (memory : Memory) (body : BodyLeft)
    → value_at numbers ≡ value → memory ≡ element_memory context element private value → inside ≡ at_element context element private value
    → IsBodyBegun items inside numbers memory body → IsElementBegun (consume_scope stream element private items) context value body
element_begins stream element private items context inside value numbers memory body same_value same_memory stands begun =
    let taken : value_at body.at ≡ value = ap value_at begun.at ∙ same_value in
    record {
      at = taken;
      begun = ap₂ owning (begun.own ∙ same_memory)
          (ap (λ (v : ℤ). body_left body items (at_element context element private v)) taken
          ∙ subst (λ (c : Context). body_left body items c ≡ list_of c items (unfold_items items c)) stands begun.begun);
    }

module _ (stream : Station) (old : BodiesNow) (kind : KindTree) (context : Context) (position : ℕ) (path : Path) (before after : Reached)
    (memories : after.memories ≡ apply (take stream.level stream.container position) before.memories) (turns : after.turns ≡ before.turns) (right : (bodies_tell old).is_right ≡ true) where
  pub takes_nothing : slice_get (waiting stream.level stream.container before.memories) position ≡ None
      → AreElementsFired stream old kind context (0 ∷ position ∷ path) before Finished after old
  takes_nothing none = record {
    fired = λ closed. nothing-taken stream.level stream.container closed (bodies_kept old) kind context position path before after none memories turns;
    right = right;
  }

  pub takes_one : (value : ℤ) (element : BodyLeft) (new : BodiesNow)
      → slice_get (waiting stream.level stream.container before.memories) position ≡ Some value → IsElementBegun kind context value element
      → bodies_kept new ≡ bodies_kept old ++ element ∷ [] → (bodies_tell new).is_right ≡ true
      → AreElementsFired stream old kind context (0 ∷ position ∷ path) before Finished after new
  takes_one value element new there begun more right_now = record {
    fired = λ closed. subst (λ (active : List BodyLeft). IsFired (pool stream.level stream.container (element_term kind context) (active_left (bodies_kept old) kind context) closed) (0 ∷ position ∷ path) before Finished after (pool stream.level stream.container (element_term kind context) (active_left active kind context) closed))
        (sym more) (value-taken stream.level stream.container closed (bodies_kept old) kind context position path before after element value there begun memories turns);
    right = right_now;
  }
