-- What one effect does.
use Rattle.std.proofs.Common.{◌≡◌, ◌≤◌, ◌-◌, ℕ, zero, suc, ℤ, pos, List, [], ◌∷◌, map, take, min, length, Some, None, Bool, true, false, nat_lt, if◌then◌else◌, slice_get, refl, sym, ap, ◌∙◌, subst, arith}
use Rattle.std.proofs.Math.Seq.{take-nil}
use Rattle.std.proofs.lemmas.Bool.Decides.{nat_tests}
use Rattle.sd_work.specs.Change.{push, apply}
use Rattle.sd_work.specs.Leaf.{write_value, push_to}
use Rattle.sd_work.specs.BigStep.{Reached}
use Rattle.sd_graph.specs.ContainerParts.{container_at, is_stream}
use Rattle.sd_graph.specs.TaskletMeaning.{Inputs, Effect, extents_of_connector}
use Rattle.sd_graph.specs.Context.{Context, link_element}
use Rattle.sd_graph.specs.Unfold.{pending_through, pending_by}
use Rattle.sd_graph.specs.declared.link.Link.{Link}
use Rattle.sd_tasklet.specs.tasklet.Kept.{told}
use Rattle.sd_tasklet.specs.declared.tasklet.effect.Effect.{Effect as KeptEffect}
use Rattle.sd_leaves.specs.leaves.Done.{IsDone, performing}
use Rattle.sd_leaves.specs.leaves.Given.{pending_told}
use Rattle.sd_leaves.proofs.leaves_lemmas.Doing.{push_goes}

-- a value is pushed
pub pushed : (context : Context) (link : Link) (effect : Effect) (level container : ℕ) (now after : Reached) →
    is_stream (container_at context.containers link.memlet.container).kind ≡ true →
    level ≡ (context.reach link.memlet.container).level → container ≡ (context.reach link.memlet.container).container →
    after.memories ≡ apply (push level container effect.value) now.memories → after.turns ≡ now.turns →
    IsDone (performing (pending_through context link effect ∷ [])) now None after
pushed context link effect level container now after streams level_is container_is same kept =
    let reach = context.reach link.memlet.container in
    let there : after.memories ≡ apply (push reach.level reach.container effect.value) now.memories =
    same ∙ ap (λ level. apply (push level container effect.value) now.memories) level_is ∙ ap (λ container. apply (push reach.level container effect.value) now.memories) container_is in
    subst (λ (streams : Bool). IsDone (performing ((if streams then push_to reach.level reach.container effect.value
    else write_value effect.value (link_element context link effect.at) link.memlet.resolution) ∷ [])) now None after) (sym streams)
    (push_goes reach.level reach.container effect.value now after there kept)

taken : (numbers : List ℕ) (count many : ℕ) → length (map pos numbers) ≡ many → take (min count many) (map pos numbers) ≡ map pos (take count numbers)
taken [] count many there = simp take-nil
taken (number ∷ numbers) zero many there =
    let none : min 0 many ≡ 0 = omega arith in
    rw none refl
taken (number ∷ numbers) (suc count) many there =
    let more : min (suc count) many ≡ suc (min count (length (map pos numbers))) = omega (arith, there) in
    rw more (ap (λ rest. pos number ∷ rest) (taken numbers count (length (map pos numbers)) refl))

-- an effect through a link
pub at_place : (context : Context) (inputs : Inputs) (effect : KeptEffect) (link : Link) (index : List ℤ) (room many : ℕ) →
    index ≡ map pos effect.at → length index ≡ room → many ≡ min (length (extents_of_connector inputs effect.connector)) room →
    pending_through context link (record { connector = effect.connector; at = take many index; value = effect.value }) ≡ pending_through context link (told inputs effect)
at_place context inputs effect link index room many index_is room_is many_is =
    let dimensions = length (extents_of_connector inputs effect.connector) in
    let at_told : take many index ≡ map pos (take dimensions effect.at) = ap (λ many. take many index) many_is
    ∙ ap (λ index. take (min dimensions room) index) index_is ∙ taken effect.at dimensions room (ap length (sym index_is) ∙ room_is) in
    ap (λ at. pending_through context link (record { connector = effect.connector; at = at; value = effect.value })) at_told

-- it is the link of an output
pub through_link : (context : Context) (inputs : Inputs) (ins outs : List Link) (effect : KeptEffect) (link : Link) →
    length ins ≤ effect.connector → slice_get outs (effect.connector - length ins) ≡ Some link →
    pending_through context link (told inputs effect) ≡ pending_told context inputs ins outs effect
through_link context inputs ins outs effect link output is =
    let not_in : nat_lt effect.connector (length ins) ≡ false = grind (arith, nat_tests) in
    ap (λ link. pending_by context link (told inputs effect)) (sym is)
    ∙ ap (λ test. if test then pending_by context None (told inputs effect) else pending_by context (slice_get outs (effect.connector - length ins)) (told inputs effect)) (sym not_in)
