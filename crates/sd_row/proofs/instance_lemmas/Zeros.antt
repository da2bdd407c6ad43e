-- A frame that was reserved for code, with room for one element of each input.
use Rattle.std.proofs.Common.{◌≡◌, ℕ, zero, suc, ◌+◌, ◌≤◌, pos, List, [], ◌∷◌, ◌++◌, length, map, take, replicate, refl, sym, ap, ◌∙◌, arith, subst, ◌<◌, Result, Ok, Err, IfOk, OnOk, Option, Some, None, Bool, true, false, ◌&&◌, ◌==◌, nat_lt, if◌then◌else◌}
use Rattle.std.specs.List.{AllByRecursion}
use Rattle.std.specs.Option.{MatchOption}
use Rattle.std.specs.Bool.{⊤}
use Rattle.std.proofs.lemmas.Bool.Decides.{nat_tests}
use Rattle.std.proofs.lemmas.List.{length-append, length-map, length-replicate, map-append, take_all}
use Rattle.sd_graph.specs.PlainTree.{TaskletTree}
use Rattle.sd_graph.specs.declared.tasklet.Port.{Port}
use Rattle.sd_graph.specs.declared.link.Link.{Link}
use Rattle.sd_graph.specs.TaskletMeaning.{Inputs}
use Rattle.sd_tcode.specs.tcode.Compiled.{Compiled, IsCodeOf}
use Rattle.sd_tcode.specs.tcode.Held.{IsReady, given, zero_elements, zeros_for, with_extents, may_have}
use Rattle.sd_tcode.specs.declared.tcode.frame.Frame.{Frame}
use Rattle.sd_scope.specs.even.Even.{is_scalar}
use Rattle.sd_row.specs.instance.Fit.{AreFor, IsCodeFor, IsRunner}
use Rattle.sd_row.specs.declared.instance.runner.Runner.{Runner}

pub no_dims : (ports : List Port) → AllByRecursion (λ port. port.dims ≡ 0) ports → AllByRecursion (λ count. count ≡ 0) (map (λ port. port.dims) ports)
no_dims [] all = all
no_dims (port ∷ ports) all = (all.0, no_dims ports all.1)

pub many : (dims widest : List ℕ) → length widest ≤ length dims → length (zero_elements dims widest) ≡ length widest
many [] [] few = refl
many [] (most ∷ widest) few = absurd (omega (arith, few))
many (count ∷ dims) [] few = refl
many (count ∷ dims) (most ∷ widest) few = ap suc (many dims widest (omega (arith, few)))

one_zero : (test : Bool) → length (if test then pos 0 ∷ [] else replicate 1 (pos 0)) ≡ 1
one_zero true = refl
one_zero false = refl

-- one element for each input
one_each : (dims : List ℕ) (count : ℕ) → AllByRecursion (λ values. length values ≡ 1) (zero_elements dims (replicate count 1))
one_each [] count = tt
one_each (dim ∷ dims) zero = tt
one_each (dim ∷ dims) (suc count) = (one_zero (dim == 0), one_each dims count)

module _ (tree : TaskletTree) (ins outs : List Link) where
  pub made : (compiled : Compiled) (frame : Frame) (widest : List ℕ) → IsCodeOf tree compiled → AreFor tree ins outs → IsReady compiled frame →
      widest ≡ replicate compiled.layout.inputs 1 → given frame ≡ zeros_for compiled widest → IsCodeFor tree ins outs compiled frame
  made compiled frame widest code links ready as_wide is =
      let inputs : length widest ≡ length tree.ins = ap length as_wide ∙ length-replicate compiled.layout.inputs 1 ∙ ap (λ layout. layout.inputs) code.layout in
      let ports_many : length compiled.dims ≡ length tree.ins + length tree.outs = ap length code.dims ∙ length-map (tree.ins ++ tree.outs) (λ port. port.dims) ∙ length-append tree.ins tree.outs in
      let few : length widest ≤ length compiled.dims = omega (arith, inputs, ports_many) in
      let all_links : length (ins ++ outs) ≡ length ins + length outs = length-append ins outs in
      let left = links.inputs in
      let right = links.outputs in
      let same_many : length tree.ins + length tree.outs ≡ length (ins ++ outs) = omega (arith, all_links, left, right) in
      let singles : AllByRecursion (λ values. length values ≡ 1) (zero_elements compiled.dims widest) =
      subst (λ (widest : List ℕ). AllByRecursion (λ values. length values ≡ 1) (zero_elements compiled.dims widest)) (sym as_wide) (one_each compiled.dims compiled.layout.inputs) in
      record {
        inputs = left;
        code = code;
        ready = ready;
        room = record {
          singles = subst (λ (inputs : Inputs). AllByRecursion (λ values. length values ≡ 1) inputs.values) (sym is) singles;
          reads = ap (λ (inputs : Inputs). length inputs.values) is ∙ many compiled.dims widest few ∙ inputs ∙ sym left;
          variables = ap (λ (inputs : Inputs). length inputs.variables) is ∙ length-replicate compiled.layout.variables (pos 0) ∙ ap (λ layout. layout.variables) code.layout;
          few_reads = links.few_inputs;
          few_variables = links.few_variables;
        };
        connectors = ap (λ (inputs : Inputs). length inputs.extents) is ∙ length-map compiled.dims (λ count. replicate count 0) ∙ ports_many ∙ same_many;
      }

  -- where the inputs are scalars
  pub as_runner : AllByRecursion (λ link. is_scalar link.memlet.subset.dims ≡ true) ins → (compiled : Compiled) (frame : Frame) → IsCodeFor tree ins outs compiled frame → IsRunner tree ins outs compiled frame
  as_runner scalars compiled frame is = record { code = is.code; ready = is.ready; room = is.room; connectors = is.connectors; scalars = scalars }

  -- and without them
  pub as_code : (compiled : Compiled) (frame : Frame) → IsRunner tree ins outs compiled frame → length ins ≡ length tree.ins → IsCodeFor tree ins outs compiled frame
  as_code compiled frame is inputs = record { inputs = inputs; code = is.code; ready = is.ready; room = is.room; connectors = is.connectors }

  pub with_scalars : {E : Type 0} (answer : Result (Option Runner) E) → AllByRecursion (λ link. is_scalar link.memlet.subset.dims ≡ true) ins →
      IfOk answer (λ runner. MatchOption runner ⊤ (λ runner. IsCodeFor tree ins outs runner.code runner.frame)) → IfOk answer (λ runner. MatchOption runner ⊤ (λ runner. IsRunner tree ins outs runner.code runner.frame))
  with_scalars (Ok None) scalars is = tt
  with_scalars (Ok (Some runner)) scalars is = as_runner scalars runner.code runner.frame is
  with_scalars (Err error) scalars is = tt

  -- a frame that gives the same but for extents
  pub runner_again : (compiled : Compiled) (old new : Frame) → IsRunner tree ins outs compiled old → (given new).values ≡ (given old).values → (given new).variables ≡ (given old).variables →
      length (given new).extents ≡ length (given old).extents → (IsReady compiled old → IsReady compiled new) → IsRunner tree ins outs compiled new
  runner_again compiled old new runner values variables extents ready = record {
    code = runner.code;
    ready = ready runner.ready;
    room = record {
      singles = subst (AllByRecursion (λ values. length values ≡ 1)) (sym values) runner.room.singles;
      reads = ap length values ∙ runner.room.reads;
      variables = ap length variables ∙ runner.room.variables;
      few_reads = runner.room.few_reads;
      few_variables = runner.room.few_variables;
    };
    connectors = extents ∙ runner.connectors;
    scalars = runner.scalars;
  }

  -- where it is told of an answer
  pub runner_all : {E : Type 0} (compiled : Compiled) (old new : Frame) (answer : Result Bool E) → IsRunner tree ins outs compiled old → OnOk answer ((given new).values ≡ (given old).values) → OnOk answer ((given new).variables ≡ (given old).variables) →
      OnOk answer (length (given new).extents ≡ length (given old).extents) → OnOk answer ((code : Compiled) → IsReady code old → IsReady code new) → OnOk answer (IsRunner tree ins outs compiled new)
  runner_all compiled old new (Ok done) runner values variables extents ready = runner_again compiled old new runner values variables extents (ready compiled)
  runner_all compiled old new (Err error) runner values variables extents ready = tt

-- extents that were set
pub shaped : (old new : Inputs) (connector : ℕ) (extents : List ℕ) (done : Bool) → done ≡ true → new ≡ (if done then with_extents old connector extents else old) → new ≡ with_extents old connector extents
shaped old new connector extents true is same = same
shaped old new connector extents false is same = cc

-- the connector is there
pub has_connector : (old : Inputs) (connector : ℕ) (extents : List ℕ) (done : Bool) → done ≡ true → done ≡ may_have old connector extents → connector < length old.extents
has_connector old connector extents done is may =
    let all : may_have old connector extents ≡ true = sym may ∙ is in
    first_holds (nat_lt connector (length old.extents)) _ connector (length old.extents) refl all
  where
    first_holds : (first second : Bool) (a b : ℕ) → first ≡ nat_lt a b → (first && second) ≡ true → a < b
    first_holds true second a b is both = grind (arith, nat_tests)
    first_holds false second a b is both = cc

-- the extents of the inputs and then those of the outputs are set
pub both_set : (made : Link → List ℕ) (ins outs : List Link) (old middle new : List (List ℕ)) (inputs : ℕ) → inputs ≡ length ins → length old ≡ length (ins ++ outs) →
    take (0 + length ins) middle ≡ take 0 old ++ map made ins → take (inputs + length outs) new ≡ take inputs middle ++ map made outs → length middle ≡ length old → length new ≡ length middle →
    new ≡ map made (ins ++ outs)
both_set made ins outs old middle new inputs inputs_are all first second same_middle same_new =
    let many : length (ins ++ outs) ≡ length ins + length outs = length-append ins outs in
    let whole : length new ≤ inputs + length outs = omega (arith, many, inputs_are, all, same_middle, same_new) in
    let none : 0 + length ins ≡ length ins = omega arith in
    sym (take_all (inputs + length outs) new whole) ∙ second
    ∙ ap (λ front. front ++ map made outs) (ap (λ count. take count middle) (inputs_are ∙ sym none) ∙ first)
    ∙ sym (map-append made ins outs)
