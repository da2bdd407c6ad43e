-- What an instance of a tasklet comes to, and a condition.
use Rattle.std.proofs.Common.{◌≡◌, ℕ, ℤ, List, [], ◌∷◌, map, Option, Some, None, option_map, Result, Ok, Err, true, false, refl, ap, ◌∙◌, arith}
use Rattle.std.specs.List.{flat_map}
use Rattle.sd_work.specs.declared.fault.FaultKind.{FaultKind}
use Rattle.sd_work.specs.declared.fault.FaultKind.TheVariants.{Subscript}
use Rattle.sd_work.specs.Memory.{Memories, Reference, seen}
use Rattle.sd_work.specs.Leaf.{Pending, Evaluation}
use Rattle.sd_work.specs.BigStep.{Reached, spending, big_evaluated, big_reading}
use Rattle.sd_graph.specs.PlainTree.{TaskletTree}
use Rattle.sd_graph.specs.TaskletMeaning.{Effect, Meaning, and_then, meaning_of}
use Rattle.sd_graph.specs.Context.{Context, link_elements}
use Rattle.sd_graph.specs.Unfold.{meaning_at, pending_of}
use Rattle.sd_graph.specs.declared.link.Link.{Link}
use Rattle.sd_graph.specs.declared.place.Place.{Place}
use Rattle.sd_leaves.specs.leaves.Done.{IsDone, performing, evaluation_of, instance_work}
use Rattle.sd_leaves.specs.leaves.Given.{given_at}
use Rattle.sd_leaves.specs.leaves.Read.{links_seen}
use Rattle.sd_leaves.proofs.leaves_lemmas.ReadValues.{all_values, seen_by_links, cut_by_links, evaluated_behind, reading_all}

-- ---- the turn goes first

by_result : (place : Place) (result : Result (List Pending) FaultKind) (memories : Memories) (turns : ℕ) →
    big_evaluated place true result memories turns ≡ spending true turns (big_evaluated place false result memories)
by_result place (Ok effects) memories turns = refl
by_result place (Err kind) memories turns = refl

-- an instance may spend its turn before it reads
pub turn_first : (place : Place) (left : List (Option Reference)) (values : List ℤ) (evaluation : Evaluation) (memories : Memories) (turns : ℕ) →
    big_reading place true left values evaluation memories turns ≡ spending true turns (big_reading place false left values evaluation memories)
turn_first place [] values evaluation memories turns = by_result place (evaluation values) memories turns
turn_first place (None ∷ left) values evaluation memories turns = refl
turn_first place (Some next ∷ left) values evaluation memories turns = refl

module _ (context : Context) (code : TaskletTree) (ins outs : List Link) where
  -- what code means of what was read is its meaning of what it is given
  pub meant : (memories : Memories) (read : List (List ℤ)) → links_seen context ins memories ≡ Some read →
      meaning_at context code ins outs (all_values read) ≡ meaning_of code (given_at context code ins outs read)
  meant memories read is = ap (λ values. meaning_of code (given_at context code ins outs values)) (cut_by_links context ins memories read is)

  work_is : (place : Place) (memories : Memories) (turns : ℕ) (seen : Option (List (List ℤ))) → links_seen context ins memories ≡ seen →
      instance_work context code ins outs place memories turns ≡ evaluated_behind place [] (evaluation_of context code ins outs) memories turns (option_map all_values seen)
  work_is place memories turns seen is =
      reading_all place (flat_map (link_elements context) ins) [] (evaluation_of context code ins outs) memories turns
      ∙ ap (evaluated_behind place [] (evaluation_of context code ins outs) memories turns) (seen_by_links context ins memories ∙ ap (option_map all_values) is)

  -- an access is outside
  pub reading_fails : (now : Reached) → links_seen context ins now.memories ≡ None → IsDone (instance_work context code ins outs) now (Some Subscript) now
  reading_fails now outside = record {
    comes = λ place. work_is place now.memories now.turns None outside;
    depth = refl;
    turns = omega arith;
  }

  module _ (now : Reached) (read : List (List ℤ)) (is : links_seen context ins now.memories ≡ Some read) where
    evaluation_is : (answer : Meaning (List Effect)) → meaning_of code (given_at context code ins outs read) ≡ answer → (place : Place) →
        instance_work context code ins outs place now.memories now.turns
        ≡ big_evaluated place false (and_then answer (λ effects. Ok (map (pending_of context ins outs) effects))) now.memories now.turns
    evaluation_is answer same place =
        work_is place now.memories now.turns (Some read) is
        ∙ ap (λ meaning. big_evaluated place false (and_then meaning (λ effects. Ok (map (pending_of context ins outs) effects))) now.memories now.turns)
        (meant now.memories read is ∙ same)

    -- the code comes to a fault
    pub evaluation_fails : (kind : FaultKind) → meaning_of code (given_at context code ins outs read) ≡ Err kind → IsDone (instance_work context code ins outs) now (Some kind) now
    evaluation_fails kind fails = record { comes = evaluation_is (Err kind) fails; depth = refl; turns = omega arith }

    -- its effects are performed
    pub evaluation_goes : (effects : List Effect) (fault : Option FaultKind) (after : Reached) → meaning_of code (given_at context code ins outs read) ≡ Ok effects →
        IsDone (performing (map (pending_of context ins outs) effects)) now fault after → IsDone (instance_work context code ins outs) now fault after
    evaluation_goes effects fault after goes done = record {
      comes = λ place. evaluation_is (Ok effects) goes place ∙ done.comes place;
      depth = done.depth;
      turns = done.turns;
    }
