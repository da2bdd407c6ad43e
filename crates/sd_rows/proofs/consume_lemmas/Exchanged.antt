-- What outward effects do, and what inputs see, over another innermost memory.
use Rattle.std.proofs.Common.{◌≡◌, ℕ, zero, suc, ◌<◌, ℤ, pos, List, [], ◌∷◌, map, length, drop, Option, Some, None, slice_index_or, refl, sym, ap, ◌∙◌, arith}
use Rattle.std.specs.List.{AllByRecursion, AllZip}
use Rattle.sd_work.specs.declared.fault.FaultKind.{FaultKind}
use Rattle.sd_work.specs.declared.fault.FaultKind.TheVariants.{Subscript}
use Rattle.sd_work.specs.Memory.{Contents, elements_of, contents_of, Memory, Memories, Reference, look}
use Rattle.sd_work.specs.Change.{appended, changed_at, with_contents, with_elements, with_values, written}
use Rattle.sd_work.specs.Leaf.{Pending, write_value, transfer, push_to}
use Rattle.sd_work.specs.Move.{fault_at}
use Rattle.sd_work.specs.Step.{Done}
use Rattle.sd_work.specs.BigStep.{Reached, reached, faulted, big_doing}
use Rattle.sd_graph.specs.declared.place.Place.{Place}
use Rattle.sd_leaves.specs.leaves.Done.{IsDone, outcome_at, performing}
use Rattle.sd_row.specs.declared.row.track.Track.{Track}
use Rattle.sd_row.specs.row.Point.{seen_on, IsOver}
use Rattle.sd_row.proofs.instance_lemmas.Outward.{IsOutward}
use Rattle.sd_rows.specs.declared.consume.source.Source.{Source}
use Rattle.sd_rows.specs.declared.consume.source.Source.TheVariants.{Own, Outside}
use Rattle.sd_rows.specs.consume.Own.{with_own, HasValue, IsSource, seen_from}

-- ---- effects

-- a change of a container further out
above : (P : Memories → Memories → Type 0) (own stale : Memory) (rest : Memories) (level container : ℕ) (change : Contents → Contents) → 0 < level →
    ((other : Memories) → P (stale ∷ other) (own ∷ other)) → P (with_contents level container change (stale ∷ rest)) (with_contents level container change (own ∷ rest))
above P own stale rest zero container change out each = absurd (omega (arith, out))
above P own stale rest (suc level) container change out each = each (changed_at level (changed_at container change) rest)

ended : (place : Place) (own stale : Memory) (rest : Memories) (turns : ℕ) (fault : Option FaultKind) (after : Reached) → reached {P = Place} (stale ∷ rest) turns ≡ Some (outcome_at place fault after) →
    reached {P = Place} (own ∷ rest) turns ≡ Some (outcome_at place fault (with_own own after))
ended place own stale rest turns None after is = ap (λ (now : Reached). Some (Done (with_own own now))) (same (record { memories = stale ∷ rest; turns = turns }) after is)
  where
    same : (now after : Reached) → reached {P = Place} now.memories now.turns ≡ Some (Done after) → now ≡ after
    same now after is = cc
ended place own stale rest turns (Some kind) after is = cc

failed : (place : Place) (own : Memory) (fault : Option FaultKind) (after : Reached) → faulted (fault_at place Subscript) ≡ Some (outcome_at place fault after) →
    faulted (fault_at place Subscript) ≡ Some (outcome_at place fault (with_own own after))
failed place own None after is = cc
failed place own (Some kind) after is = is

module _ (place : Place) (own stale : Memory) (fault : Option FaultKind) (after : Reached) where
  exchanged : (todo : List Pending) (turns : ℕ) (rest : Memories) → AllByRecursion IsOutward todo → big_doing place todo (stale ∷ rest) turns ≡ Some (outcome_at place fault after) →
      big_doing place todo (own ∷ rest) turns ≡ Some (outcome_at place fault (with_own own after))
  exchanged [] turns rest all is = ended place own stale rest turns fault after is
  exchanged (write_value value None by ∷ todo) turns rest all is = failed place own fault after is
  exchanged (write_value value (Some to) by ∷ todo) turns rest all is =
      above (λ before behind. big_doing place todo before turns ≡ Some (outcome_at place fault after) → big_doing place todo behind turns ≡ Some (outcome_at place fault (with_own own after)))
      own stale rest to.level to.container (with_elements (λ width. changed_at to.element (written width by value))) all.0 (λ other. exchanged todo turns other all.1) is
  exchanged (transfer from to by ∷ todo) turns rest all is = absurd all.0
  exchanged (push_to level container value ∷ todo) turns rest all is =
      above (λ before behind. big_doing place todo before turns ≡ Some (outcome_at place fault after) → big_doing place todo behind turns ≡ Some (outcome_at place fault (with_own own after)))
      own stale rest level container (with_values (appended value)) all.0 (λ other. exchanged todo turns other all.1) is

pub done_over : (own stale : Memory) (todo : List Pending) (before after : Reached) (fault : Option FaultKind) → AllByRecursion IsOutward todo → IsOver stale before → IsDone (performing todo) before fault after →
    IsDone (performing todo) (with_own own before) fault (with_own own after)
done_over own stale todo before after fault all over done = record {
  comes = λ place. exchanged place own stale fault after todo before.turns (drop 1 before.memories) all
      (ap (λ (memories : Memories). big_doing place todo memories before.turns) (sym over) ∙ done.comes place);
  depth = ap suc (as_many after.memories before.memories done.depth);
  turns = done.turns;
}
  where
    as_many : (a b : Memories) → length a ≡ length b → length (drop 1 a) ≡ length (drop 1 b)
    as_many [] [] same = refl
    as_many [] (first ∷ rest) same = absurd (omega (arith, same))
    as_many (first ∷ rest) [] same = absurd (omega (arith, same))
    as_many (first ∷ rest) (other ∷ more) same = omega (arith, same)

-- ---- what is seen

contents_above : (own stale : Memory) (rest : Memories) (level container : ℕ) → 0 < level → contents_of level container (stale ∷ rest) ≡ contents_of level container (own ∷ rest)
contents_above own stale rest zero container out = absurd (omega (arith, out))
contents_above own stale rest (suc level) container out = refl

module _ (element : ℕ) (own stale : Memory) (value : ℤ) (rest : Memories) (holds : HasValue own element value) where
  source_seen : (track : Track) (source : Source) → IsSource element track source → seen_from value (stale ∷ rest) source ≡ seen_on 0 (own ∷ rest) track
  source_seen track Own is =
      sym (ap (λ (to : Reference). look to (own ∷ rest)) is ∙ ap (λ elements. slice_index_or elements 0 (pos 0)) holds)
  source_seen track (Outside cell) is =
      ap (λ (contents : Contents). slice_index_or (elements_of contents) cell.element (pos 0)) (contents_above own stale rest cell.station.level cell.station.container is.0)
      ∙ ap (λ (to : Reference). look to (own ∷ rest)) is.1

  all_seen : (tracks : List Track) (sources : List Source) → AllZip (IsSource element) tracks sources →
      map (λ source. seen_from value (stale ∷ rest) source ∷ []) sources ≡ map (λ track. seen_on 0 (own ∷ rest) track ∷ []) tracks
  all_seen [] [] all = refl
  all_seen [] (source ∷ sources) all = absurd all
  all_seen (track ∷ tracks) [] all = absurd all
  all_seen (track ∷ tracks) (source ∷ sources) all = λ i. (source_seen track source all.0 i ∷ []) ∷ all_seen tracks sources all.1 i

-- inputs see the value and what is outside
pub sources_seen : (element : ℕ) (own stale : Memory) (value : ℤ) (now : Reached) (tracks : List Track) (sources : List Source) → HasValue own element value → IsOver stale now → AllZip (IsSource element) tracks sources →
    map (λ source. seen_from value now.memories source ∷ []) sources ≡ map (λ track. seen_on 0 (with_own own now).memories track ∷ []) tracks
sources_seen element own stale value now tracks sources holds over all =
    ap (λ (memories : Memories). map (λ source. seen_from value memories source ∷ []) sources) over ∙ all_seen element own stale value (drop 1 now.memories) holds tracks sources all

-- as many
pub sources_many : (element : ℕ) (tracks : List Track) (sources : List Source) → AllZip (IsSource element) tracks sources → length sources ≡ length tracks
sources_many element [] [] all = refl
sources_many element [] (source ∷ sources) all = absurd all
sources_many element (track ∷ tracks) [] all = absurd all
sources_many element (track ∷ tracks) (source ∷ sources) all = ap suc (sources_many element tracks sources all.1)
