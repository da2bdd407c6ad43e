use Rattle.std.proofs.Common.{◌≡◌, List, ◌++◌, ◌∷◌, [], Some, map, take, drop, length, true, IsTrue, ap, sym, ◌∙◌, rules}
use Rattle.std.specs.List.{AllByRecursion}
use Rattle.sd_num.specs.Wrapped.{wrapped}
use Rattle.sd_range.specs.Affine.{variable_value}
use Rattle.sd_graph.specs.Unfold.{pending_of}
use Rattle.sd_tcode.specs.tcode.Outputs.{output_effects}
use Rattle.sd_scope.specs.even.Even.{is_scalar}
use Rattle.sd_tcode.specs.declared.columns.spacing.Spaced.{Spaced}
use Rattle.sd_tcode.specs.columns.Columns.{value_on}
use Rattle.sd_row.specs.declared.row.row.Write.{Write}
use Rattle.sd_row.specs.declared.row.track.Track.{Track}
use Rattle.sd_row.specs.row.Row.{order_of, reference_on, write_on}
use Rattle.sd_row.proofs.row_lemmas.Filled.{all_first}
use Rattle.sd_row.proofs.instance_lemmas.Links.{each_on_track, no_extents_of_all}
use Rattle.sd_rows.proofs.rows_lemmas.RowBetween.{on_tracks, written_back}
use Rattle.sd_rows.proofs.rows.moving.move_row.Goals as goal

pub returns-clause-at : goal.returns-clause-at
returns-clause-at c done values context tree ins outs named one_order scalars along near far k within =
    let steps = c.args.steps.now in
    let number = c.args.number in
    let gaps = c.args.gaps in
    let row = c.args.row.now in
    let all : AllByRecursion (λ link. is_scalar link.memlet.subset.dims ≡ true) ins = all_first (λ link. is_scalar link.memlet.subset.dims ≡ true) ins outs scalars in
    let reads_done : IsTrue c.move_tracks.result = search rules in
    let variables_done : IsTrue c.move_values.result = search rules in
    let tracks = c.move_tracks.new.tracks in
    let numbers = c.move_values.new.numbers in
    let writes = c.move_writes.new.writes in
    let reads_back : take row.reads.len (tracks ++ drop (length tracks) row.reads.items) ≡ tracks = written_back tracks row.reads.items row.reads.len (c.move_tracks.auto.tracks ∙ c.deref_mut.ensures.len) (ap length (sym c.deref_mut.ensures.value) ∙ c.deref_mut.ensures.len) in
    let variables_back : take row.variables.len (numbers ++ drop (length numbers) row.variables.items) ≡ numbers = written_back numbers row.variables.items row.variables.len (c.move_values.auto.numbers ∙ c.deref_mut-2.ensures.len) (ap length (sym c.deref_mut-2.ensures.value) ∙ c.deref_mut-2.ensures.len) in
    let writes_back : take row.writes.len (writes ++ drop (length writes) row.writes.items) ≡ writes = written_back writes row.writes.items row.writes.len (c.move_writes.auto.writes ∙ c.deref_mut-3.ensures.len) (ap length (sym c.deref_mut-3.ensures.value) ∙ c.deref_mut-3.ensures.len) in
    record {
      reads = each_on_track (context k) k ins tracks all
          (c.move_tracks.ensures.tracks reads_done steps values context ins along
          (on_tracks (context 0) number ins c.args.near.now.reads.items all near.reads ∙ ap (map (λ (track : Track). Some (reference_on track number))) (sym c.deref.ensures.value))
          (on_tracks (context gaps) number ins c.args.far.now.reads.items all far.reads ∙ ap (map (λ (track : Track). Some (reference_on track number))) (sym c.deref-2.ensures.value)) k within)
          ∙ ap (map (λ (track : Track). Some (reference_on track k) ∷ [])) (sym reads_back);
      extents = no_extents_of_all (context k) (ins ++ outs) scalars;
      variables =
          ap (map (λ variable. wrapped (variable_value (context k).values variable))) named
          ∙ c.move_values.ensures.numbers variables_done values context along
          (ap (map (λ variable. wrapped (variable_value (context 0).values variable))) (sym named) ∙ near.variables ∙ ap (map (λ (numbers : Spaced). value_on numbers number)) (sym c.deref-3.ensures.value)) k
          ∙ ap (map (λ (numbers : Spaced). value_on numbers k)) (sym variables_back);
      writes = λ value.
          ap (λ (list : List Write). map (pending_of (context k) ins outs) (output_effects value (map (λ (write : Write). write.connector) list))) writes_back
          ∙ ap (λ order. map (pending_of (context k) ins outs) (output_effects value order)) (c.move_writes.ensures.connectors done ∙ ap (map (λ (write : Write). write.connector)) c.deref-4.ensures.value)
          ∙ c.move_writes.ensures.writes done steps values context ins outs (order_of c.args.near.now) value along
          (near.writes value ∙ ap (map (write_on value number)) (sym c.deref-4.ensures.value))
          (ap (λ order. map (pending_of (context gaps) ins outs) (output_effects value order)) (sym one_order) ∙ far.writes value ∙ ap (map (write_on value number)) (sym c.deref-5.ensures.value)) k within
          ∙ ap (map (write_on value k)) (sym writes_back);
    }
