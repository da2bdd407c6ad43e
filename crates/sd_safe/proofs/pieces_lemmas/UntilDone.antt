-- What pieces of a state keep stays until they are done.
use Rattle.std.proofs.Common.{◌≡◌, ◌≢◌, ◌++◌, ℕ, List, false, Some, slice_get, ap, sym, ◌∙◌, subst}
use Rattle.sd_work.specs.Memory.{Memories}
use Rattle.sd_work.specs.BigStep.{big_step, reached}
use Rattle.sd_work.specs.Touch.{Touch, Touches}
use Rattle.sd_pieces.specs.history.Pieces.{Piece}
use Rattle.sd_pieces.specs.history.History.{is_in_history, MayFollow, History}
use Rattle.sd_pieces.specs.cut.Merged.{Marking, IsPrepared}
use Rattle.sd_pieces.proofs.history_lemmas.Since.{IsKeptBeside, kept-since}
use Rattle.sd_graph.specs.declared.place.Place.{Place}
use Rattle.sd_graph.specs.PlainTree.{GraphTree}
use Rattle.sd_graph.specs.Wiring.{before}
use Rattle.sd_graph.specs.Context.{Context}
use Rattle.sd_graph.specs.Unfold.{unfold_kind}
use Rattle.sd_prop.specs.propagation.Accesses.{kind_accesses}
use Rattle.sd_safe.specs.pieces.ItemPieces.{ItemPiece, item_pieces, piece_work, state_items, work_in_pieces, IsStateInPieces}
use Rattle.sd_safe.specs.pieces.Keeping.{LeavesAlone, HaveKept, AsksNoMore}
use Rattle.sd_safe.proofs.fit_lemmas.Fitting.{graph-fit}
use Rattle.sd_safe.proofs.pieces_lemmas.PieceFit.{pieces-fit, take-box}
use Rattle.sd_safe.proofs.pieces_lemmas.PiecePlaces.{get-map, parts-work}
use Rattle.sd_safe.proofs.pieces_lemmas.Separate.{IsApart, kept-unwritten, drained-unpushed, drained-untaken}
use Rattle.sd_safe.proofs.pieces_lemmas.OfItems.{AreAccepted, state-accepted, apart-from}
use Rattle.sd_safe.proofs.pieces_lemmas.Kept.{work-keeps, kept-same, kept-further, kept-prepared}

-- the items of a state are accepted
items-accepted : (tree : GraphTree) (state : ℕ) (counts : ℕ → List ℕ) (context : Context) → IsStateInPieces tree state counts context → AreAccepted context.containers (state_items tree state)
items-accepted tree state counts context s = subst (λ containers. AreAccepted containers (state_items tree state)) (sym s.same) (state-accepted tree state (graph-fit tree s.valid s.normal) s.accepted)

pub leaves-alone : (tree : GraphTree) (state : ℕ) (counts : ℕ → List ℕ) (context : Context) (number other : ℕ) (piece second : ItemPiece) (nodes : List ℕ) → IsStateInPieces tree state counts context → number ≢ other →
    slice_get (item_pieces context.values counts 0 (state_items tree state)) number ≡ Some piece → slice_get (item_pieces context.values counts 0 (state_items tree state)) other ≡ Some second →
    before context.containers (state_items tree state) piece.item second.item ≡ false → before context.containers (state_items tree state) second.item piece.item ≡ false →
    LeavesAlone context.containers context.values (kind_accesses piece.kind context.containers nodes) (Touches (unfold_kind second.kind second.line context))
leaves-alone tree state counts context number other piece second nodes s different is is' free free' =
    let accepted = items-accepted tree state counts context s in
    let accesses = kind_accesses piece.kind context.containers nodes in
    let away : (touch : Touch) → Touches (unfold_kind second.kind second.line context) touch → IsApart context.values context.reach accesses touch =
    λ touch touched. apart-from context counts (state_items tree state) number other piece second nodes touch accepted s.all s.some different is is' free free' touched in
    let fit = pieces-fit context.values counts 0 (state_items tree state) number piece accepted.fit is in
    record {
      elements = λ c e by kept touched. kept-unwritten context.containers context.values context.reach accesses c e by s.here kept (away _ touched);
      pushed = λ c drained touched.
          drained-unpushed context.containers context.values context.reach accesses drained.0 c s.here drained.1 drained.2 drained.3 (take-box piece.kind context.containers nodes drained.0 fit drained.1 drained.3) (away _ touched);
      taken = λ c drained touched. drained-untaken context.containers context.values context.reach accesses drained.0 c s.here drained.1 drained.2 drained.3 (away _ touched);
    }

pub piece-stays : (tree : GraphTree) (state : ℕ) (counts : ℕ → List ℕ) (context : Context) (number other : ℕ) (piece second : ItemPiece) (nodes : List ℕ) (most turns left : ℕ) (memories after : Memories) →
    IsStateInPieces tree state counts context → number ≢ other →
    slice_get (item_pieces context.values counts 0 (state_items tree state)) number ≡ Some piece → slice_get (item_pieces context.values counts 0 (state_items tree state)) other ≡ Some second →
    before context.containers (state_items tree state) piece.item second.item ≡ false → before context.containers (state_items tree state) second.item piece.item ≡ false →
    big_step (unfold_kind second.kind second.line context) most memories turns ≡ reached after left → HaveKept context.containers context.values (kind_accesses piece.kind context.containers nodes) memories after
piece-stays tree state counts context number other piece second nodes most turns left memories after s different is is' free free' big =
    work-keeps context.containers context.values (kind_accesses piece.kind context.containers nodes) (unfold_kind second.kind second.line context) most turns memories after left
    (leaves-alone tree state counts context number other piece second nodes s different is is' free free') big

-- what is kept is kept beside other pieces
kept-beside : (tree : GraphTree) (state : ℕ) (counts : ℕ → List ℕ) (context : Context) (number : ℕ) (piece : ItemPiece) (nodes : List ℕ) → IsStateInPieces tree state counts context →
    slice_get (item_pieces context.values counts 0 (state_items tree state)) number ≡ Some piece →
    IsKeptBeside (work_in_pieces counts (state_items tree state) context) number (piece_work context piece) (HaveKept context.containers context.values (kind_accesses piece.kind context.containers nodes))
kept-beside tree state counts context number piece nodes s is = record {
  same = kept-same context.containers context.values (kind_accesses piece.kind context.containers nodes);
  further = kept-further context.containers context.values (kind_accesses piece.kind context.containers nodes);
  beside = λ other next most spent memories after is' different free free' big.
      let r = get-map (piece_work context) (item_pieces context.values counts 0 (state_items tree state)) other next (sym (ap (λ all. slice_get all other) (parts-work context counts 0 (state_items tree state))) ∙ is') in
      let second = r.0 in
      piece-stays tree state counts context number other piece second nodes most spent 0 memories after s different is r.1
      (subst (λ (p : Piece Place). before context.containers (state_items tree state) piece.item p.item ≡ false) (sym r.2) free)
      (subst (λ (p : Piece Place). before context.containers (state_items tree state) p.item piece.item ≡ false) (sym r.2) free')
      (subst (λ (p : Piece Place). big_step p.term most memories spent ≡ reached after 0) (sym r.2) big);
}

pub stays-until-done : (tree : GraphTree) (state : ℕ) (counts : ℕ → List ℕ) (context : Context) (number : ℕ) (piece : ItemPiece) (nodes : List ℕ) (most more : ℕ) (opening memories after : Memories) (history later : List ℕ) (turns left : ℕ) →
    IsStateInPieces tree state counts context → slice_get (item_pieces context.values counts 0 (state_items tree state)) number ≡ Some piece →
    History (work_in_pieces counts (state_items tree state) context) most opening history memories turns → MayFollow (work_in_pieces counts (state_items tree state) context) history number (piece_work context piece) →
    History (work_in_pieces counts (state_items tree state) context) more opening (history ++ later) after left → is_in_history number (history ++ later) ≡ false →
    HaveKept context.containers context.values (kind_accesses piece.kind context.containers nodes) memories after
stays-until-done tree state counts context number piece nodes most more opening memories after history later turns left s is h follows g new =
    kept-since (work_in_pieces counts (state_items tree state) context) most more opening history later memories after turns left number (piece_work context piece)
    (HaveKept context.containers context.values (kind_accesses piece.kind context.containers nodes)) (kept-beside tree state counts context number piece nodes s is) h follows g new

pub prepared-until-done : (tree : GraphTree) (state : ℕ) (counts : ℕ → List ℕ) (context : Context) (number : ℕ) (piece : ItemPiece) (nodes : List ℕ) (most more : ℕ) (opening memories after : Memories) (history later : List ℕ) (turns left : ℕ)
    (marking : Marking) (cut : Memories) →
    IsStateInPieces tree state counts context → slice_get (item_pieces context.values counts 0 (state_items tree state)) number ≡ Some piece →
    History (work_in_pieces counts (state_items tree state) context) most opening history memories turns → MayFollow (work_in_pieces counts (state_items tree state) context) history number (piece_work context piece) →
    History (work_in_pieces counts (state_items tree state) context) more opening (history ++ later) after left → is_in_history number (history ++ later) ≡ false →
    AsksNoMore context.containers context.values (kind_accesses piece.kind context.containers nodes) marking → IsPrepared marking cut memories → IsPrepared marking cut after
prepared-until-done tree state counts context number piece nodes most more opening memories after history later turns left marking cut s is h follows g new asks p =
    kept-prepared context.containers context.values (kind_accesses piece.kind context.containers nodes) marking cut memories after asks
    (stays-until-done tree state counts context number piece nodes most more opening memories after history later turns left s is h follows g new) p
