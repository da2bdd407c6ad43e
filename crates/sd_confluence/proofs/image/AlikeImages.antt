-- Memories are alike exactly where their images are equal.
use Rattle.std.proofs.Common.{◌≡◌, [], ◌∷◌, refl, sym, ◌∙◌, ap}
use Rattle.sd_work.specs.Memory.{Contents, array, stream, Memory}
use Rattle.sd_work.specs.Residual.{Term, leaf, list, owning, nested, ended, pool}
use Rattle.sd_work.specs.Step.{Machine}
use Rattle.sd_work.specs.Run.{memory_of}
use Rattle.sd_confluence.specs.Alike.{AreContentsAlike, AreAlike, LeaveAlike}
use Rattle.sd_confluence.proofs.bags.BagMemory.{Holding, cells, bag, Frame, count_in}
use Rattle.sd_confluence.proofs.bags.Works.{Work, thread, group, scope, nest, over, basin}
use Rattle.sd_confluence.proofs.image.Images.{holding_of, frame_of, work_of}
use Rattle.sd_confluence.proofs.runs.Reaching.{left_of}
use Rattle.sd_confluence.proofs.runs.Nearer.{engine}

contents_alike : (c d : Contents) → holding_of c ≡ holding_of d → AreContentsAlike c d
contents_alike (array width xs) (array other ys) e = (cc, cc)
contents_alike (array width xs) (stream other ys) e = cc
contents_alike (stream width xs) (array other ys) e = cc
contents_alike (stream width xs) (stream other ys) e = (cc, λ v. ap (λ h. count_in h v) e)

abbrev first_holding : Holding → Frame → Holding
first_holding d [] = d
first_holding d (h ∷ f) = h

abbrev other_holdings : Frame → Frame
other_holdings [] = []
other_holdings (h ∷ f) = f

pub frame-alike : (m n : Memory) → frame_of m ≡ frame_of n → AreAlike m n
frame-alike [] [] e = tt
frame-alike [] (d ∷ n) e = cc
frame-alike (c ∷ m) [] e = cc
frame-alike (c ∷ m) (d ∷ n) e = (contents_alike c d (ap (first_holding (holding_of c)) e), frame-alike m n (ap other_holdings e))

contents_image : (c d : Contents) → AreContentsAlike c d → holding_of c ≡ holding_of d
contents_image (array width xs) (array other ys) h = λ i. cells (h.0 i) (h.1 i)
contents_image (array width xs) (stream other ys) h = elim h [ ]
contents_image (stream width xs) (array other ys) h = elim h [ ]
contents_image (stream width xs) (stream other ys) h = λ i. bag (h.0 i) (λ v. h.1 v i)

pub alike-frame : (m n : Memory) → AreAlike m n → frame_of m ≡ frame_of n
alike-frame [] [] h = refl
alike-frame [] (d ∷ n) h = elim h [ ]
alike-frame (c ∷ m) [] h = elim h [ ]
alike-frame (c ∷ m) (d ∷ n) h = λ i. contents_image c d h.0 i ∷ alike-frame m n h.1 i

-- the frame of a work
abbrev frame_of_work : {P : Type 0} → Work P → Frame
frame_of_work (thread place work) = []
frame_of_work (group before parts) = []
frame_of_work (scope own part) = []
frame_of_work (nest body exits own state values part) = own
frame_of_work (over own) = own
frame_of_work (basin level container body active closed) = []

memory_image : {P : Type 0} (t : Term P) → frame_of (memory_of t) ≡ frame_of_work (work_of t)
memory_image (leaf place work) = refl
memory_image (list kind before parts) = refl
memory_image (owning own part) = refl
memory_image (nested body exits own state values part) = refl
memory_image (ended own) = refl
memory_image (pool level container body active closed) = refl

-- machines with one image leave the same
pub left-alike : {P : Type 0} (m x : Machine P) → engine m.term m.turns ≡ engine x.term x.turns → LeaveAlike (left_of m) (left_of x)
left-alike m x e =
    record {
      memory = frame-alike (memory_of m.term) (memory_of x.term) (memory_image m.term ∙ ap (λ w. frame_of_work w.work) e ∙ sym (memory_image x.term));
      turns = ap (λ w. w.turns) e;
    }
